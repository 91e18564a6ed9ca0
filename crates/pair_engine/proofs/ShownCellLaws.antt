-- What is shown of a return cell (cell_shown) and of a decision step (IsShownAs): where two cells tell the same, the
-- same is shown of them.
use Rattle.std.proofs.Common.{◌≡◌, ℕ, ◌+◌, ◌/◌, ◌%◌, ◌==◌, if◌then◌else◌, List, Option, Some, None, option_map}
use Rattle.std.proofs.Common.{IfSome, refl, sym, ◌∙◌, ap, ap₂, inl, inr, eqb-true}
use Rattle.std.proofs.lemmas.Bool.{cases_Bool}
use Rattle.member_cells.specs.declared.containers_and_cells.BackCell.TheVariants.{Packet as Nibbles, Lost}
use Rattle.law_model.specs.Common.{BackCell, IsPacket, Leg, bit_nibble, is_lost, mst_by, scenario_by, told_by, told_in}
use Rattle.law_model.specs.declared.control_packet.Packet.{Packet}
use Rattle.law_model.specs.source.Table.{Told}
use Rattle.law_walk.specs.Common.{all_lines, back_cell, cell_taken, last_packet, said_packet}
use Rattle.law_row.proofs.LastWordAndReturnPacketLaws.{is_packet, told_in-nibbles}
use Rattle.law_walk.proofs.WalkRingAndWaitingTakeLaws.{last-next}
use Rattle.terminal_source.proofs.SourceTerminalScenarioLaws.{mst-passed}
use Rattle.walk_engine.specs.Common.{note_of}
use Rattle.walk_engine.specs.declared.walk_core.step_answers.StepNote.{StepNote}
use Rattle.pair_engine.specs.LivePairs.{IsShownAs, NoteShown, note_shown}
use Rattle.pair_engine.specs.ToldAndHeard.{CellShown, IsSaid, cell_shown, cell_with}

-- ---- a cell

found-shown : (found other : Option Packet) → IfSome found IsPacket → IfSome other IsPacket →
    told_in (cell_with found) ≡ told_in (cell_with other) → cell_shown (cell_with found) ≡ cell_shown (cell_with other)
found-shown None None is other_is same = refl
found-shown (Some packet) None is other_is same =
    absurd (let e : Some (told_by packet) ≡ None = sym (told_in-nibbles packet is) ∙ same in cc)
found-shown None (Some packet) is other_is same =
    absurd (let e : None ≡ Some (told_by packet) = same ∙ told_in-nibbles packet other_is in cc)
found-shown (Some packet) (Some other) is other_is same =
    let whole : Some (told_by packet) ≡ Some (told_by other) =
    sym (told_in-nibbles packet is) ∙ same ∙ told_in-nibbles other other_is in
    let told : told_by packet ≡ told_by other = cc in
    let mst : packet.mst ≡ other.mst =
    sym (mst-passed packet.mst is.mst) ∙ ap (λ (t : Told). mst_by t.oks) told ∙ mst-passed other.mst other_is.mst in
    let ack : bit_nibble packet.rs_ack ≡ bit_nibble other.rs_ack = ap (λ (t : Told). t.rs_ack) told in
    ap₂ (λ m a. Some (record { high = m / 16; low = m % 16; ack = a % 2 })) mst ack

pub shown-same : (cell other : BackCell) → IsSaid cell → IsSaid other → told_in cell ≡ told_in other →
    cell_shown cell ≡ cell_shown other
shown-same cell other said other_said same =
    let (found, is, cell_is) = said in
    let (other_found, other_is, other_cell_is) = other_said in
    ap cell_shown cell_is
    ∙ found-shown found other_found is other_is (sym (ap told_in cell_is) ∙ same ∙ ap told_in other_cell_is)
    ∙ sym (ap cell_shown other_cell_is)

-- the session's own
pub back-said : (leg : Leg) (k : ℕ) → IsSaid (back_cell leg k)
back-said leg k =
    elim (cases_Bool (is_lost (scenario_by leg) k)) [
      | inl lost ↦ (None, tt, rw lost refl)
      | inr come ↦ (
        Some (said_packet leg k),
        is_packet leg.config.options (all_lines leg) k,
        rw come refl,
      )
    ]

-- what is made of a cell is made of what is shown of it, where that is so of none, a lost one and one with nibbles
pub by-shown : {X : Type 0} (made : Option BackCell → X) (shown : Option (Option CellShown) → X) →
    made None ≡ shown None → made (Some Lost) ≡ shown (Some None) →
    ((nibbles : List ℕ) → made (Some (Nibbles nibbles)) ≡ shown (Some (cell_shown (Nibbles nibbles)))) →
    (cell : Option BackCell) → made cell ≡ shown (option_map cell_shown cell)
by-shown made shown none lost come None = none
by-shown made shown none lost come (Some Lost) = lost
by-shown made shown none lost come (Some (Nibbles nibbles)) = come nibbles

-- ---- a decision step
abbrev as-noted : ℕ → Option (Option CellShown) → NoteShown
as-noted packet back = record { packet = packet; back = back }

pub note-shown : (leg : Leg) (ticks : ℕ) (cell : Option BackCell) (last note : Option StepNote) →
    IsShownAs last (note_of leg (last_packet ticks)) →
    (ticks % 16 ≡ 8 → option_map cell_shown cell ≡ option_map cell_shown (cell_taken leg (ticks / 16))) →
    note ≡ (if ticks % 16 == 8 then Some (record { packet = ticks / 16; back = cell }) else last) →
    IsShownAs note (note_of leg (last_packet (ticks + 1)))
note-shown leg ticks cell last note before noted is =
    elim (cases_Bool (ticks % 16 == 8)) [
      | inl place ↦
          let now : note ≡ Some (record { packet = ticks / 16; back = cell }) = rw place at is in
          let next : last_packet (ticks + 1) ≡ Some (ticks / 16) = last-next ticks ∙ rw place refl in
          ap (option_map note_shown) now
          ∙ ap (λ (c : Option (Option CellShown)). Some (as-noted (ticks / 16) c))
          (noted (eqb-true (ticks % 16) 8 place))
          ∙ sym (ap (λ n. option_map note_shown (note_of leg n)) next)
      | inr other ↦
          let now : note ≡ last = rw other at is in
          let next : last_packet (ticks + 1) ≡ last_packet ticks = last-next ticks ∙ rw other refl in
          ap (option_map note_shown) now ∙ before ∙ sym (ap (λ n. option_map note_shown (note_of leg n)) next)
    ]
