-- A Take takes a row or waits, and a Back brings a return packet: of one direction, and of a walk.
use Rattle.std.proofs.Common.{◌≡◌, ℕ, ◌+◌, ◌<◌, nat_le, true, false, Bool, List, [], ◌∷◌, ◌++◌, length, drop}
use Rattle.std.proofs.Common.{slice_get, Option, Some, option_map, None, refl, sym, ◌∙◌, ap, ap₂, subst, arith, inl}
use Rattle.std.proofs.Common.{inr, if◌then◌else◌, zero, suc, ◌-◌, ◌%◌, ◌==◌, ◌&&◌, ◌≤◌, min, nat_lt, take, map, ◌⊎◌}
use Rattle.std.specs.List.{range_with_len}
use Rattle.std.proofs.lemmas.List.{length-map, length-append, append-nil, take-append-drop, take-take}
use Rattle.std.proofs.lemmas.List.FromFn.{length-range_with_len, length-map-range_with_len}
use Rattle.std.proofs.lemmas.Bool.{cases_lt, cases_Bool, le-leb, lt-leb, leb-false}
use Rattle.law_model.specs.Common.{BackCell, packet_nibbles, Leg, scenario_by, is_lost, Counts, Step, step, in_return}
use Rattle.law_model.specs.Common.{used_in, in_inbox, IsSound, Cell, first_open, return_at, LinePath, LineCounts, Plan}
use Rattle.law_model.specs.Common.{moved, stalled, pop, popped_line, pop_lines, is_back_full, take_popped, take_row}
use Rattle.law_model.specs.Common.{Start}
use Rattle.law_model.specs.declared.walk_events.Event.TheVariants.{Back, Take}
use Rattle.law_model.specs.declared.walk_events.StallCause.TheVariants.{BackEmpty, Done, BackFull}
use Rattle.law_model.specs.declared.walk_events.StallCause.TheVariants.{Waiting as Stall_waiting}
use Rattle.law_model.specs.declared.control_packet.Packet.{Packet}
use Rattle.member_cells.specs.declared.containers_and_cells.BackCell.TheVariants.{Packet as Nibbles, Lost}
use Rattle.law_model.specs.session.Scenario.{packets_in}
use Rattle.law_progress.proofs.RoundProgressAndDrainLaws.{inbox-fits}
use Rattle.law_walk.specs.Common.{walk_plan, IsWalked, said_packet, back_cell, return_ring, inbox, CanWalk, counts_at}
use Rattle.law_walk.specs.Common.{popped_on, popped_cells, path_on, line_cells, delivered_of, IsReceived}
use Rattle.law_walk.proofs.WalkPlanAndPoppedCellLaws.{has-plan, sound-walks, line-fits}
use Rattle.walk_engine.specs.Common.{Return, path_of, packet_cell, come, and_moved, moved_by, answer_by, moved_of}
use Rattle.walk_engine.specs.Common.{counts_after, Parts, counts_of, HasBack, LiveStands, walking_of, listed, Ringed}
use Rattle.walk_engine.specs.Common.{GivesRows, AgreesAt, HasSent, line_counts, said_at, take_by, Takes, windows_in}
use Rattle.walk_engine.specs.Common.{Walking, walking_counts, take_cause, CanPop, HasPopped, CanTake, HasRow}
use Rattle.walk_engine.specs.declared.walk_core.step_answers.StepNote.{StepNote}
use Rattle.walk_engine.specs.declared.walk_core.step_answers.Moved.TheVariants.{Yes, Stalled}
use Rattle.terminal_group.specs.ReturnInbox.{Inbox, with_come, is_lost_in}
use Rattle.walk_engine.proofs.WayEventAndToldSourceLaws.{walk-fits, walked-next, stands-back, source-stays}
use Rattle.walk_engine.proofs.WayEventAndToldSourceLaws.{counted-stays}
use Rattle.std.specs.Prelude.{IsTrue, ◌↔◌}
use Rattle.std.proofs.lemmas.Option.{slice_get_within, same_Some}
use Rattle.law_model.specs.declared.script_types.Options.{Options}
use Rattle.law_model.specs.declared.walk_events.StallCause.{StallCause}
use Rattle.law_progress.specs.Progress.{LineFits, Fits}
use Rattle.law_terminal.proofs.ContainerPayloadLaws.{range-at}
use Rattle.law_line.specs.StableRows.{IsLonger}
use Rattle.member_rows.specs.realign_rows.Gather.{Gather, line_count}
use Rattle.terminal_sink.specs.sink_core.TakenAndGiven.{row_in, added_frames, back_at, rows_taken}
use Rattle.terminal_sink.specs.declared.sink_core.sink_terminal.TakeAnswer.{TakeAnswer}
use Rattle.terminal_sink.specs.declared.sink_core.sink_terminal.TakeAnswer.TheVariants.{Taken, Waiting}
use Rattle.terminal_sink.specs.sink_core.Core.{Core, SinkStands as HasTaken}
use Rattle.terminal_sink.proofs.ReceivedRowAndGivenFrameLaws.{packet-ends, packet-of, stands-longer}
use Rattle.law_walk.proofs.WalkRingAndWaitingTakeLaws.{take-waits, packet-said, packets-next, ring-says}
use Rattle.law_walk.proofs.DeliveredFrameCountLaws.{frames-received, frames-grow}
use Rattle.law_walk.specs.DeliveredFrames.{delivered_since}
use Rattle.walk_engine.specs.walk_core.WayParts.{WayStands}
use Rattle.walk_engine.proofs.LineCarryAndSendRingLaws.{sent-later, counts-here, numbers, map-get}
use Rattle.law_walk.proofs.WalkRingAndWaitingTakeLaws as return_laws

-- ---- A return packet comes to the source.
pub ring-size : (leg : Leg) (s : Counts) → length (return_ring leg s) ≡ in_return s
ring-size leg s = length-map (range_with_len s.backs (in_return s)) (said_packet leg)
    ∙ length-range_with_len s.backs (in_return s)

pub back-empty : (leg : Leg) (s : Counts) (back : Return) → HasBack leg s back → back.ring ≡ [] →
    step (walk_plan leg) s Back ≡ record { counts = s; cause = Some BackEmpty }
back-empty leg s back has none =
    let size : length (return_ring leg s) ≡ 0 = ap length (sym has.ring ∙ none) in
    let count = ring-size leg s in
    let empty : nat_le (in_return s) 0 ≡ true = grind (arith, size, count) in
    rw empty refl

some-returned : (leg : Leg) (s : Counts) (back : Return) → HasBack leg s back → (back.ring ≡ [] → ⊥) →
    s.backs < packets_in s.rows
some-returned leg s back has some =
    elim (cases_lt s.backs (packets_in s.rows)) [
      | inl more ↦ more
      | inr none ↦ absurd (some
          (has.ring ∙ length-none (return_ring leg s) (let count = ring-size leg s in
          omega (arith, count, none))))
    ]
  where
    length-none : {X : Type 0} (xs : List X) → length xs ≡ 0 → xs ≡ []
    length-none [] e = refl
    length-none (x ∷ xs) e = absurd (omega (arith, e))

pub back-moves : (leg : Leg) (s : Counts) (back : Return) → HasBack leg s back → (back.ring ≡ [] → ⊥) →
    step (walk_plan leg) s Back ≡ record { counts = record s { backs = s.backs + 1 }; cause = None }
back-moves leg s back has some =
    let more = some-returned leg s back has some in
    let full : nat_le (in_return s) 0 ≡ false = grind (arith, more) in
    rw full refl

come-is : (leg : Leg) (k : ℕ) → come (is_lost_in leg.config.lost k) (said_packet leg k) ≡ back_cell leg k
come-is leg k = by-lost (is_lost (scenario_by leg) k)
  where
    by-lost : (lost : Bool) →
        come lost (said_packet leg k) ≡ (if lost then Lost else Nibbles (packet_nibbles (said_packet leg k)))
    by-lost true = refl
    by-lost false = refl

back-has : (leg : Leg) (s : Counts) (back : Return) → IsSound leg → IsWalked leg s →
    HasBack leg s back → (back.ring ≡ [] → ⊥) → back.backs ≡ s.backs →
    HasBack leg (record s { backs = s.backs + 1 }) (and_moved back)
back-has leg s back sound walked has some same =
    let more = some-returned leg s back has some in
    let fits = walk-fits leg s sound walked in
    subst (λ ring. HasBack leg (record s { backs = s.backs + 1 }) (moved_by back ring))
    (sym (has.ring ∙ return_laws.ring-goes leg s more)) (record {
      ring = refl;
      lost = has.lost;
      inbox = ap₂ (λ l k. back.inbox ++ come (is_lost_in l k) (said_packet leg s.backs) ∷ []) has.lost same
          ∙ ap (λ cell. back.inbox ++ cell ∷ []) (come-is leg s.backs)
          ∙ ap (λ cells. cells ++ back_cell leg s.backs ∷ []) has.inbox ∙ sym (return_laws.inbox-comes leg s fits.used);
      room = has.room;
    })

-- ---- of a walk
pub back-stays : (leg : Leg) (s : Counts) (back : Return) → HasBack leg s back → back.ring ≡ [] →
    (s ≡ counts_after leg s Back) × (Stalled BackEmpty ≡ moved_of leg s Back)
back-stays leg s back has none =
    let e = back-empty leg s back has none in
    (sym (ap (λ (x : Step). x.counts) e), ap (λ (x : Step). answer_by x.cause None) (sym e))

pub back-moved : (leg : Leg) (s : Counts) (back : Return) → HasBack leg s back → (back.ring ≡ [] → ⊥) →
    (record s { backs = s.backs + 1 } ≡ counts_after leg s Back) × (Yes ≡ moved_of leg s Back)
back-moved leg s back has some =
    let e = back-moves leg s back has some in
    (sym (ap (λ (x : Step). x.counts) e), ap (λ (x : Step). answer_by x.cause None) (sym e))

-- the packet that is popped, once it was put into the inbox
pub popped-back : (ring rest : List Packet) (inbox : Inbox) (cell : BackCell) →
    Some cell ≡ option_map packet_cell (slice_get ring 0) → rest ≡ drop 1 ring →
    path_of rest (with_come inbox cell) ≡ and_moved (path_of ring inbox)
popped-back [] rest inbox cell there left = absurd cc
popped-back (packet ∷ ring) rest inbox cell there left =
    let is : cell ≡ packet_cell packet = cc in
    ap (λ c. path_of rest (with_come inbox c)) is
    ∙ ap (λ r. path_of r (with_come inbox (packet_cell packet))) left

pub some-packet : (ring : List Packet) (cell : BackCell) →
    Some cell ≡ option_map packet_cell (slice_get ring 0) → ring ≡ [] → ⊥
some-packet [] cell there none = absurd cc
some-packet (packet ∷ ring) cell there none = absurd cc

pub no-packet : (ring : List Packet) → None ≡ option_map packet_cell (slice_get ring 0) → ring ≡ []
no-packet [] there = refl
no-packet (packet ∷ ring) there = absurd cc

module _ (leg : Leg) (parts : Parts) (ring : List Packet) (last : Option StepNote)
    (is : LiveStands leg (walking_of parts ring last)) where
  pub inbox-room : length parts.source.inbox.cells < parts.source.inbox.room
  inbox-room =
      let s : Counts = counts_of parts parts.source.inbox.come in
      let most = inbox-fits (walk_plan leg) s (has-plan leg (sound-walks leg is.stands.sound)) is.stands.walked in
      let size : length (inbox leg s) ≡ in_inbox (walk_plan leg) s =
      length-map (range_with_len (used_in leg.config.lag s.ticks) (in_inbox (walk_plan leg) s))
      (back_cell leg) ∙ length-range_with_len (used_in leg.config.lag s.ticks) (in_inbox (walk_plan leg) s) in
      let same = ap length is.back.inbox in
      let room = is.back.room in
      omega (arith, most, size, same, room)

  pub backs-few : parts.source.inbox.come < 4294967295
  backs-few =
      let fits = walk-fits leg (counts_of parts parts.source.inbox.come) is.stands.sound is.stands.walked in
      let backs = fits.backs in
      let rows = fits.rows in
      let ticks = is.stands.sound.network.ticks.1 in
      omega (arith, backs, rows, ticks)

  -- a return packet has come
  module _ (rest : List Packet) (cell : BackCell)
      (there : Some cell ≡ option_map packet_cell (slice_get ring 0)) (left : rest ≡ drop 1 ring) where
    back-is : HasBack leg (record (counts_of parts parts.source.inbox.come) { backs = parts.source.inbox.come + 1 })
        (path_of rest (with_come parts.source.inbox cell))
    back-is = subst (HasBack leg (record (counts_of parts parts.source.inbox.come) { backs = parts.source.inbox.come + 1 }))
        (sym (popped-back ring rest parts.source.inbox cell there left))
        (back-has leg (counts_of parts parts.source.inbox.come) (path_of ring parts.source.inbox) is.stands.sound
        is.stands.walked is.back (some-packet ring cell there) refl)

    back_comes : (record (counts_of parts parts.source.inbox.come) { backs = parts.source.inbox.come + 1 }
        ≡ counts_after leg (counts_of parts parts.source.inbox.come) Back)
        × (Yes ≡ moved_of leg (counts_of parts parts.source.inbox.come) Back)
    back_comes = back-moved leg (counts_of parts parts.source.inbox.come) (path_of ring parts.source.inbox) is.back
        (some-packet ring cell there)

    pub back-counts : counts_of parts (parts.source.inbox.come + 1)
        ≡ counts_after leg (counts_of parts parts.source.inbox.come) Back
    back-counts = back_comes.0

    pub back-yes : Yes ≡ moved_of leg (counts_of parts parts.source.inbox.come) Back
    back-yes = back_comes.1

    pub back-kept : LiveStands leg (walking_of (record parts
        { source = record parts.source { inbox = with_come parts.source.inbox cell } }) rest last)
    back-kept = record {
      stands = stands-back leg parts.source.inbox.come (parts.source.inbox.come + 1) parts
          (with_come parts.source.inbox cell) is.stands
          (walked-next leg (counts_of parts parts.source.inbox.come) _ Back is.stands.walked back-counts);
      back = back-is;
      noted = is.noted;
      quiet = is.quiet;
    }

-- ---- A row is taken, or cells are popped and it waits: of one direction, and of a walk.
-- ---- what is popped is more, and what is carried the same
pop-more : (k : ℕ) (path : LinePath) (t y : ℕ) → y ≤ pop k path t y
unfolding pop
pop-more zero path t y = omega arith
pop-more (suc k) path t y =
    elim (cases_Bool (nat_le (path.decided y) t)) [
      | inl e ↦ rw e (let h = pop-more k path t (suc y) in omega (arith, h))
      | inr e ↦ rw e (omega arith)
    ]

pops-more : (t k : ℕ) (paths : List LinePath) (lines : List LineCounts) (m : ℕ) →
    ((counts_at lines m).popped ≤ (counts_at (pop_lines t k paths lines).lines m).popped)
    × ((counts_at lines m).carried ≤ (counts_at (pop_lines t k paths lines).lines m).carried)
unfolding pop_lines
pops-more t k [] lines m = (omega arith, omega arith)
pops-more t k (path ∷ paths) [] m = (omega arith, omega arith)
pops-more t k (path ∷ paths) (line ∷ lines) zero =
    let more = pop-more (path.given line.carried - line.popped) path t line.popped in
    elim (cases_Bool (nat_le (path.decided (popped_line path t line).popped) t)) [
      | inl e ↦ rw e (omega (arith, more), omega arith)
      | inr e ↦ rw e (omega (arith, more), omega arith)
    ]
pops-more t k (path ∷ paths) (line ∷ lines) (suc m) =
    elim (cases_Bool (nat_le (path.decided (popped_line path t line).popped) t)) [
      | inl e ↦ rw e (omega arith, omega arith)
      | inr e ↦ rw e (pops-more t (suc k) paths lines m)
    ]

cells-longer : (leg : Leg) (before after : List LineCounts) →
    ((m : ℕ) → (counts_at before m).popped ≤ (counts_at after m).popped) →
    IsLonger (popped_cells leg before) (popped_cells leg after)
cells-longer leg before after more = record {
  size = length-map-range_with_len (popped_on leg after) 0 (length leg.config.windows)
      ∙ sym (length-map-range_with_len (popped_on leg before) 0 (length leg.config.windows));
  each = λ m own here.
      let n : ℕ = length leg.config.windows in
      let y : ℕ = (counts_at before m).popped in
      let z : ℕ = (counts_at after m).popped in
      let all : List Cell = line_cells leg m in
      let size = length-map-range_with_len (popped_on leg before) 0 (length leg.config.windows) in
      let within = slice_get_within (popped_cells leg before) m own here in
      let at = range-at 0 n m (omega (arith, size, within)) ∙ ap Some (let e : 0 + m ≡ m = omega arith in e) in
      let is : take y all ≡ own = same_Some (popped_on leg before m) own
      (sym (map-get (popped_on leg before) (range_with_len 0 n) m m at) ∙ here) in (
        drop y (take z all),
        map-get (popped_on leg after) (range_with_len 0 n) m m at
            ∙ ap Some (sym (take-append-drop y (take z all))
            ∙ ap (λ l. l ++ drop y (take z all)) (take-take y z all (more m) ∙ is)),
      );
}

-- ---- the cause of a stall
cause-stalls : (plan : Plan) (s : Counts) (cause : StallCause) → Some cause ≡ take_cause plan.ticks s →
    take_row plan s ≡ stalled s cause
cause-stalls plan s cause e =
    elim (cases_Bool (nat_le plan.ticks s.rows)) [
      | inl done ↦ rw done (ap (stalled s)
          (let f : Some cause ≡ Some Done = rw done at e in sym (same_Some cause Done f)))
      | inr left ↦ elim (cases_Bool (is_back_full s)) [
        | inl full ↦ rw (left, full) (ap (stalled s)
            (let f : Some cause ≡ Some BackFull = rw (left, full) at e in sym (same_Some cause BackFull f)))
        | inr room ↦ absurd (let f : Some cause ≡ None = rw (left, room) at e in cc)
      ]
    ]

record Goes (plan : Plan) (s : Counts) : Type 0 where
  left : s.rows < plan.ticks
  room : is_back_full s ≡ false
  moves : take_row plan s ≡ take_popped s (pop_lines s.rows 0 plan.paths s.lines).lines
      (pop_lines s.rows 0 plan.paths s.lines).waiting

goes : (plan : Plan) (s : Counts) → None ≡ take_cause plan.ticks s → Goes plan s
goes plan s e =
    elim (cases_Bool (nat_le plan.ticks s.rows)) [
      | inl done ↦ absurd (let f : None ≡ Some Done = rw done at e in cc)
      | inr left ↦ elim (cases_Bool (is_back_full s)) [
        | inl full ↦ absurd (let f : None ≡ Some BackFull = rw (left, full) at e in cc)
        | inr room ↦ record { left = leb-false plan.ticks s.rows left; room = room; moves = rw (left, room) refl }
      ]
    ]

full-by : (full : Bool) (size count : ℕ) → (IsTrue full ↔ (size ≡ 4)) → size ≡ count → count ≤ 4 → full ≡ nat_le 4 count
full-by true size count same is most = let all = same.0 refl in sym (le-leb 4 count (omega (arith, all, is)))
full-by false size count same is most =
    elim (cases_lt count 4) [
      | inl some ↦ sym (lt-leb 4 count some)
      | inr all ↦ absurd (let e : false ≡ true = same.1 (omega (arith, all, is, most)) in cc)
    ]

-- ---- the return packet of a row
-- a row that ends a packet has room for it
end-room : (s : Counts) → is_back_full s ≡ false → nat_lt 22 s.rows && s.rows % 16 == 7 ≡ true → in_return s < 4
end-room s room ends =
    elim (cases_Bool (nat_le 4 (in_return s))) [
      | inl full ↦ absurd (let f : true ≡ false = rw (ends, full) at room in cc)
      | inr some ↦ leb-false 4 (in_return s) some
    ]

-- what the sink says with the row
said : (leg : Leg) (s : Counts) (lines : List LineCounts) (packet : Option Packet) → CanWalk leg →
    IsWalked leg (record s { lines = lines; rows = s.rows + 1 }) →
    packet ≡ back_at leg.config.options (popped_cells leg lines) s.rows → packet ≡ said_at leg s.rows
said leg s lines packet can walked is =
    let next : Counts = record s { lines = lines; rows = s.rows + 1 } in
    elim (cases_Bool (nat_lt 22 s.rows && s.rows % 16 == 7)) [
      | inl ends ↦
          let place = packet-ends s.rows ends in
          let k = packet-of s.rows place.0 place.1 in
          let late = place.0 in
          let at = place.1 in
          let told = packet-said leg next (packets_in s.rows) can walked (omega (arith, late, at)) in
          is ∙ rw ends (ap Some (ap (return_at leg.config.options (popped_cells leg lines)) k ∙ told))
      | inr other ↦ is ∙ rw other refl
    ]

received : IsReceived row_in
received = record { whole = λ octets. refl; lost = refl }

-- ---- of one direction
module _ (leg : Leg) (backs : ℕ) (parts : Parts) (is : WayStands leg backs parts) where
  abbrev was : Counts
  was = counts_of parts backs

  can : CanWalk leg
  can = sound-walks leg is.sound

  fits : Fits (walk_plan leg) (counts_of parts backs)
  fits = walk-fits leg was is.sound is.walked

  pub rows-few : parts.sink.taken < 4294967295
  rows-few = let low = fits.rows in let most = is.sound.network.ticks.1 in omega (arith, low, most)

  line-at : (m : ℕ) (line : Ringed) → slice_get parts.lines m ≡ Some line →
      LineFits leg.config.ticks leg.config.ring parts.source.core.ticks parts.sink.taken (path_on leg m)
      (line_counts line)
  line-at m line there =
      let low = slice_get_within parts.lines m line there in
      let size = is.lines.size in
      let windows = is.sound.network.windows_each in
      subst (LineFits leg.config.ticks leg.config.ring parts.source.core.ticks parts.sink.taken (path_on leg m))
      (counts-here (map line_counts parts.lines) m (line_counts line) (map-get line_counts parts.lines m line there))
      (line-fits leg was can is.walked m (omega (arith, low, size, windows)))

  module _ (none : None ≡ take_cause leg.config.ticks (counts_of parts backs)) where
    is_left : Goes (walk_plan leg) (counts_of parts backs)
    is_left = goes (walk_plan leg) was none

    pub can-pop : CanPop leg parts.lines parts.rows
    can-pop = record {
      can = can;
      lines = is.lines;
      size = is.lines.size ∙ sym is.sound.network.windows_each;
      pops = λ m line there.
          let given = (numbers leg m line (is.lines.each m line there)).given in
          let pops = (line-at m line there).pops in
          omega (arith, given, pops);
      carries = λ m line there. (line-at m line there).carries;
      row = subst (λ t. t < leg.config.ticks) (sym is.sink.passed) is_left.left;
      gathers = is.sink.gathers;
    }

    module _ (lines : List Ringed) (rows : Gather) (waiting : Option ℕ) (same : rows.rows ≡ parts.rows.rows)
        (count : line_count rows ≡ line_count parts.rows) (popped : HasPopped leg parts.lines lines rows waiting)
        (damage : windows_in lines ≡ windows_in parts.lines) where
      row-is : rows.rows ≡ parts.sink.taken
      row-is = same ∙ is.sink.passed

      lines-are : map line_counts lines ≡
          (pop_lines parts.sink.taken 0 (walk_plan leg).paths (map line_counts parts.lines)).lines
      lines-are = popped.counts ∙ ap (λ t. (pop_lines t 0 (walk_plan leg).paths (map line_counts parts.lines)).lines)
          row-is

      waits-are : waiting ≡ (pop_lines parts.sink.taken 0 (walk_plan leg).paths
          (map line_counts parts.lines)).waiting
      waits-are = popped.waits ∙ ap (λ t.
          (pop_lines t 0 (walk_plan leg).paths (map line_counts parts.lines)).waiting) row-is

      moves : step (walk_plan leg) (counts_of parts backs) Take ≡ take_popped (counts_of parts backs)
          (map line_counts lines) waiting
      moves = is_left.moves ∙ ap₂ (take_popped was) (sym lines-are) (sym waits-are)

      stands : HasTaken parts.sink (popped_cells leg (map line_counts lines))
      stands =
          stands-longer parts.sink (popped_cells leg was.lines) (popped_cells leg (map line_counts lines))
          (cells-longer leg was.lines (map line_counts lines)
          (λ m. subst (λ ls. (counts_at (map line_counts parts.lines) m).popped ≤ (counts_at ls m).popped)
          (sym lines-are) (pops-more parts.sink.taken 0 (walk_plan leg).paths was.lines m).0))
          is.sink.taken

      sent : HasSent leg parts.source.core.ticks (map line_counts lines) parts.sent
      sent =
          sent-later leg parts.source.core.ticks was.lines (map line_counts lines) parts.sent is.sent
          (λ m. subst (λ ls. (counts_at was.lines m).carried ≤ (counts_at ls m).carried) (sym lines-are)
          (pops-more parts.sink.taken 0 (walk_plan leg).paths was.lines m).1)

      module _ (line : ℕ) (waits : Some line ≡ waiting) where
        stays : step (walk_plan leg) (counts_of parts backs) Take ≡ stalled
            (record (counts_of parts backs) { lines = map line_counts lines }) (Stall_waiting line)
        stays = moves ∙ ap (take_popped was (map line_counts lines)) (sym waits)

        waits-counts : counts_of (record parts { lines = lines; rows = rows }) backs ≡ counts_after leg
            (counts_of parts backs) Take
        waits-counts = sym (ap (λ (x : Step). x.counts) stays)

        pub waits-kept : Takes leg backs parts (record parts { lines = lines; rows = rows }) (Waiting line)
        waits-kept = record {
          makes = record {
            counts = waits-counts;
            moved = sym (ap (λ (x : Step). answer_by x.cause None) stays);
            stands = record {
              sound = is.sound;
              total = is.total;
              walked = walked-next leg was _ Take is.walked waits-counts;
              source = source-stays leg (counts_of parts backs) _ _ _ parts.source.core is.source;
              sent = sent;
              lines = popped.lines;
              agrees = λ t low. subst (AgreesAt leg t) (sym damage) (is.agrees t low);
              sink = record {
                gathers = popped.gathers;
                taken = stands;
                passed = row-is;
                lines = count ∙ is.sink.lines;
                all = is.sink.all;
                size = is.sink.size;
                options = is.sink.options;
              };
              landed = counted-stays leg (counts_of parts backs) _ _ _ parts.source.landed is.landed;
              counted = is.counted;
            };
          };
          answers = ap (take_by leg parts.sink.taken) (waits ∙ waits-are);
          rows = omega arith;
        }

      module _ (decided : None ≡ waiting) where
        pub can-take : CanTake (popped_cells leg (map line_counts lines)) parts.sink rows
        can-take = record {
          gathers = popped.gathers;
          taken = stands;
          none = ap (λ ls. first_open (popped_cells leg ls) parts.sink.taken) lines-are
              ∙ take-waits leg was.lines parts.sink.taken can (length-map parts.lines line_counts ∙ can-pop.size)
              is_left.left ∙ sym waits-are ∙ sym decided;
        }

        abbrev next : Counts
        next = record (counts_of parts backs) { lines = map line_counts lines; rows = parts.sink.taken + 1 }

        passes : step (walk_plan leg) (counts_of parts backs) Take ≡ moved next
        passes = moves ∙ ap (take_popped was (map line_counts lines)) (sym decided)

        walked-on : IsWalked leg next
        walked-on = walked-next leg was next Take is.walked (sym (ap (λ (x : Step). x.counts) passes))

        module _ (sink : Core) (gather : Gather) (packet : Option Packet)
            (row : HasRow (popped_cells leg (map line_counts lines)) parts.sink sink gather packet) where
          is_said : packet ≡ said_at leg parts.sink.taken
          is_said = said leg was (map line_counts lines) packet can walked-on
              (row.said ∙ ap (λ (o : Options). back_at o (popped_cells leg (map line_counts lines)) parts.sink.taken)
              is.sink.options)

          added-is : added_frames parts.sink.options parts.sink.size (popped_cells leg (map line_counts lines))
              parts.sink.taken sink.taken ≡ delivered_since leg parts.sink.taken sink.taken
          added-is =
              ap (λ options. added_frames options parts.sink.size (popped_cells leg (map line_counts lines))
              parts.sink.taken sink.taken) is.sink.options
              ∙ ap₂ (λ size t. added_frames leg.config.options size (popped_cells leg (map line_counts lines))
              parts.sink.taken t) is.sink.size row.one
              ∙ ap₂ (λ before all. drop (length before) all)
              (frames-received leg next can walked-on row_in received parts.sink.taken (omega arith))
              (frames-received leg next can walked-on row_in received (parts.sink.taken + 1) (omega arith))
              ∙ ap (delivered_since leg parts.sink.taken) (sym row.one)

          pub taken-gives : {Out : Type 0} (stands_for : Out → Start → List (List ℕ) → Type 0) (before after : Out) →
              ((start : Start) (given : List (List ℕ)) → stands_for before start given →
              stands_for after start (given ++ added_frames parts.sink.options parts.sink.size
              (popped_cells leg (map line_counts lines)) parts.sink.taken sink.taken)) →
              GivesRows stands_for before after leg parts.sink.taken sink.taken
          taken-gives stands_for before after gives start given stood =
              subst (λ frames. stands_for after start (given ++ frames)) added-is (gives start given stood)

          module _ (count' : ℕ) (counts : count' ≡ min
              (parts.got + length (added_frames parts.sink.options parts.sink.size
              (popped_cells leg (map line_counts lines)) parts.sink.taken sink.taken)) 18446744073709551615) where
            counts-are : counts_of (record parts { lines = lines; rows = gather; sink = sink; got = count' }) backs
                ≡ next
            counts-are = ap (λ n. record next { rows = n }) row.one

            counted : count' ≡ min (length (delivered_of leg sink.taken)) 18446744073709551615
            counted =
                let all = ap length (frames-grow leg parts.sink.taken 1)
                ∙ length-append (delivered_of leg parts.sink.taken)
                (delivered_since leg parts.sink.taken (parts.sink.taken + 1)) in
                let now = ap (λ t. length (delivered_of leg t)) row.one in
                let more = ap length added-is ∙ ap (λ t. length (delivered_since leg parts.sink.taken t)) row.one in
                let before = is.counted in
                omega (arith, counts, all, now, more, before)

            pub taken-kept : Takes leg backs parts
                (record parts { lines = lines; rows = gather; sink = sink; got = count' }) (Taken packet)
            taken-kept = record {
              makes = record {
                counts = counts-are ∙ sym (ap (λ (x : Step). x.counts) passes);
                moved = ap (λ (x : Step). answer_by x.cause None) (sym passes);
                stands = record {
                  sound = is.sound;
                  total = is.total;
                  walked = subst (IsWalked leg) (sym counts-are) walked-on;
                  source = source-stays leg (counts_of parts backs) _ _ _ parts.source.core is.source;
                  sent = sent;
                  lines = popped.lines;
                  agrees = λ t low. subst (AgreesAt leg t) (sym damage) (is.agrees t low);
                  sink = record {
                    gathers = row.gathers;
                    taken = row.taken;
                    passed = row.passed;
                    lines = row.lines
                        ∙ sym row.all;
                    all = row.all ∙ is.sink.all;
                    size = row.size ∙ is.sink.size;
                    options = row.options ∙ is.sink.options;
                  };
                  landed = counted-stays leg (counts_of parts backs) _ _ _ parts.source.landed is.landed;
                  counted = counted;
                };
              };
              answers = ap Taken is_said ∙ ap (take_by leg parts.sink.taken) (decided ∙ waits-are);
              rows = row.one;
            }

-- ---- of a walk: why no row is taken, and the return packet that is said
pub is-free : (leg : Leg) (was now : Walking) → LiveStands leg was → was ≡ now →
    take_cause now.way.source.total (walking_counts now) ≡ None → None ≡ take_cause leg.config.ticks (walking_counts was)
is-free leg was now is same free =
    sym (ap (λ n. take_cause n (walking_counts was)) (sym is.stands.total)
    ∙ ap (λ (w : Walking). take_cause w.way.source.total (walking_counts w)) same ∙ free)

module _ (leg : Leg) (parts : Parts) (ring : List Packet) (last : Option StepNote)
    (is : LiveStands leg (walking_of parts ring last)) where
  abbrev s : Counts
  s = counts_of parts parts.source.inbox.come

  walk-now : Fits (walk_plan leg) (counts_of parts parts.source.inbox.come)
  walk-now = walk-fits leg s is.stands.sound is.stands.walked

  ring-is : length ring ≡ in_return (counts_of parts parts.source.inbox.come)
  ring-is = ap length is.back.ring ∙ ring-size leg s

  pub full-is : (full : Bool) → (IsTrue full ↔ (length ring ≡ 4)) →
      full ≡ nat_le 4 (in_return (counts_of parts parts.source.inbox.come))
  full-is full same = full-by full (length ring) (in_return s) same ring-is
      (let most = walk-now.returns in omega (arith, most))

  pub cause-full : (row : ℕ) → row ≡ parts.sink.taken → row < leg.config.ticks →
      true ≡ (nat_le 23 row && row % 16 == 7) → (IsTrue true ↔ (length ring ≡ 4)) →
      Some BackFull ≡ take_cause leg.config.ticks (counts_of parts parts.source.inbox.come)
  cause-full row at low ends full =
      let left = lt-leb leg.config.ticks parts.sink.taken (subst (λ t. t < leg.config.ticks) at low) in
      rw (left, sym (subst (λ t. true ≡ (nat_le 23 t && t % 16 == 7)) at ends), sym (full-is true full)) refl

  pub cause-none : (row : ℕ) → row ≡ parts.sink.taken → row < leg.config.ticks →
      (false ≡ (nat_le 23 row && row % 16 == 7)) ⊎ (IsTrue false ↔ (length ring ≡ 4)) →
      None ≡ take_cause leg.config.ticks (counts_of parts parts.source.inbox.come)
  cause-none row at low room =
      let left = lt-leb leg.config.ticks parts.sink.taken (subst (λ t. t < leg.config.ticks) at low) in
      elim (cases_Bool (nat_le 23 parts.sink.taken && parts.sink.taken % 16 == 7)) [
        | inr other ↦ rw (left, other) refl
        | inl ends ↦ elim room [
          | inl other ↦ absurd (let e : false ≡ true = subst (λ t. false ≡ (nat_le 23 t && t % 16 == 7)) at other
              ∙ ends in cc)
          | inr some ↦ rw (left, ends, sym (full-is false some)) refl
        ]
      ]

  pub take-stays : (cause : StallCause) →
      Some cause ≡ take_cause leg.config.ticks (counts_of parts parts.source.inbox.come) →
      (counts_of parts parts.source.inbox.come ≡ counts_after leg (counts_of parts parts.source.inbox.come) Take) ×
      (Stalled cause ≡ moved_of leg (counts_of parts parts.source.inbox.come) Take)
  take-stays cause e =
      let stays = cause-stalls (walk_plan leg) s cause e in
      (sym (ap (λ (x : Step). x.counts) stays), ap (λ (x : Step). answer_by x.cause None) (sym stays))

  -- what is said with a row goes to the end of the return ring, which has room for it
  module _ (none : None ≡ take_cause leg.config.ticks (counts_of parts parts.source.inbox.come)) where
    room : is_back_full (counts_of parts parts.source.inbox.come) ≡ false
    room = (goes (walk_plan leg) s none).room

    pub said-ring : ring ++ listed (said_at leg parts.sink.taken)
        ≡ return_ring leg (record (counts_of parts parts.source.inbox.come) { rows = parts.sink.taken + 1 })
    said-ring =
        ap (λ xs. xs ++ listed (said_at leg parts.sink.taken)) is.back.ring
        ∙ by-end (nat_lt 22 parts.sink.taken && parts.sink.taken % 16 == 7) refl
      where
        by-end : (ends : Bool) → (nat_lt 22 parts.sink.taken && parts.sink.taken % 16 == 7) ≡ ends →
            return_ring leg (counts_of parts parts.source.inbox.come) ++ listed (said_at leg parts.sink.taken)
            ≡ return_ring leg (record (counts_of parts parts.source.inbox.come) { rows = parts.sink.taken + 1 })
        by-end true e =
            ap (λ p. return_ring leg s ++ listed p) (let at : said_at leg parts.sink.taken
            ≡ Some (said_packet leg (packets_in parts.sink.taken)) = rw e refl in at)
            ∙ sym (ring-says leg s (parts.sink.taken + 1) walk-now.backs
            (packets-next parts.sink.taken ∙ rw e refl))
        by-end false e =
            let none : said_at leg parts.sink.taken ≡ None = rw e refl in
            let same : packets_in parts.sink.taken ≡ packets_in (parts.sink.taken + 1) =
            let f = rw e at (packets-next parts.sink.taken) in omega (arith, f) in
            ap (λ p. return_ring leg s ++ listed p) none ∙ append-nil (return_ring leg s)
            ∙ ap (λ n. map (said_packet leg) (range_with_len s.backs (n - s.backs))) same

    pub said-room : length ring + length (listed (said_at leg parts.sink.taken)) ≤ 4
    said-room = by-end (nat_lt 22 parts.sink.taken && parts.sink.taken % 16 == 7) refl
      where
        by-end : (ends : Bool) → (nat_lt 22 parts.sink.taken && parts.sink.taken % 16 == 7) ≡ ends →
            length ring + length (listed (said_at leg parts.sink.taken)) ≤ 4
        by-end true e =
            let free = end-room s room e in
            let size = ring-is in
            let one : length (listed (said_at leg parts.sink.taken)) ≡ 1 = rw e refl in
            omega (arith, free, size, one)
        by-end false e =
            let most = walk-now.returns in
            let size = ring-is in
            let none : length (listed (said_at leg parts.sink.taken)) ≡ 0 = rw e refl in
            omega (arith, most, size, none)

    -- the walk after a Take
    module _ (now : Parts) (answer : TakeAnswer) (takes : Takes leg parts.source.inbox.come parts now answer)
        (rest : now ≡ record parts { lines = now.lines; rows = now.rows; sink = now.sink; got = now.got }) where
      after : Parts
      after = record parts { lines = now.lines; rows = now.rows; sink = now.sink; got = now.got }

      pub take-counts : counts_of now now.source.inbox.come
          ≡ counts_after leg (counts_of parts parts.source.inbox.come) Take
      take-counts = ap (λ (p : Parts). counts_of now p.source.inbox.come) rest ∙ takes.makes.counts

      stands-after : WayStands leg parts.source.inbox.come
          (record parts { lines = now.lines; rows = now.rows; sink = now.sink; got = now.got })
      stands-after = subst (WayStands leg parts.source.inbox.come) rest takes.makes.stands

      pub waits-walk : (line : ℕ) → answer ≡ Waiting line → LiveStands leg (walking_of now ring last)
      waits-walk line e =
          let rows : now.sink.taken ≡ parts.sink.taken = takes.rows ∙ ap (λ a. parts.sink.taken + rows_taken a) e
          ∙ (let z : parts.sink.taken + 0 ≡ parts.sink.taken = omega arith in z) in
          subst (λ (p : Parts). LiveStands leg (walking_of p ring last)) (sym rest) (record {
            stands = stands-after;
            back = record {
              ring = is.back.ring ∙ ap (λ n. map (said_packet leg)
                  (range_with_len s.backs (packets_in n - s.backs))) (sym rows);
              lost = is.back.lost;
              inbox = is.back.inbox;
              room = is.back.room;
            };
            noted = is.noted;
            quiet = is.quiet;
          })

      pub said-is : (back : Option Packet) → answer ≡ Taken back → back ≡ said_at leg parts.sink.taken
      said-is back e = by-waits
          (pop_lines parts.sink.taken 0 (walk_plan leg).paths (map line_counts parts.lines)).waiting
          (sym e ∙ takes.answers)
        where
          by-waits : (waiting : Option ℕ) → Taken back ≡ take_by leg parts.sink.taken waiting →
              back ≡ said_at leg parts.sink.taken
          by-waits None same = cc
          by-waits (Some line) same = absurd cc

      pub taken-walk : (back : Option Packet) (next : List Packet) → answer ≡ Taken back →
          next ≡ ring ++ listed back → LiveStands leg (walking_of now next last)
      taken-walk back next e says =
          let rows : now.sink.taken ≡ parts.sink.taken + 1 =
          takes.rows ∙ ap (λ a. parts.sink.taken + rows_taken a) e in
          subst (λ (p : Parts). LiveStands leg (walking_of p next last)) (sym rest) (record {
            stands = stands-after;
            back = record {
              ring = says ∙ ap (λ p. ring ++ listed p) (said-is back e) ∙ said-ring
                  ∙ ap (λ n. map (said_packet leg) (range_with_len s.backs (packets_in n - s.backs))) (sym rows);
              lost = is.back.lost;
              inbox = is.back.inbox;
              room = is.back.room;
            };
            noted = is.noted;
            quiet = is.quiet;
          })
