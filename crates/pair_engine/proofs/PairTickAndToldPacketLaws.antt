-- A tick of both ways of a pair, and what waits to be told of a way (told_now) and was heard by its source.
use Rattle.std.proofs.Common.{◌≡◌, ℕ, ◌+◌, ◌-◌, ◌*◌, ◌%◌, ◌==◌, ◌<◌, nat_le, true, if◌then◌else◌, List, [], ◌∷◌, ◌++◌}
use Rattle.std.proofs.Common.{length, map, drop, slice_get, Option, Some, None, refl, sym, ◌∙◌, ap, arith, inl, inr}
use Rattle.std.proofs.Common.{is_some, eqb-true, leb-true, leb-false, ◌/◌, ◌&&◌, ◌≤◌, false, Bool, subst}
use Rattle.std.proofs.Common.{eq-eqb, le-leb, ap₂, option_map}
use Rattle.std.specs.List.{range_with_len}
use Rattle.std.proofs.lemmas.Bool.{cases_Bool, cases_lt, and_parts}
use Rattle.std.proofs.lemmas.List.{length-map}
use Rattle.std.proofs.lemmas.List.FromFn.{length-range_with_len}
use Rattle.law_model.specs.Common.{BackCell, Leg, told_in, scenario_by, cells_before, Counts, used_in, untold}
use Rattle.law_model.specs.Common.{telling_at, passed_on, told_by, Step, moved, step}
use Rattle.law_model.specs.declared.control_packet.Packet.{Packet}
use Rattle.law_model.specs.declared.script_types.Script.{Script}
use Rattle.law_model.specs.session.Scenario.{packets_in}
use Rattle.terminal_source.specs.source_core.Terminal.{needed_at, needed}
use Rattle.terminal_source.specs.source_core.GivenScenario.{with_cell}
use Rattle.law_walk.specs.Common.{CanWalk, said_packet, back_cell, cell_taken, last_packet, told_before, walk_plan}
use Rattle.terminal_group.specs.ReturnInbox.{cell_for, rest_for, Inbox}
use Rattle.terminal_group.specs.Source.{missing_by}
use Rattle.pair_engine.specs.ToldAndHeard.{Said, untold_packets, tells_next, told_now, left_untold, heard_in}
use Rattle.pair_engine.specs.ToldAndHeard.{cell_shown, heard_cells}
use Rattle.law_model.specs.declared.walk_events.Event.TheVariants.{Tick}
use Rattle.law_walk.proofs.AcceptedFrameAndDrainedWalkLaws.{counts-within}
use Rattle.law_walk.proofs.WalkPlanAndPoppedCellLaws.{sound-walks}
use Rattle.terminal_group.specs.SourceByCounts.{missing_from}
use Rattle.law_pair.specs.Common.{way_of, is_unsaid, ticked, tick_by, pair_plan, IsPairWalked}
use Rattle.law_pair.proofs.PairWayAndPacketLaws.{says-told}
use Rattle.law_pair.proofs.ReachedPairAndStallLaws.{IsFree, free-ticks, both-free}
use Rattle.walk_engine.specs.Common.{AgreesAt, Parts, counts_of, Makes, IsTold, CanTick, windows_in, StandsForSome}
use Rattle.walk_engine.specs.Common.{note_of}
use Rattle.walk_engine.specs.declared.walk_core.step_answers.StepNote.{StepNote}
use Rattle.walk_engine.specs.declared.walk_core.step_answers.Moved.{Moved}
use Rattle.walk_engine.specs.walk_core.WayParts.{WayStands}
use Rattle.pair_engine.specs.LivePairs.{GoesOn, LiveBeside, PairWalking, WayLives, WayWalking, way_walked}
use Rattle.pair_engine.specs.LivePairs.{IsShownAs, walking_counts}
use Rattle.pair_engine.specs.ToldAndHeard.{Meets}
use Rattle.pair_engine.specs.WayCalls.{CanTickBoth, Keeps}
use Rattle.terminal_group.specs.declared.landed_counts.LandedCounts.{LandedCounts}
use Rattle.pair_engine.proofs.LiveWayLaws.{meets-same, noted-same, seen-lives, there-beside, back-beside}
use Rattle.pair_engine.proofs.ShownCellLaws.{note-shown}
use Rattle.law_model.specs.declared.walk_events.StallCause.{StallCause}
use Rattle.law_pair.specs.declared.pair_events.Way.{Way}
use Rattle.law_pair.specs.declared.pair_events.Way.TheVariants.{There, Back}
use Rattle.law_pair.specs.declared.pair_events.PairEvent.TheVariants.{Tick as Tick_both}
use Rattle.law_pair.proofs.PairMeasureAndDrainLaws.{pair-steps}
use Rattle.walk_engine.specs.declared.walk_core.step_answers.Moved.TheVariants.{Yes}
use Rattle.law_walk.proofs.WalkRingAndWaitingTakeLaws as return_laws
use Rattle.law_pair.proofs.PairWayAndPacketLaws as heard_laws

-- ---- What waits to be told of a way, and what its source heard: over a tick, and over a row.
-- counts of which these are asked alone
abbrev pub counts_with : ℕ → ℕ → ℕ → Counts
counts_with ticks rows backs =
    record { ticks = ticks; frames = 0; commands = 0; lines = []; rows = rows; backs = backs }

-- ---- what is told
-- a tick that tells uses one more
pub tells-used : (lag t : ℕ) → used_in lag (t + 1) ≡ used_in lag t + (if tells_next lag t then 1 else 0)
tells-used lag t =
    elim (cases_Bool (t % 16 == 8)) [
      | inl place ↦ let at = eqb-true (t % 16) 8 place in elim (cases_Bool (nat_le (16 * lag + 8) t)) [
        | inl late ↦ let h = leb-true (16 * lag + 8) t late in rw (late, place) (omega (arith, h, at))
        | inr early ↦ let h = leb-false (16 * lag + 8) t early in rw early (omega (arith, h, at))
      ]
      | inr other ↦ elim (cases_Bool (nat_le (16 * lag + 8) t)) [
        | inl late ↦ rw (late, other) (return_laws.used-next lag t ∙ rw other refl)
        | inr early ↦ rw early (return_laws.used-next lag t ∙ rw other refl)
      ]
    ]

-- what is told, and what is left, where it was said
pub told-left : (leg : Leg) (lag ticks rows : ℕ) (said : Said) →
    said.packets ≡ untold_packets leg lag ticks rows → (tells_next lag ticks ≡ true →
    used_in lag ticks < packets_in rows) →
    (told_now (tells_next lag ticks) said.packets
    ≡ (if tells_next lag ticks then Some (said_packet leg (used_in lag ticks)) else None))
    × ((left_untold (tells_next lag ticks) said).packets ≡ untold_packets leg lag (ticks + 1) rows)
told-left leg lag ticks rows said is was_said =
    elim (cases_Bool (tells_next lag ticks)) [
      | inl tells ↦
          let more = tells-used lag ticks ∙ rw tells refl in
          let ring = is ∙ return_laws.ring-goes leg (counts_with ticks rows (used_in lag ticks)) (was_said tells) in
          rw tells (
            ap (λ (packets : List Packet). slice_get packets 0) ring,
            ap (drop 1) ring ∙ ap (λ u. map (said_packet leg) (range_with_len u (packets_in rows - u))) (sym more),
          )
      | inr silent ↦
          let same : used_in lag (ticks + 1) ≡ used_in lag ticks =
          tells-used lag ticks ∙ rw silent (let e : used_in lag ticks + 0 ≡ used_in lag ticks = omega arith in e) in
          rw silent (
            refl,
            is ∙ ap (λ u. map (said_packet leg) (range_with_len u (packets_in rows - u))) (sym same),
          )
    ]

-- ---- what is heard
first-rest : {X : Type 0} (x y : X) (xs ys : List X) → x ∷ xs ≡ y ∷ ys → (x ≡ y) × (xs ≡ ys)
first-rest x y xs ys same = (cc, cc)

heard-first : (leg : Leg) (lag ticks rows : ℕ) (cells : List BackCell) →
    used_in leg.config.lag ticks < heard_in lag rows →
    used_in leg.config.lag (ticks + 1) ≡ used_in leg.config.lag ticks + 1 →
    map told_in cells ≡ map told_in (heard_cells leg lag ticks rows) →
    map cell_shown cells ≡ map cell_shown (heard_cells leg lag ticks rows) →
    (first : BackCell) × (rest : List BackCell) × (cells ≡ first ∷ rest)
    × (told_in first ≡ told_in (back_cell leg (used_in leg.config.lag ticks)))
    × (map told_in rest ≡ map told_in (heard_cells leg lag (ticks + 1) rows))
    × (cell_shown first ≡ cell_shown (back_cell leg (used_in leg.config.lag ticks)))
    × (map cell_shown rest ≡ map cell_shown (heard_cells leg lag (ticks + 1) rows))
heard-first leg lag ticks rows [] low more tells shown =
    let e : [] ≡ told_in (back_cell leg (used_in leg.config.lag ticks))
    ∷ map told_in (heard_cells leg lag (ticks + 1) rows) =
    tells ∙ ap (map told_in)
    (return_laws.inbox-taken leg (counts_with ticks rows (heard_in lag rows)) (ticks + 1) low more) in
    absurd cc
heard-first leg lag ticks rows (first ∷ rest) low more tells shown =
    let taken = return_laws.inbox-taken leg (counts_with ticks rows (heard_in lag rows)) (ticks + 1) low more in
    let (told, told_rest) = first-rest (told_in first) (told_in (back_cell leg (used_in leg.config.lag ticks)))
    (map told_in rest) (map told_in (heard_cells leg lag (ticks + 1) rows)) (tells ∙ ap (map told_in) taken) in
    let (seen, seen_rest) = first-rest (cell_shown first) (cell_shown (back_cell leg (used_in leg.config.lag ticks)))
    (map cell_shown rest) (map cell_shown (heard_cells leg lag (ticks + 1) rows))
    (shown ∙ ap (map cell_shown) taken) in
    (first, rest, refl, told, told_rest, seen, seen_rest)

-- the return cell that a tick takes, where it needs one, tells what the leg's does, and the same is shown of it; it is
-- there; and the others are left
pub record HeardNext (leg : Leg) (lag ticks rows : ℕ) (cells : List BackCell) : Type 0 where
  pub there : missing_by (needed_at leg.config.lag ticks) cells ≡ None
  pub told : told_before leg (ticks + 1)
      ≡ with_cell (told_before leg ticks) (cell_for (is_some (needed_at leg.config.lag ticks)) cells)
  pub tells : map told_in (rest_for (is_some (needed_at leg.config.lag ticks)) cells)
      ≡ map told_in (heard_cells leg lag (ticks + 1) rows)
  pub shown : map cell_shown (rest_for (is_some (needed_at leg.config.lag ticks)) cells)
      ≡ map cell_shown (heard_cells leg lag (ticks + 1) rows)
  pub first : is_some (needed_at leg.config.lag ticks) ≡ true →
      option_map cell_shown (cell_for (is_some (needed_at leg.config.lag ticks)) cells)
      ≡ Some (cell_shown (back_cell leg (used_in leg.config.lag ticks)))

pub heard-next : (leg : Leg) (lag ticks rows : ℕ) (cells : List BackCell) → CanWalk leg →
    (needed_at leg.config.lag ticks ≡ None → used_in leg.config.lag (ticks + 1) ≡ used_in leg.config.lag ticks) →
    (is_some (needed_at leg.config.lag ticks) ≡ true → (used_in leg.config.lag ticks < heard_in lag rows)
    × (used_in leg.config.lag (ticks + 1) ≡ used_in leg.config.lag ticks + 1)
    × (16 * used_in leg.config.lag ticks + 23 < leg.config.ticks)) →
    map told_in cells ≡ map told_in (heard_cells leg lag ticks rows) →
    map cell_shown cells ≡ map cell_shown (heard_cells leg lag ticks rows) →
    HeardNext leg lag ticks rows cells
heard-next leg lag ticks rows cells can none some tells shown = by (needed_at leg.config.lag ticks) refl
  where
    by : (needs : Option ℕ) → needed_at leg.config.lag ticks ≡ needs → HeardNext leg lag ticks rows cells
    by None is =
        let same = none is in
        record {
          there = ap (λ n. missing_by n cells) is;
          told = ap (cells_before (scenario_by leg)) same
              ∙ sym (ap (λ (n : Option ℕ). with_cell (told_before leg ticks) (cell_for (is_some n) cells)) is);
          tells = ap (λ (n : Option ℕ). map told_in (rest_for (is_some n) cells)) is ∙ tells
              ∙ ap (λ u. map told_in (map (back_cell leg) (range_with_len u (heard_in lag rows - u)))) (sym same);
          shown = ap (λ (n : Option ℕ). map cell_shown (rest_for (is_some n) cells)) is ∙ shown
              ∙ ap (λ u. map cell_shown (map (back_cell leg) (range_with_len u (heard_in lag rows - u)))) (sym same);
          first = λ needs. absurd (let e : true ≡ false = sym needs ∙ ap is_some is in cc);
        }
    by (Some packet) is =
        let (low, more, ends) = some (ap is_some is) in
        let (first, rest, whole, own, left, seen, seen_left) =
        heard-first leg lag ticks rows cells low more tells shown in
        record {
          there = ap (λ n. missing_by n cells) is ∙ ap (missing_by (Some packet)) whole;
          told = ap (cells_before (scenario_by leg)) more
              ∙ return_laws.cells-next leg can (used_in leg.config.lag ticks) ends
              ∙ ap (λ told. told_before leg ticks ++ told ∷ []) (sym own)
              ∙ sym (ap (λ (n : Option ℕ). with_cell (told_before leg ticks) (cell_for (is_some n) cells)) is
              ∙ ap (λ (all : List BackCell). with_cell (told_before leg ticks) (slice_get all 0)) whole);
          tells = ap (λ (n : Option ℕ). map told_in (rest_for (is_some n) cells)) is
              ∙ ap (λ (all : List BackCell). map told_in (drop 1 all)) whole ∙ left;
          shown = ap (λ (n : Option ℕ). map cell_shown (rest_for (is_some n) cells)) is
              ∙ ap (λ (all : List BackCell). map cell_shown (drop 1 all)) whole ∙ seen_left;
          first = λ needs. ap (λ (n : Option ℕ). option_map cell_shown (cell_for (is_some n) cells)) is
              ∙ ap (λ (all : List BackCell). option_map cell_shown (slice_get all 0)) whole ∙ ap Some seen;
        }

-- how many wait
pub heard-size : (leg : Leg) (lag ticks rows : ℕ) (cells : List BackCell) →
    map told_in cells ≡ map told_in (heard_cells leg lag ticks rows) →
    length cells ≡ heard_in lag rows - used_in leg.config.lag ticks
heard-size leg lag ticks rows cells tells =
    let u = used_in leg.config.lag ticks in
    let n = heard_in lag rows - used_in leg.config.lag ticks in
    sym (length-map cells told_in) ∙ ap length tells ∙ length-map (heard_cells leg lag ticks rows) told_in
    ∙ length-map (range_with_len u n) (back_cell leg) ∙ length-range_with_len u n

pub said-size : (leg : Leg) (lag ticks rows : ℕ) →
    length (untold_packets leg lag ticks rows) ≡ packets_in rows - used_in lag ticks
said-size leg lag ticks rows =
    let u = used_in lag ticks in
    let n = packets_in rows - used_in lag ticks in
    length-map (range_with_len u n) (said_packet leg) ∙ length-range_with_len u n

-- ---- A tick of both ways, as one of them sees it.
-- whether the next frame of a way tells, and which packet
abbrev pub tells_of : Script → WayWalking → Bool
tells_of script own = tells_next script.config.lag own.core.source.core.ticks

abbrev pub used_of : Script → WayWalking → ℕ
used_of script own = used_in script.config.lag own.core.source.core.ticks

-- ---- numbers
-- what is told was said
pub told-said : (lag : ℕ) (s : Counts) → is_unsaid lag s ≡ false → tells_next lag s.ticks ≡ true →
    (used_in lag s.ticks < packets_in s.rows) × (s.ticks % 16 ≡ 8) × (16 * lag + 8 ≤ s.ticks)
told-said lag s said tells =
    let (late, place) = and_parts (nat_le (16 * lag + 8) s.ticks) (s.ticks % 16 == 8) tells in
    let h = leb-true (16 * lag + 8) s.ticks late in
    let at = eqb-true (s.ticks % 16) 8 place in
    let open_ : nat_le s.rows (16 * (s.ticks / 16 - lag) + 23) ≡ false = rw (late, place) at said in
    let g = leb-false s.rows (16 * (s.ticks / 16 - lag) + 23) open_ in
    (omega (arith, h, at, g), at, h)

needs-late : (lag ticks : ℕ) → is_some (needed_at lag ticks) ≡ true → (ticks % 16 ≡ 8) × (lag ≤ ticks / 16)
needs-late lag ticks some =
    elim (cases_Bool (ticks % 16 == 8 && nat_le lag (ticks / 16))) [
      | inl needs ↦ let (place, late) = and_parts (ticks % 16 == 8) (nat_le lag (ticks / 16)) needs in
          (eqb-true (ticks % 16) 8 place, leb-true lag (ticks / 16) late)
      | inr not ↦ absurd (let e : false ≡ true = rw not at some in cc)
    ]

used-same : (lag ticks : ℕ) → needed_at lag ticks ≡ None → used_in lag (ticks + 1) ≡ used_in lag ticks
used-same lag ticks none =
    elim (cases_Bool (ticks % 16 == 8 && nat_le lag (ticks / 16))) [
      | inl needs ↦ absurd (let e : Some (ticks / 16 - lag) ≡ None = rw needs at none in cc)
      | inr not ↦ return_laws.used-next lag ticks
          ∙ rw not (let e : used_in lag ticks + 0 ≡ used_in lag ticks = omega arith in e)
    ]

used-more : (lag ticks : ℕ) → ticks % 16 ≡ 8 → lag ≤ ticks / 16 →
    (used_in lag (ticks + 1) ≡ used_in lag ticks + 1) × (used_in lag ticks ≡ ticks / 16 - lag)
used-more lag ticks at late = (omega (arith, at, late), omega (arith, at, late))

-- ---- one way, beside the other
module _ (script other : Script) (own beside : WayWalking) (are : LiveBeside script other own beside)
    (free : IsFree (walk_plan (way_of script other)) script.config.lag (way_walked own))
    (other_free : IsFree (walk_plan (way_of other script)) other.config.lag (way_walked beside))
    (agrees : AgreesAt (way_of script other) own.core.source.core.ticks (windows_in own.core.lines)) where
  abbrev leg : Leg
  leg = way_of script other

  abbrev other_leg : Leg
  other_leg = way_of other script

  abbrev lag : ℕ
  lag = script.config.lag

  abbrev ticks : ℕ
  ticks = own.core.source.core.ticks

  abbrev is : WayStands (way_of script other) (packets_in own.core.sink.taken) own.core
  is = are.own_way.stands

  can : CanWalk (way_of script other)
  can = sound-walks leg is.sound

  -- what is left to tell there
  left-own : (left_untold (tells_of script own) own.said).packets ≡ untold_packets (way_of script other)
      script.config.lag (own.core.source.core.ticks + 1) own.core.sink.taken
  left-own = (told-left leg lag ticks own.core.sink.taken own.said are.own_way.meets.packets
      (λ tells. (told-said lag (way_walked own) free.said tells).0)).1

  -- ---- before the frame
  pub ticks-free : own.core.source.core.ticks < own.core.source.total
  ticks-free =
      let low = leb-false script.config.ticks own.core.source.core.ticks free.open_ in
      let total = is.total in
      omega (arith, low, total)

  low-rows : (beside.core.sink.taken ≤ beside.core.source.core.ticks)
      × (beside.core.source.core.ticks ≤ other.config.ticks)
  low-rows =
      let stands = are.other_way.stands in
      counts-within other_leg (way_walked beside) (sound-walks other_leg stands.sound) stands.walked

  pub hears : HeardNext (way_of script other) script.config.lag own.core.source.core.ticks
      beside.core.sink.taken own.core.source.inbox.cells
  hears =
      heard-next leg lag ticks beside.core.sink.taken own.core.source.inbox.cells can
      (used-same leg.config.lag ticks)
      (λ some.
      let (at, late) = needs-late leg.config.lag ticks some in
      let (more, used) = used-more leg.config.lag ticks at late in
      let same_lag = are.pair.lag in
      let same_ticks = are.pair.ticks in
      let together = are.together in
      let (low, high) = low-rows in
      let tells : tells_next other.config.lag beside.core.source.core.ticks ≡ true =
      rw (
        le-leb (16 * other.config.lag + 8) beside.core.source.core.ticks
            (omega (arith, at, late, same_lag, together)),
        eq-eqb (beside.core.source.core.ticks % 16) 8 (omega (arith, at, together)),
      ) refl in
      let said = (told-said other.config.lag (way_walked beside) other_free.said tells).0 in (
        omega (arith, said, at, late, used, same_lag, together),
        more,
        omega (arith, said, at, late, used, same_lag, same_ticks, together, low, high),
      ))
      are.own_way.meets.heard.tells are.own_way.meets.heard.shown

  -- what is shown of the return cell that a decision step takes
  pub cell-noted : (cell : Option BackCell) →
      cell ≡ cell_for (is_some (needed own.core.source.core)) own.core.source.inbox.cells →
      own.core.source.core.ticks % 16 ≡ 8 →
      option_map cell_shown cell
      ≡ option_map cell_shown (cell_taken (way_of script other) (own.core.source.core.ticks / 16))
  cell-noted cell first at =
      let same : cell ≡ cell_for (is_some (needed_at leg.config.lag ticks)) own.core.source.inbox.cells =
      first ∙ ap (λ n. cell_for (is_some (needed_at n ticks)) own.core.source.inbox.cells) is.source.lag in
      let place = eq-eqb (ticks % 16) 8 at in
      elim (cases_Bool (nat_le leg.config.lag (ticks / 16))) [
        | inl late ↦
            let needs : is_some (needed_at leg.config.lag ticks) ≡ true = rw (place, late) refl in
            let (more, used) = used-more leg.config.lag ticks at (leb-true leg.config.lag (ticks / 16) late) in
            let taken : cell_taken leg (ticks / 16) ≡ Some (back_cell leg (ticks / 16 - leg.config.lag)) =
            rw late refl in
            ap (option_map cell_shown) same ∙ hears.first needs ∙ ap (λ k. Some (cell_shown (back_cell leg k))) used
            ∙ sym (ap (option_map cell_shown) taken)
        | inr early ↦
            let needs : is_some (needed_at leg.config.lag ticks) ≡ false = rw (place, early) refl in
            let taken : cell_taken leg (ticks / 16) ≡ None = rw early refl in
            ap (option_map cell_shown)
            (same ∙ ap (λ b. cell_for b own.core.source.inbox.cells) needs ∙ sym taken)
      ]

  pub cell-there : missing_from own.core.source ≡ None
  cell-there =
      ap (λ n. missing_by (needed_at n own.core.source.core.ticks) own.core.source.inbox.cells) is.source.lag
      ∙ hears.there

  -- ---- what its packets tell of the other way
  other-told : told_now (tells_of other beside) beside.said.packets
      ≡ (if tells_of other beside then Some (said_packet (way_of other script) (used_of other beside)) else None)
  other-told =
      (told-left other_leg other.config.lag beside.core.source.core.ticks beside.core.sink.taken beside.said
      are.other_way.meets.packets
      (λ tells. (told-said other.config.lag (way_walked beside) other_free.said tells).0)).0

  -- where it tells a return packet, and where it doesn't
  told-some : tells_of other beside ≡ true → told_by (said_packet (way_of other script) (used_of other beside))
      ≡ telling_at (scenario_by (way_of script other)) (own.core.source.core.ticks / 16)
  told-some tells =
      let stands = are.other_way.stands in
      let k : ℕ = used_of other beside in
      let (said, at, late) = told-said other.config.lag (way_walked beside) other_free.said tells in
      let same_lag = are.pair.lag in
      let together = are.together in
      let low : 16 * k + 23 < beside.core.sink.taken = omega (arith, said, at, late) in
      ap told_by (sym (return_laws.packet-said other_leg (way_walked beside) k (sound-walks other_leg stands.sound)
      stands.walked low))
      ∙ says-told other script (way_walked beside) k are.pair.back_way stands.walked low
      ∙ ap (telling_at (scenario_by leg))
      (let e : k + script.config.lag ≡ ticks / 16 = omega (arith, at, late, same_lag, together) in e)

  told-none : tells_of other beside ≡ false → own.core.source.core.ticks % 16 ≡ 8 →
      untold ≡ telling_at (scenario_by (way_of script other)) (own.core.source.core.ticks / 16)
  told-none silent at =
      let same_lag = are.pair.lag in
      let together = are.together in
      elim (cases_lt (ticks / 16) script.config.lag) [
        | inl early ↦ sym (heard_laws.told-early script other (ticks / 16) early)
        | inr late ↦
            let tells : tells_next other.config.lag beside.core.source.core.ticks ≡ true =
            rw (
              le-leb (16 * other.config.lag + 8) beside.core.source.core.ticks
                  (omega (arith, at, late, same_lag, together)),
              eq-eqb (beside.core.source.core.ticks % 16) 8 (omega (arith, at, together)),
            ) refl in
            absurd (let e : true ≡ false = sym tells ∙ silent in cc)
      ]

  is-told : (told : Option Packet) → told ≡ told_now (tells_of other beside) beside.said.packets →
      IsTold (way_of script other) own.core.source.core.ticks told
  is-told told same =
      elim (cases_Bool (tells_of other beside)) [
        | inl tells ↦
            let whole : told ≡ Some (said_packet other_leg (used_of other beside)) =
            same ∙ other-told ∙ rw tells refl in
            record {
              step = λ at. ap passed_on whole ∙ told-some tells;
              between = λ no. absurd (no
                  (let at = (told-said other.config.lag (way_walked beside) other_free.said tells).1 in
                  let together = are.together in omega (arith, at, together)));
            }
        | inr silent ↦
            let none : told ≡ None = same ∙ other-told ∙ rw silent refl in
            record { step = λ at. ap passed_on none ∙ told-none silent at; between = λ no. none }
      ]

  tick-moves : step (walk_plan (way_of script other)) (way_walked own) Tick ≡ moved (ticked (way_walked own))
  tick-moves = free-ticks (walk_plan leg) lag (way_walked own) (omega arith) refl free

  pub can-tick : (told : Option Packet) (cell : Option BackCell) →
      told ≡ told_now (tells_of other beside) beside.said.packets →
      cell ≡ cell_for (is_some (needed own.core.source.core)) own.core.source.inbox.cells →
      CanTick (way_of script other) (packets_in own.core.sink.taken) own.core told cell
  can-tick told cell same first = record {
    free = sym (ap (λ (s : Step). s.cause) tick-moves);
    agrees = agrees;
    tells = is-told told same;
    cells = hears.told ∙ sym (ap (with_cell (told_before leg ticks)) (first
        ∙ ap (λ n. cell_for (is_some (needed_at n own.core.source.core.ticks)) own.core.source.inbox.cells)
        is.source.lag));
  }

  -- ---- after the frame
  module _ (now : Parts) (answer : Moved)
      (makes : Makes (way_of script other) (packets_in own.core.sink.taken) Tick own.core now answer)
      (at : now.source.core.ticks ≡ own.core.source.core.ticks + 1)
      (boxed : now.source.inbox ≡ record own.core.source.inbox
      { cells = rest_for (is_some (needed own.core.source.core)) own.core.source.inbox.cells })
      (rest : now ≡ record own.core { source = now.source; sent = now.sent }) where
    pub tick-rows : now.sink.taken ≡ own.core.sink.taken
    tick-rows = ap (λ (p : Parts). p.sink.taken) rest

    pub tick-counts : counts_of now (packets_in now.sink.taken) ≡ ticked (way_walked own)
    tick-counts = ap (λ n. counts_of now (packets_in n)) tick-rows ∙ makes.counts
        ∙ ap (λ (s : Step). s.counts) tick-moves

    abbrev box-left : Inbox
    box-left = record own.core.source.inbox
        { cells = rest_for (is_some (needed_at leg.config.lag ticks)) own.core.source.inbox.cells }

    box-is : now.source.inbox ≡ box-left
    box-is = boxed ∙ ap (λ n. record own.core.source.inbox
        { cells = rest_for (is_some (needed_at n own.core.source.core.ticks)) own.core.source.inbox.cells })
        is.source.lag

    meets-after : Meets script other own.core.sink.taken beside.core.sink.taken
        (own.core.source.core.ticks + 1) (left_untold (tells_of script own) own.said) box-left
    meets-after = record {
      packets = left-own;
      room = left-room (tells_of script own) own.said ∙ are.own_way.meets.room;
      heard = record {
        lost = are.own_way.meets.heard.lost;
        room = are.own_way.meets.heard.room;
        come = are.own_way.meets.heard.come;
        tells = hears.tells;
        shown = hears.shown;
      };
    }
      where
        left-room : (tells : Bool) (said : Said) → (left_untold tells said).room ≡ said.room
        left-room true said = refl
        left-room false said = refl

    -- the way that has told, and made the frame
    abbrev ticked-way : Option StepNote → WayWalking
    ticked-way last = record {
      core = now;
      said = left_untold (tells_of script own) own.said;
      lag = own.lag;
      last = last;
    }

    pub tick-lives : (last : Option StepNote) →
        IsShownAs last (note_of (way_of script other) (last_packet (own.core.source.core.ticks + 1))) →
        WayLives script other beside.core.sink.taken (ticked-way last)
    tick-lives last noted = record {
      lag = are.own_way.lag;
      stands = subst (λ n. WayStands leg (packets_in n) now) (sym tick-rows) makes.stands;
      meets = meets-same script other beside.core.sink.taken own.core.sink.taken now.sink.taken
          (own.core.source.core.ticks + 1) now.source.core.ticks (left_untold (tells_of script own) own.said)
          (left_untold (tells_of script own) own.said) box-left now.source.inbox refl at box-is tick-rows
          meets-after;
      noted = noted-same leg last last (own.core.source.core.ticks + 1) now.source.core.ticks refl at noted;
    }

-- ---- A tick of both ways.
-- what a way tells, and a way that has told and made a frame
abbrev pub telling_own : WayWalking → Option Packet
telling_own own = told_now (tells_next own.lag own.core.source.core.ticks) own.said.packets

abbrev pub with_frame : WayWalking → Parts → Option StepNote → WayWalking
with_frame own now last = record {
  core = now;
  said = left_untold (tells_next own.lag own.core.source.core.ticks) own.said;
  lag = own.lag;
  last = last;
}

-- its last decision step, once it has made a frame and taken this return cell
abbrev pub note_after : ℕ → Option BackCell → Option StepNote → Option StepNote
note_after ticks back last = if ticks % 16 == 8 then Some (record { packet = ticks / 16; back = back }) else last

-- nothing stalls a tick in either way
pub record AreFree (script other : Script) (own beside : WayWalking) : Type 0 where
  pub are : LiveBeside script other own beside
  pub own_free : IsFree (walk_plan (way_of script other)) script.config.lag (way_walked own)
  pub other_free : IsFree (walk_plan (way_of other script)) other.config.lag (way_walked beside)
  pub agrees : AgreesAt (way_of script other) own.core.source.core.ticks (windows_in own.core.lines)

-- the frame of one way
pub record HasTicked (script other : Script) (own beside now : WayWalking) : Type 0 where
  pub lives : WayLives script other beside.core.sink.taken now
  pub rows : now.core.sink.taken ≡ own.core.sink.taken
  pub counts : way_walked now ≡ ticked (way_walked own)

module _ (script other : Script) (own beside : WayWalking) (free : AreFree script other own beside) (core : Parts)
    (same : core ≡ own.core) where
  abbrev leg-tick : Leg
  leg-tick = way_of script other

  abbrev backs : ℕ
  backs = packets_in own.core.sink.taken

  pub stands-for : StandsForSome core
  stands-for = (leg-tick, backs, subst (WayStands leg-tick backs) (sym same) free.are.own_way.stands)

  pub left-for : core.source.core.ticks < core.source.total
  left-for = subst (λ (p : Parts). p.source.core.ticks < p.source.total) (sym same)
      (ticks-free script other own beside free.are free.own_free free.other_free free.agrees)

  pub cell-for : missing_from core.source ≡ None
  cell-for = ap (λ (p : Parts). missing_from p.source) same
      ∙ cell-there script other own beside free.are free.own_free free.other_free free.agrees

  pub has-ticked : (told : Option Packet) (cell : Option BackCell) (now : Parts) (last : Option StepNote) →
      told ≡ telling_own beside →
      ((leg-tick : Leg) (backs : ℕ) → WayStands leg-tick backs core → CanTick leg-tick backs core told cell →
      Makes leg-tick backs Tick core now Yes) →
      cell ≡ cell_for (is_some (needed core.source.core)) core.source.inbox.cells →
      now.source.inbox ≡ record core.source.inbox
      { cells = rest_for (is_some (needed core.source.core)) core.source.inbox.cells } →
      now.source.core.ticks ≡ core.source.core.ticks + 1 →
      now ≡ record core { source = now.source; sent = now.sent } →
      last ≡ note_after core.source.core.ticks cell own.last →
      HasTicked script other own beside (with_frame own now last)
  has-ticked told cell now last is makes first boxed at rest last_is =
      let told_own = is ∙ ap (λ n. told_now (tells_next n beside.core.source.core.ticks) beside.said.packets)
      free.are.other_way.lag in
      let first_own = first
      ∙ ap (λ (p : Parts). cell_for (is_some (needed p.source.core)) p.source.inbox.cells) same in
      let boxed_own = boxed ∙ ap (λ (p : Parts). record p.source.inbox
      { cells = rest_for (is_some (needed p.source.core)) p.source.inbox.cells }) same in
      let at_own = at ∙ ap (λ (p : Parts). p.source.core.ticks + 1) same in
      let rest_own = rest ∙ ap (λ (p : Parts). record p { source = now.source; sent = now.sent }) same in
      let can = can-tick script other own beside free.are free.own_free free.other_free free.agrees told cell told_own
      first_own in
      let noted = note-shown leg-tick own.core.source.core.ticks cell own.last last free.are.own_way.noted
      (cell-noted script other own beside free.are free.own_free free.other_free free.agrees cell first_own)
      (last_is ∙ ap (λ (p : Parts). note_after p.source.core.ticks cell own.last) same) in
      let made : Makes leg-tick backs Tick own.core now Yes =
      subst (λ (p : Parts). Makes leg-tick backs Tick p now Yes) same
      (makes leg-tick backs (subst (WayStands leg-tick backs) (sym same) free.are.own_way.stands)
      (subst (λ (p : Parts). CanTick leg-tick backs p told cell) (sym same) can)) in
      subst (λ n. HasTicked script other own beside (record {
        core = now;
        said = left_untold (tells_next n own.core.source.core.ticks) own.said;
        lag = own.lag;
        last = last;
      })) (sym free.are.own_way.lag) (record {
        lives = tick-lives script other own beside free.are free.own_free free.other_free free.agrees now Yes made
            at_own boxed_own rest_own last noted;
        rows = tick-rows script other own beside free.are free.own_free free.other_free free.agrees now Yes made
            at_own boxed_own rest_own;
        counts = tick-counts script other own beside free.are free.own_free free.other_free free.agrees now Yes made
            at_own boxed_own rest_own;
      })

-- ---- of a pair
module _ (one other : Script) (pair : PairWalking) (can : CanTickBoth one other pair) where
  other-free : IsFree (walk_plan (way_of other one)) other.config.lag (way_walked pair.back)
  other-free =
      let free = both-free (pair_plan one other) (walking_counts pair) can.free in
      subst (λ lag. IsFree (walk_plan (way_of other one)) lag (way_walked pair.back)) can.lives.fits.lag free.1

  pub there-free : AreFree one other pair.there pair.back
  there-free = record {
    are = there-beside one other pair can.lives;
    own_free = (both-free (pair_plan one other) (walking_counts pair) can.free).0;
    other_free = other-free;
    agrees = can.agrees There;
  }

  pub back-free : AreFree other one pair.back pair.there
  back-free = record {
    are = back-beside one other pair can.lives;
    own_free = other-free;
    other_free = (both-free (pair_plan one other) (walking_counts pair) can.free).0;
    agrees = can.agrees Back;
  }

  module _ (now : PairWalking) (first : HasTicked one other pair.there pair.back now.there)
      (second : HasTicked other one pair.back pair.there now.back) where
    both-counts : walking_counts now ≡ (tick_by None (walking_counts pair)).counts
    both-counts =
        ap₂ (λ (s t : Counts). record { there = s; back = t }) first.counts second.counts

    pub both-tick : GoesOn one other (tick_by None (walking_counts pair)).counts now
    both-tick = record {
      lives = record {
        fits = can.lives.fits;
        walked = subst (IsPairWalked one other)
            (ap (λ (found : Option (Way × StallCause)). (tick_by found (walking_counts pair)).counts) can.free
            ∙ sym both-counts)
            (pair-steps (pair_plan one other) (walking_counts pair) Tick_both can.lives.walked);
        there_way = seen-lives one other pair.back.core.sink.taken now.back.core.sink.taken now.there second.rows
            first.lives;
        back_way = seen-lives other one pair.there.core.sink.taken now.there.core.sink.taken now.back first.rows
            second.lives;
      };
      counts = both-counts;
    }

-- nothing lands with a frame, and no line has other windows
pub made-keeps : (own now : WayWalking) (core : Parts) → core ≡ own.core →
    now.core.source.landed ≡ core.source.landed →
    now.core ≡ record core { source = now.core.source; sent = now.core.sent } → Keeps own now
made-keeps own now core same landed rest = record {
  frames = ap (λ (l : LandedCounts). l.frames) landed ∙ ap (λ (p : Parts). p.source.landed.frames) same;
  commands = ap (λ (l : LandedCounts). l.commands) landed ∙ ap (λ (p : Parts). p.source.landed.commands) same;
  windows = ap (λ (p : Parts). windows_in p.lines) rest ∙ ap (λ (p : Parts). windows_in p.lines) same;
}
