-- The first line whose send ring is full, why a tick stalls, and what it leaves of a direction and of a walk.
use Rattle.std.proofs.Common.{◌≡◌, ℕ, suc, ◌+◌, ◌-◌, ◌*◌, ◌/◌, ◌%◌, ◌==◌, ◌&&◌, ◌<◌, ◌≤◌, min, nat_le, true, false}
use Rattle.std.proofs.Common.{if◌then◌else◌, List, [], ◌∷◌, length, drop, map, slice_get, slice_set, slice_index_or}
use Rattle.std.proofs.Common.{Option, Some, None, refl, sym, ◌∙◌, ap, subst, arith, inl, inr, Bool, option_map}
use Rattle.std.proofs.Common.{fold, is_some, eqb-true, leb-true, leb-false, length-set, eq-eqb, le-leb}
use Rattle.std.specs.List.{range_with_len}
use Rattle.std.specs.Global.{Vec, Box}
use Rattle.std.proofs.lemmas.Bool.{cases_Bool, cases_lt, eqb-false, lt-leb}
use Rattle.std.proofs.lemmas.List.{length-map, map-set, drop_all, get_or-map}
use Rattle.std.proofs.lemmas.List.FromFn.{length-range_with_len}
use Rattle.circular_buffer.proofs.Places.{slice_get-set_other}
use Rattle.member_rows.proofs.RowGatherLinesLaws.{set-here}
use Rattle.law_model.specs.Common.{BackCell, Container, Leg, Scenario, scenario_by, steps_in, Told, untold, most_lines}
use Rattle.law_model.specs.Common.{Source as Session_source, source_at, session_cells, cells_before, container_of}
use Rattle.law_model.specs.Common.{frame_of, LineCounts, Plan, Counts, Step, in_inbox, used_in, held, full, is_missing}
use Rattle.law_model.specs.Common.{moved, tick, tick_held, tick_full, step, Course, Stream, frames_at, offered}
use Rattle.law_model.specs.declared.walk_events.Event.TheVariants.{Tick}
use Rattle.law_model.specs.declared.walk_events.StallCause.{StallCause}
use Rattle.law_model.specs.declared.walk_events.StallCause.TheVariants.{Done, Held, BackMissing, TxFull}
use Rattle.law_model.specs.declared.control_packet.Packet.{Packet}
use Rattle.terminal_source.specs.source_core.Terminal.{needed, needed_at, SameKind}
use Rattle.terminal_source.specs.source_core.GivenScenario.{with_cell, SourceStands as HasMade}
use Rattle.law_progress.specs.Progress.{ChangesNothing}
use Rattle.law_progress.proofs.StalledEventLaws.{stalled-same}
use Rattle.law_walk.specs.Common.{walk_plan, CanWalk, IsWalked, counts_at, sent_at, back_cell, return_ring, inbox}
use Rattle.law_walk.specs.Common.{landed_scenario, told_before, last_packet, cell_taken, table_in}
use Rattle.law_walk.proofs.WalkPlanAndPoppedCellLaws.{sound-walks, line-fits}
use Rattle.law_walk.proofs.LandedItemRefusalAndTotalLaws.{told-frames, told-streams}
use Rattle.law_walk.proofs.WalkRingAndWaitingTakeLaws.{last-next, used-now, said-ends, table-now}
use Rattle.law_model.proofs.ListLaws.{drop-next}
use Rattle.terminal_group.specs.ReturnInbox.{Inbox, cell_for, rest_for}
use Rattle.terminal_group.specs.SourceByCounts.{Counted, SameCounts, missing_from}
use Rattle.terminal_group.specs.declared.landed_counts.LandedCounts.{LandedCounts}
use Rattle.terminal_group.specs.Source.{missing_by}
use Rattle.terminal_sink.specs.sink_core.Core.{Core}
use Rattle.terminal_group.proofs.InboxReturnCellLaws.{missing-some}
use Rattle.walk_engine.specs.Common.{Return, path_of, early_cause, Ringed, answer_by, moved_of, counts_after, Parts}
use Rattle.walk_engine.specs.Common.{frame_in, HasSource, HasSent, HasBack, HasCounted, counts_of, line_counts}
use Rattle.walk_engine.specs.Common.{note_of, told_scenario, AgreesAt, LiveStands, walking_of, Makes, with_passed}
use Rattle.walk_engine.specs.Common.{CanTick, waiting_in, windows_in}
use Rattle.walk_engine.specs.declared.walk_core.step_answers.StepNote.{StepNote}
use Rattle.walk_engine.specs.declared.walk_core.step_answers.Moved.TheVariants.{Yes, Stalled}
use Rattle.walk_engine.specs.walk_core.WayParts.{WayStands}
use Rattle.walk_engine.proofs.WayEventAndToldSourceLaws.{told-source, told-stream, passed-made, passed-frame, walk-fits}
use Rattle.walk_engine.proofs.WayEventAndToldSourceLaws.{walked-next, sink-stays, set-each}
use Rattle.walk_engine.proofs.LineCarryAndSendRingLaws.{frame-at}
use Rattle.law_walk.proofs.WalkRingAndWaitingTakeLaws as return_laws

-- The first line whose send ring is full, and a tick: of one direction, and of a walk.
pub full-here : (total ticks : ℕ) (lines : List Ringed) (m : ℕ) (line : Ringed) → slice_get lines m ≡ Some line →
    32 ≤ ticks - min line.carried total → full total ticks m (map line_counts (drop m lines)) ≡ Some m
unfolding full
full-here total ticks lines m line there high =
    ap (λ xs. full total ticks m (map line_counts xs)) (drop-next lines m line there)
    ∙ rw (le-leb 32 (ticks - min line.carried total) high) refl

pub full-next : (total ticks : ℕ) (lines : List Ringed) (m : ℕ) (line : Ringed) → slice_get lines m ≡ Some line →
    ticks - min line.carried total < 32 →
    full total ticks (m + 1) (map line_counts (drop (m + 1) lines))
    ≡ full total ticks m (map line_counts (drop m lines))
unfolding full
full-next total ticks lines m line there low =
    ap (λ k. full total ticks k (map line_counts (drop k lines))) (let e : m + 1 ≡ suc m = omega arith in e)
    ∙ sym (ap (λ xs. full total ticks m (map line_counts xs)) (drop-next lines m line there)
    ∙ rw (lt-leb 32 (ticks - min line.carried total) low) refl)

pub full-none : (total ticks : ℕ) (lines : List Ringed) (m : ℕ) → length lines ≤ m →
    full total ticks m (map line_counts (drop m lines)) ≡ None
unfolding full
full-none total ticks lines m past = ap (λ xs. full total ticks m (map line_counts xs)) (drop_all m lines past)

-- ---- the cause of a stall
missing-here : (plan : Plan) (s : Counts) (packet : ℕ) → s.ticks < plan.ticks →
    held s.ticks s.frames s.commands 0 plan.items ≡ None → full plan.ticks s.ticks 0 s.lines ≡ None →
    needed_at plan.lag s.ticks ≡ Some packet → in_inbox plan s ≡ 0 → (tick plan s).cause ≡ Some (BackMissing packet)
missing-here plan s packet low none_held none_full need none =
    elim (cases_Bool (s.ticks % 16 == 8)) [
      | inr other ↦ absurd (let f : None ≡ Some packet = rw other at need in cc)
      | inl place ↦ elim (cases_Bool (nat_le plan.lag (s.ticks / 16))) [
        | inr early ↦ absurd (let f : None ≡ Some packet = rw (place, early) at need in cc)
        | inl late ↦
            let number : Some (s.ticks / 16 - plan.lag) ≡ Some packet = rw (place, late) at need in
            let at = eqb-true (s.ticks % 16) 8 place in
            let since = leb-true plan.lag (s.ticks / 16) late in
            let a : nat_le plan.ticks s.ticks ≡ false = lt-leb plan.ticks s.ticks low in
            let b : nat_le (16 * plan.lag + 8) s.ticks ≡ true =
            le-leb (16 * plan.lag + 8) s.ticks (omega (arith, at, since)) in
            let d : nat_le (in_inbox plan s) 0 ≡ true = le-leb (in_inbox plan s) 0 (omega (arith, none)) in
            rw (a, none_held, none_full, b, place, d)
            (ap (λ (k : ℕ). Some (BackMissing k)) (let e : s.ticks / 16 - plan.lag ≡ packet = cc in e))
      ]
    ]

-- ---- what a tick gives that is made
record Goes (plan : Plan) (s : Counts) (step : Step) : Type 0 where
  moves : step ≡ moved (record s { ticks = s.ticks + 1 })
  has_cell : is_missing plan s ≡ false

full-goes : (found : Option ℕ) (plan : Plan) (s : Counts) → None ≡ (tick_full found plan s).cause →
    Goes plan s (tick_full found plan s)
full-goes (Some line) plan s e = absurd cc
full-goes None plan s e =
    elim (cases_Bool (is_missing plan s)) [
      | inl misses ↦ absurd (let f : None ≡ Some (BackMissing (s.ticks / 16 - plan.lag)) = rw misses at e in cc)
      | inr there ↦ record { moves = rw there refl; has_cell = there }
    ]

held-goes : (found : Option ℕ) (plan : Plan) (s : Counts) → None ≡ (tick_held found plan s).cause →
    Goes plan s (tick_held found plan s)
held-goes (Some item) plan s e = absurd cc
held-goes None plan s e = full-goes (full plan.ticks s.ticks 0 s.lines) plan s e

tick-goes : (plan : Plan) (s : Counts) → None ≡ (tick plan s).cause → (s.ticks < plan.ticks) × Goes plan s (tick plan s)
tick-goes plan s e =
    elim (cases_Bool (nat_le plan.ticks s.ticks)) [
      | inl done ↦ absurd (let f : None ≡ Some Done = rw done at e in cc)
      | inr left ↦
          let f : None ≡ (tick_held (held s.ticks s.frames s.commands 0 plan.items) plan s).cause = rw left at e in
          let low = leb-false plan.ticks s.ticks left in
          (omega (arith, low), rw left (held-goes (held s.ticks s.frames s.commands 0 plan.items) plan s f))
    ]

-- a return cell that isn't missing
not-missing : (plan : Plan) (s : Counts) (cells : List BackCell) → length cells ≡ in_inbox plan s →
    missing_by (needed_at plan.lag s.ticks) cells ≡ None → is_missing plan s ≡ false
not-missing plan s cells size none =
    elim (cases_Bool (is_missing plan s)) [
      | inr there ↦ there
      | inl misses ↦
          let at : s.ticks % 16 ≡ 8 = grind (arith, misses) in
          let since : 16 * plan.lag + 8 ≤ s.ticks = grind (arith, misses) in
          let empty : in_inbox plan s ≤ 0 = grind (arith, misses) in
          let place : s.ticks % 16 == 8 ≡ true = eq-eqb (s.ticks % 16) 8 at in
          let late : nat_le plan.lag (s.ticks / 16) ≡ true =
          le-leb plan.lag (s.ticks / 16) (omega (arith, at, since)) in
          let need : needed_at plan.lag s.ticks ≡ Some (s.ticks / 16 - plan.lag) = rw (place, late) refl in
          absurd (missing-none (s.ticks / 16 - plan.lag) cells (let h = empty in let e = size in omega arith)
          (ap (λ n. missing_by n cells) (sym need) ∙ none))
    ]
  where
    missing-none : (packet : ℕ) (cells : List BackCell) → length cells ≡ 0 → missing_by (Some packet) cells ≡ None → ⊥
    missing-none packet [] size none = let e : Some packet ≡ None = none in absurd cc
    missing-none packet (cell ∷ cells) size none = absurd (omega arith)

-- ---- the return cell of a tick
-- the tick takes this cell, or none, and leaves this of the return path
record IsTaken (leg : Leg) (s : Counts) (back : Return) (cell : Option BackCell) (path : Return) : Type 0 where
  told : told_before leg (s.ticks + 1) ≡ with_cell (told_before leg s.ticks) cell
  inbox : path.inbox ≡ inbox leg (record s { ticks = s.ticks + 1 })
  ring : path.ring ≡ back.ring
  lost : path.lost ≡ back.lost
  room : path.room ≡ back.room
  backs : path.backs ≡ back.backs
  noted : s.ticks % 16 ≡ 8 → cell ≡ cell_taken leg (s.ticks / 16)
  some : is_some cell ≡ is_some (needed_at leg.config.lag s.ticks)

-- where the cell that is needed is not missing, it is there
cell-there : (lag ticks backs : ℕ) → ticks % 16 == 8 ≡ true → lag ≤ ticks / 16 →
    nat_le (16 * lag + 8) ticks && ticks % 16 == 8 && nat_le (backs - used_in lag ticks) 0 ≡ false →
    used_in lag ticks < backs
cell-there lag ticks backs place since e =
    let at = eqb-true (ticks % 16) 8 place in
    let late : nat_le (16 * lag + 8) ticks ≡ true = le-leb (16 * lag + 8) ticks (omega (arith, at, since)) in
    let some : nat_le (backs - used_in lag ticks) 0 ≡ false = rw (late, place) at e in
    let h = leb-false (backs - used_in lag ticks) 0 some in
    omega (arith, h)

taken-some : (leg : Leg) (s : Counts) (back path : Return) (cell : Option BackCell) → CanWalk leg →
    IsWalked leg s → s.rows ≤ leg.config.ticks → HasBack leg s back →
    is_missing (walk_plan leg) s ≡ false → s.ticks % 16 == 8 ≡ true →
    nat_le leg.config.lag (s.ticks / 16) ≡ true →
    cell ≡ slice_get back.inbox 0 → path ≡ record back { inbox = drop 1 back.inbox } → IsTaken leg s back cell path
taken-some leg s back path cell can walked rows has there place late first left =
    let lag = leg.config.lag in
    let used = used_in lag s.ticks in
    let at = eqb-true (s.ticks % 16) 8 place in
    let since = leb-true lag (s.ticks / 16) late in
    let need : needed_at lag s.ticks ≡ Some (s.ticks / 16 - lag) = rw (place, late) refl in
    let low = cell-there lag s.ticks s.backs place since there in
    let more : used_in lag (s.ticks + 1) ≡ used_in lag s.ticks + 1 = return_laws.used-next lag s.ticks
    ∙ rw (place, late) refl in
    let box = has.inbox ∙ return_laws.inbox-taken leg s (s.ticks + 1) low more in
    let is : cell ≡ Some (back_cell leg used) = first ∙ ap (λ cells. slice_get cells 0) box in
    let ends = said-ends leg s used can walked low in
    record {
      told = ap (cells_before (scenario_by leg)) more
          ∙ return_laws.cells-next leg can used (omega (arith, ends, rows))
          ∙ sym (ap (with_cell (told_before leg s.ticks)) is);
      inbox = ap (λ (p : Return). p.inbox) left ∙ ap (drop 1) box;
      ring = ap (λ (p : Return). p.ring) left;
      lost = ap (λ (p : Return). p.lost) left;
      room = ap (λ (p : Return). p.room) left;
      backs = ap (λ (p : Return). p.backs) left;
      noted = λ place_. is ∙ rw late (ap (λ k. Some (back_cell leg k)) (used-now lag s.ticks at since));
      some = ap is_some is ∙ sym (ap is_some need);
    }

taken-none : (leg : Leg) (s : Counts) (back path : Return) (cell : Option BackCell) → HasBack leg s back →
    used_in leg.config.lag (s.ticks + 1) ≡ used_in leg.config.lag s.ticks →
    needed_at leg.config.lag s.ticks ≡ None → (s.ticks % 16 ≡ 8 → None ≡ cell_taken leg (s.ticks / 16)) →
    cell ≡ None → path ≡ back → IsTaken leg s back cell path
taken-none leg s back path cell has same need noted is left = record {
  told = ap (cells_before (scenario_by leg)) same ∙ sym (ap (with_cell (told_before leg s.ticks)) is);
  inbox = ap (λ (p : Return). p.inbox) left ∙ has.inbox
      ∙ ap (λ u. map (back_cell leg) (range_with_len u (s.backs - u))) (sym same);
  ring = ap (λ (p : Return). p.ring) left;
  lost = ap (λ (p : Return). p.lost) left;
  room = ap (λ (p : Return). p.room) left;
  backs = ap (λ (p : Return). p.backs) left;
  noted = λ place. is ∙ noted place;
  some = ap is_some is ∙ sym (ap is_some need);
}

taken : (leg : Leg) (s : Counts) (back path : Return) (cell : Option BackCell) → CanWalk leg →
    IsWalked leg s → s.rows ≤ leg.config.ticks → HasBack leg s back →
    is_missing (walk_plan leg) s ≡ false →
    cell ≡ (if is_some (needed_at leg.config.lag s.ticks) then slice_get back.inbox 0 else None) →
    path ≡ (if is_some (needed_at leg.config.lag s.ticks) then record back
    { inbox = drop 1 back.inbox } else back) → IsTaken leg s back cell path
taken leg s back path cell can walked rows has there first left =
    let lag = leg.config.lag in
    elim (cases_Bool (s.ticks % 16 == 8)) [
      | inr other ↦ taken-none leg s back path cell has
          (return_laws.used-next lag s.ticks
          ∙ rw other (let e : used_in lag s.ticks + 0 ≡ used_in lag s.ticks = omega arith in e)) (rw other refl)
          (λ place. absurd (eqb-false (s.ticks % 16) 8 other place)) (rw other at first) (rw other at left)
      | inl place ↦ elim (cases_Bool (nat_le lag (s.ticks / 16))) [
        | inl late ↦ taken-some leg s back path cell can walked rows has there place late
            (rw (place, late) at first) (rw (place, late) at left)
        | inr early ↦ taken-none leg s back path cell has
            (return_laws.used-next lag s.ticks
            ∙ rw (place, early) (let e : used_in lag s.ticks + 0 ≡ used_in lag s.ticks = omega arith in e))
            (rw (place, early) refl)
            (λ at. rw early refl) (rw (place, early) at first) (rw (place, early) at left)
      ]
    ]

-- ---- the send rings
apart-places : (t n : ℕ) → t < n → n ≤ t + 31 → t % 32 ≡ n % 32 → ⊥
apart-places t n low high e = omega (arith, low, high, e)

frame-long : (leg : Leg) (t : ℕ) →
    length (frame_of (scenario_by leg) (session_cells (scenario_by leg)) t) ≡ length leg.config.windows
frame-long leg t =
    length-map (range_with_len 0 (length leg.config.windows))
    (λ line. container_of (scenario_by leg) (session_cells (scenario_by leg)) line t)
    ∙ length-range_with_len 0 (length leg.config.windows)

sent-more : (leg : Leg) (ticks : ℕ) (counts : List LineCounts) (sent : List (List Container))
    (frame : List Container) → HasSent leg ticks counts sent →
    frame ≡ frame_of (scenario_by leg) (session_cells (scenario_by leg)) ticks →
    length frame ≡ leg.config.lines → HasSent leg (ticks + 1) counts (slice_set sent (ticks % 32) frame)
sent-more leg ticks counts sent frame has is long = record {
  places = length-set sent (ticks % 32) frame ∙ has.places;
  lines = set-each (λ k (other : List Container). length other ≡ leg.config.lines) sent (ticks % 32) frame long has.lines;
  frames = λ t m other inside late low high told. elim (cases_lt t ticks) [
    | inl before ↦
        has.frames t m other inside late before (omega (arith, high))
        (sym (slice_get-set_other sent (ticks % 32) (t % 32) frame (apart-places t ticks before (omega (arith, high))))
        ∙ told)
    | inr now ↦
        let e : t ≡ ticks = omega (arith, low, now) in
        let windows = ap length is ∙ frame-long leg ticks in
        ap (λ xs. slice_get xs m)
        (set-here sent (ticks % 32) frame other
        (sym (ap (λ n. slice_get (slice_set sent (ticks % 32) frame) (n % 32)) e) ∙ told) ∙ is)
        ∙ frame-at leg m ticks (omega (arith, inside, windows, long))
        ∙ ap (λ n. Some (sent_at leg m n)) (sym e)
  ];
}

-- ---- the last decision step
note-next : (leg : Leg) (ticks : ℕ) (cell : Option BackCell) (last note : Option StepNote) →
    last ≡ note_of leg (last_packet ticks) →
    (ticks % 16 ≡ 8 → cell ≡ cell_taken leg (ticks / 16)) →
    note ≡ (if ticks % 16 == 8 then Some (record { packet = ticks / 16; back = cell }) else last) →
    note ≡ note_of leg (last_packet (ticks + 1))
note-next leg ticks cell last note before noted is =
    elim (cases_Bool (ticks % 16 == 8)) [
      | inl place ↦
          let now : note ≡ Some (record { packet = ticks / 16; back = cell }) = rw place at is in
          let next : last_packet (ticks + 1) ≡ Some (ticks / 16) = last-next ticks ∙ rw place refl in
          now ∙ ap (λ c. Some (record { packet = ticks / 16; back = c })) (noted (eqb-true (ticks % 16) 8 place))
          ∙ sym (ap (note_of leg) next)
      | inr other ↦
          let now : note ≡ last = rw other at is in
          let next : last_packet (ticks + 1) ≡ last_packet ticks = last-next ticks ∙ rw other refl in
          now ∙ before ∙ sym (ap (note_of leg) next)
    ]

-- the return path once the source has taken what it needs
pub path-left : (needs : Bool) (ring : List Packet) (inbox next : Inbox) →
    next ≡ record inbox { cells = rest_for needs inbox.cells } →
    path_of ring next ≡ (if needs then record (path_of ring inbox)
    { inbox = drop 1 inbox.cells } else path_of ring inbox)
path-left true ring inbox next e = ap (path_of ring) e
path-left false ring inbox next e = ap (path_of ring) e

-- ---- the causes in their order
early-none : (done : Bool) (found : Option ℕ) →
    ◌≡◌ {A = Option StallCause} (if done then Some Done else option_map Held found) None →
    (done ≡ false) × (found ≡ None)
early-none true found e = absurd cc
early-none false None e = (refl, refl)
early-none false (Some item) e = absurd cc

module _ (plan : Plan) (s : Counts) where
  pub early-stalls : (cause : StallCause) → early_cause plan s ≡ Some cause → (step plan s Tick).cause ≡ Some cause
  early-stalls cause e =
      by-total (nat_le plan.ticks s.ticks) refl (held s.ticks s.frames s.commands 0 plan.items) refl e
    where
      by-total : (done : Bool) → nat_le plan.ticks s.ticks ≡ done → (found : Option ℕ) →
          held s.ticks s.frames s.commands 0 plan.items ≡ found →
          (if done then Some Done else option_map Held found) ≡ Some cause →
          (step plan s Tick).cause ≡ Some cause
      by-total true past found is_found e = rw past e
      by-total false left None is_found e = absurd cc
      by-total false left (Some item) is_found e = rw (left, is_found) e

  pub early-done : plan.ticks ≤ s.ticks → Some Done ≡ early_cause plan s
  early-done past = rw (le-leb plan.ticks s.ticks past) refl

  pub early-held : s.ticks < plan.ticks → (found : Option ℕ) →
      found ≡ held s.ticks s.frames s.commands 0 plan.items → option_map Held found ≡ early_cause plan s
  early-held low found is_found =
      rw (lt-leb plan.ticks s.ticks low) (ap (option_map Held) is_found)

  -- ticks are left, and no item is held
  pub early-free : early_cause plan s ≡ None →
      (s.ticks < plan.ticks) × (held s.ticks s.frames s.commands 0 plan.items ≡ None)
  early-free free =
      let (left, none) =
      early-none (nat_le plan.ticks s.ticks) (held s.ticks s.frames s.commands 0 plan.items) free in
      (leb-false plan.ticks s.ticks left, none)

  module _ (low : s.ticks < plan.ticks) (none : held s.ticks s.frames s.commands 0 plan.items ≡ None) where
    left : nat_le plan.ticks s.ticks ≡ false
    left = lt-leb plan.ticks s.ticks low

    pub full-cause : (line : ℕ) → full plan.ticks s.ticks 0 s.lines ≡ Some line →
        Some (TxFull line) ≡ (step plan s Tick).cause
    full-cause line found = rw (left, none, found) refl

    pub missing-cause : (packet : ℕ) → full plan.ticks s.ticks 0 s.lines ≡ None →
        needed_at plan.lag s.ticks ≡ Some packet → in_inbox plan s ≡ 0 →
        Some (BackMissing packet) ≡ (step plan s Tick).cause
    missing-cause packet slots need empty = sym (missing-here plan s packet low none slots need empty)

    pub no-cause : full plan.ticks s.ticks 0 s.lines ≡ None → is_missing plan s ≡ false →
        None ≡ (step plan s Tick).cause
    no-cause slots there = rw (left, none, slots, there) refl

pub tick-stays : (leg : Leg) (s : Counts) (cause : StallCause) → Some cause ≡ (step (walk_plan leg) s Tick).cause →
    (s ≡ counts_after leg s Tick) × (Stalled cause ≡ moved_of leg s Tick)
tick-stays leg s cause e = (
  sym (not-take (stalled-same (walk_plan leg) s Tick cause (sym e))),
  ap
      (λ o. answer_by o None) e,
)
  where
    not-take : ChangesNothing (walk_plan leg) s Tick → (step (walk_plan leg) s Tick).counts ≡ s
    not-take (inl same) = same
    not-take (inr take) = absurd (let e = take.0 in cc)

-- ---- of one direction
carried-at : (lines : List Ringed) (k : ℕ) (d : Ringed) → k < length lines →
    (counts_at (map line_counts lines) k).carried ≡ (slice_index_or lines k d).carried
carried-at lines k d low =
    ap (λ (l : LineCounts). l.carried) (get_or-map line_counts lines k d (record { carried = 0; popped = 0 }) low)

module _ (leg : Leg) (backs : ℕ) (parts : Parts) (is : WayStands leg backs parts) where
  pub lines-made : (lines : List Ringed) → lines ≡ parts.lines → (k : ℕ) (d : Ringed) → k < length lines →
      min (slice_index_or lines k d).carried leg.config.ticks ≤ parts.source.core.ticks
  lines-made lines same k d low =
      let size = ap length same ∙ is.lines.size in
      let windows = is.sound.network.windows_each in
      let fits = line-fits leg (counts_of parts backs) (sound-walks leg is.sound) is.walked k
      (omega (arith, low, size, windows)) in
      let sent = fits.sent in
      let at = ap (λ (ls : List Ringed). (counts_at (map line_counts ls) k).carried) (sym same)
      ∙ carried-at lines k d low in
      subst (λ n. min n leg.config.ticks ≤ parts.source.core.ticks) at sent

  pub lines-few : length parts.lines ≤ most_lines
  lines-few =
      let size = is.lines.size in
      let windows = is.sound.network.windows_each in
      let few = (sound-walks leg is.sound).few in
      omega (arith, size, windows, few)

  pub ticks-left : parts.source.core.ticks < parts.source.total → parts.source.core.ticks < leg.config.ticks
  ticks-left low = let total = is.total in omega (arith, low, total)

  module _ (told : Option Packet) (cell : Option BackCell) (can : CanTick leg backs parts told cell) where
    moves : Goes (walk_plan leg) (counts_of parts backs) (tick (walk_plan leg) (counts_of parts backs))
    moves = (tick-goes (walk_plan leg) (counts_of parts backs) can.free).1

    module _ (source : Counted) (rest : SameCounts parts.source source)
        (stands : (scenario : Scenario) (cells : List (Option Told)) → HasMade parts.source.core scenario cells →
        HasMade source.core (with_passed scenario (steps_in parts.source.core.ticks) told) (with_cell cells cell))
        (ticks : source.core.ticks ≡ parts.source.core.ticks + 1) (kind : SameKind source.core parts.source.core)
        (frame : List Container)
        (made : (scenario : Scenario) (cells : List (Option Told)) → HasMade parts.source.core scenario cells →
        frame ≡ frame_of (with_passed scenario (steps_in parts.source.core.ticks) told) (with_cell cells cell)
        parts.source.core.ticks)
        (sent : List (List Container))
        (has : HasSent leg parts.source.core.ticks (map line_counts parts.lines) sent) where
      counts-are : counts_of (record parts
          { source = source; sent = slice_set sent (parts.source.core.ticks % 32) frame }) backs
          ≡ record (counts_of parts backs) { ticks = parts.source.core.ticks + 1 }
      counts-are =
          ap (λ n. record (counts_of parts backs)
          { ticks = n; frames = source.landed.frames; commands = source.landed.commands }) ticks
          ∙ ap (λ (l : LandedCounts). record (counts_of parts backs)
          { ticks = parts.source.core.ticks + 1; frames = l.frames; commands = l.commands }) rest.landed

      walked-after : IsWalked leg (record (counts_of parts backs) { ticks = parts.source.core.ticks + 1 })
      walked-after = walked-next leg (counts_of parts backs) _ Tick is.walked
          (sym (ap (λ (x : Step). x.counts) moves.moves))

      frame-is : frame ≡ frame_of (scenario_by leg) (session_cells (scenario_by leg)) parts.source.core.ticks
      frame-is =
          made (told_scenario leg (counts_of parts backs))
          (told_before leg parts.source.core.ticks) is.source.made
          ∙ passed-frame leg (counts_of parts backs) told can.tells
          (with_cell (told_before leg parts.source.core.ticks) cell)
          ∙ ap (λ cells. frame_of (landed_scenario leg (counts_of parts backs)) cells parts.source.core.ticks)
          (sym can.cells)
          ∙ told-frames leg (record (counts_of parts backs) { ticks = parts.source.core.ticks + 1 })
          (sound-walks leg is.sound) walked-after parts.source.core.ticks (omega arith)

      pub tick-makes : Makes leg backs Tick parts (record parts
          { source = source; sent = slice_set sent (parts.source.core.ticks % 32) frame }) Yes
      tick-makes = record {
        counts = counts-are ∙ sym (ap (λ (x : Step). x.counts) moves.moves);
        moved = ap (λ o. answer_by o None) can.free;
        stands = record {
          sound = is.sound;
          total = rest.total ∙ is.total;
          walked = subst (IsWalked leg) (sym counts-are) walked-after;
          source = subst (λ s. HasSource leg s source.core) (sym counts-are) (record {
            made = subst (HasMade source.core
                (told_scenario leg (record (counts_of parts backs) { ticks = parts.source.core.ticks + 1 })))
                (sym can.cells)
                (passed-made leg (counts_of parts backs) told can.tells source.core
                (with_cell (told_before leg parts.source.core.ticks) cell) ticks
                (stands (told_scenario leg (counts_of parts backs))
                (told_before leg parts.source.core.ticks) is.source.made));
            lines = kind.lines ∙ is.source.lines;
            lag = kind.lag ∙ is.source.lag;
            size = kind.size ∙ is.source.size;
            statuses = kind.statuses ∙ is.source.statuses;
          });
          sent = subst (λ n. HasSent leg n (map line_counts parts.lines)
              (slice_set sent (parts.source.core.ticks % 32) frame)) (sym ticks)
              (sent-more leg parts.source.core.ticks (map line_counts parts.lines) sent frame has frame-is
              (ap length frame-is ∙ frame-long leg parts.source.core.ticks ∙ is.sound.network.windows_each));
          lines = is.lines;
          agrees = λ t low. elim (cases_lt t parts.source.core.ticks) [
            | inl less ↦ is.agrees t less
            | inr least ↦ subst (λ n. AgreesAt leg n (windows_in parts.lines))
                (let e : parts.source.core.ticks ≡ t = omega (arith, low, least, ticks) in e) can.agrees
          ];
          sink = sink-stays leg (counts_of parts backs) _ parts.rows parts.sink refl is.sink;
          landed = subst (λ s. HasCounted leg s source.landed) (sym counts-are)
              (subst (HasCounted leg (record (counts_of parts backs) { ticks = parts.source.core.ticks + 1 }))
              (sym rest.landed) (record {
                frames = is.landed.frames;
                commands = is.landed.commands;
                refused = is.landed.refused;
              }));
          counted = is.counted;
        };
      }

      -- by the rings as they are kept, at a number that is that of the frame
      module _ (rows : List (Vec (Box Container))) (row : Vec (Box Container)) (own : frame_in row ≡ frame)
          (same : map frame_in rows ≡ sent) (k : ℕ) (at : k ≡ parts.source.core.ticks % 32) where
        rows-are : slice_set sent (parts.source.core.ticks % 32) frame ≡ map frame_in (slice_set rows k row)
        rows-are =
            sym (map-set frame_in rows k row ∙ ap (slice_set (map frame_in rows) k) own
            ∙ ap (λ j. slice_set (map frame_in rows) j frame) at
            ∙ ap (λ xs. slice_set xs (parts.source.core.ticks % 32) frame) same)

        pub tick-makes_at : Makes leg backs Tick parts
            (record parts { source = source; sent = map frame_in (slice_set rows k row) }) Yes
        tick-makes_at = subst (λ xs. Makes leg backs Tick parts
            (record parts { source = source; sent = xs }) Yes) rows-are tick-makes

  -- ---- the table
  pub source-after : parts.source.core.table.source
      ≡ source_at (landed_scenario leg (counts_of parts backs)) (told_before leg parts.source.core.ticks)
      (steps_in parts.source.core.ticks)
  source-after =
      ap (λ (table : Course). table.source) is.source.made.table
      ∙ told-source leg (counts_of parts backs) (told_before leg parts.source.core.ticks)

  pub table-after : parts.source.core.table.source.table ≡ table_in leg parts.source.core.ticks
  table-after =
      ap (λ (source : Session_source). source.table) source-after
      ∙ table-now leg (counts_of parts backs) (sound-walks leg is.sound) is.walked

  -- ---- the frames that wait
  pub waiting-after : length parts.source.core.queue.waiting ≡ waiting_in leg (counts_of parts backs)
  waiting-after =
      let s : Counts = counts_of parts backs in
      ap length is.source.made.stream.waits
      ∙ ap (λ (stream : Stream). length stream.waiting)
      (told-stream leg s (told_before leg s.ticks)
      ∙ ap (λ (stream : Stream). fold offered stream (frames_at (landed_scenario leg s) s.ticks))
      (told-streams leg s (sound-walks leg is.sound) is.walked s.ticks (omega arith)))

-- ---- of a walk
module _ (leg : Leg) (parts : Parts) (ring : List Packet) (last : Option StepNote)
    (is : LiveStands leg (walking_of parts ring last)) where
  abbrev s : Counts
  s = counts_of parts parts.source.inbox.come

  inbox-size : length parts.source.inbox.cells ≡ in_inbox (walk_plan leg) (counts_of parts parts.source.inbox.come)
  inbox-size =
      ap length is.back.inbox
      ∙ length-map (range_with_len (used_in leg.config.lag parts.source.core.ticks)
      (in_inbox (walk_plan leg) (counts_of parts parts.source.inbox.come))) (back_cell leg)
      ∙ length-range_with_len (used_in leg.config.lag parts.source.core.ticks)
      (in_inbox (walk_plan leg) (counts_of parts parts.source.inbox.come))

  module _ (low : parts.source.core.ticks < leg.config.ticks)
      (none : held parts.source.core.ticks parts.source.landed.frames parts.source.landed.commands 0 (walk_plan leg).items
      ≡ None)
      (slots : full leg.config.ticks parts.source.core.ticks 0 (map line_counts parts.lines) ≡ None) where
    pub missing-stalls : (packet : ℕ) → missing_from parts.source ≡ Some packet →
        Some (BackMissing packet) ≡ (step (walk_plan leg) (counts_of parts parts.source.inbox.come) Tick).cause
    missing-stalls packet misses =
        let (need, empty) = missing-some (needed parts.source.core) parts.source.inbox.cells packet misses in
        missing-cause (walk_plan leg) s low none packet slots
        (ap (λ lag. needed_at lag parts.source.core.ticks) (sym is.stands.source.lag) ∙ need)
        (sym inbox-size ∙ ap length empty)

    pub none-missing : missing_from parts.source ≡ None →
        None ≡ (step (walk_plan leg) (counts_of parts parts.source.inbox.come) Tick).cause
    none-missing there =
        no-cause (walk_plan leg) s low none slots
        (not-missing (walk_plan leg) s parts.source.inbox.cells inbox-size
        (ap (λ lag. missing_by (needed_at lag parts.source.core.ticks) parts.source.inbox.cells)
        (sym is.stands.source.lag) ∙ there))

  module _ (e : None ≡ (step (walk_plan leg) (counts_of parts parts.source.inbox.come) Tick).cause) where
    module _ (cell : Option BackCell)
        (first : cell ≡ cell_for (is_some (needed parts.source.core)) parts.source.inbox.cells) where
      abbrev left-in : Inbox
      left-in = record parts.source.inbox
          { cells = rest_for (is_some (needed parts.source.core)) parts.source.inbox.cells }

      is_taken : IsTaken leg (counts_of parts parts.source.inbox.come) (path_of ring parts.source.inbox) cell
          (path_of ring (record parts.source.inbox
          { cells = rest_for (is_some (needed parts.source.core)) parts.source.inbox.cells }))
      is_taken =
          let fits = walk-fits leg s is.stands.sound is.stands.walked in
          let goes_on = tick-goes (walk_plan leg) s e in
          taken leg s (path_of ring parts.source.inbox) (path_of ring left-in) cell
          (sound-walks leg is.stands.sound) is.stands.walked fits.rows is.back goes_on.1.has_cell
          (subst (λ lag. cell ≡
          (if is_some (needed_at lag parts.source.core.ticks) then slice_get parts.source.inbox.cells 0 else None))
          is.stands.source.lag first)
          (subst (λ lag. path_of ring left-in ≡
          (if is_some (needed_at lag parts.source.core.ticks) then record (path_of ring parts.source.inbox)
          { inbox = drop 1 parts.source.inbox.cells } else path_of ring parts.source.inbox))
          is.stands.source.lag
          (path-left (is_some (needed parts.source.core)) ring parts.source.inbox left-in refl))

      -- without a packet to pass on, where the leg has nothing to tell
      pub can-tick : AgreesAt leg parts.source.core.ticks (windows_in parts.lines) →
          CanTick leg parts.source.inbox.come parts None cell
      can-tick agrees = record {
        free = e;
        agrees = agrees;
        tells = record {
          step = λ at. sym (ap (λ tells. slice_index_or tells (parts.source.core.ticks / 16) untold) is.quiet);
          between = λ other. refl;
        };
        cells = is_taken.told;
      }

      -- the walk after the frame
      module _ (now : Parts) (stands : WayStands leg parts.source.inbox.come now)
          (ticks : now.source.core.ticks ≡ parts.source.core.ticks + 1)
          (boxed : now.source.inbox ≡ record parts.source.inbox
          { cells = rest_for (is_some (needed parts.source.core)) parts.source.inbox.cells })
          (rest : now ≡ record parts { source = now.source; sent = now.sent }) (note : Option StepNote)
          (noted : note ≡ (if parts.source.core.ticks % 16 == 8 then Some
          (record { packet = parts.source.core.ticks / 16; back = cell }) else last)) where
        pub tick-come : now.source.inbox.come ≡ parts.source.inbox.come
        tick-come = ap (λ (i : Inbox). i.come) boxed

        pub tick-live : LiveStands leg (walking_of now ring note)
        tick-live =
            let sunk : now.sink ≡ parts.sink = ap (λ (p : Parts). p.sink) rest in
            record {
              stands = subst (λ n. WayStands leg n now) (sym tick-come) stands;
              back = subst (λ n. HasBack leg (counts_of now n) (path_of ring now.source.inbox)) (sym tick-come)
                  (subst (λ (i : Inbox). HasBack leg (counts_of now parts.source.inbox.come) (path_of ring i))
                  (sym boxed) (record {
                    ring = is.back.ring ∙ ap (λ (k : Core). return_ring leg (record s { rows = k.taken })) (sym sunk);
                    lost = is.back.lost;
                    inbox = is_taken.inbox ∙ ap (λ t. inbox leg (record s { ticks = t })) (sym ticks);
                    room = is.back.room;
                  }));
              noted = note-next leg parts.source.core.ticks cell last note is.noted is_taken.noted noted
                  ∙ ap (λ n. note_of leg (last_packet n)) (sym ticks);
              quiet = is.quiet;
            }

-- by the ticks and the lines as they are read
pub sent-read : (leg : Leg) (ticks now : ℕ) (lines own : List Ringed) (was after : List (List Container)) →
    now ≡ ticks → own ≡ lines →
    (HasSent leg now (map line_counts own) was → HasSent leg now (map line_counts own) after) →
    HasSent leg ticks (map line_counts lines) was → HasSent leg ticks (map line_counts lines) after
sent-read leg ticks now lines own was after same_ticks same_lines keeps has =
    subst (λ n. HasSent leg n (map line_counts lines) after) same_ticks
    (subst (λ ls. HasSent leg now (map line_counts ls) after) same_lines
    (keeps (subst (λ ls. HasSent leg now (map line_counts ls) was) (sym same_lines)
    (subst (λ n. HasSent leg n (map line_counts lines) was) (sym same_ticks) has))))
