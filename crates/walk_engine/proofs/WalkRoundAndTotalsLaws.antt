-- Rounds of a walk until it is drained, the rows and frames they give, its totals, known lines and mark.
use Rattle.std.proofs.Common.{◌≡◌, ℕ, Bool, true, false, zero, suc, ◌+◌, ◌-◌, ◌<◌, ◌≤◌, ◌&&◌, nat_le, nat_lt, inl, inr}
use Rattle.std.proofs.Common.{List, [], ◌∷◌, ◌++◌, length, replicate, drop, slice_get, Option, Some, None, refl, sym}
use Rattle.std.proofs.Common.{◌∙◌, ap, subst, arith, append_assoc, min, ◌*◌, ◌/◌, if◌then◌else◌, map, is_some, ◌^◌}
use Rattle.std.proofs.Common.{ap₂}
use Rattle.std.proofs.lemmas.Option.{slice_get_within}
use Rattle.std.proofs.lemmas.Bool.{cases_Bool, le-ltb}
use Rattle.std.proofs.lemmas.List.{append-nil, drop_all, replicate-append-replicate}
use Rattle.std.proofs.Math.Seq.{drop-append_seam}
use Rattle.law_model.specs.Common.{Leg, Due, frame_due, command_due, LinePath, LineCounts, Plan, Counts, Step, in_send}
use Rattle.law_model.specs.Common.{in_receive, in_return, held, full, is_missing, tick_full, tick_held, carry_at}
use Rattle.law_model.specs.Common.{pop_lines, take_popped, is_back_full, tick, take_row, land_due, frame_dues}
use Rattle.law_model.specs.Common.{command_dues, step, run, carries_from, round, drain, bound, IsSound, Start, leg_of}
use Rattle.law_model.specs.Common.{most_items, Cell, scenario_by, is_known, Scenario, Told, session_cells}
use Rattle.law_model.specs.Common.{segments_of, rows_of}
use Rattle.law_model.specs.declared.script_types.Script.{Script}
use Rattle.law_model.specs.declared.walk_events.Event.{Event}
use Rattle.law_model.specs.declared.walk_events.Event.TheVariants.{Accept, Tick, Carry, Back, Take, Command}
use Rattle.law_model.specs.declared.walk_events.StallCause.{StallCause}
use Rattle.law_model.specs.declared.walk_events.StallCause.TheVariants.{NotDue, Done}
use Rattle.law_model.specs.declared.item_refusals.Refusal.{Refusal}
use Rattle.law_model.specs.session.Counts.{back}
use Rattle.law_progress.specs.Progress.{made}
use Rattle.law_progress.proofs.RoundProgressAndDrainLaws.{round-less, drain-round, drain-stop, run-append}
use Rattle.law_walk.specs.Common.{walk_plan, IsWalked, delivered_of, totals_of, refusals_of, session_of, popped_cells}
use Rattle.law_walk.specs.Common.{session_rows}
use Rattle.law_walk.proofs.WalkPlanAndPoppedCellLaws.{has-plan, sound-walks, carriers-are, rows-are}
use Rattle.law_walk.proofs.DeliveredFrameCountLaws.{frames-grow, delivered-few, place-most}
use Rattle.walk_engine.specs.Common.{answer_by, moved_of, counts_after, refusal_in_event, GivesRows, landing_of}
use Rattle.walk_engine.specs.Common.{Walked, Parts, counts_of, line_counts}
use Rattle.law_walk.specs.DeliveredFrames.{delivered_since}
use Rattle.walk_engine.specs.declared.walk_core.step_answers.Moved.{Moved}
use Rattle.walk_engine.specs.declared.walk_core.step_answers.Moved.TheVariants.{Yes, Stalled, Refused}
use Rattle.walk_engine.proofs.WayEventAndToldSourceLaws.{walk-fits}
use Rattle.law_model.specs.declared.session_totals.Totals.{Totals}
use Rattle.terminal_group.proofs.RefusalOrderAndNextItemLaws.{all-dues}
use Rattle.walk_engine.specs.walk_core.WayParts.{WayStands}
use Rattle.law_model.specs.declared.script_types.Options.{Options}
use Rattle.terminal_sink.specs.sink_core.Core.{SinkStands as HasTaken}
use Rattle.terminal_sink.specs.sink_core.TakenAndGiven.{knows_at, received_rows}
use Rattle.law_loss.proofs.SegmentsOfAddedRowsLaws.{Stands-all}
use Rattle.law_loss.proofs.SessionStreamLossLaws.{rows-length}
use Rattle.law_walk.proofs.AcceptedFrameAndDrainedWalkLaws.{counts-within}
use Rattle.terminal_sink.proofs.ReceivedRowAndGivenFrameLaws.{session-last}
use Rattle.terminal_sink.specs.marked_delineator.Marks.{first_place}

-- ---- Rounds of a walk: items land until they stall, each line is tried once, and so for the rest.
-- ---- each line once
pub drop-next : {X : Type 0} (xs : List X) (m : ℕ) → m < length xs → (x : X) × (drop m xs ≡ x ∷ drop (suc m) xs)
drop-next [] m h = absurd (omega arith)
drop-next (x ∷ xs) zero h = (x, refl)
drop-next (x ∷ xs) (suc m) h = drop-next xs m (omega arith)

carry-next : (plan : Plan) (s : Counts) (paths : List LinePath) (m : ℕ) → m < length paths →
    run plan s (carries_from m (drop m paths)) ≡ run plan (step plan s (Carry m)).counts
    (carries_from (suc m) (drop (suc m) paths))
unfolding run carries_from
carry-next plan s paths m h = let (x, e) = drop-next paths m h in rw e refl

carry-last : (plan : Plan) (s : Counts) (paths : List LinePath) (m : ℕ) → length paths ≤ m →
    run plan s (carries_from m (drop m paths)) ≡ run plan s (Back ∷ Take ∷ [])
unfolding carries_from
carry-last plan s paths m h = rw (drop_all m paths h) refl

-- ---- items land until they stall
pub replicate-add : {X : Type 0} (a b : ℕ) (x : X) → replicate (a + b) x ≡ replicate a x ++ replicate b x
replicate-add a b x = sym (replicate-append-replicate a b x)

run-same : (plan : Plan) (s : Counts) (event : Event) (k : ℕ) → (step plan s event).counts ≡ s →
    run plan s (replicate k event) ≡ s
unfolding run
run-same plan s event zero e = refl
run-same plan s event (suc k) e = ap (λ next. run plan next (replicate k event)) e ∙ run-same plan s event k e

frames-few : (items : List Due) → length (frame_dues items) ≤ length items
unfolding frame_dues
frames-few [] = omega arith
frames-few (frame_due due ∷ items) = let rest = frames-few items in omega (arith, rest)
frames-few (command_due due ∷ items) = let rest = frames-few items in omega (arith, rest)

commands-few : (items : List Due) → length (command_dues items) ≤ length items
unfolding command_dues
commands-few [] = omega arith
commands-few (frame_due due ∷ items) = let rest = commands-few items in omega (arith, rest)
commands-few (command_due due ∷ items) = let rest = commands-few items in omega (arith, rest)

-- the due ticks of a kind of items, how many of them have landed, and one more
abbrev dues_of : Bool → List Due → List ℕ
dues_of true items = frame_dues items
dues_of false items = command_dues items

abbrev pub landed_of : Bool → Counts → ℕ
landed_of true s = s.frames
landed_of false s = s.commands

abbrev and_one : Bool → Counts → Counts
and_one true s = record s { frames = s.frames + 1 }
and_one false s = record s { commands = s.commands + 1 }

dues-few : (client : Bool) (items : List Due) → length (dues_of client items) ≤ length items
dues-few true items = frames-few items
dues-few false items = commands-few items

one-more : (client : Bool) (s : Counts) → landed_of client (and_one client s) ≡ landed_of client s + 1
one-more true s = refl
one-more false s = refl

land-step : (client : Bool) (plan : Plan) (s : Counts) → step plan s (landing_of client)
    ≡ land_due s.ticks (slice_get (dues_of client plan.items) (landed_of client s)) s (and_one client s)
land-step true plan s = refl
land-step false plan s = refl

stalls-same : (ticks : ℕ) (due : Option ℕ) (s next : Counts) (why : Option Refusal) (cause : StallCause) →
    Stalled cause ≡ answer_by (land_due ticks due s next).cause why → (land_due ticks due s next).counts ≡ s
stalls-same ticks None s next why cause e = refl
stalls-same ticks (Some due) s next None cause e =
    elim (cases_Bool (nat_lt ticks due))
    [ inl h ↦ rw h refl | inr h ↦ absurd (let f : Stalled cause ≡ Yes = rw h at e in cc) ]
stalls-same ticks (Some due) s next (Some why) cause e =
    elim (cases_Bool (nat_lt ticks due))
    [ inl h ↦ rw h refl | inr h ↦ absurd (let f : Stalled cause ≡ Refused why = rw h at e in cc) ]

moves-on : (ticks : ℕ) (due : Option ℕ) (s next : Counts) (why : Option Refusal) →
    ((cause : StallCause) → Stalled cause ≡ answer_by (land_due ticks due s next).cause why → ⊥) →
    ((land_due ticks due s next).counts ≡ next) × (d : ℕ) × (due ≡ Some d)
moves-on ticks None s next why none = absurd (none Done refl)
moves-on ticks (Some due) s next why none =
    elim (cases_Bool (nat_lt ticks due))
    [ inl h ↦ absurd (none (NotDue due) (rw h refl)) | inr h ↦ rw h (refl, due, refl) ]

-- where an event stalled after k that moved, so many more than k give the same
stalled-all : (plan : Plan) (start s : Counts) (event : Event) (k most : ℕ) → s ≡ run plan start (replicate k event) →
    k ≤ most → (step plan s event).counts ≡ s →
    (step plan s event).counts ≡ run plan start (replicate (suc most) event)
stalled-all plan start s event k most is few same =
    let j : ℕ = suc most - k in
    same ∙ sym (run-same plan s event j same) ∙ ap (λ s. run plan s (replicate j event)) is
    ∙ sym (run-append plan start (replicate k event) (replicate j event))
    ∙ ap (run plan start) (sym (replicate-add k j event)
    ∙ ap (λ n. replicate n event) (let e : k + j ≡ suc most = omega (arith, few) in e))

moved-one : (plan : Plan) (start s : Counts) (event : Event) (k : ℕ) → s ≡ run plan start (replicate k event) →
    (step plan s event).counts ≡ run plan start (replicate (suc k) event)
unfolding run
moved-one plan start s event k is =
    ap (λ s. (step plan s event).counts) is ∙ sym (run-append plan start (replicate k event) (event ∷ []))
    ∙ ap (run plan start) (sym (replicate-add k 1 event)
    ∙ ap (λ n. replicate n event) (let e : k + 1 ≡ suc k = omega arith in e))

-- the loop: k items have landed
abbrev pub Landed : Plan → Counts → Counts → Event → (Counts → ℕ) → Type 0
Landed plan start s event count = (k : ℕ) × (s ≡ run plan start (replicate k event)) × (count s ≡ count start + k) ×
    (k ≤ length plan.items)

pub landed-none : (plan : Plan) (start : Counts) (event : Event) (count : Counts → ℕ) →
    Landed plan start start event count
unfolding run
landed-none plan start event count = (0, refl, omega arith, omega arith)

-- a walk whose answer to the next event of a loop is known
abbrev pub IsMoving : Moved → Type 0
IsMoving moved = (cause : StallCause) → moved ≡ Stalled cause → ⊥

module _ (leg : Leg) (start : Counts) where
  pub land-turn : (client : Bool) (s next : Counts) (moved : Moved) →
      Landed (walk_plan leg) start s (landing_of client) (landed_of client) →
      next ≡ counts_after leg s (landing_of client) → moved ≡ moved_of leg s (landing_of client) → IsMoving moved →
      Landed (walk_plan leg) start next (landing_of client) (landed_of client) ×
      (length (walk_plan leg).items - landed_of client next < length (walk_plan leg).items - landed_of client s)
  land-turn client s next moved (k, is, sum, few) after said moving =
      let steps = land-step client (walk_plan leg) s in
      let due = slice_get (dues_of client (walk_plan leg).items) (landed_of client s) in
      let (then_, d, here) = moves-on s.ticks due s (and_one client s) (refusal_in_event leg s (landing_of client))
      (λ cause e. moving cause (said
      ∙ ap (λ (t : Step). answer_by t.cause (refusal_in_event leg s (landing_of client))) steps ∙ sym e)) in
      let inside = slice_get_within (dues_of client (walk_plan leg).items) (landed_of client s) d here in
      let most = dues-few client (walk_plan leg).items in
      let count : landed_of client next ≡ landed_of client s + 1 =
      ap (landed_of client) (after ∙ ap (λ (t : Step). t.counts) steps ∙ then_) ∙ one-more client s in (
        (
          suc k,
          after ∙ moved-one (walk_plan leg) start s (landing_of client) k is,
          omega (arith, count, sum),
          omega (arith, sum, inside, most),
        ),
        omega (arith, count, inside, most),
      )

  pub land-end : (client : Bool) (s next : Counts) (cause : StallCause) →
      Landed (walk_plan leg) start s (landing_of client) (landed_of client) →
      next ≡ counts_after leg s (landing_of client) → Stalled cause ≡ moved_of leg s (landing_of client) →
      next ≡ run (walk_plan leg) start (replicate (suc (length (walk_plan leg).items)) (landing_of client))
  land-end client s next cause (k, is, sum, few) after stalls =
      let steps = land-step client (walk_plan leg) s in
      let due = slice_get (dues_of client (walk_plan leg).items) (landed_of client s) in
      let why = refusal_in_event leg s (landing_of client) in
      after ∙ stalled-all (walk_plan leg) start s (landing_of client) k (length (walk_plan leg).items) is few
      (ap (λ (t : Step). t.counts) steps ∙ stalls-same s.ticks due s (and_one client s) why cause
      (stalls ∙ ap (λ (t : Step). answer_by t.cause why) steps))

  pub carry-turn : (s next : Counts) (m : ℕ) (whole : Counts) → m < length (walk_plan leg).paths →
      run (walk_plan leg) s (carries_from m (drop m (walk_plan leg).paths)) ≡ whole →
      next ≡ counts_after leg s (Carry m) →
      run (walk_plan leg) next (carries_from (m + 1) (drop (m + 1) (walk_plan leg).paths)) ≡ whole
  carry-turn s next m whole low so after =
      ap (λ k. run (walk_plan leg) next (carries_from k (drop k (walk_plan leg).paths)))
      (let e : m + 1 ≡ suc m = omega arith in e)
      ∙ ap (λ s. run (walk_plan leg) s (carries_from (suc m) (drop (suc m) (walk_plan leg).paths))) after
      ∙ sym (carry-next (walk_plan leg) s (walk_plan leg).paths m low) ∙ so

  pub carry-end : (s : Counts) (m : ℕ) (whole : Counts) → length (walk_plan leg).paths ≤ m →
      run (walk_plan leg) s (carries_from m (drop m (walk_plan leg).paths)) ≡ whole →
      run (walk_plan leg) s (Back ∷ Take ∷ []) ≡ whole
  carry-end s m whole past so = sym (carry-last (walk_plan leg) s (walk_plan leg).paths m past) ∙ so

  -- ---- a round, by its parts
  -- what comes after its tick
  pub finish-parts : (m r e : Counts) →
      run (walk_plan leg) m (Back ∷ Take ∷ []) ≡ run (walk_plan leg) start (carries_from 0 (walk_plan leg).paths) →
      r ≡ counts_after leg m Back → e ≡ counts_after leg r Take →
      e ≡ run (walk_plan leg) start (carries_from 0 (walk_plan leg).paths)
  unfolding run
  finish-parts m r e is_m is_r is_e = is_e ∙ ap (λ r. counts_after leg r Take) is_r ∙ is_m

  pub tick-parts : (t e : Counts) → t ≡ counts_after leg start Tick →
      e ≡ run (walk_plan leg) t (carries_from 0 (walk_plan leg).paths) →
      e ≡ run (walk_plan leg) start (Tick ∷ carries_from 0 (walk_plan leg).paths)
  unfolding run
  tick-parts t e is_t is_e = is_e ∙ ap (λ t. run (walk_plan leg) t (carries_from 0 (walk_plan leg).paths)) is_t

  pub round-parts : (a b t e : Counts) →
      a ≡ run (walk_plan leg) start (replicate (suc (length (walk_plan leg).items)) Accept) →
      b ≡ run (walk_plan leg) a (replicate (suc (length (walk_plan leg).items)) Command) →
      t ≡ counts_after leg b Tick → e ≡ run (walk_plan leg) t (carries_from 0 (walk_plan leg).paths) →
      e ≡ run (walk_plan leg) start (round (walk_plan leg))
  unfolding run
  round-parts a b t e is_a is_b is_t is_e =
      let p : Plan = walk_plan leg in
      let as_ : List Event = replicate (suc (length p.items)) Accept in
      let bs_ : List Event = replicate (suc (length p.items)) Command in
      let cs_ : List Event = carries_from 0 p.paths in
      is_e ∙ ap (λ t. run p t cs_) is_t
      ∙ ap (λ b. run p b (Tick ∷ cs_)) (is_b ∙ ap (λ a. run p a bs_) is_a)
      ∙ sym (run-append p (run p start as_) bs_ (Tick ∷ cs_)) ∙ sym (run-append p start as_ (bs_ ++ Tick ∷ cs_))

  -- ---- rounds until all rows are taken
  pub round-turn : (next : Counts) → IsSound leg → IsWalked leg start → start.rows < leg.config.ticks →
      next ≡ run (walk_plan leg) start (round (walk_plan leg)) →
      (bound (walk_plan leg) - made next < bound (walk_plan leg) - made start) ×
      (drain (bound (walk_plan leg)) (walk_plan leg) next ≡ drain (bound (walk_plan leg))
      (walk_plan leg) start)
  round-turn next sound walked open_ is =
      let plans = has-plan leg (sound-walks leg sound) in
      let fits = walk-fits leg start sound walked in
      let less = round-less (walk_plan leg) start plans fits open_ in
      let same = ap made is in (
        omega (arith, less, same),
        ap (drain (bound (walk_plan leg)) (walk_plan leg)) is
            ∙ drain-round (walk_plan leg) start plans fits open_,
      )

  pub drained-end : (whole : Counts) → leg.config.ticks ≤ start.rows →
      drain (bound (walk_plan leg)) (walk_plan leg) start ≡ whole → start ≡ whole
  drained-end whole shut so = sym (drain-stop (bound (walk_plan leg)) (walk_plan leg) start shut) ∙ so

-- ---- only a Take raises the rows
land-rows : (ticks : ℕ) (due : Option ℕ) (s next : Counts) → next.rows ≡ s.rows →
    (land_due ticks due s next).counts.rows ≡ s.rows
land-rows ticks None s next e = refl
land-rows ticks (Some due) s next e = elim (cases_Bool (nat_lt ticks due)) [ inl h ↦ rw h refl | inr h ↦ rw h e ]

pub landed-rows : (client : Bool) (leg : Leg) (s : Counts) → (counts_after leg s (landing_of client)).rows ≡ s.rows
landed-rows true leg s = land-rows s.ticks (slice_get (frame_dues (walk_plan leg).items) s.frames) s
    (and_one true s) refl
landed-rows false leg s = land-rows s.ticks (slice_get (command_dues (walk_plan leg).items) s.commands) s
    (and_one false s) refl

back-rows : (s : Counts) → (back s).counts.rows ≡ s.rows
back-rows s = elim (cases_Bool (nat_le (in_return s) 0)) [ inl h ↦ rw h refl | inr h ↦ rw h refl ]

full-rows : (line : Option ℕ) (plan : Plan) (s : Counts) → (tick_full line plan s).counts.rows ≡ s.rows
full-rows (Some line) plan s = refl
full-rows None plan s = elim (cases_Bool (is_missing plan s)) [ inl h ↦ rw h refl | inr h ↦ rw h refl ]

held-rows : (item : Option ℕ) (plan : Plan) (s : Counts) → (tick_held item plan s).counts.rows ≡ s.rows
held-rows (Some item) plan s = refl
held-rows None plan s = full-rows (full plan.ticks s.ticks 0 s.lines) plan s

tick-rows : (plan : Plan) (s : Counts) → (tick plan s).counts.rows ≡ s.rows
tick-rows plan s =
    elim (cases_Bool (nat_le plan.ticks s.ticks)) [
      | inl h ↦ rw h refl
      | inr h ↦ rw h (held-rows (held s.ticks s.frames s.commands 0 plan.items) plan s)
    ]

carried-rows : (plan : Plan) (s : Counts) (m : ℕ) (path : Option LinePath) (line : Option LineCounts) →
    (carry_at plan s m path line).counts.rows ≡ s.rows
carried-rows plan s m None line = refl
carried-rows plan s m (Some path) None = refl
carried-rows plan s m (Some path) (Some line) =
    elim (cases_Bool (nat_lt (plan.ticks + path.delay) line.carried)) [
      | inl a ↦ rw a refl
      | inr a ↦ rw a (elim (cases_Bool (nat_lt line.carried plan.ticks && nat_le (in_send plan.ticks s.ticks line) 0)) [
        | inl b ↦ rw b refl
        | inr b ↦ rw b (elim (cases_Bool (nat_le plan.ring (in_receive path line)))
            [ inl d ↦ rw d refl | inr d ↦ rw d refl ])
      ])
    ]

pub carry-rows : (leg : Leg) (s : Counts) (m : ℕ) → (counts_after leg s (Carry m)).rows ≡ s.rows
carry-rows leg s m = carried-rows (walk_plan leg) s m (slice_get (walk_plan leg).paths m) (slice_get s.lines m)

popped-rise : (s : Counts) (lines : List LineCounts) (waiting : Option ℕ) →
    s.rows ≤ (take_popped s lines waiting).counts.rows
popped-rise s lines (Some line) = omega arith
popped-rise s lines None = omega arith

take-rises : (plan : Plan) (s : Counts) → s.rows ≤ (take_row plan s).counts.rows
take-rises plan s =
    elim (cases_Bool (nat_le plan.ticks s.rows)) [
      | inl a ↦ rw a (omega arith)
      | inr a ↦ rw a (elim (cases_Bool (is_back_full s)) [
        | inl b ↦ rw b (omega arith)
        | inr b ↦ rw b (popped-rise s (pop_lines s.rows 0 plan.paths s.lines).lines
            (pop_lines s.rows 0 plan.paths s.lines).waiting)
      ])
    ]

-- ---- the frames of more rows
since : (leg : Leg) (n more : ℕ) → n ≤ more →
    delivered_of leg more ≡ delivered_of leg n ++ delivered_since leg n more
since leg n more low =
    let e : n + (more - n) ≡ more = omega (arith, low) in
    ap (delivered_of leg) (sym e) ∙ frames-grow leg n (more - n)
    ∙ ap (λ k. delivered_of leg n ++ delivered_since leg n k) e

pub since-then : (leg : Leg) (a b d : ℕ) → a ≤ b → b ≤ d →
    delivered_since leg a d ≡ delivered_since leg a b ++ delivered_since leg b d
since-then leg a b d low high =
    ap (drop (length (delivered_of leg a)))
    (since leg b d high ∙ ap (λ xs. xs ++ delivered_since leg b d) (since leg a b low)
    ∙ append_assoc (delivered_of leg a) (delivered_since leg a b) (delivered_since leg b d))
    ∙ drop-append_seam (delivered_of leg a) (delivered_since leg a b ++ delivered_since leg b d)

pub since-none : (leg : Leg) (a : ℕ) → delivered_since leg a a ≡ []
since-none leg a = ap (drop (length (delivered_of leg a))) (sym (append-nil (delivered_of leg a)))
    ∙ drop-append_seam (delivered_of leg a) []

-- ---- the rows of a round
pub tick-kept : (leg : Leg) (s t : Counts) → t ≡ counts_after leg s Tick → t.rows ≡ s.rows
tick-kept leg s t is_t = ap (λ (x : Counts). x.rows) is_t ∙ tick-rows (walk_plan leg) s

pub back-kept : (leg : Leg) (m r : Counts) → r ≡ counts_after leg m Back → r.rows ≡ m.rows
back-kept leg m r is_r = ap (λ (x : Counts). x.rows) is_r ∙ back-rows m

-- ---- no event takes rows back
step-rises : (leg : Leg) (s : Counts) (event : Event) → s.rows ≤ (counts_after leg s event).rows
step-rises leg s Accept = let e = landed-rows true leg s in omega (arith, e)
step-rises leg s Command = let e = landed-rows false leg s in omega (arith, e)
step-rises leg s Tick = let e = tick-rows (walk_plan leg) s in omega (arith, e)
step-rises leg s (Carry m) = let e = carry-rows leg s m in omega (arith, e)
step-rises leg s Back = let e = back-rows s in omega (arith, e)
step-rises leg s Take = take-rises (walk_plan leg) s

run-rises : (leg : Leg) (s : Counts) (events : List Event) → s.rows ≤ (run (walk_plan leg) s events).rows
unfolding run
run-rises leg s [] = omega arith
run-rises leg s (event ∷ events) =
    let one = step-rises leg s event in
    let rest = run-rises leg (counts_after leg s event) events in
    omega (arith, one, rest)

-- ---- of the walk of a script, as it is and as its view says, after some rounds, which left the script
module _ (was now : Walked) (view : was ≡ now) (script : Script) (same : now.script ≡ script)
    (sound : IsSound (leg_of was.script)) (walked : IsWalked (leg_of was.script) was.counts) where
  abbrev plan : Plan
  plan = walk_plan (leg_of script)

  here : was.script ≡ script
  here = ap (λ (w : Walked). w.script) view ∙ same

  own : IsSound (leg_of script) × IsWalked (leg_of script) now.counts
  own = subst (λ (x : Script). IsSound (leg_of x) × IsWalked (leg_of x) now.counts) here
      (sound, subst (λ (w : Walked). IsWalked (leg_of was.script) w.counts) view walked)

  seen-rows : was.counts.rows ≡ now.counts.rows
  seen-rows = ap (λ (w : Walked). w.counts.rows) view

  seen-ticks : was.script.config.ticks ≡ script.config.ticks
  seen-ticks = ap (λ (x : Script). x.config.ticks) here

  -- a round more
  pub script-turn : was.counts.rows < was.script.config.ticks → (next : Counts) →
      next ≡ run (walk_plan (leg_of now.script)) now.counts (round (walk_plan (leg_of now.script))) →
      ((bound (walk_plan (leg_of script)) - made next < bound (walk_plan (leg_of script)) - made now.counts)
      × (drain (bound (walk_plan (leg_of script))) (walk_plan (leg_of script)) next
      ≡ drain (bound (walk_plan (leg_of script))) (walk_plan (leg_of script)) now.counts))
      × (now.counts.rows ≤ next.rows)
  script-turn open_ next is =
      let after : next ≡ run plan now.counts (round plan) = is
      ∙ ap (λ (x : Script). run (walk_plan (leg_of x)) now.counts (round (walk_plan (leg_of x)))) same in
      let rises = run-rises (leg_of script) now.counts (round plan) in
      let count = ap (λ (s : Counts). s.rows) after in (
        round-turn (leg_of script) now.counts next own.0 own.1 (omega (arith, open_, seen-rows, seen-ticks)) after,
        omega (arith, rises, count),
      )

  -- the last round was made
  pub script-end : was.script.config.ticks ≤ was.counts.rows → (whole : Counts) →
      drain (bound (walk_plan (leg_of script))) (walk_plan (leg_of script)) now.counts ≡ whole →
      (now.counts ≡ whole) × (now.counts.rows ≡ script.config.ticks)
  script-end shut whole so =
      let past : script.config.ticks ≤ now.counts.rows = omega (arith, shut, seen-rows, seen-ticks) in
      let most = (walk-fits (leg_of script) now.counts own.0 own.1).rows in
      (drained-end (leg_of script) now.counts whole past so, omega (arith, past, most))

-- ---- a place that is given the frames of rows
pub gives-none : {Out : Type 0} (stands_for : Out → Start → List (List ℕ) → Type 0) (out : Out) (leg : Leg)
    (before rows : ℕ) → rows ≡ before → GivesRows stands_for out out leg before rows
gives-none stands_for out leg before rows same start given stands =
    let none = ap (delivered_since leg before) same ∙ since-none leg before in
    subst (stands_for out start) (sym (ap (λ more. given ++ more) none ∙ append-nil given)) stands

pub gives-then : {Out : Type 0} (stands_for : Out → Start → List (List ℕ) → Type 0) (was now next : Out)
    (leg : Leg) (a b d : ℕ) → a ≤ b → b ≤ d →
    GivesRows stands_for was now leg a b → GivesRows stands_for now next leg b d →
    GivesRows stands_for was next leg a d
gives-then stands_for was now next leg a b d low high first then_ start given stands =
    let whole = append_assoc given (delivered_since leg a b) (delivered_since leg b d)
    ∙ ap (λ more. given ++ more) (sym (since-then leg a b d low high)) in
    subst (stands_for next start) whole (then_ start (given ++ delivered_since leg a b) (first start given stands))

-- ---- The totals of one direction.
abbrev totals_with : ℕ → ℕ → ℕ → ℕ → ℕ → ℕ → Totals
totals_with ticks taken frames commands refused got = record
    { ticks = ticks; taken = taken; frames = frames; commands = commands; refused = refused; got = got }

module _ (leg : Leg) (backs : ℕ) (parts : Parts) (is : WayStands leg backs parts) where
  all-counted : parts.got ≡ length (delivered_of leg parts.sink.taken)
  all-counted =
      let most = delivered-few leg parts.sink.taken is.sound
      (walk-fits leg (counts_of parts backs) is.sound is.walked).rows in
      let counted = is.counted in
      omega (arith, most, counted)

  -- no more items were refused than a count holds
  refused-few : length (refusals_of leg (counts_of parts backs)) ≤ most_items
  refused-few =
      let s : Counts = counts_of parts backs in
      let fits = walk-fits leg s is.sound is.walked in
      let frames = fits.frames in
      let commands = fits.commands in
      let all = all-dues leg.items in
      let of_frames = is.landed.frames in
      let of_commands = is.landed.commands in
      let refused = is.landed.refused in
      let few = is.sound.few in
      omega (arith, frames, commands, all, of_frames, of_commands, refused, few)

  pub totals-are : (ticks taken frames commands refused : ℕ) → ticks ≡ parts.source.core.ticks →
      taken ≡ parts.sink.taken →
      frames ≡ parts.source.landed.frames - parts.source.landed.refused_frames →
      commands ≡ parts.source.landed.commands - parts.source.landed.refused_commands →
      refused ≡ min (parts.source.landed.refused_frames + parts.source.landed.refused_commands) 4294967295 →
      totals_with ticks taken frames commands refused parts.got ≡ totals_of leg (counts_of parts backs)
  totals-are ticks taken frames commands refused is_ticks is_taken more most all =
      let t : Totals = totals_of leg (counts_of parts backs) in
      let is_frames : frames ≡ t.frames = let e = is.landed.frames in omega (arith, e, more) in
      let is_commands : commands ≡ t.commands = let e = is.landed.commands in omega (arith, e, most) in
      let is_refused : refused ≡ t.refused =
      (let e = is.landed.refused in let few = refused-few in omega (arith, e, few, all)) in
      ap (λ n. totals_with n taken frames commands refused parts.got) is_ticks
      ∙ ap (λ n. totals_with t.ticks n frames commands refused parts.got) is_taken
      ∙ ap (λ n. totals_with t.ticks t.taken n commands refused parts.got) is_frames
      ∙ ap (λ n. totals_with t.ticks t.taken t.frames n refused parts.got) is_commands
      ∙ ap (λ n. totals_with t.ticks t.taken t.frames t.commands n parts.got) is_refused
      ∙ ap (totals_with t.ticks t.taken t.frames t.commands t.refused) all-counted

-- ---- The sink knows which lines carry payload where the session says so.
some-where : {X : Type 0} (known : Bool) (x : X) → is_some (if known then Some x else None) ≡ known
some-where true x = refl
some-where false x = refl

module _ (leg : Leg) (backs : ℕ) (parts : Parts) (result : Bool) (is : WayStands leg backs parts)
    (said : (cells : List (List Cell)) → HasTaken parts.sink cells →
    result ≡ knows_at parts.sink.options cells parts.sink.taken) where
  abbrev popped : List (List Cell)
  popped = popped_cells leg (map line_counts parts.lines)

  by-cells : result ≡ knows_at leg.config.options (popped_cells leg (map line_counts parts.lines)) parts.sink.taken
  by-cells = said popped is.sink.taken
      ∙ ap (λ (options : Options). knows_at options popped parts.sink.taken) is.sink.options

  pub known-is : 24 ≤ parts.sink.taken →
      result ≡ is_known (scenario_by leg) (session_of leg) ((parts.sink.taken - 24) / 16)
  known-is late =
      let k : ℕ = (parts.sink.taken - 24) / 16 in
      let past : nat_lt parts.sink.taken 24 ≡ false = le-ltb parts.sink.taken 24 late in
      let low : 16 * k + 23 < parts.sink.taken = omega (arith, late) in
      by-cells
      ∙ rw past (ap is_some (carriers-are leg (counts_of parts backs) (sound-walks leg is.sound) is.walked k low)
      ∙ some-where (is_known (scenario_by leg) (session_of leg) k) _)

-- ---- The mark of the segment that goes on is that of the session's rows.
pub mark-is : (leg : Leg) (backs : ℕ) (parts : Parts) (result : Option ℕ) → WayStands leg backs parts →
    ((cells : List (List Cell)) → HasTaken parts.sink cells →
    length (segments_of (received_rows parts.sink.options parts.sink.size cells parts.sink.taken)).last.octets
    < 2 ^ 64 → result
    ≡ first_place (segments_of (received_rows parts.sink.options parts.sink.size cells parts.sink.taken)).last.octets) →
    result ≡ first_place (segments_of (session_rows leg parts.sink.taken)).last.octets
mark-is leg backs parts result is said =
    let scenario : Scenario = scenario_by leg in
    let cells : List (Option Told) = session_cells (scenario_by leg) in
    let popped : List (List Cell) = popped_cells leg (map line_counts parts.lines) in
    let taken : ℕ = parts.sink.taken in
    let can = sound-walks leg is.sound in
    let within = counts-within leg (counts_of parts backs) can is.walked in
    let same : (segments_of (received_rows leg.config.options leg.config.size popped taken)).last.octets ≡
    (segments_of (rows_of scenario cells taken)).last.octets =
    session-last scenario cells popped taken (λ t low. rows-are leg (counts_of parts backs) can is.walked t low) in
    let sized : (segments_of (received_rows parts.sink.options parts.sink.size popped taken)).last.octets ≡
    (segments_of (rows_of scenario cells taken)).last.octets =
    ap₂ (λ options size. (segments_of (received_rows options size popped taken)).last.octets) is.sink.options
    is.sink.size ∙ same in
    let stands = Stands-all (rows_of scenario cells taken) in
    let octets = rows-length scenario cells taken taken (omega arith) in
    let few = place-most leg taken is.sound (omega (arith, within.0, within.1)) in
    said popped is.sink.taken (omega (arith, ap length sized, stands.ends, octets, few)) ∙ ap first_place sized
