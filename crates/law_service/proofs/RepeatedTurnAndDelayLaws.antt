-- Events that are tried again take all rows of a walk, a leg's walk goes by the clock, and delays change no fate.
use Rattle.std.proofs.Common.{◌≡◌, ℕ, zero, suc, ◌+◌, ◌*◌, ◌<◌, ◌≤◌, inl, inr, List, [], ◌∷◌, map, sum, ◌++◌, All}
use Rattle.std.proofs.Common.{length, slice_get, Option, Some, None, refl, sym, ◌∙◌, ap}
use Rattle.std.proofs.Common.{subst, arith, slice_index_or, flat_map}
use Rattle.std.specs.List.{range_with_len}
use Rattle.std.proofs.lemmas.Bool.{cases_lt}
use Rattle.std.proofs.lemmas.List.{length-map}
use Rattle.std.proofs.lemmas.List.Elements.{All-head, All-tail}
use Rattle.std.proofs.lemmas.List.Sums.{sum_by-cons}
use Rattle.law_model.specs.Common.{Container, LinePath, Plan, Counts, step, run, round, bound, due_of, dues_of}
use Rattle.law_model.specs.Common.{sum_delays, Leg, paths_of, scenario_by, IsSound, slip_of, path_of}
use Rattle.law_model.specs.Common.{greatest, least, least_or, Scenario, session_cells, begin}
use Rattle.law_model.specs.declared.script_types.Item.{Item}
use Rattle.law_model.specs.declared.walk_events.Event.{Event}
use Rattle.law_model.specs.declared.walk_events.Event.TheVariants.{Accept, Tick, Carry, Back, Take, Command}
use Rattle.law_model.specs.declared.window_types.Window.{Window}
use Rattle.law_progress.specs.Progress.{IsPlanOf, IsPlan, Fits, made, IsReached, IsPath, AllPaths}
use Rattle.law_progress.specs.Progress.{IsSound as IsSoundPath}
use Rattle.law_progress.proofs.EventOutcomeLaws.{step-gives}
use Rattle.law_progress.proofs.RisingRoundsLaws.{run-rises}
use Rattle.law_progress.proofs.RoundProgressAndDrainLaws.{run-fits, bounded, round-rises, some_moves, rounds_of}
use Rattle.law_progress.proofs.RoundProgressAndDrainLaws.{are-rising, reached-fits, run-append}
use Rattle.law_walk.specs.Common.{IsWalked, sent_on, walk_plan, CanWalk, session_rows, Numbered, landed_items}
use Rattle.law_walk.specs.Common.{refusal_at, numbered, session_pieces, report_of, session_of}
use Rattle.law_walk.proofs.WalkPlanAndPoppedCellLaws.{has-paths, has-plan, sound-walks, has-lines, line-path}
use Rattle.law_walk.proofs.WalkPlanAndPoppedCellLaws.{begins-walked}
use Rattle.law_service.specs.RepeatedTurns.{TriesEach, in_turn, walked_plan, backwards}
use Rattle.std.proofs.lemmas.Option.{slice_get_within, same_Some}
use Rattle.law_model.specs.members.Damage.{carried}
use Rattle.law_progress.proofs.LinePathInNumbersLaws.{is_path, least-first}
use Rattle.law_terminal.proofs.ArrivedCellAndRowLaws.{is-line}
use Rattle.law_terminal.proofs.ContainerPayloadLaws.{containers-size}
use Rattle.law_service.specs.ClockedWalk.{after_rounds, HasDelay, KeepsTime, HasNoSlip, LagsEnough}
use Rattle.law_service.specs.Twins.{whole_walk, with_delays}
use Rattle.law_service.proofs.ClockedWalkRoundLaws.{drain-clock}
use Rattle.law_model.specs.declared.script_types.ItemKind.{ItemKind}
use Rattle.law_model.specs.declared.item_refusals.Refusal.{Refusal}
use Rattle.law_model.specs.declared.script_types.ItemKind.TheVariants.{Frame, Add, Remove}
use Rattle.law_walk.proofs.AcceptedFrameAndDrainedWalkLaws.{drained-ticks, drained-landed, drained-report, drain-ends}
use Rattle.fate_engine.specs.Common.{spoiled_text, segment_text, ended_text, fates_end, fates_text, are_true_marks}
use Rattle.fate_engine.specs.Common.{refused, accepted, Ended, ended_by, fate_at, ended_then, ended_on, ended_among}
use Rattle.fate_engine.specs.Common.{later_segments, spoiled_of}
use Rattle.fate_engine.specs.declared.fate_law.Fate.{Fate}

-- ---- Events that are tried again and again take all rows.
-- ---- rows are never given back
abbrev NoFewer : Counts → Counts → Type 0
NoFewer s next = s.rows ≤ next.rows

step-rows : (plan : Plan) (s : Counts) (event : Event) → NoFewer s (step plan s event).counts
step-rows plan s event = step-gives (λ next. NoFewer s next.counts) plan s event (record {
  stalls = λ cause. omega arith;
  accepts = λ due there now. omega arith;
  commands = λ due there now. omega arith;
  ticks = λ none. omega arith;
  carries = λ lines. omega arith;
  backs = omega arith;
  waits = λ line. omega arith;
  takes = omega arith;
})

pub run-rows : (plan : Plan) (s : Counts) (events : List Event) → NoFewer s (run plan s events)
unfolding run
run-rows plan s [] = omega arith
run-rows plan s (event ∷ events) =
    omega (arith, step-rows plan s event, run-rows plan (step plan s event).counts events)

module _ (slow fast slip : ℕ) (plan : Plan) (is : IsPlanOf slow fast slip plan) where
  pub turn-rises : (s : Counts) (turn : List Event) → Fits plan s → s.rows < plan.ticks → TriesEach plan turn →
      made s < made (run plan s turn)
  turn-rises s turn fits open_ tries =
      let (event, line, more) = some_moves slow fast slip plan is s fits open_ in
      run-rises (rounds_of plan) (Fits plan) (are-rising slow fast slip plan is) s event turn fits (tries event line) more

  no-more : (s : Counts) (events : List Event) → Fits plan s → plan.ticks ≤ s.rows →
      (run plan s events).rows ≡ plan.ticks
  no-more s events fits shut =
      let next = (run-fits slow fast slip plan is s events fits).0 in
      omega (arith, next.rows, run-rows plan s events, shut)

  pub turns-end : (turns : List (List Event)) (s : Counts) → Fits plan s → All (TriesEach plan) turns →
      bound plan ≤ made s + length turns → (run plan s (in_turn turns)).rows ≡ plan.ticks
  turns-end [] s fits each enough = elim (cases_lt s.rows plan.ticks) [
    | inr shut ↦ no-more s [] fits shut
    | inl open_ ↦
        let high = bounded slow fast slip plan is (run plan s (round plan))
        (run-fits slow fast slip plan is s (round plan) fits).0 in
        absurd (omega (arith, round-rises slow fast slip plan is s fits open_, high, enough))
  ]
  turns-end (turn ∷ turns) s fits each enough = elim (cases_lt s.rows plan.ticks) [
    | inr shut ↦ no-more s (turn ++ in_turn turns) fits shut
    | inl open_ ↦
        let next = (run-fits slow fast slip plan is s turn fits).0 in
        ap (λ (c : Counts). c.rows) (run-append plan s turn (in_turn turns))
        ∙ turns-end turns (run plan s turn) next (All-tail (TriesEach plan) turn turns each)
        (omega (arith, turn-rises s turn fits open_ (All-head (TriesEach plan) turn turns each), enough))
  ]

-- ---- what is reached
pub reached-rises : (plan : Plan) (s : Counts) (turn : List Event) → IsPlan plan → IsReached plan s →
    s.rows < plan.ticks → TriesEach plan turn → made s < made (run plan s turn)
reached-rises plan s turn plan_is there open_ tries =
    turn-rises plan_is.slow plan_is.fast plan_is.slip plan plan_is.is s turn (reached-fits plan s plan_is there) open_
    tries

pub reached-turns : (plan : Plan) (s : Counts) (turns : List (List Event)) → IsPlan plan → IsReached plan s →
    All (TriesEach plan) turns → bound plan ≤ made s + length turns →
    (run plan s (in_turn turns)).rows ≡ plan.ticks
reached-turns plan s turns plan_is there each enough =
    turns-end plan_is.slow plan_is.fast plan_is.slip plan plan_is.is turns s (reached-fits plan s plan_is there) each
    enough

pub leg-turns : (leg : Leg) (s : Counts) (turns : List (List Event)) → IsSound leg → IsWalked leg s →
    All (TriesEach (walk_plan leg)) turns → bound (walk_plan leg) ≤ length turns →
    (run (walk_plan leg) s (in_turn turns)).rows ≡ leg.config.ticks
leg-turns leg s turns sound walked each enough =
    reached-turns (walk_plan leg) s turns (has-plan leg (sound-walks leg sound)) walked each (omega (arith, enough))

-- ---- the bound in the numbers of a script
delays-sum : (sent : ℕ → List Container) (lists : List (List Window)) (delays : List ℕ) (from : ℕ) →
    length delays ≡ length lists →
    sum_delays (paths_of lists delays (map sent (range_with_len from (length lists)))) ≡ sum delays
unfolding sum_delays
delays-sum sent [] [] from size = refl
delays-sum sent [] (delay ∷ delays) from size = absurd (omega (arith, size))
delays-sum sent (windows ∷ lists) [] from size = absurd (omega (arith, size))
delays-sum sent (windows ∷ lists) (delay ∷ delays) from size =
    let parts = sum_by-cons (λ (delay : ℕ). delay) delay delays in
    omega (arith, delays-sum sent lists delays (from + 1) (omega (arith, size)), parts)

pub leg-bound : (leg : Leg) → IsSound leg → bound (walk_plan leg)
    ≡ (2 * length leg.config.windows + 3) * leg.config.ticks + sum leg.config.delays + 2 * length leg.config.windows
    + length leg.items
leg-bound leg sound =
    let can = sound-walks leg sound in
    let ticks : ℕ = leg.config.ticks in
    let paths : List LinePath = (walk_plan leg).paths in
    ap (λ n. (2 * n + 3) * ticks + sum_delays paths + 2 * n + length (dues_of leg.items)) (has-paths leg can)
    ∙ ap (λ n. (2 * length leg.config.windows + 3) * ticks + n + 2 * length leg.config.windows
    + length (dues_of leg.items))
    (delays-sum (sent_on (scenario_by leg)) leg.config.windows leg.config.delays 0 can.delays)
    ∙ ap (λ n. (2 * length leg.config.windows + 3) * ticks + sum leg.config.delays + 2 * length leg.config.windows + n)
    (length-map leg.items (λ (item : Item). due_of item.due item.kind))

-- ---- a worked turn
pub backwards-tries : TriesEach walked_plan backwards
backwards-tries Accept has = (5, omega arith, refl)
backwards-tries Command has = (4, omega arith, refl)
backwards-tries Tick has = (3, omega arith, refl)
backwards-tries (Carry zero) has = (2, omega arith, refl)
backwards-tries (Carry (suc m)) has = absurd (omega (arith, has))
backwards-tries Back has = (1, omega arith, refl)
backwards-tries Take has = (0, omega arith, refl)

-- ---- A leg whose walk goes by the clock.
-- ---- the greatest and the least of some numbers
at-most : (ns : List ℕ) (m d : ℕ) → m < length ns → slice_index_or ns m d ≤ greatest ns
at-most [] m d inside = absurd (omega (arith, inside))
at-most (n ∷ ns) zero d inside = omega arith
at-most (n ∷ ns) (suc m) d inside = let rest = at-most ns m d (omega (arith, inside)) in omega (arith, rest)

least-at : (n : ℕ) (ns : List ℕ) (m d : ℕ) → m < length (n ∷ ns) → least_or n ns ≤ slice_index_or (n ∷ ns) m d
least-at n ns zero d inside = least-first n ns
least-at n [] (suc m) d inside = absurd (omega (arith, inside))
least-at n (next ∷ ns) (suc m) d inside = let rest = least-at next ns m d (omega (arith, inside)) in omega (arith, rest)

at-least : (ns : List ℕ) (m d : ℕ) → m < length ns → least ns ≤ slice_index_or ns m d
at-least [] m d inside = absurd (omega (arith, inside))
at-least (n ∷ ns) m d inside = least-at n ns m d inside

greatest-at : (n : ℕ) (ns : List ℕ) → (m : ℕ) × (m < length (n ∷ ns)) ×
    (slice_index_or (n ∷ ns) m 0 ≡ greatest (n ∷ ns))
greatest-at n [] = (0, omega arith, omega arith)
greatest-at n (next ∷ ns) =
    let (m, inside, is) = greatest-at next ns in
    elim (cases_lt n (greatest (next ∷ ns))) [
      | inl less ↦ (suc m, omega (arith, inside), omega (arith, is, less))
      | inr more ↦ (0, omega arith, omega (arith, more))
    ]

has-greatest : (ns : List ℕ) → 0 < length ns → (m : ℕ) × (m < length ns) × (slice_index_or ns m 0 ≡ greatest ns)
has-greatest [] some = absurd (omega (arith, some))
has-greatest (n ∷ ns) some = greatest-at n ns

-- ---- all paths, by their numbers
all-paths : (P : LinePath → Type 0) (paths : List LinePath) →
    ((m : ℕ) (path : LinePath) → slice_get paths m ≡ Some path → P path) → AllPaths P paths
unfolding AllPaths
all-paths P [] each = tt
all-paths P (path ∷ paths) each = (each 0 path refl, all-paths P paths (λ m other here. each (suc m) other here))

module _ (leg : Leg) (sound : IsSound leg) (even : HasNoSlip leg) (lags : LagsEnough leg) where
  can : CanWalk leg
  can = sound-walks leg sound

  abbrev scenario : Scenario
  scenario = scenario_by leg

  abbrev path_in : ℕ → LinePath
  path_in m = path_of (carried (slice_index_or leg.config.windows m [])) (slice_index_or leg.config.delays m 0)
      (sent_on scenario m)

  one-path : (m : ℕ) → m < length leg.config.windows →
      IsSoundPath leg.config.ticks (greatest leg.config.delays) (least leg.config.delays) 0 (path_in m)
  one-path m inside =
      let windows : List Window = slice_index_or leg.config.windows m [] in
      let delay : ℕ = slice_index_or leg.config.delays m 0 in
      let size = containers-size scenario (session_cells scenario) m scenario.ticks in
      let none : slip_of windows ≡ 0 = even m [] inside in
      let path = is_path windows (sent_on scenario m) delay
      (is-line scenario (session_cells scenario) (has-lines leg can) m inside) in
      let delays = can.delays in
      record {
        is_path = subst (λ slip. IsPath leg.config.ticks slip (path_in m)) none
            (subst (λ ticks. IsPath ticks (slip_of windows) (path_in m)) size path);
        most = at-most leg.config.delays m 0 (omega (arith, inside, delays));
        least = at-least leg.config.delays m 0 (omega (arith, inside, delays));
      }

  each-path : (m : ℕ) (path : LinePath) → slice_get (walk_plan leg).paths m ≡ Some path →
      IsSoundPath leg.config.ticks (greatest leg.config.delays) (least leg.config.delays) 0 path
  each-path m path here =
      let within = slice_get_within (walk_plan leg).paths m path here in
      let inside : m < length leg.config.windows = omega (arith, has-paths leg can, within) in
      let same : path_in m ≡ path = same_Some (path_in m) path (sym (line-path leg can m inside) ∙ here) in
      subst (IsSoundPath leg.config.ticks (greatest leg.config.delays) (least leg.config.delays) 0) same
      (one-path m inside)

  is_plan : IsPlanOf (greatest leg.config.delays) (least leg.config.delays) 0 (walk_plan leg)
  is_plan =
      let plan = has-plan leg can in
      let ring = can.ring in
      record {
        some = plan.is.some;
        paths = all-paths
            (IsSoundPath leg.config.ticks (greatest leg.config.delays) (least leg.config.delays) 0)
            (walk_plan leg).paths each-path;
        frames = plan.is.frames;
        commands = plan.is.commands;
        ring = plan.is.ring;
        spread = omega (arith, ring);
        lag = omega (arith, lags);
      }

  slowest : HasDelay (greatest leg.config.delays) (walk_plan leg).paths
  slowest =
      let delays = can.delays in
      let (m, inside, is) = has-greatest leg.config.delays (omega (arith, can.some, delays)) in
      record {
        line = m;
        path = path_in m;
        there = line-path leg can m (omega (arith, inside, delays));
        is = is;
      }

  pub leg-keeps : KeepsTime (greatest leg.config.delays) (least leg.config.delays) (walk_plan leg)
  leg-keeps = record { is_plan = is_plan; slowest = slowest; lag = lags }

  pub leg-clock : whole_walk leg ≡ after_rounds (leg.config.ticks + greatest leg.config.delays) (walk_plan leg)
  leg-clock =
      let some = sound.network.ticks in
      drain-clock (greatest leg.config.delays) (least leg.config.delays) (walk_plan leg) leg-keeps (omega (arith, some))

-- ---- What is written of a leg depends on neither delays nor rings.
pub twin-report : (leg : Leg) (delays : List ℕ) (ring : ℕ) → IsSound leg → IsSound (with_delays leg delays ring) →
    report_of (with_delays leg delays ring) (whole_walk (with_delays leg delays ring))
    ≡ report_of leg (whole_walk leg)
twin-report leg delays ring sound other =
    let twin = with_delays leg delays ring in
    drained-report twin (begin (walk_plan twin)) other (begins-walked twin)
    ∙ sym (drained-report leg (begin (walk_plan leg)) sound (begins-walked leg))

-- ---- the text of fates, by how many ticks were made, rows taken and items have landed
abbrev fates_among : Leg → ℕ → ℕ → List Numbered → List ℕ
fates_among leg ticks rows items =
    flat_map spoiled_text (spoiled_of (scenario_by leg) (session_of leg) rows)
    ++ flat_map (segment_text (session_pieces leg) (session_rows leg rows)) (later_segments (session_rows leg rows))
    ++ flat_map ended_text (ended_among leg rows items)
    ++ fates_end ticks rows (ended_among leg rows items)
    (are_true_marks (session_pieces leg) (session_rows leg rows))

whole-fates : (leg : Leg) → IsSound leg →
    fates_text leg (whole_walk leg) ≡ fates_among leg leg.config.ticks leg.config.ticks (numbered 0 leg.items)
whole-fates leg sound =
    let start : Counts = begin (walk_plan leg) in
    let s : Counts = whole_walk leg in
    let walked = begins-walked leg in
    ap (λ ticks. fates_among leg ticks s.rows (landed_items leg s)) (drained-ticks leg start sound walked)
    ∙ ap (λ rows. fates_among leg leg.config.ticks rows (landed_items leg s))
    (drain-ends leg start (sound-walks leg sound) walked)
    ∙ ap (fates_among leg leg.config.ticks leg.config.ticks) (drained-landed leg start sound walked)

-- what becomes of items is the same
then-same : (fate : ℕ → Fate) (item : Numbered) (why : Option Refusal) (kind : ItemKind) (i : ℕ)
    (one other : ℕ → List Ended) → ((n : ℕ) → one n ≡ other n) →
    ended_then fate item why kind i one ≡ ended_then fate item why kind i other
then-same fate item (Some why) (Frame octets) i one other same =
    ap (λ l. ended_by item octets (refused why) ∷ l) (same i)
then-same fate item None (Frame octets) i one other same =
    ap (λ l. ended_by item octets (accepted (fate i)) ∷ l) (same (suc i))
then-same fate item None (Add line) i one other same = same i
then-same fate item (Some why) (Add line) i one other same = same i
then-same fate item None (Remove line) i one other same = same i
then-same fate item (Some why) (Remove line) i one other same = same i

pub ended-same : (leg : Leg) (delays : List ℕ) (ring : ℕ) (fate : ℕ → Fate) (items : List Numbered) (i : ℕ) →
    ended_on (with_delays leg delays ring) fate items i ≡ ended_on leg fate items i
unfolding ended_on
ended-same leg delays ring fate [] i = refl
ended-same leg delays ring fate (item ∷ items) i =
    then-same fate item (refusal_at leg item) item.item.kind i (ended_on (with_delays leg delays ring) fate items)
    (ended_on leg fate items) (ended-same leg delays ring fate items)

pub twin-fates : (leg : Leg) (delays : List ℕ) (ring : ℕ) → IsSound leg → IsSound (with_delays leg delays ring) →
    fates_text (with_delays leg delays ring) (whole_walk (with_delays leg delays ring))
    ≡ fates_text leg (whole_walk leg)
twin-fates leg delays ring sound other =
    let ticks = leg.config.ticks in
    let pieces = session_pieces leg in
    let rows = session_rows leg ticks in
    whole-fates (with_delays leg delays ring) other
    ∙ ap (λ all. flat_map spoiled_text (spoiled_of (scenario_by leg) (session_of leg) ticks)
    ++ flat_map (segment_text pieces rows) (later_segments rows)
    ++ flat_map ended_text all ++ fates_end ticks ticks all (are_true_marks pieces rows))
    (ended-same leg delays ring (fate_at pieces rows) (numbered 0 leg.items) 0)
    ∙ sym (whole-fates leg sound)
