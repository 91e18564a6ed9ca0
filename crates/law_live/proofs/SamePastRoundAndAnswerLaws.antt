-- Two legs in which the same was said so far: their rounds make the same counts, and they answer the same.
use Rattle.std.proofs.Common.{◌≡◌, ℕ, zero, suc, ◌+◌, ◌-◌, ◌<◌, ◌≤◌, ◌&&◌, min, nat_le, nat_lt, inl, inr, List, []}
use Rattle.std.proofs.Common.{◌∷◌, slice_get, slice_set, Option, Some, None, if◌then◌else◌, refl, sym, ◌∙◌, ap, ap₂}
use Rattle.std.proofs.Common.{subst, arith, ◌*◌, ◌++◌, map, take, drop, length, replicate}
use Rattle.std.proofs.lemmas.Bool.{cases_Bool, leb-false}
use Rattle.law_model.specs.Common.{Counts, Due, LineCounts, LinePath, Plan, Popped, Step, bound, carries_from, carry}
use Rattle.law_model.specs.Common.{carry_at, full, in_receive, in_send, is_back_full, moved, pop, pop_lines}
use Rattle.law_model.specs.Common.{popped_line, run, stalled, step, take_popped, take_row, tick, tick_full, tick_held}
use Rattle.law_model.specs.Common.{with_line, IsSound, Leg, begin, due_of, dues_of}
use Rattle.law_model.specs.Common.{scenario_by, steps_in}
use Rattle.law_model.specs.session.Counts.{back}
use Rattle.law_model.specs.declared.walk_events.Event.TheVariants.{Back, Carry, Tick}
use Rattle.law_model.specs.declared.walk_events.StallCause.TheVariants.{BackFull, Done, Empty, RxFull}
use Rattle.law_progress.specs.Progress.{Each, Fits, IsPlanOf, LineFits, IsPlan}
use Rattle.law_progress.proofs.EventBoundAndStallCauseLaws.{each-at}
use Rattle.law_progress.proofs.RoundProgressAndDrainLaws.{rows-ticks, step-fits, begin-fits, reached-fits}
use Rattle.law_live.specs.Common.{after_rounds, live_round, rounds_for, rounds_until, Agrees, CanSay, CanSayAll}
use Rattle.law_live.specs.Common.{HasLater, IsWellSaid, Live, Saying, answers, answers_from, answers_to, counts_from}
use Rattle.law_live.specs.Common.{counts_said, cuts, got_at, item_answers, lands, live_after, live_counts, live_from}
use Rattle.law_live.specs.Common.{live_of, mends, now_at, opened, pass_ends, passes, queue_at, refused_answer, round_answers}
use Rattle.law_live.specs.Common.{rounds_answers, rounds_from, rounds_of, rounds_said, steps_between, waiting_at}
use Rattle.law_live.proofs.LiveRoundAndLandingLaws.{IsSettled, Settled, settled-at, settled-free, enough, fits-round}
use Rattle.law_live.proofs.LiveRoundAndLandingLaws.{settled-round, goes-back, goes-carry, goes-round, goes-tick}
use Rattle.law_live.proofs.SamePastTableAndCellLaws.{AtAlike, PathAlike, PathsAlike, SameBelow, alike-at}
use Rattle.law_live.proofs.SamePastTableAndCellLaws.{agrees-with_parts, cells-same-legs as cells-same, delivered-same}
use Rattle.law_live.proofs.SamePastTableAndCellLaws.{leg_with, refused-same, same-below, tables-same, paths-alike, waiting-same}
use Rattle.std.proofs.lemmas.List.{length-map}
use Rattle.std.proofs.Math.Seq.{take-append_seam}
use Rattle.law_model.specs.declared.script_types.Config.{Config}
use Rattle.law_model.specs.declared.script_types.Item.{Item}
use Rattle.law_model.specs.declared.script_types.ItemKind.{ItemKind}
use Rattle.law_model.specs.declared.window_types.Window.{Window}
use Rattle.law_walk.specs.Common.{CanWalk, cell_taken, kind_refusal, session_of, table_in, walk_plan}
use Rattle.law_walk.proofs.WalkPlanAndPoppedCellLaws.{has-paths, has-plan, sound-walks}
use Rattle.law_live.proofs.ConversationCountAndScriptLaws.{Stands, fits-after, item-lands, later-all, later-less}
use Rattle.law_live.proofs.ConversationCountAndScriptLaws.{settles, stands-after, stands-begun}
use Rattle.law_live.proofs.AnsweredFrameAndRefusalLaws.{dues-size}
use Rattle.law_live.proofs.AgreeingLegConversationLaws.{agrees-stands, said-walked}

-- ---- Two walks in numbers whose lines are the same so far: a round makes the same of the same counts, and so do as many as it
-- takes until some ticks are made.
-- ---- cells that are popped
pop-same : (one other : LinePath) (t k y top : ℕ) → ((z : ℕ) → z ≤ top → one.decided z ≡ other.decided z) →
    y + k ≤ top → pop k one t y ≡ pop k other t y
unfolding pop
pop-same one other t zero y top same fits = refl
pop-same one other t (suc k) y top same fits =
    ap (λ decided. if nat_le decided t then pop k one t (suc y) else y) (same y (omega (arith, fits)))
    ∙ ap (λ popped. if nat_le (other.decided y) t then popped else y)
    (pop-same one other t k (suc y) top same (omega (arith, fits)))

pop-most : (one : LinePath) (t k y : ℕ) → pop k one t y ≤ y + k
unfolding pop
pop-most one t zero y = omega arith
pop-most one t (suc k) y = elim (cases_Bool (nat_le (one.decided y) t)) [
  | inl e ↦ rw e (let rest = pop-most one t k (suc y) in omega (arith, rest))
  | inr e ↦ rw e (omega arith)
]

-- a row by what the cells of a line decide once some were popped
abbrev popped_by : ℕ → ℕ → List LineCounts → ℕ → LineCounts → Popped → Popped
popped_by t m lines decided line rest =
    if nat_le decided t then record { lines = line ∷ lines; waiting = Some m } else with_line line rest

-- a carry by the delay of a line and how many cells it gave
abbrev carry_by : Plan → Counts → ℕ → LineCounts → ℕ → ℕ → Step
carry_by plan s m line delay given =
    if nat_lt (plan.ticks + delay) line.carried then stalled s Done
    else (if nat_lt line.carried plan.ticks && nat_le (in_send plan.ticks s.ticks line) 0 then stalled s (Empty m)
    else (if nat_le plan.ring (given - line.popped) then stalled s (RxFull m)
    else moved (record s { lines = slice_set s.lines m (record line { carried = line.carried + 1 }) })))

carries-same : (total n m : ℕ) (ones others : List LinePath) → PathsAlike total n ones others →
    carries_from m ones ≡ carries_from m others
unfolding PathsAlike carries_from
carries-same total n m [] [] alike = refl
carries-same total n m [] (other ∷ others) alike = absurd alike
carries-same total n m (one ∷ ones) [] alike = absurd alike
carries-same total n m (one ∷ ones) (other ∷ others) alike =
    ap (λ events. Carry m ∷ events) (carries-same total n (suc m) ones others alike.1)

module _ (total ring ticks rows n : ℕ) (low : ticks ≤ n) where
  line-same : (one other : LinePath) (line : LineCounts) (t : ℕ) → PathAlike total n one other →
      LineFits total ring ticks rows one line → popped_line one t line ≡ popped_line other t line
  line-same one other line t alike fits =
      let sent = fits.sent in
      let pops = fits.pops in
      let early : min line.carried total ≤ n = omega (arith, sent, low) in
      let given = alike.given line.carried early in
      ap (λ y. record line { popped = y })
      (ap (λ g. pop (g - line.popped) one t line.popped) given
      ∙ pop-same one other t (in_receive other line) line.popped (one.given line.carried)
      (λ z few. alike.decided line.carried z fits.carries early few) (omega (arith, given, pops)))

  pub lines-same : (t m : ℕ) (ones others : List LinePath) (lines : List LineCounts) → PathsAlike total n ones others →
      Each (LineFits total ring ticks rows) ones lines → pop_lines t m ones lines ≡ pop_lines t m others lines
  unfolding PathsAlike Each pop_lines
  lines-same t m [] [] lines alike fits = refl
  lines-same t m [] (other ∷ others) lines alike fits = absurd alike
  lines-same t m (one ∷ ones) [] lines alike fits = absurd alike
  lines-same t m (one ∷ ones) (other ∷ others) [] alike fits = refl
  lines-same t m (one ∷ ones) (other ∷ others) (line ∷ lines) alike fits =
      let sent = fits.0.sent in
      let pops = fits.0.pops in
      let early : min line.carried total ≤ n = omega (arith, sent, low) in
      let popped : LineCounts = popped_line one t line in
      let most = pop-most one t (in_receive one line) line.popped in
      let decided : one.decided popped.popped ≡ other.decided popped.popped =
      alike.0.decided line.carried popped.popped fits.0.carries early (omega (arith, most, pops)) in
      ap₂ (λ d rest. popped_by t m lines d popped rest) decided (lines-same t (suc m) ones others lines alike.1 fits.1)
      ∙ ap (λ (l : LineCounts). popped_by t m lines (other.decided l.popped) l (pop_lines t (suc m) others lines))
      (line-same one other line t alike.0 fits.0)

-- ---- each event of a round
module _ (plan : Plan) (items : List Due) (paths : List LinePath) (n : ℕ)
    (alike : PathsAlike plan.ticks n plan.paths paths)
  where
    abbrev other : Plan
    other = record plan { items = items; paths = paths }

    take-same : (s : Counts) → Fits plan s → s.ticks ≤ n → take_row plan s ≡ take_row other s
    take-same s fits low =
        ap (λ (popped : Popped). if nat_le plan.ticks s.rows then stalled s Done
        else (if is_back_full s then stalled s BackFull else take_popped s popped.lines popped.waiting))
        (lines-same plan.ticks plan.ring s.ticks s.rows n low s.rows 0 plan.paths paths s.lines alike fits.lines)

    pub carry-same : (s : Counts) (m : ℕ) → Fits plan s → s.ticks ≤ n → carry plan s m ≡ carry other s m
    carry-same s m fits low =
        by (slice_get plan.paths m) (slice_get paths m) (slice_get s.lines m) refl refl
        (alike-at plan.ticks n plan.paths paths m alike)
      where
        by : (here there : Option LinePath) (line : Option LineCounts) → slice_get plan.paths m ≡ here →
            slice_get s.lines m ≡ line → AtAlike plan.ticks n here there →
            carry_at plan s m here line ≡ carry_at other s m there line
        by None None line p l alike = refl
        by None (Some there) line p l alike = absurd alike
        by (Some here) None line p l alike = absurd alike
        by (Some here) (Some there) None p l alike = refl
        by (Some here) (Some there) (Some line) p l alike =
            let fit = each-at (LineFits plan.ticks plan.ring s.ticks s.rows) plan.paths s.lines m here line fits.lines p l in
            let sent = fit.sent in
            ap₂ (carry_by plan s m line) alike.delay (alike.given line.carried (omega (arith, sent, low)))

    full-same : (line : Option ℕ) (s : Counts) → tick_full line plan s ≡ tick_full line other s
    full-same None s = refl
    full-same (Some line) s = refl

    tick-same : (s : Counts) → IsSettled plan s → IsSettled other s → tick plan s ≡ tick other s
    tick-same s settled settled' =
        ap (λ item. if nat_le plan.ticks s.ticks then stalled s Done else tick_held item plan s)
        (settled-free plan s settled)
        ∙ ap (λ next. if nat_le plan.ticks s.ticks then stalled s Done else next)
        (full-same (full plan.ticks s.ticks 0 s.lines) s)
        ∙ ap (λ item. if nat_le plan.ticks s.ticks then stalled s Done else tick_held item other s)
        (sym (settled-free other s settled'))

    module _ (slow fast slip : ℕ) (is : IsPlanOf slow fast slip plan) where
      rest-same : (m : ℕ) (rest : List LinePath) (s : Counts) → Fits plan s → s.ticks ≤ n →
          run plan s (carries_from m rest) ≡ run other s (carries_from m rest)
      unfolding run carries_from
      rest-same m [] s fits low =
          let up = (goes-back plan s).most in
          ap (λ (made : Step). made.counts)
          (take-same (back s).counts (step-fits slow fast slip plan is s Back fits).0 (omega (arith, up, low)))
      rest-same m (path ∷ rest) s fits low =
          let up = (goes-carry plan s m).most in
          rest-same (suc m) rest (step plan s (Carry m)).counts (step-fits slow fast slip plan is s (Carry m) fits).0
          (omega (arith, up, low))
          ∙ ap (λ (made : Step). run other made.counts (carries_from (suc m) rest)) (carry-same s m fits low)

      pub round-same : (s : Counts) → Fits plan s → IsSettled plan s → IsSettled other s → s.ticks < n →
          live_round plan s ≡ live_round other s
      unfolding run
      round-same s fits settled settled' low =
          let up = (goes-tick plan s).most in
          rest-same 0 plan.paths (tick plan s).counts (step-fits slow fast slip plan is s Tick fits).0
          (omega (arith, up, low))
          ∙ ap (λ (made : Step). run other made.counts (carries_from 0 plan.paths)) (tick-same s settled settled')
          ∙ ap (run other (tick other s).counts) (carries-same plan.ticks n 0 plan.paths paths alike)

-- ---- rounds that make the same
pub record Turn (plan second : Plan) (n : ℕ) (s : Counts) : Type 0 where
  pub same : live_round plan s ≡ live_round second s
  pub rows : s.rows ≤ n
  pub next : (live_round plan s).rows ≤ n

unfoldable pub Together : Plan → Plan → ℕ → ℕ → Counts → Type 0
Together plan second n zero s = Unit {0}
Together plan second n (suc rounds) s = Turn plan second n s × Together plan second n rounds (live_round plan s)

pub after-same : (plan second : Plan) (n rounds : ℕ) (s : Counts) → Together plan second n rounds s →
    after_rounds rounds plan s ≡ after_rounds rounds second s
unfolding Together after_rounds
after-same plan second n zero s together = refl
after-same plan second n (suc rounds) s together =
    after-same plan second n rounds (live_round plan s) together.1
    ∙ ap (after_rounds rounds second) together.0.same

-- more rounds than enough change nothing
more-rounds : (slow fast slip : ℕ) (plan : Plan) (is : IsPlanOf slow fast slip plan) (more from until : ℕ) (s : Counts) →
    Fits plan s → Settled plan from until s → from ≤ s.ticks → until ≤ plan.ticks →
    rounds_until (bound plan + more) plan until s ≡ rounds_until (bound plan) plan until s
more-rounds slow fast slip plan is zero from until s fits settled low few =
    let e : bound plan + 0 ≡ bound plan = omega arith in ap (λ k. rounds_until k plan until s) e
more-rounds slow fast slip plan is (suc more) from until s fits settled low few =
    let e : bound plan + suc more ≡ suc (bound plan + more) = omega arith in
    ap (λ k. rounds_until k plan until s) e
    ∙ enough slow fast slip plan is (bound plan + more) from until s fits settled low few (omega arith)
    ∙ more-rounds slow fast slip plan is more from until s fits settled low few

pub swapped : (a b : ℕ) → a + b ≡ b + a
swapped a b = omega arith

module _ (plan : Plan) (items : List Due) (paths : List LinePath) (n : ℕ)
    (alike : PathsAlike plan.ticks n plan.paths paths) (slow fast slip : ℕ) (is : IsPlanOf slow fast slip plan)
  where
    abbrev twin : Plan
    twin = record plan { items = items; paths = paths }

    module _ (from until : ℕ) (most : until ≤ n) where
      turns : (s : Counts) → Fits plan s → Settled plan from until s → Settled twin from until s → from ≤ s.ticks →
          s.ticks < until → live_round plan s ≡ live_round twin s
      turns s fits settled settled' low left =
          round-same plan items paths n alike slow fast slip is s fits (settled-at plan from until s settled low left)
          (settled-at twin from until s settled' low left) (omega (arith, left, most))

      settled-next : (s : Counts) → live_round plan s ≡ live_round twin s → Settled twin from until s →
          Settled twin from until (live_round plan s)
      settled-next s same settled' =
          subst (λ next. Settled twin from until next) (sym same) (settled-round twin from until s settled')

      pub until-same : (k : ℕ) (s : Counts) → Fits plan s → Settled plan from until s → Settled twin from until s →
          from ≤ s.ticks → rounds_until k plan until s ≡ rounds_until k twin until s
      unfolding rounds_until
      until-same zero s fits settled settled' low = refl
      until-same (suc k) s fits settled settled' low = elim (cases_Bool (nat_le until s.ticks)) [
        | inl e ↦ rw e refl
        | inr e ↦
            let left = leb-false until s.ticks e in
            let same = turns s fits settled settled' low left in
            let up = (goes-round plan s).ticks in
            rw e (ap suc (until-same k (live_round plan s) (fits-round slow fast slip plan is s fits)
            (settled-round plan from until s settled) (settled-next s same settled') (omega (arith, low, up))
            ∙ ap (rounds_until k twin until) same))
      ]

      pub together : (k : ℕ) (s : Counts) → Fits plan s → Settled plan from until s → Settled twin from until s →
          from ≤ s.ticks → Together plan twin n (rounds_until k plan until s) s
      unfolding rounds_until Together
      together zero s fits settled settled' low = tt
      together (suc k) s fits settled settled' low = elim (cases_Bool (nat_le until s.ticks)) [
        | inl e ↦ rw e tt
        | inr e ↦
            let left = leb-false until s.ticks e in
            let same = turns s fits settled settled' low left in
            let up = (goes-round plan s).ticks in
            let once = (goes-round plan s).most in
            let next = fits-round slow fast slip plan is s fits in
            let rows = rows-ticks slow fast slip plan is s fits in
            let rows' = rows-ticks slow fast slip plan is (live_round plan s) next in
            let turn : Turn plan twin n s = record {
              same = same;
              rows = omega (arith, rows, left, most);
              next = omega (arith, rows', once, left, most);
            } in
            let rest = together k (live_round plan s) next (settled-round plan from until s settled)
            (settled-next s same settled') (omega (arith, low, up)) in
            rw e (turn, rest)
      ]

    -- ---- a pass
    module _ (slow' fast' slip' : ℕ) (is' : IsPlanOf slow' fast' slip' twin) where
      pub for-same : (k from : ℕ) (s : Counts) → Fits plan s → Fits twin s → Settled plan from (s.ticks + k) s →
          Settled twin from (s.ticks + k) s → from ≤ s.ticks → s.ticks + k ≤ plan.ticks → s.ticks + k ≤ n →
          rounds_for k plan s ≡ rounds_for k twin s
      for-same k from s fits fits' settled settled' low few most =
          sym (more-rounds slow fast slip plan is (bound twin) from (s.ticks + k) s fits settled low few)
          ∙ until-same from (s.ticks + k) most (bound plan + bound twin) s fits settled settled' low
          ∙ ap (λ rounds. rounds_until rounds twin (s.ticks + k) s) (swapped (bound plan) (bound twin))
          ∙ more-rounds slow' fast' slip' twin is' (bound plan) from (s.ticks + k) s fits' settled' low few

-- ---- the items of a leg that have landed are those that were said
pub first-items : (live : Live) (s : Counts) (all : List Item) → Stands live s → HasLater live all →
    take (s.frames + s.commands) all ≡ live.items
first-items live s all stands more =
    let sizes = dues-size (dues_of live.items) in
    let size = length-map live.items (λ (item : Item). due_of item.due item.kind) in
    let frames = stands.frames in
    let commands = stands.commands in
    let number : s.frames + s.commands ≡ length live.items = omega (arith, sizes, size, frames, commands) in
    ap (λ count. take count all) number
    ∙ ap (take (length live.items)) more.are
    ∙ take-append_seam live.items more.later

-- ---- Two legs in which the same was said so far: what is answered to it is the same.
-- ticks never go back
pub passed-rises : (said : List Saying) (live : Live) → live.passed ≤ (live_from live said).passed
unfolding live_from
passed-rises [] live = omega arith
passed-rises (saying ∷ said) live =
    let rest = passed-rises said (live_after live saying) in
    let first = up saying in
    omega (arith, rest, first)
  where
    up : (saying : Saying) → live.passed ≤ (live_after live saying).passed
    up (lands kind) = omega arith
    up (cuts m) = omega arith
    up (mends m) = omega arith
    up (passes k) = omega arith

-- what comes of a saying, and of one after another
pub record SameSaying (leg other-answers : Leg) (s : Counts) (saying : Saying) : Type 0 where
  pub counts : counts_said (walk_plan leg) s saying ≡ counts_said (walk_plan other-answers) s saying
  pub rounds : rounds_said (walk_plan leg) s saying ≡ rounds_said (walk_plan other-answers) s saying
  pub answers : answers_to leg s saying ≡ answers_to other-answers s saying

pub record SameSaid (leg other-answers : Leg) (s : Counts) (said : List Saying) : Type 0 where
  pub counts : counts_from (walk_plan leg) s said ≡ counts_from (walk_plan other-answers) s said
  pub rounds : rounds_from (walk_plan leg) s said ≡ rounds_from (walk_plan other-answers) s said
  pub answers : answers_from leg s said ≡ answers_from other-answers s said

module _ (config : Config) (now : Live) (windows windows' : List (List Window)) (items items' : List Item)
    (lag : 1 ≤ config.lag) (most : now.passed ≤ config.ticks)
    (agrees : Agrees config now (leg_with config windows items))
    (agrees' : Agrees config now (leg_with config windows' items'))
    (can : CanWalk (leg_with config windows items)) (can' : CanWalk (leg_with config windows' items'))
  where
    abbrev leg : Leg
    leg = leg_with config windows items

    abbrev other-answers : Leg
    other-answers = leg_with config windows' items'

    abbrev plan : Plan
    plan = walk_plan (leg_with config windows items)

    abbrev twin-answers : Plan
    twin-answers = walk_plan (leg_with config windows' items')

    plan_is : IsPlan plan
    plan_is = has-plan leg can

    twin_is : IsPlan twin-answers
    twin_is = has-plan other-answers can'

    same : SameBelow (scenario_by leg) (scenario_by other-answers) 0 now.passed
    same = same-below config now windows windows' items items' lag most agrees agrees'

    alike : PathsAlike config.ticks now.passed plan.paths twin-answers.paths
    alike = paths-alike leg other-answers 0 now.passed same can can'

    -- ---- rounds
    round-same-answers : (s next : Counts) → s.rows ≤ now.passed → next.rows ≤ now.passed →
        round_answers leg s next ≡ round_answers other-answers s next
    round-same-answers s next low low' =
        ap₂ (λ was made. steps_between s.ticks next.ticks ++ map (got_at next.ticks) (drop (length was) made))
        (delivered-same leg other-answers 0 now.passed same s.rows low)
        (delivered-same leg other-answers 0 now.passed same next.rows low')

    rounds-same : (rounds : ℕ) (s : Counts) → Together plan twin-answers now.passed rounds s →
        rounds_answers rounds leg s ≡ rounds_answers rounds other-answers s
    unfolding Together rounds_answers
    rounds-same zero s turns = refl
    rounds-same (suc rounds) s turns =
        ap₂ ◌++◌ (round-same-answers s (live_round plan s) turns.0.rows turns.0.next)
        (rounds-same rounds (live_round plan s) turns.1)
        ∙ ap (λ next. round_answers other-answers s next ++ rounds_answers rounds other-answers next) turns.0.same

    -- ---- an item
    item-same : (live : Live) (s : Counts) (kind : ItemKind) → Stands live s → HasLater live items →
        HasLater live items' → s.ticks ≤ now.passed → item_answers leg s kind ≡ item_answers other-answers s kind
    item-same live s kind stands more more' low =
        ap (refused_answer (s.frames + s.commands))
        (ap (λ earlier. kind_refusal (scenario_by leg) (session_of leg) s.ticks earlier kind)
        (first-items live s items stands more ∙ sym (first-items live s items' stands more'))
        ∙ refused-same leg other-answers 0 now.passed same s.ticks (take (s.frames + s.commands) items') kind low)

    -- ---- ticks that pass
    settled : (live : Live) (s : Counts) (k : ℕ) (of : List (List Window)) (all : List Item) → Stands live s →
        HasLater (live_after live (passes k)) all →
        Settled (walk_plan (leg_with config of all)) live.passed (s.ticks + k) s
    settled live s k of all stands more =
        let ticks = stands.ticks in
        settles (leg_with config of all) live (s.ticks + k) s stands more.later more.are
        (λ j d inside. let late = more.late j d inside in omega (arith, late, ticks))

    ends-same : (was made : ℕ) → was ≤ now.passed → made ≤ now.passed →
        pass_ends leg was made ≡ pass_ends other-answers was made
    ends-same was made low most' =
        ap₂ (λ before behind. queue_at before behind ∷ now_at made ∷ [])
        (waiting-same leg other-answers 0 now.passed same was low)
        (waiting-same leg other-answers 0 now.passed same made most')

    pass-same : (live : Live) (s : Counts) (k : ℕ) → CanSay config.ticks live (passes k) → Stands live s → Fits plan s →
        Fits twin-answers s → HasLater (live_after live (passes k)) items → HasLater (live_after live (passes k)) items' →
        live.passed + k ≤ now.passed → SameSaying leg other-answers s (passes k)
    pass-same live s k can stands fits fits' more more' low =
        let ticks = stands.ticks in
        let here = settled live s k windows items stands more in
        let there = settled live s k windows' items' stands more' in
        let turns : Together plan twin-answers now.passed (rounds_for k plan s) s =
        together plan twin-answers.items twin-answers.paths now.passed alike plan_is.slow plan_is.fast plan_is.slip plan_is.is
        live.passed (s.ticks + k) (omega (arith, ticks, low)) _ s fits here there (omega (arith, ticks)) in
        let rounds : rounds_for k plan s ≡ rounds_for k twin-answers s =
        for-same plan twin-answers.items twin-answers.paths now.passed alike plan_is.slow plan_is.fast plan_is.slip plan_is.is
        twin_is.slow twin_is.fast twin_is.slip twin_is.is k live.passed s fits fits' here there (omega (arith, ticks))
        (let left = can.left in omega (arith, ticks, left)) (omega (arith, ticks, low)) in
        let made = (stands-after leg plan_is.slow plan_is.fast plan_is.slip plan_is.is live s (passes k) can stands fits
        more).ticks in
        let counts : counts_said plan s (passes k) ≡ counts_said twin-answers s (passes k) =
        after-same plan twin-answers now.passed (rounds_for k plan s) s turns ∙ ap (λ n. after_rounds n twin-answers s) rounds in
        let last = ap (λ (c : Counts). c.ticks) counts in
        record {
          counts = counts;
          rounds = rounds;
          answers = ap₂ (λ told (made : Counts). told ++ pass_ends leg s.ticks made.ticks)
              (rounds-same (rounds_for k plan s) s turns ∙ ap (λ n. rounds_answers n other-answers s) rounds) counts
              ∙ ap (λ told. rounds_answers (rounds_for k twin-answers s) other-answers s ++ told)
              (ends-same s.ticks (counts_said twin-answers s (passes k)).ticks (omega (arith, ticks, low))
              (omega (arith, made, last, low)));
        }

    -- ---- sayings
    one-same : (live : Live) (s : Counts) (saying : Saying) → CanSay config.ticks live saying → Stands live s →
        Fits plan s → Fits twin-answers s → HasLater (live_after live saying) items → HasLater (live_after live saying) items' →
        (live_after live saying).passed ≤ now.passed → SameSaying leg other-answers s saying
    one-same live s (lands kind) can stands fits fits' more more' low =
        let ticks = stands.ticks in
        record {
          counts = item-lands leg live s kind stands more ∙ sym (item-lands other-answers live s kind stands more');
          rounds = refl;
          answers = item-same live s kind stands (later-less live (lands kind) items more)
              (later-less live (lands kind) items' more') (omega (arith, ticks, low));
        }
    one-same live s (cuts m) can stands fits fits' more more' low = record { counts = refl; rounds = refl; answers = refl }
    one-same live s (mends m) can stands fits fits' more more' low =
        record { counts = refl; rounds = refl; answers = refl }
    one-same live s (passes k) can stands fits fits' more more' low =
        pass-same live s k can stands fits fits' more more' low

    all-same : (said : List Saying) (live : Live) (s : Counts) → CanSayAll config.ticks live said → Stands live s →
        Fits plan s → Fits twin-answers s → HasLater (live_from live said) items → HasLater (live_from live said) items' →
        (live_from live said).passed ≤ now.passed → SameSaid leg other-answers s said
    unfolding CanSayAll counts_from rounds_from answers_from live_from
    all-same [] live s can stands fits fits' more more' low = record { counts = refl; rounds = refl; answers = refl }
    all-same (saying ∷ said) live s can stands fits fits' more more' low =
        let after : Live = live_after live saying in
        let first = later-all said after items more in
        let first' = later-all said after items' more' in
        let up = passed-rises said after in
        let one = one-same live s saying can.0 stands fits fits' first first' (omega (arith, up, low)) in
        let next : Counts = counts_said plan s saying in
        let rest = all-same said after next can.1
        (stands-after leg plan_is.slow plan_is.fast plan_is.slip plan_is.is live s saying can.0 stands fits first)
        (fits-after leg plan_is.slow plan_is.fast plan_is.slip plan_is.is s saying fits)
        (subst (λ (c : Counts). Fits twin-answers c) (sym one.counts)
        (fits-after other-answers twin_is.slow twin_is.fast twin_is.slip twin_is.is s saying fits')) more more' low in
        record {
          counts = rest.counts ∙ ap (λ c. counts_from twin-answers c said) one.counts;
          rounds = ap₂ ◌+◌ one.rounds (rest.rounds ∙ ap (λ c. rounds_from twin-answers c said) one.counts);
          answers = ap₂ ◌++◌ one.answers (rest.answers ∙ ap (λ c. answers_from other-answers c said) one.counts);
        }

    -- ---- from the beginning
    begin-same : begin plan ≡ begin twin-answers
    begin-same =
        ap (λ size. let s : Counts = record {
          ticks = 0;
          frames = 0;
          commands = 0;
          lines = replicate size (record { carried = 0; popped = 0 });
          rows = 0;
          backs = 0;
        } in s) (has-paths leg can ∙ agrees.lines ∙ sym agrees'.lines ∙ sym (has-paths other-answers can'))

    pub begun-same : (said : List Saying) → CanSayAll config.ticks (opened config) said →
        HasLater (live_of config said) items → HasLater (live_of config said) items' →
        (live_of config said).passed ≤ now.passed → SameSaid leg other-answers (begin plan) said
    begun-same said can more more' low =
        all-same said (opened config) (begin plan) can (stands-begun config leg)
        (begin-fits plan_is.slow plan_is.fast plan_is.slip plan plan_is.is)
        (subst (λ (c : Counts). Fits twin-answers c) (sym begin-same)
        (begin-fits twin_is.slow twin_is.fast twin_is.slip twin-answers twin_is.is)) more more' low

-- ---- all that two legs have in common
pub record Later (config : Config) (said : List Saying) (leg other-answers : Leg) : Type 0 where
  pub counts : live_counts leg said ≡ live_counts other-answers said
  pub rounds : rounds_of leg said ≡ rounds_of other-answers said
  pub answers : answers leg said ≡ answers other-answers said
  pub cells : (j : ℕ) → j < steps_in (live_of config said).passed → cell_taken leg j ≡ cell_taken other-answers j
  pub tables : (j : ℕ) → j < steps_in (live_of config said).passed →
      table_in leg (16 * j + 9) ≡ table_in other-answers (16 * j + 9)
  pub waiting : (t : ℕ) → t ≤ (live_of config said).passed → waiting_at leg t ≡ waiting_at other-answers t

later-with : (config : Config) (said : List Saying) (windows windows' : List (List Window)) (items items' : List Item) →
    IsSound (leg_with config windows items) → IsSound (leg_with config windows' items') → IsWellSaid config said →
    Agrees config (live_of config said) (leg_with config windows items) →
    Agrees config (live_of config said) (leg_with config windows' items') →
    Later config said (leg_with config windows items) (leg_with config windows' items')
later-with config said windows windows' items items' sound sound' well agrees agrees' =
    let now : Live = live_of config said in
    let leg : Leg = leg_with config windows items in
    let other-answers : Leg = leg_with config windows' items' in
    let can : CanWalk leg = sound-walks leg sound in
    let can' : CanWalk other-answers = sound-walks other-answers sound' in
    let lag : 1 ≤ config.lag = sound.network.lag.0 in
    let ticks = (agrees-stands config leg sound said well agrees).ticks in
    let fits = (reached-fits (walk_plan leg) (live_counts leg said) (has-plan leg can) (said-walked leg said)).ticks in
    let most : now.passed ≤ config.ticks = omega (arith, ticks, fits) in
    let below : SameBelow (scenario_by leg) (scenario_by other-answers) 0 now.passed =
    same-below config now windows windows' items items' lag most agrees agrees' in
    let same = begun-same config now windows windows' items items' lag most agrees agrees' can can' said well.each
    agrees.items agrees'.items (omega arith) in
    let begun : begin (walk_plan leg) ≡ begin (walk_plan other-answers) =
    begin-same config now windows windows' items items' lag most agrees agrees' can can' in
    record {
      counts = same.counts ∙ ap (λ c. counts_from (walk_plan other-answers) c said) begun;
      rounds = same.rounds ∙ ap (λ c. rounds_from (walk_plan other-answers) c said) begun;
      answers = same.answers ∙ ap (λ c. answers_from other-answers c said) begun;
      cells = cells-same leg other-answers 0 now.passed below can can';
      tables = tables-same leg other-answers 0 now.passed below;
      waiting = waiting-same leg other-answers 0 now.passed below;
    }

pub later : (config : Config) (said : List Saying) (leg other-answers : Leg) → IsSound leg → IsSound other-answers →
    IsWellSaid config said → Agrees config (live_of config said) leg → Agrees config (live_of config said) other-answers →
    Later config said leg other-answers
later config said leg other-answers sound sound' well agrees agrees' =
    let live : Live = live_of config said in
    let here = agrees-with_parts config live leg agrees in
    let there = agrees-with_parts config live other-answers agrees' in
    subst (λ (one : Leg). Later config said one other-answers) (sym here)
    (subst (λ (two : Leg). Later config said (leg_with config leg.config.windows leg.items) two) (sym there)
    (later-with config said leg.config.windows other-answers.config.windows leg.items other-answers.items
    (subst (λ (leg : Leg). IsSound leg) here sound) (subst (λ (leg : Leg). IsSound leg) there sound') well
    (subst (λ (leg : Leg). Agrees config live leg) here agrees)
    (subst (λ (leg : Leg). Agrees config live leg) there agrees')))
