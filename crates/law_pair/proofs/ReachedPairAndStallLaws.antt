-- When the tick of a pair is free, where each way is after any events of the pair, and that a stall changes nothing.
use Rattle.std.proofs.Common.{◌≡◌, ℕ, ◌+◌, ◌-◌, ◌*◌, ◌/◌, ◌%◌, ◌≤◌, ◌==◌, ◌&&◌, nat_le, Bool, true, false, inl, inr}
use Rattle.std.proofs.Common.{Option, Some, None, refl, ◌∙◌, ap, arith, if◌then◌else◌, leb-true, eqb-true, List, []}
use Rattle.std.proofs.Common.{◌∷◌, sym, subst, ◌⊎◌, nat_lt, option_map}
use Rattle.std.proofs.lemmas.Bool.{cases_Bool, and_parts}
use Rattle.law_model.proofs.ListLaws.{map-none}
use Rattle.law_model.specs.Common.{Plan, Counts, moved, stalled, in_inbox, held, full, is_missing, tick_full}
use Rattle.law_model.specs.Common.{tick_held, tick, Step, run, begin, Due, LineCounts, carry, pop_lines}
use Rattle.law_model.specs.declared.walk_events.StallCause.{StallCause}
use Rattle.law_model.specs.declared.walk_events.StallCause.TheVariants.{Done, Held, TxFull, BackMissing}
use Rattle.law_pair.specs.Common.{PairPlan, PairCounts, is_unsaid, done_at, held_at, full_at, missing_at, first_way}
use Rattle.law_pair.specs.Common.{or_else, tick_cause, ticked, plan_on, counts_on, with_counts, tick_by, pair_step}
use Rattle.law_pair.specs.Common.{pair_run, pair_begin, with_lag, IsPairPlan, IsPairReached, left_after, tick_of}
use Rattle.law_pair.specs.Common.{first_due, land_first, land_item, take_said, take_one, with_lines, IsStill}
use Rattle.law_pair.specs.declared.pair_events.Way.{Way}
use Rattle.law_pair.proofs.NextItemAndOneWayEventLaws.{HasSaid, OneWay, AreInOrder, item-leads, carry-leads}
use Rattle.law_pair.proofs.NextItemAndOneWayEventLaws.{take-leads}
use Rattle.law_model.specs.session.Scenario.{packets_in}
use Rattle.law_progress.specs.Progress.{IsReached}
use Rattle.law_progress.proofs.RoundProgressAndDrainLaws.{Leads, Leads-then, run-none}
use Rattle.law_pair.specs.declared.pair_events.Way.TheVariants.{There, Back}
use Rattle.law_pair.specs.declared.pair_events.PairEvent.{PairEvent}
use Rattle.law_pair.specs.declared.pair_events.PairEvent.TheVariants.{Item, Tick, Carry, Take}
use Rattle.law_progress.proofs.StalledEventLaws.{stalled-same}
use Rattle.law_model.specs.declared.walk_events.Event.TheVariants as walk

-- ---- The tick of a pair: it moves exactly where it stalls in neither way, and then a walk of each way ticks.
-- nothing stalls a tick in one way
pub record IsFree (plan : Plan) (lag : ℕ) (s : Counts) : Type 0 where
  pub open_ : nat_le plan.ticks s.ticks ≡ false
  pub landed : held s.ticks s.frames s.commands 0 plan.items ≡ None
  pub room : full plan.ticks s.ticks 0 s.lines ≡ None
  pub said : is_unsaid lag s ≡ false

-- ---- what a walk misses with more lag is unsaid
missing-unsaid : (plan : Plan) (lag : ℕ) (s : Counts) → lag ≤ plan.lag → HasSaid s → is_unsaid lag s ≡ false →
    is_missing plan s ≡ false
missing-unsaid plan lag s more said free =
    elim (cases_Bool (is_missing plan s)) [
      | inr e ↦ e
      | inl e ↦
          let a : Bool = nat_le (16 * plan.lag + 8) s.ticks in
          let b : Bool = s.ticks % 16 == 8 in
          let c : Bool = nat_le (in_inbox plan s) 0 in
          let ab : (a && b) ≡ true = (and_parts (a && b) c e).0 in
          let late = leb-true (16 * plan.lag + 8) s.ticks ((and_parts a b ab).0) in
          let place : b ≡ true = (and_parts a b ab).1 in
          let at_ = eqb-true (s.ticks % 16) 8 place in
          let none = leb-true (in_inbox plan s) 0 ((and_parts (a && b) c e).1) in
          let x : nat_le (16 * lag + 8) s.ticks ≡ true = grind (arith, late, more) in
          let few : s.rows ≤ 16 * (s.ticks / 16 - lag) + 23 = omega (arith, late, at_, none, more, said) in
          let y : nat_le s.rows (16 * (s.ticks / 16 - lag) + 23) ≡ true = grind (arith, few) in
          absurd (let f : true ≡ false = rw (x, place, y) at free in cc)
    ]

-- and what is unsaid a walk misses with that lag
unsaid-missing : (plan : Plan) (s : Counts) → HasSaid s → is_missing plan s ≡ false → is_unsaid plan.lag s ≡ false
unsaid-missing plan s said free =
    elim (cases_Bool (is_unsaid plan.lag s)) [
      | inr e ↦ e
      | inl e ↦
          let a : Bool = nat_le (16 * plan.lag + 8) s.ticks in
          let b : Bool = s.ticks % 16 == 8 in
          let c : Bool = nat_le s.rows (16 * (s.ticks / 16 - plan.lag) + 23) in
          let ab : (a && b) ≡ true = (and_parts (a && b) c e).0 in
          let x : a ≡ true = (and_parts a b ab).0 in
          let late = leb-true (16 * plan.lag + 8) s.ticks x in
          let place : b ≡ true = (and_parts a b ab).1 in
          let at_ = eqb-true (s.ticks % 16) 8 place in
          let few = leb-true s.rows (16 * (s.ticks / 16 - plan.lag) + 23) ((and_parts (a && b) c e).1) in
          let none : in_inbox plan s ≤ 0 = omega (arith, late, at_, few, said) in
          let y : nat_le (in_inbox plan s) 0 ≡ true = grind (arith, none) in
          absurd (let f : true ≡ false = rw (x, place, y) at free in cc)
    ]

-- ---- a walk
pub free-ticks : (plan : Plan) (lag : ℕ) (s : Counts) → lag ≤ plan.lag → HasSaid s → IsFree plan lag s →
    tick plan s ≡ moved (ticked s)
free-ticks plan lag s more said free =
    let none = missing-unsaid plan lag s more said free.said in
    ap (λ (shut : Bool). if shut then stalled s Done
    else tick_held (held s.ticks s.frames s.commands 0 plan.items) plan s) free.open_
    ∙ ap (λ found. tick_held found plan s) free.landed
    ∙ ap (λ found. tick_full found plan s) free.room
    ∙ ap (λ (missing : Bool). if missing then stalled s (BackMissing (s.ticks / 16 - plan.lag))
    else moved (ticked s)) none

pub tick-free : (plan : Plan) (s : Counts) → HasSaid s → (tick plan s).cause ≡ None → IsFree plan plan.lag s
tick-free plan s said moves =
    elim (cases_Bool (nat_le plan.ticks s.ticks)) [
      | inl e ↦ absurd (let f : (stalled s Done).cause ≡ None = rw e at moves in cc)
      | inr e ↦ by-held (held s.ticks s.frames s.commands 0 plan.items) refl e
          (let f : (tick_held (held s.ticks s.frames s.commands 0 plan.items) plan s).cause ≡ None = rw e at moves
          in f)
    ]
  where
    by-full : (found : Option ℕ) → full plan.ticks s.ticks 0 s.lines ≡ found → nat_le plan.ticks s.ticks ≡ false →
        held s.ticks s.frames s.commands 0 plan.items ≡ None → (tick_full found plan s).cause ≡ None →
        IsFree plan plan.lag s
    by-full (Some line) is open_ landed moves = absurd (let f : (stalled s (TxFull line)).cause ≡ None = moves in cc)
    by-full None is open_ landed moves =
        elim (cases_Bool (is_missing plan s)) [
          | inl e ↦ absurd (let f : (stalled s (BackMissing (s.ticks / 16 - plan.lag))).cause ≡ None =
              rw e at moves in cc)
          | inr e ↦ record { open_ = open_; landed = landed; room = is; said = unsaid-missing plan s said e }
        ]

    by-held : (found : Option ℕ) → held s.ticks s.frames s.commands 0 plan.items ≡ found →
        nat_le plan.ticks s.ticks ≡ false → (tick_held found plan s).cause ≡ None → IsFree plan plan.lag s
    by-held (Some item) is open_ moves = absurd (let f : (stalled s (Held item)).cause ≡ None = moves in cc)
    by-held None is open_ moves = by-full (full plan.ticks s.ticks 0 s.lines) refl open_ is moves

-- ---- the pair
or-none : (one other : Option (Way × StallCause)) → or_else one other ≡ None → (one ≡ None) × (other ≡ None)
or-none (Some cause) other e = absurd cc
or-none None other e = (refl, e)

way-none : (one other : Option StallCause) → first_way one other ≡ None → (one ≡ None) × (other ≡ None)
way-none (Some cause) other e = absurd cc
way-none None (Some cause) e = absurd cc
way-none None None e = (refl, refl)

if-none : (b : Bool) (cause : StallCause) → (if b then Some cause else None) ≡ None → b ≡ false
if-none true cause e = absurd cc
if-none false cause e = refl

pub both-free : (pair : PairPlan) (s : PairCounts) → tick_cause pair s ≡ None →
    IsFree pair.there pair.lag s.there × IsFree pair.back pair.lag s.back
both-free pair s e =
    let done = first_way (done_at pair.there s.there) (done_at pair.back s.back) in
    let holds = first_way (held_at pair.there s.there) (held_at pair.back s.back) in
    let fills = first_way (full_at pair.there s.there) (full_at pair.back s.back) in
    let misses = first_way (missing_at pair.lag s.there) (missing_at pair.lag s.back) in
    let (a, after) = or-none done (or_else holds (or_else fills misses)) e in
    let (b, last) = or-none holds (or_else fills misses) after in
    let (c, d) = or-none fills misses last in
    let ended = way-none (done_at pair.there s.there) (done_at pair.back s.back) a in
    let waits = way-none (held_at pair.there s.there) (held_at pair.back s.back) b in
    let room = way-none (full_at pair.there s.there) (full_at pair.back s.back) c in
    let said = way-none (missing_at pair.lag s.there) (missing_at pair.lag s.back) d in
    (free pair.there s.there ended.0 waits.0 room.0 said.0, free pair.back s.back ended.1 waits.1 room.1 said.1)
  where
    free : (plan : Plan) (c : Counts) → done_at plan c ≡ None → held_at plan c ≡ None → full_at plan c ≡ None →
        missing_at pair.lag c ≡ None → IsFree plan pair.lag c
    free plan c ended waits room said = record {
      open_ = if-none (nat_le plan.ticks c.ticks) Done ended;
      landed = map-none (λ n. Held n) (held c.ticks c.frames c.commands 0 plan.items) waits;
      room = map-none (λ n. TxFull n) (full plan.ticks c.ticks 0 c.lines) room;
      said = if-none (is_unsaid pair.lag c) (BackMissing (c.ticks / 16 - pair.lag)) said;
    }

pub free-both : (pair : PairPlan) (s : PairCounts) → IsFree pair.there pair.lag s.there →
    IsFree pair.back pair.lag s.back → tick_cause pair s ≡ None
free-both pair s one other =
    rw (one.open_, other.open_, one.landed, other.landed, one.room, other.room, one.said, other.said) refl

-- ---- A pair goes on: after any list of its events each way is where a walk of it can be, and its ticks and return packets
-- are as they should be.
-- a walk can lead there, and has said each return packet
pub record HasGone (plan : Plan) (s : Counts) : Type 0 where
  pub said : HasSaid s
  pub walks : IsReached plan s

begun : (plan : Plan) → HasGone plan (begin plan)
begun plan = record { said = refl; walks = ([], sym (run-none plan (begin plan))) }

gone-on : (plan : Plan) (s next : Counts) → HasGone plan s → HasSaid next → Leads plan s next → HasGone plan next
gone-on plan s next gone said leads =
    record { said = said; walks = Leads-then plan (begin plan) s next gone.walks leads }

-- each way is where a walk with some lag can be
pub record IsGoing (pair : PairPlan) (there_lag back_lag : ℕ) (s : PairCounts) : Type 0 where
  pub together : s.there.ticks ≡ s.back.ticks
  pub there : HasGone (with_lag there_lag pair.there) s.there
  pub back : HasGone (with_lag back_lag pair.back) s.back

-- no lag is less than that of the pair, and the items are in the order of their ticks
pub record CanGo (pair : PairPlan) (there_lag back_lag : ℕ) : Type 0 where
  pub there_more : pair.lag ≤ there_lag
  pub back_more : pair.lag ≤ back_lag
  pub there_order : AreInOrder pair.there
  pub back_order : AreInOrder pair.back

module _ (pair : PairPlan) (there_lag back_lag : ℕ) (can : CanGo pair there_lag back_lag) where
  abbrev Going : PairCounts → Type 0
  Going s = IsGoing pair there_lag back_lag s

  abbrev lag_on : Way → ℕ
  lag_on There = there_lag
  lag_on Back = back_lag

  abbrev lagged : Way → Plan
  lagged way = with_lag (lag_on way) (plan_on pair way)

  gone : (way : Way) (s : PairCounts) → Going s → HasGone (lagged way) (counts_on s way)
  gone There s going = going.there
  gone Back s going = going.back

  order : (way : Way) → AreInOrder (lagged way)
  order There = can.there_order
  order Back = can.back_order

  way-goes : (way : Way) (s : PairCounts) (next : Counts) → Going s → OneWay (lagged way) (counts_on s way) next →
      Going (with_counts way next s)
  way-goes There s next going one = record {
    together = one.ticks ∙ going.together;
    there = gone-on (lagged There) s.there next going.there one.said one.leads;
    back = going.back;
  }
  way-goes Back s next going one = record {
    together = going.together ∙ sym one.ticks;
    there = going.there;
    back = gone-on (lagged Back) s.back next going.back one.said one.leads;
  }

  ticks-on : (plan : Plan) (lag : ℕ) (s : Counts) → pair.lag ≤ lag → HasGone (with_lag lag plan) s →
      IsFree plan pair.lag s → HasGone (with_lag lag plan) (ticked s)
  unfolding run
  ticks-on plan lag s more gone free =
      gone-on (with_lag lag plan) s (ticked s) gone gone.said (
        walk.Tick ∷ [],
        sym (ap (λ (c : Step). c.counts) (free-ticks (with_lag lag plan) pair.lag s more gone.said
            (record { open_ = free.open_; landed = free.landed; room = free.room; said = free.said }))),
      )

  tick-goes : (s : PairCounts) → Going s → (cause : Option (Way × StallCause)) → tick_cause pair s ≡ cause →
      Going (tick_by cause s).counts
  tick-goes s going (Some cause) is = going
  tick-goes s going None is =
      let free = both-free pair s is in
      record {
        together = ap (λ n. n + 1) going.together;
        there = ticks-on pair.there there_lag s.there can.there_more going.there free.0;
        back = ticks-on pair.back back_lag s.back can.back_more going.back free.1;
      }

  pub step-goes : (s : PairCounts) (event : PairEvent) → Going s → Going (pair_step pair s event).counts
  step-goes s (Item way) going =
      way-goes way s _ going (item-leads (lagged way) (counts_on s way) (order way) (gone way s going).said)
  step-goes s Tick going = tick-goes s going (tick_cause pair s) refl
  step-goes s (Carry way line) going =
      way-goes way s _ going (carry-leads (lagged way) (counts_on s way) line (gone way s going).said)
  step-goes s (Take way) going =
      way-goes way s _ going (take-leads (lagged way) (counts_on s way) (gone way s going).said)

  pub run-goes : (s : PairCounts) (events : List PairEvent) → Going s → Going (pair_run pair s events)
  unfolding pair_run
  run-goes s [] going = going
  run-goes s (event ∷ events) going = run-goes (pair_step pair s event).counts events (step-goes s event going)

  begins : Going (pair_begin pair)
  begins = record { together = refl; there = begun (lagged There); back = begun (lagged Back) }

  pub reached-goes : (s : PairCounts) → IsPairReached pair s → Going s
  reached-goes s reached = subst Going (sym reached.1) (run-goes (pair_begin pair) reached.0 begins)

-- ---- a pair whose plan fits
pub can-go : (pair : PairPlan) → IsPairPlan pair → CanGo pair pair.there.lag pair.back.lag
can-go pair is = record {
  there_more = is.there_lag;
  back_more = is.back_lag;
  there_order = (is.there_plan.is.frames, is.there_plan.is.commands);
  back_order = (is.back_plan.is.frames, is.back_plan.is.commands);
}

pub can-go-near : (pair : PairPlan) → IsPairPlan pair → CanGo pair pair.lag pair.lag
can-go-near pair is = record {
  there_more = omega arith;
  back_more = omega arith;
  there_order = (is.there_plan.is.frames, is.there_plan.is.commands);
  back_order = (is.back_plan.is.frames, is.back_plan.is.commands);
}

pub goes : (pair : PairPlan) (s : PairCounts) → IsPairPlan pair → IsPairReached pair s →
    IsGoing pair pair.there.lag pair.back.lag s
goes pair s is reached = reached-goes pair pair.there.lag pair.back.lag (can-go pair is) s reached

pub goes-near : (pair : PairPlan) (s : PairCounts) → IsPairPlan pair → IsPairReached pair s →
    IsGoing pair pair.lag pair.lag s
goes-near pair s is reached = reached-goes pair pair.lag pair.lag (can-go-near pair is) s reached

-- ---- what is said of it
pub pair-walks : (pair : PairPlan) (s : PairCounts) (way : Way) → IsPairPlan pair → IsPairReached pair s →
    IsReached (plan_on pair way) (counts_on s way)
pair-walks pair s There is reached = (goes pair s is reached).there.walks
pair-walks pair s Back is reached = (goes pair s is reached).back.walks

pub pair-said : (pair : PairPlan) (s : PairCounts) (way : Way) → IsPairPlan pair → IsPairReached pair s →
    (counts_on s way).backs ≡ packets_in (counts_on s way).rows
pair-said pair s There is reached = (goes pair s is reached).there.said
pair-said pair s Back is reached = (goes pair s is reached).back.said

pub pair-together : (pair : PairPlan) (s : PairCounts) → IsPairPlan pair → IsPairReached pair s →
    s.there.ticks ≡ s.back.ticks
pair-together pair s is reached = (goes pair s is reached).together

-- ---- A stall of a pair changes nothing, but that a Take keeps the cells which it popped.
-- ---- one way
abbrev Stays : Counts → Step → Type 0
Stays s next = (next.cause ≡ None) ⊎ (next.counts ≡ s)

land-stays : (s : Counts) (found : Option Due) → Stays s (land_first found s)
land-stays s None = inr refl
land-stays s (Some item) =
    elim (cases_Bool (nat_lt s.ticks (tick_of item))) [ inl e ↦ rw e (inr refl) | inr e ↦ rw e (inl refl) ]

carry-stays : (plan : Plan) (s : Counts) (m : ℕ) → Stays s (carry plan s m)
carry-stays plan s m = by (carry plan s m).cause refl
  where
    by : (found : Option StallCause) → (carry plan s m).cause ≡ found → Stays s (carry plan s m)
    by None is = inl is
    by (Some cause) is = elim (stalled-same plan s (walk.Carry m) cause is) [
      | inl same ↦ inr same
      | inr (other, same) ↦ absurd cc
    ]

abbrev KeepsLines : Counts → Step → Type 0
KeepsLines s next = (next.cause ≡ None) ⊎ (next.counts ≡ with_lines next.counts.lines s)

said-keeps : (s : Counts) (lines : List LineCounts) (waiting : Option ℕ) → KeepsLines s (take_said s lines waiting)
said-keeps s lines (Some line) = inr refl
said-keeps s lines None = inl refl

take-keeps : (plan : Plan) (s : Counts) → KeepsLines s (take_one plan s)
take-keeps plan s =
    elim (cases_Bool (nat_le plan.ticks s.rows)) [
      | inl e ↦ rw e (inr refl)
      | inr e ↦ rw e (said-keeps s (pop_lines s.rows 0 plan.paths s.lines).lines
          (pop_lines s.rows 0 plan.paths s.lines).waiting)
    ]

-- ---- the pair
no-cause : (way : Way) (found : Option StallCause) (cause : Way × StallCause) → found ≡ None →
    option_map {U = Way × StallCause} (λ (found : StallCause). (way, found)) found ≡ Some cause → ⊥
no-cause way None cause none e = cc
no-cause way (Some found) cause none e = cc

pub same-way : (s : PairCounts) (way : Way) (next : Counts) → next ≡ counts_on s way → with_counts way next s ≡ s
same-way s There next same = ap (λ c. with_counts There c s) same
same-way s Back next same = ap (λ c. with_counts Back c s) same

pub own-counts : (s : PairCounts) (way : Way) (next : Counts) → counts_on (with_counts way next s) way ≡ next
own-counts s There next = refl
own-counts s Back next = refl

way-lines : (s : PairCounts) (way : Way) (next : Counts) → next ≡ with_lines next.lines (counts_on s way) →
    with_counts way next s
    ≡ with_counts way (with_lines (counts_on (with_counts way next s) way).lines (counts_on s way)) s
way-lines s There next same = ap (λ c. with_counts There c s) same
way-lines s Back next same = ap (λ c. with_counts Back c s) same

tick-stalled : (s : PairCounts) (found : Option (Way × StallCause)) (cause : Way × StallCause) →
    (tick_by found s).cause ≡ Some cause → (tick_by found s).counts ≡ s
tick-stalled s None cause e = absurd cc
tick-stalled s (Some found) cause e = refl

pub pair-stalled : (pair : PairPlan) (s : PairCounts) (event : PairEvent) (cause : Way × StallCause) →
    (pair_step pair s event).cause ≡ Some cause → IsStill pair s event
pair-stalled pair s (Item way) cause e =
    let c = counts_on s way in
    let plan = plan_on pair way in
    elim (land-stays c (first_due (left_after c.frames c.commands plan.items))) [
      | inl moves ↦ absurd (no-cause way (land_item plan c).cause cause moves e)
      | inr same ↦ inl (same-way s way (land_item plan c).counts same)
    ]
pair-stalled pair s Tick cause e = inl (tick-stalled s (tick_cause pair s) cause e)
pair-stalled pair s (Carry way m) cause e =
    let c = counts_on s way in
    let plan = plan_on pair way in
    elim (carry-stays plan c m) [
      | inl moves ↦ absurd (no-cause way (carry plan c m).cause cause moves e)
      | inr same ↦ inl (same-way s way (carry plan c m).counts same)
    ]
pair-stalled pair s (Take way) cause e =
    let c = counts_on s way in
    let plan = plan_on pair way in
    elim (take-keeps plan c) [
      | inl moves ↦ absurd (no-cause way (take_one plan c).cause cause moves e)
      | inr same ↦ inr (way, refl, way-lines s way (take_one plan c).counts same)
    ]
