-- The answers of a conversation tell what a walk reports: frames, refused items, ticks and decision steps, in order.
use Rattle.std.proofs.Common.{◌≡◌, ℕ, zero, suc, ◌+◌, ◌-◌, ◌≤◌, nat_lt, Bool, true, false, inl, inr, List, [], ◌∷◌}
use Rattle.std.proofs.Common.{◌++◌, map, drop, length, Option, Some, None, refl, sym, ◌∙◌, ap, ap₂, subst, arith}
use Rattle.std.proofs.Common.{append_assoc, if◌then◌else◌, lt-ltb}
use Rattle.std.specs.List.{range_with_len}
use Rattle.std.proofs.lemmas.Bool.{cases_Bool, ltb-true, ltb-false}
use Rattle.std.proofs.lemmas.Grind.{flat_map-append}
use Rattle.std.proofs.lemmas.List.{append-nil, length-map}
use Rattle.law_model.proofs.ListLaws.{range-more}
use Rattle.law_model.specs.Common.{Counts, Due, Leg, Plan, Step, command_dues, due_of, dues_of, frame_dues, step}
use Rattle.law_model.specs.Common.{steps_in}
use Rattle.law_model.specs.declared.item_refusals.Refusal.{Refusal}
use Rattle.law_model.specs.declared.script_types.Item.{Item}
use Rattle.law_model.specs.declared.script_types.ItemKind.{ItemKind}
use Rattle.law_model.specs.declared.script_types.ItemKind.TheVariants.{Frame, Add, Remove}
use Rattle.law_progress.specs.Progress.{Fits, IsPlanOf}
use Rattle.law_walk.specs.Common.{Numbered, delivered_of, is_client, landed_from, numbered, refusal_at, refusals_among}
use Rattle.law_walk.specs.Common.{refused_by, walk_plan}
use Rattle.law_walk.proofs.DeliveredFrameCountLaws.{frames-grow}
use Rattle.law_live.specs.Common.{CanSayAll, HasLater, Live, Rises, Saying, after_rounds, answers_from, answers_to}
use Rattle.law_live.specs.Common.{counts_from, counts_said, cuts, frames_got, got_at, item_answers, item_at}
use Rattle.law_live.specs.Common.{items_refused, lands, live_after, live_round, mends, next_item, pass_ends, passes}
use Rattle.law_live.specs.Common.{step_made, live_from, refused_answer, round_answers, rounds_answers, rounds_for}
use Rattle.law_live.specs.Common.{steps_between, steps_made, times_told}
use Rattle.law_walk.specs.DeliveredFrames.{delivered_since}
use Rattle.law_live.specs.LiveCounts.{landing_of}
use Rattle.law_live.specs.LiveAnswers.{got_of, refusal_of, step_of, time_of}
use Rattle.law_live.proofs.LiveRoundAndLandingLaws.{goes-round}
pub use Rattle.law_progress.proofs.RoundProgressAndDrainLaws.{kinds as dues-size}
use Rattle.law_progress.proofs.EventOutcomeLaws.{land-gives}
use Rattle.law_live.proofs.ConversationCountAndScriptLaws.{Stands, fits-after, later-all, stands-after}

-- What the answers tell is what a walk reports: the frames in order, the refused items in order, and the ticks that are
-- made.
-- ---- an item tells nothing but that it is refused
pub got-refused : (number : ℕ) (why : Option Refusal) → frames_got (refused_answer number why) ≡ []
got-refused number None = refl
got-refused number (Some why) = refl

pub times-refused : (number : ℕ) (why : Option Refusal) → times_told (refused_answer number why) ≡ []
times-refused number None = refl
times-refused number (Some why) = refl

pub steps-refused : (number : ℕ) (why : Option Refusal) → steps_made (refused_answer number why) ≡ []
steps-refused number None = refl
steps-refused number (Some why) = refl

refused-refused : (number : ℕ) (why : Option Refusal) → items_refused (refused_answer number why) ≡ refused_by number why
refused-refused number None = refl
refused-refused number (Some why) = refl

-- ---- a decision step tells only itself
got-step : (made : Bool) (j : ℕ) → frames_got (if made then step_made j ∷ [] else []) ≡ []
got-step true j = refl
got-step false j = refl

pub refused-step : (made : Bool) (j : ℕ) → items_refused (if made then step_made j ∷ [] else []) ≡ []
refused-step true j = refl
refused-step false j = refl

-- ---- frames that come out in some tick
got-frames : (ticks : ℕ) (frames : List (List ℕ)) → frames_got (map (got_at ticks) frames) ≡ frames
got-frames ticks [] = refl
got-frames ticks (frame ∷ frames) = ap (λ l. frame ∷ l) (got-frames ticks frames)

pub refused-frames : (ticks : ℕ) (frames : List (List ℕ)) → items_refused (map (got_at ticks) frames) ≡ []
refused-frames ticks [] = refl
refused-frames ticks (frame ∷ frames) = refused-frames ticks frames

steps-frames : (ticks : ℕ) (frames : List (List ℕ)) → steps_made (map (got_at ticks) frames) ≡ []
steps-frames ticks [] = refl
steps-frames ticks (frame ∷ frames) = steps-frames ticks frames

pub times-frames : (ticks : ℕ) (frames : List (List ℕ)) → Rises ticks ticks (times_told (map (got_at ticks) frames))
unfolding Rises
times-frames ticks [] = omega arith
times-frames ticks (frame ∷ frames) = (omega arith, times-frames ticks frames)

-- ---- the frames
pub grown : (leg : Leg) (was now : ℕ) → was ≤ now →
    delivered_of leg was ++ delivered_since leg was now ≡ delivered_of leg now
grown leg was now low =
    let e : was + (now - was) ≡ now = omega (arith, low) in
    sym (subst (λ n. delivered_of leg n
    ≡ delivered_of leg was ++ drop (length (delivered_of leg was)) (delivered_of leg n)) e
    (frames-grow leg was (now - was)))

pub got-round : (leg : Leg) (was now : Counts) →
    frames_got (round_answers leg was now) ≡ delivered_since leg was.rows now.rows
got-round leg was now =
    flat_map-append got_of (steps_between was.ticks now.ticks)
    (map (got_at now.ticks) (delivered_since leg was.rows now.rows))
    ∙ ap₂ ◌++◌ (got-step (nat_lt (steps_in was.ticks) (steps_in now.ticks)) (steps_in was.ticks))
    (got-frames now.ticks (delivered_since leg was.rows now.rows))

got-rounds : (n : ℕ) (leg : Leg) (s : Counts) →
    delivered_of leg s.rows ++ frames_got (rounds_answers n leg s)
    ≡ delivered_of leg (after_rounds n (walk_plan leg) s).rows
unfolding after_rounds rounds_answers
got-rounds zero leg s = append-nil (delivered_of leg s.rows)
got-rounds (suc n) leg s =
    let next : Counts = live_round (walk_plan leg) s in
    let up = (goes-round (walk_plan leg) s).rows in
    ap (λ l. delivered_of leg s.rows ++ l)
    (flat_map-append got_of (round_answers leg s next) (rounds_answers n leg next)
    ∙ ap (λ l. l ++ frames_got (rounds_answers n leg next)) (got-round leg s next))
    ∙ sym (append_assoc (delivered_of leg s.rows) (delivered_since leg s.rows next.rows)
    (frames_got (rounds_answers n leg next)))
    ∙ ap (λ l. l ++ frames_got (rounds_answers n leg next)) (grown leg s.rows next.rows up)
    ∙ got-rounds n leg next

-- an item changes neither rows nor ticks
abbrev IsBeside : Counts → Step → Type 0
IsBeside s next = (next.counts.rows ≡ s.rows) × (next.counts.ticks ≡ s.ticks)

lands-beside : (plan : Plan) (s : Counts) (kind : ItemKind) → IsBeside s (step plan s (landing_of kind))
lands-beside plan s (Frame octets) = land-gives (IsBeside s) s (record s { frames = s.frames + 1 }) _
    (λ cause. (refl, refl)) (λ due is now. (refl, refl))
lands-beside plan s (Add line) = land-gives (IsBeside s) s (record s { commands = s.commands + 1 }) _
    (λ cause. (refl, refl)) (λ due is now. (refl, refl))
lands-beside plan s (Remove line) = land-gives (IsBeside s) s (record s { commands = s.commands + 1 }) _
    (λ cause. (refl, refl)) (λ due is now. (refl, refl))

pub lands-ticks : (plan : Plan) (s : Counts) (kind : ItemKind) → (counts_said plan s (lands kind)).ticks ≡ s.ticks
lands-ticks plan s kind = (lands-beside plan s kind).1

got-to : (leg : Leg) (s : Counts) (saying : Saying) →
    delivered_of leg s.rows ++ frames_got (answers_to leg s saying)
    ≡ delivered_of leg (counts_said (walk_plan leg) s saying).rows
got-to leg s (lands kind) =
    ap (λ l. delivered_of leg s.rows ++ l)
    (got-refused (s.frames + s.commands) (refusal_at leg (next_item s kind)))
    ∙ append-nil (delivered_of leg s.rows)
    ∙ ap (delivered_of leg) (sym (lands-beside (walk_plan leg) s kind).0)
got-to leg s (cuts m) = append-nil (delivered_of leg s.rows)
got-to leg s (mends m) = append-nil (delivered_of leg s.rows)
got-to leg s (passes k) =
    let n : ℕ = rounds_for k (walk_plan leg) s in
    let now : ℕ = (counts_said (walk_plan leg) s (passes k)).ticks in
    ap (λ l. delivered_of leg s.rows ++ l)
    (flat_map-append got_of (rounds_answers n leg s) (pass_ends leg s.ticks now)
    ∙ append-nil (frames_got (rounds_answers n leg s)))
    ∙ got-rounds n leg s

pub got-all : (said : List Saying) (leg : Leg) (s : Counts) →
    delivered_of leg s.rows ++ frames_got (answers_from leg s said)
    ≡ delivered_of leg (counts_from (walk_plan leg) s said).rows
unfolding answers_from counts_from
got-all [] leg s = append-nil (delivered_of leg s.rows)
got-all (saying ∷ said) leg s =
    let next : Counts = counts_said (walk_plan leg) s saying in
    ap (λ l. delivered_of leg s.rows ++ l)
    (flat_map-append got_of (answers_to leg s saying) (answers_from leg next said))
    ∙ sym (append_assoc (delivered_of leg s.rows) (frames_got (answers_to leg s saying))
    (frames_got (answers_from leg next said)))
    ∙ ap (λ l. l ++ frames_got (answers_from leg next said)) (got-to leg s saying)
    ∙ got-all said leg next

-- ---- the refused items
refused-rounds : (n : ℕ) (leg : Leg) (s : Counts) → items_refused (rounds_answers n leg s) ≡ []
unfolding rounds_answers
refused-rounds zero leg s = refl
refused-rounds (suc n) leg s =
    let next : Counts = live_round (walk_plan leg) s in
    let frames : List (List ℕ) = delivered_since leg s.rows next.rows in
    flat_map-append refusal_of (round_answers leg s next) (rounds_answers n leg next)
    ∙ ap₂ ◌++◌
    (flat_map-append refusal_of (steps_between s.ticks next.ticks) (map (got_at next.ticks) frames)
    ∙ ap₂ ◌++◌ (refused-step (nat_lt (steps_in s.ticks) (steps_in next.ticks)) (steps_in s.ticks))
    (refused-frames next.ticks frames))
    (refused-rounds n leg next)

numbered-push : (i : ℕ) (xs : List Item) (y : Item) →
    numbered i (xs ++ y ∷ []) ≡ numbered i xs ++ record { number = i + length xs; item = y } ∷ []
unfolding numbered
numbered-push i [] y = let e : i ≡ i + 0 = omega arith in
    ap (λ n. record { number = n; item = y } ∷ []) e
numbered-push i (x ∷ xs) y =
    let e : suc i + length xs ≡ i + suc (length xs) = omega arith in
    ap (λ l. record { number = i; item = x } ∷ l)
    (numbered-push (suc i) xs y ∙ ap (λ n. numbered (suc i) xs ++ record { number = n; item = y } ∷ []) e)

pub refused-item : (leg : Leg) (live : Live) (s : Counts) (kind : ItemKind) → Stands live s →
    refusals_among leg (numbered 0 live.items) ++ items_refused (item_answers leg s kind)
    ≡ refusals_among leg (numbered 0 (live_after live (lands kind)).items)
refused-item leg live s kind stands =
    let refused : Numbered → List (ℕ × Refusal) = λ item. refused_by item.number (refusal_at leg item) in
    let item : Numbered = record { number = 0 + length live.items; item = item_at live.passed kind } in
    let sizes = dues-size (dues_of live.items) in
    let same_size = length-map live.items (λ (item : Item). due_of item.due item.kind) in
    let frames = stands.frames in
    let commands = stands.commands in
    let number : s.frames + s.commands ≡ 0 + length live.items = omega (arith, sizes, same_size, frames, commands) in
    let same : next_item s kind ≡ item =
    ap₂ (λ n t. record { number = n; item = item_at t kind }) number stands.ticks in
    ap (λ l. refusals_among leg (numbered 0 live.items) ++ l)
    (refused-refused (s.frames + s.commands) (refusal_at leg (next_item s kind))
    ∙ ap refused same ∙ sym (append-nil (refused item)))
    ∙ sym (flat_map-append refused (numbered 0 live.items) (item ∷ []))
    ∙ ap (refusals_among leg) (sym (numbered-push 0 live.items (item_at live.passed kind)))

refused-to : (leg : Leg) (live : Live) (s : Counts) (saying : Saying) → Stands live s →
    refusals_among leg (numbered 0 live.items) ++ items_refused (answers_to leg s saying)
    ≡ refusals_among leg (numbered 0 (live_after live saying).items)
refused-to leg live s (lands kind) stands = refused-item leg live s kind stands
refused-to leg live s (cuts m) stands = append-nil (refusals_among leg (numbered 0 live.items))
refused-to leg live s (mends m) stands = append-nil (refusals_among leg (numbered 0 live.items))
refused-to leg live s (passes k) stands =
    let n : ℕ = rounds_for k (walk_plan leg) s in
    let now : ℕ = (counts_said (walk_plan leg) s (passes k)).ticks in
    ap (λ l. refusals_among leg (numbered 0 live.items) ++ l)
    (flat_map-append refusal_of (rounds_answers n leg s) (pass_ends leg s.ticks now)
    ∙ append-nil (items_refused (rounds_answers n leg s)) ∙ refused-rounds n leg s)
    ∙ append-nil (refusals_among leg (numbered 0 live.items))

-- one saying after another, where each stands
module _ (leg : Leg) (slow fast slip : ℕ) (is : IsPlanOf slow fast slip (walk_plan leg)) where
  pub refused-all : (said : List Saying) (live : Live) (s : Counts) → CanSayAll leg.config.ticks live said →
      Stands live s → Fits (walk_plan leg) s → HasLater (live_from live said) leg.items →
      refusals_among leg (numbered 0 live.items) ++ items_refused (answers_from leg s said)
      ≡ refusals_among leg (numbered 0 (live_from live said).items)
  unfolding CanSayAll answers_from live_from
  refused-all [] live s can stands fits more = append-nil (refusals_among leg (numbered 0 live.items))
  refused-all (saying ∷ said) live s can stands fits more =
      let next : Counts = counts_said (walk_plan leg) s saying in
      let first = later-all said (live_after live saying) leg.items more in
      let before : List (ℕ × Refusal) = refusals_among leg (numbered 0 live.items) in
      ap (λ l. before ++ l) (flat_map-append refusal_of (answers_to leg s saying) (answers_from leg next said))
      ∙ sym (append_assoc before (items_refused (answers_to leg s saying))
      (items_refused (answers_from leg next said)))
      ∙ ap (λ l. l ++ items_refused (answers_from leg next said)) (refused-to leg live s saying stands)
      ∙ refused-all said (live_after live saying) next can.1
      (stands-after leg slow fast slip is live s saying can.0 stands fits first)
      (fits-after leg slow fast slip is s saying fits) more

-- ---- the ticks
pub rises-from : (first from to : ℕ) (times : List ℕ) → first ≤ from → Rises from to times → Rises first to times
unfolding Rises
rises-from first from to [] low rises = omega (arith, low, rises)
rises-from first from to (t ∷ times) low rises = (let h = rises.0 in omega (arith, low, h), rises.1)

pub rises-append : (a b c : ℕ) (xs ys : List ℕ) → Rises a b xs → Rises b c ys → Rises a c (xs ++ ys)
unfolding Rises
rises-append a b c [] ys first second = rises-from a b c ys first second
rises-append a b c (t ∷ xs) ys first second = (first.0, rises-append t b c xs ys first.1 second)

-- a step is made in the last of these ticks
times-step : (was now : ℕ) → was ≤ now → now ≤ was + 1 → Rises was now (times_told (steps_between was now))
unfolding Rises
times-step was now up most = elim (cases_Bool (nat_lt (steps_in was) (steps_in now))) [
  | inl e ↦
      let low = ltb-true (steps_in was) (steps_in now) e in
      rw e (omega (arith, low, most), omega (arith, low, most))
  | inr e ↦ rw e up
]

times-round : (leg : Leg) (was now : Counts) → was.ticks ≤ now.ticks → now.ticks ≤ was.ticks + 1 →
    Rises was.ticks now.ticks (times_told (round_answers leg was now))
times-round leg was now up most =
    let frames : List (List ℕ) = delivered_since leg was.rows now.rows in
    subst (Rises was.ticks now.ticks)
    (sym (flat_map-append time_of (steps_between was.ticks now.ticks) (map (got_at now.ticks) frames)))
    (rises-append was.ticks now.ticks now.ticks (times_told (steps_between was.ticks now.ticks))
    (times_told (map (got_at now.ticks) frames)) (times-step was.ticks now.ticks up most)
    (times-frames now.ticks frames))

times-rounds : (n : ℕ) (leg : Leg) (s : Counts) →
    Rises s.ticks (after_rounds n (walk_plan leg) s).ticks (times_told (rounds_answers n leg s))
unfolding Rises after_rounds rounds_answers
times-rounds zero leg s = omega arith
times-rounds (suc n) leg s =
    let next : Counts = live_round (walk_plan leg) s in
    let last : ℕ = (after_rounds n (walk_plan leg) next).ticks in
    let goes = goes-round (walk_plan leg) s in
    subst (Rises s.ticks last) (sym (flat_map-append time_of (round_answers leg s next) (rounds_answers n leg next)))
    (rises-append s.ticks next.ticks last (times_told (round_answers leg s next))
    (times_told (rounds_answers n leg next)) (times-round leg s next goes.ticks goes.most)
    (times-rounds n leg next))

none-rise : (from to : ℕ) (times : List ℕ) → times ≡ [] → from ≡ to → Rises from to times
unfolding Rises
none-rise from to times none same = subst (Rises from to) (sym none) (omega (arith, same))

times-to : (leg : Leg) (s : Counts) (saying : Saying) →
    Rises s.ticks (counts_said (walk_plan leg) s saying).ticks (times_told (answers_to leg s saying))
unfolding Rises
times-to leg s (lands kind) =
    none-rise s.ticks (counts_said (walk_plan leg) s (lands kind)).ticks (times_told (item_answers leg s kind))
    (times-refused (s.frames + s.commands) (refusal_at leg (next_item s kind)))
    (sym (lands-ticks (walk_plan leg) s kind))
times-to leg s (cuts m) = omega arith
times-to leg s (mends m) = omega arith
times-to leg s (passes k) =
    let n : ℕ = rounds_for k (walk_plan leg) s in
    let now : ℕ = (counts_said (walk_plan leg) s (passes k)).ticks in
    subst (Rises s.ticks now) (sym (flat_map-append time_of (rounds_answers n leg s) (pass_ends leg s.ticks now)))
    (rises-append s.ticks now now (times_told (rounds_answers n leg s)) (now ∷ []) (times-rounds n leg s)
    (omega arith, omega arith))

pub times-all : (said : List Saying) (leg : Leg) (s : Counts) →
    Rises s.ticks (counts_from (walk_plan leg) s said).ticks (times_told (answers_from leg s said))
unfolding Rises answers_from counts_from
times-all [] leg s = omega arith
times-all (saying ∷ said) leg s =
    let next : Counts = counts_said (walk_plan leg) s saying in
    let last : ℕ = (counts_from (walk_plan leg) next said).ticks in
    subst (Rises s.ticks last)
    (sym (flat_map-append time_of (answers_to leg s saying) (answers_from leg next said)))
    (rises-append s.ticks next.ticks last (times_told (answers_to leg s saying))
    (times_told (answers_from leg next said)) (times-to leg s saying) (times-all said leg next))

-- ---- decision steps
abbrev pub steps_to : ℕ → List ℕ
steps_to ticks = range_with_len 0 (steps_in ticks)

pub steps-round : (leg : Leg) (was now : Counts) → was.ticks ≤ now.ticks → now.ticks ≤ was.ticks + 1 →
    steps_to was.ticks ++ steps_made (round_answers leg was now) ≡ steps_to now.ticks
steps-round leg was now up most =
    let frames : List (List ℕ) = delivered_since leg was.rows now.rows in
    let j : ℕ = steps_in was.ticks in
    let k : ℕ = steps_in now.ticks in
    let made : steps_made (round_answers leg was now) ≡ steps_made (steps_between was.ticks now.ticks) =
    flat_map-append step_of (steps_between was.ticks now.ticks) (map (got_at now.ticks) frames)
    ∙ ap (λ l. steps_made (steps_between was.ticks now.ticks) ++ l) (steps-frames now.ticks frames)
    ∙ append-nil (steps_made (steps_between was.ticks now.ticks)) in
    ap (λ l. steps_to was.ticks ++ l) made
    ∙ elim (cases_Bool (nat_lt (steps_in was.ticks) (steps_in now.ticks))) [
      | inl e ↦
          let low = ltb-true (steps_in was.ticks) (steps_in now.ticks) e in
          let next : steps_in was.ticks + 1 ≡ steps_in now.ticks = omega (arith, low, most) in
          rw e (sym (range-more (steps_in was.ticks)) ∙ ap (range_with_len 0) next)
      | inr e ↦
          let high = ltb-false (steps_in was.ticks) (steps_in now.ticks) e in
          let same : steps_in was.ticks ≡ steps_in now.ticks = omega (arith, high, up) in
          rw e (append-nil (steps_to was.ticks) ∙ ap (range_with_len 0) same)
    ]

steps-rounds : (n : ℕ) (leg : Leg) (s : Counts) →
    steps_to s.ticks ++ steps_made (rounds_answers n leg s)
    ≡ steps_to (after_rounds n (walk_plan leg) s).ticks
unfolding after_rounds rounds_answers
steps-rounds zero leg s = append-nil (steps_to s.ticks)
steps-rounds (suc n) leg s =
    let next : Counts = live_round (walk_plan leg) s in
    let goes = goes-round (walk_plan leg) s in
    ap (λ l. steps_to s.ticks ++ l) (flat_map-append step_of (round_answers leg s next) (rounds_answers n leg next))
    ∙ sym (append_assoc (steps_to s.ticks) (steps_made (round_answers leg s next))
    (steps_made (rounds_answers n leg next)))
    ∙ ap (λ l. l ++ steps_made (rounds_answers n leg next)) (steps-round leg s next goes.ticks goes.most)
    ∙ steps-rounds n leg next

steps-of : (leg : Leg) (s : Counts) (saying : Saying) →
    steps_to s.ticks ++ steps_made (answers_to leg s saying)
    ≡ steps_to (counts_said (walk_plan leg) s saying).ticks
steps-of leg s (lands kind) =
    ap (λ l. steps_to s.ticks ++ l) (steps-refused (s.frames + s.commands) (refusal_at leg (next_item s kind)))
    ∙ append-nil (steps_to s.ticks) ∙ ap steps_to (sym (lands-ticks (walk_plan leg) s kind))
steps-of leg s (cuts m) = append-nil (steps_to s.ticks)
steps-of leg s (mends m) = append-nil (steps_to s.ticks)
steps-of leg s (passes k) =
    let n : ℕ = rounds_for k (walk_plan leg) s in
    let now : ℕ = (counts_said (walk_plan leg) s (passes k)).ticks in
    ap (λ l. steps_to s.ticks ++ l)
    (flat_map-append step_of (rounds_answers n leg s) (pass_ends leg s.ticks now)
    ∙ append-nil (steps_made (rounds_answers n leg s)))
    ∙ steps-rounds n leg s

pub steps-all : (said : List Saying) (leg : Leg) (s : Counts) →
    steps_to s.ticks ++ steps_made (answers_from leg s said)
    ≡ steps_to (counts_from (walk_plan leg) s said).ticks
unfolding answers_from counts_from
steps-all [] leg s = append-nil (steps_to s.ticks)
steps-all (saying ∷ said) leg s =
    let next : Counts = counts_said (walk_plan leg) s saying in
    ap (λ l. steps_to s.ticks ++ l)
    (flat_map-append step_of (answers_to leg s saying) (answers_from leg next said))
    ∙ sym (append_assoc (steps_to s.ticks) (steps_made (answers_to leg s saying))
    (steps_made (answers_from leg next said)))
    ∙ ap (λ l. l ++ steps_made (answers_from leg next said)) (steps-of leg s saying)
    ∙ steps-all said leg next

-- ---- all have landed
abbrev frames_one : Bool → ℕ
frames_one client = if client then 1 else 0

abbrev commands_one : Bool → ℕ
commands_one client = if client then 0 else 1

kind-frames : (due : ℕ) (kind : ItemKind) (rest : List Due) →
    length (frame_dues (due_of due kind ∷ rest)) ≡ frames_one (is_client kind) + length (frame_dues rest)
unfolding frame_dues
kind-frames due (Frame octets) rest = omega arith
kind-frames due (Add line) rest = omega arith
kind-frames due (Remove line) rest = omega arith

kind-commands : (due : ℕ) (kind : ItemKind) (rest : List Due) →
    length (command_dues (due_of due kind ∷ rest)) ≡ commands_one (is_client kind) + length (command_dues rest)
unfolding command_dues
kind-commands due (Frame octets) rest = omega arith
kind-commands due (Add line) rest = omega arith
kind-commands due (Remove line) rest = omega arith

pub all-landed : (items : List Item) (a b i : ℕ) → length (frame_dues (dues_of items)) ≤ a →
    length (command_dues (dues_of items)) ≤ b → landed_from a b i items ≡ numbered i items
unfolding landed_from numbered
all-landed [] a b i frames commands = refl
all-landed (item ∷ items) a b i frames commands =
    let more = kind-frames item.due item.kind (dues_of items) in
    let others = kind-commands item.due item.kind (dues_of items) in
    elim (cases_Bool (is_client item.kind)) [
      | inl e ↦
          let one : frames_one (is_client item.kind) ≡ 1 = ap frames_one e in
          let none : commands_one (is_client item.kind) ≡ 0 = ap commands_one e in
          let some : nat_lt 0 a ≡ true = lt-ltb 0 a (omega (arith, more, one, frames)) in
          rw (e, some) (ap (λ l. record { number = i; item = item } ∷ l)
          (all-landed items (a - 1) b (suc i) (omega (arith, more, one, frames))
          (omega (arith, others, none, commands))))
      | inr e ↦
          let one : commands_one (is_client item.kind) ≡ 1 = ap commands_one e in
          let none : frames_one (is_client item.kind) ≡ 0 = ap frames_one e in
          let some : nat_lt 0 b ≡ true = lt-ltb 0 b (omega (arith, others, one, commands)) in
          rw (e, some) (ap (λ l. record { number = i; item = item } ∷ l)
          (all-landed items a (b - 1) (suc i) (omega (arith, more, none, frames))
          (omega (arith, others, one, commands))))
    ]
