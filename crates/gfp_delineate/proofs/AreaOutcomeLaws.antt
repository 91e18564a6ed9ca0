-- Outcomes: those of the areas of a run and of one more, and those that an answer of a delineator tells.
use Rattle.std.proofs.Common.{◌≡◌, ℕ, ◌+◌, Bool, List, [], ◌∷◌, ◌++◌, length, map, drop, sum, refl, sym, ◌∙◌, ap, ap₂}
use Rattle.std.proofs.Common.{arith, append_assoc, Option, flat_map, append-nil, ◌≤◌, true, false, inl, inr, Some}
use Rattle.std.proofs.Common.{None, length-drop, ◌↔◌, IfSome, IsTrue, option_to_list, le-leb, take, subst, nat_lt}
use Rattle.std.proofs.Common.{if◌then◌else◌}
use Rattle.std.proofs.lemmas.List.{map-append}
use Rattle.std.proofs.lemmas.List.Concat.{flat_map-append}
use Rattle.law_model.specs.Common.{descrambled_octets, cut, joined, Run, runs_with, area_outcomes, is_settled}
use Rattle.law_model.specs.Common.{outcomes_after_with, descrambled_areas, run_outcomes_with, outcomes_with, delivery}
use Rattle.law_model.specs.Common.{head, type_fault, Outcome, dropping, outcome_by, client_outcome, outcomes}
use Rattle.law_model.proofs.ScrambledBitAndAreaLaws.{sum-cons, length-joined, map-length-descrambled_areas}
use Rattle.law_model.proofs.ScrambledBitAndAreaLaws.{descrambled_areas-push}
use Rattle.std.proofs.lemmas.Bool.{lt-leb, cases_lt}
use Rattle.law_model.specs.frames.Delivery.{frame_in}
use Rattle.gfp_delineate.specs.declared.delineator.Step.{Step}
use Rattle.gfp_delineate.specs.declared.delineator.Step.TheVariants.{Nothing, Frame, Dropped}
use Rattle.gfp_delineate.specs.ReceivedAreas.{Progress, AreaEnd, keeping, passing, end_of, ends_told, Adds}
use Rattle.gfp_delineate.specs.Receiver.{Receiver, frame_of, outcomes_told, told_outcomes, client_of, area_limit}
use Rattle.gfp_delineate.specs.Receiver.{Brings}
use Rattle.law_model.specs.declared.frame_faults.Why.TheVariants.{TooLong}
use Rattle.gfp_delineate.specs.declared.hunt_presync_sync.AreaWhy.TheVariants.{TooLong as IsLong}
use Rattle.gfp_delineate.specs.declared.hunt_presync_sync.AreaStep.{AreaStep}
use Rattle.gfp_delineate.specs.declared.hunt_presync_sync.AreaStep.TheVariants.{Area}

-- ---- The laws of outcomes, with any outcome of an area: what one more area of a run adds, and what one more run adds.
module _ {X : Type 0} (outcome : Bool → List ℕ → X) where
  pub outcomes_after-append : (settled : Bool) (before : ℕ) (areas more : List (List ℕ)) →
      outcomes_after_with outcome settled before (areas ++ more) ≡ outcomes_after_with outcome settled before areas ++
      outcomes_after_with outcome settled (before + sum (map length areas)) more
  unfolding outcomes_after_with
  outcomes_after-append settled before [] more =
      ap (λ n. outcomes_after_with outcome settled n more) (let e : before ≡ before + 0 = omega arith in e)
  outcomes_after-append settled before (area ∷ areas) more =
      let place : before + length area + sum (map length areas) ≡ before + sum (map length (area ∷ areas)) =
      omega (arith, sum-cons (length area) (map length areas)) in
      ap (λ l. area_outcomes outcome settled before area ++ l)
      (outcomes_after-append settled (before + length area) areas more
      ∙ ap (λ n. outcomes_after_with outcome settled (before + length area) areas ++ outcomes_after_with outcome settled
      n more) place)
      ∙ sym (append_assoc (area_outcomes outcome settled before area)
      (outcomes_after_with outcome settled (before + length area) areas)
      (outcomes_after_with outcome settled (before + sum (map length (area ∷ areas))) more))

  outcomes_after-single : (settled : Bool) (before : ℕ) (area : List ℕ) →
      outcomes_after_with outcome settled before (area ∷ []) ≡ area_outcomes outcome settled before area
  unfolding outcomes_after_with
  outcomes_after-single settled before area = append-nil (area_outcomes outcome settled before area)

  -- a run without areas
  pub run_outcomes-none : (settled : Bool) → run_outcomes_with outcome (record { settled = settled; areas = [] }) ≡ []
  unfolding outcomes_after_with cut
  run_outcomes-none settled = refl

  -- one more area
  pub run_outcomes-push : (settled : Bool) (before : List (List ℕ)) (area : List ℕ) →
      run_outcomes_with outcome (record { settled = settled; areas = before ++ area ∷ [] })
      ≡ run_outcomes_with outcome (record { settled = settled; areas = before })
      ++ area_outcomes outcome settled (length (joined before))
      (drop (length (joined before)) (descrambled_octets (joined before ++ area)))
  run_outcomes-push settled before area =
      let plain : List ℕ = drop (length (joined before)) (descrambled_octets (joined before ++ area)) in
      let place : 0 + sum (map length (descrambled_areas before)) ≡ length (joined before) =
      omega (arith, ap sum (map-length-descrambled_areas before), length-joined before) in
      ap (outcomes_after_with outcome settled 0) (descrambled_areas-push before area)
      ∙ outcomes_after-append settled 0 (descrambled_areas before) (plain ∷ [])
      ∙ ap (λ l. outcomes_after_with outcome settled 0 (descrambled_areas before) ++ l)
      (ap (λ n. outcomes_after_with outcome settled n (plain ∷ [])) place
      ∙ outcomes_after-single settled (length (joined before)) plain)

  -- one more run
  pub outcomes_of-push : (ended : List Run) (run : Run) →
      flat_map (run_outcomes_with outcome) (ended ++ run ∷ []) ≡ flat_map
      (run_outcomes_with outcome) ended ++ run_outcomes_with outcome run
  outcomes_of-push ended run = flat_map-append (run_outcomes_with outcome) ended (run ∷ [])
      ∙ ap (λ l. flat_map (run_outcomes_with outcome) ended ++ l) (append-nil (run_outcomes_with outcome run))

-- ---- an outcome that is made of another one
module _ {X Y : Type 0} (outcome : Bool → List ℕ → X) (other : Bool → List ℕ → Y) (made : X → Y)
    (same : (settled : Bool) (area : List ℕ) → other settled area ≡ made (outcome settled area)) where
  area_outcomes-map : (settled : Bool) (before : ℕ) (area : List ℕ) →
      area_outcomes other settled before area ≡ map made (area_outcomes outcome settled before area)
  area_outcomes-map settled before [] = refl
  area_outcomes-map settled before (o ∷ area) =
      ap (λ y. y ∷ []) (same (is_settled settled before) (o ∷ area))

  outcomes_after-map : (settled : Bool) (before : ℕ) (areas : List (List ℕ)) →
      outcomes_after_with other settled before areas ≡ map made (outcomes_after_with outcome settled before areas)
  unfolding outcomes_after_with
  outcomes_after-map settled before [] = refl
  outcomes_after-map settled before (area ∷ areas) =
      ap₂ ◌++◌ (area_outcomes-map settled before area) (outcomes_after-map settled (before + length area) areas)
      ∙ sym (map-append made (area_outcomes outcome settled before area)
      (outcomes_after_with outcome settled (before + length area) areas))

  runs-map : (runs : List Run) →
      flat_map (run_outcomes_with other) runs ≡ map made (flat_map (run_outcomes_with outcome) runs)
  runs-map [] = refl
  runs-map (run ∷ runs) =
      ap₂ ◌++◌ (outcomes_after-map run.settled 0 (descrambled_areas run.areas)) (runs-map runs)
      ∙ sym (map-append made (run_outcomes_with outcome run) (flat_map (run_outcomes_with outcome) runs))

  -- of a segment
  pub outcomes-map : (seek follow : List ℕ → Option ℕ) (first : Bool) (octets : List ℕ) →
      outcomes_with seek follow other first octets ≡ map made (outcomes_with seek follow outcome first octets)
  outcomes-map seek follow first octets = runs-map (runs_with seek follow first octets)

  -- what more octets add
  pub outcomes_more-map : (seek follow : List ℕ → Option ℕ) (first : Bool) (octets more : List ℕ) (come : List X) →
      outcomes_with seek follow outcome first
      (octets ++ more) ≡ outcomes_with seek follow outcome first octets ++ come →
      outcomes_with seek follow other first (octets ++ more)
      ≡ outcomes_with seek follow other first octets ++ map made come
  outcomes_more-map seek follow first octets more come is =
      outcomes-map seek follow first (octets ++ more) ∙ ap (map made) is
      ∙ map-append made (outcomes_with seek follow outcome first octets) come
      ∙ ap (λ l. l ++ map made come) (sym (outcomes-map seek follow first octets))

-- ---- The frames that an answer tells.
-- the frames that an answer tells
abbrev pub told : Receiver → Step → List (List ℕ)
told receiver Nothing = []
told receiver Frame = option_to_list (frame_of receiver)
told receiver (Dropped why) = []

frames_held : (frame : Option (List ℕ)) → flat_map frame_in (map delivery (option_to_list frame)) ≡ option_to_list frame
frames_held None = refl
frames_held (Some frame) = refl

-- they are those among its outcomes
pub frames_told : (receiver : Receiver) (step : Step) →
    flat_map frame_in (told_outcomes receiver step) ≡ told receiver step
frames_told receiver Nothing = refl
frames_told receiver Frame = frames_held (frame_of receiver)
frames_told receiver (Dropped why) = refl

-- ---- what a call tells, where it holds a frame exactly at the answer Frame
frame-held : (progress : Progress) (holds : Bool) → IsTrue holds → 4 ≤ length progress.area →
    frame_of (record { progress = progress; holds = holds }) ≡ Some (drop 4 progress.area)
frame-held progress true held room = rw (le-leb 4 (length progress.area) room) refl
frame-held progress false held room = absurd cc

pub outcomes-held : (progress : Progress) (holds : Bool) (step : Step) → (IsTrue holds ↔ (step ≡ Frame)) →
    (step ≡ Frame → 4 ≤ length progress.area) →
    outcomes_told (Some (drop 4 progress.area)) step ≡ told_outcomes (record { progress = progress; holds = holds })
    step
outcomes-held progress holds Nothing held room = refl
outcomes-held progress holds Frame held room =
    ap (λ frame. map delivery (option_to_list frame)) (sym (frame-held progress holds (held.1 refl) (room refl)))
outcomes-held progress holds (Dropped why) held room = refl

pub short-held : (progress : Progress) (holds : Bool) (longest : ℕ) →
    (IsTrue holds → length progress.area ≤ longest + 4) →
    IfSome (frame_of (record { progress = progress; holds = holds })) (λ frame. length frame ≤ longest)
short-held progress false longest short = tt
short-held progress true longest short = elim (cases_lt (length progress.area) 4) [
  | inl few ↦ rw (lt-leb 4 (length progress.area) few) tt
  | inr room ↦ rw (le-leb 4 (length progress.area) room) (omega (arith, length-drop 4 progress.area, short refl))
]

-- ---- Ethernet frames in the areas that end.
-- the outcome of an area is made of how it ended
by_length : (long : Bool) (area : List ℕ) →
    (if long then dropping (TooLong (length area)) else outcome_by (type_fault (take 4 area)) area)
    ≡ client_of (if long then passing (IsLong (length area)) else keeping area)
by_length true area = refl
by_length false area = refl

client_outcome-end : (longest : ℕ) (settled : Bool) (area : List ℕ) →
    client_outcome longest settled area ≡ client_of (end_of (area_limit longest) settled area)
unfolding area_limit
client_outcome-end longest true area = by_length (nat_lt (longest + 4) (length area)) area
client_outcome-end longest false area = refl

-- and what more octets bring, of the areas that end with them
pub Brings-ends : (was : Receiver) (more : List ℕ) (come : List AreaEnd) (told : List Outcome) →
    told ≡ map client_of come → Adds was.progress more come → Brings was more told
Brings-ends was more come told same adds = λ longest first octets stands.
    outcomes_more-map (end_of (area_limit longest)) (client_outcome longest) client_of
    (client_outcome-end longest) head head
    first octets more come (adds (area_limit longest) false first octets stands)
    ∙ ap (λ l. outcomes longest first octets ++ l) (sym same)

-- what an answer tells is made of how the area ended
pub told-ends : (progress : Progress) (holds : Bool) (end : AreaStep) (step : Step) (area : List ℕ) →
    (IsTrue holds ↔ (step ≡ Frame)) → area ≡ progress.area →
    outcomes_told (Some (drop 4 area)) step ≡ map client_of (ends_told area end) →
    (step ≡ Frame → end ≡ Area) → (end ≡ Area → 4 ≤ length progress.area) →
    told_outcomes (record { progress = progress; holds = holds }) step ≡ map client_of (ends_told progress.area end)
told-ends progress holds end step area held same is frame least =
    sym (outcomes-held progress holds step held (λ e. least (frame e)))
    ∙ subst (λ area. outcomes_told (Some (drop 4 area)) step ≡ map client_of (ends_told area end)) same is

-- a frame that is held is no longer than one may be
pub short-ends : (progress : Progress) (holds : Bool) (end : AreaStep) (step : Step) (longest : ℕ) →
    (IsTrue holds ↔ (step ≡ Frame)) → progress.longest ≡ area_limit longest → (step ≡ Frame → end ≡ Area) →
    (end ≡ Area → length progress.area ≤ progress.longest) →
    IfSome (frame_of (record { progress = progress; holds = holds })) (λ frame. length frame ≤ longest)
unfolding area_limit
short-ends progress holds end step longest held limit frame greatest =
    short-held progress holds longest (λ yes. omega (arith, limit, greatest (frame (held.0 yes))))
