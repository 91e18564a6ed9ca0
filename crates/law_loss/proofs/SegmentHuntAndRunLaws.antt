-- The hunt in a segment and the runs behind it: what came of its octets stays where more octets come.
use Rattle.std.proofs.Common.{◌≡◌, ℕ, zero, suc, ◌+◌, ◌-◌, ◌≤◌, Bool, true, false, not, List, [], ◌∷◌, length, drop}
use Rattle.std.proofs.Common.{Option, Some, None, refl, ◌∙◌, ap, ap₂, inl, inr, arith, length-drop, IfSome, drop-drop}
use Rattle.std.proofs.Common.{le-leb, map, sum, append_assoc, sym, take, ◌<◌, ◌++◌, length-append, append-nil}
use Rattle.std.proofs.Common.{flat_map}
use Rattle.std.proofs.lemmas.Bool.{lt-leb, cases_lt}
use Rattle.law_model.specs.Common.{head, Confirmed, header_at, confirm_by, confirm_with, hunt_by, hunt_within, hunt}
use Rattle.law_model.specs.Common.{areas, after_run, Run, Delineated, run_then, delineate, runs, header_with, joined}
use Rattle.law_model.specs.Common.{Followed, no_area, follow_with, Outcome, client_outcome, outcomes_after}
use Rattle.law_model.specs.Common.{descrambled_areas, run_outcomes, outcomes}
use Rattle.gfp_delineate.proofs.HuntAndFollowLaws.{viewed, search, no_header, delineate_from, delineate-open}
use Rattle.gfp_delineate.proofs.HuntAndFollowLaws.{follow-few, follow-lost, follow-part, follow-whole}
use Rattle.std.proofs.lemmas.List.{drop-append-le, take-append-le}
use Rattle.law_model.proofs.ScrambledBitAndAreaLaws.{descrambled_behind, descrambled_areas-append}
use Rattle.gfp_delineate.proofs.AreaOutcomeLaws.{outcomes_after-append}

-- ---- What is found in a search that a refused header went before.
-- a place in octets of which the first has a place
abbrev pub Lies : ℕ → List ℕ → Confirmed → Type 0
Lies p octets found = (n : ℕ) × (found.place ≡ p + n) × (found.octets ≡ drop n octets) × (found.refused ≡ true) ×
    (n + 4 ≤ length octets)

abbrev FoundIn : ℕ → List ℕ → Option Confirmed → Type 0
FoundIn p octets found = IfSome found (Lies p octets)

later : (p m : ℕ) (octets : List ℕ) (found : Option Confirmed) → FoundIn (p + m) (drop m octets) found →
    FoundIn p octets found
later p m octets None lies = tt
later p m octets (Some found) lies = (
  m + lies.0,
  omega (arith, lies.1),
  lies.2 ∙ drop-drop lies.0 m octets,
  lies.3,
  omega (arith, lies.4, length-drop m octets),
)

confirm_by-found : (header : Option ℕ) (p : ℕ) (octets : List ℕ) (f : Bool → ℕ → List ℕ → Option Confirmed) →
    ((p : ℕ) (more : List ℕ) → FoundIn p more (f true p more)) → 4 ≤ length octets →
    FoundIn p octets (confirm_by header true p octets f)
confirm_by-found None p octets f found long =
    later p 1 octets (f true (p + 1) (drop 1 octets)) (found (p + 1) (drop 1 octets))
confirm_by-found (Some pli) p octets f found long = (0, omega arith, refl, refl, omega (arith, long))

confirm-found : (p : ℕ) (octets : List ℕ) (f : Bool → ℕ → List ℕ → Option Confirmed) →
    ((p : ℕ) (more : List ℕ) → FoundIn p more (f true p more)) → FoundIn p octets (confirm_with head true p octets f)
confirm-found p octets f found = elim (cases_lt (length octets) 4) [
  | inl few ↦ rw (lt-leb 4 (length octets) few) tt
  | inr long ↦ rw (le-leb 4 (length octets) long) (confirm_by-found (header_at octets) p octets f found long)
]

hunt_by-found : (header : Option ℕ) (p : ℕ) (octets : List ℕ) (f : Bool → ℕ → List ℕ → Option Confirmed) →
    ((p : ℕ) (more : List ℕ) → FoundIn p more (f true p more)) → FoundIn p octets (hunt_by head header true p octets f)
hunt_by-found None p octets f found = later p 1 octets (f true (p + 1) (drop 1 octets)) (found (p + 1) (drop 1 octets))
hunt_by-found (Some pli) p octets f found =
    later p (4 + pli) octets (confirm_with head true (p + (4 + pli)) (drop (4 + pli) octets) f)
    (confirm-found (p + (4 + pli)) (drop (4 + pli) octets) f found)

hunt_within-found : (k p : ℕ) (octets : List ℕ) → FoundIn p octets (hunt_within head k true p octets)
unfolding hunt_within
hunt_within-found zero p octets = tt
hunt_within-found (suc k) p octets =
    hunt_by-found (header_at octets) p octets (hunt_within head k) (hunt_within-found k)

-- ---- the runs of a segment
abbrev pub runs_after : Option (List ℕ) → List Run
runs_after None = []
runs_after (Some octets) = runs false octets

-- those from the place on that a search found
abbrev pub runs_of_search : Option (Bool × List ℕ) → List Run
runs_of_search None = []
runs_of_search (Some found) = record { settled = not found.0; areas = areas found.1 } ∷ runs_after (after_run found.1)

run_then-parts : (run : Run) (after : Option (List ℕ)) →
    (run_then run after (delineate false)).runs ≡ run ∷ runs_after after
run_then-parts run None = refl
run_then-parts run (Some octets) = refl

delineate_from-parts : (found : Option (Bool × List ℕ)) → (delineate_from head head found).runs ≡ runs_of_search found
delineate_from-parts None = refl
delineate_from-parts (Some found) =
    run_then-parts (record { settled = not found.0; areas = areas found.1 }) (after_run found.1)

pub runs-search : (first : Bool) (octets : List ℕ) → runs first octets ≡ runs_of_search (search head (not first) octets)
runs-search first octets = ap (λ (found : Delineated). found.runs) (delineate-open head head first octets)
    ∙ delineate_from-parts (search head (not first) octets)

-- ---- the runs of a later segment
runs-lies : (found : Option Confirmed) (octets : List ℕ) → FoundIn 0 octets found → (confirmed : Confirmed) →
    found ≡ Some confirmed →
    runs_of_search (viewed (λ r octets. (r, octets)) found)
    ≡ record { settled = false; areas = areas (drop confirmed.place octets) } ∷ runs_after
    (after_run (drop confirmed.place octets))
runs-lies None octets lies confirmed is = absurd cc
runs-lies (Some found) octets lies confirmed is =
    let at : found.octets ≡ drop found.place octets = lies.2
    ∙ ap (λ n. drop n octets) (let e : lies.0 ≡ found.place = omega (arith, lies.1) in e) in
    let same : found ≡ confirmed = cc in
    ap₂ (λ refused octets. record { settled = not refused; areas = areas octets } ∷ runs_after (after_run octets))
    lies.3 at
    ∙ ap (λ place. record { settled = false; areas = areas (drop place octets) } ∷ runs_after
    (after_run (drop place octets))) (ap (λ (c : Confirmed). c.place) same)

pub runs-confirmed : (octets : List ℕ) (confirmed : Confirmed) → hunt true 0 octets ≡ Some confirmed →
    runs false octets ≡ record { settled = false; areas = areas (drop confirmed.place octets) } ∷ runs_after
    (after_run (drop confirmed.place octets))
runs-confirmed octets confirmed is =
    runs-search false octets ∙ runs-lies (hunt true 0 octets) octets (hunt_within-found (length octets) 0 octets)
    confirmed is

pub runs-none : (octets : List ℕ) → hunt true 0 octets ≡ None → runs false octets ≡ []
runs-none octets none = runs-search false octets
    ∙ ap (λ found. runs_of_search (viewed (λ r octets. (r, octets)) found)) none

-- its place is in them
within : (found : Option Confirmed) (octets : List ℕ) → FoundIn 0 octets found → (confirmed : Confirmed) →
    found ≡ Some confirmed → confirmed.place + 4 ≤ length octets
within None octets lies confirmed is = absurd cc
within (Some found) octets lies confirmed is =
    let same : found ≡ confirmed = cc in
    omega (arith, ap (λ (c : Confirmed). c.place) same, lies.1, lies.4)

pub confirmed-within : (octets : List ℕ) (confirmed : Confirmed) → hunt true 0 octets ≡ Some confirmed →
    confirmed.place + 4 ≤ length octets
confirmed-within octets confirmed is =
    within (hunt true 0 octets) octets (hunt_within-found (length octets) 0 octets) confirmed is

-- ---- the rest of a part

-- ---- What comes of octets stays where more octets come.
-- a search in fewer octets finds nothing, or what the other one finds, with more octets after it
abbrev pub FollowsIn : List ℕ → ℕ → Option Confirmed → Option Confirmed → Type 0
FollowsIn more n None other = Unit {0}
FollowsIn more n (Some found) other =
    (other ≡ Some (record { place = found.place; octets = found.octets ++ more; refused = found.refused })) ×
    (length found.octets ≤ n)

FollowsIn-wider : (more : List ℕ) (n m : ℕ) (found other : Option Confirmed) → n ≤ m → FollowsIn more n found other →
    FollowsIn more m found other
FollowsIn-wider more n m None other le follows = tt
FollowsIn-wider more n m (Some found) other le follows = (follows.0, omega (arith, le, follows.1))

pub header_at-longer : (octets more : List ℕ) → 4 ≤ length octets → header_at (octets ++ more) ≡ header_at octets
unfolding header_with
header_at-longer octets more long =
    rw (
      le-leb 4 (length octets) long,
      le-leb 4 (length (octets ++ more)) (omega (arith, length-append octets more, long)),
    )
    (ap head (take-append-le 4 octets more long))

module _ (more : List ℕ) where
  abbrev Agree : ℕ → (Bool → ℕ → List ℕ → Option Confirmed) → (Bool → ℕ → List ℕ → Option Confirmed) → Type 0
  Agree n f g = (r : Bool) (p : ℕ) (octets : List ℕ) → length octets < n →
      FollowsIn more (length octets) (f r p octets) (g r p (octets ++ more))

  confirm_by-longer : (header : Option ℕ) (n : ℕ) (r : Bool) (p : ℕ) (octets : List ℕ)
      (f g : Bool → ℕ → List ℕ → Option Confirmed) → 4 ≤ length octets → length octets ≤ n → Agree n f g →
      FollowsIn more (length octets) (confirm_by header r p octets f) (confirm_by header r p (octets ++ more) g)
  confirm_by-longer None n r p octets f g long within agree =
      rw (drop-append-le 1 octets more (omega (arith, long)))
      (FollowsIn-wider more (length (drop 1 octets)) (length octets) (f true (p + 1) (drop 1 octets))
      (g true (p + 1) (drop 1 octets ++ more)) (omega (arith, length-drop 1 octets))
      (agree true (p + 1) (drop 1 octets) (omega (arith, length-drop 1 octets, long, within))))
  confirm_by-longer (Some pli) n r p octets f g long within agree = (refl, omega arith)

  confirm-longer : (n : ℕ) (r : Bool) (p : ℕ) (octets : List ℕ) (f g : Bool → ℕ → List ℕ → Option Confirmed) →
      length octets ≤ n → Agree n f g →
      FollowsIn more (length octets) (confirm_with head r p octets f) (confirm_with head r p (octets ++ more) g)
  confirm-longer n r p octets f g within agree = elim (cases_lt (length octets) 4) [
    | inl few ↦ rw (lt-leb 4 (length octets) few) tt
    | inr long ↦ rw (
      le-leb 4 (length octets) long,
      le-leb 4 (length (octets ++ more)) (omega (arith, length-append octets more, long)),
      header_at-longer octets more long,
    ) (confirm_by-longer (header_at octets) n r p octets f g long within agree)
  ]

  hunt_by-longer : (header : Option ℕ) (n : ℕ) (r : Bool) (p : ℕ) (octets : List ℕ)
      (f g : Bool → ℕ → List ℕ → Option Confirmed) → 4 ≤ length octets → length octets ≤ n → Agree n f g →
      FollowsIn more (length octets) (hunt_by head header r p octets f) (hunt_by head header r p (octets ++ more) g)
  hunt_by-longer None n r p octets f g long within agree =
      rw (drop-append-le 1 octets more (omega (arith, long)))
      (FollowsIn-wider more (length (drop 1 octets)) (length octets) (f r (p + 1) (drop 1 octets))
      (g r (p + 1) (drop 1 octets ++ more)) (omega (arith, length-drop 1 octets))
      (agree r (p + 1) (drop 1 octets) (omega (arith, length-drop 1 octets, long, within))))
  hunt_by-longer (Some pli) n r p octets f g long within agree = elim (cases_lt (length (drop (4 + pli) octets)) 4) [
    | inl few ↦ rw (lt-leb 4 (length (drop (4 + pli) octets)) few) tt
    | inr some ↦ (
        let size : length (drop (4 + pli) octets) ≡ length octets - (4 + pli) = length-drop (4 + pli) octets in
        rw (drop-append-le (4 + pli) octets more (omega (arith, size, some)))
        (FollowsIn-wider more (length (drop (4 + pli) octets)) (length octets)
        (confirm_with head r (p + (4 + pli)) (drop (4 + pli) octets) f)
        (confirm_with head r (p + (4 + pli)) (drop (4 + pli) octets ++ more) g) (omega (arith, size))
        (confirm-longer n r (p + (4 + pli)) (drop (4 + pli) octets) f g (omega (arith, size, within)) agree)))
  ]

  pub hunt_within-few : (k : ℕ) (r : Bool) (p : ℕ) (octets : List ℕ) → length octets < 4 →
      hunt_within head k r p octets ≡ None
  unfolding hunt_within
  hunt_within-few zero r p octets few = refl
  hunt_within-few (suc k) r p octets few =
      rw (no_header head octets few) (hunt_within-few k r (p + 1) (drop 1 octets)
      (omega (arith, few, length-drop 1 octets)))

  few-longer : (k : ℕ) (r : Bool) (p : ℕ) (octets : List ℕ) (other : Option Confirmed) → length octets < 4 →
      FollowsIn more (length octets) (hunt_within head k r p octets) other
  few-longer k r p octets other few = rw (hunt_within-few k r p octets few) tt

  pub hunt_within-longer : (k m : ℕ) (r : Bool) (p : ℕ) (octets : List ℕ) → length octets ≤ k →
      length (octets ++ more) ≤ m → FollowsIn more (length octets) (hunt_within head k r p octets)
      (hunt_within head m r p (octets ++ more))
  unfolding hunt_within
  hunt_within-longer zero m r p octets enough also = tt
  hunt_within-longer (suc k) zero r p octets enough also =
      few-longer (suc k) r p octets None (omega (arith, also, length-append octets more))
  hunt_within-longer (suc k) (suc m) r p octets enough also = elim (cases_lt (length octets) 4) [
    | inl few ↦ few-longer (suc k) r p octets (hunt_within head (suc m) r p (octets ++ more)) few
    | inr long ↦
        rw (header_at-longer octets more long)
        (hunt_by-longer (header_at octets) (length octets) r p octets (hunt_within head k) (hunt_within head m) long
        (omega arith)
        (λ r p less fewer. hunt_within-longer k m r p less (omega (arith, enough, fewer))
        (omega (arith, also, fewer, length-append less more, length-append octets more))))
  ]

-- ---- a search
abbrev seen : Option Confirmed → Option (Bool × List ℕ)
seen found = viewed (λ r octets. (r, octets)) found

search-follows : (more : List ℕ) (n : ℕ) (found other : Option Confirmed) → FollowsIn more n found other →
    (refused : Bool) (octets : List ℕ) → seen found ≡ Some (refused, octets) →
    (seen other ≡ Some (refused, octets ++ more)) × (length octets ≤ n)
search-follows more n None other follows refused octets is =
    absurd (let e : seen None ≡ Some (refused, octets) = is in cc)
search-follows more n (Some found) other follows refused octets is =
    let both : (r : Bool) (l : List ℕ) → (p : Bool × List ℕ) → Some p ≡ Some (r, l) → (p.0 ≡ r) ×
    (p.1 ≡ l) = λ r l p e. (let f : p ≡ (r, l) =
    cc in (ap (λ (p : Bool × List ℕ). p.0) f, ap (λ (p : Bool × List ℕ). p.1) f)) in
    let parts = both refused octets (found.refused, found.octets) is in (
      ap seen follows.0 ∙ ap₂ (λ r octets. Some (r, octets ++ more)) parts.0 parts.1,
      omega (arith, follows.1, ap length parts.1),
    )

search-longer : (r : Bool) (octets more : List ℕ) (refused : Bool) (found : List ℕ) →
    (let e : Option (Bool × List ℕ) = search head r octets in e) ≡ Some (refused, found) →
    ((let e : Option (Bool × List ℕ) = search head r (octets ++ more) in e) ≡ Some (refused, found ++ more)) ×
    (length found ≤ length octets)
search-longer r octets more refused found is =
    search-follows more (length octets) (hunt r 0 octets) (hunt r 0 (octets ++ more))
    (hunt_within-longer more (length octets) (length (octets ++ more)) r 0 octets (omega arith) (omega arith)) refused
    found is

-- ---- the areas of a run, and what is after it
pub record Longer (octets more : List ℕ) : Type 0 where
  pub extra : List (List ℕ)
  pub areas_same : areas (octets ++ more) ≡ areas octets ++ extra
  pub ends : (after : List ℕ) → after_run octets ≡ Some after → (after_run (octets ++ more) ≡ Some (after ++ more)) ×
      (extra ≡ []) × (length after < length octets)

never : (octets : List ℕ) → after_run octets ≡ None → (more : List ℕ) (extra : List (List ℕ)) (after : List ℕ) →
    after_run octets ≡ Some after → (after_run (octets ++ more) ≡ Some (after ++ more)) × (extra ≡ []) ×
    (length after < length octets)
never octets none more extra after is = absurd (let e : None ≡ Some after = sym none ∙ is in cc)

abbrev areas_in : Followed → List (List ℕ)
areas_in followed = followed.areas

abbrev after_in : Followed → Option (List ℕ)
after_in followed = followed.after

open_run : (octets more : List ℕ) → follow_with head octets ≡ no_area None → Longer octets more
open_run octets more goes_on = record {
  extra = areas (octets ++ more);
  areas_same = ap (λ l. l ++ areas (octets ++ more)) (sym (ap areas_in goes_on));
  ends = never octets (ap after_in goes_on) more (areas (octets ++ more));
}

longer_by : (k : ℕ) (octets more : List ℕ) → length octets < k → (header : Option ℕ) → header_at octets ≡ header →
    ((less : List ℕ) → length less < length octets → Longer less more) → Longer octets more
longer_by k octets more within None is further = elim (cases_lt (length octets) 4) [
  | inl few ↦ open_run octets more (follow-few head octets few)
  | inr long ↦ (
      let also : header_at (octets ++ more) ≡ None = header_at-longer octets more long ∙ is in
      let all : 4 ≤ length (octets ++ more) = omega (arith, long, length-append octets more) in
      let lost = follow-lost head octets is long in
      let both = follow-lost head (octets ++ more) also all in
      record {
        extra = [];
        areas_same = ap areas_in both ∙ sym (append-nil (areas octets) ∙ ap areas_in lost);
        ends = λ after same.
            let one : drop 1 octets ≡ after =
            (let e : Some (drop 1 octets) ≡ Some after = sym (ap after_in lost) ∙ same in cc) in (
              ap after_in both ∙ ap (λ l. Some l)
                  (drop-append-le 1 octets more (omega (arith, long)) ∙ ap (λ l. l ++ more) one),
              refl,
              omega (arith, ap length one, length-drop 1 octets, long),
            );
      })
]
longer_by k octets more within (Some pli) is further = elim (cases_lt (length octets) (4 + pli)) [
  | inl short ↦ open_run octets more (follow-part head octets pli is short)
  | inr whole ↦ (
      let four : 4 ≤ length octets = omega (arith, whole) in
      let also : header_at (octets ++ more) ≡ Some pli = header_at-longer octets more four ∙ is in
      let rest : List ℕ = drop (4 + pli) octets in
      let next : Longer rest more = further rest (omega (arith, length-drop (4 + pli) octets, whole)) in
      let both : drop (4 + pli) (octets ++ more) ≡ rest ++ more = drop-append-le (4 + pli) octets more whole in
      let all : 4 + pli ≤ length (octets ++ more) = omega (arith, whole, length-append octets more) in
      let first : take pli (drop 4 (octets ++ more)) ≡ take pli (drop 4 octets) =
      ap (take pli) (drop-append-le 4 octets more four)
      ∙ take-append-le pli (drop 4 octets) more (omega (arith, length-drop 4 octets, whole)) in
      let front = follow-whole head octets pli is whole in
      let long = follow-whole head (octets ++ more) pli also all in
      record {
        extra = next.extra;
        areas_same = ap areas_in long ∙ ap₂ (λ area octets. area ∷ areas octets) first both
            ∙ ap (λ l. take pli (drop 4 octets) ∷ l) next.areas_same
            ∙ ap (λ l. l ++ next.extra) (sym (ap areas_in front));
        ends = λ after same.
            let found = next.ends after (sym (ap after_in front) ∙ same) in (
              ap after_in long ∙ ap after_run both ∙ found.0,
              found.1,
              omega (arith, found.2, length-drop (4 + pli) octets),
            );
      })
]

longer_run : (k : ℕ) (octets more : List ℕ) → length octets < k → Longer octets more
longer_run zero octets more within = absurd (omega arith)
longer_run (suc k) octets more within =
    longer_by (suc k) octets more within (header_at octets) refl
    (λ less fewer. longer_run k less more (omega (arith, within, fewer)))

-- ---- outcomes
abbrev outcomes_of : ℕ → List Run → List Outcome
outcomes_of longest all = flat_map (run_outcomes longest) all

run_outcomes-longer : (longest : ℕ) (settled : Bool) (front more : List (List ℕ)) → (extra : List Outcome) ×
    (run_outcomes longest (record { settled = settled; areas = front ++ more }) ≡ run_outcomes longest
    (record { settled = settled; areas = front }) ++ extra)
run_outcomes-longer longest settled front more = (
  outcomes_after longest settled (0 + sum (map length (descrambled_areas front)))
      (descrambled_behind (joined front) more),
  ap (outcomes_after longest settled 0) (descrambled_areas-append front more)
      ∙ outcomes_after-append (client_outcome longest) settled 0 (descrambled_areas front)
      (descrambled_behind (joined front) more),
)

abbrev Grown : ℕ → List Run → List Run → Type 0
Grown longest old new = (extra : List Outcome) × (outcomes_of longest new ≡ outcomes_of longest old ++ extra)

runs_grow_on : (longest : ℕ) (settled : Bool) (found more : List ℕ) → Longer found more → (after : Option (List ℕ)) →
    after_run found ≡ after →
    ((less : List ℕ) → length less < length found → Grown longest (runs false less) (runs false (less ++ more))) →
    Grown longest (record { settled = settled; areas = areas found } ∷ runs_after (after_run found))
    (record { settled = settled; areas = areas (found ++ more) } ∷ runs_after (after_run (found ++ more)))
runs_grow_on longest settled found more longer None is further =
    let grown = run_outcomes-longer longest settled (areas found) longer.extra in
    let rest : List Run = runs_after (after_run (found ++ more)) in
    let one : List Outcome = run_outcomes longest (record { settled = settled; areas = areas found }) in (
      grown.0 ++ outcomes_of longest rest,
      ap (λ areas. run_outcomes longest (record { settled = settled; areas = areas }) ++ outcomes_of longest rest)
          longer.areas_same
          ∙ ap (λ l. l ++ outcomes_of longest rest) grown.1
          ∙ append_assoc one grown.0 (outcomes_of longest rest)
          ∙ ap (λ l. l ++ (grown.0 ++ outcomes_of longest rest))
          (sym (append-nil one) ∙ ap (λ after. one ++ outcomes_of longest (runs_after after)) (sym is)),
    )
runs_grow_on longest settled found more longer (Some after) is further =
    let ends = longer.ends after is in
    let grown = further after ends.2 in
    let one : List Outcome = run_outcomes longest (record { settled = settled; areas = areas found }) in (
      grown.0,
      ap₂ (λ areas after. run_outcomes longest (record { settled = settled; areas = areas }) ++ outcomes_of longest
          (runs_after after))
          (longer.areas_same ∙ ap (λ l. areas found ++ l) ends.1 ∙ append-nil (areas found)) ends.0
          ∙ ap (λ l. one ++ l) grown.1
          ∙ sym (append_assoc one (outcomes_of longest (runs false after)) grown.0)
          ∙ ap (λ after. (one ++ outcomes_of longest (runs_after after)) ++ grown.0) (sym is),
    )

runs_grow_by : (longest : ℕ) (settled : Bool) (octets more : List ℕ) (result : Option (Bool × List ℕ)) →
    search head (not settled) octets ≡ result →
    ((less : List ℕ) → length less < length octets → Grown longest (runs false less) (runs false (less ++ more))) →
    Grown longest (runs settled octets) (runs settled (octets ++ more))
runs_grow_by longest settled octets more None is further = (
  outcomes_of longest (runs settled (octets ++ more)),
  ap (λ l. outcomes_of longest l ++ outcomes_of longest (runs settled (octets ++ more)))
      (sym (runs-search settled octets ∙ ap runs_of_search is)),
)
runs_grow_by longest settled octets more (Some found) is further =
    let longer = search-longer (not settled) octets more found.0 found.1 is in
    let grown = runs_grow_on longest (not found.0) found.1 more
    (longer_run (suc (length found.1)) found.1 more (omega arith)) (after_run found.1) refl
    (λ less fewer. further less (omega (arith, fewer, longer.1))) in (
      grown.0,
      ap (outcomes_of longest) (runs-search settled (octets ++ more) ∙ ap runs_of_search longer.0)
          ∙ grown.1
          ∙ ap (λ l. outcomes_of longest l ++ grown.0) (sym (runs-search settled octets ∙ ap runs_of_search is)),
    )

runs_grow : (k : ℕ) (longest : ℕ) (settled : Bool) (octets more : List ℕ) → length octets < k →
    Grown longest (runs settled octets) (runs settled (octets ++ more))
runs_grow zero longest settled octets more within = absurd (omega arith)
runs_grow (suc k) longest settled octets more within =
    runs_grow_by longest settled octets more (search head (not settled) octets) refl
    (λ less fewer. runs_grow k longest false less more (omega (arith, within, fewer)))

-- with more octets of a segment the outcomes so far stay
pub outcomes_grow : (longest : ℕ) (first : Bool) (octets more : List ℕ) → (extra : List Outcome) ×
    (outcomes longest first (octets ++ more) ≡ outcomes longest first octets ++ extra)
outcomes_grow longest first octets more = runs_grow (suc (length octets)) longest first octets more (omega arith)

-- ---- What is confirmed first stays where more octets come.
-- a confirmed place with more octets behind it
abbrev longer_by_confirmed : List ℕ → Confirmed → Confirmed
longer_by_confirmed more found = record { place = found.place; octets = found.octets ++ more; refused = found.refused }

follows-found : (more : List ℕ) (n : ℕ) (found other : Option Confirmed) → FollowsIn more n found other →
    (confirmed : Confirmed) →
    found ≡ Some confirmed → other ≡ Some (longer_by_confirmed more confirmed)
follows-found more n None other follows confirmed is = absurd cc
follows-found more n (Some found) other follows confirmed is =
    let same : found ≡ confirmed = cc in follows.0 ∙ ap (λ (c : Confirmed). Some (longer_by_confirmed more c)) same

pub confirmed-stays : (r : Bool) (octets more : List ℕ) (confirmed : Confirmed) → hunt r 0 octets ≡ Some confirmed →
    hunt r 0 (octets ++ more) ≡ Some (record confirmed { octets = confirmed.octets ++ more })
confirmed-stays r octets more confirmed is =
    follows-found more (length octets) (hunt r 0 octets) (hunt r 0 (octets ++ more))
    (hunt_within-longer more (length octets) (length (octets ++ more)) r 0 octets (omega arith)
    (omega arith)) confirmed is
