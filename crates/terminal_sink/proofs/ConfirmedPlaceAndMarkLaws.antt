-- The place that a hunt confirmed first, the state SYNC, and the marks of octets that confirm it.
use Rattle.std.proofs.Common.{◌≡◌, ℕ, zero, suc, ◌+◌, ◌-◌, ◌≤◌, Bool, true, false, List, [], ◌∷◌, ◌++◌, length, take}
use Rattle.std.proofs.Common.{drop, Option, Some, None, refl, sym, ◌∙◌, ap, subst, arith, inl, inr, length-append}
use Rattle.std.proofs.Common.{length-drop, length-take, IfSome, le-leb, append-nil, take_at, take_all, take-take, ◌^◌}
use Rattle.std.proofs.Common.{◌⊎◌, nat_lt, option_map, lt-ltb}
use Rattle.std.proofs.lemmas.Bool.{lt-leb, cases_lt}
use Rattle.law_model.proofs.ListLaws.{drop-part}
use Rattle.law_model.specs.Common.{head, Confirmed, header_with, header_at, confirm_by, confirm_with, hunt_by}
use Rattle.law_model.specs.Common.{hunt_within, hunt, Followed, Run, Delineated, follow_with, run_then, delineate_with}
use Rattle.law_model.specs.Common.{is_sync}
use Rattle.gfp_delineate.proofs.HuntAndFollowLaws.{viewed, follow-few, follow-part, follow-whole, delineate_from}
use Rattle.gfp_delineate.proofs.HuntAndFollowLaws.{delineate-open}
use Rattle.law_loss.proofs.SegmentHuntAndRunLaws.{FollowsIn, hunt_within-longer}
use Rattle.terminal_sink.specs.declared.marked_delineator.Mark.{Mark}
use Rattle.terminal_sink.specs.declared.marked_delineator.Mark.TheVariants.{Hunting, Confirms}
use Rattle.terminal_sink.specs.marked_delineator.Marks.{first_place, HasMark, next_mark, is_hunting}

-- ---- The place that is confirmed first is the one at which the state SYNC begins: four octets before.
-- ---- what is found
-- from a place on, within these octets, and there a header stands
abbrev Lies : ℕ → List ℕ → Confirmed → Type 0
Lies p octets found = (p ≤ found.place) × (4 ≤ length found.octets) ×
    (found.place + length found.octets ≤ p + length octets) × ((pli : ℕ) × (header_at found.octets ≡ Some pli))

abbrev LiesIn : ℕ → List ℕ → Option Confirmed → Type 0
LiesIn p octets found = IfSome found (Lies p octets)

abbrev Searches : (ℕ → List ℕ → Option Confirmed) → Type 0
Searches f = (p : ℕ) (more : List ℕ) → LiesIn p more (f p more)

later : (p m : ℕ) (octets : List ℕ) (found : Option Confirmed) → LiesIn (p + m) (drop m octets) found →
    LiesIn p octets found
later p m octets None lies = tt
later p m octets (Some found) lies =
    (omega (arith, lies.0), lies.1, omega (arith, lies.0, lies.1, lies.2, length-drop m octets), lies.3)

confirm_by-lies : (header : Option ℕ) (p : ℕ) (octets : List ℕ) (f : Bool → ℕ → List ℕ → Option Confirmed) →
    header_at octets ≡ header → 4 ≤ length octets → Searches (f true) →
    LiesIn p octets (confirm_by header true p octets f)
confirm_by-lies None p octets f is long lies =
    later p 1 octets (f true (p + 1) (drop 1 octets)) (lies (p + 1) (drop 1 octets))
confirm_by-lies (Some pli) p octets f is long lies = (omega arith, long, omega arith, (pli, is))

confirm-lies : (p : ℕ) (octets : List ℕ) (f : Bool → ℕ → List ℕ → Option Confirmed) → Searches (f true) →
    LiesIn p octets (confirm_with head true p octets f)
confirm-lies p octets f lies = elim (cases_lt (length octets) 4) [
  | inl few ↦ rw (lt-leb 4 (length octets) few) tt
  | inr long ↦ rw (le-leb 4 (length octets) long) (confirm_by-lies (header_at octets) p octets f refl long lies)
]

hunt_by-lies : (header : Option ℕ) (p : ℕ) (octets : List ℕ) (f : Bool → ℕ → List ℕ → Option Confirmed) →
    Searches (f true) → LiesIn p octets (hunt_by head header true p octets f)
hunt_by-lies None p octets f lies = later p 1 octets (f true (p + 1) (drop 1 octets)) (lies (p + 1) (drop 1 octets))
hunt_by-lies (Some pli) p octets f lies =
    later p (4 + pli) octets _ (confirm-lies (p + (4 + pli)) (drop (4 + pli) octets) f lies)

hunt_within-lies : (k p : ℕ) (octets : List ℕ) → LiesIn p octets (hunt_within head k true p octets)
unfolding hunt_within
hunt_within-lies zero p octets = tt
hunt_within-lies (suc k) p octets = hunt_by-lies (header_at octets) p octets (hunt_within head k) (hunt_within-lies k)

-- ---- the first octets are enough
header-front : (octets : List ℕ) (m : ℕ) → 4 ≤ m → header_at (take m octets) ≡ header_at octets
unfolding header_with
header-front octets m long = elim (cases_lt (length octets) 4) [
  | inl few ↦ ap header_at (take_all m octets (omega (arith, few, long)))
  | inr some ↦ rw (
    le-leb 4 (length octets) some,
    le-leb 4 (length (take m octets)) (omega (arith, length-take m octets, some, long)),
  )
      (ap head (take-take 4 m octets long))
]

abbrev Finds : Option Confirmed → Type 0
Finds found = (other : Confirmed) × (found ≡ Some other)

abbrev Fronts : (ℕ → List ℕ → Option Confirmed) → Type 0
Fronts f = (p : ℕ) (octets : List ℕ) (m : ℕ) (found : Confirmed) → f p octets ≡ Some found → found.place + 4 ≤ p + m →
    Finds (f p (take m octets))

lies-some : (p : ℕ) (octets : List ℕ) (result : Option Confirmed) (found : Confirmed) → LiesIn p octets result →
    result ≡ Some found → Lies p octets found
lies-some p octets result found lies is = subst (LiesIn p octets) is lies

confirm_by-front : (header : Option ℕ) (p : ℕ) (octets : List ℕ) (m : ℕ) (f : Bool → ℕ → List ℕ → Option Confirmed)
    (found : Confirmed) → Searches (f true) → Fronts (f true) →
    confirm_by header true p octets f ≡ Some found → found.place + 4 ≤ p + m →
    Finds (confirm_by header true p (take m octets) f)
confirm_by-front None p octets m f found lies fronts is fits =
    let there = lies-some (p + 1) (drop 1 octets) _ found (lies (p + 1) (drop 1 octets)) is in
    subst (λ l. Finds (f true (p + 1) l)) (sym (drop-part 1 m octets))
    (fronts (p + 1) (drop 1 octets) (m - 1) found is (omega (arith, there.0, fits)))
confirm_by-front (Some pli) p octets m f found lies fronts is fits = (_, refl)

confirm-front : (p : ℕ) (octets : List ℕ) (m : ℕ) (f : Bool → ℕ → List ℕ → Option Confirmed) (found : Confirmed) →
    Searches (f true) → Fronts (f true) →
    confirm_with head true p octets f ≡ Some found → found.place + 4 ≤ p + m →
    Finds (confirm_with head true p (take m octets) f)
confirm-front p octets m f found lies fronts is fits =
    let there = lies-some p octets (confirm_with head true p octets f) found (confirm-lies p octets f lies) is in
    let four : 4 ≤ m = omega (arith, there.0, fits) in
    elim (cases_lt (length octets) 4) [
      | inl few ↦ absurd (omega (arith, there.0, there.1, there.2, few))
      | inr long ↦
          let opened : confirm_by (header_at octets) true p octets f ≡ Some found =
          rw (le-leb 4 (length octets) long) at is in
          rw (
            le-leb 4 (length (take m octets)) (omega (arith, length-take m octets, long, four)),
            header-front octets m four,
          )
          (confirm_by-front (header_at octets) p octets m f found lies fronts opened fits)
    ]

hunt_by-front : (header : Option ℕ) (p : ℕ) (octets : List ℕ) (m : ℕ) (f : Bool → ℕ → List ℕ → Option Confirmed)
    (found : Confirmed) → Searches (f true) → Fronts (f true) →
    hunt_by head header true p octets f ≡ Some found → found.place + 4 ≤ p + m →
    Finds (hunt_by head header true p (take m octets) f)
hunt_by-front None p octets m f found lies fronts is fits =
    let there = lies-some (p + 1) (drop 1 octets) _ found (lies (p + 1) (drop 1 octets)) is in
    subst (λ l. Finds (f true (p + 1) l)) (sym (drop-part 1 m octets))
    (fronts (p + 1) (drop 1 octets) (m - 1) found is (omega (arith, there.0, fits)))
hunt_by-front (Some pli) p octets m f found lies fronts is fits =
    let after : List ℕ = drop (4 + pli) octets in
    let there = lies-some (p + (4 + pli)) after _ found (confirm-lies (p + (4 + pli)) after f lies) is in
    subst (λ l. Finds (confirm_with head true (p + (4 + pli)) l f)) (sym (drop-part (4 + pli) m octets))
    (confirm-front (p + (4 + pli)) after (m - (4 + pli)) f found lies fronts is (omega (arith, there.0, fits)))

hunt_within-front : (k : ℕ) → Fronts (hunt_within head k true)
unfolding hunt_within
hunt_within-front zero p octets m found is fits = absurd (let e : None ≡ Some found = is in cc)
hunt_within-front (suc k) p octets m found is fits =
    let there = lies-some p octets (hunt_by head (header_at octets) true p octets (hunt_within head k)) found
    (hunt_by-lies (header_at octets) p octets (hunt_within head k) (hunt_within-lies k)) is in
    subst (λ h. Finds (hunt_by head h true p (take m octets) (hunt_within head k)))
    (sym (header-front octets m (omega (arith, there.0, fits))))
    (hunt_by-front (header_at octets) p octets m (hunt_within head k) found (hunt_within-lies k)
    (hunt_within-front k) is fits)

-- ---- the state SYNC
abbrev view : Bool → List ℕ → Bool × List ℕ
view r octets = (r, octets)

pub sync-none : (octets : List ℕ) → hunt true 0 octets ≡ None → is_sync octets ≡ false
sync-none octets none =
    ap (λ (found : Delineated). found.sync) (delineate-open head head false octets)
    ∙ ap (λ found. (delineate_from head head (viewed view found)).sync) none

-- four octets that are a header leave a run open
open-header : (octets : List ℕ) (pli : ℕ) → length octets ≡ 4 → header_at octets ≡ Some pli →
    (follow_with head octets).after ≡ None
open-header octets zero four is =
    ap (λ (found : Followed). found.after) (follow-whole head octets 0 is (omega (arith, four)))
    ∙ ap (λ (found : Followed). found.after)
    (follow-few head (drop 4 octets) (omega (arith, length-drop 4 octets, four)))
open-header octets (suc pli) four is =
    ap (λ (found : Followed). found.after) (follow-part head octets (suc pli) is (omega (arith, four)))

run-open : (run : Run) (after : Option (List ℕ)) (search_on : List ℕ → Delineated) → after ≡ None →
    (run_then run after search_on).sync ≡ true
run-open run after search_on none = rw none refl

pub sync-confirmed : (octets : List ℕ) (found : Confirmed) → hunt true 0 octets ≡ Some found →
    found.place + 4 ≡ length octets → is_sync octets ≡ true
sync-confirmed octets found is ends =
    let there = lies-some 0 octets (hunt true 0 octets) found (hunt_within-lies (length octets) 0 octets) is in
    ap (λ (found : Delineated). found.sync) (delineate-open head head false octets)
    ∙ ap (λ found. (delineate_from head head (viewed view found)).sync) is
    ∙ run-open _ (follow_with head found.octets).after (delineate_with head head false)
    (open-header found.octets there.3.0 (omega (arith, there.1, there.2, ends)) there.3.1)

-- ---- one more octet
module _ (octets : List ℕ) (o : ℕ) (none : hunt true 0 octets ≡ None) where
  abbrev all : List ℕ
  all = octets ++ o ∷ []

  size : length all ≡ length octets + 1
  size = length-append octets (o ∷ [])

  found-none : (k : ℕ) → length octets ≤ k → (other : Confirmed) → hunt_within head k true 0 octets ≡ Some other → ⊥
  found-none k enough other is =
      let follows = hunt_within-longer [] k (length octets) true 0 octets enough
      (omega (arith, length-append octets [])) in
      let moved : FollowsIn [] (length octets) (Some other) (hunt_within head (length octets) true 0 (octets ++ [])) =
      subst (λ found. FollowsIn [] (length octets) found (hunt_within head (length octets) true 0 (octets ++ []))) is
      follows in
      let same : hunt true 0 octets ≡ hunt_within head (length octets) true 0 (octets ++ []) =
      ap (hunt_within head (length octets) true 0) (sym (append-nil octets)) in
      let wrong : None ≡ Some _ = sym none ∙ same ∙ moved.0 in cc

  ends-here : (found : Confirmed) → hunt true 0 all ≡ Some found → found.place + 4 ≡ length octets + 1
  ends-here found is =
      let there = lies-some 0 all (hunt true 0 all) found (hunt_within-lies (length all) 0 all) is in
      elim (cases_lt (length octets) (found.place + 4)) [
        | inl here ↦ omega (arith, here, there.1, there.2, size)
        | inr before ↦ (
            let front = hunt_within-front (length all) 0 all (length octets) found is (omega (arith, before)) in
            let there : hunt_within head (length all) true 0 octets ≡ Some front.0 =
            ap (hunt_within head (length all) true 0) (sym (take_at octets (o ∷ []) (length octets) refl)) ∙ front.1 in
            absurd (found-none (length all) (omega (arith, size)) front.0 there))
      ]

  pub stays-none : is_sync all ≡ false → hunt true 0 all ≡ None
  stays-none out = by (hunt true 0 all) refl
    where
      by : (result : Option Confirmed) → hunt true 0 all ≡ result → hunt true 0 all ≡ None
      by None is = is
      by (Some found) is =
          absurd (let wrong : true ≡ false = sym (sync-confirmed all found is (omega (arith, ends-here found is, size)))
          ∙ out in cc)

  pub is-confirmed : is_sync all ≡ true → (found : Confirmed) × (hunt true 0 all ≡ Some found) ×
      (found.place + 4 ≡ length octets + 1)
  is-confirmed in_sync = by (hunt true 0 all) refl
    where
      by : (result : Option Confirmed) → hunt true 0 all ≡ result → (found : Confirmed) ×
          (hunt true 0 all ≡ Some found) × (found.place + 4 ≡ length octets + 1)
      by None is = absurd (let wrong : true ≡ false = sym in_sync ∙ sync-none all is in cc)
      by (Some found) is = (found, is, ends-here found is)

-- ---- Marks with more octets.
place-stays : (octets more : List ℕ) (place : ℕ) (result : Option Confirmed) → hunt true 0 octets ≡ result →
    option_map (λ (found : Confirmed). found.place) result ≡ Some place → first_place (octets ++ more) ≡ Some place
place-stays octets more place None is there = absurd (let e : None ≡ Some place = there in cc)
place-stays octets more place (Some found) is there =
    let follows = hunt_within-longer more (length octets) (length (octets ++ more)) true 0 octets (omega arith)
    (omega arith) in
    let moved : FollowsIn more (length octets) (Some found) (hunt true 0 (octets ++ more)) =
    subst (λ result. FollowsIn more (length octets) result (hunt true 0 (octets ++ more))) is follows in
    ap (option_map (λ (found : Confirmed). found.place)) moved.0 ∙ there

-- a mark that confirms stays
pub confirms-stays : (octets more : List ℕ) (place : ℕ) → HasMark (Confirms place) octets →
    HasMark (Confirms place) (octets ++ more)
confirms-stays octets more place has low =
    place-stays octets more place (hunt true 0 octets) refl (has (omega (arith, low, length-append octets more)))

pub mark-next : (mark : Mark) (octets : List ℕ) (o : ℕ) (synced : Bool) → synced ≡ is_sync (octets ++ o ∷ []) →
    HasMark mark octets → HasMark (next_mark mark synced) (octets ++ o ∷ [])
mark-next (Hunting come) octets o true is has low =
    let own = has (omega (arith, low, length-append octets (o ∷ []))) in
    let found = is-confirmed octets o own.0 (sym is) in
    ap (option_map (λ (found : Confirmed). found.place)) found.1
    ∙ ap (λ n. Some n) (let e : found.0.place ≡ come - 3 = omega (arith, found.2, own.1) in e)
mark-next (Hunting come) octets o false is has low =
    let own = has (omega (arith, low, length-append octets (o ∷ []))) in
    let counts : nat_lt come (2 ^ 64 - 1) ≡ true =
    lt-ltb come (2 ^ 64 - 1) (omega (arith, low, own.1, length-append octets (o ∷ []))) in
    rw counts (stays-none octets o own.0 (sym is), omega (arith, own.1, length-append octets (o ∷ [])))
mark-next (Confirms place) octets o synced is has low = confirms-stays octets (o ∷ []) place has low

pub no-octets : HasMark (Hunting 0) []
unfolding hunt_within
no-octets low = (refl, refl)

-- in the state SYNC it stays
pub synced-stays : (mark : Mark) (octets more : List ℕ) → is_sync octets ≡ true → HasMark mark octets →
    HasMark mark (octets ++ more)
synced-stays (Hunting come) octets more synced has low =
    let own = has (omega (arith, low, length-append octets more)) in
    absurd (let wrong : true ≡ false = sym synced ∙ sync-none octets own.0 in cc)
synced-stays (Confirms place) octets more synced has low = confirms-stays octets more place has low

-- where a mark confirms, or no octet comes, it stays
pub mark-kept : (mark : Mark) (octets piece : List ℕ) (n : ℕ) → (is_hunting mark ≡ false) ⊎ (length piece ≡ 0) →
    HasMark mark octets → HasMark mark (octets ++ take n piece)
mark-kept mark octets [] n (inr none) has =
    subst (λ l. HasMark mark l) (sym (append-nil octets) ∙ ap (λ l. octets ++ l) (sym (nothing n))) has
  where
    nothing : (n : ℕ) → take {A = ℕ} n [] ≡ []
    nothing zero = refl
    nothing (suc n) = refl
mark-kept mark octets (o ∷ piece) n (inr none) has = absurd (omega (arith, none))
mark-kept (Hunting come) octets piece n (inl isnt) has = absurd (let e : true ≡ false = isnt in cc)
mark-kept (Confirms place) octets piece n (inl isnt) has = confirms-stays octets (take n piece) place has
