-- The lock of a line after each cell, how each cell is seen by it, and how many numbers the cells decide.
use Rattle.std.proofs.Common.{◌≡◌, ◌≢◌, ℕ, ◌+◌, ◌-◌, ◌*◌, ◌/◌, ◌%◌, ◌<◌, ◌==◌, inl, inr, List, [], ◌∷◌, ◌++◌, length}
use Rattle.std.proofs.Common.{slice_get, Option, Some, None, refl, sym, ◌∙◌, subst, arith, length-append, zero, suc}
use Rattle.std.proofs.Common.{◌≤◌, nat_lt, take, drop, replicate, ap, length-take}
use Rattle.std.proofs.lemmas.Bool.{eqb-true, eqb-false, cases_Bool, cases_lt}
use Rattle.law_model.specs.Common.{HasMfi1, IsInStep, IsFirstStep, IsOutOfStep, HasMfi2, Locks, IsAt, LineLock}
use Rattle.law_model.specs.Common.{unlocked, locked, over, Sight, unknown, locks, at, sight_of, lock_after, Container}
use Rattle.law_model.specs.Common.{Cell, Good, Fail, End, ahead, verdicts_by, Reading, read_at, read_on, reading_of}
use Rattle.law_model.specs.Common.{sign_of, signs_of, HasNoEnd, IsLine, cells_of, path, sight_by, lock_by, sights_on}
use Rattle.law_model.specs.Common.{sights}
use Rattle.check_nibbles.proofs.CellsInStepLaws.{slice_get-append, slice_get-append_seam, IsFirstStep-append}
use Rattle.check_nibbles.proofs.CellsInStepLaws.{IsFirstStep_longer, IsOutOfStep-append, HasMfi1-append}
use Rattle.check_nibbles.proofs.CellsInStepLaws.{HasMfi1_before, HasMfi1_only, IsInStep_two, IsInStep_shorter}
use Rattle.check_nibbles.proofs.CellsInStepLaws.{IsOutOfStep_next, IsOutOfStep_goes_on, HasMfi2-append, HasMfi2_only}
use Rattle.check_nibbles.proofs.CellsInStepLaws.{Locks-append, IsAt-append, IsFirstStep_only, IsInStep-inside}
use Rattle.check_nibbles.proofs.CellsInStepLaws.{IsInStep_before, IsInStep-append}
use Rattle.law_model.specs.members.CellVerdicts.{begun}
use Rattle.law_model.proofs.ListLaws.{take-next, append_one, cut-at, slice_get-none, slice_get-after, slice_get-take}
use Rattle.law_model.proofs.ListLaws.{slice_get-inside}
use Rattle.std.proofs.lemmas.List.{append-nil, length-map, map-append, length-replicate, length-take-le, take_all}
use Rattle.std.proofs.lemmas.List.{take-append-drop, take-append-le, take-take}
use Rattle.std.proofs.lemmas.Option.{slice_get_within}
use Rattle.law_model.specs.declared.window_types.Window.{Window}
use Rattle.law_model.specs.declared.window_types.Carried.{Carried}
use Rattle.law_model.specs.declared.window_types.Carried.TheVariants.{Whole, Fails, Vanishes}
use Rattle.law_line.specs.Wording.{IsLeast, IsCount, IsWholeAt, dec_of}
use Rattle.law_line.specs.Numbering.{IsCellOf, AreAt}
use Rattle.law_line.proofs.ReadingVerdictLaws.{read_on-append, cut-path, are_in_step, extends}
use Rattle.law_model.specs.members.Damage.{carried}
use Rattle.law_line.specs.SightsAsWorded.{AreAtSights, AreLockingSights, AreUnknownSights}

-- ---- The recursion over the cells of a line meets what is worded of them.
abbrev pub IsLast : List (Option ℕ) → ℕ → Type 0
IsLast signs place = place + 1 ≡ length signs

-- what is known of a line after these signs
abbrev pub LockStands : LineLock → List (Option ℕ) → Type 0
LockStands unlocked signs = (place : ℕ) → IsLast signs place → IsOutOfStep signs place × (HasMfi1 signs place 0 → ⊥)
LockStands (begun octet) signs = (place : ℕ) × IsLast signs place × IsOutOfStep signs place ×
    (slice_get signs place ≡ Some (Some octet)) × (octet % 16 ≡ 0)
LockStands (locked mfi1) signs = (place : ℕ) × (from : ℕ) × IsLast signs place × IsFirstStep signs from place ×
    HasMfi1 signs place mfi1
LockStands over signs = ⊥

-- what a place is
abbrev pub IsSight : List (Option ℕ) → ℕ → Sight → Type 0
IsSight signs place unknown = IsOutOfStep signs place
IsSight signs place (locks number) = Locks signs place × (before : ℕ) × (mfi2 : ℕ) × (before + 1 ≡ place) ×
    HasMfi2 signs before mfi2 × (number ≡ 16 * mfi2 + 1)
IsSight signs place at = IsAt signs place

entry_after : (signs : List (Option ℕ)) (entry : Option ℕ) (place : ℕ) → IsLast signs place →
    slice_get (signs ++ entry ∷ []) (place + 1) ≡ Some entry
entry_after signs entry place last =
    subst (λ n. slice_get (signs ++ entry ∷ []) n ≡ Some entry) (sym last) (slice_get-append_seam signs entry [])

only_last : (signs : List (Option ℕ)) (entry : Option ℕ) (place : ℕ) → IsLast (signs ++ entry ∷ []) place →
    place ≡ length signs
only_last signs entry place last = omega (arith, length-append signs (entry ∷ []))

-- ---- what a good cell is
begin-none : (h4 from : ℕ) → IsInStep (Some h4 ∷ []) from 0 → ⊥
begin-none h4 from step = let later = step.later in omega arith

sight-unlocked : (signs : List (Option ℕ)) (h4 : ℕ) → LockStands unlocked signs →
    IsOutOfStep (signs ++ Some h4 ∷ []) (length signs)
sight-unlocked [] h4 stands = λ from step. begin-none h4 from step
sight-unlocked (x ∷ xs) h4 stands =
    let signs = x ∷ xs in
    let more = Some h4 ∷ [] in
    let last : IsLast signs (length xs) = omega arith in
    let known = stands (length xs) last in
    subst (IsOutOfStep (signs ++ more)) last
    (IsOutOfStep_goes_on (signs ++ more) (length xs) (IsOutOfStep-append signs more (length xs) (omega arith) known.0)
    (λ has. known.1 (HasMfi1_before signs more (length xs) 0 (omega arith) has)))

sight-other : (signs : List (Option ℕ)) (octet h4 : ℕ) → h4 % 16 ≢ 1 → LockStands (begun octet) signs →
    IsOutOfStep (signs ++ Some h4 ∷ []) (length signs)
sight-other signs octet h4 other (place, last, out, here, zeroth) =
    let more = Some h4 ∷ [] in
    subst (IsOutOfStep (signs ++ more)) last
    (IsOutOfStep_next (signs ++ more) place 0 (h4 % 16)
    (octet, slice_get-append signs more place (omega arith) ∙ here, zeroth)
    (h4, entry_after signs (Some h4) place last, refl) other)

sight-locks : (signs : List (Option ℕ)) (octet h4 : ℕ) → h4 % 16 ≡ 1 → LockStands (begun octet) signs →
    IsSight (signs ++ Some h4 ∷ []) (length signs) (locks (16 * (16 * (octet / 16) + h4 / 16) + 1))
sight-locks signs octet h4 first (place, last, out, here, zeroth) =
    let more = Some h4 ∷ [] in
    let all = signs ++ more in
    let here' : slice_get all place ≡ Some (Some octet) = slice_get-append signs more place (omega arith) ∙ here in
    let there : slice_get all (place + 1) ≡ Some (Some h4) = entry_after signs (Some h4) place last in
    let is_first : IsFirstStep all place (place + 1) = record {
      in_step = IsInStep_two all place (octet, here', zeroth) (h4, there, first);
      first = λ k before step. IsOutOfStep-append signs more place (omega arith) out k
          (IsInStep_shorter all k place before step);
    } in (
      subst (Locks all) last (place, is_first, refl),
      place,
      16 * (octet / 16) + h4 / 16,
      last,
      (octet, h4, here', there, refl),
      refl,
    )

sight-mismatch : (signs : List (Option ℕ)) (mfi1 h4 : ℕ) → h4 % 16 ≢ (mfi1 + 1) % 16 → LockStands (locked mfi1) signs →
    IsOutOfStep (signs ++ Some h4 ∷ []) (length signs)
sight-mismatch signs mfi1 h4 other (place, from, last, step, has) =
    let more = Some h4 ∷ [] in
    subst (IsOutOfStep (signs ++ more)) last
    (IsOutOfStep_next (signs ++ more) place mfi1 (h4 % 16) (HasMfi1-append signs more place mfi1 has)
    (h4, entry_after signs (Some h4) place last, refl) other)

due : (from place mfi1 h4 : ℕ) → from < place → (place - from) % 16 ≡ mfi1 → h4 % 16 ≡ (mfi1 + 1) % 16 →
    h4 % 16 ≡ (place + 1 - from) % 16
due from place mfi1 h4 later before next = omega arith

sight-at : (signs : List (Option ℕ)) (mfi1 h4 : ℕ) → h4 % 16 ≡ (mfi1 + 1) % 16 → LockStands (locked mfi1) signs →
    IsAt (signs ++ Some h4 ∷ []) (length signs)
sight-at signs mfi1 h4 next (place, from, last, first, has) =
    let more = Some h4 ∷ [] in
    let all = signs ++ more in
    let later : from < place = first.in_step.later in
    let before : (place - from) % 16 ≡ mfi1 =
    HasMfi1_only signs place ((place - from) % 16) mfi1 (first.in_step.rises place (omega arith) (omega arith))
    has in
    let longer = IsFirstStep_longer all from place (IsFirstStep-append signs more from place first)
    (h4, entry_after signs (Some h4) place last, due from place mfi1 h4 later before next) in
    subst (IsAt all) last (from, longer, omega arith)

pub sight-is : (lock : LineLock) (signs : List (Option ℕ)) (h4 : ℕ) → LockStands lock signs →
    IsSight (signs ++ Some h4 ∷ []) (length signs) (sight_of lock h4)
sight-is unlocked signs h4 stands = sight-unlocked signs h4 stands
sight-is (begun octet) signs h4 stands =
    elim (cases_Bool (h4 % 16 == 1)) [
      | inl first ↦ rw first (sight-locks signs octet h4 (eqb-true (h4 % 16) 1 first) stands)
      | inr other ↦ rw other (sight-other signs octet h4 (eqb-false (h4 % 16) 1 other) stands)
    ]
sight-is (locked mfi1) signs h4 stands =
    elim (cases_Bool (h4 % 16 == (mfi1 + 1) % 16)) [
      | inl next ↦ rw next (sight-at signs mfi1 h4 (eqb-true (h4 % 16) ((mfi1 + 1) % 16) next) stands)
      | inr other ↦ rw other (sight-mismatch signs mfi1 h4 (eqb-false (h4 % 16) ((mfi1 + 1) % 16) other) stands)
    ]
sight-is over signs h4 stands = absurd stands

-- ---- what is known after it
mfi1-last : (signs : List (Option ℕ)) (h4 : ℕ) → HasMfi1 (signs ++ Some h4 ∷ []) (length signs) (h4 % 16)
mfi1-last signs h4 = (h4, slice_get-append_seam signs (Some h4) [], refl)

is_last : (signs : List (Option ℕ)) (entry : Option ℕ) → IsLast (signs ++ entry ∷ []) (length signs)
is_last signs entry = omega (arith, length-append signs (entry ∷ []))

after-unknown : (signs : List (Option ℕ)) (h4 : ℕ) → IsOutOfStep (signs ++ Some h4 ∷ []) (length signs) →
    LockStands (lock_after unknown h4) (signs ++ Some h4 ∷ [])
after-unknown signs h4 out =
    let all = signs ++ Some h4 ∷ [] in
    elim (cases_Bool (h4 % 16 == 0)) [
      | inl first ↦ rw first (
        length signs,
        is_last signs (Some h4),
        out,
        slice_get-append_seam signs (Some h4) [],
        eqb-true (h4 % 16) 0 first,
      )
      | inr other ↦ rw other (λ place last. let same = only_last signs (Some h4) place last in (
        subst (IsOutOfStep all) (sym same) out,
        λ has. eqb-false (h4 % 16) 0 other
            (HasMfi1_only all (length signs) (h4 % 16) 0 (mfi1-last signs h4) (subst (λ n. HasMfi1 all n 0) same has)),
      ))
    ]

pub stands-after : (sight : Sight) (signs : List (Option ℕ)) (h4 : ℕ) →
    IsSight (signs ++ Some h4 ∷ []) (length signs) sight → LockStands (lock_after sight h4) (signs ++ Some h4 ∷ [])
stands-after unknown signs h4 is = after-unknown signs h4 is
stands-after (locks number) signs h4 is = (length signs, is.0.0, is_last signs (Some h4), is.0.1, mfi1-last signs h4)
stands-after at signs h4 is = (length signs, is.0, is_last signs (Some h4), is.1, mfi1-last signs h4)

none-last : (signs : List (Option ℕ)) (mfi1 : ℕ) → HasMfi1 (signs ++ None ∷ []) (length signs) mfi1 → ⊥
none-last signs mfi1 has = let e : Some None ≡ Some (Some has.0) = sym (slice_get-append_seam signs None []) ∙ has.1 in
    absurd cc

pub stands-fail : (signs : List (Option ℕ)) → LockStands unlocked (signs ++ None ∷ [])
stands-fail signs place last =
    let all = signs ++ None ∷ [] in
    let same = only_last signs None place last in (
      λ from step. let later = step.later in
          none-last signs ((place - from) % 16)
          (subst (λ n. HasMfi1 all n ((place - from) % 16)) same (step.rises place (omega arith) (omega arith))),
      λ has. none-last signs 0 (subst (λ n. HasMfi1 all n 0) same has),
    )

pub stands-none : LockStands unlocked []
stands-none place last = absurd (omega arith)

-- ---- How many numbers the cells decide, against its wording.
-- a cell and those before it
-- what is known of a line after any cells none of which is End
next-stands : (lock : LineLock) (verdicts : List (Option Container)) (signs : List (Option ℕ)) (cell : Cell) →
    (cell ≡ End → ⊥) → LockStands lock signs → LockStands (read_at lock verdicts cell).lock (signs ++ sign_of cell ∷ [])
next-stands unlocked verdicts signs (Good c) more stands =
    stands-after (sight_of unlocked c.h4) signs c.h4 (sight-is unlocked signs c.h4 stands)
next-stands (begun octet) verdicts signs (Good c) more stands =
    stands-after (sight_of (begun octet) c.h4) signs c.h4 (sight-is (begun octet) signs c.h4 stands)
next-stands (locked mfi1) verdicts signs (Good c) more stands =
    stands-after (sight_of (locked mfi1) c.h4) signs c.h4 (sight-is (locked mfi1) signs c.h4 stands)
next-stands over verdicts signs cell more stands = absurd stands
next-stands unlocked verdicts signs Fail more stands = stands-fail signs
next-stands (begun octet) verdicts signs Fail more stands = stands-fail signs
next-stands (locked mfi1) verdicts signs Fail more stands = stands-fail signs
next-stands unlocked verdicts signs End more stands = absurd (more refl)
next-stands (begun octet) verdicts signs End more stands = absurd (more refl)
next-stands (locked mfi1) verdicts signs End more stands = absurd (more refl)

stands-on : (rest : List Cell) (reading : Reading) (signs : List (Option ℕ)) → HasNoEnd rest →
    LockStands reading.lock signs → LockStands (read_on reading rest).lock (signs ++ signs_of rest)
unfolding read_on
stands-on [] reading signs more stands = rw (append-nil signs) stands
stands-on (cell ∷ rest) reading signs more stands =
    rw (append_one signs (sign_of cell) (signs_of rest))
    (stands-on rest (read_at reading.lock reading.verdicts cell) (signs ++ sign_of cell ∷ []) (λ i e. more (suc i) e)
    (next-stands reading.lock reading.verdicts signs cell (λ e. more 0 (ap Some e)) stands))

pub stands-of : (cells : List Cell) → HasNoEnd cells → LockStands (reading_of cells).lock (signs_of cells)
stands-of cells more = stands-on cells (record { lock = unlocked; verdicts = [] }) [] more stands-none

-- ---- at each place
pub IsSight-append : (signs more : List (Option ℕ)) (place : ℕ) (sight : Sight) → place < length signs →
    IsSight signs place sight → IsSight (signs ++ more) place sight
IsSight-append signs more place unknown inside is = IsOutOfStep-append signs more place inside is
IsSight-append signs more place (locks number) inside (is, before, mfi2, next, has, e) =
    (Locks-append signs more place is, before, mfi2, next, HasMfi2-append signs more before mfi2 has, e)
IsSight-append signs more place at inside is = IsAt-append signs more place is

none-in : (n k : ℕ) (c : Container) → slice_get (replicate n None) k ≡ Some (Some c) → ⊥
none-in zero k c e = absurd cc
none-in (suc n) zero c e = absurd cc
none-in (suc n) (suc k) c e = none-in n k c e

-- no cell is in step at one that isn't good
pub out-here : (signs : List (Option ℕ)) (i : ℕ) → slice_get signs i ≡ Some None → IsOutOfStep signs i
out-here signs i here from step =
    let later = step.later in
    let has = step.rises i (omega arith) (omega arith) in
    let e : Some None ≡ Some (Some has.0) = sym here ∙ has.1 in absurd cc

add-one : (i : ℕ) → suc i ≡ i + 1
add-one i = omega arith

IsLeast_only : (d r a b : ℕ) → IsLeast d r a → IsLeast d r b → a ≡ b
IsLeast_only d r a b p q = let low = p.least b q.least_of q.same in let high = q.least a p.least_of p.same in
    omega arith

module _ (cells : List Cell) (more : HasNoEnd cells) where
  before-stands : (i : ℕ) → LockStands (reading_of (take i cells)).lock (signs_of (take i cells))
  before-stands i = stands-of (take i cells) (λ j e. more j (slice_get-take cells i j End e))

  next-reading : (i : ℕ) (cell : Cell) → slice_get cells i ≡ Some cell →
      reading_of (take (suc i) cells) ≡ read_at (reading_of (take i cells)).lock
      (reading_of (take i cells)).verdicts cell
  unfolding read_on
  next-reading i cell here =
      ap reading_of (take-next cells i cell here)
      ∙ read_on-append (record { lock = unlocked; verdicts = [] }) (take i cells) (cell ∷ [])

  signs-cut : (i : ℕ) (cell : Cell) → slice_get cells i ≡ Some cell →
      (signs_of (take i cells) ++ sign_of cell ∷ []) ++ signs_of (drop (suc i) cells) ≡ signs_of cells
  signs-cut i cell here =
      ap (λ l. l ++ signs_of (drop (suc i) cells)) (sym (map-append sign_of (take i cells) (cell ∷ [])))
      ∙ sym (map-append sign_of (take i cells ++ cell ∷ []) (drop (suc i) cells))
      ∙ ap signs_of (cut-at cells i cell here)

  first-size : (i : ℕ) (cell : Cell) → slice_get cells i ≡ Some cell → length (signs_of (take i cells)) ≡ i
  first-size i cell here = length-map (take i cells) sign_of
      ∙ length-take-le i cells (let h = slice_get_within cells i cell here in omega arith)

  sight-here : (i : ℕ) (c : Container) → slice_get cells i ≡ Some (Good c) →
      IsSight (signs_of cells) i (sight_of (reading_of (take i cells)).lock c.h4)
  sight-here i c here =
      let signs = signs_of (take i cells) in
      let sight = sight_of (reading_of (take i cells)).lock c.h4 in
      let size : length signs ≡ i = first-size i (Good c) here in
      let is : IsSight (signs ++ Some c.h4 ∷ []) (length signs) sight =
      sight-is (reading_of (take i cells)).lock signs c.h4 (before-stands i) in
      subst (λ signs. IsSight signs i sight) (signs-cut i (Good c) here)
      (IsSight-append (signs ++ Some c.h4 ∷ []) (signs_of (drop (suc i) cells)) i sight
      (omega (arith, size, length-append signs (Some c.h4 ∷ [])))
      (subst (λ i. IsSight (signs ++ Some c.h4 ∷ []) i sight) size is))

  none-here : (i : ℕ) → slice_get cells i ≡ Some Fail → slice_get (signs_of cells) i ≡ Some None
  none-here i here =
      let signs = signs_of (take i cells) in
      let size : length signs ≡ i = first-size i Fail here in
      subst (λ signs. slice_get signs i ≡ Some None) (signs-cut i Fail here)
      (slice_get-append (signs ++ None ∷ []) (signs_of (drop (suc i) cells)) i
      (omega (arith, size, length-append signs (None ∷ [])))
      ∙ subst (λ i. slice_get (signs ++ None ∷ []) i ≡ Some None) size (slice_get-append_seam signs None []))

  abbrev size_by : Sight → ℕ → ℕ
  size_by unknown d = 1
  size_by (locks number) d = suc (ahead d number)
  size_by at d = 1

  size-by : (sight : Sight) (d : ℕ) (c : Container) → length (verdicts_by sight d c) ≡ size_by sight d
  size-by unknown d c = refl
  size-by (locks number) d c = length-replicate (suc (ahead d number)) None
  size-by at d c = refl

  read-good : (lock : LineLock) (verdicts : List (Option Container)) (signs : List (Option ℕ)) (c : Container) →
      LockStands lock signs →
      length (read_at lock verdicts (Good c)).verdicts ≡ length verdicts + size_by (sight_of lock c.h4)
      (length verdicts)
  read-good unlocked verdicts signs c stands =
      length-append verdicts (verdicts_by (sight_of unlocked c.h4) (length verdicts) c)
      ∙ ap (λ n. length verdicts + n) (size-by (sight_of unlocked c.h4) (length verdicts) c)
  read-good (begun octet) verdicts signs c stands =
      length-append verdicts (verdicts_by (sight_of (begun octet) c.h4) (length verdicts) c)
      ∙ ap (λ n. length verdicts + n) (size-by (sight_of (begun octet) c.h4) (length verdicts) c)
  read-good (locked mfi1) verdicts signs c stands =
      length-append verdicts (verdicts_by (sight_of (locked mfi1) c.h4) (length verdicts) c)
      ∙ ap (λ n. length verdicts + n) (size-by (sight_of (locked mfi1) c.h4) (length verdicts) c)
  read-good over verdicts signs c stands = absurd stands

  read-fail : (lock : LineLock) (verdicts : List (Option Container)) (signs : List (Option ℕ)) → LockStands lock signs →
      length (read_at lock verdicts Fail).verdicts ≡ length verdicts + 1
  read-fail unlocked verdicts signs stands = length-append verdicts (None ∷ [])
  read-fail (begun octet) verdicts signs stands = length-append verdicts (None ∷ [])
  read-fail (locked mfi1) verdicts signs stands = length-append verdicts (None ∷ [])
  read-fail over verdicts signs stands = absurd stands

  abbrev Counted : ℕ → Type 0
  Counted i = (sight : Sight) × IsSight (signs_of cells) i sight ×
      (dec_of cells (suc i) ≡ dec_of cells i + size_by sight (dec_of cells i))

  counted : (i : ℕ) → i < length cells → Counted i
  counted i inside = by-entry (slice_get cells i) refl
    where
      by-entry : (entry : Option Cell) → slice_get cells i ≡ entry → Counted i
      by-entry None here = absurd (slice_get-none cells i inside here)
      by-entry (Some (Good c)) here = (
        sight_of (reading_of (take i cells)).lock c.h4,
        sight-here i c here,
        ap (λ r. length (r.verdicts)) (next-reading i (Good c) here)
            ∙ read-good (reading_of (take i cells)).lock (reading_of (take i cells)).verdicts
            (signs_of (take i cells)) c (before-stands i),
      )
      by-entry (Some Fail) here = (
        unknown,
        out-here (signs_of cells) i (none-here i here),
        ap (λ r. length (r.verdicts)) (next-reading i Fail here)
            ∙ read-fail (reading_of (take i cells)).lock (reading_of (take i cells)).verdicts (signs_of (take i cells))
            (before-stands i),
      )
      by-entry (Some End) here = absurd (more i here)

  -- the wording of a place leaves one thing
  locks-not-at : (i : ℕ) → Locks (signs_of cells) i → IsAt (signs_of cells) i → ⊥
  locks-not-at i p q = let same = IsFirstStep_only (signs_of cells) p.0 q.0 i p.1 q.1 in omega (arith, same, p.2, q.2)

  inside : (from i : ℕ) → IsFirstStep (signs_of cells) from i → i < length cells
  inside from i first = let within = IsInStep-inside (signs_of cells) from i first.in_step in
      omega (arith, within, length-map cells sign_of)

  at-size : (i : ℕ) → IsAt (signs_of cells) i → Counted i → dec_of cells (suc i) ≡ dec_of cells i + 1
  at-size i is (unknown, sight, size) = absurd (sight is.0 is.1.in_step)
  at-size i is (locks number, sight, size) = absurd (locks-not-at i sight.0 is)
  at-size i is (at, sight, size) = size

  other-size : (i : ℕ) → IsOutOfStep (signs_of cells) i → Counted i → dec_of cells (suc i) ≡ dec_of cells i + 1
  other-size i is (unknown, sight, size) = size
  other-size i is (locks number, sight, size) = absurd (is sight.0.0 sight.0.1.in_step)
  other-size i is (at, sight, size) = size

  least-ahead : (d r : ℕ) → IsLeast d r (d + ahead d r)
  least-ahead d r = record { least_of = omega arith; same = omega arith; least = λ k low e. omega arith }

  locks-size : (i mfi2 : ℕ) → Locks (signs_of cells) (i + 1) → HasMfi2 (signs_of cells) i mfi2 → Counted (i + 1) →
      (n : ℕ) × IsLeast (dec_of cells (i + 1)) (16 * mfi2 + 1) n × (dec_of cells (suc (i + 1)) ≡ n + 1)
  locks-size i mfi2 is has (unknown, sight, size) = absurd (sight is.0 is.1.in_step)
  locks-size i mfi2 is has (at, sight, size) = absurd (locks-not-at (i + 1) is sight)
  locks-size i mfi2 is has (locks number, sight, size) =
      let (locks', before, said, next, has', e) = sight in
      let d : ℕ = dec_of cells (i + 1) in
      let same : said ≡ mfi2 = HasMfi2_only (signs_of cells) i said mfi2
      (subst (λ k. HasMfi2 (signs_of cells) k said) (omega (arith, next)) has') has in
      let is_number : number ≡ 16 * mfi2 + 1 = e ∙ ap (λ m. 16 * m + 1) same in (
        d + ahead d number,
        subst (λ r. IsLeast d r (d + ahead d number)) is_number (least-ahead d number),
        size
            ∙ (let e : d + suc (ahead d number) ≡ d + ahead d number + 1 = omega arith in e),
      )

  pub is_count : IsCount cells (dec_of cells)
  unfolding read_on
  is_count = record {
    none = refl;
    at = λ i is. rw (sym (add-one i)) (at-size i is (counted i (inside is.0 i is.1)));
    locks = λ i mfi2 is has. rw (sym (add-one (i + 1)))
        (locks-size i mfi2 is has (counted (i + 1) (inside is.0 (i + 1) is.1)));
    other = λ i low is. rw (sym (add-one i)) (other-size i is (counted i low));
  }

  -- and no other numbers meet it
  module _ (dec : ℕ → ℕ) (is : IsCount cells dec) where
    next-only : (i : ℕ) → i < length cells → dec i ≡ dec_of cells i → Counted i → dec (i + 1) ≡ dec_of cells (i + 1)
    next-only i inside same (unknown, sight, size) =
        is.other i inside sight ∙ ap (λ n. n + 1) same ∙ sym size ∙ ap (dec_of cells) (add-one i)
    next-only i inside same (at, sight, size) =
        is.at i sight ∙ ap (λ n. n + 1) same ∙ sym size ∙ ap (dec_of cells) (add-one i)
    next-only i inside same (locks number, sight, size) =
        let (locks', before, mfi2, next, has, e) = sight in
        let d : ℕ = dec_of cells i in
        let told = is.locks before mfi2 (subst (Locks (signs_of cells)) (sym next) locks') has in
        let least : IsLeast d number told.0 =
        subst (λ d. IsLeast d number told.0) (ap dec next ∙ same)
        (subst (λ r. IsLeast (dec (before + 1)) r told.0) (sym e) told.1) in
        let equal : told.0 ≡ d + ahead d number =
        IsLeast_only d number told.0 (d + ahead d number) least (least-ahead d number) in
        let this : dec (i + 1) ≡ told.0 + 1 = subst (λ i. dec (i + 1) ≡ told.0 + 1) next told.2 in
        this ∙ (let e : told.0 + 1 ≡ d + suc (ahead d number) = omega (arith, equal) in e) ∙ sym size
        ∙ ap (dec_of cells) (add-one i)

    pub count_only : (y : ℕ) → y ≤ length cells → dec y ≡ dec_of cells y
    unfolding read_on
    count_only zero fits = is.none
    count_only (suc y) fits =
        ap dec (add-one y) ∙ next-only y (omega arith) (count_only y (omega arith)) (counted y (omega arith))
        ∙ ap (dec_of cells) (sym (add-one y))

  -- ---- whole numbers
  -- what a place tells
  record Told (i : ℕ) : Type 0 where
    new : List (Option Container)
    verdicts : (reading_of (take (suc i) cells)).verdicts ≡ (reading_of (take i cells)).verdicts ++ new
    whole : (k : ℕ) (c : Container) → slice_get new k ≡ Some (Some c) → IsAt (signs_of cells) i × (k ≡ 0) ×
        (slice_get cells i ≡ Some (Good c))
    comes : (c : Container) → IsAt (signs_of cells) i → slice_get cells i ≡ Some (Good c) →
        slice_get new 0 ≡ Some (Some c)

  pub good-verdicts : (lock : LineLock) (verdicts : List (Option Container)) (signs : List (Option ℕ)) (c : Container) →
      LockStands lock signs →
      (read_at lock verdicts (Good c)).verdicts ≡ verdicts ++ verdicts_by (sight_of lock c.h4) (length verdicts) c
  good-verdicts unlocked verdicts signs c stands = refl
  good-verdicts (begun octet) verdicts signs c stands = refl
  good-verdicts (locked mfi1) verdicts signs c stands = refl
  good-verdicts over verdicts signs c stands = absurd stands

  pub fail-verdicts : (lock : LineLock) (verdicts : List (Option Container)) (signs : List (Option ℕ)) →
      LockStands lock signs → (read_at lock verdicts Fail).verdicts ≡ verdicts ++ None ∷ []
  fail-verdicts unlocked verdicts signs stands = refl
  fail-verdicts (begun octet) verdicts signs stands = refl
  fail-verdicts (locked mfi1) verdicts signs stands = refl
  fail-verdicts over verdicts signs stands = absurd stands

  whole-by : (i : ℕ) (c : Container) (d : ℕ) (sight : Sight) → slice_get cells i ≡ Some (Good c) →
      IsSight (signs_of cells) i sight → (k : ℕ) (x : Container) → slice_get (verdicts_by sight d c) k ≡ Some (Some x) →
      IsAt (signs_of cells) i × (k ≡ 0) × (slice_get cells i ≡ Some (Good x))
  whole-by i c d unknown here is k x e = absurd (none-in 1 k x e)
  whole-by i c d (locks number) here is k x e = absurd (none-in (suc (ahead d number)) k x e)
  whole-by i c d at here is zero x e = (is, refl, here ∙ ap (λ c. Some (Good c)) cc)
  whole-by i c d at here is (suc k) x e = absurd cc

  comes-by : (i : ℕ) (c : Container) (d : ℕ) (sight : Sight) → slice_get cells i ≡ Some (Good c) →
      IsSight (signs_of cells) i sight → (x : Container) → IsAt (signs_of cells) i → slice_get cells i ≡ Some (Good x) →
      slice_get (verdicts_by sight d c) 0 ≡ Some (Some x)
  comes-by i c d unknown here is x comes there = absurd (is comes.0 comes.1.in_step)
  comes-by i c d (locks number) here is x comes there = absurd (locks-not-at i is.0 comes)
  comes-by i c d at here is x comes there = let e : Some (Good c) ≡ Some (Good x) = sym here ∙ there in cc

  told : (i : ℕ) → i < length cells → Told i
  told i inside' = by-entry (slice_get cells i) refl
    where
      by-entry : (entry : Option Cell) → slice_get cells i ≡ entry → Told i
      by-entry None here = absurd (slice_get-none cells i inside' here)
      by-entry (Some (Good c)) here =
          let before : Reading = reading_of (take i cells) in
          let sight : Sight = sight_of before.lock c.h4 in
          record {
            new = verdicts_by sight (length before.verdicts) c;
            verdicts = ap (λ r. r.verdicts) (next-reading i (Good c) here)
                ∙ good-verdicts before.lock before.verdicts (signs_of (take i cells)) c (before-stands i);
            whole = whole-by i c (length before.verdicts) sight here (sight-here i c here);
            comes = comes-by i c (length before.verdicts) sight here (sight-here i c here);
          }
      by-entry (Some Fail) here =
          let before : Reading = reading_of (take i cells) in
          record {
            new = None ∷ [];
            verdicts = ap (λ r. r.verdicts) (next-reading i Fail here)
                ∙ fail-verdicts before.lock before.verdicts (signs_of (take i cells)) (before-stands i);
            whole = λ k c e. absurd (none-in 1 k c e);
            comes = λ c comes there. absurd (out-here (signs_of cells) i (none-here i here) comes.0 comes.1.in_step);
          }
      by-entry (Some End) here = absurd (more i here)

  whole-before : (y t : ℕ) (c : Container) → y ≤ length cells →
      slice_get (reading_of (take y cells)).verdicts t ≡ Some (Some c) → IsWholeAt cells (dec_of cells) t c
  unfolding read_on
  whole-before zero t c fits e = absurd cc
  whole-before (suc y) t c fits e =
      let this = told y (omega arith) in
      let before : List (Option Container) = (reading_of (take y cells)).verdicts in
      let e' : slice_get (before ++ this.new) t ≡ Some (Some c) = ap (λ l. slice_get l t) (sym this.verdicts) ∙ e in
      elim (cases_lt t (length before)) [
        | inl earlier ↦ whole-before y t c (omega arith) (sym (slice_get-append before this.new t earlier) ∙ e')
        | inr now ↦
            let is = this.whole (t - length before) c (sym (slice_get-after before this.new t now) ∙ e') in
            (y, is.0, (let first = is.1 in omega arith), is.2)
      ]

  pub is_whole_at : (t : ℕ) (c : Container) → slice_get (reading_of cells).verdicts t ≡ Some (Some c) →
      IsWholeAt cells (dec_of cells) t c
  is_whole_at t c e = whole-before (length cells) t c (omega arith)
      (subst (λ l. slice_get (reading_of l).verdicts t ≡ Some (Some c))
      (sym (take_all (length cells) cells (omega arith))) e)

  pub whole_at_is : (t : ℕ) (c : Container) → IsWholeAt cells (dec_of cells) t c →
      slice_get (reading_of cells).verdicts t ≡ Some (Some c)
  whole_at_is t c (i, is, same, here) =
      let this = told i (slice_get_within cells i (Good c) here) in
      let before : List (Option Container) = (reading_of (take i cells)).verdicts in
      let size : length before ≡ t = same in
      let now : slice_get (reading_of (take (suc i) cells)).verdicts t ≡ Some (Some c) =
      ap (λ l. slice_get l t) this.verdicts ∙ slice_get-after before this.new t (omega (arith, size))
      ∙ ap (slice_get this.new) (let e : t - length before ≡ 0 = omega (arith, size) in e) ∙ this.comes c is here in
      let longer = extends (drop (suc i) cells) (reading_of (take (suc i) cells)) in
      ap (λ l. slice_get (reading_of l).verdicts t) (sym (take-append-drop (suc i) cells))
      ∙ ap (λ r. slice_get (r.verdicts) t)
      (read_on-append (record { lock = unlocked; verdicts = [] }) (take (suc i) cells) (drop (suc i) cells))
      ∙ ap (λ l. slice_get l t) longer.1
      ∙ slice_get-append (reading_of (take (suc i) cells)).verdicts longer.0 t
      (slice_get_within (reading_of (take (suc i) cells)).verdicts t (Some c) now) ∙ now

-- ---- the cells of a line
-- a cell is At only where the line is locked
locked-at : (cells : List Cell) (more : HasNoEnd cells) (i : ℕ) (c : Container) → slice_get cells i ≡ Some (Good c) →
    IsAt (signs_of cells) i → (mfi1 : ℕ) × ((reading_of (take i cells)).lock ≡ locked mfi1)
locked-at cells more i c here is = by-lock (reading_of (take i cells)).lock refl (sight-here cells more i c here)
  where
    by-lock : (lock : LineLock) → (reading_of (take i cells)).lock ≡ lock →
        IsSight (signs_of cells) i (sight_of lock c.h4) → (mfi1 : ℕ) × ((reading_of (take i cells)).lock ≡ locked mfi1)
    by-lock unlocked e sight = absurd (sight is.0 is.1.in_step)
    by-lock (begun octet) e sight =
        elim (cases_Bool (c.h4 % 16 == 1)) [
          | inl first ↦ absurd (locks-not-at cells more i (rw first at sight).0 is)
          | inr other ↦ absurd ((rw other at sight) is.0 is.1.in_step)
        ]
    by-lock (locked mfi1) e sight = (mfi1, e)
    by-lock over e sight = absurd (sight is.0 is.1.in_step)

no-end-path : (carries : ℕ → Carried) (n : ℕ) (containers : List Container) → HasNoEnd (path carries n containers)
unfolding path
no-end-path carries n [] i e = absurd cc
no-end-path carries n (c ∷ rest) i e = by-fate (carries n) i e (no-end-path carries (suc n) rest)
  where
    by-fate : (fate : Carried) (i : ℕ) → slice_get (cells_of fate c ++ path carries (suc n) rest) i ≡ Some End →
        HasNoEnd (path carries (suc n) rest) → ⊥
    by-fate Whole zero e more = absurd cc
    by-fate Whole (suc i) e more = more i e
    by-fate Fails zero e more = absurd cc
    by-fate Fails (suc i) e more = more i e
    by-fate Vanishes i e more = more i e

good-here : (cells : List Cell) (more : HasNoEnd cells) (i : ℕ) → IsAt (signs_of cells) i → (c : Container) ×
    (slice_get cells i ≡ Some (Good c))
good-here cells more i is = by-entry (slice_get cells i) refl
  where
    by-entry : (entry : Option Cell) → slice_get cells i ≡ entry → (c : Container) × (slice_get cells i ≡ Some (Good c))
    by-entry None here = absurd (slice_get-none cells i (inside cells more is.0 i is.1) here)
    by-entry (Some (Good c)) here = (c, here)
    by-entry (Some Fail) here = absurd (out-here (signs_of cells) i (none-here cells more i here) is.0 is.1.in_step)
    by-entry (Some End) here = absurd (more i here)

-- over the cells of all containers
path-at : (windows : List Window) (containers : List Container) (i : ℕ) → IsLine windows containers →
    IsAt (signs_of (path (carried windows) 0 containers)) i →
    IsCellOf windows containers (path (carried windows) 0 containers) i (dec_of (path (carried windows) 0 containers) i)
path-at windows containers i line is =
    let carries = carried windows in
    let cells : List Cell = path carries 0 containers in
    let more : HasNoEnd cells = no-end-path carries 0 containers in
    let (c, here) = good-here cells more i is in
    let known = locked-at cells more i c here is in
    let cut = cut-path carries 0 containers (take i cells) (drop (suc i) cells) c
    (sym (cut-at cells i (Good c) here) ∙ sym (append_one (take i cells) (Good c) (drop (suc i) cells))) in
    let (n, there, whole, same) = cut in
    let whole : carries n ≡ Whole = subst (λ n. carries n ≡ Whole) (omega arith) whole in
    let number = (are_in_step windows containers n known.0 c line there whole
    (subst (λ cells. (reading_of cells).lock ≡ locked known.0) same known.1)).0 in
    let dec : dec_of cells i ≡ n = ap (λ cells. length ((reading_of cells).verdicts)) same ∙ number in
    record { container = c; cell = here; sent = rw dec there; whole = rw dec whole; before = rw dec same }

-- over the cells of the first containers, and End
pub IsAt_before : (signs more : List (Option ℕ)) (i : ℕ) → i < length signs → IsAt (signs ++ more) i → IsAt signs i
IsAt_before signs more i within is = (
  is.0,
  record {
    in_step = IsInStep_before signs more is.0 i within is.1.in_step;
    first = λ k before step. is.1.first k before (IsInStep-append signs more k i step);
  },
  is.2,
)

pub line-part : (windows : List Window) (containers : List Container) (n : ℕ) → IsLine windows containers →
    IsLine windows (take n containers)
line-part windows containers n line =
    record {
      apart = line.apart;
      slip = line.slip;
      sent =
          λ k c here. line.sent k c (slice_get-take containers n k c here);
    }

part-at : (windows : List Window) (containers : List Container) (n : ℕ) (more : List Cell) (i : ℕ) →
    IsLine windows containers →
    i < length (path (carried windows) 0 (take n containers)) →
    IsAt (signs_of (path (carried windows) 0 (take n containers) ++ more)) i →
    IsCellOf windows containers (path (carried windows) 0 (take n containers) ++ more) i
    (dec_of (path (carried windows) 0 (take n containers) ++ more) i)
part-at windows containers n more i line inside is =
    let carries = carried windows in
    let told : List Cell = path carries 0 (take n containers) in
    let within : i < length (signs_of told) = omega (arith, length-map told sign_of) in
    let is' : IsAt (signs_of told) i =
    IsAt_before (signs_of told) (signs_of more) i within
    (subst (λ signs. IsAt signs i) (map-append sign_of told more) is) in
    let found = path-at windows (take n containers) i (line-part windows containers n line) is' in
    let part : take i (told ++ more) ≡ take i told = take-append-le i told more (omega arith) in
    let dec : dec_of (told ++ more) i ≡ dec_of told i = ap (λ cells. length ((reading_of cells).verdicts)) part in
    let few = slice_get_within (take n containers) (dec_of told i) found.container found.sent in
    record {
      container = found.container;
      cell = slice_get-append told more i inside ∙ found.cell;
      sent = rw dec (slice_get-take containers n (dec_of told i) found.container found.sent);
      whole = rw dec found.whole;
      before = rw dec (part ∙ found.before
          ∙ ap (path carries 0) (take-take (dec_of told i) n containers
          (omega (arith, few, length-take n containers))));
    }

not-end : (cells : List Cell) (i : ℕ) → IsAt (signs_of (cells ++ End ∷ [])) i → i < length cells
not-end cells i is =
    let signs = signs_of cells in
    let is' : IsAt (signs ++ None ∷ []) i = subst (λ signs. IsAt signs i) (map-append sign_of cells (End ∷ [])) is in
    let within = IsInStep-inside (signs ++ None ∷ []) is'.0 i is'.1.in_step in
    let size = length-map cells sign_of in
    elim (cases_lt i (length signs)) [
      | inl inside ↦ omega (arith, inside, size)
      | inr last ↦
          let same : i ≡ length signs = omega (arith, last, within, length-append signs (None ∷ [])) in
          absurd (out-here (signs ++ None ∷ []) i
          (subst (λ i. slice_get (signs ++ None ∷ []) i ≡ Some None) (sym same)
          (slice_get-append_seam signs None [])) is'.0 is'.1.in_step)
    ]

in-path : (cells : List Cell) (i : ℕ) → IsAt (signs_of (cells ++ [])) i → i < length cells
in-path cells i is =
    let within = IsInStep-inside (signs_of (cells ++ [])) is.0 i is.1.in_step in
    omega (arith, within, length-map (cells ++ []) sign_of, ap length (append-nil cells))

pub are_at : AreAt
are_at windows containers delay carries i line is =
    let n : ℕ = carries - delay in
    let told : List Cell = path (carried windows) 0 (take n containers) in
    elim (cases_Bool (nat_lt (length containers) n)) [
      | inl ends ↦
          let is' : IsAt (signs_of (told ++ End ∷ [])) i = rw ends at is in
          rw ends (part-at windows containers n (End ∷ []) i line (not-end told i is') is')
      | inr on ↦
          let is' : IsAt (signs_of (told ++ [])) i = rw on at is in
          rw on (part-at windows containers n [] i line (in-path told i is') is')
    ]

-- ---- What is computed of each cell of a line, against its wording.
-- ---- one cell more
sign-is : (lock : LineLock) (signs : List (Option ℕ)) (sign : Option ℕ) → LockStands lock signs →
    IsSight (signs ++ sign ∷ []) (length signs) (sight_by lock sign)
sign-is lock signs None stands = out-here (signs ++ None ∷ []) (length signs) (slice_get-append_seam signs None [])
sign-is lock signs (Some h4) stands = sight-is lock signs h4 stands

pub stands-next : (lock : LineLock) (signs : List (Option ℕ)) (sign : Option ℕ) → LockStands lock signs →
    LockStands (lock_by lock sign) (signs ++ sign ∷ [])
stands-next lock signs None stands = stands-fail signs
stands-next lock signs (Some h4) stands = stands-after (sight_of lock h4) signs h4 (sight-is lock signs h4 stands)

-- ---- each cell
pub length-sights_on : (signs : List (Option ℕ)) (lock : LineLock) → length (sights_on lock signs) ≡ length signs
unfolding sights_on
length-sights_on [] lock = refl
length-sights_on (sign ∷ signs) lock = ap suc (length-sights_on signs (lock_by lock sign))

-- what is computed of a cell is worded of it
pub sights-each : (rest : List (Option ℕ)) (lock : LineLock) (before : List (Option ℕ)) (k : ℕ) (sight : Sight) →
    LockStands lock before →
    slice_get (sights_on lock rest) k ≡ Some sight → IsSight (before ++ rest) (length before + k) sight
unfolding sights_on
sights-each [] lock before k sight stands e = absurd cc
sights-each (sign ∷ rest) lock before zero sight stands e =
    let same : sight_by lock sign ≡ sight = cc in
    let here : IsSight ((before ++ sign ∷ []) ++ rest) (length before) (sight_by lock sign) =
    IsSight-append (before ++ sign ∷ []) rest (length before) (sight_by lock sign)
    (omega (arith, length-append before (sign ∷ []))) (sign-is lock before sign stands) in
    subst (λ n. IsSight (before ++ sign ∷ rest) n sight) (let e : length before ≡ length before + 0 = omega arith in e)
    (subst (λ s. IsSight (before ++ sign ∷ rest) (length before) s) same
    (subst (λ l. IsSight l (length before) (sight_by lock sign)) (sym (append_one before sign rest)) here))
sights-each (sign ∷ rest) lock before (suc k) sight stands e =
    let there = sights-each rest (lock_by lock sign) (before ++ sign ∷ []) k sight
    (stands-next lock before sign stands) e in
    subst (λ n. IsSight (before ++ sign ∷ rest) n sight)
    (let e : length (before ++ sign ∷ []) + k ≡ length before + suc k =
    omega (arith, length-append before (sign ∷ [])) in e)
    (subst (λ l. IsSight l (length (before ++ sign ∷ []) + k) sight) (sym (append_one before sign rest)) there)

is_worded : (signs : List (Option ℕ)) (place : ℕ) (sight : Sight) → slice_get (sights signs) place ≡ Some sight →
    IsSight signs place sight
is_worded signs place sight e =
    subst (λ n. IsSight signs n sight) (let e : 0 + place ≡ place = omega arith in e)
    (sights-each signs unlocked [] place sight stands-none e)

-- ---- nothing else is
pub IsSight_only : (signs : List (Option ℕ)) (place : ℕ) (a b : Sight) → IsSight signs place a → IsSight signs place b →
    a ≡ b
IsSight_only signs place unknown unknown p q = refl
IsSight_only signs place unknown (locks n) p q = absurd (p q.0.0 q.0.1.in_step)
IsSight_only signs place unknown at p q = absurd (p q.0 q.1.in_step)
IsSight_only signs place (locks n) unknown p q = absurd (q p.0.0 p.0.1.in_step)
IsSight_only signs place at unknown p q = absurd (q p.0 p.1.in_step)
IsSight_only signs place at at p q = refl
IsSight_only signs place (locks n) at p q =
    let same : p.0.0 ≡ q.0 = IsFirstStep_only signs p.0.0 q.0 place p.0.1 q.1 in
    absurd (omega (arith, p.0.2, q.2))
IsSight_only signs place at (locks n) p q =
    let same : p.0 ≡ q.0.0 = IsFirstStep_only signs p.0 q.0.0 place p.1 q.0.1 in
    absurd (omega (arith, p.2, q.0.2))
IsSight_only signs place (locks n) (locks m) p q =
    let (first, before, mfi2, next, has, e) = p in
    let (first', before', mfi2', next', has', e') = q in
    let same : before' ≡ before = omega arith in
    let equal : mfi2 ≡ mfi2' = HasMfi2_only signs before mfi2 mfi2' has (subst (λ k. HasMfi2 signs k mfi2') same has')
    in
    ap locks (e ∙ ap (λ m. 16 * m + 1) equal ∙ sym e')

is_computed : (signs : List (Option ℕ)) (place : ℕ) (sight : Sight) → place < length signs → IsSight signs place sight →
    slice_get (sights signs) place ≡ Some sight
is_computed signs place sight inside is =
    let found = slice_get-inside (sights signs) place (omega (arith, length-sights_on signs unlocked)) in
    found.1 ∙ ap Some (IsSight_only signs place found.0 sight (is_worded signs place found.0 found.1) is)

inside_of : (signs : List (Option ℕ)) (place : ℕ) (sight : Sight) → slice_get (sights signs) place ≡ Some sight →
    place < length signs
inside_of signs place sight e =
    omega (arith, length-sights_on signs unlocked, slice_get_within (sights signs) place sight e)

-- ---- the laws
pub are_at_sights : AreAtSights
are_at_sights signs place = (
  is_worded signs place at,
  λ is. is_computed signs place at (IsInStep-inside signs is.0 place is.1.in_step) is,
)

pub are_locking : AreLockingSights
are_locking signs place number = (
  is_worded signs place (locks number),
  λ is. is_computed signs place (locks number) (IsInStep-inside signs is.0.0 place is.0.1.in_step) is,
)

pub are_unknown : AreUnknownSights
are_unknown signs place = (
  λ e. (inside_of signs place unknown e, is_worded signs place unknown e),
  λ both. is_computed signs place unknown both.0 both.1,
)
