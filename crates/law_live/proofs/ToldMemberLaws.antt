-- What the lines of members tell (members_told): each code of a line is another one than the one before, and the last one
-- says how the line stands, behind each decision step.
use Rattle.std.proofs.Common.{◌≡◌, ℕ, zero, suc, ◌+◌, ◌-◌, ◌*◌, ◌<◌, ◌≤◌, ◌==◌, ◌⊎◌, flat_map, true≢false}
use Rattle.std.proofs.Common.{nat_le, Bool, true, false, inl, inr, List}
use Rattle.std.proofs.Common.{[], ◌∷◌, ◌++◌, filter, map, refl, sym, ◌∙◌, ap, ap₂, subst, arith, append-nil, codes, All}
use Rattle.std.proofs.Common.{if◌then◌else◌, Option, Some, None}
use Rattle.std.specs.List.{list_any, range_with_len}
use Rattle.std.specs.Str.{bytes_eq}
use Rattle.std.proofs.Math.Path.{fun_ext}
use Rattle.std.proofs.lemmas.Bool.{cases_Bool, eqb-false, eqb-true, eq-eqb, le-leb, leb-false}
use Rattle.std.proofs.lemmas.Grind.{flat_map-append}
use Rattle.std.proofs.lemmas.List.{map-append}
use Rattle.std.proofs.lemmas.List.Elements.{All-append, All-cons, All-head, All-nil, All-tail, All-weaker, filter-append}
use Rattle.std.proofs.lemmas.Slice.Eq.{bytes_eq-Decides}
use Rattle.law_model.proofs.ListLaws.{range-more}
use Rattle.law_model.specs.declared.lcas_states.Member.{Member}
use Rattle.law_model.specs.declared.lcas_states.Standing.{Standing}
use Rattle.law_model.specs.declared.lcas_states.Standing.TheVariants.{Add as adding, Norm as normal, Dnu as unused}
use Rattle.law_model.specs.Common.{Leg, Table, after, ctrl_by, is_normal, place_in, scenario_by, state_by, state_in, state_of}
use Rattle.law_model.specs.Common.{steps_in}
use Rattle.law_walk.specs.Common.{session_of, table_in}
use Rattle.law_live.specs.Common.{Answer, Differ, MemberTold, code_at, codes_of, last_code, steps_made}
use Rattle.law_live.specs.Common.{code_after, plain_code, member_code, members_in, members_told, told_among, told_by, told_of}

-- ---- codes one behind the other
differ-more : (was : List ℕ) (xs ys : List (List ℕ)) → Differ was xs → Differ (last_code was xs) ys → Differ was (xs ++ ys)
unfolding Differ last_code
differ-more was [] ys first second = second
differ-more was (code ∷ xs) ys first second = (first.0, differ-more code xs ys first.1 second)

last-more : (was : List ℕ) (xs ys : List (List ℕ)) → last_code was (xs ++ ys) ≡ last_code (last_code was xs) ys
unfolding last_code
last-more was [] ys = refl
last-more was (code ∷ xs) ys = last-more code xs ys

-- the code of a line that is told
abbrev news : List ℕ → List ℕ → List (List ℕ)
news was now = if bytes_eq was now then [] else now ∷ []

not-yes : (b : Bool) → b ≡ false → b ≡ true → ⊥
not-yes b e f = true≢false (sym f ∙ e)

one-more : (n : ℕ) → n + 1 ≡ suc n
one-more n = omega arith

news-differ : (was now : List ℕ) → Differ was (news was now)
unfolding Differ
news-differ was now = elim (cases_Bool (bytes_eq was now)) [
  | inl e ↦ rw e tt
  | inr e ↦
      let other : now ≡ was → ⊥ = λ same. not-yes (bytes_eq was now) e ((bytes_eq-Decides was now).1 (sym same)) in
      rw e (other, tt)
]

news-last : (was now : List ℕ) → last_code was (news was now) ≡ now
unfolding last_code
news-last was now = elim (cases_Bool (bytes_eq was now)) [
  | inl e ↦ rw e ((bytes_eq-Decides was now).0 e)
  | inr e ↦ rw e refl
]

-- ---- of one line
codes-more : (m : ℕ) (xs ys : List MemberTold) → codes_of m (xs ++ ys) ≡ codes_of m xs ++ codes_of m ys
codes-more m xs ys =
    ap (map (λ (one : MemberTold). one.code)) (filter-append (λ (one : MemberTold). one.line == m) xs ys)
    ∙ map-append (λ (one : MemberTold). one.code) (filter (λ (one : MemberTold). one.line == m) xs)
    (filter (λ (one : MemberTold). one.line == m) ys)

codes-own : (m ticks : ℕ) (was now : List ℕ) → codes_of m (told_of ticks m was now) ≡ news was now
codes-own m ticks was now =
    let same : (m == m) ≡ true = eq-eqb m m refl in
    elim (cases_Bool (bytes_eq was now)) [ inl e ↦ rw e refl | inr e ↦ rw e (rw same refl) ]

codes-other : (m n ticks : ℕ) (was now : List ℕ) → n < m ⊎ m < n → codes_of m (told_of ticks n was now) ≡ []
codes-other m n ticks was now other =
    let differs : (n == m) ≡ false = grind (arith, other) in
    elim (cases_Bool (bytes_eq was now)) [ inl e ↦ rw e refl | inr e ↦ rw e (rw differs refl) ]

pub among-more : (ticks : ℕ) (was now : ℕ → List ℕ) (n : ℕ) →
    told_among ticks was now (n + 1) ≡ told_among ticks was now n ++ told_of ticks n (was n) (now n)
among-more ticks was now n =
    let f = λ (m : ℕ). told_of ticks m (was m) (now m) in
    ap (flat_map f) (range-more n) ∙ flat_map-append f (range_with_len 0 n) (n ∷ [])
    ∙ ap (λ l. flat_map f (range_with_len 0 n) ++ l) (append-nil (f n))

pub among-none : (ticks : ℕ) (was now : ℕ → List ℕ) → told_among ticks was now 0 ≡ []
among-none ticks was now = refl

module _ (m ticks : ℕ) (was now : ℕ → List ℕ) where
  codes-among : (n : ℕ) →
      codes_of m (told_among ticks was now (n + 1))
      ≡ codes_of m (told_among ticks was now n) ++ codes_of m (told_of ticks n (was n) (now n))
  codes-among n =
      ap (codes_of m) (among-more ticks was now n)
      ∙ codes-more m (told_among ticks was now n) (told_of ticks n (was n) (now n))

  -- of no line that isn't among them
  codes-beyond : (n : ℕ) → n ≤ m → codes_of m (told_among ticks was now n) ≡ []
  codes-beyond zero low = ap (codes_of m) (among-none ticks was now)
  codes-beyond (suc n) low =
      subst (λ k. codes_of m (told_among ticks was now k) ≡ []) (one-more n)
      (codes-among n
      ∙ ap₂ ◌++◌ (codes-beyond n (omega (arith, low))) (codes-other m n ticks (was n) (now n) (inl (omega (arith, low)))))

  codes-inside : (n : ℕ) → m < n → codes_of m (told_among ticks was now n) ≡ news (was m) (now m)
  codes-inside zero low = absurd (omega (arith, low))
  codes-inside (suc n) low =
      subst (λ k. codes_of m (told_among ticks was now k) ≡ news (was m) (now m)) (one-more n)
      (codes-among n ∙ elim (cases_Bool (n == m)) [
        | inl e ↦
            let same : n ≡ m = eqb-true n m e in
            ap₂ ◌++◌ (codes-beyond n (omega (arith, same)))
            (ap (λ k. codes_of m (told_of ticks k (was k) (now k))) same ∙ codes-own m ticks (was m) (now m))
        | inr e ↦
            let other : n ≡ m → ⊥ = eqb-false n m e in
            let less : m < n = omega (arith, low, other) in
            ap₂ ◌++◌ (codes-inside n less) (codes-other m n ticks (was n) (now n) (inr less))
            ∙ append-nil (news (was m) (now m))
      ])

-- ---- of all lines in one step the ticks are the same
ticks-of : (ticks m : ℕ) (was now : List ℕ) → All (λ (one : MemberTold). one.ticks ≡ ticks) (told_of ticks m was now)
ticks-of ticks m was now =
    let P : MemberTold → Type 0 = λ (one : MemberTold). one.ticks ≡ ticks in
    elim (cases_Bool (bytes_eq was now)) [
      | inl e ↦ rw e (All-nil P)
      | inr e ↦ rw e (All-cons P (record { ticks = ticks; line = m; code = now }) [] refl (All-nil P))
    ]

ticks-among : (ticks : ℕ) (was now : ℕ → List ℕ) (n : ℕ) →
    All (λ (one : MemberTold). one.ticks ≡ ticks) (told_among ticks was now n)
ticks-among ticks was now zero = All-nil (λ (one : MemberTold). one.ticks ≡ ticks)
ticks-among ticks was now (suc n) =
    let P : MemberTold → Type 0 = λ (one : MemberTold). one.ticks ≡ ticks in
    subst (λ k. All P (told_among ticks was now k)) (one-more n)
    (subst (All P) (sym (among-more ticks was now n))
    (All-append P (told_among ticks was now n) (told_of ticks n (was n) (now n)) (ticks-among ticks was now n)
    (ticks-of ticks n (was n) (now n))))

pub step-ticks : (leg : Leg) (j : ℕ) → All (λ (one : MemberTold). one.ticks ≡ 16 * j + 9) (members_in leg j)
step-ticks leg j = ticks-among (16 * j + 9) (code_at leg (16 * j + 8)) (code_at leg (16 * j + 9)) leg.config.lines

-- ---- how a line stands after so many decision steps
pub code-steps : (leg : Leg) (a b m : ℕ) → steps_in a ≡ steps_in b → code_at leg a m ≡ code_at leg b m
code-steps leg a b m same =
    ap (λ n. member_code (state_of (after (scenario_by leg) (session_of leg) n).table m)) same

code-first : (leg : Leg) (m : ℕ) → code_at leg 0 m ≡ codes "idle"
unfolding after state_in
code-first leg m = refl

-- ---- beside the control words of packets
plain-same : (standing : Standing) (more : Bool) → member_code (state_by standing) ≡ plain_code (ctrl_by standing more)
plain-same adding more = refl
plain-same normal true = refl
plain-same normal false = refl
plain-same unused more = refl

placed-same : (order : List Member) (leaving : Option ℕ) (sq m : ℕ) →
    member_code (state_in order leaving m) ≡ plain_code (place_in order sq m).ctrl
unfolding state_in place_in
placed-same [] None sq m = refl
placed-same [] (Some line) sq m = elim (cases_Bool (line == m)) [ inl e ↦ rw e refl | inr e ↦ rw e refl ]
placed-same (member ∷ order) leaving sq m = elim (cases_Bool (member.line == m)) [
  | inl e ↦ rw e (plain-same member.standing (list_any is_normal order))
  | inr e ↦ rw e (placed-same order leaving (sq + 1) m)
]

code-made : (leg : Leg) (j m : ℕ) → code_at leg (16 * j + 9) m ≡ code_after leg (suc j) m
unfolding code_after
code-made leg j m =
    let table : Table = table_in leg (16 * j + 9) in placed-same table.order table.leaving 0 m

code-found : (leg : Leg) (j m : ℕ) → code_at leg (16 * j + 8) m ≡ code_after leg j m
unfolding code_after
code-found leg zero m = code-steps leg 8 0 m (omega arith) ∙ code-first leg m
code-found leg (suc j) m =
    code-steps leg (16 * suc j + 8) (16 * j + 9) m (omega arith) ∙ code-made leg j m

pub step-trace : (leg : Leg) (j : ℕ) →
    members_in leg j ≡ told_among (16 * j + 9) (code_after leg j) (code_after leg (suc j)) leg.config.lines
step-trace leg j =
    ap₂ (λ was now. told_among (16 * j + 9) was now leg.config.lines) (fun_ext (code-found leg j))
    (fun_ext (code-made leg j))

-- ---- what the first steps tell
abbrev upto : Leg → ℕ → List MemberTold
upto leg n = flat_map (members_in leg) (range_with_len 0 n)

upto-more : (leg : Leg) (n : ℕ) → upto leg (n + 1) ≡ upto leg n ++ members_in leg n
upto-more leg n =
    ap (flat_map (members_in leg)) (range-more n)
    ∙ flat_map-append (members_in leg) (range_with_len 0 n) (n ∷ [])
    ∙ ap (λ l. upto leg n ++ l) (append-nil (members_in leg n))

-- of a line the codes differ, and the last one is how it stands
record IsTold (leg : Leg) (m n : ℕ) : Type 0 where
  differ : Differ (codes "idle") (codes_of m (upto leg n))
  last : m < leg.config.lines → last_code (codes "idle") (codes_of m (upto leg n)) ≡ code_at leg (16 * n) m

told-none : (leg : Leg) (m : ℕ) → IsTold leg m 0
unfolding Differ last_code
told-none leg m = record { differ = tt; last = λ low. sym (code-first leg m) }

module _ (leg : Leg) (m n : ℕ) (is : IsTold leg m n) where
  all-codes : codes_of m (upto leg (n + 1)) ≡ codes_of m (upto leg n) ++ codes_of m (members_in leg n)
  all-codes = ap (codes_of m) (upto-more leg n) ∙ codes-more m (upto leg n) (members_in leg n)

  told-inside : m < leg.config.lines → IsTold leg m (n + 1)
  told-inside low =
      let first : List (List ℕ) = codes_of m (upto leg n) in
      let was : List ℕ = code_at leg (16 * n + 8) m in
      let now : List ℕ = code_at leg (16 * n + 9) m in
      let before : last_code (codes "idle") first ≡ was =
      is.last low ∙ code-steps leg (16 * n) (16 * n + 8) m (omega arith) in
      let whole : codes_of m (upto leg (n + 1)) ≡ first ++ news was now =
      all-codes ∙ ap (λ l. first ++ l) (codes-inside m (16 * n + 9) (code_at leg (16 * n + 8))
      (code_at leg (16 * n + 9)) leg.config.lines low) in
      record {
        differ = subst (Differ (codes "idle")) (sym whole)
            (differ-more (codes "idle") first (news was now) is.differ
            (subst (λ c. Differ c (news was now)) (sym before) (news-differ was now)));
        last = λ inside.
            ap (last_code (codes "idle")) whole ∙ last-more (codes "idle") first (news was now)
            ∙ ap (λ c. last_code c (news was now)) before ∙ news-last was now
            ∙ code-steps leg (16 * n + 9) (16 * (n + 1)) m (omega arith);
      }

  told-beyond : leg.config.lines ≤ m → IsTold leg m (n + 1)
  told-beyond high =
      let first : List (List ℕ) = codes_of m (upto leg n) in
      let whole : codes_of m (upto leg (n + 1)) ≡ first =
      all-codes ∙ ap (λ l. first ++ l) (codes-beyond m (16 * n + 9) (code_at leg (16 * n + 8))
      (code_at leg (16 * n + 9)) leg.config.lines high) ∙ append-nil first in
      record {
        differ = subst (Differ (codes "idle")) (sym whole) is.differ;
        last = λ inside. absurd (omega (arith, inside, high));
      }

  told-next : IsTold leg m (n + 1)
  told-next = elim (cases_Bool (nat_le leg.config.lines m)) [
    | inl e ↦ told-beyond (grind (arith, e))
    | inr e ↦ told-inside (leb-false leg.config.lines m e)
  ]

told-upto : (leg : Leg) (m n : ℕ) → IsTold leg m n
told-upto leg m zero = told-none leg m
told-upto leg m (suc n) = subst (IsTold leg m) (one-more n) (told-next leg m n (told-upto leg m n))

-- ---- up to a step
by-all : (t : ℕ) (xs : List MemberTold) → All (λ (one : MemberTold). one.ticks ≤ t) xs → told_by t xs ≡ xs
by-all t [] all = refl
by-all t (one ∷ xs) all =
    let P : MemberTold → Type 0 = λ (one : MemberTold). one.ticks ≤ t in
    let yes : nat_le one.ticks t ≡ true = le-leb one.ticks t (All-head P one xs all) in
    rw yes (ap (λ l. one ∷ l) (by-all t xs (All-tail P one xs all)))

by-none : (t : ℕ) (xs : List MemberTold) → All (λ (one : MemberTold). t < one.ticks) xs → told_by t xs ≡ []
by-none t [] all = refl
by-none t (one ∷ xs) all =
    let P : MemberTold → Type 0 = λ (one : MemberTold). t < one.ticks in
    let low = All-head P one xs all in
    let no : nat_le one.ticks t ≡ false = grind (arith, low) in
    rw no (by-none t xs (All-tail P one xs all))

upto-ticks : (leg : Leg) (n : ℕ) → All (λ (one : MemberTold). one.ticks + 7 ≤ 16 * n) (upto leg n)
upto-ticks leg zero = All-nil (λ (one : MemberTold). one.ticks + 7 ≤ 0)
upto-ticks leg (suc n) =
    let P : MemberTold → Type 0 = λ (one : MemberTold). one.ticks + 7 ≤ 16 * (n + 1) in
    subst (λ k. All (λ (one : MemberTold). one.ticks + 7 ≤ 16 * k) (upto leg k)) (one-more n)
    (subst (All P) (sym (upto-more leg n))
    (All-append P (upto leg n) (members_in leg n)
    (All-weaker (λ (one : MemberTold). one.ticks + 7 ≤ 16 * n) P (λ one low. omega (arith, low)) (upto leg n)
    (upto-ticks leg n))
    (All-weaker (λ (one : MemberTold). one.ticks ≡ 16 * n + 9) P (λ one is. omega (arith, is)) (members_in leg n)
    (step-ticks leg n))))

-- later steps tell nothing of it
upto-by : (leg : Leg) (j k : ℕ) → told_by (16 * j + 9) (upto leg (j + 1 + k)) ≡ upto leg (j + 1)
upto-by leg j zero =
    let none : j + 1 ≡ j + 1 + 0 = omega arith in
    subst (λ n. told_by (16 * j + 9) (upto leg n) ≡ upto leg (j + 1)) none
    (by-all (16 * j + 9) (upto leg (j + 1))
    (All-weaker (λ (one : MemberTold). one.ticks + 7 ≤ 16 * (j + 1)) (λ (one : MemberTold). one.ticks ≤ 16 * j + 9)
    (λ one low. omega (arith, low)) (upto leg (j + 1)) (upto-ticks leg (j + 1))))
upto-by leg j (suc k) =
    let t : ℕ = 16 * j + 9 in
    let n : ℕ = j + 1 + k in
    let next : n + 1 ≡ j + 1 + suc k = omega arith in
    subst (λ i. told_by t (upto leg i) ≡ upto leg (j + 1)) next
    (ap (told_by t) (upto-more leg n)
    ∙ filter-append (λ (one : MemberTold). nat_le one.ticks t) (upto leg n) (members_in leg n)
    ∙ ap₂ ◌++◌ (upto-by leg j k)
    (by-none t (members_in leg n)
    (All-weaker (λ (one : MemberTold). one.ticks ≡ 16 * n + 9) (λ (one : MemberTold). t < one.ticks)
    (λ one is. omega (arith, is)) (members_in leg n) (step-ticks leg n)))
    ∙ append-nil (upto leg (j + 1)))

-- ---- of all that is told, where that are the steps of so many ticks
module _ (leg : Leg) (told : List Answer) (ticks : ℕ) (is : steps_made told ≡ range_with_len 0 (steps_in ticks)) where
  upto-told : members_told leg told ≡ upto leg (steps_in ticks)
  upto-told = ap (flat_map (members_in leg)) is

  pub told-differ : (m : ℕ) → Differ (codes "idle") (codes_of m (members_told leg told))
  told-differ m =
      subst (λ l. Differ (codes "idle") (codes_of m l)) (sym upto-told) (told-upto leg m (steps_in ticks)).differ

  pub told-last : (m : ℕ) → m < leg.config.lines →
      last_code (codes "idle") (codes_of m (members_told leg told)) ≡ code_at leg ticks m
  told-last m low =
      ap (λ l. last_code (codes "idle") (codes_of m l)) upto-told
      ∙ (told-upto leg m (steps_in ticks)).last low
      ∙ code-steps leg (16 * steps_in ticks) ticks m (omega arith)

  pub told-step : (m j : ℕ) → m < leg.config.lines → 16 * j + 8 < ticks →
      last_code (codes "idle") (codes_of m (told_by (16 * j + 9) (members_told leg told)))
      ≡ code_at leg (16 * j + 9) m
  told-step m j low made =
      let n : ℕ = steps_in ticks in
      let k : ℕ = n - (j + 1) in
      let sum : j + 1 + k ≡ n = omega (arith, made) in
      ap (λ l. last_code (codes "idle") (codes_of m (told_by (16 * j + 9) l))) (upto-told ∙ ap (upto leg) (sym sum))
      ∙ ap (λ l. last_code (codes "idle") (codes_of m l)) (upto-by leg j k)
      ∙ (told-upto leg m (j + 1)).last low
      ∙ code-steps leg (16 * (j + 1)) (16 * j + 9) m (omega arith)
