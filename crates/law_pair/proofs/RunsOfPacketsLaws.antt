-- The longest runs of packets that pass a test: they are apart, they end in time, they have just these packets, and
-- which one comes first of those that are left behind a packet.
use Rattle.std.proofs.Common.{◌≡◌, ℕ, zero, suc, ◌+◌, ◌-◌, ◌==◌, nat_le, nat_lt, ◌<◌, ◌≤◌, ◌&&◌, ◌||◌, Bool, true, false}
use Rattle.std.proofs.Common.{List, [], ◌∷◌, filter, All, inl, inr, refl, ◌∙◌, ap, sym, arith}
use Rattle.std.specs.List.{list_any, range_with_len}
use Rattle.std.proofs.lemmas.Bool.{cases_Bool, cases_lt, eq-eqb, eqb-true}
use Rattle.std.proofs.Math.Bool.{or_assoc}
use Rattle.std.proofs.lemmas.List.Elements.{All-nil, All-cons, All-head, All-tail}
use Rattle.law_model.specs.Common.{AreApart}
use Rattle.law_pair.specs.Common.{run_then, runs_of}

abbrev pub runs_from : (ℕ → Bool) → ℕ → ℕ → List (ℕ × ℕ)
runs_from test from count = runs_of (filter test (range_with_len from count))

-- ---- they are apart
then-apart : (k from : ℕ) (runs : List (ℕ × ℕ)) → from ≤ k → AreApart (k + 1) runs → AreApart from (run_then k runs)
unfolding AreApart
then-apart k from [] low apart = (low, omega arith, tt)
then-apart k from (run ∷ runs) low apart =
    let begins = apart.0 in
    let some = apart.1 in
    elim (cases_Bool (run.0 == suc k)) [
      | inl meets ↦ rw meets (low, omega (arith, begins, some), apart.2)
      | inr behind ↦ rw behind (low, omega arith, (omega (arith, begins), some, apart.2))
    ]

pub runs-apart : (test : ℕ → Bool) (a n from : ℕ) → from ≤ a → AreApart from (runs_from test a n)
unfolding AreApart runs_of
runs-apart test a zero from low = tt
runs-apart test a (suc n) from low =
    elim (cases_Bool (test a)) [
      | inl e ↦ rw e (then-apart a from (runs_from test (a + 1) n) low
          (runs-apart test (a + 1) n (a + 1) (omega arith)))
      | inr e ↦ rw e (runs-apart test (a + 1) n from (omega (arith, low)))
    ]

-- ---- they end in time
abbrev EndsBy : ℕ → ℕ × ℕ → Type 0
EndsBy most run = run.1 ≤ most

then-end : (most k : ℕ) (runs : List (ℕ × ℕ)) → k < most → All (EndsBy most) runs → All (EndsBy most) (run_then k runs)
then-end most k [] low end = All-cons (EndsBy most) (k, suc k) [] (omega (arith, low)) (All-nil (EndsBy most))
then-end most k (run ∷ runs) low end =
    elim (cases_Bool (run.0 == suc k)) [
      | inl meets ↦ rw meets (All-cons (EndsBy most) (k, run.1) runs (All-head (EndsBy most) run runs end)
          (All-tail (EndsBy most) run runs end))
      | inr behind ↦ rw behind (All-cons (EndsBy most) (k, suc k) (run ∷ runs) (omega (arith, low)) end)
    ]

pub runs-end : (test : ℕ → Bool) (most a n : ℕ) → a + n ≤ most → All (EndsBy most) (runs_from test a n)
unfolding runs_of
runs-end test most a zero low = All-nil (EndsBy most)
runs-end test most a (suc n) low =
    let rest = runs-end test most (a + 1) n (omega (arith, low)) in
    elim (cases_Bool (test a)) [
      | inl e ↦ rw e (then-end most a (runs_from test (a + 1) n) (omega (arith, low)) rest)
      | inr e ↦ rw e rest
    ]

-- ---- they have just these packets
abbrev is_in : ℕ → ℕ × ℕ → Bool
is_in k run = nat_le run.0 k && nat_lt k run.1

in-one : (i k : ℕ) → (nat_le k i && nat_lt i (suc k)) ≡ (i == k)
in-one i k = grind arith

in-more : (i k end : ℕ) → k < end → (nat_le k i && nat_lt i end) ≡ (i == k || (nat_le (suc k) i && nat_lt i end))
in-more i k end some = grind (arith, some)

then-named : (i k : ℕ) (runs : List (ℕ × ℕ)) → AreApart (k + 1) runs →
    list_any (is_in i) (run_then k runs) ≡ (i == k || list_any (is_in i) runs)
unfolding AreApart
then-named i k [] apart = ap (λ b. b || false) (in-one i k)
then-named i k (run ∷ runs) apart =
    let begins = apart.0 in
    let some = apart.1 in
    elim (cases_Bool (run.0 == suc k)) [
      | inl meets ↦ (
          let same : run.0 ≡ suc k = eqb-true run.0 (suc k) meets in
          rw (meets, same) (ap (λ b. b || list_any (is_in i) runs) (in-more i k run.1 (omega (arith, begins, some)))
          ∙ or_assoc (i == k) (nat_le (suc k) i && nat_lt i run.1) (list_any (is_in i) runs)))
      | inr behind ↦ rw behind (ap (λ b. b || list_any (is_in i) (run ∷ runs)) (in-one i k))
    ]

before-none : (k from : ℕ) (runs : List (ℕ × ℕ)) → k < from → AreApart from runs → list_any (is_in k) runs ≡ false
unfolding AreApart
before-none k from [] low apart = refl
before-none k from (run ∷ runs) low apart =
    let begins = apart.0 in
    let some = apart.1 in
    let early : nat_le run.0 k ≡ false = grind (arith, low, begins) in
    rw early (before-none k run.1 runs (omega (arith, low, begins, some)) apart.2)

pub runs-named : (test : ℕ → Bool) (k a n : ℕ) → a ≤ k → k < a + n →
    list_any (is_in k) (runs_from test a n) ≡ test k
unfolding runs_of
runs-named test k a zero low high = absurd (omega (arith, low, high))
runs-named test k a (suc n) low high =
    let apart = runs-apart test (a + 1) n (a + 1) (omega arith) in
    let later = then-named k a (runs_from test (a + 1) n) apart in
    elim (cases_lt a k) [
      | inl less ↦
          let rest = runs-named test k (a + 1) n (omega (arith, less)) (omega (arith, high)) in
          let other : (k == a) ≡ false = grind (arith, less) in
          elim (cases_Bool (test a)) [
            | inl e ↦ rw e (later ∙ ap (λ b. b || list_any (is_in k) (runs_from test (a + 1) n)) other ∙ rest)
            | inr e ↦ rw e rest
          ]
      | inr more ↦
          let same : k ≡ a = omega (arith, low, more) in
          let here : (k == a) ≡ true = eq-eqb k a same in
          let none = before-none k (a + 1) (runs_from test (a + 1) n) (omega (arith, more)) apart in
          elim (cases_Bool (test a)) [
            | inl e ↦ rw e (later ∙ ap (λ b. b || list_any (is_in k) (runs_from test (a + 1) n)) here)
                ∙ sym e ∙ ap test (sym same)
            | inr e ↦ rw e none ∙ sym e ∙ ap test (sym same)
          ]
    ]

-- ---- The first of those that are left.
-- ---- one that isn't lost
none-here : (test : ℕ → Bool) (a n : ℕ) → test a ≡ false → runs_from test a (suc n) ≡ runs_from test (a + 1) n
none-here test a n heard = rw heard refl

pub left-heard : (test : ℕ → Bool) (a n : ℕ) → a < n → test a ≡ false →
    runs_from test a (n - a) ≡ runs_from test (a + 1) (n - (a + 1))
left-heard test a n low heard =
    ap (runs_from test a) (let e : n - a ≡ suc (n - (a + 1)) = omega (arith, low) in e)
    ∙ none-here test a (n - (a + 1)) heard

-- ---- a run of lost ones, behind which one isn't lost or none is left
then-alone : (k : ℕ) (runs : List (ℕ × ℕ)) → AreApart (k + 2) runs → run_then k runs ≡ (k, suc k) ∷ runs
unfolding AreApart
then-alone k [] apart = refl
then-alone k (run ∷ runs) apart =
    let begins = apart.0 in
    let behind : (run.0 == suc k) ≡ false = grind (arith, begins) in
    rw behind refl

last-of : (test : ℕ → Bool) (a r : ℕ) → test a ≡ true → (0 < r → test (a + 1) ≡ false) →
    runs_from test a (suc r) ≡ (a, suc a) ∷ runs_from test (a + 1) r
unfolding runs_of
last-of test a zero lost ends = rw lost refl
last-of test a (suc r) lost ends =
    let heard = ends (omega arith) in
    let rest : runs_from test (a + 1) (suc r) ≡ runs_from test (a + 1 + 1) r = none-here test (a + 1) r heard in
    rw lost (ap (run_then a) rest
    ∙ then-alone a (runs_from test (a + 1 + 1) r) (runs-apart test (a + 1 + 1) r (a + 2) (omega arith))
    ∙ ap (λ runs. (a, suc a) ∷ runs) (sym rest))

meets : (a end : ℕ) (runs : List (ℕ × ℕ)) → run_then a ((a + 1, end) ∷ runs) ≡ (a, end) ∷ runs
meets a end runs = let e : (a + 1 == suc a) ≡ true = eq-eqb (a + 1) (suc a) (omega arith) in rw e refl

run-front : (test : ℕ → Bool) (m a end n r : ℕ) → a + m + 1 ≡ end → n ≡ m + r →
    ((k : ℕ) → a ≤ k → k < end → test k ≡ true) → (0 < r → test end ≡ false) →
    runs_from test a (suc n) ≡ (a, end) ∷ runs_from test end r
unfolding runs_of
run-front test zero a end n r is count lost ends =
    let here : a + 1 ≡ end = omega (arith, is) in
    ap (λ n. runs_from test a (suc n)) (let e : n ≡ r = omega (arith, count) in e)
    ∙ last-of test a r (lost a (omega arith) (omega (arith, is))) (λ some. ap test here ∙ ends some)
    ∙ ap (λ e. (a, suc a) ∷ runs_from test e r) here
    ∙ ap (λ e. (a, e) ∷ runs_from test end r) (let e : suc a ≡ end = omega (arith, is) in e)
run-front test (suc m) a end zero r is count lost ends = absurd (omega (arith, count))
run-front test (suc m) a end (suc n) r is count lost ends =
    let own = lost a (omega arith) (omega (arith, is)) in
    let rest = run-front test m (a + 1) end n r (omega (arith, is)) (omega (arith, count))
    (λ k low high. lost k (omega (arith, low)) high) ends in
    rw own (ap (run_then a) rest ∙ meets a end (runs_from test end r))

pub left-run : (test : ℕ → Bool) (a end n : ℕ) → a < end → end ≤ n →
    ((k : ℕ) → a ≤ k → k < end → test k ≡ true) → (end < n → test end ≡ false) →
    runs_from test a (n - a) ≡ (a, end) ∷ runs_from test end (n - end)
left-run test a end n some within lost ends =
    ap (runs_from test a) (let e : n - a ≡ suc (n - a - 1) = omega (arith, some, within) in e)
    ∙ run-front test (end - a - 1) a end (n - a - 1) (n - end) (omega (arith, some)) (omega (arith, some, within))
    lost (λ more. ends (omega (arith, more)))

-- ---- none is left
pub left-none : (test : ℕ → Bool) (a n : ℕ) → n ≤ a → runs_from test a (n - a) ≡ []
unfolding runs_of
left-none test a n high = ap (runs_from test a) (let e : n - a ≡ 0 = omega (arith, high) in e)
