-- Draws are skipped in leaps: after so many draws a state is a multiple of it and a constant more, and after twice as
-- many too.
use Rattle.std.proofs.Common.{◌≡◌, ℕ, zero, suc, ◌+◌, ◌*◌, ◌/◌, ◌%◌, ◌^◌, ◌<◌, ap, ap₂, sym, ◌∙◌, arith, refl}
use Rattle.std.proofs.Math.Nat.{mul-add-mod_self_right, mod-add-div'}
use Rattle.law_rates.specs.Draws.{next, after_draws}
use Rattle.law_rates.proofs.DrawLaws.{after_draws-none, after_draws-add}

abbrev pub IsLeap : ℕ → ℕ → ℕ → Type 0
IsLeap step scale offset = (state : ℕ) → after_draws step state ≡ (state * scale + offset) % 2 ^ 64

pub one_leap : IsLeap 1 6364136223846793005 1442695040888963407
unfolding after_draws
one_leap state = refl

-- ---- remainders
same_rest : (m q x y : ℕ) → x ≡ q * m + y → x % m ≡ y % m
same_rest m q x y e = ap (λ n. n % m) e ∙ mul-add-mod_self_right q m y

-- the remainder may be taken of what is multiplied, and of both parts
outer_rest : (m x a c : ℕ) → (x * a + c) % m ≡ ((x % m) * a + c) % m
outer_rest m x a c =
    let split = mod-add-div' x m in
    same_rest m ((x / m) * a) (x * a + c) ((x % m) * a + c)
    (let e = ap (λ n. n * a) split in omega (arith, e))

pub sum_rest : (m x c : ℕ) → ((x % m) + c) % m ≡ (x + c) % m
sum_rest m x c =
    let split = mod-add-div' x m in
    sym (same_rest m (x / m) (x + c) ((x % m) + c) (omega (arith, split)))

inner_rest : (m x a c : ℕ) → (x * (a % m) + (c % m)) % m ≡ (x * a + c) % m
inner_rest m x a c =
    let split = mod-add-div' a m in
    let other = mod-add-div' c m in
    sym (same_rest m (x * (a / m) + c / m) (x * a + c) (x * (a % m) + (c % m))
    (let e = ap (λ n. x * n) split in omega (arith, e, other)))

twice_rest : (m x a c : ℕ) →
    (((x * a + c) % m) * a + c) % m ≡ (x * ((a * a) % m) + ((((a * c) % m) + c) % m)) % m
twice_rest m x a c =
    sym (outer_rest m (x * a + c) a c)
    ∙ ap (λ n. n % m) (let e : (x * a + c) * a + c ≡ x * (a * a) + (a * c + c) = omega arith in e)
    ∙ sym (inner_rest m x (a * a) (a * c + c))
    ∙ ap (λ n. (x * ((a * a) % m) + n) % m) (sym (sum_rest m (a * c) c))

-- ---- twice as far
pub leap_twice : (step scale offset : ℕ) → IsLeap step scale offset →
    IsLeap (step + step) ((scale * scale) % 2 ^ 64) ((((scale * offset) % 2 ^ 64) + offset) % 2 ^ 64)
leap_twice step scale offset is state =
    after_draws-add step step state ∙ is (after_draws step state)
    ∙ ap (λ n. (n * scale + offset) % 2 ^ 64) (is state)
    ∙ twice_rest (2 ^ 64) state scale offset

-- ---- what is left of a number of draws: where one step is left over, and where none is
pub leap_even : (step left state : ℕ) → left % 2 ≡ 0 →
    after_draws (step * left) state ≡ after_draws ((step + step) * (left / 2)) state
leap_even step left state even =
    ap (λ n. after_draws n state)
    (let split = mod-add-div' left 2 in let e : step * left ≡ (step + step) * (left / 2) =
    (let f : step * (left / 2 * 2) ≡ step * left =
    ap (λ n. step * n) (let g : left / 2 * 2 ≡ left = omega (arith, split, even) in g) in omega (arith, f)) in e)

pub leap_odd : (step left state then : ℕ) → left % 2 ≡ 1 → then ≡ after_draws step state →
    after_draws (step * left) state ≡ after_draws ((step + step) * (left / 2)) then
leap_odd step left state then odd is =
    rw is
    (ap (λ n. after_draws n state)
    (let split = mod-add-div' left 2 in let e : step * left ≡ step + (step + step) * (left / 2) =
    (let f : step * (1 + left / 2 * 2) ≡ step * left =
    ap (λ n. step * n) (let g : 1 + left / 2 * 2 ≡ left = omega (arith, split, odd) in g) in omega (arith, f)) in e)
    ∙ after_draws-add step ((step + step) * (left / 2)) state)
