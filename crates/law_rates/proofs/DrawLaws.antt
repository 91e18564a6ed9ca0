-- Drawn numbers: one on, and their bounds.
use Rattle.std.proofs.Common.{◌≡◌, ℕ, zero, suc, ◌+◌, ◌-◌, ◌/◌, ◌<◌, ◌≤◌, ◌^◌, List, [], ◌∷◌, ◌++◌, length, ap, sym}
use Rattle.std.proofs.Common.{◌∙◌, arith, refl, All, append-nil, append_assoc, zero-add, suc-add}
use Rattle.std.proofs.lemmas.List.Elements.{All-cons}
use Rattle.std.proofs.lemmas.Nat.{mod_below}
use Rattle.law_rates.specs.Draws.{next, drawn, draws, after_draws}

-- ---- one on
draws_more : (more fewer bound state : ℕ) → more ≡ suc fewer →
    draws more bound state ≡ drawn (next state) bound ∷ draws fewer bound (next state)
unfolding draws
draws_more more fewer bound state e = rw e refl

after_more : (more fewer state : ℕ) → more ≡ suc fewer → after_draws more state ≡ after_draws fewer (next state)
unfolding after_draws
after_more more fewer state e = rw e refl

-- one draw on: what was drawn so far, and the draws that are left
pub draws_next : (all before : List ℕ) (count i bound state now n : ℕ) → all ≡ before ++ draws (count - i) bound state →
    i < count
    → now ≡ next state → n ≡ drawn (next state) bound → all ≡ (before ++ n ∷ []) ++ draws (count - (i + 1)) bound now
draws_next all before count i bound state now n is within moves draw =
    rw (moves, draw)
    (is ∙ ap (λ (l : List ℕ). before ++ l)
    (draws_more (count - i) (count - (i + 1)) bound state (omega (arith, within)))
    ∙ sym (append_assoc before (drawn (next state) bound ∷ []) (draws (count - (i + 1)) bound (next state))))

pub after_next : (all count i state now : ℕ) → all ≡ after_draws (count - i) state → i < count → now ≡ next state
    → all ≡ after_draws (count - (i + 1)) now
after_next all count i state now is within moves =
    rw moves (is ∙ after_more (count - i) (count - (i + 1)) state (omega (arith, within)))

-- no draw is left
pub draws_end : (all before : List ℕ) (count i bound state : ℕ) → all ≡ before ++ draws (count - i) bound state →
    count ≤ i → before ≡ all
unfolding draws
draws_end all before count i bound state is past =
    sym (is ∙ ap (λ (k : ℕ). before ++ draws k bound state) (let e : count - i ≡ 0 = omega (arith, past) in e)
    ∙ append-nil before)

pub after_end : (all count i state : ℕ) → all ≡ after_draws (count - i) state → count ≤ i → state ≡ all
unfolding after_draws
after_end all count i state is past =
    sym (is ∙ ap (λ (k : ℕ). after_draws k state) (let e : count - i ≡ 0 = omega (arith, past) in e))

-- ---- bounds
pub length-draws : (count bound state : ℕ) → length (draws count bound state) ≡ count
unfolding draws
length-draws zero bound state = refl
length-draws (suc count) bound state = ap suc (length-draws count bound (next state))

pub draws_below : (count bound state : ℕ) → 0 < bound → All (λ n. n < bound) (draws count bound state)
unfolding draws
draws_below zero bound state some = λ i d within. absurd (omega (arith, within))
draws_below (suc count) bound state some =
    All-cons (λ n. n < bound) (drawn (next state) bound) (draws count bound (next state))
    (let less : drawn (next state) bound < bound = mod_below (next state / 2 ^ 33) bound some in less)
    (draws_below count bound (next state) some)

-- ---- draws behind others
pub after_draws-none : (state : ℕ) → after_draws 0 state ≡ state
unfolding after_draws
after_draws-none state = refl

pub after_draws-add : (a b state : ℕ) → after_draws (a + b) state ≡ after_draws b (after_draws a state)
unfolding after_draws
after_draws-add zero b state = rw zero-add refl
after_draws-add (suc a) b state = rw suc-add (after_draws-add a b (next state))
