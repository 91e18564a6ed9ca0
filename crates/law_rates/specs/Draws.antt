-- Numbers drawn one after another from a state of 64 bits.
use Rattle.std.specs.Prelude.{ℕ, zero, suc, ◌+◌, ◌*◌, ◌/◌, ◌%◌, ◌^◌, List, [], ◌∷◌}

-- the state after a draw
abbrev pub next : ℕ → ℕ
next state = (state * 6364136223846793005 + 1442695040888963407) % 2 ^ 64

-- the number below a bound that a draw gives which leaves this state
abbrev pub drawn : ℕ → ℕ → ℕ
drawn state bound = state / 2 ^ 33 % bound

-- a number of draws below a bound, from a state on
unfoldable pub draws : ℕ → ℕ → ℕ → List ℕ
draws zero bound state = []
draws (suc count) bound state = drawn (next state) bound ∷ draws count bound (next state)

-- and the state after them
unfoldable pub after_draws : ℕ → ℕ → ℕ
after_draws zero state = state
after_draws (suc count) state = after_draws count (next state)
