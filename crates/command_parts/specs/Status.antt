-- The statuses with which a program ends.
use Rattle.std.specs.Prelude.{◌≡◌, ◌⊎◌, ℕ, ◌≤◌, ◌==◌, ◌||◌, Bool}
use Rattle.law_model.specs.Common.{one_more}

-- those that there are
abbrev pub is_status : ℕ → Bool
is_status n = n == 0 || n == 2 || n == 3 || n == 4 || n == 5 || n == 6 || n == 7 || n == 8

-- those at which an input was read to its end
abbrev pub HasReadAt : ℕ → Type 0
HasReadAt status = (status ≡ 0) ⊎ ((status ≡ 4) ⊎ ((status ≡ 5) ⊎ (status ≡ 6)))

-- those at which something was run
abbrev pub HasRunAt : ℕ → Type 0
HasRunAt status = (status ≡ 0) ⊎ (status ≡ 4)

-- a count of faults rose, or stands at its greatest value
abbrev pub Rises : ℕ → ℕ → Type 0
Rises old new = one_more old ≤ new
