-- What lands step by step.
use Rattle.std.specs.Prelude.{ℕ, zero, suc, ◌+◌, ◌*◌, nat_le, nat_lt, Bool, List, [], ◌++◌, filter}
use Rattle.std.specs.List.Sorted.{IsNonDecreasingBy}
use Rattle.law_model.specs.Common.{DueCommand, DueFrame}

-- what lands in steps 0 to n - 1, each in the step that its test names
unfoldable pub landed : {X : Type 0} → (ℕ → X → Bool) → List X → ℕ → List X
landed at xs zero = []
landed at xs (suc n) = landed at xs n ++ filter (at n) xs

-- the due ticks never fall
abbrev pub AreOrdersInOrder : List DueCommand → Type 0
AreOrdersInOrder orders = IsNonDecreasingBy (λ (order : DueCommand). order.due) orders

abbrev pub AreOffersInOrder : List DueFrame → Type 0
AreOffersInOrder offers = IsNonDecreasingBy (λ (offer : DueFrame). offer.due) offers

-- an order lands before step j - 1, so that this step or one before it finds it
abbrev pub is_landed : ℕ → DueCommand → Bool
is_landed j order = nat_le (order.due + 8) (16 * j)

-- an offer lands before t ticks are made
abbrev pub is_come : ℕ → DueFrame → Bool
is_come t offer = nat_lt offer.due t
