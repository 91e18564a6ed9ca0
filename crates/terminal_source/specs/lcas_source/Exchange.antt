-- The line that an exchange takes out of the order.
use Rattle.std.specs.Prelude.{ℕ, ◌+◌, ◌-◌, List, ◌++◌, take, drop, Option, Some, slice_index_or}
use Rattle.law_model.specs.declared.lcas_states.Member.{Member}

-- the member at a place, or this one where there is none, and the others from an earlier place on
abbrev pub taken_out : List Member → ℕ → ℕ → Member → Option (Member × List Member)
taken_out order from place member =
    Some (slice_index_or order place member, take (place - from) (drop from order) ++ drop (place + 1) order)
