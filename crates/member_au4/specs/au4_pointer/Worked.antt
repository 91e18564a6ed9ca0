-- Worked actions.
use Rattle.std.specs.Prelude.{ℕ, List, [], ◌∷◌}
use Rattle.member_au4.specs.declared.au4_pointer.au_frame.Action.{Action}
use Rattle.member_au4.specs.declared.au4_pointer.au_frame.Action.TheVariants.{Keep, New}

-- four frames, of which the third begins anew
abbrev pub worked_actions : List Action
worked_actions = Keep ∷ Keep ∷ New 5 ∷ Keep ∷ []

-- four VC-4s, told by their numbers alone
abbrev pub worked_vcs : List (List ℕ)
worked_vcs = (0 ∷ []) ∷ (1 ∷ []) ∷ (2 ∷ []) ∷ (3 ∷ []) ∷ []
