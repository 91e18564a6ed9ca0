-- Which of a list are accepted, where each is judged after those before it.
use Rattle.std.specs.Prelude.{List, [], ◌∷◌, Option, Some, None, Result, Ok, Err}

-- one that is refused is left out
abbrev pub kept_by : {X W : Type 0} → Option W → X → List X → List X
kept_by None x xs = x ∷ xs
kept_by (Some why) x xs = xs

-- why one is refused in a state, and the state after it
abbrev pub accepted_of : {S X W : Type 0} → (X → S → Option W) → (S → X → S) → S → List X → List X
accepted_of refusal next state [] = []
accepted_of refusal next state (x ∷ xs) = kept_by (refusal x state) x (accepted_of refusal next (next state x) xs)

-- why a call refused what it was given, where it did
abbrev pub refusal_in : {T W : Type 0} → Result T W → Option W
refusal_in (Ok taken) = None
refusal_in (Err why) = Some why
