-- What is added to a text, in private clauses.
use Rattle.std.specs.Prelude.{List, ℕ, ◌++◌}
use Rattle.law_model.specs.Common.{Start}

-- whatever text something stood for, it stands for that with another behind it
abbrev pub Adds : {T : Type 0} → (T → Start → List ℕ → Type 0) → T → T → List ℕ → Type 0
Adds stands_for old new text =
    (start : Start) (before : List ℕ) → stands_for old start before → stands_for new start (before ++ text)
