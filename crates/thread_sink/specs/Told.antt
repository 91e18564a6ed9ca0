-- What was written of the lines of frames.
use Rattle.std.specs.Prelude.{◌≡◌, ℕ, ◌-◌, ◌^◌, min, Bool, true, false, List, length, Option}
use Rattle.law_model.specs.Common.{Appends, AppendsPart}

-- a count of frames, which stops at 2^64 - 1
abbrev pub count_of : List (List ℕ) → ℕ
count_of frames = min (length frames) (2 ^ 64 - 1)

-- what a worker does with the lines of frames: nothing is written where a write had failed before
abbrev pub Writes : {K : Type 0} → (K → Option (List ℕ)) → (K → ℕ) → Bool → Bool → K → K → List ℕ → Type 0
Writes written faults true failed old new text = (failed ≡ true) × (new ≡ old)
Writes written faults false false old new text = Appends written faults old new text
Writes written faults false true old new text = AppendsPart written faults old new text
