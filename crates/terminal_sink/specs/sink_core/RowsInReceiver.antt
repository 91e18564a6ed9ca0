-- What a receiver has got of rows.
use Rattle.std.specs.Prelude.{◌≡◌, ℕ, Bool, List, [], ◌++◌}
use Rattle.terminal_sink.specs.marked_delineator.Marks.{Marked as Receiver, StandsIn}
use Rattle.law_model.specs.Common.{StreamRow, segments_of, longest_frame}
use Rattle.law_loss.specs.AddedFrames.{next_frames}

-- it has some octets of some segment
abbrev pub IsKnown : Receiver → Type 0
IsKnown receiver = (first : Bool) × (octets : List ℕ) × StandsIn receiver longest_frame first octets

-- it has the octets of the last segment of these rows
abbrev pub Receives : Receiver → List StreamRow → Type 0
Receives receiver rows = StandsIn receiver longest_frame (segments_of rows).last.first (segments_of rows).last.octets

-- whatever octets of a segment came before, these came after them
abbrev pub Grows : Receiver → Receiver → List ℕ → Type 0
Grows was now more = (first : Bool) (octets : List ℕ) → StandsIn was longest_frame first octets →
    StandsIn now longest_frame first (octets ++ more)

-- whatever was given before, the frames that these octets add are given after it
abbrev pub Gives : {A : Type 0} → (A → List (List ℕ) → Type 0) → Receiver → List ℕ → A → A → Type 0
Gives stands was more before after = (first : Bool) (octets : List ℕ) → StandsIn was longest_frame first octets →
    (frames : List (List ℕ)) → stands before frames →
    stands after (frames ++ next_frames longest_frame first octets more)

-- these octets change nothing of a receiver, and add no frame
abbrev pub IsIdle : Receiver → List ℕ → Type 0
IsIdle receiver more = (first : Bool) (octets : List ℕ) → StandsIn receiver longest_frame first octets →
    (StandsIn receiver longest_frame first (octets ++ more)) × (next_frames longest_frame first octets more ≡ [])
