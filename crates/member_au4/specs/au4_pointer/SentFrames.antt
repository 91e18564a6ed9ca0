-- The frames that a source sends, and what comes of them.
use Rattle.std.specs.Prelude.{◌≡◌, ℕ, List, [], ◌∷◌, ◌++◌, map, take, None}
use Rattle.member_au4.specs.au4_pointer.PointerWord.{next_value, fault_after}
use Rattle.member_au4.specs.au4_pointer.StreamPart.{Part, next_part, first_part, parts_from, flow}
use Rattle.member_au4.specs.au4_pointer.Source.{frame_in}
use Rattle.member_au4.specs.au4_pointer.Sink.{data_of, word_fault}
use Rattle.member_au4.specs.declared.au4_pointer.au_frame.Action.{Action}
use Rattle.member_au4.specs.declared.au4_pointer.au_frame.Action.TheVariants.{Keep, Up, Down, New}
use Rattle.member_au4.specs.declared.au4_pointer.au_frame.AuFrame.{AuFrame}

-- the frames of actions, from a value and a part on
abbrev pub sent_from : ℕ → Part → List Action → List (List ℕ) → List AuFrame
sent_from value part [] vcs = []
sent_from value part (a ∷ more) vcs =
    frame_in value part a vcs ∷ sent_from (next_value value a) (next_part part a) more vcs

-- the frames of actions from a start on, with VC-4s
abbrev pub sent : ℕ → List Action → List (List ℕ) → List AuFrame
sent start actions vcs = sent_from start (first_part start) actions vcs

-- a source refuses none of these actions
abbrev pub AreAccepted : List Action → Type 0
AreAccepted actions = (before after : List Action) (a : Action) →
    actions ≡ before ++ a ∷ after → fault_after before a ≡ None

-- a sink refuses none of these frames
abbrev pub AreTaken : List AuFrame → Type 0
AreTaken frames = (before after : List AuFrame) (frame : AuFrame) →
    frames ≡ before ++ frame ∷ after → word_fault before frame ≡ None

-- the data of each part of frames, where these octets of the first one came before
abbrev pub datas_from : List ℕ → List Action → List AuFrame → List (List ℕ)
datas_from octets [] frames = octets ∷ []
datas_from octets (a ∷ more) [] = octets ∷ []
datas_from octets (Keep ∷ more) (frame ∷ frames) = datas_from (octets ++ data_of Keep frame) more frames
datas_from octets (Up ∷ more) (frame ∷ frames) = datas_from (octets ++ data_of Up frame) more frames
datas_from octets (Down ∷ more) (frame ∷ frames) = datas_from (octets ++ data_of Down frame) more frames
datas_from octets (New p ∷ more) (frame ∷ frames) = octets ∷ datas_from (data_of (New p) frame) more frames

-- the data that each part is to have: zeros, and then VC-4s
abbrev pub datas : ℕ → List Action → List (List ℕ) → List (List ℕ)
datas start actions vcs = map (λ part. take part.size (flow part vcs)) (parts_from (first_part start) actions)
