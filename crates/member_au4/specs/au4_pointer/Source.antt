-- What a source has sent, and what it asks its feed for.
use Rattle.std.specs.Prelude.{◌≡◌, ℕ, ◌-◌, ◌*◌, ◌<◌, ◌≤◌, Bool, true, false, List, [], ◌∷◌, ◌++◌, length, take, drop}
use Rattle.std.specs.Prelude.{replicate}
use Rattle.std.specs.List.{concat}
use Rattle.law_model.specs.Common.{Start}
use Rattle.member_au4.specs.au4_pointer.PointerWord.{value_after, new_wait, word_of}
use Rattle.member_au4.specs.au4_pointer.StreamPart.{Part, AreVcs, octets_of, begun, next_part, part_after, flow}
use Rattle.member_au4.specs.declared.au4_pointer.au_frame.Action.{Action}
use Rattle.member_au4.specs.declared.au4_pointer.au_frame.Action.TheVariants.{Keep, Up, Down, New}
use Rattle.member_au4.specs.declared.au4_pointer.au_frame.AuFrame.{AuFrame}

-- a source: the value of the next frame, the frames to wait, whether a frame was sent, and the octets that are sent
-- next, as far as it has them
pub record Source : Type 0 where
  pub value : ℕ
  pub wait : ℕ
  pub sent : Bool
  pub rest : List ℕ

-- whether these actions are any
abbrev pub was_sent : List Action → Bool
was_sent [] = false
was_sent (a ∷ more) = true

-- these actions were sent from a start on, and these VC-4s were asked for: those that began, and no other
pub record PointerSourceStands (source : Source) (start : ℕ) (actions : List Action) (asked : List (List ℕ)) : Type 0 where
  pub value : source.value ≡ value_after start actions
  pub wait : source.wait ≡ new_wait actions
  pub sent : source.sent ≡ was_sent actions
  pub count : length asked ≡ begun (part_after start actions)
  pub vcs : AreVcs asked
  pub rest : source.rest ≡ drop (part_after start actions).size (flow (part_after start actions) asked)

-- ---- frames
-- what a frame with this data has for H3: data in a Down frame alone, which has three octets more than others
abbrev pub h3_of : Action → List ℕ → List ℕ
h3_of Keep octets = 0 ∷ 0 ∷ 0 ∷ []
h3_of Up octets = 0 ∷ 0 ∷ 0 ∷ []
h3_of Down octets = take 3 octets
h3_of (New p) octets = 0 ∷ 0 ∷ 0 ∷ []

-- what it has behind H3: three zeros come before the data of an Up frame, which has three octets less
abbrev pub body_of : Action → List ℕ → List ℕ
body_of Keep octets = octets
body_of Up octets = 0 ∷ 0 ∷ 0 ∷ octets
body_of Down octets = drop 3 octets
body_of (New p) octets = octets

-- data in a frame with a value
abbrev pub framed : ℕ → Action → List ℕ → AuFrame
framed value a octets = record { word = word_of value a; h3 = h3_of a octets; body = body_of a octets }

-- the last octets of data of a part, which are those of its last frame
abbrev pub last_octets : Part → Action → List (List ℕ) → List ℕ
last_octets part a vcs = take (octets_of a) (drop (part.size - octets_of a) (flow part vcs))

-- a frame behind frames in a part
abbrev pub frame_in : ℕ → Part → Action → List (List ℕ) → AuFrame
frame_in value part a vcs = framed value a (last_octets (next_part part a) a vcs)

-- the frame of an action behind others
abbrev pub frame_after : ℕ → List Action → Action → List (List ℕ) → AuFrame
frame_after start actions a vcs = frame_in (value_after start actions) (part_after start actions) a vcs

-- ---- what is asked of a feed
-- of a feed were asked VC-4s, and octets that were due were sent with them. None was asked of which no octet was needed
pub record Asks {F : Type 0} (stands : F → Start → List (List ℕ) → Type 0) (before now : F)
    (due octets rest : List ℕ) : Type 0 where
  pub vcs : List (List ℕ)
  pub size : AreVcs vcs
  pub fed : (start : Start) (asked : List (List ℕ)) → stands before start asked → stands now start (asked ++ vcs)
  pub sent : octets ++ rest ≡ due ++ concat vcs
  pub needed : 0 < length vcs → length rest < 2349

-- octets that are due are there
pub record Refills {F : Type 0} (stands : F → Start → List (List ℕ) → Type 0) (before now : F)
    (due rest : List ℕ) : Type 0 where
  pub vcs : List (List ℕ)
  pub size : AreVcs vcs
  pub fed : (start : Start) (asked : List (List ℕ)) → stands before start asked → stands now start (asked ++ vcs)
  pub there : rest ≡ due ++ concat vcs
  pub some : 0 < length rest
  pub few : 0 < length vcs → length rest ≤ 2349

-- the octets that are due for a frame
abbrev pub due : List ℕ → Action → List ℕ
due rest Keep = rest
due rest Up = rest
due rest Down = rest
due rest (New p) = replicate (3 * p) 0

-- an action that a frame can have
abbrev pub IsValid : Action → Type 0
IsValid Keep = Unit {0}
IsValid Up = Unit {0}
IsValid Down = Unit {0}
IsValid (New p) = p ≤ 782

-- the data of a frame is written
pub record Writes {F : Type 0} (stands : F → Start → List (List ℕ) → Type 0) (before now : F) (a : Action)
    (was rest h3 body : List ℕ) : Type 0 where
  pub octets : List ℕ
  pub size : length octets ≡ octets_of a
  pub in_h3 : h3 ≡ h3_of a octets
  pub in_body : body ≡ body_of a octets
  pub asks : Asks stands before now (due was a) octets rest

-- a frame was sent, and these VC-4s were asked for
pub record Sends {F : Type 0} (stands : F → Start → List (List ℕ) → Type 0) (was now : Source) (before after : F)
    (a : Action) (frame : AuFrame) : Type 0 where
  pub vcs : List (List ℕ)
  pub fed : (start : Start) (asked : List (List ℕ)) → stands before start asked → stands after start (asked ++ vcs)
  pub is : (start : ℕ) (actions : List Action) (asked : List (List ℕ)) →
      PointerSourceStands was start actions asked → frame ≡ frame_after start actions a (asked ++ vcs)
  pub now_stands : (start : ℕ) (actions : List Action) (asked : List (List ℕ)) →
      PointerSourceStands was start actions asked → PointerSourceStands now start (actions ++ a ∷ []) (asked ++ vcs)
