-- The client's frames in the stream of a session: which are accepted, and after which pieces a frame is made.
use Rattle.std.specs.Prelude.{◌≡◌, ◌≤◌, ◌<◌, take, ℕ, zero, suc, ◌+◌, ◌-◌, ◌*◌, ◌/◌, nat_le, nat_lt, ◌||◌}
use Rattle.std.specs.Prelude.{if◌then◌else◌, List, [], ◌∷◌, ◌++◌, fold, flat_map, sum_by, length, Option, Some, None}
use Rattle.law_model.specs.declared.item_refusals.AcceptFault.{AcceptFault}
use Rattle.law_model.specs.declared.item_refusals.AcceptFault.TheVariants.{Length, QueueFull}
use Rattle.law_model.specs.frames.Piece.{Piece, idle, client, size_of}
use Rattle.law_model.specs.session.Scenario.{Scenario, frames_at}
use Rattle.law_model.specs.source.Table.{Told, active}
use Rattle.law_model.specs.source.Source.{table_of}
use Rattle.law_model.specs.Limits.{shortest_frame, longest_frame, most_waiting}

-- how many octets pieces have on the stream
abbrev pub size : List Piece → ℕ
size pieces = sum_by size_of pieces

-- the pieces that are begun, and the accepted frames that wait
pub record Stream : Type 0 where
  pub pieces : List Piece
  pub waiting : List (List ℕ)

-- why a frame is refused while others wait: its length is outside 64 to 9,600 octets, or else 256 frames wait
abbrev pub refusal_while : List (List ℕ) → List ℕ → Option AcceptFault
refusal_while waiting frame =
    if nat_lt (length frame) shortest_frame || nat_lt longest_frame (length frame) then Some (Length (length frame))
    else if nat_le most_waiting (length waiting) then Some (QueueFull most_waiting)
    else None

abbrev pub frame_refusal : List ℕ → Stream → Option AcceptFault
frame_refusal frame stream = refusal_while stream.waiting frame

abbrev pub offered_by : Option AcceptFault → List ℕ → Stream → Stream
offered_by (Some refusal) frame stream = stream
offered_by None frame stream = record { pieces = stream.pieces; waiting = stream.waiting ++ frame ∷ [] }

abbrev pub offered : Stream → List ℕ → Stream
offered stream frame = offered_by (frame_refusal frame stream) frame stream

-- one more piece: the frame that waits longest, or an idle
abbrev pub next_by : List (List ℕ) → List Piece → Stream
next_by [] pieces = record { pieces = pieces ++ idle ∷ []; waiting = [] }
next_by (frame ∷ waiting) pieces = record { pieces = pieces ++ client frame ∷ []; waiting = waiting }

-- the fewest pieces that reach a place, with at most so many more
unfoldable pub reaching : ℕ → ℕ → Stream → Stream
reaching zero place stream = stream
reaching (suc steps) place stream =
    if nat_le place (size stream.pieces) then stream else reaching steps place (next_by stream.waiting stream.pieces)

-- the fewest pieces that reach a place: each has octets, so there are no more than the place counts
abbrev pub reached : ℕ → Stream → Stream
reached place stream = reaching place place stream

-- so many more pieces
unfoldable pub begun : ℕ → Stream → Stream
begun zero stream = stream
begun (suc n) stream = begun n (next_by stream.waiting stream.pieces)

-- how many lines carry payload in frame t: packet k governs frames 16 k + 24 to 16 k + 39
abbrev pub width : Scenario → List (Option Told) → ℕ → ℕ
width scenario cells t = if nat_lt t 24 then 0 else length (active (table_of scenario cells ((t - 24) / 16)))

-- the place of the stream at which frame t begins
unfoldable pub place_of : Scenario → List (Option Told) → ℕ → ℕ
place_of scenario cells zero = 0
place_of scenario cells (suc t) = place_of scenario cells t + scenario.size * width scenario cells t

-- the stream before frame t is made
unfoldable pub stream_before : Scenario → List (Option Told) → ℕ → Stream
stream_before scenario cells zero = record { pieces = idle ∷ idle ∷ []; waiting = [] }
stream_before scenario cells (suc t) =
    reached (place_of scenario cells (suc t)) (fold offered (stream_before scenario cells t) (frames_at scenario t))

-- the frames among pieces
abbrev pub frame_in : Piece → List (List ℕ)
frame_in idle = []
frame_in (client frame) = frame ∷ []

abbrev pub frames_in : List Piece → List (List ℕ)
frames_in pieces = flat_map frame_in pieces

-- pieces are followed by the fewest more that reach a place
pub record IsFewest (before : List Piece) (place : ℕ) (after : List Piece) : Type 0 where
  pub more : List Piece
  pub follow : after ≡ before ++ more
  pub reach : place ≤ size after
  pub fewest : (n : ℕ) → n < length more → size (before ++ take n more) < place
