-- The client's stream, in which frames are sent in the order in which they came.
use Rattle.std.specs.Prelude.{◌≡◌, ℕ, ◌-◌, List, [], ◌∷◌, ◌++◌, length, map, take, replicate}
use Rattle.law_model.specs.Common.{Piece, idle, client, area_of, Stream, next_by, reached}
use Rattle.gfp_fill.specs.SentAreas.{Sender}
use Rattle.gfp_fill.specs.Multiplex.{Multiplex, Stands}
use Rattle.gfp_fill.specs.Queue.{Held}

-- the first n of: the waiting frames in order, and then idles without end
abbrev pub next_pieces : ℕ → List (List ℕ) → List Piece
next_pieces n waiting = map client (take n waiting) ++ replicate (n - length waiting) idle

-- the stream before its first octet is written: two idles are begun, and these frames wait
abbrev pub unsent : List (List ℕ) → Stream
unsent waiting = record { pieces = idle ∷ idle ∷ []; waiting = waiting }

-- the frames of a queue, oldest first
abbrev pub oldest_first : Multiplex Held Stream
oldest_first = record {
  begun = λ queue. queue.begun;
  waits = λ queue stream. queue.waiting ≡ stream.waiting;
  areas = λ stream. map area_of stream.pieces;
  next = λ stream. next_by stream.waiting stream.pieces;
  reached = reached;
}

-- of a stream, the octets before a place are written
abbrev pub FillerStands : Sender → Held → Stream → ℕ → Type 0
FillerStands sender queue stream place = Stands oldest_first sender queue stream place
