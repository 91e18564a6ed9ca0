-- G.7041, frame multiplexing: which octets of a stream a filler and its queue have written, whatever the order in which
-- the frames that wait are sent.
use Rattle.std.specs.Prelude.{◌≡◌, ℕ, ◌+◌, ◌<◌, ◌≤◌, List, [], ◌∷◌, ◌++◌, length, take, drop}
use Rattle.law_model.specs.Common.{areas_stream}
use Rattle.gfp_fill.specs.SentAreas.{Sender, StandsIn}

-- an order in which frames of a queue are sent, by the streams that it makes of them
pub record Multiplex (Queue Stream : Type 0) : Type 1 where
  -- of a queue, the octets of the frame that is being sent which aren't written yet
  pub begun : Queue → List ℕ
  -- the frames of a queue are those that wait behind the pieces of a stream
  pub waits : Queue → Stream → Type 0
  -- the payload areas of the pieces that are begun
  pub areas : Stream → List (List ℕ)
  -- one more piece: the frame that comes next, or an idle where none waits
  pub next : Stream → Stream
  -- the fewest more that reach a place
  pub reached : ℕ → Stream → Stream

module _ {Queue Stream : Type 0} (order : Multiplex Queue Stream) where
  -- the octets of the pieces that are begun
  abbrev pub octets_of : Stream → List ℕ
  octets_of stream = areas_stream (order.areas stream)

  -- each place is reached by one piece after another, and in parts
  pub record IsMultiplex : Type 0 where
    pub here : (place : ℕ) (stream : Stream) → place ≤ length (octets_of stream) →
        order.reached place stream ≡ stream
    pub next : (place : ℕ) (stream : Stream) → length (octets_of stream) < place →
        order.reached place stream ≡ order.reached place (order.next stream)
    pub reach : (place : ℕ) (stream : Stream) → place ≤ length (octets_of (order.reached place stream))
    pub join : (sooner later : ℕ) (stream : Stream) → sooner ≤ later →
        order.reached later (order.reached sooner stream) ≡ order.reached later stream
    pub more : (place : ℕ) (stream : Stream) →
        (areas : List (List ℕ)) × (order.areas (order.reached place stream) ≡ order.areas stream ++ areas)

  -- no frame waits: one more piece is an idle, and leaves the queue as it is
  abbrev pub NoneWaits : Queue → Type 0
  NoneWaits queue = (stream : Stream) → order.waits queue stream → order.waits queue (order.next stream)
      × (order.areas (order.next stream) ≡ order.areas stream ++ [] ∷ [])

  -- of a stream, the octets before a place are written: what is left of its pieces are octets of headers, and then those
  -- of the frame that is being sent
  pub record Stands (sender : Sender) (queue : Queue) (stream : Stream) (place : ℕ) : Type 0 where
    pub waits : order.waits queue stream
    pub octets : StandsIn sender (order.begun queue) (order.areas stream) place

  -- what stands after octets of a stream that are the next ones: no piece is begun that they don't need
  pub record HasWritten (sender : Sender) (queue : Queue) (stream : Stream) (place : ℕ) (octets : List ℕ) : Type 0 where
    pub stands : Stands sender queue (order.reached (place + length octets) stream) (place + length octets)
    pub next : octets ≡ take (length octets)
        (drop place (octets_of (order.reached (place + length octets) stream)))

  -- whatever stream stood before, its next octets are written
  abbrev pub Writes : Sender → Queue → Sender → Queue → List ℕ → Type 0
  Writes before queue after rest octets = (stream : Stream) (place : ℕ) → Stands before queue stream place →
      HasWritten after rest stream place octets
