-- G.7041, frame multiplexing: the stream of channels, which take turns.
use Rattle.std.specs.Prelude.{◌≡◌, ℕ, map}
use Rattle.gfp_model.specs.linear_model.ChannelStream.{area_of, Shared, one_more, reached}
use Rattle.gfp_fill.specs.SentAreas.{Sender}
use Rattle.gfp_fill.specs.Multiplex.{Multiplex, Stands}
use Rattle.gfp_channels.specs.gfp_linear.Queue.{Queued}

-- the frames of channels, in turns that go round them
abbrev pub in_turns : Multiplex Queued Shared
in_turns = record {
  begun = λ queue. queue.begun;
  waits = λ queue shared. queue.channels ≡ shared.channels;
  areas = λ shared. map area_of shared.pieces;
  next = one_more;
  reached = reached;
}

-- of a stream, the octets before a place are written
abbrev pub LinearFillerStands : Sender → Queued → Shared → ℕ → Type 0
LinearFillerStands sender queue shared place = Stands in_turns sender queue shared place
