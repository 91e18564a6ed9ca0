-- The octets of the client's stream that a frame of a session carries, over all lines.
use Rattle.std.specs.Prelude.{ℕ, suc, ◌*◌, List, take, drop, Option}
use Rattle.law_model.specs.frames.Piece.{stream_of}
use Rattle.law_model.specs.session.Scenario.{Scenario}
use Rattle.law_model.specs.source.Table.{Told}
use Rattle.law_model.specs.source.Client.{width, place_of, stream_before}

-- those of frame t: as many as its lines that carry payload have, from the place of the stream at which the frame
-- begins
abbrev pub payload_of : Scenario → List (Option Told) → ℕ → List ℕ
payload_of scenario cells t =
    take (scenario.size * width scenario cells t)
    (drop (place_of scenario cells t) (stream_of (stream_before scenario cells (suc t)).pieces))
