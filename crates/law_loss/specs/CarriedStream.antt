-- What is asked of a stream and of the rows that carry it.
use Rattle.std.specs.Prelude.{◌≡◌, ℕ, ◌<◌, ◌≤◌, ◌^◌, List, [], ◌++◌, length, All}
use Rattle.law_model.specs.Common.{Piece, idle, client, stream_of, DueFrame, Scenario, StreamRow, octets_of_rows}

-- rows carry the first octets of the stream of pieces
pub record CarriesStream (rows : List StreamRow) (pieces : List Piece) : Type 0 where
  pub rest : List ℕ
  pub stream : stream_of pieces ≡ octets_of_rows rows ++ rest

-- a frame that may be sent: it isn't longer than a receiver takes, and its area has six octets at least, so that one
-- settles the
-- descrambler
pub record IsSentFrame (longest : ℕ) (frame : List ℕ) : Type 0 where
  pub most : length frame ≤ longest
  pub least : 2 ≤ length frame
  pub octets : All (λ octet. octet < 2 ^ 8) frame

abbrev pub IsSentPiece : ℕ → Piece → Type 0
IsSentPiece longest idle = Unit {0}
IsSentPiece longest (client frame) = IsSentFrame longest frame

-- the frames that are offered are octets
abbrev pub AreOctets : Scenario → Type 0
AreOctets scenario = All (λ (offer : DueFrame). All (λ octet. octet < 2 ^ 8) offer.frame) scenario.offers

-- no line has a failure
pub record IsUndamaged (scenario : Scenario) : Type 0 where
  pub some_line : 0 < length scenario.windows
  pub none : All (λ windows. windows ≡ []) scenario.windows
