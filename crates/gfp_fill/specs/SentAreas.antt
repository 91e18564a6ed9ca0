-- G.7041, frame multiplexing: which octets of a stream of payload areas a sender has written. What is in an area is no
-- matter here.
use Rattle.std.specs.Prelude.{◌≡◌, ℕ, ◌+◌, ◌≤◌, List, ◌++◌, length, take, drop}
use Rattle.law_model.specs.Common.{scrambled_octets, joined, areas_stream}
use Rattle.gfp_scramble.specs.Scrambler.{Scrambling, ScramblerStands as HasScrambled}

-- what a sender knows: octets of which the last are the headers begun last, how many of them are written or aren't
-- sent at all, and the scrambler
pub record Sender : Type 0 where
  pub headers : List ℕ
  pub sent : ℕ
  pub scrambler : Scrambling

-- the octets of headers that aren't written yet
abbrev pub head_of : Sender → List ℕ
head_of sender = drop sender.sent sender.headers

-- of areas that are begun, the octets before a place are written: what is left are octets of headers, and then these of
-- the last area, scrambled after the octets of areas that were given to the scrambler
pub record StandsIn (sender : Sender) (left : List ℕ) (areas : List (List ℕ)) (place : ℕ) : Type 0 where
  pub within : place ≤ length (areas_stream areas)
  pub given : List ℕ
  pub scrambled : HasScrambled sender.scrambler given
  pub parts : joined areas ≡ given ++ left
  pub rest : drop place (areas_stream areas) ≡ head_of sender ++ drop (length given)
      (scrambled_octets (given ++ left))

-- what stands after octets of areas that are the next ones at a place
pub record HasWrittenIn (sender : Sender) (left : List ℕ) (areas : List (List ℕ)) (place : ℕ)
    (octets : List ℕ) : Type 0 where
  pub stands : StandsIn sender left areas (place + length octets)
  pub next : octets ≡ take (length octets) (drop place (areas_stream areas))
