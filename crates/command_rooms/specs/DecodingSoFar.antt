-- What is written so far of a decoding, as private clauses say it. `written` and `faults` are the sink's, `start` is
-- the sink before the
-- first line, and `now` is the sink as it is.
use Rattle.std.specs.Prelude.{◌≡◌, ℕ, List, length, Option}
use Rattle.law_model.specs.Common.{Appends, AppendsPart, found_texts}
use Rattle.law_model.specs.packets.Decode.{packets_in}

-- the lines of the packets in these octets are written, and `packets` is their number
pub record HasLines {K : Type 0} (written : K → Option (List ℕ)) (faults : K → ℕ) (octets : List ℕ) (start now : K)
    (packets : ℕ) : Type 0 where
  pub count : packets ≡ length (packets_in octets)
  pub lines : Appends written faults start now (found_texts (packets_in octets))

-- a fault came in those lines
abbrev pub HasLinesPart : {K : Type 0} → (K → Option (List ℕ)) → (K → ℕ) → List ℕ → K → K → Type 0
HasLinesPart written faults octets start now = AppendsPart written faults start now (found_texts (packets_in octets))
