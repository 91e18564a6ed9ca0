-- What a run of calls moves. `left` and `faults` of a source, `written` and `faults` of a sink, are its ghost members:
-- what it
-- tells of its octets, where it tells them, and its count of faults.
use Rattle.std.specs.Prelude.{◌≡◌, ℕ, ◌⊎◌, ◌<◌, List, ◌++◌, length, Option}
use Rattle.std.specs.Io.KnownBytes.{append_known, prepend_known, IsAtEnd}
use Rattle.octet_io.specs.FaultCounts.{one_more}

-- the source gave this text, and has come to its end
pub record GivesAll {S : Type 0} (left : S → Option (List ℕ)) (old new : S) (text : List ℕ) : Type 0 where
  pub given : left old ≡ prepend_known text (left new)
  pub end : IsAtEnd (left new)

-- the text was appended to the sink, and no fault was counted
pub record Appends {K : Type 0} (written : K → Option (List ℕ)) (faults : K → ℕ) (old new : K)
    (text : List ℕ) : Type 0 where
  pub appended : written new ≡ append_known (written old) text
  pub quiet : faults new ≡ faults old

-- a prefix of the text was appended to the sink, which may be nothing but is never the whole, and one fault was counted
pub record AppendsPart {K : Type 0} (written : K → Option (List ℕ)) (faults : K → ℕ) (old new : K)
    (text : List ℕ) : Type 0 where
  pub part : List ℕ
  pub rest : List ℕ
  pub prefix : part ++ rest ≡ text
  pub cut : 0 < length rest
  pub appended : written new ≡ append_known (written old) part
  pub counted : faults new ≡ one_more (faults old)

-- the text was appended as far as the sink took it: to its end, or up to the first fault
abbrev pub Tells : {K : Type 0} → (K → Option (List ℕ)) → (K → ℕ) → K → K → List ℕ → Type 0
Tells written faults old new text = Appends written faults old new text ⊎ AppendsPart written faults old new text
