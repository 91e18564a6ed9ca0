-- What is written so far of a text. `written` and `faults` are a sink's, `start` is the sink before the first line, and
-- `now` is the
-- sink as it is.
use Rattle.std.specs.Prelude.{◌≡◌, ℕ, Bool, true, false, List, [], ◌∷◌, ◌++◌, Option, Some, None}
use Rattle.std.specs.Io.KnownBytes.{append_known}
use Rattle.law_model.specs.Common.{Appends, AppendsPart, Start}
use Rattle.text_got.specs.declared.got_text.GotLines.{GotLines}

-- of a text, a prefix is appended to the sink, and the rest waits in a block
pub record Holds {K : Type 0} (written : K → Option (List ℕ)) (faults : K → ℕ) (start now : K)
    (waiting text : List ℕ) : Type 0 where
  pub put : List ℕ
  pub appends : Appends written faults start now put
  pub all : put ++ waiting ≡ text

-- what a sink tells of what was written, and its count of faults
pub record Seen : Type 0 where
  pub known : Option (List ℕ)
  pub faults : ℕ

abbrev pub known_of : Seen → Option (List ℕ)
known_of seen = seen.known

abbrev pub faults_of : Seen → ℕ
faults_of seen = seen.faults

abbrev pub seen : Option (List ℕ) → ℕ → Seen
seen known faults = record { known = known; faults = faults }

-- a text is written or waits; or a prefix of it was written up to a write that failed
abbrev pub WritesOrWaits : Bool → Seen → Seen → List ℕ → List ℕ → Type 0
WritesOrWaits false first now waiting text = Holds known_of faults_of first now waiting text
WritesOrWaits true first now waiting text = AppendsPart known_of faults_of first now text

-- what a sink tells as octets, which a start can name: an octet before those that are told, and none where none are
-- told
abbrev pub named : Option (List ℕ) → List ℕ
named None = []
named (Some octets) = 0 ∷ octets

abbrev pub told_of : List ℕ → Option (List ℕ)
told_of [] = None
told_of (first ∷ octets) = Some octets

-- ---- the lines of a `GotLines`
-- by which reference it writes, what that is now, and whether a write failed
abbrev pub name_of : {K : Type 0} → GotLines K → ℕ
name_of got = got.out.ghost_name

abbrev pub sink_of : {K : Type 0} → GotLines K → K
sink_of got = got.out.now

abbrev pub has_failed : {K : Type 0} → GotLines K → Bool
has_failed got = got.failed

-- a start: what the sink told before the first line
abbrev pub start_at : {K : Type 0} → (K → Option (List ℕ)) → (K → ℕ) → K → ℕ → Start
start_at written faults first name = record { octets = named (written first); faults = faults first; name = name }

-- this text was written since a start, or waits
abbrev pub HasText : {K : Type 0} → (K → Option (List ℕ)) → (K → ℕ) → GotLines K → Start → List ℕ → Type 0
HasText written faults got start text = (got.out.ghost_name ≡ start.name)
    × WritesOrWaits got.failed (seen (told_of start.octets) start.faults)
    (seen (written got.out.now) (faults got.out.now)) got.block text

-- a prefix of a text was appended to the sink, which may be nothing or the whole, and no fault was counted
pub record AppendsSome {K : Type 0} (written : K → Option (List ℕ)) (faults : K → ℕ) (old new : K)
    (text : List ℕ) : Type 0 where
  pub part : List ℕ
  pub rest : List ℕ
  pub prefix : part ++ rest ≡ text
  pub appended : written new ≡ append_known (written old) part
  pub quiet : faults new ≡ faults old

-- a text was given up: after a fault, or without one
abbrev pub GivesUp : {K : Type 0} → Bool → (K → Option (List ℕ)) → (K → ℕ) → K → K → List ℕ → Type 0
GivesUp true written faults old new text = AppendsPart written faults old new text
GivesUp false written faults old new text = AppendsSome written faults old new text
