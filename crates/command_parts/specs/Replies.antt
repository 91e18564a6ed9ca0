-- What one who talks does with a line that it hears, as its clauses say it.
use Rattle.std.specs.Prelude.{◌≡◌, ℕ, ◌<◌, ◌≤◌, List, [], ◌++◌, length, Option, Ok, Err}
use Rattle.law_model.specs.Common.{AppendsPart}
use Rattle.text_got.specs.TextSoFar.{Holds}
use Rattle.text_lines.specs.Cut.{Lacks}
use Rattle.command_parts.specs.declared.stop_and_status.Stop.{Stop}
use Rattle.command_parts.specs.declared.stop_and_status.Stop.TheVariants.{Read, TooLong, Refused, Write, Memory}
use Rattle.command_parts.specs.Dialogue.{Heard, Reply, longest_line, most_input_lines}

-- there may be a next line, and this is one
pub record CanReply {T : Type 0} (Hears : T → Heard → Type 0) (talker : T) (line : List ℕ) : Type 0 where
  pub heard : Heard
  pub hears : Hears talker heard
  pub few : length heard.lines < most_input_lines
  pub lacks : Lacks 10 line
  pub short : length line ≤ longest_line

-- it has heard something
abbrev pub HasHeardSome : {T : Type 0} → (T → Heard → Type 0) → T → Type 0
HasHeardSome Hears talker = (heard : Heard) × Hears talker heard

-- a reply is written, or waits behind what waited
pub record HasReplied {K : Type 0} (written : K → Option (List ℕ)) (faults : K → ℕ) (old new : K)
    (waited waits : List ℕ) (reply : Reply) : Type 0 where
  pub text : List ℕ
  pub is : reply ≡ Ok text
  pub holds : Holds written faults old new waits (waited ++ text)

-- there is none, and nothing was added; or a write failed before it was written; or memory was short, where nothing had
-- been said
abbrev pub StopsReply : {K : Type 0} → (K → Option (List ℕ)) → (K → ℕ) → K → K → List ℕ → List ℕ → Heard → Reply → Stop →
    Type 0
StopsReply written faults old new waited waits heard reply Read = ⊥
StopsReply written faults old new waited waits heard reply TooLong = ⊥
StopsReply written faults old new waited waits heard reply (Refused fault) =
    (reply ≡ Err (fault.why, fault.note.items)) × Holds written faults old new waits waited
StopsReply written faults old new waited waits heard reply Write =
    (text : List ℕ) × (reply ≡ Ok text) × AppendsPart written faults old new (waited ++ text)
StopsReply written faults old new waited waits heard reply Memory = (heard.said ≡ []) × (new ≡ old)
