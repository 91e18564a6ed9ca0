-- Where a conversation over a live text stands, whatever answers it: as private clauses say it, and those of `Answerer`.
use Rattle.std.specs.Prelude.{◌≡◌, ℕ, Bool, true, false, List, [], ◌∷◌, ◌++◌, Option, Some, None}
use Rattle.text_got.specs.TextSoFar.{Holds}
use Rattle.command_parts.specs.declared.stop_and_status.Stop.{Stop}
use Rattle.command_parts.specs.declared.stop_and_status.Stop.TheVariants as stop
use Rattle.command_parts.specs.Dialogue.{Heard}
use Rattle.walk_live.specs.declared.asked.Asked.{Asked}
use Rattle.walk_live.specs.LiveTexts.{FaultNote, LiveText, dialogue_of}

-- ---- a line that has no fault
-- nothing happens by it: nothing is answered, and what has answered the lines before has answered it too
pub record IsQuiet {W : Type 0} (text : LiveText) (HasAnswered : W → Asked → List (List ℕ) → Type 0)
    (ls : List (List ℕ)) (line : List ℕ) : Type 0 where
  pub begun : text.begun (ls ++ line ∷ []) ≡ text.begun ls
  pub answer : (asked : Asked) → text.answer asked ls line ≡ []
  pub still : (own : W) (asked : Asked) → text.begun ls ≡ true → HasAnswered own asked ls →
      HasAnswered own asked (ls ++ line ∷ [])

-- it says that something happens: behind the first such line what answers can be made
pub record IsLive {R L : Type 0} (text : LiveText) (Waits : R → List (List ℕ) → Type 0)
    (Says : R → L → List (List ℕ) → List ℕ → Type 0) (reader : R) (says : L) (ls : List (List ℕ)) (line : List ℕ) :
    Type 0 where
  pub begun : text.begun (ls ++ line ∷ []) ≡ true
  pub waits : text.begun ls ≡ false → Waits reader ls
  pub says_so : Says reader says ls line

-- ---- why a reader stops: for what is wrong; or, before the first live line alone, for want of memory
abbrev pub StopsReader : Bool → FaultNote → Stop → Type 0
StopsReader begun found stop.Read = ⊥
StopsReader begun found stop.TooLong = ⊥
StopsReader begun found (stop.Refused fault) = found ≡ Some (fault.why, fault.note.items)
StopsReader begun found stop.Write = ⊥
StopsReader begun found stop.Memory = begun ≡ false

-- ---- what answers
-- there is something that has answered these lines
abbrev pub IsThere : {W : Type 0} → (W → Asked → List (List ℕ) → Type 0) → Option W → Asked → List (List ℕ) → Type 0
IsThere HasAnswered None asked ls = ⊥
IsThere HasAnswered (Some own) asked ls = HasAnswered own asked ls

-- or it can be made
abbrev pub CanBeThere : {W R : Type 0} → (W → Asked → List (List ℕ) → Type 0) → (R → List (List ℕ) → Type 0) →
    Option W → R → Asked → List (List ℕ) → Type 0
CanBeThere HasAnswered Waits None reader asked ls = Waits reader ls
CanBeThere HasAnswered Waits (Some own) reader asked ls = HasAnswered own asked ls

-- before the first live line there is nothing, and nothing was said
abbrev pub IsThereBy : {W : Type 0} → (W → Asked → List (List ℕ) → Type 0) → Option W → Asked → List (List ℕ) → List ℕ →
    Bool → Type 0
IsThereBy HasAnswered own asked ls said false = (own ≡ None) × (said ≡ [])
IsThereBy HasAnswered own asked ls said true = IsThere HasAnswered own asked ls

-- a line was answered: the answer is written, or waits behind what waited
pub record AnswersLine {W K : Type 0} (text : LiveText) (HasAnswered : W → Asked → List (List ℕ) → Type 0)
    (written : K → Option (List ℕ)) (faults : K → ℕ) (old new : K) (waited waits : List ℕ) (own : W) (asked : Asked)
    (ls : List (List ℕ)) (line : List ℕ) : Type 0 where
  pub is : HasAnswered own asked (ls ++ line ∷ [])
  pub holds : Holds written faults old new waits (waited ++ text.answer asked ls line)

-- ---- where it stands: these lines were read, and answered
pub record IsTalking {W R : Type 0} (text : LiveText) (HasRead : R → List (List ℕ) → Type 0)
    (HasAnswered : W → Asked → List (List ℕ) → Type 0) (asked : Asked) (reader : R) (own : Option W) (heard : Heard) :
    Type 0 where
  pub dialogue : heard.dialogue ≡ dialogue_of text asked
  pub read : HasRead reader heard.lines
  pub answers : IsThereBy HasAnswered own asked heard.lines heard.said (text.begun heard.lines)
