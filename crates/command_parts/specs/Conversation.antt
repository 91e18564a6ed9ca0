-- Where a conversation stands, as private clauses say it. What is written is told from a moment on when nothing waited:
-- `first` is the sink then, and `earlier` what had been said.
use Rattle.std.specs.Prelude.{◌≡◌, ℕ, List, [], ◌++◌, length, Option, Some, Ok, Err}
use Rattle.law_model.specs.Common.{Appends, AppendsPart}
use Rattle.text_got.specs.TextSoFar.{Holds}
use Rattle.command_parts.specs.declared.conversation.Listener.{Listener}
use Rattle.command_parts.specs.declared.stop_and_status.Stop.{Stop}
use Rattle.command_parts.specs.declared.stop_and_status.Stop.TheVariants.{Read, TooLong, Refused, Write, Memory}
use Rattle.command_parts.specs.Talk.{Said, faulty, long}
use Rattle.command_parts.specs.Dialogue.{Heard, heard_more, Reply, reply_to, course_of}

-- ---- what is written
-- this was said: it is written, or waits
pub record IsSaid {K : Type 0} (written : K → Option (List ℕ)) (faults : K → ℕ) (first : K) (earlier : List ℕ)
    (now : K) (waiting text : List ℕ) : Type 0 where
  pub later : List ℕ
  pub is : text ≡ earlier ++ later
  pub holds : Holds written faults first now waiting later

-- it is written
pub record IsWritten {K : Type 0} (written : K → Option (List ℕ)) (faults : K → ℕ) (first : K) (earlier : List ℕ)
    (now : K) (text : List ℕ) : Type 0 where
  pub later : List ℕ
  pub is : text ≡ earlier ++ later
  pub appends : Appends written faults first now later

-- a write failed before it was written
pub record IsCutShort {K : Type 0} (written : K → Option (List ℕ)) (faults : K → ℕ) (first : K) (earlier : List ℕ)
    (now : K) (text : List ℕ) : Type 0 where
  pub later : List ℕ
  pub is : text ≡ earlier ++ later
  pub part : AppendsPart written faults first now later

-- ---- who listens
-- it has heard this
pub record Listens {T : Type 0} (Hears : T → Heard → Type 0) (listener : Listener T) (heard : Heard) : Type 0 where
  pub hears : Hears listener.talker heard
  pub lines : listener.lines ≡ length heard.lines

-- and what was said to it is written, or waits
pub record Stands {T K : Type 0} (Hears : T → Heard → Type 0) (written : K → Option (List ℕ)) (faults : K → ℕ)
    (first : K) (earlier : List ℕ) (listener : Listener T) (out : K) (waiting : List ℕ) (heard : Heard) : Type 0 where
  pub listens : Listens Hears listener heard
  pub said : IsSaid written faults first earlier out waiting heard.said

-- so does some one that was heard
abbrev pub StandsSomewhere : {T K : Type 0} → (T → Heard → Type 0) → (K → Option (List ℕ)) → (K → ℕ) → Listener T → K →
    List ℕ → Type 0
StandsSomewhere {K = K} Hears written faults listener out waiting =
    (first : K) × (earlier : List ℕ) × (heard : Heard)
    × Stands Hears written faults first earlier listener out waiting heard

-- a line was heard and replied to
pub record HasHeard {T K : Type 0} (Hears : T → Heard → Type 0) (written : K → Option (List ℕ)) (faults : K → ℕ)
    (first : K) (earlier : List ℕ) (listener : Listener T) (out : K) (waiting : List ℕ) (heard : Heard)
    (line : List ℕ) : Type 0 where
  pub text : List ℕ
  pub is : reply_to heard line ≡ Ok text
  pub stands : Stands Hears written faults first earlier listener out waiting (heard_more heard line text)

-- the whole lines of some octets were heard, and the rest waits for its LF
pub record HasHeardLines {T K : Type 0} (Hears : T → Heard → Type 0) (written : K → Option (List ℕ)) (faults : K → ℕ)
    (first : K) (earlier : List ℕ) (listener : Listener T) (out : K) (waiting : List ℕ) (heard : Heard)
    (octets rest : List ℕ) : Type 0 where
  pub now : Heard
  pub goes_on : (more : List ℕ) → course_of (octets ++ more) heard ≡ course_of (rest ++ more) now
  pub stands : Stands Hears written faults first earlier listener out waiting now

-- ---- why it stopped
-- at a reply
abbrev pub StopsHearing : {K : Type 0} → (K → Option (List ℕ)) → (K → ℕ) → K → List ℕ → K → List ℕ → Heard → Reply → Stop →
    Type 0
StopsHearing written faults first earlier now waiting heard reply Read = ⊥
StopsHearing written faults first earlier now waiting heard reply TooLong = ⊥
StopsHearing written faults first earlier now waiting heard reply (Refused fault) =
    (reply ≡ Err (fault.why, fault.note.items)) × IsSaid written faults first earlier now waiting heard.said
StopsHearing written faults first earlier now waiting heard reply Write =
    (text : List ℕ) × (reply ≡ Ok text) × IsCutShort written faults first earlier now (heard.said ++ text)
StopsHearing written faults first earlier now waiting heard reply Memory =
    (earlier ≡ []) × Appends written faults first now []

-- what was said before is written, or waits
abbrev pub StopsSaying : {K : Type 0} → (K → Option (List ℕ)) → (K → ℕ) → K → List ℕ → K → List ℕ → Said → Stop → Type 0
StopsSaying written faults first earlier now waiting is Read = ⊥
StopsSaying written faults first earlier now waiting is TooLong =
    (is.end ≡ Some long) × IsSaid written faults first earlier now waiting is.text
StopsSaying written faults first earlier now waiting is (Refused fault) =
    (is.end ≡ Some (faulty fault.why fault.note.items)) × IsSaid written faults first earlier now waiting is.text
StopsSaying written faults first earlier now waiting is Write = IsCutShort written faults first earlier now is.text
StopsSaying written faults first earlier now waiting is Memory = (earlier ≡ []) × Appends written faults first now []

-- it is written
abbrev pub StopsSaid : {K : Type 0} → (K → Option (List ℕ)) → (K → ℕ) → K → List ℕ → K → Said → Stop → Type 0
StopsSaid written faults first earlier now is Read = ⊥
StopsSaid written faults first earlier now is TooLong =
    (is.end ≡ Some long) × IsWritten written faults first earlier now is.text
StopsSaid written faults first earlier now is (Refused fault) =
    (is.end ≡ Some (faulty fault.why fault.note.items)) × IsWritten written faults first earlier now is.text
StopsSaid written faults first earlier now is Write = ⊥
StopsSaid written faults first earlier now is Memory = (earlier ≡ []) × Appends written faults first now []
