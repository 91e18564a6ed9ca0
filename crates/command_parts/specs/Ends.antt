-- How a task ended, by its exit status.
use Rattle.std.specs.Prelude.{◌≡◌, ◌⊎◌, ℕ, ◌<◌, ◌≤◌, List, [], ◌++◌, length, Option, Some, None, IfSome, codes}
use Rattle.std.specs.Io.KnownBytes.{prepend_known}
use Rattle.law_model.specs.Common.{one_more, GivesAll, Appends, AppendsPart, Tells, longest_input}
use Rattle.text_got.specs.TextSoFar.{AppendsSome}
use Rattle.command_parts.specs.declared.stop_and_status.Refusal.{Refusal}
use Rattle.command_parts.specs.Talk.{Said, Talk, TalkEnd, faulty, long, said}
use Rattle.command_parts.specs.Task.{Answer, Task, writes, writes_both, refuses, exceeds, none, reads, makes, talks}
use Rattle.command_parts.specs.Task.{IsCommand, Reads, HasInput, refused_status}

-- ---- the source and the two sinks
-- what was lent to a call: before it, after it, what it tells of its octets, where it tells them, and its count of
-- faults
pub record Lent (X : Type 0) : Type 0 where
  pub octets : X → Option (List ℕ)
  pub faults : X → ℕ
  pub old : X
  pub new : X

abbrev pub lent : {X : Type 0} → (X → Option (List ℕ)) → (X → ℕ) → X → X → Lent X
lent octets faults old new = record { octets = octets; faults = faults; old = old; new = new }

-- it is as it was
abbrev pub Kept : {X : Type 0} → Lent X → Type 0
Kept x = x.new ≡ x.old

-- no call of it failed, or one did
abbrev pub Quiet : {X : Type 0} → Lent X → Type 0
Quiet x = x.faults x.new ≡ x.faults x.old

abbrev pub FailedOnce : {X : Type 0} → Lent X → Type 0
FailedOnce x = x.faults x.new ≡ one_more (x.faults x.old)

-- a text was written: all of it, a part up to a fault, a part without a fault, or as far as it was taken
abbrev pub Takes : {X : Type 0} → Lent X → List ℕ → Type 0
Takes x text = Appends x.octets x.faults x.old x.new text

abbrev pub TakesPart : {X : Type 0} → Lent X → List ℕ → Type 0
TakesPart x text = AppendsPart x.octets x.faults x.old x.new text

abbrev pub TakesSome : {X : Type 0} → Lent X → List ℕ → Type 0
TakesSome x text = AppendsSome x.octets x.faults x.old x.new text

abbrev pub IsTold : {X : Type 0} → Lent X → List ℕ → Type 0
IsTold x text = Tells x.octets x.faults x.old x.new text

-- ---- what is read
-- a text of at most 67,108,864 octets was read to its end
pub record HasRead {S : Type 0} (source : Lent S) (text : List ℕ) : Type 0 where
  pub given : GivesAll source.octets source.old source.new text
  pub fits : length text ≤ longest_input
  pub quiet : Quiet source

-- more octets came
pub record IsLong {S : Type 0} (source : Lent S) : Type 0 where
  pub much : IfSome (source.octets source.old) (λ text. longest_input < length text)
  pub quiet : Quiet source

-- some octets were taken of it
pub record HasTaken {S : Type 0} (source : Lent S) (octets : List ℕ) : Type 0 where
  pub given : source.octets source.old ≡ prepend_known octets (source.octets source.new)
  pub quiet : Quiet source

-- the answer of a task, of the text that it read where it reads one
abbrev pub Meets : {S : Type 0} → Lent S → Task → Answer → Type 0
Meets source (none usage) is = ⊥
Meets source (reads answer) is = (text : List ℕ) × HasRead source text × (answer text ≡ is)
Meets source (makes answer) is = Kept source × (answer ≡ is)
Meets source (talks talk) is = ⊥

-- ---- what is written
-- all that an answer writes
abbrev pub WritesAll : {K E : Type 0} → Lent K → Lent E → Answer → Type 0
WritesAll out notes (writes text) = Takes out text × Kept notes
WritesAll out notes (writes_both text told) = Takes out text × Takes notes told
WritesAll out notes (refuses why note) = ⊥
WritesAll out notes exceeds = ⊥

-- a part of it, up to the first call that failed on either sink
abbrev pub WritesPart : {K E : Type 0} → Lent K → Lent E → Answer → Type 0
WritesPart out notes (writes text) = TakesPart out text × Kept notes
WritesPart out notes (writes_both text told) =
    (TakesPart out text × TakesSome notes told) ⊎ (TakesSome out text × TakesPart notes told)
WritesPart out notes (refuses why note) = ⊥
WritesPart out notes exceeds = ⊥

-- notes up to a moment, and from then on
abbrev pub until : {E : Type 0} → E → Lent E → Lent E
until middle notes = record notes { new = middle }

abbrev pub since : {E : Type 0} → E → Lent E → Lent E
since middle notes = record notes { old = middle }

-- ---- the ends
-- 0: all that the answer writes is written
pub record IsDone {S K E : Type 0} (source : Lent S) (out : Lent K) (notes : Lent E) (task : Task) : Type 0 where
  pub answer : Answer
  pub meets : Meets source task answer
  pub written : WritesAll out notes answer

-- 2: nothing is read or written but the usage
pub record IsNoCommand {S K E : Type 0} (source : Lent S) (out : Lent K) (notes : Lent E) (task : Task) : Type 0 where
  pub usage : List ℕ
  pub none : task ≡ none usage
  pub unread : Kept source
  pub nothing : Kept out
  pub told : IsTold notes usage

-- 3: a call of the source failed
pub record IsUnread {S K E : Type 0} (source : Lent S) (out : Lent K) (notes : Lent E) (task : Task) : Type 0 where
  pub reads : Reads task
  pub failed : FailedOnce source
  pub nothing : Kept out
  pub told : IsTold notes (codes "fault: read failed\n")

-- 4: a call of a sink failed, and then the note was told
pub record IsCut {S K E : Type 0} (source : Lent S) (out : Lent K) (notes : Lent E) (task : Task) : Type 0 where
  pub answer : Answer
  pub meets : Meets source task answer
  pub middle : E
  pub part : WritesPart out (until middle notes) answer
  pub told : IsTold (since middle notes) (codes "fault: write failed\n")

-- 5, 6: the input was read, and isn't what the command takes
pub record IsRefused {S K E : Type 0} (source : Lent S) (out : Lent K) (notes : Lent E) (task : Task)
    (why : Refusal) : Type 0 where
  pub note : List ℕ
  pub meets : Meets source task (refuses why note)
  pub nothing : Kept out
  pub told : IsTold notes note

-- 7: memory was short, before anything was written
pub record IsShort {S K E : Type 0} (source : Lent S) (out : Lent K) (notes : Lent E) (task : Task) : Type 0 where
  pub command : IsCommand task
  pub quiet : Quiet source
  pub unread : (¬ HasInput task) → Kept source
  pub nothing : Kept out
  pub told : IsTold notes (codes "fault: no memory\n")

-- 8: the input is too long
pub record IsTooLong {S K E : Type 0} (source : Lent S) (out : Lent K) (notes : Lent E) (task : Task) : Type 0 where
  pub reads : Reads task
  pub long : IsLong source
  pub nothing : Kept out
  pub told : IsTold notes (codes "fault: too long\n")

-- 8: the text to be written is too long
pub record IsBeyond {S K E : Type 0} (source : Lent S) (out : Lent K) (notes : Lent E) (task : Task) : Type 0 where
  pub meets : Meets source task exceeds
  pub nothing : Kept out
  pub told : IsTold notes (codes "fault: too long\n")

-- ---- the ends of a conversation
-- the most octets that are taken at once
abbrev pub longest_piece : ℕ
longest_piece = 262145

-- what has come of the input, and what is said to it: a piece, or nothing more, behind octets that didn't end it
pub data Comes {S : Type 0} (source : Lent S) (talk : Talk) (before : List ℕ) (is : Said) : Type 0 where
  by_piece : (piece : List ℕ) → length piece ≤ longest_piece → HasTaken source (before ++ piece) →
      is ≡ talk.so_far (before ++ piece) → Comes source talk before is
  at_end : GivesAll source.octets source.old source.new before → Quiet source → is ≡ talk.in_all before →
      Comes source talk before is

-- a conversation went on so far, and then this was said to what came, of which some was said before it came
pub record HasTalked {S : Type 0} (source : Lent S) (talk : Talk) (earlier : List ℕ) (is : Said) : Type 0 where
  pub before : List ℕ
  pub went_on : (talk.so_far before).end ≡ None
  pub is_earlier : (talk.so_far before).text ≡ earlier
  pub comes : Comes source talk before is

-- 0: the input was read to its end, and all is said
pub record IsTalkDone {S K : Type 0} (source : Lent S) (out : Lent K) (talk : Talk) : Type 0 where
  pub text : List ℕ
  pub given : GivesAll source.octets source.old source.new text
  pub read_quiet : Quiet source
  pub went_on : (talk.so_far text).end ≡ None
  pub whole : (talk.in_all text).end ≡ None
  pub written : Takes out (talk.in_all text).text

-- 3: a call of the source failed, and what had come was answered
pub record IsTalkUnread {S K : Type 0} (source : Lent S) (out : Lent K) (talk : Talk) : Type 0 where
  pub taken : List ℕ
  pub given : source.octets source.old ≡ prepend_known taken (source.octets source.new)
  pub failed : FailedOnce source
  pub went_on : (talk.so_far taken).end ≡ None
  pub written : Takes out (talk.so_far taken).text

-- 4: a call of `out` failed: what was said before the last octets came is written, and a part of what is said to them
pub record IsTalkCut {S K : Type 0} (source : Lent S) (out : Lent K) (talk : Talk) : Type 0 where
  pub earlier : List ℕ
  pub later : List ℕ
  pub end : Option TalkEnd
  pub talked : HasTalked source talk earlier (said (earlier ++ later) end)
  pub middle : K
  pub first : Takes (until middle out) earlier
  pub part : TakesPart (since middle out) later

-- 5, 6, 8: what came ends it, and what was said before that is written
pub record IsTalkEnded {S K : Type 0} (source : Lent S) (out : Lent K) (talk : Talk) (end : TalkEnd) : Type 0 where
  pub earlier : List ℕ
  pub text : List ℕ
  pub talked : HasTalked source talk earlier (said text (Some end))
  pub written : Takes out text

-- 7: memory was short, before anything was written
pub record IsTalkShort {S K : Type 0} (source : Lent S) (out : Lent K) : Type 0 where
  pub quiet : Quiet source
  pub nothing : Takes out []

pub data TalkEnds {S K E : Type 0} (source : Lent S) (out : Lent K) (notes : Lent E) (talk : Talk)
    (status : ℕ) : Type 0 where
  talk_done : status ≡ 0 → IsTalkDone source out talk → Kept notes → TalkEnds source out notes talk status
  talk_unread : status ≡ 3 → IsTalkUnread source out talk → IsTold notes (codes "fault: read failed\n") →
      TalkEnds source out notes talk status
  talk_cut : status ≡ 4 → IsTalkCut source out talk → IsTold notes (codes "fault: write failed\n") →
      TalkEnds source out notes talk status
  talk_refused : (why : Refusal) → (note : List ℕ) → status ≡ refused_status why →
      IsTalkEnded source out talk (faulty why note) → IsTold notes note → TalkEnds source out notes talk status
  talk_short : status ≡ 7 → IsTalkShort source out → IsTold notes (codes "fault: no memory\n") →
      TalkEnds source out notes talk status
  talk_long : status ≡ 8 → IsTalkEnded source out talk long → IsTold notes (codes "fault: too long\n") →
      TalkEnds source out notes talk status

-- by the status, which is one of these
pub data Ends {S K E : Type 0} (source : Lent S) (out : Lent K) (notes : Lent E) (task : Task)
    (status : ℕ) : Type 0 where
  done : status ≡ 0 → IsDone source out notes task → Ends source out notes task status
  no_command : status ≡ 2 → IsNoCommand source out notes task → Ends source out notes task status
  unread : status ≡ 3 → IsUnread source out notes task → Ends source out notes task status
  cut : status ≡ 4 → IsCut source out notes task → Ends source out notes task status
  refused : (why : Refusal) → status ≡ refused_status why → IsRefused source out notes task why →
      Ends source out notes task status
  short : status ≡ 7 → IsShort source out notes task → Ends source out notes task status
  too_long : status ≡ 8 → IsTooLong source out notes task → Ends source out notes task status
  beyond : status ≡ 8 → IsBeyond source out notes task → Ends source out notes task status
  talked : (talk : Talk) → task ≡ talks talk → TalkEnds source out notes talk status →
      Ends source out notes task status

-- where nothing is read
abbrev pub no_source : Lent (Unit {0})
no_source = lent (λ u. None) (λ u. 0) tt tt
