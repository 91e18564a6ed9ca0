-- What the end of a task says by its status, fact by fact, what a command gives, and how its task ends with it.
use Rattle.std.proofs.Common.{◌≡◌, ◌≢◌, ◌⊎◌, ℕ, ◌<◌, ◌≤◌, List, [], ◌++◌, length, Option, Some, None, IfSome, IsTrue}
use Rattle.std.proofs.Common.{refl, sym, ◌∙◌, ap, subst, inl, inr, arith, codes, append-nil, Result, Ok, Err, OnOk}
use Rattle.std.proofs.Common.{OnErr}
use Rattle.std.specs.Io.KnownBytes.{prepend_known, IsAtEnd}
use Rattle.law_model.specs.Common.{one_more, Appends}
use Rattle.octet_io.proofs.AppendedTextAndPrefixLaws.{Appends-none}
use Rattle.command_parts.specs.Talk.{Talk, IsTalk, faulty, long}
use Rattle.command_parts.specs.Common.{Answer, Task, writes, writes_both, refuses, exceeds, none, reads, makes, talks}
use Rattle.command_parts.specs.Common.{IsCommand, Reads, HasInput, Talks, IsGood, IsQuiet, IsQuietTask, refused_status}
use Rattle.command_parts.specs.Common.{Lent, Kept, Takes, talked, Quiet, FailedOnce, IsTold, HasRead, IsLong, Meets}
use Rattle.command_parts.specs.Common.{WritesAll, WritesPart, until, since, IsDone, IsNoCommand, IsUnread, IsCut}
use Rattle.command_parts.specs.Common.{IsRefused, IsTooLong, IsBeyond, Ends, done, no_command, unread, cut, refused}
use Rattle.command_parts.specs.Common.{short, too_long, beyond, is_status, HasReadAt, Rises}
use Rattle.command_parts.specs.Ends.{TalkEnds, IsTalkCut, IsTalkEnded, talk_short, lent, TakesPart, no_source}
use Rattle.command_parts.specs.Ends.{talk_done, talk_unread, talk_cut, talk_refused, talk_long, IsTalkDone}
use Rattle.command_parts.specs.declared.stop_and_status.Refusal.{Refusal}
use Rattle.command_parts.specs.declared.stop_and_status.Refusal.TheVariants.{Line, Limit}
use Rattle.command_parts.proofs.TalkOverSourceAndEndLaws.{refused-within}
use Rattle.std.proofs.lemmas.Result.{on_ok_weaker, on_err_weaker}
use Rattle.octet_io.specs.declared.source_and_sink.Failed.{Failed}
use Rattle.octet_io.specs.Transfer.{Tells}
use Rattle.law_model.specs.declared.script_types.Script.{Script}
use Rattle.command_parts.specs.declared.stop_and_status.Ran.{Ran}
use Rattle.command_parts.specs.declared.stop_and_status.Stop.{Stop}
use Rattle.command_parts.specs.declared.stop_and_status.Stop.TheVariants.{Read, TooLong, Refused, Write, Memory}
use Rattle.command_parts.specs.Status.{HasRunAt}
use Rattle.command_parts.specs.Scripts.{HasScript, script_answer}
use Rattle.command_parts.specs.Stops.{status_at, note_of}
use Rattle.command_parts.specs.Gives.{StopsTask, GivesAlone, Gives, IsEnd, StopsTalk, GivesTalk}
use Rattle.command_parts.proofs.SourceTextAndStopLaws.{meets-script}
use Rattle.command_parts.proofs.TalkOverSourceAndEndLaws as talk

-- ---- What an end says, fact by fact.
-- ---- the text that was read is the one that the source tells, where it tells it
same-text : (old new : Option (List ℕ)) (text own : List ℕ) → old ≡ prepend_known text new → IsAtEnd new →
    old ≡ Some own → text ≡ own
same-text old None text own given end is = absurd (let e : None ≡ Some own = sym given ∙ is in cc)
same-text old (Some rest) text own given end is =
    let e : Some (text ++ rest) ≡ Some own = sym given ∙ is in
    let f : text ++ rest ≡ own = cc in
    sym (append-nil text) ∙ ap (λ rest. text ++ rest) (sym end) ∙ f

if-some : {X : Type 0} (P : X → Type 0) (o : Option X) → ((x : X) → o ≡ Some x → P x) → IfSome o P
if-some P None f = tt
if-some P (Some x) f = f x refl

pub known-text : {S : Type 0} (source : Lent S) (P : List ℕ → Type 0) (text : List ℕ) → HasRead source text → P text →
    IfSome (source.octets source.old) P
known-text source P text read holds =
    if-some P (source.octets source.old) (λ own is. subst P
    (same-text _ (source.octets source.new) text own read.given.given read.given.end is) holds)

rises-one : (old new : ℕ) → new ≡ one_more old → Rises old new
rises-one old new is = omega (arith, is)

-- a count that rose stays up while a note is told
rises-then : {E : Type 0} (notes : Lent E) (middle : E) (text : List ℕ) →
    notes.faults middle ≡ one_more (notes.faults notes.old) → IsTold (since middle notes) text
    → Rises (notes.faults notes.old) (notes.faults notes.new)
rises-then notes middle text one (inl all) = let a = all.quiet in omega (arith, one, a)
rises-then notes middle text one (inr part) = let a = part.counted in omega (arith, one, a)

-- what was written in part shows a fault
part-rises : {K E : Type 0} (out : Lent K) (notes : Lent E) (middle : E) (answer : Answer) (text : List ℕ) →
    WritesPart out (until middle notes) answer → IsTold (since middle notes) text
    → Rises (out.faults out.old) (out.faults out.new) ⊎ Rises (notes.faults notes.old) (notes.faults notes.new)
part-rises out notes middle (writes o) text part told =
    inl (rises-one (out.faults out.old) (out.faults out.new) part.0.counted)
part-rises out notes middle (writes_both o n) text (inl part) told =
    inl (rises-one (out.faults out.old) (out.faults out.new) part.0.counted)
part-rises out notes middle (writes_both o n) text (inr part) told =
    inr (rises-then notes middle text part.1.counted told)
part-rises out notes middle (refuses w n) text part told = absurd part
part-rises out notes middle exceeds text part told = absurd part

quiet-answer : {S : Type 0} (source : Lent S) (task : Task) (answer : Answer) → Meets source task answer →
    IsQuietTask task → IsQuiet answer
quiet-answer source (none usage) answer meets quiet = absurd meets
quiet-answer source (reads make) answer meets quiet = subst IsQuiet meets.2 (quiet meets.0)
quiet-answer source (makes own) answer meets quiet = subst IsQuiet meets.1 quiet
quiet-answer source (talks own) answer meets quiet = absurd meets

quiet-all : {K E : Type 0} (out : Lent K) (notes : Lent E) (answer : Answer) → WritesAll out notes answer →
    IsQuiet answer → Kept notes
quiet-all out notes (writes o) all quiet = all.1
quiet-all out notes (writes_both o n) all quiet = absurd quiet
quiet-all out notes (refuses w n) all quiet = absurd all
quiet-all out notes exceeds all quiet = absurd all

quiet-part : {K E : Type 0} (out : Lent K) (notes : Lent E) (answer : Answer) → WritesPart out notes answer →
    IsQuiet answer → FailedOnce out × Kept notes
quiet-part out notes (writes o) part quiet = (part.0.counted, part.1)
quiet-part out notes (writes_both o n) part quiet = absurd quiet
quiet-part out notes (refuses w n) part quiet = absurd part
quiet-part out notes exceeds part quiet = absurd part

all-quiet : {K E : Type 0} (out : Lent K) (notes : Lent E) (answer : Answer) → WritesAll out notes answer → Quiet out
all-quiet out notes (writes o) all = all.0.quiet
all-quiet out notes (writes_both o n) all = all.0.quiet
all-quiet out notes (refuses w n) all = absurd all
all-quiet out notes exceeds all = absurd all

meets-quiet : {S : Type 0} (source : Lent S) (task : Task) (answer : Answer) → Meets source task answer → Quiet source
meets-quiet source (none usage) answer meets = absurd meets
meets-quiet source (reads make) answer meets = meets.1.quiet
meets-quiet source (makes own) answer meets = ap source.faults meets.0
meets-quiet source (talks own) answer meets = absurd meets

meets-command : {S : Type 0} (source : Lent S) (task : Task) (answer : Answer) → Meets source task answer →
    IsCommand task
meets-command source (none usage) answer meets = absurd meets
meets-command source (reads make) answer meets = tt
meets-command source (makes own) answer meets = tt
meets-command source (talks own) answer meets = absurd meets

meets-unread : {S : Type 0} (source : Lent S) (task : Task) (answer : Answer) → Meets source task answer →
    (¬ HasInput task) → Kept source
meets-unread source (none usage) answer meets never = absurd meets
meets-unread source (reads make) answer meets never = absurd (never tt)
meets-unread source (makes own) answer meets never = meets.0
meets-unread source (talks own) answer meets never = absurd meets

-- the text, where one is read
meets-text : {S : Type 0} (source : Lent S) (task : Task) (answer : Answer) → Meets source task answer → Reads task →
    (text : List ℕ) × HasRead source text
meets-text source (none usage) answer meets does = absurd meets
meets-text source (reads make) answer meets does = (meets.0, meets.1)
meets-text source (makes own) answer meets does = absurd does
meets-text source (talks own) answer meets does = absurd does

-- the answer is the input's
meets-known : {S : Type 0} (source : Lent S) (make : List ℕ → Answer) (answer : Answer) (P : Answer → Type 0) →
    Meets source (reads make) answer → P answer
    → IfSome (source.octets source.old) (λ text. P (make text))
meets-known source make answer P meets holds =
    known-text source (λ text. P (make text)) meets.0 meets.1 (subst P (sym meets.2) holds)

reads-none : (usage : List ℕ) (task : Task) → Reads task → task ≡ none usage → ⊥
reads-none usage (none other) does is = does
reads-none usage (reads answer) does is = absurd cc
reads-none usage (makes answer) does is = does
reads-none usage (talks own) does is = does

reads-input : (task : Task) → Reads task → HasInput task
reads-input (none usage) does = absurd does
reads-input (reads answer) does = tt
reads-input (makes answer) does = absurd does
reads-input (talks own) does = absurd does

reads-talks-not : (task : Task) → Reads task → ¬ Talks task
reads-talks-not (none usage) does = λ talks. does
reads-talks-not (reads answer) does = λ talks. talks
reads-talks-not (makes answer) does = λ talks. does
reads-talks-not (talks own) does = λ talks. does

does-talk : (task : Task) (own : Talk) → task ≡ talks own → Talks task
does-talk task own is = subst Talks (sym is) tt

talk-input : (task : Task) (own : Talk) → task ≡ talks own → HasInput task
talk-input task own is = subst HasInput (sym is) tt

command-none : (usage : List ℕ) (task : Task) → IsCommand task → task ≡ none usage → ⊥
command-none usage (none other) command is = command
command-none usage (reads answer) command is = absurd cc
command-none usage (makes answer) command is = absurd cc
command-none usage (talks own) command is = absurd cc

module _ {S K E : Type 0} (source : Lent S) (out : Lent K) (notes : Lent E) (task : Task) (s : ℕ) where
  pub known : Ends source out notes task s → IsTrue (is_status s)
  known (done is it) = rw is refl
  known (no_command is it) = rw is refl
  known (unread is it) = rw is refl
  known (cut is it) = rw is refl
  known (refused Line is it) = rw is refl
  known (refused Limit is it) = rw is refl
  known (short is it) = rw is refl
  known (too_long is it) = rw is refl
  known (beyond is it) = rw is refl
  known (talked own is it) = talk.known source out notes own s it

  -- the least and the greatest status of an end
  abbrev range : Ends source out notes task s → ℕ × ℕ
  range (done is it) = (0, 0)
  range (no_command is it) = (2, 2)
  range (unread is it) = (3, 3)
  range (cut is it) = (4, 4)
  range (refused why is it) = (5, 6)
  range (short is it) = (7, 7)
  range (too_long is it) = (8, 8)
  range (beyond is it) = (8, 8)
  range (talked own is it) = talk.range source out notes own s it

  within : (ends : Ends source out notes task s) → ((range ends).0 ≤ s) × (s ≤ (range ends).1)
  within (done is it) = (omega (arith, is), omega (arith, is))
  within (no_command is it) = (omega (arith, is), omega (arith, is))
  within (unread is it) = (omega (arith, is), omega (arith, is))
  within (cut is it) = (omega (arith, is), omega (arith, is))
  within (refused why is it) = let own = refused-within why in (omega (arith, is, own.0), omega (arith, is, own.1))
  within (short is it) = (omega (arith, is), omega (arith, is))
  within (too_long is it) = (omega (arith, is), omega (arith, is))
  within (beyond is it) = (omega (arith, is), omega (arith, is))
  within (talked own is it) = talk.within source out notes own s it

  pub no-command : Ends source out notes task s → s ≡ 2 → IsNoCommand source out notes task
  no-command (no_command is it) at = it
  no-command (talked own is it) at = absurd (talk.never-two source out notes own s it at)
  no-command ends at = absurd (let is = within ends in omega (arith, is.0, is.1, at))

  pub is-unread : Ends source out notes task s → (¬ Talks task) → s ≡ 3 → IsUnread source out notes task
  is-unread (unread is it) plain at = it
  is-unread (talked own is it) plain at = absurd (plain (does-talk task own is))
  is-unread ends plain at = absurd (let is = within ends in omega (arith, is.0, is.1, at))

  pub is-done : Ends source out notes task s → (¬ Talks task) → s ≡ 0 → IsDone source out notes task
  is-done (done is it) plain at = it
  is-done (talked own is it) plain at = absurd (plain (does-talk task own is))
  is-done ends plain at = absurd (let is = within ends in omega (arith, is.0, is.1, at))

  pub is-cut : Ends source out notes task s → (¬ Talks task) → s ≡ 4 → IsCut source out notes task
  is-cut (cut is it) plain at = it
  is-cut (talked own is it) plain at = absurd (plain (does-talk task own is))
  is-cut ends plain at = absurd (let is = within ends in omega (arith, is.0, is.1, at))

  pub is-long : Ends source out notes task s → (¬ Talks task) → s ≡ 8 → IsTooLong source out notes task ⊎ IsBeyond source out notes task
  is-long (too_long is it) plain at = inl it
  is-long (beyond is it) plain at = inr it
  is-long (talked own is it) plain at = absurd (plain (does-talk task own is))
  is-long ends plain at = absurd (let is = within ends in omega (arith, is.0, is.1, at))

  pub is-refused : Ends source out notes task s → (¬ Talks task) → (s ≡ 5) ⊎ (s ≡ 6) → (why : Refusal) × (s ≡ refused_status why) ×
      IsRefused source out notes task why
  is-refused (refused why is it) plain either = (why, is, it)
  is-refused (talked own is it) plain either = absurd (plain (does-talk task own is))
  is-refused ends plain either = absurd (let is = within ends in
      elim either [ inl at ↦ omega (arith, is.0, is.1, at) | inr at ↦ omega (arith, is.0, is.1, at) ])

  pub none-is : Ends source out notes task s → (usage : List ℕ) → task ≡ none usage → s ≡ 2
  none-is (done is it) usage e = absurd (command-none usage task (meets-command source task it.answer it.meets) e)
  none-is (no_command is it) usage e = is
  none-is (unread is it) usage e = absurd (reads-none usage task it.reads e)
  none-is (cut is it) usage e = absurd (command-none usage task (meets-command source task it.answer it.meets) e)
  none-is (refused why is it) usage e =
      absurd (command-none usage task (meets-command source task (refuses why it.note) it.meets) e)
  none-is (short is it) usage e = absurd (command-none usage task it.command e)
  none-is (too_long is it) usage e = absurd (reads-none usage task it.reads e)
  none-is (beyond is it) usage e = absurd (command-none usage task (meets-command source task exceeds it.meets) e)
  none-is (talked own is it) usage e = absurd (let other : talks own ≡ none usage = sym is ∙ e in cc)

  pub nothing : Ends source out notes task s → (¬ Talks task) → s ≢ 0 → s ≢ 4 → Kept out
  nothing (done is it) plain zero four = absurd (zero is)
  nothing (no_command is it) plain zero four = it.nothing
  nothing (unread is it) plain zero four = it.nothing
  nothing (cut is it) plain zero four = absurd (four is)
  nothing (refused why is it) plain zero four = it.nothing
  nothing (short is it) plain zero four = it.nothing
  nothing (too_long is it) plain zero four = it.nothing
  nothing (beyond is it) plain zero four = it.nothing
  nothing (talked own is it) plain zero four = absurd (plain (does-talk task own is))

  pub read-quiet : Ends source out notes task s → s ≢ 3 → Quiet source
  read-quiet (done is it) three = meets-quiet source task it.answer it.meets
  read-quiet (no_command is it) three = ap source.faults it.unread
  read-quiet (unread is it) three = absurd (three is)
  read-quiet (cut is it) three = meets-quiet source task it.answer it.meets
  read-quiet (refused why is it) three = meets-quiet source task (refuses why it.note) it.meets
  read-quiet (short is it) three = it.quiet
  read-quiet (too_long is it) three = it.long.quiet
  read-quiet (beyond is it) three = meets-quiet source task exceeds it.meets
  read-quiet (talked own is it) three = talk.read-quiet source out notes own s it three

  pub write-quiet : Ends source out notes task s → s ≢ 4 → Quiet out
  write-quiet (done is it) four = all-quiet out notes it.answer it.written
  write-quiet (no_command is it) four = ap out.faults it.nothing
  write-quiet (unread is it) four = ap out.faults it.nothing
  write-quiet (cut is it) four = absurd (four is)
  write-quiet (refused why is it) four = ap out.faults it.nothing
  write-quiet (short is it) four = ap out.faults it.nothing
  write-quiet (too_long is it) four = ap out.faults it.nothing
  write-quiet (beyond is it) four = ap out.faults it.nothing
  write-quiet (talked own is it) four = talk.write-quiet source out notes own s it four

  pub not-read : Ends source out notes task s → (¬ HasInput task) → Kept source
  not-read (done is it) never = meets-unread source task it.answer it.meets never
  not-read (no_command is it) never = it.unread
  not-read (unread is it) never = absurd (never (reads-input task it.reads))
  not-read (cut is it) never = meets-unread source task it.answer it.meets never
  not-read (refused why is it) never = meets-unread source task (refuses why it.note) it.meets never
  not-read (short is it) never = it.unread never
  not-read (too_long is it) never = absurd (never (reads-input task it.reads))
  not-read (beyond is it) never = meets-unread source task exceeds it.meets never
  not-read (talked own is it) never = absurd (never (talk-input task own is))

  pub read-text : Ends source out notes task s → Reads task → HasReadAt s → (text : List ℕ) × HasRead source text
  read-text ends does (inl at) =
      let it = is-done ends (reads-talks-not task does) at in meets-text source task it.answer it.meets does
  read-text ends does (inr (inl at)) =
      let it = is-cut ends (reads-talks-not task does) at in meets-text source task it.answer it.meets does
  read-text ends does (inr (inr either)) =
      let (why, is, it) = is-refused ends (reads-talks-not task does) either in
      meets-text source task (refuses why it.note) it.meets does

  -- ---- reading
  pub fits : Ends source out notes task s → Reads task → HasReadAt s →
      IfSome (source.octets source.old) (λ text. length text ≤ 67108864)
  fits ends does at =
      let (text, read) = read-text ends does at in known-text source (λ text. length text ≤ 67108864) text read
      read.fits

  pub ended : Ends source out notes task s → Reads task → HasReadAt s → IsAtEnd (source.octets source.new)
  ended ends does at = let (text, read) = read-text ends does at in read.given.end

  pub only-reading : Ends source out notes task s → s ≡ 3 → HasInput task
  only-reading (unread is it) at = reads-input task it.reads
  only-reading (talked own is it) at = talk-input task own is
  only-reading ends at = absurd (let is = within ends in omega (arith, is.0, is.1, at))

  pub read-failed : Ends source out notes task s → s ≡ 3 → FailedOnce source
  read-failed (unread is it) at = it.failed
  read-failed (talked own is it) at = (talk.is-unread source out notes own s it at).0.failed
  read-failed ends at = absurd (let is = within ends in omega (arith, is.0, is.1, at))

  pub told-read : Ends source out notes task s → s ≡ 3 → IsTold notes (codes "fault: read failed\n")
  told-read (unread is it) at = it.told
  told-read (talked own is it) at = (talk.is-unread source out notes own s it at).1
  told-read ends at = absurd (let is = within ends in omega (arith, is.0, is.1, at))

  pub told-memory : Ends source out notes task s → s ≡ 7 → IsTold notes (codes "fault: no memory\n")
  told-memory (short is it) at = it.told
  told-memory (talked own is it) at = (talk.is-short source out notes own s it at).1
  told-memory ends at = absurd (let is = within ends in omega (arith, is.0, is.1, at))

  -- an input was too long, or the text to be written is
  pub why-long : Ends source out notes task s → (¬ Talks task) → s ≡ 8 →
      (Reads task × IsLong source) ⊎ Meets source task exceeds
  why-long ends plain at = elim (is-long ends plain at) [ inl it ↦ inl (it.reads, it.long) | inr it ↦ inr it.meets ]

  pub told-long : Ends source out notes task s → s ≡ 8 → IsTold notes (codes "fault: too long\n")
  told-long (too_long is it) at = it.told
  told-long (beyond is it) at = it.told
  told-long (talked own is it) at = (talk.is-long source out notes own s it at).1
  told-long ends at = absurd (let is = within ends in omega (arith, is.0, is.1, at))

  -- ---- writing
  pub write-failed : Ends source out notes task s → s ≡ 4 →
      Rises (out.faults out.old) (out.faults out.new) ⊎ Rises (notes.faults notes.old) (notes.faults notes.new)
  write-failed (cut is it) at =
      part-rises out notes it.middle it.answer (codes "fault: write failed\n") it.part it.told
  write-failed (talked own is it) at =
      inl (rises-one (out.faults out.old) (out.faults out.new) (talk.cut-once source out notes own s it at))
  write-failed ends at = absurd (let is = within ends in omega (arith, is.0, is.1, at))

  pub write-counted : Ends source out notes task s → IsQuietTask task → s ≡ 4 → FailedOnce out
  write-counted (cut is it) quiet at =
      (quiet-part out (until it.middle notes) it.answer it.part (quiet-answer source task _ it.meets quiet)).0
  write-counted (talked own is it) quiet at = talk.cut-once source out notes own s it at
  write-counted ends quiet at = absurd (let is = within ends in omega (arith, is.0, is.1, at))

  pub quiet-notes : Ends source out notes task s → IsQuietTask task → s ≡ 0 → Kept notes
  quiet-notes (done is it) quiet at =
      quiet-all out notes it.answer it.written (quiet-answer source task it.answer it.meets quiet)
  quiet-notes (talked own is it) quiet at = (talk.is-done source out notes own s it at).1
  quiet-notes ends quiet at = absurd (let is = within ends in omega (arith, is.0, is.1, at))

  pub told-write : Ends source out notes task s → IsQuietTask task → s ≡ 4 →
      IsTold notes (codes "fault: write failed\n")
  told-write (talked own is it) quiet at = (talk.is-cut source out notes own s it at).1
  told-write (cut is it) quiet at =
      let kept = (quiet-part out (until it.middle notes) it.answer it.part
      (quiet-answer source task it.answer it.meets quiet)).1 in
      let P : E → Type 0 = λ middle. IsTold (since middle notes) (codes "fault: write failed\n") in subst P kept it.told
  told-write ends quiet at = absurd (let is = within ends in omega (arith, is.0, is.1, at))

-- ---- by what a task answers
module _ {S K E : Type 0} (source : Lent S) (out : Lent K) (notes : Lent E) (answer : List ℕ → Answer) (s : ℕ) where
  pub all-written : Ends source out notes (reads answer) s → s ≡ 0 →
      IfSome (source.octets source.old) (λ text. WritesAll out notes (answer text))
  all-written ends at = let it = is-done source out notes (reads answer) s ends (λ never. never) at in
      meets-known source answer it.answer (WritesAll out notes) it.meets it.written

  pub part-written : Ends source out notes (reads answer) s → s ≡ 4
      → (middle : E) × IfSome (source.octets source.old) (λ text. WritesPart out (until middle notes) (answer text)) ×
      IsTold (since middle notes) (codes "fault: write failed\n")
  part-written ends at =
      let it = is-cut source out notes (reads answer) s ends (λ never. never) at in (
        it.middle,
        meets-known source answer it.answer (WritesPart out (until it.middle notes)) it.meets it.part,
        it.told,
      )

  pub why-refused : Ends source out notes (reads answer) s → (s ≡ 5) ⊎ (s ≡ 6)
      → (why : Refusal) × (note : List ℕ) × (s ≡ refused_status why) ×
      IfSome (source.octets source.old) (λ text. answer text ≡ refuses why note) × IsTold notes note
  why-refused ends either =
      let (why, is, it) = is-refused source out notes (reads answer) s ends (λ never. never) either in (
        why,
        it.note,
        is,
        meets-known source answer (refuses why it.note) (λ own. own ≡ refuses why it.note) it.meets
            refl,
        it.told,
      )

  -- an input that is good is answered, or wants for memory, where no fault comes
  pub complete : Ends source out notes (reads answer) s →
      IfSome (source.octets source.old) (λ text. length text ≤ 67108864 → IsGood (answer text)
      → (s ≡ 0) ⊎ ((s ≡ 7) ⊎ (Rises (source.faults source.old) (source.faults source.new) ⊎
      (Rises (out.faults out.old) (out.faults out.new) ⊎ Rises (notes.faults notes.old) (notes.faults notes.new)))))
  complete (done is it) = if-some _ (source.octets source.old) (λ text known few good. inl is)
  complete (no_command is it) = absurd (let e = it.none in cc)
  complete (unread is it) = if-some _ (source.octets source.old)
      (λ text known few good. inr (inr (inl (rises-one (source.faults source.old) _ it.failed))))
  complete (cut is it) = if-some _ (source.octets source.old)
      (λ text known few good. inr (inr (inr (part-rises out notes it.middle it.answer _ it.part it.told))))
  complete (refused why is it) =
      known-text source _ it.meets.0 it.meets.1 (λ few good. absurd (subst IsGood it.meets.2 good))
  complete (beyond is it) =
      known-text source _ it.meets.0 it.meets.1 (λ few good. absurd (subst IsGood it.meets.2 good))
  complete (talked own is it) = absurd cc
  complete (short is it) = if-some _ (source.octets source.old) (λ text known few good. inr (inl is))
  complete (too_long is it) = long-good (source.octets source.old) it.long.much
    where
      long-good : (o : Option (List ℕ)) → IfSome o (λ text. 67108864 < length text) →
          IfSome o (λ text. length text ≤ 67108864 → IsGood (answer text)
          → (s ≡ 0) ⊎ ((s ≡ 7) ⊎ (Rises (source.faults source.old) (source.faults source.new) ⊎
          (Rises (out.faults out.old) (out.faults out.new) ⊎ Rises (notes.faults notes.old)
          (notes.faults notes.new)))))
      long-good None much = tt
      long-good (Some text) much = λ few good. absurd (omega (arith, much, few))

module _ {S K E : Type 0} (source : Lent S) (out : Lent K) (notes : Lent E) (answer : Answer) (s : ℕ) where
  pub made-all : Ends source out notes (makes answer) s → s ≡ 0 → WritesAll out notes answer
  made-all ends at =
      let it = is-done source out notes (makes answer) s ends (λ never. never) at in
      let P : Answer → Type 0 = λ answer. WritesAll out notes answer in subst P (sym it.meets.1) it.written

  pub made-part : Ends source out notes (makes answer) s → s ≡ 4 → (middle : E) ×
      WritesPart out (until middle notes) answer × IsTold (since middle notes) (codes "fault: write failed\n")
  made-part ends at =
      let it = is-cut source out notes (makes answer) s ends (λ never. never) at in
      (it.middle, subst (WritesPart out (until it.middle notes)) (sym it.meets.1) it.part, it.told)

  pub complete-made : Ends source out notes (makes answer) s → IsGood answer
      → (s ≡ 0) ⊎ ((s ≡ 7) ⊎ (Rises (out.faults out.old) (out.faults out.new) ⊎ Rises (notes.faults notes.old)
      (notes.faults notes.new)))
  complete-made (done is it) good = inl is
  complete-made (no_command is it) good = absurd (let e = it.none in cc)
  complete-made (unread is it) good = absurd it.reads
  complete-made (cut is it) good =
      inr (inr (part-rises out notes it.middle it.answer (codes "fault: write failed\n") it.part it.told))
  complete-made (refused why is it) good = absurd (subst IsGood it.meets.1 good)
  complete-made (short is it) good = inr (inl is)
  complete-made (too_long is it) good = absurd it.reads
  complete-made (beyond is it) good = absurd (subst IsGood it.meets.1 good)
  complete-made (talked own is it) good = absurd cc

  -- a text that is too long is not written
  pub made-beyond : Ends source out notes (makes answer) s → answer ≡ exceeds → (s ≡ 7) ⊎ (s ≡ 8)
  made-beyond (done is it) e = absurd (subst (WritesAll out notes) (sym it.meets.1 ∙ e) it.written)
  made-beyond (no_command is it) e = absurd (let f = it.none in cc)
  made-beyond (unread is it) e = absurd it.reads
  made-beyond (cut is it) e = absurd (subst (WritesPart out (until it.middle notes)) (sym it.meets.1 ∙ e)
      it.part)
  made-beyond (refused why is it) e = absurd (let f : exceeds ≡ refuses why it.note = sym e ∙ it.meets.1 in cc)
  made-beyond (short is it) e = inl is
  made-beyond (too_long is it) e = inr is
  made-beyond (beyond is it) e = inr is
  made-beyond (talked own is it) e = absurd cc

  -- and only such a one
  pub beyond-made : Ends source out notes (makes answer) s → s ≡ 8 → answer ≡ exceeds
  beyond-made ends at = elim (is-long source out notes (makes answer) s ends (λ never. never) at)
      [ inl it ↦ absurd it.reads | inr it ↦ it.meets.1 ]

-- ---- of a task that talks
module _ {S K E : Type 0} (source : Lent S) (out : Lent K) (notes : Lent E) (own : Talk) (s : ℕ) where
  pub as-talk : Ends source out notes (talks own) s → TalkEnds source out notes own s
  as-talk (done is it) = absurd it.meets
  as-talk (no_command is it) = absurd (let e = it.none in cc)
  as-talk (unread is it) = absurd it.reads
  as-talk (cut is it) = absurd it.meets
  as-talk (refused why is it) = absurd it.meets
  as-talk (short is it) =
      talk_short is (record {
        quiet = it.quiet;
        nothing = (let P : K → Type 0 = λ (now : K). Appends out.octets out.faults out.old now [] in
            subst P (sym it.nothing) (Appends-none out.octets out.faults out.old));
      })
      it.told
  as-talk (too_long is it) = absurd it.reads
  as-talk (beyond is it) = absurd it.meets
  as-talk (talked other is it) =
      let same : other ≡ own = cc in
      subst (λ (talk : Talk). TalkEnds source out notes talk s) same it

  pub talk-done : Ends source out notes (talks own) s → s ≡ 0 → IfSome (source.octets source.old)
      (λ text. ((own.in_all text).end ≡ None) × Takes out (own.in_all text).text)
  talk-done ends at = talk.all-said source out notes own s (as-talk ends) at

  pub talk-end : Ends source out notes (talks own) s → s ≡ 0 → IsAtEnd (source.octets source.new)
  talk-end ends at = (talk.is-done source out notes own s (as-talk ends) at).0.given.end

  pub talk-unread : Ends source out notes (talks own) s → s ≡ 3 → (taken : List ℕ)
      × (source.octets source.old ≡ prepend_known taken (source.octets source.new))
      × ((own.so_far taken).end ≡ None) × Takes out (own.so_far taken).text
  talk-unread ends at =
      let it = (talk.is-unread source out notes own s (as-talk ends) at).0 in
      (it.taken, it.given, it.went_on, it.written)

  pub talk-part : Ends source out notes (talks own) s → s ≡ 4 → IsTalkCut source out own
  talk-part ends at = (talk.is-cut source out notes own s (as-talk ends) at).0

  pub talk-refused : Ends source out notes (talks own) s → (s ≡ 5) ⊎ (s ≡ 6) →
      (why : Refusal) × (note : List ℕ) × (s ≡ refused_status why)
      × IsTalkEnded source out own (faulty why note) × IsTold notes note
  talk-refused ends either = talk.is-refused source out notes own s (as-talk ends) either

  pub talk-nothing : Ends source out notes (talks own) s → s ≡ 7 → Takes out []
  talk-nothing ends at = (talk.is-short source out notes own s (as-talk ends) at).0.nothing

  pub talk-long : Ends source out notes (talks own) s → s ≡ 8 →
      IsTalkEnded source out own long
  talk-long ends at = (talk.is-long source out notes own s (as-talk ends) at).0

  pub talk-complete : Ends source out notes (talks own) s → IsTalk own → IfSome (source.octets source.old)
      (λ text. (own.in_all text).end ≡ None → (s ≡ 0) ⊎ ((s ≡ 7)
      ⊎ (Rises (source.faults source.old) (source.faults source.new)
      ⊎ Rises (out.faults out.old) (out.faults out.new))))
  talk-complete ends sound = talk.complete source out notes own s (as-talk ends) sound

-- ---- What a command gives, and how its program ends with it.
-- ---- it stopped before it wrote anything
module _ {S K E : Type 0} (source : Lent S) (out : Lent K) (notes : Lent E) where
  ends-stopped : (task : Task) (stop : Stop) (status : ℕ) → StopsTask source task stop → status ≡ status_at stop →
      Kept out → IsTold notes (note_of stop) → Ends source out notes task status
  ends-stopped (none usage) stop status stops is nothing told = absurd stops
  ends-stopped (reads answer) Read status stops is nothing told =
      unread is (record { reads = tt; failed = stops; nothing = nothing; told = told })
  ends-stopped (reads answer) TooLong status stops is nothing told =
      elim stops [
        | inl much ↦ too_long is (record { reads = tt; long = much; nothing = nothing; told = told })
        | inr meets ↦ beyond is (record { meets = meets; nothing = nothing; told = told })
      ]
  ends-stopped (reads answer) (Refused it) status stops is nothing told =
      refused it.why is (record { note = it.note.items; meets = stops; nothing = nothing; told = told })
  ends-stopped (reads answer) Write status stops is nothing told = absurd stops
  ends-stopped (reads answer) Memory status stops is nothing told =
      short is (record {
        command = tt;
        quiet = stops;
        unread = λ never. absurd (never tt);
        nothing = nothing;
        told = told;
      })
  ends-stopped (makes answer) Read status stops is nothing told = absurd stops.1
  ends-stopped (makes answer) TooLong status stops is nothing told =
      beyond is (record { meets = stops; nothing = nothing; told = told })
  ends-stopped (makes answer) (Refused it) status stops is nothing told =
      refused it.why is (record { note = it.note.items; meets = stops; nothing = nothing; told = told })
  ends-stopped (makes answer) Write status stops is nothing told = absurd stops.1
  ends-stopped (makes answer) Memory status stops is nothing told =
      short is (record {
        command = tt;
        quiet = ap source.faults stops.0;
        unread = λ never. stops.0;
        nothing = nothing;
        told = told;
      })
  ends-stopped (talks talk) stop status stops is nothing told = absurd stops

no-write : {S : Type 0} (source : Lent S) (task : Task) → StopsTask source task Write → ⊥
no-write source (none usage) stops = stops
no-write source (reads answer) stops = stops
no-write source (makes answer) stops = stops.1
no-write source (talks talk) stops = stops

-- what stopped has run nothing
stops-not-run : {S : Type 0} (source : Lent S) (task : Task) (stop : Stop) (status : ℕ) →
    StopsTask source task stop → status ≡ status_at stop → HasRunAt status → ⊥
stops-not-run source task Read status stops is (inl at) = omega (arith, is, at)
stops-not-run source task Read status stops is (inr at) = omega (arith, is, at)
stops-not-run source task TooLong status stops is (inl at) = omega (arith, is, at)
stops-not-run source task TooLong status stops is (inr at) = omega (arith, is, at)
stops-not-run source task (Refused it) status stops is (inl at) =
    let own = refused-within it.why in omega (arith, is, own.0, at)
stops-not-run source task (Refused it) status stops is (inr at) =
    let own = refused-within it.why in omega (arith, is, own.0, at)
stops-not-run source task Write status stops is at = no-write source task stops
stops-not-run source task Memory status stops is (inl at) = omega (arith, is, at)
stops-not-run source task Memory status stops is (inr at) = omega (arith, is, at)

-- ---- what was told of what a command gave, behind what it wrote on notes
module _ {S K E T : Type 0} (source : Lent S) (out : Lent K) (written : E → Option (List ℕ)) (faults : E → ℕ)
    (first middle last : E) (task : Task) (Made : T → Type 0) (status : ℕ) where
  ends-by : (answer : Answer) (end_ : Result (Unit {0}) Failed) → Meets source task answer →
      OnOk end_ (WritesAll out (lent written faults first middle) answer) →
      OnErr end_ (WritesPart out (lent written faults first middle) answer) →
      OnOk end_ ((status ≡ 0) × Kept (lent written faults middle last)) →
      OnErr end_ ((status ≡ 4) × IsTold (lent written faults middle last) (note_of Write)) →
      Ends source out (lent written faults first last) task status
  ends-by answer (Ok u) meets all part is told =
      let P : E → Type 0 = λ now. WritesAll out (lent written faults first now) answer in
      done is.0 (record { answer = answer; meets = meets; written = subst P (sym is.1) all })
  ends-by answer (Err failed) meets all part is told =
      cut told.0 (record { answer = answer; meets = meets; middle = middle; part = part; told = told.1 })

  pub ends-given : (result : Result (Ran T) Stop) → Gives source out (lent written faults first middle) task Made result →
      IsEnd (lent written faults middle last) result status → Ends source out (lent written faults first last) task status
  ends-given (Ok own) gives end_ =
      ends-by gives.ran.answer own.written gives.ran.meets gives.ran.all gives.ran.part end_.done end_.cut
  ends-given (Err stop) gives end_ =
      let P : E → Type 0 = λ at. Tells written faults at last (note_of stop) in
      ends-stopped source out (lent written faults first last) task stop status gives.stopped end_.stopped.0
      gives.nothing.0 (subst P gives.nothing.1 end_.stopped.1)

  -- where something was run, it was made
  pub when-run : (P : Result (Ran T) Stop → Type 0) → ((own : Ran T) → Made own.made → P (Ok own)) →
      (result : Result (Ran T) Stop) → Gives source out (lent written faults first middle) task Made result →
      IsEnd (lent written faults middle last) result status → HasRunAt status → P result
  when-run P ran (Ok own) gives end_ at = ran own gives.ran.made
  when-run P ran (Err stop) gives end_ at =
      absurd (stops-not-run source task stop status gives.stopped end_.stopped.0 at)

-- ---- what writes on `out` alone, beside notes that stay as they are; and what reads nothing, beside any source
pub alone : {S K E T : Type 0} (source : Lent S) (out : Lent K) (notes : Lent E) (task : Task) (Made : T → Type 0)
    (result : Result (Ran T) Stop) → Kept notes → GivesAlone source out task Made result →
    Gives source out notes task Made result
alone source out notes task Made (Ok own) kept gives = record {
  ran = record {
    answer = writes gives.ran.text;
    meets = gives.ran.meets;
    all = on_ok_weaker own.written (λ all. (all, kept)) gives.ran.all;
    part = on_err_weaker own.written (λ part. (part, kept)) gives.ran.part;
    made = gives.ran.made;
  };
  stopped = tt;
  nothing = tt;
}
alone source out notes task Made (Err stop) kept gives =
    record { ran = tt; stopped = gives.stopped; nothing = (gives.nothing, kept) }

pub beside : {S K T : Type 0} (source : Lent S) (out : Lent K) (answer : Answer) (Made : T → Type 0)
    (result : Result (Ran T) Stop) → Kept source → GivesAlone no_source out (makes answer) Made result →
    GivesAlone source out (makes answer) Made result
beside source out answer Made (Ok own) kept gives = record {
  ran = record {
    text = gives.ran.text;
    meets = (kept, gives.ran.meets.1);
    all = gives.ran.all;
    part = gives.ran.part;
    made = gives.ran.made;
  };
  stopped = tt;
  nothing = tt;
}
beside source out answer Made (Err stop) kept gives =
    record { ran = tt; stopped = (kept, gives.stopped.1); nothing = gives.nothing }

-- ---- a text is written
module _ {S K T : Type 0} (source : Lent S) (out : Lent K) (Made : T → Type 0) (own : Ran T) where
  -- that of a text which was read
  pub text-written : (answer : List ℕ → Answer) (read text : List ℕ) → HasRead source read →
      answer read ≡ writes text → OnOk own.written (Takes out text) → OnErr own.written (TakesPart out text) →
      Made own.made → GivesAlone source out (reads answer) Made (Ok own)
  text-written answer read text has is all part made = record {
    ran = record { text = text; meets = (read, has, is); all = all; part = part; made = made };
    stopped = tt;
    nothing = tt;
  }

  -- that of a script which was read
  pub script-written : (text : Script → List ℕ) (script : Script) → HasScript source script →
      OnOk own.written (Takes out (text script)) → OnErr own.written (TakesPart out (text script)) →
      Made own.made → GivesAlone source out (reads (script_answer (λ script. writes (text script)))) Made (Ok own)
  script-written text script has all part made = record {
    ran = record {
      text = text script;
      meets = meets-script source (λ script. writes (text script)) script has;
      all = all;
      part = part;
      made = made;
    };
    stopped = tt;
    nothing = tt;
  }

-- ---- a conversation, beside notes that stay as they are until it has ended
module _ {S K E T : Type 0} (source : Lent S) (out : Lent K) (notes : Lent E) (talk : Talk) (Made : T → Type 0)
    (status : ℕ) where
  talk-by : (end_ : Result (Unit {0}) Failed) → OnOk end_ (IsTalkDone source out talk) →
      OnErr end_ (IsTalkCut source out talk) → OnOk end_ ((status ≡ 0) × Kept notes) →
      OnErr end_ ((status ≡ 4) × IsTold notes (note_of Write)) → TalkEnds source out notes talk status
  talk-by (Ok u) all part is told = talk_done is.0 all is.1
  talk-by (Err failed) all part is told = talk_cut told.0 part told.1

  talk-stopped : (stop : Stop) → StopsTalk source out talk stop → status ≡ status_at stop →
      IsTold notes (note_of stop) → TalkEnds source out notes talk status
  talk-stopped Read stops is told = talk_unread is stops told
  talk-stopped TooLong stops is told = talk_long is stops told
  talk-stopped (Refused it) stops is told = talk_refused it.why it.note.items is stops told
  talk-stopped Write stops is told = absurd stops
  talk-stopped Memory stops is told = talk_short is stops told

  pub ends-talk : (result : Result (Ran T) Stop) → GivesTalk source out talk Made result → IsEnd notes result status →
      Ends source out notes (talks talk) status
  ends-talk (Ok own) gives end_ =
      talked talk refl (talk-by own.written gives.ran.all gives.ran.part end_.done end_.cut)
  ends-talk (Err stop) gives end_ =
      talked talk refl (talk-stopped stop gives.stopped end_.stopped.0 end_.stopped.1)
