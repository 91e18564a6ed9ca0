-- What is known of a command by its words, under which headline it answers, and how its task ends.
use Rattle.std.proofs.Common.{◌≡◌, ◌≤◌, ℕ, List, length, Option, Some, None, IfSome, Result, Ok, Err, refl, sym}
use Rattle.std.proofs.Common.{subst, inl, inr, arith}
use Rattle.law_model.specs.declared.script_types.Script.{Script}
use Rattle.text_scripts.specs.declared.script_read.script_fault.ScriptFault.{ScriptFault}
use Rattle.text_scripts.specs.script_read.Script.{script_of}
use Rattle.law_headline.specs.WalkTexts.{walk_text}
use Rattle.law_headline.specs.Headline.{IsWalkHeadline}
use Rattle.law_headline.proofs.ScriptTextHeadlineLaws.{walk_headline}
use Rattle.command_parts.specs.Common.{Answer, reads, talks, Lent, Takes, WritesAll, Ends, answer_of}
use Rattle.command_parts.specs.Common.{script_answer, none, IsCommand, Kept, IsTold as IsTaskTold, no_command}
use Rattle.command_parts.specs.Common.{note_of, HasRunAt, Task, lent, makes, status_at}
use Rattle.command_parts.proofs.TaskEndAndStatusLaws.{as-talk, is-done, known-text, ends-given, ends-talk, when-run}
use Rattle.command_parts.proofs.TalkOverSourceAndEndLaws.{all-said, refused-within}
use Rattle.text_pairs.specs.declared.script_pair.PairFault.{PairFault}
use Rattle.text_pairs.specs.declared.script_pair.ScriptPair.{ScriptPair}
use Rattle.text_pairs.specs.PairOfText.{pair_of}
use Rattle.text_pairs.specs.Inputs.{pair_answer_of}
use Rattle.text_pairs.specs.ReportsOfWays.{way_text, pair_text, pair_reply}
use Rattle.pair_walk.proofs.PairReportRowsLaws.{pair_headline}
use Rattle.walk_live.specs.Headline.{IsLiveHeadline}
use Rattle.walk_live.proofs.ConversationAnswerLaws.{live_headline}
use Rattle.pair_live.specs.PairHeadline.{IsLivePairHeadline}
use Rattle.pair_live.proofs.PairConversationLaws.{pair_headline as live_pair_headline}
use Rattle.command_rooms.specs.commands.Live.{live_talk}
use Rattle.command_walk.specs.commands.LivePair.{live_pair_talk}
use Rattle.walk_live.specs.declared.asked.Asked.{Asked}
use Rattle.command_walk.specs.commands.Pair.{TellsPair}
use Rattle.command_rooms.specs.declared.walk_command.WalkCommand.{WalkCommand}
use Rattle.std.specs.Prelude.{String, IsNone}
use Rattle.std.specs.declared.alloc.Global.{Global}
use Rattle.command_parts.specs.Task.{writes, writes_both}
use Rattle.command_parts.specs.declared.stop_and_status.Stop.TheVariants.{Memory, Read, Refused, TooLong, Write}
use Rattle.command_parts.proofs.SourceTextAndStopLaws.{ends-no-memory}
use Rattle.command_rooms.specs.declared.walk_command.WalkCommand.TheVariants.{Walk, Trace}
use Rattle.command_rooms.specs.commands.Trace.{trace_text}
use Rattle.command_rooms.specs.CommandOfWords.{command_in}
use Rattle.command_walk.specs.WordsOfCommands.{task_for, task_of, usage, task_at}
use Rattle.command_walk.specs.WordsOfCommands.{RunsScript}
use Rattle.command_parts.specs.Gives.{IsEnd, StopsTalk}
use Rattle.command_parts.specs.Talk.{Talk}
use Rattle.command_parts.specs.declared.stop_and_status.Ran.{Ran}
use Rattle.command_parts.specs.declared.stop_and_status.Stop.{Stop}
use Rattle.command_walk.specs.GivesByTask.{GivesFor}

-- ---- The headline of what the rooms of the commands write.
module _ {S K E : Type 0} (source : Lent S) (out : Lent K) (notes : Lent E) (answer : Script → Answer) (status : ℕ)
    (tells : (script : Script) → WritesAll out notes (answer script) → Takes out (walk_text script)) where
  abbrev IsTold : List ℕ → Type 0
  IsTold text = (written : List ℕ) × Takes out written × IsWalkHeadline text written

  told-by : (text : List ℕ) (of : Result Script ScriptFault) → script_of text ≡ of → length text ≤ 67108864
      → WritesAll out notes (answer_of answer of) → IsTold text
  told-by text (Ok script) is few all = (walk_text script, tells script all, walk_headline text script few is)
  told-by text (Err fault) is few all = absurd all

  pub tells-headline : Ends source out notes (reads (script_answer answer)) status → status ≡ 0 →
      IfSome (source.octets source.old) IsTold
  tells-headline ends at =
      let it = is-done source out notes (reads (script_answer answer)) status ends (λ never. never) at in
      let text = it.meets.0 in
      known-text source IsTold text it.meets.1
      (told-by text (script_of text) refl it.meets.1.fits (subst (WritesAll out notes) (sym it.meets.2) it.written))

-- ---- the headline of a pair
module _ {S K E : Type 0} (source : Lent S) (out : Lent K) (notes : Lent E) (status : ℕ) where
  pair-told : (text : List ℕ) (of : Result ScriptPair PairFault) → pair_of text ≡ of → length text ≤ 67108864 →
      WritesAll out notes (pair_answer_of pair_text of) → TellsPair out notes text
  pair-told text (Ok pair) is few all = record {
    there = way_text pair.there pair.back;
    back = way_text pair.back pair.there;
    on_out = all.0;
    on_notes = all.1;
    is = pair_headline text pair few is;
  }
  pair-told text (Err fault) is few all = absurd all

  pub tells-pair : Ends source out notes (reads pair_reply) status → status ≡ 0 →
      IfSome (source.octets source.old) (TellsPair out notes)
  tells-pair ends at =
      let it = is-done source out notes (reads pair_reply) status ends (λ never. never) at in
      let text = it.meets.0 in
      known-text source (TellsPair out notes) text it.meets.1
      (pair-told text (pair_of text) refl it.meets.1.fits (subst (WritesAll out notes) (sym it.meets.2) it.written))

-- ---- the headline of a conversation
module _ {S K E : Type 0} (source : Lent S) (out : Lent K) (notes : Lent E) (asked : Asked) (status : ℕ) where
  abbrev IsLiveTold : List ℕ → Type 0
  IsLiveTold text = (written : List ℕ) × Takes out written × IsLiveHeadline asked text written

  live-told : (o : Option (List ℕ)) → IfSome o (λ text. (((live_talk asked).in_all text).end ≡ None)
      × Takes out ((live_talk asked).in_all text).text) → IfSome o IsLiveTold
  live-told None all = tt
  live-told (Some text) all = (((live_talk asked).in_all text).text, all.1, live_headline asked text all.0)

  pub tells-live : Ends source out notes (talks (live_talk asked)) status → status ≡ 0 →
      IfSome (source.octets source.old) IsLiveTold
  tells-live ends at =
      live-told (source.octets source.old)
      (all-said source out notes (live_talk asked) status (as-talk source out notes (live_talk asked) status ends) at)

-- ---- the headline of a conversation of both ways
module _ {S K E : Type 0} (source : Lent S) (out : Lent K) (notes : Lent E) (asked : Asked) (status : ℕ) where
  abbrev IsLivePairTold : List ℕ → Type 0
  IsLivePairTold text = (written : List ℕ) × Takes out written × IsLivePairHeadline asked text written

  live-pair-told : (o : Option (List ℕ)) → IfSome o (λ text. (((live_pair_talk asked).in_all text).end ≡ None)
      × Takes out ((live_pair_talk asked).in_all text).text) → IfSome o IsLivePairTold
  live-pair-told None all = tt
  live-pair-told (Some text) all =
      (((live_pair_talk asked).in_all text).text, all.1, live_pair_headline asked text all.0)

  pub tells-live-pair : Ends source out notes (talks (live_pair_talk asked)) status → status ≡ 0 →
      IfSome (source.octets source.old) IsLivePairTold
  tells-live-pair ends at =
      let talk = live_pair_talk asked in
      live-pair-told (source.octets source.old)
      (all-said source out notes talk status (as-talk source out notes talk status ends) at)

-- ---- words
pub some-command : (P : WalkCommand → Type 0) (o : Option WalkCommand) (command : WalkCommand) → o ≡ Some command →
    P command → IfSome o P
some-command P o command is holds = let Q : Option WalkCommand → Type 0 = λ o. IfSome o P in subst Q (sym is) holds

-- ---- What is known of a command by the words that it was, and of its task.
-- ---- what stands of any command
pub any-command : (P : WalkCommand → Type 0) (o : Option WalkCommand) → ((command : WalkCommand) → P command) →
    IfSome o P
any-command P None all = tt
any-command P (Some command) all = all command

pub no-such-command : (P : WalkCommand → Type 0) (o : Option WalkCommand) → IsNone o → IfSome o P
no-such-command P None is = tt
no-such-command P (Some command) is = absurd cc

none-task : (o : Option WalkCommand) → IsNone o → task_for o ≡ none usage
none-task None is = refl
none-task (Some command) is = absurd cc

is-command : (o : Option WalkCommand) → (IsNone o → ⊥) → IsCommand (task_for o)
is-command None some = some refl
is-command (Some Walk) some = tt
is-command (Some other) some = tt

pub not-run : (status : ℕ) → HasRunAt status → status ≡ 7 → ⊥
not-run status (inl at) is = omega (arith, at, is)
not-run status (inr at) is = omega (arith, at, is)

-- ---- the ends
module _ {S K E : Type 0} (source : Lent S) (out : Lent K) (notes : Lent E) (words : List (String Global))
    (status : ℕ) where
  pub ends-usage : IsNone (command_in words) → status ≡ 2 → Kept source → Kept out → IsTaskTold notes usage →
      Ends source out notes (task_of words) status
  ends-usage is at kept nothing told =
      no_command at (record {
        usage = usage;
        none = none-task (command_in words) is;
        unread = kept;
        nothing = nothing;
        told = told;
      })

  pub ends-wanting : (IsNone (command_in words) → ⊥) → status ≡ 7 → Kept source → Kept out →
      IsTaskTold notes (note_of Memory) → Ends source out notes (task_of words) status
  ends-wanting some at kept nothing told =
      ends-no-memory source out notes (task_of words) status (is-command (command_in words) some) at kept nothing told

-- ---- the headline of what they write
module _ {S K E : Type 0} (source : Lent S) (out : Lent K) (notes : Lent E) (status : ℕ) where
  -- of a command that runs a script and writes its report
  pub headline-of : (command : WalkCommand) → RunsScript command → Ends source out notes (task_at command) status →
      status ≡ 0 → IfSome (source.octets source.old) (λ text. (written : List ℕ) × Takes out written ×
      IsWalkHeadline text written)
  headline-of Walk runs ends at =
      tells-headline source out notes (λ script. writes (walk_text script)) status (λ script all. all.0) ends at
  headline-of Trace runs ends at =
      tells-headline source out notes (λ script. writes_both (walk_text script) (trace_text script)) status
      (λ script all. all.0) ends at
  headline-of other runs ends at = absurd runs

-- ---- How the program ends with what a command gives, by its task.
-- a conversation that stopped has run nothing that is handed back
module _ {S K : Type 0} (source : Lent S) (out : Lent K) (talk : Talk) (status : ℕ) where
  talk-not-run : (stop : Stop) → StopsTalk source out talk stop → status ≡ status_at stop → HasRunAt status → ⊥
  talk-not-run Read stops is (inl at) = omega (arith, is, at)
  talk-not-run Read stops is (inr at) = omega (arith, is, at)
  talk-not-run TooLong stops is (inl at) = omega (arith, is, at)
  talk-not-run TooLong stops is (inr at) = omega (arith, is, at)
  talk-not-run (Refused it) stops is (inl at) = let own = refused-within it.why in omega (arith, is, own.0, at)
  talk-not-run (Refused it) stops is (inr at) = let own = refused-within it.why in omega (arith, is, own.0, at)
  talk-not-run Write stops is at = stops
  talk-not-run Memory stops is (inl at) = omega (arith, is, at)
  talk-not-run Memory stops is (inr at) = omega (arith, is, at)

module _ {S K E T : Type 0} (source : Lent S) (out : Lent K) (written : E → Option (List ℕ)) (faults : E → ℕ)
    (first middle last : E) (Made : T → Type 0) (status : ℕ) where
  pub ends-for : (task : Task) (result : Result (Ran T) Stop) →
      GivesFor source out (lent written faults first middle) task Made result →
      IsEnd (lent written faults middle last) result status → Ends source out (lent written faults first last) task status
  ends-for (none usage) result gives end_ =
      ends-given source out written faults first middle last (none usage) Made status result gives end_
  ends-for (reads answer) result gives end_ =
      ends-given source out written faults first middle last (reads answer) Made status result gives end_
  ends-for (makes answer) result gives end_ =
      ends-given source out written faults first middle last (makes answer) Made status result gives end_
  ends-for (talks talk) result gives end_ =
      let P : E → Type 0 = λ at. IsEnd (lent written faults at last) result status in
      ends-talk source out (lent written faults first last) talk Made status result gives.0 (subst P gives.1 end_)

  -- where something was run, it was made
  talk-run : (talk : Talk) (P : Result (Ran T) Stop → Type 0) → ((own : Ran T) → Made own.made → P (Ok own)) →
      (result : Result (Ran T) Stop) → GivesFor source out (lent written faults first middle) (talks talk) Made result →
      IsEnd (lent written faults middle last) result status → HasRunAt status → P result
  talk-run talk P ran (Ok own) gives end_ at = ran own gives.0.ran.made
  talk-run talk P ran (Err stop) gives end_ at =
      absurd (talk-not-run source out talk status stop gives.0.stopped end_.stopped.0 at)

  pub run-for : (task : Task) (P : Result (Ran T) Stop → Type 0) → ((own : Ran T) → Made own.made → P (Ok own)) →
      (result : Result (Ran T) Stop) → GivesFor source out (lent written faults first middle) task Made result →
      IsEnd (lent written faults middle last) result status → HasRunAt status → P result
  run-for (none usage) P ran result gives end_ at =
      when-run source out written faults first middle last (none usage) Made status P ran result gives end_ at
  run-for (reads answer) P ran result gives end_ at =
      when-run source out written faults first middle last (reads answer) Made status P ran result gives end_ at
  run-for (makes answer) P ran result gives end_ at =
      when-run source out written faults first middle last (makes answer) Made status P ran result gives end_ at
  run-for (talks talk) P ran result gives end_ at = talk-run talk P ran result gives end_ at
