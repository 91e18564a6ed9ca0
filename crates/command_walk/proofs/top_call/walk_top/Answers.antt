-- The program ends as the command does that the words are.
use Rattle.std.proofs.Common.{◌≡◌, Option, Some, Err, refl, sym, ap, subst, rules, arith}
use Rattle.command_parts.specs.Ends.{Ends, lent}
use Rattle.command_rooms.specs.declared.walk_command.WalkCommand.{WalkCommand}
use Rattle.command_rooms.specs.declared.walk_command.WalkCommand.TheVariants.{Live, LivePair, Pair}
use Rattle.command_rooms.specs.HandedWalk.{walk_of}
use Rattle.command_rooms.specs.CommandOfWords.{command_in}
use Rattle.command_walk.specs.WordsOfCommands.{task_at, task_for, HandsBack}
use Rattle.command_rooms.proofs.CommandNumberLaws.{fits}
use Rattle.command_walk.proofs.WalkCommandAndHeadlineLaws.{not-run, any-command, no-such-command, ends-usage}
use Rattle.command_walk.proofs.WalkCommandAndHeadlineLaws.{ends-wanting, headline-of, ends-for, run-for, some-command}
use Rattle.command_walk.proofs.WalkCommandAndHeadlineLaws.{tells-pair, tells-live, tells-live-pair}
use Rattle.command_walk.proofs.top_call.walk_top.Goals as goal

-- ---- a command was run
pub run-requires : goal.run-requires
run-requires g c = fits c.args.words.now c.in-Ok.command (search rules)

pub returns-in-Ok : goal.returns-in-Ok
returns-in-Ok g c =
    let P : Option WalkCommand → Type 0 = λ o.
    Ends (lent g.S.ByteSource.left g.S.ByteSource.faults c.args.script.now c.run.new.script)
    (lent g.K.ByteSink.written g.K.ByteSink.faults c.args.out.now c.run.new.out)
    (lent g.E.ByteSink.written g.E.ByteSink.faults c.args.notes.now c.end_of.new.notes)
    (task_for o) c.end_of.result.status in
    let known : command_in c.args.words.now ≡ Some c.in-Ok.command = search rules in
    let own : P (Some c.in-Ok.command) = ends-for _ _ _ _ c.args.notes.now c.run.new.notes c.end_of.new.notes _ _
    (task_at c.in-Ok.command) c.run.result c.run.ensures c.end_of.ensures.end in
    record {
      ends = subst P (sym known) own;
      headline = some-command _ (command_in c.args.words.now) c.in-Ok.command known
          (λ runs. headline-of _ _ _ _ c.in-Ok.command runs own);
      ways = λ is. tells-pair _ _ _ _ (subst P (let same : Some c.in-Ok.command ≡ Some Pair = cc in same) own);
      live = λ asked is.
          tells-live _ _ _ asked _ (subst P (let same : Some c.in-Ok.command ≡ Some (Live asked) = cc in same) own);
      live_pair = λ asked is.
          tells-live-pair _ _ _ asked _
          (subst P (let same : Some c.in-Ok.command ≡ Some (LivePair asked) = cc in same) own);
      handed = some-command _ (command_in c.args.words.now) c.in-Ok.command known
          (λ at. rw c.end_of.ensures.walk (run-for _ _ _ _ c.args.notes.now c.run.new.notes c.end_of.new.notes _ _
          (task_at c.in-Ok.command)
          (λ ran. HandsBack (lent g.S.ByteSource.left g.S.ByteSource.faults c.args.script.now c.run.new.script)
          (walk_of ran) c.in-Ok.command) (λ own made. made) c.run.result c.run.ensures c.end_of.ensures.end at));
      kept = search rules;
    }

-- ---- the words are no command
pub returns-in-Err-Usage-clause-ends : goal.returns-in-Err-Usage-clause-ends
returns-in-Err-Usage-clause-ends g c =
    ends-usage (lent g.S.ByteSource.left g.S.ByteSource.faults c.args.script.now c.args.script.now)
    (lent g.K.ByteSink.written g.K.ByteSink.faults c.args.out.now c.args.out.now)
    (lent g.E.ByteSink.written g.E.ByteSink.faults c.args.notes.now c.no_command.new.notes) c.args.words.now
    c.no_command.result.status (c.in-Err-Usage.ensures.usage.0 (ap Err c.in-Err-Usage.field-0-is))
    c.no_command.ensures.status refl refl c.no_command.ensures.told

pub returns-in-Err-Usage-clause-headline : goal.returns-in-Err-Usage-clause-headline
returns-in-Err-Usage-clause-headline g c =
    no-such-command _ (command_in c.args.words.now) (c.in-Err-Usage.ensures.usage.0 (ap Err c.in-Err-Usage.field-0-is))

pub returns-in-Err-Usage-clause-handed : goal.returns-in-Err-Usage-clause-handed
returns-in-Err-Usage-clause-handed g c =
    no-such-command _ (command_in c.args.words.now) (c.in-Err-Usage.ensures.usage.0 (ap Err c.in-Err-Usage.field-0-is))

-- ---- memory was short of the words
pub returns-in-Err-Memory-clause-ends : goal.returns-in-Err-Memory-clause-ends
returns-in-Err-Memory-clause-ends g c =
    ends-wanting (lent g.S.ByteSource.left g.S.ByteSource.faults c.args.script.now c.args.script.now)
    (lent g.K.ByteSink.written g.K.ByteSink.faults c.args.out.now c.args.out.now)
    (lent g.E.ByteSink.written g.E.ByteSink.faults c.args.notes.now c.end_of-in-Err-Memory.new.notes) c.args.words.now
    c.end_of-in-Err-Memory.result.status (λ none. absurd (let bad = c.in-Err-Memory.ensures.usage.1 none in cc))
    c.end_of-in-Err-Memory.ensures.end.stopped.0 refl refl c.end_of-in-Err-Memory.ensures.end.stopped.1

pub returns-in-Err-Memory-clause-headline : goal.returns-in-Err-Memory-clause-headline
returns-in-Err-Memory-clause-headline g c =
    any-command _ (command_in c.args.words.now)
    (λ command runs at. absurd (omega (arith, at, c.end_of-in-Err-Memory.ensures.end.stopped.0)))

pub returns-in-Err-Memory-clause-handed : goal.returns-in-Err-Memory-clause-handed
returns-in-Err-Memory-clause-handed g c =
    any-command _ (command_in c.args.words.now)
    (λ command ran. absurd (not-run c.end_of-in-Err-Memory.result.status ran
    c.end_of-in-Err-Memory.ensures.end.stopped.0))
