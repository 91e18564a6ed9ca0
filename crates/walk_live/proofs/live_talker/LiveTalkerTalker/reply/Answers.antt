-- The line was read, and then answered.
use Rattle.std.proofs.Common.{◌++◌, ◌∷◌, []}
use Rattle.walk_live.proofs.LiveTalkerLaws.{answers_by, can_be, not_missing, reply_fine, some_is, talks_on}
use Rattle.walk_live.proofs.live_talker.LiveTalkerTalker.reply.Goals as goal

pub open-requires : goal.open-requires
open-requires g c =
    let heard = c.requires.heard in
    let is = c.requires.hears in (
      heard.lines,
      can_be g.W.Answerer.HasAnswered g.W.Answerer.Waits c.args.self.now.own c.read.new.reader c.args.self.now.tells
          heard.lines heard.said _ is.answers (some_is _ c.in-Ok-Some.field-0 c.in-Ok-Some.says c.in-Ok-Some.field-0-is (c.in-Ok-Some.ensures.live heard.lines is.read)).waits,
    )

pub unreachable-requires : goal.unreachable-requires
unreachable-requires g c =
    let heard = c.requires.heard in
    let is = c.requires.hears in
    not_missing g.W.Answerer.HasAnswered c.open.new.own c.args.self.now.tells heard.lines c.in_default.is
    (c.in-Ok.ensures.opens heard.lines
    (can_be g.W.Answerer.HasAnswered g.W.Answerer.Waits c.args.self.now.own c.read.new.reader c.args.self.now.tells
    heard.lines heard.said _ is.answers (some_is _ c.in-Ok-Some.field-0 c.in-Ok-Some.says c.in-Ok-Some.field-0-is (c.in-Ok-Some.ensures.live heard.lines is.read)).waits))

pub say-requires : goal.say-requires
say-requires g c =
    let heard = c.requires.heard in
    let is = c.requires.hears in
    let live = some_is _ c.in-Ok-Some.field-0 c.in-Ok-Some.says c.in-Ok-Some.field-0-is
    (c.in-Ok-Some.ensures.live heard.lines is.read) in
    let can = can_be g.W.Answerer.HasAnswered g.W.Answerer.Waits c.args.self.now.own c.read.new.reader
    c.args.self.now.tells heard.lines heard.said _ is.answers live.waits in (
      c.args.self.now.tells,
      heard.lines,
      c.args.line.now,
      answers_by g.W.Answerer.HasAnswered c.open.new.own c.in-Some.own c.args.self.now.tells heard.lines c.in-Some.is
          (c.in-Ok.ensures.opens heard.lines can),
      c.open.ensures.says c.in-Ok-Some.says heard.lines c.args.line.now live.says_so,
    )

pub returns-in-Ok-say-clause-hears : goal.returns-in-Ok-say-clause-hears
returns-in-Ok-say-clause-hears g c heard given is said =
    let live = some_is _ c.in-Ok-Some.field-0 c.in-Ok-Some.says c.in-Ok-Some.field-0-is
    (c.in-Ok-Some.ensures.live heard.lines is.read) in
    let can = can_be g.W.Answerer.HasAnswered g.W.Answerer.Waits c.args.self.now.own c.read.new.reader
    c.args.self.now.tells heard.lines heard.said _ is.answers live.waits in
    let has = answers_by g.W.Answerer.HasAnswered c.open.new.own c.in-Some.own c.args.self.now.tells heard.lines
    c.in-Some.is (c.in-Ok.ensures.opens heard.lines can) in
    talks_on g.W.Answerer.HasAnswered g.W.Answerer.text g.W.Answerer.HasRead c.args.self.now.tells
    c.args.self.now.reader c.open.new.reader c.args.self.now.own c.say.new.self heard c.args.line.now given is
    (c.open.ensures.reads (heard.lines ++ c.args.line.now ∷ []) (c.in-Ok-Some.ensures.reads heard.lines is.read))
    live.begun
    (c.in-Ok-say.ensures.answers c.args.self.now.tells heard.lines c.args.line.now has
    (c.open.ensures.says c.in-Ok-Some.says heard.lines c.args.line.now live.says_so)).is

pub returns-in-Ok-say-clause-replied : goal.returns-in-Ok-say-clause-replied
returns-in-Ok-say-clause-replied g c heard is =
    let live = some_is _ c.in-Ok-Some.field-0 c.in-Ok-Some.says c.in-Ok-Some.field-0-is
    (c.in-Ok-Some.ensures.live heard.lines is.read) in
    let can = can_be g.W.Answerer.HasAnswered g.W.Answerer.Waits c.args.self.now.own c.read.new.reader
    c.args.self.now.tells heard.lines heard.said _ is.answers live.waits in
    let has = answers_by g.W.Answerer.HasAnswered c.open.new.own c.in-Some.own c.args.self.now.tells heard.lines
    c.in-Some.is (c.in-Ok.ensures.opens heard.lines can) in
    record {
      text = g.W.Answerer.text.answer c.args.self.now.tells heard.lines c.args.line.now;
      is = reply_fine g.W.Answerer.HasAnswered g.W.Answerer.text g.W.Answerer.HasRead c.args.self.now.tells
          c.args.self.now.reader c.args.self.now.own heard c.args.line.now is
          (c.in-Ok-Some.ensures.fine heard.lines is.read);
      holds = (c.in-Ok-say.ensures.answers c.args.self.now.tells heard.lines c.args.line.now has
          (c.open.ensures.says c.in-Ok-Some.says heard.lines c.args.line.now live.says_so)).holds;
    }

pub returns-in-Err-say-clause-stopped : goal.returns-in-Err-say-clause-stopped
returns-in-Err-say-clause-stopped g c heard is =
    let live = some_is _ c.in-Ok-Some.field-0 c.in-Ok-Some.says c.in-Ok-Some.field-0-is
    (c.in-Ok-Some.ensures.live heard.lines is.read) in
    let can = can_be g.W.Answerer.HasAnswered g.W.Answerer.Waits c.args.self.now.own c.read.new.reader
    c.args.self.now.tells heard.lines heard.said _ is.answers live.waits in
    let has = answers_by g.W.Answerer.HasAnswered c.open.new.own c.in-Some.own c.args.self.now.tells heard.lines
    c.in-Some.is (c.in-Ok.ensures.opens heard.lines can) in (
      g.W.Answerer.text.answer c.args.self.now.tells heard.lines c.args.line.now,
      reply_fine g.W.Answerer.HasAnswered g.W.Answerer.text g.W.Answerer.HasRead c.args.self.now.tells
          c.args.self.now.reader c.args.self.now.own heard c.args.line.now is
          (c.in-Ok-Some.ensures.fine heard.lines is.read),
      c.in-Err-say.ensures.part c.args.self.now.tells heard.lines c.args.line.now has
          (c.open.ensures.says c.in-Ok-Some.says heard.lines c.args.line.now live.says_so),
    )
