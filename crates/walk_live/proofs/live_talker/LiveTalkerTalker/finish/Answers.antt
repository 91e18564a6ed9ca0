-- The text was ended, and then its end answered.
use Rattle.std.proofs.Common.{ap, ◌∙◌}
use Rattle.walk_live.specs.LiveTexts.{FaultNote, reply_by}
use Rattle.walk_live.proofs.LiveTalkerLaws.{answers_by, can_be, last_is, not_missing}
use Rattle.walk_live.proofs.live_talker.LiveTalkerTalker.finish.Goals as goal

pub open-requires : goal.open-requires
open-requires g c =
    let (heard, is) = c.requires in (
      heard.lines,
      can_be g.W.Answerer.HasAnswered g.W.Answerer.Waits c.args.self.now.own c.end.new.reader c.args.self.now.tells
          heard.lines heard.said _ is.answers (c.in-Ok.ensures.waits heard.lines is.read),
    )

pub unreachable-requires : goal.unreachable-requires
unreachable-requires g c =
    let (heard, is) = c.requires in
    not_missing g.W.Answerer.HasAnswered c.open.new.own c.args.self.now.tells heard.lines c.in_default.is
    (c.in-Ok-open.ensures.opens heard.lines
    (can_be g.W.Answerer.HasAnswered g.W.Answerer.Waits c.args.self.now.own c.end.new.reader c.args.self.now.tells
    heard.lines heard.said _ is.answers (c.in-Ok.ensures.waits heard.lines is.read)))

pub returns-in-Ok-say_last-clause-replied : goal.returns-in-Ok-say_last-clause-replied
returns-in-Ok-say_last-clause-replied g c heard is =
    let can = can_be g.W.Answerer.HasAnswered g.W.Answerer.Waits c.args.self.now.own c.end.new.reader
    c.args.self.now.tells heard.lines heard.said _ is.answers (c.in-Ok.ensures.waits heard.lines is.read) in
    let has = answers_by g.W.Answerer.HasAnswered c.open.new.own c.in-Some.own c.args.self.now.tells heard.lines
    c.in-Some.is (c.in-Ok-open.ensures.opens heard.lines can) in
    record {
      text = g.W.Answerer.text.last heard.lines;
      is = last_is g.W.Answerer.HasAnswered g.W.Answerer.text g.W.Answerer.HasRead c.args.self.now.tells
          c.args.self.now.reader c.args.self.now.own heard is
          ∙ ap (λ (found : FaultNote). reply_by found (g.W.Answerer.text.last heard.lines))
          (c.in-Ok.ensures.whole heard.lines is.read);
      holds = c.in-Ok-say_last.ensures.told c.args.self.now.tells heard.lines has;
    }

pub returns-in-Err-say_last-clause-stopped : goal.returns-in-Err-say_last-clause-stopped
returns-in-Err-say_last-clause-stopped g c heard is =
    let can = can_be g.W.Answerer.HasAnswered g.W.Answerer.Waits c.args.self.now.own c.end.new.reader
    c.args.self.now.tells heard.lines heard.said _ is.answers (c.in-Ok.ensures.waits heard.lines is.read) in
    let has = answers_by g.W.Answerer.HasAnswered c.open.new.own c.in-Some.own c.args.self.now.tells heard.lines
    c.in-Some.is (c.in-Ok-open.ensures.opens heard.lines can) in (
      g.W.Answerer.text.last heard.lines,
      last_is g.W.Answerer.HasAnswered g.W.Answerer.text g.W.Answerer.HasRead c.args.self.now.tells
          c.args.self.now.reader c.args.self.now.own heard is
          ∙ ap (λ (found : FaultNote). reply_by found (g.W.Answerer.text.last heard.lines))
          (c.in-Ok.ensures.whole heard.lines is.read),
      c.in-Err-say_last.ensures.part c.args.self.now.tells heard.lines has,
    )
