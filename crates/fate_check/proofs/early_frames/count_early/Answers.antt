-- A frame more; and all of them.
use Rattle.std.proofs.Common.{false, sym, ◌∙◌, arith}
use Rattle.law_model.specs.session.Leg.{leg_of}
use Rattle.fate_check.proofs.CheckTextAndEarlyFrameLaws.{early-begun, early-next, early-past, early-few}
use Rattle.fate_check.proofs.early_frames.count_early.Goals as goal

pub loop-frame-init : goal.loop-frame-init
loop-frame-init c =
    early-begun (leg_of c.args.walk.now.script) c.args.walk.now.counts c.args.row c.new-cursor.result
    c.new-cursor.ensures.at c.new-cursor.ensures.first

pub overflow_add-early : goal.overflow_add-early
overflow_add-early c =
    let few = early-few (leg_of c.args.walk.now.script) c.args.walk.now.counts c.args.row c.loop-frame.cursor
    c.loop-frame.early c.loop-frame.invariant in
    omega (arith, few)

pub loop-frame-preserved : goal.loop-frame-preserved
loop-frame-preserved c =
    early-next (leg_of c.args.walk.now.script) c.args.walk.now.counts c.args.row c.loop-frame.cursor c.next.new.self
    c.in-Some.frame c.loop-frame.early c.loop-frame.early false c.in-Some.ensures.some c.next.ensures.at
    (sym c.if-is_early.false ∙ c.is_early.ensures) (omega arith) c.loop-frame.invariant

pub returns : goal.returns
returns c =
    early-past (leg_of c.args.walk.now.script) c.args.walk.now.counts c.args.row c.loop-frame.cursor c.loop-frame.early
    c.loop-frame.invariant c.in_default.ensures.none
