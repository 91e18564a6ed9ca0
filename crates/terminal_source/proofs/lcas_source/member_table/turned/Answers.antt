-- One standing more is turned, and at the end all are.
use Rattle.std.proofs.Common.{◌<◌, length, arith}
use Rattle.law_model.specs.Common.{turned, kept_in}
use Rattle.terminal_source.proofs.MemberOrderExchangeLaws.{front-written, front-ends}
use Rattle.terminal_source.proofs.MemberOrderExchangeLaws.{turned-first, turned-none}
use Rattle.terminal_source.proofs.lcas_source.member_table.turned.Goals as goal

pub loop-sq-preserved : goal.loop-sq-preserved
loop-sq-preserved c =
    let kept = kept_in c.args.statuses.now in
    let inside : c.loop-sq.sq < length c.loop-sq.members = omega arith in
    rw c.turn-member.ensures (front-written (turned kept) c.loop-sq.sq c.loop-sq.members _ _ _ inside
    (turned-first kept c.loop-sq.sq _ _) c.loop-sq.invariant)

pub returns : goal.returns
returns c =
    let kept = kept_in c.args.statuses.now in
    front-ends (turned kept) c.loop-sq.sq c.loop-sq.members _ (omega arith)
    (turned-none kept c.loop-sq.sq) c.loop-sq.invariant
