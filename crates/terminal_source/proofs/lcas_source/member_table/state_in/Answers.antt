-- The line is found here, or is looked for behind this place, or has no sequence number.
use Rattle.std.proofs.Common.{sym, ◌∙◌, arith}
use Rattle.terminal_source.proofs.MemberOrderExchangeLaws.{state-found, state-next, state-none}
use Rattle.terminal_source.proofs.lcas_source.member_table.state_in.Goals as goal

pub returns-then-member-line : goal.returns-then-member-line
returns-then-member-line c =
    c.state_by.ensures ∙ sym (state-found c.args.members.now c.args.leaving c.loop-member.member-index c.args.line _
    (omega arith) c.if-member-line.true) ∙ c.loop-member.invariant

pub loop-member-preserved : goal.loop-member-preserved
loop-member-preserved c =
    sym (state-next c.args.members.now c.args.leaving c.loop-member.member-index c.args.line _
    (omega arith) c.if-member-line.false) ∙ c.loop-member.invariant

pub returns : goal.returns
returns c =
    c.state_without.ensures ∙ sym (state-none c.args.members.now c.args.leaving c.loop-member.member-index c.args.line
    (omega arith)) ∙ c.loop-member.invariant
