-- One line more is passed, or it is in ADD and has OK.
use Rattle.std.proofs.Common.{sym, ◌∙◌, arith}
use Rattle.law_model.specs.Common.{kept_in}
use Rattle.terminal_source.proofs.MemberOrderExchangeLaws.{passed-none, passed-more, passed-found, passed-all}
use Rattle.terminal_source.proofs.lcas_source.member_table.first_confirmed.Goals as goal

pub loop-sq-init : goal.loop-sq-init
loop-sq-init c = passed-none (kept_in c.args.statuses.now) c.args.members.now c.args.from

pub loop-sq-preserved : goal.loop-sq-preserved
loop-sq-preserved c =
    passed-more (kept_in c.args.statuses.now) c.args.members.now c.args.from c.loop-sq.sq _ (omega arith) (omega arith)
    (sym c.is_confirmed.ensures ∙ c.if-is_confirmed.false) c.loop-sq.invariant

pub returns-then-is_confirmed-clause-found : goal.returns-then-is_confirmed-clause-found
returns-then-is_confirmed-clause-found c = λ member.
    passed-found (kept_in c.args.statuses.now) c.args.members.now c.args.from c.loop-sq.sq _ member (omega arith)
    (sym c.is_confirmed.ensures ∙ c.if-is_confirmed.true) c.loop-sq.invariant

pub returns-clause-none : goal.returns-clause-none
returns-clause-none c =
    passed-all (kept_in c.args.statuses.now) c.args.members.now c.args.from c.loop-sq.sq
    (omega arith) c.loop-sq.invariant
