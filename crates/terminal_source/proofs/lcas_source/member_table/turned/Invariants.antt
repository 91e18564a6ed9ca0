-- The front is turned, and the rule for the members that are left gives the rest.
use Rattle.law_model.specs.Common.{turned, kept_in}
use Rattle.terminal_source.proofs.MemberOrderExchangeLaws.{IsRewriting}
use Rattle.terminal_source.proofs.lcas_source.member_table.turned.Given as goal

abbrev pub invariant-loop-sq : goal.invariant-loop-sq
invariant-loop-sq l = IsRewriting (turned (kept_in l.statuses)) l.sq l.members
    (turned (kept_in l.statuses) 0 l.fn.members)
