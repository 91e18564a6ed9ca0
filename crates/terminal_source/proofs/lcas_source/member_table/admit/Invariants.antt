-- The front is rewritten, and the rule for the members that are left gives the rest.
use Rattle.law_model.specs.Common.{admit, kept_in}
use Rattle.terminal_source.proofs.MemberOrderExchangeLaws.{IsRewriting}
use Rattle.terminal_source.proofs.lcas_source.member_table.admit.Given as goal

abbrev pub invariant-loop-sq : goal.invariant-loop-sq
invariant-loop-sq l = IsRewriting (admit (kept_in l.statuses)) l.sq l.members
    (admit (kept_in l.statuses) 0 l.fn.members)
