-- The lines so far are passed, and what is taken out stands behind them.
use Rattle.law_model.specs.Common.{kept_in}
use Rattle.terminal_source.proofs.MemberOrderExchangeLaws.{IsPassed}
use Rattle.terminal_source.proofs.lcas_source.member_table.first_confirmed.Given as goal

abbrev pub invariant-loop-sq : goal.invariant-loop-sq
invariant-loop-sq l = IsPassed (kept_in l.statuses) l.members l.from l.sq
