-- The greatest so far and that of the lines that are left.
use Rattle.std.proofs.Common.{◌≡◌, drop, max}
use Rattle.law_model.specs.Common.{greatest_slip}
use Rattle.thread_session.proofs.session_parts.opened_lines.greatest_of_slips.Given as goal

abbrev pub invariant-loop-list : goal.invariant-loop-list
invariant-loop-list l = max l.most (greatest_slip (drop l.list-index l.fn.lists)) ≡ greatest_slip l.fn.lists
