-- The lines so far are whole, so that those that are left decide.
use Rattle.std.proofs.Common.{◌≡◌, List, drop, is_some}
use Rattle.law_model.specs.Common.{Cell, containers_at}
use Rattle.member_rows.specs.realign_rows.Gather.{GatherStands}
use Rattle.terminal_sink.proofs.sink_core.whole_rows.are_whole.Given as goal

abbrev pub invariant-loop-line : goal.invariant-loop-line
invariant-loop-line l = (cells : List (List Cell)) → GatherStands l.rows cells →
    is_some (containers_at cells l.rows.rows (drop l.line-index l.active)) ≡ is_some
    (containers_at cells l.rows.rows l.active)
