-- The line is none of those so far, so that the members that are left tell its state.
use Rattle.std.proofs.Common.{◌≡◌, drop}
use Rattle.law_model.specs.Common.{state_in}
use Rattle.terminal_source.proofs.lcas_source.member_table.state_in.Given as goal

abbrev pub invariant-loop-member : goal.invariant-loop-member
invariant-loop-member l = state_in (drop l.member-index l.members) l.leaving l.line
    ≡ state_in l.members l.leaving l.line
