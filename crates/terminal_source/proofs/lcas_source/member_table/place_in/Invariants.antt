-- The line is none of those so far, so that its place is among the members that are left.
use Rattle.std.proofs.Common.{◌≡◌, drop}
use Rattle.law_model.specs.Common.{place_in}
use Rattle.terminal_source.proofs.lcas_source.member_table.place_in.Given as goal

abbrev pub invariant-loop-sq : goal.invariant-loop-sq
invariant-loop-sq l = place_in (drop l.sq l.members) l.sq l.line ≡ place_in l.members 0 l.line
