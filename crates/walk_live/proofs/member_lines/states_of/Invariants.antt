-- The lines so far have their states.
use Rattle.std.proofs.Common.{◌≡◌, ℕ, ◌<◌, length, slice_index_or}
use Rattle.law_model.specs.Common.{state_of}
use Rattle.law_model.specs.declared.lcas_states.SourceState.TheVariants.{Idle}
use Rattle.walk_live.proofs.member_lines.states_of.Given as goal

abbrev pub invariant-loop-line : goal.invariant-loop-line
invariant-loop-line l = record {
  size : length l.states ≡ 128;
  are : (m : ℕ) → m < l.line → slice_index_or l.states m Idle ≡ state_of l.table.source.table m;
}
