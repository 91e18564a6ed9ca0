-- The members so far are added.
use Rattle.std.proofs.Common.{◌≤◌, ◌+◌, ◌*◌, slice_index_or}
use Rattle.law_model.specs.Common.{state_of}
use Rattle.law_model.specs.declared.lcas_states.SourceState.TheVariants.{Idle}
use Rattle.law_live.specs.Common.{member_code, told_among}
use Rattle.text_report.specs.TextCursor.{Extends}
use Rattle.walk_live.specs.MemberWriting.{worded_members}
use Rattle.walk_live.proofs.member_lines.add_members.Given as goal

abbrev pub invariant-loop-line : goal.invariant-loop-line
invariant-loop-line l = record {
  text : Extends l.fn.text l.text (worded_members l.words (told_among l.ticks
      (λ m. member_code (slice_index_or l.was m Idle)) (λ m. member_code (state_of l.table.source.table m)) l.line));
  end : l.text.at ≤ l.fn.text.at + 40 * l.line;
}
