-- A member more is added.
use Rattle.std.proofs.Common.{ℕ, List, arith, slice_index_or, subst}
use Rattle.law_model.specs.Common.{state_of}
use Rattle.law_model.specs.declared.lcas_states.SourceState.TheVariants.{Idle}
use Rattle.law_live.specs.Common.{member_code, told_of}
use Rattle.text_report.specs.TextCursor.{Extends}
use Rattle.walk_live.specs.MemberWriting.{worded_members}
use Rattle.walk_live.proofs.ToldStepLaws.{members-next}
use Rattle.walk_live.proofs.member_lines.add_members.Goals as goal

pub loop-line-preserved : goal.loop-line-preserved
loop-line-preserved c =
    let Added : List ℕ → List ℕ → Type 0 = λ was now. Extends c.loop-line.text c.add_member.new.text
    (worded_members c.args.words.now (told_of c.args.ticks c.loop-line.line was now)) in record {
      text = members-next c.args.words.now c.args.text.now c.loop-line.text c.add_member.new.text c.args.ticks
          (λ m. member_code (slice_index_or c.args.was.now m Idle))
          (λ m. member_code (state_of c.args.table.now.source.table m)) c.loop-line.line c.loop-line.invariant.text
          (subst (λ state. Added (member_code (slice_index_or c.args.was.now c.loop-line.line Idle)) (member_code state))
          c.state.ensures
          (subst (λ at. Added (member_code (slice_index_or c.args.was.now at Idle)) (member_code c.state.result))
          c.from.ensures c.add_member.ensures.text));
      end = omega (arith, c.loop-line.invariant.end, c.add_member.ensures.end);
    }
