-- Carries, and then a row of each way.
use Rattle.std.proofs.Common.{ℕ, List, ◌++◌, ◌∙◌, subst, sym}
use Rattle.std.proofs.lemmas.Result.{on_err_weaker, on_ok_weaker}
use Rattle.law_model.specs.Common.{AppendsPart}
use Rattle.law_pair.specs.Common.{pair_plan}
use Rattle.law_pair.specs.declared.pair_events.Way.TheVariants.{There, Back}
use Rattle.text_got.specs.TextSoFar.{Holds}
use Rattle.walk_live.proofs.TimedLineWritingLaws.{holds-more, on-ok, part-longer, part-more}
use Rattle.pair_engine.specs.LivePairs.{walking_counts}
use Rattle.pair_live.specs.PairPassing.{finish_both, frames_text_on}
use Rattle.pair_live.proofs.WayLineLaws.{back-text, both-carried, finish-counts, rows-after, there-text}
use Rattle.pair_live.proofs.answered_pair.AnsweredPair.finish_round.Goals as goal

pub carry_all-requires-2 : goal.carry_all-requires-2
carry_all-requires-2 g c =
    let (one, other, lives) = c.requires in (one, other, (c.carry_all.ensures.carries one other lives).lives)

pub take-requires : goal.take-requires
take-requires g c =
    let (one, other, lives) = c.requires in (
      one,
      other,
      (c.carry_all-2.ensures.carries one other (c.carry_all.ensures.carries one other lives).lives).lives,
    )

pub take-requires-in-Ok : goal.take-requires-in-Ok
take-requires-in-Ok g c =
    let (one, other, lives) = c.requires in
    let carried = (c.carry_all-2.ensures.carries one other (c.carry_all.ensures.carries one other lives).lives).lives in
    (one, other, (c.take.ensures.takes one other carried).lives)

pub returns-in-Ok-clause-windows : goal.returns-in-Ok-clause-windows
returns-in-Ok-clause-windows g c way =
    c.take-in-Ok.ensures.windows way ∙ c.take.ensures.windows way ∙ c.carry_all-2.ensures.windows way
    ∙ c.carry_all.ensures.windows way

pub returns-in-Ok-clause-finishes : goal.returns-in-Ok-clause-finishes
returns-in-Ok-clause-finishes g c one other lives =
    let first = c.carry_all.ensures.carries one other lives in
    let carried = both-carried one other c.args.self.now.pair c.carry_all-2.new.self c.carry_all.new.self first
    (c.carry_all-2.ensures.carries one other first.lives) in
    let second = c.take.ensures.takes one other carried.lives in
    let third = c.take-in-Ok.ensures.takes one other second.lives in
    on-ok c.take-in-Ok.result (record {
      lives = third.lives;
      counts = third.counts
          ∙ sym (finish-counts one other c.args.self.now.pair c.carry_all-2.new.self c.take.new.self.pair carried
          second);
    })

pub returns-in-Ok-clause-told : goal.returns-in-Ok-clause-told
returns-in-Ok-clause-told g c one other lives =
    let was = c.args.self.now.pair in
    let mid = c.carry_all-2.new.self in
    let first = c.carry_all.ensures.carries one other lives in
    let carried = both-carried one other was mid c.carry_all.new.self first
    (c.carry_all-2.ensures.carries one other first.lives) in
    let rows = rows-after was c.carry_all.new.self mid c.carry_all.ensures.rows c.carry_all-2.ensures.rows in
    let second = c.take.ensures.takes one other carried.lives in
    let third = c.take-in-Ok.ensures.takes one other second.lives in
    let P : List ℕ → List ℕ → Type 0 = λ a b. Holds g.K.ByteSink.written g.K.ByteSink.faults c.args.out.now
    c.take-in-Ok.new.out c.take-in-Ok.new.block (c.args.block.now ++ (a ++ b)) in
    on_ok_weaker c.take-in-Ok.result
    (λ more. subst (λ a. P a (frames_text_on one other Back (walking_counts was)
    (finish_both (pair_plan one other) (walking_counts was))))
    (there-text one other was mid c.take.new.self.pair carried second rows)
    (subst (P (frames_text_on one other There (walking_counts mid) (walking_counts c.take.new.self.pair)))
    (back-text one other was mid c.take.new.self.pair c.take-in-Ok.new.self.pair carried second rows third)
    (holds-more g.K.ByteSink.written g.K.ByteSink.faults c.args.out.now c.take.new.out c.take-in-Ok.new.out
    c.args.block.now c.take.new.block c.take-in-Ok.new.block _ _ (c.in-Ok.ensures.told one other carried.lives) more)))
    (c.take-in-Ok.ensures.told one other second.lives)

pub returns-in-Ok-clause-part : goal.returns-in-Ok-clause-part
returns-in-Ok-clause-part g c one other lives =
    let was = c.args.self.now.pair in
    let mid = c.carry_all-2.new.self in
    let first = c.carry_all.ensures.carries one other lives in
    let carried = both-carried one other was mid c.carry_all.new.self first
    (c.carry_all-2.ensures.carries one other first.lives) in
    let rows = rows-after was c.carry_all.new.self mid c.carry_all.ensures.rows c.carry_all-2.ensures.rows in
    let second = c.take.ensures.takes one other carried.lives in
    let third = c.take-in-Ok.ensures.takes one other second.lives in
    let P : List ℕ → List ℕ → Type 0 = λ a b. AppendsPart g.K.ByteSink.written g.K.ByteSink.faults c.args.out.now
    c.take-in-Ok.new.out (c.args.block.now ++ (a ++ b)) in
    on_err_weaker c.take-in-Ok.result
    (λ stops. subst (λ a. P a (frames_text_on one other Back (walking_counts was)
    (finish_both (pair_plan one other) (walking_counts was))))
    (there-text one other was mid c.take.new.self.pair carried second rows)
    (subst (P (frames_text_on one other There (walking_counts mid) (walking_counts c.take.new.self.pair)))
    (back-text one other was mid c.take.new.self.pair c.take-in-Ok.new.self.pair carried second rows third)
    (part-more g.K.ByteSink.written g.K.ByteSink.faults c.args.out.now c.take.new.out c.take-in-Ok.new.out
    c.args.block.now c.take.new.block _ _ (c.in-Ok.ensures.told one other carried.lives) stops)))
    (c.take-in-Ok.ensures.part one other second.lives)

pub returns-in-Err-clause-windows : goal.returns-in-Err-clause-windows
returns-in-Err-clause-windows g c way =
    c.take.ensures.windows way ∙ c.carry_all-2.ensures.windows way ∙ c.carry_all.ensures.windows way

pub returns-in-Err-clause-part : goal.returns-in-Err-clause-part
returns-in-Err-clause-part g c one other lives =
    let was = c.args.self.now.pair in
    let mid = c.carry_all-2.new.self in
    let first = c.carry_all.ensures.carries one other lives in
    let carried = both-carried one other was mid c.carry_all.new.self first
    (c.carry_all-2.ensures.carries one other first.lives) in
    let rows = rows-after was c.carry_all.new.self mid c.carry_all.ensures.rows c.carry_all-2.ensures.rows in
    let second = c.take.ensures.takes one other carried.lives in
    let behind = frames_text_on one other Back (walking_counts was)
    (finish_both (pair_plan one other) (walking_counts was)) in
    subst (λ a. AppendsPart g.K.ByteSink.written g.K.ByteSink.faults c.args.out.now c.take.new.out
    (c.args.block.now ++ (a ++ behind)))
    (there-text one other was mid c.take.new.self.pair carried second rows)
    (part-longer g.K.ByteSink.written g.K.ByteSink.faults c.args.out.now c.take.new.out c.args.block.now _ behind
    (c.in-Err.ensures.part one other carried.lives))
