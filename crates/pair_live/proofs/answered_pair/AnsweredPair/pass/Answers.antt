-- The rounds, and then how many frames wait and how many ticks have passed.
use Rattle.std.proofs.Common.{ℕ, ◌+◌, ◌++◌, List, ◌∙◌, ap, arith, subst}
use Rattle.std.proofs.lemmas.Result.{on_err_weaker, on_ok_weaker}
use Rattle.law_model.specs.Common.{AppendsPart}
use Rattle.law_pair.specs.declared.pair_events.Way.TheVariants.{There}
use Rattle.text_got.specs.TextSoFar.{Holds}
use Rattle.walk_live.proofs.TimedLineWritingLaws.{holds-more, part-longer, part-more}
use Rattle.pair_live.proofs.PairPassLaws.{can-pass-both, end_text, pass-answer, pass-answered, pass-few, pass-whole}
use Rattle.pair_live.proofs.PairSayingLaws.{now-ticks}
use Rattle.pair_live.proofs.answered_pair.AnsweredPair.pass.Goals as goal

pub overflow_add-until : goal.overflow_add-until
overflow_add-until g c =
    let (asked, there, back, said, is, well) = c.requires in
    let few = pass-few c.args.self.now asked there back said is c.args.ticks well in
    let most = is.network.there_network.ticks.1 in
    let ticks = c.ticks.ensures ∙ now-ticks c.args.self.now asked there back said is There in
    omega (arith, few, most, ticks)

pub make_rounds-requires : goal.make_rounds-requires
make_rounds-requires g c =
    let (asked, there, back, said, is, well) = c.requires in (
      asked,
      there,
      back,
      said,
      c.args.ticks,
      can-pass-both c.args.self.now asked there back said is c.args.ticks well
          (c.ticks.result + c.args.ticks) (ap (λ n. n + c.args.ticks) c.ticks.ensures),
    )

pub returns-in-Ok-clause-answers : goal.returns-in-Ok-clause-answers
returns-in-Ok-clause-answers g c asked there back said is well =
    let self = c.args.self.now in
    let can = can-pass-both self asked there back said is c.args.ticks well (c.ticks.result + c.args.ticks)
    (ap (λ n. n + c.args.ticks) c.ticks.ensures) in
    let made = c.make_rounds.new.self in
    let now = c.end_pass.new.self in
    let walks = c.in-Ok.ensures.walks asked there back said c.args.ticks can in
    let P : List ℕ → Type 0 = λ text. Holds g.K.ByteSink.written g.K.ByteSink.faults c.args.out.now c.end_pass.new.out
    c.end_pass.new.block (c.args.block.now ++ text) in
    on_ok_weaker c.end_pass.result
    (λ told. record {
      is = pass-answered self asked there back said is c.args.ticks well made now c.make_rounds.ensures.same walks
          c.end_pass.ensures.same c.end_pass.ensures.waits;
      holds = subst P
          (pass-answer self asked there back said is c.args.ticks well made now (c.ticks.result + c.args.ticks) can.ends
          c.make_rounds.ensures.same walks c.end_pass.ensures.waits)
          (holds-more g.K.ByteSink.written g.K.ByteSink.faults c.args.out.now c.make_rounds.new.out c.end_pass.new.out
          c.args.block.now c.make_rounds.new.block c.end_pass.new.block _ _
          (c.in-Ok.ensures.told asked there back said c.args.ticks can) told);
    })
    c.end_pass.ensures.told

pub returns-in-Ok-clause-part : goal.returns-in-Ok-clause-part
returns-in-Ok-clause-part g c asked there back said is well =
    let self = c.args.self.now in
    let can = can-pass-both self asked there back said is c.args.ticks well (c.ticks.result + c.args.ticks)
    (ap (λ n. n + c.args.ticks) c.ticks.ensures) in
    let P : List ℕ → Type 0 = λ text. AppendsPart g.K.ByteSink.written g.K.ByteSink.faults c.args.out.now
    c.end_pass.new.out (c.args.block.now ++ text) in
    on_err_weaker c.end_pass.result
    (λ stops. subst P
    (pass-answer self asked there back said is c.args.ticks well c.make_rounds.new.self c.end_pass.new.self
    (c.ticks.result + c.args.ticks) can.ends c.make_rounds.ensures.same
    (c.in-Ok.ensures.walks asked there back said c.args.ticks can) c.end_pass.ensures.waits)
    (part-more g.K.ByteSink.written g.K.ByteSink.faults c.args.out.now c.make_rounds.new.out c.end_pass.new.out
    c.args.block.now c.make_rounds.new.block _ _ (c.in-Ok.ensures.told asked there back said c.args.ticks can) stops))
    c.end_pass.ensures.part

pub returns-in-Err-clause-part : goal.returns-in-Err-clause-part
returns-in-Err-clause-part g c asked there back said is well =
    let self = c.args.self.now in
    let until : ℕ = c.ticks.result + c.args.ticks in
    let can = can-pass-both self asked there back said is c.args.ticks well until
    (ap (λ n. n + c.args.ticks) c.ticks.ensures) in
    let P : List ℕ → Type 0 = λ text. AppendsPart g.K.ByteSink.written g.K.ByteSink.faults c.args.out.now
    c.make_rounds.new.out (c.args.block.now ++ text) in
    subst P (pass-whole self asked there back said is c.args.ticks well until can.ends)
    (part-longer g.K.ByteSink.written g.K.ByteSink.faults c.args.out.now c.make_rounds.new.out c.args.block.now _
    (end_text self asked there back said is c.args.ticks well until)
    (c.in-Err.ensures.part asked there back said c.args.ticks can))
