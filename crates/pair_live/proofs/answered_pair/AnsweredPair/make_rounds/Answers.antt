-- One round more of those that are left.
use Rattle.std.proofs.Common.{rules, ◌<◌, ◌++◌, [], ◌∷◌, refl, ◌∙◌, subst, arith}
use Rattle.law_model.specs.Common.{AppendsPart}
use Rattle.law_model.specs.declared.script_types.Script.{Script}
use Rattle.law_pair.specs.declared.pair_events.Way.TheVariants.{There, Back}
use Rattle.text_got.specs.TextSoFar.{Holds}
use Rattle.law_live.specs.Common.{both_pass, pair_counts, script_on}
use Rattle.pair_engine.specs.LivePairs.{walking_counts}
use Rattle.pair_live.specs.PairPassing.{turn_text}
use Rattle.pair_live.proofs.PairRoundLaws.{both-begin, both-less, both-on, tell-all, tell-begin, tell-on, tell-part}
use Rattle.pair_live.proofs.PairPassLaws.{can-turn, pass-are, pass-less, pass-rest, pass-total, pass-walks}
use Rattle.pair_live.proofs.PairLoopLaws.{lines-few, lines-kept, other-after, windows-after}
use Rattle.pair_live.proofs.answered_pair.AnsweredPair.make_rounds.Goals as goal

pub loop-self-init : goal.loop-self-init
loop-self-init g c = record {
  same = record { there = refl; back = refl; tells = refl };
  windows = λ way. refl;
  rounds = λ asked there back said k can one other are.
      let less = pass-less c.args.self.now asked there back said can.is k can.well one other are in
      both-begin one other (pair_counts one other said) c.args.until c.args.self.now.pair
      (can.is.walks.lives one other less) (can.is.walks.counts one other less);
  told = λ asked there back said k can one other are.
      let less = pass-less c.args.self.now asked there back said can.is k can.well one other are in
      tell-begin g.K.ByteSink.written g.K.ByteSink.faults c.args.out.now c.args.block.now asked one other
      (pair_counts one other said) c.args.until (walking_counts c.args.self.now.pair)
      (can.is.walks.counts one other less);
}

pub round-requires : goal.round-requires
round-requires g c =
    let (asked, there, back, said, k, can) = c.requires in
    let inv = c.loop-self.invariant in
    let one : Script = script_on there There (said ++ both_pass k ∷ []) in
    let other : Script = script_on back Back (said ++ both_pass k ∷ []) in
    let self = c.args.self.now in
    let own = pass-are self asked there back said can.is k can.well in
    let ticks = c.ticks.ensures in
    let test = c.loop-self-test.true in
    let passing = inv.rounds asked there back said k can one other own in
    record {
      few = lines-few self c.loop-self.self asked there back said can.is inv.same;
      ready = (
        one,
        other,
        can-turn self asked there back said can.is k can.well one other own c.args.until can.ends c.loop-self.self.pair
            passing inv.windows (omega (arith, ticks, test)),
      );
      left =
          let total = pass-total self asked there back said can.is k can.well one other own c.args.until can.ends
          c.loop-self.self.pair passing in
          omega (arith, ticks, test, total);
    }

pub loop-self-smaller : goal.loop-self-smaller
loop-self-smaller g c =
    let (asked, there, back, said, k, can) = c.requires in
    let inv = c.loop-self.invariant in
    let one : Script = script_on there There (said ++ both_pass k ∷ []) in
    let other : Script = script_on back Back (said ++ both_pass k ∷ []) in
    let self = c.args.self.now in
    let own = pass-are self asked there back said can.is k can.well in
    let ticks = c.ticks.ensures in
    let test = c.loop-self-test.true in
    let low : (walking_counts c.loop-self.self.pair).there.ticks < c.args.until = omega (arith, ticks, test) in
    let passing = inv.rounds asked there back said k can one other own in
    both-less there back said k one other can.is.well can.well own c.args.until can.ends c.loop-self.self.pair
    c.round.new.self.pair passing low
    (c.in-Ok.ensures.turns one other (can-turn self asked there back said can.is k can.well one other own c.args.until
    can.ends c.loop-self.self.pair passing inv.windows low))

pub loop-self-preserved : goal.loop-self-preserved
loop-self-preserved g c =
    let inv = c.loop-self.invariant in
    let self = c.args.self.now in
    let ticks = c.ticks.ensures in
    let test = c.loop-self-test.true in
    let low : (walking_counts c.loop-self.self.pair).there.ticks < c.args.until = omega (arith, ticks, test) in
    record {
      same = other-after self c.loop-self.self c.round.new.self inv.same c.round.ensures.same;
      windows = windows-after self.pair c.loop-self.self.pair c.round.new.self.pair inv.windows c.round.ensures.windows;
      rounds = λ asked there back said k can one other are.
          let passing = inv.rounds asked there back said k can one other are in
          let ready = can-turn self asked there back said can.is k can.well one other are c.args.until can.ends
          c.loop-self.self.pair passing inv.windows low in
          both-on there back said k one other can.is.well can.well are c.args.until can.ends c.loop-self.self.pair
          c.round.new.self.pair passing low (c.in-Ok.ensures.turns one other ready);
      told = λ asked there back said k can one other are.
          let passing = inv.rounds asked there back said k can one other are in
          let ready = can-turn self asked there back said can.is k can.well one other are c.args.until can.ends
          c.loop-self.self.pair passing inv.windows low in
          let lines = lines-kept self c.loop-self.self asked there back said can.is inv.same k one other are in
          tell-on there back said k one other can.is.well can.well are c.args.until can.ends g.K.ByteSink.written
          g.K.ByteSink.faults asked c.args.out.now c.loop-self.out c.round.new.out c.args.block.now c.loop-self.block
          c.round.new.block c.loop-self.self.pair c.round.new.self.pair passing low
          (c.in-Ok.ensures.turns one other ready) (inv.told asked there back said k can one other are)
          (subst (λ b. Holds g.K.ByteSink.written g.K.ByteSink.faults c.loop-self.out c.round.new.out c.round.new.block
          (c.loop-self.block ++ turn_text b one other (walking_counts c.loop-self.self.pair)))
          (inv.same.tells ∙ can.is.tells) (c.in-Ok.ensures.told one other ready lines));
    }

pub returns-in-Err-clause-same : goal.returns-in-Err-clause-same
returns-in-Err-clause-same g c =
    other-after c.args.self.now c.loop-self.self c.round.new.self c.loop-self.invariant.same c.round.ensures.same

pub returns-in-Err-clause-part : goal.returns-in-Err-clause-part
returns-in-Err-clause-part g c asked there back said k can =
    let inv = c.loop-self.invariant in
    let one : Script = script_on there There (said ++ both_pass k ∷ []) in
    let other : Script = script_on back Back (said ++ both_pass k ∷ []) in
    let self = c.args.self.now in
    let own = pass-are self asked there back said can.is k can.well in
    let ticks = c.ticks.ensures in
    let test = c.loop-self-test.true in
    let low : (walking_counts c.loop-self.self.pair).there.ticks < c.args.until = omega (arith, ticks, test) in
    let passing = inv.rounds asked there back said k can one other own in
    let ready = can-turn self asked there back said can.is k can.well one other own c.args.until can.ends
    c.loop-self.self.pair passing inv.windows low in
    let lines = lines-kept self c.loop-self.self asked there back said can.is inv.same k one other own in
    subst (λ text. AppendsPart g.K.ByteSink.written g.K.ByteSink.faults c.args.out.now c.round.new.out
    (c.args.block.now ++ text))
    (pass-rest self asked there back said can.is k can.well c.args.until can.ends)
    (tell-part there back said k one other can.is.well can.well own c.args.until can.ends g.K.ByteSink.written
    g.K.ByteSink.faults asked c.args.out.now c.loop-self.out c.round.new.out c.args.block.now c.loop-self.block
    c.loop-self.self.pair passing low (inv.told asked there back said k can one other own)
    (subst (λ b. AppendsPart g.K.ByteSink.written g.K.ByteSink.faults c.loop-self.out c.round.new.out
    (c.loop-self.block ++ turn_text b one other (walking_counts c.loop-self.self.pair)))
    (inv.same.tells ∙ can.is.tells) (c.in-Err.ensures.part one other ready lines)))

pub returns : goal.returns
returns g c =
    let inv = c.loop-self.invariant in
    let self = c.args.self.now in
    let ticks = c.ticks.ensures in
    let test = c.loop-self-test.false in
    record {
      same = c.loop-self.invariant.same;
      walks = λ asked there back said k can.
          pass-walks self asked there back said can.is k can.well c.args.until c.loop-self.self.pair can.ends
          (inv.rounds asked there back said k can) inv.windows (omega (arith, ticks, test));
      told = λ asked there back said k can.
          let one : Script = script_on there There (said ++ both_pass k ∷ []) in
          let other : Script = script_on back Back (said ++ both_pass k ∷ []) in
          let own = pass-are self asked there back said can.is k can.well in
          subst (λ text. Holds g.K.ByteSink.written g.K.ByteSink.faults c.args.out.now c.loop-self.out c.loop-self.block
          (c.args.block.now ++ text))
          (pass-rest self asked there back said can.is k can.well c.args.until can.ends)
          (tell-all there back said k one other can.is.well can.well own c.args.until can.ends g.K.ByteSink.written
          g.K.ByteSink.faults asked c.args.out.now c.loop-self.out c.args.block.now c.loop-self.block
          c.loop-self.self.pair (omega (arith, ticks, test)) (inv.told asked there back said k can one other own));
      part = search rules;
    }
