-- One round more of those that are left.
use Rattle.std.proofs.Common.{rules, ◌<◌, ◌++◌, [], ◌∷◌, refl, sym, ◌∙◌, subst, arith}
use Rattle.law_model.specs.Common.{AppendsPart, Leg}
use Rattle.text_got.specs.TextSoFar.{Holds}
use Rattle.law_live.specs.Common.{leg_said, live_counts, passes}
use Rattle.walk_engine.specs.walk_core.LiveWalking.{walking_counts}
use Rattle.walk_live.specs.PassingRounds.{round_text}
use Rattle.walk_live.proofs.PassRoundsLaws.{passes-begin, passes-less, passes-on, tells-all, tells-begin, tells-on}
use Rattle.walk_live.proofs.PassRoundsLaws.{tells-part}
use Rattle.walk_live.proofs.AnsweredWalkAndSayingLaws.{can-round, other-then, pass-own, pass-rest, pass-total}
use Rattle.walk_live.proofs.AnsweredWalkAndSayingLaws.{pass-walks, leg-less, leg-lines}
use Rattle.walk_live.proofs.answered_walk.AnsweredWalk.make_rounds.Goals as goal

pub loop-self-init : goal.loop-self-init
loop-self-init g c = record {
  same = record { lines = refl; items = refl; waiting = refl; tells = refl };
  windows = refl;
  rounds = λ asked config said k can leg more.
      let less = leg-less config said (passes k ∷ []) leg can.well more in
      passes-begin leg (live_counts leg said) c.args.until c.args.self.now.walk (can.is.walks.stands leg less)
      (can.is.walks.counts leg less);
  told = λ asked config said k can leg more.
      let less = leg-less config said (passes k ∷ []) leg can.well more in
      tells-begin g.K.ByteSink.written g.K.ByteSink.faults c.args.out.now c.args.block.now asked leg
      (live_counts leg said) c.args.until (walking_counts c.args.self.now.walk) (can.is.walks.counts leg less);
}

pub round-requires : goal.round-requires
round-requires g c =
    let (asked, config, said, k, can) = c.requires in
    let inv = c.loop-self.invariant in
    let leg : Leg = leg_said config (said ++ passes k ∷ []) in
    let own = pass-own c.args.self.now asked config said can.is k can.well in
    let ticks = c.ticks.ensures in
    let test = c.loop-self-test.true in
    record {
      few =
          let same = c.loop-self.invariant.same.lines in
          let lines = can.is.lines in
          let most = can.is.network.lines.1 in
          omega (arith, same, lines, most);
      ready = (
        leg,
        can-round c.args.self.now asked config said can.is k can.well leg c.args.until c.loop-self.self.walk can.ends own
            (inv.rounds asked config said k can leg own) inv.windows (omega (arith, ticks, test)),
      );
      left =
          let total = pass-total c.args.self.now asked config said can.is k can.well leg c.args.until c.loop-self.self.walk
          can.ends own (inv.rounds asked config said k can leg own) in
          omega (arith, ticks, test, total);
    }

pub loop-self-smaller : goal.loop-self-smaller
loop-self-smaller g c =
    let (asked, config, said, k, can) = c.requires in
    let inv = c.loop-self.invariant in
    let leg : Leg = leg_said config (said ++ passes k ∷ []) in
    let own = pass-own c.args.self.now asked config said can.is k can.well in
    let ticks = c.ticks.ensures in
    let test = c.loop-self-test.true in
    let low : (walking_counts c.loop-self.self.walk).ticks < c.args.until = omega (arith, ticks, test) in
    let passing = inv.rounds asked config said k can leg own in
    passes-less config said k leg can.well own c.args.until can.ends c.loop-self.self.walk c.round.new.self.walk passing low
    (c.in-Ok.ensures.rounds leg (can-round c.args.self.now asked config said can.is k can.well leg c.args.until
    c.loop-self.self.walk can.ends own passing inv.windows low))

pub loop-self-preserved : goal.loop-self-preserved
loop-self-preserved g c =
    let inv = c.loop-self.invariant in
    let ticks = c.ticks.ensures in
    let test = c.loop-self-test.true in
    let low : (walking_counts c.loop-self.self.walk).ticks < c.args.until = omega (arith, ticks, test) in
    record {
      same = other-then c.args.self.now c.loop-self.self c.round.new.self inv.same c.round.ensures.same;
      windows = c.round.ensures.windows ∙ inv.windows;
      rounds = λ asked config said k can leg more.
          let passing = inv.rounds asked config said k can leg more in
          let ready = can-round c.args.self.now asked config said can.is k can.well leg c.args.until c.loop-self.self.walk
          can.ends more passing inv.windows low in
          passes-on config said k leg can.well more c.args.until can.ends c.loop-self.self.walk c.round.new.self.walk
          passing low (c.in-Ok.ensures.rounds leg ready);
      told = λ asked config said k can leg more.
          let passing = inv.rounds asked config said k can leg more in
          let ready = can-round c.args.self.now asked config said can.is k can.well leg c.args.until c.loop-self.self.walk
          can.ends more passing inv.windows low in
          let lines = inv.same.lines ∙ can.is.lines ∙ sym (leg-lines config (said ++ passes k ∷ []) leg more) in
          tells-on config said k leg can.well more c.args.until can.ends g.K.ByteSink.written g.K.ByteSink.faults asked
          c.args.out.now c.loop-self.out c.round.new.out c.args.block.now c.loop-self.block c.round.new.block
          c.loop-self.self.walk c.round.new.self.walk passing low (c.in-Ok.ensures.rounds leg ready)
          (inv.told asked config said k can leg more)
          (subst (λ b. Holds g.K.ByteSink.written g.K.ByteSink.faults c.loop-self.out c.round.new.out c.round.new.block
          (c.loop-self.block ++ round_text b leg (walking_counts c.loop-self.self.walk)))
          (inv.same.tells ∙ can.is.tells) (c.in-Ok.ensures.told leg ready lines));
    }

pub returns-in-Err-clause-same : goal.returns-in-Err-clause-same
returns-in-Err-clause-same g c =
    other-then c.args.self.now c.loop-self.self c.round.new.self c.loop-self.invariant.same c.round.ensures.same

pub returns-in-Err-clause-part : goal.returns-in-Err-clause-part
returns-in-Err-clause-part g c asked config said k can =
    let inv = c.loop-self.invariant in
    let leg : Leg = leg_said config (said ++ passes k ∷ []) in
    let own = pass-own c.args.self.now asked config said can.is k can.well in
    let ticks = c.ticks.ensures in
    let test = c.loop-self-test.true in
    let low : (walking_counts c.loop-self.self.walk).ticks < c.args.until = omega (arith, ticks, test) in
    let passing = inv.rounds asked config said k can leg own in
    let ready = can-round c.args.self.now asked config said can.is k can.well leg c.args.until c.loop-self.self.walk
    can.ends own passing inv.windows low in
    let lines = inv.same.lines ∙ can.is.lines ∙ sym (leg-lines config (said ++ passes k ∷ []) leg own) in
    subst (λ text. AppendsPart g.K.ByteSink.written g.K.ByteSink.faults c.args.out.now c.round.new.out
    (c.args.block.now ++ text))
    (pass-rest c.args.self.now asked config said can.is k can.well c.args.until can.ends)
    (tells-part config said k leg can.well own c.args.until can.ends g.K.ByteSink.written g.K.ByteSink.faults asked
    c.args.out.now c.loop-self.out c.round.new.out c.args.block.now c.loop-self.block c.loop-self.self.walk passing low
    (inv.told asked config said k can leg own)
    (subst (λ b. AppendsPart g.K.ByteSink.written g.K.ByteSink.faults c.loop-self.out c.round.new.out
    (c.loop-self.block ++ round_text b leg (walking_counts c.loop-self.self.walk)))
    (inv.same.tells ∙ can.is.tells) (c.in-Err.ensures.part leg ready lines)))

pub returns : goal.returns
returns g c =
    let inv = c.loop-self.invariant in
    let ticks = c.ticks.ensures in
    let test = c.loop-self-test.false in
    record {
      same = c.loop-self.invariant.same;
      walks = λ asked config said k can.
          pass-walks c.args.self.now asked config said can.is k can.well c.args.until c.loop-self.self.walk can.ends
          (inv.rounds asked config said k can) inv.windows (omega (arith, ticks, test));
      told = λ asked config said k can.
          let leg : Leg = leg_said config (said ++ passes k ∷ []) in
          let own = pass-own c.args.self.now asked config said can.is k can.well in
          subst (λ text. Holds g.K.ByteSink.written g.K.ByteSink.faults c.args.out.now c.loop-self.out c.loop-self.block
          (c.args.block.now ++ text))
          (pass-rest c.args.self.now asked config said can.is k can.well c.args.until can.ends)
          (tells-all config said k leg can.well own c.args.until can.ends g.K.ByteSink.written g.K.ByteSink.faults asked
          c.args.out.now c.loop-self.out c.args.block.now c.loop-self.block c.loop-self.self.walk
          (omega (arith, ticks, test))
          (inv.told asked config said k can leg own));
      part = search rules;
    }
