-- Nothing was said.
use Rattle.std.proofs.Common.{◌≡◌, [], length, refl, ◌∙◌, ap}
use Rattle.law_model.specs.declared.script_types.Script.{Script}
use Rattle.law_pair.specs.declared.pair_events.Way.TheVariants.{There, Back}
use Rattle.law_live.specs.Common.{config_on, leg_on, waiting_at}
use Rattle.walk_live.proofs.AnsweredWalkAndSayingLaws.{nothing-items, nothing-waits}
use Rattle.pair_live.specs.PairAnswered.{ArePairOf, live_said_on, numbers_on}
use Rattle.pair_live.specs.declared.answered_pair.AnsweredPair.{AnsweredPair}
use Rattle.pair_live.specs.declared.answered_pair.WayNumbers.{WayNumbers}
use Rattle.pair_live.proofs.PairStandLaws.{by-way, nothing-pair, nothing-said}
use Rattle.pair_live.proofs.answered_pair.AnsweredPair.new.Goals as goal

pub returns : goal.returns
returns c =
    let there = c.args.there in
    let back = c.args.back in
    let made = c.in_ok-pair.ensures in
    let pair : AnsweredPair =
    record { pair = c.in_ok-pair.pair; there = c.new-2.result; back = c.new-3.result; tells = c.args.tells } in
    record {
      network = c.requires;
      well = nothing-said there back;
      walks = nothing-pair there back c.in_ok-pair.pair c.requires made.lives made.counts made.there made.back;
      lines = by-way (λ way. (numbers_on pair way).lines ≡ (config_on there back way).lines)
          (ap (λ (n : WayNumbers). n.lines) c.new-2.ensures) (ap (λ (n : WayNumbers). n.lines) c.new-3.ensures);
      items = by-way (λ way. (numbers_on pair way).items ≡ length (live_said_on there back way []).items)
          (ap (λ (n : WayNumbers). n.items) c.new-2.ensures ∙ nothing-items there)
          (ap (λ (n : WayNumbers). n.items) c.new-3.ensures ∙ nothing-items back);
      waiting = by-way (λ way. (one other : Script) → ArePairOf there back [] one other →
          (numbers_on pair way).waiting ≡ waiting_at (leg_on one other way) (live_said_on there back way []).passed)
          (λ one other are. ap (λ (n : WayNumbers). n.waiting) c.new-2.ensures
          ∙ nothing-waits there (leg_on one other There))
          (λ one other are. ap (λ (n : WayNumbers). n.waiting) c.new-3.ensures
          ∙ nothing-waits back (leg_on one other Back));
      tells = refl;
    }
