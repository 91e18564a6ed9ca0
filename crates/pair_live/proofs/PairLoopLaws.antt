-- What the rounds of a pass leave as it was.
use Rattle.std.proofs.Common.{◌≡◌, ℕ, ◌+◌, ◌≤◌, List, [], ◌∷◌, ◌++◌, sym, ◌∙◌, ap, subst, arith}
use Rattle.law_model.specs.Common.{most_lines}
use Rattle.law_model.specs.declared.script_types.Config.{Config}
use Rattle.law_model.specs.declared.script_types.Script.{Script}
use Rattle.law_pair.specs.declared.pair_events.Way.{Way}
use Rattle.law_pair.specs.declared.pair_events.Way.TheVariants.{There, Back}
use Rattle.law_pair.specs.Common.{PairCounts, counts_on, pair_plan, tick_cause}
use Rattle.law_live.specs.Common.{PairSaying, both_pass, config_on, leg_on, turn_both}
use Rattle.law_live.proofs.BothWaysRoundLaws.{BothGo, tick-goes}
use Rattle.walk_engine.specs.walk_core.WayParts.{waiting_in}
use Rattle.walk_live.specs.declared.asked.Asked.{Asked}
use Rattle.pair_engine.specs.LivePairs.{GoesOn, PairLives, PairWalking, SameWindows, TicksBoth, walking_counts}
use Rattle.pair_live.specs.PairAnswered.{ArePairOf, IsPairAnswered, numbers_on}
use Rattle.pair_live.specs.PairPassing.{HasLinesOf, IsOtherPair, both_frames_text, both_steps_text, finish_both}
use Rattle.pair_live.specs.PairPassing.{turn_text}
use Rattle.pair_live.specs.declared.answered_pair.AnsweredPair.{AnsweredPair}
use Rattle.pair_live.specs.declared.answered_pair.WayNumbers.{WayNumbers}
use Rattle.pair_live.proofs.PairStandLaws.{lines-on, lives-together, network-on}
use Rattle.pair_live.proofs.WayLineLaws.{turn-parts, turn-told}

pub other-after : (was now next : AnsweredPair) → IsOtherPair was now → IsOtherPair now next → IsOtherPair was next
other-after was now next first second = record {
  there = second.there ∙ first.there;
  back = second.back ∙ first.back;
  tells = second.tells ∙ first.tells;
}

pub windows-after : (was now next : PairWalking) → SameWindows was now → SameWindows now next → SameWindows was next
windows-after was now next first second way = second way ∙ first way

numbers-kept : (was now : AnsweredPair) → IsOtherPair was now → (way : Way) → numbers_on now way ≡ numbers_on was way
numbers-kept was now same There = same.there
numbers-kept was now same Back = same.back

module _ (was now : AnsweredPair) (asked : Asked) (there back : Config) (said : List PairSaying)
    (is : IsPairAnswered was asked there back said) (same : IsOtherPair was now)
  where
    lines-of : (way : Way) → (numbers_on now way).lines ≡ (config_on there back way).lines
    lines-of way = ap (λ (n : WayNumbers). n.lines) (numbers-kept was now same way) ∙ is.lines way

    pub lines-few : (way : Way) → (numbers_on now way).lines ≤ most_lines
    lines-few way =
        let lines = lines-of way in
        let most = (network-on there back is.network way).lines.1 in
        omega (arith, lines, most)

    pub lines-kept : (k : ℕ) (one other : Script) → ArePairOf there back (said ++ both_pass k ∷ []) one other →
        HasLinesOf now one other
    lines-kept k one other are way =
        lines-of way ∙ sym (lines-on there back (said ++ both_pass k ∷ []) one other are way)

-- how many frames wait, once both numbers are kept
pub waits-each : (pair : AnsweredPair) (waiting waiting_back : ℕ) (one other : Script) →
    waiting ≡ waiting_in (leg_on one other There) (walking_counts pair.pair).there →
    waiting_back ≡ waiting_in (leg_on one other Back) (walking_counts pair.pair).back → (way : Way) →
    (numbers_on (record pair {
      there = record pair.there { waiting = waiting };
      back = record pair.back { waiting = waiting_back };
    }) way).waiting
    ≡ waiting_in (leg_on one other way) (counts_on (walking_counts pair.pair) way)
waits-each pair waiting waiting_back one other there back There = there
waits-each pair waiting waiting_back one other there back Back = back

pub lines-still : (pair : AnsweredPair) (now : PairWalking) (one other : Script) → HasLinesOf pair one other →
    HasLinesOf (record pair { pair = now }) one other
lines-still pair now one other lines There = lines There
lines-still pair now one other lines Back = lines Back

-- ---- a round: a tick of both ways, and the rest
pub turn-ticks : (one other : Script) (was now : PairWalking) → TicksBoth one other was now →
    ((walking_counts was).there.ticks ≤ (walking_counts now).there.ticks)
    × ((walking_counts now).there.ticks ≤ (walking_counts was).there.ticks + 1)
turn-ticks one other was now ticks =
    let plan = pair_plan one other in
    let s : PairCounts = walking_counts was in
    let goes = subst (BothGo 1 s) (sym ticks.counts) (tick-goes (tick_cause plan s) s) in
    let least = goes.there.ticks in
    let most = goes.there.most in
    (omega (arith, least), omega (arith, most))

pub turn-made : (one other : Script) (was mid now : PairWalking) → TicksBoth one other was mid →
    GoesOn one other (finish_both (pair_plan one other) (walking_counts mid)) now →
    GoesOn one other (turn_both (pair_plan one other) (walking_counts was)) now
turn-made one other was mid now ticks finishes = record {
  lives = finishes.lives;
  counts = finishes.counts ∙ ap (finish_both (pair_plan one other)) ticks.counts
      ∙ sym (turn-parts (pair_plan one other) (walking_counts was));
}

pub turn-told-of : (asked : Asked) (one other : Script) (was mid : PairWalking) (before : ℕ) → PairLives one other was →
    TicksBoth one other was mid → before ≡ (walking_counts was).there.ticks →
    both_steps_text asked one other before (walking_counts mid).there.ticks
    ++ both_frames_text one other (walking_counts mid) (finish_both (pair_plan one other) (walking_counts mid))
    ≡ turn_text asked one other (walking_counts was)
turn-told-of asked one other was mid before lives ticks first =
    turn-told asked one other (walking_counts was) (walking_counts mid) before first
    (lives-together one other was lives Back) (lives-together one other mid ticks.lives Back) ticks.counts
