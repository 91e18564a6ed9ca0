-- One part more, behind parts in which no area ended.
use Rattle.std.proofs.Common.{◌≡◌, ◌+◌, ◌-◌, ◌≤◌, ℕ, List, [], length, take, drop, ◌∙◌, ap, subst, arith}
use Rattle.std.proofs.Common.{length-take, length-drop}
use Rattle.gfp_delineate.specs.ReceivedAreas.{AreaEnd, ends_told, Progress, Adds}
use Rattle.gfp_delineate.proofs.OctetPieceAndIdleRunLaws.{taken_more}
use Rattle.gfp_delineate.proofs.ReceiverProgressLaws.{Takes, tell, told, Takes-then, Adds-then}
use Rattle.gfp_delineate.proofs.hunt_presync_sync.AreaReceiver.feed.Goals as goal

-- what came before, and one part more
part_more : (old middle new : Progress) (piece : List ℕ) (at n : ℕ) (come : List AreaEnd) →
    n ≤ length (take (length piece - at) (drop at piece)) →
    Takes old middle (take at piece) [] → Takes middle new (take n (take (length piece - at) (drop at piece))) come →
    Takes old new (take (at + n) piece) come
part_more old middle new piece at n come within one other =
    subst (λ part. Takes old new part come) (taken_more at n piece within) (Takes-then _ _ _ _ _ _ one other)

pub loop-at-preserved : goal.loop-at-preserved
loop-at-preserved c = record {
  within = omega (
    arith,
    c.step-taken.ensures.within,
    length-take (length c.args.piece.now - c.loop-at.at) (drop c.loop-at.at c.args.piece.now),
    length-drop c.loop-at.at c.args.piece.now,
  );
  takes =
      told _ _ _ _ (part_more _ c.loop-at.self c.step-taken.new.self c.args.piece.now c.loop-at.at
      c.step-taken.result.0 [] c.step-taken.ensures.within (tell _ _ _ _ c.loop-at.invariant.takes)
      (subst (λ step. Takes c.loop-at.self c.step-taken.new.self
      (take c.step-taken.result.0 (take (length c.args.piece.now - c.loop-at.at)
      (drop c.loop-at.at c.args.piece.now))) (ends_told c.step-taken.new.self.area step)) c.in-Nothing.is
      (tell _ _ _ _ c.step-taken.ensures.takes)));
}

pub returns-in_default-clause-within : goal.returns-in_default-clause-within
returns-in_default-clause-within c =
    omega (
      arith,
      c.step-taken.ensures.within,
      length-take (length c.args.piece.now - c.loop-at.at) (drop c.loop-at.at c.args.piece.now),
      length-drop c.loop-at.at c.args.piece.now,
    )

pub returns-in_default-clause-all : goal.returns-in_default-clause-all
returns-in_default-clause-all c = λ nothing. absurd (c.in_default.not-Nothing nothing)

pub returns-in_default-clause-stands : goal.returns-in_default-clause-stands
returns-in_default-clause-stands c =
    (part_more _ _ _ c.args.piece.now c.loop-at.at c.step-taken.result.0 _ c.step-taken.ensures.within
    (tell _ _ _ _ c.loop-at.invariant.takes) (tell _ _ _ _ c.step-taken.ensures.takes)).stands

pub returns-in_default-clause-outcome : goal.returns-in_default-clause-outcome
returns-in_default-clause-outcome c =
    (part_more _ _ _ c.args.piece.now c.loop-at.at c.step-taken.result.0 _ c.step-taken.ensures.within
    (tell _ _ _ _ c.loop-at.invariant.takes) (tell _ _ _ _ c.step-taken.ensures.takes)).outcome

pub returns-in_default-clause-first : goal.returns-in_default-clause-first
returns-in_default-clause-first c = λ other.
    let piece : List ℕ = c.args.piece.now in
    let at : ℕ = c.loop-at.at in
    let n : ℕ = c.step-taken.result.0 - 1 in
    let place : at + n ≡ at + c.step-taken.result.0 - 1 = omega (arith, c.step-taken.ensures.some) in
    subst (λ part. Adds c.args.self.now part []) (taken_more at n piece
    (omega (arith, c.step-taken.ensures.within)) ∙ ap (λ n. take n piece) place)
    (Adds-then c.args.self.now c.loop-at.self _ (take n (take (length piece - at) (drop at piece))) []
    (tell _ _ _ _ c.loop-at.invariant.takes) (c.step-taken.ensures.first other))
