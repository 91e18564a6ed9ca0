-- A row that isn't the last is taken, but where it ends a packet and the return ring is full.
use Rattle.std.proofs.Common.{◌≡◌, Some, None, sym, subst, inl, inr, arith}
use Rattle.law_model.specs.declared.walk_events.StallCause.TheVariants.{BackFull}
use Rattle.walk_engine.specs.Common.{Walking, walking_counts, walking_of, take_cause}
use Rattle.walk_engine.proofs.TakeRowAndBackSteps.{cause-full, cause-none}
use Rattle.walk_engine.proofs.WayEventAndToldSourceLaws.{is-live}
use Rattle.walk_engine.proofs.walk_core.live_walk.LiveWalk.take_stall.Goals as goal
use Rattle.walk_engine.proofs.walk_core.live_walk.LiveWalk.take_stall.Goals.{else-ends_packet-via-then-ends_packet+else-is_full}
use Rattle.walk_engine.proofs.walk_core.live_walk.LiveWalk.take_stall.Goals.{else-ends_packet-via-else-ends_packet}

pub returns-then-is_full : goal.returns-then-is_full
returns-then-is_full c =
    let f = c.self.inside in
    let low = c.if-row-total_ticks.false in
    let total = rw c.source.ensures at c.total_ticks.ensures in
    let (leg, is) = is-live _ _ c.self.view_is c.requires in
    let all = is.stands.total in
    subst (λ (w : Walking). Some BackFull ≡ take_cause w.way.source.total (walking_counts w)) c.self.view_is
    (subst (λ n. Some BackFull ≡ take_cause n (walking_counts (walking_of f.way f.ring f.last))) (sym all)
    (cause-full leg f.way f.ring f.last is c.taken-row.result (rw c.sink.ensures at c.taken-row.ensures)
    (omega (arith, low, total, all)) c.if-ends_packet.ensures.value c.if-is_full.ensures))

pub returns-else-ends_packet : goal.returns-else-ends_packet
returns-else-ends_packet c =
    let f = c.self.inside in
    let low = c.if-row-total_ticks.false in
    let total = rw c.source.ensures at c.total_ticks.ensures in
    let (leg, is) = is-live _ _ c.self.view_is c.requires in
    let all = is.stands.total in
    subst (λ (w : Walking). None ≡ take_cause w.way.source.total (walking_counts w)) c.self.view_is
    (subst (λ n. None ≡ take_cause n (walking_counts (walking_of f.way f.ring f.last))) (sym all)
    (cause-none leg f.way f.ring f.last is c.taken-row.result (rw c.sink.ensures at c.taken-row.ensures)
    (omega (arith, low, total, all))
    (elim c.else-ends_packet.branch [
      | else-ends_packet-via-then-ends_packet+else-is_full w ↦ inr w.if-is_full.ensures
      | else-ends_packet-via-else-ends_packet w ↦ inl w.if-ends_packet.ensures.value
    ])))
