-- The turn is that of the first channel with a frame that isn't below the next one, or else of the first of all.
use Rattle.std.proofs.Common.{◌≡◌, ℕ, ◌<◌, All, List, take, Some, None, sym, ◌∙◌, ap, subst, arith, slice_index_or}
use Rattle.std.proofs.lemmas.List.{take_all}
use Rattle.gfp_model.specs.linear_model.Channels.{Channels, turn}
use Rattle.gfp_channels.specs.gfp_linear.Queue.{Queued, busy_from, turn_among, IsRising}
use Rattle.gfp_channels.proofs.BusyChannelTurnLaws.{busy-rising, turn-among, turn-at, turn-first, turn-none}
use Rattle.gfp_channels.proofs.gfp_linear.linear_queue.LinearQueue.turn.Goals as goal

pub count_below-at-requires : goal.count_below-at-requires
count_below-at-requires c =
    subst IsRising (sym (c.as_slice-busy.ensures.value ∙ c.self.invariant.numbers))
    (busy-rising 0 c.self.inside.queues.items)

pub returns-then-busy-eq0-clause-none : goal.returns-then-busy-eq0-clause-none
returns-then-busy-eq0-clause-none c =
    let inner : Channels = record { waiting = c.self.inside.queues.items; next = c.self.inside.next } in
    let numbers = c.as_slice-busy.ensures.value ∙ c.self.invariant.numbers in
    subst (λ (channels : Channels). turn channels ≡ None) (ap (λ (q : Queued). q.channels) c.self.view_is)
    (turn-among inner c.self.invariant.round ∙ ap (turn_among inner.next) (sym numbers)
    ∙ turn-none inner.next c.as_slice-busy.result.now c.if-busy-eq0.true)

pub returns-then-at-busy-clause-some : goal.returns-then-at-busy-clause-some
returns-then-at-busy-clause-some c = λ cid.
    let inner : Channels = record { waiting = c.self.inside.queues.items; next = c.self.inside.next } in
    let numbers = c.as_slice-busy.ensures.value ∙ c.self.invariant.numbers in
    let at : ℕ = c.count_below-at.result in
    subst (λ (channels : Channels). turn channels ≡ Some (slice_index_or (busy_from 0 channels.waiting) at cid))
    (ap (λ (q : Queued). q.channels) c.self.view_is)
    (turn-among inner c.self.invariant.round ∙ ap (turn_among inner.next) (sym numbers)
    ∙ turn-at inner.next at c.as_slice-busy.result.now cid c.count_below-at.ensures.below c.count_below-at.ensures.from
    c.if-at-busy.true ∙ ap (λ l. Some (slice_index_or l at cid)) numbers)

pub returns-else-at-busy-clause-some : goal.returns-else-at-busy-clause-some
returns-else-at-busy-clause-some c = λ cid.
    let inner : Channels = record { waiting = c.self.inside.queues.items; next = c.self.inside.next } in
    let busy : List ℕ = c.as_slice-busy.result.now in
    let numbers = c.as_slice-busy.ensures.value ∙ c.self.invariant.numbers in
    let at : ℕ = c.count_below-at.result in
    let all : take at busy ≡ busy = take_all at busy (omega (arith, c.if-at-busy.false)) in
    let low : All (λ cid. cid < inner.next) busy =
    subst (λ (l : List ℕ). All (λ cid. cid < inner.next) l) all c.count_below-at.ensures.below in
    subst (λ (channels : Channels). turn channels ≡ Some (slice_index_or (busy_from 0 channels.waiting) 0 cid))
    (ap (λ (q : Queued). q.channels) c.self.view_is)
    (turn-among inner c.self.invariant.round ∙ ap (turn_among inner.next) (sym numbers)
    ∙ turn-first inner.next busy cid low (omega (arith, c.if-busy-eq0.false))
    ∙ ap (λ l. Some (slice_index_or l 0 cid)) numbers)
