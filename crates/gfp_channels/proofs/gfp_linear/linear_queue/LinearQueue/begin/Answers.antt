-- The oldest frame of the channel whose turn it is leaves the queue of the channel, and where it was the last one the
-- channel leaves those with a frame.
use Rattle.std.proofs.Common.{◌≡◌, ◌≢◌, ℕ, ◌+◌, ◌<◌, List, [], ◌∷◌, length, arith, sym, ◌∙◌, ap, ap₂, subst}
use Rattle.std.proofs.Common.{slice_index_or, slice_set, remove, length-set, get_or-set_same}
use Rattle.gfp_model.specs.linear_model.Channels.{with_queue, oldest, served}
use Rattle.gfp_channels.specs.gfp_linear.Queue.{Queued, busy_from}
use Rattle.gfp_channels.proofs.BusyChannelTurnLaws.{channels_of, queue-at, set-with, served-is, busy-removed}
use Rattle.gfp_channels.proofs.BusyChannelTurnLaws.{busy-less, silent-told, IsNext, is-next, none-next}
use Rattle.gfp_channels.proofs.gfp_linear.linear_queue.LinearQueue.begin.Goals as goal
use Rattle.gfp_channels.proofs.gfp_linear.linear_queue.LinearQueue.begin.Goals.{After-from-channel, After-begin, After-index}

-- the channel whose turn it is
next : (c : After-from-channel) → IsNext c.self.inside.queues.items c.in_ok-at.at c.index-cid.result.now
next c =
    is-next c.self.inside.queues.items c.self.inside.busy.items c.in_ok-at.at c.index-cid.result.now
    c.self.invariant.numbers
    (subst (λ (q : Queued). c.in_ok-at.at < length (busy_from 0 q.channels.waiting)) (sym c.self.view_is)
    c.in_ok-at.ensures.within) c.index-cid.ensures

-- its queue, as it was
old : (c : After-begin) → IsNext c.self.inside.queues.items c.in_ok-at.at c.index-cid.result.now →
    c.index_mut.result.now ≡ slice_index_or c.self.inside.queues.items c.index-cid.result.now []
old c turn =
    queue-at c.index-cid.result.now c.from-channel.result c.index_mut.result.now c.self.inside.queues.items
    (omega (arith, turn.inside, c.from-channel.ensures)) c.from-channel.ensures c.index_mut.ensures.value

-- which had a frame
some : (c : goal.After-from_residual-in_err-n) → ⊥
some c =
    let at = goal.at.invariant_of-self c in
    let turn = next at.After-from-channel in
    none-next c.self.inside.queues.items c.in_ok-at.at c.index-cid.result.now turn
    (sym (old at.After-begin turn) ∙ c.in_err-n.ensures.none)

-- the queues without that frame
module _ (c : After-index) (turn : IsNext c.self.inside.queues.items c.in_ok-at.at c.index-cid.result.now)
    (old : c.index_mut.result.now ≡ slice_index_or c.self.inside.queues.items c.index-cid.result.now []) where
  was : slice_index_or c.self.inside.queues.items c.index-cid.result.now [] ≡ c.begin.new.begun ∷ c.begin.new.self
  was = sym old ∙ c.in_ok-n.ensures.frame

  now : c.index.result.now ≡ c.begin.new.self
  now = c.index.ensures
      ∙ get_or-set_same c.self.inside.queues.items c.from-channel.result c.begin.new.self c.index.result.now
      (omega (arith, turn.inside, c.from-channel.ensures))

  edit : slice_set c.self.inside.queues.items c.from-channel.result c.begin.new.self
      ≡ with_queue c.index-cid.result.now c.begin.new.self c.self.inside.queues.items
  edit = ap (λ k. slice_set c.self.inside.queues.items k c.begin.new.self) c.from-channel.ensures
      ∙ set-with c.index-cid.result.now c.begin.new.self c.self.inside.queues.items turn.inside

  frame : c.begin.new.begun ≡ oldest c.index-cid.result.now c.args.self.now.channels
  frame = sym (ap (λ q. slice_index_or q 0 []) was)
      ∙ ap (λ (q : Queued). oldest c.index-cid.result.now q.channels) c.self.view_is

  rest : channels_of (c.from.result + 1) (slice_set c.self.inside.queues.items c.from-channel.result c.begin.new.self)
      ≡ served c.index-cid.result.now c.args.self.now.channels
  rest = ap₂ (λ k n. channels_of n (slice_set c.self.inside.queues.items k c.begin.new.self)) c.from-channel.ensures
      (ap (λ n. n + 1) c.from.ensures)
      ∙ served-is c.index-cid.result.now c.self.inside.next c.begin.new.begun c.begin.new.self
      c.self.inside.queues.items turn.inside was
      ∙ ap (λ (q : Queued). served c.index-cid.result.now q.channels) c.self.view_is

pub index_mut-requires : goal.index_mut-requires
index_mut-requires c =
    let turn = next (goal.at.index_mut-requires c).After-from-channel in
    omega (arith, turn.inside, c.from-channel.ensures)

pub invariant_of-self : goal.invariant_of-self
invariant_of-self c = absurd (some c)

pub returns-in_err-n-clause-none : goal.returns-in_err-n-clause-none
returns-in_err-n-clause-none c = absurd (some c)

pub returns-in_err-n-clause-stays : goal.returns-in_err-n-clause-stays
returns-in_err-n-clause-stays c = absurd (some c)

pub index-requires : goal.index-requires
index-requires c =
    let turn = next (goal.at.index-requires c).After-from-channel in
    omega (arith, turn.inside, c.from-channel.ensures)

pub invariant_of-self-then-is_empty : goal.invariant_of-self-then-is_empty
invariant_of-self-then-is_empty c =
    let items : List (List (List ℕ)) = c.self.inside.queues.items in
    let cid : ℕ = c.index-cid.result.now in
    let at = goal.at.invariant_of-self-then-is_empty c in
    let turn = next at.After-from-channel in
    let size = length-set items c.from-channel.result c.begin.new.self in
    let front = old at.After-begin turn in
    let none : c.begin.new.self ≡ [] =
    sym (now at.After-index turn front) ∙ c.is_empty.ensures.0 c.if-is_empty.true in
    record {
      some = omega (arith, size, c.self.invariant.some);
      most = omega (arith, size, c.self.invariant.most);
      numbers = c.remove.ensures.items ∙ ap (λ l. remove l c.in_ok-at.at) c.self.invariant.numbers
          ∙ sym (ap (busy_from 0) (edit at.After-index turn front ∙ ap (λ q. with_queue cid q items) none)
          ∙ busy-removed cid items turn.inside c.in_ok-at.at cid c.begin.new.begun c.begin.new.self
          (was at.After-index turn front) turn.place turn.here);
      places = omega (arith, size, c.self.invariant.places, c.remove.ensures.capacity);
      round = omega (arith, size, turn.inside, c.from.ensures);
    }

pub invariant_of-self-else-is_empty : goal.invariant_of-self-else-is_empty
invariant_of-self-else-is_empty c =
    let items : List (List (List ℕ)) = c.self.inside.queues.items in
    let at = goal.at.invariant_of-self-else-is_empty c in
    let turn = next at.After-from-channel in
    let size = length-set items c.from-channel.result c.begin.new.self in
    let front = old at.After-begin turn in
    let more : c.begin.new.self ≢ [] =
    λ e. silent-told c.index.result.now c.is_empty.result c.is_empty.ensures c.if-is_empty.false
    (now at.After-index turn front ∙ e) in
    record {
      some = omega (arith, size, c.self.invariant.some);
      most = omega (arith, size, c.self.invariant.most);
      numbers = c.self.invariant.numbers
          ∙ sym (ap (busy_from 0) (edit at.After-index turn front)
          ∙ busy-less c.index-cid.result.now items turn.inside c.begin.new.begun c.begin.new.self
          (was at.After-index turn front) more);
      places = omega (arith, size, c.self.invariant.places);
      round = omega (arith, size, turn.inside, c.from.ensures);
    }

pub returns-then-is_empty-clause-frame : goal.returns-then-is_empty-clause-frame
returns-then-is_empty-clause-frame c =
    let at = goal.at.returns-then-is_empty-clause-frame c in
    let turn = next at.After-from-channel in
    frame at.After-index turn (old at.After-begin turn)

pub returns-then-is_empty-clause-rest : goal.returns-then-is_empty-clause-rest
returns-then-is_empty-clause-rest c =
    let at = goal.at.returns-then-is_empty-clause-rest c in
    let turn = next at.After-from-channel in
    rest at.After-index turn (old at.After-begin turn)

pub returns-else-is_empty-clause-frame : goal.returns-else-is_empty-clause-frame
returns-else-is_empty-clause-frame c =
    let at = goal.at.returns-else-is_empty-clause-frame c in
    let turn = next at.After-from-channel in
    frame at.After-index turn (old at.After-begin turn)

pub returns-else-is_empty-clause-rest : goal.returns-else-is_empty-clause-rest
returns-else-is_empty-clause-rest c =
    let at = goal.at.returns-else-is_empty-clause-rest c in
    let turn = next at.After-from-channel in
    rest at.After-index turn (old at.After-begin turn)
