-- The queue of one channel has a frame more, and where it had none the channel is among those with a frame.
use Rattle.std.proofs.Common.{◌≡◌, ℕ, ◌<◌, ◌≤◌, take, drop, List, [], ◌∷◌, ◌++◌, length, All, insert, sym, ◌∙◌, ap}
use Rattle.std.proofs.Common.{subst, arith, refl, slice_index_or, slice_set, length-set}
use Rattle.gfp_model.specs.linear_model.Channels.{with_queue, pushed}
use Rattle.gfp_channels.specs.gfp_linear.Queue.{Queued, busy_from, IsRising}
use Rattle.gfp_channels.proofs.BusyChannelTurnLaws.{busy-rising, busy-room, busy-added, busy-pushed, queue-at}
use Rattle.gfp_channels.proofs.BusyChannelTurnLaws.{set-with, pushed-is, silent-told, channels_of}
use Rattle.gfp_channels.proofs.LinearStreamPlaceLaws.{offered_stands}
use Rattle.gfp_channels.proofs.gfp_linear.linear_queue.LinearQueue.push.Goals as goal
use Rattle.gfp_channels.proofs.gfp_linear.linear_queue.LinearQueue.push.Goals.{Else-not-push}

-- the queue of the channel, before and after
module _ (c : Else-not-push) where
  inside : c.args.cid < length c.self.inside.queues.items
  inside = omega (arith, c.if-from-channels.false)

  there : c.from-at.result < length c.self.inside.queues.items
  there = omega (arith, inside, c.from-at.ensures)

  was : slice_index_or c.self.inside.queues.items c.args.cid [] ≡ c.index.result.now
  was = sym (queue-at c.args.cid c.from-at.result c.index.result.now c.self.inside.queues.items there
      c.from-at.ensures c.index.ensures)

  old : c.index_mut.result.now ≡ slice_index_or c.self.inside.queues.items c.args.cid []
  old = queue-at c.args.cid c.from-at.result c.index_mut.result.now c.self.inside.queues.items there
      c.from-at.ensures c.index_mut.ensures.value

  new : c.push.new.self ≡ slice_index_or c.self.inside.queues.items c.args.cid [] ++ c.args.frame.now ∷ []
  new = c.if-not-push.ensures.taken ∙ ap (λ q. q ++ c.args.frame.now ∷ []) old

  edit : slice_set c.self.inside.queues.items c.from-at.result c.push.new.self ≡ with_queue c.args.cid
      (slice_index_or c.self.inside.queues.items c.args.cid [] ++ c.args.frame.now ∷ []) c.self.inside.queues.items
  edit = ap (λ k. slice_set c.self.inside.queues.items k c.push.new.self) c.from-at.ensures
      ∙ set-with c.args.cid c.push.new.self c.self.inside.queues.items inside
      ∙ ap (λ q. with_queue c.args.cid q c.self.inside.queues.items) new

  channels : channels_of c.self.inside.next (slice_set c.self.inside.queues.items c.from-at.result c.push.new.self)
      ≡ pushed c.args.cid c.args.frame.now c.args.self.now.channels
  channels =
      let few : length c.index_mut.result.now < 16 = c.if-not-push.ensures.room.0 refl in
      let room : length (slice_index_or c.self.inside.queues.items c.args.cid []) < 16 =
      omega (arith, few, ap length old) in
      ap (λ k. channels_of c.self.inside.next (slice_set c.self.inside.queues.items k c.push.new.self))
      c.from-at.ensures
      ∙ pushed-is c.args.cid c.self.inside.next c.args.frame.now c.self.inside.queues.items c.push.new.self inside
      (omega arith) (omega arith) room new
      ∙ ap (λ (q : Queued). pushed c.args.cid c.args.frame.now q.channels) c.self.view_is

pub count_below-place-requires : goal.count_below-place-requires
count_below-place-requires c =
    subst IsRising (sym (c.as_slice.ensures.value ∙ c.self.invariant.numbers))
    (busy-rising 0 c.self.inside.queues.items)

pub add-requires-clause-room : goal.add-requires-clause-room
add-requires-clause-room c =
    let items : List (List (List ℕ)) = c.self.inside.queues.items in
    let at = (goal.at.add-requires-clause-room c).Else-not-push in
    let silent : slice_index_or items c.args.cid [] ≡ [] =
    was at ∙ c.is_empty-was_silent.ensures.0 c.if-was_silent.true in
    omega (
      arith,
      busy-room c.args.cid items (inside at) silent,
      ap length c.self.invariant.numbers,
      c.self.invariant.places,
    )

pub invariant_of-self-then-was_silent : goal.invariant_of-self-then-was_silent
invariant_of-self-then-was_silent c =
    let items : List (List (List ℕ)) = c.self.inside.queues.items in
    let cid : ℕ = c.args.cid in
    let frame : List ℕ = c.args.frame.now in
    let n : ℕ = c.count_below-place.result in
    let at = (goal.at.invariant_of-self-then-was_silent c).Else-not-push in
    let silent : slice_index_or items cid [] ≡ [] =
    was at ∙ c.is_empty-was_silent.ensures.0 c.if-was_silent.true in
    let listed = c.as_slice.ensures.value ∙ c.self.invariant.numbers in
    let size = length-set items c.from-at.result c.push.new.self in
    record {
      some = omega (arith, size, c.self.invariant.some);
      most = omega (arith, size, c.self.invariant.most);
      numbers = c.add.ensures.items ∙ ap (λ l. insert l n cid) c.self.invariant.numbers
          ∙ sym (ap (busy_from 0) (edit at ∙ ap (λ q. with_queue cid (q ++ frame ∷ []) items) silent)
          ∙ busy-added cid items (inside at) n frame [] silent
          (subst (λ (l : List ℕ). n ≤ length l) listed c.count_below-place.ensures.within)
          (subst (λ (l : List ℕ). All (λ k. k < cid) (take n l)) listed
          (subst (λ (least : ℕ). All (λ k. k < least) (take n c.as_slice.result.now)) c.from-then-was_silent.ensures
          c.count_below-place.ensures.below))
          (subst (λ (l : List ℕ). All (λ k. cid ≤ k) (drop n l)) listed
          (subst (λ (least : ℕ). All (λ k. least ≤ k) (drop n c.as_slice.result.now)) c.from-then-was_silent.ensures
          c.count_below-place.ensures.from)));
      places = omega (arith, size, c.self.invariant.places, c.add.ensures.capacity);
      round = omega (arith, size, c.self.invariant.round);
    }

pub invariant_of-self-else-was_silent : goal.invariant_of-self-else-was_silent
invariant_of-self-else-was_silent c =
    let items : List (List (List ℕ)) = c.self.inside.queues.items in
    let at = (goal.at.invariant_of-self-else-was_silent c).Else-not-push in
    let size = length-set items c.from-at.result c.push.new.self in
    record {
      some = omega (arith, size, c.self.invariant.some);
      most = omega (arith, size, c.self.invariant.most);
      numbers = c.self.invariant.numbers
          ∙ sym (ap (busy_from 0) (edit at)
          ∙ busy-pushed c.args.cid items (inside at) (slice_index_or items c.args.cid []) c.args.frame.now refl
          (λ e. silent-told c.index.result.now c.is_empty-was_silent.result c.is_empty-was_silent.ensures
          c.if-was_silent.false (sym (was at) ∙ e)));
      places = omega (arith, size, c.self.invariant.places);
      round = omega (arith, size, c.self.invariant.round);
    }

pub returns-then-was_silent-clause-channels : goal.returns-then-was_silent-clause-channels
returns-then-was_silent-clause-channels c =
    channels (goal.at.returns-then-was_silent-clause-channels c).Else-not-push

pub returns-else-was_silent-clause-channels : goal.returns-else-was_silent-clause-channels
returns-else-was_silent-clause-channels c =
    channels (goal.at.returns-else-was_silent-clause-channels c).Else-not-push

pub returns-then-was_silent-clause-stands : goal.returns-then-was_silent-clause-stands
returns-then-was_silent-clause-stands c sender shared place stands =
    offered_stands c.args.cid c.args.frame.now sender c.args.self.now _ shared place
    (ap (λ (q : Queued). q.begun) c.self.view_is) (returns-then-was_silent-clause-channels c) stands

pub returns-else-was_silent-clause-stands : goal.returns-else-was_silent-clause-stands
returns-else-was_silent-clause-stands c sender shared place stands =
    offered_stands c.args.cid c.args.frame.now sender c.args.self.now _ shared place
    (ap (λ (q : Queued). q.begun) c.self.view_is) (returns-else-was_silent-clause-channels c) stands
