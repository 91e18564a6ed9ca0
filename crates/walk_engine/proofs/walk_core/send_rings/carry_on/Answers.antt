-- One call more brought the line where it is.
use Rattle.std.proofs.Common.{rules, ◌≡◌, ◌+◌, ◌%◌, ◌<◌, ◌≤◌, length, map, slice_index_or, slice_set, refl, sym, ◌∙◌, ap, subst, arith}
use Rattle.std.specs.Global.{Vec, Box}
use Rattle.std.specs.Vec.{with_item}
use Rattle.std.proofs.lemmas.Option.{same_Some}
use Rattle.law_model.proofs.ListLaws.{at-index}
use Rattle.law_model.specs.Common.{Container}
use Rattle.walk_engine.specs.Common.{Has, calls_on, calls_of, frame_in, sent_frames, windows_on, IsCarriedAt}
use Rattle.law_model.specs.members.Damage.{carried}
use Rattle.std.proofs.lemmas.List.{length_push}
use Rattle.member_path.specs.path_delay.CallsOnDelayedLine.{and_push, with_windows}
use Rattle.law_walk.specs.Common.{sent_at}
use Rattle.walk_engine.proofs.LineCarryAndSendRingLaws.{map-get, below, calls-push, calls-flush, all-carried, not-carried}
use Rattle.walk_engine.proofs.LineCarryAndSendRingLaws.{agree-more, numbers}
use Rattle.walk_engine.proofs.LineCarryAndSendRingLaws.{unchanged-at, changed-at}
use Rattle.walk_engine.proofs.walk_core.send_rings.carry_on.Goals as goal

pub flush-requires : goal.flush-requires
flush-requires c = record {
  pushed = rw c.core.ensures at c.all_pushed.ensures.all.0 (search (rules, c.if-all_pushed.true));
  runs = c.requires.runs;
  room = c.requires.room;
}

pub index_mut-requires : goal.index_mut-requires
index_mut-requires c =
    let within : c.carried.result % 32 < length c.args.sent.now.items = omega (arith, c.requires.places) in
    search (rules, within)

pub index_mut-requires-else-all_pushed : goal.index_mut-requires-else-all_pushed
index_mut-requires-else-all_pushed c =
    let frames = c.args.sent.now.items in
    let row : Vec (Box Container) = c.index_mut.result.now in
    let frame = at-index frames (c.carried.result % 32) row (omega (arith, c.requires.places)) c.index_mut.ensures.value in
    let within : c.args.m < length row.items = c.requires.lines (c.carried.result % 32) row frame in
    search (rules, within)

pub push-requires : goal.push-requires
push-requires c = record {
  left = below c.args.own.now.core.pushed c.args.own.now.core.total
      (rw c.core.ensures at c.all_pushed.ensures.within) (search (rules, rw c.core.ensures at c.if-all_pushed.ensures));
  room = c.requires.room;
}

pub returns-then-all_pushed-clause-carried : goal.returns-then-all_pushed-clause-carried
returns-then-all_pushed-clause-carried c = c.flush.ensures.carried

pub returns-then-all_pushed-clause-popped : goal.returns-then-all_pushed-clause-popped
returns-then-all_pushed-clause-popped c = c.flush.ensures.popped

pub returns-then-all_pushed-clause-has : goal.returns-then-all_pushed-clause-has
returns-then-all_pushed-clause-has c leg has sent known =
    let flushed = c.flush.ensures.has (calls_of leg c.args.m c.args.own.now) has.has in
    let all = all-carried leg c.args.m c.args.own.now has
    (search (rules, rw c.core.ensures at c.if-all_pushed.ensures)) in
    record {
      has = subst (λ calls. Has c.flush.new.self calls)
          (ap (λ calls. with_windows calls c.args.own.now.core.windows)
          (calls-flush leg c.args.m c.args.own.now all ∙ ap (calls_on leg c.args.m) (sym c.flush.ensures.carried))
          ∙ ap (with_windows (calls_on leg c.args.m c.flush.new.self.carried)) (sym flushed.core.windows))
          flushed;
      agrees = λ t low.
          let now = flushed.core.pushed in
          let was = has.has.core.pushed in
          has.agrees t (omega (arith, low, now, was)) ∙ ap (λ w. carried w t) (sym flushed.core.windows);
      ring = c.flush.ensures.ring ∙ has.ring;
    }

pub returns-else-all_pushed : goal.returns-else-all_pushed
returns-else-all_pushed c =
    let places = c.requires.places in
    let slot : c.carried.result % 32 ≡ c.args.own.now.carried % 32 = ap (λ x. x % 32) c.carried.ensures in
    let row : Vec (Box Container) = c.index_mut.result.now in
    record {
      has = λ leg has sent known.
          let some : c.args.own.now.core.pushed ≡ c.args.own.now.core.total → ⊥ =
          search (rules, rw c.core.ensures at c.if-all_pushed.ensures) in
          let within = rw c.core.ensures at c.all_pushed.ensures.within in
          let left = not-carried leg c.args.m c.args.own.now has
          (below c.args.own.now.core.pushed c.args.own.now.core.total within some) in
          let frames = c.args.sent.now.items in
          let place : Box Container = c.index_mut-else-all_pushed.result.now in
          let frame = at-index frames (c.args.own.now.carried % 32) row (omega (arith, places))
          (c.index_mut.ensures.value ∙ ap (λ k. slice_index_or frames k row) slot) in
          let read = at-index row.items c.args.m place (c.requires.lines (c.args.own.now.carried % 32) row frame)
          c.index_mut-else-all_pushed.ensures.value in
          let is = same_Some place.value (sent_at leg c.args.m c.args.own.now.carried)
          (sym (map-get (λ (b : Box Container). b.value) row.items c.args.m place read) ∙ sent left row frame) in
          let pushed = c.push.ensures.has (calls_of leg c.args.m c.args.own.now) has.has in
          let n = numbers leg c.args.m c.args.own.now has in
          let at : c.args.own.now.core.pushed ≡ c.args.own.now.carried =
          (let a = n.pushed in omega (arith, a, left)) in
          let more : c.push.new.self.core.pushed ≤ c.args.own.now.core.pushed + 1 =
          (let now = pushed.core.pushed in
          let long = length_push (calls_of leg c.args.m c.args.own.now).containers place.value in
          let was = has.has.core.pushed in omega (arith, now, was, long)) in
          record {
            has = subst (λ calls. Has c.push.new.self calls)
                (ap (and_push (calls_of leg c.args.m c.args.own.now)) is
                ∙ ap (λ calls. with_windows calls c.args.own.now.core.windows)
                (calls-push leg c.args.m c.args.own.now left ∙ ap (calls_on leg c.args.m) (sym c.push.ensures.carried))
                ∙ ap (with_windows (calls_on leg c.args.m c.push.new.self.carried)) (sym pushed.core.windows))
                pushed;
            agrees = λ t low. agree-more (windows_on leg c.args.m) c.args.own.now.core.windows c.args.own.now.core.pushed
                c.push.new.self.core.pushed has.agrees
                (subst (λ k. carried (windows_on leg c.args.m) k ≡ carried c.args.own.now.core.windows k) (sym at)
                (known (below c.args.own.now.core.pushed c.args.own.now.core.total within some)))
                more t low ∙ ap (λ w. carried w t) (sym pushed.core.windows);
            ring = c.push.ensures.ring ∙ has.ring;
          };
      windows = λ leg has. (c.push.ensures.has (calls_of leg c.args.m c.args.own.now) has.has).core.windows;
      carried = search rules;
      popped = search rules;
      sent =
          let frames = c.args.sent.now.items in
          let frame = at-index frames (c.args.own.now.carried % 32) row (omega (arith, places))
          (c.index_mut.ensures.value ∙ ap (λ k. slice_index_or frames k row) slot) in
          subst (λ k. IsCarriedAt (c.args.own.now.carried % 32) c.args.m (map frame_in frames)
          (map frame_in (slice_set frames k (with_item row c.args.m c.push.new.container)))) (sym slot)
          (changed-at frames (c.args.own.now.carried % 32) c.args.m row (with_item row c.args.m c.push.new.container)
          c.push.new.container frame refl);
    }

pub returns-then-all_pushed-clause-sent : goal.returns-then-all_pushed-clause-sent
returns-then-all_pushed-clause-sent c =
    unchanged-at (c.args.own.now.carried % 32) c.args.m (sent_frames c.args.sent.now)

pub returns-then-all_pushed-clause-windows : goal.returns-then-all_pushed-clause-windows
returns-then-all_pushed-clause-windows c leg has =
    (c.flush.ensures.has (calls_of leg c.args.m c.args.own.now) has.has).core.windows
