-- One behind the last.
use Rattle.std.proofs.Common.{◌≡◌, ◌+◌, ◌∙◌, sym, ap, arith}
use Rattle.law_model.specs.declared.script_items.streams.Stream.{Stream}
use Rattle.law_model.specs.session.Streams.{behind_of}
use Rattle.law_model.proofs.StreamPlacesLaws.{are_more, behind_least, behind_more, streamed_more}
use Rattle.law_model.proofs.script_items.streams.Streams.push.Goals as goal

pub overflow_add-self : goal.overflow_add-self
overflow_add-self c =
    let least = behind_least c.self.inside.streams.items 0 0 c.self.invariant.0 in
    omega (arith, least, c.self.invariant.1, c.self.invariant.2, c.self.invariant.3, c.count-items.ensures, c.requires.few)

pub invariant_of-self-2 : goal.invariant_of-self-2
invariant_of-self-2 c =
    let streams = c.self.inside.streams.items in
    let later = c.requires.later in
    let e = ap (behind_of 0) c.self.view_is in
    let counted = c.count-items.ensures in
    let last : Stream = record {
      rate = c.args.rate.now;
      first = c.args.first;
      behind = c.args.first + c.count-items.result;
      before = c.self.inside.streamed;
    } in
    let many = streamed_more streams last in
    rw c.in_ok-push.ensures.items (
      are_more streams 0 0 last c.self.invariant.0 (record {
        rate = c.requires.rate;
        first = omega (arith, later, e);
        behind = omega (arith, counted);
        before = omega (arith, c.self.invariant.2);
      }),
      sym (behind_more streams 0 last),
      omega (arith, many, c.self.invariant.2, counted),
      omega (arith, c.requires.few, counted),
    )
