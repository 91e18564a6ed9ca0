-- One stream more.
use Rattle.std.proofs.Common.{◌≡◌, ◌+◌, ◌≤◌, [], ◌∷◌, ◌++◌, length, refl, sym, ap, arith}
use Rattle.law_rates.specs.Rates.{count_of}
use Rattle.law_model.specs.declared.script_items.streams.Stream.{Stream}
use Rattle.law_model.specs.session.Items.{stream_item}
use Rattle.law_model.specs.session.Streams.{mixed_from, streamed_in}
use Rattle.law_model.proofs.StreamPlacesLaws.{length-mixed, mixed_stream, are_more, behind_more, streamed_more}
use Rattle.law_model.proofs.script_items.item_list.ItemList.push_stream.Goals as goal

pub push-requires-clause-few : goal.push-requires-clause-few
push-requires-clause-few c =
    let singles = c.self.inside.singles.items in
    let parts = c.self.invariant in
    let all = length-mixed stream_item c.self.inside.streams 0 0 singles parts.apart parts.fit in
    let same : length (mixed_from stream_item 0 singles c.self.inside.streams) ≡ length c.args.self.now =
    ap length c.self.view_is in
    omega (arith, c.len.ensures, c.streamed.ensures.items, all, same, c.self.inside.singles.ok.0, c.requires.few)

pub invariant_of-self : goal.invariant_of-self
invariant_of-self c = rw c.in_err-push.ensures.kept c.self.invariant

pub invariant_of-self-2 : goal.invariant_of-self-2
invariant_of-self-2 c =
    let singles = c.self.inside.singles.items in
    let streams = c.self.inside.streams in
    let parts = c.self.invariant in
    let fit = parts.fit in
    let few = c.requires.few in
    let all = length-mixed stream_item streams 0 0 singles parts.apart parts.fit in
    let same : length (mixed_from stream_item 0 singles streams) ≡ length c.args.self.now = ap length c.self.view_is in
    let first : c.len.result + c.streamed.result ≡ length singles + streamed_in streams =
    omega (arith, c.len.ensures, c.streamed.ensures.items, c.self.inside.singles.ok.0) in
    let last : Stream = record {
      rate = c.args.rate.now;
      first = c.len.result + c.streamed.result;
      behind = c.len.result + c.streamed.result + count_of c.args.rate.now;
      before = streamed_in streams;
    } in
    let behind = behind_more streams 0 last in
    let many = streamed_more streams last in
    rw c.in_ok-push.ensures.added (record {
      apart = are_more streams 0 0 last parts.apart (record {
        rate = c.requires.rate;
        first = omega (arith, fit, first);
        behind = refl;
        before = omega arith;
      });
      fit = omega (arith, behind, many, first);
      few = omega (arith, many, few, all, same);
      short = parts.short;
    })

pub returns : goal.returns
returns c =
    let singles = c.self.inside.singles.items in
    let streams = c.self.inside.streams in
    let parts = c.self.invariant in
    let last : Stream = record {
      rate = c.args.rate.now;
      first = c.len.result + c.streamed.result;
      behind = c.len.result + c.streamed.result + count_of c.args.rate.now;
      before = streamed_in streams;
    } in
    rw (c.in_ok-push.ensures.added, ← c.self.view_is)
    (mixed_stream stream_item streams 0 0 singles last parts.apart parts.fit
    (omega (arith, c.len.ensures, c.streamed.ensures.items, c.self.inside.singles.ok.0)))
