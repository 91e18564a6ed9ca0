-- One single item more.
use Rattle.std.proofs.Common.{◌≡◌, ◌+◌, ◌≤◌, [], ◌∷◌, length, length-append, ap, sym, ◌∙◌, arith}
use Rattle.std.proofs.lemmas.List.Elements.{All-append, All-cons, All-nil}
use Rattle.law_model.specs.session.Items.{IsShort, stream_item}
use Rattle.law_model.proofs.StreamPlacesLaws.{length-mixed, mixed_single}
use Rattle.law_model.proofs.script_items.item_list.ItemList.push.Goals as goal

pub invariant_of-self : goal.invariant_of-self
invariant_of-self c = rw c.in_err-push.ensures.items c.self.invariant

pub invariant_of-self-2 : goal.invariant_of-self-2
invariant_of-self-2 c =
    let singles = c.self.inside.singles.items in
    let parts = c.self.invariant in
    let long = length-append singles (c.args.item ∷ []) in
    let all = length-mixed stream_item c.self.inside.streams 0 0 singles parts.apart parts.fit in
    let same = ap length c.self.view_is in
    rw c.in_ok-push.ensures.items (record {
      apart = parts.apart;
      fit = (let fit = parts.fit in omega (arith, fit, long));
      few = (let few = c.requires.few in omega (arith, few, long, all, same));
      short = All-append IsShort singles (c.args.item ∷ []) parts.short
          (All-cons IsShort c.args.item [] c.requires.short (All-nil IsShort));
    })

pub returns : goal.returns
returns c =
    let parts = c.self.invariant in
    rw (c.in_ok-push.ensures.items, ← c.self.view_is)
    (mixed_single stream_item c.self.inside.streams 0 0 c.self.inside.singles.items c.args.item parts.apart parts.fit)
