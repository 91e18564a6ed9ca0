-- Nothing is among nothing.
use Rattle.std.proofs.Common.{refl, arith}
use Rattle.std.proofs.lemmas.List.Elements.{All-nil}
use Rattle.law_model.specs.session.Items.{IsShort}
use Rattle.law_model.specs.session.Streams.{AreStreams, behind_of, streamed_in, mixed_from}
use Rattle.law_model.proofs.script_items.item_list.ItemList.new.Goals as goal

pub invariant_of-result : goal.invariant_of-result
unfolding AreStreams behind_of streamed_in
invariant_of-result c = rw (c.new.ensures.items, c.new-2.ensures) (record {
  apart = tt;
  fit = omega arith;
  few = omega arith;
  short = All-nil IsShort;
})

pub returns : goal.returns
unfolding mixed_from
returns c = rw (c.new.ensures.items, c.new-2.ensures) refl
