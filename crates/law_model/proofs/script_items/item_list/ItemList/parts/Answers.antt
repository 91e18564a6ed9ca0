-- They are those that are kept.
use Rattle.std.proofs.Common.{◌≤◌, length, sym, ap, arith}
use Rattle.law_model.proofs.script_items.item_list.ItemList.parts.Goals as goal

pub returns-clause-items : goal.returns-clause-items
returns-clause-items c = rw c.deref.ensures.value (sym c.self.view_is)

pub returns-clause-fit : goal.returns-clause-fit
returns-clause-fit c = rw c.deref.ensures.value c.self.invariant.fit
