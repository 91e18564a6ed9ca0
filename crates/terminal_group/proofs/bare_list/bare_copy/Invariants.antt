-- The items so far are copied.
use Rattle.std.proofs.Common.{◌≡◌, map, take}
use Rattle.law_model.specs.session.Items.{head_of}
use Rattle.terminal_group.proofs.bare_list.bare_copy.Given as goal

abbrev pub invariant-loop-item : goal.invariant-loop-item
invariant-loop-item l = l.copy.items ≡ map head_of (take l.item-index l.items)
