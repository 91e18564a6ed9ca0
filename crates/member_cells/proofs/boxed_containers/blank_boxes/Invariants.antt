-- A blank box for each turn so far.
use Rattle.std.proofs.Common.{◌≡◌, length}
use Rattle.member_cells.specs.HeldPlaces.{AreBlank}
use Rattle.member_cells.proofs.boxed_containers.blank_boxes.Given as goal

abbrev pub invariant-loop : goal.invariant-loop
invariant-loop l = (length l.boxes.items ≡ l.counter) × AreBlank l.boxes.items
