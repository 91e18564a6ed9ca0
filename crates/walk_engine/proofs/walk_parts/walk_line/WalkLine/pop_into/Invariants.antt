-- So many cells have gone into the rows, and each of them left the line open.
use Rattle.std.proofs.Common.{◌≡◌, ◌-◌, ◌≤◌, List, length, take, slice_set}
use Rattle.law_model.specs.Common.{Cell}
use Rattle.member_cells.specs.HeldPlaces.{held}
use Rattle.member_path.specs.path_delay.CallsOnDelayedLine.{Calls, path_cells}
use Rattle.member_rows.specs.realign_rows.Gather.{GatherStands as Gathers, line_count}
use Rattle.walk_engine.specs.Common.{Has, IsNext, popped_until, leaves_open}
use Rattle.walk_engine.proofs.walk_parts.walk_line.WalkLine.pop_into.Given as goal

abbrev pub invariant-loop-self : goal.invariant-loop-self
invariant-loop-self l = record {
  core : l.self-inside.core ≡ l.fn.self.core;
  signs : l.self-inside.signs.items ≡ l.fn.self.signs;
  size : length l.self-inside.places.items ≡ length l.fn.self.places;
  carried : l.self-inside.carried ≡ l.fn.self.carried;
  given : l.self-inside.given ≡ l.fn.self.given;
  more : l.fn.self.popped ≤ l.self-inside.popped;
  pops : l.self-inside.popped ≤ l.fn.self.given;
  lines : line_count l.rows ≡ line_count l.fn.rows;
  rows : l.rows.rows ≡ l.fn.rows.rows;
  has : (calls : Calls) → Has l.fn.self calls → Has (record {
    core = l.self-inside.core;
    signs = l.self-inside.signs.items;
    places = held l.self-inside.places.items;
    carried = l.self-inside.carried;
    given = l.self-inside.given;
    popped = l.self-inside.popped;
  }) calls;
  gathers : (calls : Calls) (cells : List (List Cell)) → IsNext l.fn.self calls l.fn.rows cells l.line →
      Gathers l.rows (slice_set cells l.line (take l.self-inside.popped (path_cells calls)));
  until : (calls : Calls) (cells : List (List Cell)) → IsNext l.fn.self calls l.fn.rows cells l.line →
      popped_until (l.fn.self.given - l.self-inside.popped) (λ y. leaves_open (path_cells calls) l.fn.rows.rows y)
      l.self-inside.popped
      ≡ popped_until (l.fn.self.given - l.fn.self.popped) (λ y. leaves_open (path_cells calls) l.fn.rows.rows y)
      l.fn.self.popped;
}

abbrev pub decreases-loop-self : goal.decreases-loop-self
decreases-loop-self l = l.self-inside.given - l.self-inside.popped
