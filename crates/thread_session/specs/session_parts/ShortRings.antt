-- Lines of a walk in numbers, and one that the sink waits for.
use Rattle.std.specs.Prelude.{◌≡◌, ℕ, ◌≤◌, slice_get, Some}
use Rattle.law_model.specs.Common.{LinePath, LineCounts, Counts, Plan}

-- this is the path of line m, and what it has carried
pub record IsLineAt (m : ℕ) (path : LinePath) (line : LineCounts) (plan : Plan) (s : Counts) : Type 0 where
  pub path_at : slice_get plan.paths m ≡ Some path
  pub line_at : slice_get s.lines m ≡ Some line

-- line m has carried all that was made, and its cells don't decide the next row
pub record IsWaitedFor (m : ℕ) (plan : Plan) (s : Counts) : Type 0 where
  pub path : LinePath
  pub line : LineCounts
  pub is : IsLineAt m path line plan s
  pub all : s.ticks ≤ line.carried
  pub undecided : path.decided (path.given line.carried) ≤ s.rows
