-- One more row.
use Rattle.std.proofs.Common.{◌+◌, Some, sym, ◌∙◌, ap}
use Rattle.fate_engine.proofs.SpoiledRunAndWholeContainerLaws.{with_row_of, runs-more}
use Rattle.fate_engine.proofs.fate_core.spoiled_runs.SpoiledRuns.row.Goals as goal
use Rattle.fate_engine.proofs.fate_core.spoiled_runs.SpoiledRuns.row.Goals.{in-Some+in_ok-add_row, in_default}

pub returns-clause-ok : goal.returns-clause-ok
returns-clause-ok c = λ causes are.
    elim c.match-cause.branch [
      | in-Some+in_ok-add_row w ↦
          runs-more c.args.self.now (record
          { rows = c.match-cause.self-inside.rows + 1; runs = c.match-cause.self-inside.runs.items }) causes
          c.args.cause are
          (ap (λ s. s.rows + 1) w.self-inside-is ∙ ap (λ v. v.rows + 1) c.self.view_is)
          (ap (λ s. s.runs.items) w.self-inside-is ∙ w.in_ok-add_row.ensures.ok
          ∙ ap (λ v. with_row_of v.rows (Some w.in-Some.cause) v.runs) c.self.view_is
          ∙ ap (λ cause. with_row_of c.args.self.now.rows cause c.args.self.now.runs) (sym w.in-Some.is))
      | in_default w ↦
          runs-more c.args.self.now (record
          { rows = c.match-cause.self-inside.rows + 1; runs = c.match-cause.self-inside.runs.items }) causes
          c.args.cause are
          (ap (λ s. s.rows + 1) w.self-inside-is ∙ ap (λ v. v.rows + 1) c.self.view_is)
          (ap (λ s. s.runs.items) w.self-inside-is ∙ ap (λ v. v.runs) c.self.view_is
          ∙ ap (λ cause. with_row_of c.args.self.now.rows cause c.args.self.now.runs) (sym w.in_default.is))
    ]
