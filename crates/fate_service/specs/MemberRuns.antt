-- How many members carry payload, and in which rows: the longest runs of rows with one number.
use Rattle.std.specs.Prelude.{ℕ, ◌+◌, ◌==◌, if◌then◌else◌, List, [], ◌∷◌}
use Rattle.fate_service.specs.declared.width_run.WidthRun.{WidthRun}

-- a run goes on with each row that has its number, and another row begins the next one
unfoldable pub runs_on : WidthRun → List ℕ → List WidthRun
runs_on run [] = run ∷ []
runs_on run (members ∷ rows) =
    if members == run.members
    then runs_on (record { first = run.first; end = run.end + 1; members = run.members }) rows
    else run ∷ runs_on (record { first = run.end; end = run.end + 1; members = members }) rows

-- of rows that are numbered from 0
abbrev pub runs_of : List ℕ → List WidthRun
runs_of [] = []
runs_of (members ∷ rows) = runs_on (record { first = 0; end = 1; members = members }) rows
