-- What `walk` writes of a script.
use Rattle.std.specs.Prelude.{List, ℕ}
use Rattle.law_model.specs.Common.{Counts, walked, leg_of}
use Rattle.law_model.specs.declared.script_types.Script.{Script}
use Rattle.law_walk.specs.Common.{walk_plan, report_of}

-- the counts of a script's walk: those of its event lines, or of a drain where there are none
abbrev pub counts_in : Script → Counts
counts_in script = walked (walk_plan (leg_of script)) script.events

-- the got lines of the frames that are delivered, the lines of refused items, and the line of totals
abbrev pub walk_text : Script → List ℕ
walk_text script = report_of (leg_of script) (counts_in script)
