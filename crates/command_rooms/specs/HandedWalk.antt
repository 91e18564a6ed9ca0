-- The walk that is handed back, and where two texts stop. `written` and `faults` are what a sink tells of its octets,
-- where it tells them, and its count of faults.
use Rattle.std.specs.Prelude.{◌≡◌, ◌⊎◌, ℕ, List, Option, Some}
use Rattle.law_model.specs.Common.{AppendsPart}
use Rattle.std.specs.Prelude.{None, Result, Ok, Err}
use Rattle.law_model.specs.declared.script_types.Script.{Script}
use Rattle.law_headline.specs.WalkTexts.{counts_in}
use Rattle.walk_engine.specs.Common.{Walked}
use Rattle.text_got.specs.TextSoFar.{AppendsSome}
use Rattle.command_parts.specs.Common.{Lent, HasScript}
use Rattle.command_parts.specs.declared.stop_and_status.Ran.{Ran}
use Rattle.command_parts.specs.declared.stop_and_status.Stop.{Stop}

-- the walk of a script, with the counts of its events
abbrev pub IsWalkOf : Script → Option Walked → Type 0
IsWalkOf script walk = walk ≡ Some (record { script = script; counts = counts_in script })

-- that of the script which was read
abbrev pub HandsScript : {S : Type 0} → Lent S → Option Walked → Type 0
HandsScript source walk = (script : Script) × HasScript source script × IsWalkOf script walk

-- that which a command gives
abbrev pub walk_of : Result (Ran (Option Walked)) Stop → Option Walked
walk_of (Ok own) = own.made
walk_of (Err stop) = None

-- of two texts, each on its output, prefixes are written up to the first fault on either
abbrev pub StopsBoth : {K E : Type 0} → (K → Option (List ℕ)) → (K → ℕ) → K → K → List ℕ → (E → Option (List ℕ)) →
    (E → ℕ) → E → E → List ℕ → Type 0
StopsBoth k_written k_faults k_old k_new text e_written e_faults e_old e_new trace =
    (AppendsPart k_written k_faults k_old k_new text × AppendsSome e_written e_faults e_old e_new trace)
    ⊎ (AppendsSome k_written k_faults k_old k_new text × AppendsPart e_written e_faults e_old e_new trace)
