-- The script that a text says, or its first fault.
use Rattle.std.specs.Prelude.{◌≡◌, ◌≤◌, ℕ, ◌+◌, ◌-◌, ◌/◌, nat_le, nat_lt, List, [], ◌∷◌, Option, Some, None, Result, Ok}
use Rattle.std.specs.Prelude.{Err, if◌then◌else◌}
use Rattle.text_scripts.specs.declared.script_read.script_fault.LineFault.{LineFault}
use Rattle.text_scripts.specs.declared.script_read.script_fault.LineFault.TheVariants.{Missing}
use Rattle.text_lines.specs.Fields.{where_true}
use Rattle.text_lines.specs.Language.{Language, said_by}
use Rattle.text_lines.specs.FirstFault.{AreSound}
use Rattle.law_model.specs.Common.{greatest, least, greatest_slip}
use Rattle.law_model.specs.declared.window_types.Window.{Window}
use Rattle.law_model.specs.declared.script_types.Config.{Config}
use Rattle.law_model.specs.declared.script_types.Script.{Script}
use Rattle.text_scripts.specs.declared.script_read.script_fault.ScriptFault.{ScriptFault}
use Rattle.text_scripts.specs.declared.script_read.script_fault.ScriptFault.TheVariants as fault
use Rattle.text_scripts.specs.declared.script_read.script_draft.Draft.{Draft}
use Rattle.text_scripts.specs.script_read.Statements.{awaited, words_fault, words_said, after, at_first}

-- ---- the tests of a script all of whose lines are right
abbrev pub fault_or : Option ScriptFault → Option ScriptFault → Option ScriptFault
fault_or (Some f) later = Some f
fault_or None later = later

-- the first window of line m, numbered from i, that lets as many containers vanish as it damages, or more
abbrev pub windows_fault : ℕ → ℕ → List Window → Option ScriptFault
windows_fault m i [] = None
windows_fault m i (window ∷ windows) =
    if nat_le (window.end - window.first) window.slip then Some (fault.Slip m i window.slip) else windows_fault m
    (i + 1) windows

-- and that of the lines, numbered from m
abbrev pub slip_fault : ℕ → List (List Window) → Option ScriptFault
slip_fault m [] = None
slip_fault m (windows ∷ lists) = fault_or (windows_fault m 0 windows) (slip_fault (m + 1) lists)

-- the slowest line, the fastest one, the greatest slip and the ring don't fit
abbrev pub spread_fault : Config → Option ScriptFault
spread_fault c =
    if nat_le (greatest c.delays - least c.delays + greatest_slip c.windows + 1) c.ring then None
    else Some (fault.Spread (greatest c.delays) (least c.delays) (greatest_slip c.windows) c.ring)

-- the least lag in packets: 16 frames, the greatest delay and the greatest slip, in sixteenths rounded up
abbrev pub least_lag : Config → ℕ
least_lag c = (16 + greatest c.delays + greatest_slip c.windows + 15) / 16

abbrev pub lag_fault : Config → Option ScriptFault
lag_fault c = if nat_le (least_lag c) c.lag then None else
    Some (fault.Lag c.lag (least_lag c) (greatest c.delays) (greatest_slip c.windows))

abbrev pub config_fault : Config → Option ScriptFault
config_fault c = fault_or (slip_fault 0 c.windows) (fault_or (spread_fault c) (lag_fault c))

-- ---- the lines
-- a line of the configuration isn't there at the end
abbrev pub missing_line : Draft → Option LineFault
missing_line d = where_true (nat_lt d.next 6) (Missing (awaited d.next))

-- the lines of scripts, one after another
abbrev pub script_lines : Language Draft LineFault
script_lines =
    record { first = at_first; fault = words_fault; after = λ n d ws. after n d (words_said ws); missing = missing_line }

-- ---- the text
abbrev pub script_in : Draft → Script
script_in d = record { config = d.config; items = d.items; events = d.events }

abbrev pub script_unless : Option ScriptFault → Script → Result Script ScriptFault
script_unless None script = Ok script
script_unless (Some f) script = Err f

abbrev pub script_of_draft : Result Draft (ℕ × LineFault) → Result Script ScriptFault
script_of_draft (Err at) = Err (fault.Line at.0 at.1)
script_of_draft (Ok d) = script_unless (config_fault d.config) (script_in d)

abbrev pub script_of : List ℕ → Result Script ScriptFault
script_of text = script_of_draft (said_by script_lines text)

-- ---- as a relation
-- no line is faulty, the configuration is whole, and its tests find no fault
pub record IsScriptOf (ls : List (List ℕ)) (script : Script) : Type 0 where
  pub now : Draft
  pub sound : AreSound script_lines 1 at_first ls now
  pub whole : 6 ≤ now.next
  pub passes : config_fault now.config ≡ None
  pub is : script ≡ script_in now
