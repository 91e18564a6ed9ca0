-- The lines of two scripts that a line divides: what each may say after those before it, and what it adds to them. Each
-- half has the language of scripts, and the numbers of lines run on. This language is this project's own.
use Rattle.std.specs.Prelude.{ℕ, ◌&&◌, false, Bool, List, [], ◌∷◌, Option, Some, None, option_map, is_none, codes}
use Rattle.std.specs.Prelude.{bytes_eq, if◌then◌else◌}
use Rattle.std.specs.Option.{option_or}
use Rattle.text_lines.specs.Fields.{where_true}
use Rattle.text_lines.specs.Language.{Language}
use Rattle.law_model.specs.declared.script_types.Script.{Script}
use Rattle.text_scripts.specs.declared.script_read.script_draft.Draft.{Draft}
use Rattle.text_scripts.specs.declared.script_read.script_fault.LineFault.{LineFault}
use Rattle.text_scripts.specs.script_read.Statements.{words_fault, words_said, after, at_first}
use Rattle.text_scripts.specs.script_read.Script.{missing_line, script_in}

-- ---- what lines say, and what can be wrong with one
-- the script before the line that divides, where that has come, and the lines so far of the script that goes on
pub record Halves : Type 0 where
  pub there : Option Script
  pub now : Draft

-- a fault of a line of either script, or no line divides
pub data HalfFault : Type 0 where
  of_script : LineFault → HalfFault
  no_division : HalfFault

-- ---- the line that divides
-- its one word is `other`
abbrev pub is_division : List (List ℕ) → Bool
is_division [] = false
is_division (w ∷ []) = bytes_eq w (codes "other")
is_division (w ∷ v ∷ ws) = false

-- and it is the first such line
abbrev pub divides : Halves → List (List ℕ) → Bool
divides h ws = is_none h.there && is_division ws

-- ---- a line after others
-- where it divides, the script before it has to be whole
abbrev pub half_fault : Halves → List (List ℕ) → Option HalfFault
half_fault h ws = option_map of_script (if divides h ws then missing_line h.now else words_fault h.now ws)

-- and the other script begins behind it
abbrev pub divided : Draft → Halves
divided d = record { there = Some (script_in d); now = at_first }

abbrev pub half_after : ℕ → Halves → List (List ℕ) → Halves
half_after n h ws =
    if divides h ws then divided h.now else record { there = h.there; now = after n h.now (words_said ws) }

-- after the last line
abbrev pub half_missing : Halves → Option HalfFault
half_missing h = option_or (option_map of_script (missing_line h.now)) (where_true (is_none h.there) no_division)

-- before the first line
abbrev pub nothing_said : Halves
nothing_said = record { there = None; now = at_first }

-- ---- the lines one after another
abbrev pub pair_lines : Language Halves HalfFault
pair_lines = record { first = nothing_said; fault = half_fault; after = half_after; missing = half_missing }
