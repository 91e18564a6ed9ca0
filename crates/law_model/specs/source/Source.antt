-- G.7042, the source: commands that wait, and decision steps. A return cell is what a return packet says, or none where
-- it is lost.
use Rattle.std.specs.Prelude.{ℕ, zero, suc, ◌-◌, ◌%◌, ◌&&◌, not, nat_le, Bool, true, false, if◌then◌else◌, List, []}
use Rattle.std.specs.Prelude.{◌∷◌, ◌++◌, fold, length, Option, Some, None, slice_index_or, slice_set, replicate}
use Rattle.law_model.specs.declared.item_refusals.CommandFault.{CommandFault}
use Rattle.law_model.specs.declared.item_refusals.CommandFault.TheVariants.{UnknownLine, AlreadyIn, NotIn, TooManyPending}
use Rattle.law_model.specs.declared.lcas_states.Command.{Command}
use Rattle.law_model.specs.declared.lcas_states.Command.TheVariants.{Add as add, Remove as remove}
use Rattle.law_model.specs.session.Scenario.{Scenario, orders_at}
use Rattle.law_model.specs.source.Table.{Table, Told, kept_of, first_table, heard, told_on, carried_out, exchange}
use Rattle.law_model.specs.source.Table.{exchanged}
use Rattle.law_model.specs.Limits.{most_pending}

-- the planned set is the lines that accepted commands have added and not removed; the commands that wait were accepted
-- and
-- not carried out
pub record Source : Type 0 where
  pub table : Table
  pub planned : List Bool
  pub waiting : List Command

-- before the first step
abbrev pub opening : ℕ → Source
opening lines = record {
  table = first_table;
  planned = replicate lines false;
  waiting = [];
}

abbrev pub planned_of : Source → ℕ → Bool
planned_of source line = slice_index_or source.planned line false

abbrev pub line_of : Command → ℕ
line_of (add line) = line
line_of (remove line) = line

abbrev pub is_add : Command → Bool
is_add (add line) = true
is_add (remove line) = false

-- why a command is refused: the first cause that holds
abbrev pub refusal : ℕ → Command → Source → Option CommandFault
refusal lines command source =
    if nat_le lines (line_of command) then Some (UnknownLine lines)
    else if is_add command && planned_of source (line_of command) then Some AlreadyIn
    else if not (is_add command) && not (planned_of source (line_of command)) then Some NotIn
    else if nat_le most_pending (length source.waiting) then Some (TooManyPending most_pending)
    else None

abbrev pub accepted : Command → Source → Source
accepted command source = record {
  table = source.table;
  planned = slice_set source.planned (line_of command) (is_add command);
  waiting = source.waiting ++ command ∷ [];
}

abbrev pub asked_by : Option CommandFault → Command → Source → Source
asked_by None command source = accepted command source
asked_by (Some refusal) command source = source

abbrev pub asked : ℕ → Source → Command → Source
asked lines source command = asked_by (refusal lines command source) command source

abbrev pub asked_all : ℕ → List Command → Source → Source
asked_all lines commands source = fold (asked lines) source commands

-- the first change that there is: a command that waits, or an exchange of ADD lines
abbrev pub change_by : List Command → Source → Table → Source
change_by [] source table = record {
  table = exchanged (exchange (kept_of table) 0 table.order) table;
  planned =
      source.planned;
  waiting = [];
}
change_by (command ∷ commands) source table =
    record { table = carried_out command table; planned = source.planned; waiting = commands }

abbrev pub change : Source → Table → Source
change source table = if table.acknowledged then change_by source.waiting source table
    else record { table = table; planned = source.planned; waiting = source.waiting }

-- a decision step: what a return packet says, and then one change
abbrev pub decide : ℕ → Option Told → Source → Source
decide group told source = change source (told_on (heard group told source.table))

-- the return cell that step j takes
abbrev pub cell_at : Scenario → List (Option Told) → ℕ → Option Told
cell_at scenario cells j = if nat_le scenario.lag j then slice_index_or cells (j - scenario.lag) None else None

-- the source after decision steps 0 to j - 1, for any return cells
unfoldable pub after : Scenario → List (Option Told) → ℕ → Source
after scenario cells zero = opening (length scenario.windows)
after scenario cells (suc j) =
    decide ((j - scenario.lag) % scenario.options.statuses) (cell_at scenario cells j)
    (asked_all (length scenario.windows) (orders_at scenario j) (after scenario cells j))

-- the source as step j finds it, and its table when it comes to a change
abbrev pub source_at : Scenario → List (Option Told) → ℕ → Source
source_at scenario cells j = asked_all (length scenario.windows) (orders_at scenario j) (after scenario cells j)

abbrev pub told_at : Scenario → List (Option Told) → ℕ → Table
told_at scenario cells j = told_on
    (heard ((j - scenario.lag) % scenario.options.statuses) (cell_at scenario cells j) (source_at scenario cells j).table)

-- the command that step j carries out
abbrev pub first_of : List Command → Option Command
first_of [] = None
first_of (command ∷ commands) = Some command

abbrev pub carried : Scenario → List (Option Told) → ℕ → Option Command
carried scenario cells j = if (told_at scenario cells j).acknowledged then first_of
    (source_at scenario cells j).waiting else None

-- the table that packet j says
abbrev pub table_of : Scenario → List (Option Told) → ℕ → Table
table_of scenario cells j = (after scenario cells (suc j)).table
