-- The notes on what is wrong with two scripts, and the status of each.
use Rattle.std.specs.Prelude.{ℕ, nat_lt, if◌then◌else◌, List, ◌++◌, codes, decimal}
use Rattle.law_pair.specs.declared.pair_events.Way.{Way}
use Rattle.law_pair.specs.declared.pair_events.Way.TheVariants.{There, Back}
use Rattle.text_lines.specs.declared.text_faults.LineKind.TheVariants.{Missing}
use Rattle.command_parts.specs.Common.{line_text, fault_text, limit_text, why_of}
use Rattle.command_parts.specs.declared.stop_and_status.Refusal.{Refusal}
use Rattle.command_parts.specs.declared.stop_and_status.Refusal.TheVariants as why
use Rattle.text_pairs.specs.declared.script_pair.PairFault.{PairFault}
use Rattle.text_pairs.specs.declared.script_pair.PairFault.TheVariants.{Script, Undivided, Limit, Lost, Events, Lag, Ticks}
use Rattle.text_pairs.specs.declared.script_pair.PairFault.TheVariants.{Runs}

-- what is said of how to write a text that no line divides
abbrev pub division_help : List ℕ
division_help = codes "a line other divides the two scripts"

-- what a way is called in front of what is said of its script
abbrev pub way_front : Way → List ℕ
way_front There = codes "there: "
way_front Back = codes "back: "

-- a number of each script that has to be the same
abbrev pub unlike_text : ℕ → ℕ → List ℕ
unlike_text there back = decimal there ++ codes " " ++ decimal back ++ codes "\nhelp: both scripts have one "

-- which lags there may be, where delays and slips need this one
abbrev pub lags_text : ℕ → List ℕ
lags_text least = if nat_lt 256 least then codes "at most" else codes "from " ++ decimal least ++ codes " to"

abbrev pub pair_fault_text : PairFault → List ℕ
pair_fault_text (Script fault) = fault_text fault
pair_fault_text (Undivided number) = line_text number Missing division_help
pair_fault_text (Limit way fault) = limit_text (way_front way) fault
pair_fault_text (Lost way) =
    codes "fault: pair lost\nhelp: " ++ way_front way
    ++ codes "a script of a pair has no lost lines; failures of the other way lose its return packets\n"
pair_fault_text (Events way) =
    codes "fault: pair events\nhelp: " ++ way_front way
    ++ codes "a script of a pair has no event lines; both ways drain together\n"
pair_fault_text (Lag there back least) =
    codes "fault: pair lag " ++ unlike_text there back ++ codes "lag, " ++ lags_text least ++ codes " 256\n"
pair_fault_text (Ticks there back) =
    codes "fault: pair ticks " ++ unlike_text there back ++ codes "number of ticks\n"
pair_fault_text (Runs runs) =
    codes "fault: pair runs " ++ decimal runs
    ++ codes "\nhelp: a script has at most 256 lost lines, and this way needs " ++ decimal runs ++ codes "\n"

-- a line is faulty or isn't there, or what the scripts ask for doesn't fit
abbrev pub pair_why : PairFault → Refusal
pair_why (Script fault) = why_of fault
pair_why (Undivided number) = why.Line
pair_why (Limit way fault) = why_of fault
pair_why (Lost way) = why.Limit
pair_why (Events way) = why.Limit
pair_why (Lag there back least) = why.Limit
pair_why (Ticks there back) = why.Limit
pair_why (Runs runs) = why.Limit
