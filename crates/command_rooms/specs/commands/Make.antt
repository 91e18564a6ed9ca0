-- `make`: the walk of a load from a number, and what is written of it.
use Rattle.std.specs.Prelude.{◌≡◌, ℕ, ◌*◌, ◌≤◌, ◌==◌, ◌&&◌, min, List, ◌++◌, sum, length, codes, decimal, bytes_eq}
use Rattle.std.specs.Prelude.{Option, Some, None, if◌then◌else◌, sum_by}
use Rattle.law_model.specs.Common.{leg_of, Counts, longest_frame, most_drawn_ticks}
use Rattle.law_model.specs.declared.script_types.Script.{Script}
use Rattle.law_model.specs.declared.session_totals.Totals.{Totals}
use Rattle.text_report.specs.ReportLines.{total_text}
use Rattle.text_scripts.specs.make_load.Load.{load}
use Rattle.command_words.specs.CommandLineWords.{number_in}
use Rattle.command_parts.specs.Common.{Answer, writes}
use Rattle.command_rooms.specs.declared.walk_command.WalkCommand.{WalkCommand}
use Rattle.command_rooms.specs.declared.walk_command.WalkCommand.TheVariants.{Make}
use Rattle.command_rooms.specs.commands.Walk.{word_at}
use Rattle.law_walk.specs.Common.{delivered_of, totals_of}
use Rattle.law_headline.specs.WalkTexts.{counts_in}

-- the load of three numbers: below 2^64, 1 to 64, and 1 to 1,000,000
abbrev pub load_of : Option ℕ → Option ℕ → Option ℕ → Option WalkCommand
load_of (Some number) (Some lines) (Some ticks) = Some (Make number lines ticks)
load_of (Some number) (Some lines) None = None
load_of (Some number) None ticks = None
load_of None lines ticks = None

abbrev pub make_words : List (List ℕ) → Option WalkCommand
make_words words =
    if length words == 4 && bytes_eq (word_at 0 words) (codes "make") then
    load_of (number_in 0 18446744073709551615 (word_at 1 words)) (number_in 1 64 (word_at 2 words))
    (number_in 1 most_drawn_ticks (word_at 3 words))
    else None

-- how many octets some frames have, and the sum of these
abbrev pub octet_count : List (List ℕ) → ℕ
octet_count frames = sum_by (λ (frame : List ℕ). length frame) frames

abbrev pub octet_sum : List (List ℕ) → ℕ
octet_sum frames = sum_by (λ (frame : List ℕ). sum frame) frames

-- what was made, and how many octets were delivered
abbrev pub made_text : ℕ → ℕ → List ℕ
made_text lines ticks = codes "made lines " ++ decimal lines ++ codes " ticks " ++ decimal ticks ++ codes "\n"

abbrev pub sum_text : ℕ → ℕ → List ℕ
sum_text octets total = codes "octets " ++ decimal octets ++ codes " sum " ++ decimal total ++ codes "\n"

-- the three lines
abbrev pub lines_text : ℕ → ℕ → Totals → ℕ → ℕ → List ℕ
lines_text lines ticks totals octets total = made_text lines ticks ++ total_text totals ++ sum_text octets total

-- those of a script after some counts
abbrev pub sums_text : Script → Counts → List ℕ
sums_text script s =
    lines_text script.config.lines script.config.ticks (totals_of (leg_of script) s)
    (octet_count (delivered_of (leg_of script) s.rows))
    (octet_sum (delivered_of (leg_of script) s.rows))

-- those of the load of a number, whose walk drains
abbrev pub make_text : ℕ → ℕ → ℕ → List ℕ
make_text number lines ticks = sums_text (load number lines ticks) (counts_in (load number lines ticks))

abbrev pub make_answer : ℕ → ℕ → ℕ → Answer
make_answer number lines ticks = writes (make_text number lines ticks)

-- ---- as private clauses say it
-- the octets of some frames of at most 9,600 octets are counted and added up, up to 2^64 - 1
pub record HasSummed (count add : ℕ) (frames : List (List ℕ)) : Type 0 where
  pub octets : count ≡ min (octet_count frames) 18446744073709551615
  pub total : add ≡ min (octet_sum frames) 18446744073709551615
  pub few : octet_count frames ≤ longest_frame * length frames
  pub small : octet_sum frames ≤ 2448000 * length frames
