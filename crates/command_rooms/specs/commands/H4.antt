-- `h4`: a script's walk, and the H4 octets that its source sends on a line, as `decode` reads them.
use Rattle.std.specs.Prelude.{ℕ, ◌+◌, ◌-◌, ◌*◌, ◌/◌, ◌==◌, ◌&&◌, nat_lt, List, ◌++◌, length, take, drop, map, codes}
use Rattle.std.specs.Prelude.{decimal, bytes_eq, Option, Some, None, Ok, if◌then◌else◌}
use Rattle.std.specs.List.{flat_map, range_with_len}
use Rattle.hex.specs.Hex.{encode_lower}
use Rattle.law_model.specs.Common.{leg_of, Found, forward_packet}
use Rattle.law_model.specs.declared.script_types.Script.{Script}
use Rattle.law_walk.specs.Common.{sent_at, table_in}
use Rattle.law_headline.specs.WalkTexts.{counts_in}
use Rattle.command_words.specs.CommandLineWords.{number_in}
use Rattle.command_parts.specs.Common.{Answer, writes, refuses, script_answer}
use Rattle.command_parts.specs.declared.stop_and_status.Refusal.TheVariants.{Limit}
use Rattle.command_rooms.specs.declared.walk_command.WalkCommand.{WalkCommand}
use Rattle.command_rooms.specs.declared.walk_command.WalkCommand.TheVariants.{H4}
use Rattle.command_rooms.specs.commands.Walk.{word_at}

-- the command by the number of a line
abbrev pub line_of : Option ℕ → Option WalkCommand
line_of (Some line) = Some (H4 line)
line_of None = None

-- 0 to 127, the numbers that a line may have
abbrev pub h4_words : List (List ℕ) → Option WalkCommand
h4_words words =
    if length words == 2 && bytes_eq (word_at 0 words) (codes "h4")
    then line_of (number_in 0 127 (word_at 1 words)) else None

-- ---- the octets
-- of the containers that a line is sent in the first frames
abbrev pub h4_octets : Script → ℕ → ℕ → List ℕ
h4_octets script line frames = map (λ t. (sent_at (leg_of script) line t).h4) (range_with_len 0 frames)

-- the line of text of multiframe m of MFI1: its sixteen octets, or those that are left in the last one
abbrev pub multiframe_text : List ℕ → ℕ → List ℕ
multiframe_text octets m = encode_lower (take 16 (drop (16 * m) octets)) ++ codes "\n"

unfoldable pub h4_text : List ℕ → List ℕ
h4_text octets = flat_map (multiframe_text octets) (range_with_len 0 ((length octets + 15) / 16))

-- ---- the answer
-- the script has no such line
abbrev pub no_line_text : ℕ → ℕ → List ℕ
no_line_text line lines =
    codes "fault: h4 line " ++ decimal line ++ codes "\nhelp: LINE is from 0 to " ++ decimal (lines - 1) ++ codes "\n"

-- those of a line in all frames of the walk
abbrev pub h4_of : ℕ → Script → Answer
h4_of line script =
    if nat_lt line script.config.lines then writes (h4_text (h4_octets script line (counts_in script).ticks))
    else refuses Limit (no_line_text line script.config.lines)

abbrev pub h4_answer : ℕ → List ℕ → Answer
h4_answer line = script_answer (h4_of line)

-- ---- what is read of the octets
-- packet k of a line, by the place of its first octet: it says the table of decision step k, which `trace` tells
abbrev pub sent_found : Script → ℕ → ℕ → Found
sent_found script line k = (16 * k + 8, Ok (forward_packet (table_in (leg_of script) (16 * k + 9)) line k))

-- those whose sixteen octets are all sent in the first frames
abbrev pub sent_packets : Script → ℕ → ℕ → List Found
sent_packets script line frames = map (sent_found script line) (range_with_len 0 ((frames - 8) / 16))
