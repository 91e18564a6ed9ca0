-- `stream`: the script lines of a client that sends at a rate.
use Rattle.std.specs.Prelude.{ℕ, ◌==◌, ◌&&◌, nat_le, nat_lt, List, [], ◌∷◌, ◌++◌, length, map, drop, codes}
use Rattle.std.specs.Prelude.{bytes_eq, Option, Some, None, if◌then◌else◌}
use Rattle.std.specs.List.{slice_split}
use Rattle.std.specs.Option.{option_map}
use Rattle.law_model.specs.Common.{longest_input, shortest_frame, longest_frame, most_ticks}
use Rattle.law_rates.specs.Limits.{most_sizes, most_mbits}
use Rattle.law_rates.specs.declared.rate_frames.Rate.{Rate}
use Rattle.text_scripts.specs.rate_load.RateTexts.{rate_text}
use Rattle.command_words.specs.CommandLineWords.{number_in}
use Rattle.command_parts.specs.Common.{Answer, writes, exceeds}
use Rattle.command_rooms.specs.declared.walk_command.WalkCommand.{WalkCommand}
use Rattle.command_rooms.specs.declared.walk_command.WalkCommand.TheVariants.{Stream}
use Rattle.command_rooms.specs.commands.Walk.{word_at}

-- ---- sizes
-- all of some numbers, where each is one
abbrev pub all_of : List (Option ℕ) → Option (List ℕ)
all_of [] = Some []
all_of (None ∷ others) = None
all_of (Some n ∷ others) = option_map (λ ns. n ∷ ns) (all_of others)

-- no more of them than a rate has
abbrev pub few_of : Option (List ℕ) → Option (List ℕ)
few_of None = None
few_of (Some sizes) = if nat_le (length sizes) most_sizes then Some sizes else None

-- the sizes of a word: 1 to 16 numbers of 64 to 9,600 octets with commas between
abbrev pub sizes_in : List ℕ → Option (List ℕ)
sizes_in word = few_of (all_of (map (number_in shortest_frame longest_frame) (slice_split (λ c. c == 44) word)))

-- a size behind others, where it is one and there is room for it
abbrev pub with_size : List ℕ → Option ℕ → Option (List ℕ)
with_size sizes None = None
with_size sizes (Some size) = if nat_le most_sizes (length sizes) then None else Some (sizes ++ size ∷ [])

-- ---- the rate
-- the ticks of two numbers, the first of them before the second
abbrev pub ticks_of : Option ℕ → Option ℕ → Option (ℕ × ℕ)
ticks_of (Some first) (Some end) = if nat_lt first end then Some (first, end) else None
ticks_of (Some first) None = None
ticks_of None end = None

-- the rate of sizes, two numbers and two ticks
abbrev pub rate_of : Option (List ℕ) → Option ℕ → Option (ℕ × ℕ) → Option ℕ → Option WalkCommand
rate_of (Some sizes) (Some mbits) (Some ticks) (Some number) =
    Some (Stream (record { sizes = sizes; mbits = mbits; first = ticks.0; end = ticks.1; number = number }))
rate_of (Some sizes) (Some mbits) (Some ticks) None = None
rate_of (Some sizes) (Some mbits) None number = None
rate_of (Some sizes) None ticks number = None
rate_of None mbits ticks number = None

-- sizes, 1 to 400,000 megabits a second, from a tick to before another of at most 100,000,000, and a number below 2^64
abbrev pub numbers_in : List (List ℕ) → Option WalkCommand
numbers_in ws =
    if length ws == 5 then
    rate_of (sizes_in (word_at 0 ws)) (number_in 1 most_mbits (word_at 1 ws))
    (ticks_of (number_in 0 most_ticks (word_at 2 ws)) (number_in 0 most_ticks (word_at 3 ws)))
    (number_in 0 18446744073709551615 (word_at 4 ws))
    else None

abbrev pub stream_words : List (List ℕ) → Option WalkCommand
stream_words words =
    if nat_le 1 (length words) && bytes_eq (word_at 0 words) (codes "stream") then numbers_in (drop 1 words) else None

-- the lines, where an input may have as many octets
abbrev pub stream_answer : Rate → Answer
stream_answer rate = if nat_lt longest_input (length (rate_text rate)) then exceeds else writes (rate_text rate)
