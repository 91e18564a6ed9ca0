-- The commands of the program by their words, and the bounds of their numbers.
use Rattle.std.specs.Prelude.{◌≤◌, ℕ, List, Option, String, map, string_bytes}
use Rattle.std.specs.Option.{option_or}
use Rattle.std.specs.declared.alloc.Global.{Global}
use Rattle.law_model.specs.session.ValidScript.{IsWithin}
use Rattle.law_rates.specs.Rates.{IsRate}
use Rattle.command_words.specs.CommandLineWords.{taken_as}
use Rattle.command_rooms.specs.declared.walk_command.WalkCommand.{WalkCommand}
use Rattle.command_rooms.specs.declared.walk_command.WalkCommand.TheVariants.{Make, H4, Service}
use Rattle.command_rooms.specs.declared.walk_command.WalkCommand.TheVariants.{Stream}
use Rattle.command_rooms.specs.commands.Walk.{walk_words}
use Rattle.command_rooms.specs.commands.Trace.{trace_words}
use Rattle.command_rooms.specs.commands.Capture.{capture_words}
use Rattle.command_rooms.specs.commands.Gfp.{gfp_words}
use Rattle.command_rooms.specs.commands.Frames.{frames_words}
use Rattle.command_rooms.specs.commands.Fates.{fates_words}
use Rattle.command_rooms.specs.commands.Check.{check_words}
use Rattle.command_rooms.specs.commands.H4.{h4_words}
use Rattle.command_rooms.specs.commands.Service.{service_words}
use Rattle.command_rooms.specs.commands.Decode.{decode_words}
use Rattle.command_rooms.specs.commands.Noise.{noise_words}
use Rattle.command_rooms.specs.commands.Au4.{au4_words}
use Rattle.command_rooms.specs.commands.Channels.{channels_words}
use Rattle.command_rooms.specs.commands.WordsOfPairs.{pair_words, one_way_words, live_pair_words}
use Rattle.command_rooms.specs.commands.Live.{live_words}
use Rattle.command_rooms.specs.commands.Make.{make_words}
use Rattle.command_rooms.specs.commands.Stream.{stream_words}
use Rattle.law_model.specs.Common.{most_drawn_ticks, most_ticks}

abbrev pub command_of : List (List ℕ) → Option WalkCommand
command_of words =
    option_or (option_or (option_or (option_or (option_or (option_or (option_or (option_or (option_or
    (option_or (option_or (option_or (option_or (option_or (option_or (option_or (option_or
    (option_or (walk_words words) (trace_words words))
    (fates_words words))
    (check_words words))
    (h4_words words))
    (service_words words))
    (capture_words words))
    (gfp_words words))
    (frames_words words))
    (decode_words words))
    (noise_words words))
    (au4_words words))
    (channels_words words))
    (pair_words words))
    (one_way_words words))
    (live_words words))
    (live_pair_words words))
    (make_words words))
    (stream_words words)

-- the numbers of a command are within their bounds
abbrev pub Fits : WalkCommand → Type 0
Fits (H4 line) = line ≤ 127
Fits (Service interval) = IsWithin 1 most_ticks interval
Fits (Make number lines ticks) = IsWithin 1 64 lines × IsWithin 1 most_drawn_ticks ticks
Fits (Stream rate) = IsRate rate
Fits other = Unit {0}

abbrev pub command_in : List (String Global) → Option WalkCommand
command_in words = taken_as command_of (map string_bytes words)
