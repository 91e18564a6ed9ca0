-- The program's commands: with which tasks, and which walk is handed back.
use Rattle.std.specs.Prelude.{◌≡◌, ℕ, ◌++◌, List, Option, Some, None, String, codes}
use Rattle.std.specs.declared.alloc.Global.{Global}
use Rattle.text_scripts.specs.make_load.Load.{load}
use Rattle.command_parts.specs.Common.{Task, none, reads, makes, talks, Lent}
use Rattle.walk_engine.specs.Common.{Walked}
use Rattle.command_rooms.specs.declared.walk_command.WalkCommand.{WalkCommand}
use Rattle.command_rooms.specs.declared.walk_command.WalkCommand.TheVariants.{Walk, Trace, Fates, Capture, Gfp}
use Rattle.command_rooms.specs.declared.walk_command.WalkCommand.TheVariants.{Frames, Decode, Noise, Au4, Channels}
use Rattle.command_rooms.specs.declared.walk_command.WalkCommand.TheVariants.{Pair, Make, Check, H4, Service}
use Rattle.command_rooms.specs.declared.walk_command.WalkCommand.TheVariants.{Live, LivePair, OneWay, Stream}
use Rattle.command_rooms.specs.commands.Walk.{walk_answer}
use Rattle.command_rooms.specs.commands.Trace.{trace_answer}
use Rattle.command_rooms.specs.commands.Capture.{capture_answer}
use Rattle.command_rooms.specs.commands.Gfp.{gfp_answer}
use Rattle.command_rooms.specs.commands.Frames.{frames_answer}
use Rattle.command_rooms.specs.commands.Fates.{fates_answer}
use Rattle.command_rooms.specs.commands.Check.{check_answer}
use Rattle.command_rooms.specs.commands.H4.{h4_answer}
use Rattle.command_rooms.specs.commands.Service.{service_answer}
use Rattle.command_rooms.specs.commands.Decode.{decode_answer}
use Rattle.command_rooms.specs.commands.Noise.{noise_answer}
use Rattle.command_rooms.specs.commands.Au4.{au4_answer}
use Rattle.command_rooms.specs.commands.Channels.{channels_answer}
use Rattle.command_walk.specs.commands.OneWay.{one_way_answer}
use Rattle.text_pairs.specs.ReportsOfWays.{pair_reply}
use Rattle.command_rooms.specs.commands.Live.{live_talk}
use Rattle.command_walk.specs.commands.LivePair.{live_pair_talk}
use Rattle.command_rooms.specs.commands.Make.{make_answer}
use Rattle.command_rooms.specs.commands.Stream.{stream_answer}
use Rattle.command_rooms.specs.CommandOfWords.{command_in}
use Rattle.command_rooms.specs.HandedWalk.{IsWalkOf, HandsScript}

abbrev pub usage : List ℕ
usage =
    codes "usage: vcat_walk walk, trace, fates, check, h4 LINE, service INTERVAL, capture, gfp, frames, decode, noise, "
    ++ codes "au4, channels, pair, pair there, pair back, live, live trace, live told, live pair, live pair trace, "
    ++ codes "live pair told, make NUMBER LINES TICKS, or stream OCTETS MBITS FIRST END NUMBER\n"

-- ---- of each command
abbrev pub task_at : WalkCommand → Task
task_at Walk = reads walk_answer
task_at Trace = reads trace_answer
task_at Fates = reads fates_answer
task_at Check = reads check_answer
task_at (H4 line) = reads (h4_answer line)
task_at (Service interval) = reads (service_answer interval)
task_at Capture = reads capture_answer
task_at Gfp = reads gfp_answer
task_at Frames = reads frames_answer
task_at Decode = reads decode_answer
task_at Noise = reads noise_answer
task_at Au4 = reads au4_answer
task_at Channels = reads channels_answer
task_at Pair = reads pair_reply
task_at (OneWay way) = reads (one_way_answer way)
task_at (Live asked) = talks (live_talk asked)
task_at (LivePair asked) = talks (live_pair_talk asked)
task_at (Make number lines ticks) = makes (make_answer number lines ticks)
task_at (Stream load) = makes (stream_answer load)

abbrev pub HandsBack : {S : Type 0} → Lent S → Option Walked → WalkCommand → Type 0
HandsBack source walk Walk = HandsScript source walk
HandsBack source walk Trace = HandsScript source walk
HandsBack source walk Fates = HandsScript source walk
HandsBack source walk Check = HandsScript source walk
HandsBack source walk (H4 line) = HandsScript source walk
HandsBack source walk (Service interval) = HandsScript source walk
HandsBack source walk Capture = HandsScript source walk
HandsBack source walk Gfp = HandsScript source walk
HandsBack source walk (Make number lines ticks) = IsWalkOf (load number lines ticks) walk
HandsBack source walk other = walk ≡ None

-- they run the script that the input says, and write its report
abbrev pub RunsScript : WalkCommand → Type 0
RunsScript Walk = Unit {0}
RunsScript Trace = Unit {0}
RunsScript other = ⊥

-- ---- of the words of a command line
abbrev pub task_for : Option WalkCommand → Task
task_for None = none usage
task_for (Some command) = task_at command

abbrev pub task_of : List (String Global) → Task
task_of words = task_for (command_in words)
