-- `live`: a live text is answered as it comes.
use Rattle.std.specs.Prelude.{ℕ, ◌==◌, ◌&&◌, Bool, List, length, bytes_eq, codes, Option, Some, None}
use Rattle.std.specs.Prelude.{if◌then◌else◌}
use Rattle.command_parts.specs.Common.{Talk}
use Rattle.command_parts.specs.Dialogue.{talk_of}
use Rattle.walk_live.specs.declared.asked.Asked.{Asked}
use Rattle.walk_live.specs.declared.asked.Asked.TheVariants.{Nothing, Steps, Members}
use Rattle.walk_live.specs.LiveReplies.{live_dialogue}
use Rattle.command_rooms.specs.declared.walk_command.WalkCommand.{WalkCommand}
use Rattle.command_rooms.specs.declared.walk_command.WalkCommand.TheVariants.{Live}
use Rattle.command_rooms.specs.commands.Walk.{word_at, is_word}

-- two words, of which this is the second
abbrev pub asks : List ℕ → List (List ℕ) → Bool
asks what words =
    length words == 2 && (bytes_eq (word_at 0 words) (codes "live") && bytes_eq (word_at 1 words) what)

-- with nothing of decision steps, with a line for each, or with what they change and how many frames wait
abbrev pub live_words : List (List ℕ) → Option WalkCommand
live_words words =
    if is_word (codes "live") words then Some (Live Nothing)
    else if asks (codes "trace") words then Some (Live Steps)
    else if asks (codes "told") words then Some (Live Members) else None

abbrev pub live_talk : Asked → Talk
live_talk asked = talk_of (live_dialogue asked)
