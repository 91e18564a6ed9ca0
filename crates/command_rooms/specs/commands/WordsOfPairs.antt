-- The words of the commands of both ways.
use Rattle.std.specs.Prelude.{ℕ, ◌==◌, ◌&&◌, Bool, List, length, bytes_eq, codes, Option, Some, None}
use Rattle.std.specs.Prelude.{if◌then◌else◌}
use Rattle.law_pair.specs.declared.pair_events.Way.TheVariants.{There, Back}
use Rattle.walk_live.specs.declared.asked.Asked.TheVariants.{Nothing, Steps, Members}
use Rattle.command_rooms.specs.declared.walk_command.WalkCommand.{WalkCommand}
use Rattle.command_rooms.specs.declared.walk_command.WalkCommand.TheVariants.{Pair, OneWay, LivePair}
use Rattle.command_rooms.specs.commands.Live.{asks}
use Rattle.command_rooms.specs.commands.Walk.{word_at, is_word}

abbrev pub pair_words : List (List ℕ) → Option WalkCommand
pair_words words = if is_word (codes "pair") words then Some Pair else None

-- two words, of which the first is `pair`
abbrev pub is_way : List ℕ → List (List ℕ) → Bool
is_way way words = length words == 2 && (bytes_eq (word_at 0 words) (codes "pair") && bytes_eq (word_at 1 words) way)

abbrev pub one_way_words : List (List ℕ) → Option WalkCommand
one_way_words words =
    if is_way (codes "there") words then Some (OneWay There)
    else if is_way (codes "back") words then Some (OneWay Back) else None

-- three words, of which this is the third
abbrev pub asks_pair : List ℕ → List (List ℕ) → Bool
asks_pair what words =
    length words == 3 && (bytes_eq (word_at 0 words) (codes "live")
    && (bytes_eq (word_at 1 words) (codes "pair") && bytes_eq (word_at 2 words) what))

-- with nothing of decision steps, with a line for each, or with what they change and how many frames wait
abbrev pub live_pair_words : List (List ℕ) → Option WalkCommand
live_pair_words words =
    if asks (codes "pair") words then Some (LivePair Nothing)
    else if asks_pair (codes "trace") words then Some (LivePair Steps)
    else if asks_pair (codes "told") words then Some (LivePair Members) else None
