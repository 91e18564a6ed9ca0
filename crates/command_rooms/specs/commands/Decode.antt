-- `decode`: the control packets in the H4 octets of a line.
use Rattle.std.specs.Prelude.{ℕ, List, codes, Option, Some, None, Result, Ok, Err, if◌then◌else◌}
use Rattle.law_model.specs.Common.{decoded_text}
use Rattle.text_lines.specs.declared.text_faults.LineKind.TheVariants.{Hex}
use Rattle.command_parts.specs.Common.{Answer, writes, refuses, line_text}
use Rattle.command_parts.specs.declared.stop_and_status.Refusal.TheVariants.{Line}
use Rattle.command_rooms.specs.declared.walk_command.WalkCommand.{WalkCommand}
use Rattle.command_rooms.specs.declared.walk_command.WalkCommand.TheVariants.{Decode}
use Rattle.command_rooms.specs.commands.HexText.{hex_text_of}
use Rattle.command_rooms.specs.commands.Walk.{is_word}

abbrev pub decode_words : List (List ℕ) → Option WalkCommand
decode_words words = if is_word (codes "decode") words then Some Decode else None

-- how a line is written
abbrev pub decode_help : List ℕ
decode_help = codes "a line is an even number of hexadecimal digits"

-- of the octets that lines of hexadecimal digits say, or of the number of the first line that has none
abbrev pub decoded : Result (List ℕ) ℕ → Answer
decoded (Ok octets) = writes (decoded_text octets)
decoded (Err number) = refuses Line (line_text number Hex decode_help)

abbrev pub decode_answer : List ℕ → Answer
decode_answer text = decoded (hex_text_of text)
