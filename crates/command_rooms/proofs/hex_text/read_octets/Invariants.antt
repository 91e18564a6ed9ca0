-- What the lines read so far say; the rest of the text is read from there.
use Rattle.std.specs.Str.Lines.{lines}
use Rattle.std.proofs.Common.{vec_capacity, ◌≡◌, ◌/◌, ◌+◌, ◌*◌, ◌≤◌, length, vec_len}
use Rattle.text_lines.specs.Language.{said_from, said_by}
use Rattle.command_rooms.specs.commands.HexText.{hex_lines}
use Rattle.command_rooms.proofs.hex_text.read_octets.Given as goal

abbrev pub invariant-loop-line : goal.invariant-loop-line
invariant-loop-line l = record {
  value : said_by hex_lines l.fn.text ≡ said_from hex_lines l.number l.octets.items (lines l.rest);
  room : length l.fn.text / 2 ≤ vec_capacity l.octets;
  size : 2 * vec_len l.octets + length l.rest ≤ length l.fn.text;
  small : l.number + length l.rest ≤ length l.fn.text + 1;
}

abbrev pub decreases-loop-line : goal.decreases-loop-line
decreases-loop-line l = length l.rest
