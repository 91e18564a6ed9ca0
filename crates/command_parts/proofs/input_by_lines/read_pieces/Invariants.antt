-- What was taken of the input, and that all of it was read but the rest.
use Rattle.command_parts.proofs.SourceTextAndStopLaws.{IsReading}
use Rattle.command_parts.proofs.input_by_lines.read_pieces.Given as goal

abbrev pub invariant-loop-n : goal.invariant-loop-n
invariant-loop-n g l =
    IsReading g.R.PieceReader.Reads g.S.ByteSource.left g.S.ByteSource.faults l.fn.source l.source l.reader l.rest.items
    l.room

abbrev pub decreases-loop-n : goal.decreases-loop-n
decreases-loop-n g l = l.room
