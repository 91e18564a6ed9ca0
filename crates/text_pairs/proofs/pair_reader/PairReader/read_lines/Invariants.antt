-- What the lines say that were read of a piece, whatever follows them.
use Rattle.std.proofs.Common.{◌≡◌, ℕ, ◌≤◌, ◌+◌, ◌-◌, List, ◌++◌, length, take, drop}
use Rattle.text_pairs.specs.Pieces.{line_at, said_after, IsPairReader}
use Rattle.text_pairs.proofs.pair_reader.PairReader.read_lines.Given as goal

abbrev pub invariant-loop-line : goal.invariant-loop-line
invariant-loop-line l = record {
  said : (more : List ℕ) → said_after l.fn.self (take (length l.fn.piece - length l.rest) l.fn.piece ++ more)
      ≡ said_after l.reader more;
  rest : l.rest ≡ drop (length l.fn.piece - length l.rest) l.fn.piece;
  within : length l.rest ≤ length l.fn.piece;
  made : IsPairReader l.reader;
  count : line_at l.reader + length l.rest ≤ line_at l.fn.self + length l.fn.piece;
}

abbrev pub decreases-loop-line : goal.decreases-loop-line
decreases-loop-line l = length l.rest
