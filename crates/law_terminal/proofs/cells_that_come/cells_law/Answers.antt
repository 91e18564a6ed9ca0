-- What has come of the lines.
use Rattle.law_terminal.proofs.ArrivedCellAndRowLaws.{given-whole, has-packets, tells-row}
use Rattle.law_terminal.proofs.SessionCourseLaws.{comes-first}
use Rattle.law_terminal.proofs.cells_that_come.cells_law.Goals as goal

pub returns : goal.returns
returns c = record {
  made = given-whole;
  first = comes-first;
  packets = λ scenario returns frames k cells lines come. has-packets scenario returns lines frames cells come k;
  row = λ scenario returns frames t cells lines come. tells-row scenario returns lines frames cells come t;
}
