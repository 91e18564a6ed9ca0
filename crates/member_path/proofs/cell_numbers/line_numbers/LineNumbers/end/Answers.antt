-- The end is kept.
use Rattle.member_path.proofs.LineNumbersAfterCellLaws.{Stands-end}
use Rattle.member_path.proofs.cell_numbers.line_numbers.LineNumbers.end.Goals as goal

pub returns : goal.returns
returns c = record {
  stands = λ place cells t stands.
      Stands-end _ c.args.self.now place cells t c.self.view_is c.requires.open stands;
}
