-- One number more is bad.
use Rattle.member_path.proofs.LineNumbersAfterCellLaws.{Stands-fail}
use Rattle.member_path.proofs.cell_numbers.line_numbers.LineNumbers.fail.Goals as goal

pub returns : goal.returns
returns c = record {
  stands = λ place cells t stands.
      Stands-fail _ c.args.self.now place cells t c.self.view_is c.requires.open stands c.fail.new.self c.fail.ensures;
}
