-- The bad numbers are passed first, and then the whole one.
use Rattle.std.proofs.Common.{◌+◌, ◌%◌, refl, sym, subst, arith}
use Rattle.member_path.specs.cell_numbers.Numbers.{NumbersStand}
use Rattle.member_path.proofs.LineNumbersAfterCellLaws.{pass-bads}
use Rattle.member_path.proofs.cell_numbers.line_numbers.LineNumbers.next.Goals as goal

pub returns-then-self-gt0 : goal.returns-then-self-gt0
returns-then-self-gt0 c = record {
  stands = λ place cells t stands.
      let inside = c.self.inside in
      let before = subst (λ v. NumbersStand v place cells t) (sym c.self.view_is) stands in
      pass-bads inside.lock inside.next ((inside.next + 1) % 4096) t inside.bad inside.whole inside.ended place cells
      refl (grind (arith, c.if-self-gt0.true)) before;
}
