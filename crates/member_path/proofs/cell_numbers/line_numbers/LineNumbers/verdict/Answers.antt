-- Nothing is said of the next number where all was passed.
use Rattle.std.proofs.Common.{sym, subst, arith}
use Rattle.member_path.specs.cell_numbers.Numbers.{Numbers, IsOpen, NumbersStand}
use Rattle.member_path.proofs.LineNumbersAfterCellLaws.{says-nothing}
use Rattle.member_path.proofs.cell_numbers.line_numbers.LineNumbers.verdict.Goals as goal

pub returns-else-self-2-clause-told : goal.returns-else-self-2-clause-told
returns-else-self-2-clause-told c cells t stands =
    let inside = c.self.inside in
    let old : Numbers = record {
      lock = inside.lock;
      next = inside.next;
      bad = inside.bad;
      whole = inside.whole;
      ended =
          inside.ended;
    } in
    let before : NumbersStand old c.args.place.now cells t =
    subst (λ v. NumbersStand v c.args.place.now cells t) (sym c.self.view_is) stands in
    let none = c.if-self-gt0.false in
    let is : IsOpen old = record { bad = omega arith; whole = c.if-self-2.false; ended = c.if-self.false } in
    says-nothing old c.args.place.now cells t is before
