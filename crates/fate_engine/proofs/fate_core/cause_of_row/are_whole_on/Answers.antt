-- A line that isn't configured has no window.
use Rattle.std.proofs.Common.{◌≤◌, [], length, refl, sym, ◌∙◌, ap, arith, le-leb}
use Rattle.std.proofs.lemmas.List.{get_or_past}
use Rattle.fate_engine.specs.Common.{whole_in}
use Rattle.fate_engine.proofs.SpoiledRunAndWholeContainerLaws.{none-tells}
use Rattle.fate_engine.proofs.fate_core.cause_of_row.are_whole_on.Goals as goal

pub returns-then-line-len : goal.returns-then-line-len
returns-then-line-len c =
    let lists = c.args.windows.now in
    let high : length lists ≤ c.args.line =
    omega (arith, c.if-line-len.true, c.len.ensures, ap length c.windows.view_is, c.from-line.ensures) in
    le-leb c.len.result c.from-line.result c.if-line-len.true
    ∙ sym (ap (λ list. whole_in list c.args.from c.args.count) (get_or_past lists c.args.line [] high)
    ∙ none-tells [] c.args.from c.args.count refl)
