-- A line that an LF ends, and the last one.
use Rattle.std.proofs.Common.{◌<◌, length, arith, rules}
use Rattle.text_lines.proofs.TextLineAndWordLaws.{lines_cut, lines_last}
use Rattle.text_lines.proofs.split_text.next_line.Goals as goal

pub returns-in-Some-clause-some : goal.returns-in-Some-clause-some
returns-in-Some-clause-some c =
    lines_cut c.args.text.now c.in-Some.line.now c.in-Some.rest.now c.without_return.result.now
    c.in-Some.ensures.before c.in-Some.ensures.some c.without_return.ensures

pub returns-in-None-clause-some : goal.returns-in-None-clause-some
returns-in-None-clause-some c =
    let some : 0 < length c.args.text.now = search rules in
    lines_last c.args.text.now _ (omega arith) c.in-None.ensures.none some
