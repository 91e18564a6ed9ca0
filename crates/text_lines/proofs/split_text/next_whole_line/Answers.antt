-- A line that an LF ends.
use Rattle.text_lines.proofs.TextLineAndWordLaws.{lines_whole, rest_of}
use Rattle.text_lines.proofs.split_text.next_whole_line.Goals as goal

pub returns-in-Some-clause-some : goal.returns-in-Some-clause-some
returns-in-Some-clause-some c more =
    lines_whole c.args.text.now c.in-Some.line.now c.in-Some.rest.now c.without_return.result.now more
    c.in-Some.ensures.before c.in-Some.ensures.some c.without_return.ensures

pub returns-in-Some-clause-rest : goal.returns-in-Some-clause-rest
returns-in-Some-clause-rest c = rest_of c.args.text.now c.in-Some.line.now c.in-Some.rest.now c.in-Some.ensures.some
