-- A comma, or none.
use Rattle.text_scripts.proofs.StreamWordLaws.{parts_cut, parts_last}
use Rattle.text_scripts.proofs.script_read.stream_words.next_part.Goals as goal

pub returns-in-Some-clause-more : goal.returns-in-Some-clause-more
returns-in-Some-clause-more c =
    parts_cut c.args.word.now c.in-Some.part.now c.in-Some.later.now c.in-Some.ensures.before c.in-Some.ensures.some

pub returns-in-None-clause-last : goal.returns-in-None-clause-last
returns-in-None-clause-last c = parts_last c.args.word.now c.in-None.ensures.none
