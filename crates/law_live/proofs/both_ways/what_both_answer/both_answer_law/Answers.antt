-- By what each saying answers, one behind the other.
use Rattle.std.proofs.Common.{ap, ◌∙◌}
use Rattle.std.proofs.lemmas.Grind.{flat_map-append}
use Rattle.law_pair.specs.Common.{pair_begin, pair_plan}
use Rattle.law_live.specs.Common.{pair_answer_text, pair_answers, pair_answers_from, pair_answers_text, pair_counts}
use Rattle.law_live.proofs.BothWaysAnswerLaws.{answers-got, answers-more, answers-refused, answers-steps, answers-times}
use Rattle.law_live.proofs.BothWaysAnswerLaws.{counts-more}
use Rattle.law_live.proofs.both_ways.what_both_answer.both_answer_law.Goals as goal

pub returns-clause-more : goal.returns-clause-more
returns-clause-more c = λ one other said more. answers-more one other (pair_begin (pair_plan one other)) said more

pub returns-clause-text : goal.returns-clause-text
returns-clause-text c = λ one other said more tells.
    ap (pair_answers_text tells) (answers-more one other (pair_begin (pair_plan one other)) said more)
    ∙ flat_map-append (pair_answer_text tells) (pair_answers one other said)
    (pair_answers_from one other (pair_counts one other said) more)

pub returns-clause-counts : goal.returns-clause-counts
returns-clause-counts c = λ one other said more.
    counts-more (pair_plan one other) (pair_begin (pair_plan one other)) said more

pub returns-clause-got : goal.returns-clause-got
returns-clause-got c = λ one other said way. answers-got one other said way

pub returns-clause-steps : goal.returns-clause-steps
returns-clause-steps c = λ one other said way. answers-steps one other said way

pub returns-clause-times : goal.returns-clause-times
returns-clause-times c = λ one other said more pair. answers-times one other said pair more

pub returns-clause-refused : goal.returns-clause-refused
returns-clause-refused c = λ there back said one other way pair well agrees.
    answers-refused one other said pair there back well agrees way
