-- A word that a space ends, and the last one.
use Rattle.std.proofs.Common.{◌<◌, ◌≡◌, length, arith, rules}
use Rattle.text_lines.proofs.TextLineAndWordLaws.{words_cut, words_last, words_nothing}
use Rattle.text_lines.proofs.split_words.next_word.Goals as goal

pub returns-then-is_empty-clause-none : goal.returns-then-is_empty-clause-none
returns-then-is_empty-clause-none c =
    let none : length c.trim_start-text.result.now ≡ 0 = search rules in
    words_nothing c.args.line.now c.trim_start-text.result.now c.trim_start-text.ensures.words none

pub returns-in-Some-clause-some : goal.returns-in-Some-clause-some
returns-in-Some-clause-some c =
    let some : 0 < length c.trim_start-text.result.now = search rules in
    words_cut c.args.line.now c.trim_start-text.result.now c.in-Some.word.now c.in-Some.rest.now
    c.trim_start-text.ensures.words some c.in-Some.ensures.before c.in-Some.ensures.some c.trim_start-text.ensures.first

pub returns-in-None-clause-some : goal.returns-in-None-clause-some
returns-in-None-clause-some c =
    let some : 0 < length c.trim_start-text.result.now = search rules in
    words_last c.args.line.now c.trim_start-text.result.now _
    (omega arith) c.trim_start-text.ensures.words some c.in-None.ensures.none
