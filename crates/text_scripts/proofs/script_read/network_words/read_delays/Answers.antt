-- The first fault of the delays, and their values.
use Rattle.std.proofs.Common.{◌≡◌, ◌∙◌, ◌+◌, ◌++◌, ℕ, List, [], length, map, ap, sym, rules, append-nil}
use Rattle.text_lines.specs.WordsOfLine.{words, number_of}
use Rattle.text_scripts.specs.declared.script_read.script_draft.Statement.TheVariants as says
use Rattle.text_scripts.proofs.StatementAndWordFaultLaws.{delays_said, delay_fails, line_faults}
use Rattle.text_scripts.proofs.script_read.network_words.read_delays.Goals as goal

pub returns-in-Err-clause-err : goal.returns-in-Err-clause-err
returns-in-Err-clause-err c =
    let count : length (words c.args.rest.now) ≡ c.args.lines = search rules in
    delays_said c.args.lines (words c.args.rest.now) count ∙ c.loop-word.invariant.faults
    ∙ delay_fails _ (length c.loop-word.delays.items + 2) (words c.loop-word.further.now)
    (words c.in-Some.later.now) c.in-Some.word.now c.in-Err.fault c.in-Some.ensures.some
    (search rules) c.in-Err.ensures.err

pub returns-clause-ok : goal.returns-clause-ok
returns-clause-ok c =
    let count : length (words c.args.rest.now) ≡ c.args.lines = search rules in
    let none : words c.loop-word.further.now ≡ [] = c.in_default.ensures.none in (
      delays_said c.args.lines (words c.args.rest.now) count ∙ c.loop-word.invariant.faults
          ∙ ap (λ (ws : List (List ℕ)). line_faults (length c.loop-word.delays.items + 2) ws) none,
      ap says.Delays (sym (c.loop-word.invariant.values
          ∙ ap (λ (ws : List (List ℕ)). c.loop-word.delays.items ++ map number_of ws) none
          ∙ append-nil c.loop-word.delays.items)),
    )
