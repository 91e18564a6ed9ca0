-- Such a line has no faults but those of its number.
use Rattle.std.proofs.Common.{◌∙◌, ℕ, ap, sym}
use Rattle.text_lines.specs.WordsOfLine.{words}
use Rattle.text_scripts.specs.script_read.Drafts.{one_fault}
use Rattle.text_scripts.proofs.StatementAndWordFaultLaws.{number_rest}
use Rattle.text_scripts.proofs.script_read.read_statement.read_number.Goals as goal

pub returns-in-Ok-clause-ok : goal.returns-in-Ok-clause-ok
returns-in-Ok-clause-ok c d = (
  number_rest d c.args.keyword (words c.args.rest.now) c.requires
      ∙ ap (λ (most : ℕ). one_fault c.args.keyword 1 most (words c.args.rest.now)) (sym c.most_of.ensures)
      ∙ c.in-Ok.ensures.ok.0,
  c.number_said.ensures (words c.args.rest.now) c.in-Ok.ensures.ok.1,
)

pub returns-in-Err-clause-err : goal.returns-in-Err-clause-err
returns-in-Err-clause-err c d =
    number_rest d c.args.keyword (words c.args.rest.now) c.requires
    ∙ ap (λ (most : ℕ). one_fault c.args.keyword 1 most (words c.args.rest.now)) (sym c.most_of.ensures)
    ∙ c.in-Err.ensures.err
