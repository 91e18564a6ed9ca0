-- What its lines say with this one.
use Rattle.std.proofs.Common.{ap, sym, subst, ◌∙◌}
use Rattle.text_lines.specs.WordsOfLine.{words}
use Rattle.text_scripts.specs.declared.script_read.script_draft.Statement.{Statement}
use Rattle.text_scripts.specs.script_read.Statements.{after}
use Rattle.text_scripts.specs.script_read.Drafts.{IsDraft, Fits}
use Rattle.text_scripts.proofs.ScriptDraftGrowthLaws.{IsDraft-after}
use Rattle.text_scripts.proofs.ScriptLineAndFirstFaultLaws.{stop_told}
use Rattle.text_scripts.proofs.StatementAndWordFaultLaws.{fits_words}
use Rattle.text_scripts.proofs.script_read.script_reader.ScriptReader.take_line.Goals as goal

pub returns-in-Err-clause-fault : goal.returns-in-Err-clause-fault
returns-in-Err-clause-fault c = stop_told _ _ _ _ c.fault_of.ensures c.in-Err.ensures.err

pub add-requires-clause-fits : goal.add-requires-clause-fits
add-requires-clause-fits c =
    subst (λ (said : Statement). Fits c.args.self.now.draft said) (sym c.in-Ok.ensures.ok.1)
    (fits_words c.args.self.now.draft (words c.args.line.now) c.requires.reader.draft c.in-Ok.ensures.ok.0)

pub returns-in-Ok-add-clause-reader : goal.returns-in-Ok-add-clause-reader
returns-in-Ok-add-clause-reader c =
    let fits = fits_words c.args.self.now.draft (words c.args.line.now) c.requires.reader.draft c.in-Ok.ensures.ok.0 in
    record {
      draft = subst IsDraft (sym c.in-Ok-add.ensures)
          (IsDraft-after c.args.self.now.number c.args.self.now.draft c.in-Ok.said c.requires.reader.draft
          (subst (λ (said : Statement). Fits c.args.self.now.draft said) (sym c.in-Ok.ensures.ok.1) fits));
    }

pub returns-in-Ok-add-clause-adds : goal.returns-in-Ok-add-clause-adds
returns-in-Ok-add-clause-adds c =
    c.in-Ok-add.ensures ∙ ap (λ (said : Statement). after c.args.self.now.number c.args.self.now.draft said) c.in-Ok.ensures.ok.1
