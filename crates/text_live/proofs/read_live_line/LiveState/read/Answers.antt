-- What each of the lines says.
use Rattle.std.proofs.Common.{sym, subst}
use Rattle.text_live.specs.declared.live_keyword.LiveKeyword.{LiveKeyword}
use Rattle.text_live.specs.declared.live_line.LiveLine.TheVariants as line
use Rattle.text_live.specs.LiveReaderStands.{Reads}
use Rattle.text_live.proofs.read_live_line.LiveState.read.Goals as goal

pub returns-in_ok-cut-in-Cut-clause-ok : goal.returns-in_ok-cut-in-Cut-clause-ok
returns-in_ok-cut-in-Cut-clause-ok c config live keeps =
    subst (λ (k : LiveKeyword). Reads c.cut.new.self c.args.octets.now.items config live k c.args.place c.args.word.now
    (line.Cut c.in_ok-cut-in-Cut.field-0)) (sym c.in-Cut.is)
    (c.in_ok-cut-in-Cut.ensures.ok c.args.octets.now.items config live keeps)

pub returns-in_ok-mend-in-Mend-clause-ok : goal.returns-in_ok-mend-in-Mend-clause-ok
returns-in_ok-mend-in-Mend-clause-ok c config live keeps =
    subst (λ (k : LiveKeyword). Reads c.mend.new.self c.args.octets.now.items config live k c.args.place c.args.word.now
    (line.Mend c.in_ok-mend-in-Mend.field-0)) (sym c.in-Mend.is)
    (c.in_ok-mend-in-Mend.ensures.ok c.args.octets.now.items config live keeps)

pub returns-in_ok-pass-in-Pass-clause-ok : goal.returns-in_ok-pass-in-Pass-clause-ok
returns-in_ok-pass-in-Pass-clause-ok c config live keeps =
    subst (λ (k : LiveKeyword). Reads c.pass.new.self c.args.octets.now.items config live k c.args.place c.args.word.now
    (line.Pass c.in_ok-pass-in-Pass.field-0)) (sym c.in-Pass.is)
    (c.in_ok-pass-in-Pass.ensures.ok c.args.octets.now.items config live keeps)
