-- One line on, and after the last one.
use Rattle.std.proofs.Common.{◌∙◌, ap, sym, subst, arith}
use Rattle.std.specs.Prelude.{None}
use Rattle.std.specs.Str.Lines.{lines}
use Rattle.text_lines.specs.LineFaults.{IsTextFault}
use Rattle.text_lines.specs.Language.{said_from}
use Rattle.text_lines.specs.LanguageTable.{told, language_of, said_in}
use Rattle.text_lines.proofs.LineLanguageAndTableLaws.{line_sound}
use Rattle.text_lines.proofs.LineLanguageAndTableLaws.{line_stopped, end_stopped, end_said, is_missing, none_missing}
use Rattle.text_lines.proofs.read_by_table.read_text.Goals as goal

pub loop-line-init : goal.loop-line-init
loop-line-init g c = record {
  value =
      ap (λ d. said_from (language_of g.D.LineTable.table) 1 (told d None) (lines c.args.text.now))
      (sym c.at_start-draft.ensures);
  small = omega arith;
}

pub loop-line-preserved : goal.loop-line-preserved
loop-line-preserved g c = record {
  value = c.loop-line.invariant.value
      ∙ line_sound (language_of g.D.LineTable.table) c.loop-line.number _ _ _ _ _ c.in-Some.ensures.some
      c.in-Ok.ensures.sound c.in-Ok.ensures.adds;
  small = omega (arith, c.loop-line.invariant.small, c.in-Some.ensures.moves);
}

pub returns-in-Err-clause-err : goal.returns-in-Err-clause-err
returns-in-Err-clause-err g c =
    subst (IsTextFault (said_in g.D.LineTable.table c.args.text.now)) (sym c.at.ensures)
    (line_stopped g.D.LineTable.table c.args.text.now _ _ _ _ _ _ c.loop-line.invariant.value c.in-Some.ensures.some
    c.in-Err.ensures.err)

pub returns-then-next-must-clause-err : goal.returns-then-next-must-clause-err
returns-then-next-must-clause-err g c =
    end_stopped g.D.LineTable.table c.args.text.now _ (told c.loop-line.draft c.loop-line.last) _ _
    c.loop-line.invariant.value c.in_default.ensures.none
    (is_missing g.D.LineTable.table (told c.loop-line.draft c.loop-line.last) _ _ _ c.next_after-next.ensures
    c.must-must.ensures c.awaited.ensures c.if-next-must.true)

pub returns-clause-ok : goal.returns-clause-ok
returns-clause-ok g c =
    end_said g.D.LineTable.table c.args.text.now c.loop-line.number (told c.loop-line.draft c.loop-line.last) _
    c.loop-line.invariant.value c.in_default.ensures.none
    (none_missing g.D.LineTable.table (told c.loop-line.draft c.loop-line.last) _ _ c.next_after-next.ensures
    c.must-must.ensures c.if-next-must.false)
