-- The line is kept without its failure.
use Rattle.std.proofs.Common.{◌≡◌, ◌∙◌, ◌-◌, ℕ, List, length, None, ap₂, refl, sym, subst, arith, slice_index_or}
use Rattle.std.proofs.Common.{slice_set}
use Rattle.text_lines.specs.Fields.{within}
use Rattle.text_live.specs.declared.read_live_line.LineState.{LineState}
use Rattle.text_live.specs.LiveLines.{word_fault}
use Rattle.text_live.proofs.LiveReaderStateLaws.{reads_mend}
use Rattle.text_live.proofs.read_live_line.LiveState.mend.Goals as goal

pub returns-clause-ok : goal.returns-clause-ok
returns-clause-ok c octets config live keeps =
    let lines : List LineState = c.args.self.now.lines.items in
    let size : c.len.result ≡ length lines = omega (arith, c.len.ensures, c.args.self.now.lines.ok.0) in
    let line : LineState = c.index_mut-line.result.now in
    reads_mend c.args.self.now _ octets config live c.args.place c.args.word.now c.in-Ok.member line keeps c.in-Ok.ensures.number
    (subst (λ (n : ℕ). word_fault (within 0 (n - 1)) c.args.place c.args.word.now ≡ None) size c.in-Ok.ensures.fine)
    (omega (arith, c.in-Ok.ensures.fits.1, size, c.requires.some))
    (subst (λ (i : ℕ). line ≡ slice_index_or lines i line) c.from.ensures c.index_mut-line.ensures.value)
    (sym c.mend_fault.ensures ∙ c.in_default.is) refl refl
    (ap₂ (λ (i : ℕ) (l : LineState). slice_set lines i l) c.from.ensures c.mended.ensures.state)
