-- The frames that are got.
use Rattle.std.proofs.Common.{◌∷◌, ◌∙◌, sym}
use Rattle.law_model.specs.Common.{idle}
use Rattle.law_loss.proofs.GivenAndLostFrameLaws.{deliver-kept}
use Rattle.fate_engine.proofs.GotFateAndLandedFrameLaws.{got-each, got-kept}
use Rattle.fate_engine.proofs.TrueMarksLaws.{marks-starts}
use Rattle.fate_engine.proofs.fate_law.got_law.Goals as goal

pub returns : goal.returns
returns c = record {
  each = got-each;
  kept = got-kept;
  delivered = λ longest pieces rows fits sent carried marks.
      got-kept (idle ∷ idle ∷ pieces) rows
      ∙ sym (deliver-kept longest pieces rows fits sent carried (marks-starts (idle ∷ idle ∷ pieces) rows marks));
}
