-- The digits are the last word.
use Rattle.std.proofs.Common.{◌∷◌, ◌∙◌, List, ℕ, ap, arith}
use Rattle.text_scripts.proofs.StatementAndWordFaultLaws.{digits_only}
use Rattle.text_scripts.proofs.script_read.item_words.plain_frame.Goals as goal

pub returns-in-Ok : goal.returns-in-Ok
returns-in-Ok c =
    let some = c.in-Ok.ensures.fits.0 in
    record {
      digits = c.in-Some.digits.now;
      words = c.in-Some.ensures.some
          ∙ ap (λ (ws : List (List ℕ)). c.in-Some.due.now ∷ ws)
          (digits_only c.in-Some.digits.now c.in-Ok.octets.items c.in-Ok.ensures.ok.1 (omega (arith, some)));
      sound = c.in-Ok.ensures.ok.0;
      is = c.in-Ok.ensures.ok.1;
    }
