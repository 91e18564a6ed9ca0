-- One space on.
use Rattle.std.proofs.Common.{arith, ◌∙◌}
use Rattle.text_lines.proofs.TextLineAndWordLaws.{words_later}
use Rattle.text_lines.proofs.split_words.trim_start.Goals as goal

pub loop-text-preserved : goal.loop-text-preserved
loop-text-preserved c = record {
  words = words_later c.loop-text.text.now _ 0 (omega arith) (omega arith) c.if-first-eq32.true
      ∙ c.loop-text.invariant.words;
  shorter = omega (arith, c.loop-text.invariant.shorter);
}
