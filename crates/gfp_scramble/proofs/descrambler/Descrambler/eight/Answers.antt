-- The octets are those of the word.
use Rattle.std.proofs.Common.{◌++◌, drop, ap, sym, ◌∙◌}
use Rattle.law_model.specs.Common.{descrambled_octets}
use Rattle.gfp_scramble.specs.Descrambler.{unknown}
use Rattle.gfp_scramble.proofs.descrambler.Descrambler.eight.Goals as goal

pub returns-clause-answer : goal.returns-clause-answer
returns-clause-answer c settled octets stands =
    ap (λ l. drop (unknown settled) (descrambled_octets (octets ++ l))) (sym c.word_of.ensures)
    ∙ c.word-descrambled.ensures.answer settled octets stands
    ∙ ap (λ l. drop (unknown settled) (descrambled_octets octets ++ l))
    (sym (c.copy_from_slice.ensures.after ∙ c.octets_of_word.ensures))
