-- The whole words come first, and then the octets that are left.
use Rattle.std.proofs.Common.{◌++◌, drop, subst, ap, sym, ◌∙◌, arith, append_assoc, length-append}
use Rattle.law_model.specs.Common.{descrambled_octets}
use Rattle.law_model.proofs.ScrambledBitAndAreaLaws.{length-descrambled_octets}
use Rattle.gfp_scramble.specs.Descrambler.{DescramblerStands, unknown}
use Rattle.gfp_scramble.proofs.ScramblerAndDescramblerLaws.{drop_alike}
use Rattle.gfp_scramble.proofs.descrambler.Descrambler.area.Goals as goal

pub returns-clause-stands : goal.returns-clause-stands
returns-clause-stands c settled octets stands =
    let front = c.split_at_mut-words.result.0.now in
    let back = c.split_at_mut-words.result.1.now in
    subst (DescramblerStands c.octets.new.self settled)
    (append_assoc octets front back ∙ ap (λ l. octets ++ l) (sym c.split_at_mut-words.ensures.value))
    (c.octets.ensures.stands settled (octets ++ front) (c.words.ensures.stands settled octets stands))

pub returns-clause-answer : goal.returns-clause-answer
returns-clause-answer c settled octets stands =
    let u = unknown settled in
    let front = c.split_at_mut-words.result.0.now in
    let back = c.split_at_mut-words.result.1.now in
    ap (λ l. drop u (descrambled_octets l))
    (ap (λ l. octets ++ l) c.split_at_mut-words.ensures.value ∙ sym (append_assoc octets front back))
    ∙ c.octets.ensures.answer settled (octets ++ front) (c.words.ensures.stands settled octets stands)
    ∙ drop_alike u u (descrambled_octets (octets ++ front))
    (descrambled_octets octets ++ c.words.new.area) c.octets.new.area
    (omega (
      arith,
      length-descrambled_octets (octets ++ front),
      length-descrambled_octets octets,
      length-append octets front,
      length-append (descrambled_octets octets) c.words.new.area,
      c.words.auto.area,
    ))
    (c.words.ensures.answer settled octets stands)
    ∙ ap (drop u) (append_assoc (descrambled_octets octets) c.words.new.area c.octets.new.area)
