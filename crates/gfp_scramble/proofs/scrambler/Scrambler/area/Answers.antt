-- The whole words come first, and then the octets that are left.
use Rattle.std.proofs.Common.{◌++◌, subst, ap, sym, ◌∙◌, append_assoc}
use Rattle.gfp_scramble.specs.Scrambler.{ScramblerStands}
use Rattle.gfp_scramble.proofs.scrambler.Scrambler.area.Goals as goal

pub returns-clause-stands : goal.returns-clause-stands
returns-clause-stands c octets stands =
    let front = c.split_at_mut-words.result.0.now in
    let back = c.split_at_mut-words.result.1.now in
    subst (ScramblerStands c.octets.new.self)
    (append_assoc octets front back ∙ ap (λ l. octets ++ l) (sym c.split_at_mut-words.ensures.value))
    (c.octets.ensures.stands (octets ++ front) (c.words.ensures.stands octets stands))
