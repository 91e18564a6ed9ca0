-- The register has the last 43 bits, so its upper eight are those that an octet is combined with.
use Rattle.std.proofs.Common.{subst, sym}
use Rattle.gfp_scramble.specs.Scrambler.{ScramblerStands}
use Rattle.gfp_scramble.proofs.ScramblerAndDescramblerLaws.{upper_octet-stands, upper_octet-answer}
use Rattle.gfp_scramble.proofs.scrambler.Scrambler.byte.Goals as goal

pub returns-clause-stands : goal.returns-clause-stands
returns-clause-stands c octets stands =
    let was = subst (λ v. ScramblerStands v octets) (sym c.self.view_is) stands in
    upper_octet-stands c.self.inside.last c.self.invariant.0 c.self.invariant.1 octets was c.args.o c.ranges.o.fits
    c.from.result c.from.ensures

pub returns-clause-answer : goal.returns-clause-answer
returns-clause-answer c octets stands =
    let was = subst (λ v. ScramblerStands v octets) (sym c.self.view_is) stands in
    upper_octet-answer c.self.inside.last c.self.invariant.0 c.self.invariant.1 octets was c.args.o c.ranges.o.fits
