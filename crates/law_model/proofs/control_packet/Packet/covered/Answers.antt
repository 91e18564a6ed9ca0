-- The fields are octets, so each half of one is a nibble.
use Rattle.std.proofs.Common.{rules, ◌≡◌, ◌<◌, ℕ, List, [], ◌∷◌, All, sym, subst, arith}
use Rattle.law_model.specs.Common.{IsPacket, covered_nibbles}
use Rattle.law_model.proofs.PacketNibblesLaws.{covered_nibbles_below}
use Rattle.law_model.proofs.control_packet.Packet.covered.Goals as goal

pub returns-clause-below : goal.returns-clause-below
returns-clause-below c =
    let packet = c.args.self.now in
    let octets : IsPacket packet = record { mst = omega arith; sq = omega arith; mfi2 = omega arith; act = omega arith }
    in
    let nibbles : List ℕ =
    c.nibble_hi.result ∷ c.nibble_lo.result ∷ c.from.result ∷ c.from-2.result ∷ 0 ∷ 0 ∷ c.nibble_hi-2.result ∷
    c.nibble_lo-2.result
    ∷ c.nibble_hi-3.result ∷ c.nibble_lo-3.result ∷ c.code.result ∷ c.from-3.result ∷ c.nibble_hi-4.result ∷
    c.nibble_lo-4.result ∷ [] in
    let same : nibbles ≡ covered_nibbles packet = search rules in
    subst (All (λ nibble. nibble < 16)) (sym same) (covered_nibbles_below packet octets)
