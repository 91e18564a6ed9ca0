-- What stands behind the octets that were kept before is descrambled: one octet, or all of a piece.
use Rattle.std.proofs.Common.{◌≡◌, ℕ, ◌+◌, ◌-◌, List, [], ◌∷◌, ◌++◌, get_or, length, take, drop, sym, subst, ap, ◌∙◌}
use Rattle.std.proofs.Common.{arith, vec_len, length-append, length-drop, drop_at, take_all}
use Rattle.law_model.specs.Common.{descrambled_octets}
use Rattle.gfp_scramble.specs.Descrambler.{DescramblerStands, unknown}
use Rattle.gfp_delineate.proofs.OctetPieceAndIdleRunLaws.{written_after, take_one}
use Rattle.gfp_delineate.proofs.area_octets.keep.Goals as goal

-- the part of a list behind its front
part_is : (n : ℕ) (xs items piece : List ℕ) → xs ≡ items ++ piece → length items ≡ n →
    take (length xs - n) (drop n xs) ≡ piece
part_is n xs items piece whole at =
    take_all (length xs - n) (drop n xs) (omega (arith, length-drop n xs)) ∙ ap (drop n) whole
    ∙ drop_at items piece n at

pub returns-clause-stands : goal.returns-clause-stands
returns-clause-stands c settled octets stands =
    let xs = c.deref_mut.result.now in
    let items = c.args.area.now.items in
    let piece = c.args.piece.now in
    let whole : xs ≡ items ++ piece = c.deref_mut.ensures.value ∙ c.in-Ok.ensures.items in
    let at : length items ≡ c.len-old.result =
    omega (
      arith,
      c.deref_mut.ensures.len,
      c.in-Ok.ensures.len,
      ap length whole,
      length-append items piece,
      c.len-old.ensures,
    ) in
    subst (λ l. DescramblerStands c.area.new.self settled (octets ++ l)) (part_is c.len-old.result xs items piece whole at)
    (c.area.ensures.stands settled octets stands)

pub returns-clause-kept : goal.returns-clause-kept
returns-clause-kept c settled octets stands =
    let n = c.len-old.result in
    let xs = c.deref_mut.result.now in
    let items = c.args.area.now.items in
    let piece = c.args.piece.now in
    let whole : xs ≡ items ++ piece = c.deref_mut.ensures.value ∙ c.in-Ok.ensures.items in
    let long : length xs ≡ vec_len c.args.area.now + length piece = c.deref_mut.ensures.len ∙ c.in-Ok.ensures.len in
    let joined : length xs ≡ length items + length piece = ap length whole ∙ length-append items piece in
    let at : length items ≡ n = omega (arith, long, joined, c.len-old.ensures) in
    let part : take (length xs - n) (drop n xs) ≡ piece = part_is n xs items piece whole at in
    ap (λ l. drop (unknown settled) (descrambled_octets (octets ++ l))) (sym part)
    ∙ c.area.ensures.answer settled octets stands
    ∙ ap (λ l. drop (unknown settled) (descrambled_octets octets ++ l))
    (sym (written_after (vec_len c.args.area.now) n c.extend_from_slice.new.self.len xs c.area.new.area _
    c.len-old.ensures (sym c.deref_mut.ensures.len) (omega (arith, long, c.len-old.ensures))
    (omega (arith, c.area.auto.area, ap length part, long, c.len-old.ensures))))

pub returns-in-len1-clause-kept : goal.returns-in-len1-clause-kept
returns-in-len1-clause-kept c settled octets stands =
    let piece = c.args.piece.now in
    let items = c.args.area.now.items in
    let one : piece ≡ get_or piece 0 0 ∷ [] = sym (take_all 1 piece (omega (arith, c.in-len1.len_below)))
    ∙ take_one piece (omega (arith, c.in-len1.len_at_least)) in
    ap (λ l. drop (unknown settled) (descrambled_octets (octets ++ l))) one
    ∙ c.byte.ensures.answer settled octets stands
    ∙ ap (λ l. drop (unknown settled) (descrambled_octets octets ++ l))
    (sym (ap (drop (vec_len c.args.area.now)) c.push_reserved.ensures.items
    ∙ drop_at items (c.byte.result ∷ []) (vec_len c.args.area.now) (sym c.args.area.now.ok.0)))
