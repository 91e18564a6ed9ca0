-- Sixteen octets more are written.
use Rattle.std.proofs.Common.{◌≡◌, ℕ, ◌+◌, ◌-◌, ◌*◌, List, ◌++◌, length, take, drop, refl, sym, ◌∙◌, ap, ap₂, arith}
use Rattle.std.proofs.Common.{length-take, length-drop, take-add, take_all}
use Rattle.std.proofs.lemmas.Slice.{take-put_mid}
use Rattle.hex.specs.Hex.{encode_with, encode_lower, lower_digits}
use Rattle.text_hex.proofs.HexDigitLanesLaws.{encode-append}
use Rattle.text_hex.proofs.encoding.encode_sixteens.Goals as goal

pub loop-i-init : goal.loop-i-init
unfolding encode_with
loop-i-init c = refl

pub loop-i-preserved : goal.loop-i-preserved
loop-i-preserved c =
    let i : ℕ = c.loop-i.i in
    let octets : List ℕ = c.args.octets.now in
    let text : List ℕ = c.loop-i.text in
    let piece : List ℕ = c.encode_sixteen.new.text in
    let size : length text ≡ 2 * length octets = c.loop-i.auto.text ∙ c.requires.room in
    let long : length piece ≡ 32 =
    omega (
      arith,
      c.encode_sixteen.auto.text,
      length-take (32 * i + 32 - 32 * i) (drop (32 * i) text),
      length-drop (32 * i) text,
      size,
      c.loop-i-test.true,
    ) in
    take-put_mid (32 * i) (32 * i + 32 - 32 * i) text piece (32 * (i + 1)) (omega (arith, long))
    (omega (arith, size, c.loop-i-test.true))
    ∙ ap₂ (λ l m. l ++ m) c.loop-i.invariant c.encode_sixteen.ensures
    ∙ sym (encode-append lower_digits (take (16 * i) octets) (take (16 * i + 16 - 16 * i) (drop (16 * i) octets)))
    ∙ ap encode_lower
    (sym (take-add (16 * i) (16 * i + 16 - 16 * i) octets)
    ∙ (let e : 16 * i + (16 * i + 16 - 16 * i) ≡ 16 * (i + 1) = omega arith in ap (λ n. take n octets) e))

pub returns : goal.returns
returns c =
    let i : ℕ = c.loop-i.i in
    let octets : List ℕ = c.args.octets.now in
    let text : List ℕ = c.loop-i.text in
    sym (take_all (32 * i) text (omega
    (arith, c.loop-i.auto.text, c.requires.room, c.requires.sixteens, c.loop-i-test.false)))
    ∙ c.loop-i.invariant
    ∙ ap encode_lower (take_all (16 * i) octets (omega (arith, c.requires.sixteens, c.loop-i-test.false)))
