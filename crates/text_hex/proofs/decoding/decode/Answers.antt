-- One pair more is read, or sixteen.
use Rattle.std.proofs.Common.{◌≡◌, ℕ, ◌+◌, ◌-◌, ◌*◌, ◌%◌, List, length, drop, length-take, length-drop, ◌∙◌, arith}
use Rattle.hex.proofs.HexLemmas.{decode_of-even}
use Rattle.text_hex.proofs.HexDigitLanesLaws.{pair_read, sixteen_read, all_read, other_refused}
use Rattle.text_hex.proofs.decoding.decode.Goals as goal

pub returns-clause-yes : goal.returns-clause-yes
returns-clause-yes c right =
    let text = c.args.text.now in
    let size = c.loop-i.auto.octets in
    let wide = c.loop-done.auto.octets in
    let even : length text % 2 ≡ 0 = omega (arith, c.requires) in
    decode_of-even text even
    ∙ all_read text c.loop-i.octets (omega (arith, c.requires, size, wide))
    (λ i below. c.loop-i.invariant.yes right i (omega (arith, below, c.loop-i-test.false, size, wide)))

pub returns-clause-no : goal.returns-clause-no
returns-clause-no c wrong =
    let wide = c.loop-done.auto.octets in
    other_refused c.args.text.now (2 * c.loop-i.i) (omega (arith, c.loop-i.auto.i-end, c.requires, wide))
    (c.loop-i.invariant.no wrong)

pub loop-done-preserved : goal.loop-done-preserved
loop-done-preserved c =
    let done : ℕ = c.loop-done.done in
    let octets : List ℕ = c.loop-done.octets in
    let some = c.decode_sixteen-right in
    let long : length some.new.octets ≡ 16 =
    omega (
      arith,
      some.auto.octets,
      length-take (done + 16 - done) (drop done octets),
      length-drop done octets,
      c.loop-done-test.true,
    ) in
    record {
      within = omega (arith, c.loop-done-test.true, c.loop-done.auto.octets);
      read = sixteen_read c.args.text.now octets some.new.octets done (done + 16 - done) (omega arith) long
          (omega (arith, c.loop-done-test.true)) c.loop-done.right some.result some.ensures.upper
          some.ensures.lower some.ensures.other c.loop-done.invariant.read;
    }

pub loop-i-preserved : goal.loop-i-preserved
loop-i-preserved c =
    let text = c.args.text.now in
    let i = c.loop-i.i in
    pair_read text c.loop-i.octets i c.value.result c.value-in-loop-i.result c.loop-i.right c.is_digit.result
    c.is_digit-in-loop-i.result (omega (arith, c.loop-i-test.true, c.loop-i.auto.octets)) c.value.ensures.within
    c.value-in-loop-i.ensures.within c.is_digit.ensures c.is_digit-in-loop-i.ensures c.value.ensures.value
    c.value-in-loop-i.ensures.value c.loop-i.invariant
