-- One octet more is written.
use Rattle.std.proofs.Common.{refl, arith}
use Rattle.hex.specs.Hex.{lower_digits}
use Rattle.hex.proofs.Pairs.{encode_step, encode_done}
use Rattle.text_hex.proofs.encoding.encode_each.Goals as goal

pub loop-i-init : goal.loop-i-init
loop-i-init c = refl

pub loop-i-preserved : goal.loop-i-preserved
loop-i-preserved c =
    encode_step lower_digits c.args.octets.now c.loop-i.text c.loop-i.i c.digit.result c.digit-in-loop-i.result
    (omega (arith, c.loop-i-test.true)) (omega (arith, c.loop-i-test.true, c.loop-i.auto.text, c.requires))
    c.digit.ensures c.digit-in-loop-i.ensures c.loop-i.invariant

pub returns : goal.returns
returns c =
    encode_done lower_digits c.args.octets.now c.loop-i.text c.loop-i.i (omega (arith, c.loop-i-test.false))
    (omega (arith, c.loop-i.auto.text, c.requires)) c.loop-i.invariant
