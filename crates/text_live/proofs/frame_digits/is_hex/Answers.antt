-- A character that is no digit, and the end.
use Rattle.std.proofs.Common.{ℕ, List, arith}
use Rattle.hex.proofs.HexLemmas.{decode_of-digits}
use Rattle.text_live.proofs.LiveReaderStateLaws.{other_refused, digits_more, digits_all}
use Rattle.text_live.proofs.frame_digits.is_hex.Goals as goal

pub returns-then-not-is_ascii_hexdigit-clause-no : goal.returns-then-not-is_ascii_hexdigit-clause-no
returns-then-not-is_ascii_hexdigit-clause-no c same =
    let text : List ℕ = c.args.text.now in
    let i : ℕ = c.loop-c.c-index in
    other_refused text i c.is_ascii_hexdigit.result (omega (arith, c.loop-c-test.true))
    (omega (arith, (c.type_inv.text i).fits)) c.is_ascii_hexdigit.ensures.value c.if-not-is_ascii_hexdigit.true

pub loop-c-preserved : goal.loop-c-preserved
loop-c-preserved c =
    let text : List ℕ = c.args.text.now in
    let i : ℕ = c.loop-c.c-index in
    digits_more text i c.is_ascii_hexdigit.result (omega (arith, c.loop-c-test.true))
    (omega (arith, (c.type_inv.text i).fits)) c.is_ascii_hexdigit.ensures.value c.if-not-is_ascii_hexdigit.false
    c.loop-c.invariant

pub returns-clause-yes : goal.returns-clause-yes
returns-clause-yes c same =
    decode_of-digits c.args.text.now (omega (arith, c.if-text-eq1.false))
    (digits_all c.args.text.now c.loop-c.c-index (omega (arith, c.loop-c-test.false)) c.loop-c.invariant)
