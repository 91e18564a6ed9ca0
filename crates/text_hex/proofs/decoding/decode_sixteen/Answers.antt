-- The octets of sixteen pairs, or a character that is no digit.
use Rattle.std.proofs.Common.{◌≡◌, inl, inr, ℕ, ◌+◌, ◌*◌, ◌/◌, ◌%◌, ◌<◌, List, slice_index, Some, sym, ap, ◌∙◌, arith}
use Rattle.std.proofs.lemmas.Simd.{put_chunk_whole}
use Rattle.hex.specs.Hex.{hex_digit_value, is_hex_digit}
use Rattle.text_hex.proofs.HexDigitLanesLaws.{digit_from, other_from}
use Rattle.text_hex.proofs.decoding.decode_sixteen.Goals as goal
use lib.Lanes.{put_chunk}

pub returns-clause-upper : goal.returns-clause-upper
returns-clause-upper c right i below =
    let u : ℕ = slice_index c.values-upper.result i in
    let high : u < 16 = c.are_digits.ensures.upper right i below in
    let low = c.are_digits.ensures.lower right i below in
    let octets = put_chunk_whole c.args.octets.now c.joined.result
    (omega (arith, c.requires.room, c.joined.ensures.lanes)) in
    let octet = ap (λ (l : List ℕ). slice_index l i) octets ∙ c.joined.ensures.octets i below high low in
    let half : u ≡ slice_index (put_chunk 0 c.args.octets.now c.joined.result) i / 16 = omega (arith, octet, low) in
    ap hex_digit_value (sym (c.columns.ensures.upper i below))
    ∙ digit_from (slice_index c.columns.result.0 i) u (c.values-upper.ensures.1 i below) high
    ∙ ap Some half

pub returns-clause-lower : goal.returns-clause-lower
returns-clause-lower c right i below =
    let l : ℕ = slice_index c.values-lower.result i in
    let high = c.are_digits.ensures.upper right i below in
    let low : l < 16 = c.are_digits.ensures.lower right i below in
    let octets = put_chunk_whole c.args.octets.now c.joined.result
    (omega (arith, c.requires.room, c.joined.ensures.lanes)) in
    let octet = ap (λ (l : List ℕ). slice_index l i) octets ∙ c.joined.ensures.octets i below high low in
    let half : l ≡ slice_index (put_chunk 0 c.args.octets.now c.joined.result) i % 16 = omega (arith, octet, low) in
    ap hex_digit_value (sym (c.columns.ensures.lower i below))
    ∙ digit_from (slice_index c.columns.result.1 i) l (c.values-lower.ensures.1 i below) low
    ∙ ap Some half

pub returns-clause-other : goal.returns-clause-other
returns-clause-other c wrong =
    let it = c.are_digits.ensures.other wrong in
    elim it.2 [
      | inl upper ↦ (
        2 * it.0,
        omega (arith, it.1),
        ap is_hex_digit (sym (c.columns.ensures.upper it.0 it.1))
            ∙ other_from (slice_index c.columns.result.0 it.0) (slice_index c.values-upper.result it.0)
            (c.values-upper.ensures.1 it.0 it.1) upper,
      )
      | inr lower ↦ (
        2 * it.0 + 1,
        omega (arith, it.1),
        (let place : c.args.at + (2 * it.0 + 1) ≡ c.args.at + 2 * it.0 + 1 = omega arith in
            ap (λ (m : ℕ). is_hex_digit (slice_index c.args.text.now m)) place)
            ∙ ap is_hex_digit (sym (c.columns.ensures.lower it.0 it.1))
            ∙ other_from (slice_index c.columns.result.1 it.0) (slice_index c.values-lower.result it.0)
            (c.values-lower.ensures.1 it.0 it.1) lower,
      )
    ]
