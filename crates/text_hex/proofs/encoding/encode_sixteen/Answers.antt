-- Sixteen digits of upper halves, and sixteen of lower ones, in turn.
use Rattle.std.proofs.Common.{◌≡◌, ℕ, ◌+◌, ◌/◌, ◌%◌, ◌<◌, ◌++◌, List, take, drop, slice_index, ◌∙◌, ap, ap₂, arith}
use Rattle.std.proofs.lemmas.Simd.{put_chunk_whole, get_or-chunk}
use Rattle.hex.specs.Hex.{lower_digits}
use Rattle.text_hex.proofs.HexDigitLanesLaws.{front_lanes, back_lanes, is-text}
use Rattle.text_hex.proofs.encoding.encode_sixteen.Goals as goal

lane : (octets : List ℕ) (k : ℕ) → k < 16 → slice_index (take 16 (drop 0 octets)) k ≡ slice_index octets k
lane octets k h = get_or-chunk 0 16 octets k 0 h ∙ (let e : 0 + k ≡ k = omega arith in ap (slice_index octets) e)

pub digits-requires : goal.digits-requires
digits-requires c i below =
    let octets : List ℕ = c.args.octets.now in
    let half : slice_index c.uppers.result i ≡ slice_index octets i / 16 = c.uppers.ensures i below
    ∙ ap (λ n. n / 16) (lane octets i below) in
    omega (arith, half, (c.type_inv.octets i).fits)

pub returns : goal.returns
returns c =
    let a : List ℕ = c.digits.result in
    let b : List ℕ = c.digits-2.result in
    let octets : List ℕ = c.args.octets.now in
    ap₂ (λ l m. l ++ m) (put_chunk_whole c.split_at_mut-first.result.0.now
    (front_lanes a b) c.split_at_mut-first.ensures.front_len)
    (put_chunk_whole c.split_at_mut-first.result.1.now (back_lanes a b)
    (omega (arith, c.split_at_mut-first.ensures.back_len, c.requires.room)))
    ∙ is-text a b octets c.digits.ensures.lanes
    (λ k h. c.digits.ensures.digits k h
    ∙ ap (slice_index lower_digits) (c.uppers.ensures k h ∙ ap (λ n. n / 16) (lane octets k h)))
    (λ k h. c.digits-2.ensures.digits k h
    ∙ ap (slice_index lower_digits) (c.lowers.ensures k h ∙ ap (λ n. n % 16) (lane octets k h)))
    c.requires.sixteen
