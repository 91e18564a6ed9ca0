-- The lines of frames one after another, and how long they are.
use Rattle.std.proofs.Common.{◌≡◌, ℕ, suc, ◌+◌, ◌*◌, ◌≤◌, List, [], ◌∷◌, ◌++◌, length, take, ap, sym, ◌∙◌}
use Rattle.std.proofs.Common.{append_assoc, append-nil, arith, refl}
use Rattle.std.specs.Prelude.{codes}
use Rattle.std.proofs.lemmas.List.{length-append, length-take}
use Rattle.std.proofs.lemmas.List.Concat.{flat_map-append}
use Rattle.std.proofs.lemmas.List.FromFn.{map-range_with_len_more}
use Rattle.hex.specs.Hex.{encode_lower, lower_digits}
use Rattle.hex.proofs.HexLemmas.{length-encode_with}
use Rattle.law_rates.specs.Rates.{RateFrame, IsRate, count_of, first_frames, frame_at, frames, size_at, state_of, due_of}
use Rattle.law_rates.specs.declared.rate_frames.Rate.{Rate}
use Rattle.law_rates.proofs.RateFrameLaws.{length-frame_of, size_bounds}
use Rattle.law_rates.proofs.RateCountLaws.{all_first}
use Rattle.text_scripts.specs.rate_load.RateTexts.{start_of, line_of, lines_of}

-- ---- lines of frames
pub no_lines : lines_of [] ≡ []
unfolding lines_of
no_lines = refl

pub lines_next : (frame : RateFrame) (frames : List RateFrame) → lines_of (frame ∷ frames) ≡ line_of frame ++ lines_of frames
unfolding lines_of
lines_next frame frames = refl

pub lines_behind : (these others : List RateFrame) → lines_of (these ++ others) ≡ lines_of these ++ lines_of others
unfolding lines_of
lines_behind these others = flat_map-append line_of these others

-- a line more, of those that are left
pub line_more : (all text : List ℕ) (before after : List RateFrame) (frame : RateFrame) → all ≡ text ++ lines_of before →
    before ≡ frame ∷ after → all ≡ (text ++ line_of frame) ++ lines_of after
line_more all text before after frame is next =
    is ∙ ap (λ l. text ++ l) (ap lines_of next ∙ lines_next frame after)
    ∙ sym (append_assoc text (line_of frame) (lines_of after))

pub lines_done : (all text : List ℕ) (rest : List RateFrame) → all ≡ text ++ lines_of rest → rest ≡ [] → text ≡ all
lines_done all text rest is none =
    sym (is ∙ ap (λ l. text ++ l) (ap lines_of none ∙ no_lines) ∙ append-nil text)

-- ---- lengths
length-line_at : (rate : Rate) (k start : ℕ) → IsRate rate → length (start_of (due_of rate k)) ≡ start →
    length (line_of (frame_at rate k)) ≡ start + 2 * size_at rate.sizes k + 1
length-line_at rate k start is e =
    let frame : List ℕ = (frame_at rate k).octets in
    let bounds = size_bounds rate.sizes k is.some is.sizes in
    omega (
      arith,
      length-append (start_of (due_of rate k) ++ encode_lower frame) (codes "\n"),
      length-append (start_of (due_of rate k)) (encode_lower frame),
      length-encode_with lower_digits frame,
      length-frame_of (size_at rate.sizes k) (state_of rate k) bounds.0,
    )

pub no_length : (rate : Rate) (k : ℕ) → k ≡ 0 → length (lines_of (first_frames rate k)) ≡ 0
no_length rate k e = ap (λ n. length (lines_of (first_frames rate n))) e ∙ ap length no_lines

-- a line more, whose start was made in a slice
pub length_more : (rate : Rate) (k total start size : ℕ) (made : List ℕ) → IsRate rate → size ≡ size_at rate.sizes k →
    take start made ≡ start_of (due_of rate k) → start ≤ length made →
    total ≡ length (lines_of (first_frames rate k)) →
    total + (start + 2 * size + 1) ≡ length (lines_of (first_frames rate (suc k)))
length_more rate k total start size made is same begins within so_far =
    let long : length (start_of (due_of rate k)) ≡ start = sym (ap length begins)
    ∙ (let e : length (take start made) ≡ start = omega (arith, within, length-take start made) in e) in
    let line = length-line_at rate k start is long in
    let more : first_frames rate (suc k) ≡ first_frames rate k ++ frame_at rate k ∷ [] =
    ap (first_frames rate) (let e : suc k ≡ k + 1 = omega arith in e)
    ∙ map-range_with_len_more (frame_at rate) 0 k k (let e : 0 + k ≡ k = omega arith in e) in
    let one = ap length (lines_next (frame_at rate k) []) ∙ length-append (line_of (frame_at rate k)) (lines_of []) in
    let none = ap length no_lines in
    let whole = ap (λ l. length (lines_of l)) more
    ∙ ap length (lines_behind (first_frames rate k) (frame_at rate k ∷ []))
    ∙ length-append (lines_of (first_frames rate k)) (lines_of (frame_at rate k ∷ [])) in
    omega (arith, line, one, none, whole, so_far, same)

-- a first part is no longer than the whole, and all that are counted are the whole
pub length_within : (rate : Rate) (k : ℕ) → k ≤ count_of rate →
    length (lines_of (first_frames rate k)) ≤ length (lines_of (frames rate))
length_within rate k within =
    let all = all_first rate k within in
    let whole = ap (λ l. length (lines_of l)) all.1 ∙ ap length (lines_behind (first_frames rate k) all.0)
    ∙ length-append (lines_of (first_frames rate k)) (lines_of all.0) in
    omega (arith, whole)

pub length_all : (rate : Rate) (k : ℕ) → k ≡ count_of rate →
    length (lines_of (first_frames rate k)) ≡ length (lines_of (frames rate))
unfolding frames
length_all rate k e = ap (λ n. length (lines_of (first_frames rate n))) e
