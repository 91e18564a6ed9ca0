-- One word more; at the end another one stands there, or fewer than eight octets are left.
use Rattle.std.proofs.Common.{◌≡◌, ℕ, ◌+◌, ◌*◌, ◌/◌, List, ◌++◌, length, take, drop, sym, ap, ◌∙◌, arith}
use Rattle.std.specs.Int.{to_le_bytes, from_le_bytes, w64}
use Rattle.std.proofs.lemmas.List.{drop-take, drop_at, length-take, length-drop}
use Rattle.std.proofs.lemmas.Nat.{from_le_bytes-to_le_bytes_8}
use Rattle.gfp_delineate.specs.Repeated.{repeated}
use Rattle.gfp_delineate.proofs.OctetPieceAndIdleRunLaws.{repeated-add, repeated-once}
use Rattle.gfp_delineate.proofs.idle_runs.few_words.Goals as goal

pub loop-i-preserved : goal.loop-i-preserved
loop-i-preserved c =
    let i = c.loop-i.i in
    let octets = to_le_bytes w64 c.args.word in
    (let e : 8 * (i + 1) ≡ 8 * i + 8 = omega arith in ap (λ n. take n c.args.piece.now) e)
    ∙ c.word_at.ensures
    ∙ ap (λ l. l ++ to_le_bytes w64 c.word_at.result) c.loop-i.invariant
    ∙ ap (λ w. repeated i octets ++ to_le_bytes w64 w) c.if-word_at-word.false
    ∙ ap (λ l. repeated i octets ++ l) (sym (repeated-once octets))
    ∙ sym (repeated-add i 1 octets)

-- another word stands there
pub returns-then-word_at-word-clause-stops : goal.returns-then-word_at-word-clause-stops
returns-then-word_at-word-clause-stops c = λ same.
    let at : ℕ = 8 * c.loop-i.i in
    let piece : List ℕ = c.args.piece.now in
    let stands : take 8 (drop at piece) ≡ to_le_bytes w64 c.word_at.result =
    sym (drop-take at 8 piece) ∙ ap (drop at) c.word_at.ensures
    ∙ drop_at (take at piece) (to_le_bytes w64 c.word_at.result) at
    (omega (arith, length-take at piece, c.loop-i-test.true)) in
    c.if-word_at-word.true
    (sym (from_le_bytes-to_le_bytes_8 c.word_at.result c.word_at.type_inv) ∙ ap (from_le_bytes w64) (sym stands ∙ same)
    ∙ from_le_bytes-to_le_bytes_8 c.args.word c.ranges.word.fits)

-- fewer than eight octets are left
pub returns-clause-stops : goal.returns-clause-stops
returns-clause-stops c = λ same.
    let at : ℕ = 8 * (length c.args.piece.now / 8) in
    let size : length (take 8 (drop at c.args.piece.now)) ≡ 8 = ap length same in
    omega (arith, size, length-take 8 (drop at c.args.piece.now), length-drop at c.args.piece.now)
