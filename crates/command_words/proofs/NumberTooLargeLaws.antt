-- Numbers that are too large before their last digit.
use Rattle.std.proofs.Common.{◌≡◌, ℕ, ◌+◌, ◌-◌, ◌*◌, ◌<◌, ◌≤◌, List, [], ◌∷◌, length, slice_index_or, drop, sym, arith}
use Rattle.std.proofs.Common.{refl, Bool, true, false, nat_le, ◌&&◌, if◌then◌else◌, ap, Some, None}
use Rattle.std.proofs.lemmas.List.{at_drop_more}
use Rattle.std.proofs.lemmas.Bool.{lt-leb}
use Rattle.text_lines.specs.WordsOfLine.{number_after, number_of}
use Rattle.command_words.specs.CommandLineWords.{is_number, number_in}

-- more digits make no number less
grows : (n : ℕ) (w : List ℕ) → n ≤ number_after n w
grows n [] = omega arith
grows n (c ∷ w) = let more = grows (10 * n + (c - 48)) w in omega (arith, more)

no_and : (a b c : Bool) → c ≡ false → (a && (b && c)) ≡ false
no_and true true c is = is
no_and true false c is = refl
no_and false b c is = refl

pub too_large : (least most n next i d : ℕ) (w : List ℕ) → number_after n (drop i w) ≡ number_of w → i < length w
    → next ≡ 10 * n + (slice_index_or w i d - 48) → most < next → None ≡ number_in least most w
too_large least most n next i d w value within is less =
    let step = at_drop_more (λ (x : List ℕ). number_after n x) w i d within in
    let grown = grows (10 * n + (slice_index_or w i d - 48)) (drop (i + 1) w) in
    let large : most < number_of w = omega (arith, value, step, grown, is, less) in
    ap (λ (b : Bool). if b then Some (number_of w) else None)
    (sym (no_and (is_number w) (nat_le least (number_of w)) (nat_le (number_of w) most)
    (lt-leb (number_of w) most large)))
