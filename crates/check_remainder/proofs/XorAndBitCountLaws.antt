-- Exclusive or of bits and of lists of bits, and counts of bits.
use Rattle.std.proofs.Common.{◌≡◌, ℕ, zero, suc, ◌≤◌, min, Bool, true, false, List, [], ◌∷◌, ◌++◌, length, take, drop}
use Rattle.std.proofs.Common.{replicate, refl, sym, ◌∙◌, ap, ap₂, arith, ◌+◌, ◌⊎◌}
use Rattle.check_remainder.specs.Bits.{xor, xors}
use Rattle.check_remainder.specs.BitCount.{count}

-- ---- The laws of exclusive or, bit by bit.
-- ---- two bits
pub xor_comm : (a b : Bool) → xor a b ≡ xor b a
xor_comm true true = refl
xor_comm true false = refl
xor_comm false true = refl
xor_comm false false = refl

pub xor_assoc : (a b c : Bool) → xor (xor a b) c ≡ xor a (xor b c)
xor_assoc true true true = refl
xor_assoc true true false = refl
xor_assoc true false true = refl
xor_assoc true false false = refl
xor_assoc false b c = refl

pub xor-self : (a : Bool) → xor a a ≡ false
xor-self true = refl
xor-self false = refl

-- ---- lists
pub xors-nil : (xs : List Bool) → xors xs [] ≡ []
unfolding xors
xors-nil [] = refl
xors-nil (x ∷ xs) = refl

pub length-xors : (xs ys : List Bool) → length (xors xs ys) ≡ min (length xs) (length ys)
unfolding xors
length-xors [] ys = omega arith
length-xors (x ∷ xs) [] = omega arith
length-xors (x ∷ xs) (y ∷ ys) = let e = length-xors xs ys in omega arith

-- where both have one length, so has the result
pub length_xors : (xs ys : List Bool) → length xs ≡ length ys → length (xors xs ys) ≡ length ys
length_xors xs ys e = omega (arith, length-xors xs ys)

pub xors_comm : (xs ys : List Bool) → xors xs ys ≡ xors ys xs
unfolding xors
xors_comm [] ys = sym (xors-nil ys)
xors_comm (x ∷ xs) [] = refl
xors_comm (x ∷ xs) (y ∷ ys) = ap₂ ◌∷◌ (xor_comm x y) (xors_comm xs ys)

pub xors_assoc : (xs ys zs : List Bool) → xors (xors xs ys) zs ≡ xors xs (xors ys zs)
unfolding xors
xors_assoc [] ys zs = refl
xors_assoc (x ∷ xs) [] zs = refl
xors_assoc (x ∷ xs) (y ∷ ys) [] = refl
xors_assoc (x ∷ xs) (y ∷ ys) (z ∷ zs) = ap₂ ◌∷◌ (xor_assoc x y z) (xors_assoc xs ys zs)

pub xors-self : (xs : List Bool) → xors xs xs ≡ replicate (length xs) false
unfolding xors
xors-self [] = refl
xors-self (x ∷ xs) = ap₂ ◌∷◌ (xor-self x) (xors-self xs)

pub xors-zeros : (n : ℕ) (xs : List Bool) → length xs ≤ n → xors (replicate n false) xs ≡ xs
unfolding xors
xors-zeros zero [] h = refl
xors-zeros (suc n) [] h = refl
xors-zeros zero (x ∷ xs) h = absurd (omega arith)
xors-zeros (suc n) (x ∷ xs) h = ap (λ ys. x ∷ ys) (xors-zeros n xs (omega arith))

pub xors-zeros_right : (n : ℕ) (xs : List Bool) → length xs ≤ n → xors xs (replicate n false) ≡ xs
xors-zeros_right n xs h = xors_comm xs (replicate n false) ∙ xors-zeros n xs h

-- exclusive or with a list twice
pub xors_twice : (xs ys : List Bool) → length ys ≤ length xs → xors xs (xors xs ys) ≡ ys
xors_twice xs ys h = sym (xors_assoc xs xs ys) ∙ ap (λ z. xors z ys) (xors-self xs) ∙ xors-zeros (length xs) ys h

pub xors_twice_right : (xs ys : List Bool) → length xs ≤ length ys → xors (xors xs ys) ys ≡ xs
xors_twice_right xs ys h = xors_comm (xors xs ys) ys ∙ ap (xors ys) (xors_comm xs ys) ∙ xors_twice ys xs h

pub xors-append : (a b c d : List Bool) → length a ≡ length b → xors (a ++ c) (b ++ d) ≡ xors a b ++ xors c d
unfolding xors
xors-append [] [] c d e = refl
xors-append [] (y ∷ b) c d e = absurd (omega arith)
xors-append (x ∷ a) [] c d e = absurd (omega arith)
xors-append (x ∷ a) (y ∷ b) c d e = ap (λ ys. xor x y ∷ ys) (xors-append a b c d (omega arith))

-- two lists of one length are equal if their exclusive or is zeros
pub xors_zero : (xs ys : List Bool) → length xs ≡ length ys → xors xs ys ≡ replicate (length ys) false → xs ≡ ys
xors_zero xs ys e h =
    sym (xors_twice_right xs ys (omega arith)) ∙ ap (λ z. xors z ys) h ∙ xors-zeros (length ys) ys (omega arith)

pub take-xors : (n : ℕ) (xs ys : List Bool) → take n (xors xs ys) ≡ xors (take n xs) (take n ys)
unfolding xors
take-xors zero xs ys = refl
take-xors (suc n) [] ys = refl
take-xors (suc n) (x ∷ xs) [] = refl
take-xors (suc n) (x ∷ xs) (y ∷ ys) = ap (λ zs. xor x y ∷ zs) (take-xors n xs ys)

pub drop-xors : (n : ℕ) (xs ys : List Bool) → drop n (xors xs ys) ≡ xors (drop n xs) (drop n ys)
unfolding xors
drop-xors zero xs ys = refl
drop-xors (suc n) [] ys = refl
drop-xors (suc n) (x ∷ xs) [] = sym (xors-nil (drop n xs))
drop-xors (suc n) (x ∷ xs) (y ∷ ys) = drop-xors n xs ys

-- ---- Exclusive or of four lists.
-- exclusive or of four lists in another order
pub xors_medial : (a b c d : List Bool) → xors (xors a b) (xors c d) ≡ xors (xors a c) (xors b d)
xors_medial a b c d =
    xors_assoc a b (xors c d)
    ∙ ap (xors a) (sym (xors_assoc b c d) ∙ ap (λ l. xors l d) (xors_comm b c) ∙ xors_assoc c b d)
    ∙ sym (xors_assoc a c (xors b d))

-- ---- Counts of bits, and lists with at most one.
pub count-append : (a b : List Bool) → count (a ++ b) ≡ count a + count b
unfolding count
count-append [] b = omega arith
count-append (true ∷ a) b = omega (arith, count-append a b)
count-append (false ∷ a) b = count-append a b

pub count-zeros : (n : ℕ) → count (replicate n false) ≡ 0
unfolding count
count-zeros zero = refl
count-zeros (suc n) = count-zeros n

pub count-true : (bs : List Bool) → count (true ∷ bs) ≡ suc (count bs)
unfolding count
count-true bs = refl

pub count_none : (bs : List Bool) → count bs ≡ 0 → bs ≡ replicate (length bs) false
unfolding count
count_none [] h = refl
count_none (true ∷ bs) h = absurd (omega arith)
count_none (false ∷ bs) h = ap (λ l. false ∷ l) (count_none bs h)

-- one bit
pub record OneAt (bs : List Bool) : Type 0 where
  pub before : ℕ
  pub after : ℕ
  pub bits : bs ≡ replicate before false ++ true ∷ replicate after false
  pub size : length bs ≡ before + (1 + after)

pub count_one : (bs : List Bool) → count bs ≡ 1 → OneAt bs
unfolding count
count_one [] h = absurd (omega arith)
count_one (true ∷ bs) h = record {
  before = 0;
  after = length bs;
  bits = ap (λ l. true ∷ l) (count_none bs (omega arith));
  size = omega arith;
}
count_one (false ∷ bs) h =
    let one = count_one bs h in
    record {
      before = suc one.before;
      after = one.after;
      bits = ap (λ l. false ∷ l) one.bits;
      size = omega
          (arith, one.size);
    }

pub none_or_one : (bs : List Bool) → count bs ≤ 1 → (count bs ≡ 0) ⊎ (count bs ≡ 1)
none_or_one bs h = grind arith
