-- What stands in a scrambler or a descrambler after an octet or a word more, and what it answers.
use Rattle.std.proofs.Common.{◌≡◌, ℕ, ◌+◌, ◌*◌, ◌/◌, ◌%◌, ◌^◌, ◌<◌, false, List, [], ◌∷◌, ◌++◌, drop, replicate}
use Rattle.std.proofs.Common.{bit_xor, sym, ◌∙◌, ap, ap₂, arith, Bool, append-nil, min, true, length, refl}
use Rattle.std.proofs.Common.{if◌then◌else◌, zero, suc, append_assoc, length-append, ◌≤◌, subst}
use Rattle.law_model.specs.Common.{bits, octet_bits, xors, scramble_on, scrambled, scrambled_octets, descrambled}
use Rattle.law_model.specs.Common.{descrambled_octets, octets_of}
use Rattle.check_remainder.proofs.NumberAndOctetBitsLaws.{length-bits, bits-zero, octet_bits-append, length-octet_bits}
use Rattle.check_remainder.proofs.NumberAndOctetBitsLaws.{octet_bits-octets_of, length-octets_of}
use Rattle.check_remainder.proofs.NumberAndOctetBitsLaws.{octet_bits-bytes_high_first}
use Rattle.law_model.proofs.ScrambledBitAndAreaLaws.{scramble_on-append, scramble_on-short, length-scrambled}
use Rattle.law_model.proofs.ScrambledBitAndAreaLaws.{descramble, descramble-append, length-descrambled}
use Rattle.law_model.proofs.ScrambledBitAndAreaLaws.{length-descrambled_octets, descrambled_octets-behind}
use Rattle.gfp_scramble.specs.Scrambler.{ScramblerStands}
use Rattle.gfp_scramble.proofs.RegisterWindowLaws.{window, window-append, moved as octet_moved}
use Rattle.gfp_scramble.proofs.RegisterWindowLaws.{combined, one_more, word_scrambled, word_descrambled, word_register}
use Rattle.gfp_scramble.proofs.RegisterWindowLaws.{more_octets, length-bytes, combined_below}
use Rattle.std.proofs.lemmas.List.{length_push, length-replicate, drop-append-le}
use Rattle.gfp_scramble.specs.Descrambler.{DescramblerStands, unknown, DescramblerStands as StandsBack}
use Rattle.std.proofs.Math.Seq.{drop-append-add}
use Rattle.std.specs.Int.{bytes_high_first}
use Rattle.std.proofs.lemmas.Nat.{shr-shr, shl-shr}

-- ---- One more octet through the scrambler.
-- with 8 + k places and a register of as many bits
module _ (k r : ℕ) (s : List Bool) (stands : bits (8 + k) r ≡ window (replicate (8 + k) false) s) where
  step-scrambled : (o : ℕ) → scramble_on (8 + k) s (bits 8 o) ≡ s ++ bits 8 (bit_xor o (r / 2 ^ k))
  step-scrambled o =
      scramble_on-short (8 + k) s (bits 8 o) (omega (arith, length-bits 8 o))
      ∙ ap (λ l. s ++ xors (bits 8 o) l) (sym stands ∙ sym (append-nil (bits (8 + k) r)))
      ∙ ap (λ l. s ++ l) (combined k r o [])

  step-register : (x : ℕ) → x < 2 ^ 8 →
      bits (k + 8) (r % 2 ^ k * 2 ^ 8 + x) ≡ window (replicate (8 + k) false) (s ++ bits 8 x)
  step-register x h =
      octet_moved k r x h
      ∙ ap₂ (λ n l. drop n (l ++ bits 8 x)) (sym (length-bits 8 x)) stands
      ∙ sym (window-append (replicate (8 + k) false) s (bits 8 x))

pub stands-none : ScramblerStands (record { last = bits 43 0 }) []
unfolding scramble_on
stands-none = record { last = bits-zero 43 }

-- the scrambled bits with one more octet
more-scrambled : (r o : ℕ) (octets : List ℕ) → ScramblerStands (record { last = bits 43 r }) octets →
    scrambled (octet_bits (octets ++ o ∷ [])) ≡ scrambled (octet_bits octets) ++ bits 8 (bit_xor o (r / 2 ^ 35))
more-scrambled r o octets stands =
    ap scrambled (octet_bits-append octets (o ∷ []) ∙ ap (λ l. octet_bits octets ++ l) (append-nil (bits 8 o)))
    ∙ scramble_on-append 43 [] (octet_bits octets) (bits 8 o)
    ∙ step-scrambled 35 r (scrambled (octet_bits octets)) stands.last o

pub answer-more : (r o : ℕ) (octets : List ℕ) → ScramblerStands (record { last = bits 43 r }) octets →
    bit_xor o (r / 2 ^ 35) < 2 ^ 8 →
    scrambled_octets (octets ++ o ∷ []) ≡ scrambled_octets octets ++ bit_xor o (r / 2 ^ 35) ∷ []
answer-more r o octets stands h =
    one_more octets o (bit_xor o (r / 2 ^ 35)) (scrambled (octet_bits (octets ++ o ∷ [])))
    (scrambled (octet_bits octets))
    (length-scrambled (octet_bits octets) ∙ length-octet_bits octets)
    (more-scrambled r o octets stands) h

pub stands-more : (r o : ℕ) (octets : List ℕ) → ScramblerStands (record { last = bits 43 r }) octets →
    bit_xor o (r / 2 ^ 35) < 2 ^ 8 →
    ScramblerStands (record { last = bits 43 (r % 2 ^ 35 * 2 ^ 8 + bit_xor o (r / 2 ^ 35)) }) (octets ++ o ∷ [])
stands-more r o octets stands h = record {
  last =
      step-register 35 r (scrambled (octet_bits octets)) stands.last (bit_xor o (r / 2 ^ 35)) h
      ∙ ap (window (replicate 43 false)) (sym (more-scrambled r o octets stands));
}

-- ---- One more octet through the descrambler.
-- with 8 + k places and a register of as many bits
step-descrambled : (k r o : ℕ) (s : List Bool) → bits (8 + k) r ≡ window (replicate (8 + k) false) s →
    descramble (8 + k) (s ++ bits 8 o) ≡ descramble (8 + k) s ++ bits 8 (bit_xor o (r / 2 ^ k))
step-descrambled k r o s stands =
    descramble-append (8 + k) s (bits 8 o)
    ∙ ap (λ l. descramble (8 + k) s ++ xors (bits 8 o) (l ++ bits 8 o)) (sym stands)
    ∙ ap (λ l. descramble (8 + k) s ++ l) (combined k r o (bits 8 o))

step-register-descrambler : (k r o : ℕ) (before s : List Bool) → o < 2 ^ 8 → bits (8 + k) r ≡ window before s →
    bits (k + 8) (r % 2 ^ k * 2 ^ 8 + o) ≡ window before (s ++ bits 8 o)
step-register-descrambler k r o before s h stands =
    octet_moved k r o h
    ∙ ap₂ (λ n l. drop n (l ++ bits 8 o)) (sym (length-bits 8 o)) stands
    ∙ sym (window-append before s (bits 8 o))

octet_bits-push : (octets : List ℕ) (o : ℕ) → octet_bits (octets ++ o ∷ []) ≡ octet_bits octets ++ bits 8 o
octet_bits-push octets o = octet_bits-append octets (o ∷ []) ∙ ap (λ l. octet_bits octets ++ l) (append-nil (bits 8 o))

pub stands-settled : DescramblerStands (record { last = bits 43 0; given = 6 }) true []
stands-settled = record {
  before = replicate 43 false;
  size = length-replicate 43 false;
  zeros = λ _. refl;
  last = bits-zero 43;
  given = refl;
}

pub stands-forgot : (r : ℕ) → DescramblerStands (record { last = bits 43 r; given = 0 }) false []
stands-forgot r = record {
  before = bits 43 r;
  size = length-bits 43 r;
  zeros = λ h. absurd cc;
  last = sym (append-nil (bits 43 r));
  given = refl;
}

given-more : (settled : Bool) (given n : ℕ) → given ≡ (if settled then 6 else min n 6) →
    min (given + 1) 6 ≡ (if settled then 6 else min (n + 1) 6)
given-more true given n e = omega arith
given-more false given n e = omega arith

-- the register has the last bits
pub last-octets : (r given : ℕ) (settled : Bool) (octets : List ℕ)
    (stands : DescramblerStands (record { last = bits 43 r; given = given }) settled octets) →
    bits 43 r ≡ window stands.before (octet_bits octets)
last-octets r given settled octets stands = stands.last
    ∙ ap (λ n. drop n (stands.before ++ octet_bits octets)) (sym (length-octet_bits octets))

-- which are those after zeros, where it was settled
pub last-settled : (r given : ℕ) (octets : List ℕ) → DescramblerStands (record { last = bits 43 r; given = given }) true octets →
    bits 43 r ≡ window (replicate 43 false) (octet_bits octets)
last-settled r given octets stands = last-octets r given true octets stands
    ∙ ap (λ before. window before (octet_bits octets)) (stands.zeros refl)

pub answer-more-descrambler : (r given : ℕ) (octets : List ℕ) → DescramblerStands (record { last = bits 43 r; given = given }) true octets →
    (o : ℕ) → bit_xor o (r / 2 ^ 35) < 2 ^ 8 →
    descrambled_octets (octets ++ o ∷ []) ≡ descrambled_octets octets ++ bit_xor o (r / 2 ^ 35) ∷ []
answer-more-descrambler r given octets stands o h =
    one_more octets o (bit_xor o (r / 2 ^ 35)) (descrambled (octet_bits (octets ++ o ∷ [])))
    (descrambled (octet_bits octets))
    (length-descrambled (octet_bits octets) ∙ length-octet_bits octets)
    (ap descrambled (octet_bits-push octets o) ∙ step-descrambled 35 r o (octet_bits octets)
    (last-settled r given octets stands)) h

module _ (r given : ℕ) (settled : Bool) (octets : List ℕ)
    (stands : DescramblerStands (record { last = bits 43 r; given = given }) settled octets) where
  pub stands-more-descrambler : (o : ℕ) → o < 2 ^ 8 →
      DescramblerStands (record { last = bits 43 (r % 2 ^ 35 * 2 ^ 8 + o); given = min (given + 1) 6 }) settled (octets ++ o ∷ [])
  stands-more-descrambler o h =
      let all : List ℕ = octets ++ o ∷ [] in
      record {
        before = stands.before;
        size = stands.size;
        zeros = stands.zeros;
        last =
            step-register-descrambler 35 r o stands.before (octet_bits octets) h (last-octets r given settled octets stands)
            ∙ ap (window stands.before) (sym (octet_bits-push octets o))
            ∙ ap (λ n. drop n (stands.before ++ octet_bits all)) (length-octet_bits all);
        given = given-more settled given (length octets) stands.given
            ∙ ap (λ n. if settled then 6 else min n 6) (sym (length_push octets o));
      }

-- ---- A descrambler that forgot what was before stands as one that was settled does after six other octets.
-- two lists that agree from a place of each on, where both have as many elements behind it, with more behind them
pub drop_alike : {A : Type 0} → (a b : ℕ) (xs ys more : List A) → a + length ys ≡ b + length xs →
    drop a xs ≡ drop b ys → drop a (xs ++ more) ≡ drop b (ys ++ more)
drop_alike zero b xs ys more size same = ap (λ l. l ++ more) same ∙ sym (drop-append-le b ys more (omega arith))
drop_alike (suc a) b (x ∷ xs) ys more size same = drop_alike a b xs ys more (omega arith) same
drop_alike (suc a) b [] ys more size same =
    let place : length ys + suc a ≡ b = omega arith in
    sym (drop-append-add ys more (suc a)) ∙ ap (λ n. drop n (ys ++ more)) place

-- six octets whose last bits are those before
abbrev before_octets : List Bool → List ℕ
before_octets before = octets_of 6 (replicate 5 false ++ before)

-- ---- a descrambler with these last bits
module _ (last : List Bool) (octets : List ℕ) where
  settled-before : (given : ℕ) (stands : DescramblerStands (record { last = last; given = given }) false octets) →
      DescramblerStands (record { last = last; given = 6 }) true (before_octets stands.before ++ octets)
  settled-before given stands =
      let zeros : List Bool = replicate 43 false in
      let five : List Bool = replicate 5 false in
      let before : List Bool = stands.before in
      let six : List ℕ = before_octets before in
      let own : List Bool = octet_bits octets in
      let front : length (zeros ++ five) ≡ 48 =
      omega (arith, length-append zeros five, length-replicate 43 false, length-replicate 5 false) in
      let size : length (five ++ before) ≡ 8 * 6 =
      omega (arith, length-append five before, length-replicate 5 false, stands.size) in
      let bits_before : octet_bits six ≡ five ++ before = octet_bits-octets_of 6 (five ++ before) size in
      let place : length (zeros ++ five) + 8 * length octets ≡ 8 * length (six ++ octets) =
      omega (arith, front, length-append six octets, length-octets_of 6 (five ++ before)) in
      let whole : (zeros ++ five) ++ (before ++ own) ≡ zeros ++ octet_bits (six ++ octets) =
      append_assoc zeros five (before ++ own)
      ∙ ap (λ l. zeros ++ l)
      (sym (append_assoc five before own) ∙ ap (λ l. l ++ own) (sym bits_before) ∙ sym (octet_bits-append six octets))
      in
      record {
        before = zeros;
        size = length-replicate 43 false;
        zeros = λ _. refl;
        last = stands.last ∙ sym (drop-append-add (zeros ++ five) (before ++ own) (8 * length octets))
            ∙ ap₂ drop place whole;
        given = refl;
      }

  -- what it answers where it was settled is what it answers where it forgot, apart from what is unknown
  pub answers-known : (given : ℕ) (settled : Bool) (more out : List ℕ) →
      DescramblerStands (record { last = last; given = given }) settled octets →
      ((given : ℕ) (before : List ℕ) → DescramblerStands (record { last = last; given = given }) true before →
      descrambled_octets (before ++ more) ≡ descrambled_octets before ++ out) →
      drop (unknown settled) (descrambled_octets (octets ++ more))
      ≡ drop (unknown settled) (descrambled_octets octets ++ out)
  answers-known given true more out stands answer = answer given octets stands
  answers-known given false more out stands answer =
      let six : List ℕ = before_octets stands.before in
      let size : length six ≡ 6 = length-octets_of 6 (replicate 5 false ++ stands.before) in
      sym (descrambled_octets-behind six (octets ++ more))
      ∙ ap (λ l. drop (length six + 6) (descrambled_octets l)) (sym (append_assoc six octets more))
      ∙ ap (drop (length six + 6)) (answer 6 (six ++ octets) (settled-before given stands))
      ∙ drop_alike (length six + 6) 6 (descrambled_octets (six ++ octets)) (descrambled_octets octets) out
      (omega (
        arith,
        length-descrambled_octets (six ++ octets),
        length-descrambled_octets octets,
        length-append six octets,
      ))
      (descrambled_octets-behind six octets)

-- ---- A word through the scrambler and the descrambler, as octets.
abbrev pub result_of : ℕ → ℕ → ℕ
result_of r w = bit_xor (bit_xor w (r * 2 ^ 21)) (bit_xor w (r * 2 ^ 21) / 2 ^ 43)

word_bits : (octets : List ℕ) (w : ℕ) → octet_bits (octets ++ bytes_high_first 8 w) ≡ octet_bits octets ++ bits 64 w
word_bits octets w = octet_bits-append octets (bytes_high_first 8 w)
    ∙ ap (λ l. octet_bits octets ++ l) (octet_bits-bytes_high_first 8 w)

module _ (r w : ℕ) (small : r < 2 ^ 43) (h : w < 2 ^ 64) (octets : List ℕ)
    (stands : ScramblerStands (record { last = bits 43 r }) octets) where
  more : scrambled (octet_bits (octets ++ bytes_high_first 8 w)) ≡ scrambled (octet_bits octets) ++ bits 64
      (result_of r w)
  more =
      ap scrambled (word_bits octets w)
      ∙ scramble_on-append 43 [] (octet_bits octets) (bits 64 w)
      ∙ word_scrambled 21 22 r w small h (scrambled (octet_bits octets)) stands.last

  pub word-answer : scrambled_octets (octets ++ bytes_high_first 8 w) ≡ scrambled_octets octets ++ bytes_high_first 8
      (result_of r w)
  word-answer =
      more_octets 8 octets w (result_of r w) (scrambled (octet_bits (octets ++ bytes_high_first 8 w)))
      (scrambled (octet_bits octets))
      (length-scrambled (octet_bits octets) ∙ length-octet_bits octets) more

  pub word-stands : ScramblerStands (record { last = bits 43 (result_of r w % 2 ^ 43) }) (octets ++ bytes_high_first 8 w)
  word-stands = record {
    last =
        word_register 21 43 r (result_of r w) (replicate 43 false) (scrambled (octet_bits octets)) stands.last
        ∙ ap (window (replicate 43 false)) (sym more);
  }

-- ---- descrambling
given-full : (settled : Bool) (n : ℕ) → 6 ≤ n → 6 ≡ (if settled then 6 else min n 6)
given-full true n e = refl
given-full false n e = omega arith

abbrev pub back_of : ℕ → ℕ → ℕ
back_of r w = bit_xor w (r * 2 ^ 21 + w / 2 ^ 43)

pub back-answer : (r w given : ℕ) → w < 2 ^ 64 → (octets : List ℕ) →
    StandsBack (record { last = bits 43 r; given = given }) true octets →
    descrambled_octets (octets ++ bytes_high_first 8 w) ≡ descrambled_octets octets ++ bytes_high_first 8 (back_of r w)
back-answer r w given h octets stands =
    more_octets 8 octets w (back_of r w) (descrambled (octet_bits (octets ++ bytes_high_first 8 w)))
    (descrambled (octet_bits octets))
    (length-descrambled (octet_bits octets) ∙ length-octet_bits octets)
    (ap descrambled (word_bits octets w) ∙ word_descrambled 21 43 r w (octet_bits octets) h
    (last-settled r given octets stands))

module _ (r w given : ℕ) (h : w < 2 ^ 64) (settled : Bool) (octets : List ℕ)
    (stands : StandsBack (record { last = bits 43 r; given = given }) settled octets) where
  pub back-stands : StandsBack (record { last = bits 43 (w % 2 ^ 43); given = 6 }) settled
      (octets ++ bytes_high_first 8 w)
  back-stands =
      let all : List ℕ = octets ++ bytes_high_first 8 w in
      record {
        before = stands.before;
        size = stands.size;
        zeros = stands.zeros;
        last =
            word_register 21 43 r w stands.before (octet_bits octets) (last-octets r given settled octets stands)
            ∙ ap (window stands.before) (sym (word_bits octets w))
            ∙ ap (λ n. drop n (stands.before ++ octet_bits all)) (length-octet_bits all);
        given = given-full settled (length all)
            (omega (arith, length-append octets (bytes_high_first 8 w), length-bytes 8 w));
      }

-- ---- The register of the scrambler in the upper bits of a word.
module _ (last : ℕ) (small : last / 2 ^ 21 < 2 ^ 43) (whole : last / 2 ^ 21 * 2 ^ 21 ≡ last) (octets : List ℕ)
    (stands : ScramblerStands (record { last = bits 43 (last / 2 ^ 21) }) octets) where
  module _ (o : ℕ) (h : o < 2 ^ 8) where
    same : bit_xor o (last / 2 ^ 21 / 2 ^ 35) ≡ bit_xor o (last / 2 ^ 56)
    same = ap (bit_xor o) (shr-shr last 21 35)

    below : bit_xor o (last / 2 ^ 21 / 2 ^ 35) < 2 ^ 8
    below = combined_below (last / 2 ^ 21) o small h

    moved : (x : ℕ) → last / 2 ^ 21 % 2 ^ 35 * 2 ^ 8 + x ≡ (last % 2 ^ 56 * 256 + x * 2 ^ 21) / 2 ^ 21
    moved x = omega (arith, whole)

    pub upper_octet-answer : scrambled_octets (octets ++ o ∷ []) ≡ scrambled_octets octets ++ bit_xor o
        (last / 2 ^ 56) ∷ []
    upper_octet-answer = answer-more (last / 2 ^ 21) o octets stands below
        ∙ ap (λ x. scrambled_octets octets ++ x ∷ []) same

    pub upper_octet-stands : (x : ℕ) → x ≡ bit_xor o (last / 2 ^ 56) →
        ScramblerStands (record { last = bits 43 ((last % 2 ^ 56 * 256 + x * 2 ^ 21) / 2 ^ 21) }) (octets ++ o ∷ [])
    upper_octet-stands x e =
        subst (λ v. ScramblerStands (record { last = bits 43 v }) (octets ++ o ∷ []))
        (ap (λ y. last / 2 ^ 21 % 2 ^ 35 * 2 ^ 8 + y) (same ∙ sym e) ∙ moved x)
        (stands-more (last / 2 ^ 21) o octets stands below)

  module _ (w : ℕ) (h : w < 2 ^ 64) where
    abbrev pub word_result : ℕ
    word_result = bit_xor (bit_xor w last) (bit_xor w last / 2 ^ 43)

    is_result : result_of (last / 2 ^ 21) w ≡ word_result
    is_result = ap (λ l. bit_xor (bit_xor w l) (bit_xor w l / 2 ^ 43)) whole

    pub upper_word-answer : scrambled_octets (octets ++ bytes_high_first 8 w)
        ≡ scrambled_octets octets ++ bytes_high_first 8 word_result
    upper_word-answer = word-answer (last / 2 ^ 21) w small h octets stands
        ∙ ap (λ v. scrambled_octets octets ++ bytes_high_first 8 v) is_result

    pub upper_word-stands : ScramblerStands (record { last = bits 43 (word_result % 2 ^ 43 * 2 ^ 21 / 2 ^ 21) })
        (octets ++ bytes_high_first 8 w)
    upper_word-stands =
        subst (λ v. ScramblerStands (record { last = bits 43 v }) (octets ++ bytes_high_first 8 w))
        (ap (λ v. v % 2 ^ 43) is_result ∙ sym (shl-shr (word_result % 2 ^ 43) 21))
        (word-stands (last / 2 ^ 21) w small h octets stands)
