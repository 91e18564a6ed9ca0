-- The parser takes plain words, and its matches say them.
use Rattle.std.proofs.Common.{◌≡◌, ◌==◌, ◌&&◌, ◌<◌, ◌∙◌, ℕ, List, [], ◌∷◌, Bool, true, false, refl, sym}
use Rattle.std.proofs.Common.{arith, length, nat_le}
use Rattle.std.proofs.lemmas.Bool.{and_parts, false≢true, not-true, lt-leb}
use Rattle.std.specs.List.{list_all}
use Rattle.clap.specs.Words.{Text, is_simple, matches_of, takes}
use Rattle.clap.proofs.OnLiterals.{clap_on_literals}
use Rattle.command_words.specs.CommandLineWords.{is_plain, are_plain}
use Rattle.command_words.specs.Parser.{words_app, words_in}

pub is_parser : is_simple words_app ≡ true
unfolding clap_on_literals
is_parser = refl

-- the parser takes the words, and its matches say them
pub record Reads (words : List Text) : Type 0 where
  pub taken : takes words_app words ≡ true
  pub told : words_in (matches_of words_app words) ≡ words

-- ---- by their number
one : (a : ℕ) (u : Text) → (a == 45) ≡ false → Reads ((a ∷ u) ∷ [])
unfolding clap_on_literals
one a u g = record { taken = simp g refl; told = simp g refl }

two : (a b : ℕ) (u v : Text) → (a == 45) ≡ false → (b == 45) ≡ false → Reads ((a ∷ u) ∷ (b ∷ v) ∷ [])
unfolding clap_on_literals
two a b u v g h = record { taken = simp (g, h) refl; told = simp (g, h) refl }

three : (a b c : ℕ) (u v w : Text) → (a == 45) ≡ false → (b == 45) ≡ false → (c == 45) ≡ false →
    Reads ((a ∷ u) ∷ (b ∷ v) ∷ (c ∷ w) ∷ [])
unfolding clap_on_literals
three a b c u v w g h i = record { taken = simp (g, h, i) refl; told = simp (g, h, i) refl }

four : (a b c d : ℕ) (u v w x : Text) → (a == 45) ≡ false → (b == 45) ≡ false → (c == 45) ≡ false → (d == 45) ≡ false →
    Reads ((a ∷ u) ∷ (b ∷ v) ∷ (c ∷ w) ∷ (d ∷ x) ∷ [])
unfolding clap_on_literals
four a b c d u v w x g h i j = record { taken = simp (g, h, i, j) refl; told = simp (g, h, i, j) refl }

five : (a b c d e : ℕ) (u v w x y : Text) → (a == 45) ≡ false → (b == 45) ≡ false → (c == 45) ≡ false →
    (d == 45) ≡ false → (e == 45) ≡ false → Reads ((a ∷ u) ∷ (b ∷ v) ∷ (c ∷ w) ∷ (d ∷ x) ∷ (e ∷ y) ∷ [])
unfolding clap_on_literals
five a b c d e u v w x y g h i j k = record { taken = simp (g, h, i, j, k) refl; told = simp (g, h, i, j, k) refl }

six : (a b c d e f : ℕ) (u v w x y z : Text) → (a == 45) ≡ false → (b == 45) ≡ false → (c == 45) ≡ false →
    (d == 45) ≡ false → (e == 45) ≡ false → (f == 45) ≡ false →
    Reads ((a ∷ u) ∷ (b ∷ v) ∷ (c ∷ w) ∷ (d ∷ x) ∷ (e ∷ y) ∷ (f ∷ z) ∷ [])
unfolding clap_on_literals
six a b c d e f u v w x y z g h i j k l =
    record { taken = simp (g, h) (simp (i, j) (simp (k, l) refl)); told = simp (g, h, i, j, k, l) refl }

-- ---- plain words
record Begins (word : Text) : Type 0 where
  pub first : ℕ
  pub rest : Text
  pub word_is : word ≡ first ∷ rest
  pub no_dash : (first == 45) ≡ false

begins : (word : Text) → is_plain word ≡ true → Begins word
begins [] h = absurd (false≢true h)
begins (first ∷ rest) h = record { first = first; rest = rest; word_is = refl; no_dash = not-true (first == 45) h }

plain-words : (words : List Text) → are_plain words ≡ true → list_all is_plain words ≡ true
plain-words words h = (and_parts _ _ (and_parts _ _ h).1).1

no-middle : (a b c : Bool) → b ≡ false → (a && (b && c)) ≡ false
no-middle true b c is = rw is refl
no-middle false b c is = refl

too-many : (words : List Text) → 6 < length words → are_plain words ≡ false
too-many words many = no-middle (nat_le 1 (length words)) (nat_le (length words) 6) (list_all is_plain words)
    (lt-leb (length words) 6 many)

read-one : (w0 : Text) → Begins w0 → Reads (w0 ∷ [])
read-one w0 b0 =
    rw b0.word_is (one b0.first b0.rest b0.no_dash)

read-two : (w0 w1 : Text) → Begins w0 → Begins w1 → Reads (w0 ∷ w1 ∷ [])
read-two w0 w1 b0 b1 =
    rw (b0.word_is, b1.word_is) (two b0.first b1.first b0.rest b1.rest b0.no_dash b1.no_dash)

read-three : (w0 w1 w2 : Text) → Begins w0 → Begins w1 → Begins w2 → Reads (w0 ∷ w1 ∷ w2 ∷ [])
read-three w0 w1 w2 b0 b1 b2 =
    rw (b0.word_is, b1.word_is, b2.word_is)
    (three b0.first b1.first b2.first b0.rest b1.rest b2.rest b0.no_dash b1.no_dash b2.no_dash)

read-four : (w0 w1 w2 w3 : Text) → Begins w0 → Begins w1 → Begins w2 → Begins w3 → Reads (w0 ∷ w1 ∷ w2 ∷ w3 ∷ [])
read-four w0 w1 w2 w3 b0 b1 b2 b3 =
    rw (b0.word_is, b1.word_is, b2.word_is, b3.word_is)
    (four b0.first b1.first b2.first b3.first b0.rest b1.rest b2.rest b3.rest b0.no_dash b1.no_dash b2.no_dash
    b3.no_dash)

read-five : (w0 w1 w2 w3 w4 : Text) → Begins w0 → Begins w1 → Begins w2 → Begins w3 → Begins w4 →
    Reads (w0 ∷ w1 ∷ w2 ∷ w3 ∷ w4 ∷ [])
read-five w0 w1 w2 w3 w4 b0 b1 b2 b3 b4 =
    rw (b0.word_is, b1.word_is, b2.word_is, b3.word_is, b4.word_is)
    (five b0.first b1.first b2.first b3.first b4.first b0.rest b1.rest b2.rest b3.rest b4.rest b0.no_dash b1.no_dash
    b2.no_dash b3.no_dash b4.no_dash)

read-six : (w0 w1 w2 w3 w4 w5 : Text) → Begins w0 → Begins w1 → Begins w2 → Begins w3 → Begins w4 → Begins w5 →
    Reads (w0 ∷ w1 ∷ w2 ∷ w3 ∷ w4 ∷ w5 ∷ [])
read-six w0 w1 w2 w3 w4 w5 b0 b1 b2 b3 b4 b5 =
    rw (b0.word_is, b1.word_is, b2.word_is, b3.word_is, b4.word_is, b5.word_is)
    (six b0.first b1.first b2.first b3.first b4.first b5.first b0.rest b1.rest b2.rest b3.rest b4.rest b5.rest
    b0.no_dash b1.no_dash b2.no_dash b3.no_dash b4.no_dash b5.no_dash)

pub reads : (words : List Text) → are_plain words ≡ true → Reads words
reads [] h = absurd (false≢true h)
reads (w0 ∷ []) h =
    let p0 = and_parts _ _ (plain-words (w0 ∷ []) h) in
    read-one w0 (begins w0 p0.0)
reads (w0 ∷ w1 ∷ []) h =
    let p0 = and_parts _ _ (plain-words (w0 ∷ w1 ∷ []) h) in
    let p1 = and_parts _ _ p0.1 in
    read-two w0 w1 (begins w0 p0.0) (begins w1 p1.0)
reads (w0 ∷ w1 ∷ w2 ∷ []) h =
    let p0 = and_parts _ _ (plain-words (w0 ∷ w1 ∷ w2 ∷ []) h) in
    let p1 = and_parts _ _ p0.1 in
    let p2 = and_parts _ _ p1.1 in
    read-three w0 w1 w2 (begins w0 p0.0) (begins w1 p1.0) (begins w2 p2.0)
reads (w0 ∷ w1 ∷ w2 ∷ w3 ∷ []) h =
    let p0 = and_parts _ _ (plain-words (w0 ∷ w1 ∷ w2 ∷ w3 ∷ []) h) in
    let p1 = and_parts _ _ p0.1 in
    let p2 = and_parts _ _ p1.1 in
    let p3 = and_parts _ _ p2.1 in
    read-four w0 w1 w2 w3 (begins w0 p0.0) (begins w1 p1.0) (begins w2 p2.0) (begins w3 p3.0)
reads (w0 ∷ w1 ∷ w2 ∷ w3 ∷ w4 ∷ []) h =
    let p0 = and_parts _ _ (plain-words (w0 ∷ w1 ∷ w2 ∷ w3 ∷ w4 ∷ []) h) in
    let p1 = and_parts _ _ p0.1 in
    let p2 = and_parts _ _ p1.1 in
    let p3 = and_parts _ _ p2.1 in
    let p4 = and_parts _ _ p3.1 in
    read-five w0 w1 w2 w3 w4 (begins w0 p0.0) (begins w1 p1.0) (begins w2 p2.0) (begins w3 p3.0) (begins w4 p4.0)
reads (w0 ∷ w1 ∷ w2 ∷ w3 ∷ w4 ∷ w5 ∷ []) h =
    let p0 = and_parts _ _ (plain-words (w0 ∷ w1 ∷ w2 ∷ w3 ∷ w4 ∷ w5 ∷ []) h) in
    let p1 = and_parts _ _ p0.1 in
    let p2 = and_parts _ _ p1.1 in
    let p3 = and_parts _ _ p2.1 in
    let p4 = and_parts _ _ p3.1 in
    let p5 = and_parts _ _ p4.1 in
    read-six w0 w1 w2 w3 w4 w5 (begins w0 p0.0) (begins w1 p1.0) (begins w2 p2.0) (begins w3 p3.0) (begins w4 p4.0)
    (begins w5 p5.0)
reads (w0 ∷ w1 ∷ w2 ∷ w3 ∷ w4 ∷ w5 ∷ w6 ∷ more) h =
    absurd (false≢true (sym (too-many (w0 ∷ w1 ∷ w2 ∷ w3 ∷ w4 ∷ w5 ∷ w6 ∷ more) (omega arith)) ∙ h))
