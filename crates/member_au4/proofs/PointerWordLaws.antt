-- The word of a frame says what the frame's action is.
use Rattle.std.proofs.Common.{◌≡◌, ◌≢◌, ℕ, ◌+◌, ◌/◌, ◌%◌, ◌^◌, ◌<◌, ◌≤◌, Bool, true, false, nat_le, if◌then◌else◌}
use Rattle.std.proofs.Common.{bit_xor, Option, Some, None, Ok, List, refl, sym, ◌∙◌, ap, arith}
use Rattle.std.proofs.lemmas.Bool.Decides.{nat_tests}
use Rattle.std.proofs.lemmas.Nat.{xor_lt}
use Rattle.std.proofs.lemmas.Nat.Bits.{bit_at_xor}
use Rattle.std.specs.Int.{bit_at}
use Rattle.std.proofs.lemmas.Bool.{eq-eqb, ne_eqb, le-leb}
use Rattle.member_au4.specs.declared.au4_pointer.au_frame.Action.{Action}
use Rattle.member_au4.specs.declared.au4_pointer.au_frame.Action.TheVariants.{Keep, Up, Down, New}
use Rattle.member_au4.specs.declared.au4_pointer.pointer_source.PointerFault.TheVariants.{Range}
use Rattle.member_au4.specs.au4_pointer.PointerWord.{next_value, word_of, beginning, moving, reading, fault_after}
use Rattle.member_au4.specs.au4_pointer.PointerWord.{too_soon, new_wait}
use Rattle.member_au4.specs.au4_pointer.Source.{IsValid}

-- The word of a frame says what the frame's action is.
-- ---- the three values of a frame differ
other-bit : (x : ℕ) → x ≢ (x + 1) % 2
other-bit x e = omega (arith, e)

up-other : (value : ℕ) → bit_xor value 682 ≢ value
up-other value e =
    let x = bit_at value 1 in
    let bit : bit_at (bit_xor value 682) 1 ≡ (x + 1) % 2 = bit_at_xor value 682 1 in
    other-bit x (ap (λ v. bit_at v 1) (sym e) ∙ bit)

down-other : (value : ℕ) → bit_xor value 341 ≢ value
down-other value e =
    let x = bit_at value 0 in
    let bit : bit_at (bit_xor value 341) 0 ≡ (x + 1) % 2 = bit_at_xor value 341 0 in
    other-bit x (ap (λ v. bit_at v 0) (sym e) ∙ bit)

down-up : (value : ℕ) → bit_xor value 341 ≢ bit_xor value 682
down-up value e =
    let x = bit_at value 0 in
    let one : bit_at (bit_xor value 341) 0 ≡ (x + 1) % 2 = bit_at_xor value 341 0 in
    let two : bit_at (bit_xor value 682) 0 ≡ (x + 0) % 2 = bit_at_xor value 682 0 in
    let same : (x + 1) % 2 ≡ (x + 0) % 2 = sym one ∙ ap (λ v. bit_at v 0) e ∙ two in
    omega (arith, same)

small : (value : ℕ) → value ≤ 782 → value < 2 ^ 10
small value h = omega (arith, h)

-- ---- words that are read
module _ (value word : ℕ) where
  keep-read : word % 1024 ≡ value → moving value word ≡ Ok Keep
  keep-read e = rw (eq-eqb (word % 1024) value e) refl

  up-read : word % 1024 ≡ bit_xor value 682 → moving value word ≡ Ok Up
  up-read e =
      rw (ne_eqb (word % 1024) value (λ h. up-other value (sym e ∙ h)))
      (rw (eq-eqb (word % 1024) (bit_xor value 682) e) refl)

  down-read : word % 1024 ≡ bit_xor value 341 → moving value word ≡ Ok Down
  down-read e =
      rw (ne_eqb (word % 1024) value (λ h. down-other value (sym e ∙ h)))
      (rw (ne_eqb (word % 1024) (bit_xor value 682) (λ h. down-up value (sym e ∙ h)))
      (rw (eq-eqb (word % 1024) (bit_xor value 341) e) refl))

  new-read : word % 1024 ≡ value → value ≤ 782 → beginning word ≡ Ok (New value)
  new-read e h = rw (le-leb (word % 1024) 782 (omega (arith, e, h))) (ap (λ v. Ok (New v)) e)

  stays : word / 4096 ≡ 6 → reading (Some value) word ≡ moving value word
  stays e = rw (eq-eqb (word / 4096) 6 e) refl

first-read : (word : ℕ) → word / 4096 ≡ 6 → reading None word ≡ beginning word
first-read word e = rw (eq-eqb (word / 4096) 6 e) refl

begins : (before : Option ℕ) (word : ℕ) → word / 4096 ≡ 9 → reading before word ≡ beginning word
begins (Some value) word e =
    rw (ne_eqb (word / 4096) 6 (λ h. omega (arith, h, e))) (rw (eq-eqb (word / 4096) 9 e) refl)
begins None word e = rw (ne_eqb (word / 4096) 6 (λ h. omega (arith, h, e))) (rw (eq-eqb (word / 4096) 9 e) refl)

upper : (x : ℕ) → x < 1024 → (26624 + x) / 4096 ≡ 6
upper x h = omega (arith, h)

lower : (x : ℕ) → x < 1024 → (26624 + x) % 1024 ≡ x
lower x h = omega (arith, h)

new-upper : (x : ℕ) → x < 1024 → (38912 + x) / 4096 ≡ 9
new-upper x h = omega (arith, h)

new-lower : (x : ℕ) → x < 1024 → (38912 + x) % 1024 ≡ x
new-lower x h = omega (arith, h)

-- behind a frame
pub reads : (value : ℕ) (a : Action) → value ≤ 782 → IsValid a → reading (Some value) (word_of value a) ≡ Ok a
reads value Keep h valid = stays value (26624 + value) (upper value (omega (arith, h)))
    ∙ keep-read value (26624 + value) (lower value (omega (arith, h)))
reads value Up h valid =
    let x = bit_xor value 682 in
    let less : x < 2 ^ 10 = xor_lt 10 value 682 (small value h) (omega arith) in
    stays value (26624 + x) (upper x less) ∙ up-read value (26624 + x) (lower x less)
reads value Down h valid =
    let x = bit_xor value 341 in
    let less : x < 2 ^ 10 = xor_lt 10 value 341 (small value h) (omega arith) in
    stays value (26624 + x) (upper x less) ∙ down-read value (26624 + x) (lower x less)
reads value (New p) h valid =
    begins (Some value) (38912 + p) (new-upper p (omega (arith, valid)))
    ∙ new-read p (38912 + p) (new-lower p (omega (arith, valid))) valid

-- of a first frame
pub reads-keep-first : (value : ℕ) → value ≤ 782 → reading None (word_of value Keep) ≡ Ok (New value)
reads-keep-first value h = first-read (26624 + value) (upper value (omega (arith, h)))
    ∙ new-read value (26624 + value) (lower value (omega (arith, h))) h

pub reads-new-first : (value p : ℕ) → p ≤ 782 → reading None (word_of value (New p)) ≡ Ok (New p)
reads-new-first value p h = begins None (38912 + p) (new-upper p (omega (arith, h)))
    ∙ new-read p (38912 + p) (new-lower p (omega (arith, h))) h

pub next-below : (value : ℕ) (a : Action) → value ≤ 782 → IsValid a → next_value value a ≤ 782
next-below value Keep h valid = h
next-below value (New p) h valid = valid
next-below value a h valid = omega arith

-- ---- what is accepted
bound-by : (p left : ℕ) (b : Bool) → nat_le p 782 ≡ b → (if b then too_soon left else Some (Range p)) ≡ None → p ≤ 782
bound-by p left true e h = grind (arith, nat_tests, e)
bound-by p left false e h = cc

pub accepted-valid : (before : List Action) (a : Action) → fault_after before a ≡ None → IsValid a
accepted-valid before (New p) h = bound-by p (new_wait before) (nat_le p 782) refl h
accepted-valid before a h = tt
