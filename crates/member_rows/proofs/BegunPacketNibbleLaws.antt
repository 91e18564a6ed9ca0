-- The nibbles of a packet that has begun on a line, one number or one cell later.
use Rattle.std.proofs.Common.{◌≡◌, ℕ, zero, suc, ◌+◌, ◌-◌, ◌*◌, ◌/◌, ◌%◌, ◌<◌, ◌≤◌, ◌==◌, nat_lt, inl, inr, Bool, true}
use Rattle.std.proofs.Common.{false, if◌then◌else◌, List, [], ◌∷◌, ◌++◌, length, take, slice_set, Option, Some, None}
use Rattle.std.proofs.Common.{refl, sym, ◌∙◌, ap, subst, arith, ◌||◌, ne_eqb, ltb-true, ltb-false, take_all}
use Rattle.std.proofs.Common.{take-suc-set}
use Rattle.std.proofs.lemmas.Bool.{cases_Bool}
use Rattle.law_model.specs.Common.{Cell, verdict, upper_of, with_last, uppers, Container}
use Rattle.law_model.specs.rows.GroupRows.{packet_in}
use Rattle.member_rows.specs.realign_rows.BegunNibbles.{HasNibbles, packet_at, Begun}
use Rattle.member_path.specs.cell_numbers.Numbers.{Numbers, NumbersStand}
use Rattle.member_path.proofs.LineNumbersAfterCellLaws.{passed-decided}
use Rattle.law_line.proofs.DecidedPacketAndRowLaws.{octets_stay}

-- ---- The nibbles of a packet, one number later.
-- ---- a number that is whole
both : (whole : Bool) (before after : List ℕ) (x : ℕ) → after ≡ before ++ x ∷ [] →
    with_last (if whole then Some before else None) (Some x) ≡ (if whole then Some after else None)
both true before after x e = ap Some (sym e)
both false before after x e = refl

uppers-some : (nibbles : List ℕ) (whole : Bool) (own : List Cell) (from j x : ℕ) → j < length nibbles →
    (0 < j → uppers own from j ≡ (if whole then Some (take j nibbles) else None)) →
    upper_of (verdict own (from + j)) ≡ Some x →
    uppers own from (suc j) ≡ (if (j == 0) || whole then Some (take (suc j) (slice_set nibbles j x)) else None)
unfolding uppers
uppers-some nibbles whole own from zero x inside has is = ap (with_last (Some [])) is
    ∙ ap Some (sym (take-suc-set nibbles 0 x inside))
uppers-some nibbles whole own from (suc j) x inside has is =
    rw (ne_eqb (suc j) 0 (λ e. omega arith))
    (ap (with_last (uppers own from (suc j))) is ∙ ap (λ o. with_last o (Some x)) (has (omega arith))
    ∙ both whole (take (suc j) nibbles) (take (suc (suc j)) (slice_set nibbles (suc j) x)) x
    (take-suc-set nibbles (suc j) x inside))

-- ---- or not
with-none : (o : Option (List ℕ)) → with_last o None ≡ None
with-none None = refl
with-none (Some l) = refl

uppers-none : (own : List Cell) (from j : ℕ) → upper_of (verdict own (from + j)) ≡ None → uppers own from (suc j) ≡ None
unfolding uppers
uppers-none own from j is = ap (with_last (uppers own from j)) is ∙ with-none (uppers own from j)

-- ---- one number more
early-whole : (j : ℕ) (whole : Bool) → 0 < j → whole ≡ false → ((j == 0) || whole) ≡ false
early-whole j whole some e = rw (ne_eqb j 0 (λ z. omega arith), e) refl

pub takes-some : (nibbles : List ℕ) (whole : Bool) (own : List Cell) (t j x : ℕ) → length nibbles ≡ 16 →
    HasNibbles (record { nibbles = nibbles; whole = whole }) own t → j ≡ (t + 8) % 16 →
    upper_of (verdict own t) ≡ Some x →
    HasNibbles (record { nibbles = slice_set nibbles j x; whole = (j == 0) || whole }) own (t + 1)
takes-some nibbles whole own t j x size has place is = record {
  early = λ low. early-whole j whole (omega arith) (has.early (omega arith));
  part = λ k i e some most. last k i e some most;
}
  where
    last : (k i : ℕ) → t + 1 ≡ 16 * k + 8 + i → 0 < i → i ≤ 16 →
        uppers own (16 * k + 8) i ≡ (if (j == 0) || whole then Some (take i (slice_set nibbles j x)) else None)
    last k zero e some most = absurd (omega arith)
    last k (suc i) e some most =
        let same : j ≡ i = omega arith in
        let number : t ≡ 16 * k + 8 + i = omega arith in
        rw same (uppers-some nibbles whole own (16 * k + 8) i x (omega arith)
        (λ low. has.part k i number low (omega arith)) (subst (λ t. upper_of (verdict own t) ≡ Some x) number is))

pub takes-none : (nibbles : List ℕ) (whole : Bool) (own : List Cell) (t : ℕ) → upper_of (verdict own t) ≡ None →
    HasNibbles (record { nibbles = nibbles; whole = false }) own (t + 1)
takes-none nibbles whole own t is = record { early = λ low. refl; part = λ k i e some most. last k i e some most }
  where
    last : (k i : ℕ) → t + 1 ≡ 16 * k + 8 + i → 0 < i → i ≤ 16 → uppers own (16 * k + 8) i ≡ None
    last k zero e some most = absurd (omega arith)
    last k (suc i) e some most =
        let number : t ≡ 16 * k + 8 + i = omega arith in
        uppers-none own (16 * k + 8) i (subst (λ t. upper_of (verdict own t) ≡ None) number is)

-- ---- all sixteen
whole-packet : (nibbles : List ℕ) (whole : Bool) (own : List Cell) (t : ℕ) → length nibbles ≡ 16 →
    HasNibbles (record { nibbles = nibbles; whole = whole }) own t → t % 16 ≡ 8 →
    packet_at own t ≡ packet_in (if whole then Some nibbles else None)
whole-packet nibbles whole own t size has last =
    elim (cases_Bool (nat_lt t 24)) [
      | inl early ↦
          let low = ltb-true t 24 early in
          rw early (sym (ap (λ whole. packet_in (if whole then Some nibbles else None)) (has.early (omega arith))))
      | inr late ↦
          let high = ltb-false t 24 late in
          let k : ℕ = (t - 24) / 16 in
          let all : t ≡ 16 * k + 8 + 16 = omega arith in
          rw late (ap packet_in (has.part k 16 all (omega arith) (omega arith)
          ∙ ap (λ all. if whole then Some all else None) (take_all 16 nibbles (omega arith))))
    ]

pub packet-some : (nibbles : List ℕ) (whole : Bool) (own : List Cell) (t : ℕ) → whole ≡ true → length nibbles ≡ 16 →
    HasNibbles (record { nibbles = nibbles; whole = whole }) own t → t % 16 ≡ 8 →
    packet_at own t ≡ packet_in (Some nibbles)
packet-some nibbles whole own t is size has last = whole-packet nibbles whole own t size has last
    ∙ ap (λ whole. packet_in (if whole then Some nibbles else None)) is

-- ---- What is kept of a line, one cell later.
-- a cell changes nothing of numbers that were passed
pub nibbles-stay : (begun : Begun) (numbers : Numbers) (place : Container) (own more : List Cell) (t : ℕ) →
    NumbersStand numbers place own t → HasNibbles begun own t → HasNibbles begun (own ++ more) t
nibbles-stay begun numbers place own more t stands has = record {
  early = has.early;
  part = λ k j e some most.
      octets_stay own more (16 * k + 8) j (λ s low high. passed-decided numbers place own t s stands (omega arith))
      ∙ has.part k j e some most;
}
