-- The worked lines: their containers, and what is read of them.
use Rattle.std.proofs.Common.{◌≡◌, ℕ, zero, suc, ◌+◌, ◌%◌, inl, inr, slice_get, Some, refl, ◌∙◌, ap, arith}
use Rattle.std.proofs.lemmas.Bool.{cases_eq, eq-eqb, ne_eqb}
use Rattle.law_model.specs.Common.{Container, slip_after, AreWindows, path, read_on, HasPlace, AreSent}
use Rattle.law_model.specs.members.Damage.{carried}
use Rattle.law_line.specs.WorkedLines.{container, containers, window, two_windows, three_windows, IsMet, AreSummed}
use Rattle.law_line.specs.WorkedLines.{AreSeventeen}

-- The worked lines.
container_place : (n : ℕ) → HasPlace n (container n).h4
unfolding container
container_place n =
    elim (cases_eq (n % 16) 1) [
      | inl first ↦ rw (eq-eqb (n % 16) 1 first)
          (record {
            small = omega arith;
            mfi1 = omega arith;
            upper = λ e. absurd (omega arith);
            lower =
                λ e. omega arith;
          })
      | inr other ↦ rw (ne_eqb (n % 16) 1 other)
          (record { small = omega arith; mfi1 = omega arith; upper = λ e. omega arith; lower = λ e. absurd (other e) })
    ]

containers-at : (n count k : ℕ) (c : Container) → slice_get (containers n count) k ≡ Some c → c ≡ container (n + k)
unfolding containers
containers-at n zero k c e = absurd cc
containers-at n (suc count) zero c e = let e : c ≡ container n = cc in
    e ∙ ap container (let e : n ≡ n + 0 = omega arith in e)
containers-at n (suc count) (suc k) c e = containers-at (suc n) count k c e
    ∙ ap container (let e : suc n + k ≡ n + suc k = omega arith in e)

are_sent : (count : ℕ) → AreSent (containers 0 count)
are_sent count n c here =
    let e : c ≡ container n = containers-at 0 count n c here ∙ ap container (let e : 0 + n ≡ n = omega arith in e) in
    rw e (container_place n)

pub is_met : IsMet
unfolding two_windows window slip_after AreWindows
is_met count = record {
  apart = (omega arith, omega arith, (omega arith, omega arith, tt));
  slip = omega arith;
  sent =
      are_sent count;
}

pub are_summed : AreSummed
unfolding three_windows window slip_after carried path container containers read_on
are_summed = (refl, refl)

pub are_seventeen : AreSeventeen
unfolding window carried path container containers read_on
are_seventeen = (refl, refl)
