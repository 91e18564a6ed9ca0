-- How many carries bursts add, line by line and share by share.
use Rattle.std.proofs.Common.{◌≡◌, ◌⊎◌, ◌↔◌, ◌||◌, inl, inr, ℕ, ◌<◌, ◌≤◌, Bool, true, false, List, length, get_or, set, sum_by}
use Rattle.std.proofs.Common.{refl, ap, arith, length-append}
use Rattle.law_model.specs.Common.{Container}
use Rattle.thread_rings.specs.EndsOfRing.{in_passed}
use Rattle.std.proofs.lemmas.Bool.{cases_lt}
use Rattle.std.proofs.lemmas.List.Sums.{sum_by-set}
use Rattle.thread_rings.specs.declared.line_worker.LineWorker.{LineWorker}
use Rattle.thread_rings.specs.WorkerOfLine.{carries_of, IsLater}

-- a worker that is later has carried no less
pub carries-rise : (a b : LineWorker) → IsLater a b → carries_of a ≤ carries_of b
carries-rise a b later =
    let (rest, longer) = later.received in
    let size = ap (λ (l : List Container). length l) longer in
    omega (arith, later.flushes, size, length-append (in_passed a.consumer) rest)

-- one of some values changes, and none falls: the sum has risen from a number where it had before, or where this one rises
pub record Rises (P : Type 0) (first now : ℕ) : Type 0 where
  pub low : first ≤ now
  pub moved : P ↔ (first < now)

pub rises-next : {A P Q R : Type 0} (f : A → ℕ) (first : ℕ) (xs : List A) (i : ℕ) (d new : A) → i < length xs →
    f (get_or xs i d) ≤ f new → Rises P first (sum_by f xs) → Q ↔ (f (get_or xs i d) < f new) → R ↔ (P ⊎ Q) →
    Rises R first (sum_by f (set xs i new))
rises-next f first xs i d new within low before own both =
    let adds = sum_by-set f xs i new d within in
    record {
      low = omega (arith, adds, low, before.low);
      moved = (
        (λ moved. elim (both.0 moved) [
          | inl h ↦ let e = before.moved.0 h in omega (arith, adds, low, e)
          | inr h ↦ let e = own.0 h in omega (arith, adds, e, before.low)
        ]),
        (λ more. both.1 (elim (cases_lt first (sum_by f xs)) [
          | inl h ↦ inl (before.moved.1 h)
          | inr h ↦ inr (own.1 (omega (arith, adds, h, more)))
        ])),
      );
    }

pub none-rises : (P : Type 0) (n : ℕ) → (P → ⊥) → Rises P n n
none-rises P n never = record {
  low = omega arith;
  moved = ((λ yes. absurd (never yes)), (λ more. absurd (omega (arith, more))));
}

pub or-either : (a b : Bool) → ((a || b) ≡ true) ↔ ((a ≡ true) ⊎ (b ≡ true))
or-either true b = ((λ yes. inl refl), (λ either. refl))
or-either false true = ((λ yes. inr refl), (λ either. refl))
or-either false false = ((λ yes. inl yes), (λ either. elim either [ inl h ↦ h | inr h ↦ h ]))
