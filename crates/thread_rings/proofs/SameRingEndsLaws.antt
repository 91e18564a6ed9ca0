-- Ends of rings that stay the same (SameOut, SameIn), and the items that they know of.
use Rattle.std.proofs.Common.{◌≡◌, sym, ◌∙◌, ap, ℕ, zero, suc, ◌+◌, ◌≤◌, List, [], ◌∷◌, ◌++◌, map, take, refl, subst}
use Rattle.std.proofs.Common.{arith}
use Rattle.thread_rings.specs.EndsOfRing.{OutEnd, InEnd, AreEnds, SameOut, SameIn}
use mathlib.Core.List.{IsPrefix}

-- ---- Ends of rings stay what they are.
pub out-then : {T : Type 0} (a b c : OutEnd T) → SameOut a b → SameOut b c → SameOut a c
out-then a b c s t = (t.0 ∙ s.0, t.1 ∙ s.1, t.2 ∙ s.2)

pub in-then : {T : Type 0} (a b c : InEnd T) → SameIn a b → SameIn b c → SameIn a c
in-then a b c s t = (t.0 ∙ s.0, t.1 ∙ s.1, t.2 ∙ s.2)

-- ends of one ring are ends of one ring later
pub ends-moved : {T : Type 0} (out later : OutEnd T) (into after : InEnd T) → AreEnds out into → SameOut out later →
    SameIn into after → AreEnds later after
ends-moved out later into after e s t = (t.0 ∙ (e.0 ∙ sym s.0), t.1 ∙ (e.1 ∙ sym s.1))

-- whatever lies in the hand, it is the same end
pub out-hand : {T : Type 0} (a b : OutEnd T) (x : T) → b ≡ record a { hand = x } → SameOut a b
out-hand a b x e = (ap (λ out. out.forth) e, ap (λ out. out.back) e, ap (λ out. out.size) e)

pub in-hand : {T : Type 0} (a b : InEnd T) (x : T) → b ≡ record a { hand = x } → SameIn a b
in-hand a b x e = (ap (λ into. into.forth) e, ap (λ into. into.back) e, ap (λ into. into.size) e)

-- ---- The items that an end knows of, as far as there is room for their places.
module _ {X T : Type 0} (f : X → T) where
  known-more : (xs rest : List X) (n m : ℕ) → n ≤ m → IsPrefix (take n (map f xs)) (take m (map f (xs ++ rest)))
  known-more xs rest zero m low = (take m (map f (xs ++ rest)), refl)
  known-more xs rest (suc n) zero low = absurd (omega (arith, low))
  known-more [] rest (suc n) (suc m) low = (take (suc m) (map f rest), refl)
  known-more (x ∷ xs) rest (suc n) (suc m) low =
      let (more, is) = known-more xs rest n m (omega (arith, low)) in (more, ap (λ l. f x ∷ l) is)

  -- after a look at both rings
  pub known-kept : (was : List T) (xs ys : List X) (n m : ℕ) → take n (map f xs) ≡ was → IsPrefix xs ys → n ≤ m →
      IsPrefix was (take m (map f ys))
  known-kept was xs ys n m is longer low =
      subst (λ l. IsPrefix l (take m (map f ys))) is
      (subst (λ l. IsPrefix (take n (map f xs)) (take m (map f l))) longer.1 (known-more xs longer.0 n m low))

  -- after a pop, with the place given back
  pub known-popped : (was : List T) (xs rest : List X) (x y : X) (n m : ℕ) → take n (map f xs) ≡ was →
      xs ≡ x ∷ rest → n ≡ m + 1 → y ≡ x → was ≡ f y ∷ take m (map f rest)
  known-popped was xs rest x y n m had is some same =
      let next : n ≡ suc m = omega (arith, some) in
      rw (← had, is, next, same) refl
