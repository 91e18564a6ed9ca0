-- The verdicts that the reading of a line's cells gives its containers; more cells change none of them.
use Rattle.std.proofs.Common.{◌≡◌, ℕ, zero, suc, ◌+◌, ◌*◌, ◌/◌, ◌%◌, ◌<◌, ◌≤◌, ◌==◌, nat_le, true, false, inl, inr}
use Rattle.std.proofs.Common.{List, [], ◌∷◌, ◌++◌, length, replicate, slice_get, Option, Some, None, refl, sym, ◌∙◌}
use Rattle.std.proofs.Common.{ap, subst, arith, length-append, append_assoc, eq-eqb, eqb-true, leb-true, append-nil}
use Rattle.std.proofs.Common.{◌-◌, min, nat_lt, take, length-take}
use Rattle.std.proofs.lemmas.Bool.{cases_eq, eqb-false, cases_Bool, cases_lt, ltb-true}
use Rattle.law_model.specs.Common.{Container, Good, Fail, is_whole, HasPlace, expected, LineLock, unlocked, locked}
use Rattle.law_model.specs.Common.{over, unknown, locks, at, ahead, Reading, read_good, read_at, Cell, End, cells_of}
use Rattle.law_model.specs.Common.{path, read_on, reading_of, verdict_over, verdict_in, verdict, AreSent, IsLine}
use Rattle.law_model.specs.Common.{end_of, cells, sight_of, verdicts_by, verdict_or}
use Rattle.law_model.specs.declared.window_types.Carried.{Carried}
use Rattle.law_model.specs.declared.window_types.Carried.TheVariants.{Whole, Fails, Vanishes}
use Rattle.law_model.specs.members.CellVerdicts.{begun}
use Rattle.law_line.proofs.ContainerLockAndSlipLaws.{IsLocked, IsGood, IsGood-is_good, not_good, IsGood-locked}
use Rattle.law_line.proofs.ContainerLockAndSlipLaws.{IsLocked-last, IsLocked-before, IsLocked-earlier, IsLocked-two}
use Rattle.law_line.proofs.ContainerLockAndSlipLaws.{IsLocked-steady, steady, lost, vanished, signs_of, lost-slip_of}
use Rattle.law_model.proofs.ListLaws.{slice_get-take, take-part}
use Rattle.std.proofs.lemmas.Option.{slice_get_within, slice_get_past}
use Rattle.law_model.specs.declared.window_types.Window.{Window}
use Rattle.check_nibbles.proofs.CellsInStepLaws.{slice_get-append, slice_get-append_seam}
use Rattle.law_model.specs.members.Damage.{carried}
use Rattle.law_line.specs.Numbering.{AreNumbered, AreInStep, AreExpected}
use Rattle.std.proofs.lemmas.List.{take_all}
use Rattle.law_model.proofs.WindowAndPathLaws.{path-append}

-- ---- The numbers of the cells of a line are those of its containers.
-- ---- the verdicts that are expected
unfoldable pub upto : (ℕ → Option Container) → ℕ → List (Option Container)
upto verdict zero = []
upto verdict (suc n) = upto verdict n ++ verdict n ∷ []

pub length-upto : (verdict : ℕ → Option Container) (n : ℕ) → length (upto verdict n) ≡ n
unfolding upto
length-upto verdict zero = refl
length-upto verdict (suc n) = omega (arith, length-append (upto verdict n) (verdict n ∷ []), length-upto verdict n)

-- a count of further ones that are bad
pub upto-bad : (verdict : ℕ → Option Container) (n count : ℕ) → ((t : ℕ) → n ≤ t → t < n + count → verdict t ≡ None) →
    upto verdict n ++ replicate count None ≡ upto verdict (n + count)
unfolding upto
upto-bad verdict n zero bad = append-nil (upto verdict n) ∙ ap (upto verdict) (let e : n ≡ n + 0 = omega arith in e)
upto-bad verdict n (suc count) bad =
    let first : verdict n ≡ None = bad n (omega arith) (omega arith) in
    let rest : upto verdict (suc n) ++ replicate count None ≡ upto verdict (suc n + count) =
    upto-bad verdict (suc n) count (λ t low high. bad t (omega arith) (omega arith)) in
    ap (λ l. upto verdict n ++ l) (ap (λ v. v ∷ replicate count None) (sym first))
    ∙ sym (append_assoc (upto verdict n) (verdict n ∷ []) (replicate count None))
    ∙ rest ∙ ap (upto verdict) (let e : suc n + count ≡ n + suc count = omega arith in e)

-- ---- what a line sends and carries
pub record Carries (carries : ℕ → Carried) : Type 0 where
  -- no container vanishes at once after a whole one, nor the first
  pub signs : (n : ℕ) → carries n ≡ Vanishes → (k : ℕ) × (n ≡ suc k) × (is_whole (carries k) ≡ false)
  -- the numbers are never in doubt
  pub near : (n : ℕ) → lost carries n < 4096

-- ---- the invariant
abbrev pub Fits : (ℕ → Carried) → ℕ → ℕ → LineLock → Type 0
Fits carries n decided unlocked = (IsLocked carries n → ⊥) ×
    ((k : ℕ) → n ≡ suc k → k % 16 ≡ 0 → is_whole (carries k) ≡ true → ⊥)
Fits carries n decided (begun octet) = (IsLocked carries n → ⊥) × (k : ℕ) × (n ≡ suc k) × (k % 16 ≡ 0) ×
    (is_whole (carries k) ≡ true) × HasPlace k octet
Fits carries n decided (locked mfi1) = IsLocked carries n × (decided ≡ n) × ((mfi1 + 1) % 16 ≡ n % 16)
Fits carries n decided over = ⊥

pub record HasRead (carries : ℕ → Carried) (containers : List Container) (n : ℕ) (reading : Reading) : Type 0 where
  pub decided : ℕ
  pub verdicts : reading.verdicts ≡ upto (expected carries containers) decided
  pub below : decided ≤ n
  pub near : n ≤ decided + lost carries n
  pub later : (t : ℕ) → decided ≤ t → t < n → IsGood carries t → ⊥
  pub fits : Fits carries n decided reading.lock

pub reads-none : (carries : ℕ → Carried) (containers : List Container) →
    HasRead carries containers 0 (record { lock = unlocked; verdicts = [] })
unfolding upto
reads-none carries containers = record {
  decided = 0;
  verdicts = refl;
  below = omega arith;
  near = omega arith;
  later = λ t low high. absurd (omega arith);
  fits = (λ known. let two = known.two in omega arith, λ k e. absurd (omega arith));
}

-- ---- one container more
lost-unlocked : (carries : ℕ → Carried) (n : ℕ) → (IsLocked carries (suc n) → ⊥) →
    lost carries (suc n) ≡ lost carries n + vanished (carries n)
unfolding lost
lost-unlocked carries n never =
    elim (cases_Bool (nat_le 17 (steady carries (suc n)))) [
      | inl many ↦ absurd (never (IsLocked-steady carries (suc n) (leb-true 17 (steady carries (suc n)) many)))
      | inr few ↦ rw few refl
    ]

module _ (carries : ℕ → Carried) (containers : List Container) where
  pub expected-bad : (t : ℕ) → (IsGood carries t → ⊥) → expected carries containers t ≡ None
  expected-bad t never = rw (not_good carries t never) refl

  expected-good : (t : ℕ) (container : Container) → IsGood carries t → slice_get containers t ≡ Some container →
      expected carries containers t ≡ Some container
  expected-good t container good here = rw (IsGood-is_good carries t good) here

  -- the numbers from those decided on up to container n are bad, where that container is
  bad_now : (n : ℕ) (reading : Reading) (reads : HasRead carries containers n reading) → (IsGood carries n → ⊥) →
      (t : ℕ) → reads.decided ≤ t → t ≤ n → IsGood carries t → ⊥
  bad_now n reading reads never t low high =
      elim (cases_eq t n) [
        | inl last ↦ λ good. never (subst (IsGood carries) last good)
        | inr other ↦ reads.later t low
            (omega arith)
      ]

  -- one number more is decided as bad, and the line isn't locked
  one_bad : (n : ℕ) (reading : Reading) (lock : LineLock) (reads : HasRead carries containers n reading) →
      vanished (carries n) ≡ 0 → (IsLocked carries (suc n) → ⊥) → (IsGood carries n → ⊥) →
      Fits carries (suc n) (suc reads.decided) lock →
      HasRead carries containers (suc n) (record { lock = lock; verdicts = reading.verdicts ++ None ∷ [] })
  unfolding upto
  one_bad n reading lock reads stays loose never fits =
      let decided : ℕ = reads.decided in
      let below : decided ≤ n = reads.below in
      let near : n ≤ decided + lost carries n = reads.near in
      let lose : lost carries (suc n) ≡ lost carries n + vanished (carries n) = lost-unlocked carries n loose in
      record {
        decided = suc decided;
        verdicts = ap (λ l. l ++ None ∷ []) reads.verdicts
            ∙ ap (λ v. upto (expected carries containers) decided ++ v ∷ [])
            (sym (expected-bad decided (bad_now n reading reads never decided (omega arith) below)));
        below = omega arith;
        near = omega (arith, near, lose, stays);
        later = λ t low high. bad_now n reading reads never t (omega arith) (omega arith);
        fits = fits;
      }

  -- a container that fails
  not_whole : (n : ℕ) → is_whole (carries n) ≡ false → is_whole (carries n) ≡ true → ⊥
  not_whole n broken whole = absurd (let e : false ≡ true = sym broken ∙ whole in cc)

  pub step-fails : (n : ℕ) (lock : LineLock) (verdicts : List (Option Container)) → carries n ≡ Fails →
      HasRead carries containers n (record { lock = lock; verdicts = verdicts }) →
      HasRead carries containers (suc n) (read_at lock verdicts Fail)
  step-fails n lock verdicts fate reads =
      let broken : is_whole (carries n) ≡ false = rw fate refl in
      let next : HasRead carries containers (suc n) (record { lock = unlocked; verdicts = verdicts ++ None ∷ [] }) =
      one_bad n (record { lock = lock; verdicts = verdicts }) unlocked reads (rw fate refl)
      (λ known. not_whole n broken (IsLocked-last carries n known)) (λ good. not_whole n broken good.whole) (
        λ known. not_whole n broken (IsLocked-last carries n known),
        λ k e first whole. not_whole n broken
            (subst (λ k. is_whole (carries k) ≡ true) (let e : k ≡ n = omega arith in e) whole),
      ) in
      by-lock lock reads.fits next
    where
      by-lock : (lock : LineLock) → Fits carries n reads.decided lock →
          HasRead carries containers (suc n) (record { lock = unlocked; verdicts = verdicts ++ None ∷ [] }) →
          HasRead carries containers (suc n) (read_at lock verdicts Fail)
      by-lock unlocked fits next = next
      by-lock (begun octet) fits next = next
      by-lock (locked mfi1) fits next = next
      by-lock over fits next = absurd fits

  -- a container that vanishes
  pub step-vanishes : (n : ℕ) (lock : LineLock) (verdicts : List (Option Container)) → Carries carries →
      carries n ≡ Vanishes →
      HasRead carries containers n (record { lock = lock; verdicts = verdicts }) →
      HasRead carries containers (suc n) (record { lock = lock; verdicts = verdicts })
  step-vanishes n lock verdicts line fate reads =
      let broken : is_whole (carries n) ≡ false = rw fate refl in
      let sign = line.signs n fate in
      let never : IsLocked carries n →
      ⊥ = λ known. not_whole sign.0 sign.2
      (IsLocked-last carries sign.0 (subst (IsLocked carries) sign.1 known)) in
      let loose : IsLocked carries (suc n) → ⊥ = λ known. not_whole n broken (IsLocked-last carries n known) in
      let decided : ℕ = reads.decided in
      let below : decided ≤ n = reads.below in
      let near : n ≤ decided + lost carries n = reads.near in
      let one : vanished (carries n) ≡ 1 = rw fate refl in
      let lose : lost carries (suc n) ≡ lost carries n + vanished (carries n) = lost-unlocked carries n loose in
      record {
        decided = decided;
        verdicts = reads.verdicts;
        below = omega arith;
        near = omega (arith, near, lose, one);
        later = λ t low high. bad_now n (record { lock = lock; verdicts = verdicts }) reads
            (λ good. not_whole n broken good.whole) t low (omega arith);
        fits = by-lock lock reads.fits sign never loose broken;
      }
    where
      by-lock : (lock : LineLock) → Fits carries n reads.decided lock →
          ((k : ℕ) × (n ≡ suc k) × (is_whole (carries k) ≡ false)) → (IsLocked carries n → ⊥) →
          (IsLocked carries (suc n) → ⊥) → is_whole (carries n) ≡ false →
          Fits carries (suc n) reads.decided lock
      by-lock unlocked fits sign never loose broken = (
        loose,
        λ k e first whole. not_whole n broken
            (subst (λ k. is_whole (carries k) ≡ true) (let e : k ≡ n = omega arith in e) whole),
      )
      by-lock (begun octet) fits sign never loose broken =
          absurd (not_whole sign.0 sign.2
          (subst (λ k. is_whole (carries k) ≡ true) (omega (arith, fits.2, sign.1)) fits.4))
      by-lock (locked mfi1) fits sign never loose broken = absurd (never fits.0)
      by-lock over fits sign never loose broken = absurd fits

-- ---- a container that comes whole
mfi1_of : (k n h4 : ℕ) → n ≡ suc k → k % 16 ≡ 0 → h4 % 16 ≡ n % 16 → h4 % 16 ≡ 1
mfi1_of k n h4 e first h = omega arith

number_of : (k n octet h4 : ℕ) → n ≡ suc k → k % 16 ≡ 0 → octet / 16 ≡ k / 256 % 16 → h4 / 16 ≡ n / 16 % 16 →
    16 * (16 * (octet / 16) + h4 / 16) + 1 ≡ n % 4096
number_of k n octet h4 e first upper lower = omega arith

-- the least number of at least d that equals n modulo 4096, where n is less than 4096 beyond d
pub ahead_of : (d n : ℕ) → d ≤ n → n < d + 4096 → d + ahead d (n % 4096) ≡ n
ahead_of d n low high = omega arith

module _ (carries : ℕ → Carried) (containers : List Container) where
  loose_stays : (n decided : ℕ) → Fits carries n decided unlocked → IsLocked carries (suc n) → ⊥
  loose_stays zero decided fits known = let two = known.two in omega arith
  loose_stays (suc k) decided fits known =
      elim (cases_eq (k % 16) 0) [
        | inl first ↦ fits.1 k refl first (IsLocked-before carries k known)
        | inr other ↦ fits.0 (IsLocked-earlier carries k other known)
      ]

  after_unknown : (n : ℕ) (verdicts : List (Option Container)) (container : Container) → HasPlace n container.h4 →
      carries n ≡ Whole →
      HasRead carries containers n (record { lock = unlocked; verdicts = verdicts }) →
      HasRead carries containers (suc n) (read_good unknown verdicts container)
  after_unknown n verdicts container place fate reads =
      let h4 : ℕ = container.h4 in
      let loose : IsLocked carries (suc n) → ⊥ = loose_stays n reads.decided reads.fits in
      let whole : is_whole (carries n) ≡ true = rw fate refl in
      let before : Reading = record { lock = unlocked; verdicts = verdicts } in
      elim (cases_Bool (h4 % 16 == 0)) [
        | inl first ↦
            rw first (one_bad carries containers n before (begun h4) reads (rw fate refl) loose
            (λ good. reads.fits.0 good.locked)
            (loose, n, refl, (let e = eqb-true (h4 % 16) 0 first in let m = place.mfi1 in omega arith), whole, place))
        | inr other ↦
            rw other (one_bad carries containers n before unlocked reads (rw fate refl) loose
            (λ good. reads.fits.0 good.locked)
            (loose, λ k e first w. eqb-false (h4 % 16) 0 other (let m = place.mfi1 in omega arith)))
      ]

  after_locks : (n octet : ℕ) (verdicts : List (Option Container)) (container : Container) → Carries carries →
      HasPlace n container.h4 → carries n ≡ Whole →
      HasRead carries containers n (record { lock = begun octet; verdicts = verdicts }) →
      HasRead carries containers (suc n)
      (read_good (locks (16 * (16 * (octet / 16) + container.h4 / 16) + 1)) verdicts container)
  after_locks n octet verdicts container line place fate reads =
      let d : ℕ = reads.decided in
      let h4 : ℕ = container.h4 in
      let (loose, k, next, first, whole, begins) = reads.fits in
      let now : is_whole (carries n) ≡ true = rw fate refl in
      let below : d ≤ n = reads.below in
      let near : n ≤ d + lost carries n = reads.near in
      let number : 16 * (16 * (octet / 16) + h4 / 16) + 1 ≡ n % 4096 =
      number_of k n octet h4 next first (begins.upper first) (place.lower (omega arith)) in
      let distance : d + ahead d (n % 4096) ≡ n = ahead_of d n below (omega (arith, near, line.near n)) in
      let size : length verdicts ≡ d = ap length reads.verdicts ∙ length-upto (expected carries containers) d in
      let before : Reading = record { lock = begun octet; verdicts = verdicts } in
      record {
        decided = suc n;
        verdicts = rw (number, size) (ap (λ l. l ++ replicate (suc (ahead d (n % 4096))) None) reads.verdicts
            ∙ upto-bad (expected carries containers) d (suc (ahead d (n % 4096)))
            (λ t low high. expected-bad carries containers t
            (bad_now carries containers n before reads (λ good. loose good.locked) t low (omega arith)))
            ∙ ap (upto (expected carries containers))
            (let e : d + suc (ahead d (n % 4096)) ≡ suc n = omega (arith, distance) in e));
        below = omega arith;
        near = omega arith;
        later = λ t low high. absurd (omega arith);
        fits = (
          subst (IsLocked carries) (let e : suc (suc k) ≡ suc n = omega arith in e)
              (IsLocked-two carries k first whole (subst (λ n. is_whole (carries n) ≡ true) next now)),
          refl,
          (let m = place.mfi1 in omega arith),
        );
      }

  after_at : (n mfi1 : ℕ) (verdicts : List (Option Container)) (container : Container) →
      slice_get containers n ≡ Some container → HasPlace n container.h4 → carries n ≡ Whole →
      HasRead carries containers n (record { lock = locked mfi1; verdicts = verdicts }) →
      HasRead carries containers (suc n) (read_good at verdicts container)
  unfolding upto
  after_at n mfi1 verdicts container here place fate reads =
      let good : IsGood carries n = record { locked = reads.fits.0; whole = rw fate refl } in
      record {
        decided = suc n;
        verdicts = ap (λ l. l ++ Some container ∷ [])
            (reads.verdicts ∙ ap (upto (expected carries containers)) reads.fits.1)
            ∙ ap (λ v. upto (expected carries containers) n ++ v ∷ [])
            (sym (expected-good carries containers n container good here));
        below = omega arith;
        near = omega arith;
        later = λ t low high. absurd (omega arith);
        fits = (IsGood-locked carries n good, refl, (let m = place.mfi1 in omega arith));
      }

  pub step-whole : (n : ℕ) (lock : LineLock) (verdicts : List (Option Container)) (container : Container) →
      Carries carries → slice_get containers n ≡ Some container → HasPlace n container.h4 → carries n ≡ Whole →
      HasRead carries containers n (record { lock = lock; verdicts = verdicts }) →
      HasRead carries containers (suc n) (read_at lock verdicts (Good container))
  step-whole n unlocked verdicts container line here place fate reads =
      after_unknown n verdicts container place fate reads
  step-whole n (begun octet) verdicts container line here place fate reads =
      rw (eq-eqb (container.h4 % 16) 1 (mfi1_of reads.fits.1 n container.h4 reads.fits.2 reads.fits.3 place.mfi1))
      (after_locks n octet verdicts container line place fate reads)
  step-whole n (locked mfi1) verdicts container line here place fate reads =
      rw (eq-eqb (container.h4 % 16) ((mfi1 + 1) % 16) (place.mfi1 ∙ sym reads.fits.2))
      (after_at n mfi1 verdicts container here place fate reads)
  step-whole n over verdicts container line here place fate reads = absurd reads.fits

-- ---- The cells of a line, read to their end.
-- ---- cells in two parts
pub read_on-append : (reading : Reading) (xs ys : List Cell) →
    read_on reading (xs ++ ys) ≡ read_on (read_on reading xs) ys
unfolding read_on
read_on-append reading [] ys = refl
read_on-append reading (x ∷ xs) ys = read_on-append (read_at reading.lock reading.verdicts x) xs ys

-- a line carries as its windows say
pub carries_of : (windows : List Window) (containers : List Container) → IsLine windows containers →
    Carries (carried windows)
carries_of windows containers line = record {
  signs = λ n fate. signs_of 0 windows n line.apart fate;
  near = λ n. let most = lost-slip_of windows n line.apart in let slip = line.slip in omega arith;
}

-- a part of the containers, from number n on
abbrev IsPart : List Container → ℕ → List Container → Type 0
IsPart containers n part = (k : ℕ) (container : Container) → slice_get part k ≡ Some container →
    slice_get containers (n + k) ≡ Some container

module _ (carries : ℕ → Carried) (containers : List Container) (line : Carries carries)
    (sent : AreSent containers) where
  step : (n : ℕ) (lock : LineLock) (verdicts : List (Option Container)) (container : Container) →
      slice_get containers n ≡ Some container →
      HasRead carries containers n (record { lock = lock; verdicts = verdicts }) →
      HasRead carries containers (suc n)
      (read_on (record { lock = lock; verdicts = verdicts }) (cells_of (carries n) container))
  unfolding read_on
  step n lock verdicts container here reads =
      by-fate (carries n) refl
    where
      by-fate : (fate : Carried) → carries n ≡ fate →
          HasRead carries containers (suc n)
          (read_on (record { lock = lock; verdicts = verdicts }) (cells_of fate container))
      by-fate Whole fate = step-whole carries containers n lock verdicts container line here
          (sent n container here) fate reads
      by-fate Fails fate = step-fails carries containers n lock verdicts fate reads
      by-fate Vanishes fate = step-vanishes carries containers n lock verdicts line fate reads

  run : (n : ℕ) (part : List Container) (reading : Reading) → IsPart containers n part →
      HasRead carries containers n reading →
      HasRead carries containers (n + length part) (read_on reading (path carries n part))
  unfolding path read_on
  run n [] reading part reads = rw (let e : n + 0 ≡ n = omega arith in e) reads
  run n (container ∷ rest) reading part reads =
      let here : slice_get containers n ≡ Some container =
      subst (λ k. slice_get containers k ≡ Some container) (omega arith) (part 0 container refl) in
      let next = step n reading.lock reading.verdicts container here reads in
      rw (
        let e : n + suc (length rest) ≡ suc n + length rest = omega arith in e,
        read_on-append reading (cells_of (carries n) container) (path carries (suc n) rest),
      )
      (run (suc n) rest (read_on reading (cells_of (carries n) container))
      (λ k other h. subst (λ k. slice_get containers k ≡ Some other) (omega arith) (part (suc k) other h)) next)

-- ---- the verdicts of the first containers
pub slice_get-upto : (verdict : ℕ → Option Container) (n t : ℕ) → t < n →
    slice_get (upto verdict n) t ≡ Some (verdict t)
unfolding upto
slice_get-upto verdict zero t h = absurd (omega arith)
slice_get-upto verdict (suc n) t h =
    let size = length-upto verdict n in
    elim (cases_eq t n) [
      | inl last ↦
          rw last (subst (λ k. slice_get (upto verdict n ++ verdict n ∷ []) k ≡ Some (verdict n)) size
          (slice_get-append_seam (upto verdict n) (verdict n) []))
      | inr other ↦ slice_get-append (upto verdict n) (verdict n ∷ []) t (omega arith)
          ∙ slice_get-upto verdict n t (omega arith)
    ]

module _ (windows : List Window) (containers : List Container) (line : IsLine windows containers) where
  pub line_read : (k : ℕ) → HasRead (carried windows) containers (length (take k containers))
      (reading_of (path (carried windows) 0 (take k containers)))
  line_read k =
      rw (let e : length (take k containers) ≡ 0 + length (take k containers) = omega arith in e)
      (run (carried windows) containers (carries_of windows containers line) line.sent 0 (take k containers)
      (record { lock = unlocked; verdicts = [] })
      (λ j container h. subst (λ j. slice_get containers j ≡ Some container) (omega arith)
      (slice_get-take containers k j container h))
      (reads-none (carried windows) containers))

  -- a number that is decided before End
  told-open : (n t : ℕ) (lock : LineLock) (verdicts : List (Option Container)) (told : Option Container) →
      HasRead (carried windows) containers n (record { lock = lock; verdicts = verdicts }) →
      verdict_in (record { lock = lock; verdicts = verdicts }) t ≡ Some told →
      told ≡ expected (carried windows) containers t
  told-open n t lock verdicts told reads is =
      let e = expected (carried windows) containers in
      let size : length verdicts ≡ reads.decided = ap length reads.verdicts ∙ length-upto e reads.decided in
      elim (cases_lt t reads.decided) [
        | inl decided ↦
            let here : slice_get verdicts t ≡ Some (e t) = ap (λ l. slice_get l t) reads.verdicts
            ∙ slice_get-upto e reads.decided t decided in
            let same : Some (e t) ≡ Some told = rw here at is in cc
        | inr later ↦
            let none : slice_get verdicts t ≡ None = slice_get_past verdicts t (omega (arith, size, later)) in
            not_over lock reads.fits (rw none at is)
      ]
    where
      not_over : (lock : LineLock) → Fits (carried windows) n reads.decided lock → verdict_over lock ≡ Some told →
          told ≡ expected (carried windows) containers t
      not_over unlocked fits is = absurd cc
      not_over (begun octet) fits is = absurd cc
      not_over (locked mfi1) fits is = absurd cc
      not_over over fits is = absurd fits

  -- a number that is decided by End or before it
  told-over : (n t : ℕ) (lock : LineLock) (verdicts : List (Option Container)) (told : Option Container) →
      HasRead (carried windows) containers n (record { lock = lock; verdicts = verdicts }) →
      verdict_in (record { lock = over; verdicts = verdicts }) t ≡ Some told →
      (t < n → told ≡ expected (carried windows) containers t)
  told-over n t lock verdicts told reads is before =
      let e = expected (carried windows) containers in
      let size : length verdicts ≡ reads.decided = ap length reads.verdicts ∙ length-upto e reads.decided in
      elim (cases_lt t reads.decided) [
        | inl decided ↦
            let here : slice_get verdicts t ≡ Some (e t) = ap (λ l. slice_get l t) reads.verdicts
            ∙ slice_get-upto e reads.decided t decided in
            let same : Some (e t) ≡ Some told = rw here at is in cc
        | inr later ↦
            let none : slice_get verdicts t ≡ None = slice_get_past verdicts t (omega (arith, size, later)) in
            let bad : Some None ≡ Some told = rw none at is in
            let expects : e t ≡ None = expected-bad (carried windows) containers t (reads.later t later before) in
            cc
      ]

end-reading : (reading : Reading) → (reading.lock ≡ over → ⊥) →
    read_on reading (End ∷ []) ≡ record { lock = over; verdicts = reading.verdicts }
unfolding read_on
end-reading reading never = by-lock reading.lock reading.verdicts never
  where
    by-lock : (lock : LineLock) (verdicts : List (Option Container)) → (lock ≡ over → ⊥) →
        read_at lock verdicts End ≡ record { lock = over; verdicts = verdicts }
    by-lock unlocked verdicts never = refl
    by-lock (begun octet) verdicts never = refl
    by-lock (locked mfi1) verdicts never = refl
    by-lock over verdicts never = refl

pub are_numbered : AreNumbered
are_numbered windows containers delay i t told line inside is =
    let k : ℕ = i - delay in
    let total : ℕ = length containers in
    let cells_ : List Cell = path (carried windows) 0 (take k containers) in
    let reading : Reading = reading_of cells_ in
    let n : ℕ = length (take k containers) in
    let reads : HasRead (carried windows) containers n reading = line_read windows containers line k in
    elim (cases_Bool (nat_lt total k)) [
      | inl ends ↦
          let past : total < k = ltb-true total k ends in
          let all : length (take k containers) ≡ total = length-take k containers
          ∙ (let e : min k total ≡ total = omega arith in e) in
          let now : reading_of (cells_ ++ End ∷ []) ≡ record { lock = over; verdicts = reading.verdicts } =
          read_on-append (record { lock = unlocked; verdicts = [] }) cells_ (End ∷ [])
          ∙ end-reading reading (λ e. absurd
          (subst (λ lock. Fits (carried windows) n reads.decided lock) e reads.fits)) in
          told-over windows containers line n t reading.lock reading.verdicts told reads
          (subst (λ r. verdict_in r t ≡ Some told) now (rw ends at is)) (omega (arith, inside, all))
      | inr more ↦
          told-open windows containers line n t reading.lock reading.verdicts told reads
          (subst (λ cells. verdict cells t ≡ Some told) (append-nil cells_) (rw more at is))
    ]

pub are_in_step : AreInStep
are_in_step windows containers n mfi1 container line here fate is =
    let reading : Reading = reading_of (path (carried windows) 0 (take n containers)) in
    let inside : n < length containers = slice_get_within containers n container here in
    let all : length (take n containers) ≡ n = length-take n containers
    ∙ (let e : min n (length containers) ≡ n = omega arith in e) in
    let reads : HasRead (carried windows) containers n reading =
    subst (λ n'. HasRead (carried windows) containers n' reading) all (line_read windows containers line n) in
    let fits : Fits (carried windows) n reads.decided (locked mfi1) =
    subst (λ lock. Fits (carried windows) n reads.decided lock) is reads.fits in
    let size : length reading.verdicts ≡ reads.decided = ap length reads.verdicts
    ∙ length-upto (expected (carried windows) containers) reads.decided in
    let place = line.sent n container here in
    (size ∙ fits.1, place.mfi1 ∙ sym fits.2)

-- ---- where the cells of a line are cut
-- a cell that came whole is that of a container
abbrev IsCut : (ℕ → Carried) → ℕ → List Container → List Cell → Container → Type 0
IsCut carries n containers before container =
    (k : ℕ) × (slice_get containers k ≡ Some container) × (carries (n + k) ≡ Whole) ×
    (before ≡ path carries n (take k containers))

cut-first : (carries : ℕ → Carried) (n : ℕ) (c : Container) (rest : List Container) (container : Container) →
    carries n ≡ Whole → c ≡ container → IsCut carries n (c ∷ rest) [] container
unfolding path
cut-first carries n c rest container fate same =
    (0, ap Some same, subst (λ k. carries k ≡ Whole) (omega arith) fate, refl)

cut-later : (carries : ℕ → Carried) (n : ℕ) (c : Container) (rest : List Container) (fate : Carried)
    (before cut : List Cell) (container : Container) → carries n ≡ fate → before ≡ cells_of fate c ++ cut →
    IsCut carries (suc n) rest cut container → IsCut carries n (c ∷ rest) before container
unfolding path
cut-later carries n c rest fate before cut container is e (k, here, whole, same) =
    (suc k, here, subst (λ k. carries k ≡ Whole) (omega arith) whole, rw is (e ∙ ap (λ l. cells_of fate c ++ l) same))

pub cut-path : (carries : ℕ → Carried) (n : ℕ) (containers : List Container) (before after : List Cell)
    (container : Container) → path carries n containers ≡ before ++ Good container ∷ after →
    IsCut carries n containers before container
unfolding path
cut-path carries n [] [] after container e = absurd cc
cut-path carries n [] (b ∷ before) after container e = absurd cc
cut-path carries n (c ∷ rest) before after container e =
    by-fate (carries n) refl before e (λ before. cut-path carries (suc n) rest before after container)
  where
    by-fate : (fate : Carried) → carries n ≡ fate → (before : List Cell) →
        cells_of fate c ++ path carries (suc n) rest ≡ before ++ Good container ∷ after →
        ((before : List Cell) → path carries (suc n) rest ≡ before ++ Good container ∷ after →
        IsCut carries (suc n) rest before container) → IsCut carries n (c ∷ rest) before container
    by-fate Whole is [] e further = cut-first carries n c rest container is cc
    by-fate Whole is (b ∷ before) e further =
        cut-later carries n c rest Whole (b ∷ before) before container is (ap (λ b. b ∷ before) cc) (further before cc)
    by-fate Fails is [] e further = absurd cc
    by-fate Fails is (b ∷ before) e further =
        cut-later carries n c rest Fails (b ∷ before) before container is (ap (λ b. b ∷ before) cc) (further before cc)
    by-fate Vanishes is before e further =
        cut-later carries n c rest Vanishes before before container is refl (further before e)

pub are_expected : AreExpected
are_expected windows containers before after mfi1 container line cut is =
    let (k, here, whole, same) = cut-path (carried windows) 0 containers before after container cut in
    (are_in_step windows containers k mfi1 container line here
    (subst (λ n. carried windows n ≡ Whole) (omega arith) whole)
    (subst (λ cells. (reading_of cells).lock ≡ locked mfi1) same is)).1

-- ---- More cells change no verdict, and more carries no cell.
-- ---- verdicts
abbrev Extends : List (Option Container) → List (Option Container) → Type 0
Extends old new = (more : List (Option Container)) × (new ≡ old ++ more)

one-extends : (lock : LineLock) (verdicts : List (Option Container)) (cell : Cell) →
    Extends verdicts (read_at lock verdicts cell).verdicts
one-extends unlocked verdicts (Good c) = (verdicts_by (sight_of unlocked c.h4) (length verdicts) c, refl)
one-extends (begun octet) verdicts (Good c) = (verdicts_by (sight_of (begun octet) c.h4) (length verdicts) c, refl)
one-extends (locked mfi1) verdicts (Good c) = (verdicts_by (sight_of (locked mfi1) c.h4) (length verdicts) c, refl)
one-extends over verdicts cell = ([], sym (append-nil verdicts))
one-extends unlocked verdicts Fail = (None ∷ [], refl)
one-extends (begun octet) verdicts Fail = (None ∷ [], refl)
one-extends (locked mfi1) verdicts Fail = (None ∷ [], refl)
one-extends unlocked verdicts End = ([], sym (append-nil verdicts))
one-extends (begun octet) verdicts End = ([], sym (append-nil verdicts))
one-extends (locked mfi1) verdicts End = ([], sym (append-nil verdicts))

pub extends : (more : List Cell) (reading : Reading) → Extends reading.verdicts (read_on reading more).verdicts
unfolding read_on
extends [] reading = ([], sym (append-nil reading.verdicts))
extends (cell ∷ more) reading =
    let first = one-extends reading.lock reading.verdicts cell in
    let rest = extends more (read_at reading.lock reading.verdicts cell) in
    (first.0 ++ rest.0, rest.1 ∙ ap (λ l. l ++ rest.0) first.1 ∙ append_assoc reading.verdicts first.0 rest.0)

pub over-stays : (more : List Cell) (verdicts : List (Option Container)) →
    read_on (record { lock = over; verdicts = verdicts }) more ≡ record { lock = over; verdicts = verdicts }
unfolding read_on
over-stays [] verdicts = refl
over-stays (cell ∷ more) verdicts = over-stays more verdicts

none-over : (lock : LineLock) (told : Option Container) → verdict_over lock ≡ Some told → lock ≡ over
none-over unlocked told e = absurd cc
none-over (begun octet) told e = absurd cc
none-over (locked mfi1) told e = absurd cc
none-over over told e = refl

told-stays : (reading : Reading) (more : List Cell) (t : ℕ) (told : Option Container)
    (here : Option (Option Container)) → slice_get reading.verdicts t ≡ here →
    verdict_or here (verdict_over reading.lock) ≡ Some told →
    verdict_in (read_on reading more) t ≡ Some told
told-stays reading more t told (Some v) here e =
    let longer = extends more reading in
    let inside = slice_get_within reading.verdicts t v here in
    let same : slice_get (read_on reading more).verdicts t ≡ Some v = ap (λ l. slice_get l t) longer.1
    ∙ slice_get-append reading.verdicts longer.0 t inside ∙ here in
    rw same e
told-stays reading more t told None here e =
    let is : reading.lock ≡ over = none-over reading.lock told e in
    let ends : reading ≡ record { lock = over; verdicts = reading.verdicts } =
    ap (λ lock. let r : Reading = record { lock = lock; verdicts = reading.verdicts } in r) is in
    let stays : read_on reading more ≡ record { lock = over; verdicts = reading.verdicts } =
    ap (λ r. read_on r more) ends ∙ over-stays more reading.verdicts in
    rw (stays, here) (subst (λ lock. verdict_over lock ≡ Some told) is e)

-- a verdict stays
pub verdict-stays : (cells more : List Cell) (t : ℕ) (told : Option Container) → verdict cells t ≡ Some told →
    verdict (cells ++ more) t ≡ Some told
verdict-stays cells more t told is =
    rw (read_on-append (record { lock = unlocked; verdicts = [] }) cells more)
    (told-stays (reading_of cells) more t told (slice_get (reading_of cells).verdicts t) refl is)

-- ---- cells
path-part : (carries : ℕ → Carried) (containers : List Container) (n m : ℕ) → n ≤ m → (more : List Cell) ×
    (path carries 0 (take m containers) ≡ path carries 0 (take n containers) ++ more)
path-part carries containers n m h =
    let (more, e) = take-part containers n m h in (
      path carries (0 + length (take n containers)) more,
      ap (path carries 0) e
          ∙ path-append carries 0 (take n containers) more,
    )

-- the cells of more carries begin with those of fewer
pub cells-part : (carries : ℕ → Carried) (delay : ℕ) (containers : List Container) (i j : ℕ) → i ≤ j →
    (more : List Cell) × (cells carries delay (length containers) containers j ≡ cells carries delay
    (length containers) containers i ++ more)
cells-part carries delay containers i j h =
    let n : ℕ = i - delay in
    let m : ℕ = j - delay in
    let part = path-part carries containers n m (omega arith) in
    elim (cases_Bool (nat_lt (length containers) n)) [
      | inl ends ↦
          let past : length containers < n = ltb-true (length containers) n ends in
          let further : nat_lt (length containers) m ≡ true =
          grind (arith, (let e : length containers < m = omega arith in e)) in (
            [],
            rw (ends, further, take_all n containers (omega arith), take_all m containers (omega arith))
                (sym (append-nil (path carries 0 containers ++ End ∷ []))),
          )
      | inr more ↦ (
        part.0 ++ end_of (length containers) m,
        rw (more, part.1) (append_assoc (path carries 0 (take n containers)) part.0 (end_of (length containers) m)
            ∙ ap (λ l. l ++ (part.0 ++ end_of (length containers) m))
            (sym (append-nil (path carries 0 (take n containers))))),
      )
    ]
