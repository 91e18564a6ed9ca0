-- The numbers kept of a line after one more cell: what the lock says of the cell, and the verdicts on the numbers.
use Rattle.std.proofs.Common.{◌≡◌, ◌≢◌, ℕ, ◌+◌, ◌*◌, ◌/◌, ◌%◌, ◌<◌, List, [], ◌∷◌, ◌++◌, length, Option, Some}
use Rattle.std.proofs.Common.{slice_get, refl, sym, ◌∙◌, ap, subst, arith, length-append, zero, suc, ◌-◌, replicate}
use Rattle.std.proofs.Common.{None, Bool, true, false, inl, inr, IsSome, is_none, ◌==◌, ◌&&◌, not, eqb-true}
use Rattle.std.proofs.Common.{true≢false, append-nil}
use Rattle.law_model.specs.Common.{HasMfi1, IsOutOfStep, HasMfi2, Container, Cell, Good, Fail, End, unlocked, Sight}
use Rattle.law_model.specs.Common.{unknown, locks, at, sight_of, ahead, verdicts_by, Reading, read_at, read_on}
use Rattle.law_model.specs.Common.{reading_of, sign_of, signs_of, HasNoEnd, verdict_or, verdict}
use Rattle.check_nibbles.proofs.CellsInStepLaws.{slice_get-append, slice_get-append_seam, HasNumber-append}
use Rattle.check_nibbles.proofs.CellsInStepLaws.{Locks-append, IsAt-append, IsOutOfStep-append, HasMfi1_before}
use Rattle.check_nibbles.proofs.CellsInStepLaws.{HasMfi1_only, HasNumber_only, IsFirstStep_only, HasNumber-mfi1}
use Rattle.check_nibbles.proofs.CellsInStepLaws.{Locks_next, IsAt_next, IsOutOfStep_next, IsOutOfStep_goes_on}
use Rattle.check_nibbles.proofs.CellsInStepLaws.{HasMfi2_only}
use Rattle.member_path.specs.declared.h4_multiframe.Place.{Place}
use Rattle.member_path.specs.declared.h4_multiframe.Place.TheVariants.{Unknown, Locks as LocksAnswer, At, Locks}
use Rattle.member_path.specs.declared.h4_multiframe.State.TheVariants.{Unlocked, Begun, Locked}
use Rattle.member_path.specs.h4_multiframe.MultiframePlace.{IsPlace}
use Rattle.member_path.specs.h4_multiframe.LockState.{IsLast, LockStands}
use Rattle.std.proofs.lemmas.List.{map-append}
use Rattle.law_line.proofs.CellSightAndLockLaws.{IsSight, sight-is, stands-of, good-verdicts, fail-verdicts}
use Rattle.law_line.proofs.ReadingVerdictLaws.{read_on-append}
use Rattle.std.proofs.lemmas.Bool.{cases_Bool, and_parts, not-true, false≢true}
use Rattle.std.proofs.lemmas.Option.{slice_get_past}
use Rattle.member_path.specs.declared.h4_multiframe.MfiLock.{MfiLock}
use Rattle.law_model.proofs.ListLaws.{append_one, slice_get-inside}
use Rattle.law_line.proofs.DecidedPacketAndRowLaws.{verdict-open, end-reading}
use Rattle.member_path.specs.cell_numbers.Numbers.{Numbers, IsOpen, is_open, last_of, left_of, NumbersStand}

-- ---- What a good cell is after those that the lock has seen, and what it leaves.
-- ---- places
-- a cell is one thing
pub IsPlace_only : (cells : List (Option ℕ)) (place : ℕ) (a b : Place) → IsPlace cells place a → IsPlace cells place b →
    a ≡ b
IsPlace_only cells place Unknown Unknown p q = refl
IsPlace_only cells place Unknown (LocksAnswer b) p q = absurd (p q.0.0 q.0.1.in_step)
IsPlace_only cells place Unknown (At b) p q = absurd (p q.0.0 q.0.1.in_step)
IsPlace_only cells place (LocksAnswer a) Unknown p q = absurd (q p.0.0 p.0.1.in_step)
IsPlace_only cells place (At a) Unknown p q = absurd (q p.0.0 p.0.1.in_step)
IsPlace_only cells place (LocksAnswer a) (LocksAnswer b) p q = ap LocksAnswer (HasNumber_only cells place a b p.1 q.1)
IsPlace_only cells place (At a) (At b) p q = ap At (HasNumber_only cells place a b p.1 q.1)
IsPlace_only cells place (LocksAnswer a) (At b) p q =
    let same : p.0.0 ≡ q.0.0 = IsFirstStep_only cells p.0.0 q.0.0 place p.0.1 q.0.1 in
    absurd (omega (arith, p.0.2, q.0.2))
IsPlace_only cells place (At a) (LocksAnswer b) p q =
    let same : p.0.0 ≡ q.0.0 = IsFirstStep_only cells p.0.0 q.0.0 place p.0.1 q.0.1 in
    absurd (omega (arith, p.0.2, q.0.2))

-- and more cells after it change nothing of it
pub IsPlace-append : (cells more : List (Option ℕ)) (place : ℕ) (a : Place) → place < length cells →
    IsPlace cells place a → IsPlace (cells ++ more) place a
IsPlace-append cells more place Unknown inside out = IsOutOfStep-append cells more place inside out
IsPlace-append cells more place (LocksAnswer a) inside p =
    (Locks-append cells more place p.0, HasNumber-append cells more place a p.1)
IsPlace-append cells more place (At a) inside p =
    (IsAt-append cells more place p.0, HasNumber-append cells more place a p.1)

-- ---- the cell after a list
only_last : (cells : List (Option ℕ)) (entry : Option ℕ) (place : ℕ) → IsLast (cells ++ entry ∷ []) place →
    place ≡ length cells
only_last cells entry place last = omega (arith, length-append cells (entry ∷ []))

entry_after : (cells : List (Option ℕ)) (entry : Option ℕ) (place : ℕ) → IsLast cells place →
    slice_get (cells ++ entry ∷ []) (place + 1) ≡ Some entry
entry_after cells entry place last =
    subst (λ n. slice_get (cells ++ entry ∷ []) n ≡ Some entry) (sym last) (slice_get-append_seam cells entry [])

inside : (cells : List (Option ℕ)) (place : ℕ) → IsLast cells place → place < length cells
inside cells place last = omega arith

-- ---- what it is
pub locks_place : (cells : List (Option ℕ)) (octet h4 : ℕ) → octet < 256 → h4 < 256 → h4 % 16 ≡ 1 →
    LockStands (Begun octet) cells →
    IsPlace (cells ++ Some h4 ∷ []) (length cells) (LocksAnswer (16 * (16 * (octet / 16) + h4 / 16) + 1))
locks_place cells octet h4 octet_small small first (place, last, out, here, zeroth) =
    let more = Some h4 ∷ [] in
    let within = inside cells place last in
    subst (λ n. IsPlace (cells ++ more) n (LocksAnswer (16 * (16 * (octet / 16) + h4 / 16) + 1))) last
    (Locks_next (cells ++ more) place octet h4 octet_small small (IsOutOfStep-append cells more place within out)
    (slice_get-append cells more place within ∙ here) zeroth (entry_after cells (Some h4) place last) first)

pub at_place : (cells : List (Option ℕ)) (number h4 : ℕ) → h4 % 16 ≡ (number + 1) % 4096 % 16 →
    LockStands (Locked number) cells →
    IsPlace (cells ++ Some h4 ∷ []) (length cells) (At ((number + 1) % 4096))
at_place cells number h4 next (place, last, has) =
    let more = Some h4 ∷ [] in
    subst (λ n. IsPlace (cells ++ more) n (At ((number + 1) % 4096))) last
    (IsAt_next (cells ++ more) place number (HasNumber-append cells more place number has)
    (h4, entry_after cells (Some h4) place last, next))

pub unlocked_unknown : (cells : List (Option ℕ)) (h4 : ℕ) → LockStands Unlocked cells →
    IsOutOfStep (cells ++ Some h4 ∷ []) (length cells)
unlocked_unknown [] h4 stands = λ from step. let later = step.later in absurd (omega arith)
unlocked_unknown (x ∷ xs) h4 stands =
    let cells = x ∷ xs in
    let more = Some h4 ∷ [] in
    let last : IsLast cells (length xs) = omega arith in
    let known = stands (length xs) last in
    let within = inside cells (length xs) last in
    subst (IsOutOfStep (cells ++ more)) last
    (IsOutOfStep_goes_on (cells ++ more) (length xs) (IsOutOfStep-append cells more (length xs) within known.0)
    (λ has. known.1 (HasMfi1_before cells more (length xs) 0 within has)))

pub begun_unknown : (cells : List (Option ℕ)) (octet h4 : ℕ) → h4 % 16 ≢ 1 → LockStands (Begun octet) cells →
    IsOutOfStep (cells ++ Some h4 ∷ []) (length cells)
begun_unknown cells octet h4 other (place, last, out, here, zeroth) =
    let more = Some h4 ∷ [] in
    subst (IsOutOfStep (cells ++ more)) last
    (IsOutOfStep_next (cells ++ more) place 0 (h4 % 16)
    (octet, slice_get-append cells more place (inside cells place last) ∙ here, zeroth)
    (h4, entry_after cells (Some h4) place last, refl) other)

next_lower_half : (number : ℕ) → (number % 16 + 1) % 16 ≡ (number + 1) % 4096 % 16
next_lower_half number = omega arith

pub locked_unknown : (cells : List (Option ℕ)) (number h4 : ℕ) → h4 % 16 ≢ (number + 1) % 4096 % 16 →
    LockStands (Locked number) cells →
    IsOutOfStep (cells ++ Some h4 ∷ []) (length cells)
locked_unknown cells number h4 other (place, last, has) =
    let more = Some h4 ∷ [] in
    subst (IsOutOfStep (cells ++ more)) last
    (IsOutOfStep_next (cells ++ more) place (number % 16) (h4 % 16)
    (HasNumber-mfi1 (cells ++ more) place number (HasNumber-append cells more place number has))
    (h4, entry_after cells (Some h4) place last, refl) (λ e. other (e ∙ next_lower_half number)))

-- ---- what it leaves
pub unlocked_after : (cells : List (Option ℕ)) (h4 : ℕ) → h4 % 16 ≢ 0 →
    IsOutOfStep (cells ++ Some h4 ∷ []) (length cells) → LockStands Unlocked (cells ++ Some h4 ∷ [])
unlocked_after cells h4 other out place last =
    let more = Some h4 ∷ [] in
    let same = only_last cells (Some h4) place last in (
      subst (IsOutOfStep (cells ++ more)) (sym same) out,
      λ has. other (HasMfi1_only (cells ++ more) (length cells) (h4 % 16) 0
          (h4, slice_get-append_seam cells (Some h4) [], refl)
          (subst (λ n. HasMfi1 (cells ++ more) n 0) same has)),
    )

-- ---- What the lock of a line says of a cell is what the recursion over cells says of it.
-- the verdicts by which a good cell goes on, from what the lock says of it
abbrev pub verdicts_for : Place → ℕ → Container → List (Option Container)
verdicts_for Unknown d c = None ∷ []
verdicts_for (LocksAnswer number) d c = replicate (suc (ahead d number)) None
verdicts_for (At number) d c = Some c ∷ []

ahead-modulo : (d m n from place before : ℕ) → from ≡ before → before + 1 ≡ place →
    n ≡ (16 * m + (place - from)) % 4096 → ahead d (16 * m + 1) ≡ ahead d n
ahead-modulo d m n from place before same next e = omega arith

same-verdicts : (signs : List (Option ℕ)) (i : ℕ) (answer : Place) (sight : Sight) (d : ℕ) (c : Container) →
    IsPlace signs i answer → IsSight signs i sight → verdicts_by sight d c ≡ verdicts_for answer d c
same-verdicts signs i Unknown unknown d c p q = refl
same-verdicts signs i Unknown (locks m) d c p q = absurd (p q.0.0 q.0.1.in_step)
same-verdicts signs i Unknown at d c p q = absurd (p q.0 q.1.in_step)
same-verdicts signs i (LocksAnswer n) unknown d c p q = absurd (q p.0.0 p.0.1.in_step)
same-verdicts signs i (At n) unknown d c p q = absurd (q p.0.0 p.0.1.in_step)
same-verdicts signs i (LocksAnswer n) (locks number) d c p q =
    let (from, m, first, has, said) = p.1 in
    let (locks', before, m', next, has', e) = q in
    let begins : from ≡ locks'.0 = IsFirstStep_only signs from locks'.0 i first locks'.1 in
    let same : from ≡ before = omega (arith, begins, locks'.2, next) in
    let equal : m' ≡ m = HasMfi2_only signs before m' m has' (subst (λ k. HasMfi2 signs k m) same has) in
    ap (λ n. replicate (suc n) None)
    (ap (ahead d) (e ∙ ap (λ m. 16 * m + 1) equal) ∙ ahead-modulo d m n from i before same next said)
same-verdicts signs i (LocksAnswer n) at d c p q =
    let same : p.0.0 ≡ q.0 = IsFirstStep_only signs p.0.0 q.0 i p.0.1 q.1 in
    absurd (omega (arith, p.0.2, q.2))
same-verdicts signs i (At n) (locks m) d c p q =
    let same : p.0.0 ≡ q.0.0 = IsFirstStep_only signs p.0.0 q.0.0 i p.0.1 q.0.1 in
    absurd (omega (arith, p.0.2, q.0.2))
same-verdicts signs i (At n) at d c p q = refl

-- ---- one cell more
read-next : (cells : List Cell) (cell : Cell) →
    reading_of (cells ++ cell ∷ []) ≡ read_at (reading_of cells).lock (reading_of cells).verdicts cell
unfolding read_on
read-next cells cell = read_on-append (record { lock = unlocked; verdicts = [] }) cells (cell ∷ [])

pub signs-next : (cells : List Cell) (cell : Cell) → signs_of (cells ++ cell ∷ []) ≡ signs_of cells ++ sign_of cell ∷ []
signs-next cells cell = map-append sign_of cells (cell ∷ [])

pub no_end-next : (cells : List Cell) (cell : Cell) → HasNoEnd cells → (cell ≡ End → ⊥) → HasNoEnd (cells ++ cell ∷ [])
no_end-next [] cell more other zero e = other cc
no_end-next [] cell more other (suc i) e = absurd cc
no_end-next (x ∷ xs) cell more other zero e = more 0 e
no_end-next (x ∷ xs) cell more other (suc i) e = no_end-next xs cell (λ i e. more (suc i) e) other i e

pub good-next : (cells : List Cell) (c : Container) (answer : Place) → HasNoEnd cells →
    IsPlace (signs_of cells ++ Some c.h4 ∷ []) (length (signs_of cells)) answer →
    (reading_of (cells ++ Good c ∷ [])).verdicts ≡ (reading_of cells).verdicts ++ verdicts_for answer
    (length (reading_of cells).verdicts) c
good-next cells c answer more is =
    let r : Reading = reading_of cells in
    let signs = signs_of cells in
    ap (λ r. r.verdicts) (read-next cells (Good c))
    ∙ good-verdicts cells more r.lock r.verdicts signs c (stands-of cells more)
    ∙ ap (λ l. r.verdicts ++ l) (same-verdicts (signs ++ Some c.h4 ∷ []) (length signs) answer (sight_of r.lock c.h4)
    (length r.verdicts) c is (sight-is r.lock signs c.h4 (stands-of cells more)))

pub fail-next : (cells : List Cell) → HasNoEnd cells →
    (reading_of (cells ++ Fail ∷ [])).verdicts ≡ (reading_of cells).verdicts ++ None ∷ []
fail-next cells more =
    ap (λ r. r.verdicts) (read-next cells Fail)
    ∙ fail-verdicts cells more (reading_of cells).lock (reading_of cells).verdicts (signs_of cells)
    (stands-of cells more)

-- ---- What is kept of the numbers of a line after a cell, and after a number that is passed.
nonempty : {X : Type 0} (x : X) (xs : List X) → x ∷ xs ≡ [] → ⊥
nonempty x xs e = cc

-- ---- all was passed
record All (numbers : Numbers) (cells : List Cell) (t : ℕ) : Type 0 where
  more : HasNoEnd cells
  lock : LockStands numbers.lock (signs_of cells)
  size : length (reading_of cells).verdicts ≡ t

left-none : (numbers : Numbers) (place : Container) → IsOpen numbers → left_of numbers place ≡ []
left-none numbers place is = rw (is.bad, is.whole) refl

all-passed : (numbers : Numbers) (place : Container) (cells : List Cell) (t : ℕ) → IsOpen numbers →
    NumbersStand numbers place cells t → All numbers cells t
all-passed numbers place cells t is stands =
    let runs = stands.runs is.ended in
    let none = left-none numbers place is in
    let same : (reading_of cells).verdicts ≡ stands.passed = stands.verdicts ∙ ap (λ l. stands.passed ++ l) none
    ∙ append-nil stands.passed in
    record { more = runs.0; lock = runs.1; size = ap length same ∙ runs.2 }

-- ---- one cell more
modulo-verdicts : (answer : Place) (next t : ℕ) (c : Container) → next ≡ t % 4096 →
    verdicts_for answer t c ≡ verdicts_for answer next c
modulo-verdicts Unknown next t c e = refl
modulo-verdicts (Locks n) next t c e =
    ap (λ k. replicate (suc k) None) (let same : ahead t n ≡ ahead next n = omega arith in same)
modulo-verdicts (At n) next t c e = refl

pub Stands-none : (lock : MfiLock) (place : Container) → LockStands lock [] →
    NumbersStand (record { lock = lock; next = 0; bad = 0; whole = false; ended = false }) place [] 0
unfolding read_on
Stands-none lock place is = record {
  number = refl;
  passed = [];
  verdicts = refl;
  runs = λ e. (λ i e. absurd cc, is, refl);
  over = λ e. absurd (false≢true e);
}

module _ (numbers now : Numbers) (place : Container) (cells : List Cell) (t : ℕ) (same : numbers ≡ now)
    (are_open : IsOpen now) (stands : NumbersStand now place cells t) where
  opened : IsOpen numbers
  opened = subst IsOpen (sym same) are_open

  before : NumbersStand numbers place cells t
  before = subst (λ v. NumbersStand v place cells t) (sym same) stands

  all : All numbers cells t
  all = all-passed numbers place cells t opened before

  pub Stands-good : (c : Container) (answer : Place) (lock' : MfiLock) (bad : ℕ) (whole : Bool) (place' : Container) →
      ((signs : List (Option ℕ)) → LockStands numbers.lock signs →
      IsPlace (signs ++ Some c.h4 ∷ []) (length signs) answer) →
      ((signs : List (Option ℕ)) → LockStands numbers.lock signs → LockStands lock' (signs ++ Some c.h4 ∷ [])) →
      verdicts_for answer numbers.next c ≡ replicate bad None ++ last_of whole place' →
      NumbersStand (record { lock = lock'; next = numbers.next; bad = bad; whole = whole; ended = numbers.ended }) place'
      (cells ++ Good c ∷ []) t
  Stands-good c answer lock' bad whole place' at_place lock new = record {
    number = before.number;
    passed = (reading_of cells).verdicts;
    verdicts = good-next cells c answer all.more (at_place (signs_of cells) all.lock)
        ∙ ap (λ l. (reading_of cells).verdicts ++ l)
        (ap (λ d. verdicts_for answer d c) all.size ∙ modulo-verdicts answer numbers.next t c before.number ∙ new);
    runs = λ e. (
      no_end-next cells (Good c) all.more (λ e. absurd cc),
      subst (LockStands lock') (sym (signs-next cells (Good c))) (lock (signs_of cells) all.lock),
      all.size,
    );
    over = λ e. absurd (false≢true (sym opened.ended ∙ e));
  }

  pub Stands-fail : (lock' : MfiLock) →
      ((signs : List (Option ℕ)) → LockStands numbers.lock signs → LockStands lock' (signs ++ None ∷ [])) →
      NumbersStand (record { lock = lock'; next = numbers.next; bad = 1; whole = numbers.whole; ended = numbers.ended })
      place (cells ++ Fail ∷ []) t
  Stands-fail lock' lock = record {
    number = before.number;
    passed = (reading_of cells).verdicts;
    verdicts = fail-next cells all.more
        ∙ ap (λ l. (reading_of cells).verdicts ++ None ∷ l) (sym (ap (λ whole. last_of whole place) opened.whole));
    runs = λ e. (
      no_end-next cells Fail all.more (λ e. absurd cc),
      subst (LockStands lock') (sym (signs-next cells Fail)) (lock (signs_of cells) all.lock),
      all.size,
    );
    over = λ e. absurd (false≢true (sym opened.ended ∙ e));
  }

  pub Stands-end : NumbersStand (record numbers { ended = true }) place (cells ++ End ∷ []) t
  Stands-end =
      let now = end-reading cells [] in
      let none = left-none numbers place opened in
      record {
        number = before.number;
        passed = (reading_of cells).verdicts;
        verdicts = ap (λ r. r.verdicts) now ∙ sym (append-nil (reading_of cells).verdicts)
            ∙ ap (λ l. (reading_of cells).verdicts ++ l) (sym none);
        runs = λ e. absurd (true≢false e);
        over = λ e. (ap (λ r. r.lock) now, none, omega (arith, all.size));
      }

-- what a cell leaves to be passed
pub locks-left : (d number ahead' : ℕ) (c place : Container) (whole : Bool) → ahead' ≡ ahead d number → whole ≡ false →
    verdicts_for (Locks number) d c ≡ replicate (ahead' + 1) None ++ last_of whole place
locks-left d number ahead' c place whole e none =
    rw (none, e) (sym (append-nil (replicate (ahead d number + 1) None)
    ∙ ap (λ n. replicate n None) (let e : ahead d number + 1 ≡ suc (ahead d number) = omega arith in e)))

pub at-left : (number d bad : ℕ) (c : Container) → bad ≡ 0 →
    verdicts_for (At number) d c ≡ replicate bad None ++ last_of true c
at-left number d bad c e = rw e refl

-- ---- a number that is passed
next-number : (next next' t : ℕ) → next' ≡ (next + 1) % 4096 → next ≡ t % 4096 → next' ≡ (t + 1) % 4096
next-number next next' t e h = omega arith

pass-bad : (lock : MfiLock) (next next' t bad : ℕ) (whole ended : Bool) (place : Container) (cells : List Cell) →
    next' ≡ (next + 1) % 4096 →
    NumbersStand (record { lock = lock; next = next; bad = suc bad; whole = whole; ended = ended }) place cells t →
    NumbersStand (record { lock = lock; next = next'; bad = bad; whole = whole; ended = ended }) place cells (t + 1)
pass-bad lock next next' t bad whole ended place cells e' stands =
    let rest : List (Option Container) = replicate bad None ++ last_of whole place in
    let size : length (stands.passed ++ None ∷ []) ≡ length stands.passed + 1 =
    length-append stands.passed (None ∷ []) in
    record {
      number = next-number next next' t e' stands.number;
      passed = stands.passed ++ None ∷ [];
      verdicts = stands.verdicts ∙ append_one stands.passed None rest;
      runs = λ e. let runs = stands.runs e in (runs.0, runs.1, size ∙ ap (λ n. n + 1) runs.2);
      over = λ e. absurd (nonempty None rest (stands.over e).1);
    }

pub pass-bads : (lock : MfiLock) (next next' t bad : ℕ) (whole ended : Bool) (place : Container) (cells : List Cell) →
    next' ≡ (next + 1) % 4096 → 0 < bad →
    NumbersStand (record { lock = lock; next = next; bad = bad; whole = whole; ended = ended }) place cells t →
    NumbersStand (record { lock = lock; next = next'; bad = bad - 1; whole = whole; ended = ended }) place cells (t + 1)
pass-bads lock next next' t zero whole ended place cells e' some stands = absurd (omega arith)
pass-bads lock next next' t (suc bad) whole ended place cells e' some stands =
    subst (λ b. NumbersStand (record { lock = lock; next = next'; bad = b; whole = whole; ended = ended }) place cells
    (t + 1)) (let e : bad ≡ suc bad - 1 = omega arith in e)
    (pass-bad lock next next' t bad whole ended place cells e' stands)

-- ---- what is said of the next number
said-next : (cells : List Cell) (passed rest : List (Option Container)) (v : Option Container) (t : ℕ) →
    (reading_of cells).verdicts ≡ passed ++ v ∷ rest → length passed ≡ t → verdict cells t ≡ Some v
said-next cells passed rest v t is size =
    let here : slice_get (reading_of cells).verdicts t ≡ Some v =
    ap (λ l. slice_get l t) is ∙ subst (λ t. slice_get (passed ++ v ∷ rest) t ≡ Some v) size
    (slice_get-append_seam passed v rest) in
    rw here refl

pub says-bad : (lock : MfiLock) (next t bad : ℕ) (whole ended : Bool) (place : Container) (cells : List Cell) →
    0 < bad →
    NumbersStand (record { lock = lock; next = next; bad = bad; whole = whole; ended = ended }) place cells t →
    verdict cells t ≡ Some None
says-bad lock next t zero whole ended place cells some stands = absurd (omega arith)
says-bad lock next t (suc bad) whole ended place cells some stands =
    elim (cases_Bool ended) [
      | inl e ↦ absurd (nonempty None (replicate bad None ++ last_of whole place) (stands.over e).1)
      | inr e ↦ said-next cells stands.passed (replicate bad None ++ last_of whole place) None t stands.verdicts
          (stands.runs e).2
    ]

pub says-over : (lock : MfiLock) (next t bad : ℕ) (whole : Bool) (place : Container) (cells : List Cell) →
    NumbersStand (record { lock = lock; next = next; bad = bad; whole = whole; ended = true }) place cells t →
    verdict cells t ≡ Some None
says-over lock next t bad whole place cells stands =
    let is = stands.over refl in
    let all : (reading_of cells).verdicts ≡ stands.passed = stands.verdicts ∙ ap (λ l. stands.passed ++ l) is.1
    ∙ append-nil stands.passed in
    let none : slice_get (reading_of cells).verdicts t ≡ None =
    slice_get_past (reading_of cells).verdicts t (let size = ap length all in let low = is.2 in omega arith) in
    rw (none, is.0) refl

pub says-whole : (lock : MfiLock) (next t : ℕ) (place : Container) (cells : List Cell) →
    NumbersStand (record { lock = lock; next = next; bad = 0; whole = true; ended = false }) place cells t →
    verdict cells t ≡ Some (Some place)
says-whole lock next t place cells stands =
    said-next cells stands.passed [] (Some place) t stands.verdicts (stands.runs refl).2

pub says-nothing : (numbers : Numbers) (place : Container) (cells : List Cell) (t : ℕ) → IsOpen numbers →
    NumbersStand numbers place cells t → verdict cells t ≡ None
says-nothing numbers place cells t is stands =
    let all = all-passed numbers place cells t is stands in
    verdict-open cells t all.more ∙ slice_get_past (reading_of cells).verdicts t (omega (arith, all.size))

-- ---- the numbers that were passed are decided
verdict-over : (here : Option (Option Container)) → IsSome (verdict_or here (Some None))
verdict-over None = refl
verdict-over (Some v) = refl

pub passed-decided : (numbers : Numbers) (place : Container) (cells : List Cell) (t s : ℕ) →
    NumbersStand numbers place cells t → s < t → IsSome (verdict cells s)
passed-decided numbers place cells t s stands before =
    elim (cases_Bool numbers.ended) [
      | inl e ↦ rw (stands.over e).0 (verdict-over (slice_get (reading_of cells).verdicts s))
      | inr e ↦
          let size : length (reading_of cells).verdicts ≡ length stands.passed + length (left_of numbers place) =
          ap length stands.verdicts ∙ length-append stands.passed (left_of numbers place) in
          let here = slice_get-inside (reading_of cells).verdicts s
          (let passed = (stands.runs e).2 in omega (arith, size, passed, before)) in
          rw here.1 refl
    ]

-- ---- whether the next number is decided
pub open-test : (numbers : Numbers) → IsOpen numbers → is_open numbers ≡ true
open-test numbers is = rw (is.bad, is.whole, is.ended) refl

pub test-open : (numbers : Numbers) → is_open numbers ≡ true → IsOpen numbers
test-open numbers test =
    let parts = and_parts (numbers.bad == 0 && not numbers.whole) (not numbers.ended) test in
    let first = and_parts (numbers.bad == 0) (not numbers.whole) parts.0 in
    record {
      bad = eqb-true numbers.bad 0 first.0;
      whole = not-true numbers.whole first.1;
      ended =
          not-true numbers.ended parts.1;
    }

says-something : (lock : MfiLock) (next t bad : ℕ) (whole ended : Bool) (place : Container) (cells : List Cell) →
    (IsOpen (record { lock = lock; next = next; bad = bad; whole = whole; ended = ended }) → ⊥) →
    NumbersStand (record { lock = lock; next = next; bad = bad; whole = whole; ended = ended }) place cells t →
    IsSome (verdict cells t)
says-something lock next t (suc bad) whole ended place cells shut stands =
    rw (says-bad lock next t (suc bad) whole ended place cells (omega arith) stands) refl
says-something lock next t zero whole true place cells shut stands =
    rw (says-over lock next t zero whole place cells stands) refl
says-something lock next t zero true false place cells shut stands = rw (says-whole lock next t place cells stands) refl
says-something lock next t zero false false place cells shut stands =
    absurd (shut (record { bad = refl; whole = refl; ended = refl }))

-- it is not exactly where the cells don't decide it
pub open-verdict : (numbers : Numbers) (place : Container) (cells : List Cell) (t : ℕ) → NumbersStand numbers place cells t →
    is_open numbers ≡ is_none (verdict cells t)
open-verdict numbers place cells t stands =
    elim (cases_Bool (is_open numbers)) [
      | inl test ↦ test ∙ sym (ap is_none (says-nothing numbers place cells t (test-open numbers test) stands))
      | inr test ↦
          let shut : IsOpen numbers → ⊥ = λ is. false≢true (sym test ∙ open-test numbers is) in
          let some = says-something numbers.lock numbers.next t numbers.bad numbers.whole numbers.ended place cells shut
          stands in
          test ∙ sym (ap not some)
    ]

-- the container of a number that is whole lies in the place
whole-by : (lock : MfiLock) (next t bad : ℕ) (whole ended : Bool) (place container : Container) (cells : List Cell) →
    NumbersStand (record { lock = lock; next = next; bad = bad; whole = whole; ended = ended }) place cells t →
    verdict cells t ≡ Some (Some container) → place ≡ container
whole-by lock next t (suc bad) whole ended place container cells stands is =
    absurd (let e : Some None ≡ Some (Some container) =
    sym (says-bad lock next t (suc bad) whole ended place cells (omega arith) stands) ∙ is in cc)
whole-by lock next t zero whole true place container cells stands is =
    absurd (let e : Some None ≡ Some (Some container) = sym (says-over lock next t zero whole place cells stands)
    ∙ is in cc)
whole-by lock next t zero true false place container cells stands is =
    let e : Some (Some place) ≡ Some (Some container) = sym (says-whole lock next t place cells stands) ∙ is in cc
whole-by lock next t zero false false place container cells stands is =
    let open' : IsOpen (record { lock = lock; next = next; bad = 0; whole = false; ended = false }) =
    record { bad = refl; whole = refl; ended = refl } in
    absurd (let e : None ≡ Some (Some container) =
    sym (says-nothing (record { lock = lock; next = next; bad = 0; whole = false; ended = false }) place cells t
    open' stands) ∙ is in cc)

pub whole-place : (numbers : Numbers) (place container : Container) (cells : List Cell) (t : ℕ) →
    NumbersStand numbers place cells t → verdict cells t ≡ Some (Some container) → place ≡ container
whole-place numbers place container cells t stands is =
    whole-by numbers.lock numbers.next t numbers.bad numbers.whole numbers.ended place container cells stands is
