-- A worker of a line later: the alarms of its cells, what it noted as sent, and the calls on its line.
use Rattle.std.proofs.Common.{◌≡◌, ℕ, zero, suc, ◌+◌, ◌-◌, ◌≤◌, min, nat_lt, Bool, true, false, if◌then◌else◌, List, []}
use Rattle.std.proofs.Common.{◌∷◌, ◌++◌, length, take, refl, sym, ◌∙◌, ap, ap₂, arith, append_assoc, length-append}
use Rattle.std.proofs.Common.{append-nil, subst, le-ltb}
use Rattle.std.proofs.Math.Nat.{min-eq_left}
use Rattle.law_model.specs.Common.{Container, Cell, Good, Fail, End, cells_of, path, end_of, cells}
use Rattle.law_model.specs.declared.window_types.Carried.{Carried}
use Rattle.law_model.specs.declared.window_types.Carried.TheVariants.{Whole, Fails as AsFail, Vanishes}
use Rattle.thread_rings.specs.declared.alarm_kinds.Alarm.{Alarm}
use Rattle.thread_rings.specs.declared.alarm_kinds.AlarmKind.TheVariants.{Ends}
use Rattle.thread_rings.specs.LineAlarms.{alarm_at, return_of, failure_of, alarms_from, failed_after, alarms_of_line}
use Rattle.law_model.specs.members.Damage.{carried}
use Rattle.thread_rings.specs.EndsOfRing.{in_passed, out_passed}
use Rattle.thread_rings.specs.declared.line_worker.LineWorker.{LineWorker}
use Rattle.thread_rings.specs.WorkerOfLine.{number_of, total_of, last_raised, HasNoted, SameWorker, IsLater}
use mathlib.Core.List.{IsPrefix}
use Rattle.thread_rings.proofs.SameRingEndsLaws.{in-then, out-then}
use Rattle.law_model.specs.declared.window_types.Window.{Window}
use Rattle.member_path.specs.path_delay.CallsOnDelayedLine.{Line, opened, and_push, and_flush, path_cells, DelayStands}
use Rattle.thread_rings.specs.WorkerLineCalls.{calls_on, IsOpened}

-- ---- The alarms of more cells, cell by cell, and how many cells a line sends.
-- ---- more cells
pub failed-more : (failed : Bool) (sent more : List Cell) →
    failed_after failed (sent ++ more) ≡ failed_after (failed_after failed sent) more
unfolding failed_after
failed-more failed [] more = refl
failed-more failed (Good c ∷ sent) more = failed-more false sent more
failed-more failed (Fail ∷ sent) more = failed-more true sent more
failed-more failed (End ∷ sent) more = failed-more false sent more

next-place : (i n : ℕ) → suc i + n ≡ i + suc n
next-place i n = omega arith

pub alarms-more : (m i : ℕ) (failed : Bool) (sent more : List Cell) →
    alarms_from m i failed (sent ++ more) ≡ alarms_from m i failed sent ++ alarms_from m (i + length sent)
    (failed_after failed sent) more
unfolding alarms_from failed_after
alarms-more m i failed [] more = ap (λ (k : ℕ). alarms_from m k failed more) (let e : i ≡ i + 0 = omega arith in e)
alarms-more m i failed (Good c ∷ sent) more =
    let rest : ℕ → List Alarm = λ k. alarms_from m k (failed_after false sent) more in
    ap (λ l. return_of m i failed ++ l) (alarms-more m (suc i) false sent more)
    ∙ ap (λ (k : ℕ). return_of m i failed ++ (alarms_from m (suc i) false sent ++ rest k)) (next-place i (length sent))
    ∙ sym (append_assoc (return_of m i failed) (alarms_from m (suc i) false sent) (rest (i + suc (length sent))))
alarms-more m i failed (Fail ∷ sent) more =
    let rest : ℕ → List Alarm = λ k. alarms_from m k (failed_after true sent) more in
    ap (λ l. failure_of m i failed ++ l) (alarms-more m (suc i) true sent more)
    ∙ ap (λ (k : ℕ). failure_of m i failed ++ (alarms_from m (suc i) true sent ++ rest k)) (next-place i (length sent))
    ∙ sym (append_assoc (failure_of m i failed) (alarms_from m (suc i) true sent) (rest (i + suc (length sent))))
alarms-more m i failed (End ∷ sent) more =
    let rest : ℕ → List Alarm = λ k. alarms_from m k (failed_after false sent) more in
    ap (λ l. alarm_at m i Ends ∷ l) (alarms-more m (suc i) false sent more)
    ∙ ap (λ (k : ℕ). alarm_at m i Ends ∷ (alarms_from m (suc i) false sent ++ rest k)) (next-place i (length sent))

pub alarms-none : (m i : ℕ) (failed : Bool) → alarms_from m i failed [] ≡ []
unfolding alarms_from
alarms-none m i failed = refl

-- ---- after one more carry, by what was noted of the cells before
pub noted-more : (m place : ℕ) (failed : Bool) (sent more : List Cell) (last next : List Alarm) →
    failed ≡ failed_after false sent → place ≡ min (length sent) 4294967295 →
    next ≡ last ++ alarms_from m place failed more →
    length (sent ++ more) ≤ 4294967296 → (before : List Alarm) → before ++ last ≡ alarms_of_line m sent →
    before ++ next ≡ alarms_of_line m (sent ++ more)
noted-more m place failed sent [] last next fails at is few before had =
    ap (λ l. before ++ l) (is ∙ ap (λ l. last ++ l) (alarms-none m place failed) ∙ append-nil last) ∙ had
    ∙ ap (alarms_of_line m) (sym (append-nil sent))
noted-more m place failed sent (cell ∷ more) last next fails at is few before had =
    let size = length-append sent (cell ∷ more) in
    let here : place ≡ length sent = at ∙ min-eq_left (omega (arith, size, few)) in
    ap (λ l. before ++ l) (is ∙ ap₂ (λ (k : ℕ) (b : Bool). last ++ alarms_from m k b (cell ∷ more)) here fails)
    ∙ sym (append_assoc before last (alarms_from m (length sent) (failed_after false sent) (cell ∷ more)))
    ∙ ap (λ l. l ++ alarms_from m (length sent) (failed_after false sent) (cell ∷ more)) had
    ∙ ap (λ (k : ℕ). alarms_of_line m sent ++ alarms_from m k (failed_after false sent) (cell ∷ more))
    (let e : length sent ≡ 0 + length sent = omega arith in e)
    ∙ sym (alarms-more m 0 false sent (cell ∷ more))

pub place-more : (place next : ℕ) (sent more : List Cell) → place ≡ min (length sent) 4294967295 →
    next ≡ min (place + length more) 4294967295 →
    next ≡ min (length (sent ++ more)) 4294967295
place-more place next sent more at is = let size = length-append sent more in omega (arith, at, is, size)

-- ---- a line sends a cell for each of its containers at most, and the end
one-cell : (carried : Carried) (c : Container) → length (cells_of carried c) ≤ 1
one-cell Whole c = omega arith
one-cell AsFail c = omega arith
one-cell Vanishes c = omega arith

path-few : (carries : ℕ → Carried) (n k : ℕ) (xs : List Container) → length (path carries n (take k xs)) ≤ length xs
unfolding path
path-few carries n zero xs = omega arith
path-few carries n (suc k) [] = omega arith
path-few carries n (suc k) (x ∷ xs) =
    let size = length-append (cells_of (carries n) x) (path carries (suc n) (take k xs)) in
    let one = one-cell (carries n) x in
    let rest = path-few carries (suc n) k xs in
    omega (arith, size, one, rest)

one-end : (total n : ℕ) → length (end_of total n) ≤ 1
one-end total n = elim (nat_lt total n) as (λ b. length (if b then End ∷ [] else []) ≤ 1)
    [ true ↦ omega arith | false ↦ omega arith ]

pub cells-few : (carries : ℕ → Carried) (delay total : ℕ) (xs : List Container) (i : ℕ) →
    length (cells carries delay total xs i) ≤ length xs + 1
cells-few carries delay total xs i =
    let size = length-append (path carries 0 (take (i - delay) xs)) (end_of total (i - delay)) in
    let some = path-few carries 0 (i - delay) xs in
    let end = one-end total (i - delay) in
    omega (arith, size, some, end)

-- ---- A worker has noted what it sent: at once, after one more cell, and over more than one carry.
-- nothing was sent
pub noted-same : (a b : LineWorker) → number_of b ≡ number_of a → out_passed b.producer ≡ out_passed a.producer →
    last_raised b ≡ last_raised a → HasNoted a b
noted-same a b number out last = record {
  grown = let size = ap length out in omega (arith, size);
  alarms = λ few before had.
      ap (λ l. before ++ l) last ∙ had ∙ ap (λ (m : ℕ). alarms_of_line m (out_passed a.producer)) (sym number)
      ∙ ap (alarms_of_line (number_of b)) (sym out);
}

pub noted-refl : (a : LineWorker) → HasNoted a a
noted-refl a = noted-same a a refl refl refl

-- the cells of a carry were sent
pub noted-sent : (a b : LineWorker) (more : List Cell) → number_of b ≡ number_of a →
    out_passed b.producer ≡ out_passed a.producer ++ more →
    last_raised b ≡ last_raised a ++ alarms_from (number_of a) a.raised.place a.raised.failed more → HasNoted a b
noted-sent a b more number out last = record {
  grown = let size = ap length out ∙ length-append (out_passed a.producer) more in omega (arith, size);
  alarms = λ few before had.
      noted-more (number_of a) a.raised.place a.raised.failed (out_passed a.producer) more (last_raised a)
      (last_raised b) a.failed a.next last
      (subst (λ (l : List Cell). length l ≤ 4294967296) out few) before had
      ∙ ap (alarms_of_line (number_of a)) (sym out)
      ∙ ap (λ (m : ℕ). alarms_of_line m (out_passed b.producer)) (sym number);
}

pub noted-then : (a b c : LineWorker) → HasNoted a b → HasNoted b c → HasNoted a c
noted-then a b c s t = record {
  grown = omega (arith, s.grown, t.grown);
  alarms = λ few before had. t.alarms few before (s.alarms (omega (arith, few, t.grown)) before had);
}

-- no more cells were sent than containers were received, and the end
pub sent-few : (a : LineWorker) → length (out_passed a.producer) ≤ total_of a + 1
sent-few a =
    let size = ap length a.sent in
    let few = cells-few (carried a.core.windows) a.core.delay a.core.total (in_passed a.consumer)
    (length (in_passed a.consumer) + a.core.flushed) in
    omega (arith, size, few, a.received)

-- ---- A worker is later than itself, and later than what it was later than.
prefix-then : {A : Type 0} (xs ys zs : List A) → IsPrefix xs ys → IsPrefix ys zs → IsPrefix xs zs
prefix-then xs ys zs s t = (s.0 ++ t.0, sym (append_assoc xs s.0 t.0) ∙ ap (λ l. l ++ t.0) s.1 ∙ t.1)

pub same-refl : (a : LineWorker) → SameWorker a a
same-refl a = record {
  number = refl;
  delay = refl;
  windows = refl;
  total = refl;
  consumer = (refl, refl, refl);
  producer = (refl, refl, refl);
}

pub later-refl : (a : LineWorker) → IsLater a a
later-refl a = record { same = same-refl a; received = ([], append-nil _); flushes = omega arith }

pub same-then : (a b c : LineWorker) → SameWorker a b → SameWorker b c → SameWorker a c
same-then a b c s t = record {
  number = t.number ∙ s.number;
  delay = t.delay ∙ s.delay;
  windows = t.windows ∙ s.windows;
  total = t.total ∙ s.total;
  consumer = in-then a.consumer b.consumer c.consumer s.consumer t.consumer;
  producer = out-then a.producer b.producer c.producer s.producer t.producer;
}

pub later-then : (a b c : LineWorker) → IsLater a b → IsLater b c → IsLater a c
later-then a b c s t = record {
  same = same-then a b c s.same t.same;
  received = prefix-then _ _ _ s.received t.received;
  flushes = omega (arith, s.flushes, t.flushes);
}

-- ---- The calls on the line of a worker, at first and after one more carry.
pub calls-pushed : (old new : Line) (xs : List Container) (x : Container) → DelayStands new (and_push (calls_on old xs) x) →
    and_push (calls_on old xs) x ≡ calls_on new (xs ++ x ∷ [])
calls-pushed old new xs x stands = rw (stands.delay, stands.windows, stands.total, stands.flushed) refl

pub calls-flushed : (old new : Line) (xs : List Container) → DelayStands new (and_flush (calls_on old xs)) →
    and_flush (calls_on old xs) ≡ calls_on new xs
calls-flushed old new xs stands = rw (stands.delay, stands.windows, stands.total, stands.flushed) refl

pub calls-opened : (line : Line) → IsOpened line → opened line.delay line.windows line.total ≡ calls_on line []
calls-opened line stands = rw (stands.flushed) refl

pub opened-path : (delay : ℕ) (windows : List Window) (total : ℕ) → path_cells (opened delay windows total) ≡ []
unfolding path
opened-path delay windows total =
    let none : 0 - delay ≡ 0 = omega arith in
    let early : nat_lt total 0 ≡ false = le-ltb total 0 (omega arith) in
    rw (none, early) refl
