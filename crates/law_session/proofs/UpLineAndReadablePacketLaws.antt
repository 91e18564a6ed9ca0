-- When a line is up, by which of its packets were read, and which packets are readable by their whole containers.
use Rattle.std.proofs.Common.{◌≡◌, ◌↔◌, ℕ, zero, suc, ◌+◌, ◌-◌, ◌<◌, ◌≤◌, nat_le, ◌&&◌, not, Bool, true, false, inl}
use Rattle.std.proofs.Common.{inr, refl, sym, ◌∙◌, ap, subst, arith, Some, ◌*◌, ◌/◌, ◌||◌, List, [], ◌∷◌, length}
use Rattle.std.proofs.Common.{slice_index_or}
use Rattle.std.specs.List.{list_all, range_with_len, list_any}
use Rattle.std.proofs.lemmas.Bool.{cases_lt, cases_Bool, and_parts, and_from, or_cases, or_left, or_right, leb-true}
use Rattle.std.proofs.lemmas.Bool.{le-leb, lt-leb, both_ways, not-true, not_from_false, false_from_ne_true}
use Rattle.std.proofs.lemmas.Option.{none-some, same_Some}
use Rattle.law_model.specs.declared.script_types.Options.{Options}
use Rattle.law_model.specs.Common.{IsUp, IsUpSince, is_up, last_read, is_restored, are_missed, is_whole, are_whole}
use Rattle.law_model.specs.Common.{lock_of, is_good, is_readable, Scenario, is_read, is_heard}
use Rattle.law_session.specs.TimedMembers.{IsLastRead}
use Rattle.law_model.specs.declared.window_types.Window.{Window}
use Rattle.law_model.specs.declared.window_types.Carried.{Carried}
use Rattle.law_model.specs.declared.window_types.Carried.TheVariants.{Whole, Fails, Vanishes}
use Rattle.law_model.specs.members.Damage.{carried}
use Rattle.law_line.proofs.ContainerLockAndSlipLaws.{are_whole-each, each-are_whole}
use Rattle.law_session.specs.ReturnedCells.{AreWhole}

-- ---- When a line is up, by which of its packets were read.
-- ---- what holds of each number of a range
pub range-each : (p : ℕ → Bool) (n a : ℕ) → list_all p (range_with_len a n) ≡ true → (i : ℕ) → a ≤ i → i < a + n →
    p i ≡ true
range-each p zero a e i low high = absurd (omega arith)
range-each p (suc n) a e i low high =
    let parts = and_parts (p a) (list_all p (range_with_len (a + 1) n)) e in
    elim (cases_lt a i) [
      | inl later ↦ range-each p n (a + 1) parts.1 i (omega arith) (omega arith)
      | inr first ↦ let same : a ≡ i = omega arith in subst (λ x. p x ≡ true) same parts.0
    ]

each-range : (p : ℕ → Bool) (n a : ℕ) → ((i : ℕ) → a ≤ i → i < a + n → p i ≡ true) →
    list_all p (range_with_len a n) ≡ true
each-range p zero a each = refl
each-range p (suc n) a each =
    and_from (p a) (list_all p (range_with_len (a + 1) n)) (each a (omega arith) (omega arith))
    (each-range p n (a + 1) (λ i low high. each i (omega arith) (omega arith)))

-- ---- packets read or missed in turn
pub restored-each : (restore : ℕ) (read : ℕ → Bool) (k : ℕ) → is_restored restore read k ≡ true → (j : ℕ) →
    k ≤ j + restore → j ≤ k → read j ≡ true
restored-each restore read k e j low high =
    range-each read (k + 1 - (k - restore)) (k - restore) e j (omega arith) (omega arith)

pub each-restored : (restore : ℕ) (read : ℕ → Bool) (k : ℕ) →
    ((j : ℕ) → k ≤ j + restore → j ≤ k → read j ≡ true) → is_restored restore read k ≡ true
each-restored restore read k each =
    each-range read (k + 1 - (k - restore)) (k - restore) (λ j low high. each j (omega arith) (omega arith))

pub missed-each : (holdoff : ℕ) (read : ℕ → Bool) (k : ℕ) → are_missed holdoff read k ≡ true →
    (holdoff ≤ k) × ((j : ℕ) → k ≤ j + holdoff → j ≤ k → read j ≡ false)
missed-each holdoff read k e =
    let parts = and_parts (nat_le holdoff k)
    (list_all (λ j. not (read j)) (range_with_len (k - holdoff) (holdoff + 1))) e
    in
    let long = leb-true holdoff k parts.0 in (
      long,
      λ j low high. not-true (read j)
          (range-each (λ j. not (read j)) (holdoff + 1) (k - holdoff) parts.1 j (omega arith) (omega arith)),
    )

pub each-missed : (holdoff : ℕ) (read : ℕ → Bool) (k : ℕ) → holdoff ≤ k →
    ((j : ℕ) → k ≤ j + holdoff → j ≤ k → read j ≡ false) → are_missed holdoff read k ≡ true
each-missed holdoff read k long each =
    and_from (nat_le holdoff k) (list_all (λ j. not (read j)) (range_with_len (k - holdoff) (holdoff + 1)))
    (le-leb holdoff k long)
    (each-range (λ j. not (read j)) (holdoff + 1) (k - holdoff)
    (λ j low high. not_from_false (read j) (each j (omega arith) (omega arith))))

-- one of some packets was read
abbrev pub IsReadIn : (ℕ → Bool) → ℕ → ℕ → Type 0
IsReadIn read from end = (i : ℕ) × (from ≤ i) × (i < end) × (read i ≡ true)

some_read : (read : ℕ → Bool) (n a : ℕ) → list_all (λ j. not (read j)) (range_with_len a n) ≡ false →
    IsReadIn read a (a + n)
some_read read zero a e = absurd cc
some_read read (suc n) a e =
    elim (cases_Bool (read a)) [
      | inl here ↦ (a, omega arith, omega arith, here)
      | inr gone ↦
          let rest : list_all (λ j. not (read j)) (range_with_len (a + 1) n) ≡ false = rw gone at e in
          let found = some_read read n (a + 1) rest in
          (found.0, omega (arith, found.1), omega (arith, found.2), found.3)
    ]

pub not_missed-read : (holdoff : ℕ) (read : ℕ → Bool) (k : ℕ) → are_missed holdoff read k ≡ false → holdoff ≤ k →
    IsReadIn read (k - holdoff) (k + 1)
not_missed-read holdoff read k e long =
    let all : list_all (λ j. not (read j)) (range_with_len (k - holdoff) (holdoff + 1)) ≡ false =
    rw (le-leb holdoff k long) at e in
    let found = some_read read (holdoff + 1) (k - holdoff) all in
    (found.0, found.1, omega (arith, found.2), found.3)

-- ---- up, as a test and as a relation
up-since : (options : Options) (read : ℕ → Bool) (k : ℕ) → is_up options read k ≡ true → IsUp options read k
unfolding is_up
up-since options read zero e = (
  zero,
  record {
    past = omega arith;
    restored = λ j low high. let same : zero ≡ j = omega arith in subst (λ x. read x ≡ true) same e;
    held = λ j later whole. absurd (omega arith);
  },
)
up-since options read (suc k) e =
    elim (or_cases (is_restored options.restore read (suc k))
    (not (are_missed options.holdoff read (suc k)) && is_up options read k) e) [
      | inl restored ↦ (
        suc k,
        record {
          past = omega arith;
          restored = restored-each options.restore read (suc k) restored;
          held = λ j later whole. absurd (omega arith);
        },
      )
      | inr kept ↦
          let parts = and_parts (not (are_missed options.holdoff read (suc k))) (is_up options read k) kept in
          let before = up-since options read k parts.1 in
          let since = before.1 in
          let past = since.past in (
            before.0,
            record {
              past = omega arith;
              restored = since.restored;
              held = λ j later whole. elim (cases_lt k (j + options.holdoff)) [
                | inr sooner ↦ since.held j later sooner
                | inl last ↦
                    let found = not_missed-read options.holdoff read (suc k)
                    (not-true (are_missed options.holdoff read (suc k)) parts.0) (omega arith) in
                    (found.0, omega (arith, found.1), omega (arith, found.2), found.3)
              ];
            },
          )
    ]

since-up : (options : Options) (read : ℕ → Bool) (k r : ℕ) → IsUpSince options read k r →
    is_up options read k ≡ true
unfolding is_up
since-up options read zero r since =
    let past = since.past in
    since.restored zero (omega arith) (omega arith)
since-up options read (suc k) r since =
    let past = since.past in
    elim (cases_lt r (suc k)) [
      | inr now ↦
          let same : r ≡ suc k = omega arith in
          or_left (is_restored options.restore read (suc k))
          (not (are_missed options.holdoff read (suc k)) && is_up options read k)
          (each-restored options.restore read (suc k)
          (λ j low high. since.restored j (omega arith) (omega arith)))
      | inl sooner ↦
          let before = since-up options read k r (record {
            past = omega arith;
            restored = since.restored;
            held = λ j later whole. since.held j later (omega arith);
          }) in
          let missed = false_from_ne_true (are_missed options.holdoff read (suc k)) (λ e.
          let each = missed-each options.holdoff read (suc k) e in
          elim (cases_lt r (suc k - options.holdoff)) [
            | inl long ↦
                let found = since.held (suc k - options.holdoff) long (omega (arith, each.0)) in
                both_ways (read found.0)
                (each.1 found.0 (omega (arith, found.1, each.0)) (omega (arith, found.2, each.0))) found.3
            | inr short ↦ both_ways (read r) (each.1 r (omega arith) (omega arith))
                (since.restored r (omega arith) (omega arith))
          ]) in
          or_right (is_restored options.restore read (suc k))
          (not (are_missed options.holdoff read (suc k)) && is_up options read k)
          (and_from (not (are_missed options.holdoff read (suc k))) (is_up options read k)
          (not_from_false (are_missed options.holdoff read (suc k)) missed) before)
    ]

pub up-is : (options : Options) (read : ℕ → Bool) (k : ℕ) → (is_up options read k ≡ true) ↔ IsUp options read k
up-is options read k = (up-since options read k, λ up. since-up options read k up.0 up.1)

-- ---- what it depends on
same_each : (p q : ℕ → Bool) (n a : ℕ) → ((i : ℕ) → a ≤ i → i < a + n → p i ≡ q i) →
    list_all p (range_with_len a n) ≡ list_all q (range_with_len a n)
same_each p q zero a same = refl
same_each p q (suc n) a same =
    let rest = same_each p q n (a + 1) (λ i low high. same i (omega arith) (omega arith)) in
    let here = same a (omega arith) (omega arith) in
    rw (here, rest) refl

pub up-prefix : (options : Options) (a b : ℕ → Bool) (k : ℕ) → ((j : ℕ) → j ≤ k → a j ≡ b j) →
    is_up options a k ≡ is_up options b k
unfolding is_up
up-prefix options a b zero same = same zero (omega arith)
up-prefix options a b (suc k) same =
    let before = up-prefix options a b k (λ j low. same j (omega arith)) in
    let restored = same_each a b (suc k + 1 - (suc k - options.restore)) (suc k - options.restore)
    (λ j low high. same j (omega arith)) in
    elim (cases_lt (suc k) options.holdoff) [
      | inl early ↦
          let none = lt-leb options.holdoff (suc k) early in
          rw (restored, before, none) refl
      | inr late ↦
          let missed = same_each (λ j. not (a j)) (λ j. not (b j)) (options.holdoff + 1) (suc k - options.holdoff)
          (λ j low high. ap not (same j (omega arith))) in
          rw (restored, before, missed) refl
    ]

pub up-plain : (options : Options) (read : ℕ → Bool) (k : ℕ) → options.holdoff ≡ 0 → options.restore ≡ 0 →
    is_up options read k ≡ read k
up-plain options read k none no_wait =
    elim (cases_Bool (read k)) [
      | inl here ↦ since-up options read k k (record {
        past = omega arith;
        restored = λ j low high. let same : k ≡ j = omega arith in subst (λ x. read x ≡ true) same here;
        held = λ j later whole. absurd (omega arith);
      }) ∙ sym here
      | inr gone ↦ false_from_ne_true (is_up options read k) (λ e.
          let up = up-since options read k e in
          let since = up.1 in
          let past = since.past in
          elim (cases_lt up.0 k) [
            | inl later ↦
                let found = since.held k later (omega arith) in
                let same : found.0 ≡ k = omega (arith, found.1, found.2) in
                both_ways (read k) gone (subst (λ x. read x ≡ true) same found.3)
            | inr now ↦
                let same : up.0 ≡ k = omega arith in
                both_ways (read k) gone (since.restored k (omega arith) (omega arith))
          ]) ∙ sym gone
    ]

-- ---- the last packet that was read
last-is : (read : ℕ → Bool) (k r : ℕ) → last_read read k ≡ Some r → IsLastRead read k r
unfolding last_read
last-is read zero r e =
    elim (cases_Bool (read zero)) [
      | inl here ↦
          let same : zero ≡ r = same_Some zero r (rw here at e) in
          record {
            past = omega arith;
            itself = subst (λ x. read x ≡ true) same here;
            none_since = λ j low high. absurd (omega arith);
          }
      | inr gone ↦ absurd (none-some r (rw gone at e))
    ]
last-is read (suc k) r e =
    elim (cases_Bool (read (suc k))) [
      | inl here ↦
          let same : suc k ≡ r = same_Some (suc k) r (rw here at e) in
          record {
            past = omega arith;
            itself = subst (λ x. read x ≡ true) same here;
            none_since = λ j low high. absurd (omega arith);
          }
      | inr gone ↦
          let before = last-is read k r (rw gone at e) in
          let past = before.past in
          record {
            past = omega arith;
            itself = before.itself;
            none_since = λ j low high. elim (cases_lt k j) [
              | inl now ↦ let same : suc k ≡ j = omega arith in subst (λ x. read x ≡ false) same gone
              | inr sooner ↦ before.none_since j low sooner
            ];
          }
    ]

is-last : (read : ℕ → Bool) (k r : ℕ) → IsLastRead read k r → last_read read k ≡ Some r
unfolding last_read
is-last read zero r is =
    let past = is.past in
    let same : r ≡ zero = omega arith in
    let here : read zero ≡ true = subst (λ x. read x ≡ true) same is.itself in
    rw here (ap Some (sym same))
is-last read (suc k) r is =
    let past = is.past in
    elim (cases_lt k r) [
      | inl now ↦
          let same : r ≡ suc k = omega arith in
          let here : read (suc k) ≡ true = subst (λ x. read x ≡ true) same is.itself in
          rw here (ap Some (sym same))
      | inr sooner ↦
          let gone = is.none_since (suc k) (omega arith) (omega arith) in
          let before = is-last read k r (record {
            past = omega arith;
            itself = is.itself;
            none_since = λ j low high. is.none_since j low (omega arith);
          }) in
          rw gone before
    ]

pub last-read : (read : ℕ → Bool) (k r : ℕ) → (last_read read k ≡ Some r) ↔ IsLastRead read k r
last-read read k r = (last-is read k r, is-last read k r)

-- ---- Containers that arrive whole, one by one, and those that tell of a packet.
-- a container is whole where its test says so
whole-of_test : (found : Carried) → is_whole found ≡ true → found ≡ Whole
whole-of_test Whole e = refl
whole-of_test Fails e = absurd cc
whole-of_test Vanishes e = absurd cc

AreWhole-of_test : (carries : ℕ → Carried) (from count : ℕ) → are_whole carries from count ≡ true →
    AreWhole carries from (from + count)
AreWhole-of_test carries from count e n low high =
    whole-of_test (carries n) (are_whole-each carries from count e n low high)

are_whole-of : (carries : ℕ → Carried) (from count : ℕ) → AreWhole carries from (from + count) →
    are_whole carries from count ≡ true
are_whole-of carries from count whole =
    each-are_whole carries from count
    (λ n low high. subst (λ found. is_whole found ≡ true) (sym (whole n low high)) refl)

pub readable-whole : (carries : ℕ → Carried) (k : ℕ) →
    (is_readable carries k ≡ true) ↔ AreWhole carries (16 * k) (16 * k + 24)
readable-whole carries k = (AreWhole-of_test carries (16 * k) 24, are_whole-of carries (16 * k) 24)

pub good-whole : (carries : ℕ → Carried) (t : ℕ) →
    (is_good carries t ≡ true) ↔ ((2 ≤ t) × AreWhole carries (16 * ((t - 2) / 16)) (t + 1))
good-whole carries t =
    let end : lock_of t + (t + 1 - lock_of t) ≡ t + 1 = omega arith in (
      λ e.
          let parts = and_parts (nat_le 2 t) (are_whole carries (lock_of t) (t + 1 - lock_of t)) e in (
            leb-true 2 t parts.0,
            subst (AreWhole carries (lock_of t)) end
                (AreWhole-of_test carries (lock_of t) (t + 1 - lock_of t) parts.1),
          ),
      λ whole.
          and_from (nat_le 2 t) (are_whole carries (lock_of t) (t + 1 - lock_of t)) (le-leb 2 t whole.0)
          (are_whole-of carries (lock_of t) (t + 1 - lock_of t)
          (subst (AreWhole carries (lock_of t)) (sym end) whole.1)),
    )

-- ---- a packet that some line has
pub some_heard : (windows : List (List Window)) (line k : ℕ) → line < length windows →
    is_readable (carried (slice_index_or windows line [])) k ≡ true →
    list_any (λ w. is_readable (carried w) k) windows ≡ true
some_heard [] line k inside e = absurd (omega arith)
some_heard (w ∷ windows) zero k inside e = rw e refl
some_heard (w ∷ windows) (suc line) k inside e =
    let rest = some_heard windows line k (omega arith) e in
    elim (is_readable (carried w) k) as (λ b. (b || list_any (λ w. is_readable (carried w) k) windows) ≡ true)
    [ true ↦ refl | false ↦ rest ]

abbrev pub SomeReads : List (List Window) → ℕ → Type 0
SomeReads windows k = (line : ℕ) × (line < length windows) ×
    (is_readable (carried (slice_index_or windows line [])) k ≡ true)

line-of_heard : (windows : List (List Window)) (k : ℕ) → list_any (λ w. is_readable (carried w) k) windows ≡ true →
    SomeReads windows k
line-of_heard [] k e = absurd cc
line-of_heard (w ∷ windows) k e =
    elim (is_readable (carried w) k)
    as (λ b. is_readable (carried w) k ≡ b → (b || list_any (λ w. is_readable (carried w) k) windows) ≡ true →
    SomeReads (w ∷ windows) k) [
      | true ↦ λ reads e. (zero, omega arith, reads)
      | false ↦ λ reads e. let rest = line-of_heard windows k e in (suc rest.0, omega (arith, rest.1), rest.2)
    ] refl e

pub heard-line : (scenario : Scenario) (k : ℕ) →
    (is_heard scenario k ≡ true) ↔ ((line : ℕ) × (line < length scenario.windows) × (is_read scenario line k ≡ true))
heard-line scenario k = (
  line-of_heard scenario.windows k,
  λ found. some_heard scenario.windows found.0 k found.1 found.2,
)
