-- How often a line comes down by its timers, and how often it goes out of use.
use Rattle.std.proofs.Common.{◌≡◌, ◌⊎◌, ℕ, zero, suc, ◌+◌, ◌*◌, ◌/◌, ◌≤◌, ◌&&◌, ◌||◌, not, Bool, true, false}
use Rattle.std.proofs.Common.{if◌then◌else◌, inl, inr, refl, arith, ◌↔◌, ◌-◌, ◌<◌, ◌==◌, List, [], ◌∷◌, filter, length}
use Rattle.std.proofs.Common.{Option, Some, None, sym, ◌∙◌, ap, subst}
use Rattle.std.proofs.lemmas.Bool.{cases_Bool, both_ways, not_from_false, and_from, or_right, or_cases, and_parts}
use Rattle.std.proofs.lemmas.Bool.{cases_lt, cases_eq, eqb-true, eq-eqb, or_left}
use Rattle.std.proofs.lemmas.Nat.{le-div}
use Rattle.law_model.specs.declared.script_types.Options.{Options}
use Rattle.law_model.specs.Common.{is_up, is_restored, are_missed, Scenario, is_norm, is_read, is_line_up, member_of}
use Rattle.law_model.specs.Common.{said, Told, table_of, steps_in, word, word_by}
use Rattle.law_session.proofs.UpLineAndReadablePacketLaws.{restored-each, missed-each}
use Rattle.std.specs.List.{list_any, range_with_len}
use native.Mathlib.Nat.{div-div-eq-div-mul}
use Rattle.std.proofs.lemmas.List.{length-append}
use Rattle.std.proofs.lemmas.List.Elements.{filter-append}
use Rattle.std.proofs.lemmas.Option.{none-some, same_Some}
use Rattle.law_model.proofs.ListLaws.{range-more}
use Rattle.law_model.specs.declared.lcas_states.Member.{Member}
use Rattle.law_model.specs.declared.lcas_states.Standing.{Standing}
use Rattle.law_model.specs.declared.lcas_states.Standing.TheVariants.{Add as adding, Norm as normal, Dnu as unused}
use Rattle.law_session.specs.Feedback.{table_before}
use Rattle.law_session.specs.TimedMembers.{GoesOut, IsOut, IsToldFine, goes_out, is_dnu, stands_so, times_out}
use Rattle.law_session.proofs.ReturnCellAndLineWordLaws.{IsSession, rises, word-of}
use Rattle.law_session.proofs.AdmittedAndExchangedLineLaws.{Has}
use Rattle.law_session.proofs.FreshStatusLaws.{before-calm, one-standing, out-turned, failed-of}
use Rattle.law_session.proofs.HeldLineAndStatusRoundLaws.{last-since, rises-to, IsQuiet, opening-quiet, quiet-step}
use Rattle.law_session.proofs.HeldLineAndStatusRoundLaws.{lines-has}

-- ---- How often a line can come down: between two times lie as many packets as both timers take.
-- ---- packets in turn up to one
-- that were read: those before packet 0 count as read
pub read_in_turn : ℕ → (ℕ → Bool) → ℕ → ℕ
read_in_turn restore read zero = if read zero then restore + 1 else 0
read_in_turn restore read (suc k) = if read (suc k) then read_in_turn restore read k + 1 else 0

-- that weren't
pub missed_in_turn : (ℕ → Bool) → ℕ → ℕ
missed_in_turn read zero = if read zero then 0 else 1
missed_in_turn read (suc k) = if read (suc k) then 0 else missed_in_turn read k + 1

pub each-turn : (restore : ℕ) (read : ℕ → Bool) (k r : ℕ) → r ≤ restore →
    ((j : ℕ) → k ≤ j + r → j ≤ k → read j ≡ true) → r + 1 ≤ read_in_turn restore read k
unfolding read_in_turn
each-turn restore read zero r few each =
    let here = each zero (omega arith) (omega arith) in rw here (omega arith)
each-turn restore read (suc k) zero few each =
    let here = each (suc k) (omega arith) (omega arith) in rw here (omega arith)
each-turn restore read (suc k) (suc r) few each =
    let here = each (suc k) (omega arith) (omega arith) in
    let before = each-turn restore read k r (omega arith) (λ j low high. each j (omega arith) (omega arith)) in
    rw here (omega arith)

pub each-missed_turn : (read : ℕ → Bool) (k h : ℕ) → h ≤ k → ((j : ℕ) → k ≤ j + h → j ≤ k → read j ≡ false) →
    h + 1 ≤ missed_in_turn read k
unfolding missed_in_turn
each-missed_turn read zero h few each =
    let gone = each zero (omega arith) (omega arith) in rw gone (omega arith)
each-missed_turn read (suc k) zero few each =
    let gone = each (suc k) (omega arith) (omega arith) in rw gone (omega arith)
each-missed_turn read (suc k) (suc h) few each =
    let gone = each (suc k) (omega arith) (omega arith) in
    let before = each-missed_turn read k h (omega arith) (λ j low high. each j (omega arith) (omega arith)) in
    rw gone (omega arith)

-- ---- up, by both
-- one that comes down was missed for the hold-off, and one that comes up read for the restore
pub falls-missed : (options : Options) (read : ℕ → Bool) (k : ℕ) → is_up options read k ≡ true →
    is_up options read (suc k) ≡ false → options.holdoff + 1 ≤ missed_in_turn read (suc k)
unfolding is_up
falls-missed options read k up down =
    elim (cases_Bool (are_missed options.holdoff read (suc k))) [
      | inl missed ↦
          let each = missed-each options.holdoff read (suc k) missed in
          each-missed_turn read (suc k) options.holdoff each.0 each.1
      | inr held ↦ absurd (both_ways
          (is_restored options.restore read (suc k)
          || (not (are_missed options.holdoff read (suc k)) && is_up options read k)) down
          (or_right (is_restored options.restore read (suc k))
          (not (are_missed options.holdoff read (suc k)) && is_up options read k)
          (and_from (not (are_missed options.holdoff read (suc k))) (is_up options read k)
          (not_from_false (are_missed options.holdoff read (suc k)) held) up)))
    ]

pub rises-read : (options : Options) (read : ℕ → Bool) (k : ℕ) → is_up options read k ≡ false →
    is_up options read (suc k) ≡ true →
    (read (suc k) ≡ true) × (options.restore + 1 ≤ read_in_turn options.restore read (suc k))
unfolding is_up
rises-read options read k down up =
    elim (or_cases (is_restored options.restore read (suc k))
    (not (are_missed options.holdoff read (suc k)) && is_up options read k) up) [
      | inl restored ↦
          let each = restored-each options.restore read (suc k) restored in (
            each (suc k) (omega arith) (omega arith),
            each-turn options.restore read (suc k) options.restore (omega arith) each,
          )
      | inr kept ↦
          let parts = and_parts (not (are_missed options.holdoff read (suc k))) (is_up options read k) kept in
          absurd (both_ways (is_up options read k) down parts.1)
    ]

-- ---- how often it comes down
abbrev pub flag : Bool → ℕ
flag true = 1
flag false = 0

unfoldable pub falls : Options → (ℕ → Bool) → ℕ → ℕ
falls options read zero = 0
falls options read (suc k) =
    flag (is_up options read k && not (is_up options read (suc k))) + falls options read k

-- what the falls so far took of the packets
pub record Takes (options : Options) (read : ℕ → Bool) (k : ℕ) : Type 0 where
  pub up : is_up options read k ≡ true →
      falls options read k * (options.holdoff + options.restore + 2) + missed_in_turn read k ≤ k
  pub down : is_up options read k ≡ false →
      falls options read k * (options.holdoff + options.restore + 2) + read_in_turn options.restore read k
      ≤ k + options.restore + 1

takes-first : (options : Options) (read : ℕ → Bool) → Takes options read zero
unfolding falls is_up missed_in_turn read_in_turn
takes-first options read = record {
  up = λ here. rw here (omega arith);
  down = λ gone. rw gone (omega arith);
}

takes-next : (options : Options) (read : ℕ → Bool) (k : ℕ) → Takes options read k → Takes options read (suc k)
unfolding falls missed_in_turn read_in_turn
takes-next options read k takes =
    elim (cases_Bool (is_up options read k)) [
      | inl was ↦
          let before = takes.up was in
          record {
            up = λ now. rw (was, now) (elim (cases_Bool (read (suc k))) [
              | inl here ↦ rw here (omega arith)
              | inr gone ↦ rw gone (omega arith)
            ]);
            down = λ now.
                let long = falls-missed options read k was now in
                rw (was, now) (elim (cases_Bool (read (suc k))) [
                  | inl here ↦ absurd (let none : options.holdoff + 1 ≤ 0 = rw here at long in omega arith)
                  | inr gone ↦
                      let more : options.holdoff + 1 ≤ missed_in_turn read k + 1 = rw gone at long in
                      rw gone (omega arith)
                ]);
          }
      | inr was ↦
          let before = takes.down was in
          record {
            up = λ now.
                let here = rises-read options read k was now in
                let more : options.restore + 1 ≤ read_in_turn options.restore read k + 1 = rw here.0 at here.1 in
                rw (was, here.0) (omega arith);
            down = λ now. rw was (elim (cases_Bool (read (suc k))) [
              | inl here ↦ rw here (omega arith)
              | inr gone ↦ rw gone (omega arith)
            ]);
          }
    ]

takes-all : (options : Options) (read : ℕ → Bool) (k : ℕ) → Takes options read k
takes-all options read zero = takes-first options read
takes-all options read (suc k) = takes-next options read k (takes-all options read k)

pub falls-few : (options : Options) (read : ℕ → Bool) (k : ℕ) →
    falls options read k * (options.holdoff + options.restore + 2) ≤ k + options.restore + 1
falls-few options read k =
    let takes = takes-all options read k in
    elim (cases_Bool (is_up options read k)) [
      | inl up ↦ let most = takes.up up in omega arith
      | inr down ↦ let most = takes.down down in omega arith
    ]

rest-few : (n x k : ℕ) → n * x ≤ k + x → n * x ≤ k ⊎ ((m : ℕ) × (n ≡ suc m) × (m * x ≤ k))
rest-few zero x k most = inl (omega arith)
rest-few (suc m) x k most = inr (m, refl, omega arith)

-- where the ticks are some times the packets, too
pub falls-most : (options : Options) (read : ℕ → Bool) (k n : ℕ) → k ≤ n →
    falls options read k ≤ 1 + n / (options.holdoff + options.restore + 2)
falls-most options read k n low =
    let span = options.holdoff + options.restore + 2 in
    let few = falls-few options read k in
    elim (rest-few (falls options read k) span n (omega arith)) [
      | inl whole ↦ let most = le-div (falls options read k) n span (omega arith) whole in omega arith
      | inr more ↦ let most = le-div more.0 n span (omega arith) more.2 in let same = more.1 in omega arith
    ]

-- ---- How often a line goes out of use: each time after the first it came down meanwhile, or a change was made.
-- ---- the test of a step
normal-of : (standing : Standing) → is_norm standing ≡ true → standing ≡ normal
normal-of adding e = absurd cc
normal-of normal e = refl
normal-of unused e = absurd cc

unused-of : (standing : Standing) → is_dnu standing ≡ true → standing ≡ unused
unused-of adding e = absurd cc
unused-of normal e = absurd cc
unused-of unused e = refl

so-of : (test : Standing → Bool) (order : List Member) (line : ℕ) →
    list_any (λ member. member.line == line && test member.standing) order ≡ true →
    (sq : ℕ) × (standing : Standing) × Has order sq line standing × (test standing ≡ true)
so-of test [] line e = absurd cc
so-of test (member ∷ order) line e =
    elim (or_cases (member.line == line && test member.standing)
    (list_any (λ member. member.line == line && test member.standing) order) e) [
      | inl here ↦
          let parts = and_parts (member.line == line) (test member.standing) here in (
            zero,
            member.standing,
            ap (λ l. Some (member_of l member.standing)) (eqb-true member.line line parts.0),
            parts.1,
          )
      | inr later ↦ let rest = so-of test order line later in (suc rest.0, rest.1, rest.2, rest.3)
    ]

so-from : (test : Standing → Bool) (order : List Member) (sq line : ℕ) (standing : Standing) →
    Has order sq line standing → test standing ≡ true →
    list_any (λ member. member.line == line && test member.standing) order ≡ true
so-from test [] sq line standing has passes = absurd (none-some (member_of line standing) has)
so-from test (member ∷ order) zero line standing has passes =
    let same = same_Some member (member_of line standing) has in
    or_left (member.line == line && test member.standing)
    (list_any (λ member. member.line == line && test member.standing) order)
    (and_from (member.line == line) (test member.standing) (eq-eqb member.line line (ap (λ m. m.line) same))
    (ap (λ m. test m.standing) same ∙ passes))
so-from test (member ∷ order) (suc sq) line standing has passes =
    or_right (member.line == line && test member.standing)
    (list_any (λ member. member.line == line && test member.standing) order)
    (so-from test order sq line standing has passes)

pub goes-out : (scenario : Scenario) (cells : List (Option Told)) (line j : ℕ) →
    (goes_out scenario cells line j ≡ true) ↔ GoesOut scenario cells line j
goes-out scenario cells line j =
    let before = table_before scenario cells j in
    let now = table_of scenario cells j in (
      λ e.
          let parts = and_parts (stands_so is_norm before line) (stands_so is_dnu now line) e in
          let was = so-of is_norm before.order line parts.0 in
          let is = so-of is_dnu now.order line parts.1 in
          record {
            before = (was.0, subst (λ s. Has before.order was.0 line s) (normal-of was.1 was.3) was.2);
            now = (is.0, subst (λ s. Has now.order is.0 line s) (unused-of is.1 is.3) is.2);
          },
      λ goes.
          and_from (stands_so is_norm before line) (stands_so is_dnu now line)
          (so-from is_norm before.order goes.before.0 line normal goes.before.1 refl)
          (so-from is_dnu now.order goes.now.0 line unused goes.now.1 refl),
    )

flag-filter : (test : ℕ → Bool) (n : ℕ) → length (filter test (n ∷ [])) ≡ flag (test n)
flag-filter test n = elim (test n) as (λ b. length (if b then n ∷ [] else []) ≡ flag b) [ true ↦ refl | false ↦ refl ]

pub times_out-more : (scenario : Scenario) (cells : List (Option Told)) (line j : ℕ) →
    times_out scenario cells line (suc j) ≡ times_out scenario cells line j + flag (goes_out scenario cells line j)
times_out-more scenario cells line j =
    let test = goes_out scenario cells line in
    let e : j + 1 ≡ suc j = omega arith in
    ap (λ n. length (filter test (range_with_len 0 n))) (sym e)
    ∙ ap (λ xs. length (filter test xs)) (range-more j)
    ∙ ap length (filter-append test (range_with_len 0 j) (j ∷ []))
    ∙ length-append (filter test (range_with_len 0 j)) (filter test (j ∷ []))
    ∙ ap (λ n. length (filter test (range_with_len 0 j)) + n) (flag-filter test j)

-- ---- what is known of a line before a step
-- it is up at the last packet whose return packet was taken, and was read in a packet of this count
record IsSeenUp (scenario : Scenario) (cells : List (Option Told)) (line j : ℕ) : Type 0 where
  pub packet : ℕ
  pub at : j ≡ packet + scenario.lag + 1
  pub up : is_line_up scenario line packet ≡ true
  pub last : ℕ
  pub past : last ≤ packet
  pub read : is_read scenario line last ≡ true
  pub count : (table_of scenario cells last).count ≡ (table_before scenario cells j).count

-- how often it came down up to that packet
abbrev pub falls_before : Scenario → ℕ → ℕ → ℕ
falls_before scenario line j = falls scenario.options (is_read scenario line) (j - scenario.lag - 1)

-- one more time it came down, or one more change was made, than it went out
abbrev pub HasSpare : Scenario → List (Option Told) → ℕ → ℕ → Type 0
HasSpare scenario cells line j = times_out scenario cells line j + 1 ≤ falls_before scenario line j
    + (table_before scenario cells j).count

data Known (scenario : Scenario) (cells : List (Option Told)) (line j : ℕ) : Type 0 where
  quiet : IsQuiet (table_before scenario cells j) line → Known scenario cells line j
  seen : IsSeenUp scenario cells line j → Known scenario cells line j
  spare : HasSpare scenario cells line j → Known scenario cells line j

record Counted (scenario : Scenario) (cells : List (Option Told)) (line j : ℕ) : Type 0 where
  pub few : times_out scenario cells line j ≤ falls_before scenario line j + (table_before scenario cells j).count
  pub known : Known scenario cells line j

-- ---- one more packet
falls-more : (options : Options) (read : ℕ → Bool) (k : ℕ) → falls options read k ≤ falls options read (suc k)
unfolding falls
falls-more options read k = omega arith

before-more : (scenario : Scenario) (line j : ℕ) → falls_before scenario line j ≤ falls_before scenario line (suc j)
before-more scenario line j =
    elim (cases_lt scenario.lag j) [
      | inl late ↦
          let e : suc j - scenario.lag - 1 ≡ suc (j - scenario.lag - 1) = omega arith in
          rw e (falls-more scenario.options (is_read scenario line) (j - scenario.lag - 1))
      | inr early ↦
          let e : suc j - scenario.lag - 1 ≡ j - scenario.lag - 1 = omega arith in rw e (omega arith)
    ]

falls-here : (options : Options) (read : ℕ → Bool) (k : ℕ) → is_up options read k ≡ true →
    is_up options read (suc k) ≡ false → falls options read (suc k) ≡ 1 + falls options read k
unfolding falls
falls-here options read k up down = rw (up, down) refl

-- a line that was up at the packet before and isn't any more
came_down : (scenario : Scenario) (line j k : ℕ) → j ≡ k + scenario.lag + 1 → is_line_up scenario line k ≡ true →
    is_line_up scenario line (suc k) ≡ false →
    falls_before scenario line (suc j) ≡ 1 + falls_before scenario line j
came_down scenario line j k at up down =
    let now : suc j - scenario.lag - 1 ≡ suc k = omega arith in
    let before : j - scenario.lag - 1 ≡ k = omega arith in
    rw (now, before) (falls-here scenario.options (is_read scenario line) k up down)

-- ---- a line that went out has nothing that brings it back
out-quiet : (scenario : Scenario) (cells : List (Option Told)) (line j : ℕ) →
    IsOut (table_before scenario cells j) line → IsQuiet (table_before scenario cells j) line
out-quiet scenario cells line j out = record {
  stands = λ sq has.
      let one = one-standing scenario cells j out.0 sq line unused normal out.1 has in
      let e = one.1 in cc;
  kept = λ sq has says.
      let there = lines-has (table_before scenario cells j).order sq line has in
      let one = one-standing scenario cells j out.0 sq line unused there.0 out.1 there.1 in
      let calm = before-calm scenario cells j sq line there.0 there.1 in
      calm.waits (sym one.1) says;
}

-- ---- whether a step is told that it is up with a word
told-fine : (scenario : Scenario) (cells : List (Option Told)) (line j k : ℕ) → j ≡ k + scenario.lag →
    said scenario cells k ≡ (table_before scenario cells j).count → is_line_up scenario line k ≡ true →
    (found : Option ℕ) → word scenario cells line k ≡ found →
    IsToldFine scenario cells line j ⊎ (IsToldFine scenario cells line j → ⊥)
told-fine scenario cells line j k at whole up None e = inr (λ fine.
    let there = fine.at in
    let same : fine.packet ≡ k = omega arith in
    none-some fine.last (sym e ∙ subst (λ p. word scenario cells line p ≡ Some fine.last) same fine.word))
told-fine scenario cells line j k at whole up (Some last) e =
    inl (record { packet = k; at = at; whole = whole; up = up; last = last; word = e })

is-told : (scenario : Scenario) (cells : List (Option Told)) (line j : ℕ) →
    IsToldFine scenario cells line j ⊎ (IsToldFine scenario cells line j → ⊥)
is-told scenario cells line j =
    let k = j - scenario.lag in
    elim (cases_lt j scenario.lag) [
      | inl early ↦ inr (λ fine. let at = fine.at in absurd (omega arith))
      | inr late ↦ elim (cases_eq (said scenario cells k) (table_before scenario cells j).count) [
        | inr other ↦ inr (λ fine.
            let at = fine.at in
            let same : fine.packet ≡ k = omega arith in
            other (subst (λ p. said scenario cells p ≡ (table_before scenario cells j).count) same fine.whole))
        | inl whole ↦ elim (cases_Bool (is_line_up scenario line k)) [
          | inr down ↦ inr (λ fine.
              let at = fine.at in
              let same : fine.packet ≡ k = omega arith in
              both_ways (is_line_up scenario line k) down
              (subst (λ p. is_line_up scenario line p ≡ true) same fine.up))
          | inl up ↦ told-fine scenario cells line j k (omega arith) whole up (word scenario cells line k) refl
        ]
      ]
    ]

-- ---- one step
-- the line has a word in the next packet, too, if that tells of the same count
word-next : (scenario : Scenario) (cells : List (Option Told)) (line j : ℕ) → 0 < scenario.lag →
    (is : IsSeenUp scenario cells line j) →
    said scenario cells (suc is.packet) ≡ (table_before scenario cells j).count →
    word scenario cells line (suc is.packet) ≡ None → ⊥
word-next scenario cells line j lag is whole none =
    let at = is.at in
    let past = is.past in
    let k = suc is.packet in
    let found = last-since (is_read scenario line) is.last k (omega arith) is.read in
    let low = rises-to scenario cells is.last found.0 found.1 in
    let e : j - suc found.0 + suc found.0 ≡ j = omega (arith, found.2) in
    let high : (table_of scenario cells found.0).count ≤ (table_before scenario cells j).count =
    rw e at (rises scenario cells (suc found.0) (j - suc found.0)) in
    let first = is.count in
    let same : (table_of scenario cells found.0).count ≡ said scenario cells k = omega arith in
    let there : word scenario cells line k ≡ Some found.0 =
    ap (word_by scenario cells (said scenario cells k)) found.3
    ∙ ap (λ b. if b then Some found.0 else None)
    (eq-eqb (table_of scenario cells found.0).count (said scenario cells k) same) in
    none-some found.0 (sym none ∙ there)

fell : (scenario : Scenario) (cells : List (Option Told)) → IsSession scenario cells → 0 < scenario.lag →
    (line j : ℕ) → GoesOut scenario cells line j → (is : IsSeenUp scenario cells line j) →
    is_line_up scenario line (suc is.packet) ≡ false
fell scenario cells session lag line j goes is =
    let at = is.at in
    let turned = out-turned scenario cells session lag line j goes in
    let failed = failed-of scenario cells lag line j turned.sq turned.has turned.fresh in
    let there = failed.at in
    let same : failed.packet ≡ suc is.packet = omega arith in
    elim failed.why [
      | inl down ↦ subst (λ p. is_line_up scenario line p ≡ false) same down
      | inr none ↦ absurd (word-next scenario cells line j lag is
          (subst (λ p. said scenario cells p ≡ (table_before scenario cells j).count) same failed.whole)
          (subst (λ p. word scenario cells line p ≡ None) same none))
    ]

-- where it goes out
count-out : (scenario : Scenario) (cells : List (Option Told)) → IsSession scenario cells → 0 < scenario.lag →
    (line j : ℕ) → Counted scenario cells line j → goes_out scenario cells line j ≡ true →
    Counted scenario cells line (suc j)
count-out scenario cells session lag line j counted e =
    let goes = (goes-out scenario cells line j).0 e in
    let few = counted.few in
    let more : times_out scenario cells line (suc j) ≡ times_out scenario cells line j + 1 =
    times_out-more scenario cells line j ∙ ap (λ b. times_out scenario cells line j + flag b) e in
    let falls_on = before-more scenario line j in
    let risen = rises scenario cells j 1 in
    let at : 1 + j ≡ suc j = omega arith in
    let counts : (table_before scenario cells j).count ≤ (table_before scenario cells (suc j)).count = rw at at risen in
    record {
      few = elim counted.known [
        | quiet none ↦ absurd (none.stands goes.before.0 goes.before.1)
        | spare left ↦ omega arith
        | seen is ↦
            let fall = came_down scenario line j is.packet is.at is.up
            (fell scenario cells session lag line j goes is) in
            omega arith
      ];
      known = quiet (out-quiet scenario cells line (suc j) goes.now);
    }

-- where it doesn't, and no change is made
stay-on : (scenario : Scenario) (cells : List (Option Told)) → IsSession scenario cells → 0 < scenario.lag →
    (line j : ℕ) → Counted scenario cells line j →
    times_out scenario cells line (suc j) ≡ times_out scenario cells line j →
    (table_of scenario cells j).count ≡ (table_before scenario cells j).count → Known scenario cells line (suc j)
stay-on scenario cells session lag line j counted same count =
    let few = counted.few in
    let falls_on = before-more scenario line j in
    elim counted.known [
      | spare left ↦ spare (omega arith)
      | seen is ↦
          let at = is.at in
          let past = is.past in
          elim (cases_Bool (is_line_up scenario line (suc is.packet))) [
            | inl up ↦ seen (record {
              packet = suc is.packet;
              at = omega arith;
              up = up;
              last = is.last;
              past = omega arith;
              read = is.read;
              count = is.count ∙ sym count;
            })
            | inr down ↦ let fall = came_down scenario line j is.packet at is.up down in spare (omega arith)
          ]
      | quiet none ↦ elim (is-told scenario cells line j) [
        | inr never ↦ quiet (quiet-step scenario cells session lag line j none never)
        | inl fine ↦
            let at = fine.at in
            let word = word-of scenario cells line fine.packet fine.last fine.word in
            seen (record {
              packet = fine.packet;
              at = omega arith;
              up = fine.up;
              last = fine.last;
              past = word.past;
              read = word.read;
              count = word.count ∙ fine.whole ∙ sym count;
            })
      ]
    ]

count-stay : (scenario : Scenario) (cells : List (Option Told)) → IsSession scenario cells → 0 < scenario.lag →
    (line j : ℕ) → Counted scenario cells line j → goes_out scenario cells line j ≡ false →
    Counted scenario cells line (suc j)
count-stay scenario cells session lag line j counted e =
    let few = counted.few in
    let same : times_out scenario cells line (suc j) ≡ times_out scenario cells line j =
    times_out-more scenario cells line j ∙ ap (λ b. times_out scenario cells line j + flag b) e
    ∙ (let z : times_out scenario cells line j + 0 ≡ times_out scenario cells line j = omega arith in z) in
    let falls_on = before-more scenario line j in
    let risen = rises scenario cells j 1 in
    let at : 1 + j ≡ suc j = omega arith in
    let counts : (table_before scenario cells j).count ≤ (table_before scenario cells (suc j)).count = rw at at risen in
    record {
      few = omega arith;
      known = elim (cases_eq (table_of scenario cells j).count (table_before scenario cells j).count) [
        | inl still ↦ stay-on scenario cells session lag line j counted same still
        | inr grown ↦ spare (omega arith)
      ];
    }

counted-all : (scenario : Scenario) (cells : List (Option Told)) → IsSession scenario cells → 0 < scenario.lag →
    (line j : ℕ) → Counted scenario cells line j
counted-all scenario cells session lag line zero =
    record { few = omega arith; known = quiet (opening-quiet scenario cells line) }
counted-all scenario cells session lag line (suc j) =
    let before = counted-all scenario cells session lag line j in
    elim (cases_Bool (goes_out scenario cells line j)) [
      | inl out ↦ count-out scenario cells session lag line j before out
      | inr stays ↦ count-stay scenario cells session lag line j before stays
    ]

pub times-few : (scenario : Scenario) (cells : List (Option Told)) → IsSession scenario cells → 0 < scenario.lag →
    (line j n : ℕ) → j ≤ n + scenario.lag →
    times_out scenario cells line (j + 1)
    ≤ 1 + n / (scenario.options.holdoff + scenario.options.restore + 2) + (table_of scenario cells j).count
times-few scenario cells session lag line j n low =
    let e : j + 1 ≡ suc j = omega arith in
    let counted = counted-all scenario cells session lag line (suc j) in
    let few = counted.few in
    let most = falls-most scenario.options (is_read scenario line) (suc j - scenario.lag - 1) n (omega arith) in
    rw e (omega arith)

-- in all steps of a session
pub times-session : (scenario : Scenario) (cells : List (Option Told)) → IsSession scenario cells → 0 < scenario.lag →
    (line : ℕ) →
    times_out scenario cells line (steps_in scenario.ticks)
    ≤ 1 + scenario.ticks / (16 * (scenario.options.holdoff + scenario.options.restore + 2))
    + (table_before scenario cells (steps_in scenario.ticks)).count
times-session scenario cells session lag line =
    let span = scenario.options.holdoff + scenario.options.restore + 2 in
    let steps = steps_in scenario.ticks in
    let counted = counted-all scenario cells session lag line steps in
    let few = counted.few in
    let most = falls-most scenario.options (is_read scenario line) (steps - scenario.lag - 1) (scenario.ticks / 16)
    (omega arith) in
    let same : scenario.ticks / 16 / span ≡ scenario.ticks / (16 * span) =
    div-div-eq-div-mul scenario.ticks 16 span in
    omega arith
