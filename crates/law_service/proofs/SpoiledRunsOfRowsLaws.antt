-- Lines that fail together spoil two runs of the rows that they can spoil at most.
use Rattle.std.proofs.Common.{◌≡◌, ℕ, zero, suc, ◌+◌, ◌-◌, ◌*◌, ◌/◌, ◌<◌, ◌≤◌, ◌==◌, min, max, Bool, true, false, inl}
use Rattle.std.proofs.Common.{inr, List, Option, Some, slice_get, refl, sym, ◌∙◌, ap, subst, arith}
use Rattle.std.proofs.lemmas.Bool.{cases_Bool, cases_lt, lt-ltb, both_ways, ne_eqb}
use Rattle.law_model.specs.Common.{Leg, Scenario, Told, scenario_by, is_read, is_whole_row, IsSound, group_of, kept_of}
use Rattle.law_model.specs.Common.{Table, member_of, most_lines, table_of}
use Rattle.law_model.specs.declared.window_types.Window.{Window}
use Rattle.law_model.specs.declared.lcas_states.Member.{Member}
use Rattle.law_model.specs.declared.lcas_states.Standing.{Standing}
use Rattle.law_model.specs.declared.lcas_states.Standing.TheVariants.{Add as adding, Norm as normal, Dnu as unused}
use Rattle.law_session.specs.Feedback.{lines_of, table_before}
use Rattle.law_session.specs.LineInUse.{IsAdded}
use Rattle.law_session.proofs.AdmittedAndExchangedLineLaws.{Has, Has-standing}
use Rattle.law_session.proofs.FreshStatusLaws.{Has-lines, line-inside}
use Rattle.law_session.proofs.HeldLineAndStatusRoundLaws.{still-word}
use Rattle.law_session.proofs.UpLineAndReadablePacketLaws.{up-is}
use Rattle.law_walk.specs.Common.{session_of}
use Rattle.law_walk.proofs.WholeRowDespiteFailureLaws.{clear-within, clear-read}
use Rattle.law_service.specs.cost_of_failures.Cost.{windows_of, FailsBy, FailTogether, IsSpoiled, first_hit}
use Rattle.law_service.specs.cost_of_failures.Cost.{end_packet, table_at, Spoils}
use Rattle.law_service.specs.cost_of_failures.CostInNumbers.{WasUp, WereUsed, WereClear, AreTwoRuns, first_told}
use Rattle.law_service.proofs.QuietStepAndKeptStatusLaws.{IsQuiet, told_on-dnu, by-told, kept-step, lines-at}
use Rattle.law_service.proofs.QuietStepAndKeptStatusLaws.{added-before}
use Rattle.law_service.proofs.FailingLineArrivalAndUseLaws.{told_on-unused, in-turn, soonest}
use Rattle.law_service.proofs.FailureCostInRowsLaws.{is-quiet, few-before, cost-exact, cost-caught, cost-kept}

-- ---- numbers that fail a test
-- of some numbers in turn those that fail a test are the first ones
record AreFirst (test : ℕ → Bool) (from end : ℕ) : Type 0 where
  pub upto : ℕ
  pub before : (t : ℕ) → from ≤ t → t < end → test t ≡ false → t < upto
  pub fails : (t : ℕ) → from ≤ t → t < end → t < upto → test t ≡ false

-- if with each that fails the sooner ones do
first-ones : (test : ℕ → Bool) (from n : ℕ) →
    ((t sooner : ℕ) → t < from + n → from ≤ sooner → sooner ≤ t → test t ≡ false → test sooner ≡ false) →
    AreFirst test from (from + n)
first-ones test from zero sooner = record {
  upto = from;
  before = λ t low high e. absurd (omega arith);
  fails = λ t low high e. absurd (omega arith);
}
first-ones test from (suc n) sooner =
    elim (cases_Bool (test from)) [
      | inl passes ↦ record {
        upto = from;
        before = λ t low high e.
            absurd (let wrong = sooner t from (omega arith) (omega arith) low e in cc);
        fails = λ t low high e. absurd (omega arith);
      }
      | inr broken ↦
          let rest = first-ones test (from + 1) n
          (λ t s high low before e. sooner t s (omega arith) (omega arith) before e) in
          record {
            upto = max (from + 1) rest.upto;
            before = λ t low high e. elim (cases_lt t (from + 1)) [
              | inl here ↦ omega arith
              | inr later ↦ (let most = rest.before t later (omega arith) e in omega arith)
            ];
            fails = λ t low high until. elim (cases_lt t (from + 1)) [
              | inl here ↦ subst (λ n. test n ≡ false) (let e : from ≡ t = omega arith in e) broken
              | inr later ↦ rest.fails t later (omega arith) (omega arith)
            ];
          }
    ]

-- of some numbers in turn those that fail a test are the ones from one number on up to another
record AreRun (test : ℕ → Bool) (from end : ℕ) : Type 0 where
  pub run : ℕ × ℕ
  pub within : (t : ℕ) → from ≤ t → t < end → test t ≡ false → (run.0 ≤ t) × (t < run.1)
  pub fails : (t : ℕ) → from ≤ t → t < end → run.0 ≤ t → t < run.1 → test t ≡ false

-- if with any two that fail those between do
run-of : (test : ℕ → Bool) (from n : ℕ) →
    ((sooner t later : ℕ) → from ≤ sooner → sooner ≤ t → t ≤ later → later < from + n → test sooner ≡ false →
    test later ≡ false → test t ≡ false) → AreRun test from (from + n)
run-of test from zero between = record {
  run = (from, from);
  within = λ t low high e. absurd (omega arith);
  fails = λ t low high start until. absurd (omega arith);
}
run-of test from (suc n) between =
    elim (cases_Bool (test from)) [
      | inl passes ↦
          let rest = run-of test (from + 1) n
          (λ sooner t later low start until high. between sooner t later (omega arith) start until (omega arith)) in
          record {
            run = (max (from + 1) rest.run.0, rest.run.1);
            within = λ t low high e. elim (cases_lt t (from + 1)) [
              | inl here ↦ absurd (both_ways (test from) (subst (λ n. test n ≡ false)
                  (let same : t ≡ from = omega arith in same) e) passes)
              | inr later ↦ (let one = rest.within t later (omega arith) e in (omega (arith, one.0), one.1))
            ];
            fails = λ t low high start until. rest.fails t (omega arith) (omega arith) (omega arith) until;
          }
      | inr broken ↦
          let ones = first-ones test from (suc n)
          (λ t sooner high low before e. between from sooner t (omega arith) low before high broken e) in
          record {
            run = (from, ones.upto);
            within = λ t low high e. (low, ones.before t low high e);
            fails = λ t low high start until. ones.fails t low high until;
          }
    ]

-- ---- a line in DNU stays so while no status of it is taken
module _ (scenario : Scenario) (cells : List (Option Told)) (first last : ℕ)
    (quiet : IsQuiet scenario cells first last) where
  stays-unused : (i sq line d : ℕ) → first ≤ i → first + scenario.lag ≤ suc i → d + i ≤ last → sq < most_lines →
      ((k : ℕ) → i < k + scenario.lag → k + scenario.lag ≤ d + i → sq / 8 ≡ group_of scenario k → ⊥) →
      Has (table_of scenario cells i).order sq line unused → Has (table_of scenario cells (d + i)).order sq line unused
  stays-unused i sq line zero low since high small other has = let e : zero + i ≡ i = omega arith in rw e has
  stays-unused i sq line (suc d) low since high small other has =
      let e : suc d + i ≡ suc (d + i) = omega arith in
      let before = stays-unused i sq line d low since (omega arith) small
      (λ k start until. other k start (omega arith)) has in
      let lag = quiet.lag in
      let j : ℕ = suc (d + i) in
      let k : ℕ = j - scenario.lag in
      let at : k + scenario.lag ≡ j = omega arith in
      let told = by-told scenario cells first last quiet j (omega arith) (omega arith) in
      let sooner = by-told scenario cells first last quiet (d + i) (omega arith) (omega arith) in
      let step = kept-step scenario cells first last quiet k sq (omega arith) (omega arith) small in
      let none : (sq / 8 == group_of scenario k) ≡ false =
      ne_eqb (sq / 8) (group_of scenario k) (other k (omega arith) (omega arith)) in
      let keeps : kept_of (table_of scenario cells (k + scenario.lag)) sq
      ≡ kept_of (table_before scenario cells (k + scenario.lag)) sq = rw none at step in
      let same : kept_of (table_of scenario cells j) sq ≡ kept_of (table_of scenario cells (d + i)) sq =
      rw at at keeps in
      let not_ok : kept_of told.0 sq ≡ Some true → ⊥ =
      λ ok. told_on-dnu sooner.0 sq line (subst (λ (t : Table). Has t.order sq line unused) sooner.1 before)
      (ap (λ kept. kept sq) sooner.2 ∙ sym same ∙ sym (ap (λ kept. kept sq) told.2) ∙ ok) in
      let there : Has (table_of scenario cells j).order sq line unused =
      subst (λ (t : Table). Has t.order sq line unused) (sym told.1)
      (told_on-unused told.0 sq line not_ok
      (subst (λ (order : List Member). Has order sq line unused) (sym told.3) before)) in
      rw e there

-- ---- lines that aren't in ADD, and of which no status on its way is a FAIL
record AreReady (leg : Leg) (from horizon : ℕ) : Type 0 where
  pub adds : (line : ℕ) (window : Window) → FailsBy (windows_of leg line) window from horizon →
      IsAdded (table_at leg from) line → ⊥
  pub up : (line sq : ℕ) (window : Window) → FailsBy (windows_of leg line) window from horizon →
      slice_get (lines_of (table_at leg from).order) sq ≡ Some line → WasUp leg from line

used-ready : (leg : Leg) (from horizon : ℕ) → WereUsed leg from horizon → AreReady leg from horizon
used-ready leg from horizon were = record {
  adds = λ line window fails added.
      let was = were line added.0 window fails (Has-lines (table_at leg from).order added.0 line adding added.1) in
      let same : adding ≡ normal = Has-standing (member_of line adding) line normal (sym added.1 ∙ was.stands) in
      cc;
  up = λ line sq window fails has. (were line sq window fails has).up;
}

clear-ready : (leg : Leg) (from horizon : ℕ) → WereClear leg from horizon → AreReady leg from horizon
clear-ready leg from horizon were = record {
  adds = were.adds;
  up = λ line sq window fails has k before late.
      let scenario : Scenario = scenario_by leg in
      let cells : List (Option Told) = session_of leg in
      let inside = line-inside scenario cells (first_hit from) sq line has in
      let reads : (p : ℕ) → first_hit from - leg.config.lag - leg.config.options.restore ≤ p → p < first_hit from →
      is_read scenario line p ≡ true =
      λ p low high. clear-read (windows_of leg line) p
      (clear-within (windows_of leg line)
      (16 * (first_hit from - leg.config.lag - leg.config.options.restore)) (16 * p) from (16 * p + 24)
      (omega arith) (omega arith) (were.clear line window fails)) in (
        (up-is leg.config.options (is_read scenario line) k).1 (
          k,
          record {
            past = omega arith;
            restored = λ p start until. reads p (omega arith) (omega arith);
            held = λ p later whole. absurd (omega arith);
          },
        ),
        still-word scenario cells line k k inside (reads k (omega arith) before) (omega arith) refl,
      );
}

module _ (leg : Leg) (begins ends horizon : ℕ) (sound : IsSound leg) (stops : leg.config.options.infers ≡ false)
    (together : FailTogether leg begins ends horizon) (ready : AreReady leg begins horizon) where
  abbrev scenario-runs : Scenario
  scenario-runs = scenario_by leg

  abbrev cells-runs : List (Option Told)
  cells-runs = session_of leg

  abbrev whole-at : ℕ → Bool
  whole-at t = is_whole_row scenario-runs cells-runs t

  -- the last step that takes no packet at which the hold-off can have run out
  abbrev held-to : ℕ
  held-to = first_hit begins + leg.config.options.holdoff + (leg.config.lag - 1)

  -- a line that is spoiled behind that step was in use in it
  was-used : (t : ℕ) → held-to ≤ (t - 24) / 16 → 24 ≤ t → t < horizon → (spoiled : IsSpoiled leg begins horizon t) →
      slice_get (lines_of (table_at leg begins).order) spoiled.used.0 ≡ Some spoiled.line →
      t < 16 * (first_told leg spoiled.window spoiled.used.0 + leg.config.lag) + 24 →
      Has (table_of scenario-runs cells-runs held-to).order spoiled.used.0 spoiled.line normal
  was-used t past late high spoiled has untold =
      let j : ℕ = (t - 24) / 16 in
      let line = spoiled.line in
      let sq = spoiled.used.0 in
      let first : ℕ = first_hit begins in
      let lag = sound.network.lag.0 in
      let begun = (together.same line spoiled.window spoiled.fails).0 in
      let quiet = is-quiet leg sound begins horizon together.fails j (omega arith) in
      let small = few-before leg sound begins horizon together.fails first sq line has in
      let found = lines-at scenario-runs cells-runs first j quiet held-to sq line (omega arith) (omega arith) has in
      let stands : (standing : Standing) → found.0.standing ≡ standing →
      Has (table_of scenario-runs cells-runs held-to).order sq line standing =
      λ standing e. found.1 ∙ ap (λ l. Some (member_of l found.0.standing)) found.2
      ∙ ap (λ s. Some (member_of line s)) e in
      elim found.0.standing as (λ standing. found.0.standing ≡ standing →
      Has (table_of scenario-runs cells-runs held-to).order sq line normal) [
        | normal ↦ λ e. stands normal e
        | adding ↦ λ e. absurd (ready.adds line spoiled.window spoiled.fails (
          sq,
          added-before scenario-runs cells-runs first j quiet held-to sq line (omega arith) (omega arith)
              (stands adding e),
        ))
        | unused ↦ λ e.
            let place : j - held-to + held-to ≡ j = omega arith in
            let out : Has (table_of scenario-runs cells-runs (j - held-to + held-to)).order sq line unused =
            stays-unused scenario-runs cells-runs first j quiet held-to sq line (j - held-to) (omega arith)
            (omega arith) (omega arith) small
            (λ k start until group.
            let next = soonest leg.config.options.statuses (first_hit spoiled.window.first + leg.config.options.holdoff)
            (sq / 8) k sound.network.options.statuses (omega arith) group in
            omega arith) (stands unused e) in
            let there : Has (table_of scenario-runs cells-runs j).order sq line unused = rw place at out in
            absurd (let same : normal ≡ unused =
            Has-standing (member_of line normal) line unused (sym spoiled.used.1 ∙ there) in cc)
      ] refl

  -- with any two rows that are spoiled those between are that can be
  between : (sooner t later : ℕ) → 24 ≤ sooner → begins ≤ sooner → sooner ≤ t → t ≤ later → later < horizon →
      ((window : Window) → window.first ≡ begins → window.end ≡ ends → Spoils window t) → whole-at sooner ≡ false →
      whole-at later ≡ false → whole-at t ≡ false
  between sooner t later late low before behind high can broken_before broken_behind =
      let j : ℕ = (t - 24) / 16 in
      let first : ℕ = first_hit begins in
      let lag = sound.network.lag.0 in
      let spoils : (line sq : ℕ) (window : Window) → FailsBy (windows_of leg line) window begins horizon →
      Has (table_of scenario-runs cells-runs j).order sq line normal → whole-at t ≡ false =
      λ line sq window fails has.
      let same = together.same line window fails in
      (cost-exact leg sound begins horizon together.fails t stops (omega arith) (omega arith) (omega arith)).1 (record {
        line = line;
        window = window;
        fails = fails;
        used = (sq, has);
        spoils = can window same.0 same.1;
      }) in
      elim (cases_lt j held-to) [
        | inl early ↦
            let caught = cost-caught leg sound begins horizon together.fails sooner late low (omega arith)
            broken_before in
            let spoiled = caught.0 in
            let line = spoiled.line in
            let sq = spoiled.used.0 in
            let begun = (together.same line spoiled.window spoiled.fails).0 in
            let small = few-before leg sound begins horizon together.fails first sq line caught.1 in
            let turn = in-turn leg.config.options.statuses
            (first_hit spoiled.window.first + leg.config.options.holdoff) (sq / 8) sound.network.options.statuses
            (omega arith) in
            let told = turn.0 in
            spoils line sq spoiled.window spoiled.fails
            (cost-kept leg sound begins horizon together.fails line sq (suc ((sooner - 24) / 16)) t spoiled.window
            spoiled.fails caught.1 (ready.up line sq spoiled.window spoiled.fails caught.1) spoiled.used.1
            (omega arith) (omega arith) (omega arith) (omega arith) (omega arith) (omega arith))
        | inr past ↦
            let caught = cost-caught leg sound begins horizon together.fails later (omega arith) (omega arith) high
            broken_behind in
            let spoiled = caught.0 in
            let line = spoiled.line in
            let sq = spoiled.used.0 in
            let untold = caught.2 in
            let was = was-used later (omega arith) (omega arith) high spoiled caught.1 caught.2 in
            spoils line sq spoiled.window spoiled.fails
            (cost-kept leg sound begins horizon together.fails line sq (suc held-to) t spoiled.window
            spoiled.fails caught.1 (ready.up line sq spoiled.window spoiled.fails caught.1) was
            (omega arith) (omega arith) (omega arith) (omega arith) (omega arith) (omega arith))
      ]

  -- those that are spoiled of rows in turn that can be
  one-run : (from end : ℕ) → 24 ≤ from → begins ≤ from → end ≤ horizon →
      ((window : Window) → window.first ≡ begins → window.end ≡ ends → (t : ℕ) → from ≤ t → t < end →
      Spoils window t) → AreRun whole-at from (from + (end - from))
  one-run from end late low within can =
      run-of whole-at from (end - from)
      (λ sooner t later start before behind high broken_before broken_behind.
      between sooner t later (omega arith) (omega arith) before behind (omega arith)
      (λ window first last. can window first last t (omega arith) (omega arith)) broken_before broken_behind)

  spoiled-late : (t : ℕ) → whole-at t ≡ false → 24 ≤ t
  spoiled-late t broken =
      elim (cases_lt t 24) [
        | inl early ↦ absurd (both_ways (whole-at t) broken (rw (lt-ltb t 24 early) refl))
        | inr late ↦ late
      ]

  ready-runs : AreTwoRuns leg begins horizon
  ready-runs =
      let near : ℕ = max begins 24 in
      let near_end : ℕ = min horizon (16 * end_packet ends + 2) in
      let far : ℕ = 16 * first_hit begins + 24 in
      let far_end : ℕ = min horizon (16 * end_packet ends + 24) in
      let sooner = one-run near near_end (omega arith) (omega arith) (omega arith)
      (λ window first last t low high. inl (omega arith, omega arith)) in
      let later = one-run far far_end (omega arith) (omega arith) (omega arith)
      (λ window first last t low high. inr (omega arith, omega arith)) in
      record {
        one = (max near sooner.run.0, min sooner.run.1 near_end);
        other = (max far later.run.0, min later.run.1 far_end);
        rows = λ t low high. (
          λ broken.
              let late = spoiled-late t broken in
              let spoiled = (cost-caught leg sound begins horizon together.fails t late low high broken).0 in
              let same = together.same spoiled.line spoiled.window spoiled.fails in
              let first = same.0 in
              let last = same.1 in
              elim spoiled.spoils [
                | inl by_container ↦
                    let under = by_container.1 in
                    let (start, until) = sooner.within t (omega arith) (omega arith) broken in
                    inl (omega arith, omega arith)
                | inr by_packet ↦
                    let from = by_packet.0 in
                    let under = by_packet.1 in
                    let (start, until) = later.within t (omega arith) (omega arith) broken in
                    inr (omega arith, omega arith)
              ],
          λ either. elim either [
            | inl of_one ↦
                let from = of_one.0 in
                let under = of_one.1 in
                sooner.fails t (omega arith) (omega arith) (omega arith) (omega arith)
            | inr of_other ↦
                let from = of_other.0 in
                let under = of_other.1 in
                later.fails t (omega arith) (omega arith) (omega arith) (omega arith)
          ],
        );
      }

pub cost-runs : (leg : Leg) (begins ends horizon : ℕ) → IsSound leg → leg.config.options.infers ≡ false →
    FailTogether leg begins ends horizon → WereUsed leg begins horizon → AreTwoRuns leg begins horizon
cost-runs leg begins ends horizon sound stops together were =
    ready-runs leg begins ends horizon sound stops together (used-ready leg begins horizon were)

pub cost-runs_of-clear : (leg : Leg) (begins ends horizon : ℕ) → IsSound leg → leg.config.options.infers ≡ false →
    FailTogether leg begins ends horizon → WereClear leg begins horizon → AreTwoRuns leg begins horizon
cost-runs_of-clear leg begins ends horizon sound stops together were =
    ready-runs leg begins ends horizon sound stops together (clear-ready leg begins horizon were)
