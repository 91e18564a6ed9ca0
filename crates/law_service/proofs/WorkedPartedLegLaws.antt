-- A worked leg meets what is asked of it: one line fails before a horizon, and another one behind it.
use Rattle.std.proofs.Common.{◌≡◌, ◌⊎◌, ℕ, zero, suc, ◌+◌, ◌-◌, ◌*◌, ◌<◌, ◌≤◌, inl, inr, List, [], ◌∷◌, All}
use Rattle.std.proofs.Common.{slice_get, get_or, Some, true, refl, sym, ◌∙◌, ap, arith}
use Rattle.std.proofs.lemmas.List.Elements.{All-nil, All-cons}
use Rattle.std.proofs.lemmas.List.Sorted.{IsNonDecreasingBy-short}
use Rattle.std.proofs.lemmas.Option.{none-some, same_Some}
use Rattle.law_model.specs.Common.{are_whole, slip_after, frame_dues, command_dues, scenario_by, HasFailures, IsItem}
use Rattle.law_model.specs.Common.{IsNetwork, IsSound, said_before, cells_before, is_up, last_read, after, keep, none_kept}
use Rattle.law_model.specs.Common.{admit, turned, take_out, exchange, member_of, DueCommand, orders_of, is_read}
use Rattle.law_model.specs.declared.lcas_states.Member.{Member}
use Rattle.law_model.specs.declared.lcas_states.Standing.TheVariants.{Add as adding, Norm as normal}
use Rattle.law_model.specs.declared.lcas_states.Command.TheVariants.{Add as add}
use Rattle.law_model.specs.declared.window_types.Window.{Window}
use Rattle.law_model.specs.declared.script_types.ItemKind.TheVariants.{Add}
use Rattle.law_model.specs.members.Damage.{carried}
use Rattle.law_session.specs.Feedback.{lines_of}
use Rattle.law_session.proofs.UpLineAndReadablePacketLaws.{up-plain}
use Rattle.law_session.proofs.ReturnCellAndLineWordLaws.{word-here}
use Rattle.law_walk.specs.Common.{session_of, item, plain, IsClear}
use Rattle.law_walk.proofs.WholeRowDespiteFailureLaws.{clear-read}
use Rattle.law_walk.proofs.WorkedFailureLegLaws.{equal-rise, one_failure, no_failure, plain_network}
use Rattle.law_service.specs.cost_of_failures.Cost.{windows_of, FailsBy, StaysClear, FailsOnce, FailTogether, table_at}
use Rattle.law_service.specs.cost_of_failures.Settled.{IsSettled}
use Rattle.law_service.specs.cost_of_failures.CostInNumbers.{WasUsed, WereUsed}
use Rattle.law_service.specs.cost_of_failures.WorkedCosts.{sooner_window, later_window, parted_windows, parted_leg}
use Rattle.law_service.proofs.QuietStepAndKeptStatusLaws.{settled-still}

-- ---- the leg is sound
parted-network : IsNetwork (plain parted_windows 4 2 5100)
unfolding slip_after
parted-network =
    plain_network parted_windows 4 2 5100 (omega arith, omega arith)
    (All-cons (HasFailures 5100) [] ((sooner_window ∷ []) ∷ (later_window ∷ []) ∷ []) (no_failure 5100)
    (All-cons (HasFailures 5100) (sooner_window ∷ []) ((later_window ∷ []) ∷ [])
    (one_failure 5100 sooner_window (omega arith) (omega arith) (omega arith))
    (All-cons (HasFailures 5100) (later_window ∷ []) []
    (one_failure 5100 later_window (omega arith) (omega arith) (omega arith)) (All-nil (HasFailures 5100)))))
    (omega arith, omega arith) (omega arith, omega arith) (omega arith, omega arith) (omega arith) (omega arith)

pub parted-sound : IsSound parted_leg
unfolding frame_dues command_dues
parted-sound = record {
  network = parted-network;
  items = record {
    each = All-cons (IsItem 5100) (item 0 (Add 0)) (item 0 (Add 1) ∷ item 0 (Add 2) ∷ []) (omega arith, omega arith)
        (All-cons (IsItem 5100) (item 0 (Add 1)) (item 0 (Add 2) ∷ []) (omega arith, omega arith)
        (All-cons (IsItem 5100) (item 0 (Add 2)) [] (omega arith, omega arith) (All-nil (IsItem 5100))));
    frames = IsNonDecreasingBy-short (λ (n : ℕ). n) [] (omega arith);
    commands = equal-rise 3 0;
  };
  few = omega arith;
}

-- ---- all lines are in NORM before the first failure, and nothing is asked for from then on
abbrev members : List Member
members = member_of 0 normal ∷ member_of 1 normal ∷ member_of 2 normal ∷ []

parted-order : (table_at parted_leg 1000).order ≡ members
unfolding carried are_whole after keep none_kept cells_before said_before exchange take_out turned admit is_up last_read
parted-order = refl

parted-waits : (after (scenario_by parted_leg) (session_of parted_leg) 62).waiting ≡ []
unfolding carried are_whole after keep none_kept cells_before said_before exchange take_out turned admit is_up last_read
parted-waits = refl

none-added : (line sq : ℕ) → slice_get members sq ≡ Some (member_of line adding) → ⊥
none-added line zero is =
    let e = ap (λ (m : Member). m.standing) (same_Some (member_of 0 normal) (member_of line adding) is) in cc
none-added line (suc zero) is =
    let e = ap (λ (m : Member). m.standing) (same_Some (member_of 1 normal) (member_of line adding) is) in cc
none-added line (suc (suc zero)) is =
    let e = ap (λ (m : Member). m.standing) (same_Some (member_of 2 normal) (member_of line adding) is) in cc
none-added line (suc (suc (suc sq))) is = none-some (member_of line adding) is

abbrev asks : ℕ → DueCommand
asks line = record { due = 0; command = add line }

abbrev IsEarly : DueCommand → Type 0
IsEarly order = (order.due + 8 ≤ 16 * 62) ⊎ (4000 ≤ order.due)

pub parted-settled : IsSettled parted_leg 1000 4000
parted-settled = record {
  waits = parted-waits;
  adds = λ line added. none-added line added.0 (sym (ap (λ order. slice_get order added.0) parted-order) ∙ added.1);
  lands =
      let each : All IsEarly (orders_of parted_leg.items) =
      All-cons IsEarly (asks 0) (asks 1 ∷ asks 2 ∷ []) (inl (omega arith))
      (All-cons IsEarly (asks 1) (asks 2 ∷ []) (inl (omega arith))
      (All-cons IsEarly (asks 2) [] (inl (omega arith)) (All-nil IsEarly))) in each;
}

-- ---- the failures
abbrev IsAlone : Window → Type 0
IsAlone other = (other ≡ sooner_window) ⊎ ((4000 ≤ other.first) ⊎ (other.end ≤ 1000 - 39))

sooner-fails : FailsBy (windows_of parted_leg 1) sooner_window 1000 4000
sooner-fails = record {
  stands = (0, omega arith, refl);
  late = omega arith;
  soon = omega arith;
  alone = All-cons IsAlone sooner_window [] (inl refl) (All-nil IsAlone);
}

clear-line : StaysClear (windows_of parted_leg 0) 1000 4000
clear-line k d inside = absurd (omega (arith, inside))

-- the line that fails behind the horizon stays clear
later-clear : StaysClear (windows_of parted_leg 2) 1000 4000
later-clear zero d inside = inl (omega arith)
later-clear (suc k) d inside = absurd (omega (arith, inside))

parted-each : (line : ℕ) → line < 3 →
    ((window : Window) × FailsBy (windows_of parted_leg line) window 1000 4000)
    ⊎ StaysClear (windows_of parted_leg line) 1000 4000
parted-each zero inside = inr clear-line
parted-each (suc zero) inside = inl (sooner_window, sooner-fails)
parted-each (suc (suc zero)) inside = inr later-clear
parted-each (suc (suc (suc line))) inside = absurd (omega arith)

parted-once : FailsOnce parted_leg 1000 4000
parted-once = record {
  made = omega arith;
  each = parted-each;
  beside = (0, omega arith, clear-line);
  come = λ k low high. refl;
  still = λ k low high. settled-still parted_leg 1000 4000 parted-settled k low high;
}

-- a window of a list of one is that one
one-window : (only window : Window) (place : ℕ) → place < 1 → get_or (only ∷ []) place window ≡ window → only ≡ window
one-window only window zero inside is = is
one-window only window (suc place) inside is = absurd (omega arith)

-- no line but line 1 fails before the horizon, and that by its window
parted-fails : (line : ℕ) (window : Window) → FailsBy (windows_of parted_leg line) window 1000 4000 →
    (line ≡ 1) × (sooner_window ≡ window)
parted-fails zero window fails = absurd (let inside = fails.stands.1 in omega arith)
parted-fails (suc zero) window fails =
    (refl, one-window sooner_window window fails.stands.0 fails.stands.1 fails.stands.2)
parted-fails (suc (suc zero)) window fails =
    let e = ap (λ (w : Window). w.first)
    (one-window later_window window fails.stands.0 fails.stands.1 fails.stands.2) in
    let soon = fails.soon in
    absurd (omega arith)
parted-fails (suc (suc (suc line))) window fails = absurd (let inside = fails.stands.1 in omega arith)

pub parted-together : FailTogether parted_leg 1000 1024 4000
parted-together = record {
  fails = parted-once;
  some = omega arith;
  same = λ line window fails.
      let e = (parted-fails line window fails).1 in
      (sym (ap (λ (w : Window). w.first) e), sym (ap (λ (w : Window). w.end) e));
}

-- ---- the line was in use before
early-read : (k : ℕ) → k < 62 → is_read (scenario_by parted_leg) 1 k ≡ true
early-read k low = clear-read (windows_of parted_leg 1) k clear
  where
    clear : IsClear (windows_of parted_leg 1) (16 * k) (16 * k + 24)
    clear zero d inside = inl (omega (arith, low))
    clear (suc i) d inside = absurd (omega (arith, inside))

abbrev lines : List ℕ
lines = 0 ∷ 1 ∷ 2 ∷ []

parted-used : (sq : ℕ) → slice_get lines sq ≡ Some 1 → WasUsed parted_leg 1000 sq 1
parted-used zero is = absurd (let e = same_Some 0 1 is in omega arith)
parted-used (suc zero) is = record {
  stands = ap (λ order. slice_get order 1) parted-order;
  up = λ k low high. (
    up-plain (scenario_by parted_leg).options (is_read (scenario_by parted_leg) 1) k refl refl ∙ early-read k low,
    (k, word-here (scenario_by parted_leg) (session_of parted_leg) 1 k (omega arith) (early-read k low)),
  );
}
parted-used (suc (suc zero)) is = absurd (let e = same_Some 2 1 is in omega arith)
parted-used (suc (suc (suc sq))) is = absurd (none-some 1 is)

pub parted-were : WereUsed parted_leg 1000 4000
parted-were line sq window fails has =
    let one = (parted-fails line window fails).0 in
    let at = sym (ap (λ order. slice_get (lines_of order) sq) parted-order) ∙ has in
    rw one (parted-used sq (at ∙ ap (λ l. Some l) one))
