-- The worked legs (failing, silent, near) are sound and meet what is asked of one.
use Rattle.std.proofs.Common.{◌≡◌, ◌≢◌, ◌⊎◌, ℕ, zero, suc, ◌+◌, ◌*◌, ◌<◌, ◌≤◌, true, false, inl, inr, List, [], ◌∷◌}
use Rattle.std.proofs.Common.{map, length, replicate, slice_get, slice_index_or, All, Option, Some, None, refl, sym}
use Rattle.std.proofs.Common.{◌∙◌, ap, subst, arith}
use Rattle.std.specs.List.{range_with_len}
use Rattle.std.specs.List.Sorted.{IsNonDecreasing}
use Rattle.std.proofs.lemmas.Bool.{le-leb, lt-ltb, false_from_ne_true}
use Rattle.std.proofs.lemmas.Option.{none-some, same_Some}
use Rattle.std.proofs.lemmas.List.{length-replicate}
use Rattle.std.proofs.lemmas.List.Elements.{All-nil, All-cons, All-replicate}
use Rattle.std.proofs.lemmas.List.Sorted.{IsNonDecreasingBy-short}
use Rattle.law_model.specs.Common.{IsWithin, AreApart, HasFailures, IsNetwork, IsItem, IsSound, frame_dues}
use Rattle.law_model.specs.Common.{command_dues, FitsRing, FitsLag, are_whole, AreWindows, slip_after, member_of, keep}
use Rattle.law_model.specs.Common.{none_kept, admit, turned, take_out, exchange, DueFrame, Scenario, scenario_by}
use Rattle.law_model.specs.Common.{offers_of, carried_by, is_read, after, table_of, said_before, cells_before}
use Rattle.law_model.specs.Common.{session_cells, default_options, is_up, last_read, most_lines, most_ticks}
use Rattle.law_model.specs.declared.window_types.Window.{Window}
use Rattle.law_model.specs.declared.window_types.Carried.TheVariants.{Whole, Fails}
use Rattle.law_model.specs.declared.script_types.Item.{Item}
use Rattle.law_model.specs.declared.lcas_states.Command.{Command}
use Rattle.law_model.specs.declared.lcas_states.Member.{Member}
use Rattle.law_model.specs.declared.script_types.ItemKind.TheVariants.{Frame, Add}
use Rattle.law_model.specs.declared.lcas_states.Command.TheVariants.{Add as add}
use Rattle.law_model.specs.declared.lcas_states.Standing.TheVariants.{Add as adding}
use Rattle.law_model.specs.members.Damage.{carried}
use Rattle.law_model.specs.source.Source.{carried as carried_out}
use Rattle.law_session.specs.LineInUse.{AddsUndamaged, AddsAmongSilent, IsSeen}
use Rattle.law_session.proofs.UpLineAndReadablePacketLaws.{readable-whole, up-plain}
use Rattle.law_walk.specs.Common.{IsClear, row_from, ConfirmsTrue, item, plain, failing_windows, failing_leg}
use Rattle.law_walk.specs.Common.{silent_windows, silent_leg, near_windows, near_leg, FailsAlone}
use Rattle.law_walk.proofs.WholeRowDespiteFailureLaws.{clear-whole, row-whole, quiet-true}
use Rattle.law_model.specs.Common.{largest_ring, longest_delay, longest_lag, longest_slip, most_packets}

-- Legs that meet what is asked of one.
-- ---- lists
pub equal-rise : (n x : ℕ) → IsNonDecreasing (replicate n x)
equal-rise n x i j d before within =
    let one = All-replicate (λ (y : ℕ). y ≡ x) n x refl i d (omega (arith, before, within)) in
    let other = All-replicate (λ (y : ℕ). y ≡ x) n x refl j d within in
    omega (arith, one, other)

-- nothing is carried out in steps of which a list says so
none-of : (f : ℕ → Option Command) (from n : ℕ) → map f (range_with_len from n) ≡ replicate n None → (i : ℕ) →
    from ≤ i → i < from + n → f i ≡ None
none-of f from zero same i low high = absurd (omega (arith, low, high))
none-of f from (suc n) same i low high =
    let here : f from ≡ None = cc in
    let rest : map f (range_with_len (from + 1) n) ≡ replicate n None = cc in
    elim (same_or_later from i low) [
      | inl e ↦ subst (λ k. f k ≡ None) e here
      | inr later ↦ none-of f (from + 1) n rest i (omega (arith, later)) (omega (arith, high))
    ]
  where
    same_or_later : (from i : ℕ) → from ≤ i → (from ≡ i) ⊎ (suc from ≤ i)
    same_or_later from i low = grind (arith, low)

-- ---- windows
abbrev EndsBy : ℕ → Window → Type 0
EndsBy ticks window = window.end ≤ ticks

abbrev IsShort : Window → Type 0
IsShort window = window.slip ≤ longest_slip

pub one_failure : (ticks : ℕ) (window : Window) → window.slip + window.first < window.end → EndsBy ticks window →
    IsShort window →
    HasFailures ticks (window ∷ [])
unfolding AreWindows
one_failure ticks window sign ends short = record {
  few = omega arith;
  apart = (omega arith, sign, tt);
  ends = All-cons (EndsBy ticks) window [] ends (All-nil (EndsBy ticks));
  slips = All-cons IsShort window [] short (All-nil IsShort);
}

pub no_failure : (ticks : ℕ) → HasFailures ticks []
unfolding AreWindows
no_failure ticks = record { few = omega arith; apart = tt; ends = All-nil (EndsBy ticks); slips = All-nil IsShort }

-- ---- lines without delay
pub plain_network : (windows : List (List Window)) (ring lag ticks : ℕ) → IsWithin 1 most_lines (length windows) →
    All (HasFailures ticks) windows → IsWithin 1 largest_ring ring → IsWithin 1 longest_lag lag → IsWithin 1 most_ticks ticks →
    FitsRing (plain windows ring lag ticks) → FitsLag (plain windows ring lag ticks) →
    IsNetwork (plain windows ring lag ticks)
unfolding AreApart
plain_network windows ring lag ticks lines failures some_ring some_lag some_ticks fits_ring fits_lag = record {
  lines = lines;
  delay_each = length-replicate (length windows) 0;
  delays = All-replicate (λ delay. delay ≤ longest_delay) (length windows) 0 (omega arith);
  windows_each = refl;
  windows = failures;
  lost = record { apart = tt; ends = All-nil (λ (window : ℕ × ℕ). window.1 ≤ most_packets) };
  ring = some_ring;
  lag = some_lag;
  ticks = some_ticks;
  size = inl refl;
  options = record { holdoff = omega arith; restore = omega arith; statuses = inl refl };
  fits_ring = fits_ring;
  fits_lag = fits_lag;
}

-- ---- a line that fails once
window : Window
window = record { first = 1000; «end» = 1003; slip = 1 }

failing-network : IsNetwork (plain failing_windows 4 2 1100)
unfolding window slip_after
failing-network =
    plain_network failing_windows 4 2 1100 (omega arith, omega arith)
    (All-cons (HasFailures 1100) (window ∷ []) [] (one_failure 1100 window (omega arith) (omega arith) (omega arith))
    (All-nil (HasFailures 1100)))
    (omega arith, omega arith) (omega arith, omega arith) (omega arith, omega arith) (omega arith) (omega arith)

abbrev late_frame : ℕ → Item
late_frame octet = item 1040 (Frame (replicate 64 octet))

frame-fits : (octet : ℕ) → octet < 256 → IsItem 1100 (late_frame octet)
frame-fits octet low = (
  (let e : 1040 < 1100 = omega arith in e),
  ((omega arith, omega arith), All-replicate (λ o. o < 256) 64 octet low),
)

pub failing-sound : IsSound failing_leg
unfolding frame_dues command_dues
failing-sound = record {
  network = failing-network;
  items = record {
    each = All-cons (IsItem 1100) (item 0 (Add 0)) (late_frame 1 ∷ late_frame 2 ∷ late_frame 3 ∷ [])
        (omega arith, omega arith)
        (All-cons (IsItem 1100) (late_frame 1) (late_frame 2 ∷ late_frame 3 ∷ []) (frame-fits 1 (omega arith))
        (All-cons (IsItem 1100) (late_frame 2) (late_frame 3 ∷ []) (frame-fits 2 (omega arith))
        (All-cons (IsItem 1100) (late_frame 3) [] (frame-fits 3 (omega arith)) (All-nil (IsItem 1100)))));
    frames = equal-rise 3 1040;
    commands = IsNonDecreasingBy-short (λ (n : ℕ). n) (0 ∷ []) (omega arith);
  };
  few = omega arith;
}

abbrev IsLate : DueFrame → Type 0
IsLate offer = 1032 ≤ offer.due

all-late : All IsLate (offers_of failing_leg.items)
all-late =
    let one : DueFrame = record { due = 1040; frame = replicate 64 1 } in
    let two : DueFrame = record { due = 1040; frame = replicate 64 2 } in
    let three : DueFrame = record { due = 1040; frame = replicate 64 3 } in
    All-cons IsLate one (two ∷ three ∷ []) (omega arith)
    (All-cons IsLate two (three ∷ []) (omega arith) (All-cons IsLate three [] (omega arith) (All-nil IsLate)))

clear-later : (t line : ℕ) → 1032 ≤ t → line < 1 →
    IsClear (slice_index_or failing_leg.config.windows line []) (row_from t) (t + 1)
unfolding window
clear-later t zero late low = λ k d inside. later k d inside
  where
    later : IsClear (window ∷ []) (row_from t) (t + 1)
    later zero d inside = inr (omega (arith, late))
    later (suc k) d inside = absurd (omega (arith, inside))
clear-later t (suc line) late low = absurd (omega (arith, low))

pub failing-starts : ConfirmsTrue failing_leg failing_leg.config.ticks
failing-starts =
    quiet-true failing_leg 1100 1032 failing-sound (omega arith) (omega arith) all-late
    (λ t late low. row-whole failing_leg (omega arith) t (λ line inside. clear-later t line late inside))

abbrev failing : Scenario
failing = scenario_by failing_leg

failing-first : carried_out failing (session_cells failing) 0 ≡ Some (add 0)
unfolding carried are_whole after keep none_kept cells_before said_before exchange take_out turned admit is_up last_read
failing-first = refl

failing-none : map (carried_out failing (session_cells failing)) (range_with_len 1 17) ≡ replicate 17 None
unfolding carried are_whole after keep none_kept cells_before said_before exchange take_out turned admit is_up last_read
failing-none = refl

failing-read : (line k : ℕ) → k < 16 → is_read failing line k ≡ true
failing-read line k low = (readable-whole (carried_by failing line) k).1
    (clear-whole (slice_index_or failing.windows line []) (16 * k) (16 * k + 24) (clear line))
  where
    clear : (line : ℕ) → IsClear (slice_index_or failing.windows line []) (16 * k) (16 * k + 24)
    clear zero zero d inside = inl (omega (arith, low))
    clear zero (suc i) d inside = absurd (omega (arith, inside))
    clear (suc line) i d inside = absurd (omega (arith, inside))

failing-seen : (line k : ℕ) → k < 16 → IsSeen failing line k
failing-seen line k low =
    let read = failing-read line k low in (read, up-plain default_options (is_read failing line) k refl refl ∙ read)

pub failing-adds : AddsUndamaged failing 0 0
failing-adds = record {
  limits = record { lag = omega arith; lines = omega arith; statuses = inl refl };
  begins = omega arith;
  adds = record {
    added = failing-first;
    alone = λ i command later low is. absurd
        (none-some command (sym
        (none-of (carried_out failing (session_cells failing)) 1 17 failing-none i (omega (arith, later))
        (omega (arith, low))) ∙ is));
  };
  come = λ k low high. refl;
  read = λ other is k low high. failing-seen other k (omega (arith, high));
}

-- ---- a line that is never read
silent_window : Window
silent_window = record { first = 0; «end» = 600; slip = 0 }

silent-network : IsNetwork (plain silent_windows 1 1 600)
unfolding silent_window slip_after
silent-network =
    plain_network silent_windows 1 1 600 (omega arith, omega arith)
    (All-cons (HasFailures 600) (silent_window ∷ []) ([] ∷ [])
    (one_failure 600 silent_window (omega arith) (omega arith) (omega arith))
    (All-cons (HasFailures 600) [] [] (no_failure 600) (All-nil (HasFailures 600))))
    (omega arith, omega arith) (omega arith, omega arith) (omega arith, omega arith) (omega arith) (omega arith)

pub silent-sound : IsSound silent_leg
unfolding frame_dues command_dues
silent-sound = record {
  network = silent-network;
  items = record {
    each = All-cons (IsItem 600) (item 0 (Add 0)) (item 0 (Add 1) ∷ []) (omega arith, omega arith)
        (All-cons (IsItem 600) (item 0 (Add 1)) [] (omega arith, omega arith) (All-nil (IsItem 600)));
    frames = IsNonDecreasingBy-short (λ (n : ℕ). n) [] (omega arith);
    commands = equal-rise 2 0;
  };
  few = omega arith;
}

abbrev silent : Scenario
silent = scenario_by silent_leg

silent-first : carried_out silent (session_cells silent) 1 ≡ Some (add 1)
unfolding carried are_whole after keep none_kept cells_before said_before exchange take_out turned admit is_up last_read
silent-first = refl

silent-none : map (carried_out silent (session_cells silent)) (range_with_len 2 32) ≡ replicate 32 None
unfolding carried are_whole after keep none_kept cells_before said_before exchange take_out turned admit is_up last_read
silent-none = refl

silent-order : (table_of silent (session_cells silent) 1).order ≡ member_of 0 adding ∷ member_of 1 adding ∷ []
unfolding carried are_whole after keep none_kept cells_before said_before exchange take_out turned admit is_up last_read
silent-order = refl

-- nothing of line 0 arrives
fails : (n : ℕ) → n < 600 → carried_by silent 0 n ≡ Fails
unfolding carried
fails n low = rw (le-leb 0 n (omega arith), lt-ltb n 600 low, lt-ltb (n + 0) 600 (omega (arith, low))) refl

never-read : (k : ℕ) → 16 * k < 600 → is_read silent 0 k ≡ false
never-read k low =
    false_from_ne_true (is_read silent 0 k)
    (λ read. let whole : carried_by silent 0 (16 * k) ≡ Whole = (readable-whole (carried_by silent 0) k).0 read
    (16 * k) (omega arith) (omega arith) in
    let wrong : Fails ≡ Whole = sym (fails (16 * k) low) ∙ whole in cc)

-- and all of line 1
seen-read : (k : ℕ) → is_read silent 1 k ≡ true
seen-read k = (readable-whole (carried_by silent 1) k).1
    (clear-whole [] (16 * k) (16 * k + 24) (λ i d inside. absurd (omega (arith, inside))))

seen-up : (k : ℕ) → IsSeen silent 1 k
seen-up k = (seen-read k, up-plain default_options (is_read silent 1) k refl refl ∙ seen-read k)

in-add : (order : List Member) → order ≡ member_of 0 adding ∷ member_of 1 adding ∷ [] → (sq other : ℕ) →
    slice_get order sq ≡ Some (member_of other adding) →
    (other ≡ 1 → ⊥) → other ≡ 0
in-add order same sq other there not_one = at sq
    (subst (λ l. slice_get l sq ≡ Some (member_of other adding)) same there)
  where
    at : (sq : ℕ) → slice_get (member_of 0 adding ∷ member_of 1 adding ∷ []) sq ≡ Some (member_of other adding) →
        other ≡ 0
    at zero is = sym (ap (λ (m : Member). m.line) (same_Some (member_of 0 adding) (member_of other adding) is))
    at (suc zero) is = absurd
        (not_one (sym (ap (λ (m : Member). m.line) (same_Some (member_of 1 adding) (member_of other adding) is))))
    at (suc (suc sq)) is = absurd (none-some (member_of other adding) is)

pub silent-adds : AddsAmongSilent silent 1 1
silent-adds = record {
  limits = record { lag = omega arith; lines = omega arith; statuses = inl refl };
  begins = omega arith;
  adds = record {
    added = silent-first;
    alone = λ i command later low is. absurd
        (none-some command (sym
        (none-of (carried_out silent (session_cells silent)) 2 32 silent-none i (omega (arith, later))
        (omega (arith, low))) ∙ is));
  };
  come = λ k low high. refl;
  read = λ k low high. seen-up k;
  others = λ other is not_one k low high.
      let zero_line : other ≡ 0 = in-add
      (table_of silent (session_cells silent) 1).order silent-order is.0 other is.1 not_one in
      subst (λ line. is_read silent line k ≡ false) (sym zero_line) (never-read k (omega (arith, high)));
}

-- ---- a line of which one container fails, beside one that stays whole
near_window : Window
near_window = record { first = 900; «end» = 901; slip = 0 }

near-stops : IsNetwork (plain near_windows 1 1 1000)
unfolding near_window slip_after
near-stops =
    plain_network near_windows 1 1 1000 (omega arith, omega arith)
    (All-cons (HasFailures 1000) [] ((near_window ∷ []) ∷ []) (no_failure 1000)
    (All-cons (HasFailures 1000) (near_window ∷ []) []
    (one_failure 1000 near_window (omega arith) (omega arith) (omega arith)) (All-nil (HasFailures 1000))))
    (omega arith, omega arith) (omega arith, omega arith) (omega arith, omega arith) (omega arith) (omega arith)

near-network : IsNetwork (near_leg true).config
near-network = record {
  lines = near-stops.lines;
  delay_each = near-stops.delay_each;
  delays = near-stops.delays;
  windows_each = near-stops.windows_each;
  windows = near-stops.windows;
  lost = near-stops.lost;
  ring = near-stops.ring;
  lag = near-stops.lag;
  ticks = near-stops.ticks;
  size = near-stops.size;
  options = record { holdoff = omega arith; restore = omega arith; statuses = inl refl };
  fits_ring = near-stops.fits_ring;
  fits_lag = near-stops.fits_lag;
}

pub near-sound : IsSound (near_leg true)
unfolding frame_dues command_dues
near-sound = record {
  network = near-network;
  items = record {
    each = All-cons (IsItem 1000) (item 0 (Add 0)) (item 0 (Add 1) ∷ []) (omega arith, omega arith)
        (All-cons (IsItem 1000) (item 0 (Add 1)) [] (omega arith, omega arith) (All-nil (IsItem 1000)));
    frames = IsNonDecreasingBy-short (λ (n : ℕ). n) [] (omega arith);
    commands = equal-rise 2 0;
  };
  few = omega arith;
}

abbrev near : Scenario
near = scenario_by (near_leg true)

near-last : last_read (is_read near 1) 55 ≡ Some 54
unfolding carried are_whole last_read
near-last = refl

near-count : (table_of near (session_cells near) 55).count ≡ (table_of near (session_cells near) 54).count
unfolding carried are_whole after keep none_kept cells_before said_before exchange take_out turned admit is_up last_read
near-count = refl

pub near-alone : FailsAlone (near_leg true) 1 914
near-alone = record {
  inside = omega arith;
  several = omega arith;
  others = clear;
  unchanged = λ last is. subst
      (λ n. (table_of near (session_cells near) 55).count ≡ (table_of near (session_cells near) n).count)
      (same_Some 54 last (sym near-last ∙ is)) near-count;
}
  where
    clear : (other : ℕ) → other < 2 → other ≢ 1 → IsClear (slice_index_or near_windows other []) (row_from 914) 915
    clear zero inside differs = λ k d within. absurd (omega (arith, within))
    clear (suc zero) inside differs = absurd (differs refl)
    clear (suc (suc other)) inside differs = absurd (omega (arith, inside))
