-- The worked legs (queued, full, twin, timed, costly) meet what is asked of them.
use Rattle.std.proofs.Common.{◌≡◌, ℕ, suc, ◌+◌, ◌*◌, ◌<◌, ◌≤◌, inl, inr, List, [], ◌∷◌, length, All, replicate, refl}
use Rattle.std.proofs.Common.{ap, subst, arith, ◌⊎◌, zero, ◌-◌, slice_get, get_or, Some, sym, ◌∙◌, true}
use Rattle.std.specs.List.Sorted.{IsNonDecreasing}
use Rattle.std.proofs.lemmas.Bool.{cases_lt}
use Rattle.std.proofs.lemmas.List.{length-replicate}
use Rattle.std.proofs.lemmas.List.Elements.{All-nil, All-cons, All-replicate}
use Rattle.std.proofs.lemmas.List.Sorted.{IsNonDecreasingBy-short, IsNonDecreasingBy-push}
use Rattle.law_model.specs.Common.{idle, are_whole, slip_of, slip_after, frame_dues, command_dues, Scenario, Leg}
use Rattle.law_model.specs.Common.{FitsRing, FitsLag, scenario_by, frames_at, IsWithin, HasFailures, IsItem, IsNetwork}
use Rattle.law_model.specs.Common.{IsSound, said_before, cells_before, size, Stream, reaching, place_of, stream_before}
use Rattle.law_model.specs.Common.{width, is_up, last_read, after, keep, none_kept, admit, turned, take_out, exchange}
use Rattle.law_model.specs.Common.{member_of, DueCommand, orders_of, is_read, most_ticks}
use Rattle.law_model.specs.declared.script_types.Item.{Item}
use Rattle.law_model.specs.declared.window_types.Window.{Window}
use Rattle.law_model.specs.declared.script_types.ItemKind.TheVariants.{Frame, Add}
use Rattle.law_model.specs.members.Damage.{carried}
use Rattle.law_walk.specs.Common.{session_of, item, plain, failing_leg, IsClear}
use Rattle.law_walk.proofs.WorkedFailureLegLaws.{equal-rise, one_failure, no_failure, plain_network, failing-sound}
use Rattle.law_service.specs.Bucket.{arrivals, arrivals_in, KeepsTo}
use Rattle.law_service.specs.ClockedWalk.{HasNoSlip, timed_windows, timed_leg}
use Rattle.law_service.specs.Twins.{with_delays}
use Rattle.law_service.specs.WorkedServiceLegs.{queued_leg, full_bucket, full_leg}
use Rattle.std.proofs.lemmas.Option.{none-some, same_Some}
use Rattle.law_model.specs.declared.lcas_states.Member.{Member}
use Rattle.law_model.specs.declared.lcas_states.Standing.TheVariants.{Add as adding, Norm as normal}
use Rattle.law_model.specs.declared.lcas_states.Command.TheVariants.{Add as add}
use Rattle.law_session.specs.Feedback.{lines_of}
use Rattle.law_session.proofs.UpLineAndReadablePacketLaws.{up-plain}
use Rattle.law_session.proofs.ReturnCellAndLineWordLaws.{word-here}
use Rattle.law_walk.proofs.WholeRowDespiteFailureLaws.{clear-read}
use Rattle.law_service.specs.cost_of_failures.Cost.{windows_of, FailsBy, StaysClear, FailsOnce, FailTogether, table_at}
use Rattle.law_service.specs.cost_of_failures.Cost.{HasSq}
use Rattle.law_service.specs.cost_of_failures.Settled.{IsSettled}
use Rattle.law_service.specs.cost_of_failures.CostInNumbers.{WasUsed, WereUsed}
use Rattle.law_service.specs.cost_of_failures.WorkedCosts.{costly_window, costly_windows, costly_leg}
use Rattle.law_service.proofs.QuietStepAndKeptStatusLaws.{settled-still}
use Rattle.law_model.specs.Common.{largest_ring, longest_delay, longest_offer}

-- ---- Legs that meet what is asked.
-- one line without failures
one-line : (ticks : ℕ) → IsWithin 1 most_ticks ticks → IsNetwork (plain ([] ∷ []) 1 1 ticks)
unfolding slip_after
one-line ticks some =
    plain_network ([] ∷ []) 1 1 ticks (omega arith, omega arith)
    (All-cons (HasFailures ticks) [] [] (no_failure ticks) (All-nil (HasFailures ticks)))
    (omega arith, omega arith) (omega arith, omega arith) some (omega arith) (omega arith)

abbrev frame_item : ℕ → ℕ → ℕ → Item
frame_item due n octet = item due (Frame (replicate n octet))

frame-fits : (ticks due n octet : ℕ) → due < ticks → 1 ≤ n → n ≤ longest_offer → octet < 256 →
    IsItem ticks (frame_item due n octet)
frame-fits ticks due n octet early some few low =
    let long = length-replicate n octet in
    (early, ((omega arith, omega arith), All-replicate (λ o. o < 256) n octet low))

-- ---- frames that wait
queued-rise : IsNonDecreasing (0 ∷ 0 ∷ 0 ∷ 0 ∷ 40 ∷ 41 ∷ [])
queued-rise =
    IsNonDecreasingBy-push (λ (n : ℕ). n) (0 ∷ 0 ∷ 0 ∷ 0 ∷ 40 ∷ []) 41
    (IsNonDecreasingBy-push (λ (n : ℕ). n) (0 ∷ 0 ∷ 0 ∷ 0 ∷ []) 40 (equal-rise 4 0) (λ d some. omega arith))
    (λ d some. omega arith)

abbrev last : List Item
last = frame_item 40 64 5 ∷ frame_item 41 70 6 ∷ []

abbrev frames : List Item
frames = frame_item 0 64 1 ∷ frame_item 0 65 2 ∷ frame_item 0 63 3 ∷ frame_item 0 66 4 ∷ last

pub queued-sound : IsSound queued_leg
unfolding frame_dues command_dues
queued-sound = record {
  network = one-line 42 (omega arith, omega arith);
  items = record {
    each = All-cons (IsItem 42) (item 0 (Add 0)) frames (omega arith, omega arith)
        (All-cons (IsItem 42) (frame_item 0 64 1) (frame_item 0 65 2 ∷ frame_item 0 63 3 ∷ frame_item 0 66 4 ∷ last)
        (frame-fits 42 0 64 1 (omega arith) (omega arith) (omega arith) (omega arith))
        (All-cons (IsItem 42) (frame_item 0 65 2) (frame_item 0 63 3 ∷ frame_item 0 66 4 ∷ last)
        (frame-fits 42 0 65 2 (omega arith) (omega arith) (omega arith) (omega arith))
        (All-cons (IsItem 42) (frame_item 0 63 3) (frame_item 0 66 4 ∷ last)
        (frame-fits 42 0 63 3 (omega arith) (omega arith) (omega arith) (omega arith))
        (All-cons (IsItem 42) (frame_item 0 66 4) last
        (frame-fits 42 0 66 4 (omega arith) (omega arith) (omega arith) (omega arith))
        (All-cons (IsItem 42) (frame_item 40 64 5) (frame_item 41 70 6 ∷ [])
        (frame-fits 42 40 64 5 (omega arith) (omega arith) (omega arith) (omega arith))
        (All-cons (IsItem 42) (frame_item 41 70 6) []
        (frame-fits 42 41 70 6 (omega arith) (omega arith) (omega arith) (omega arith)) (All-nil (IsItem 42))))))));
    frames = queued-rise;
    commands = IsNonDecreasingBy-short (λ (n : ℕ). n) (0 ∷ []) (omega arith);
  };
  few = omega arith;
}

-- ---- a bucket that is filled
full-rise : IsNonDecreasing (40 ∷ 40 ∷ 41 ∷ [])
full-rise = IsNonDecreasingBy-push (λ (n : ℕ). n) (40 ∷ 40 ∷ []) 41 (equal-rise 2 40) (λ d some. omega arith)

pub full-sound : IsSound full_leg
unfolding frame_dues command_dues
full-sound = record {
  network = one-line 43 (omega arith, omega arith);
  items = record {
    each = All-cons (IsItem 43) (item 0 (Add 0)) (frame_item 40 744 1 ∷ frame_item 40 744 2 ∷ frame_item 41 748 3 ∷ [])
        (omega arith, omega arith)
        (All-cons (IsItem 43) (frame_item 40 744 1) (frame_item 40 744 2 ∷ frame_item 41 748 3 ∷ [])
        (frame-fits 43 40 744 1 (omega arith) (omega arith) (omega arith) (omega arith))
        (All-cons (IsItem 43) (frame_item 40 744 2) (frame_item 41 748 3 ∷ [])
        (frame-fits 43 40 744 2 (omega arith) (omega arith) (omega arith) (omega arith))
        (All-cons (IsItem 43) (frame_item 41 748 3) []
        (frame-fits 43 41 748 3 (omega arith) (omega arith) (omega arith) (omega arith)) (All-nil (IsItem 43)))));
    frames = full-rise;
    commands = IsNonDecreasingBy-short (λ (n : ℕ). n) (0 ∷ []) (omega arith);
  };
  few = omega arith;
}

-- what holds of three numbers in turn
three : (P : ℕ → Type 0) (first : ℕ) → P first → P (first + 1) → P (first + 2) → (n : ℕ) → first ≤ n →
    n < first + 3 → P n
three P first one two last n low high =
    elim (cases_lt n (first + 1)) [
      | inl a ↦ subst P (let e : first ≡ n = omega arith in e) one
      | inr a ↦ elim (cases_lt n (first + 2)) [
        | inl b ↦ subst P (let e : first + 1 ≡ n = omega arith in e) two
        | inr b ↦ subst P (let e : first + 2 ≡ n = omega arith in e) last
      ]
    ]

abbrev scenario : Scenario
scenario = scenario_by full_leg

full-begins : stream_before scenario (session_of full_leg) 40 ≡ record { pieces = idle ∷ idle ∷ []; waiting = [] }
unfolding carried are_whole after keep none_kept cells_before said_before exchange take_out turned admit is_up
    last_read stream_before reaching place_of
full-begins = refl

abbrev wide : ℕ → ℕ
wide t = width scenario (session_of full_leg) t

full-widths : (wide 40 ≡ 1) × (wide 41 ≡ 1) × (wide 42 ≡ 1)
unfolding carried are_whole after keep none_kept cells_before said_before exchange take_out turned admit is_up
    last_read
full-widths = (refl, refl, refl)

abbrev Carries : ℕ → Type 0
Carries t = 1 ≤ wide t

abbrev Keeps : ℕ → ℕ → Type 0
Keeps t more = t + more < 43 → arrivals_in scenario t (suc more) ≤ 1504 + 756 * more

full-counts : (arrivals scenario 40 ≡ 1504) × (arrivals scenario 41 ≡ 756) × (arrivals scenario 42 ≡ 0)
full-counts = (refl, refl, refl)

keeps-from : (t : ℕ) → 40 ≤ t → t < 43 → (more : ℕ) → Keeps t more
unfolding arrivals_in
keeps-from t low high more within =
    let (a, b, c) = full-counts in
    three (λ t. (more : ℕ) → Keeps t more) 40
    (λ more within. three (Keeps 40) 0 (λ w. omega arith) (λ w. omega arith) (λ w. omega arith) more (omega arith)
    (omega arith) within)
    (λ more within. three (Keeps 41) 0 (λ w. omega arith) (λ w. omega arith) (λ w. absurd (omega arith)) more
    (omega arith) (omega arith) within)
    (λ more within. three (Keeps 42) 0 (λ w. omega arith) (λ w. absurd (omega arith)) (λ w. absurd (omega arith)) more
    (omega arith) (omega arith) within)
    t low high more within

abbrev Fits : List ℕ → Type 0
Fits frame = IsWithin 744 9600 (length frame)

replicate-fits : (n octet : ℕ) → IsWithin 744 9600 n → Fits (replicate n octet)
replicate-fits n octet within = let long = length-replicate n octet in
    let low = within.0 in
    let high = within.1 in
    (omega arith, omega arith)

pub full-keeps : KeepsTo full_bucket full_leg 40 1
unfolding place_of
full-keeps = record {
  none_waits = ap (λ (stream : Stream). stream.waiting) full-begins;
  little_left = let e = ap (λ (stream : Stream). size stream.pieces) full-begins in omega arith;
  carries = let (a, b, c) = full-widths in λ t low high. three Carries 40 (omega arith) (omega arith) (omega arith) t low high;
  keeps = λ t more low within. keeps-from t low (omega arith) more within;
  lengths = λ t low high. three (λ t. All Fits (frames_at scenario t)) 40
      (All-cons Fits (replicate 744 1) (replicate 744 2 ∷ []) (replicate-fits 744 1 (omega arith, omega arith))
      (All-cons Fits (replicate 744 2) [] (replicate-fits 744 2 (omega arith, omega arith)) (All-nil Fits)))
      (All-cons Fits (replicate 748 3) [] (replicate-fits 748 3 (omega arith, omega arith)) (All-nil Fits))
      (All-nil Fits) t low high;
  shortest = omega arith;
  rate = omega arith;
  burst = omega arith;
}

-- ---- other delays, and a ring that they fit
delayed : (leg : Leg) (delays : List ℕ) (ring : ℕ) → IsSound leg → length delays ≡ leg.config.lines →
    All (λ (delay : ℕ). delay ≤ longest_delay) delays → IsWithin 1 largest_ring ring → FitsRing (with_delays leg delays ring).config →
    FitsLag (with_delays leg delays ring).config → IsSound (with_delays leg delays ring)
delayed leg delays ring sound each few_ticks within fits_ring fits_lag =
    let network = sound.network in
    record {
      network = record {
        lines = network.lines;
        delay_each = each;
        delays = few_ticks;
        windows_each = network.windows_each;
        windows = network.windows;
        lost = network.lost;
        ring = within;
        lag = network.lag;
        ticks = network.ticks;
        size = network.size;
        options = network.options;
        fits_ring = fits_ring;
        fits_lag = fits_lag;
      };
      items = sound.items;
      few = sound.few;
    }

-- ---- the line that fails has a delay
pub twin-sound : IsSound (with_delays failing_leg (15 ∷ []) 7)
unfolding slip_after
twin-sound =
    delayed failing_leg (15 ∷ []) 7 failing-sound refl (All-replicate (λ delay. delay ≤ longest_delay) 1 15 (omega arith))
    (omega arith, omega arith) (omega arith) (omega arith)

-- ---- one line fails and doesn't slip, another has a delay
timed-window : Window
timed-window = record { first = 1000; «end» = 1003; slip = 0 }

timed-network : IsNetwork (plain timed_windows 16 2 1100)
unfolding timed-window slip_after
timed-network =
    plain_network timed_windows 16 2 1100 (omega arith, omega arith)
    (All-cons (HasFailures 1100) (timed-window ∷ []) ([] ∷ [])
    (one_failure 1100 timed-window (omega arith) (omega arith) (omega arith))
    (All-cons (HasFailures 1100) [] [] (no_failure 1100) (All-nil (HasFailures 1100))))
    (omega arith, omega arith) (omega arith, omega arith) (omega arith, omega arith) (omega arith) (omega arith)

pub timed-sound : IsSound timed_leg
unfolding slip_after
timed-sound =
    delayed (record { config = plain timed_windows 16 2 1100; items = failing_leg.items; tells = [] }) (0 ∷ 15 ∷ []) 16
    (record { network = timed-network; items = failing-sound.items; few = failing-sound.few }) refl
    (All-cons (λ (delay : ℕ). delay ≤ longest_delay) 0 (15 ∷ []) (omega arith)
    (All-replicate (λ delay. delay ≤ longest_delay) 1 15 (omega arith)))
    (omega arith, omega arith) (omega arith) (omega arith)

abbrev NoSlip : List Window → Type 0
NoSlip windows = slip_of windows ≡ 0

pub timed-even : HasNoSlip timed_leg
unfolding timed-window slip_after
timed-even = All-cons NoSlip (timed-window ∷ []) ([] ∷ []) refl (All-cons NoSlip [] [] refl (All-nil NoSlip))

-- ---- A leg that meets what is asked: one of two lines is down for 489 containers.
-- ---- the leg is sound
costly-network : IsNetwork (plain costly_windows 4 2 1400)
unfolding slip_after
costly-network =
    plain_network costly_windows 4 2 1400 (omega arith, omega arith)
    (All-cons (HasFailures 1400) [] ((costly_window ∷ []) ∷ []) (no_failure 1400)
    (All-cons (HasFailures 1400) (costly_window ∷ []) []
    (one_failure 1400 costly_window (omega arith) (omega arith) (omega arith)) (All-nil (HasFailures 1400))))
    (omega arith, omega arith) (omega arith, omega arith) (omega arith, omega arith) (omega arith) (omega arith)

pub costly-sound : IsSound costly_leg
unfolding frame_dues command_dues
costly-sound = record {
  network = costly-network;
  items = record {
    each = All-cons (IsItem 1400) (item 0 (Add 0)) (item 0 (Add 1) ∷ []) (omega arith, omega arith)
        (All-cons (IsItem 1400) (item 0 (Add 1)) [] (omega arith, omega arith) (All-nil (IsItem 1400)));
    frames = IsNonDecreasingBy-short (λ (n : ℕ). n) [] (omega arith);
    commands = equal-rise 2 0;
  };
  few = omega arith;
}

-- ---- both lines are in NORM before the failure, and nothing is asked for from then on
costly-order : (table_at costly_leg 536).order ≡ member_of 0 normal ∷ member_of 1 normal ∷ []
unfolding carried are_whole after keep none_kept cells_before said_before exchange take_out turned admit is_up last_read
costly-order = refl

costly-waits : (after (scenario_by costly_leg) (session_of costly_leg) 33).waiting ≡ []
unfolding carried are_whole after keep none_kept cells_before said_before exchange take_out turned admit is_up last_read
costly-waits = refl

pub costly-has : HasSq (table_at costly_leg 536) 1
costly-has = (1, ap (λ order. slice_get (lines_of order) 1) costly-order)

none-added : (line sq : ℕ) →
    slice_get (member_of 0 normal ∷ member_of 1 normal ∷ []) sq ≡ Some (member_of line adding) → ⊥
none-added line zero is =
    let e = ap (λ (m : Member). m.standing) (same_Some (member_of 0 normal) (member_of line adding) is) in cc
none-added line (suc zero) is =
    let e = ap (λ (m : Member). m.standing) (same_Some (member_of 1 normal) (member_of line adding) is) in cc
none-added line (suc (suc sq)) is = none-some (member_of line adding) is

abbrev asks : ℕ → DueCommand
asks line = record { due = 0; command = add line }

abbrev IsEarly : DueCommand → Type 0
IsEarly order = (order.due + 8 ≤ 16 * 33) ⊎ (1400 ≤ order.due)

pub costly-settled : IsSettled costly_leg 536 1400
costly-settled = record {
  waits = costly-waits;
  adds = λ line added. none-added line added.0 (sym (ap (λ order. slice_get order added.0) costly-order) ∙ added.1);
  lands =
      let each : All IsEarly (orders_of costly_leg.items) =
      All-cons IsEarly (asks 0) (asks 1 ∷ []) (inl (omega arith))
      (All-cons IsEarly (asks 1) [] (inl (omega arith)) (All-nil IsEarly)) in each;
}

-- ---- the failure
abbrev IsAlone : Window → Type 0
IsAlone other = (other ≡ costly_window) ⊎ ((1400 ≤ other.first) ⊎ (other.end ≤ 536 - 39))

costly-fails : FailsBy (windows_of costly_leg 1) costly_window 536 1400
costly-fails = record {
  stands = (0, omega arith, refl);
  late = omega arith;
  soon = omega arith;
  alone = All-cons IsAlone costly_window [] (inl refl) (All-nil IsAlone);
}

clear-line : StaysClear (windows_of costly_leg 0) 536 1400
clear-line k d inside = absurd (omega (arith, inside))

costly-each : (line : ℕ) → line < 2 →
    ((window : Window) × FailsBy (windows_of costly_leg line) window 536 1400)
    ⊎ StaysClear (windows_of costly_leg line) 536 1400
costly-each zero inside = inr clear-line
costly-each (suc zero) inside = inl (costly_window, costly-fails)
costly-each (suc (suc line)) inside = absurd (omega arith)

costly-once : FailsOnce costly_leg 536 1400
costly-once = record {
  made = omega arith;
  each = costly-each;
  beside = (0, omega arith, clear-line);
  come = λ k low high. refl;
  still = λ k low high. settled-still costly_leg 536 1400 costly-settled k low high;
}

only-window : (line : ℕ) (window : Window) → FailsBy (windows_of costly_leg line) window 536 1400 →
    costly_window ≡ window
only-window zero window fails = absurd (let inside = fails.stands.1 in omega arith)
only-window (suc zero) window fails = at fails.stands.0 fails.stands.1 fails.stands.2
  where
    at : (place : ℕ) → place < 1 → get_or (costly_window ∷ []) place window ≡ window → costly_window ≡ window
    at zero inside is = is
    at (suc place) inside is = absurd (omega arith)
only-window (suc (suc line)) window fails = absurd (let inside = fails.stands.1 in omega arith)

pub costly-together : FailTogether costly_leg 536 1025 1400
costly-together = record {
  fails = costly-once;
  some = omega arith;
  same = λ line window fails.
      let e = only-window line window fails in
      (sym (ap (λ (w : Window). w.first) e), sym (ap (λ (w : Window). w.end) e));
}

-- ---- the line was in use before
early-read : (k : ℕ) → k < 33 → is_read (scenario_by costly_leg) 1 k ≡ true
early-read k low = clear-read (windows_of costly_leg 1) k clear
  where
    clear : IsClear (windows_of costly_leg 1) (16 * k) (16 * k + 24)
    clear zero d inside = inl (omega (arith, low))
    clear (suc i) d inside = absurd (omega (arith, inside))

abbrev both : List ℕ
both = 0 ∷ 1 ∷ []

pub costly-were : WereUsed costly_leg 536 1400
costly-were zero sq window fails has = absurd (let inside = fails.stands.1 in omega arith)
costly-were (suc zero) sq window fails has =
    at sq (sym (ap (λ order. slice_get (lines_of order) sq) costly-order) ∙ has)
  where
    at : (sq : ℕ) → slice_get both sq ≡ Some 1 → WasUsed costly_leg 536 sq 1
    at zero is = absurd (let e = same_Some 0 1 is in omega arith)
    at (suc zero) is = record {
      stands = ap (λ order. slice_get order 1) costly-order;
      up = λ k low high. (
        up-plain (scenario_by costly_leg).options (is_read (scenario_by costly_leg) 1) k refl refl ∙ early-read k low,
        (k, word-here (scenario_by costly_leg) (session_of costly_leg) 1 k (omega arith) (early-read k low)),
      );
    }
    at (suc (suc sq)) is = absurd (none-some 1 is)
costly-were (suc (suc line)) sq window fails has = absurd (let inside = fails.stands.1 in omega arith)
