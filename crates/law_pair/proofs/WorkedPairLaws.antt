-- Two worked scripts that make a pair.
use Rattle.std.proofs.Common.{◌≡◌, ℕ, ◌<◌, ◌≤◌, List, [], ◌∷◌, length, replicate, inl, refl, arith}
use Rattle.std.proofs.lemmas.List.Elements.{All-nil, All-cons, All-replicate}
use Rattle.std.proofs.lemmas.List.Sorted.{IsNonDecreasingBy-short}
use Rattle.law_model.specs.Common.{AreWindows, slip_after, AreApart, HasFailures, IsNetwork, IsItem, AreItems, IsEvent}
use Rattle.law_model.specs.Common.{frame_dues, command_dues, longest_delay, longest_slip, most_packets}
use Rattle.law_model.specs.declared.window_types.Window.{Window}
use Rattle.law_model.specs.declared.script_types.Item.{Item}
use Rattle.law_model.specs.declared.script_types.ItemKind.TheVariants.{Frame, Add}
use Rattle.law_walk.specs.Common.{item, plain}
use Rattle.law_pair.specs.Common.{IsWay, IsPair, worked_script, worked_there, worked_back, failing_back}

-- Two scripts that make a pair.
abbrev one : Window
one = record { first = 16; «end» = 17; slip = 0 }

fails-once : HasFailures 100 (one ∷ [])
unfolding AreWindows
fails-once = record {
  few = omega arith;
  apart = (omega arith, omega arith, tt);
  ends = All-cons (λ (window : Window). window.end ≤ 100) one [] (omega arith)
      (All-nil (λ (window : Window). window.end ≤ 100));
  slips = All-cons (λ (window : Window). window.slip ≤ longest_slip) one [] (omega arith)
      (All-nil (λ (window : Window). window.slip ≤ longest_slip));
}

fails-never : HasFailures 100 []
unfolding AreWindows
fails-never = record {
  few = omega arith;
  apart = tt;
  ends = All-nil (λ (window : Window). window.end ≤ 100);
  slips = All-nil (λ (window : Window). window.slip ≤ longest_slip);
}

one-network : (windows : List Window) → HasFailures 100 windows → slip_after 0 0 windows ≡ 0 →
    IsNetwork (plain (windows ∷ []) 1 1 100)
unfolding AreApart
one-network windows failures slip = record {
  lines = (omega arith, omega arith);
  delay_each = refl;
  delays = All-replicate (λ delay. delay ≤ longest_delay) 1 0 (omega arith);
  windows_each = refl;
  windows = All-cons (HasFailures 100) windows [] failures (All-nil (HasFailures 100));
  lost = record { apart = tt; ends = All-nil (λ (window : ℕ × ℕ). window.1 ≤ most_packets) };
  ring = (omega arith, omega arith);
  lag = (omega arith, omega arith);
  ticks = (omega arith, omega arith);
  size = inl refl;
  options = record { holdoff = omega arith; restore = omega arith; statuses = inl refl };
  fits_ring = omega (arith, slip);
  fits_lag = omega (arith, slip);
}

abbrev zeros : Item
zeros = item 0 (Frame (replicate 64 0))

added : IsItem 100 (item 0 (Add 0))
added = (omega arith, omega arith)

framed : IsItem 100 zeros
framed = (omega arith, ((omega arith, omega arith), All-replicate (λ o. o < 256) 64 0 (omega arith)))

there-items : AreItems 100 (item 0 (Add 0) ∷ zeros ∷ [])
unfolding frame_dues command_dues
there-items = record {
  each = All-cons (IsItem 100) (item 0 (Add 0)) (zeros ∷ []) added
      (All-cons (IsItem 100) zeros [] framed (All-nil (IsItem 100)));
  frames = IsNonDecreasingBy-short (λ (n : ℕ). n) (0 ∷ []) (omega arith);
  commands = IsNonDecreasingBy-short (λ (n : ℕ). n) (0 ∷ []) (omega arith);
}

back-items : AreItems 100 (item 0 (Add 0) ∷ [])
unfolding frame_dues command_dues
back-items = record {
  each = All-cons (IsItem 100) (item 0 (Add 0)) [] added (All-nil (IsItem 100));
  frames = IsNonDecreasingBy-short (λ (n : ℕ). n) [] (omega arith);
  commands = IsNonDecreasingBy-short (λ (n : ℕ). n) (0 ∷ []) (omega arith);
}

worked-way : (windows : List Window) (items : List Item) → IsNetwork (plain (windows ∷ []) 1 1 100) →
    AreItems 100 (item 0 (Add 0) ∷ items) → length items ≤ 1 → IsWay (worked_script (windows ∷ []) items)
worked-way windows items network all few = record {
  valid = record {
    sound = record { network = network; items = all; few = omega (arith, few) };
    events = All-nil (IsEvent 1);
  };
  near = omega arith;
  lost = refl;
  events = refl;
}

there-way : IsWay worked_there
unfolding slip_after
there-way = worked-way [] (zeros ∷ []) (one-network [] fails-never refl) there-items (omega arith)

pub worked-pair : IsPair worked_there worked_back
unfolding slip_after
worked-pair = record {
  there_way = there-way;
  back_way = worked-way [] [] (one-network [] fails-never refl) back-items (omega arith);
  lag = refl;
  ticks = refl;
}

pub failing-pair : IsPair worked_there failing_back
unfolding slip_after
failing-pair = record {
  there_way = there-way;
  back_way = worked-way (one ∷ []) [] (one-network (one ∷ []) fails-once refl) back-items (omega arith);
  lag = refl;
  ticks = refl;
}
