-- The items of a load that is drawn.
use Rattle.std.proofs.Common.{◌≡◌, ℕ, zero, suc, ◌+◌, ◌-◌, ◌/◌, ◌<◌, ◌≤◌, ◌^◌, List, [], ◌∷◌, ◌++◌, length, ap, sym}
use Rattle.std.proofs.Common.{◌∙◌, arith, refl, All, append-nil, append_assoc, ◌*◌, map, replicate, subst, inl, inr}
use Rattle.std.proofs.lemmas.List.Elements.{All-cons, All-append, All-replicate}
use Rattle.std.proofs.lemmas.Nat.{mod_below}
use Rattle.std.specs.List.{range_with_len}
use Rattle.std.specs.List.Sorted.{IsNonDecreasing}
use Rattle.std.proofs.lemmas.List.{length-append, length-replicate, map-append}
use Rattle.std.proofs.lemmas.List.FromFn.{length-map-range_with_len, get_or-map-range_with_len}
use Rattle.std.proofs.lemmas.List.FromFn.{map-range_with_len_more}
use Rattle.law_model.specs.Common.{due_of, dues_of, frame_dues, command_dues, slip_after, AreWindows, greatest}
use Rattle.law_model.specs.Common.{greatest_slip, IsItem, HasFailures, AreItems, IsValid, most_drawn_ticks}
use Rattle.law_model.specs.declared.script_types.Item.{Item}
use Rattle.law_model.specs.declared.script_types.Script.{Script}
use Rattle.law_model.specs.declared.script_types.ItemKind.TheVariants.{Frame, Add}
use Rattle.text_scripts.proofs.ScriptDraftGrowthLaws.{All-none, no_losses, rising-none, frames-append, commands-append}
use Rattle.text_scripts.specs.make_load.Load.{length_of, frame_of, after_frame, addition, additions, frames}
use Rattle.text_scripts.specs.make_load.Load.{frame_count, load}
use Rattle.law_model.specs.Common.{longest_delay, longest_offer}
use Rattle.law_rates.specs.Draws.{next, drawn, draws, after_draws}
use Rattle.law_rates.proofs.DrawLaws.{length-draws, draws_below}

-- ---- The items of a load: one on, and what they meet.
-- ---- one more
frames_more : (more fewer due later state : ℕ) → more ≡ suc fewer → later ≡ due + 8
    → frames more due state ≡ record { due = due; kind = Frame (frame_of state) } ∷ frames fewer later
    (after_frame state)
unfolding frames
frames_more more fewer due later state size e = rw (size, e) refl

pub frames_next : (all before : List Item) (count k state now : ℕ) (octets : List ℕ) →
    all ≡ before ++ frames (count - k) (8 * k) state → k < count
    → now ≡ after_frame state → octets ≡ frame_of state
    → all ≡ (before ++ record { due = 8 * k; kind = Frame octets } ∷ []) ++ frames (count - (k + 1)) (8 * (k + 1)) now
frames_next all before count k state now octets is within moves frame =
    rw (moves, frame)
    (is ∙ ap (λ (l : List Item). before ++ l)
    (frames_more (count - k) (count - (k + 1)) (8 * k) (8 * (k + 1)) state (omega (arith, within)) (omega arith))
    ∙ sym (append_assoc before (record { due = 8 * k; kind = Frame (frame_of state) } ∷ [])
    (frames (count - (k + 1)) (8 * (k + 1)) (after_frame state))))

pub frames_end : (all before : List Item) (count k due state : ℕ) → all ≡ before ++ frames (count - k) due state →
    count ≤ k → before ≡ all
unfolding frames
frames_end all before count k due state is past =
    sym (is ∙ ap (λ (n : ℕ). before ++ frames n due state) (let e : count - k ≡ 0 = omega (arith, past) in e)
    ∙ append-nil before)

pub additions_next : (before : List Item) (line : ℕ) → before ≡ additions line →
    before ++ record { due = 0; kind = Add line } ∷ [] ≡ additions (line + 1)
additions_next before line is =
    ap (λ (l : List Item). l ++ addition line ∷ []) is
    ∙ sym (map-range_with_len_more addition 0 line line (let e : 0 + line ≡ line = omega arith in e))

-- a frame may be offered
pub short_frame : (octets : List ℕ) (state : ℕ) → octets ≡ frame_of state → length octets ≤ longest_offer
short_frame octets state is =
    let same = ap (λ (l : List ℕ). length l) is in
    let size = length-draws (length_of state) 256 (next state) in
    let less : drawn (next state) 1455 < 1455 = mod_below (next state / 2 ^ 33) 1455 (omega arith) in
    omega (arith, same, size, less)

-- ---- each item
additions_all : (P : Item → Type 0) (lines : ℕ) → ((line : ℕ) → line < lines → P (addition line)) →
    All P (additions lines)
additions_all P lines each i d within =
    let inside : i < lines = (let size = length-map-range_with_len addition 0 lines in omega (arith, within, size)) in
    subst P (sym (get_or-map-range_with_len addition 0 lines i i d inside (let e : 0 + i ≡ i = omega arith in e)))
    (each i inside)

frames_all : (P : Item → Type 0) (count due state ticks : ℕ) → due + 8 * count < ticks + 8
    → ((due state : ℕ) → due < ticks → P (record { due = due; kind = Frame (frame_of state) })) →
    All P (frames count due state)
unfolding frames
frames_all P zero due state ticks fits each = All-none P
frames_all P (suc count) due state ticks fits each =
    All-cons P (record { due = due; kind = Frame (frame_of state) }) (frames count (due + 8) (after_frame state))
    (each due state (omega (arith, fits)))
    (frames_all P count (due + 8) (after_frame state) ticks (omega (arith, fits)) each)

frame_fits : (ticks due state : ℕ) → due < ticks → IsItem ticks (record { due = due; kind = Frame (frame_of state) })
frame_fits ticks due state early =
    let size = length-draws (length_of state) 256 (next state) in
    let less : drawn (next state) 1455 < 1455 = mod_below (next state / 2 ^ 33) 1455 (omega arith) in (
      early,
      (
        (omega (arith, size), omega (arith, size, less)),
        draws_below (length_of state) 256 (next state) (omega arith),
      ),
    )

items_of : ℕ → ℕ → ℕ → List Item
items_of number lines ticks = additions lines ++ frames (frame_count ticks) 0 (after_draws lines number)

all_items : (P : Item → Type 0) (number lines ticks : ℕ) → ((line : ℕ) → line < lines → P (addition line))
    → ((due state : ℕ) → due < ticks → P (record { due = due; kind = Frame (frame_of state) })) →
    All P (items_of number lines ticks)
unfolding items_of
all_items P number lines ticks added framed =
    All-append P (additions lines) (frames (frame_count ticks) 0 (after_draws lines number))
    (additions_all P lines added)
    (frames_all P (frame_count ticks) 0 (after_draws lines number) ticks (omega arith) framed)

-- ---- due ticks
rises-cons : (n : ℕ) (ns : List ℕ) → All (λ m. n ≤ m) ns → IsNonDecreasing ns → IsNonDecreasing (n ∷ ns)
rises-cons n ns least rise zero zero d before within = omega arith
rises-cons n ns least rise zero (suc j) d before within = least j d (omega (arith, within))
rises-cons n ns least rise (suc i) zero d before within = absurd (omega (arith, before))
rises-cons n ns least rise (suc i) (suc j) d before within = rise i j d (omega (arith, before)) (omega (arith, within))

no_frames : (lines : List ℕ) → frame_dues (dues_of (map addition lines)) ≡ []
unfolding frame_dues
no_frames [] = refl
no_frames (line ∷ lines) = no_frames lines

zeros : (lines : List ℕ) → All (λ n. n ≡ 0) (command_dues (dues_of (map addition lines)))
unfolding command_dues
zeros [] = All-none (λ (n : ℕ). n ≡ 0)
zeros (line ∷ lines) = All-cons (λ (n : ℕ). n ≡ 0) 0 (command_dues (dues_of (map addition lines))) refl (zeros lines)

zeros_rise : (ns : List ℕ) → All (λ n. n ≡ 0) ns → IsNonDecreasing ns
zeros_rise ns are i j d before within =
    let first = are i d (omega (arith, before, within)) in
    let second = are j d within in
    omega (arith, first, second)

no_commands : (count due state : ℕ) → command_dues (dues_of (frames count due state)) ≡ []
unfolding frames command_dues
no_commands zero due state = refl
no_commands (suc count) due state = no_commands count (due + 8) (after_frame state)

later : (count due least state : ℕ) → least ≤ due → All (λ m. least ≤ m) (frame_dues (dues_of (frames count due state)))
unfolding frames frame_dues
later zero due least state low = All-none (λ (m : ℕ). least ≤ m)
later (suc count) due least state low =
    All-cons (λ (m : ℕ). least ≤ m) due (frame_dues (dues_of (frames count (due + 8) (after_frame state)))) low
    (later count (due + 8) least (after_frame state) (omega (arith, low)))

frames_rise : (count due state : ℕ) → IsNonDecreasing (frame_dues (dues_of (frames count due state)))
unfolding frames frame_dues
frames_rise zero due state = rising-none
frames_rise (suc count) due state =
    rises-cons due (frame_dues (dues_of (frames count (due + 8) (after_frame state))))
    (later count (due + 8) due (after_frame state) (omega arith))
    (frames_rise count (due + 8) (after_frame state))

dues-append : (xs ys : List Item) → dues_of (xs ++ ys) ≡ dues_of xs ++ dues_of ys
dues-append xs ys = map-append (λ (item : Item). due_of item.due item.kind) xs ys

frames_first : (xs ys : List Item) → frame_dues (dues_of xs) ≡ [] → IsNonDecreasing (frame_dues (dues_of ys)) →
    IsNonDecreasing (frame_dues (dues_of (xs ++ ys)))
frames_first xs ys none rise =
    subst IsNonDecreasing (sym (ap frame_dues (dues-append xs ys) ∙ frames-append (dues_of xs) (dues_of ys)
    ∙ ap (λ (l : List ℕ). l ++ frame_dues (dues_of ys)) none)) rise

commands_first : (xs ys : List Item) → command_dues (dues_of ys) ≡ [] → IsNonDecreasing (command_dues (dues_of xs)) →
    IsNonDecreasing (command_dues (dues_of (xs ++ ys)))
commands_first xs ys none rise =
    subst IsNonDecreasing
    (sym (ap command_dues (dues-append xs ys) ∙ commands-append (dues_of xs) (dues_of ys)
    ∙ ap (λ (l : List ℕ). command_dues (dues_of xs) ++ l) none
    ∙ append-nil (command_dues (dues_of xs)))) rise

are_items : (number lines ticks : ℕ) → lines ≤ 64 → 1 ≤ ticks → AreItems ticks (items_of number lines ticks)
unfolding items_of
are_items number lines ticks few some = record {
  each = all_items (IsItem ticks) number lines ticks (λ line within. (some, omega (arith, few, within)))
      (frame_fits ticks);
  frames = frames_first (additions lines) (frames (frame_count ticks) 0 (after_draws lines number))
      (no_frames (range_with_len 0 lines))
      (frames_rise (frame_count ticks) 0 (after_draws lines number));
  commands = commands_first (additions lines) (frames (frame_count ticks) 0 (after_draws lines number))
      (no_commands (frame_count ticks) 0 (after_draws lines number)) (zeros_rise _ (zeros (range_with_len 0 lines)));
}

length-frames : (count due state : ℕ) → length (frames count due state) ≡ count
unfolding frames
length-frames zero due state = refl
length-frames (suc count) due state = ap suc (length-frames count (due + 8) (after_frame state))

-- ---- the network
greatest_most : (ns : List ℕ) (most : ℕ) → All (λ n. n ≤ most) ns → greatest ns ≤ most
greatest_most [] most are = omega arith
greatest_most (n ∷ ns) most are =
    let first = are zero n (omega arith) in
    let rest = greatest_most ns most (λ i d within. are (suc i) d (omega (arith, within))) in
    omega (arith, first, rest)

no_slip : (lines : ℕ) → greatest_slip (replicate lines []) ≡ 0
unfolding slip_after
no_slip zero = refl
no_slip (suc lines) = let rest = no_slip lines in omega (arith, rest)

no_windows : (ticks : ℕ) → HasFailures ticks []
unfolding AreWindows
no_windows ticks = record { few = omega arith; apart = tt; ends = All-none _; slips = All-none _ }

low : (ns : List ℕ) (most : ℕ) → All (λ n. n < 41) ns → 40 ≤ most → All (λ n. n ≤ most) ns
low ns most are high i d within = let less = are i d within in omega (arith, less, high)

valid_load : (number lines ticks : ℕ) → (1 ≤ lines) × (lines ≤ 64) → (1 ≤ ticks) × (ticks ≤ most_drawn_ticks) →
    IsValid (load number lines ticks)
unfolding items_of
valid_load number lines ticks few time =
    let delays = draws_below lines 41 number (omega arith) in
    let most = greatest_most (draws lines 41 number) 40 (low (draws lines 41 number) 40 delays (omega arith)) in
    let slips = no_slip lines in
    record {
      sound = record {
        network = record {
          lines = (few.0, omega (arith, few.1));
          delay_each = length-draws lines 41 number;
          delays = low (draws lines 41 number) longest_delay delays (omega arith);
          windows_each = length-replicate lines [];
          windows = All-replicate (HasFailures ticks) lines [] (no_windows ticks);
          lost = no_losses;
          ring = (omega arith, omega arith);
          lag = (omega arith, omega arith);
          ticks = (time.0, omega (arith, time.1));
          size = inr refl;
          options = record { holdoff = omega arith; restore = omega arith; statuses = inl refl };
          fits_ring = omega (arith, most, slips);
          fits_lag = omega (arith, most, slips);
        };
        items = are_items number lines ticks few.1 time.0;
        few =
            (let size = length-append (additions lines) (frames (frame_count ticks) 0 (after_draws lines number)) in
            let added = length-map-range_with_len addition 0 lines in
            let framed = length-frames (frame_count ticks) 0 (after_draws lines number) in
            omega (arith, size, added, framed, few.1, time.1));
      };
      events = All-none _;
    }

pub is_valid : (script : Script) (number lines ticks : ℕ) → (1 ≤ lines) × (lines ≤ 64) → (1 ≤ ticks) × (ticks ≤ most_drawn_ticks)
    → script ≡ load number lines ticks → IsValid script
is_valid script number lines ticks few time is = subst IsValid (sym is) (valid_load number lines ticks few time)
