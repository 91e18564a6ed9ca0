-- What a saying does: a said item is the next one of its kind, and a cut or a mend gives a line other windows.
use Rattle.std.proofs.Common.{◌≡◌, ℕ, zero, suc, Bool, true, false, List, [], ◌∷◌, length, slice_get, take, Some, refl}
use Rattle.std.proofs.Common.{◌∙◌, ap, if◌then◌else◌, inl, inr, ◌+◌, None, sym, append-nil, arith, ◌<◌, ◌≤◌, ◌==◌}
use Rattle.std.proofs.Common.{nat_lt, fold, ◌++◌, slice_index_or, slice_set, All, IsSome, Option}
use Rattle.std.proofs.lemmas.Bool.{cases_Bool, eqb-false, eqb-true}
use Rattle.law_model.specs.Common.{offers_of, orders_of, Counts, Leg}
use Rattle.law_model.specs.declared.script_types.Item.{Item}
use Rattle.law_model.specs.declared.script_types.ItemKind.{ItemKind}
use Rattle.terminal_group.proofs.ItemPlaceAndHeldItemLaws.{count_of, offers-size, orders-size}
use Rattle.terminal_group.specs.ItemPlaces.{is_command, is_frame, place_of}
use Rattle.law_model.specs.declared.item_refusals.Refusal.{Refusal}
use Rattle.law_model.specs.declared.script_types.ItemKind.TheVariants.{Frame, Add, Remove}
use Rattle.law_walk.specs.Common.{is_client, refusal_at, walk_plan}
use Rattle.text_report.specs.ReportLines.{refused_text}
use Rattle.law_live.specs.Common.{answers_text, counts_said, item_answers, item_at, lands, next_item, refused_answer}
use Rattle.law_live.specs.Common.{LineCourse, closed, cut_at, uncut, windows_by}
use Rattle.walk_engine.specs.walk_core.Landing.{landing_of}
use Rattle.walk_engine.specs.walk_core.WalkAfterEvent.{counts_after, refusal_in_event, refusal_of_item}
use Rattle.walk_engine.specs.walk_core.EventAnswers.{IsDue, next_in}
use Rattle.walk_live.specs.LiveReplies.{telling}
use Rattle.std.proofs.lemmas.List.{get_or-set_other, get_or-set_same}
use Rattle.std.proofs.lemmas.List.Elements.{All-head, All-tail}
use Rattle.law_model.specs.declared.window_types.Window.{Window}
use Rattle.law_live.proofs.WellSaidLegAndWindowLaws.{IsOpen}
use Rattle.member_path.specs.failure_window.OpenWindows.{CanClose, closed_at, failure, last_end, opened_at}
use Rattle.member_path.proofs.FailureWindowListLaws.{closed-append}
use Rattle.walk_live.specs.declared.asked.Asked.{Asked}

-- ---- The place of the next item of its kind: so many are before it.
-- an item of another kind is passed over
place-other : (is : ItemKind → Bool) (k : ℕ) (item : Item) (items : List Item) → is item.kind ≡ false →
    place_of is k (item ∷ items) ≡ suc (place_of is k items)
unfolding place_of
place-other is zero item items e = rw e refl
place-other is (suc k) item items e = rw e refl

-- one of the kind is counted
place-more : (is : ItemKind → Bool) (k : ℕ) (item : Item) (items : List Item) → is item.kind ≡ true →
    place_of is (suc k) (item ∷ items) ≡ suc (place_of is k items)
unfolding place_of
place-more is k item items e = rw e refl

place-here : (is : ItemKind → Bool) (item : Item) (items : List Item) → is item.kind ≡ true →
    place_of is 0 (item ∷ items) ≡ 0
unfolding place_of
place-here is item items e = rw e refl

same-kind : (is : ItemKind → Bool) (x y : Item) → Some x ≡ Some y → is y.kind ≡ true → is x.kind ≡ true
same-kind is x y e there = let same : x ≡ y = cc in ap (λ (i : Item). is i.kind) same ∙ there

place-of : (is : ItemKind → Bool) (items : List Item) (n : ℕ) (item : Item) → slice_get items n ≡ Some item →
    is item.kind ≡ true → place_of is (count_of is (take n items)) items ≡ n
unfolding count_of
place-of is [] n item there kind = absurd cc
place-of is (x ∷ xs) zero item there kind = place-here is x xs (same-kind is x item there kind)
place-of is (x ∷ xs) (suc n) item there kind =
    let before : ℕ = count_of is (take n xs) in
    let rest = place-of is xs n item there kind in
    elim (cases_Bool (is x.kind)) [
      | inl own ↦ ap (λ b. place_of is (if b then suc before else before) (x ∷ xs)) own
          ∙ place-more is before x xs own ∙ ap suc rest
      | inr other ↦ ap (λ b. place_of is (if b then suc before else before) (x ∷ xs)) other
          ∙ place-other is before x xs other ∙ ap suc rest
    ]

pub place-frame : (items : List Item) (n : ℕ) (item : Item) → slice_get items n ≡ Some item →
    is_frame item.kind ≡ true → place_of is_frame (length (offers_of (take n items))) items ≡ n
place-frame items n item there client = ap (λ k. place_of is_frame k items) (offers-size (take n items))
    ∙ place-of is_frame items n item there client

pub place-command : (items : List Item) (n : ℕ) (item : Item) → slice_get items n ≡ Some item →
    is_command item.kind ≡ true → place_of is_command (length (orders_of (take n items))) items ≡ n
place-command items n item there client = ap (λ k. place_of is_command k items) (orders-size (take n items))
    ∙ place-of is_command items n item there client

-- ---- An item that is said is a leg's next one of its kind, and due now.
-- after these counts an item of this kind is next
pub record IsNext (leg : Leg) (s : Counts) (kind : ItemKind) : Type 0 where
  pub there : slice_get leg.items (s.frames + s.commands) ≡ Some (item_at s.ticks kind)
  pub offers : length (offers_of (take (s.frames + s.commands) leg.items)) ≡ s.frames
  pub orders : length (orders_of (take (s.frames + s.commands) leg.items)) ≡ s.commands

frame-place : (leg : Leg) (s : Counts) (octets : List ℕ) → IsNext leg s (Frame octets) →
    place_of is_frame s.frames leg.items ≡ s.frames + s.commands
frame-place leg s octets is =
    ap (λ n. place_of is_frame n leg.items) (sym is.offers)
    ∙ place-frame leg.items (s.frames + s.commands) (item_at s.ticks (Frame octets)) is.there refl

command-place : (leg : Leg) (s : Counts) (kind : ItemKind) → IsNext leg s kind → is_command kind ≡ true →
    place_of is_command s.commands leg.items ≡ s.frames + s.commands
command-place leg s kind is command =
    ap (λ n. place_of is_command n leg.items) (sym is.orders)
    ∙ place-command leg.items (s.frames + s.commands) (item_at s.ticks kind) is.there command

next-place : (leg : Leg) (s : Counts) (kind : ItemKind) → IsNext leg s kind →
    next_in leg s (is_client kind) ≡ s.frames + s.commands
next-place leg s (Frame octets) is = frame-place leg s octets is
next-place leg s (Add line) is = command-place leg s (Add line) is refl
next-place leg s (Remove line) is = command-place leg s (Remove line) is refl

pub next-due : (leg : Leg) (s : Counts) (kind : ItemKind) → IsNext leg s kind → IsDue leg s kind
next-due leg s kind is = record {
  due = s.ticks;
  by_now = omega arith;
  next = ap (slice_get leg.items) (next-place leg s kind is) ∙ is.there;
}

-- why it is refused, and what counts it leaves
refused-at : (leg : Leg) (s : Counts) (kind : ItemKind) (place : ℕ) → IsNext leg s kind → place ≡ s.frames + s.commands →
    refusal_of_item leg place (slice_get leg.items place) ≡ refusal_at leg (next_item s kind)
refused-at leg s kind place is at =
    ap (λ n. refusal_of_item leg n (slice_get leg.items n)) at
    ∙ ap (refusal_of_item leg (s.frames + s.commands)) is.there

pub refusal-is : (leg : Leg) (s : Counts) (kind : ItemKind) → IsNext leg s kind →
    refusal_in_event leg s (landing_of (is_client kind)) ≡ refusal_at leg (next_item s kind)
refusal-is leg s (Frame octets) is =
    refused-at leg s (Frame octets) (place_of is_frame s.frames leg.items) is (frame-place leg s octets is)
refusal-is leg s (Add line) is =
    refused-at leg s (Add line) (place_of is_command s.commands leg.items) is (command-place leg s (Add line) is refl)
refusal-is leg s (Remove line) is =
    refused-at leg s (Remove line) (place_of is_command s.commands leg.items) is
    (command-place leg s (Remove line) is refl)

pub counts-are : (leg : Leg) (s : Counts) (kind : ItemKind) →
    counts_after leg s (landing_of (is_client kind)) ≡ counts_said (walk_plan leg) s (lands kind)
counts-are leg s (Frame octets) = refl
counts-are leg s (Add line) = refl
counts-are leg s (Remove line) = refl

-- ---- what is answered
pub accepted-text : (asked : Asked) (leg : Leg) (s : Counts) (kind : ItemKind) →
    refusal_at leg (next_item s kind) ≡ None → answers_text (telling asked leg) (item_answers leg s kind) ≡ []
accepted-text asked leg s kind none =
    ap (λ why. answers_text (telling asked leg) (refused_answer (s.frames + s.commands) why)) none

pub refused-text : (asked : Asked) (leg : Leg) (s : Counts) (kind : ItemKind) (number : ℕ) (why : Refusal) →
    number ≡ s.frames + s.commands → refusal_at leg (next_item s kind) ≡ Some why →
    refused_text number why ≡ answers_text (telling asked leg) (item_answers leg s kind)
refused-text asked leg s kind number why is some =
    ap (λ n. refused_text n why) is
    ∙ sym (ap (λ o. answers_text (telling asked leg) (refused_answer (s.frames + s.commands) o)) some
    ∙ append-nil (refused_text (s.frames + s.commands) why))

-- ---- The failures of a line, as a walk keeps them and as they were said.
-- ---- one line has others
pub set-windows : (ticks lines m : ℕ) (lists : List (List Window)) (courses : List LineCourse) (windows : List Window)
    (course : LineCourse) → m < length lists → m < length courses → windows ≡ windows_by ticks course →
    ((n : ℕ) → n < lines → slice_index_or lists n [] ≡ windows_by ticks (slice_index_or courses n (uncut []))) →
    (n : ℕ) → n < lines →
    slice_index_or (slice_set lists m windows) n []
    ≡ windows_by ticks (slice_index_or (slice_set courses m course) n (uncut []))
set-windows ticks lines m lists courses windows course inside within is same n low = elim (cases_Bool (n == m)) [
  | inl e ↦
      let here : n ≡ m = eqb-true n m e in
      ap (λ k. slice_index_or (slice_set lists m windows) k []) here
      ∙ get_or-set_same lists m windows [] inside ∙ is
      ∙ sym (ap (windows_by ticks) (ap (λ k. slice_index_or (slice_set courses m course) k (uncut [])) here
      ∙ get_or-set_same courses m course (uncut []) within))
  | inr e ↦
      let other = eqb-false n m e in
      get_or-set_other lists m n windows [] other ∙ same n low
      ∙ sym (ap (windows_by ticks) (get_or-set_other courses m n course (uncut []) other))
]

-- ---- a cut
last-low : (n from : ℕ) (windows : List Window) → from ≤ n → All (λ (window : Window). window.end ≤ n) windows →
    fold (λ end (window : Window). window.end) from windows ≤ n
last-low n from [] low over = low
last-low n from (window ∷ windows) low over =
    last-low n window.end windows (All-head (λ (window : Window). window.end ≤ n) window windows over)
    (All-tail (λ (window : Window). window.end ≤ n) window windows over)

pub over-end : (n : ℕ) (windows : List Window) → All (λ (window : Window). window.end ≤ n) windows →
    last_end windows ≤ n
over-end n windows over = last-low n 0 windows (omega arith) over

pub uncut-windows : (ticks : ℕ) (course : LineCourse) → course.cut ≡ None → windows_by ticks course ≡ course.windows
uncut-windows ticks course none = ap (closed ticks course.windows) none

pub cut-windows : (ticks passed : ℕ) (course : LineCourse) (windows : List Window) → course.cut ≡ None → passed < ticks →
    windows ≡ windows_by ticks course →
    opened_at windows passed ticks ≡ windows_by ticks (cut_at passed course)
cut-windows ticks passed course windows none left is =
    let e : nat_lt passed ticks ≡ true = grind (arith, left) in
    ap (λ l. opened_at l passed ticks) (is ∙ uncut-windows ticks course none) ∙ rw e refl

-- ---- a mend
open-windows : (ticks passed start : ℕ) (windows : List Window) → start ≤ passed → passed < ticks →
    closed ticks windows (Some start) ≡ windows ++ record { first = start; end = ticks; slip = 0 } ∷ []
open-windows ticks passed start windows begun left =
    let h : start < ticks = omega (arith, begun, left) in
    let e : nat_lt start ticks ≡ true = grind (arith, h) in rw e refl

failed : (passed start : ℕ) (windows : List Window) →
    windows ++ failure start passed ≡ closed passed windows (Some start)
failed passed start windows = elim (cases_Bool (nat_lt start passed)) [
  | inl e ↦ rw e refl
  | inr e ↦ rw e (append-nil windows)
]

pub can-mend : (ticks passed : ℕ) (windows : List Window) (cut : Option ℕ) (own : List Window) → IsSome cut →
    IsOpen passed windows cut → passed < ticks → own ≡ closed ticks windows cut → CanClose own passed
can-mend ticks passed windows None own some open_ left is = absurd cc
can-mend ticks passed windows (Some start) own some open_ left is = record {
  before = windows;
  window = record { first = start; end = ticks; slip = 0 };
  are = is ∙ open-windows ticks passed start windows open_.0 left;
  begun = open_.0;
  lasts = left;
  slip = refl;
}

pub mend-windows : (ticks passed : ℕ) (windows : List Window) (cut : Option ℕ) (own : List Window) → IsSome cut →
    IsOpen passed windows cut → passed < ticks → own ≡ closed ticks windows cut →
    closed_at own passed ≡ closed passed windows cut
mend-windows ticks passed windows None own some open_ left is = absurd cc
mend-windows ticks passed windows (Some start) own some open_ left is =
    ap (λ l. closed_at l passed) (is ∙ open-windows ticks passed start windows open_.0 left)
    ∙ closed-append windows (record { first = start; end = ticks; slip = 0 }) passed
    ∙ failed passed start windows
