-- The columns and tallies of the frames that have landed: how many, how late, their balance, and their totals.
use Rattle.std.proofs.Common.{◌≡◌, ℕ, suc, ◌+◌, ◌-◌, ◌*◌, ◌<◌, ◌≤◌, max, Bool, true, false, refl, sym, ap, subst}
use Rattle.std.proofs.Common.{arith, List, [], ◌∷◌, ◌++◌, length, take, drop, Option, Some, None, ◌∙◌, append-nil}
use Rattle.std.proofs.Common.{append_assoc, length-append, length-take, nat_lt, All, inl, inr, zero, ◌&&◌, nat_le}
use Rattle.std.proofs.Common.{if◌then◌else◌, le-leb, filter, ap₂, sum_by, codes, decimal, option_to_list}
use Rattle.fate_service.specs.declared.landed_frames.Tally.{Tally}
use Rattle.fate_service.specs.declared.landed_frames.CarriedFrame.{CarriedFrame}
use Rattle.fate_service.specs.declared.stretch_counts.Ended.{Ended, Ended as EndedCounts}
use Rattle.fate_service.specs.declared.stretch_counts.Peak.{Peak}
use Rattle.fate_service.specs.FrameColumns.{with_frame, with_frame_if, no_frames, offered_frame, due_if, accepted_of}
use Rattle.fate_service.specs.FrameColumns.{carried_end, carried_of, waits_on, AreLanded, TakesFrame}
use Rattle.fate_service.specs.FrameColumns.{offered_of, waits_of}
use Rattle.fate_service.specs.Stretches.{delay_of, with_carried, higher, peak_on, is_in, told_on, came_of}
use Rattle.fate_service.specs.Stretches.{ended_of as ended_in_stretch}
use Rattle.std.proofs.lemmas.List.{map-append, length-map}
use Rattle.std.proofs.lemmas.List.Concat.{flat_map-append}
use Rattle.law_model.specs.Common.{Leg, Counts, IsItem, IsSound, most_items, most_ticks}
use Rattle.law_model.specs.declared.item_refusals.Refusal.{Refusal}
use Rattle.fate_engine.specs.Common.{End, refused, accepted, Ended as EndedItem, ended_on, ended_of, has_waited}
use Rattle.fate_engine.specs.Common.{ended_by, ended_then, truth_text, fates_end, are_true_marks}
use Rattle.fate_engine.specs.declared.fate_law.Fate.{Fate}
use Rattle.fate_walks.specs.declared.walk_frames.landed_cursor.LandedFrame.{LandedFrame}
use Rattle.fate_walks.specs.walk_frames.ItemCursor.{Cursor, frames_before_item, frames_left, IsAt, IsNext, IsPast}
use Rattle.fate_walks.specs.walk_fates.MadeWalk.{fates_in, end_by}
use Rattle.fate_walks.proofs.CursorAndRulerLaws.{next-count}
use Rattle.fate_walks.proofs.FatesAndSeenRowsLaws.{accepted_by, ended_frame, next-ended, commands-none, offers-few}
use Rattle.law_walk.specs.Common.{landed_from, Numbered, is_client, with_if, landed_items, refusal_at, IsWalked}
use Rattle.law_walk.specs.Common.{session_rows, delivered_of, session_pieces}
use Rattle.fate_service.specs.declared.landed_frames.LandedFrames.{LandedFrames}
use Rattle.std.proofs.lemmas.List.Elements.{All-nil, All-cons, All-head, All-tail, All-weaker}
use Rattle.std.proofs.lemmas.Bool.{cases_Bool, cases_lt, lt-leb, lt-ltb}
use Rattle.law_model.specs.declared.script_types.Item.{Item}
use Rattle.law_model.specs.declared.script_types.ItemKind.{ItemKind}
use Rattle.law_model.specs.declared.script_types.ItemKind.TheVariants.{Frame, Add, Remove}
use Rattle.fate_service.specs.declared.landed_frames.OfferedFrame.{OfferedFrame}
use Rattle.fate_service.specs.Delays.{within_on, least_from}
use Rattle.std.proofs.lemmas.List.Sums.{sum_by-cons, length-filter}
use Rattle.fate_engine.specs.declared.fate_law.Fate.TheVariants.{Waits, Cut, Unconfirmed, Hunting, Unsettled, Got}
use Rattle.fate_engine.specs.fate_law.SessionFates.{is_refused, has_got, count_of, got_frames}
use Rattle.fate_service.proofs.StretchSumAndQueuePeakLaws.{filter-whole, sum-same, sum-four, sum-map-by, sum-flat}
use Rattle.fate_service.proofs.StretchSumAndQueuePeakLaws.{sum-filter, counted, refused_one, refused_octets, got_one}
use Rattle.fate_service.proofs.StretchSumAndQueuePeakLaws.{got_octets, lost_one, lost_octets, offered-frames}
use Rattle.fate_service.proofs.StretchSumAndQueuePeakLaws.{offered-octets, refused-frames, refused-octets, got-frames}
use Rattle.fate_service.proofs.StretchSumAndQueuePeakLaws.{got-octets, lost-frames, lost-octets}
use Rattle.law_walk.proofs.AcceptedFrameAndDrainedWalkLaws.{counts-within}
use Rattle.law_walk.proofs.LandedItemRefusalAndTotalLaws.{landed-few}
use Rattle.law_walk.proofs.WalkPlanAndPoppedCellLaws.{sound-walks}
use Rattle.fate_engine.proofs.GotFateAndLandedFrameLaws.{got-delivered}
use Rattle.fate_service.specs.declared.stretch_counts.Came.{Came}
use Rattle.fate_service.specs.ServiceText.{told_of, ends_of}
use Rattle.fate_service.specs.service_law.LinesAsNumbers.{all_of, fates_line}
use Rattle.fate_service.specs.service_law.LineSums.{tally_of}
use Rattle.fate_service.proofs.FrameFateBetweenOutagesLaws.{carried-rows}

-- ---- A loop over a list: how much is counted by then.
-- ---- how much is counted
pub tally-few : (b : Bool) (tally : Tally) (octets n : ℕ) → tally.frames ≤ n → tally.octets ≤ 65536 * n →
    octets < 65536 →
    ((with_frame_if b tally octets).frames ≤ n + 1) × ((with_frame_if b tally octets).octets ≤ 65536 * (n + 1))
tally-few true tally octets n few low small = (omega (arith, few), omega (arith, low, small))
tally-few false tally octets n few low small = (omega (arith, few), omega (arith, low, small))

pub came-few : (b : Bool) (offered less : Tally) (octets : ℕ) → less.frames ≤ offered.frames →
    less.octets ≤ offered.octets →
    ((with_frame_if b less octets).frames ≤ offered.frames + 1)
    × ((with_frame_if b less octets).octets ≤ offered.octets + octets)
came-few true offered less octets few low = (omega (arith, few), omega (arith, low))
came-few false offered less octets few low = (omega (arith, few), omega (arith, low))

-- each of the two has at most so much
abbrev pub IsFew : ℕ → Ended → Type 0
IsFew n ended = (ended.got.frames ≤ n) × (ended.got.octets ≤ 65536 * n) × (ended.lost.frames ≤ n) ×
    (ended.lost.octets ≤ 65536 * n)

abbrev by_got : Bool → Ended → CarriedFrame → Ended
by_got true ended frame =
    record { got = with_frame ended.got frame.octets; lost = ended.lost; delay = max ended.delay (delay_of frame) }
by_got false ended frame =
    record { got = ended.got; lost = with_frame ended.lost frame.octets; delay = ended.delay }

by-few : (b : Bool) (ended : Ended) (frame : CarriedFrame) (n : ℕ) → IsFew n ended → frame.octets < 65536 →
    IsFew (n + 1) (by_got b ended frame)
by-few true ended frame n few small =
    let a = few.0 in let b = few.1 in let c = few.2 in let d = few.3 in
    (omega (arith, a), omega (arith, b, small), omega (arith, c), omega (arith, d))
by-few false ended frame n few small =
    let a = few.0 in let b = few.1 in let c = few.2 in let d = few.3 in
    (omega (arith, a), omega (arith, b), omega (arith, c), omega (arith, d, small))

by-is : (b : Bool) (ended : Ended) (frame : CarriedFrame) → frame.got ≡ b → with_carried ended frame ≡ by_got b ended frame
by-is true ended frame is = rw is refl
by-is false ended frame is = rw is refl

pub carried-more : (ended : Ended) (frame : CarriedFrame) (n : ℕ) → IsFew n ended → frame.octets < 65536 →
    IsFew (n + 1) (with_carried ended frame)
carried-more ended frame n few small =
    subst (IsFew (n + 1)) (sym (by-is frame.got ended frame refl)) (by-few frame.got ended frame n few small)

-- ---- tick by tick
pub peak-next : (queue : ℕ → ℕ) (peak : Peak) (tick end : ℕ) → tick < end →
    peak_on queue peak tick (end - tick)
    ≡ peak_on queue (higher peak (queue tick) tick) (tick + 1) (end - (tick + 1))
unfolding peak_on
peak-next queue peak tick end low =
    ap (peak_on queue peak tick) (let e : end - tick ≡ suc (end - (tick + 1)) = omega (arith, low) in e)

pub peak-end : (queue : ℕ → ℕ) (peak : Peak) (tick end : ℕ) → end ≤ tick → peak_on queue peak tick (end - tick) ≡ peak
unfolding peak_on
peak-end queue peak tick end high =
    ap (peak_on queue peak tick) (let e : end - tick ≡ 0 = omega (arith, high) in e)

-- ---- The columns of frames that have landed, frame by frame.
waits-more : (tally : Tally) (all : List EndedItem) (e : EndedItem) →
    waits_on tally (all ++ e ∷ []) ≡ with_frame_if (has_waited e.end) (waits_on tally all) (length e.frame)
unfolding waits_on
waits-more tally [] e = refl
waits-more tally (x ∷ all) e = waits-more (with_frame_if (has_waited x.end) tally (length x.frame)) all e

-- one more frame
pub landed-more : (all : List EndedItem) (old new : LandedFrames) (e : EndedItem) (octets : ℕ) → octets ≡ length e.frame →
    AreLanded all old → TakesFrame old new e.due octets e.end → AreLanded (all ++ e ∷ []) new
landed-more all old new e octets size are takes =
    let same : TakesFrame old new e.due (length e.frame) e.end =
    subst (λ n. TakesFrame old new e.due n e.end) size takes in
    record {
      offered = same.offered ∙ ap (λ l. l ++ offered_frame e ∷ []) are.offered
          ∙ sym (map-append offered_frame all (e ∷ []));
      accepted = same.accepted ∙ ap (λ l. l ++ due_if e.due e.end) are.accepted
          ∙ ap (λ l. accepted_of all ++ l) (sym (append-nil (due_if e.due e.end)))
          ∙ sym (flat_map-append (λ (ended : EndedItem). due_if ended.due ended.end) all (e ∷ []));
      carried = same.carried ∙ ap (λ l. l ++ option_to_list (carried_end e.due (length e.frame) e.end)) are.carried
          ∙ ap (λ l. carried_of all ++ l)
          (sym (append-nil (option_to_list (carried_end e.due (length e.frame) e.end))))
          ∙ sym (flat_map-append
          (λ (ended : EndedItem). option_to_list (carried_end ended.due (length ended.frame) ended.end)) all (e ∷ []));
      waits = same.waits ∙ ap (λ t. with_frame_if (has_waited e.end) t (length e.frame)) are.waits
          ∙ sym (waits-more no_frames all e);
    }

-- ---- frames that were taken from a walk
pub record FramesTaken (leg : Leg) (s : Counts) (cursor : Cursor) (landed : LandedFrames) (done : List EndedItem) : Type 0 where
  pub at : IsAt leg s cursor
  pub columns : AreLanded done landed
  pub size : length done ≡ frames_before_item leg cursor.item
  pub waits : landed.waits.frames ≤ length done
  pub octets : landed.waits.octets ≤ 65536 * length done
  pub rest : ended_of leg s ≡ done ++ ended_on leg (fates_in leg s.rows) (frames_left leg cursor)
      (length landed.accepted.items)

pub taken-begun : (leg : Leg) (s : Counts) (cursor : Cursor) (landed : LandedFrames) → IsAt leg s cursor →
    cursor.item ≡ 0 → AreLanded [] landed → FramesTaken leg s cursor landed []
unfolding waits_on
taken-begun leg s cursor landed at first none =
    let before : frames_before_item leg cursor.item ≡ 0 = ap (frames_before_item leg) first in
    let all : s.frames ≡ cursor.left = omega (arith, at.left, before) in
    let waits = ap (λ (t : Tally). t.frames) none.waits in
    let octets = ap (λ (t : Tally). t.octets) none.waits in
    record {
      at = at;
      columns = none;
      size = sym before;
      waits = omega (arith, waits);
      octets = omega (arith, octets);
      rest = commands-none leg (fates_in leg s.rows) s.frames s.commands 0 leg.items 0
          ∙ ap (λ n. ended_on leg (fates_in leg s.rows) (landed_from n 0 0 leg.items) 0) all
          ∙ ap (λ i. ended_on leg (fates_in leg s.rows) (landed_from cursor.left 0 i (drop i leg.items)) 0)
          (sym first)
          ∙ ap (ended_on leg (fates_in leg s.rows) (frames_left leg cursor)) (sym (ap length none.accepted));
    }

accepted-size : (leg : Leg) (fate : ℕ → Fate) (why : Option Refusal) (i due : ℕ) (before after : List ℕ) →
    after ≡ before ++ due_if due (end_by fate why i) → length after ≡ accepted_by leg fate why (length before)
accepted-size leg fate None i due before after is =
    let one = ap length is in let all = length-append before (due ∷ []) in omega (arith, one, all)
accepted-size leg fate (Some why) i due before after is = ap length (is ∙ append-nil before)

pub taken-next : (leg : Leg) (s : Counts) (was now : Cursor) (old new : LandedFrames) (done : List EndedItem)
    (found : LandedFrame) (next : IsNext leg was now found) → found.length < 65536 →
    FramesTaken leg s was old done → IsAt leg s now →
    TakesFrame old new found.due found.length
    (end_by (fates_in leg s.rows) found.refusal (length old.accepted.items)) →
    FramesTaken leg s now new
    (done ++ ended_frame leg (fates_in leg s.rows) found next.octets (length old.accepted.items) ∷ [])
taken-next leg s was now old new done found next small come at takes =
    let fate = fates_in leg s.rows in
    let i : ℕ = length old.accepted.items in
    let own : EndedItem = ended_frame leg fate found next.octets i in
    let size = length-append done (own ∷ []) in
    let waits = tally-few (has_waited own.end) old.waits found.length (length done) come.waits come.octets small in
    let octets = ap (λ (t : Tally). t.octets) takes.waits in
    record {
      at = at;
      columns = landed-more done old new own found.length next.length_is come.columns takes;
      size = (let before = come.size in let after = next-count leg was now found next in
          omega (arith, size, before, after));
      waits = (let low = waits.0 in omega (arith, size, low, ap (λ (t : Tally). t.frames) takes.waits));
      octets = (let low = waits.1 in omega (arith, size, low, octets));
      rest = come.rest
          ∙ ap (λ l. done ++ l) (next-ended leg fate was now found next i)
          ∙ ap (λ n. done ++ own ∷ ended_on leg fate (frames_left leg now) n)
          (sym (accepted-size leg fate found.refusal i found.due old.accepted.items new.accepted.items takes.accepted))
          ∙ sym (append_assoc done (own ∷ []) (ended_on leg fate (frames_left leg now) (length new.accepted.items)));
    }

pub taken-few : (leg : Leg) (s : Counts) (cursor : Cursor) (landed : LandedFrames) (done : List EndedItem) →
    FramesTaken leg s cursor landed done → length done ≤ most_items
taken-few leg s cursor landed done come =
    let offers = offers-few (take cursor.item leg.items) in
    omega (arith, come.size, offers, length-take cursor.item leg.items, come.at.sound.few)

accepted-few : (all : List EndedItem) → length (accepted_of all) ≤ length all
accepted-few [] = omega arith
accepted-few (e ∷ all) =
    omega (arith, length-append (due_if e.due e.end) (accepted_of all), accepted-few all, one e.end)
  where
    one : (end : End) → length (due_if e.due end) ≤ 1
    one (refused why) = omega arith
    one (accepted fate) = omega arith

pub carried-few : (all : List EndedItem) → length (carried_of all) ≤ length all
carried-few [] = omega arith
carried-few (e ∷ all) =
    let parts = length-append (option_to_list (carried_end e.due (length e.frame) e.end)) (carried_of all) in
    omega (arith, parts, carried-few all, one (carried_end e.due (length e.frame) e.end))
  where
    one : (o : Option CarriedFrame) → length (option_to_list o) ≤ 1
    one None = omega arith
    one (Some frame) = omega arith

pub landed-accepted-few : (all : List EndedItem) (landed : LandedFrames) → AreLanded all landed →
    length landed.accepted.items ≤ length all
landed-accepted-few all landed are =
    let same = ap length are.accepted in let few = accepted-few all in omega (arith, same, few)

pub taken-past : (leg : Leg) (s : Counts) (cursor : Cursor) (landed : LandedFrames) (done : List EndedItem) →
    FramesTaken leg s cursor landed done → IsPast leg s cursor → done ≡ ended_of leg s
unfolding ended_on
taken-past leg s cursor landed done come past =
    sym (come.rest ∙ ap (λ l. done ++ ended_on leg (fates_in leg s.rows) l (length landed.accepted.items)) past.none
    ∙ append-nil done)

-- ---- How many frames a walk has at most.
then-few : (fate : ℕ → Fate) (item : Numbered) (why : Option Refusal) (kind : ItemKind) (i n : ℕ)
    (others : ℕ → List EndedItem) → ((m : ℕ) → length (others m) ≤ n) →
    length (ended_then fate item why kind i others) ≤ suc n
then-few fate item None (Frame octets) i n others few = let rest = few (suc i) in omega (arith, rest)
then-few fate item (Some why) (Frame octets) i n others few = let rest = few i in omega (arith, rest)
then-few fate item None (Add line) i n others few = let rest = few i in omega (arith, rest)
then-few fate item (Some why) (Add line) i n others few = let rest = few i in omega (arith, rest)
then-few fate item None (Remove line) i n others few = let rest = few i in omega (arith, rest)
then-few fate item (Some why) (Remove line) i n others few = let rest = few i in omega (arith, rest)

on-few : (leg : Leg) (fate : ℕ → Fate) (items : List Numbered) (i : ℕ) →
    length (ended_on leg fate items i) ≤ length items
unfolding ended_on
on-few leg fate [] i = omega arith
on-few leg fate (item ∷ items) i =
    then-few fate item (refusal_at leg item) item.item.kind i (length items) (ended_on leg fate items)
    (λ m. on-few leg fate items m)

pub ended-few : (leg : Leg) (s : Counts) → IsSound leg → length (ended_of leg s) ≤ most_items
ended-few leg s sound =
    let all = on-few leg (fates_in leg s.rows) (landed_items leg s) 0 in
    omega (arith, all, landed-few s.frames s.commands 0 leg.items, sound.few)

module _ (leg : Leg) (s : Counts) (landed : LandedFrames) (sound : IsSound leg) (are : AreLanded (ended_of leg s) landed) where
  pub offered-count : length landed.offered.items ≤ most_items
  offered-count =
      omega (arith, ap length are.offered, length-map (ended_of leg s) offered_frame, ended-few leg s sound)

  pub accepted-count : length landed.accepted.items ≤ most_items
  accepted-count = omega (arith, landed-accepted-few (ended_of leg s) landed are, ended-few leg s sound)

  pub carried-count : length landed.carried.items ≤ most_items
  carried-count = omega (arith, ap length are.carried, carried-few (ended_of leg s), ended-few leg s sound)

-- ---- how late they are
abbrev ItemEarly : ℕ → Item → Type 0
ItemEarly n item = item.due < n

abbrev NumberedEarly : ℕ → Numbered → Type 0
NumberedEarly n item = item.item.due < n

abbrev EndedEarly : ℕ → EndedItem → Type 0
EndedEarly n ended = ended.due < n

abbrev pub OfferedEarly : ℕ → OfferedFrame → Type 0
OfferedEarly n frame = frame.due < n

if-early : (n : ℕ) (there : Bool) (item : Numbered) (items : List Numbered) → NumberedEarly n item →
    All (NumberedEarly n) items → All (NumberedEarly n) (with_if there item items)
if-early n true item items own rest = All-cons (NumberedEarly n) item items own rest
if-early n false item items own rest = rest

landed-early : (n a b i : ℕ) (items : List Item) → All (ItemEarly n) items →
    All (NumberedEarly n) (landed_from a b i items)
unfolding landed_from
landed-early n a b i [] early = All-nil (NumberedEarly n)
landed-early n a b i (item ∷ items) early =
    let own = All-head (ItemEarly n) item items early in
    let rest = All-tail (ItemEarly n) item items early in
    elim (cases_Bool (is_client item.kind)) [
      | inl client ↦ rw client (if-early n (nat_lt 0 a) (record { number = i; item = item })
          (landed_from (a - 1) b (suc i) items) own (landed-early n (a - 1) b (suc i) items rest))
      | inr other ↦ rw other (if-early n (nat_lt 0 b) (record { number = i; item = item })
          (landed_from a (b - 1) (suc i) items) own (landed-early n a (b - 1) (suc i) items rest))
    ]

then-early : (n : ℕ) (fate : ℕ → Fate) (item : Numbered) (why : Option Refusal) (kind : ItemKind) (i : ℕ)
    (others : ℕ → List EndedItem) → NumberedEarly n item → ((m : ℕ) → All (EndedEarly n) (others m)) →
    All (EndedEarly n) (ended_then fate item why kind i others)
then-early n fate item None (Frame octets) i others own rest =
    All-cons (EndedEarly n) (ended_by item octets (accepted (fate i))) (others (suc i)) own (rest (suc i))
then-early n fate item (Some why) (Frame octets) i others own rest =
    All-cons (EndedEarly n) (ended_by item octets (refused why)) (others i) own (rest i)
then-early n fate item None (Add line) i others own rest = rest i
then-early n fate item (Some why) (Add line) i others own rest = rest i
then-early n fate item None (Remove line) i others own rest = rest i
then-early n fate item (Some why) (Remove line) i others own rest = rest i

on-early : (n : ℕ) (leg : Leg) (fate : ℕ → Fate) (items : List Numbered) (i : ℕ) → All (NumberedEarly n) items →
    All (EndedEarly n) (ended_on leg fate items i)
unfolding ended_on
on-early n leg fate [] i early = All-nil (EndedEarly n)
on-early n leg fate (item ∷ items) i early =
    then-early n fate item (refusal_at leg item) item.item.kind i (ended_on leg fate items)
    (All-head (NumberedEarly n) item items early)
    (λ m. on-early n leg fate items m (All-tail (NumberedEarly n) item items early))

offered-early : (n : ℕ) (all : List EndedItem) → All (EndedEarly n) all → All (OfferedEarly n) (offered_of all)
offered-early n [] early = All-nil (OfferedEarly n)
offered-early n (e ∷ all) early =
    All-cons (OfferedEarly n) (offered_frame e) (offered_of all) (All-head (EndedEarly n) e all early)
    (offered-early n all (All-tail (EndedEarly n) e all early))

items-early : (n most : ℕ) (items : List Item) → n ≤ most → All (IsItem n) items → All (ItemEarly most) items
items-early n most [] low each = All-nil (ItemEarly most)
items-early n most (item ∷ items) low each =
    All-cons (ItemEarly most) item items
    (let own = (All-head (IsItem n) item items each).0 in omega (arith, own, low))
    (items-early n most items low (All-tail (IsItem n) item items each))

pub offered-soon : (leg : Leg) (s : Counts) → IsSound leg → All (OfferedEarly most_ticks) (offered_of (ended_of leg s))
offered-soon leg s sound =
    offered-early most_ticks (ended_of leg s)
    (on-early most_ticks leg (fates_in leg s.rows) (landed_items leg s) 0
    (landed-early most_ticks s.frames s.commands 0 leg.items
    (items-early leg.config.ticks most_ticks leg.items (omega (arith, sound.network.ticks.1)) sound.items.each)))

-- ---- How many frames have a delay of at most so many ticks, and the least number that meets a test.
one-more : (got : Bool) (delay d e n m : ℕ) → d ≤ e → n ≤ m →
    (if got && nat_le delay d then n + 1 else n) ≤ (if got && nat_le delay e then m + 1 else m)
one-more false delay d e n m low less = less
one-more true delay d e n m low less =
    elim (cases_lt d delay) [
      | inl late ↦ rw (lt-leb delay d late)
          (elim (cases_Bool (nat_le delay e)) [
            | inl fits ↦ rw fits (omega (arith, less))
            | inr over ↦ rw over less
          ])
      | inr soon ↦ rw (le-leb delay d soon, le-leb delay e (omega (arith, soon, low))) (omega (arith, less))
    ]

-- more ticks have no fewer frames
pub within-rises : (frames : List CarriedFrame) (d e n m : ℕ) → d ≤ e → n ≤ m →
    within_on n d frames ≤ within_on m e frames
unfolding within_on
within-rises [] d e n m low less = less
within-rises (frame ∷ frames) d e n m low less =
    within-rises frames d e (if frame.got && nat_le (delay_of frame) d then n + 1 else n)
    (if frame.got && nat_le (delay_of frame) e then m + 1 else m) low
    (one-more frame.got (delay_of frame) d e n m low less)

-- no number before it meets the test, and it does, or it is the one behind all
pub least-is : (test : ℕ → Bool) (n count least : ℕ) → n ≤ least → least ≤ n + count →
    ((d : ℕ) → d < least → test d ≡ false) → (least < n + count → test least ≡ true) →
    least_from test n count ≡ least
unfolding least_from
least-is test n zero least low high none some = omega (arith, low, high)
least-is test n (suc count) least low high none some =
    elim (cases_lt n least) [
      | inl later ↦ rw (none n later)
          (least-is test (n + 1) count least (omega (arith, later)) (omega (arith, high)) none
          (λ before. some (omega (arith, before))))
      | inr here ↦
          let same : n ≡ least = omega (arith, low, here) in
          rw (ap test same ∙ some (omega (arith, here))) same
    ]

-- ---- What becomes of frames, counted in their columns and end by end.
-- ---- end by end
abbrev one_if : Bool → ℕ
one_if b = if b then 1 else 0

abbrev octets_if : Bool → ℕ → ℕ
octets_if b octets = if b then octets else 0

abbrev pub ended_listed : EndedItem → List CarriedFrame
ended_listed ended = option_to_list (carried_end ended.due (length ended.frame) ended.end)

-- one that is refused, got or waits is in no other column
abbrev EndAdds : ℕ → ℕ → End → Type 0
EndAdds due octets end =
    let those = option_to_list (carried_end due octets end) in
    (1 ≡ one_if (is_refused end) + sum_by got_one those + sum_by lost_one those + one_if (has_waited end))
    × (octets ≡ octets_if (is_refused end) octets + sum_by got_octets those + sum_by lost_octets those
    + octets_if (has_waited end) octets)
    × (sum_by got_one those ≡ one_if (has_got end))
    × (sum_by got_octets those ≡ octets_if (has_got end) octets)

end-adds : (due octets : ℕ) (end : End) → EndAdds due octets end
end-adds due octets (refused why) = (refl, omega arith, refl, refl)
end-adds due octets (accepted Waits) = (refl, omega arith, refl, refl)
end-adds due octets (accepted (Cut r q t)) = (refl, omega arith, refl, refl)
end-adds due octets (accepted (Unconfirmed r q)) = (refl, omega arith, refl, refl)
end-adds due octets (accepted (Hunting r q)) = (refl, omega arith, refl, refl)
end-adds due octets (accepted (Unsettled r q)) = (refl, omega arith, refl, refl)
end-adds due octets (accepted (Got r q)) = (refl, omega arith, refl, omega arith)

-- ---- the columns
waits-step : (tally : Tally) (ended : EndedItem) (octets : ℕ) →
    ((with_frame_if (has_waited ended.end) tally octets).frames ≡ tally.frames + one_if (has_waited ended.end))
    × ((with_frame_if (has_waited ended.end) tally octets).octets
    ≡ tally.octets + octets_if (has_waited ended.end) octets)
waits-step tally ended octets = by (has_waited ended.end)
  where
    by : (b : Bool) → ((with_frame_if b tally octets).frames ≡ tally.frames + one_if b)
        × ((with_frame_if b tally octets).octets ≡ tally.octets + octets_if b octets)
    by true = (refl, refl)
    by false = (omega arith, omega arith)

abbrev next_waits : Tally → EndedItem → Tally
next_waits tally ended = with_frame_if (has_waited ended.end) tally (length ended.frame)

pub waits-frames : (all : List EndedItem) →
    (waits_of all).frames ≡ sum_by (λ (ended : EndedItem). one_if (has_waited ended.end)) all
unfolding waits_on
waits-frames all =
    let e = counted waits_on next_waits (λ b. refl) (λ b x xs. refl) (λ (tally : Tally). tally.frames)
    (λ (ended : EndedItem). one_if (has_waited ended.end))
    (λ tally ended. (waits-step tally ended (length ended.frame)).0) no_frames all in
    omega (arith, e)

pub waits-octets : (all : List EndedItem) →
    (waits_of all).octets ≡ sum_by (λ (ended : EndedItem). octets_if (has_waited ended.end) (length ended.frame)) all
unfolding waits_on
waits-octets all =
    let e = counted waits_on next_waits (λ b. refl) (λ b x xs. refl) (λ (tally : Tally). tally.octets)
    (λ (ended : EndedItem). octets_if (has_waited ended.end) (length ended.frame))
    (λ tally ended. (waits-step tally ended (length ended.frame)).1) no_frames all in
    omega (arith, e)

pub refused-count : (all : List EndedItem) → sum_by refused_one (offered_of all) ≡ count_of is_refused all
refused-count all =
    sum-map-by refused_one offered_frame all ∙ sym (length-filter (λ (ended : EndedItem). is_refused ended.end) all)

pub got-count : (all : List EndedItem) → sum_by got_one (carried_of all) ≡ count_of has_got all
got-count all =
    sum-flat got_one ended_listed all
    ∙ sum-same (λ (ended : EndedItem). sum_by got_one (ended_listed ended)) (λ (ended : EndedItem). one_if (has_got ended.end))
    (λ ended. (end-adds ended.due (length ended.frame) ended.end).2) all
    ∙ sym (length-filter (λ (ended : EndedItem). has_got ended.end) all)

pub waits-count : (all : List EndedItem) → (waits_of all).frames ≡ count_of has_waited all
waits-count all = waits-frames all ∙ sym (length-filter (λ (ended : EndedItem). has_waited ended.end) all)

pub offered-count-frame : (all : List EndedItem) → sum_by (λ (frame : OfferedFrame). 1) (offered_of all) ≡ length all
offered-count-frame [] = refl
offered-count-frame (ended ∷ all) =
    let sum = sum_by-cons (λ (frame : OfferedFrame). 1) (offered_frame ended) (offered_of all) in
    omega (arith, sum, offered-count-frame all)

-- ---- the balance
pub frames-balance : (all : List EndedItem) → sum_by (λ (frame : OfferedFrame). 1) (offered_of all)
    ≡ sum_by refused_one (offered_of all) + sum_by got_one (carried_of all) + sum_by lost_one (carried_of all)
    + (waits_of all).frames
frames-balance all =
    let four = sum-four (λ (ended : EndedItem). 1) (λ (ended : EndedItem). one_if (is_refused ended.end))
    (λ (ended : EndedItem). sum_by got_one (ended_listed ended)) (λ (ended : EndedItem). sum_by lost_one (ended_listed ended))
    (λ (ended : EndedItem). one_if (has_waited ended.end))
    (λ ended. (end-adds ended.due (length ended.frame) ended.end).0) all in
    let offered = sum-map-by (λ (frame : OfferedFrame). 1) offered_frame all in
    let no = sum-map-by refused_one offered_frame all in
    let lost = sum-flat lost_one ended_listed all in
    omega (arith, four, offered, no, sum-flat got_one ended_listed all, lost, waits-frames all)

pub octets-balance : (all : List EndedItem) → sum_by (λ (frame : OfferedFrame). frame.octets) (offered_of all)
    ≡ sum_by refused_octets (offered_of all) + sum_by got_octets (carried_of all)
    + sum_by lost_octets (carried_of all) + (waits_of all).octets
octets-balance all =
    let four = sum-four (λ (ended : EndedItem). length ended.frame)
    (λ (ended : EndedItem). octets_if (is_refused ended.end) (length ended.frame))
    (λ (ended : EndedItem). sum_by got_octets (ended_listed ended))
    (λ (ended : EndedItem). sum_by lost_octets (ended_listed ended))
    (λ (ended : EndedItem). octets_if (has_waited ended.end) (length ended.frame))
    (λ ended. (end-adds ended.due (length ended.frame) ended.end).1) all in
    let offered = sum-map-by (λ (frame : OfferedFrame). frame.octets) offered_frame all in
    let no = sum-map-by refused_octets offered_frame all in
    let lost = sum-flat lost_octets ended_listed all in
    omega (arith, four, offered, no, sum-flat got_octets ended_listed all, lost, waits-octets all)

-- those that are got
pub got-frames-count : (all : List EndedItem) → sum_by got_one (carried_of all) ≡ length (got_frames all)
got-frames-count all =
    got-count all
    ∙ sym (length-map (filter (λ (ended : EndedItem). has_got ended.end) all) (λ (ended : EndedItem). ended.frame))

pub got-frames-octets : (all : List EndedItem) → sum_by got_octets (carried_of all) ≡ sum_by length (got_frames all)
got-frames-octets all =
    sum-flat got_octets ended_listed all
    ∙ sum-same (λ (ended : EndedItem). sum_by got_octets (ended_listed ended))
    (λ (ended : EndedItem). octets_if (has_got ended.end) (length ended.frame))
    (λ ended. (end-adds ended.due (length ended.frame) ended.end).3) all
    ∙ sym (sum-filter (λ (ended : EndedItem). length ended.frame) (λ (ended : EndedItem). has_got ended.end) all)
    ∙ sym (sum-map-by length (λ (ended : EndedItem). ended.frame) (filter (λ (ended : EndedItem). has_got ended.end) all))

-- ---- all that landed is told of
pub ticks-told : (told : ℕ) (frames : List OfferedFrame) → told ≤ told_on told frames
unfolding told_on
ticks-told told [] = omega arith
ticks-told told (frame ∷ frames) = omega (arith, ticks-told (max told (frame.due + 1)) frames)

abbrev DueBelow : ℕ → OfferedFrame → Type 0
DueBelow told frame = frame.due < told

told-all : (told : ℕ) (frames : List OfferedFrame) → All (DueBelow (told_on told frames)) frames
unfolding told_on
told-all told [] = All-nil (DueBelow told)
told-all told (frame ∷ frames) =
    let up = ticks-told (max told (frame.due + 1)) frames in
    All-cons (DueBelow (told_on (max told (frame.due + 1)) frames)) frame frames (omega (arith, up))
    (told-all (max told (frame.due + 1)) frames)

in-all : (told n : ℕ) → n < told → is_in 0 told n ≡ true
in-all told n low = ap₂ ◌&&◌ (le-leb 0 n (omega arith)) (lt-ltb n told low)

pub offered-whole : (ticks : ℕ) (frames : List OfferedFrame) →
    filter (λ (frame : OfferedFrame). is_in 0 (told_on ticks frames) frame.due) frames ≡ frames
offered-whole ticks frames =
    let told : ℕ = told_on ticks frames in
    filter-whole (λ (frame : OfferedFrame). is_in 0 told frame.due) frames
    (All-weaker (DueBelow told) (λ (frame : OfferedFrame). is_in 0 told frame.due ≡ true)
    (λ frame low. in-all told frame.due low) frames (told-all ticks frames))

pub carried-whole : (told : ℕ) (frames : List CarriedFrame) →
    All (λ (frame : CarriedFrame). frame.last < told) frames →
    filter (λ (frame : CarriedFrame). is_in 0 told frame.last) frames ≡ frames
carried-whole told frames each =
    filter-whole (λ (frame : CarriedFrame). is_in 0 told frame.last) frames
    (All-weaker (λ (frame : CarriedFrame). frame.last < told)
    (λ (frame : CarriedFrame). is_in 0 told frame.last ≡ true) (λ frame low. in-all told frame.last low) frames each)

-- ---- The last line beside the texts of `fates` and `walk`.
module _ (leg : Leg) (s : Counts) where
  abbrev all : List EndedItem
  all = ended_of leg s

  pub came-all : (all_of leg s).came ≡ came_of (offered_of all)
  came-all = ap came_of (offered-whole s.ticks (offered_of all))

module _ (leg : Leg) (s : Counts) (sound : IsSound leg) (walked : IsWalked leg s) where
  abbrev those : List EndedItem
  those = ended_of leg s

  pub rows-told : s.rows ≤ told_of leg s
  rows-told =
      let within = counts-within leg s (sound-walks leg sound) walked in
      omega (arith, within.0, ticks-told s.ticks (offered_of those))

  pub ended-all : (all_of leg s).ended ≡ ended_in_stretch (carried_of those)
  ended-all =
      ap ended_in_stretch (carried-whole (told_of leg s) (carried_of those)
      (λ k d low. let row = carried-rows leg s k d low in let up = rows-told in omega (arith, row, up)))

  -- ---- numbers of frames and octets
  abbrev came : Came
  came = (all_of leg s).came

  abbrev ended : EndedCounts
  ended = (all_of leg s).ended

  abbrev waits : Tally
  waits = (ends_of leg s).waits

  offered-is : came.offered.frames ≡ sum_by (λ (frame : OfferedFrame). 1) (offered_of those)
  offered-is = ap (λ (c : Came). c.offered.frames) (came-all leg s) ∙ offered-frames (offered_of those)

  refused-is : came.refused.frames ≡ sum_by refused_one (offered_of those)
  refused-is = ap (λ (c : Came). c.refused.frames) (came-all leg s) ∙ refused-frames (offered_of those)

  pub got-frames-are : ended.got.frames ≡ sum_by got_one (carried_of those)
  got-frames-are = ap (λ (e : EndedCounts). e.got.frames) ended-all ∙ got-frames (carried_of those)

  pub lost-frames-are : ended.lost.frames ≡ sum_by lost_one (carried_of those)
  lost-frames-are = ap (λ (e : EndedCounts). e.lost.frames) ended-all ∙ lost-frames (carried_of those)

  offered-octets-are : came.offered.octets ≡ sum_by (λ (frame : OfferedFrame). frame.octets) (offered_of those)
  offered-octets-are = ap (λ (c : Came). c.offered.octets) (came-all leg s) ∙ offered-octets (offered_of those)

  refused-octets-are : came.refused.octets ≡ sum_by refused_octets (offered_of those)
  refused-octets-are = ap (λ (c : Came). c.refused.octets) (came-all leg s) ∙ refused-octets (offered_of those)

  pub got-octets-are : ended.got.octets ≡ sum_by got_octets (carried_of those)
  got-octets-are = ap (λ (e : EndedCounts). e.got.octets) ended-all ∙ got-octets (carried_of those)

  pub lost-octets-are : ended.lost.octets ≡ sum_by lost_octets (carried_of those)
  lost-octets-are = ap (λ (e : EndedCounts). e.lost.octets) ended-all ∙ lost-octets (carried_of those)

  pub frames-add : came.offered.frames ≡ came.refused.frames + ended.got.frames + ended.lost.frames + waits.frames
  frames-add = omega (arith, frames-balance those, offered-is, refused-is, got-frames-are, lost-frames-are)

  pub octets-add : came.offered.octets
      ≡ came.refused.octets + ended.got.octets + ended.lost.octets + waits.octets
  octets-add =
      let balance = octets-balance those in
      omega (arith, balance, offered-octets-are, refused-octets-are, got-octets-are, lost-octets-are)

  -- ---- the text of fates
  abbrev text_by : ℕ → ℕ → ℕ → ℕ → ℕ → List ℕ
  text_by frames got lost waiting refusals =
      codes "fates ticks " ++ decimal s.ticks ++ codes " taken " ++ decimal s.rows
      ++ codes " frames " ++ decimal frames ++ codes " got " ++ decimal got ++ codes " lost " ++ decimal lost
      ++ codes " waits " ++ decimal waiting ++ codes " refused " ++ decimal refusals
      ++ codes " starts " ++ truth_text (are_true_marks (session_pieces leg) (session_rows leg s.rows)) ++ codes "\n"

  pub fates-told : fates_end s.ticks s.rows those (are_true_marks (session_pieces leg) (session_rows leg s.rows))
      ≡ fates_line (all_of leg s) (ends_of leg s)
  fates-told =
      let offered : came.offered.frames ≡ length those = offered-is ∙ offered-count-frame those in
      let no : came.refused.frames ≡ count_of is_refused those = refused-is ∙ refused-count those in
      let got : ended.got.frames ≡ count_of has_got those = got-frames-are ∙ got-count those in
      let waiting : waits.frames ≡ count_of has_waited those = waits-count those in
      let frames : length those - count_of is_refused those ≡ came.offered.frames - came.refused.frames =
      omega (arith, offered, no) in
      let lost : length those - (count_of is_refused those + count_of has_got those + count_of has_waited those)
      ≡ ended.lost.frames = omega (arith, frames-add, offered, no, got, waiting) in
      ap₂ (λ f g. text_by f g
      (length those - (count_of is_refused those + count_of has_got those + count_of has_waited those))
      (count_of has_waited those) (count_of is_refused those)) frames (sym got)
      ∙ ap₂ (λ l w. text_by (came.offered.frames - came.refused.frames) ended.got.frames l w
      (count_of is_refused those)) lost (sym waiting)
      ∙ ap (text_by (came.offered.frames - came.refused.frames) ended.got.frames ended.lost.frames waits.frames)
      (sym no)

  -- ---- the got lines of a walk
  pub walk-got : (ends_of leg s).starts ≡ true → ended.got ≡ tally_of (delivered_of leg s.rows)
  walk-got starts =
      let same = got-delivered leg s sound walked starts in
      ap₂ (λ f o. record { frames = f; octets = o })
      (got-frames-are ∙ got-frames-count those ∙ ap length same)
      (got-octets-are ∙ got-frames-octets those ∙ ap (sum_by length) same)
