-- The accepted frames among those landed, those of them that rows carry by their fates, and their headers.
use Rattle.std.proofs.Common.{◌≡◌, ℕ, zero, suc, ◌+◌, ◌-◌, ◌<◌, ◌≤◌, Bool, true, false, List, [], ◌∷◌, ◌++◌, length}
use Rattle.std.proofs.Common.{map, filter, take, drop, All, Option, Some, None, slice_get, refl, sym, ◌∙◌, ap, ap₂}
use Rattle.std.proofs.Common.{subst, arith, inl, inr, append-nil, append_assoc, length-append, length-take, option_map}
use Rattle.std.proofs.Common.{nat_lt, nat_le, ◌||◌, if◌then◌else◌, flat_map, ltb-false, take-append-drop, Contains}
use Rattle.std.proofs.lemmas.Bool.{cases_Bool, lt-leb}
use Rattle.std.proofs.lemmas.List.{length-map, map-append}
use Rattle.std.proofs.lemmas.List.Elements.{All-tail, All-weaker, filter-append, All-nil, All-cons}
use Rattle.law_model.proofs.ListLaws.{slice_get-append_seam, take-one}
use Rattle.law_model.specs.Common.{Leg, shortest_frame, longest_frame, most_waiting, Piece, stream_of, Scenario}
use Rattle.law_model.specs.Common.{scenario_by, Told, place_of, stream_before, frames_in, refusal_while, Counts}
use Rattle.law_model.specs.Common.{octets_of_rows, Extent, extents, is_carried, IsSound, StreamRow, Segment, segments}
use Rattle.law_model.specs.Common.{lies_in, confirmed_in, core_header, idle, client, size_of, area_of, joined}
use Rattle.law_model.specs.Common.{with_header, frames_by}
use Rattle.law_model.specs.declared.script_types.Item.{Item}
use Rattle.law_model.specs.declared.script_types.ItemKind.{ItemKind}
use Rattle.law_model.specs.declared.item_refusals.AcceptFault.TheVariants.{Length, QueueFull}
use Rattle.law_model.specs.declared.item_refusals.Refusal.{Refusal}
use Rattle.law_model.specs.declared.script_types.ItemKind.TheVariants.{Frame, Add, Remove}
use Rattle.law_session.proofs.ClientStreamAndReplayLaws.{stream-reaches, stream_before-frames}
use Rattle.law_loss.proofs.ClientFrameExtentLaws.{filter-none, IsBetween, extents-between, extents-append}
use Rattle.law_loss.proofs.ClientFrameExtentLaws.{frames_ended, no_octets}
use Rattle.law_loss.proofs.SessionStreamLossLaws.{frames-extents, pieces-begin, rows-length}
use Rattle.law_model.specs.declared.item_refusals.Refusal.TheVariants.{Frame as frame_fault}
use Rattle.law_walk.specs.Common.{session_of, IsWalked, session_rows, Numbered, is_client, with_if, landed_from}
use Rattle.law_walk.specs.Common.{landed_items, refusal_at, frame_by, session_extents, session_waiting}
use Rattle.law_walk.proofs.WalkPlanAndPoppedCellLaws.{sound-walks}
use Rattle.law_walk.proofs.AcceptedFrameAndDrainedWalkLaws.{counts-within, frames-known}
use Rattle.fate_engine.proofs.GotFateAndLandedFrameLaws.{accepts, landed-first, before-few}
use Rattle.fate_walks.specs.declared.walk_frames.landed_cursor.LandedFrame.{LandedFrame}
use Rattle.fate_walks.specs.walk_frames.ItemCursor.{Cursor, frames_before_item, frames_left, IsAt, IsNext, IsPast}
use Rattle.fate_walks.specs.walk_frames.StreamInTicks.{stream_in}
use Rattle.fate_walks.proofs.CursorAndRulerLaws.{landed-client, landed-other, next-count, next-refusal}
use Rattle.fate_walks.proofs.FatesAndSeenRowsLaws.{offers-few}
use Rattle.std.specs.List.{list_any}
use Rattle.fate_engine.specs.Common.{row_at, spoiled_after, is_settled_by, fate_after, fate_in, fate_among}
use Rattle.fate_engine.specs.Common.{carried_fate, fate_of, fate_at, fate_if}
use Rattle.fate_engine.specs.declared.fate_law.Fate.{Fate}
use Rattle.fate_engine.specs.declared.fate_law.Fate.TheVariants.{Cut}
use Rattle.fate_walks.specs.walk_gfp.CarriedInRows.{with_last_row, carried_among, carried_frames}
use Rattle.fate_walks.specs.walk_gfp.LastRowOfFrame.{last_row, frame_if}
use Rattle.std.proofs.Math.Seq.{take-append_seam, drop-append_seam}
use Rattle.law_model.proofs.CoreHeaderLaws.{length-core_header}
use Rattle.law_model.proofs.ScrambledBitAndAreaLaws.{scrambled_behind, map-length-scrambled_behind}
use Rattle.law_model.proofs.StreamOfPiecesLaws.{stream_behind, stream_of-append, length-stream_of-cons}
use Rattle.text_captures.specs.capture_file.WrittenCapture.{RowFrame}
use Rattle.text_captures.specs.capture_file.GfpInCapture.{with_pattern, gfp_octets}
use Rattle.text_captures.proofs.WrittenCaptureFrameLaws.{pattern-on}

-- ---- The accepted frames among the items that have landed, one after another, and how many of them rows can carry.
-- the accepted frames of the items that have landed
abbrev pub landed_accepted : Leg → Counts → List (List ℕ)
landed_accepted leg s = flat_map (accepts leg) (landed_items leg s)

-- ---- the frame of an extent is the accepted one with its number
frame-at : (all : List Extent) (more : List (List ℕ)) (i : ℕ) (e : Extent) → slice_get all i ≡ Some e →
    slice_get (map (λ (e : Extent). e.frame) all ++ more) i ≡ Some e.frame
frame-at [] more zero e there = absurd cc
frame-at [] more (suc i) e there = absurd cc
frame-at (x ∷ all) more zero e there = ap (λ (y : Extent). Some y.frame) (let same : x ≡ e = cc in same)
frame-at (x ∷ all) more (suc i) e there = frame-at all more i e there

module _ (leg : Leg) (s : Counts) (sound : IsSound leg) where
  known : (later : List (List ℕ)) ×
      (map (λ (e : Extent). e.frame) (session_extents leg) ++ session_waiting leg ≡ landed_accepted leg s ++
      later)
  known = let first = landed-first leg s.frames s.commands in (first.0, frames-known leg sound ∙ first.1)

  pub frame-is : (done more : List (List ℕ)) (frame : List ℕ) → landed_accepted leg s ≡ done ++ frame ∷ more →
      (e : Extent) → slice_get (session_extents leg) (length done) ≡ Some e → e.frame ≡ frame
  frame-is done more frame parts e there =
      let all = known in
      let both : Some e.frame ≡ Some frame =
      sym (frame-at (session_extents leg) (session_waiting leg) (length done) e there)
      ∙ ap (λ l. slice_get l (length done))
      (all.1 ∙ ap (λ l. l ++ all.0) parts ∙ append_assoc done (frame ∷ more) all.0)
      ∙ slice_get-append_seam done frame (more ++ all.0) in
      cc

-- ---- the frames behind them aren't carried
drop-over : {X : Type 0} (P : X → Type 0) (k : ℕ) (front back : List X) → length front ≤ k → All P back →
    All P (drop k (front ++ back))
drop-over P zero [] back enough all = all
drop-over P (suc k) [] [] enough all = all
drop-over P (suc k) [] (x ∷ back) enough all = drop-over P k [] back (omega arith) (All-tail P x back all)
drop-over P zero (x ∷ front) back enough all = absurd (omega (arith, enough))
drop-over P (suc k) (x ∷ front) back enough all = drop-over P k front back (omega (arith, enough)) all

module _ (leg : Leg) (s : Counts) (sound : IsSound leg) (walked : IsWalked leg s) where
  abbrev Behind : Extent → Type 0
  Behind e = is_carried (length (octets_of_rows (session_rows leg s.rows))) e ≡ false

  within : (s.rows ≤ s.ticks) × (s.ticks ≤ leg.config.ticks)
  within = counts-within leg s (sound-walks leg sound) walked

  rows-low : s.rows ≤ leg.config.ticks
  rows-low = let w = within in omega (arith, w.0, w.1)

  late : (e : Extent) → place_of (scenario_by leg) (session_of leg) s.rows ≤ e.from → e.from < e.to → Behind e
  late e from some =
      let size = rows-length (scenario_by leg) (session_of leg) s.rows leg.config.ticks rows-low in
      lt-leb e.to (length (octets_of_rows (session_rows leg s.rows))) (omega (arith, size, from, some))

  all-behind : All Behind (drop (length (landed_accepted leg s)) (session_extents leg))
  all-behind =
      let scenario : Scenario = scenario_by leg in
      let cells : List (Option Told) = session_of leg in
      let front : List Piece = (stream_before scenario cells s.rows).pieces in
      let begins = pieces-begin scenario cells s.rows leg.config.ticks rows-low in
      let start : ℕ = 0 + length (stream_of front) in
      let parts : session_extents leg ≡ extents 0 front ++ extents start begins.0 = ap (extents 0) begins.1
      ∙ extents-append 0 front begins.0 in
      let reaches = stream-reaches scenario cells s.rows in
      let count : length (extents 0 front) ≡ length (frames_in front) =
      sym (length-map (extents 0 front) (λ (e : Extent). e.frame)) ∙ ap length (frames-extents 0 front) in
      let few : length (extents 0 front) ≤ length (landed_accepted leg s) =
      omega (
        arith,
        count,
        ap length (stream_before-frames scenario cells s.rows),
        length-append (frames_in front) (stream_before scenario cells s.rows).waiting,
        before-few leg s s.rows sound walked within.0,
      ) in
      subst (λ l. All Behind (drop (length (landed_accepted leg s)) l)) (sym parts)
      (drop-over Behind (length (landed_accepted leg s)) (extents 0 front) (extents start begins.0) few
      (All-weaker (IsBetween start (start + length (stream_of begins.0))) Behind
      (λ e is. late e (omega (arith, is.lower, reaches)) is.size) (extents start begins.0)
      (extents-between start begins.0)))

  pub none-behind : filter (is_carried (length (octets_of_rows (session_rows leg s.rows))))
      (drop (length (landed_accepted leg s)) (session_extents leg)) ≡ []
  none-behind = filter-none (is_carried (length (octets_of_rows (session_rows leg s.rows))))
      (drop (length (landed_accepted leg s)) (session_extents leg)) all-behind

-- ---- a frame that isn't refused isn't long
not-refused : (waiting : List (List ℕ)) (frame : List ℕ) → option_map frame_fault (refusal_while waiting frame) ≡ None →
    length frame ≤ longest_frame
not-refused waiting frame none =
    by (nat_lt (length frame) shortest_frame) (nat_lt longest_frame (length frame)) refl none
  where
    by : (a b : Bool) → nat_lt longest_frame (length frame) ≡ b →
        option_map frame_fault (if a || b then Some (Length (length frame))
        else (if nat_le most_waiting (length waiting) then Some (QueueFull most_waiting) else None)) ≡ None →
        length frame ≤ longest_frame
    by true b at none = absurd (let e : Some (frame_fault (Length (length frame))) ≡ None = none in cc)
    by false true at none = absurd (let e : Some (frame_fault (Length (length frame))) ≡ None = none in cc)
    by false false at none = let low = ltb-false longest_frame (length frame) at in omega (arith, low)

-- ---- item by item
module _ (leg : Leg) where
  no-client : (item : Numbered) (why : Option Refusal) (kind : ItemKind) → is_client kind ≡ false →
      frame_by why kind ≡ []
  no-client item None (Frame octets) other = absurd (let e : true ≡ false = other in cc)
  no-client item None (Add line) other = refl
  no-client item None (Remove line) other = refl
  no-client item (Some why) kind other = refl

  with-skips : (there : Bool) (item : Numbered) (rest : List Numbered) → is_client item.item.kind ≡ false →
      flat_map (accepts leg) (with_if there item rest) ≡ flat_map (accepts leg) rest
  with-skips true item rest other =
      ap (λ l. l ++ flat_map (accepts leg) rest)
      (no-client item (refusal_at leg item) item.item.kind other)
  with-skips false item rest other = refl

  with-same : (there : Bool) (item : Numbered) (xs ys : List Numbered) →
      flat_map (accepts leg) xs ≡ flat_map (accepts leg) ys →
      flat_map (accepts leg) (with_if there item xs) ≡ flat_map (accepts leg) (with_if there item ys)
  with-same true item xs ys same = ap (λ l. accepts leg item ++ l) same
  with-same false item xs ys same = same

  -- commands are no frames
  pub commands-none : (a b i : ℕ) (items : List Item) →
      flat_map (accepts leg) (landed_from a b i items) ≡ flat_map (accepts leg) (landed_from a 0 i items)
  unfolding landed_from
  commands-none a b i [] = refl
  commands-none a b i (item ∷ items) =
      let own : Numbered = record { number = i; item = item } in
      let F : List Numbered → List (List ℕ) = λ l. flat_map (accepts leg) l in
      elim (cases_Bool (is_client item.kind)) [
        | inl is ↦ ap F (landed-client a b i item items is)
            ∙ with-same (nat_lt 0 a) own (landed_from (a - 1) b (suc i) items) (landed_from (a - 1) 0 (suc i) items)
            (commands-none (a - 1) b (suc i) items)
            ∙ sym (ap F (landed-client a 0 i item items is))
        | inr other ↦ ap F (landed-other a b i item items other)
            ∙ with-skips (nat_lt 0 b) own (landed_from a (b - 1) (suc i) items) other
            ∙ commands-none a (b - 1) (suc i) items
            ∙ sym (ap F (landed-other a 0 i item items other))
      ]

-- ---- the accepted frames so far
pub record Accepted (leg : Leg) (s : Counts) (cursor : Cursor) (count : ℕ) : Type 0 where
  pub at : IsAt leg s cursor
  pub done : List (List ℕ)
  pub size : count ≡ length done
  pub few : count ≤ frames_before_item leg cursor.item
  pub rest : landed_accepted leg s ≡ done ++ flat_map (accepts leg) (frames_left leg cursor)

pub accepted-none : (leg : Leg) (s : Counts) (cursor : Cursor) → IsAt leg s cursor → cursor.item ≡ 0 →
    Accepted leg s cursor 0
accepted-none leg s cursor at first =
    let none : frames_before_item leg cursor.item ≡ 0 = ap (frames_before_item leg) first in
    let all : s.frames ≡ cursor.left = omega (arith, at.left, none) in
    let F : List Numbered → List (List ℕ) = λ l. flat_map (accepts leg) l in
    record {
      at = at;
      done = [];
      size = refl;
      few = omega arith;
      rest = commands-none leg s.frames s.commands 0 leg.items
          ∙ ap (λ n. F (landed_from n 0 0 leg.items)) all
          ∙ ap (λ i. F (landed_from cursor.left 0 i (drop i leg.items))) (sym first);
    }

pub accepted-few : (leg : Leg) (s : Counts) (cursor : Cursor) (count : ℕ) → Accepted leg s cursor count →
    count < 4294967295
accepted-few leg s cursor count is =
    let offers = offers-few (take cursor.item leg.items) in
    omega (arith, is.few, offers, length-take cursor.item leg.items, is.at.sound.few)

module _ (leg : Leg) (s : Counts) (was now : Cursor) (count : ℕ) (found : LandedFrame)
    (is : Accepted leg s was count) (next : IsNext leg was now found) where
  abbrev own : Numbered
  own = record { number = found.number; item = next.item }

  next-accepts : accepts leg own ≡ frame_by found.refusal (Frame next.octets)
  next-accepts = ap₂ frame_by (sym next.refusal) next.kind

  parts : landed_accepted leg s ≡ is.done ++ frame_by found.refusal (Frame next.octets) ++ flat_map (accepts leg)
      (frames_left leg now)
  parts =
      is.rest ∙ ap (λ l. is.done ++ flat_map (accepts leg) l) next.rest
      ∙ ap (λ l. is.done ++ (l ++ flat_map (accepts leg) (frames_left leg now))) next-accepts
      ∙ sym (append_assoc is.done (frame_by found.refusal (Frame next.octets))
      (flat_map (accepts leg) (frames_left leg now)))

  pub next-less : length (frames_left leg now) < length (frames_left leg was)
  next-less = let rest = ap length next.rest in omega (arith, rest)

  pub accepted-not : (why : Refusal) → found.refusal ≡ Some why → IsAt leg s now → Accepted leg s now count
  accepted-not why refused at = record {
    at = at;
    done = is.done;
    size = is.size;
    few = (let few = is.few in let more = next-count leg was now found next in omega (arith, few, more));
    rest = parts ∙ ap (λ r. is.done ++ frame_by r (Frame next.octets) ++ flat_map (accepts leg)
        (frames_left leg now)) refused
        ∙ ap (λ l. l ++ flat_map (accepts leg) (frames_left leg now)) (append-nil is.done);
  }

  module _ (none : found.refusal ≡ None) where
    whole : landed_accepted leg s ≡ is.done ++ next.octets ∷ [] ++ flat_map (accepts leg) (frames_left leg now)
    whole = parts ∙ ap (λ r. is.done ++ frame_by r (Frame next.octets) ++ flat_map (accepts leg)
        (frames_left leg now)) none

    pub accepted-more : (more : ℕ) → more ≡ count + 1 → IsAt leg s now → Accepted leg s now more
    accepted-more more one at = record {
      at = at;
      done = is.done ++ next.octets ∷ [];
      size = (let size = is.size in let both = length-append is.done (next.octets ∷ []) in
          omega (arith, size, both, one));
      few = (let few = is.few in let later = next-count leg was now found next in omega (arith, few, later, one));
      rest = whole;
    }

    pub accepted-frame : (e : Extent) → slice_get (session_extents leg) count ≡ Some e → e.frame ≡ next.octets
    accepted-frame e there =
        frame-is leg s is.at.sound is.done (flat_map (accepts leg) (frames_left leg now)) next.octets
        (whole ∙ append_assoc is.done (next.octets ∷ []) (flat_map (accepts leg) (frames_left leg now)))
        e (ap (slice_get (session_extents leg)) (sym is.size) ∙ there)

    pub accepted-low : length next.octets ≤ longest_frame
    accepted-low = not-refused (stream_in leg found.due (frames_before_item leg was.item)).waiting next.octets
        (sym (next-refusal leg was now found next) ∙ none)

pub accepted-all : (leg : Leg) (s : Counts) (cursor : Cursor) (count : ℕ) → Accepted leg s cursor count →
    IsPast leg s cursor → count ≡ length (landed_accepted leg s)
accepted-all leg s cursor count is past =
    is.size ∙ sym (ap length (is.rest ∙ ap (λ l. is.done ++ flat_map (accepts leg) l) past.none
    ∙ append-nil is.done))

-- ---- The frames that rows carry: by their fates, and one after another.
-- ---- the row of the last octet, by a frame's fate
module _ (all : List Extent) (e : Extent) (r q : ℕ) where
  after-last : (found : Option ℕ) → last_row (fate_after found all e r q) ≡ Some q
  after-last None = refl
  after-last (Some place) = by (nat_le place e.from) (list_any (is_settled_by place e) all) refl refl
    where
      by : (a b : Bool) → nat_le place e.from ≡ a → list_any (is_settled_by place e) all ≡ b →
          last_row (fate_after (Some place) all e r q) ≡ Some q
      by true true one two = rw (one, two) refl
      by true false one two = rw (one, two) refl
      by false b one two = rw one refl

  in-last : (first : Bool) (segment : Segment) → last_row (fate_in first segment all e r q) ≡ Some q
  in-last true segment = refl
  in-last false segment = after-last (confirmed_in segment)

  among-last : (other : Fate) (segments : List Segment) → last_row other ≡ Some q →
      last_row (fate_among other segments all e r q) ≡ Some q
  unfolding fate_among
  among-last other [] is = is
  among-last other (segment ∷ further) is =
      elim (cases_Bool (lies_in segment e)) [
        | inl lies ↦ rw lies (in-last segment.first segment)
        | inr apart ↦ rw apart (among-last other further is)
      ]

module _ (pieces : List Piece) (rows : List StreamRow) where
  abbrev carries : Extent → Bool
  carries e = is_carried (length (octets_of_rows rows)) e

  carried-last : (e : Extent) → last_row (carried_fate pieces rows e) ≡ Some (row_at rows (e.to - 1))
  carried-last e =
      let r = row_at rows e.from in
      let q = row_at rows (e.to - 1) in
      among-last (extents 0 pieces) e r q (Cut r q (spoiled_after rows r)) (segments rows) refl

  one-by : (e : Extent) → frame_if (last_row (fate_of pieces rows e)) e.frame ≡ carried_among rows (e ∷ [])
  one-by e =
      elim (cases_Bool (carries e)) [
        | inl is ↦ rw is (ap (λ o. frame_if o e.frame) (carried-last e))
        | inr isnt ↦ rw isnt refl
      ]

  -- ---- one more of some extents
  among-append : (xs ys : List Extent) →
      carried_among rows (xs ++ ys) ≡ carried_among rows xs ++ carried_among rows ys
  among-append xs ys =
      ap (map (with_last_row rows)) (filter-append carries xs ys)
      ∙ map-append (with_last_row rows) (filter carries xs) (filter carries ys)

  abbrev none-of : List Extent
  none-of = []

  take-none : (xs : List Extent) (i : ℕ) → slice_get xs i ≡ None → take (i + 1) xs ≡ take i xs
  take-none [] zero none = refl
  take-none [] (suc i) none = ap (λ n. take n none-of) (let e : suc i + 1 ≡ suc (i + 1) = omega arith in e)
  take-none (x ∷ xs) zero none = absurd (let e : Some x ≡ None = none in cc)
  take-none (x ∷ xs) (suc i) none = ap (λ n. take n (x ∷ xs)) (let e : suc i + 1 ≡ suc (i + 1) = omega arith in e)
      ∙ ap (λ l. x ∷ l) (take-none xs i none)

  more-by : (i : ℕ) (frame : List ℕ) (found : Option Extent) → slice_get (extents 0 pieces) i ≡ found →
      ((e : Extent) → slice_get (extents 0 pieces) i ≡ Some e → e.frame ≡ frame) →
      carried_among rows (take i (extents 0 pieces)) ++ frame_if (last_row (fate_if (fate_of pieces rows) found)) frame
      ≡ carried_among rows (take (i + 1) (extents 0 pieces))
  more-by i frame None there same =
      append-nil (carried_among rows (take i (extents 0 pieces)))
      ∙ ap (carried_among rows) (sym (take-none (extents 0 pieces) i there))
  more-by i frame (Some e) there same =
      let front = take i (extents 0 pieces) in
      ap (λ f. carried_among rows front ++ frame_if (last_row (fate_of pieces rows e)) f) (sym (same e there))
      ∙ ap (λ l. carried_among rows front ++ l) (one-by e)
      ∙ sym (among-append front (e ∷ []))
      ∙ ap (carried_among rows) (sym (take-one (extents 0 pieces) i e there))

  pub carried-more : (i : ℕ) (frame : List ℕ) →
      ((e : Extent) → slice_get (extents 0 pieces) i ≡ Some e → e.frame ≡ frame) →
      carried_among rows (take i (extents 0 pieces)) ++ frame_if (last_row (fate_at pieces rows i)) frame
      ≡ carried_among rows (take (i + 1) (extents 0 pieces))
  carried-more i frame same = more-by i frame (slice_get (extents 0 pieces) i) refl same

  -- ---- all of them, where those behind are not carried
  pub carried-all : (i : ℕ) → filter carries (drop i (extents 0 pieces)) ≡ [] →
      carried_among rows (take i (extents 0 pieces)) ≡ carried_among rows (extents 0 pieces)
  carried-all i none =
      sym (ap (carried_among rows) (sym (take-append-drop i (extents 0 pieces)))
      ∙ among-append (take i (extents 0 pieces)) (drop i (extents 0 pieces))
      ∙ ap (λ l. carried_among rows (take i (extents 0 pieces)) ++ map (with_last_row rows) l) none
      ∙ append-nil (carried_among rows (take i (extents 0 pieces))))

-- ---- The carried frames are those of the pieces, and the stream has the core header of each.
-- ---- the frames
frames-of : (rows : List StreamRow) (all : List Extent) →
    map (λ (own : RowFrame). own.frame) (map (with_last_row rows) all) ≡ map (λ (e : Extent). e.frame) all
frames-of rows [] = refl
frames-of rows (e ∷ all) = ap (λ l. e.frame ∷ l) (frames-of rows all)

pub frames-carried : (pieces : List Piece) (rows : List StreamRow) →
    map (λ (own : RowFrame). own.frame) (carried_frames pieces rows) ≡ frames_by (length (octets_of_rows rows)) pieces
frames-carried pieces rows =
    frames-of rows (filter (is_carried (length (octets_of_rows rows))) (extents 0 pieces))
    ∙ sym (frames_ended (length (octets_of_rows rows)) 0 pieces)

-- ---- the pieces around one
record HasPiece (start : ℕ) (pieces : List Piece) (e : Extent) : Type 0 where
  pub front : List Piece
  pub more : List Piece
  pub parts : pieces ≡ front ++ client e.frame ∷ more
  pub from : e.from ≡ start + length (stream_of front)

behind : (start : ℕ) (piece : Piece) (pieces : List Piece) (e : Extent) → HasPiece (start + size_of piece) pieces e →
    HasPiece start (piece ∷ pieces) e
behind start piece pieces e is = record {
  front = piece ∷ is.front;
  more = is.more;
  parts = ap (λ l. piece ∷ l) is.parts;
  from = (let from = is.from in let size = length-stream_of-cons piece is.front in omega (arith, from, size));
}

all-pieces : (start : ℕ) (pieces : List Piece) → All (HasPiece start pieces) (extents start pieces)
unfolding extents
all-pieces start [] = All-nil (HasPiece start [])
all-pieces start (idle ∷ pieces) =
    All-weaker (HasPiece (start + size_of idle) pieces) (HasPiece start (idle ∷ pieces)) (behind start idle pieces)
    (extents (start + size_of idle) pieces) (all-pieces (start + size_of idle) pieces)
all-pieces start (client frame ∷ pieces) =
    let own : Extent = record { from = start; to = start + size_of (client frame); frame = frame } in
    let rest = extents (start + size_of (client frame)) pieces in
    All-cons (HasPiece start (client frame ∷ pieces)) own rest
    (record { front = []; more = pieces; parts = refl; from = omega (arith, no_octets) })
    (All-weaker (HasPiece (start + size_of (client frame)) pieces) (HasPiece start (client frame ∷ pieces))
    (behind start (client frame) pieces) rest (all-pieces (start + size_of (client frame)) pieces))

-- ---- the header at the front of what stands behind some octets
first-header : (areas : List (List ℕ)) (sizes : List ℕ) (n : ℕ) → map length areas ≡ n ∷ sizes →
    take 4 (flat_map with_header areas) ≡ core_header n
first-header [] sizes n are = absurd cc
first-header (area ∷ areas) sizes n are =
    let same : length area ≡ n = cc in
    let size = length-core_header (length area) in
    let rest = flat_map with_header areas in
    ap (take 4) (append_assoc (core_header (length area)) area rest)
    ∙ ap (λ k. take k (core_header (length area) ++ (area ++ rest))) (sym size)
    ∙ take-append_seam (core_header (length area)) (area ++ rest)
    ∙ ap core_header same

header-behind : (before : List ℕ) (frame : List ℕ) (more : List Piece) →
    take 4 (stream_behind before (client frame ∷ more)) ≡ core_header (length (area_of (client frame)))
header-behind before frame more =
    first-header (scrambled_behind before (map area_of (client frame ∷ more))) (map length (map area_of more))
    (length (area_of (client frame)))
    (map-length-scrambled_behind before (map area_of (client frame ∷ more)))

header-at : (pieces : List Piece) (e : Extent) → HasPiece 0 pieces e →
    take 4 (drop e.from (stream_of pieces)) ≡ core_header (length (area_of (client e.frame)))
header-at pieces e is =
    let before = joined (map area_of is.front) in
    ap (λ p. take 4 (drop e.from (stream_of p))) is.parts
    ∙ ap (λ l. take 4 (drop e.from l)) (stream_of-append is.front (client e.frame ∷ is.more))
    ∙ ap (λ n. take 4 (drop n (stream_of is.front ++ stream_behind before (client e.frame ∷ is.more))))
    (let from = is.from in let k : e.from ≡ length (stream_of is.front) = omega (arith, from) in k)
    ∙ ap (take 4) (drop-append_seam (stream_of is.front) (stream_behind before (client e.frame ∷ is.more)))
    ∙ header-behind before e.frame is.more

pub header-sent : (pieces : List Piece) (e : Extent) → Contains (extents 0 pieces) e →
    with_pattern (take 4 (gfp_octets e.frame)) ≡ take 4 (drop e.from (stream_of pieces))
header-sent pieces e among =
    pattern-on (length (area_of (client e.frame)))
    ∙ sym (header-at pieces e
    (subst (HasPiece 0 pieces) among.2 (all-pieces 0 pieces among.0 e among.1)))
