-- What is seen of a walk row by row (Sees), the fates and marks that follow, and the text of their lines.
use Rattle.std.proofs.Common.{◌≡◌, ℕ, suc, ◌+◌, ◌-◌, ◌*◌, ◌<◌, ◌≤◌, ◌&&◌, ◌||◌, nat_lt, Bool, true, false, List, []}
use Rattle.std.proofs.Common.{◌∷◌, ◌++◌, length, filter, take, drop, All, Option, Some, None, slice_get, refl, sym}
use Rattle.std.proofs.Common.{◌∙◌, ap, ap₂, subst, arith, inl, inr, append-nil, append_assoc, length-append}
use Rattle.std.proofs.Common.{length-take, if◌then◌else◌, flat_map, Contains, option_map, zero, ◌^◌, map, is_none}
use Rattle.std.proofs.Common.{is_some, not, slice_index_or, Result, Ok, Err, OnErr}
use Rattle.std.specs.List.{list_all, range_with_len}
use Rattle.std.proofs.lemmas.Bool.{cases_Bool, cases_lt}
use Rattle.std.proofs.lemmas.List.Concat.{flat_map-append}
use Rattle.std.proofs.lemmas.List.Elements.{All-nil, All-cons, All-head, All-tail, All-drop, All-filter, filter-append}
use Rattle.law_model.proofs.ListLaws.{take-one}
use Rattle.law_model.specs.Common.{Leg, Piece, stream_of, Confirmed, hunt, scenario_by, offer_of, offers_of, StreamRow}
use Rattle.law_model.specs.Common.{Segment, segments, octets_of_rows, place_of, stream_before, Counts, steps_in, Table}
use Rattle.law_model.specs.Common.{active, after, table_of, segments_of, is_whole_row, rows_of, IsSound, most_ticks}
use Rattle.law_model.specs.Common.{is_known}
use Rattle.law_model.specs.declared.script_types.Item.{Item}
use Rattle.law_model.specs.declared.script_types.ItemKind.{ItemKind}
use Rattle.law_model.specs.declared.item_refusals.Refusal.{Refusal}
use Rattle.law_model.specs.declared.script_types.ItemKind.TheVariants.{Frame, Add, Remove}
use Rattle.law_loss.proofs.SegmentsOfAddedRowsLaws.{IsPart, Stands-all}
use Rattle.law_loss.proofs.SegmentHuntAndRunLaws.{confirmed-within}
use Rattle.law_loss.proofs.SessionStreamLossLaws.{pieces-begin, rows-octets, rows-length}
use Rattle.law_walk.specs.Common.{session_of, session_rows, session_pieces, Numbered, is_client, with_if, landed_from}
use Rattle.law_walk.specs.Common.{refusal_at, IsWalked, table_in}
use Rattle.law_walk.proofs.WalkPlanAndPoppedCellLaws.{sound-walks}
use Rattle.law_walk.proofs.AcceptedFrameAndDrainedWalkLaws.{counts-within}
use Rattle.fate_engine.specs.Common.{row_at, is_piece_at, is_true_mark, has_true_mark, are_true_marks, Span, spans}
use Rattle.fate_engine.specs.Common.{row_segment, row_segments_with, row_segments, has_row, later_segments}
use Rattle.fate_engine.specs.Common.{mark_of_row, End, refused, accepted, Ended, ended_by, ended_then, ended_on}
use Rattle.fate_engine.specs.Common.{ended_of, fate_at, is_refused, has_got, has_waited, count_of, ended_text}
use Rattle.fate_engine.specs.Common.{fates_end, last_text, row_cause, PacketList, Tells, AreRuns}
use Rattle.fate_engine.specs.declared.fate_law.Fate.{Fate}
use Rattle.fate_engine.specs.declared.fate_law.Fate.TheVariants.{Waits, Cut, Unconfirmed, Hunting, Unsettled, Got}
use Rattle.fate_engine.specs.declared.fate_law.RowSegment.{RowSegment}
use Rattle.fate_engine.proofs.FrameFateAndPieceLaws.{session-made, rows-count, place-up, row-is}
use Rattle.law_loss.proofs.GivenAndLostFrameLaws.{parts-of}
use Rattle.fate_engine.proofs.RulerAndFrameSideLaws.{piece-front}
use Rattle.fate_walks.specs.declared.walk_frames.landed_cursor.LandedFrame.{LandedFrame}
use Rattle.fate_walks.specs.walk_frames.ItemCursor.{Cursor, frames_before_item, frames_left, IsAt, IsNext, IsPast}
use Rattle.fate_walks.proofs.CursorAndRulerLaws.{next-count}
use Rattle.fate_walks.specs.declared.walk_fates.seen_rows.SeenWalk.{SeenWalk}
use Rattle.fate_walks.specs.declared.walk_fates.fates_report.EndedCount.{EndedCount}
use Rattle.fate_walks.specs.walk_fates.MadeWalk.{SeesWalk, Counted, fates_in, end_by, counted_end}
use Rattle.std.specs.Option.{ForSome}
use Rattle.std.proofs.lemmas.List.FromFn.{map-range_with_len_more, length-map-range_with_len}
use Rattle.law_model.specs.session.Scenario.{packets_in}
use Rattle.law_model.specs.rows.SessionStream.{row_of}
use Rattle.law_walk.proofs.DeliveredFrameCountLaws.{place-most}
use Rattle.terminal_sink.specs.marked_delineator.Marks.{first_place}
use Rattle.fate_engine.specs.declared.fate_law.Cause.{Cause}
use Rattle.fate_engine.proofs.SpoiledRunAndWholeContainerLaws.{cause-whole}
use Rattle.fate_engine.specs.fate_core.Segments.{SegmentsStand}
use Rattle.fate_walks.specs.walk_fates.PacketsAndRuler.{Governs}
use Rattle.fate_walks.specs.walk_fates.Seen.{Sees, SeesPart}
use Rattle.fate_walks.specs.declared.walk_fates.seen_rows.SeenRows.{SeenRows}

-- ---- How the lines of fates are put together, and what is known of the places that they tell of.
-- ---- texts one after another
pub flat-next : {X : Type 0} (f : X → List ℕ) (xs : List X) (i : ℕ) (x : X) → slice_get xs i ≡ Some x →
    flat_map f (take (i + 1) xs) ≡ flat_map f (take i xs) ++ f x
flat-next f xs i x there = ap (flat_map f) (take-one xs i x there) ∙ flat_map-append f (take i xs) (x ∷ [])
    ∙ ap (λ l. flat_map f (take i xs) ++ l) (append-nil (f x))

pub text-next : {X : Type 0} (f : X → List ℕ) (xs : List X) (i : ℕ) (x : X) (before text : List ℕ) →
    slice_get xs i ≡ Some x → text ≡ f x →
    before ++ flat_map f (take i xs) ++ text ≡ before ++ flat_map f (take (i + 1) xs)
text-next f xs i x before text there is =
    append_assoc before (flat_map f (take i xs)) text
    ∙ ap (λ l. before ++ l) (ap (λ l. flat_map f (take i xs) ++ l) is ∙ sym (flat-next f xs i x there))

-- ---- the marks of later segments
abbrev MarkLow : ℕ → RowSegment → Type 0
MarkLow n segment = (place : ℕ) → segment.mark ≡ Some place → place < n

own-low : (sent : List ℕ) (segment : Segment) (found : Option Confirmed) → IsPart sent segment →
    hunt true 0 segment.octets ≡ found →
    (place : ℕ) → option_map (λ (found : Confirmed). segment.base + found.place) found ≡ Some place →
    place < length sent
own-low sent segment None part is place there = absurd cc
own-low sent segment (Some found) part is place there =
    let e : segment.base + found.place ≡ place = cc in
    omega (arith, confirmed-within segment.octets found is, part.fits, e)

with-low : (sent : List ℕ) (spans : List Span) (segments : List Segment) → All (IsPart sent) segments →
    All (MarkLow (length sent)) (row_segments_with spans segments)
unfolding row_segments_with
with-low sent [] segments parts = All-nil (MarkLow (length sent))
with-low sent (span ∷ spans) [] parts = All-nil (MarkLow (length sent))
with-low sent (span ∷ spans) (segment ∷ segments) parts =
    All-cons (MarkLow (length sent)) (row_segment span segment) (row_segments_with spans segments)
    (λ place there. own-low sent segment (hunt true 0 segment.octets) (All-head (IsPart sent) segment segments parts)
    refl place there)
    (with-low sent spans segments (All-tail (IsPart sent) segment segments parts))

later-low : (rows : List StreamRow) → All (MarkLow (length (octets_of_rows rows))) (later_segments rows)
later-low rows =
    let n = length (octets_of_rows rows) in
    All-filter has_row (MarkLow n) (drop 1 (row_segments rows))
    (All-drop (MarkLow n) 1 (row_segments rows)
    (with-low (octets_of_rows rows) (spans rows) (segments rows) (parts-of rows)))

pub mark-low : (rows : List StreamRow) (segment : RowSegment) (place : ℕ) → Contains (later_segments rows) segment →
    segment.mark ≡ Some place → place < length (octets_of_rows rows)
mark-low rows segment place among marked =
    subst (MarkLow (length (octets_of_rows rows))) among.2 (later-low rows among.0 segment among.1) place marked

row-mark-low : (n : ℕ) (segments : List RowSegment) (r place : ℕ) → All (MarkLow n) segments →
    mark_of_row segments r ≡ Some place → place < n
unfolding mark_of_row
row-mark-low n [] r place low there = absurd (let e : None ≡ Some place = there in cc)
row-mark-low n (segment ∷ segments) r place low there =
    elim (cases_Bool (nat_lt r segment.end)) [
      | inl here ↦ All-head (MarkLow n) segment segments low place
          (let e : (if nat_lt r segment.end then segment.mark else mark_of_row segments r) ≡ Some place = there in
          sym (rw here refl) ∙ e)
      | inr later ↦ row-mark-low n segments r place (All-tail (MarkLow n) segment segments low)
          (let e : (if nat_lt r segment.end then segment.mark else mark_of_row segments r) ≡ Some place = there in
          sym (rw later refl) ∙ e)
    ]

-- a row's mark is a place of the rows
pub mark-of-low : (rows : List StreamRow) (r place : ℕ) → mark_of_row (row_segments rows) r ≡ Some place →
    place < length (octets_of_rows rows)
mark-of-low rows r place there =
    row-mark-low (length (octets_of_rows rows)) (row_segments rows) r place
    (with-low (octets_of_rows rows) (spans rows) (segments rows) (parts-of rows)) there

-- ---- the pieces of the ticks made
pub piece-stays : (leg : Leg) (ticks rows place : ℕ) → rows ≤ ticks → ticks ≤ leg.config.ticks →
    place < length (octets_of_rows (session_rows leg rows)) →
    is_piece_at (stream_before (scenario_by leg) (session_of leg) ticks).pieces place ≡ is_piece_at
    (session_pieces leg) place
piece-stays leg ticks rows place low high within =
    let front = (stream_before (scenario_by leg) (session_of leg) ticks).pieces in
    let begins = pieces-begin (scenario_by leg) (session_of leg) ticks leg.config.ticks high in
    let octets = ap length (rows-octets (scenario_by leg) (session_of leg) rows ticks low) in
    let part = length-take (place_of (scenario_by leg) (session_of leg) rows) (stream_of front) in
    sym (ap (λ pieces. is_piece_at pieces place) begins.1
    ∙ piece-front place front begins.0 (omega (arith, octets, part, within)))

module _ (front whole : List Piece) (sent : List ℕ)
    (same : (place : ℕ) → place < length sent → is_piece_at front place ≡ is_piece_at whole place) where
  mark-same : (segment : Segment) (found : Option Confirmed) → IsPart sent segment →
      hunt true 0 segment.octets ≡ found →
      is_true_mark front (option_map (λ (found : Confirmed). segment.base + found.place) found) ≡ is_true_mark whole
      (option_map (λ (found : Confirmed). segment.base + found.place) found)
  mark-same segment None part is = refl
  mark-same segment (Some found) part is =
      same (segment.base + found.place) (omega (arith, confirmed-within segment.octets found is, part.fits))

  marks-same : (segments : List Segment) → All (IsPart sent) segments →
      list_all (has_true_mark front) segments ≡ list_all (has_true_mark whole) segments
  marks-same [] parts = refl
  marks-same (segment ∷ segments) parts =
      ap₂ ◌&&◌ (ap (λ b. segment.first || b)
      (mark-same segment (hunt true 0 segment.octets) (All-head (IsPart sent) segment segments parts) refl))
      (marks-same segments (All-tail (IsPart sent) segment segments parts))

pub marks-stay : (leg : Leg) (ticks rows : ℕ) → rows ≤ ticks → ticks ≤ leg.config.ticks →
    are_true_marks (stream_before (scenario_by leg) (session_of leg) ticks).pieces (session_rows leg rows)
    ≡ are_true_marks (session_pieces leg) (session_rows leg rows)
marks-stay leg ticks rows low high =
    marks-same (stream_before (scenario_by leg) (session_of leg) ticks).pieces (session_pieces leg)
    (octets_of_rows (session_rows leg rows))
    (λ place within. piece-stays leg ticks rows place low high within) (segments (session_rows leg rows))
    (parts-of (session_rows leg rows))

-- ---- a walk that was seen
module _ (leg : Leg) (s : Counts) (seen : SeenWalk) (sees : SeesWalk leg s seen) where
  pub within : (s.rows ≤ s.ticks) × (s.ticks ≤ leg.config.ticks)
  within = counts-within leg s (sound-walks leg sees.sound) sees.walked

  pub reach : s.rows ≤ 16 * length seen.rows.packets.active + 24
  reach = let steps = sees.rows.packets.steps in let low = within.0 in omega (arith, steps, low)

  pub kept-rows : seen.rows.segments.rows ≤ 16 * length seen.rows.packets.active + 24
  kept-rows =
      omega (arith, sees.rows.segments.count, rows-count (scenario_by leg) (session_of leg) s.rows, reach)

  pub fate-is : (i : ℕ) (result : Fate) →
      result ≡ fate_at (stream_before (scenario_by leg) (session_of leg) s.ticks).pieces
      (session_rows leg s.rows) i → result ≡ fates_in leg s.rows i
  fate-is i result is =
      is ∙ sym (session-made (scenario_by leg) (session_of leg) s.rows s.ticks leg.config.ticks i within.0 within.1)

  pub starts-are : (result : Bool) →
      result ≡ are_true_marks (stream_before (scenario_by leg) (session_of leg) s.ticks).pieces
      (session_rows leg s.rows) →
      result ≡ are_true_marks (session_pieces leg) (session_rows leg s.rows)
  starts-are result is = is ∙ marks-stay leg s.ticks s.rows within.0 within.1

  -- the row of a mark
  module _ (segment : RowSegment) (place : ℕ) (among : Contains (later_segments (session_rows leg s.rows)) segment)
      (marked : segment.mark ≡ Some place) where
    pub mark-within : place < place_of (scenario_by leg) (session_of leg) s.rows
    mark-within =
        let size = rows-length (scenario_by leg) (session_of leg) s.rows s.rows (omega arith) in
        omega (arith, mark-low (session_rows leg s.rows) segment place among marked, size)

    pub not-beyond : place_of (scenario_by leg) (session_of leg) (16 * length seen.rows.packets.active + 24) ≤
        place → ⊥
    not-beyond beyond =
        let up = place-up (scenario_by leg) (session_of leg) s.rows (16 * length seen.rows.packets.active + 24)
        reach in
        omega (arith, up, mark-within, beyond)

    pub mark-piece : is_piece_at (stream_before (scenario_by leg) (session_of leg) s.ticks).pieces place
        ≡ is_piece_at (session_pieces leg) place
    mark-piece = piece-stays leg s.ticks s.rows place within.0 within.1
        (mark-low (session_rows leg s.rows) segment place among marked)

    pub mark-row : (row : ℕ) → place_of (scenario_by leg) (session_of leg) row ≤ place →
        place < place_of (scenario_by leg) (session_of leg) (suc row) →
        row ≡ row_at (session_rows leg s.rows) place
    mark-row row from below = row-is (scenario_by leg) (session_of leg) s.rows place row mark-within from below

-- ---- the client's items among those that have landed
module _ (leg : Leg) (fate : ℕ → Fate) where
  then-skips : (item : Numbered) (why : Option Refusal) (kind : ItemKind) (n : ℕ) (others : ℕ → List Ended) →
      is_client kind ≡ false → ended_then fate item why kind n others ≡ others n
  then-skips item None (Frame octets) n others other = absurd (let e : true ≡ false = other in cc)
  then-skips item (Some why) (Frame octets) n others other = absurd (let e : true ≡ false = other in cc)
  then-skips item None (Add line) n others other = refl
  then-skips item (Some why) (Add line) n others other = refl
  then-skips item None (Remove line) n others other = refl
  then-skips item (Some why) (Remove line) n others other = refl

  then-same : (item : Numbered) (why : Option Refusal) (kind : ItemKind) (n : ℕ) (xs ys : ℕ → List Ended) →
      ((m : ℕ) → xs m ≡ ys m) → ended_then fate item why kind n xs ≡ ended_then fate item why kind n ys
  then-same item None (Frame octets) n xs ys same =
      ap (λ l. ended_by item octets (accepted (fate n)) ∷ l) (same (suc n))
  then-same item (Some why) (Frame octets) n xs ys same = ap (λ l. ended_by item octets (refused why) ∷ l) (same n)
  then-same item None (Add line) n xs ys same = same n
  then-same item (Some why) (Add line) n xs ys same = same n
  then-same item None (Remove line) n xs ys same = same n
  then-same item (Some why) (Remove line) n xs ys same = same n

  pub with-skips : (there : Bool) (item : Numbered) (rest : List Numbered) (n : ℕ) → is_client item.item.kind ≡ false →
      ended_on leg fate (with_if there item rest) n ≡ ended_on leg fate rest n
  unfolding ended_on
  with-skips true item rest n other =
      then-skips item (refusal_at leg item) item.item.kind n (ended_on leg fate rest) other
  with-skips false item rest n other = refl

  with-same : (there : Bool) (item : Numbered) (xs ys : List Numbered) (n : ℕ) →
      ((m : ℕ) → ended_on leg fate xs m ≡ ended_on leg fate ys m) →
      ended_on leg fate (with_if there item xs) n ≡ ended_on leg fate (with_if there item ys) n
  unfolding ended_on
  with-same true item xs ys n same =
      then-same item (refusal_at leg item) item.item.kind n (ended_on leg fate xs) (ended_on leg fate ys) same
  with-same false item xs ys n same = same n

  pub landed-client : (a b i : ℕ) (item : Item) (items : List Item) → is_client item.kind ≡ true →
      landed_from a b i (item ∷ items) ≡ with_if (nat_lt 0 a) (record { number = i; item = item })
      (landed_from (a - 1) b (suc i) items)
  unfolding landed_from
  landed-client a b i item items client = rw client refl

  pub landed-other : (a b i : ℕ) (item : Item) (items : List Item) → is_client item.kind ≡ false →
      landed_from a b i (item ∷ items) ≡ with_if (nat_lt 0 b) (record { number = i; item = item })
      (landed_from a (b - 1) (suc i) items)
  unfolding landed_from
  landed-other a b i item items other = rw other refl

  pub commands-none : (a b i : ℕ) (items : List Item) (n : ℕ) →
      ended_on leg fate (landed_from a b i items) n ≡ ended_on leg fate (landed_from a 0 i items) n
  unfolding landed_from
  commands-none a b i [] n = refl
  commands-none a b i (item ∷ items) n =
      let own : Numbered = record { number = i; item = item } in
      elim (cases_Bool (is_client item.kind)) [
        | inl client ↦ ap (λ l. ended_on leg fate l n) (landed-client a b i item items client)
            ∙ with-same (nat_lt 0 a) own (landed_from (a - 1) b (suc i) items) (landed_from (a - 1) 0 (suc i) items) n
            (λ m. commands-none (a - 1) b (suc i) items m)
            ∙ sym (ap (λ l. ended_on leg fate l n) (landed-client a 0 i item items client))
        | inr other ↦ ap (λ l. ended_on leg fate l n) (landed-other a b i item items other)
            ∙ with-skips (nat_lt 0 b) own (landed_from a (b - 1) (suc i) items) n other
            ∙ commands-none a (b - 1) (suc i) items n
            ∙ sym (ap (λ l. ended_on leg fate l n) (landed-other a 0 i item items other))
      ]

  -- how many are accepted with it
  abbrev pub accepted_by : Option Refusal → ℕ → ℕ
  accepted_by None i = suc i
  accepted_by (Some why) i = i

  abbrev pub ended_frame : LandedFrame → List ℕ → ℕ → Ended
  ended_frame found octets i = record {
    number = found.number;
    due = found.due;
    frame = octets;
    end = end_by fate found.refusal i;
  }

  frame-then : (item : Numbered) (octets : List ℕ) (why : Option Refusal) (i : ℕ) (others : ℕ → List Ended) →
      ended_then fate item why (Frame octets) i others ≡ ended_by item octets (end_by fate why i) ∷ others
      (accepted_by why i)
  frame-then item octets None i others = refl
  frame-then item octets (Some why) i others = refl

  pub next-ended : (was now : Cursor) (found : LandedFrame) (next : IsNext leg was now found) (i : ℕ) →
      ended_on leg fate (frames_left leg was) i ≡ ended_frame found next.octets i ∷ ended_on leg fate
      (frames_left leg now) (accepted_by found.refusal i)
  unfolding ended_on
  next-ended was now found next i =
      let own : Numbered = record { number = found.number; item = next.item } in
      let others = ended_on leg fate (frames_left leg now) in
      ap (λ l. ended_on leg fate l i) next.rest
      ∙ ap₂ (λ why kind. ended_then fate own why kind i others) (sym next.refusal) next.kind
      ∙ frame-then own next.octets found.refusal i others
      ∙ ap (λ due. record { number = found.number; due = due; frame = next.octets; end = end_by fate found.refusal i } ∷
      others (accepted_by found.refusal i)) (sym next.due)

  pub ended-count : (count : EndedCount) (why : Option Refusal) →
      (counted_end count (end_by fate why count.frames)).frames ≡ accepted_by why count.frames
  ended-count count None = omega arith
  ended-count count (Some why) = refl

-- ---- counts
abbrev one_if : Bool → ℕ
one_if true = 1
one_if false = 0

count-one : (test : End → Bool) (e : Ended) (b : Bool) → test e.end ≡ b → count_of test (e ∷ []) ≡ one_if b
count-one test e true is = rw is refl
count-one test e false is = rw is refl

count-more : (test : End → Bool) (all : List Ended) (e : Ended) (b : Bool) → test e.end ≡ b →
    count_of test (all ++ e ∷ []) ≡ count_of test all + one_if b
count-more test all e b is =
    let t : Ended → Bool = λ (ended : Ended). test ended.end in
    let size = length-append (filter t all) (filter t (e ∷ [])) in
    omega (arith, ap length (filter-append t all (e ∷ [])), size, count-one test e b is)

module _ (all : List Ended) (count : EndedCount) (are : Counted all count) (number due : ℕ) (frame : List ℕ) where
  abbrev with_end : End → Ended
  with_end end = record { number = number; due = due; frame = frame; end = end }

  more-by : (end : End) (now : EndedCount) (r g w : Bool) → is_refused end ≡ r → has_got end ≡ g → has_waited end ≡ w →
      now.frames + now.refused ≡ count.frames + count.refused + 1 →
      now.refused ≡ count.refused + one_if r → now.totals.got ≡ count.totals.got + one_if g →
      now.totals.waits ≡ count.totals.waits + one_if w →
      now.frames ≡ now.totals.got + now.totals.lost + now.totals.waits → Counted (all ++ with_end end ∷ []) now
  more-by end now r g w rs gs ws sum refuses gets waits frames = record {
    items = (let size = length-append all (with_end end ∷ []) in let items = are.items in
        omega (arith, size, items, sum));
    refused = (let more = count-more is_refused all (with_end end) r rs in let was = are.refused in
        omega (arith, more, was, refuses));
    got = (let more = count-more has_got all (with_end end) g gs in let was = are.got in
        omega (arith, more, was, gets));
    waits = (let more = count-more has_waited all (with_end end) w ws in let was = are.waits in
        omega (arith, more, was, waits));
    frames = frames;
  }

  pub counted-next : (end : End) → Counted (all ++ with_end end ∷ []) (counted_end count end)
  counted-next (refused why) = more-by (refused why) (counted_end count (refused why)) true false false refl refl refl
      (omega arith) (omega arith) (omega arith) (omega arith) are.frames
  counted-next (accepted Waits) =
      more-by (accepted Waits) (counted_end count (accepted Waits)) false false true refl refl refl (omega arith)
      (omega arith) (omega arith) (omega arith) (let f = are.frames in omega (arith, f))
  counted-next (accepted (Cut x y z)) =
      more-by (accepted (Cut x y z)) (counted_end count (accepted (Cut x y z))) false false false refl refl refl
      (omega arith) (omega arith) (omega arith) (omega arith) (let f = are.frames in omega (arith, f))
  counted-next (accepted (Unconfirmed x y)) =
      more-by (accepted (Unconfirmed x y)) (counted_end count (accepted (Unconfirmed x y))) false false false refl refl
      refl (omega arith) (omega arith) (omega arith) (omega arith) (let f = are.frames in omega (arith, f))
  counted-next (accepted (Hunting x y)) =
      more-by (accepted (Hunting x y)) (counted_end count (accepted (Hunting x y))) false false false refl refl refl
      (omega arith) (omega arith) (omega arith) (omega arith) (let f = are.frames in omega (arith, f))
  counted-next (accepted (Unsettled x y)) =
      more-by (accepted (Unsettled x y)) (counted_end count (accepted (Unsettled x y))) false false false refl refl refl
      (omega arith) (omega arith) (omega arith) (omega arith) (let f = are.frames in omega (arith, f))
  counted-next (accepted (Got x y)) =
      more-by (accepted (Got x y)) (counted_end count (accepted (Got x y))) false true false refl refl refl
      (omega arith) (omega arith) (omega arith) (omega arith) (let f = are.frames in omega (arith, f))

-- ---- the last line
abbrev line_of : ℕ → ℕ → Bool → ℕ → ℕ → ℕ → ℕ → ℕ → List ℕ
line_of ticks rows starts frames got lost waits kept_out =
    last_text ticks rows (record { frames = frames; got = got; lost = lost; waits = waits; refused = kept_out }) starts

pub end-text : (ticks rows : ℕ) (all : List Ended) (count : EndedCount) (starts : Bool) → Counted all count →
    last_text ticks rows (record {
      frames = count.frames;
      got = count.totals.got;
      lost = count.totals.lost;
      waits = count.totals.waits;
      refused = count.refused;
    }) starts
    ≡ fates_end ticks rows all starts
end-text ticks rows all count starts are =
    let items = are.items in
    let none = are.refused in
    let gets = are.got in
    let wait = are.waits in
    let frames : count.frames ≡ length all - count_of is_refused all = omega (arith, items, none) in
    let lost : count.totals.lost ≡ length all -
    (count_of is_refused all + count_of has_got all + count_of has_waited all) =
    omega (arith, items, none, gets, wait, are.frames) in
    ap (λ n. line_of ticks rows starts n count.totals.got count.totals.lost count.totals.waits count.refused) frames
    ∙ ap (λ n. line_of ticks rows starts (length all - count_of is_refused all) n count.totals.lost count.totals.waits
    count.refused) (sym gets)
    ∙ ap (λ n. line_of ticks rows starts (length all - count_of is_refused all)
    (count_of has_got all) n count.totals.waits count.refused) lost
    ∙ ap (λ n. line_of ticks rows starts (length all - count_of is_refused all) (count_of has_got all)
    (length all - (count_of is_refused all + count_of has_got all + count_of has_waited all)) n count.refused)
    (sym wait)
    ∙ ap (λ n. line_of ticks rows starts (length all - count_of is_refused all) (count_of has_got all)
    (length all - (count_of is_refused all + count_of has_got all + count_of has_waited all))
    (count_of has_waited all) n) (sym none)

-- ---- the client's items so far
pub record FramesDone (leg : Leg) (s : Counts) (cursor : Cursor) (count : EndedCount)
    (done : List Ended) : Type 0 where
  pub at : IsAt leg s cursor
  pub counted : Counted done count
  pub size : length done ≡ frames_before_item leg cursor.item
  pub rest : ended_of leg s ≡ done ++ ended_on leg (fates_in leg s.rows)
      (frames_left leg cursor) count.frames

pub frames-begun : (leg : Leg) (s : Counts) (cursor : Cursor) (count : EndedCount) → IsAt leg s cursor →
    cursor.item ≡ 0 → count.frames ≡ 0 → count.refused ≡ 0 →
    count.totals.got ≡ 0 → count.totals.lost ≡ 0 → count.totals.waits ≡ 0 → FramesDone leg s cursor count []
frames-begun leg s cursor count at first frames kept got lost waits =
    let none : frames_before_item leg cursor.item ≡ 0 = ap (frames_before_item leg) first in
    let all : s.frames ≡ cursor.left = omega (arith, at.left, none) in
    record {
      at = at;
      counted = record {
        items = omega (arith, frames, kept);
        refused = sym kept;
        got = sym got;
        waits = sym waits;
        frames = omega (arith, frames, got, lost, waits);
      };
      size = sym none;
      rest = commands-none leg (fates_in leg s.rows) s.frames s.commands 0 leg.items 0
          ∙ ap (λ n. ended_on leg (fates_in leg s.rows) (landed_from n 0 0 leg.items) 0) all
          ∙ ap (λ i. ended_on leg (fates_in leg s.rows) (landed_from cursor.left 0 i (drop i leg.items)) 0)
          (sym first)
          ∙ ap (ended_on leg (fates_in leg s.rows) (frames_left leg cursor)) (sym frames);
    }

pub frames-next : (leg : Leg) (s : Counts) (was now : Cursor) (count more : EndedCount) (done : List Ended)
    (found : LandedFrame) (next : IsNext leg was now found) →
    FramesDone leg s was count done → IsAt leg s now →
    more ≡ counted_end count (end_by (fates_in leg s.rows) found.refusal count.frames) →
    FramesDone leg s now more (done ++ ended_frame leg (fates_in leg s.rows) found next.octets count.frames ∷
    [])
frames-next leg s was now count more done found next come at is =
    let fate = fates_in leg s.rows in
    let own : Ended = ended_frame leg fate found next.octets count.frames in
    record {
      at = at;
      counted = subst (Counted (done ++ own ∷ [])) (sym is)
          (counted-next done count come.counted found.number found.due next.octets
          (end_by fate found.refusal count.frames));
      size = (let one = length-append done (own ∷ []) in let before = come.size in
          let after = next-count leg was now found next in omega (arith, one, before, after));
      rest = come.rest
          ∙ ap (λ l. done ++ l) (next-ended leg fate was now found next count.frames)
          ∙ ap (λ n. done ++ own ∷ ended_on leg fate (frames_left leg now) n)
          (sym (ap (λ (c : EndedCount). c.frames) is ∙ ended-count leg fate count found.refusal))
          ∙ sym (append_assoc done (own ∷ []) (ended_on leg fate (frames_left leg now) more.frames));
    }

pub offers-few : (items : List Item) → length (offers_of items) ≤ length items
offers-few [] = omega arith
offers-few (item ∷ items) =
    let all = length-append (offer_of item.due item.kind) (offers_of items) in
    omega (arith, all, one item.kind, offers-few items)
  where
    one : (kind : ItemKind) → length (offer_of item.due kind) ≤ 1
    one (Frame octets) = omega arith
    one (Add line) = omega arith
    one (Remove line) = omega arith

pub frames-few : (leg : Leg) (s : Counts) (cursor : Cursor) (count : EndedCount) (done : List Ended) →
    FramesDone leg s cursor count done → count.frames + count.refused < 4294967295
frames-few leg s cursor count done come =
    let offers = offers-few (take cursor.item leg.items) in
    omega (arith, come.size, come.counted.items, offers, length-take cursor.item leg.items, come.at.sound.few)

pub frames-past : (leg : Leg) (s : Counts) (cursor : Cursor) (count : EndedCount) (done : List Ended) →
    FramesDone leg s cursor count done → IsPast leg s cursor → done ≡ ended_of leg s
unfolding ended_on
frames-past leg s cursor count done come past =
    sym (come.rest ∙ ap (λ l. done ++ ended_on leg (fates_in leg s.rows) l count.frames) past.none
    ∙ append-nil done)

pub texts-next : (done : List Ended) (own : Ended) (before : List ℕ) →
    before ++ flat_map ended_text done ++ ended_text own ≡ before ++ flat_map ended_text (done ++ own ∷ [])
texts-next done own before =
    append_assoc before (flat_map ended_text done) (ended_text own)
    ∙ ap (λ l. before ++ l) (ap (λ l. flat_map ended_text done ++ l) (sym (append-nil (ended_text own)))
    ∙ sym (flat_map-append ended_text done (own ∷ [])))

-- ---- What is seen of a walk: one packet more, and one row more.
-- ---- bounds
pub few-rows : (leg : Leg) (s : Counts) → IsSound leg → IsWalked leg s → (s.rows ≤ s.ticks) ×
    (s.ticks ≤ leg.config.ticks) × (s.ticks ≤ most_ticks)
few-rows leg s sound walked =
    let within = counts-within leg s (sound-walks leg sound) walked in
    (within.0, within.1, omega (arith, within.1, sound.network.ticks.1))

-- ---- packets
list-next : {X : Type 0} (none : X) (f : ℕ → X) (all : List X) (last : X) (n : ℕ) → length all ≡ n →
    ((k : ℕ) → k < n → slice_index_or all k none ≡ f k) → last ≡ f n →
    (k : ℕ) → k < n + 1 → slice_index_or (all ++ last ∷ []) k none ≡ f k
list-next {X} none f all last n size before is k low = elim (cases_lt k n) [
  | inl front ↦ front-of all k (omega (arith, size, front)) ∙ before k front
  | inr here ↦ (let e : k ≡ length all =
      omega (arith, size, here, low) in ap (λ i. slice_index_or (all ++ last ∷ []) i none) e ∙ last-of all ∙ is
      ∙ ap f (let e : n ≡ k = omega (arith, here, low) in e))
]
  where
    front-of : (all : List X) (k : ℕ) → k < length all →
        slice_index_or (all ++ last ∷ []) k none ≡ slice_index_or all k none
    front-of [] k low = absurd (omega arith)
    front-of (x ∷ xs) zero low = refl
    front-of (x ∷ xs) (suc k) low = front-of xs k (omega arith)

    last-of : (all : List X) → slice_index_or (all ++ last ∷ []) (length all) none ≡ last
    last-of [] = refl
    last-of (x ∷ xs) = last-of xs

pub packets-next : (leg : Leg) (before ticks : ℕ) (packets : PacketList) (lines : List ℕ) (next : PacketList) →
    Governs leg before packets →
    steps_in ticks ≡ steps_in before + 1 → lines ≡ active (table_in leg ticks) →
    next ≡ record packets { active = packets.active ++ lines ∷ [] } →
    Governs leg ticks next
packets-next leg before ticks packets lines next governs step is made =
    let are = governs.are in
    let steps : length packets.active + 1 ≡ steps_in ticks = omega (arith, governs.steps, step) in
    let table = λ (k : ℕ). active (table_of (scenario_by leg) (session_of leg) k) in
    let count : length (packets.active ++ lines ∷ []) ≡ length packets.active + 1 =
    length-append packets.active (lines ∷ []) in
    let here : lines ≡ table (length packets.active) = is
    ∙ ap (λ n. active (table-after n))
    (let e : steps_in ticks ≡ suc (length packets.active) = omega (arith, steps) in e) in
    subst (Governs leg ticks) (sym made) (record {
      are = record {
        size = are.size;
        lines =
            λ k low. list-next [] table packets.active lines (length packets.active) refl are.lines here k
            (omega (arith, low, count));
        known = are.known;
      };
      steps = omega (arith, count, steps);
    })
  where
    table-after : ℕ → Table
    table-after n = (after (scenario_by leg) (session_of leg) n).table

-- one more of which the sink has said whether it knows them
pub packets-known : (leg : Leg) (ticks : ℕ) (packets : PacketList) (is : Bool) (next : PacketList) →
    Governs leg ticks packets → is ≡ is_known (scenario_by leg) (session_of leg) (length packets.known) →
    next ≡ record packets { known = packets.known ++ is ∷ [] } → Governs leg ticks next
packets-known leg ticks packets is next governs here made =
    let are = governs.are in
    let count = length-append packets.known (is ∷ []) in
    subst (Governs leg ticks) (sym made) (record {
      are = record {
        size = are.size;
        lines = are.lines;
        known =
            λ k low. list-next false (is_known (scenario_by leg) (session_of leg)) packets.known is
            (length packets.known) refl are.known here k (omega (arith, low, count));
      };
      steps = governs.steps;
    })

-- ---- rows
pub causes-next : (leg : Leg) (n : ℕ) →
    map (row_cause (scenario_by leg) (session_of leg)) (range_with_len 0 (n + 1))
    ≡ map (row_cause (scenario_by leg) (session_of leg)) (range_with_len 0 n) ++ row_cause (scenario_by leg)
    (session_of leg) n ∷ []
causes-next leg n = map-range_with_len_more (row_cause (scenario_by leg) (session_of leg)) 0 n n (omega arith)

pub rows-next : (leg : Leg) (n : ℕ) →
    session_rows leg (n + 1) ≡ session_rows leg n ++ row_of (scenario_by leg) (session_of leg) n ∷ []
unfolding rows_of
rows-next leg n = ap (session_rows leg) (let e : n + 1 ≡ suc n = omega arith in e)

pub whole-cause : (leg : Leg) (t : ℕ) (cause : Option Cause) →
    cause ≡ row_cause (scenario_by leg) (session_of leg) t →
    is_whole_row (scenario_by leg) (session_of leg) t ≡ is_none cause
whole-cause leg t None is = (cause-whole (scenario_by leg) (session_of leg) t).0 (sym is)
whole-cause leg t (Some cause) is = elim (cases_Bool (is_whole_row (scenario_by leg) (session_of leg) t)) [
  | inl whole ↦ absurd (let wrong : Some cause ≡ None = is
      ∙ (cause-whole (scenario_by leg) (session_of leg) t).1 whole in cc)
  | inr cut ↦ cut
]

pub none-is : (cause : Option Cause) (none : Bool) → is_some cause ≡ not none → is_none cause ≡ none
none-is None true is = refl
none-is None false is = absurd (let wrong : false ≡ true = is in cc)
none-is (Some cause) true is = absurd (let wrong : true ≡ false = is in cc)
none-is (Some cause) false is = refl

confirms-by : (base : ℕ) (found : Option Confirmed) →
    option_map (λ place. base + place) (option_map (λ (found : Confirmed). found.place) found) ≡ option_map
    (λ (found : Confirmed). base + found.place) found
confirms-by base None = refl
confirms-by base (Some found) = refl

pub row-tells : (leg : Leg) (s : Counts) (rows end : ℕ) (confirmed : Option ℕ) → rows ≡ s.rows →
    end ≡ place_of (scenario_by leg) (session_of leg) s.rows →
    confirmed ≡ first_place (segments_of (session_rows leg s.rows)).last.octets →
    Tells (session_rows leg rows) end confirmed
row-tells leg s rows end confirmed is ends told = record {
  ends = ends ∙ sym (rows-length (scenario_by leg) (session_of leg) s.rows s.rows (omega arith))
      ∙ ap (λ n. length (octets_of_rows (session_rows leg n))) (sym is);
  confirms = ap (option_map (λ place. (segments_of (session_rows leg rows)).last.base + place))
      (told ∙ ap (λ n. first_place (segments_of (session_rows leg n)).last.octets) (sym is))
      ∙ confirms-by (segments_of (session_rows leg rows)).last.base
      (hunt true 0 (segments_of (session_rows leg rows)).last.octets);
}

few-by : (octets : List ℕ) (found : Option Confirmed) → hunt true 0 octets ≡ found → length octets < 2 ^ 63 →
    ForSome (option_map (λ (found : Confirmed). found.place) found) (λ place. place < 2 ^ 63)
few-by octets None is low place there = absurd (let e : None ≡ Some place = there in cc)
few-by octets (Some found) is low place there = let within = confirmed-within octets found is in
    let e : found.place ≡ place = cc in omega (arith, within, low, e)

pub place-low : (leg : Leg) (rows : ℕ) → IsSound leg → rows ≤ leg.config.ticks →
    place_of (scenario_by leg) (session_of leg) rows < 2 ^ 63
place-low leg rows sound low = let most = place-most leg rows sound low in omega (arith, most)

pub mark-low-seen : (leg : Leg) (rows : ℕ) (confirmed : Option ℕ) → IsSound leg → rows ≤ leg.config.ticks →
    confirmed ≡ first_place (segments_of (session_rows leg rows)).last.octets →
    ForSome confirmed (λ place. place < 2 ^ 63)
mark-low-seen leg rows confirmed sound low told =
    let stands = Stands-all (session_rows leg rows) in
    let octets = rows-length (scenario_by leg) (session_of leg) rows rows (omega arith) in
    let place = place-low leg rows sound low in
    let last = (segments_of (session_rows leg rows)).last.octets in
    let few : length last < 2 ^ 63 = omega (arith, stands.ends, octets, place) in
    subst (λ found. ForSome found (λ place. place < 2 ^ 63)) (sym told) (few-by last (hunt true 0 last) refl few)

-- ---- how many
pub causes-size : (leg : Leg) (n : ℕ) →
    length (map (row_cause (scenario_by leg) (session_of leg)) (range_with_len 0 n)) ≡ n
causes-size leg n = length-map-range_with_len (row_cause (scenario_by leg) (session_of leg)) 0 n

pub rows-size : (leg : Leg) (n : ℕ) → length (session_rows leg n) ≡ n
unfolding rows_of
rows-size leg zero = refl
rows-size leg (suc n) = let before = rows-size leg n in
    let more = length-append (session_rows leg n) (row_of (scenario_by leg) (session_of leg) n ∷ []) in
    omega (arith, before, more)

-- ---- before any row
pub nothing-governs : (leg : Leg) (size : ℕ) (packets : PacketList) → leg.config.size ≡ size →
    packets ≡ record { size = size; active = []; known = [] } → Governs leg 0 packets
nothing-governs leg size packets is made = subst (Governs leg 0) (sym made) (record {
  are = record {
    size = sym is;
    lines = λ k low. absurd (omega (arith, low));
    known = λ k low. absurd (omega (arith, low));
  };
  steps = refl;
})

pub no-rows : (leg : Leg) → session_rows leg 0 ≡ []
unfolding rows_of
no-rows leg = refl

pub sees-nothing : (leg : Leg) (size : ℕ) (seen : SeenRows) → leg.config.size ≡ size →
    seen.packets ≡ record { size = size; active = []; known = [] } → SegmentsStand seen.segments [] → AreRuns seen.runs [] →
    Sees leg 0 0 seen
sees-nothing leg size seen is made segments runs = record {
  packets = nothing-governs leg size seen.packets is made;
  known = ap (λ (packets : PacketList). length packets.known) made;
  segments = subst (SegmentsStand seen.segments) (sym (no-rows leg)) segments;
  runs = runs;
}

-- ---- one row more
pub one-row : (leg : Leg) (ticks row rows : ℕ) (seen : SeenRows) → row + 1 ≡ rows →
    Governs leg ticks seen.packets → length seen.packets.known ≡ packets_in rows →
    SegmentsStand seen.segments (session_rows leg row ++ row_of (scenario_by leg) (session_of leg) row ∷ []) →
    AreRuns seen.runs (map (row_cause (scenario_by leg) (session_of leg)) (range_with_len 0 row) ++ row_cause
    (scenario_by leg) (session_of leg) row ∷ []) → Sees leg ticks rows seen
one-row leg ticks row rows seen next packets known segments runs = subst (λ n. Sees leg ticks n seen) next (record {
  packets = packets;
  known = known ∙ ap packets_in (sym next);
  segments = subst (SegmentsStand seen.segments) (sym (rows-next leg row)) segments;
  runs = subst (AreRuns seen.runs) (sym (causes-next leg row)) runs;
})

-- ---- a decision step, or none
pub sees-step : (leg : Leg) (before ticks rows : ℕ) (seen next : SeenRows) (packets : PacketList)
    (lines : List ℕ) → Sees leg before rows seen →
    steps_in ticks ≡ steps_in before + 1 → lines ≡ active (table_in leg ticks) →
    packets ≡ record seen.packets { active = seen.packets.active ++ lines ∷ [] } →
    next ≡ record { packets = packets; segments = seen.segments; runs = seen.runs } → Sees leg ticks rows next
sees-step leg before ticks rows seen next packets lines sees step is made so =
    subst (Sees leg ticks rows) (sym so) (record {
      packets = packets-next leg before ticks seen.packets lines packets sees.packets step is made;
      known = ap (λ (packets : PacketList). length packets.known) made ∙ sees.known;
      segments = sees.segments;
      runs = sees.runs;
    })

pub sees-same : (leg : Leg) (before ticks rows : ℕ) (seen next : SeenRows) → Sees leg before rows seen →
    steps_in ticks ≡ steps_in before → next ≡ seen → Sees leg ticks rows next
sees-same leg before ticks rows seen next sees step so = subst (Sees leg ticks rows) (sym so) (record {
  packets = record { are = sees.packets.are; steps = sees.packets.steps ∙ sym step };
  known = sees.known;
  segments = sees.segments;
  runs = sees.runs;
})

-- ---- memory is short
pub on-err : {X E P : Type 0} (r : Result X E) → P → OnErr r P
on-err (Ok x) is = tt
on-err (Err e) is = is

-- before a row is seen, or once all but its segments is
pub part-stays : (leg : Leg) (ticks rows : ℕ) (was is : SeenRows) → is.segments ≡ was.segments →
    is.packets ≡ was.packets → is.runs ≡ was.runs → SeesPart leg ticks rows was is
part-stays leg ticks rows was is segments packets runs = record {
  segments = segments;
  packets = inl packets;
  known = inl (ap (λ (p : PacketList). p.known) packets);
  runs = inl runs;
}

pub part-ahead : (leg : Leg) (ticks row rows : ℕ) (was is : SeenRows) → row + 1 ≡ rows → is.segments ≡ was.segments →
    Governs leg ticks is.packets → length is.packets.known ≡ packets_in rows →
    AreRuns is.runs (map (row_cause (scenario_by leg) (session_of leg)) (range_with_len 0 row) ++ row_cause
    (scenario_by leg) (session_of leg) row ∷ []) → SeesPart leg ticks rows was is
part-ahead leg ticks row rows was is next segments packets known runs = record {
  segments = segments;
  packets = inr packets;
  known = inr known;
  runs = inr (subst (λ n. AreRuns is.runs (map (row_cause (scenario_by leg) (session_of leg)) (range_with_len 0 n))) next
      (subst (AreRuns is.runs) (sym (causes-next leg row)) runs));
}

-- the runs are as they were
pub part-packets : (leg : Leg) (ticks rows : ℕ) (was is : SeenRows) → is.segments ≡ was.segments →
    Governs leg ticks is.packets → length is.packets.known ≡ packets_in rows → is.runs ≡ was.runs →
    SeesPart leg ticks rows was is
part-packets leg ticks rows was is segments packets known runs =
    record { segments = segments; packets = inr packets; known = inr known; runs = inl runs }

-- behind a decision step that was seen
pub part-after : (leg : Leg) (ticks rows : ℕ) (was mid is : SeenRows) → mid.segments ≡ was.segments →
    Governs leg ticks mid.packets → mid.packets.known ≡ was.packets.known → mid.runs ≡ was.runs →
    SeesPart leg ticks rows mid is → SeesPart leg ticks rows was is
part-after leg ticks rows was mid is segments packets known runs part = record {
  segments = part.segments ∙ segments;
  packets = elim part.packets [ inl e ↦ inr (subst (Governs leg ticks) (sym e) packets) | inr own ↦ inr own ];
  known = elim part.known [ inl e ↦ inl (e ∙ known) | inr own ↦ inr own ];
  runs = elim part.runs [ inl e ↦ inl (e ∙ runs) | inr own ↦ inr own ];
}
