-- The segments of rows: how they are kept with one row more, and a look at where a row lies among them.
use Rattle.std.proofs.Common.{◌≡◌, ℕ, suc, ◌+◌, ◌-◌, ◌<◌, ◌≤◌, Bool, true, false, nat_le, nat_lt, List, [], ◌∷◌, ◌++◌}
use Rattle.std.proofs.Common.{length, filter, drop, Option, None, option_map, refl, sym, ◌∙◌, ap, ap₂, subst, arith}
use Rattle.std.proofs.Common.{inl, inr, length-append, if◌then◌else◌, lt-ltb, le-ltb, le-leb, append-nil, zero, ◌&&◌}
use Rattle.std.proofs.Common.{slice_get, slice_index_or, Some, max, ltb-true, ltb-false, leb-true, leb-false}
use Rattle.std.proofs.lemmas.Bool.{cases_Bool, cases_lt, lt-leb}
use Rattle.std.proofs.lemmas.List.Elements.{filter-append}
use Rattle.law_model.specs.Common.{hunt_within, StreamRow, Segment, Segments, segments_on, segments_of, segments}
use Rattle.law_model.specs.Common.{octets_of_rows, confirmed_in}
use Rattle.law_model.specs.frames.Segment.{row_by}
use Rattle.law_loss.proofs.SegmentsOfAddedRowsLaws.{Stands-all, segments_of-push}
use Rattle.fate_engine.specs.Common.{spoiled_from, Span, Spans, span_by, spans_on, no_spans, row_segment}
use Rattle.fate_engine.specs.Common.{row_segments_with, row_segments, has_row, later_segments, SegmentList, Tells}
use Rattle.fate_engine.specs.Common.{ended_segments, last_segment, is_told, gone_on, broken_off, AreSegments}
use Rattle.fate_engine.specs.Common.{spoiled_after, mark_of_row, IsAround}
use Rattle.fate_engine.specs.declared.fate_law.RowSegment.{RowSegment}
use Rattle.fate_engine.specs.fate_core.Segments.{SegmentsStand, AreInOrder}
use Rattle.std.specs.List.Sorted.{IsPartitionedBy, IsPartitionPoint}
use Rattle.std.proofs.lemmas.List.{drop_all}
use Rattle.fate_engine.specs.declared.fate_core.row_segments.Around.{Around}
use Rattle.fate_engine.proofs.FrameRowAndSegmentLaws.{with_row, next_segment, tail, segments-tail, span_tail}
use Rattle.fate_engine.proofs.FrameRowAndSegmentLaws.{spans-tail}

-- ---- The segments of rows and one more.
-- ---- spans beside segments
spans-push : (come : Spans) (rows : List StreamRow) (row : StreamRow) →
    spans_on come (rows ++ row ∷ []) ≡ span_by row.whole (spans_on come rows)
unfolding spans_on
spans-push come [] row = refl
spans-push come (first ∷ rows) row = spans-push (span_by first.whole come) rows row

-- as many spans have ended as segments, and the last one ends behind all rows
record Beside (come : Spans) (segments : Segments) (count : ℕ) : Type 0 where
  pub ended : length come.ended ≡ length segments.ended
  pub last : come.last.end ≡ count

beside-row : (come : Spans) (segments : Segments) (count : ℕ) (whole : Bool) (octets : List ℕ) →
    Beside come segments count → Beside (span_by whole come) (row_by whole segments octets) (suc count)
beside-row come segments count true octets is = record { ended = is.ended; last = ap suc is.last }
beside-row come segments count false octets is = record {
  ended = (let a = length-append come.ended (come.last ∷ []) in
      let b = length-append segments.ended (segments.last ∷ []) in let c = is.ended in omega (arith, a, b, c));
  last = ap suc is.last;
}

beside-on : (come : Spans) (segments : Segments) (count : ℕ) (rows : List StreamRow) → Beside come segments count →
    Beside (spans_on come rows) (segments_on segments rows) (count + length rows)
unfolding spans_on segments_on
beside-on come segments count [] is = subst (Beside come segments) (let e : count ≡ count + 0 = omega arith in e) is
beside-on come segments count (row ∷ rows) is =
    subst (Beside (spans_on (span_by row.whole come) rows) (segments_on (row_by row.whole segments row.octets) rows))
    (let e : suc count + length rows ≡ count + suc (length rows) = omega arith in e)
    (beside-on (span_by row.whole come) (row_by row.whole segments row.octets) (suc count) rows
    (beside-row come segments count row.whole row.octets is))

beside : (rows : List StreamRow) → Beside (spans_on no_spans rows) (segments_of rows) (length rows)
beside rows =
    subst (Beside (spans_on no_spans rows) (segments_of rows))
    (let e : 0 + length rows ≡ length rows = omega arith in e)
    (beside-on no_spans (record { ended = []; last = record { first = true; base = 0; octets = [] } }) 0 rows
    (record { ended = refl; last = refl }))

with-last : (front : List Span) (others : List Segment) (a : Span) (b : Segment) → length front ≡ length others →
    row_segments_with (front ++ a ∷ []) (others ++ b ∷ []) ≡ row_segments_with front others ++ row_segment a b ∷ []
unfolding row_segments_with
with-last [] [] a b same = refl
with-last [] (y ∷ others) a b same = absurd (omega arith)
with-last (x ∷ front) [] a b same = absurd (omega arith)
with-last (x ∷ front) (y ∷ others) a b same = ap (λ l. row_segment x y ∷ l) (with-last front others a b (omega arith))

pub all-segments : (rows : List StreamRow) → row_segments rows ≡ ended_segments rows ++ last_segment rows ∷ []
all-segments rows = with-last (spans_on no_spans rows).ended (segments_of rows).ended (spans_on no_spans rows).last
    (segments_of rows).last (beside rows).ended

pub last-end : (rows : List StreamRow) → (last_segment rows).end ≡ length rows
last-end rows = (beside rows).last

-- ---- one more row
module _ (rows : List StreamRow) (row : StreamRow) where
  abbrev next : Spans → Segments → Bool → Spans × Segments
  next come segments whole = (span_by whole come, row_by whole segments row.octets)

  both : (whole : Bool) → row.whole ≡ whole →
      (spans_on no_spans (rows ++ row ∷ []) ≡ span_by whole (spans_on no_spans rows)) ×
      (segments_of (rows ++ row ∷ []) ≡ row_by whole (segments_of rows) row.octets)
  both whole is = (
    spans-push no_spans rows row ∙ ap (λ b. span_by b (spans_on no_spans rows)) is,
    segments_of-push rows row
        ∙ ap (λ b. row_by b (segments_of rows) row.octets) is,
  )

  abbrev ended_by : Spans → Segments → List RowSegment
  ended_by come segments = row_segments_with come.ended segments.ended

  pub whole-ended : row.whole ≡ true → ended_segments (rows ++ row ∷ []) ≡ ended_segments rows
  whole-ended is = let e = both true is in ap₂ (λ (come : Spans) (segments : Segments). ended_by come segments) e.0 e.1

  pub whole-last : row.whole ≡ true → last_segment (rows ++ row ∷ [])
      ≡ record {
        first = (last_segment rows).first;
        end = suc (length rows);
        mark = confirmed_in (segments_of (rows ++ row ∷ [])).last;
      }
  whole-last is =
      let e = both true is in
      ap (λ (come : Spans). record {
        first = come.last.first;
        end = come.last.end;
        mark = confirmed_in (segments_of (rows ++ row ∷ [])).last;
      }) e.0
      ∙ ap (λ n. record {
        first = (last_segment rows).first;
        end = suc n;
        mark = confirmed_in (segments_of (rows ++ row ∷ [])).last;
      }) (last-end rows)

  pub whole-base : row.whole ≡ true → (segments_of (rows ++ row ∷ [])).last.base ≡ (segments_of rows).last.base
  whole-base is = let e = both true is in ap (λ (s : Segments). s.last.base) e.1

  pub cut-ended : row.whole ≡ false → ended_segments (rows ++ row ∷ []) ≡ ended_segments rows ++ last_segment rows ∷ []
  cut-ended is =
      let e = both false is in
      ap₂ (λ (come : Spans) (segments : Segments). ended_by come segments) e.0 e.1
      ∙ with-last (spans_on no_spans rows).ended (segments_of rows).ended (spans_on no_spans rows).last
      (segments_of rows).last (beside rows).ended

  nothing : (segment : Segment) → segment.octets ≡ [] → confirmed_in segment ≡ None
  unfolding hunt_within
  nothing segment none = rw none refl

  pub cut-last : row.whole ≡ false →
      last_segment (rows ++ row ∷ []) ≡ record { first = suc (length rows); end = suc (length rows); mark = None }
  cut-last is =
      let e = both false is in
      let mark : confirmed_in (segments_of (rows ++ row ∷ [])).last ≡ None =
      nothing (segments_of (rows ++ row ∷ [])).last (ap (λ (s : Segments). s.last.octets) e.1) in
      ap₂ (λ (come : Spans) m. record { first = come.last.first; end = come.last.end; mark = m }) e.0 mark
      ∙ ap (λ n. record { first = suc n; end = suc n; mark = None }) (last-end rows)

  pub cut-base : row.whole ≡ false →
      (segments_of (rows ++ row ∷ [])).last.base ≡ length (octets_of_rows (rows ++ row ∷ []))
  cut-base is =
      let e = both false is in
      let none : length (segments_of (rows ++ row ∷ [])).last.octets ≡ 0 =
      ap (λ (s : Segments). length s.last.octets) e.1 in
      omega (arith, (Stands-all (rows ++ row ∷ [])).ends, none)

-- ---- the first row that isn't whole

spoiled-push : (t : ℕ) (rows : List StreamRow) (row : StreamRow) → spoiled_from t rows < t + length rows →
    spoiled_from t (rows ++ row ∷ []) ≡ spoiled_from t rows
unfolding spoiled_from
spoiled-push t [] row low = absurd (omega arith)
spoiled-push t (first ∷ rows) row low =
    elim (cases_Bool first.whole) [
      | inl whole ↦ rw whole (spoiled-push (suc t) rows row
          (let e : spoiled_from (suc t) rows < t + suc (length rows) = rw whole at low in omega (arith, e)))
      | inr cut ↦ rw cut refl
    ]

spoiled-next : (t : ℕ) (rows : List StreamRow) (row : StreamRow) → spoiled_from t rows ≡ t + length rows →
    spoiled_from t (rows ++ row ∷ []) ≡ (if row.whole then suc (t + length rows) else t + length rows)
unfolding spoiled_from
spoiled-next t [] row all = ap (λ n. if row.whole then suc n else n) (let e : t ≡ t + 0 = omega arith in e)
spoiled-next t (first ∷ rows) row all =
    elim (cases_Bool first.whole) [
      | inl whole ↦
          rw whole (spoiled-next (suc t) rows row
          (let e : spoiled_from (suc t) rows ≡ t + suc (length rows) = rw whole at all in omega (arith, e))
          ∙ ap (λ n. if row.whole then suc n else n)
          (let e : suc t + length rows ≡ t + suc (length rows) = omega arith in e))
      | inr cut ↦ absurd (let e : t ≡ t + suc (length rows) = rw cut at all in omega (arith, e))
    ]

pub spoiled-within : (t : ℕ) (rows : List StreamRow) → (t ≤ spoiled_from t rows) ×
    (spoiled_from t rows ≤ t + length rows)
unfolding spoiled_from
spoiled-within t [] = (omega arith, omega arith)
spoiled-within t (row ∷ rows) =
    let rest = spoiled-within (suc t) rows in
    elim (cases_Bool row.whole) [
      | inl whole ↦ rw whole (omega (arith, rest.0), omega (arith, rest.1))
      | inr cut ↦ rw cut (omega arith, omega arith)
    ]

pub spoiled-same : (t : ℕ) (rows : List StreamRow) (r : ℕ) → t ≤ r → r < spoiled_from t rows →
    spoiled_from t rows ≡ spoiled_from r (drop (r - t) rows)
unfolding spoiled_from
spoiled-same t [] r low high = absurd (omega (arith, low, high))
spoiled-same t (row ∷ rows) r low high =
    elim (cases_Bool row.whole) [
      | inl whole ↦ elim (cases_lt t r) [
        | inl later ↦ (
            let rest = spoiled-same (suc t) rows r (omega arith) (rw whole at high) in
            let dropped : r - t ≡ suc (r - suc t) = omega arith in
            rw (whole, dropped) rest)
        | inr here ↦ (
            let same : r ≡ t = omega arith in
            let none : r - t ≡ 0 = omega arith in
            rw (none, same) refl)
      ]
      | inr cut ↦ absurd (let e : r < t = rw cut at high in omega (arith, e, low))
    ]

-- ---- what is kept
-- the later segments that have a row
pub later-kept : (kept : SegmentList) (rows : List StreamRow) → SegmentsStand kept rows →
    later_segments rows ≡ kept.ended ++ (if is_told kept then kept.last ∷ [] else [])
later-kept kept rows stands = ap (λ l. filter has_row (drop 1 l)) (all-segments rows)
    ∙ by (ended_segments rows) stands.ended stands.broken
  where
    by : (ended : List RowSegment) → kept.ended ≡ filter has_row (drop 1 ended) →
        nat_lt kept.first kept.last.first ≡ nat_lt 0 (length ended) →
        filter has_row (drop 1 (ended ++ last_segment rows ∷ [])) ≡ kept.ended ++
        (if is_told kept then kept.last ∷ [] else [])
    by [] none goes = rw goes (sym (append-nil kept.ended ∙ none))
    by (first ∷ ended) are goes =
        let told : nat_lt kept.first kept.last.first ≡ true = goes ∙ lt-ltb 0 (length (first ∷ ended)) (omega arith) in
        filter-append has_row ended (last_segment rows ∷ [])
        ∙ ap₂ ◌++◌ (sym are) (rw told (ap (λ (last : RowSegment). filter has_row (last ∷ [])) (sym stands.last)
        ∙ own (has_row kept.last) refl))
      where
        own : (b : Bool) → has_row kept.last ≡ b →
            filter has_row (kept.last ∷ []) ≡ (if nat_lt kept.last.first kept.last.end then kept.last ∷ [] else [])
        own true is = rw is refl
        own false is = rw is refl

pub none-kept : (kept : SegmentList) → kept.rows ≡ 0 → kept.first ≡ 0 → kept.ended ≡ [] →
    kept.last ≡ record { first = 0; end = 0; mark = None } → kept.base ≡ 0 → SegmentsStand kept []
unfolding spoiled_from spans_on segments_on row_segments_with hunt_within
none-kept kept rows first ended last base = record {
  count = rows;
  first = first;
  ended = ended;
  last = last;
  base = base;
  broken = ap₂ (λ a (s : RowSegment). nat_lt a s.first) first last;
}

-- with one more row
module _ (kept : SegmentList) (rows : List StreamRow) (row : StreamRow) (stands : SegmentsStand kept rows)
    (are : AreSegments kept) where
  broken-first : kept.first < kept.last.first → spoiled_from 0 rows < 0 + length rows
  broken-first low = omega (arith, low, stands.count, are.last, are.rows, stands.first)

  whole-first : kept.last.first ≤ kept.first → spoiled_from 0 rows ≡ 0 + length rows
  whole-first low = let goes = are.goes low in let count = stands.count in let first = stands.first in
      omega (arith, goes, count, first)

  pub go-on : (end : ℕ) (confirmed : Option ℕ) → row.whole ≡ true → Tells (rows ++ row ∷ []) end confirmed →
      SegmentsStand (gone_on kept confirmed) (rows ++ row ∷ [])
  go-on end confirmed whole tells = record {
    count = (let all = length-append rows (row ∷ []) in let count = stands.count in omega (arith, all, count));
    first = by-first;
    ended = stands.ended ∙ ap (λ l. filter has_row (drop 1 l)) (sym (whole-ended rows row whole));
    last = (
        let first = ap (λ (s : RowSegment). s.first) stands.last in
        let count : kept.rows + 1 ≡ suc (length rows) = (let e = stands.count in omega (arith, e)) in
        let base : kept.base ≡ (segments_of (rows ++ row ∷ [])).last.base = stands.base
        ∙ sym (whole-base rows row whole) in
        ap (λ n. record { first = n; end = kept.rows + 1; mark = option_map (λ place. kept.base + place) confirmed })
        first
        ∙ ap (λ n. record {
          first = (last_segment rows).first;
          end = n;
          mark = option_map (λ place. kept.base + place) confirmed;
        }) count
        ∙ ap (λ m. record { first = (last_segment rows).first; end = suc (length rows); mark = m })
        (ap (λ b. option_map (λ place. b + place) confirmed) base ∙ tells.confirms)
        ∙ sym (whole-last rows row whole)
        );
    base = stands.base ∙ sym (whole-base rows row whole);
    broken = by-broken ∙ ap (λ (l : List RowSegment). nat_lt 0 (length l)) (sym (whole-ended rows row whole));
  }
    where
      by-first : (if nat_le kept.last.first kept.first then kept.first + 1 else kept.first) ≡ spoiled_from 0
          (rows ++ row ∷ [])
      by-first =
          elim (cases_lt kept.first kept.last.first) [
            | inl low ↦ rw (lt-leb kept.last.first kept.first low)
                (stands.first ∙ sym (spoiled-push 0 rows row (broken-first low)))
            | inr high ↦ rw (le-leb kept.last.first kept.first high) (
                let all = whole-first high in
                let next : spoiled_from 0 (rows ++ row ∷ []) ≡ suc (0 + length rows) = spoiled-next 0 rows row all
                ∙ ap (λ b. if b then suc (0 + length rows) else 0 + length rows) whole in
                omega (arith, all, stands.first, next))
          ]

      by-broken : nat_lt (if nat_le kept.last.first kept.first then kept.first + 1 else kept.first) kept.last.first
          ≡ nat_lt 0 (length (ended_segments rows))
      by-broken =
          elim (cases_lt kept.first kept.last.first) [
            | inl low ↦ rw (lt-leb kept.last.first kept.first low) stands.broken
            | inr high ↦ rw (le-leb kept.last.first kept.first high)
                (le-ltb (kept.first + 1) kept.last.first (omega arith) ∙ sym (le-ltb kept.first kept.last.first high)
                ∙ stands.broken)
          ]

  pub break-off : (end : ℕ) (confirmed : Option ℕ) → row.whole ≡ false → Tells (rows ++ row ∷ []) end confirmed →
      SegmentsStand (broken_off kept end) (rows ++ row ∷ [])
  break-off end confirmed cut tells = record {
    count = (let all = length-append rows (row ∷ []) in let count = stands.count in omega (arith, all, count));
    first = by-first;
    ended = by-ended (is_told kept) refl ∙ sym (later-kept kept rows stands)
        ∙ ap (λ l. filter has_row (drop 1 l)) (all-segments rows ∙ sym (cut-ended rows row cut));
    last = (
        let count : kept.rows + 1 ≡ suc (length rows) = (let e = stands.count in omega (arith, e)) in
        ap (λ n. record { first = n; end = n; mark = None }) count ∙ sym (cut-last rows row cut)
        );
    base = tells.ends ∙ sym (cut-base rows row cut);
    broken = (
        let some : length (ended_segments (rows ++ row ∷ [])) ≡ length (ended_segments rows) + 1 =
        ap length (cut-ended rows row cut) ∙ length-append (ended_segments rows) (last_segment rows ∷ []) in
        lt-ltb kept.first (kept.rows + 1) (omega (arith, are.within))
        ∙ sym (lt-ltb 0 (length (ended_segments (rows ++ row ∷ []))) (omega (arith, some)))
        );
  }
    where
      by-first : kept.first ≡ spoiled_from 0 (rows ++ row ∷ [])
      by-first =
          elim (cases_lt kept.first kept.last.first) [
            | inl low ↦ stands.first ∙ sym (spoiled-push 0 rows row (broken-first low))
            | inr high ↦ (
                let all = whole-first high in
                let next : spoiled_from 0 (rows ++ row ∷ []) ≡ 0 + length rows = spoiled-next 0 rows row all
                ∙ ap (λ b. if b then suc (0 + length rows) else 0 + length rows) cut in
                stands.first ∙ all ∙ sym next)
          ]

      by-ended : (b : Bool) → is_told kept ≡ b →
          (if is_told kept then kept.ended ++ kept.last ∷ [] else kept.ended) ≡ kept.ended ++
          (if is_told kept then kept.last ∷ [] else [])
      by-ended true is = rw is refl
      by-ended false is = rw is (sym (append-nil kept.ended))

-- ---- in order
pub order-push : (from : ℕ) (ended : List RowSegment) (end next : ℕ) (last : RowSegment) → AreInOrder from ended end →
    end ≡ last.first → last.first < last.end → last.end ≤ next →
    AreInOrder from (ended ++ last ∷ []) next
unfolding AreInOrder
order-push from [] end next last are begins some ends = (omega arith, some, ends)
order-push from (segment ∷ ended) end next last are begins some ends =
    (are.0, are.1, order-push segment.end ended end next last are.2 begins some ends)

pub order-more : (from : ℕ) (ended : List RowSegment) (end next : ℕ) → AreInOrder from ended end → end ≤ next →
    AreInOrder from ended next
unfolding AreInOrder
order-more from [] end next are more = omega arith
order-more from (segment ∷ ended) end next are more = (are.0, are.1, order-more segment.end ended end next are.2 more)

-- ---- Where a row lies among segments.
-- ---- a look at segments
abbrev pub in_segment : RowSegment → Around
in_segment segment = record { spoiled = segment.end; first = false; mark = segment.mark }

abbrev pub in_none : ℕ → Around
in_none r = record { spoiled = r; first = false; mark = None }

abbrev at_first : RowSegment → ℕ → Around
at_first segment r = if nat_le segment.first r then in_segment segment else in_none r

-- by the first of them that ends after row r
unfoldable pub look : List RowSegment → ℕ → Around
look [] r = in_none r
look (segment ∷ segments) r = if nat_lt r segment.end then at_first segment r else look segments r

-- its mark is that of the row
look-mark : (list : List RowSegment) (r : ℕ) → r < (look list r).spoiled → (look list r).mark ≡ mark_of_row list r
unfolding look mark_of_row
look-mark [] r low = refl
look-mark (segment ∷ list) r low =
    elim (cases_Bool (nat_lt r segment.end)) [
      | inl here ↦ elim (cases_Bool (nat_le segment.first r)) [
        | inl covers ↦ rw (here, covers) refl
        | inr beyond ↦ absurd (let wrong : r < r = rw (here, beyond) at low in omega (arith, wrong))
      ]
      | inr later ↦ rw later (look-mark list r (rw later at low))
    ]

-- segments that begin after a row
unfoldable Rise : ℕ → List RowSegment → Type 0
Rise from [] = Unit {0}
Rise from (segment ∷ list) = (from ≤ segment.first) × (segment.first ≤ segment.end) × Rise (suc segment.end) list

look-low : (from : ℕ) (list : List RowSegment) (r : ℕ) → Rise from list → r < from → look list r ≡ in_none r
unfolding look Rise
look-low from [] r rise low = refl
look-low from (segment ∷ list) r rise low =
    rw (
      lt-ltb r segment.end (let a = rise.0 in let b = rise.1 in omega (arith, a, b, low)),
      lt-leb segment.first r (let a = rise.0 in omega (arith, a, low)),
    ) refl

look-rows : (from : ℕ) (list : List RowSegment) (r : ℕ) → Rise from list → look (filter has_row list) r ≡ look list r
unfolding look Rise
look-rows from [] r rise = refl
look-rows from (segment ∷ list) r rise =
    elim (cases_Bool (has_row segment)) [
      | inl some ↦ rw some (elim (cases_Bool (nat_lt r segment.end)) [
        | inl here ↦ rw here refl
        | inr later ↦ rw later (look-rows (suc segment.end) list r rise.2)
      ])
      | inr none ↦ rw none (elim (cases_Bool (nat_lt r segment.end)) [
        | inl here ↦ (
            let low = ltb-true r segment.end here in
            rw (here, lt-leb segment.first r (omega (arith, ltb-false segment.first segment.end none, low)))
            (look-rows (suc segment.end) list r rise.2 ∙ look-low (suc segment.end) list r rise.2 (omega (arith, low))))
        | inr later ↦ rw later (look-rows (suc segment.end) list r rise.2)
      ])
    ]

-- ---- the segments of rows
abbrev pub from_here : List StreamRow → Span → Segment → List RowSegment
from_here rows span segment = row_segments_with (span_tail rows span) (tail rows segment)

rises : (rows : List StreamRow) (span : Span) (segment : Segment) → span.first ≤ span.end →
    Rise span.first (from_here rows span segment)
unfolding Rise row_segments_with span_tail tail
rises [] span segment within = (omega arith, within, tt)
rises (row ∷ rows) span segment within =
    elim (cases_Bool row.whole) [
      | inl whole ↦ rw whole (rises rows (record { first = span.first; end = suc span.end })
          (with_row segment row.octets) (omega arith))
      | inr cut ↦ rw cut (
        omega arith,
        within,
        rises rows (record { first = suc span.end; end = suc span.end }) (next_segment segment row.octets)
            (omega arith),
      )
    ]

look-spoiled : (rows : List StreamRow) (span : Span) (segment : Segment) (r : ℕ) → span.first ≤ span.end →
    span.first ≤ r → r < span.end + length rows →
    (look (from_here rows span segment) r).spoiled ≡ spoiled_from (max r span.end) (drop (r - span.end) rows)
unfolding look row_segments_with span_tail tail spoiled_from
look-spoiled [] span segment r within from below =
    let low : r < span.end = omega (arith, below) in
    let most : max r span.end ≡ span.end = omega arith in
    let none : r - span.end ≡ 0 = omega arith in
    rw (lt-ltb r span.end low, le-leb span.first r from, most, none) refl
look-spoiled (row ∷ rows) span segment r within from below =
    elim (cases_Bool row.whole) [
      | inl whole ↦ (
          let rest = look-spoiled rows (record { first = span.first; end = suc span.end })
          (with_row segment row.octets) r (omega arith) from (omega (arith, below)) in
          elim (cases_lt span.end r) [
            | inl later ↦ (
                let same : max r (suc span.end) ≡ max r span.end = omega arith in
                let dropped : r - span.end ≡ suc (r - suc span.end) = omega arith in
                rw (whole, dropped) (rest ∙ ap (λ n. spoiled_from n (drop (r - suc span.end) rows)) same))
            | inr early ↦ (
                let more : max r (suc span.end) ≡ suc span.end = omega arith in
                let most : max r span.end ≡ span.end = omega arith in
                let none : r - span.end ≡ 0 = omega arith in
                let still : r - suc span.end ≡ 0 = omega arith in
                rw (whole, most, none) (rest ∙ ap₂ (λ n k. spoiled_from n (drop k rows)) more still))
          ])
      | inr cut ↦ elim (cases_lt r span.end) [
        | inl low ↦ (
            let most : max r span.end ≡ span.end = omega arith in
            let none : r - span.end ≡ 0 = omega arith in
            rw (cut, lt-ltb r span.end low, le-leb span.first r from, most, none) refl)
        | inr high ↦ elim (cases_lt span.end r) [
          | inl later ↦ (
              let rest = look-spoiled rows (record { first = suc span.end; end = suc span.end })
              (next_segment segment row.octets) r (omega arith) (omega arith) (omega (arith, below)) in
              let same : max r (suc span.end) ≡ max r span.end = omega arith in
              let dropped : r - span.end ≡ suc (r - suc span.end) = omega arith in
              rw (cut, le-ltb r span.end high, dropped)
              (rest ∙ ap (λ n. spoiled_from n (drop (r - suc span.end) rows)) same))
          | inr here ↦ (
              let most : max r span.end ≡ span.end = omega arith in
              let none : r - span.end ≡ 0 = omega arith in
              let low = look-low (suc span.end)
              (from_here rows (record { first = suc span.end; end = suc span.end })
              (next_segment segment row.octets)) r
              (rises rows (record { first = suc span.end; end = suc span.end }) (next_segment segment row.octets)
              (omega arith)) (omega arith) in
              rw (cut, le-ltb r span.end high, most, none)
              (ap (λ (a : Around). a.spoiled) low ∙ (let e : r ≡ span.end = omega arith in e)))
        ]
      ]
    ]

abbrev pub start : Segment
start = record { first = true; base = 0; octets = [] }

abbrev pub no_span : Span
no_span = record { first = 0; end = 0 }

pub from-start : (rows : List StreamRow) → row_segments rows ≡ from_here rows no_span start
from-start rows = ap₂ row_segments_with (spans-tail (record { ended = []; last = no_span }) rows)
    (segments-tail (record { ended = []; last = start }) rows)

pub looked : (rows : List StreamRow) (r : ℕ) → r < length rows →
    (look (row_segments rows) r).spoiled ≡ spoiled_after rows r
looked rows r low =
    ap (λ l. (look l r).spoiled) (from-start rows)
    ∙ look-spoiled rows no_span start r (omega arith) (omega arith) (omega (arith, low))
    ∙ ap₂ (λ n k. spoiled_from n (drop k rows)) (let e : max r 0 ≡ r = omega arith in e)
    (let e : r - 0 ≡ r = omega arith in e)

all-rise : (rows : List StreamRow) → Rise 0 (row_segments rows)
all-rise rows = subst (Rise 0) (sym (from-start rows)) (rises rows no_span start (omega arith))

-- the first of them ends with the first row that isn't whole
first-end : (rows : List StreamRow) (span : Span) (segment : Segment) → (first : RowSegment) ×
    (rest : List RowSegment) × (from_here rows span segment ≡ first ∷ rest) × (first.end ≡ spoiled_from span.end rows)
unfolding row_segments_with span_tail tail spoiled_from
first-end [] span segment = (row_segment span segment, [], refl, refl)
first-end (row ∷ rows) span segment =
    elim (cases_Bool row.whole) [
      | inl whole ↦ rw whole (first-end rows (record { first = span.first; end = suc span.end })
          (with_row segment row.octets))
      | inr cut ↦ rw cut (row_segment span segment, _, refl, refl)
    ]

-- behind the first segment the later ones with a row tell
pub later-tell : (rows : List StreamRow) (r : ℕ) → spoiled_after rows 0 ≤ r →
    look (later_segments rows) r ≡ look (row_segments rows) r
unfolding look Rise
later-tell rows r high =
    let found = first-end rows no_span start in
    let first : RowSegment = found.0 in
    let rest : List RowSegment = found.1 in
    let parts : row_segments rows ≡ first ∷ rest = from-start rows ∙ found.2 in
    let rise : Rise 0 (first ∷ rest) = subst (Rise 0) parts (all-rise rows) in
    let behind : nat_lt r first.end ≡ false = le-ltb r first.end (let e = found.3 in omega (arith, e, high)) in
    ap (λ l. look (filter has_row (drop 1 l)) r) parts ∙ look-rows (suc first.end) rest r rise.2
    ∙ sym (ap (λ l. look l r) parts ∙ ap (λ b. if b then at_first first r else look rest r) behind)

-- ---- the search
look-more : (ended more : List RowSegment) (r i : ℕ) →
    ((k : ℕ) (d : RowSegment) → k < i → k < length ended → (slice_index_or ended k d).end ≤ r) →
    look (ended ++ more) r ≡ look (drop i ended ++ more) r
unfolding look
look-more ended more r zero passed = refl
look-more [] more r (suc i) passed = refl
look-more (segment ∷ ended) more r (suc i) passed =
    ap (λ b. if b then at_first segment r else look (ended ++ more) r)
    (le-ltb r segment.end (passed zero segment (omega arith) (omega arith)))
    ∙ look-more ended more r i (λ k d low within. passed (suc k) d (omega arith) (omega arith))

ends-low : (from : ℕ) (ended : List RowSegment) (end k : ℕ) (d : RowSegment) → AreInOrder from ended end →
    k < length ended → (from ≤ (slice_index_or ended k d).end) × ((slice_index_or ended k d).end ≤ end)
unfolding AreInOrder
ends-low from [] end k d are within = absurd (omega arith)
ends-low from (segment ∷ ended) end zero d are within =
    (let a = are.0 in let b = are.1 in omega (arith, a, b), order-low segment.end ended end are.2)
  where
    order-low : (from : ℕ) (ended : List RowSegment) (end : ℕ) → AreInOrder from ended end → from ≤ end
    order-low from [] end are = are
    order-low from (segment ∷ ended) end are = let rest = order-low segment.end ended end are.2 in let a = are.0 in
        let b = are.1 in omega (arith, rest, a, b)
ends-low from (segment ∷ ended) end (suc k) d are within =
    let rest = ends-low segment.end ended end k d are.2 (omega arith) in
    (omega (arith, rest.0, are.0, are.1), rest.1)

ends-rise : (from : ℕ) (ended : List RowSegment) (end i j : ℕ) (d : RowSegment) → AreInOrder from ended end → i ≤ j →
    j < length ended → (slice_index_or ended i d).end ≤ (slice_index_or ended j d).end
unfolding AreInOrder
ends-rise from [] end i j d are before within = absurd (omega arith)
ends-rise from (segment ∷ ended) end zero zero d are before within = omega arith
ends-rise from (segment ∷ ended) end (suc i) zero d are before within = absurd (omega arith)
ends-rise from (segment ∷ ended) end zero (suc j) d are before within =
    (ends-low segment.end ended end j d are.2 (omega arith)).0
ends-rise from (segment ∷ ended) end (suc i) (suc j) d are before within =
    ends-rise segment.end ended end i j d are.2 (omega arith) (omega arith)

pub parted : (ended : List RowSegment) (end r : ℕ) → AreInOrder 0 ended end →
    IsPartitionedBy (λ (s : RowSegment). nat_le s.end r) ended
parted ended end r are i j d before within passed =
    let rise = ends-rise 0 ended end i j d are before within in
    let low = leb-true (slice_index_or ended j d).end r passed in
    le-leb (slice_index_or ended i d).end r (omega (arith, rise, low))

abbrev pub Passed : List RowSegment → ℕ → ℕ → Type 0
Passed ended r i = IsPartitionPoint (λ (s : RowSegment). nat_le s.end r ≡ true)
    (λ (s : RowSegment). nat_le s.end r ≡ false) ended i

passed-low : (ended : List RowSegment) (r i : ℕ) → Passed ended r i → (k : ℕ) (d : RowSegment) → k < i →
    k < length ended → (slice_index_or ended k d).end ≤ r
passed-low ended r i point k d low within = leb-true (slice_index_or ended k d).end r (point.0 k d (omega arith) low)

front-of : (ended : List RowSegment) (i : ℕ) (segment : RowSegment) → Some segment ≡ slice_get (drop i ended) 0 →
    (rest : List RowSegment) × (drop i ended ≡ segment ∷ rest) × (i < length ended) ×
    (slice_index_or ended i segment ≡ segment)
front-of [] zero segment there = absurd cc
front-of [] (suc i) segment there = absurd cc
front-of (own ∷ ended) zero segment there = let same : own ≡ segment = cc in
    (ended, ap (λ s. s ∷ ended) same, omega arith, same)
front-of (own ∷ ended) (suc i) segment there = let rest = front-of ended i segment there in
    (rest.0, rest.1, omega (arith, rest.2), rest.3)

-- ---- what is told of a row
module _ (kept : SegmentList) (rows : List StreamRow) (stands : SegmentsStand kept rows) (are : AreSegments kept) (r : ℕ)
    (low : r < length rows) where
  abbrev told : List RowSegment
  told = if is_told kept then kept.last ∷ [] else []

  kept-look : look (later_segments rows) r ≡ look (kept.ended ++ told) r
  kept-look = ap (λ l. look l r) (later-kept kept rows stands)

  by-look : (around : Around) → kept.first ≤ r → around ≡ look (kept.ended ++ told) r → IsAround rows r around
  unfolding look
  by-look around high is =
      let first = stands.first in
      let behind : spoiled_after rows 0 ≤ r = omega (arith, high, first) in
      let all : around ≡ look (row_segments rows) r = is ∙ sym kept-look ∙ later-tell rows r behind in
      record {
        spoiled = ap (λ (a : Around). a.spoiled) all ∙ looked rows r low;
        first = flag around all ∙ sym (le-ltb r (spoiled_after rows 0) behind);
        mark = λ before later. ap (λ (a : Around). a.mark) all
            ∙ look-mark (row_segments rows) r (let e = looked rows r low in omega (arith, e, before));
      }
    where
      at-flag : (segment : RowSegment) (b : Bool) → (if b then in_segment segment else in_none r).first ≡ false
      at-flag segment true = refl
      at-flag segment false = refl

      look-flag : (list : List RowSegment) → (look list r).first ≡ false
      look-flag [] = refl
      look-flag (segment ∷ list) =
          elim (cases_Bool (nat_lt r segment.end)) [
            | inl here ↦ rw here (at-flag segment (nat_le segment.first r))
            | inr later ↦ rw later (look-flag list)
          ]

      flag : (around : Around) → around ≡ look (row_segments rows) r → around.first ≡ false
      flag around all = ap (λ (a : Around). a.first) all ∙ look-flag (row_segments rows)

  pub in-first : r < kept.first → IsAround rows r (record { spoiled = kept.first; first = true; mark = None })
  in-first before =
      let first = stands.first in
      let inside : r < spoiled_after rows 0 = omega (arith, first, before) in
      record {
        spoiled = first ∙ spoiled-same 0 rows r (omega arith) inside
            ∙ ap (λ k. spoiled_from r (drop k rows)) (let e : r - 0 ≡ r = omega arith in e);
        first = sym (lt-ltb r (spoiled_after rows 0) inside);
        mark = λ some later. absurd (omega (arith, inside, later));
      }

  pub in-last : kept.first ≤ r → kept.last.first ≤ r → IsAround rows r (in_segment kept.last)
  unfolding look
  in-last high from =
      let count = stands.count in
      let below : r < kept.last.end = omega (arith, low, are.rows, count) in
      let later : kept.first < kept.last.first = elim (cases_lt kept.first kept.last.first) [
        | inl is ↦ is
        | inr isnt ↦ absurd (let all = are.goes isnt in omega (arith, all, high, low, count))
      ] in
      let is : is_told kept ≡ true = ap₂ ◌&&◌ (lt-ltb kept.first kept.last.first later)
      (lt-ltb kept.last.first kept.last.end (omega (arith, from, below))) in
      by-look (in_segment kept.last) high
      (sym (ap (λ b. look (kept.ended ++ (if b then kept.last ∷ [] else [])) r) is
      ∙ look-more kept.ended (kept.last ∷ []) r (length kept.ended)
      (λ k d before within. let e = ends-low 0 kept.ended kept.last.first k d are.order within in
      omega (arith, e.1, from))
      ∙ ap (λ l. look (l ++ kept.last ∷ []) r) (drop_all (length kept.ended) kept.ended (omega arith))
      ∙ rw (lt-ltb r kept.last.end below, le-leb kept.last.first r from) refl))

  pub in-ended : (i : ℕ) (segment : RowSegment) → kept.first ≤ r → Passed kept.ended r i →
      Some segment ≡ slice_get (drop i kept.ended) 0 →
      IsAround rows r (if nat_le segment.first r then in_segment segment else in_none r)
  unfolding look
  in-ended i segment high point there =
      let front = front-of kept.ended i segment there in
      let above = leb-false (slice_index_or kept.ended i segment).end r (point.1 i segment (omega arith) front.2) in
      let below : r < segment.end = omega (arith, above, ap (λ (s : RowSegment). s.end) front.3) in
      by-look (if nat_le segment.first r then in_segment segment else in_none r) high
      (sym (look-more kept.ended told r i (passed-low kept.ended r i point) ∙ ap (λ l. look (l ++ told) r) front.1
      ∙ rw (lt-ltb r segment.end below) refl))

  pub in-no : (i : ℕ) → kept.first ≤ r → r < kept.last.first → Passed kept.ended r i →
      None ≡ slice_get (drop i kept.ended) 0 → IsAround rows r (in_none r)
  unfolding look
  in-no i high before point there =
      by-look (in_none r) high
      (sym (look-more kept.ended told r i (passed-low kept.ended r i point)
      ∙ ap (λ l. look (l ++ told) r) (empty (drop i kept.ended) there) ∙ rest (is_told kept)))
    where
      empty : (list : List RowSegment) → None ≡ slice_get list 0 → list ≡ []
      empty [] there = refl
      empty (segment ∷ list) there = absurd cc

      rest : (b : Bool) → look ([] ++ (if b then kept.last ∷ [] else [])) r ≡ in_none r
      rest true = (let last = are.last in rw
          (lt-ltb r kept.last.end (omega (arith, last, before)), lt-leb kept.last.first r before) refl)
      rest false = refl
