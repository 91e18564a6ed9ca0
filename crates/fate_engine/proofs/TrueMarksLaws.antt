-- True marks: that all marks are true is decided, and by the later segments alone.
use Rattle.std.proofs.Common.{◌≡◌, ℕ, ◌+◌, ◌<◌, ◌≤◌, true, false, List, [], ◌∷◌, ◌++◌, length, All, Option, Some, None}
use Rattle.std.proofs.Common.{refl, sym, ◌∙◌, ap, ap₂, arith, inl, inr, length-append, ◌==◌, ◌&&◌, ◌||◌, IfSome}
use Rattle.std.proofs.Common.{option_map, eqb-true, eq-eqb, append-nil, zero, suc, Bool, filter, drop, slice_get}
use Rattle.std.specs.List.{list_any, list_all}
use Rattle.std.proofs.lemmas.Bool.{cases_Bool, and_parts, lt-ltb}
use Rattle.std.proofs.lemmas.List.Elements.{All-nil, All-cons, All-head, All-tail}
use Rattle.law_loss.proofs.ClientFrameExtentLaws.{no_octets, or_true}
use Rattle.law_model.specs.Common.{Piece, size_of, stream_of, Confirmed, hunt, StreamRow, Segment, segments}
use Rattle.law_model.specs.Common.{octets_of_rows, confirmed_in, IsPlaceOfPiece, StartsTrue, TrueStarts, hunt_within}
use Rattle.law_model.proofs.StreamOfPiecesLaws.{length-stream_of-cons}
use Rattle.law_loss.specs.CarriedStream.{CarriesStream}
use Rattle.law_loss.proofs.SegmentHuntAndRunLaws.{confirmed-within}
use Rattle.law_loss.proofs.SegmentsOfAddedRowsLaws.{IsPart}
use Rattle.law_loss.proofs.GivenAndLostFrameLaws.{parts-of}
use Rattle.fate_engine.specs.Common.{places, is_piece_at, is_true_mark, has_true_mark, are_true_marks, Span}
use Rattle.fate_engine.specs.Common.{row_segment, row_segments_with, has_row, later_segments, is_true_of}
use Rattle.std.proofs.lemmas.List.{drop_all}
use Rattle.fate_engine.specs.declared.fate_law.RowSegment.{RowSegment}
use Rattle.fate_engine.proofs.FrameRowAndSegmentLaws.{with_row, next_segment, tail, segments-tail, span_tail}
use Rattle.fate_engine.proofs.RowSegmentLookupLaws.{from_here, from-start, start, no_span}

-- ---- That all marks are true is decided.
-- ---- places of pieces
-- a part of pieces that ends at a place
abbrev EndsAt : ℕ → List Piece → ℕ → Type 0
EndsAt start pieces place = (front : List Piece) × (more : List Piece) × (pieces ≡ front ++ more) ×
    (start + length (stream_of front) ≡ place)

ends-at : (start place : ℕ) (pieces : List Piece) → list_any (λ at. at == place) (places start pieces) ≡ true →
    EndsAt start pieces place
unfolding places
ends-at start place [] any = absurd (let e : false ≡ true = any in cc)
ends-at start place (piece ∷ pieces) any =
    elim (cases_Bool (start == place)) [
      | inl here ↦ ([], piece ∷ pieces, refl, omega (arith, no_octets, eqb-true start place here))
      | inr other ↦ (
          let rest = ends-at (start + size_of piece) place pieces
          (sym (ap (λ b. b || list_any (λ at. at == place) (places (start + size_of piece) pieces)) other)
          ∙ any) in (
            piece ∷ rest.0,
            rest.1,
            ap (λ l. piece ∷ l) rest.2,
            omega (arith, length-stream_of-cons piece rest.0, rest.3),
          ))
    ]

place-found : (start place : ℕ) (front more : List Piece) → start + length (stream_of front) ≡ place → 0 < length more →
    list_any (λ at. at == place) (places start (front ++ more)) ≡ true
unfolding places
place-found start place [] [] ends some = absurd (omega (arith, some))
place-found start place [] (piece ∷ more) ends some =
    ap (λ b. b || list_any (λ at. at == place) (places (start + size_of piece) more))
    (eq-eqb start place (omega (arith, no_octets, ends)))
place-found start place (piece ∷ front) more ends some =
    ap (λ b. (start == place) || b)
    (place-found (start + size_of piece) place front more (omega (arith, length-stream_of-cons piece front, ends))
    some)
    ∙ or_true (start == place)

pub place-of : (pieces : List Piece) (place : ℕ) → is_piece_at pieces place ≡ true → IsPlaceOfPiece pieces place
place-of pieces place is =
    let found = ends-at 0 place pieces is in
    record { front = found.0; more = found.1; parts = found.2; ends = omega (arith, found.3) }

pub piece-at : (pieces : List Piece) (place : ℕ) → place < length (stream_of pieces) → IsPlaceOfPiece pieces place →
    is_piece_at pieces place ≡ true
piece-at pieces place low is =
    ap (λ ps. list_any (λ at. at == place) (places 0 ps)) is.parts
    ∙ place-found 0 place is.front is.more (omega (arith, is.ends)) (some is.more is.parts)
  where
    some : (more : List Piece) → pieces ≡ is.front ++ more → 0 < length more
    some [] parts =
        let all : pieces ≡ is.front = parts ∙ append-nil is.front in
        absurd (omega (arith, ap (λ ps. length (stream_of ps)) all, is.ends, low))
    some (piece ∷ more) parts = omega arith

-- ---- marks
module _ (pieces : List Piece) where
  mark-true : (found : Option ℕ) → is_true_mark pieces found ≡ true → IfSome found (IsPlaceOfPiece pieces)
  mark-true None is = tt
  mark-true (Some place) is = place-of pieces place is

  true-mark : (found : Option ℕ) → IfSome found (λ place. place < length (stream_of pieces)) →
      IfSome found (IsPlaceOfPiece pieces) → is_true_mark pieces found ≡ true
  true-mark None low is = refl
  true-mark (Some place) low is = piece-at pieces place low is

  starts-true : (segment : Segment) → has_true_mark pieces segment ≡ true → StartsTrue pieces segment
  starts-true segment is = λ later. mark-true (confirmed_in segment)
      (sym (ap (λ first. first || is_true_mark pieces (confirmed_in segment)) later) ∙ is)

  -- the mark of a part of the octets of rows lies in the stream
  low-by : (sent : List ℕ) (segment : Segment) → IsPart sent segment → length sent ≤ length (stream_of pieces) →
      (found : Option Confirmed) → hunt true 0 segment.octets ≡ found →
      IfSome (option_map (λ (found : Confirmed). segment.base + found.place) found)
      (λ place. place < length (stream_of pieces))
  low-by sent segment part within None is = tt
  low-by sent segment part within (Some found) is =
      omega (arith, confirmed-within segment.octets found is, part.fits, within)

  true-start : (sent : List ℕ) (segment : Segment) → IsPart sent segment → length sent ≤ length (stream_of pieces) →
      StartsTrue pieces segment → has_true_mark pieces segment ≡ true
  true-start sent segment part within starts =
      elim (cases_Bool segment.first) [
        | inl first ↦ ap (λ b. b || is_true_mark pieces (confirmed_in segment)) first
        | inr later ↦ ap (λ b. b || is_true_mark pieces (confirmed_in segment)) later
            ∙ true-mark (confirmed_in segment) (low-by sent segment part within (hunt true 0 segment.octets) refl)
            (starts later)
      ]

  pub all-true : (segments : List Segment) → list_all (has_true_mark pieces) segments ≡ true →
      All (StartsTrue pieces) segments
  all-true [] is = All-nil (StartsTrue pieces)
  all-true (segment ∷ further) is =
      let parts = and_parts (has_true_mark pieces segment) (list_all (has_true_mark pieces) further) is in
      All-cons (StartsTrue pieces) segment further (starts-true segment parts.0) (all-true further parts.1)

  pub true-all : (sent : List ℕ) (segments : List Segment) → All (IsPart sent) segments →
      length sent ≤ length (stream_of pieces) → All (StartsTrue pieces) segments →
      list_all (has_true_mark pieces) segments ≡ true
  true-all sent [] parts within starts = refl
  true-all sent (segment ∷ further) parts within starts =
      ap₂ ◌&&◌ (true-start sent segment (All-head (IsPart sent) segment further parts) within
      (All-head (StartsTrue pieces) segment further starts))
      (true-all sent further (All-tail (IsPart sent) segment further parts) within
      (All-tail (StartsTrue pieces) segment further starts))

pub marks-starts : (pieces : List Piece) (rows : List StreamRow) → are_true_marks pieces rows ≡ true →
    TrueStarts pieces rows
marks-starts pieces rows is = all-true pieces (segments rows) is

pub starts-marks : (pieces : List Piece) (rows : List StreamRow) → CarriesStream rows pieces → TrueStarts pieces rows →
    are_true_marks pieces rows ≡ true
starts-marks pieces rows carried starts =
    let sent : List ℕ = octets_of_rows rows in
    let within : length sent ≤ length (stream_of pieces) =
    omega (arith, ap length carried.stream, length-append sent carried.rest) in
    true-all pieces sent (segments rows) (parts-of rows) within starts

-- ---- All marks are true where those of the later segments that have a row are.
module _ (pieces : List Piece) where
  abbrev pub test : RowSegment → Bool
  test segment = is_true_mark pieces segment.mark

  no-mark : (segment : Segment) → segment.octets ≡ [] → is_true_mark pieces (confirmed_in segment) ≡ true
  unfolding hunt_within
  no-mark segment none = rw none refl

  -- a later segment, in front of others
  own : (span : Span) (segment : Segment) (rest : Bool) (others : List RowSegment) → segment.first ≡ false →
      (has_row (row_segment span segment) ≡ false → segment.octets ≡ []) →
      rest ≡ list_all test (filter has_row others) →
      (has_true_mark pieces segment && rest) ≡ list_all test (filter has_row (row_segment span segment ∷ others))
  own span segment rest others later empty same =
      let mark : has_true_mark pieces segment ≡ is_true_mark pieces (confirmed_in segment) =
      ap (λ b. b || is_true_mark pieces (confirmed_in segment)) later in
      elim (cases_Bool (has_row (row_segment span segment))) [
        | inl some ↦ rw some (ap₂ ◌&&◌ mark same)
        | inr none ↦ rw none (ap₂ ◌&&◌ (mark ∙ no-mark segment (empty none)) same)
      ]

  later-tail : (rows : List StreamRow) (span : Span) (segment : Segment) → segment.first ≡ false →
      span.first ≤ span.end → (has_row (row_segment span segment) ≡ false → segment.octets ≡ []) →
      list_all (has_true_mark pieces) (tail rows segment) ≡ list_all test (filter has_row (from_here rows span segment))
  unfolding row_segments_with span_tail tail
  later-tail [] span segment later within empty = own span segment true [] later empty refl
  later-tail (row ∷ rows) span segment later within empty =
      elim (cases_Bool row.whole) [
        | inl whole ↦ rw whole
            (later-tail rows (record { first = span.first; end = suc span.end }) (with_row segment row.octets) later
            (omega arith)
            (λ none. absurd (let some = lt-ltb span.first (suc span.end) (omega arith) in cc)))
        | inr cut ↦ rw cut
            (own span segment _ (from_here rows (record { first = suc span.end; end = suc span.end })
            (next_segment segment row.octets)) later empty
            (later-tail rows (record { first = suc span.end; end = suc span.end })
            (next_segment segment row.octets) refl (omega arith) (λ none. refl)))
      ]

  first-tail : (rows : List StreamRow) (span : Span) (segment : Segment) → segment.first ≡ true →
      list_all (has_true_mark pieces) (tail rows segment) ≡ list_all test
      (filter has_row (drop 1 (from_here rows span segment)))
  unfolding row_segments_with span_tail tail
  first-tail [] span segment first = ap (λ b. (b || is_true_mark pieces (confirmed_in segment)) && true) first
  first-tail (row ∷ rows) span segment first =
      elim (cases_Bool row.whole) [
        | inl whole ↦ rw whole (first-tail rows (record { first = span.first; end = suc span.end })
            (with_row segment row.octets) first)
        | inr cut ↦ rw cut
            (ap (λ b. (b || is_true_mark pieces (confirmed_in segment)) && list_all (has_true_mark pieces)
            (tail rows (next_segment segment row.octets))) first
            ∙ later-tail rows (record { first = suc span.end; end = suc span.end })
            (next_segment segment row.octets) refl (omega arith) (λ none. refl))
      ]

  pub marks-later : (rows : List StreamRow) → list_all test (later_segments rows) ≡ are_true_marks pieces rows
  marks-later rows =
      ap (λ l. list_all test (filter has_row (drop 1 l))) (from-start rows)
      ∙ sym (ap (list_all (has_true_mark pieces)) (segments-tail (record { ended = []; last = start }) rows)
      ∙ first-tail rows no_span start refl)

  pub test-at : (list : List RowSegment) (i : ℕ) →
      list_all test (drop i list) ≡ (is_true_of pieces (slice_get list i) && list_all test (drop (i + 1) list))
  test-at [] zero = refl
  test-at [] (suc i) = sym (ap (list_all test) (drop_all (suc i + 1) [] (omega arith)))
  test-at (segment ∷ list) zero = refl
  test-at (segment ∷ list) (suc i) = test-at list i
      ∙ ap (λ n. is_true_of pieces (slice_get list i) && list_all test (drop n (segment ∷ list)))
      (let e : suc (i + 1) ≡ suc i + 1 = omega arith in e)
