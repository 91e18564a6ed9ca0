-- What one more row adds to the segments and to the frames that are delivered; segments lie in order.
use Rattle.std.proofs.Common.{◌≡◌, List, [], ◌∷◌, ◌++◌, ◌∙◌, ap, append-nil, ℕ, ◌+◌, Bool, false, length, drop, refl}
use Rattle.std.proofs.Common.{sym, ap₂, arith, append_assoc, length-append, flat_map, drop_at, true, ◌≤◌, take, All}
use Rattle.std.proofs.Common.{length-drop, drop-drop, take_at, take-add}
use Rattle.std.proofs.lemmas.List.Concat.{flat_map-append}
use Rattle.law_model.specs.Common.{StreamRow, octets_of_rows, hunt_within, delineate_within, Segment, Segments}
use Rattle.law_model.specs.Common.{segments_on, segments_of, segment_frames, deliver, outcomes, longer, broken}
use Rattle.law_model.specs.Common.{segments}
use Rattle.std.proofs.lemmas.List.{drop_all}
use Rattle.std.proofs.Math.Seq.{drop-append-add}
use Rattle.law_model.specs.frames.Segment.{row_by}
use Rattle.law_loss.specs.AddedFrames.{frames_in, next_frames, added, whole_row, lost_row}
use Rattle.law_model.specs.frames.Delivery.{frame_in}
use Rattle.law_loss.proofs.SegmentHuntAndRunLaws.{outcomes_grow}
use Rattle.std.proofs.lemmas.List.Elements.{All-nil, All-cons, All-append}

-- ---- One more row adds its octets.
pub octets-push : (rows : List StreamRow) (row : StreamRow) →
    octets_of_rows (rows ++ row ∷ []) ≡ octets_of_rows rows ++ row.octets
octets-push rows row = flat_map-append (λ (row : StreamRow). row.octets) rows (row ∷ [])
    ∙ ap (λ l. octets_of_rows rows ++ l) (append-nil row.octets)

-- ---- What a row adds.
-- ---- more octets of a segment
pub next-none : (longest : ℕ) (first : Bool) (octets : List ℕ) → next_frames longest first octets [] ≡ []
next-none longest first octets =
    ap (λ l. drop (length (frames_in longest first octets)) (frames_in longest first l)) (append-nil octets)
    ∙ drop_all (length (frames_in longest first octets)) (frames_in longest first octets) (omega arith)

abbrev pub Adds : ℕ → Bool → List ℕ → List ℕ → Type 0
Adds longest first octets more =
    frames_in longest first (octets ++ more) ≡ frames_in longest first octets ++ next_frames longest first octets more

pub next-more : (longest : ℕ) (first : Bool) (octets a b : List ℕ) → Adds longest first octets a →
    Adds longest first (octets ++ a) b →
    next_frames longest first octets (a ++ b) ≡ next_frames longest first octets a ++ next_frames longest first
    (octets ++ a) b
next-more longest first octets a b one two =
    let before : List (List ℕ) = frames_in longest first octets in
    let next : List (List ℕ) = next_frames longest first octets a in
    let further : List (List ℕ) = next_frames longest first (octets ++ a) b in
    ap (drop (length before))
    (ap (frames_in longest first) (sym (append_assoc octets a b)) ∙ two ∙ ap (λ l. l ++ further) one
    ∙ append_assoc before next further)
    ∙ drop_at before (next ++ further) (length before) refl

-- ---- one more row
pub segments_on-append : (come : Segments) (rows more : List StreamRow) →
    segments_on come (rows ++ more) ≡ segments_on (segments_on come rows) more
unfolding segments_on
segments_on-append come [] more = refl
segments_on-append come (row ∷ rows) more = segments_on-append (row_by row.whole come row.octets) rows more

pub segments_of-push : (rows : List StreamRow) (row : StreamRow) →
    segments_of (rows ++ row ∷ []) ≡ row_by row.whole (segments_of rows) row.octets
unfolding segments_on
segments_of-push rows row = segments_on-append _ rows (row ∷ [])

no_frames : (longest : ℕ) → frames_in longest false [] ≡ []
unfolding delineate_within hunt_within
no_frames longest = refl

pub deliver-lost : (longest : ℕ) (rows : List StreamRow) (octets : List ℕ) →
    deliver longest (rows ++ lost_row octets ∷ []) ≡ deliver longest rows
deliver-lost longest rows octets =
    let come : Segments = segments_of rows in
    let base : ℕ = come.last.base + length come.last.octets + length octets in
    ap (λ (come : Segments). flat_map (segment_frames longest) (come.ended ++ come.last ∷ []))
    (segments_of-push rows (lost_row octets))
    ∙ flat_map-append (segment_frames longest) (come.ended ++ come.last ∷ [])
    (record { first = false; base = base; octets = [] } ∷ [])
    ∙ ap (λ l. deliver longest rows ++ (l ++ [])) (no_frames longest)
    ∙ append-nil (deliver longest rows)

pub added-lost : (longest : ℕ) (rows : List StreamRow) (octets : List ℕ) → added longest rows (lost_row octets) ≡ []
added-lost longest rows octets =
    ap (drop (length (deliver longest rows))) (deliver-lost longest rows octets)
    ∙ drop_all (length (deliver longest rows)) (deliver longest rows) (omega arith)

-- the frames of all segments are those of the ended ones and of the last
deliver-parts : (longest : ℕ) (ended : List Segment) (last : Segment) →
    flat_map (segment_frames longest) (ended ++ last ∷ []) ≡ flat_map (segment_frames longest) ended ++ segment_frames
    longest last
deliver-parts longest ended last =
    flat_map-append (segment_frames longest) ended (last ∷ [])
    ∙ ap (λ l. flat_map (segment_frames longest) ended ++ l) (append-nil (segment_frames longest last))

pub added-whole : (longest : ℕ) (rows : List StreamRow) (octets : List ℕ) →
    added longest rows (whole_row octets) ≡ next_frames longest (segments_of rows).last.first
    (segments_of rows).last.octets octets
added-whole longest rows octets =
    let come : Segments = segments_of rows in
    let last : Segment = come.last in
    let ended : List (List ℕ) = flat_map (segment_frames longest) come.ended in
    let old : List (List ℕ) = segment_frames longest last in
    let new : List (List ℕ) = frames_in longest last.first (last.octets ++ octets) in
    let before : deliver longest rows ≡ ended ++ old = deliver-parts longest come.ended last in
    let after : deliver longest (rows ++ whole_row octets ∷ []) ≡ ended ++ new =
    ap (λ (come : Segments). flat_map (segment_frames longest) (come.ended ++ come.last ∷ []))
    (segments_of-push rows (whole_row octets))
    ∙ deliver-parts longest come.ended (record { first = last.first; base = last.base; octets = last.octets ++ octets })
    in
    ap₂ (λ n l. drop n l) (ap length before ∙ length-append ended old) after
    ∙ drop-append-add ended new (length old)

pub grows-whole : (longest : ℕ) (rows : List StreamRow) (octets : List ℕ) →
    Adds longest (segments_of rows).last.first (segments_of rows).last.octets octets →
    deliver longest (rows ++ whole_row octets ∷ []) ≡ deliver longest rows ++ added longest rows (whole_row octets)
grows-whole longest rows octets adds =
    let come : Segments = segments_of rows in
    let last : Segment = come.last in
    let ended : List (List ℕ) = flat_map (segment_frames longest) come.ended in
    let next : List (List ℕ) = next_frames longest last.first last.octets octets in
    ap (λ (come : Segments). flat_map (segment_frames longest) (come.ended ++ come.last ∷ []))
    (segments_of-push rows (whole_row octets))
    ∙ deliver-parts longest come.ended (record { first = last.first; base = last.base; octets = last.octets ++ octets })
    ∙ ap (λ l. ended ++ l) adds
    ∙ sym (append_assoc ended (segment_frames longest last) next)
    ∙ ap₂ ◌++◌ (sym (deliver-parts longest come.ended last)) (sym (added-whole longest rows octets))

-- ---- More rows add frames, and change none of those before.
pub adds : (longest : ℕ) (first : Bool) (octets more : List ℕ) → Adds longest first octets more
adds longest first octets more =
    let grown = outcomes_grow longest first octets more in
    let before : List (List ℕ) = frames_in longest first octets in
    let extra : List (List ℕ) = flat_map frame_in grown.0 in
    let both : frames_in longest first (octets ++ more) ≡ before ++ extra = ap (flat_map frame_in) grown.1
    ∙ flat_map-append frame_in (outcomes longest first octets) grown.0 in
    both ∙ ap (λ l. before ++ l) (sym (ap (drop (length before)) both ∙ drop_at before extra (length before) refl))

abbrev GrowsBy : ℕ → List StreamRow → List StreamRow → Type 0
GrowsBy longest rows more = (extra : List (List ℕ)) × (deliver longest (rows ++ more) ≡ deliver longest rows ++ extra)

grows_by : (longest : ℕ) (rows : List StreamRow) (whole : Bool) (octets : List ℕ) →
    GrowsBy longest rows (record { whole = whole; octets = octets } ∷ [])
grows_by longest rows true octets = (
  added longest rows (whole_row octets),
  grows-whole longest rows octets
      (adds longest (segments_of rows).last.first (segments_of rows).last.octets octets),
)
grows_by longest rows false octets = ([], deliver-lost longest rows octets ∙ sym (append-nil (deliver longest rows)))

grows_on : (longest : ℕ) (more rows : List StreamRow) → GrowsBy longest rows more
grows_on longest [] rows = ([], ap (deliver longest) (append-nil rows) ∙ sym (append-nil (deliver longest rows)))
grows_on longest (row ∷ more) rows =
    let step = grows_by longest rows row.whole row.octets in
    let further = grows_on longest more (rows ++ row ∷ []) in (
      step.0 ++ further.0,
      ap (deliver longest) (sym (append_assoc rows (row ∷ []) more)) ∙ further.1 ∙ ap (λ l. l ++ further.0) step.1
          ∙ append_assoc (deliver longest rows) step.0 further.0,
    )

pub deliver-grows : (longest : ℕ) (rows more : List StreamRow) →
    deliver longest (rows ++ more) ≡ deliver longest rows ++ drop (length (deliver longest rows))
    (deliver longest (rows ++ more))
deliver-grows longest rows more =
    let grown = grows_on longest more rows in
    grown.1 ∙ ap (λ l. deliver longest rows ++ l)
    (sym (ap (drop (length (deliver longest rows))) grown.1
    ∙ drop_at (deliver longest rows) grown.0 (length (deliver longest rows)) refl))

-- ---- The segments of rows are parts of the octets of the rows, one after the other.
-- a part of the octets that were sent
pub record IsPart (sent : List ℕ) (segment : Segment) : Type 0 where
  pub octets : segment.octets ≡ take (length segment.octets) (drop segment.base sent)
  pub fits : segment.base + length segment.octets ≤ length sent
  pub first : segment.first ≡ true → segment.base ≡ 0

-- segments that lie one after the other, from a place on
abbrev pub InOrder : ℕ → List Segment → Type 0
InOrder low [] = Unit {0}
InOrder low (segment ∷ segments) = (low ≤ segment.base) × InOrder (segment.base + length segment.octets) segments

InOrder-last : (low : ℕ) (segments : List Segment) (last other : Segment) → last.base ≡ other.base →
    InOrder low (segments ++ last ∷ []) → InOrder low (segments ++ other ∷ [])
InOrder-last low [] last other same order = (omega (arith, same, order.0), tt)
InOrder-last low (segment ∷ segments) last other same order =
    (order.0, InOrder-last (segment.base + length segment.octets) segments last other same order.1)

InOrder-push : (low : ℕ) (segments : List Segment) (last next : Segment) → last.base + length last.octets ≤ next.base →
    InOrder low (segments ++ last ∷ []) → InOrder low ((segments ++ last ∷ []) ++ next ∷ [])
InOrder-push low [] last next after order = (order.0, (after, tt))
InOrder-push low (segment ∷ segments) last next after order =
    (order.0, InOrder-push (segment.base + length segment.octets) segments last next after order.1)

-- what is known when so many octets have gone by
pub record SegmentsStand (sent : List ℕ) (come : Segments) (gone : ℕ) : Type 0 where
  pub each : All (IsPart sent) come.ended
  pub last : IsPart sent come.last
  pub ends : come.last.base + length come.last.octets ≡ gone
  pub order : InOrder 0 (come.ended ++ come.last ∷ [])

Stands-longer : (sent : List ℕ) (come : Segments) (gone : ℕ) (octets : List ℕ) →
    octets ≡ take (length octets) (drop gone sent) → gone + length octets ≤ length sent →
    SegmentsStand sent come gone → SegmentsStand sent (longer come octets) (gone + length octets)
Stands-longer sent come gone octets next fits stands =
    let last : Segment = come.last in
    let size : length (last.octets ++ octets) ≡ length last.octets + length octets = length-append last.octets octets in
    record {
      each = stands.each;
      last = record {
        octets =
            ap₂ ◌++◌ stands.last.octets (next ∙ ap (λ n. take (length octets) (drop n sent)) (sym stands.ends)
            ∙ ap (take (length octets)) (sym (drop-drop (length last.octets) last.base sent)))
            ∙ sym (take-add (length last.octets) (length octets) (drop last.base sent))
            ∙ ap (λ n. take n (drop last.base sent)) (sym size);
        fits = omega (arith, size, fits, stands.ends);
        first = stands.last.first;
      };
      ends = omega (arith, size, stands.ends);
      order = InOrder-last 0 come.ended last (longer come octets).last refl stands.order;
    }

Stands-broken : (sent : List ℕ) (come : Segments) (gone : ℕ) (octets : List ℕ) → gone + length octets ≤ length sent →
    SegmentsStand sent come gone → SegmentsStand sent (broken come octets) (gone + length octets)
Stands-broken sent come gone octets fits stands =
    let last : Segment = come.last in
    record {
      each = All-append (IsPart sent) come.ended (last ∷ []) stands.each
          (All-cons (IsPart sent) last [] stands.last (All-nil (IsPart sent)));
      last = record { octets = refl; fits = omega (arith, fits, stands.ends); first = λ wrong. absurd cc };
      ends = omega (arith, stands.ends);
      order = InOrder-push 0 come.ended last (broken come octets).last (omega arith) stands.order;
    }

Stands-row : (whole : Bool) (sent : List ℕ) (come : Segments) (gone : ℕ) (octets : List ℕ) →
    octets ≡ take (length octets) (drop gone sent) → gone + length octets ≤ length sent →
    SegmentsStand sent come gone → SegmentsStand sent (row_by whole come octets) (gone + length octets)
Stands-row true sent come gone octets next fits stands = Stands-longer sent come gone octets next fits stands
Stands-row false sent come gone octets next fits stands = Stands-broken sent come gone octets fits stands

pub Stands-rows : (sent : List ℕ) (come : Segments) (gone : ℕ) (rows : List StreamRow) → gone ≤ length sent →
    drop gone sent ≡ octets_of_rows rows → SegmentsStand sent come gone → SegmentsStand sent (segments_on come rows) (length sent)
unfolding segments_on
Stands-rows sent come gone [] within rest stands =
    let all : gone ≡ length sent = omega (arith, within, ap length rest, length-drop gone sent) in
    record { each = stands.each; last = stands.last; ends = stands.ends ∙ all; order = stands.order }
Stands-rows sent come gone (row ∷ rows) within rest stands =
    let octets : List ℕ = row.octets in
    let next : octets ≡ take (length octets) (drop gone sent) =
    sym (ap (take (length octets)) rest ∙ take_at octets (octets_of_rows rows) (length octets) refl) in
    let fits : gone + length octets ≤ length sent =
    omega (arith, ap length rest, length-drop gone sent, length-append octets (octets_of_rows rows), within) in
    Stands-rows sent (row_by row.whole come octets) (gone + length octets) rows fits
    (sym (drop-drop (length octets) gone sent) ∙ ap (drop (length octets)) rest
    ∙ drop_at octets (octets_of_rows rows) (length octets) refl)
    (Stands-row row.whole sent come gone octets next fits stands)

pub Stands-all : (rows : List StreamRow) →
    SegmentsStand (octets_of_rows rows) (segments_of rows) (length (octets_of_rows rows))
Stands-all rows =
    Stands-rows (octets_of_rows rows) _ 0 rows (omega arith) refl
    (record {
      each = All-nil (IsPart (octets_of_rows rows));
      last =
          record { octets = refl; fits = omega arith; first = λ first. refl };
      ends = refl;
      order = (omega arith, tt);
    })
