-- The row that has a place, the segment in which a frame lies where its rows are whole, and its fate by its rows.
use Rattle.std.proofs.Common.{◌≡◌, ℕ, zero, suc, ◌+◌, ◌-◌, ◌<◌, ◌≤◌, ◌⊎◌, Bool, true, false, List, [], ◌∷◌, ◌++◌}
use Rattle.std.proofs.Common.{length, take, drop, refl, sym, ◌∙◌, ap, ap₂, subst, arith, inl, inr, append_assoc}
use Rattle.std.proofs.Common.{length-append, nat_le, nat_lt, ◌&&◌, ◌||◌, if◌then◌else◌, le-leb, lt-ltb, le-ltb, Option}
use Rattle.std.specs.List.{list_any}
use Rattle.std.proofs.lemmas.Bool.{cases_Bool, cases_lt, lt-leb}
use Rattle.law_model.specs.Common.{StreamRow, Segment, Segments, longer, broken, segments_on, segments, octets_of_rows}
use Rattle.law_model.specs.Common.{Extent, lies_in, Piece, extents, confirmed_in}
use Rattle.law_loss.proofs.ClientFrameExtentLaws.{and_false}
use Rattle.fate_engine.specs.Common.{HasPlace, row_from, row_at, spoiled_from, spoiled_after, fate_after, fate_in}
use Rattle.fate_engine.specs.Common.{fate_among, fate_of, Span, Spans, span_by, spans_on, row_segments_with}
use Rattle.fate_engine.specs.Common.{row_segments, mark_of_row, fate_by_rows}
use Rattle.fate_engine.specs.declared.fate_law.Fate.{Fate}
use Rattle.fate_engine.specs.declared.fate_law.Fate.TheVariants.{Waits, Cut, Got}

-- ---- Rows and places: which row has a place, and that a frame lies in a segment exactly where all its rows are whole.
-- ---- the row of a place
pub row-low : (t : ℕ) (rows : List StreamRow) (place : ℕ) → t ≤ row_from t rows place
unfolding row_from
row-low t [] place = omega arith
row-low t (row ∷ rows) place =
    elim (cases_Bool (nat_lt place (length row.octets))) [
      | inl here ↦ rw here (omega arith)
      | inr later ↦ rw later (let rest = row-low (suc t) rows (place - length row.octets) in omega (arith, rest))
    ]

-- a row t of rows that are numbered from start is row t - start of them
row-has : (start : ℕ) (rows : List StreamRow) (place : ℕ) → place < length (octets_of_rows rows) → (k : ℕ) ×
    (row_from start rows place ≡ start + k) × HasPlace rows place k
unfolding row_from
row-has start [] place low = absurd (omega (arith, low))
row-has start (row ∷ rows) place low =
    elim (cases_lt place (length row.octets)) [
      | inl here ↦ (
        zero,
        rw (lt-ltb place (length row.octets) here) (omega arith),
        record { from = omega arith; below = omega (arith, here, length-append row.octets []) },
      )
      | inr later ↦ (
          let all = length-append row.octets (octets_of_rows rows) in
          let rest = row-has (suc start) rows (place - length row.octets) (omega (arith, later, low, all)) in
          let k : ℕ = rest.0 in
          let has = rest.2 in (
            suc k,
            rw (le-ltb place (length row.octets) later) (omega (arith, rest.1)),
            record {
              from = omega (arith, later, has.from, length-append row.octets (octets_of_rows (take k rows)));
              below = omega (arith, later, has.below, length-append row.octets (octets_of_rows (take (suc k) rows)));
            },
          ))
    ]

pub row-of_place : (rows : List StreamRow) (place : ℕ) → place < length (octets_of_rows rows) →
    HasPlace rows place (row_at rows place)
row-of_place rows place low =
    let has = row-has 0 rows place low in
    subst (HasPlace rows place) (let e : has.0 ≡ row_at rows place = omega (arith, has.1) in e) has.2

-- ---- the segments that come of one that goes on and more rows
abbrev pub end_of : Segment → ℕ
end_of segment = segment.base + length segment.octets

abbrev pub with_row : Segment → List ℕ → Segment
with_row last octets = record { first = last.first; base = last.base; octets = last.octets ++ octets }

abbrev pub next_segment : Segment → List ℕ → Segment
next_segment last octets = record { first = false; base = last.base + length last.octets + length octets; octets = [] }

abbrev pub tail_by : Bool → Segment → List ℕ → (Segment → List Segment) → List Segment
tail_by true last octets rest = rest (with_row last octets)
tail_by false last octets rest = last ∷ rest (next_segment last octets)

unfoldable pub tail : List StreamRow → Segment → List Segment
tail [] last = last ∷ []
tail (row ∷ rows) last = tail_by row.whole last row.octets (tail rows)

pub segments-tail : (come : Segments) (rows : List StreamRow) →
    (segments_on come rows).ended ++ (segments_on come rows).last ∷ [] ≡ come.ended ++ tail rows come.last
unfolding segments_on tail
segments-tail come [] = refl
segments-tail come (row ∷ rows) =
    elim (cases_Bool row.whole) [
      | inl whole ↦ rw whole (segments-tail (longer come row.octets) rows)
      | inr lost ↦ rw lost (segments-tail (broken come row.octets) rows
          ∙ append_assoc come.ended (come.last ∷ []) (tail rows (next_segment come.last row.octets)))
    ]

pub size-more : (last : Segment) (octets : List ℕ) → end_of (with_row last octets) ≡ end_of last + length octets
size-more last octets = omega (arith, length-append last.octets octets)

module _ (e : Extent) where
  abbrev pub lies_among : List Segment → Bool
  lies_among segments = list_any (λ segment. lies_in segment e) segments

  pub lies : (segment : Segment) → segment.base ≤ e.from → e.to ≤ end_of segment → lies_in segment e ≡ true
  lies segment lower upper = ap₂ ◌&&◌ (le-leb segment.base e.from lower) (le-leb e.to (end_of segment) upper)

  pub too_long : (segment : Segment) → end_of segment < e.to → lies_in segment e ≡ false
  too_long segment upper = ap (λ b. nat_le segment.base e.from && b) (lt-leb e.to (end_of segment) upper)
      ∙ and_false (nat_le segment.base e.from)

  -- it begins before the segments
  pub tail-before : (rows : List StreamRow) (last : Segment) → e.from < last.base → lies_among (tail rows last) ≡ false
  unfolding tail
  tail-before [] last early = ap (λ b. (b && nat_le e.to (end_of last)) || false) (lt-leb last.base e.from early)
  tail-before (row ∷ rows) last early =
      elim (cases_Bool row.whole) [
        | inl whole ↦ rw whole (tail-before rows (with_row last row.octets) early)
        | inr lost ↦ rw lost
            (ap (λ b. (b && nat_le e.to (end_of last)) || lies_among (tail rows (next_segment last row.octets)))
            (lt-leb last.base e.from early)
            ∙ tail-before rows (next_segment last row.octets) (omega (arith, early)))
      ]

  -- it lies in the first of them
  tail-first : (rows : List StreamRow) (last : Segment) → last.base ≤ e.from → e.to ≤ end_of last →
      lies_among (tail rows last) ≡ true
  unfolding tail
  tail-first [] last lower upper = ap (λ b. b || false) (lies last lower upper)
  tail-first (row ∷ rows) last lower upper =
      elim (cases_Bool row.whole) [
        | inl whole ↦ rw whole (tail-first rows (with_row last row.octets) lower
            (omega (arith, upper, size-more last row.octets)))
        | inr lost ↦ rw lost (ap (λ b. b || lies_among (tail rows (next_segment last row.octets)))
            (lies last lower upper))
      ]

  -- where the first row that isn't whole comes after its last row, it lies in a segment, and else in none
  abbrev Tells : Bool → ℕ → ℕ → ℕ → Type 0
  Tells lies r q spoiled = ((lies ≡ true) × (q < spoiled)) ⊎ ((lies ≡ false) × (r ≤ spoiled) × (spoiled ≤ q))

  Tells-lower : (b : Bool) (r s q spoiled : ℕ) → s ≤ r → Tells b r q spoiled → Tells b s q spoiled
  Tells-lower b r s q spoiled low (inl is) = inl is
  Tells-lower b r s q spoiled low (inr isnt) = inr (isnt.0, omega (arith, isnt.1, low), isnt.2)

  spoiled-low : (t : ℕ) (rows : List StreamRow) → t ≤ spoiled_from t rows
  unfolding spoiled_from
  spoiled-low t [] = omega arith
  spoiled-low t (row ∷ rows) =
      elim (cases_Bool row.whole) [
        | inl whole ↦ rw whole (let rest = spoiled-low (suc t) rows in omega (arith, rest))
        | inr lost ↦ rw lost (omega arith)
      ]

  abbrev first_size : List StreamRow → ℕ
  first_size [] = 0
  first_size (row ∷ rows) = length row.octets

  -- it begins in the last segment or in the first row after it, and ends after the segment
  between : (rows : List StreamRow) (t : ℕ) (last : Segment) → e.from < e.to → last.base ≤ e.from →
      e.from < end_of last + first_size rows → end_of last < e.to → e.to ≤ end_of last + length (octets_of_rows rows) →
      Tells (lies_among (tail rows last)) t (row_from t rows (e.to - 1 - end_of last)) (spoiled_from t rows)
  unfolding tail row_from spoiled_from
  between [] t last some lower begins ends fits = absurd (omega (arith, ends, fits))
  between (row ∷ rows) t last some lower begins ends fits =
      let size : ℕ = length row.octets in
      let place : ℕ = e.to - 1 - end_of last in
      let all = length-append row.octets (octets_of_rows rows) in
      let more = size-more last row.octets in
      elim (cases_Bool row.whole) [
        | inl whole ↦ rw whole (elim (cases_lt (end_of last + size) e.to) [
          | inl beyond ↦
              let rest = between rows (suc t) (with_row last row.octets) some lower (omega (arith, begins, more))
              (omega (arith, beyond, more)) (omega (arith, fits, all, more)) in
              let same : e.to - 1 - end_of (with_row last row.octets) ≡ place - size = omega (arith, more) in
              rw (le-ltb place size (omega (arith, beyond)))
              (Tells-lower (lies_among (tail rows (with_row last row.octets))) (suc t) t
              (row_from (suc t) rows (place - size)) (spoiled_from (suc t) rows) (omega arith)
              (subst (λ p. Tells (lies_among (tail rows (with_row last row.octets))) (suc t) (row_from (suc t) rows p)
              (spoiled_from (suc t) rows)) same rest))
          | inr within ↦
              rw (lt-ltb place size (omega (arith, within, ends)))
              (inl (
                tail-first rows (with_row last row.octets) lower (omega (arith, within, more)),
                (let low = spoiled-low (suc t) rows in omega (arith, low)),
              ))
        ])
        | inr lost ↦ rw lost
            (inr (
              ap₂ ◌||◌ (too_long last ends)
                  (tail-before rows (next_segment last row.octets) (omega (arith, begins))),
              omega arith,
              row-low t (row ∷ rows) place,
            ))
      ]

  pub from-first : (row : StreamRow) (rows : List StreamRow) (t place : ℕ) → place < length row.octets →
      row_from t (row ∷ rows) place ≡ t
  unfolding row_from
  from-first row rows t place here = rw (lt-ltb place (length row.octets) here) refl

  pub from-next : (row : StreamRow) (rows : List StreamRow) (t place : ℕ) → length row.octets ≤ place →
      row_from t (row ∷ rows) place ≡ row_from (suc t) rows (place - length row.octets)
  unfolding row_from
  from-next row rows t place later = rw (le-ltb place (length row.octets) later) refl

  tail-next : (row : StreamRow) (rows : List StreamRow) (last : Segment) → (new : Segment) →
      new ≡ (if row.whole then with_row last row.octets else next_segment last row.octets) → end_of last < e.to →
      lies_among (tail (row ∷ rows) last) ≡ lies_among (tail rows new)
  unfolding tail
  tail-next row rows last new is ends =
      elim (cases_Bool row.whole) [
        | inl whole ↦ rw (is, whole) refl
        | inr lost ↦ rw (is, lost) (ap (λ b. b || lies_among (tail rows (next_segment last row.octets)))
            (too_long last ends))
      ]

  new-end : (row : StreamRow) (last : Segment) →
      end_of (if row.whole then with_row last row.octets else next_segment last row.octets)
      ≡ end_of last + length row.octets
  new-end row last =
      elim (cases_Bool row.whole) [
        | inl whole ↦ rw whole (size-more last row.octets)
        | inr lost ↦ rw lost (omega arith)
      ]

  -- it begins after the last segment
  after : (rows : List StreamRow) (t r : ℕ) (last : Segment) → e.from < e.to → end_of last ≤ e.from →
      e.to ≤ end_of last + length (octets_of_rows rows) →
      r ≡ row_from t rows (e.from - end_of last) →
      Tells (lies_among (tail rows last)) r (row_from t rows (e.to - 1 - end_of last))
      (spoiled_from r (drop (r - t) rows))
  after [] t r last some begins fits is = absurd (omega (arith, some, begins, fits))
  after (row ∷ rows) t r last some begins fits is =
      let size : ℕ = length row.octets in
      let low : ℕ = e.from - end_of last in
      let high : ℕ = e.to - 1 - end_of last in
      elim (cases_lt low size) [
        | inl here ↦ (
            let same : r ≡ t = is ∙ from-first row rows t low here in
            let none : r - t ≡ 0 = omega (arith, same) in
            let all = between (row ∷ rows) t last some (omega (arith, begins)) (omega (arith, here, begins))
            (omega (arith, some, begins)) fits in
            rw (none, same) all)
        | inr later ↦ (
            let new : Segment = if row.whole then with_row last row.octets else next_segment last row.octets in
            let ends : end_of new ≡ end_of last + size = new-end row last in
            let next : r ≡ row_from (suc t) rows (e.from - end_of new) =
            is ∙ from-next row rows t low later
            ∙ ap (row_from (suc t) rows) (let e : low - size ≡ e.from - end_of new = omega (arith, ends) in e) in
            let rest = after rows (suc t) r new some (omega (arith, ends, later, begins, some))
            (omega (arith, fits, length-append row.octets (octets_of_rows rows), ends)) next in
            let above : suc t ≤ r = omega (arith, next, row-low (suc t) rows (e.from - end_of new)) in
            let dropped : r - t ≡ suc (r - suc t) = omega (arith, above) in
            let last_row : row_from t (row ∷ rows) high ≡ row_from (suc t) rows (e.to - 1 - end_of new) =
            from-next row rows t high (omega (arith, later, some, begins))
            ∙ ap (row_from (suc t) rows) (let e : high - size ≡ e.to - 1 - end_of new = omega (arith, ends) in e) in
            rw (dropped, last_row, tail-next row rows last new refl (omega (arith, some, begins))) rest)
      ]

-- a frame that rows carry
pub rows-tell : (rows : List StreamRow) (e : Extent) → e.from < e.to → e.to ≤ length (octets_of_rows rows) →
    Tells e (lies_among e (segments rows)) (row_at rows e.from) (row_at rows (e.to - 1))
    (spoiled_after rows (row_at rows e.from))
rows-tell rows e some fits =
    let start : Segment = record { first = true; base = 0; octets = [] } in
    let all : segments rows ≡ tail rows start = segments-tail (record { ended = []; last = start }) rows in
    let from : e.from ≡ e.from - end_of start = omega arith in
    let to : e.to - 1 - end_of start ≡ e.to - 1 = omega arith in
    let none : row_at rows e.from - 0 ≡ row_at rows e.from = omega arith in
    let tells = after e rows 0 (row_at rows e.from) start some (omega arith) (omega (arith, fits))
    (ap (row_from 0 rows) from) in
    let moved : Tells e (lies_among e (tail rows start)) (row_at rows e.from) (row_at rows (e.to - 1))
    (spoiled_from (row_at rows e.from) (drop (row_at rows e.from - 0) rows)) =
    subst (λ place. Tells e (lies_among e (tail rows start)) (row_at rows e.from) (row_from 0 rows place)
    (spoiled_from (row_at rows e.from) (drop (row_at rows e.from - 0) rows))) to tells in
    let dropped : Tells e (lies_among e (tail rows start)) (row_at rows e.from) (row_at rows (e.to - 1))
    (spoiled_after rows (row_at rows e.from)) =
    subst (λ n. Tells e (lies_among e (tail rows start)) (row_at rows e.from) (row_at rows (e.to - 1))
    (spoiled_from (row_at rows e.from) (drop n rows))) none moved in
    subst (λ l. Tells e (lies_among e l) (row_at rows e.from) (row_at rows (e.to - 1))
    (spoiled_after rows (row_at rows e.from))) (sym all) dropped

pub lies-rows : (rows : List StreamRow) (e : Extent) → e.from < e.to → e.to ≤ length (octets_of_rows rows) →
    list_any (λ segment. lies_in segment e) (segments rows) ≡ nat_lt (row_at rows (e.to - 1))
    (spoiled_after rows (row_at rows e.from))
lies-rows rows e some fits = elim (rows-tell rows e some fits) [
  | inl is ↦ is.0 ∙ sym (lt-ltb (row_at rows (e.to - 1)) (spoiled_after rows (row_at rows e.from)) is.1)
  | inr isnt ↦ isnt.0 ∙ sym (le-ltb (row_at rows (e.to - 1)) (spoiled_after rows (row_at rows e.from)) isnt.2)
]

pub cut-row : (rows : List StreamRow) (e : Extent) → e.from < e.to → e.to ≤ length (octets_of_rows rows) →
    list_any (λ segment. lies_in segment e) (segments rows) ≡ false →
    (row_at rows e.from ≤ spoiled_after rows (row_at rows e.from)) ×
    (spoiled_after rows (row_at rows e.from) ≤ row_at rows (e.to - 1))
cut-row rows e some fits none = elim (rows-tell rows e some fits) [
  | inl is ↦ absurd (let wrong : true ≡ false = sym is.0 ∙ none in cc)
  | inr isnt ↦ (isnt.1, isnt.2)
]

-- ---- The fate of a frame by its rows: its segment is the one that has its first row.
-- ---- the rows of the segments that come of one that goes on
abbrev pub span_tail_by : Bool → Span → (Span → List Span) → List Span
span_tail_by true span rest = rest (record { first = span.first; end = suc span.end })
span_tail_by false span rest = span ∷ rest (record { first = suc span.end; end = suc span.end })

unfoldable pub span_tail : List StreamRow → Span → List Span
span_tail [] span = span ∷ []
span_tail (row ∷ rows) span = span_tail_by row.whole span (span_tail rows)

pub spans-tail : (come : Spans) (rows : List StreamRow) →
    (spans_on come rows).ended ++ (spans_on come rows).last ∷ [] ≡ come.ended ++ span_tail rows come.last
unfolding spans_on span_tail
spans-tail come [] = refl
spans-tail come (row ∷ rows) =
    elim (cases_Bool row.whole) [
      | inl whole ↦ rw whole (spans-tail (span_by true come) rows)
      | inr lost ↦ rw lost (spans-tail (span_by false come) rows
          ∙ append_assoc come.ended (come.last ∷ [])
          (span_tail rows (record { first = suc come.last.end; end = suc come.last.end })))
    ]

-- what becomes of the one that goes on
unfoldable grown : List StreamRow → Segment → Segment
grown [] last = last
grown (row ∷ rows) last = if row.whole then grown rows (with_row last row.octets) else last

module _ (e : Extent) (all : List Extent) (other : Fate) (r q : ℕ) where
  -- it is in the segment that goes on, or in a later one
  abbrev Found : Bool → Segment → Fate → Option ℕ → ℕ → Type 0
  Found first own fate mark spoiled =
      ((fate ≡ fate_in first own all e r q) × (mark ≡ confirmed_in own) × (r < spoiled)) ⊎
      ((fate ≡ fate_after mark all e r q) × (spoiled ≤ r))

  abbrev Begins : List StreamRow → Segment → Span → Type 0
  Begins rows last span = ((e.from < end_of last) × (r < span.end)) ⊎
      ((end_of last ≤ e.from) × (r ≡ row_from span.end rows (e.from - end_of last)))

  -- a row that is whole
  begins-whole : (row : StreamRow) (rows : List StreamRow) (last : Segment) (span : Span) →
      Begins (row ∷ rows) last span →
      Begins rows (with_row last row.octets) (record { first = span.first; end = suc span.end })
  begins-whole row rows last span (inl early) =
      inl (omega (arith, early.0, size-more last row.octets), omega (arith, early.1))
  begins-whole row rows last span (inr late) =
      let low : ℕ = e.from - end_of last in
      let more = size-more last row.octets in
      elim (cases_lt low (length row.octets)) [
        | inl in_row ↦ (let same : r ≡ span.end = late.1
            ∙ from-first e row rows span.end low in_row in inl
            (omega (arith, in_row, late.0, more), omega (arith, same)))
        | inr past ↦ inr (
          omega (arith, past, late.0, more),
          late.1 ∙ from-next e row rows span.end low past
              ∙ ap (row_from (suc span.end) rows)
              (let e : low - length row.octets ≡ e.from - end_of (with_row last row.octets) = omega (arith, more) in e),
        )
      ]

  found : (rows : List StreamRow) (last : Segment) (span : Span) → e.from < e.to →
      e.to ≤ end_of last + length (octets_of_rows rows) → Begins rows last span → lies_among e (tail rows last) ≡ true →
      Found last.first (grown rows last) (fate_among other (tail rows last) all e r q)
      (mark_of_row (row_segments_with (span_tail rows span) (tail rows last)) r) (spoiled_from span.end rows)
  unfolding tail span_tail grown fate_among row_segments_with mark_of_row spoiled_from
  found [] last span some fits (inl early) lies =
      let is : lies_in last e ≡ true = or_left (lies_in last e) lies in
      rw (is, lt-ltb r span.end early.1) (inl (refl, refl, early.1))
    where
      or_left : (b : Bool) → (b || false) ≡ true → b ≡ true
      or_left true is = refl
      or_left false is = is
  found [] last span some fits (inr late) lies = absurd (omega (arith, some, fits, late.0))
  found (row ∷ rows) last span some fits begins lies =
      let all_octets = length-append row.octets (octets_of_rows rows) in
      let next : Segment = next_segment last row.octets in
      let next_span : Span = record { first = suc span.end; end = suc span.end } in
      elim (cases_Bool row.whole) [
        | inl whole ↦ rw whole
            (found rows (with_row last row.octets) (record { first = span.first; end = suc span.end }) some
            (omega (arith, fits, all_octets, size-more last row.octets)) (begins-whole row rows last span begins)
            (rw whole at lies))
        | inr lost ↦ (
            let lies_here : (lies_in last e || lies_among e (tail rows next)) ≡ true = rw lost at lies in
            rw lost (elim begins [
              | inl early ↦ (
                  let later : lies_among e (tail rows next) ≡ false =
                  tail-before e rows next (omega (arith, early.0)) in
                  let is : lies_in last e ≡ true =
                  or_here (lies_in last e) (lies_among e (tail rows next)) later lies_here in
                  rw (is, lt-ltb r span.end early.1) (inl (refl, refl, early.1)))
              | inr late ↦ (
                  let low : ℕ = e.from - end_of last in
                  let isnt : lies_in last e ≡ false = too_long e last (omega (arith, some, late.0)) in
                  let rest : lies_among e (tail rows next) ≡ true =
                  or_there (lies_in last e) (lies_among e (tail rows next)) isnt lies_here in
                  let above : span.end ≤ r = omega (arith, late.1, row-low span.end (row ∷ rows) low) in
                  elim (cases_lt low (length row.octets)) [
                    | inl in_row ↦ absurd (let wrong : true ≡ false = sym rest
                        ∙ tail-before e rows next (omega (arith, in_row, late.0)) in cc)
                    | inr past ↦ (
                        let further = found rows next next_span some (omega (arith, fits, all_octets))
                        (inr (
                          omega (arith, past, late.0),
                          late.1 ∙ from-next e row rows span.end low past
                              ∙ ap (row_from (suc span.end) rows)
                              (let e : low - length row.octets ≡ e.from - end_of next = omega arith in e),
                        )) rest in
                        rw (isnt, le-ltb r span.end above)
                        (inr (
                          either (grown rows next) (fate_among other (tail rows next) all e r q)
                              (mark_of_row (row_segments_with (span_tail rows next_span) (tail rows next)) r)
                              (spoiled_from (suc span.end) rows) further,
                          above,
                        )))
                  ])
            ]))
      ]
    where
      or_here : (a b : Bool) → b ≡ false → (a || b) ≡ true → a ≡ true
      or_here true b none is = refl
      or_here false b none is = sym none ∙ is

      or_there : (a b : Bool) → a ≡ false → (a || b) ≡ true → b ≡ true
      or_there true b none is = absurd (let e : true ≡ false = none in cc)
      or_there false b none is = is

      either : (own : Segment) (fate : Fate) (mark : Option ℕ) (spoiled : ℕ) → Found false own fate mark spoiled →
          fate ≡ fate_after mark all e r q
      either own fate mark spoiled (inl own_fate) = own_fate.0 ∙ ap (λ m. fate_after m all e r q) (sym own_fate.1)
      either own fate mark spoiled (inr later) = later.0

-- ---- the fate by rows

none-among : (e : Extent) (all : List Extent) (other : Fate) (r q : ℕ) (among : List Segment) →
    lies_among e among ≡ false → fate_among other among all e r q ≡ other
unfolding fate_among
none-among e all other r q [] none = refl
none-among e all other r q (segment ∷ further) none =
    elim (cases_Bool (lies_in segment e)) [
      | inl is ↦ absurd (let wrong : true ≡ false = sym (ap (λ b. b || lies_among e further) is) ∙ none in cc)
      | inr isnt ↦ rw isnt (none-among e all other r q further (sym (ap (λ b. b || lies_among e further) isnt) ∙ none))
    ]

pub fate-rows : (pieces : List Piece) (rows : List StreamRow) (e : Extent) → e.from < e.to →
    e.to ≤ length (octets_of_rows rows) →
    fate_of pieces rows e ≡ fate_by_rows rows (extents 0 pieces) e (row_at rows e.from) (row_at rows (e.to - 1))
fate-rows pieces rows e some fits =
    let all : List Extent = extents 0 pieces in
    let r : ℕ = row_at rows e.from in
    let q : ℕ = row_at rows (e.to - 1) in
    let spoiled : ℕ = spoiled_after rows r in
    let start : Segment = record { first = true; base = 0; octets = [] } in
    let span : Span = record { first = 0; end = 0 } in
    let parts : segments rows ≡ tail rows start = segments-tail (record { ended = []; last = start }) rows in
    let lies : lies_among e (segments rows) ≡ nat_lt q spoiled = lies-rows rows e some fits in
    let carried : fate_of pieces rows e ≡ fate_among (Cut r q spoiled) (segments rows) all e r q =
    ap (λ b. if b then fate_among (Cut r q spoiled) (segments rows) all e r q else Waits)
    (le-leb e.to (length (octets_of_rows rows)) fits) in
    elim (cases_Bool (nat_lt q spoiled)) [
      | inr cut ↦ carried ∙ none-among e all (Cut r q spoiled) r q (segments rows) (lies ∙ cut)
          ∙ sym (ap (λ b. if b then (if nat_lt r (spoiled_after rows 0) then Got r q else fate_after
          (mark_of_row (row_segments rows) r) all e r q) else Cut r q spoiled) cut)
      | inl whole ↦ carried ∙ ap (λ l. fate_among (Cut r q spoiled) l all e r q) parts
          ∙ by (found e all (Cut r q spoiled) r q rows start span some (omega (arith, fits))
          (inr (omega arith, ap (row_from 0 rows) (let e2 : e.from ≡ e.from - end_of start = omega arith in e2)))
          (sym (ap (lies_among e) parts) ∙ lies ∙ whole))
          ∙ sym (ap (λ b. if b then (if nat_lt r (spoiled_after rows 0) then Got r q else fate_after
          (mark_of_row (row_segments rows) r) all e r q) else Cut r q spoiled) whole)
    ]
  where
    by : Found e (extents 0 pieces)
        (Cut (row_at rows e.from) (row_at rows (e.to - 1)) (spoiled_after rows (row_at rows e.from)))
        (row_at rows e.from) (row_at rows (e.to - 1))
        true (grown rows (record { first = true; base = 0; octets = [] }))
        (fate_among (Cut (row_at rows e.from) (row_at rows (e.to - 1)) (spoiled_after rows (row_at rows e.from)))
        (tail rows (record { first = true; base = 0; octets = [] })) (extents 0 pieces) e (row_at rows e.from)
        (row_at rows (e.to - 1)))
        (mark_of_row (row_segments_with (span_tail rows (record { first = 0; end = 0 }))
        (tail rows (record { first = true; base = 0; octets = [] }))) (row_at rows e.from)) (spoiled_from 0 rows) →
        fate_among (Cut (row_at rows e.from) (row_at rows (e.to - 1)) (spoiled_after rows (row_at rows e.from)))
        (tail rows (record { first = true; base = 0; octets = [] })) (extents 0 pieces) e (row_at rows e.from)
        (row_at rows (e.to - 1))
        ≡ (if nat_lt (row_at rows e.from) (spoiled_after rows 0) then Got (row_at rows e.from) (row_at rows (e.to - 1))
        else fate_after (mark_of_row (row_segments rows) (row_at rows e.from)) (extents 0 pieces) e (row_at rows e.from)
        (row_at rows (e.to - 1)))
    by (inl own) =
        own.0 ∙ sym (ap (λ b. if b then Got (row_at rows e.from) (row_at rows (e.to - 1)) else fate_after
        (mark_of_row (row_segments rows) (row_at rows e.from)) (extents 0 pieces) e (row_at rows e.from)
        (row_at rows (e.to - 1)))
        (lt-ltb (row_at rows e.from) (spoiled_after rows 0) own.2))
    by (inr later) =
        later.0
        ∙ ap (λ marks. fate_after (mark_of_row marks (row_at rows e.from)) (extents 0 pieces) e (row_at rows e.from)
        (row_at rows (e.to - 1)))
        (sym (ap₂ row_segments_with (spans-tail (record { ended = []; last = record { first = 0; end = 0 } }) rows)
        (segments-tail (record { ended = []; last = record { first = true; base = 0; octets = [] } }) rows)))
        ∙ sym (ap (λ b. if b then Got (row_at rows e.from) (row_at rows (e.to - 1)) else fate_after
        (mark_of_row (row_segments rows) (row_at rows e.from)) (extents 0 pieces) e (row_at rows e.from)
        (row_at rows (e.to - 1)))
        (le-ltb (row_at rows e.from) (spoiled_after rows 0) later.1))
