-- What the fate of a frame tells of its rows, and what becomes of frames that lie between two outages.
use Rattle.std.proofs.Common.{◌≡◌, ℕ, suc, ◌+◌, ◌-◌, ◌<◌, ◌≤◌, ◌⊎◌, Bool, false, List, [], ◌∷◌, ◌++◌, length, All}
use Rattle.std.proofs.Common.{Option, Some, None, slice_get, refl, sym, ◌∙◌, ap, subst, arith, inl, inr, zero, ◌&&◌}
use Rattle.std.proofs.Common.{true, drop, ap₂, option_to_list}
use Rattle.std.specs.List.{list_any}
use Rattle.std.proofs.lemmas.Bool.{cases_Bool, cases_lt, lt-ltb, le-ltb, le-leb, lt-leb, cases_order, or_left}
use Rattle.std.proofs.lemmas.Bool.{or_right}
use Rattle.std.proofs.lemmas.List.{take_all}
use Rattle.std.proofs.lemmas.List.Elements.{All-nil, All-cons}
use Rattle.law_model.specs.declared.item_refusals.Refusal.{Refusal}
use Rattle.law_model.specs.declared.script_types.ItemKind.{ItemKind}
use Rattle.law_model.specs.declared.script_types.ItemKind.TheVariants.{Frame, Add, Remove}
use Rattle.law_model.specs.Common.{Piece, StreamRow, octets_of_rows, Extent, extents, Leg, Counts, scenario_by, size}
use Rattle.law_walk.specs.Common.{Numbered, landed_items, refusal_at, session_pieces, session_of, session_rows}
use Rattle.fate_engine.specs.declared.fate_law.Fate.{Fate}
use Rattle.fate_engine.specs.declared.fate_law.Fate.TheVariants.{Waits, Cut, Unconfirmed, Hunting, Unsettled, Got}
use Rattle.fate_engine.specs.Common.{place_at, row_at, spoiled_after, is_settled_by, fate_after, fate_of, row_segments}
use Rattle.fate_engine.specs.Common.{mark_of_row, fate_by_rows, Ended, ended_then, ended_on, ended_of, fate_if}
use Rattle.fate_engine.specs.Common.{fate_at, is_got}
use Rattle.fate_engine.proofs.FrameRowAndSegmentLaws.{row-of_place, fate-rows}
use Rattle.fate_engine.proofs.FrameFateAndPieceLaws.{rows-count}
use Rattle.fate_engine.proofs.RulerAndFrameSideLaws.{order-of}
use Rattle.fate_walks.specs.walk_fates.MadeWalk.{fates_in}
use Rattle.fate_service.specs.declared.landed_frames.CarriedFrame.{CarriedFrame}
use Rattle.fate_service.specs.FrameColumns.{carried_if, carried_of}
use Rattle.fate_service.proofs.FrameTickAndRowOrderLaws.{row-order, side-behind, sides-apart}
use Rattle.std.proofs.lemmas.Option.{none-some, some_pair_parts}
use Rattle.fate_walks.proofs.FatesAndSeenRowsLaws.{mark-of-low}
use Rattle.fate_service.specs.declared.outages.Outage.{Outage}
use Rattle.fate_service.specs.RowStates.{state_of}
use Rattle.fate_service.specs.Outages.{next_first}
use Rattle.fate_service.specs.service_law.OutageRuns.{dark_row, row_outages, AreOutages, rows_of_fate, is_unsettled}
use Rattle.fate_service.specs.service_law.OutageRuns.{LiesBetween}
use Rattle.fate_service.proofs.OutageAndDarkRowLaws.{outages-are, first-dark, Stands, outage-stands}
use Rattle.fate_service.proofs.SpoiledRowStateLaws.{after-up, after-same, first-clear, mark-use, spoiled-dark}
use Rattle.fate_service.proofs.SpoiledRowStateLaws.{clear-use, marks-same}

-- ---- What the fate of a frame tells of its rows.
-- ---- the rows of a frame
module _ (pieces : List Piece) (rows : List StreamRow) where
  abbrev pub all : List Extent
  all = extents 0 pieces

  abbrev pub mark_at : ℕ → Option ℕ
  mark_at t = mark_of_row (row_segments rows) t

  -- they are those of its places, and all of them were taken
  pub record HasPlaces (e : Extent) (r q : ℕ) : Type 0 where
    pub first : r ≡ row_at rows e.from
    pub rising : r ≤ q
    pub taken : q < length rows
    pub within : e.from < length (octets_of_rows rows)

  -- all of them are whole
  pub record LiesWhole (e : Extent) (r q : ℕ) : Type 0 where
    pub places : HasPlaces e r q
    pub whole : q < spoiled_after rows r

  -- and they lie in a later segment
  pub record LiesLater (e : Extent) (r q : ℕ) : Type 0 where
    pub lies : LiesWhole e r q
    pub later : spoiled_after rows 0 ≤ r

  -- something is confirmed there
  pub record LiesMarked (e : Extent) (r q place : ℕ) : Type 0 where
    pub lies : LiesLater e r q
    pub mark : mark_at r ≡ Some place

  abbrev settled : ℕ → Extent → Bool
  settled place e = list_any (is_settled_by place e) all

  abbrev pub Tells : Extent → Fate → Type 0
  Tells e Waits = Unit {0}
  Tells e (Cut r q t) = HasPlaces e r q × (t ≡ spoiled_after rows r) × (t ≤ q)
  Tells e (Unconfirmed r q) = LiesLater e r q × (mark_at r ≡ None)
  Tells e (Hunting r q) = (place : ℕ) × LiesMarked e r q place × (e.from < place)
  Tells e (Unsettled r q) = (place : ℕ) × LiesMarked e r q place × (place ≤ e.from) × (settled place e ≡ false)
  Tells e (Got r q) =
      LiesWhole e r q × ((r < spoiled_after rows 0) ⊎ ((place : ℕ) × LiesMarked e r q place × (place ≤ e.from)))

  tells-after : (e : Extent) (r q : ℕ) (mark : Option ℕ) → mark_at r ≡ mark → LiesLater e r q →
      Tells e (fate_after mark all e r q)
  tells-after e r q None is later = (later, is)
  tells-after e r q (Some place) is later =
      let marked : LiesMarked e r q place = record { lies = later; mark = is } in
      elim (cases_lt e.from place) [
        | inl hunting ↦ rw (lt-leb place e.from hunting) (place, marked, hunting)
        | inr behind ↦ rw (le-leb place e.from behind)
            (elim (cases_Bool (settled place e)) [
              | inl is_settled ↦ rw is_settled (later.lies, inr (place, marked, behind))
              | inr isnt ↦ rw isnt (place, marked, behind, isnt)
            ])
      ]

  tells-rows : (e : Extent) (r q : ℕ) → HasPlaces e r q → Tells e (fate_by_rows rows all e r q)
  tells-rows e r q places =
      elim (cases_lt q (spoiled_after rows r)) [
        | inl whole ↦ rw (lt-ltb q (spoiled_after rows r) whole)
            (let lies : LiesWhole e r q = record { places = places; whole = whole } in
            elim (cases_lt r (spoiled_after rows 0)) [
              | inl first ↦ rw (lt-ltb r (spoiled_after rows 0) first) (lies, inl first)
              | inr later ↦ rw (le-ltb r (spoiled_after rows 0) later)
                  (tells-after e r q (mark_at r) refl (record { lies = lies; later = later }))
            ])
        | inr cut ↦ rw (le-ltb q (spoiled_after rows r) cut) (places, refl, cut)
      ]

  -- the row of a place is one of those that were taken
  row-low : (place : ℕ) → place < length (octets_of_rows rows) → row_at rows place < length rows
  row-low place low =
      let has = row-of_place rows place low in
      elim (cases_lt (row_at rows place) (length rows)) [
        | inl less ↦ less
        | inr more ↦ absurd (
            omega (arith, has.from, place-whole rows (row_at rows place) more, low))
      ]
    where
      place-whole : (rows : List StreamRow) (t : ℕ) → length rows ≤ t → place_at rows t ≡ length (octets_of_rows rows)
      place-whole rows t more = ap (λ l. length (octets_of_rows l)) (take_all t rows more)

  pub tells : (e : Extent) → e.from < e.to → Tells e (fate_of pieces rows e)
  tells e some =
      elim (cases_lt (length (octets_of_rows rows)) e.to) [
        | inl late ↦ rw (lt-leb e.to (length (octets_of_rows rows)) late) tt
        | inr fits ↦
            subst (Tells e) (sym (fate-rows pieces rows e some fits))
            (tells-rows e (row_at rows e.from) (row_at rows (e.to - 1)) (record {
              first = refl;
              rising = row-order rows e.from (e.to - 1) (omega (arith, some)) (omega (arith, some, fits));
              taken = row-low (e.to - 1) (omega (arith, some, fits));
              within = omega (arith, some, fits);
            }))
      ]

  -- ---- by the number of a frame
  pub record TellsAt (i : ℕ) (fate : Fate) : Type 0 where
    pub extent : Extent
    pub there : slice_get all i ≡ Some extent
    pub some : extent.from < extent.to
    pub tells : Tells extent fate

  tells-if : (i : ℕ) (o : Option Extent) → slice_get all i ≡ o →
      (fate_if (fate_of pieces rows) o ≡ Waits) ⊎ TellsAt i (fate_if (fate_of pieces rows) o)
  tells-if i None there = inl refl
  tells-if i (Some e) there =
      let some = (side-behind 0 all (0 + size pieces) i e (order-of 0 pieces) there).1 in
      inr (record { extent = e; there = there; some = some; tells = tells e some })

  pub tells-at : (i : ℕ) → (fate_at pieces rows i ≡ Waits) ⊎ TellsAt i (fate_at pieces rows i)
  tells-at i = tells-if i (slice_get all i) refl

  -- what holds of each frame that the rows carry
  abbrev LastLow : Option CarriedFrame → Type 0
  LastLow None = Unit {0}
  LastLow (Some frame) = frame.last < length rows

  last-low : (e : Extent) (due octets : ℕ) (fate : Fate) → Tells e fate → LastLow (carried_if due octets fate)
  last-low e due octets Waits told = tt
  last-low e due octets (Cut r q t) told = told.0.taken
  last-low e due octets (Unconfirmed r q) told = told.0.lies.places.taken
  last-low e due octets (Hunting r q) told = told.1.lies.lies.places.taken
  last-low e due octets (Unsettled r q) told = told.1.lies.lies.places.taken
  last-low e due octets (Got r q) told = told.0.places.taken

  pub last-taken : (i due octets : ℕ) (frame : CarriedFrame) →
      carried_if due octets (fate_at pieces rows i) ≡ Some frame → frame.last < length rows
  last-taken i due octets frame is =
      elim (tells-at i) [
        | inl waits ↦ absurd (
            let e : None ≡ Some frame = sym (ap (carried_if due octets) waits) ∙ is in
            cc)
        | inr told ↦ subst LastLow is (last-low told.extent due octets (fate_at pieces rows i) told.tells)
      ]

-- ---- of all frames that have landed
module _ (leg : Leg) (fate : ℕ → Fate) (P : CarriedFrame → Type 0)
    (each : (i due octets : ℕ) (frame : CarriedFrame) → carried_if due octets (fate i) ≡ Some frame → P frame) where
  listed-each : (i due octets : ℕ) (o : Option CarriedFrame) (rest : List CarriedFrame) →
      carried_if due octets (fate i) ≡ o → All P rest → All P (option_to_list o ++ rest)
  listed-each i due octets None rest is later = later
  listed-each i due octets (Some frame) rest is later = All-cons P frame rest (each i due octets frame is) later

  then-each : (item : Numbered) (why : Option Refusal) (kind : ItemKind) (n : ℕ) (others : ℕ → List Ended) →
      ((m : ℕ) → All P (carried_of (others m))) → All P (carried_of (ended_then fate item why kind n others))
  then-each item None (Frame octets) n others rest =
      listed-each n item.item.due (length octets) (carried_if item.item.due (length octets) (fate n))
      (carried_of (others (suc n))) refl (rest (suc n))
  then-each item (Some why) (Frame octets) n others rest = rest n
  then-each item None (Add line) n others rest = rest n
  then-each item (Some why) (Add line) n others rest = rest n
  then-each item None (Remove line) n others rest = rest n
  then-each item (Some why) (Remove line) n others rest = rest n

  pub all-each : (items : List Numbered) (n : ℕ) → All P (carried_of (ended_on leg fate items n))
  unfolding ended_on
  all-each [] n = All-nil P
  all-each (item ∷ items) n =
      then-each item (refusal_at leg item) item.item.kind n (ended_on leg fate items) (λ m. all-each items m)

pub carried-rows : (leg : Leg) (s : Counts) →
    All (λ (frame : CarriedFrame). frame.last < s.rows) (carried_of (ended_of leg s))
carried-rows leg s =
    all-each leg (fates_in leg s.rows) (λ (frame : CarriedFrame). frame.last < s.rows)
    (λ i due octets frame is.
    let low = last-taken (session_pieces leg) (session_rows leg s.rows) i due octets frame is in
    omega (arith, low, rows-count (scenario_by leg) (session_of leg) s.rows))
    (landed_items leg s) 0

-- ---- Outages beside the fates of frames: which rows a frame that is got has, where one that is lost is decided, and what
-- becomes of those between two outages.
pub rows-are : (rows : List StreamRow) → AreOutages (dark_row rows) 0 (row_outages rows) (length rows)
rows-are rows = outages-are (state_of rows) (length rows)

module _ (rows : List StreamRow) where
  abbrev outages : List Outage
  outages = row_outages rows

  abbrev dark : ℕ → Bool
  dark t = dark_row rows t

  -- rows from one to another that aren't dark are whole
  clear-between : (first last : ℕ) → first ≤ last → ((t : ℕ) → first ≤ t → t ≤ last → dark t ≡ false) →
      last < spoiled_after rows first
  clear-between first last low clear =
      elim (cases_lt last (spoiled_after rows first)) [
        | inl less ↦ less
        | inr more ↦ absurd (
            let e : true ≡ false =
            sym (spoiled-dark rows first) ∙ clear (spoiled_after rows first) (after-up rows first) more in
            cc)
      ]

  -- the first outage begins with the first row that isn't whole, or before
  first-spoiled : (r : ℕ) → spoiled_after rows r < length rows → next_first (length rows) outages ≤ spoiled_after rows r
  first-spoiled r low =
      first-dark dark 0 outages (length rows) (spoiled_after rows r) (rows-are rows) (omega arith) low
      (spoiled-dark rows r)

-- ---- frames that are got
module _ (pieces : List Piece) (rows : List StreamRow) where
  got-clear : (e : Extent) (r q t : ℕ) → Tells pieces rows e (Got r q) → r ≤ t → t ≤ q → dark_row rows t ≡ false
  got-clear e r q t told low high =
      let lies = told.0 in
      let whole = lies.whole in
      let same = after-same rows r t low (omega (arith, high, whole)) in
      let own : t < spoiled_after rows t = omega (arith, same, whole, high) in
      elim told.1 [
        | inl first ↦ (
            first-clear rows t own (omega (arith, after-same rows 0 r (omega arith) first, whole, high)))
        | inr marked ↦ (
            let place : ℕ = marked.0 in
            let is = marked.1 in
            let taken = lies.places.taken in
            let rising = lies.places.rising in
            mark-use rows t place own (omega (arith, is.lies.later, low))
            (marks-same rows r t (omega (arith, taken, rising)) low (omega (arith, high, whole)) ∙ is.mark)
            (omega (arith, row-order rows place e.from marked.2 lies.places.within, lies.places.first, low)))
      ]

  pub got-rows : (i r q t : ℕ) → fate_at pieces rows i ≡ Got r q → r ≤ t → t ≤ q → dark_row rows t ≡ false
  got-rows i r q t is low high =
      elim (tells-at pieces rows i) [
        | inl waits ↦ absurd (let e : Waits ≡ Got r q = sym waits ∙ is in cc)
        | inr told ↦ got-clear told.extent r q t (subst (Tells pieces rows told.extent) is told.tells) low high
      ]

  -- ---- frames that are lost
  -- the row that decides is behind the begin of the first outage
  abbrev IsBehind : Option CarriedFrame → Type 0
  IsBehind None = Unit {0}
  IsBehind (Some frame) =
      frame.got ≡ false → (next_first (length rows) (row_outages rows) ≤ frame.at) × (frame.at < length rows)

  later-behind : (e : Extent) (r q : ℕ) → LiesLater pieces rows e r q →
      (next_first (length rows) (row_outages rows) ≤ r) × (r < length rows)
  later-behind e r q lies =
      let later = lies.later in
      let taken = lies.lies.places.taken in
      let rising = lies.lies.places.rising in
      let first = first-spoiled rows 0 (omega (arith, later, taken, rising)) in
      (omega (arith, first, later), omega (arith, taken, rising))

  lost-behind : (e : Extent) (due octets : ℕ) (fate : Fate) → Tells pieces rows e fate →
      IsBehind (carried_if due octets fate)
  lost-behind e due octets Waits told = tt
  lost-behind e due octets (Cut r q t) told =
      λ lost.
      let taken = told.0.taken in
      let is = told.1 in
      let low = told.2 in
      (omega (arith, first-spoiled rows r (omega (arith, is, low, taken)), is), omega (arith, low, taken))
  lost-behind e due octets (Unconfirmed r q) told = λ lost. later-behind e r q told.0
  lost-behind e due octets (Hunting r q) told = λ lost. later-behind e r q told.1.lies
  lost-behind e due octets (Unsettled r q) told = λ lost. later-behind e r q told.1.lies
  lost-behind e due octets (Got r q) told = λ lost. absurd (let e : true ≡ false = lost in cc)

  pub lost-at : (i due octets : ℕ) (frame : CarriedFrame) → carried_if due octets (fate_at pieces rows i) ≡ Some frame →
      frame.got ≡ false → (next_first (length rows) (row_outages rows) ≤ frame.at) × (frame.at < length rows)
  lost-at i due octets frame is =
      elim (tells-at pieces rows i) [
        | inl waits ↦ absurd (let e : None ≡ Some frame = sym (ap (carried_if due octets) waits) ∙ is in cc)
        | inr told ↦ subst IsBehind is (lost-behind told.extent due octets (fate_at pieces rows i) told.tells)
      ]

  -- ---- frames before the first outage, and between two of them
  abbrev HasRows : Fate → ℕ → ℕ → Type 0
  HasRows fate r q = rows_of_fate fate ≡ Some (r, q)

  same-rows : {r q u v : ℕ} → ◌≡◌ {A = Option (ℕ × ℕ)} (Some (r, q)) (Some (u, v)) → (r ≡ u) × (q ≡ v)
  same-rows {r} {q} {u} {v} is = some_pair_parts r u q v is

  before-got : (e : Extent) (fate : Fate) (r q : ℕ) → Tells pieces rows e fate → HasRows fate r q →
      q < next_first (length rows) (row_outages rows) → is_got fate ≡ true
  before-got e Waits r q told has before = absurd cc
  before-got e (Cut u v t) r q told has before =
      absurd (
      let same = (same-rows has).1 in
      let is = told.1 in
      let low = told.2 in
      omega (arith, first-spoiled rows u (omega (arith, is, low, told.0.taken)), is, low, same, before)
      )
  before-got e (Unconfirmed u v) r q told has before =
      absurd (let same = (same-rows has).1 in let rising = told.0.lies.places.rising in
      let first = (later-behind e u v told.0).0 in omega (arith, first, same, rising, before))
  before-got e (Hunting u v) r q told has before =
      absurd (let same = (same-rows has).1 in let rising = told.1.lies.lies.places.rising in
      let first = (later-behind e u v told.1.lies).0 in omega (arith, first, same, rising, before))
  before-got e (Unsettled u v) r q told has before =
      absurd (let same = (same-rows has).1 in let rising = told.1.lies.lies.places.rising in
      let first = (later-behind e u v told.1.lies).0 in omega (arith, first, same, rising, before))
  before-got e (Got u v) r q told has before = refl

  pub before-all : (i r q : ℕ) → rows_of_fate (fate_at pieces rows i) ≡ Some (r, q) →
      q < next_first (length rows) (row_outages rows) → is_got (fate_at pieces rows i) ≡ true
  before-all i r q has before =
      elim (tells-at pieces rows i) [
        | inl waits ↦ absurd (none-some (r, q) (sym (ap rows_of_fate waits) ∙ has))
        | inr told ↦ before-got told.extent (fate_at pieces rows i) r q told.tells has before
      ]

  -- rows that lie between an outage and the next one, behind the first row after it: all are of use, and their mark is
  -- that of this row
  record AreBehind (outage : Outage) (r q place : ℕ) : Type 0 where
    pub whole : q < spoiled_after rows outage.end
    pub low : row_at rows place ≤ outage.end
    pub mark : mark_at pieces rows r ≡ Some place
    pub within : place < length (octets_of_rows rows)

  module _ (number : ℕ) (outage : Outage) (there : slice_get (row_outages rows) number ≡ Some outage) where
    stands : Stands (dark_row rows) (row_outages rows) (length rows) number outage
    stands = outage-stands (dark_row rows) 0 (row_outages rows) (length rows) number outage (rows-are rows) there

    abbrev next : ℕ
    next = next_first (length rows) (drop (suc number) (row_outages rows))

    -- an outage begins behind the rows of the first segment
    begins-late : spoiled_after rows 0 ≤ outage.first
    begins-late =
        elim (cases_lt outage.first (spoiled_after rows 0)) [
          | inr late ↦ late
          | inl early ↦ absurd (
              let same = after-same rows 0 outage.first (omega arith) early in
              let e : true ≡ false =
              sym stands.begins ∙ first-clear rows outage.first (omega (arith, same, early)) early in
              cc)
        ]

    are-behind : (r q : ℕ) → outage.end < r → r ≤ q → q < next → (place : ℕ) × AreBehind outage r q place
    are-behind r q behind rising before =
        let within = stands.within in
        let clear : dark_row rows outage.end ≡ false =
        stands.behind outage.end (omega arith) (omega (arith, behind, rising, before)) in
        let found = clear-use rows outage.end clear (omega (arith, begins-late, stands.some)) in
        let whole = clear-between rows outage.end q (omega (arith, behind, rising))
        (λ t low high. stands.behind t low (omega (arith, high, before))) in
        let mark = marks-same rows outage.end r (omega (arith, behind, rising, before, within)) (omega (arith, behind))
        (omega (arith, rising, whole)) in (
          found.place,
          record {
            whole = whole;
            low = found.low;
            mark = mark ∙ found.mark;
            within = mark-of-low rows outage.end found.place found.mark;
          },
        )

    -- no row of theirs cuts a frame, and none of them begins before what is confirmed
    between-tells : (e : Extent) (fate : Fate) (r q : ℕ) → Tells pieces rows e fate → HasRows fate r q →
        outage.end < r → q < next → (is_got fate ≡ true) ⊎ (is_unsettled fate ≡ true)
    between-tells e Waits r q told has behind before = absurd cc
    between-tells e (Cut u v t) r q told has behind before =
        absurd (
        let same = same-rows has in
        let first = same.0 in
        let last = same.1 in
        let rising = told.0.rising in
        let are = (are-behind r q behind (omega (arith, first, last, rising)) before).1 in
        let whole = are.whole in
        let up = after-same rows outage.end r (omega (arith, behind))
        (omega (arith, whole, rising, first, last)) in
        omega (arith, up, ap (spoiled_after rows) first, told.1, told.2, last, whole)
        )
    between-tells e (Unconfirmed u v) r q told has behind before =
        absurd (
        let same = same-rows has in
        let first = same.0 in
        let rising = told.0.lies.places.rising in
        let are = (are-behind r q behind (omega (arith, first, same.1, rising)) before).1 in
        let mark = are.mark in
        let none = told.1 in
        let own = ap (mark_at pieces rows) first in
        cc
        )
    between-tells e (Hunting u v) r q told has behind before =
        absurd (
        let same = same-rows has in
        let first = same.0 in
        let places = told.1.lies.lies.places in
        let found = are-behind r q behind (omega (arith, first, same.1, places.rising)) before in
        let are = found.1 in
        let place : told.0 ≡ found.0 =
        same-some (sym told.1.mark ∙ ap (mark_at pieces rows) first ∙ are.mark) in
        let up = row-order rows e.from found.0 (omega (arith, told.2, place)) are.within in
        omega (arith, up, are.low, places.first, first, behind)
        )
      where
        same-some : {x y : ℕ} → Some x ≡ Some y → x ≡ y
        same-some is = cc
    between-tells e (Unsettled u v) r q told has behind before = inr refl
    between-tells e (Got u v) r q told has behind before = inl refl

    neither : (false ≡ true) ⊎ (false ≡ true) → ⊥
    neither (inl wrong) = cc
    neither (inr wrong) = cc

    -- the place that is confirmed there is before each of them that isn't got, and no frame is between
    unsettled-tells : (e : Extent) (fate : Fate) (r q : ℕ) → Tells pieces rows e fate → HasRows fate r q →
        outage.end < r → q < next → is_got fate ≡ false → (place : ℕ) × (mark_at pieces rows outage.end ≡ Some place)
        × (place ≤ e.from) × (list_any (is_settled_by place e) (extents 0 pieces) ≡ false)
    unsettled-tells e Waits r q told has behind before isnt = absurd cc
    unsettled-tells e (Cut u v t) r q told has behind before isnt =
        absurd (neither (between-tells e (Cut u v t) r q told has behind before))
    unsettled-tells e (Unconfirmed u v) r q told has behind before isnt =
        absurd (neither (between-tells e (Unconfirmed u v) r q told has behind before))
    unsettled-tells e (Hunting u v) r q told has behind before isnt =
        absurd (neither (between-tells e (Hunting u v) r q told has behind before))
    unsettled-tells e (Got u v) r q told has behind before isnt = absurd (let e : true ≡ false = isnt in cc)
    unsettled-tells e (Unsettled u v) r q told has behind before isnt =
        let same = same-rows has in
        let first = same.0 in
        let last = same.1 in
        let rising = told.1.lies.lies.places.rising in
        let whole = (are-behind r q behind (omega (arith, first, last, rising)) before).1.whole in
        let within = stands.within in
        let mark = marks-same rows outage.end r (omega (arith, behind, rising, first, last, before, within))
        (omega (arith, behind)) (omega (arith, whole, rising, first, last)) in
        (told.0, sym mark ∙ sym (ap (mark_at pieces rows) first) ∙ told.1.mark, told.2, told.3)

  pub between-all : (number i : ℕ) → LiesBetween pieces rows number i →
      (is_got (fate_at pieces rows i) ≡ true) ⊎ (is_unsettled (fate_at pieces rows i) ≡ true)
  between-all number i lies =
      elim (tells-at pieces rows i) [
        | inl waits ↦ absurd (none-some (lies.first, lies.last) (sym (ap rows_of_fate waits) ∙ lies.has))
        | inr told ↦
            between-tells number lies.outage lies.there told.extent (fate_at pieces rows i) lies.first lies.last
            told.tells lies.has lies.behind lies.before
      ]

  -- ---- at most one of them isn't got
  record IsFirst (number i : ℕ) (outage : Outage) : Type 0 where
    pub extent : Extent
    pub there : slice_get (extents 0 pieces) i ≡ Some extent
    pub some : extent.from < extent.to
    pub place : ℕ
    pub mark : mark_at pieces rows outage.end ≡ Some place
    pub behind : place ≤ extent.from
    pub none : list_any (is_settled_by place extent) (extents 0 pieces) ≡ false

  is-first : (number i : ℕ) (lies : LiesBetween pieces rows number i) → is_got (fate_at pieces rows i) ≡ false →
      IsFirst number i lies.outage
  is-first number i lies isnt =
      elim (tells-at pieces rows i) [
        | inl waits ↦ absurd (none-some (lies.first, lies.last) (sym (ap rows_of_fate waits) ∙ lies.has))
        | inr told ↦ (
            let found = unsettled-tells number lies.outage lies.there told.extent (fate_at pieces rows i) lies.first
            lies.last told.tells lies.has lies.behind lies.before isnt in
            record {
              extent = told.extent;
              there = told.there;
              some = told.some;
              place = found.0;
              mark = found.1;
              behind = found.2;
              none = found.3;
            })
      ]

  any-of : (p : Extent → Bool) (all : List Extent) (i : ℕ) (e : Extent) → slice_get all i ≡ Some e → p e ≡ true →
      list_any p all ≡ true
  any-of p [] i e there is = absurd cc
  any-of p (x ∷ all) zero e there is = let same : x ≡ e = cc in or_left (p x) (list_any p all) (ap p same ∙ is)
  any-of p (x ∷ all) (suc i) e there is = or_right (p x) (list_any p all) (any-of p all i e there is)

  not-before : (number i j : ℕ) (outage : Outage) → IsFirst number i outage → IsFirst number j outage → i < j → ⊥
  not-before number i j outage one other less =
      let place : one.place ≡ other.place = (let a = one.mark in let b = other.mark in cc) in
      let apart = sides-apart 0 (extents 0 pieces) (0 + size pieces) i j one.extent other.extent (order-of 0 pieces) less
      one.there other.there in
      let e : true ≡ false =
      sym (any-of (is_settled_by other.place other.extent) (extents 0 pieces) i one.extent one.there
      (ap₂ ◌&&◌ (le-leb other.place one.extent.from (omega (arith, one.behind, place)))
      (lt-ltb one.extent.from other.extent.from (omega (arith, apart, one.some)))))
      ∙ other.none in
      cc

  pub one-only : (number i j : ℕ) → LiesBetween pieces rows number i → LiesBetween pieces rows number j →
      is_got (fate_at pieces rows i) ≡ false → is_got (fate_at pieces rows j) ≡ false → i ≡ j
  one-only number i j lies other isnt neither =
      let outage : lies.outage ≡ other.outage = (let a = lies.there in let b = other.there in cc) in
      let one = is-first number i lies isnt in
      let two : IsFirst number j lies.outage =
      subst (IsFirst number j) (sym outage) (is-first number j other neither) in
      elim (cases_order i j) [
        | inl same ↦ same
        | inr apart ↦ elim apart [
          | inl before ↦ absurd (not-before number i j lies.outage one two before)
          | inr behind ↦ absurd (not-before number j i lies.outage two one behind)
        ]
      ]
