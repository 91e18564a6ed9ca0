-- More rows take nothing back of what became of a frame: a hunt finds more only at the end of its octets or behind it.
use Rattle.std.proofs.Common.{◌≡◌, ℕ, zero, suc, ◌+◌, ◌-◌, ◌<◌, ◌≤◌, Bool, true, List, ◌++◌, length, drop, Option}
use Rattle.std.proofs.Common.{Some, None, inl, inr, arith, length-append, length-drop, IfSome, le-leb, false, [], ◌∷◌}
use Rattle.std.proofs.Common.{slice_get, refl, sym, ◌∙◌, ap, ap₂, subst, append_assoc, nat_le, ◌&&◌, ◌||◌}
use Rattle.std.proofs.Common.{if◌then◌else◌, option_map, lt-ltb, le-ltb, leb-true, append-nil}
use Rattle.std.proofs.lemmas.Bool.{lt-leb, cases_lt, cases_Bool}
use Rattle.std.proofs.lemmas.List.{drop-append-le}
use Rattle.law_loss.proofs.SegmentHuntAndRunLaws.{header_at-longer}
use Rattle.law_model.specs.Common.{head, Confirmed, header_at, confirm_by, confirm_with, hunt_by, hunt_within, hunt}
use Rattle.law_model.specs.Common.{Extent, extents, is_carried, lies_in, confirmed_in, Piece, idle, client, size_of}
use Rattle.law_model.specs.Common.{StreamRow, Segment, segments, octets_of_rows, Counts, run, Leg}
use Rattle.law_model.specs.Common.{scenario_by}
use Rattle.std.proofs.lemmas.List.Concat.{flat_map-append}
use Rattle.law_loss.proofs.SegmentHuntAndRunLaws.{confirmed-stays}
use Rattle.fate_engine.specs.Common.{row_from, row_at, spoiled_from, spoiled_after, fate_after, fate_in, fate_among}
use Rattle.fate_engine.specs.Common.{fate_of, fate_if, fate_at}
use Rattle.fate_engine.specs.declared.fate_law.Fate.{Fate}
use Rattle.fate_engine.specs.declared.fate_law.Fate.TheVariants.{Waits, Cut, Unconfirmed, Hunting, Unsettled, Got}
use Rattle.fate_engine.proofs.FrameRowAndSegmentLaws.{end_of, with_row, next_segment, tail, segments-tail}
use Rattle.fate_engine.proofs.FrameRowAndSegmentLaws.{size-more, lies_among, lies, tail-before, cut-row}
use Rattle.law_service.specs.KeptFates.{Keeps}
use Rattle.law_model.specs.declared.walk_events.Event.{Event}
use Rattle.law_walk.specs.Common.{session_rows, session_pieces, session_of, walk_plan}
use Rattle.law_walk.proofs.DeliveredFrameCountLaws.{rows-longer}
use Rattle.law_service.proofs.RepeatedTurnAndDelayLaws.{run-rows}

-- ---- Where a search finds nothing in octets, a place that it finds with more octets behind them has fewer than four of the
-- first ones from there on.
-- ---- what is found comes no sooner than the search begins
abbrev pub AtLeast : ℕ → Option Confirmed → Type 0
AtLeast p found = IfSome found (λ (c : Confirmed). p ≤ c.place)

AtLeast-lower : (p q : ℕ) (found : Option Confirmed) → p ≤ q → AtLeast q found → AtLeast p found
AtLeast-lower p q None low at = tt
AtLeast-lower p q (Some c) low at = omega (arith, low, at)

abbrev AllAtLeast : (Bool → ℕ → List ℕ → Option Confirmed) → Type 0
AllAtLeast f = (r : Bool) (p : ℕ) (octets : List ℕ) → AtLeast p (f r p octets)

confirm_by-low : (header : Option ℕ) (r : Bool) (p : ℕ) (octets : List ℕ) (f : Bool → ℕ → List ℕ → Option Confirmed) →
    AllAtLeast f → AtLeast p (confirm_by header r p octets f)
confirm_by-low None r p octets f low =
    AtLeast-lower p (p + 1) (f true (p + 1) (drop 1 octets)) (omega arith) (low true (p + 1) (drop 1 octets))
confirm_by-low (Some pli) r p octets f low = omega arith

confirm-low : (r : Bool) (p : ℕ) (octets : List ℕ) (f : Bool → ℕ → List ℕ → Option Confirmed) → AllAtLeast f →
    AtLeast p (confirm_with head r p octets f)
confirm-low r p octets f low = elim (cases_lt (length octets) 4) [
  | inl few ↦ rw (lt-leb 4 (length octets) few) tt
  | inr long ↦ rw (le-leb 4 (length octets) long) (confirm_by-low (header_at octets) r p octets f low)
]

hunt_by-low : (header : Option ℕ) (r : Bool) (p : ℕ) (octets : List ℕ) (f : Bool → ℕ → List ℕ → Option Confirmed) →
    AllAtLeast f → AtLeast p (hunt_by head header r p octets f)
hunt_by-low None r p octets f low =
    AtLeast-lower p (p + 1) (f r (p + 1) (drop 1 octets)) (omega arith) (low r (p + 1) (drop 1 octets))
hunt_by-low (Some pli) r p octets f low =
    AtLeast-lower p (p + (4 + pli)) (confirm_with head r (p + (4 + pli)) (drop (4 + pli) octets) f) (omega arith)
    (confirm-low r (p + (4 + pli)) (drop (4 + pli) octets) f low)

hunt_within-low : (k : ℕ) (r : Bool) (p : ℕ) (octets : List ℕ) → AtLeast p (hunt_within head k r p octets)
unfolding hunt_within
hunt_within-low zero r p octets = tt
hunt_within-low (suc k) r p octets = hunt_by-low (header_at octets) r p octets (hunt_within head k) (hunt_within-low k)

-- ---- fewer than four octets up to an end
abbrev pub Behind : ℕ → Option Confirmed → Type 0
Behind end found = IfSome found (λ (c : Confirmed). end < c.place + 4)

behind-low : (end p : ℕ) (found : Option Confirmed) → end < p + 4 → AtLeast p found → Behind end found
behind-low end p None near at = tt
behind-low end p (Some c) near at = omega (arith, near, at)

module _ (more : List ℕ) (end : ℕ) where
  abbrev Agree : ℕ → (Bool → ℕ → List ℕ → Option Confirmed) → (Bool → ℕ → List ℕ → Option Confirmed) → Type 0
  Agree n f g = (r : Bool) (p : ℕ) (octets : List ℕ) → length octets < n → p + length octets ≡ end →
      f r p octets ≡ None → Behind end (g r p (octets ++ more))

  confirm_by-behind : (header : Option ℕ) (n : ℕ) (r : Bool) (p : ℕ) (octets : List ℕ)
      (f g : Bool → ℕ → List ℕ → Option Confirmed) → 4 ≤ length octets → length octets ≤ n →
      p + length octets ≡ end → Agree n f g → confirm_by header r p octets f ≡ None →
      Behind end (confirm_by header r p (octets ++ more) g)
  confirm_by-behind None n r p octets f g long within to agree none =
      rw (drop-append-le 1 octets more (omega (arith, long)))
      (agree true (p + 1) (drop 1 octets) (omega (arith, length-drop 1 octets, long, within))
      (omega (arith, length-drop 1 octets, long, to)) none)
  confirm_by-behind (Some pli) n r p octets f g long within to agree none = absurd cc

  confirm-behind : (n : ℕ) (r : Bool) (p : ℕ) (octets : List ℕ) (f g : Bool → ℕ → List ℕ → Option Confirmed) →
      AllAtLeast g → length octets ≤ n → p + length octets ≡ end → Agree n f g →
      confirm_with head r p octets f ≡ None → Behind end (confirm_with head r p (octets ++ more) g)
  confirm-behind n r p octets f g low within to agree none = elim (cases_lt (length octets) 4) [
    | inl few ↦ behind-low end p (confirm_with head r p (octets ++ more) g) (omega (arith, few, to))
        (confirm-low r p (octets ++ more) g low)
    | inr long ↦
        let here : confirm_by (header_at octets) r p octets f ≡ None =
        rw (le-leb 4 (length octets) long) at none in
        rw (
          le-leb 4 (length (octets ++ more)) (omega (arith, length-append octets more, long)),
          header_at-longer octets more long,
        )
        (confirm_by-behind (header_at octets) n r p octets f g long within to agree here)
  ]

  hunt_by-behind : (header : Option ℕ) (n : ℕ) (r : Bool) (p : ℕ) (octets : List ℕ)
      (f g : Bool → ℕ → List ℕ → Option Confirmed) → AllAtLeast g → 4 ≤ length octets → length octets ≤ n →
      p + length octets ≡ end → Agree n f g → hunt_by head header r p octets f ≡ None →
      Behind end (hunt_by head header r p (octets ++ more) g)
  hunt_by-behind None n r p octets f g low long within to agree none =
      rw (drop-append-le 1 octets more (omega (arith, long)))
      (agree r (p + 1) (drop 1 octets) (omega (arith, length-drop 1 octets, long, within))
      (omega (arith, length-drop 1 octets, long, to)) none)
  hunt_by-behind (Some pli) n r p octets f g low long within to agree none =
      let size : length (drop (4 + pli) octets) ≡ length octets - (4 + pli) = length-drop (4 + pli) octets in
      elim (cases_lt (length (drop (4 + pli) octets)) 4) [
        | inl few ↦
            behind-low end (p + (4 + pli)) (confirm_with head r (p + (4 + pli)) (drop (4 + pli) (octets ++ more)) g)
            (omega (arith, size, few, to))
            (confirm-low r (p + (4 + pli)) (drop (4 + pli) (octets ++ more)) g low)
        | inr some ↦
            rw (drop-append-le (4 + pli) octets more (omega (arith, size, some)))
            (confirm-behind n r (p + (4 + pli)) (drop (4 + pli) octets) f g low (omega (arith, size, within))
            (omega (arith, size, some, to)) agree none)
      ]

  pub hunt_within-behind : (k m : ℕ) (r : Bool) (p : ℕ) (octets : List ℕ) → length octets ≤ k →
      length (octets ++ more) ≤ m → p + length octets ≡ end → hunt_within head k r p octets ≡ None →
      Behind end (hunt_within head m r p (octets ++ more))
  unfolding hunt_within
  hunt_within-behind zero m r p octets enough also to none =
      behind-low end p (hunt_within head m r p (octets ++ more)) (omega (arith, enough, to))
      (hunt_within-low m r p (octets ++ more))
  hunt_within-behind (suc k) zero r p octets enough also to none = tt
  hunt_within-behind (suc k) (suc m) r p octets enough also to none = elim (cases_lt (length octets) 4) [
    | inl few ↦ behind-low end p (hunt_within head (suc m) r p (octets ++ more)) (omega (arith, few, to))
        (hunt_within-low (suc m) r p (octets ++ more))
    | inr long ↦
        rw (header_at-longer octets more long)
        (hunt_by-behind (header_at octets) (length octets) r p octets (hunt_within head k) (hunt_within head m)
        (hunt_within-low m) long (omega arith) to
        (λ r p less fewer ends nothing. hunt_within-behind k m r p less (omega (arith, enough, fewer))
        (omega (arith, also, fewer, length-append less more, length-append octets more)) ends nothing) none)
  ]

-- ---- More rows take nothing back of what became of frames.
keeps-same : (one other : Fate) → one ≡ other → Keeps one other
keeps-same one other same = subst (Keeps one) same (by one)
  where
    by : (fate : Fate) → Keeps fate fate
    by Waits = tt
    by (Cut r q t) = refl
    by (Unconfirmed r q) = inl refl
    by (Hunting r q) = refl
    by (Unsettled r q) = refl
    by (Got r q) = refl

-- ---- rows that come in front of more
row-front : (t : ℕ) (rows more : List StreamRow) (place : ℕ) → place < length (octets_of_rows rows) →
    row_from t (rows ++ more) place ≡ row_from t rows place
unfolding row_from
row-front t [] more place low = absurd (omega (arith, low))
row-front t (row ∷ rows) more place low = elim (cases_lt place (length row.octets)) [
  | inl here ↦ rw (lt-ltb place (length row.octets) here) refl
  | inr later ↦ rw (le-ltb place (length row.octets) later)
      (row-front (suc t) rows more (place - length row.octets)
      (omega (arith, low, later, length-append row.octets (octets_of_rows rows))))
]

row-few : (t : ℕ) (rows : List StreamRow) (place : ℕ) → place < length (octets_of_rows rows) →
    row_from t rows place < t + length rows
unfolding row_from
row-few t [] place low = absurd (omega (arith, low))
row-few t (row ∷ rows) place low = elim (cases_lt place (length row.octets)) [
  | inl here ↦ rw (lt-ltb place (length row.octets) here) (omega arith)
  | inr later ↦ rw (le-ltb place (length row.octets) later)
      (let rest = row-few (suc t) rows (place - length row.octets)
      (omega (arith, low, later, length-append row.octets (octets_of_rows rows))) in omega (arith, rest))
]

spoiled-front : (t : ℕ) (rows more : List StreamRow) → spoiled_from t rows < t + length rows →
    spoiled_from t (rows ++ more) ≡ spoiled_from t rows
unfolding spoiled_from
spoiled-front t [] more low = absurd (omega (arith, low))
spoiled-front t (row ∷ rows) more low = elim (cases_Bool row.whole) [
  | inl whole ↦
      let here : spoiled_from (suc t) rows < t + length (row ∷ rows) = rw whole at low in
      rw whole (spoiled-front (suc t) rows more (omega (arith, here)))
  | inr lost ↦ rw lost refl
]

spoiled-same : (rows more : List StreamRow) (r : ℕ) → r ≤ length rows → spoiled_after rows r < length rows →
    spoiled_after (rows ++ more) r ≡ spoiled_after rows r
spoiled-same rows more r within low =
    ap (spoiled_from r) (drop-append-le r rows more within)
    ∙ spoiled-front r (drop r rows) more (omega (arith, within, low, length-drop r rows))

-- ---- a mark stays, or comes behind the octets so far
abbrev Marks : ℕ → Option ℕ → Option ℕ → Type 0
Marks end None later = IfSome later (λ (place : ℕ). end < place + 4)
Marks end (Some place) later = later ≡ Some place

marks-by : (base : ℕ) (octets more : List ℕ) (found : Option Confirmed) → hunt true 0 octets ≡ found →
    Marks (base + length octets) (option_map (λ (c : Confirmed). base + c.place) found)
    (option_map (λ (c : Confirmed). base + c.place) (hunt true 0 (octets ++ more)))
marks-by base octets more None none =
    by (hunt true 0 (octets ++ more))
    (hunt_within-behind more (length octets) (length octets) (length (octets ++ more)) true 0 octets (omega arith)
    (omega arith) (omega arith) none)
  where
    by : (found : Option Confirmed) → Behind (length octets) found →
        IfSome (option_map (λ (c : Confirmed). base + c.place) found) (λ (place : ℕ). base + length octets < place + 4)
    by None behind = tt
    by (Some c) behind = omega (arith, behind)
marks-by base octets more (Some c) found =
    ap (option_map (λ (c : Confirmed). base + c.place)) (confirmed-stays true octets more c found)

marks-grow : (last : Segment) (more : List ℕ) → Marks (end_of last) (confirmed_in last) (confirmed_in (with_row last more))
marks-grow last more =
    subst (λ found. Marks (end_of last) (option_map (λ (c : Confirmed). last.base + c.place) found)
    (confirmed_in (with_row last more))) refl (marks-by last.base last.octets more (hunt true 0 last.octets) refl)

module _ (e : Extent) (all : List Extent) (r q : ℕ) (some : e.from + 4 ≤ e.to) where
  after-keeps : (end : ℕ) (one other : Option ℕ) → e.to ≤ end → Marks end one other →
      Keeps (fate_after one all e r q) (fate_after other all e r q)
  after-keeps end None None fits marks = inl refl
  after-keeps end None (Some place) fits marks = rw (lt-leb place e.from (omega (arith, some, fits, marks))) (inr refl)
  after-keeps end (Some place) other fits marks =
      keeps-same (fate_after (Some place) all e r q) (fate_after other all e r q)
      (ap (λ mark. fate_after mark all e r q) (sym marks))

  in-keeps : (first : Bool) (last : Segment) (more : List ℕ) → e.to ≤ end_of last →
      Keeps (fate_in first last all e r q) (fate_in first (with_row last more) all e r q)
  in-keeps true last more fits = refl
  in-keeps false last more fits =
      after-keeps (end_of last) (confirmed_in last) (confirmed_in (with_row last more)) fits (marks-grow last more)

  -- the segment that goes on has the frame
  keeps-open : (more : List StreamRow) (last current : Segment) (extra : List ℕ) (other : Fate) →
      current ≡ with_row last extra → last.base ≤ e.from → e.to ≤ end_of last →
      Keeps (fate_in last.first last all e r q) (fate_among other (tail more current) all e r q)
  unfolding tail fate_among
  keeps-open [] last current extra other same begins fits =
      let size = size-more last extra in
      let here : lies_in (with_row last extra) e ≡ true = lies e (with_row last extra) begins (omega (arith, fits, size)) in
      rw (same, here) (in-keeps last.first last extra fits)
  keeps-open (row ∷ more) last current extra other same begins fits = elim (cases_Bool row.whole) [
    | inl whole ↦ rw whole
        (keeps-open more last (with_row current row.octets) (extra ++ row.octets) other
        (ap (λ c. with_row c row.octets) same
        ∙ ap (λ octets. record { first = last.first; base = last.base; octets = octets })
        (append_assoc last.octets extra row.octets)) begins fits)
    | inr lost ↦
        let here : lies_in (with_row last extra) e ≡ true =
        lies e (with_row last extra) begins (omega (arith, fits, size-more last extra)) in
        rw (lost, same, here) (in-keeps last.first last extra fits)
  ]

  none-among : (other : Fate) (among : List Segment) → lies_among e among ≡ false →
      fate_among other among all e r q ≡ other
  unfolding fate_among
  none-among other [] none = refl
  none-among other (segment ∷ further) none = elim (cases_Bool (lies_in segment e)) [
    | inl is ↦ absurd (let wrong : true ≡ false = sym (ap (λ b. b || lies_among e further) is) ∙ none in cc)
    | inr isnt ↦ rw isnt (none-among other further (sym (ap (λ b. b || lies_among e further) isnt) ∙ none))
  ]

  early : (last : Segment) → e.to ≤ end_of last → lies_in last e ≡ false → e.from < last.base
  early last fits isnt = elim (cases_lt e.from last.base) [
    | inl low ↦ low
    | inr begins ↦ absurd (let wrong : true ≡ false = sym (lies e last begins fits) ∙ isnt in cc)
  ]

  -- more rows come behind the segment that goes on
  keeps-last : (more : List StreamRow) (last : Segment) (one other : Fate) → e.to ≤ end_of last →
      (lies_in last e ≡ false → one ≡ other) →
      Keeps (if lies_in last e then fate_in last.first last all e r q else one)
      (fate_among other (tail more last) all e r q)
  keeps-last more last one other fits none = elim (cases_Bool (lies_in last e)) [
    | inl is ↦
        let begins : last.base ≤ e.from = begun is in
        rw is (keeps-open more last last [] other
        (ap (λ octets. record { first = last.first; base = last.base; octets = octets }) (sym (append-nil last.octets)))
        begins fits)
    | inr isnt ↦
        rw isnt (keeps-same one (fate_among other (tail more last) all e r q)
        (none isnt ∙ sym (none-among other (tail more last) (tail-before e more last (early last fits isnt)))))
  ]
    where
      begun : lies_in last e ≡ true → last.base ≤ e.from
      begun is = elim (cases_lt e.from last.base) [
        | inl low ↦ absurd (let wrong : false ≡ true = sym (ap (λ b. b && nat_le e.to (end_of last))
            (lt-leb last.base e.from low)) ∙ is in cc)
        | inr begins ↦ begins
      ]

  keeps-on : (rows more : List StreamRow) (last : Segment) (one other : Fate) →
      e.to ≤ end_of last + length (octets_of_rows rows) →
      (lies_among e (tail rows last) ≡ false → one ≡ other) →
      Keeps (fate_among one (tail rows last) all e r q) (fate_among other (tail (rows ++ more) last) all e r q)
  unfolding tail fate_among
  keeps-on [] more last one other fits none =
      keeps-last more last one other (omega (arith, fits)) (λ isnt. none (ap (λ b. b || false) isnt))
  keeps-on (row ∷ rows) more last one other fits none =
      let size = length-append row.octets (octets_of_rows rows) in
      elim (cases_Bool row.whole) [
        | inl whole ↦
            rw whole (keeps-on rows more (with_row last row.octets) one other
            (omega (arith, fits, size, size-more last row.octets)) (λ isnt. none (rw whole isnt)))
        | inr lost ↦ rw lost (elim (cases_Bool (lies_in last e)) [
          | inl is ↦ rw is (keeps-same (fate_in last.first last all e r q) (fate_in last.first last all e r q) refl)
          | inr isnt ↦ rw isnt (keeps-on rows more (next_segment last row.octets) one other
              (omega (arith, fits, size))
              (λ later. none (rw lost
              (ap (λ b. b || lies_among e (tail rows (next_segment last row.octets))) isnt ∙ later))))
        ])
      ]

-- ---- a frame
parts-of : (rows : List StreamRow) → segments rows ≡ tail rows (record { first = true; base = 0; octets = [] })
parts-of rows = segments-tail (record { ended = []; last = record { first = true; base = 0; octets = [] } }) rows

cut-same : (rows more : List StreamRow) (e : Extent) → e.from < e.to → e.to ≤ length (octets_of_rows rows) →
    lies_among e (segments rows) ≡ false →
    spoiled_after (rows ++ more) (row_at rows e.from) ≡ spoiled_after rows (row_at rows e.from)
cut-same rows more e some fits none =
    let first = row-few 0 rows e.from (omega (arith, some, fits)) in
    let last = row-few 0 rows (e.to - 1) (omega (arith, some, fits)) in
    let cut = cut-row rows e some fits none in
    spoiled-same rows more (row_at rows e.from) (omega (arith, first)) (omega (arith, cut.1, last))

pub frame-keeps : (pieces : List Piece) (rows more : List StreamRow) (e : Extent) → e.from + 4 ≤ e.to →
    Keeps (fate_of pieces rows e) (fate_of pieces (rows ++ more) e)
frame-keeps pieces rows more e some = elim (cases_Bool (is_carried (length (octets_of_rows rows)) e)) [
  | inr isnt ↦ rw isnt tt
  | inl carried ↦ by (leb-true e.to (length (octets_of_rows rows)) carried) carried
]
  where
    by : e.to ≤ length (octets_of_rows rows) → is_carried (length (octets_of_rows rows)) e ≡ true →
        Keeps (fate_of pieces rows e) (fate_of pieces (rows ++ more) e)
    by fits carried =
        let all : List Extent = extents 0 pieces in
        let start : Segment = record { first = true; base = 0; octets = [] } in
        let r : ℕ = row_at rows e.from in
        let q : ℕ = row_at rows (e.to - 1) in
        let one : Fate = Cut r q (spoiled_after rows r) in
        let other : Fate = Cut r q (spoiled_after (rows ++ more) r) in
        let longer : length (octets_of_rows (rows ++ more)) ≡ length (octets_of_rows rows) + length (octets_of_rows more) =
        ap length (flat_map-append (λ (row : StreamRow). row.octets) rows more)
        ∙ length-append (octets_of_rows rows) (octets_of_rows more) in
        let also : is_carried (length (octets_of_rows (rows ++ more))) e ≡ true =
        le-leb e.to (length (octets_of_rows (rows ++ more))) (omega (arith, fits, longer)) in
        let front : row_at (rows ++ more) e.from ≡ r = row-front 0 rows more e.from (omega (arith, some, fits)) in
        let back : row_at (rows ++ more) (e.to - 1) ≡ q = row-front 0 rows more (e.to - 1) (omega (arith, some, fits)) in
        let main = keeps-on e all r q some rows more start one other (omega (arith, fits))
        (λ none. ap (Cut r q) (sym (cut-same rows more e (omega (arith, some)) fits
        (ap (lies_among e) (parts-of rows) ∙ none)))) in
        let is_one : fate_of pieces rows e ≡ fate_among one (tail rows start) all e r q =
        ap (λ b. if b then fate_among one (segments rows) all e r q else Waits) carried
        ∙ ap (λ l. fate_among one l all e r q) (parts-of rows) in
        let is_other : fate_of pieces (rows ++ more) e ≡ fate_among other (tail (rows ++ more) start) all e r q =
        ap (λ b. if b then fate_among (Cut (row_at (rows ++ more) e.from) (row_at (rows ++ more) (e.to - 1))
        (spoiled_after (rows ++ more) (row_at (rows ++ more) e.from))) (segments (rows ++ more)) all e
        (row_at (rows ++ more) e.from) (row_at (rows ++ more) (e.to - 1)) else Waits) also
        ∙ ap₂ (λ r q. fate_among (Cut r q (spoiled_after (rows ++ more) r)) (segments (rows ++ more)) all e r q) front back
        ∙ ap (λ l. fate_among other l all e r q) (parts-of (rows ++ more)) in
        subst (λ fate. Keeps fate (fate_of pieces (rows ++ more) e)) (sym is_one)
        (subst (Keeps (fate_among one (tail rows start) all e r q)) (sym is_other) main)

-- ---- the frames of pieces
extents-long : (start : ℕ) (pieces : List Piece) (i : ℕ) (e : Extent) → slice_get (extents start pieces) i ≡ Some e →
    e.from + 4 ≤ e.to
unfolding extents
extents-long start [] i e there = absurd cc
extents-long start (idle ∷ pieces) i e there = extents-long (start + size_of idle) pieces i e there
extents-long start (client frame ∷ pieces) zero e there =
    let same : record { from = start; to = start + size_of (client frame); frame = frame } ≡ e = cc in
    omega (arith, ap (λ (e : Extent). e.from) same, ap (λ (e : Extent). e.to) same)
extents-long start (client frame ∷ pieces) (suc i) e there =
    extents-long (start + size_of (client frame)) pieces i e there

pub number-keeps : (pieces : List Piece) (rows more : List StreamRow) (i : ℕ) →
    Keeps (fate_at pieces rows i) (fate_at pieces (rows ++ more) i)
number-keeps pieces rows more i = by (slice_get (extents 0 pieces) i) refl
  where
    by : (found : Option Extent) → slice_get (extents 0 pieces) i ≡ found →
        Keeps (fate_if (fate_of pieces rows) found) (fate_if (fate_of pieces (rows ++ more)) found)
    by None there = tt
    by (Some e) there = frame-keeps pieces rows more e (extents-long 0 pieces i e there)

-- ---- More rows of a walk take nothing back.
pub session-keeps : (leg : Leg) (rows later i : ℕ) → rows ≤ later →
    Keeps (fate_at (session_pieces leg) (session_rows leg rows) i)
    (fate_at (session_pieces leg) (session_rows leg later) i)
session-keeps leg rows later i more =
    let (added, longer) = rows-longer (scenario_by leg) (session_of leg) rows (later - rows) in
    let e : later ≡ later - rows + rows = omega (arith, more) in
    let all : session_rows leg later ≡ session_rows leg rows ++ added = ap (session_rows leg) e ∙ longer in
    subst (λ l. Keeps (fate_at (session_pieces leg) (session_rows leg rows) i) (fate_at (session_pieces leg) l i))
    (sym all) (number-keeps (session_pieces leg) (session_rows leg rows) added i)

pub walk-keeps : (leg : Leg) (s : Counts) (events : List Event) (i : ℕ) →
    Keeps (fate_at (session_pieces leg) (session_rows leg s.rows) i)
    (fate_at (session_pieces leg) (session_rows leg (run (walk_plan leg) s events).rows) i)
walk-keeps leg s events i =
    session-keeps leg s.rows (run (walk_plan leg) s events).rows i (run-rows (walk_plan leg) s events)
