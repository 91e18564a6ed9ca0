-- Frames whose fate is got, item by item: each is of an item that has landed, and they are those delivered.
use Rattle.std.proofs.Common.{◌≡◌, ℕ, ◌+◌, ◌-◌, ◌<◌, Bool, true, false, not, List, [], ◌∷◌, length, map, Option, Some}
use Rattle.std.proofs.Common.{None, refl, sym, ◌∙◌, ap, arith, inl, inr, nat_le, ◌&&◌, ◌||◌, zero, suc, ◌≤◌, ◌⊎◌, ◌++◌}
use Rattle.std.proofs.Common.{filter, drop, All, slice_get, subst, take, ap₂, append_assoc, length-append, append-nil}
use Rattle.std.proofs.Common.{take_at, take-append-drop, nat_lt, lt-ltb, le-ltb, ltb-false}
use Rattle.std.specs.List.{list_any, flat_map}
use Rattle.std.proofs.lemmas.Bool.{cases_Bool, lt-leb}
use Rattle.law_model.specs.Common.{Piece, StreamRow, Segment, segments, octets_of_rows, Extent, extents, is_carried}
use Rattle.law_model.specs.Common.{lies_in, confirmed_in, missed_after, is_missed, is_given, is_frame_lost}
use Rattle.law_model.specs.Common.{frames_kept}
use Rattle.law_model.specs.Common.{stream_of, Leg, Scenario, DueFrame, offer_of, offers_of, scenario_by, Told}
use Rattle.law_model.specs.Common.{session_cells, Counts, frames_before, IsSound, place_of, stream_before, frames_in}
use Rattle.law_loss.proofs.ClientFrameExtentLaws.{filter-same, IsBetween, extents-between, filter-none, filter-skip}
use Rattle.law_loss.proofs.ClientFrameExtentLaws.{extents-append}
use Rattle.law_loss.proofs.SegmentsOfAddedRowsLaws.{InOrder, Stands-all}
use Rattle.law_loss.proofs.GivenAndLostFrameLaws.{any_lower, lies_upper}
use Rattle.std.proofs.lemmas.List.Elements.{All-weaker, All-tail}
use Rattle.fate_engine.specs.Common.{row_at, spoiled_after, is_settled_by, fate_after, fate_in, fate_among}
use Rattle.fate_engine.specs.Common.{carried_fate, fate_of, is_got, frames_got, accepted, Ended, ended_by, fate_if}
use Rattle.fate_engine.specs.Common.{ended_then, ended_on, got_frames, are_true_marks, ended_of}
use Rattle.fate_engine.specs.declared.fate_law.Fate.{Fate}
use Rattle.fate_engine.specs.declared.fate_law.Fate.TheVariants.{Cut}
use Rattle.law_model.proofs.ListLaws.{not-not, rest-sorted, filter-few, take-few}
use Rattle.law_model.specs.declared.script_types.ItemKind.{ItemKind}
use Rattle.law_model.specs.declared.item_refusals.Refusal.{Refusal}
use Rattle.law_model.specs.declared.script_types.ItemKind.TheVariants.{Frame, Add, Remove}
use Rattle.law_walk.specs.Common.{Numbered, refusal_at, frame_by, IsWalked, is_client, with_if, landed_from}
use Rattle.law_walk.specs.Common.{landed_items, kind_refusal, numbered, accepted_frames, session_rows, delivered_of}
use Rattle.law_walk.specs.Common.{session_pieces, session_extents, session_waiting, ConfirmsTrue}
use Rattle.std.specs.List.Sorted.{IsNonDecreasingBy}
use Rattle.std.proofs.lemmas.List.Concat.{flat_map-append}
use Rattle.law_model.specs.declared.script_types.Item.{Item}
use Rattle.law_session.specs.LandingByStep.{is_come}
use Rattle.law_session.proofs.ClientStreamAndReplayLaws.{offers_land, stream-reaches, stream_before-frames}
use Rattle.law_loss.proofs.ItemDueTicksLaws.{offers_rise}
use Rattle.law_walk.proofs.LandedItemRefusalAndTotalLaws.{frame-waits, filter-first}
use Rattle.law_walk.proofs.AcceptedFrameAndDrainedWalkLaws.{judged, judged-append, landed-judged, kind-judged}
use Rattle.law_walk.proofs.AcceptedFrameAndDrainedWalkLaws.{items-judged, no-frame-add, no-frame-remove, offers_by}
use Rattle.law_walk.proofs.AcceptedFrameAndDrainedWalkLaws.{counts-within, frames-kept, frames-known}
use Rattle.std.proofs.lemmas.List.{length-map}
use Rattle.law_loss.specs.CarriedStream.{CarriesStream}
use Rattle.law_loss.proofs.SessionStreamLossLaws.{frames-extents, pieces-begin, rows-carry, rows-length}
use Rattle.law_walk.proofs.WalkPlanAndPoppedCellLaws.{sound-walks}
use Rattle.fate_engine.proofs.TrueMarksLaws.{marks-starts, starts-marks}

-- ---- A frame is got exactly where the rows carry it and it isn't lost.
pub or_none : (b : Bool) → (b || false) ≡ b
or_none true = refl
or_none false = refl

module _ (all : List Extent) (e : Extent) (r q : ℕ) where
  after-got : (found : Option ℕ) → is_got (fate_after found all e r q) ≡ not (missed_after found all e)
  after-got None = refl
  after-got (Some place) = by (nat_le place e.from) (list_any (is_settled_by place e) all) refl refl
    where
      by : (a b : Bool) → nat_le place e.from ≡ a → list_any (is_settled_by place e) all ≡ b →
          is_got (fate_after (Some place) all e r q) ≡ not (missed_after (Some place) all e)
      by true true one two = rw (one, two) refl
      by true false one two = rw (one, two) refl
      by false b one two = rw one refl

  in-got : (first : Bool) (segment : Segment) →
      is_got (fate_in first segment all e r q) ≡ not (is_missed first segment all e)
  in-got true segment = refl
  in-got false segment = after-got (confirmed_in segment)

  among-got : (other : Fate) (low : ℕ) (segments : List Segment) → is_got other ≡ false → e.from < e.to →
      InOrder low segments →
      is_got (fate_among other segments all e r q) ≡ list_any (is_given all e) segments
  unfolding fate_among
  among-got other low [] none some order = none
  among-got other low (segment ∷ further) none some order =
      let high : ℕ = segment.base + length segment.octets in
      elim (cases_Bool (lies_in segment e)) [
        | inl lies ↦ (
            let rest : list_any (is_given all e) further ≡ false =
            elim (cases_Bool (list_any (is_given all e) further)) [
              | inl wrong ↦ absurd (omega (
                arith,
                any_lower all e high further order.1 wrong,
                lies_upper segment e lies,
                some,
              ))
              | inr right ↦ right
            ] in
            rw (lies, rest) (in-got segment.first segment
            ∙ sym (or_none (not (is_missed segment.first segment all e)))))
        | inr apart ↦ rw apart (among-got other high further none some order.1)
      ]

pub got-each : (pieces : List Piece) (rows : List StreamRow) (e : Extent) → e.from < e.to →
    is_got (fate_of pieces rows e) ≡
    (is_carried (length (octets_of_rows rows)) e && not (is_frame_lost (segments rows) (extents 0 pieces) e))
got-each pieces rows e some =
    elim (cases_Bool (is_carried (length (octets_of_rows rows)) e)) [
      | inl is ↦ rw is (carried ∙ sym (not-not (list_any (is_given (extents 0 pieces) e) (segments rows))))
      | inr isnt ↦ rw isnt refl
    ]
  where
    carried : is_got (carried_fate pieces rows e) ≡ list_any (is_given (extents 0 pieces) e) (segments rows)
    carried =
        among-got (extents 0 pieces) e (row_at rows e.from) (row_at rows (e.to - 1))
        (Cut (row_at rows e.from) (row_at rows (e.to - 1)) (spoiled_after rows (row_at rows e.from)))
        0 (segments rows) refl some (Stands-all rows).order

pub got-kept : (pieces : List Piece) (rows : List StreamRow) → frames_got pieces rows ≡ frames_kept pieces rows
got-kept pieces rows =
    ap (map (λ (e : Extent). e.frame))
    (filter-same (λ e. is_got (fate_of pieces rows e))
    (λ e. is_carried (length (octets_of_rows rows)) e && not (is_frame_lost (segments rows) (extents 0 pieces) e))
    (extents 0 pieces)
    (All-weaker (IsBetween 0 (0 + length (stream_of pieces)))
    (λ e. is_got (fate_of pieces rows e) ≡
    (is_carried (length (octets_of_rows rows)) e && not (is_frame_lost (segments rows) (extents 0 pieces) e)))
    (λ e is. got-each pieces rows e is.size) (extents 0 pieces) (extents-between 0 pieces)))

-- ---- The frames whose fate is got, item by item and piece by piece.
abbrev pub frames_of : List Extent → List (List ℕ)
frames_of extents = map (λ (e : Extent). e.frame) extents

-- the frame that an item is, where it is one and isn't refused
abbrev pub accepts : Leg → Numbered → List (List ℕ)
accepts leg item = frame_by (refusal_at leg item) item.item.kind

-- a place of a list is behind its end, or has an element
abbrev Beyond : List Extent → ℕ → Type 0
Beyond all i = (length all ≤ i) × (slice_get all i ≡ None) × (drop i all ≡ [])

record Within (all : List Extent) (i : ℕ) : Type 0 where
  pub extent : Extent
  pub there : slice_get all i ≡ Some extent
  pub parts : drop i all ≡ extent ∷ drop (suc i) all

where-at : (all : List Extent) (i : ℕ) → Beyond all i ⊎ Within all i
where-at [] zero = inl (omega arith, refl, refl)
where-at [] (suc i) = inl (omega arith, refl, refl)
where-at (e ∷ all) zero = inr (record { extent = e; there = refl; parts = refl })
where-at (e ∷ all) (suc i) =
    elim (where-at all i) [
      | inl end ↦ inl (omega (arith, end.0), end.1, end.2)
      | inr within ↦ inr (record { extent = within.extent; there = within.there; parts = within.parts })
    ]

module _ (leg : Leg) (fate : Extent → Fate) (all : List Extent) where
  abbrev pub gets : Extent → Bool
  gets e = is_got (fate e)

  abbrev pub NotGot : Extent → Type 0
  NotGot e = gets e ≡ false

  -- what became of an accepted frame
  abbrev pub nth : ℕ → Fate
  nth i = fate_if fate (slice_get all i)

  beyond : (i : ℕ) → length all ≤ i → slice_get all i ≡ None
  beyond i late =
      elim (where-at all i) [
        | inl end ↦ end.1
        | inr within ↦ absurd (let few = within-few all i within.extent within.there in omega (arith, late, few))
      ]
    where
      within-few : (xs : List Extent) (i : ℕ) (e : Extent) → slice_get xs i ≡ Some e → i < length xs
      within-few [] zero e there = absurd cc
      within-few [] (suc i) e there = absurd cc
      within-few (x ∷ xs) zero e there = omega arith
      within-few (x ∷ xs) (suc i) e there = let few = within-few xs i e there in omega (arith, few)

  -- frames without a piece aren't got
  abbrev None-got : List Numbered → Type 0
  None-got items = (i : ℕ) → length all ≤ i → got_frames (ended_on leg nth items i) ≡ []

  then-none : (item : Numbered) (why : Option Refusal) (kind : ItemKind) (items : List Numbered) (i : ℕ) →
      length all ≤ i → None-got items →
      got_frames (ended_then nth item why kind i (ended_on leg nth items)) ≡ []
  then-none item (Some why) (Frame octets) items i late none = none i late
  then-none item None (Frame octets) items i late none = rw (beyond i late) (none (suc i) (omega (arith, late)))
  then-none item (Some why) (Add line) items i late none = none i late
  then-none item None (Add line) items i late none = none i late
  then-none item (Some why) (Remove line) items i late none = none i late
  then-none item None (Remove line) items i late none = none i late

  none-got : (items : List Numbered) → None-got items
  unfolding ended_on
  none-got [] i late = refl
  none-got (item ∷ items) i late = then-none item (refusal_at leg item) item.item.kind items i late (none-got items)

  -- the frames of extents are accepted ones, then come those that wait, and of the extents behind the items' own none
  -- is got
  pub record Fits (extents : List Extent) (own : List (List ℕ)) : Type 0 where
    pub waiting : List (List ℕ)
    pub later : List (List ℕ)
    pub frames : frames_of extents ++ waiting ≡ own ++ later
    pub none : All NotGot (drop (length own) extents)

  front-got : (item : Numbered) (octets : List ℕ) (e : Extent) (extents : List Extent) (others : List Ended) →
      e.frame ≡ octets → got_frames others ≡ frames_of (filter gets extents) →
      got_frames (ended_by item octets (accepted (fate e)) ∷ others) ≡ frames_of (filter gets (e ∷ extents))
  front-got item octets e extents others same rest =
      elim (cases_Bool (gets e)) [
        | inl is ↦ rw is (ap (λ l. octets ∷ l) rest ∙ ap (λ l. l ∷ frames_of (filter gets extents)) (sym same))
        | inr isnt ↦ rw isnt rest
      ]

  abbrev Rest : List Numbered → Type 0
  Rest items = (i : ℕ) → Fits (drop i all) (flat_map (accepts leg) items) →
      got_frames (ended_on leg nth items i) ≡ frames_of (filter gets (drop i all))

  next-got : (item : Numbered) (octets : List ℕ) (items : List Numbered) (i : ℕ) → Rest items →
      (within : Within all i) →
      Fits (within.extent ∷ drop (suc i) all) (octets ∷ flat_map (accepts leg) items) →
      got_frames (ended_by item octets (accepted (nth i)) ∷ ended_on leg nth items (suc i)) ≡ frames_of
      (filter gets (within.extent ∷ drop (suc i) all))
  next-got item octets items i rest within fits =
      ap (λ found. got_frames (ended_by item octets (accepted (fate_if fate found)) ∷ ended_on leg nth items
      (suc i))) within.there
      ∙ front-got item octets within.extent (drop (suc i) all) (ended_on leg nth items (suc i))
      (let same = fits.frames in cc)
      (rest (suc i) (record {
        waiting = fits.waiting;
        later = fits.later;
        frames = (let same = fits.frames in cc);
        none = fits.none;
      }))

  then-got : (item : Numbered) (why : Option Refusal) (kind : ItemKind) (items : List Numbered) (i : ℕ) → Rest items →
      Fits (drop i all) (frame_by why kind ++ flat_map (accepts leg) items) →
      got_frames (ended_then nth item why kind i (ended_on leg nth items)) ≡ frames_of (filter gets (drop i all))
  then-got item (Some why) (Frame octets) items i rest fits = rest i fits
  then-got item None (Frame octets) items i rest fits =
      elim (where-at all i) [
        | inl end ↦ (
            let none : got_frames (ended_on leg nth items (suc i)) ≡ [] =
            none-got items (suc i) (omega (arith, end.0)) in
            ap (λ found. got_frames (ended_by item octets (accepted (fate_if fate found)) ∷ ended_on leg nth items
            (suc i))) end.1
            ∙ none ∙ sym (ap (λ l. frames_of (filter gets l)) end.2))
        | inr within ↦
            next-got item octets items i rest within
            (subst (λ l. Fits l (octets ∷ flat_map (accepts leg) items)) within.parts fits)
            ∙ sym (ap (λ l. frames_of (filter gets l)) within.parts)
      ]
  then-got item (Some why) (Add line) items i rest fits = rest i fits
  then-got item None (Add line) items i rest fits = rest i fits
  then-got item (Some why) (Remove line) items i rest fits = rest i fits
  then-got item None (Remove line) items i rest fits = rest i fits

  pub got-ended : (items : List Numbered) → Rest items
  unfolding ended_on
  got-ended [] i fits = sym (ap frames_of (filter-none gets (drop i all) fits.none))
  got-ended (item ∷ items) i fits = then-got item (refusal_at leg item) item.item.kind items i (got-ended items) fits

-- ---- Of the frames that the rows of a walk carry, each is one of an item that has landed.
-- ---- the accepted frames of the items that have landed
take-client : (a due : ℕ) (kind : ItemKind) (more : List DueFrame) → is_client kind ≡ true →
    take (suc a) (offer_of due kind ++ more) ≡ offer_of due kind ++ take a more
take-client a due (Frame octets) more is = refl
take-client a due (Add line) more is = absurd cc
take-client a due (Remove line) more is = absurd cc

no-offer : (due : ℕ) (kind : ItemKind) → is_client kind ≡ false → offer_of due kind ≡ []
no-offer due (Frame octets) is = absurd cc
no-offer due (Add line) is = refl
no-offer due (Remove line) is = refl

no-frame : (why : Option Refusal) (kind : ItemKind) → is_client kind ≡ false → frame_by why kind ≡ []
no-frame why (Frame octets) is = absurd cc
no-frame why (Add line) is = no-frame-add why line
no-frame why (Remove line) is = no-frame-remove why line

with-none : (there : Bool) (leg : Leg) (item : Numbered) (items : List Numbered) → accepts leg item ≡ [] →
    flat_map (accepts leg) (with_if there item items) ≡ flat_map (accepts leg) items
with-none true leg item items none = ap (λ l. l ++ flat_map (accepts leg) items) none
with-none false leg item items none = refl

module _ (leg : Leg) where
  abbrev scenario : Scenario
  scenario = scenario_by leg

  abbrev cells : List (Option Told)
  cells = session_cells (scenario_by leg)

  judged-nil : (before : List DueFrame) → judged scenario cells before [] ≡ []
  unfolding judged
  judged-nil before = refl

  landed-accepts : (rest front : List Item) (a b : ℕ) → leg.items ≡ front ++ rest →
      flat_map (accepts leg) (landed_from a b (length front) rest) ≡ judged scenario cells (offers_of front)
      (take a (offers_of rest))
  unfolding landed_from
  landed-accepts [] front a b parts =
      sym (ap (judged scenario cells (offers_of front)) (nil a) ∙ judged-nil (offers_of front))
    where
      nil : (a : ℕ) → take a (offers_of []) ≡ []
      nil zero = refl
      nil (suc a) = refl
  landed-accepts (item ∷ rest) front a b parts =
      let longer : leg.items ≡ (front ++ item ∷ []) ++ rest = parts ∙ sym (append_assoc front (item ∷ []) rest) in
      let size : length (front ++ item ∷ []) ≡ suc (length front) = let e = length-append front (item ∷ []) in
      omega arith in
      let offers : offers_of (front ++ item ∷ []) ≡ offers_of front ++ offers_by item =
      flat_map-append offers_by front (item ∷ [])
      ∙ ap (λ l. offers_of front ++ l) (append-nil (offers_by item)) in
      let first : take (length front) leg.items ≡ front = ap (take (length front)) parts
      ∙ take_at front (item ∷ rest) (length front) refl in
      let next : (a b : ℕ) → flat_map (accepts leg) (landed_from a b (suc (length front)) rest)
      ≡ judged scenario cells (offers_of front ++ offers_by item) (take a (offers_of rest)) =
      λ a b. ap (λ n. flat_map (accepts leg) (landed_from a b n rest)) (sym size)
      ∙ landed-accepts rest (front ++ item ∷ []) a b longer
      ∙ ap (λ before. judged scenario cells before (take a (offers_of rest))) offers in
      elim (cases_Bool (is_client item.kind)) [
        | inl e ↦ rw e (clients a first next e)
        | inr e ↦ rw e
            (with-none (nat_lt 0 b) leg (record { number = length front; item = item })
            (landed_from a (b - 1) (suc (length front)) rest) (no-frame _ item.kind e)
            ∙ next a (b - 1)
            ∙ ap (λ own. judged scenario cells (offers_of front ++ own) (take a (offers_of rest)))
            (no-offer item.due item.kind e)
            ∙ ap₂ (λ before offers. judged scenario cells before (take a offers)) (append-nil (offers_of front))
            (ap (λ own. own ++ offers_of rest) (sym (no-offer item.due item.kind e))))
      ]
    where
      clients : (a : ℕ) → take (length front) leg.items ≡ front →
          ((a b : ℕ) → flat_map (accepts leg) (landed_from a b (suc (length front)) rest) ≡ judged scenario cells
          (offers_of front ++ offers_by item) (take a (offers_of rest))) → is_client item.kind ≡ true →
          flat_map (accepts leg) (with_if (nat_lt 0 a) (record { number = length front; item = item })
          (landed_from (a - 1) b (suc (length front)) rest))
          ≡ judged scenario cells (offers_of front) (take a (offers_by item ++ offers_of rest))
      clients zero first next e =
          let less : 0 - 1 ≡ 0 = omega arith in
          ap (λ a. flat_map (accepts leg) (landed_from a b (suc (length front)) rest)) less
          ∙ next 0 b ∙ judged-nil (offers_of front ++ offers_by item) ∙ sym (judged-nil (offers_of front))
      clients (suc a) first next e =
          let less : suc a - 1 ≡ a = omega arith in
          let some : nat_lt 0 (suc a) ≡ true = lt-ltb 0 (suc a) (omega arith) in
          ap (λ there. flat_map (accepts leg)
          (with_if there (record { number = length front; item = item })
          (landed_from (suc a - 1) b (suc (length front)) rest))) some
          ∙ ap₂ ◌++◌ (ap (λ earlier. frame_by (kind_refusal scenario cells item.due earlier item.kind) item.kind) first)
          (ap (λ a. flat_map (accepts leg) (landed_from a b (suc (length front)) rest)) less ∙ next a b)
          ∙ kind-judged scenario cells item.due front item.kind (take a (offers_of rest))
          ∙ ap (judged scenario cells (offers_of front)) (sym (take-client a item.due item.kind (offers_of rest) e))

  all-accepts : accepted_frames leg ≡ judged scenario cells [] (offers_of leg.items)
  unfolding numbered
  all-accepts = items-judged leg leg.items [] refl

  -- ---- they are the first ones of all
  pub landed-first : (a b : ℕ) → (later : List (List ℕ)) ×
      (accepted_frames leg ≡ flat_map (accepts leg) (landed_from a b 0 leg.items) ++ later)
  landed-first a b =
      let offers : List DueFrame = offers_of leg.items in (
        judged scenario cells (take a offers) (drop a offers),
        all-accepts ∙ ap (judged scenario cells []) (sym (take-append-drop a offers))
            ∙ judged-append scenario cells [] (take a offers) (drop a offers)
            ∙ ap (λ l. l ++ judged scenario cells (take a offers) (drop a offers))
            (sym (landed-accepts leg.items [] a b refl)),
      )

-- ---- offers that come before a tick are the first ones

late-rest : (t : ℕ) (x : DueFrame) (xs : List DueFrame) → IsNonDecreasingBy (λ (offer : DueFrame). offer.due) (x ∷ xs) →
    t ≤ x.due → filter (is_come t) xs ≡ []
late-rest t x [] sorted late = refl
late-rest t x (y ∷ xs) sorted late =
    let next : x.due ≤ y.due = sorted zero (suc zero) x (omega arith) (omega arith) in
    let later : t ≤ y.due = omega (arith, late, next) in
    filter-skip (is_come t) y xs (le-ltb y.due t later)
    ∙ late-rest t y xs (rest-sorted (λ (offer : DueFrame). offer.due) x (y ∷ xs) sorted) later

come-first : (t : ℕ) (xs : List DueFrame) → IsNonDecreasingBy (λ (offer : DueFrame). offer.due) xs →
    (more : List DueFrame) × (xs ≡ filter (is_come t) xs ++ more)
come-first t [] sorted = ([], refl)
come-first t (x ∷ xs) sorted =
    elim (cases_Bool (is_come t x)) [
      | inl come ↦ (let rest = come-first t xs (rest-sorted (λ (offer : DueFrame). offer.due) x xs sorted) in
          (rest.0, rw come (ap (λ l. x ∷ l) rest.1)))
      | inr late ↦ (x ∷ xs, (let none = late-rest t x xs sorted (ltb-false x.due t late) in rw (late, none) refl))
    ]

take-over : {X : Type 0} (a : ℕ) (front more : List X) → length front ≤ a → (rest : List X) ×
    (take a (front ++ more) ≡ front ++ rest)
take-over a [] more enough = (take a more, refl)
take-over zero (x ∷ front) more enough = absurd (omega (arith, enough))
take-over (suc a) (x ∷ front) more enough =
    let rest = take-over a front more (omega (arith, enough)) in (rest.0, ap (λ l. x ∷ l) rest.1)

-- ---- the frames that are accepted before a tick that is made are those of items that have landed
pub before-few : (leg : Leg) (s : Counts) (t : ℕ) → IsSound leg → IsWalked leg s → t ≤ s.ticks →
    length (frames_before (scenario_by leg) (session_cells (scenario_by leg)) t) ≤ length
    (flat_map (accepts leg) (landed_items leg s))
before-few leg s t sound walked low =
    let offers : List DueFrame = offers_of leg.items in
    let come : List DueFrame = filter (is_come t) offers in
    let sorted = offers_rise leg.items sound.items.frames in
    let before : frames_before (scenario_by leg) (session_cells (scenario_by leg)) t ≡ judged (scenario_by leg)
    (session_cells (scenario_by leg)) [] come =
    sym (landed-judged (scenario_by leg) (session_cells (scenario_by leg)) t)
    ∙ ap (judged (scenario_by leg) (session_cells (scenario_by leg)) []) (offers_land offers t sorted) in
    let same : filter (is_come t) (take s.frames offers) ≡ come =
    filter-first (is_come t) s.frames offers
    (λ k offer waits there. let late = frame-waits leg s k offer walked waits there in
    le-ltb offer.due t (omega (arith, late, low))) in
    let few : length come ≤ s.frames =
    omega (arith, ap length same, filter-few (is_come t) (take s.frames offers), take-few s.frames offers) in
    let first = come-first t offers sorted in
    let over = take-over s.frames come first.0 few in
    let own : flat_map (accepts leg) (landed_items leg s) ≡ judged (scenario_by leg)
    (session_cells (scenario_by leg)) [] come ++ judged (scenario_by leg)
    (session_cells (scenario_by leg)) come over.0 =
    landed-accepts leg leg.items [] s.frames s.commands refl
    ∙ ap (λ l. judged (scenario_by leg) (session_cells (scenario_by leg)) [] (take s.frames l)) first.1
    ∙ ap (judged (scenario_by leg) (session_cells (scenario_by leg)) []) over.1
    ∙ judged-append (scenario_by leg) (session_cells (scenario_by leg)) [] come over.0 in
    omega (
      arith,
      ap length before,
      ap length own,
      length-append (judged (scenario_by leg) (session_cells (scenario_by leg)) [] come)
          (judged (scenario_by leg) (session_cells (scenario_by leg)) come over.0),
    )

-- ---- After a walk, the frames whose fate is got are those that are delivered, where all marks are true.
-- ---- marks
module _ (leg : Leg) (s : Counts) (sound : IsSound leg) (walked : IsWalked leg s) where
  rows-low : s.rows ≤ leg.config.ticks
  rows-low = let (low, high) = counts-within leg s (sound-walks leg sound) walked in omega arith

  carries : CarriesStream (session_rows leg s.rows) (session_pieces leg)
  carries = rows-carry (scenario_by leg) (session_cells (scenario_by leg)) s.rows leg.config.ticks rows-low

  pub starts-decided : (are_true_marks (session_pieces leg) (session_rows leg s.rows) ≡ true →
      ConfirmsTrue leg s.rows) × (ConfirmsTrue leg s.rows →
      are_true_marks (session_pieces leg) (session_rows leg s.rows) ≡ true)
  starts-decided = (
    marks-starts (session_pieces leg) (session_rows leg s.rows),
    starts-marks (session_pieces leg) (session_rows leg s.rows) carries,
  )

  -- ---- frames
  abbrev fate : Extent → Fate
  fate e = fate_of (session_pieces leg) (session_rows leg s.rows) e

  -- a frame that begins where the rows have ended isn't got
  not-got : (e : Extent) → place_of (scenario_by leg) (session_cells (scenario_by leg)) s.rows ≤ e.from →
      e.from < e.to → is_got (fate e) ≡ false
  not-got e late some =
      let size = rows-length (scenario_by leg) (session_cells (scenario_by leg)) s.rows leg.config.ticks
      rows-low in
      let past : is_carried (length (octets_of_rows (session_rows leg s.rows))) e ≡ false =
      lt-leb e.to (length (octets_of_rows (session_rows leg s.rows))) (omega (arith, size, late, some)) in
      rw past refl

  drop-over : {X : Type 0} (P : X → Type 0) (k : ℕ) (front back : List X) → length front ≤ k → All P back →
      All P (drop k (front ++ back))
  drop-over P zero [] back enough all = all
  drop-over P (suc k) [] [] enough all = all
  drop-over P (suc k) [] (x ∷ back) enough all = drop-over P k [] back (omega arith) (All-tail P x back all)
  drop-over P zero (x ∷ front) back enough all = absurd (omega (arith, enough))
  drop-over P (suc k) (x ∷ front) back enough all = drop-over P k front back (omega (arith, enough)) all

  none-behind : All (NotGot leg fate (session_extents leg))
      (drop (length (flat_map (accepts leg) (landed_items leg s))) (session_extents leg))
  none-behind =
      let scenario : Scenario = scenario_by leg in
      let cells : List (Option Told) = session_cells (scenario_by leg) in
      let front : List Piece = (stream_before scenario cells s.rows).pieces in
      let begins = pieces-begin scenario cells s.rows leg.config.ticks rows-low in
      let start : ℕ = 0 + length (stream_of front) in
      let parts : session_extents leg ≡ extents 0 front ++ extents start begins.0 = ap (extents 0) begins.1
      ∙ extents-append 0 front begins.0 in
      let reaches = stream-reaches scenario cells s.rows in
      let within = counts-within leg s (sound-walks leg sound) walked in
      let count : length (extents 0 front) ≡ length (frames_in front) =
      sym (length-map (extents 0 front) (λ (e : Extent). e.frame)) ∙ ap length (frames-extents 0 front) in
      let few : length (extents 0 front) ≤ length (flat_map (accepts leg) (landed_items leg s)) =
      omega (
        arith,
        count,
        ap length (stream_before-frames scenario cells s.rows),
        length-append (frames_in front) (stream_before scenario cells s.rows).waiting,
        before-few leg s s.rows sound walked within.0,
      ) in
      subst (λ l. All (NotGot leg fate (session_extents leg))
      (drop (length (flat_map (accepts leg) (landed_items leg s))) l)) (sym parts)
      (drop-over (NotGot leg fate (session_extents leg))
      (length (flat_map (accepts leg) (landed_items leg s))) (extents 0 front) (extents start begins.0) few
      (All-weaker (IsBetween start (start + length (stream_of begins.0))) (NotGot leg fate (session_extents leg))
      (λ e is. not-got e (omega (arith, is.lower, reaches)) is.size) (extents start begins.0)
      (extents-between start begins.0)))

  fits : Fits leg fate (session_extents leg) (session_extents leg)
      (flat_map (accepts leg) (landed_items leg s))
  fits =
      let first = landed-first leg s.frames s.commands in
      record {
        waiting = session_waiting leg;
        later = first.0;
        frames = frames-known leg sound ∙ first.1;
        none = none-behind;
      }

  pub got-delivered : are_true_marks (session_pieces leg) (session_rows leg s.rows) ≡ true →
      got_frames (ended_of leg s) ≡ delivered_of leg s.rows
  got-delivered marks =
      got-ended leg fate (session_extents leg) (landed_items leg s) 0 fits
      ∙ got-kept (session_pieces leg) (session_rows leg s.rows)
      ∙ sym (frames-kept leg s.rows sound rows-low (starts-decided.0 marks))
