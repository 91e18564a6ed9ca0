-- The frames of a walk in the order of due ticks and of rows, and lists with a rising key, divided at a number.
use Rattle.std.proofs.Common.{◌≡◌, ℕ, zero, suc, ◌+◌, ◌-◌, ◌≤◌, ◌&&◌, min, nat_le, nat_lt, Bool, true, false, List, []}
use Rattle.std.proofs.Common.{◌∷◌, length, filter, take, drop, refl, sym, ◌∙◌, ap, ap₂, arith, inl, inr, length-take}
use Rattle.std.proofs.Common.{◌<◌, ◌++◌, get_or, Option, Some, None, slice_get, subst, lt-ltb, le-ltb, option_to_list}
use Rattle.std.proofs.lemmas.List.{drop-take, drop_all}
use Rattle.std.specs.List.Sorted.{IsPartitionPoint, IsNonDecreasing, IsNonDecreasingBy}
use Rattle.std.proofs.lemmas.Bool.{cases_lt, le-leb, lt-leb, ltb-true, ltb-false, cases_Bool}
use Rattle.law_loss.proofs.ClientFrameExtentLaws.{and_false}
use Rattle.law_model.specs.Common.{Leg, Counts, Due, dues_of, due_of, frame_dues, IsSound, Piece, StreamRow}
use Rattle.law_model.specs.Common.{octets_of_rows, Extent, extents, size}
use Rattle.law_model.specs.declared.item_refusals.Refusal.{Refusal}
use Rattle.law_model.specs.declared.script_types.Item.{Item}
use Rattle.law_model.specs.declared.script_types.ItemKind.{ItemKind}
use Rattle.law_model.specs.declared.script_types.ItemKind.TheVariants.{Frame, Add, Remove}
use Rattle.std.specs.List.{list_any}
use Rattle.fate_engine.proofs.FrameFateAndPieceLaws.{place-grows}
use Rattle.law_model.proofs.ListLaws.{rest-in_order}
use Rattle.law_walk.specs.Common.{session_rows, session_pieces, Numbered, is_client, with_if, landed_from}
use Rattle.law_walk.specs.Common.{landed_items, refusal_at}
use Rattle.fate_engine.specs.Common.{row_at, spoiled_from, spoiled_after, is_settled_by, fate_after, fate_of}
use Rattle.fate_engine.specs.Common.{row_segments, mark_of_row, fate_by_rows, sides, End, refused, accepted, Ended}
use Rattle.fate_engine.specs.Common.{ended_then, ended_on, ended_of, fate_if, fate_at}
use Rattle.fate_engine.specs.declared.fate_law.Fate.{Fate}
use Rattle.fate_engine.specs.fate_core.FrameSides.{AreInOrder}
use Rattle.fate_engine.proofs.FrameRowAndSegmentLaws.{row-of_place, fate-rows}
use Rattle.fate_engine.proofs.RulerAndFrameSideLaws.{order-of}
use Rattle.fate_walks.specs.walk_fates.MadeWalk.{fates_in}
use Rattle.fate_walks.proofs.FatesAndSeenRowsLaws.{with-skips, landed-client, landed-other}
use Rattle.fate_service.specs.declared.landed_frames.OfferedFrame.{OfferedFrame}
use Rattle.fate_service.specs.declared.landed_frames.CarriedFrame.{CarriedFrame}
use Rattle.fate_service.specs.FrameColumns.{offered_of, due_if, accepted_of, carried_if, carried_of}

-- ---- Lists in the order of a key, divided at numbers.
abbrev pub Point : {X : Type 0} → (X → Bool) → List X → ℕ → Type 0
Point {X} p xs i = IsPartitionPoint (λ (x : X). p x ≡ true) (λ (x : X). p x ≡ false) xs i

pub point-rest : {X : Type 0} (p : X → Bool) (x : X) (xs : List X) (i : ℕ) → Point p (x ∷ xs) (suc i) → Point p xs i
point-rest p x xs i point = (
  (λ k d least low. point.0 (suc k) d (omega arith) (omega (arith, low))),
  (λ k d from low. point.1 (suc k) d (omega (arith, from)) (omega (arith, low))),
)

pub point-none : {X : Type 0} (p : X → Bool) (x : X) (xs : List X) → Point p (x ∷ xs) 0 → Point p xs 0
point-none p x xs point = (
  (λ k d least low. absurd (omega (arith, low))),
  (λ k d from low. point.1 (suc k) d (omega arith) (omega (arith, low))),
)

-- those that pass are the first ones
pub point-count : {X : Type 0} (p : X → Bool) (xs : List X) (i : ℕ) → i ≤ length xs → Point p xs i →
    i ≡ length (filter p xs)
point-count p [] i low point = omega (arith, low)
point-count p (x ∷ xs) zero low point =
    rw (point.1 0 x (omega arith) (omega arith)) (point-count p xs zero (omega arith) (point-none p x xs point))
point-count p (x ∷ xs) (suc i) low point =
    let rest = point-count p xs i (omega (arith, low)) (point-rest p x xs i point) in
    rw (point.0 0 x (omega arith) (omega arith)) (omega (arith, rest))

drop-none : {X : Type 0} (n : ℕ) → drop {A = X} n [] ≡ []
drop-none zero = refl
drop-none (suc n) = refl

-- those of a key between two numbers lie between the two points
module _ {X : Type 0} (key : X → ℕ) (first end : ℕ) where
  abbrev pub is_within : X → Bool
  is_within x = nat_le first (key x) && nat_lt (key x) end

  not-yet : (x : X) → nat_lt (key x) first ≡ true → is_within x ≡ false
  not-yet x is = ap (λ b. b && nat_lt (key x) end) (lt-leb first (key x) (ltb-true (key x) first is))

  no-more : (x : X) → nat_lt (key x) end ≡ false → is_within x ≡ false
  no-more x is = ap (λ b. nat_le first (key x) && b) is ∙ and_false (nat_le first (key x))

  here : (x : X) → nat_lt (key x) first ≡ false → nat_lt (key x) end ≡ true → is_within x ≡ true
  here x late early = ap₂ ◌&&◌ (le-leb first (key x) (ltb-false (key x) first late)) early

  pub within-part : (xs : List X) (from to : ℕ) → Point (λ x. nat_lt (key x) first) xs from →
      Point (λ x. nat_lt (key x) end) xs to → filter is_within xs ≡ drop from (take to xs)
  within-part [] from zero one two = sym (drop-none from)
  within-part [] from (suc to) one two = sym (drop-none from)
  within-part (x ∷ xs) zero zero one two =
      rw (no-more x (two.1 0 x (omega arith) (omega arith)))
      (within-part xs zero zero (point-none (λ x. nat_lt (key x) first) x xs one)
      (point-none (λ x. nat_lt (key x) end) x xs two))
  within-part (x ∷ xs) zero (suc to) one two =
      rw (here x (one.1 0 x (omega arith) (omega arith)) (two.0 0 x (omega arith) (omega arith)))
      (ap (λ l. x ∷ l) (within-part xs zero to (point-none (λ x. nat_lt (key x) first) x xs one)
      (point-rest (λ x. nat_lt (key x) end) x xs to two)))
  within-part (x ∷ xs) (suc from) zero one two =
      rw (not-yet x (one.0 0 x (omega arith) (omega arith)))
      (within-part xs from zero (point-rest (λ x. nat_lt (key x) first) x xs from one)
      (point-none (λ x. nat_lt (key x) end) x xs two) ∙ drop-none from)
  within-part (x ∷ xs) (suc from) (suc to) one two =
      rw (not-yet x (one.0 0 x (omega arith) (omega arith)))
      (within-part xs from to (point-rest (λ x. nat_lt (key x) first) x xs from one)
      (point-rest (λ x. nat_lt (key x) end) x xs to two))

-- the same part, of which no place lies behind its end
drop-least : {X : Type 0} (xs : List X) (from to at : ℕ) → at ≡ min from to →
    drop at (take to xs) ≡ drop from (take to xs)
drop-least {X} xs from to at is =
    let size = length-take to xs in
    elim (cases_lt to from) [
      | inl less ↦ drop_all at (take to xs) (omega (arith, is, less, size))
          ∙ sym (drop_all from (take to xs) (omega (arith, less, size)))
      | inr fine ↦ ap (λ n. drop n (take to xs)) (let e : at ≡ from = omega (arith, is, fine) in e)
    ]

pub part-at : {X : Type 0} (xs : List X) (from to at : ℕ) → at ≡ min from to →
    take (to - at) (drop at xs) ≡ drop from (take to xs)
part-at xs from to at is =
    sym (drop-take at (to - at) xs)
    ∙ ap (λ n. drop at (take n xs)) (let e : at + (to - at) ≡ to = omega (arith, is) in e)
    ∙ drop-least xs from to at is

-- ---- The frames of a walk lie in the order of their due ticks, and those that the rows carry in that of their rows.
-- ---- a key that never falls
unfoldable pub Rises : {X : Type 0} → (X → ℕ) → ℕ → List X → Type 0
Rises key from [] = Unit {0}
Rises key from (x ∷ xs) = (from ≤ key x) × Rises key (key x) xs

rises-less : {X : Type 0} (key : X → ℕ) (from low : ℕ) (xs : List X) → low ≤ from → Rises key from xs →
    Rises key low xs
unfolding Rises
rises-less key from low [] less rises = tt
rises-less key from low (x ∷ xs) less rises = ((let a = rises.0 in omega (arith, a, less)), rises.1)

rises-from : {X : Type 0} (key : X → ℕ) (from : ℕ) (xs : List X) (j : ℕ) (d : X) → Rises key from xs →
    j < length xs → from ≤ key (get_or xs j d)
unfolding Rises
rises-from key from [] j d rises low = absurd (omega (arith, low))
rises-from key from (x ∷ xs) zero d rises low = rises.0
rises-from key from (x ∷ xs) (suc j) d rises low =
    let a = rises.0 in omega (arith, a, rises-from key (key x) xs j d rises.1 (omega (arith, low)))

pub rises-ordered : {X : Type 0} (key : X → ℕ) (from : ℕ) (xs : List X) → Rises key from xs →
    IsNonDecreasingBy key xs
unfolding Rises
rises-ordered key from [] rises i j d low within = absurd (omega (arith, within))
rises-ordered key from (x ∷ xs) rises zero zero d low within = omega arith
rises-ordered key from (x ∷ xs) rises zero (suc j) d low within =
    rises-from key (key x) xs j d rises.1 (omega (arith, within))
rises-ordered key from (x ∷ xs) rises (suc i) zero d low within = absurd (omega (arith, low))
rises-ordered key from (x ∷ xs) rises (suc i) (suc j) d low within =
    rises-ordered key (key x) xs rises.1 i j d (omega (arith, low)) (omega (arith, within))

ordered-rises : (from : ℕ) (xs : List ℕ) → IsNonDecreasing xs →
    ((d : ℕ) → 0 < length xs → from ≤ get_or xs 0 d) → Rises (λ n. n) from xs
unfolding Rises
ordered-rises from [] order first = tt
ordered-rises from (x ∷ xs) order first = (
  first 0 (omega arith),
  ordered-rises x xs (rest-in_order x xs order) (λ d some. order 0 1 d (omega arith) (omega (arith, some))),
)

-- ---- due ticks
client-dues : (kind : ItemKind) (due : ℕ) (rest : List Due) (from : ℕ) → is_client kind ≡ true →
    Rises (λ n. n) from (frame_dues (due_of due kind ∷ rest)) → (from ≤ due) × Rises (λ n. n) due (frame_dues rest)
unfolding Rises frame_dues
client-dues (Frame octets) due rest from is rises = rises
client-dues (Add line) due rest from is rises = absurd (let e : false ≡ true = is in cc)
client-dues (Remove line) due rest from is rises = absurd (let e : false ≡ true = is in cc)

other-dues : (kind : ItemKind) (due : ℕ) (rest : List Due) (from : ℕ) → is_client kind ≡ false →
    Rises (λ n. n) from (frame_dues (due_of due kind ∷ rest)) → Rises (λ n. n) from (frame_dues rest)
unfolding frame_dues
other-dues (Frame octets) due rest from is rises = absurd (let e : true ≡ false = is in cc)
other-dues (Add line) due rest from is rises = rises
other-dues (Remove line) due rest from is rises = rises

module _ (leg : Leg) (fate : ℕ → Fate) where
  abbrev due_key : Ended → ℕ
  due_key ended = ended.due

  then-rises : (item : Numbered) (why : Option Refusal) (kind : ItemKind) (from n : ℕ) (others : ℕ → List Ended) →
      from ≤ item.item.due → ((m : ℕ) → Rises due_key item.item.due (others m)) →
      Rises due_key from (ended_then fate item why kind n others)
  unfolding Rises
  then-rises item None (Frame octets) from n others low later = (low, later (suc n))
  then-rises item (Some why) (Frame octets) from n others low later = (low, later n)
  then-rises item None (Add line) from n others low later =
      rises-less due_key item.item.due from (others n) low (later n)
  then-rises item (Some why) (Add line) from n others low later =
      rises-less due_key item.item.due from (others n) low (later n)
  then-rises item None (Remove line) from n others low later =
      rises-less due_key item.item.due from (others n) low (later n)
  then-rises item (Some why) (Remove line) from n others low later =
      rises-less due_key item.item.due from (others n) low (later n)

  with-rises : (there : Bool) (own : Numbered) (rest : List Numbered) (from n : ℕ) → from ≤ own.item.due →
      ((m : ℕ) → Rises due_key own.item.due (ended_on leg fate rest m)) →
      Rises due_key from (ended_on leg fate (with_if there own rest) n)
  unfolding ended_on
  with-rises true own rest from n low later =
      then-rises own (refusal_at leg own) own.item.kind from n (ended_on leg fate rest) low later
  with-rises false own rest from n low later =
      rises-less due_key own.item.due from (ended_on leg fate rest n) low (later n)

  ended-rises : (items : List Item) (from a b k n : ℕ) → Rises (λ n. n) from (frame_dues (dues_of items)) →
      Rises due_key from (ended_on leg fate (landed_from a b k items) n)
  unfolding Rises ended_on landed_from
  ended-rises [] from a b k n rises = tt
  ended-rises (item ∷ items) from a b k n rises =
      let own : Numbered = record { number = k; item = item } in
      elim (cases_Bool (is_client item.kind)) [
        | inl client ↦
            let parts = client-dues item.kind item.due (dues_of items) from client rises in
            subst (λ l. Rises due_key from (ended_on leg fate l n))
            (sym (landed-client leg fate a b k item items client))
            (with-rises (nat_lt 0 a) own (landed_from (a - 1) b (suc k) items) from n parts.0
            (λ m. ended-rises items item.due (a - 1) b (suc k) m parts.1))
        | inr other ↦
            let rest = landed_from a (b - 1) (suc k) items in
            subst (λ l. Rises due_key from (ended_on leg fate l n))
            (sym (landed-other leg fate a b k item items other))
            (subst (Rises due_key from) (sym (with-skips leg fate (nat_lt 0 b) own rest n other))
            (ended-rises items from a (b - 1) (suc k) n
            (other-dues item.kind item.due (dues_of items) from other rises)))
      ]

pub frames-rise : (leg : Leg) (s : Counts) → IsSound leg → Rises (λ (e : Ended). e.due) 0 (ended_of leg s)
frames-rise leg s sound =
    ended-rises leg (fates_in leg s.rows) leg.items 0 s.frames s.commands 0 0
    (ordered-rises 0 (frame_dues (dues_of leg.items)) sound.items.frames (λ d some. omega arith))

offered-rises : (from : ℕ) (all : List Ended) → Rises (λ (e : Ended). e.due) from all →
    Rises (λ (f : OfferedFrame). f.due) from (offered_of all)
unfolding Rises
offered-rises from [] rises = tt
offered-rises from (e ∷ all) rises = (rises.0, offered-rises e.due all rises.1)

accepted-rises : (from : ℕ) (all : List Ended) → Rises (λ (e : Ended). e.due) from all →
    Rises (λ n. n) from (accepted_of all)
unfolding Rises
accepted-rises from [] rises = tt
accepted-rises from (e ∷ all) rises =
    one e.end (accepted-rises e.due all rises.1)
  where
    one : (end : End) → Rises (λ n. n) e.due (accepted_of all) → Rises (λ n. n) from (due_if e.due end ++ accepted_of all)
    one (refused why) rest = rises-less (λ n. n) e.due from (accepted_of all) rises.0 rest
    one (accepted fate) rest = (rises.0, rest)

pub offered-ordered : (leg : Leg) (s : Counts) → IsSound leg →
    IsNonDecreasingBy (λ (f : OfferedFrame). f.due) (offered_of (ended_of leg s))
offered-ordered leg s sound =
    rises-ordered (λ (f : OfferedFrame). f.due) 0 (offered_of (ended_of leg s))
    (offered-rises 0 (ended_of leg s) (frames-rise leg s sound))

pub accepted-ordered : (leg : Leg) (s : Counts) → IsSound leg → IsNonDecreasing (accepted_of (ended_of leg s))
accepted-ordered leg s sound =
    rises-ordered (λ n. n) 0 (accepted_of (ended_of leg s))
    (accepted-rises 0 (ended_of leg s) (frames-rise leg s sound))

-- ---- rows
-- frames that are carried stand in the order of their rows
unfoldable pub Chains : ℕ → List CarriedFrame → Type 0
Chains from [] = Unit {0}
Chains from (frame ∷ frames) = (from ≤ frame.at) × (frame.at ≤ frame.last) × Chains frame.last frames

chains-at : (from : ℕ) (frames : List CarriedFrame) → Chains from frames →
    Rises (λ (f : CarriedFrame). f.at) from frames
unfolding Chains Rises
chains-at from [] chains = tt
chains-at from (frame ∷ frames) chains = (
  chains.0,
  rises-less (λ (f : CarriedFrame). f.at) frame.last frame.at frames chains.1
      (chains-at frame.last frames chains.2),
)

chains-last : (from : ℕ) (frames : List CarriedFrame) → Chains from frames →
    Rises (λ (f : CarriedFrame). f.last) from frames
unfolding Chains Rises
chains-last from [] chains = tt
chains-last from (frame ∷ frames) chains =
    ((let a = chains.0 in let b = chains.1 in omega (arith, a, b)), chains-last frame.last frames chains.2)

abbrev Above : ℕ → Option CarriedFrame → Type 0
Above from None = Unit {0}
Above from (Some frame) = from ≤ frame.at

module _ (fate : ℕ → Fate) where
  -- from a number on each carried frame is decided in a row or behind it
  abbrev IsLater : ℕ → ℕ → Type 0
  IsLater from n = (j due octets : ℕ) → n ≤ j → Above from (carried_if due octets (fate j))

  abbrev IsStep : Type 0
  IsStep = (i due octets : ℕ) (frame : CarriedFrame) → carried_if due octets (fate i) ≡ Some frame →
      (frame.at ≤ frame.last) × IsLater frame.last (suc i)

  module _ (leg : Leg) (steps : IsStep) where
    chain-one : (o : Option CarriedFrame) (due octets from n : ℕ) (rest : List CarriedFrame) →
        carried_if due octets (fate n) ≡ o → IsLater from n →
        ((low : ℕ) → IsLater low (suc n) → Chains low rest) → Chains from (option_to_list o ++ rest)
    unfolding Chains
    chain-one None due octets from n rest is later others =
        others from (λ j due octets high. later j due octets (omega (arith, high)))
    chain-one (Some frame) due octets from n rest is later others =
        let step = steps n due octets frame is in
        (subst (Above from) is (later n due octets (omega arith)), step.0, others frame.last step.1)

    chain-then : (item : Numbered) (why : Option Refusal) (kind : ItemKind) (from n : ℕ) (others : ℕ → List Ended) →
        IsLater from n → ((low m : ℕ) → IsLater low m → Chains low (carried_of (others m))) →
        Chains from (carried_of (ended_then fate item why kind n others))
    chain-then item None (Frame octets) from n others later rest =
        chain-one (carried_if item.item.due (length octets) (fate n)) item.item.due (length octets) from n
        (carried_of (others (suc n))) refl later (λ low high. rest low (suc n) high)
    chain-then item (Some why) (Frame octets) from n others later rest = rest from n later
    chain-then item None (Add line) from n others later rest = rest from n later
    chain-then item (Some why) (Add line) from n others later rest = rest from n later
    chain-then item None (Remove line) from n others later rest = rest from n later
    chain-then item (Some why) (Remove line) from n others later rest = rest from n later

    chain-on : (items : List Numbered) (from n : ℕ) → IsLater from n →
        Chains from (carried_of (ended_on leg fate items n))
    unfolding Chains ended_on
    chain-on [] from n later = tt
    chain-on (item ∷ items) from n later =
        chain-then item (refusal_at leg item) item.item.kind from n (ended_on leg fate items) later
        (λ low m high. chain-on items low m high)

-- ---- places and rows
pub row-order : (rows : List StreamRow) (p q : ℕ) → p ≤ q → q < length (octets_of_rows rows) →
    row_at rows p ≤ row_at rows q
row-order rows p q low within =
    elim (cases_lt (row_at rows q) (row_at rows p)) [
      | inr fine ↦ fine
      | inl less ↦
          let two = (row-of_place rows q within).below in
          let up = place-grows rows (suc (row_at rows q)) (row_at rows p) (omega (arith, less)) in
          absurd (omega (arith, (row-of_place rows p (omega (arith, low, within))).from, two, up, low))
    ]

spoiled-up : (t : ℕ) (rows : List StreamRow) → t ≤ spoiled_from t rows
unfolding spoiled_from
spoiled-up t [] = omega arith
spoiled-up t (row ∷ rows) =
    elim (cases_Bool row.whole) [
      | inl whole ↦ rw whole (let rest = spoiled-up (suc t) rows in omega (arith, rest))
      | inr lost ↦ rw lost (omega arith)
    ]

-- ---- the rows of a frame
module _ (pieces : List Piece) (rows : List StreamRow) where
  abbrev pub HasRows : Extent → Option CarriedFrame → Type 0
  HasRows e None = Unit {0}
  HasRows e (Some frame) = (e.to ≤ length (octets_of_rows rows)) × (row_at rows e.from ≤ frame.at) ×
      (frame.at ≤ frame.last) × (frame.last ≤ row_at rows (e.to - 1))

  module _ (e : Extent) (due octets : ℕ) (fits : e.to ≤ length (octets_of_rows rows))
      (low : row_at rows e.from ≤ row_at rows (e.to - 1)) where
    abbrev r : ℕ
    r = row_at rows e.from

    abbrev q : ℕ
    q = row_at rows (e.to - 1)

    has-after : (mark : Option ℕ) →
        HasRows e (carried_if due octets (fate_after mark (extents 0 pieces) e r q))
    has-after None = (fits, omega arith, low, omega arith)
    has-after (Some place) =
        elim (cases_Bool (nat_le place e.from)) [
          | inr hunting ↦ rw hunting (fits, omega arith, low, omega arith)
          | inl behind ↦ rw behind
              (elim (cases_Bool (list_any (is_settled_by place e) (extents 0 pieces))) [
                | inl settled ↦ rw settled (fits, omega arith, low, omega arith)
                | inr isnt ↦ rw isnt (fits, omega arith, low, omega arith)
              ])
        ]

    has-rows : HasRows e (carried_if due octets (fate_by_rows rows (extents 0 pieces) e r q))
    has-rows =
        elim (cases_lt q (spoiled_after rows r)) [
          | inl whole ↦ rw (lt-ltb q (spoiled_after rows r) whole)
              (elim (cases_Bool (nat_lt r (spoiled_after rows 0))) [
                | inl first ↦ rw first (fits, omega arith, low, omega arith)
                | inr later ↦ rw later (has-after (mark_of_row (row_segments rows) r))
              ])
          | inr cut ↦ rw (le-ltb q (spoiled_after rows r) cut)
              (fits, spoiled-up r (drop r rows), cut, omega arith)
        ]

  pub fate-has : (e : Extent) (due octets : ℕ) → e.from < e.to → HasRows e (carried_if due octets (fate_of pieces rows e))
  fate-has e due octets some =
      elim (cases_lt (length (octets_of_rows rows)) e.to) [
        | inl late ↦ rw (lt-leb e.to (length (octets_of_rows rows)) late) tt
        | inr fits ↦
            subst (λ fate. HasRows e (carried_if due octets fate)) (sym (fate-rows pieces rows e some fits))
            (has-rows e due octets fits
            (row-order rows e.from (e.to - 1) (omega (arith, some)) (omega (arith, some, fits))))
      ]

pub side-behind : (from : ℕ) (all : List Extent) (end k : ℕ) (e : Extent) → AreInOrder from (sides all) end →
    slice_get all k ≡ Some e → (from ≤ e.from) × (e.from < e.to)
unfolding AreInOrder
side-behind from [] end k e are there = absurd cc
side-behind from (x ∷ all) end zero e are there = let same : x ≡ e = cc in
    (subst (λ (y : Extent). from ≤ y.from) same are.0, subst (λ (y : Extent). y.from < y.to) same are.1)
side-behind from (x ∷ all) end (suc k) e are there =
    let rest = side-behind x.to all end k e are.2 there in
    ((let a = are.0 in let b = are.1 in let c = rest.0 in omega (arith, a, b, c)), rest.1)

pub sides-apart : (from : ℕ) (all : List Extent) (end i j : ℕ) (a b : Extent) → AreInOrder from (sides all) end →
    i < j → slice_get all i ≡ Some a → slice_get all j ≡ Some b → a.to ≤ b.from
unfolding AreInOrder
sides-apart from [] end i j a b are less here there = absurd cc
sides-apart from (x ∷ all) end i zero a b are less here there = absurd (omega (arith, less))
sides-apart from (x ∷ all) end zero (suc j) a b are less here there = let same : x ≡ a = cc in
    subst (λ (y : Extent). y.to ≤ b.from) same (side-behind x.to all end j b are.2 there).0
sides-apart from (x ∷ all) end (suc i) (suc j) a b are less here there =
    sides-apart x.to all end i j a b are.2 (omega (arith, less)) here there

module _ (pieces : List Piece) (rows : List StreamRow) where
  order : AreInOrder 0 (sides (extents 0 pieces)) (0 + size pieces)
  order = order-of 0 pieces

  above-of : (a : Extent) (o : Option CarriedFrame) (b : Extent) (last : ℕ) → HasRows pieces rows b o →
      a.from < a.to → a.to ≤ b.from → b.from < b.to → last ≤ row_at rows (a.to - 1) → Above last o
  above-of a None b last has own apart other low = tt
  above-of a (Some frame) b last has own apart other low =
      let up = row-order rows (a.to - 1) b.from (omega (arith, own, apart))
      (let fits = has.0 in omega (arith, fits, other)) in
      let at = has.1 in omega (arith, up, at, low)

  later-by : (i j : ℕ) (a : Extent) (o : Option Extent) (due octets last : ℕ) →
      slice_get (extents 0 pieces) i ≡ Some a → slice_get (extents 0 pieces) j ≡ o → i < j →
      last ≤ row_at rows (a.to - 1) → Above last (carried_if due octets (fate_if (fate_of pieces rows) o))
  later-by i j a None due octets last here there less low = tt
  later-by i j a (Some b) due octets last here there less low =
      let own = (side-behind 0 (extents 0 pieces) (0 + size pieces) i a order here).1 in
      let other = (side-behind 0 (extents 0 pieces) (0 + size pieces) j b order there).1 in
      above-of a (carried_if due octets (fate_of pieces rows b)) b last (fate-has pieces rows b due octets other) own
      (sides-apart 0 (extents 0 pieces) (0 + size pieces) i j a b order less here there) other low

  step-by : (i : ℕ) (o : Option Extent) (due octets : ℕ) (frame : CarriedFrame) →
      slice_get (extents 0 pieces) i ≡ o → carried_if due octets (fate_if (fate_of pieces rows) o) ≡ Some frame →
      (frame.at ≤ frame.last) × IsLater (fate_at pieces rows) frame.last (suc i)
  step-by i None due octets frame here is = absurd (let e : None ≡ Some frame = is in cc)
  step-by i (Some a) due octets frame here is =
      let own = (side-behind 0 (extents 0 pieces) (0 + size pieces) i a order here).1 in
      let has : HasRows pieces rows a (Some frame) = subst (HasRows pieces rows a) is
      (fate-has pieces rows a due octets own) in (
        has.2,
        λ j due octets high.
            later-by i j a (slice_get (extents 0 pieces) j) due octets frame.last here refl (omega (arith, high)) has.3,
      )

  steps : IsStep (fate_at pieces rows)
  steps i due octets frame is = step-by i (slice_get (extents 0 pieces) i) due octets frame refl is

above-zero : (o : Option CarriedFrame) → Above 0 o
above-zero None = tt
above-zero (Some frame) = omega arith

carried-chains : (leg : Leg) (s : Counts) → Chains 0 (carried_of (ended_of leg s))
carried-chains leg s =
    chain-on (fates_in leg s.rows) leg (steps (session_pieces leg) (session_rows leg s.rows)) (landed_items leg s) 0 0
    (λ j due octets high. above-zero (carried_if due octets (fates_in leg s.rows j)))

pub at-ordered : (leg : Leg) (s : Counts) →
    IsNonDecreasingBy (λ (f : CarriedFrame). f.at) (carried_of (ended_of leg s))
at-ordered leg s =
    rises-ordered (λ (f : CarriedFrame). f.at) 0 (carried_of (ended_of leg s))
    (chains-at 0 (carried_of (ended_of leg s)) (carried-chains leg s))

pub last-ordered : (leg : Leg) (s : Counts) →
    IsNonDecreasingBy (λ (f : CarriedFrame). f.last) (carried_of (ended_of leg s))
last-ordered leg s =
    rises-ordered (λ (f : CarriedFrame). f.last) 0 (carried_of (ended_of leg s))
    (chains-last 0 (carried_of (ended_of leg s)) (carried-chains leg s))
