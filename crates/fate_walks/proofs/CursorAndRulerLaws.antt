-- A Cursor passes the items that have landed, and the stream and its ruler go on frame by frame, tick by tick.
use Rattle.std.proofs.Common.{◌≡◌, ℕ, zero, suc, ◌+◌, ◌-◌, ◌<◌, ◌≤◌, nat_lt, if◌then◌else◌, Bool, true, false, List}
use Rattle.std.proofs.Common.{[], ◌∷◌, ◌++◌, take, drop, length, All, Option, Some, None, slice_get, get_or, ◌⊎◌, refl}
use Rattle.std.proofs.Common.{sym, ◌∙◌, ap, ap₂, subst, arith, inl, inr, append-nil, length-append, map, filter, fold}
use Rattle.std.proofs.Common.{option_map, ◌^◌, is_some, option_to_list, IfSome, IfNone}
use Rattle.std.proofs.lemmas.Bool.{lt-ltb}
use Rattle.std.proofs.lemmas.List.{take_all, drop_all, map-append}
use Rattle.std.proofs.lemmas.List.Concat.{flat_map-append}
use Rattle.std.proofs.lemmas.List.Elements.{All-nil, All-cons, All-append, All-weaker, filter-append}
use Rattle.std.proofs.lemmas.Option.{slice_get-get_or, slice_get_within}
use Rattle.walk_engine.proofs.OpenedWayLaws.{none-landed}
use Rattle.law_model.proofs.ListLaws.{take-one, drop-next}
use Rattle.law_model.specs.Common.{Leg, offer_of, offers_of, Counts, scenario_by, Scenario, DueFrame, comes_at, Told}
use Rattle.law_model.specs.Common.{extents, Stream, frame_refusal, offered_by, offered, reached, place_of, most_ticks}
use Rattle.law_model.specs.Common.{stream_before, IsSound}
use Rattle.law_model.specs.declared.script_types.Item.{Item}
use Rattle.law_model.specs.declared.script_types.ItemKind.{ItemKind}
use Rattle.law_model.specs.session.Items.{sort_of}
use Rattle.law_model.specs.declared.item_refusals.Refusal.{Refusal}
use Rattle.law_model.specs.declared.script_items.item_list.ItemSort.TheVariants.{Frame as frame_sort}
use Rattle.law_model.specs.declared.script_types.ItemKind.TheVariants.{Frame, Add, Remove}
use Rattle.law_walk.proofs.LandedItemRefusalAndTotalLaws.{frame-waits, filter-first, offer-at}
use Rattle.law_walk.specs.Common.{Numbered, is_client, with_if, landed_from, refused_by, refusal_at, refusals_among}
use Rattle.law_walk.specs.Common.{session_of, stream_met, kind_refusal, IsWalked}
use Rattle.fate_walks.specs.walk_frames.ItemCursor.{Cursor, frames_before_item, frames_left, IsAt, IsNext, IsSkipped}
use Rattle.fate_walks.specs.walk_frames.ItemCursor.{IsPast}
use Rattle.std.proofs.lemmas.Bool.Decides.{nat_tests}
use Rattle.std.proofs.lemmas.List.Sums.{fold-append}
use Rattle.law_model.specs.declared.item_refusals.AcceptFault.{AcceptFault}
use Rattle.fate_engine.specs.Common.{new_ruler, ruler_of, with_waiting, Ruler, ruled}
use Rattle.fate_walks.specs.walk_frames.StreamInTicks.{place_in, stream_in, Between, IsEarly, IsLate}
use Rattle.law_loss.proofs.ItemDueTicksLaws.{offers_rise}
use Rattle.law_model.specs.declared.item_refusals.Refusal.TheVariants.{Frame as frame_fault}
use Rattle.fate_walks.specs.declared.walk_frames.landed_cursor.LandedFrame.{LandedFrame}
use Rattle.law_walk.proofs.WalkPlanAndPoppedCellLaws.{sound-walks}
use Rattle.law_walk.proofs.AcceptedFrameAndDrainedWalkLaws.{counts-within}
use Rattle.law_walk.proofs.DeliveredFrameCountLaws.{place-most}
use Rattle.fate_engine.proofs.RulerAndFrameSideLaws.{reached-ruled}
use Rattle.fate_walks.specs.walk_fates.PacketsAndRuler.{Rules}

-- ---- The items of a leg are passed one after another: frames that have landed, and others.
-- ---- lists
pub drop-one : {X : Type 0} (xs : List X) (i : ℕ) (x : X) → slice_get xs i ≡ Some x → drop i xs ≡ x ∷ drop (i + 1) xs
drop-one xs i x there = drop-next xs i x there ∙ ap (λ n. x ∷ drop n xs) (let e : suc i ≡ i + 1 = omega arith in e)

pub offers-next : (items : List Item) (i : ℕ) (item : Item) → slice_get items i ≡ Some item →
    offers_of (take (i + 1) items) ≡ offers_of (take i items) ++ offer_of item.due item.kind
offers-next items i item there =
    let offer = λ (item : Item). offer_of item.due item.kind in
    ap offers_of (take-one items i item there) ∙ flat_map-append offer (take i items) (item ∷ [])
    ∙ ap (λ l. offers_of (take i items) ++ l) (append-nil (offer item))

-- ---- what has landed of the items from one on
module _ (a b i : ℕ) (item : Item) (items : List Item) where
  pub landed-client : is_client item.kind ≡ true →
      landed_from a b i (item ∷ items) ≡ with_if (nat_lt 0 a) (record { number = i; item = item })
      (landed_from (a - 1) b (suc i) items)
  unfolding landed_from
  landed-client client = rw client refl

  pub landed-frame : is_client item.kind ≡ true → 0 < a →
      landed_from a b i (item ∷ items) ≡ record { number = i; item = item } ∷ landed_from (a - 1) b (suc i) items
  unfolding landed_from
  landed-frame client some = let there = lt-ltb 0 a some in rw (client, there) refl

  pub landed-other : is_client item.kind ≡ false →
      landed_from a b i (item ∷ items) ≡ with_if (nat_lt 0 b) (record { number = i; item = item })
      (landed_from a (b - 1) (suc i) items)
  unfolding landed_from
  landed-other other = rw other refl

refused-late : (i number : ℕ) (why : Option Refusal) → i ≤ number →
    All (λ (refused : ℕ × Refusal). i ≤ refused.0) (refused_by number why)
refused-late i number None low = All-nil (λ (refused : ℕ × Refusal). i ≤ refused.0)
refused-late i number (Some why) low =
    All-cons (λ (refused : ℕ × Refusal). i ≤ refused.0) (number, why) [] low
    (All-nil (λ (refused : ℕ × Refusal). i ≤ refused.0))

abbrev AreLate : Leg → ℕ → List Numbered → Type 0
AreLate leg least items = All (λ (refused : ℕ × Refusal). least ≤ refused.0) (refusals_among leg items)

with-late : (leg : Leg) (least i : ℕ) (item : Item) (there : Bool) (rest : List Numbered) → least ≤ i →
    AreLate leg least rest → AreLate leg least (with_if there (record { number = i; item = item }) rest)
with-late leg least i item true rest low each =
    let why : Option Refusal = refusal_at leg (record { number = i; item = item }) in
    All-append (λ (refused : ℕ × Refusal). least ≤ refused.0) (refused_by i why) (refusals_among leg rest)
    (refused-late least i why low) each
with-late leg least i item false rest low each = each

one-late : (leg : Leg) (least a b i : ℕ) (item : Item) (frames others : List Numbered) (client : Bool) →
    least ≤ i → AreLate leg least frames → AreLate leg least others →
    AreLate leg least (if client then with_if (nat_lt 0 a) (record { number = i; item = item }) frames else with_if
    (nat_lt 0 b) (record { number = i; item = item }) others)
one-late leg least a b i item frames others true low one other =
    with-late leg least i item (nat_lt 0 a) frames low one
one-late leg least a b i item frames others false low one other =
    with-late leg least i item (nat_lt 0 b) others low other

-- refusals from an item on have no lower number
pub refusals-late : (leg : Leg) (least a b i : ℕ) (items : List Item) → least ≤ i →
    AreLate leg least (landed_from a b i items)
unfolding landed_from
refusals-late leg least a b i [] low = All-nil (λ (refused : ℕ × Refusal). least ≤ refused.0)
refusals-late leg least a b i (item ∷ items) low =
    one-late leg least a b i item (landed_from (a - 1) b (suc i) items) (landed_from a (b - 1) (suc i) items)
    (is_client item.kind) low
    (refusals-late leg least (a - 1) b (suc i) items (omega (arith, low)))
    (refusals-late leg least a (b - 1) (suc i) items (omega (arith, low)))

-- ---- one item is passed
module _ (leg : Leg) (s : Counts) (cursor : Cursor) (at : IsAt leg s cursor) (item : Item)
    (there : slice_get leg.items cursor.item ≡ Some item) (some : 0 < cursor.left) where
  abbrev pub own : Numbered
  own = record { number = cursor.item; item = item }

  abbrev behind : List Item
  behind = drop (cursor.item + 1) leg.items

  from-here : (a b : ℕ) → landed_from a b cursor.item (drop cursor.item leg.items) ≡ landed_from a b cursor.item
      (item ∷ behind)
  from-here a b = ap (landed_from a b cursor.item) (drop-one leg.items cursor.item item there)

  numbers : (a b : ℕ) → landed_from a b (suc cursor.item) behind ≡ landed_from a b (cursor.item + 1) behind
  numbers a b = ap (λ n. landed_from a b n behind) (let e : suc cursor.item ≡ cursor.item + 1 = omega arith in e)

  -- what the refusals from here on are, by whether the item is a frame
  pub frame-refusals : is_client item.kind ≡ true →
      cursor.refusals ≡ refused_by cursor.item (refusal_at leg own) ++ refusals_among leg
      (landed_from (cursor.left - 1) at.commands (cursor.item + 1) behind)
  frame-refusals client =
      at.refusals ∙ ap (refusals_among leg)
      (from-here cursor.left at.commands ∙ landed-frame cursor.left at.commands cursor.item item behind client some
      ∙ ap (λ l. own ∷ l) (numbers (cursor.left - 1) at.commands))

  with-refusals : (landed : Bool) (rest : List Numbered) → (why : Option Refusal) ×
      (refusals_among leg (with_if landed own rest) ≡ refused_by cursor.item why ++ refusals_among leg rest)
  with-refusals true rest = (refusal_at leg own, refl)
  with-refusals false rest = (None, refl)

  pub other-refusals : is_client item.kind ≡ false →
      (why : Option Refusal) × (cursor.refusals ≡ refused_by cursor.item why ++ refusals_among leg
      (landed_from cursor.left (at.commands - 1) (cursor.item + 1) behind))
  other-refusals other =
      let parts = with-refusals (nat_lt 0 at.commands)
      (landed_from cursor.left (at.commands - 1) (cursor.item + 1) behind) in (
        parts.0,
        at.refusals ∙ ap (refusals_among leg)
            (from-here cursor.left at.commands ∙ landed-other cursor.left at.commands cursor.item item behind other
            ∙ ap (with_if (nat_lt 0 at.commands) own) (numbers cursor.left (at.commands - 1))) ∙ parts.1,
      )

  pub frame-rest : is_client item.kind ≡ true →
      frames_left leg cursor ≡ own ∷ landed_from (cursor.left - 1) 0 (cursor.item + 1) behind
  frame-rest client = from-here cursor.left 0 ∙ landed-frame cursor.left 0 cursor.item item behind client some
      ∙ ap (λ l. own ∷ l) (numbers (cursor.left - 1) 0)

  pub other-rest : is_client item.kind ≡ false →
      frames_left leg cursor ≡ landed_from cursor.left 0 (cursor.item + 1) behind
  other-rest other = from-here cursor.left 0 ∙ landed-other cursor.left 0 cursor.item item behind other
      ∙ numbers cursor.left 0

  pub late-refusals : (a b : ℕ) →
      All (λ (refused : ℕ × Refusal). cursor.item < refused.0)
      (refusals_among leg (landed_from a b (cursor.item + 1) behind))
  late-refusals a b =
      All-weaker (λ (refused : ℕ × Refusal). cursor.item + 1 ≤ refused.0)
      (λ (refused : ℕ × Refusal). cursor.item < refused.0) (λ refused low. omega (arith, low)) _
      (refusals-late leg (cursor.item + 1) a b (cursor.item + 1) behind (omega arith))

  pub before-next : length (offer_of item.due item.kind) + frames_before_item leg cursor.item
      ≡ frames_before_item leg (cursor.item + 1)
  before-next =
      let n = length-append (offers_of (take cursor.item leg.items)) (offer_of item.due item.kind) in
      omega (arith, ap length (offers-next leg.items cursor.item item there), n)

-- what is left is the next refusal and those after it
pub next-and-rest : (all rest : List (ℕ × Refusal)) (next : Option (ℕ × Refusal)) →
    IfSome next (λ x. all ≡ x ∷ rest) → IfNone next (all ≡ []) → IfNone next (rest ≡ []) →
    option_to_list next ++ rest ≡ all
next-and-rest all rest None some none ended = ended ∙ sym none
next-and-rest all rest (Some x) some none ended = sym some

-- the next refusal is the item's, where its number is
pub found-refusal : (item : ℕ) (x : ℕ × Refusal) (rest : List (ℕ × Refusal)) → x.0 ≡ item → (why : Option Refusal)
    (later : List (ℕ × Refusal)) → x ∷ rest ≡ refused_by item why ++ later →
    All (λ (refused : ℕ × Refusal). item < refused.0) later →
    (Some x.1 ≡ why) × (rest ≡ later)
found-refusal item x rest own None later is far = absurd (first later is far)
  where
    first : (later : List (ℕ × Refusal)) → x ∷ rest ≡ later →
        All (λ (refused : ℕ × Refusal). item < refused.0) later → ⊥
    first [] e far = cc
    first (y ∷ ys) e far = let low = far 0 x (omega arith) in let same : x ≡ y = cc in
        let number = ap (λ (refused : ℕ × Refusal). refused.0) same in omega (arith, low, number, own)
found-refusal item x rest own (Some why) later is far =
    let head : x ≡ (item, why) = cc in
    let tail : rest ≡ later = cc in
    (ap (λ (refused : ℕ × Refusal). Some refused.1) head, tail)

-- and it isn't, where its number isn't
pub other-refusal : (item : ℕ) (left : List (ℕ × Refusal)) →
    ((x : ℕ × Refusal) (rest : List (ℕ × Refusal)) → left ≡ x ∷ rest → x.0 ≡ item → ⊥) → (why : Option Refusal)
    (later : List (ℕ × Refusal)) → left ≡ refused_by item why ++ later → (None ≡ why) × (left ≡ later)
other-refusal item left other None later is = (refl, is)
other-refusal item left other (Some why) later is = absurd (other (item, why) later is refl)

-- ---- an item by its number
pub item-there : (items : List Item) (i : ℕ) → i < length items → (item : Item) × (slice_get items i ≡ Some item)
item-there items i low = let none : Item = record { due = 0; kind = Add 0 } in
    (get_or items i none, slice_get-get_or items i none low)

pub sort-frame : (kind : ItemKind) (n : ℕ) → sort_of kind ≡ frame_sort n →
    (octets : List ℕ) × (kind ≡ Frame octets) × (n ≡ length octets)
sort-frame (Frame octets) n is = let size : n ≡ length octets = cc in (octets, refl, size)
sort-frame (Add line) n is = absurd cc
sort-frame (Remove line) n is = absurd cc

pub sort-other : (kind : ItemKind) → ((n : ℕ) → sort_of kind ≡ frame_sort n → ⊥) → is_client kind ≡ false
sort-other (Frame octets) other = absurd (other (length octets) refl)
sort-other (Add line) other = refl
sort-other (Remove line) other = refl

-- ---- what a pass makes of a cursor
module _ (leg : Leg) (s : Counts) (cursor : Cursor) (at : IsAt leg s cursor) (some : 0 < cursor.left) (i : ℕ)
    (here : i ≡ cursor.item) (item : Item) (own : slice_get leg.items i ≡ Some item) (result : Option Refusal)
    (rest : List (ℕ × Refusal))
    (finds : (why : Option Refusal) (later : List (ℕ × Refusal)) → cursor.refusals ≡ refused_by i why ++ later →
    All (λ (refused : ℕ × Refusal). i < refused.0) later → (result ≡ why) × (rest ≡ later)) where
  there : slice_get leg.items cursor.item ≡ Some item
  there = ap (slice_get leg.items) (sym here) ∙ own

  low : cursor.item < length leg.items
  low = slice_get_within leg.items cursor.item item there

  found : (why : Option Refusal) (later : List (ℕ × Refusal)) →
      cursor.refusals ≡ refused_by cursor.item why ++ later →
      All (λ (refused : ℕ × Refusal). cursor.item < refused.0) later → (result ≡ why) × (rest ≡ later)
  found why later is far =
      finds why later (is ∙ ap (λ n. refused_by n why ++ later) (sym here))
      (subst (λ n. All (λ (refused : ℕ × Refusal). n < refused.0) later) (sym here) far)

  one-offer : (octets : List ℕ) → item.kind ≡ Frame octets → length (offer_of item.due item.kind) ≡ 1
  one-offer octets kind = ap (λ kind. length (offer_of item.due kind)) kind

  client : (octets : List ℕ) → item.kind ≡ Frame octets → is_client item.kind ≡ true
  client octets kind = ap is_client kind

  found-frame : (octets : List ℕ) → item.kind ≡ Frame octets →
      (result ≡ refusal_at leg (record { number = cursor.item; item = item })) ×
      (rest ≡ refusals_among leg
      (landed_from (cursor.left - 1) at.commands (cursor.item + 1) (drop (cursor.item + 1) leg.items)))
  found-frame octets kind =
      found (refusal_at leg (record { number = cursor.item; item = item }))
      (refusals_among leg
      (landed_from (cursor.left - 1) at.commands (cursor.item + 1) (drop (cursor.item + 1) leg.items)))
      (frame-refusals leg s cursor at item there some (client octets kind))
      (late-refusals leg s cursor at item there some (cursor.left - 1) at.commands)

  pass-at : (octets : List ℕ) (now : Cursor) → item.kind ≡ Frame octets →
      now ≡ record { item = i + 1; refusals = rest; left = cursor.left - 1 } → IsAt leg s now
  pass-at octets now kind is =
      let one = one-offer octets kind in
      subst (IsAt leg s) (sym (is ∙ ap (λ n. record { item = n + 1; refusals = rest; left = cursor.left - 1 }) here))
      (record {
        sound = at.sound;
        walked = at.walked;
        commands = at.commands;
        within = omega (arith, low);
        left = (let left = at.left in omega (arith, before-next leg s cursor at item there some, one, left));
        refusals = (found-frame octets kind).1;
      })

  pass-next : (octets : List ℕ) (due n : ℕ) (now : Cursor) → item.kind ≡ Frame octets → due ≡ item.due →
      n ≡ length octets → now ≡ record { item = i + 1; refusals = rest; left = cursor.left - 1 } →
      IsNext leg cursor now (record { number = i; due = due; length = n; refusal = result })
  pass-next octets due n now kind tick size is = record {
    item = item;
    octets = octets;
    there = own;
    kind = kind;
    due = tick;
    length_is = size;
    refusal = (found-frame octets kind).0
        ∙ ap (λ n. refusal_at leg (record { number = n; item = item })) (sym here);
    before = ap (frames_before_item leg) here;
    after = ap (λ (now : Cursor). now.item) is;
    rest = frame-rest leg s cursor at item there some (client octets kind)
        ∙ ap (λ n. record { number = n; item = item } ∷ landed_from (cursor.left - 1) 0 (n + 1)
        (drop (n + 1) leg.items)) (sym here)
        ∙ ap (λ (now : Cursor). record { number = i; item = item } ∷ frames_left leg now) (sym is);
  }

  pub passed : (octets : List ℕ) (due n : ℕ) (now : Cursor) → item.kind ≡ Frame octets → due ≡ item.due →
      n ≡ length octets → now ≡ record { item = i + 1; refusals = rest; left = cursor.left - 1 } →
      IsAt leg s now × IsNext leg cursor now (record { number = i; due = due; length = n; refusal = result })
  passed octets due n now kind tick size is =
      (pass-at octets now kind is, pass-next octets due n now kind tick size is)

  none-here : is_client item.kind ≡ false → length (offer_of item.due item.kind) ≡ 0
  none-here other = by item.kind other
    where
      by : (kind : ItemKind) → is_client kind ≡ false → length (offer_of item.due kind) ≡ 0
      by (Frame octets) is = absurd (let e : true ≡ false = is in cc)
      by (Add line) is = refl
      by (Remove line) is = refl

  skip-at : (now : Cursor) → is_client item.kind ≡ false →
      now ≡ record { item = i + 1; refusals = rest; left = cursor.left } → IsAt leg s now
  skip-at now other is =
      let parts = other-refusals leg s cursor at item there some other in
      let later = refusals_among leg
      (landed_from cursor.left (at.commands - 1) (cursor.item + 1) (drop (cursor.item + 1) leg.items)) in
      let both = found parts.0 later parts.1
      (late-refusals leg s cursor at item there some cursor.left (at.commands - 1)) in
      let none = none-here other in
      subst (IsAt leg s) (sym (is ∙ ap (λ n. record { item = n + 1; refusals = rest; left = cursor.left }) here))
      (record {
        sound = at.sound;
        walked = at.walked;
        commands = at.commands - 1;
        within = omega (arith, low);
        left = (let left = at.left in omega (arith, before-next leg s cursor at item there some, none, left));
        refusals = both.1;
      })

  skip-past : (now : Cursor) → is_client item.kind ≡ false →
      now ≡ record { item = i + 1; refusals = rest; left = cursor.left } → IsSkipped leg cursor now
  skip-past now other is =
      let before = before-next leg s cursor at item there some in
      subst (λ (now : Cursor). IsSkipped leg cursor now)
      (sym (is ∙ ap (λ n. record { item = n + 1; refusals = rest; left = cursor.left }) here)) (record {
        before = omega (arith, before, none-here other);
        rest = other-rest leg s cursor at item there some other;
      })

  pub skipped : (now : Cursor) → is_client item.kind ≡ false →
      now ≡ record { item = i + 1; refusals = rest; left = cursor.left } → IsAt leg s now × IsSkipped leg cursor now
  skipped now other is = (skip-at now other is, skip-past now other is)

-- ---- the end

nothing : (a i : ℕ) → landed_from a 0 i [] ≡ []
unfolding landed_from
nothing a i = refl

pub past-end : (leg : Leg) (s : Counts) (cursor : Cursor) → IsAt leg s cursor →
    (cursor.left ≡ 0) ⊎ (length leg.items ≤ cursor.item) → IsPast leg s cursor
past-end leg s cursor at (inl none) = record {
  none = ap (λ a. landed_from a 0 cursor.item (drop cursor.item leg.items)) none
      ∙ none-landed (drop cursor.item leg.items) cursor.item;
  late = λ j offer far there. frame-waits leg s j offer at.walked
      (let left = at.left in omega (arith, left, none, far)) there;
}
past-end leg s cursor at (inr past) =
    let all : take cursor.item leg.items ≡ leg.items = take_all cursor.item leg.items past in
    let no : drop cursor.item leg.items ≡ [] = drop_all cursor.item leg.items past in
    record {
      none = ap (landed_from cursor.left 0 cursor.item) no ∙ nothing cursor.left cursor.item;
      late = λ j offer far there. absurd
          (let size = ap (λ items. length (offers_of items)) all in
          let low = slice_get_within (offers_of leg.items) j offer there in omega (arith, size, low, far));
    }

pub past-before : (leg : Leg) (s : Counts) (was now : Cursor) → IsSkipped leg was now → IsPast leg s now →
    IsPast leg s was
past-before leg s was now skipped past = record {
  none = skipped.rest ∙ past.none;
  late = λ j offer far there. past.late j offer (let before = skipped.before in omega (arith, before, far)) there;
}

-- ---- The stream of a walk is ruled frame by frame, and tick by tick.
-- ---- a frame
pub ruler-refused : (stream : Stream) (octets : List ℕ) (why : AcceptFault) → frame_refusal octets stream ≡ Some why →
    offered stream octets ≡ stream
ruler-refused stream octets why is = ap (λ why. offered_by why octets stream) is

pub ruler-accepted : (stream : Stream) (octets : List ℕ) → frame_refusal octets stream ≡ None →
    ruler_of (offered stream octets) ≡ with_waiting (ruler_of stream) (length octets)
ruler-accepted stream octets none =
    ap (λ why. ruler_of (offered_by why octets stream)) none
    ∙ ap (λ (waiting : List ℕ). record (ruler_of stream) { waiting = waiting })
    (map-append length stream.waiting (octets ∷ []))

comes-here : (offer : DueFrame) → comes_at offer.due offer ≡ true
comes-here offer = grind (arith, nat_tests)

pub met-next : (scenario : Scenario) (cells : List (Option Told)) (earlier : List DueFrame) (offer : DueFrame) →
    stream_met scenario cells offer.due (earlier ++ offer ∷ []) ≡ offered (stream_met scenario cells offer.due earlier)
    offer.frame
met-next scenario cells earlier offer =
    let frame_of = λ (offer : DueFrame). offer.frame in
    let here = comes-here offer in
    let last : filter (comes_at offer.due) (offer ∷ []) ≡ offer ∷ [] = rw here refl in
    ap (λ offers. fold offered (stream_before scenario cells offer.due) (map frame_of offers))
    (filter-append (comes_at offer.due) earlier (offer ∷ [])
    ∙ ap (λ l. filter (comes_at offer.due) earlier ++ l) last)
    ∙ ap (fold offered (stream_before scenario cells offer.due))
    (map-append frame_of (filter (comes_at offer.due) earlier) (offer ∷ []))
    ∙ fold-append offered (stream_before scenario cells offer.due) (map frame_of (filter (comes_at offer.due) earlier))
    (offer.frame ∷ [])

-- ---- a tick
late : (t : ℕ) (offer : DueFrame) → t < offer.due → comes_at t offer ≡ false
late t offer low = grind (arith, nat_tests, low)

early : (t : ℕ) (offer : DueFrame) → offer.due < t → comes_at t offer ≡ false
early t offer low = grind (arith, nat_tests, low)

take-none : (test : DueFrame → Bool) (k : ℕ) (offers : List DueFrame) →
    ((j : ℕ) (offer : DueFrame) → j < k → slice_get offers j ≡ Some offer → test offer ≡ false) →
    filter test (take k offers) ≡ []
take-none test zero [] none = refl
take-none test (suc k) [] none = refl
take-none test zero (x ∷ xs) none = refl
take-none test (suc k) (x ∷ xs) none =
    let first = none 0 x (omega arith) refl in
    rw first (take-none test k xs (λ j offer low there. none (suc j) offer (omega (arith, low)) there))

pub met-tick : (leg : Leg) (k from t to : ℕ) → Between leg k from to → from ≤ t → t < to →
    reached (place_in leg (t + 1)) (stream_in leg t k) ≡ stream_in leg (t + 1) k
unfolding stream_before
met-tick leg k from t to between low high =
    let scenario : Scenario = scenario_by leg in
    let cells : List (Option Told) = session_of leg in
    let frame_of = λ (offer : DueFrame). offer.frame in
    let all : filter (comes_at t) (take k scenario.offers) ≡ filter (comes_at t) scenario.offers =
    filter-first (comes_at t) k scenario.offers
    (λ j offer far there. let due = between.late j offer far there in late t offer (omega (arith, due, high))) in
    let none : filter (comes_at (suc t)) (take k scenario.offers) ≡ [] =
    take-none (comes_at (suc t)) k scenario.offers
    (λ j offer near there. let due = between.early j offer near there in
    early (suc t) offer (omega (arith, due, low))) in
    let next : t + 1 ≡ suc t = omega arith in
    ap (λ n. reached (place_of scenario cells n) (stream_met scenario cells t (take k scenario.offers))) next
    ∙ ap (λ offers. reached (place_of scenario cells (suc t))
    (fold offered (stream_before scenario cells t) (map frame_of offers))) all
    ∙ sym (ap (λ offers. fold offered (stream_before scenario cells (suc t)) (map frame_of offers)) none)
    ∙ ap (λ n. stream_met scenario cells n (take k scenario.offers)) (sym next)

-- ---- the end: what waits has no piece
pub met-end : (scenario : Scenario) (cells : List (Option Told)) (k t : ℕ) →
    ((j : ℕ) (offer : DueFrame) → j < k → slice_get scenario.offers j ≡ Some offer → offer.due < t) →
    stream_met scenario cells t (take k scenario.offers) ≡ stream_before scenario cells t
met-end scenario cells k t before =
    let frame_of = λ (offer : DueFrame). offer.frame in
    ap (λ offers. fold offered (stream_before scenario cells t) (map frame_of offers))
    (take-none (comes_at t) k scenario.offers (λ j offer near there. early t offer (before j offer near there)))

pub met-start : (scenario : Scenario) (cells : List (Option Told)) →
    ruler_of (stream_met scenario cells 0 (take 0 scenario.offers)) ≡ new_ruler
unfolding stream_before extents
met-start scenario cells = refl

-- ---- What the next frame that has landed does to the stream.
get-inside : (xs : List DueFrame) (k : ℕ) (x : DueFrame) → slice_get xs k ≡ Some x → (k < length xs) ×
    ((d : DueFrame) → get_or xs k d ≡ x)
get-inside [] k x there = absurd cc
get-inside (y ∷ xs) zero x there = (omega arith, λ d. let same : y ≡ x = cc in same)
get-inside (y ∷ xs) (suc k) x there = let rest = get-inside xs k x there in (omega (arith, rest.0), rest.1)

-- frames are due in their order
pub due-order : (leg : Leg) (i j : ℕ) (a b : DueFrame) → IsSound leg → i ≤ j →
    slice_get (offers_of leg.items) i ≡ Some a → slice_get (offers_of leg.items) j ≡ Some b → a.due ≤ b.due
due-order leg i j a b sound low here there =
    let one = get-inside (offers_of leg.items) i a here in
    let two = get-inside (offers_of leg.items) j b there in
    let first = ap (λ (x : DueFrame). x.due) (one.1 a) in
    let second = ap (λ (x : DueFrame). x.due) (two.1 a) in
    omega (arith, offers_rise leg.items sound.items.frames i j a low two.0, first, second)

module _ (leg : Leg) (was now : Cursor) (found : LandedFrame) (next : IsNext leg was now found) where
  abbrev count : ℕ
  count = frames_before_item leg was.item

  abbrev pub own-next : DueFrame
  own-next = record { due = found.due; frame = next.octets }

  offer-is : offer_of next.item.due next.item.kind ≡ own-next ∷ []
  offer-is = ap (offer_of next.item.due) next.kind
      ∙ ap (λ due. record { due = due; frame = next.octets } ∷ []) (sym next.due)

  at : (slice_get (offers_of leg.items) count ≡ Some own-next) ×
      (offers_of (take found.number leg.items) ≡ take count (offers_of leg.items))
  at = offer-at leg.items count (record { number = found.number; item = next.item }) own-next
      (record { there = next.there; is = offer-is; before = next.before })

  pub next-offer : slice_get (offers_of leg.items) count ≡ Some own-next
  next-offer = at.0

  pub next-count : frames_before_item leg now.item ≡ count + 1
  next-count =
      let all = ap length (offers-next leg.items found.number next.item next.there) in
      let size = length-append (offers_of (take found.number leg.items)) (offer_of next.item.due next.item.kind) in
      omega (arith, all, size, ap length offer-is, next.before, ap (frames_before_item leg) next.after)

  pub next-stream : stream_in leg found.due (count + 1) ≡ offered (stream_in leg found.due count) next.octets
  next-stream =
      ap (stream_met (scenario_by leg) (session_of leg) found.due)
      (take-one (offers_of leg.items) count own-next at.0)
      ∙ met-next (scenario_by leg) (session_of leg) (take count (offers_of leg.items)) own-next

  -- why it is refused, where it is
  pub next-refusal : found.refusal ≡ option_map frame_fault
      (frame_refusal next.octets (stream_in leg found.due count))
  next-refusal =
      next.refusal
      ∙ ap (kind_refusal (scenario_by leg) (session_of leg) next.item.due (take found.number leg.items))
      next.kind
      ∙ ap₂ (λ due offers. option_map frame_fault
      (frame_refusal next.octets (stream_met (scenario_by leg) (session_of leg) due offers)))
      (sym next.due) at.1

  refused-by : (why : Option AcceptFault) → frame_refusal next.octets (stream_in leg found.due count) ≡ why →
      (refusal : Refusal) → option_map frame_fault why ≡ Some refusal →
      offered (stream_in leg found.due count) next.octets ≡ stream_in leg found.due count
  refused-by None is refusal there = absurd (let e : None ≡ Some refusal = there in cc)
  refused-by (Some why) is refusal there = ruler-refused (stream_in leg found.due count) next.octets why is

  pub next-refused : (refusal : Refusal) → found.refusal ≡ Some refusal →
      ruler_of (stream_in leg found.due (count + 1)) ≡ ruler_of (stream_in leg found.due count)
  next-refused refusal is =
      ap ruler_of (next-stream ∙ refused-by (frame_refusal next.octets (stream_in leg found.due count)) refl refusal
      (sym next-refusal ∙ is))

  accepted-by : (why : Option AcceptFault) → frame_refusal next.octets (stream_in leg found.due count) ≡ why →
      option_map frame_fault why ≡ None → frame_refusal next.octets (stream_in leg found.due count) ≡ None
  accepted-by None is none = is
  accepted-by (Some why) is none = absurd (let e : Some (frame_fault why) ≡ None = none in cc)

  pub next-accepted : found.refusal ≡ None →
      ruler_of (stream_in leg found.due (count + 1)) ≡ with_waiting (ruler_of (stream_in leg found.due count))
      found.length
  next-accepted none =
      let accepted = accepted-by (frame_refusal next.octets (stream_in leg found.due count)) refl
      (sym next-refusal ∙ none) in
      ap ruler_of next-stream ∙ ruler-accepted (stream_in leg found.due count) next.octets accepted
      ∙ ap (with_waiting (ruler_of (stream_in leg found.due count))) (sym next.length_is)

  pub next-between : (from : ℕ) → IsSound leg → IsEarly leg count from → Between leg count from found.due
  next-between from sound early =
      record { early = early; late = λ j offer far there. due-order leg count j own-next offer sound far at.0 there }

  pub next-early : IsSound leg → IsEarly leg (count + 1) found.due
  next-early sound j offer low there = due-order leg j count offer own-next sound (omega (arith, low)) there at.0

  pub next-late : IsSound leg → IsLate leg (count + 1) found.due
  next-late sound j offer far there = due-order leg count j own-next offer sound (omega (arith, far)) at.0 there

-- ---- The ruler of a walk, tick by tick and frame by frame.
-- ---- bounds
pub few-ticks : (leg : Leg) (s : Counts) → IsSound leg → IsWalked leg s → (s.ticks ≤ leg.config.ticks) ×
    (s.ticks ≤ most_ticks)
few-ticks leg s sound walked =
    let within = counts-within leg s (sound-walks leg sound) walked in
    (within.1, omega (arith, within.1, sound.network.ticks.1))

pub place-few : (leg : Leg) (row : ℕ) → IsSound leg → row ≤ leg.config.ticks → place_in leg row < 2 ^ 63
place-few leg row sound low = let most = place-most leg row sound low in omega (arith, most)

-- ---- a tick
pub reach-tick : (leg : Leg) (frames from t to place : ℕ) (was now : Ruler) → Between leg frames from to →
    from ≤ t → t < to → place ≡ place_in leg (t + 1) →
    now ≡ ruled place was.end was.sent was.waiting → was ≡ ruler_of (stream_in leg t frames) →
    now ≡ ruler_of (stream_in leg (t + 1) frames)
reach-tick leg frames from t to place was now between low high is made ruler =
    made
    ∙ ap (λ (r : Ruler). ruled place r.end r.sent r.waiting) ruler
    ∙ ap (λ at. ruled at (ruler_of (stream_in leg t frames)).end (ruler_of (stream_in leg t frames)).sent
    (ruler_of (stream_in leg t frames)).waiting) is
    ∙ sym (reached-ruled (place_in leg (t + 1)) (stream_in leg t frames))
    ∙ ap ruler_of (met-tick leg frames from t to between low high)

-- ---- a frame
pub none-of : (refusal : Option Refusal) → is_some refusal ≡ false → refusal ≡ None
none-of None is = refl
none-of (Some why) is = absurd (let e : true ≡ false = is in cc)

pub some-of : (refusal : Option Refusal) → is_some refusal ≡ true → (why : Refusal) × (refusal ≡ Some why)
some-of None is = absurd (let e : false ≡ true = is in cc)
some-of (Some why) is = (why, refl)

-- a frame that isn't due before a tick: none from there on is
pub next-waits : (leg : Leg) (was now : Cursor) (found : LandedFrame) (ticks : ℕ) → IsSound leg →
    IsNext leg was now found → ticks ≤ found.due →
    IsLate leg (frames_before_item leg was.item) ticks
next-waits leg was now found ticks sound next waits j offer far there =
    let order : found.due ≤ offer.due =
    due-order leg (frames_before_item leg was.item) j (own-next leg was now found next) offer sound far
    (next-offer leg was now found next) there in
    omega (arith, order, waits)

-- the frames so far are ruled, and those after them aren't due before the last of them
pub record IsRuled (leg : Leg) (s : Counts) (ruler : Ruler) (cursor : Cursor) (ticks : ℕ) : Type 0 where
  pub at : IsAt leg s cursor
  pub early : IsEarly leg (frames_before_item leg cursor.item) ticks
  pub late : IsLate leg (frames_before_item leg cursor.item) ticks
  pub before : (j : ℕ) (offer : DueFrame) → j < frames_before_item leg cursor.item →
      slice_get (offers_of leg.items) j ≡ Some offer → offer.due < s.ticks
  pub low : ticks ≤ s.ticks
  pub ruled : ruler ≡ ruler_of (stream_in leg ticks (frames_before_item leg cursor.item))

pub ruled-first : (leg : Leg) (s : Counts) (ruler : Ruler) (cursor : Cursor) → IsAt leg s cursor →
    cursor.item ≡ 0 → ruler ≡ new_ruler → IsRuled leg s ruler cursor 0
ruled-first leg s ruler cursor at first new =
    let none : frames_before_item leg cursor.item ≡ 0 = ap (frames_before_item leg) first in
    record {
      at = at;
      early = λ j offer low there. absurd (omega (arith, none, low));
      late = λ j offer far there. omega arith;
      before = λ j offer low there. absurd (omega (arith, none, low));
      low = omega arith;
      ruled = new ∙ sym (met-start (scenario_by leg) (session_of leg))
          ∙ ap (λ n. ruler_of (stream_in leg 0 n)) (sym none);
    }

module _ (leg : Leg) (s : Counts) (ruler : Ruler) (was now : Cursor) (ticks : ℕ) (found : LandedFrame)
    (is : IsRuled leg s ruler was ticks) (next : IsNext leg was now found) where
  abbrev count-walk : ℕ
  count-walk = frames_before_item leg was.item

  pub next-due : ticks ≤ found.due
  next-due = is.late count-walk (own-next leg was now found next) (omega arith) (next-offer leg was now found next)

  pub next-fewer : length (offers_of leg.items) - frames_before_item leg now.item < length
      (offers_of leg.items) - frames_before_item leg was.item
  next-fewer =
      let there = slice_get_within (offers_of leg.items) count-walk (own-next leg was now found next)
      (next-offer leg was now found next) in
      omega (arith, there, next-count leg was now found next)

  module _ (at : IsAt leg s now) (due : found.due < s.ticks) (reached : Ruler)
      (reaches : (frames : ℕ) → Between leg frames ticks found.due →
      ruler ≡ ruler_of (stream_in leg ticks frames) → reached ≡ ruler_of (stream_in leg found.due frames))
    where
      reached-is : reached ≡ ruler_of (stream_in leg found.due count-walk)
      reached-is = reaches count-walk (next-between leg was now found next ticks at.sound is.early) is.ruled

      ruled-next : (r : Ruler) → r ≡ ruler_of (stream_in leg found.due (count-walk + 1)) → IsRuled leg s r now found.due
      ruled-next r made =
          let more = next-count leg was now found next in
          record {
            at = at;
            early = subst (λ n. IsEarly leg n found.due) (sym more) (next-early leg was now found next at.sound);
            late = subst (λ n. IsLate leg n found.due) (sym more) (next-late leg was now found next at.sound);
            before = λ j offer low there. (let early =
                next-early leg was now found next at.sound j offer (omega (arith, low, more)) there in omega
                (arith, early, due));
            low = omega (arith, due);
            ruled = made ∙ ap (λ n. ruler_of (stream_in leg found.due n)) (sym more);
          }

      pub ruled-refused : (refusal : Refusal) → found.refusal ≡ Some refusal → IsRuled leg s reached now found.due
      ruled-refused refusal refused =
          ruled-next reached (reached-is ∙ sym (next-refused leg was now found next refusal refused))

      pub ruled-accepted : (r : Ruler) → found.refusal ≡ None → r ≡ with_waiting reached found.length →
          IsRuled leg s r now found.due
      ruled-accepted r none made =
          ruled-next r (made ∙ ap (λ (r : Ruler). with_waiting r found.length) reached-is
          ∙ sym (next-accepted leg was now found next none))

-- ---- the end
pub ruled-end : (leg : Leg) (s : Counts) (ruler : Ruler) (cursor : Cursor) (ticks : ℕ) (reached : Ruler) →
    IsRuled leg s ruler cursor ticks →
    IsLate leg (frames_before_item leg cursor.item) s.ticks →
    ((frames : ℕ) → Between leg frames ticks s.ticks → ruler ≡ ruler_of (stream_in leg ticks frames) →
    reached ≡ ruler_of (stream_in leg s.ticks frames)) →
    Rules leg s.ticks reached
ruled-end leg s ruler cursor ticks reached is late reaches =
    let count-walk = frames_before_item leg cursor.item in
    reaches count-walk (record { early = is.early; late = late }) is.ruled
    ∙ ap ruler_of (met-end (scenario_by leg) (session_of leg) count-walk s.ticks is.before)
