-- Places of items of a kind (place_of), their due ticks, the item that is held, and bare items.
use Rattle.std.proofs.Common.{◌≡◌, ℕ, zero, suc, ◌+◌, ◌<◌, Bool, true, if◌then◌else◌, List, [], ◌∷◌, ◌++◌, length}
use Rattle.std.proofs.Common.{take, drop, slice_get, Option, Some, option_map, inl, inr, refl, sym, ◌∙◌, ap, arith}
use Rattle.std.proofs.Common.{◌⊎◌, ◌≤◌, ◌&&◌, ◌||◌, not, nat_le, nat_lt, false, None, subst}
use Rattle.std.proofs.lemmas.Bool.{cases_Bool, cases_lt}
use Rattle.law_model.specs.Common.{order_of, offer_of, orders_of, offers_of, due_of, dues_of, frame_dues, command_dues}
use Rattle.law_model.specs.Common.{Due, frame_due, command_due, held}
use Rattle.law_model.specs.declared.script_types.Item.{Item}
use Rattle.law_model.specs.declared.script_types.ItemKind.{ItemKind}
use Rattle.law_model.specs.declared.script_types.ItemKind.TheVariants.{Frame, Add, Remove}
use Rattle.terminal_group.specs.ItemPlaces.{is_frame, is_command, place_of, due_by, least_held}
use Rattle.std.specs.List.Sorted.{IsNonDecreasing}
use Rattle.std.proofs.lemmas.List.{drop_all}
use Rattle.law_model.proofs.ListLaws.{drop-next, rest-in_order, slice_get-inside}
use Rattle.terminal_group.specs.Item.{bare_kind, bare_items}
use Rattle.terminal_group.specs.Landed.{due_in, due_at}

-- ---- Where the next item of a kind stands, how many of its kind are before it, and when it is due.
-- ---- the next place is the first after this one
next-suc : (is : ItemKind → Bool) (items : List Item) (k : ℕ) → place_of is k items < length items →
    place_of is (suc k) items ≡ suc (place_of is k items) + place_of is 0 (drop (suc (place_of is k items)) items)
unfolding place_of
next-suc is [] k there = absurd (omega arith)
next-suc is (first ∷ items) zero there =
    elim (cases_Bool (is first.kind)) [
      | inl e ↦ rw e (let f : suc (place_of is 0 items) ≡ 1 + place_of is 0 items = omega arith in f)
      | inr e ↦
          let low : suc (place_of is 0 items) < suc (length items) = rw e at there in
          let rest = next-suc is items zero (omega arith) in
          rw e (let f : suc (place_of is 1 items) ≡ suc (suc (place_of is 0 items)) + place_of is 0
          (drop (suc (place_of is 0 items)) items) = omega (arith, rest) in f)
    ]
next-suc is (first ∷ items) (suc k) there =
    elim (cases_Bool (is first.kind)) [
      | inl e ↦
          let low : suc (place_of is k items) < suc (length items) = rw e at there in
          let rest = next-suc is items k (omega arith) in
          rw e (let f : suc (place_of is (suc k) items) ≡ suc (suc (place_of is k items)) + place_of is 0
          (drop (suc (place_of is k items)) items) = omega (arith, rest) in f)
      | inr e ↦
          let low : suc (place_of is (suc k) items) < suc (length items) = rw e at there in
          let rest = next-suc is items (suc k) (omega arith) in
          rw e (let f : suc (place_of is (suc (suc k)) items) ≡ suc (suc (place_of is (suc k) items)) + place_of is 0
          (drop (suc (place_of is (suc k) items)) items) = omega (arith, rest) in f)
    ]

pub place-next : (is : ItemKind → Bool) (items : List Item) (k i : ℕ) → i ≡ place_of is k items → i < length items →
    (i + 1) + place_of is 0 (drop (i + 1) items) ≡ place_of is (k + 1) items
place-next is items k i at there =
    let rest = next-suc is items k (omega arith) in
    let up : i + 1 ≡ suc (place_of is k items) = omega (arith, at) in
    ap (λ n. n + place_of is 0 (drop n items)) up ∙ sym rest
    ∙ ap (λ n. place_of is n items) (let e : suc k ≡ k + 1 = omega arith in e)

-- ---- so many items of a kind are before the next one
unfoldable pub count_of : (ItemKind → Bool) → List Item → ℕ
count_of is [] = 0
count_of is (item ∷ items) = if is item.kind then suc (count_of is items) else count_of is items

-- the item at the place of number k is of the kind, and so many are before it
pub place-found : (is : ItemKind → Bool) (items : List Item) (k : ℕ) (item : Item) →
    slice_get items (place_of is k items) ≡ Some item →
    (is item.kind ≡ true) × (count_of is (take (place_of is k items) items) ≡ k)
unfolding place_of count_of
place-found is [] k item there = absurd cc
place-found is (first ∷ items) zero item there =
    elim (cases_Bool (is first.kind)) [
      | inl e ↦ (let f : Some first ≡ Some item = rw e at there in let same : first ≡ item = cc in
          (ap (λ (i : Item). is i.kind) (sym same) ∙ e, rw e refl))
      | inr e ↦ (let (a, b) = place-found is items zero item (rw e at there) in (a, rw (e, e) b))
    ]
place-found is (first ∷ items) (suc k) item there =
    elim (cases_Bool (is first.kind)) [
      | inl e ↦ (let (a, b) = place-found is items k item (rw e at there) in (a, rw (e, e) (ap suc b)))
      | inr e ↦ (let (a, b) = place-found is items (suc k) item (rw e at there) in (a, rw (e, e) b))
    ]

-- frames are counted as offers, and commands as orders
offers-size_by : (due : ℕ) (kind : ItemKind) (items : List Item) → length (offers_of items) ≡ count_of is_frame items →
    length (offer_of due kind ++ offers_of items) ≡
    (if is_frame kind then suc (count_of is_frame items) else count_of is_frame items)
unfolding count_of
offers-size_by due (Frame octets) items rest = ap suc rest
offers-size_by due (Add line) items rest = rest
offers-size_by due (Remove line) items rest = rest

pub offers-size : (items : List Item) → length (offers_of items) ≡ count_of is_frame items
unfolding count_of
offers-size [] = refl
offers-size (item ∷ items) = offers-size_by item.due item.kind items (offers-size items)

orders-size_by : (due : ℕ) (kind : ItemKind) (items : List Item) →
    length (orders_of items) ≡ count_of is_command items →
    length (order_of due kind ++ orders_of items) ≡
    (if is_command kind then suc (count_of is_command items) else count_of is_command items)
unfolding count_of
orders-size_by due (Frame octets) items rest = rest
orders-size_by due (Add line) items rest = ap suc rest
orders-size_by due (Remove line) items rest = ap suc rest

pub orders-size : (items : List Item) → length (orders_of items) ≡ count_of is_command items
unfolding count_of
orders-size [] = refl
orders-size (item ∷ items) = orders-size_by item.due item.kind items (orders-size items)

-- ---- the due tick of the next item
abbrev pub due_found : List Item → ℕ → Option ℕ
due_found items i = option_map (λ (item : Item). item.due) (slice_get items i)

frame-due_by : (due : ℕ) (kind : ItemKind) (items : List Item) (k : ℕ) →
    ((k : ℕ) → slice_get (frame_dues (dues_of items)) k ≡ due_found items (place_of is_frame k items)) →
    slice_get (frame_dues (due_of due kind ∷ dues_of items)) k ≡ due_found (record { due = due; kind = kind } ∷ items)
    (place_of is_frame k (record { due = due; kind = kind } ∷ items))
unfolding frame_dues place_of
frame-due_by due (Frame octets) items zero rest = refl
frame-due_by due (Frame octets) items (suc k) rest = rest k
frame-due_by due (Add line) items zero rest = rest zero
frame-due_by due (Add line) items (suc k) rest = rest (suc k)
frame-due_by due (Remove line) items zero rest = rest zero
frame-due_by due (Remove line) items (suc k) rest = rest (suc k)

pub frame-due : (items : List Item) (k : ℕ) →
    slice_get (frame_dues (dues_of items)) k ≡ due_found items (place_of is_frame k items)
unfolding frame_dues place_of
frame-due [] k = refl
frame-due (item ∷ items) k = frame-due_by item.due item.kind items k (frame-due items)

command-due_by : (due : ℕ) (kind : ItemKind) (items : List Item) (k : ℕ) →
    ((k : ℕ) → slice_get (command_dues (dues_of items)) k ≡ due_found items (place_of is_command k items)) →
    slice_get (command_dues (due_of due kind ∷ dues_of items)) k ≡ due_found (record { due = due; kind = kind } ∷ items)
    (place_of is_command k (record { due = due; kind = kind } ∷ items))
unfolding command_dues place_of
command-due_by due (Frame octets) items zero rest = rest zero
command-due_by due (Frame octets) items (suc k) rest = rest (suc k)
command-due_by due (Add line) items zero rest = refl
command-due_by due (Add line) items (suc k) rest = rest k
command-due_by due (Remove line) items zero rest = refl
command-due_by due (Remove line) items (suc k) rest = rest k

pub command-due : (items : List Item) (k : ℕ) →
    slice_get (command_dues (dues_of items)) k ≡ due_found items (place_of is_command k items)
unfolding command_dues place_of
command-due [] k = refl
command-due (item ∷ items) k = command-due_by item.due item.kind items k (command-due items)

-- ---- Where the next items stand, and which of them is held.
-- the item at a place is of the kind, or is passed
pub place-here : (is : ItemKind → Bool) (items : List Item) (i : ℕ) (item : Item) → slice_get items i ≡ Some item →
    is item.kind ≡ true → i + place_of is 0 (drop i items) ≡ i
unfolding place_of
place-here is items i item e here =
    ap (λ xs. i + place_of is 0 xs) (drop-next items i item e) ∙ rw here (let f : i + 0 ≡ i = omega arith in f)

pub place-passed : (is : ItemKind → Bool) (items : List Item) (i : ℕ) (item : Item) → slice_get items i ≡ Some item →
    is item.kind ≡ false →
    (i + 1) + place_of is 0 (drop (i + 1) items) ≡ i + place_of is 0 (drop i items)
unfolding place_of
place-passed is items i item e other =
    let up : drop (i + 1) items ≡ drop (suc i) items =
    ap (λ k. drop k items) (let f : i + 1 ≡ suc i = omega arith in f) in
    ap (λ xs. (i + 1) + place_of is 0 xs) up
    ∙ (let g : (i + 1) + place_of is 0 (drop (suc i) items) ≡ i + suc (place_of is 0 (drop (suc i) items)) =
    omega arith in g)
    ∙ sym (ap (λ xs. i + place_of is 0 xs) (drop-next items i item e) ∙ rw other refl)

pub place-none : (is : ItemKind → Bool) (items : List Item) (i : ℕ) → length items ≤ i →
    i + place_of is 0 (drop i items) ≡ i
unfolding place_of
place-none is items i past = ap (λ xs. i + place_of is 0 xs) (drop_all i items past)
    ∙ (let f : i + 0 ≡ i = omega arith in f)

-- all items between two numbers are passed where none is of the kind
pub place-over : (is : ItemKind → Bool) (items : List Item) (i j : ℕ) → i ≤ j → j ≤ length items →
    ((k : ℕ) (item : Item) → i ≤ k → k < j → slice_get items k ≡ Some item → is item.kind ≡ false) →
    j + place_of is 0 (drop j items) ≡ i + place_of is 0 (drop i items)
place-over is items i zero low within none =
    let e : 0 ≡ i = omega (arith, low) in ap (λ n. n + place_of is 0 (drop n items)) e
place-over is items i (suc j) low within none =
    elim (cases_lt j i) [
      | inl past ↦ (let e : suc j ≡ i = omega (arith, low, past) in ap (λ n. n + place_of is 0 (drop n items)) e)
      | inr here ↦ (
          let (item, there) = slice_get-inside items j (omega (arith, within)) in
          let up : suc j ≡ j + 1 = omega arith in
          ap (λ n. n + place_of is 0 (drop n items)) up
          ∙ place-passed is items j item there (none j item here (omega arith) there)
          ∙ place-over is items i j here (omega (arith, within)) (λ k item first last. none k item first
          (omega (arith, last))))
    ]

-- where neither the first is of it nor one behind it
pub none-between : (is : ItemKind → Bool) (items : List Item) (i j : ℕ) (here : Bool) →
    ((item : Item) → slice_get items i ≡ Some item → here ≡ is item.kind) → here ≡ false →
    ((k : ℕ) (item : Item) → i < k → k < j → slice_get items k ≡ Some item → is item.kind ≡ false) →
    (k : ℕ) (item : Item) → i ≤ k → k < j → slice_get items k ≡ Some item → is item.kind ≡ false
none-between is items i j here first none rest k item low high there =
    elim (cases_lt i k) [
      | inl more ↦ rest k item more high there
      | inr same ↦ (
          let e : k ≡ i = omega (arith, low, same) in
          sym (first item (ap (slice_get items) (sym e) ∙ there)) ∙ none)
    ]

-- ---- an item that is due
pub due-told : (items : List Item) (i ticks : ℕ) → i < length items →
    nat_le (due_at items i) ticks ≡ due_by ticks (slice_get items i)
due-told items i ticks inside =
    let (item, there) = slice_get-inside items i inside in
    ap (λ (found : Option Item). nat_le (due_in found) ticks) there
    ∙ sym (ap (due_by ticks) there)

-- ---- the least item that is held
first-least : (due next : ℕ) (dues : List ℕ) → IsNonDecreasing (due ∷ next ∷ dues) → due ≤ next
first-least due next dues order = order zero (suc zero) due (omega arith) (omega arith)

shifted : (i f c : ℕ) (client operator : Bool) →
    least_held i (suc f) (suc c) client operator ≡ least_held (suc i) f c client operator
shifted i f c client operator =
    let lt : nat_lt (suc f) (suc c) ≡ nat_lt f c = grind arith in
    let frame : i + suc f ≡ suc i + f = omega arith in
    let command : i + suc c ≡ suc i + c = omega arith in
    rw (lt, frame, command) refl

-- what an item is
record IsClient (item : Item) : Type 0 where
  due : due_of item.due item.kind ≡ frame_due item.due
  frame : is_frame item.kind ≡ true
  command : is_command item.kind ≡ false

record IsOperator (item : Item) : Type 0 where
  due : due_of item.due item.kind ≡ command_due item.due
  frame : is_frame item.kind ≡ false
  command : is_command item.kind ≡ true

kind-of : (item : Item) (kind : ItemKind) → kind ≡ item.kind → IsClient item ⊎ IsOperator item
kind-of item (Frame octets) e =
    inl (record { due = sym (ap (due_of item.due) e); frame = sym (ap is_frame e); command = sym (ap is_command e) })
kind-of item (Add line) e = inr
    (record { due = sym (ap (due_of item.due) e); frame = sym (ap is_frame e); command = sym (ap is_command e) })
kind-of item (Remove line) e = inr
    (record { due = sym (ap (due_of item.due) e); frame = sym (ap is_frame e); command = sym (ap is_command e) })

place-first : (is : ItemKind → Bool) (item : Item) (items : List Item) → is item.kind ≡ true →
    place_of is 0 (item ∷ items) ≡ 0
unfolding place_of
place-first is item items h = rw h refl

place-suc : (is : ItemKind → Bool) (k : ℕ) (item : Item) (items : List Item) → is item.kind ≡ true →
    place_of is (suc k) (item ∷ items) ≡ suc (place_of is k items)
unfolding place_of
place-suc is k item items h = rw h refl

place-skip : (is : ItemKind → Bool) (k : ℕ) (item : Item) (items : List Item) → is item.kind ≡ false →
    place_of is k (item ∷ items) ≡ suc (place_of is k items)
unfolding place_of
place-skip is zero item items h = rw h refl
place-skip is (suc k) item items h = rw h refl

held-frame : (ticks b i due : ℕ) (dues : List Due) →
    held ticks zero b i (frame_due due ∷ dues) ≡ (if nat_le due ticks then Some i else held ticks zero b (suc i) dues)
unfolding held
held-frame ticks zero i due dues = refl
held-frame ticks (suc b) i due dues = refl

held-frame_landed : (ticks a b i due : ℕ) (dues : List Due) →
    held ticks (suc a) b i (frame_due due ∷ dues) ≡ held ticks a b (suc i) dues
unfolding held
held-frame_landed ticks a zero i due dues = refl
held-frame_landed ticks a (suc b) i due dues = refl

held-command : (ticks a i due : ℕ) (dues : List Due) →
    held ticks a zero i (command_due due ∷ dues) ≡ (if nat_le due ticks then Some i else held ticks a zero (suc i) dues)
unfolding held
held-command ticks zero i due dues = refl
held-command ticks (suc a) i due dues = refl

held-command_landed : (ticks a b i due : ℕ) (dues : List Due) →
    held ticks a (suc b) i (command_due due ∷ dues) ≡ held ticks a b (suc i) dues
unfolding held
held-command_landed ticks zero b i due dues = refl
held-command_landed ticks (suc a) b i due dues = refl

frame_dues-client : (item : Item) (items : List Item) → IsClient item →
    frame_dues (dues_of (item ∷ items)) ≡ item.due ∷ frame_dues (dues_of items)
unfolding frame_dues
frame_dues-client item items is = ap (λ due. frame_dues (due ∷ dues_of items)) is.due

frame_dues-operator : (item : Item) (items : List Item) → IsOperator item →
    frame_dues (dues_of (item ∷ items)) ≡ frame_dues (dues_of items)
unfolding frame_dues
frame_dues-operator item items is = ap (λ due. frame_dues (due ∷ dues_of items)) is.due

command_dues-client : (item : Item) (items : List Item) → IsClient item →
    command_dues (dues_of (item ∷ items)) ≡ command_dues (dues_of items)
unfolding command_dues
command_dues-client item items is = ap (λ due. command_dues (due ∷ dues_of items)) is.due

command_dues-operator : (item : Item) (items : List Item) → IsOperator item →
    command_dues (dues_of (item ∷ items)) ≡ item.due ∷ command_dues (dues_of items)
unfolding command_dues
command_dues-operator item items is = ap (λ due. command_dues (due ∷ dues_of items)) is.due

-- where one isn't due, the next of its kind isn't
later-frame : (due ticks : ℕ) (items : List Item) → IsNonDecreasing (due ∷ frame_dues (dues_of items)) → ticks < due →
    due_by ticks (slice_get items (place_of is_frame 0 items)) ≡ false
later-frame due ticks [] order late = refl
later-frame due ticks (item ∷ items) order late =
    elim (kind-of item item.kind refl) [
      | inl client ↦ rw (place-first is_frame item items client.frame)
          (let above = first-least due item.due (frame_dues (dues_of items))
          (subst (λ dues. IsNonDecreasing (due ∷ dues)) (frame_dues-client item items client) order) in
          let e : nat_le item.due ticks ≡ false = grind (arith, above, late) in e)
      | inr operator ↦ rw (place-skip is_frame 0 item items operator.frame)
          (later-frame due ticks items (subst (λ dues. IsNonDecreasing (due ∷ dues))
          (frame_dues-operator item items operator) order) late)
    ]

later-command : (due ticks : ℕ) (items : List Item) → IsNonDecreasing (due ∷ command_dues (dues_of items)) →
    ticks < due → due_by ticks (slice_get items (place_of is_command 0 items)) ≡ false
later-command due ticks [] order late = refl
later-command due ticks (item ∷ items) order late =
    elim (kind-of item item.kind refl) [
      | inl client ↦ rw (place-skip is_command 0 item items client.command)
          (later-command due ticks items (subst (λ dues. IsNonDecreasing (due ∷ dues))
          (command_dues-client item items client) order) late)
      | inr operator ↦ rw (place-first is_command item items operator.command)
          (let above = first-least due item.due (command_dues (dues_of items))
          (subst (λ dues. IsNonDecreasing (due ∷ dues)) (command_dues-operator item items operator) order) in
          let e : nat_le item.due ticks ≡ false = grind (arith, above, late) in e)
    ]

-- that of the next frame and the next command
abbrev next_held : ℕ → ℕ → ℕ → ℕ → List Item → Option ℕ
next_held ticks a b i items =
    least_held i (place_of is_frame a items) (place_of is_command b items)
    (due_by ticks (slice_get items (place_of is_frame a items)))
    (due_by ticks (slice_get items (place_of is_command b items)))

abbrev HeldIs : ℕ → ℕ → ℕ → ℕ → List Item → Type 0
HeldIs ticks a b i items = held ticks a b i (dues_of items) ≡ next_held ticks a b i items

none-client : (i f c : ℕ) (operator : Bool) →
    least_held (suc i) f c false operator ≡ least_held i 0 (suc c) false operator
none-client i f c operator = let command : suc i + c ≡ i + suc c = omega arith in rw command refl

none-operator : (i f c : ℕ) (client : Bool) → least_held (suc i) f c client false ≡ least_held i (suc f) 0 client false
none-operator i f c false = refl
none-operator i f c true = let frame : suc i + f ≡ i + suc f = omega arith in
    rw frame (or-true (nat_lt f c) (nat_lt (suc f) 0) (Some (i + suc f)))
  where
    or-true : (x y : Bool) (o : Option ℕ) → (if x || true then o else None) ≡ (if y || true then o else None)
    or-true false false o = refl
    or-true false true o = refl
    or-true true false o = refl
    or-true true true o = refl

client-first : (ticks b i : ℕ) (item : Item) (items : List Item) → IsClient item →
    IsNonDecreasing (item.due ∷ frame_dues (dues_of items)) → HeldIs ticks zero b (suc i) items →
    HeldIs ticks zero b i (item ∷ items)
client-first ticks b i item items is order rest =
    let start : held ticks zero b i (dues_of (item ∷ items)) ≡
    (if nat_le item.due ticks then Some i else held ticks zero b (suc i) (dues_of items)) =
    ap (λ due. held ticks zero b i (due ∷ dues_of items)) is.due ∙ held-frame ticks b i item.due (dues_of items) in
    start ∙ rw (place-first is_frame item items is.frame, place-skip is_command b item items is.command)
    (elim (cases_lt ticks item.due) [
      | inr now ↦ (let e : nat_le item.due ticks ≡ true = grind (arith, now) in
          let f : nat_lt 0 (suc (place_of is_command b items)) ≡ true = grind arith in
          let g : i ≡ i + 0 = omega arith in rw (e, f) (ap Some g))
      | inl late ↦ (let e : nat_le item.due ticks ≡ false = grind (arith, late) in
          rw e (rest ∙ rw (later-frame item.due ticks items order late)
          (none-client i (place_of is_frame 0 items) (place_of is_command b items)
          (due_by ticks (slice_get items (place_of is_command b items))))))
    ])

client-landed : (ticks a b i : ℕ) (item : Item) (items : List Item) → IsClient item → HeldIs ticks a b (suc i) items →
    HeldIs ticks (suc a) b i (item ∷ items)
client-landed ticks a b i item items is rest =
    ap (λ due. held ticks (suc a) b i (due ∷ dues_of items)) is.due
    ∙ held-frame_landed ticks a b i item.due (dues_of items) ∙ rest
    ∙ sym (rw (place-suc is_frame a item items is.frame, place-skip is_command b item items is.command)
    (shifted i (place_of is_frame a items) (place_of is_command b items)
    (due_by ticks (slice_get items (place_of is_frame a items)))
    (due_by ticks (slice_get items (place_of is_command b items)))))

operator-first : (ticks a i : ℕ) (item : Item) (items : List Item) → IsOperator item →
    IsNonDecreasing (item.due ∷ command_dues (dues_of items)) → HeldIs ticks a zero (suc i) items →
    HeldIs ticks a zero i (item ∷ items)
operator-first ticks a i item items is order rest =
    let start : held ticks a zero i (dues_of (item ∷ items)) ≡
    (if nat_le item.due ticks then Some i else held ticks a zero (suc i) (dues_of items)) =
    ap (λ due. held ticks a zero i (due ∷ dues_of items)) is.due ∙ held-command ticks a i item.due (dues_of items) in
    start ∙ rw (place-skip is_frame a item items is.frame, place-first is_command item items is.command)
    (elim (cases_lt ticks item.due) [
      | inr now ↦ (let e : nat_le item.due ticks ≡ true = grind (arith, now) in
          let f : nat_lt (suc (place_of is_frame a items)) 0 ≡ false = grind arith in
          rw (e, f) (now-operator i (suc (place_of is_frame a items))
          (due_by ticks (slice_get items (place_of is_frame a items)))))
      | inl late ↦ (let e : nat_le item.due ticks ≡ false = grind (arith, late) in
          rw e (rest ∙ rw (later-command item.due ticks items order late)
          (none-operator i (place_of is_frame a items) (place_of is_command 0 items)
          (due_by ticks (slice_get items (place_of is_frame a items))))))
    ])
  where
    now-operator : (i f : ℕ) (client : Bool) →
        Some i ≡ (if client && (false || not true) then Some (i + f) else Some (i + 0))
    now-operator i f false = ap Some (let g : i ≡ i + 0 = omega arith in g)
    now-operator i f true = ap Some (let g : i ≡ i + 0 = omega arith in g)

operator-landed : (ticks a b i : ℕ) (item : Item) (items : List Item) → IsOperator item →
    HeldIs ticks a b (suc i) items → HeldIs ticks a (suc b) i (item ∷ items)
operator-landed ticks a b i item items is rest =
    ap (λ due. held ticks a (suc b) i (due ∷ dues_of items)) is.due
    ∙ held-command_landed ticks a b i item.due (dues_of items) ∙ rest
    ∙ sym (rw (place-skip is_frame a item items is.frame, place-suc is_command b item items is.command)
    (shifted i (place_of is_frame a items) (place_of is_command b items)
    (due_by ticks (slice_get items (place_of is_frame a items)))
    (due_by ticks (slice_get items (place_of is_command b items)))))

pub held-is : (items : List Item) (ticks a b i : ℕ) → IsNonDecreasing (frame_dues (dues_of items)) →
    IsNonDecreasing (command_dues (dues_of items)) → HeldIs ticks a b i items
unfolding held place_of
held-is [] ticks a b i frames commands = refl
held-is (item ∷ items) ticks a b i frames commands =
    elim (kind-of item item.kind refl) [
      | inl client ↦ (
          let order = subst IsNonDecreasing (frame_dues-client item items client) frames in
          let others = subst IsNonDecreasing (command_dues-client item items client) commands in
          on-client a client order (λ k. held-is items ticks k b (suc i)
          (rest-in_order item.due (frame_dues (dues_of items)) order) others))
      | inr operator ↦ (
          let order = subst IsNonDecreasing (command_dues-operator item items operator) commands in
          let others = subst IsNonDecreasing (frame_dues-operator item items operator) frames in
          on-operator b operator order (λ k. held-is items ticks a k (suc i) others
          (rest-in_order item.due (command_dues (dues_of items)) order)))
    ]
  where
    on-client : (a : ℕ) → IsClient item → IsNonDecreasing (item.due ∷ frame_dues (dues_of items)) →
        ((k : ℕ) → HeldIs ticks k b (suc i) items) → HeldIs ticks a b i (item ∷ items)
    on-client zero client order rest = client-first ticks b i item items client order (rest zero)
    on-client (suc a) client order rest = client-landed ticks a b i item items client (rest a)

    on-operator : (b : ℕ) → IsOperator item → IsNonDecreasing (item.due ∷ command_dues (dues_of items)) →
        ((k : ℕ) → HeldIs ticks a k (suc i) items) → HeldIs ticks a b i (item ∷ items)
    on-operator zero operator order rest = operator-first ticks a i item items operator order (rest zero)
    on-operator (suc b) operator order rest = operator-landed ticks a b i item items operator (rest b)

pub held-told : (items : List Item) (ticks a b frame command : ℕ) → IsNonDecreasing (frame_dues (dues_of items)) →
    IsNonDecreasing (command_dues (dues_of items)) →
    frame ≡ place_of is_frame a items → command ≡ place_of is_command b items →
    least_held 0 frame command (due_by ticks (slice_get items frame)) (due_by ticks (slice_get items command))
    ≡ held ticks a b 0 (dues_of items)
held-told items ticks a b frame command frames commands f c =
    ap (λ x. least_held 0 x command (due_by ticks (slice_get items x)) (due_by ticks (slice_get items command))) f
    ∙ ap (λ y. least_held 0 (place_of is_frame a items) y (due_by ticks (slice_get items (place_of is_frame a items)))
    (due_by ticks (slice_get items y))) c
    ∙ sym (held-is items ticks a b 0 frames commands)

-- ---- Items without the octets of frames land as those with them.
bare-due : (due : ℕ) (kind : ItemKind) → due_of due (bare_kind kind) ≡ due_of due kind
bare-due due (Frame octets) = refl
bare-due due (Add line) = refl
bare-due due (Remove line) = refl

pub bare-dues : (items : List Item) → dues_of (bare_items items) ≡ dues_of items
bare-dues [] = refl
bare-dues (item ∷ items) = ap (λ first. first ∷ dues_of (bare_items items)) (bare-due item.due item.kind)
    ∙ ap (λ rest. due_of item.due item.kind ∷ rest) (bare-dues items)

-- a test that doesn't see octets
pub bare-place : (is : ItemKind → Bool) → ((kind : ItemKind) → is (bare_kind kind) ≡ is kind) →
    (k : ℕ) (items : List Item) → place_of is k (bare_items items) ≡ place_of is k items
unfolding place_of
bare-place is blind k [] = refl
bare-place is blind zero (item ∷ items) =
    ap (λ b. if b then 0 else suc (place_of is zero (bare_items items))) (blind item.kind)
    ∙ ap (λ n. if is item.kind then 0 else suc n) (bare-place is blind zero items)
bare-place is blind (suc k) (item ∷ items) =
    ap (λ b. if b then suc (place_of is k (bare_items items)) else suc (place_of is (suc k) (bare_items items)))
    (blind item.kind)
    ∙ ap (λ n. if is item.kind then suc n else suc (place_of is (suc k) (bare_items items)))
    (bare-place is blind k items)
    ∙ ap (λ n. if is item.kind then suc (place_of is k items) else suc n) (bare-place is blind (suc k) items)

pub frame-blind : (kind : ItemKind) → is_frame (bare_kind kind) ≡ is_frame kind
frame-blind (Frame octets) = refl
frame-blind (Add line) = refl
frame-blind (Remove line) = refl

pub command-blind : (kind : ItemKind) → is_command (bare_kind kind) ≡ is_command kind
command-blind (Frame octets) = refl
command-blind (Add line) = refl
command-blind (Remove line) = refl
