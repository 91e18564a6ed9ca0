-- The next item of a way is the frame or command that is due first (first_due); it lands, or stalls.
use Rattle.std.proofs.Common.{◌≡◌, ℕ, zero, suc, ◌==◌, ◌&&◌, ◌||◌, ◌≤◌, nat_lt, Bool, true, false, if◌then◌else◌, List}
use Rattle.std.proofs.Common.{[], ◌∷◌, length, slice_get, Option, Some, None, refl, sym, ◌∙◌, ap, arith, inl, inr, ◌+◌}
use Rattle.std.proofs.Common.{◌<◌, subst, lt-ltb, le-ltb}
use Rattle.std.specs.List.Sorted.{IsNonDecreasing}
use Rattle.std.proofs.lemmas.Bool.{cases_Bool, ltb-true, ltb-false, eqb-true}
use Rattle.law_model.specs.Common.{Due, frame_due, command_due, frame_dues, command_dues, dues_of, Leg, Plan, Counts}
use Rattle.law_model.specs.Common.{Step, step}
use Rattle.law_model.specs.declared.script_types.Item.{Item}
use Rattle.law_model.specs.declared.script_types.ItemKind.{ItemKind}
use Rattle.law_model.specs.declared.script_types.ItemKind.TheVariants.{Frame, Add, Remove}
use Rattle.terminal_group.specs.ItemPlaces.{is_frame, is_command, place_of}
use Rattle.terminal_group.specs.Landed.{Landed, next_place, there_at, due_at}
use Rattle.law_pair.specs.Common.{left_after, sooner, first_due, way_of, land_first, land_item}
use Rattle.std.specs.Prelude.{option_map, IfSome}
use Rattle.law_model.proofs.ListLaws.{rest-in_order}
use Rattle.pair_engine.specs.declared.next_items.NextItem.{NextItem}
use Rattle.pair_engine.specs.WayCalls.{due_by, due_of_next, found_by, next_in, AreInOrder, Goes}
use Rattle.law_model.specs.declared.script_types.Script.{Script}
use Rattle.law_model.specs.declared.walk_events.StallCause.{StallCause}
use Rattle.law_model.specs.declared.walk_events.StallCause.TheVariants.{Done, NotDue}
use Rattle.law_model.specs.declared.item_refusals.Refusal.{Refusal}
use Rattle.law_model.specs.session.Scenario.{packets_in}
use Rattle.walk_engine.proofs.LandedItemSteps.{land-moves}
use Rattle.law_walk.specs.Common.{walk_plan}
use Rattle.terminal_group.proofs.ItemPlaceAndHeldItemLaws.{bare-dues}
use Rattle.walk_engine.specs.Common.{landing_of, answer_by, refusal_in_event, Parts, counts_of, Makes}
use Rattle.walk_engine.specs.declared.walk_core.step_answers.Moved.{Moved}
use Rattle.walk_engine.specs.declared.walk_core.step_answers.Moved.TheVariants.{Stalled}
use Rattle.walk_engine.specs.walk_core.WayParts.{WayStands}
use Rattle.pair_engine.specs.declared.pair_way.PairWay.{PairWay}
use Rattle.pair_engine.specs.PairAfterEvent.{refusal_by, next_refusal}
use Rattle.pair_engine.specs.Ways.{way_counts, StandsAs, LandedAs}

-- ---- The next item of a way: of the next frame and the next command the one that is due first, and of equal ones the one
-- that stands first.
-- ---- the item that is number k of those of a kind: its number, and its due tick
abbrev pub up : Option (ℕ × ℕ) → Option (ℕ × ℕ)
up None = None
up (Some at) = Some (suc at.0, at.1)

-- in front of the others: itself, or one of those
abbrev pub front_of : ℕ → ℕ → (ℕ → Option (ℕ × ℕ)) → Option (ℕ × ℕ)
front_of zero due later = Some (0, due)
front_of (suc k) due later = up (later k)

unfoldable pub found_of : (ItemKind → Bool) → ℕ → List Item → Option (ℕ × ℕ)
found_of is k [] = None
found_of is k (item ∷ items) =
    if is item.kind then front_of k item.due (λ j. found_of is j items) else up (found_of is k items)

-- of a frame and a command the one that lands first
abbrev pub is_sooner : ℕ × ℕ → ℕ × ℕ → Bool
is_sooner a b = nat_lt b.1 a.1 || (b.1 == a.1 && nat_lt b.0 a.0)

abbrev pub pick : Option (ℕ × ℕ) → Option (ℕ × ℕ) → Option Due
pick None None = None
pick (Some f) None = Some (frame_due f.1)
pick None (Some c) = Some (command_due c.1)
pick (Some f) (Some c) = if is_sooner f c then Some (command_due c.1) else Some (frame_due f.1)

lt-up : (a b : ℕ) → nat_lt (suc a) (suc b) ≡ nat_lt a b
lt-up a b =
    elim (cases_Bool (nat_lt a b)) [
      | inl less ↦ let h = ltb-true a b less in let e : nat_lt (suc a) (suc b) ≡ true = grind (arith, h) in e ∙ sym less
      | inr more ↦ let h = ltb-false a b more in let e : nat_lt (suc a) (suc b) ≡ false = grind (arith, h) in
          e ∙ sym more
    ]

pick-up : (f c : Option (ℕ × ℕ)) → pick (up f) (up c) ≡ pick f c
pick-up None None = refl
pick-up (Some f) None = refl
pick-up None (Some c) = refl
pick-up (Some f) (Some c) =
    ap (λ b. if nat_lt c.1 f.1 || (c.1 == f.1 && b) then Some (command_due c.1) else Some (frame_due f.1))
    (lt-up c.0 f.0)

-- ---- a frame, or a command, in front of the others
no-tie : (d c : ℕ) (b : Bool) → Some (frame_due d) ≡ (if b && false then Some (command_due c) else Some (frame_due d))
no-tie d c true = refl
no-tie d c false = refl

front-none : (d : ℕ) (c : ℕ × ℕ) →
    Some (sooner (frame_due d) (Some (command_due c.1))) ≡ pick (Some (0, d)) (up (Some c))
front-none d c =
    elim (cases_Bool (nat_lt c.1 d)) [
      | inl less ↦ rw less refl
      | inr more ↦ let last : nat_lt (suc c.0) 0 ≡ false = grind arith in
          rw (more, last) (no-tie d c.1 (c.1 == d))
    ]

front-frame : (d : ℕ) (f c : Option (ℕ × ℕ)) → ((at : ℕ × ℕ) → f ≡ Some at → d ≤ at.1) →
    Some (sooner (frame_due d) (pick f c)) ≡ pick (Some (0, d)) (up c)
front-frame d None None late = refl
front-frame d (Some f) None late =
    let h = late f refl in
    let test : nat_lt f.1 d ≡ false = grind (arith, h) in
    rw test refl
front-frame d None (Some c) late = front-none d c
front-frame d (Some f) (Some c) late =
    let h = late f refl in
    elim (cases_Bool (is_sooner f c)) [
      | inl first ↦ rw first (front-none d c)
      | inr later ↦
          let low : f.1 ≤ c.1 = not-sooner f c later in
          let one : nat_lt f.1 d ≡ false = grind (arith, h) in
          let two : nat_lt c.1 d ≡ false = grind (arith, h, low) in
          let last : nat_lt (suc c.0) 0 ≡ false = grind arith in
          rw (later, one, two, last) (no-tie d c.1 (c.1 == d))
    ]
  where
    not-sooner : (a b : ℕ × ℕ) → is_sooner a b ≡ false → a.1 ≤ b.1
    not-sooner a b e =
        elim (cases_Bool (nat_lt b.1 a.1)) [
          | inl less ↦ absurd (let f : true ≡ false = rw less at e in cc)
          | inr more ↦ ltb-false b.1 a.1 more
        ]

front-after : (d : ℕ) (f : ℕ × ℕ) →
    Some (sooner (command_due d) (Some (frame_due f.1))) ≡ pick (up (Some f)) (Some (0, d))
front-after d f =
    elim (cases_Bool (nat_lt f.1 d)) [
      | inl less ↦
          let h = ltb-true f.1 d less in
          let one : nat_lt d f.1 ≡ false = grind (arith, h) in
          let two : (d == f.1) ≡ false = grind (arith, h) in
          rw (less, one, two) refl
      | inr more ↦
          let h = ltb-false f.1 d more in
          let last : nat_lt 0 (suc f.0) ≡ true = grind arith in
          let e : (nat_lt d f.1 || (d == f.1 && true)) ≡ true = at-most d f.1 h in
          rw (more, last, e) refl
    ]
  where
    at-most : (a b : ℕ) → a ≤ b → (nat_lt a b || (a == b && true)) ≡ true
    at-most a b low =
        elim (cases_Bool (nat_lt a b)) [
          | inl less ↦ rw less refl
          | inr more ↦
              let h = ltb-false a b more in
              let e : (a == b) ≡ true = grind (arith, h, low) in
              rw (more, e) refl
        ]

front-command : (d : ℕ) (f c : Option (ℕ × ℕ)) → ((at : ℕ × ℕ) → c ≡ Some at → d ≤ at.1) →
    Some (sooner (command_due d) (pick f c)) ≡ pick (up f) (Some (0, d))
front-command d None None late = refl
front-command d None (Some c) late =
    let h = late c refl in
    let test : nat_lt c.1 d ≡ false = grind (arith, h) in
    rw test refl
front-command d (Some f) None late = front-after d f
front-command d (Some f) (Some c) late =
    let h = late c refl in
    elim (cases_Bool (is_sooner f c)) [
      | inr later ↦ rw later (front-after d f)
      | inl first ↦
          let low : c.1 ≤ f.1 = is-sooner f c first in
          let one : nat_lt c.1 d ≡ false = grind (arith, h) in
          rw (first, one) (front-late d f (omega (arith, h, low)))
    ]
  where
    is-sooner : (a b : ℕ × ℕ) → is_sooner a b ≡ true → b.1 ≤ a.1
    is-sooner a b e =
        elim (cases_Bool (nat_lt b.1 a.1)) [
          | inl less ↦ let h = ltb-true b.1 a.1 less in omega (arith, h)
          | inr more ↦ elim (cases_Bool (b.1 == a.1)) [
            | inl same ↦ let h = eqb-true b.1 a.1 same in omega (arith, h)
            | inr other ↦ absurd (let f : false ≡ true = rw (more, other) at e in cc)
          ]
        ]

    front-late : (d : ℕ) (f : ℕ × ℕ) → d ≤ f.1 → Some (command_due d) ≡ pick (up (Some f)) (Some (0, d))
    front-late d f low =
        let test : nat_lt f.1 d ≡ false = grind (arith, low) in
        let e : Some (sooner (command_due d) (Some (frame_due f.1))) ≡ Some (command_due d) = rw test refl in
        sym e ∙ front-after d f

-- ---- due ticks never fall
up-due : (found : Option (ℕ × ℕ)) (at : ℕ × ℕ) (due : Option ℕ) →
    ((x : ℕ × ℕ) → found ≡ Some x → due ≡ Some x.1) → up found ≡ Some at → due ≡ Some at.1
up-due None at due rest e = absurd cc
up-due (Some x) at due rest e =
    let same : (suc x.0, x.1) ≡ at = cc in rest x refl ∙ ap (λ (y : ℕ × ℕ). Some y.1) same

front-due : (k due : ℕ) (later : ℕ → Option (ℕ × ℕ)) (dues : List ℕ) (at : ℕ × ℕ) →
    ((j : ℕ) (x : ℕ × ℕ) → later j ≡ Some x → slice_get dues j ≡ Some x.1) → front_of k due later ≡ Some at →
    slice_get (due ∷ dues) k ≡ Some at.1
front-due zero due later dues at rest e = let same : (0, due) ≡ at = cc in ap (λ (y : ℕ × ℕ). Some y.1) same
front-due (suc k) due later dues at rest e = up-due (later k) at (slice_get dues k) (rest k) e

frame-found : (k : ℕ) (items : List Item) (at : ℕ × ℕ) → found_of is_frame k items ≡ Some at →
    slice_get (frame_dues (dues_of items)) k ≡ Some at.1
unfolding found_of frame_dues
frame-found k [] at e = absurd cc
frame-found k (item ∷ items) at e = by item.due item.kind (λ j x is. frame-found j items x is) e
  where
    by : (due : ℕ) (kind : ItemKind) → ((j : ℕ) (x : ℕ × ℕ) → found_of is_frame j items ≡ Some x →
        slice_get (frame_dues (dues_of items)) j ≡ Some x.1) →
        found_of is_frame k (record { due = due; kind = kind } ∷ items) ≡ Some at →
        slice_get (frame_dues (dues_of (record { due = due; kind = kind } ∷ items))) k ≡ Some at.1
    by due (Frame octets) rest e =
        front-due k due (λ j. found_of is_frame j items) (frame_dues (dues_of items)) at rest e
    by due (Add line) rest e = up-due (found_of is_frame k items) at _ (rest k) e
    by due (Remove line) rest e = up-due (found_of is_frame k items) at _ (rest k) e

command-found : (k : ℕ) (items : List Item) (at : ℕ × ℕ) → found_of is_command k items ≡ Some at →
    slice_get (command_dues (dues_of items)) k ≡ Some at.1
unfolding found_of command_dues
command-found k [] at e = absurd cc
command-found k (item ∷ items) at e = by item.due item.kind (λ j x is. command-found j items x is) e
  where
    by : (due : ℕ) (kind : ItemKind) → ((j : ℕ) (x : ℕ × ℕ) → found_of is_command j items ≡ Some x →
        slice_get (command_dues (dues_of items)) j ≡ Some x.1) →
        found_of is_command k (record { due = due; kind = kind } ∷ items) ≡ Some at →
        slice_get (command_dues (dues_of (record { due = due; kind = kind } ∷ items))) k ≡ Some at.1
    by due (Frame octets) rest e = up-due (found_of is_command k items) at _ (rest k) e
    by due (Add line) rest e =
        front-due k due (λ j. found_of is_command j items) (command_dues (dues_of items)) at rest e
    by due (Remove line) rest e =
        front-due k due (λ j. found_of is_command j items) (command_dues (dues_of items)) at rest e

first-low : (due later : ℕ) (dues : List ℕ) → IsNonDecreasing (due ∷ dues) → slice_get dues 0 ≡ Some later →
    due ≤ later
first-low due later [] order e = absurd cc
first-low due later (next ∷ dues) order e =
    let same : next ≡ later = cc in
    let low : due ≤ next = order zero (suc zero) due (omega arith) (omega arith) in
    omega (arith, low, same)

-- ---- the first of all that are left
abbrev IsFirst : ℕ → ℕ → List Item → Type 0
IsFirst a b items =
    IsNonDecreasing (frame_dues (dues_of items)) → IsNonDecreasing (command_dues (dues_of items)) →
    first_due (left_after a b (dues_of items)) ≡ pick (found_of is_frame a items) (found_of is_command b items)

first-frame : (a b due : ℕ) (items : List Item) → IsNonDecreasing (due ∷ frame_dues (dues_of items)) →
    IsNonDecreasing (command_dues (dues_of items)) → ((i j : ℕ) → IsFirst i j items) →
    first_due (left_after a b (frame_due due ∷ dues_of items))
    ≡ pick (front_of a due (λ j. found_of is_frame j items)) (up (found_of is_command b items))
unfolding first_due left_after
first-frame zero b due items frames commands rest =
    ap (λ found. Some (sooner (frame_due due) found))
    (rest zero b (rest-in_order due (frame_dues (dues_of items)) frames) commands)
    ∙ front-frame due (found_of is_frame zero items) (found_of is_command b items)
    (λ at e. first-low due at.1 (frame_dues (dues_of items)) frames (frame-found zero items at e))
first-frame (suc a) b due items frames commands rest =
    rest a b (rest-in_order due (frame_dues (dues_of items)) frames) commands
    ∙ sym (pick-up (found_of is_frame a items) (found_of is_command b items))

first-command : (a b due : ℕ) (items : List Item) → IsNonDecreasing (frame_dues (dues_of items)) →
    IsNonDecreasing (due ∷ command_dues (dues_of items)) → ((i j : ℕ) → IsFirst i j items) →
    first_due (left_after a b (command_due due ∷ dues_of items))
    ≡ pick (up (found_of is_frame a items)) (front_of b due (λ j. found_of is_command j items))
unfolding first_due left_after
first-command a zero due items frames commands rest =
    ap (λ found. Some (sooner (command_due due) found))
    (rest a zero frames (rest-in_order due (command_dues (dues_of items)) commands))
    ∙ front-command due (found_of is_frame a items) (found_of is_command zero items)
    (λ at e. first-low due at.1 (command_dues (dues_of items)) commands (command-found zero items at e))
first-command a (suc b) due items frames commands rest =
    rest a b frames (rest-in_order due (command_dues (dues_of items)) commands)
    ∙ sym (pick-up (found_of is_frame a items) (found_of is_command b items))

first-here : (a b due : ℕ) (kind : ItemKind) (items : List Item) → ((i j : ℕ) → IsFirst i j items) →
    IsFirst a b (record { due = due; kind = kind } ∷ items)
unfolding found_of frame_dues command_dues
first-here a b due (Frame octets) items rest frames commands = first-frame a b due items frames commands rest
first-here a b due (Add line) items rest frames commands = first-command a b due items frames commands rest
first-here a b due (Remove line) items rest frames commands = first-command a b due items frames commands rest

pub first-is : (a b : ℕ) (items : List Item) → IsFirst a b items
unfolding first_due left_after found_of
first-is a b [] frames commands = refl
first-is a b (item ∷ items) frames commands =
    first-here a b item.due item.kind items (λ i j f c. first-is i j items f c) frames commands

-- ---- by the places of the next ones
abbrev pub place-at : (ItemKind → Bool) → ℕ → List Item → Option (ℕ × ℕ)
place-at is k items =
    if nat_lt (place_of is k items) (length items)
    then Some (place_of is k items, due_at items (place_of is k items)) else None

up-place : (item : Item) (items : List Item) (place : ℕ) →
    up (if nat_lt place (length items) then Some (place, due_at items place) else None)
    ≡ (if nat_lt (suc place) (length (item ∷ items)) then Some (suc place, due_at (item ∷ items) (suc place)) else None)
up-place item items place =
    let step = lt-up place (length items) in
    elim (cases_Bool (nat_lt place (length items))) [
      | inl low ↦ let e : nat_lt (suc place) (suc (length items)) ≡ true = step ∙ low in rw (low, e) refl
      | inr past ↦ let e : nat_lt (suc place) (suc (length items)) ≡ false = step ∙ past in rw (past, e) refl
    ]

pub found-is : (is : ItemKind → Bool) (k : ℕ) (items : List Item) → found_of is k items ≡ place-at is k items
unfolding found_of place_of
found-is is k [] = refl
found-is is zero (item ∷ items) =
    elim (cases_Bool (is item.kind)) [
      | inl own ↦ let e : nat_lt 0 (suc (length items)) ≡ true = grind arith in rw (own, e) refl
      | inr other ↦ rw other (ap up (found-is is zero items) ∙ up-place item items (place_of is zero items))
    ]
found-is is (suc k) (item ∷ items) =
    elim (cases_Bool (is item.kind)) [
      | inl own ↦ rw own (ap up (found-is is k items) ∙ up-place item items (place_of is k items))
      | inr other ↦ rw other (ap up (found-is is (suc k) items) ∙ up-place item items (place_of is (suc k) items))
    ]

-- ---- as they are found
next-is : (landed : Landed) (client : Bool) (is : ItemKind → Bool) (k : ℕ) →
    next_place landed client ≡ place_of is k landed.items → next_in landed client ≡ place-at is k landed.items
next-is landed client is k same =
    ap (λ place. option_map {U = ℕ × ℕ} (λ number. (number, due_at landed.items number)) (there_at place landed.items))
    same
    ∙ by (place_of is k landed.items)
  where
    by : (place : ℕ)
        → option_map {U = ℕ × ℕ} (λ number. (number, due_at landed.items number)) (there_at place landed.items)
        ≡ (if nat_lt place (length landed.items) then Some (place, due_at landed.items place) else None)
    by place =
        elim (cases_Bool (nat_lt place (length landed.items))) [ inl e ↦ rw e refl | inr e ↦ rw e refl ]

-- the next of all that are left, by the next of each kind
pub first-found : (landed : Landed) → AreInOrder landed.items →
    first_due (left_after landed.frames landed.commands (dues_of landed.items))
    ≡ pick (next_in landed true) (next_in landed false)
first-found landed order =
    first-is landed.frames landed.commands landed.items order.0 order.1
    ∙ ap (λ f. pick f (found_of is_command landed.commands landed.items))
    (found-is is_frame landed.frames landed.items ∙ sym (next-is landed true is_frame landed.frames refl))
    ∙ ap (pick (next_in landed true))
    (found-is is_command landed.commands landed.items
    ∙ sym (next-is landed false is_command landed.commands refl))

abbrev pub sooner_of : NextItem → NextItem → NextItem
sooner_of a b = if nat_lt b.due a.due || (b.due == a.due && nat_lt b.number a.number) then b else a

pub pick-both : (f c : NextItem) → f.client ≡ true → c.client ≡ false →
    due_of_next (Some (sooner_of f c)) ≡ pick (found_by (Some f)) (found_by (Some c))
pick-both f c client command =
    elim (cases_Bool (nat_lt c.due f.due || (c.due == f.due && nat_lt c.number f.number))) [
      | inl first ↦ rw first (ap (λ b. Some (due_by b c.due)) command)
      | inr later ↦ rw later (ap (λ b. Some (due_by b f.due)) client)
    ]

pub pick-frame : (f : NextItem) → f.client ≡ true → due_of_next (Some f) ≡ pick (found_by (Some f)) None
pick-frame f client = ap (λ b. Some (due_by b f.due)) client

pub pick-command : (c : Option NextItem) → IfSome c (λ next. next.client ≡ false) →
    due_of_next c ≡ pick None (found_by c)
pick-command None is = refl
pick-command (Some c) is = ap (λ b. Some (due_by b c.due)) is

-- ---- The next item of a way lands, or stalls.
-- ---- in numbers
first-early : (s : Counts) (client : Bool) (due : ℕ) → s.ticks < due →
    land_first (Some (due_by client due)) s ≡ record { counts = s; cause = Some (NotDue due) }
first-early s true due low = let early : nat_lt s.ticks due ≡ true = lt-ltb s.ticks due low in rw early refl
first-early s false due low = let early : nat_lt s.ticks due ≡ true = lt-ltb s.ticks due low in rw early refl

-- the item that is due first lands as the next of its kind does in a walk
first-lands : (plan : Plan) (s : Counts) (client : Bool) (due : ℕ) → due ≤ s.ticks →
    (step plan s (landing_of client)).cause ≡ None →
    (land_first (Some (due_by client due)) s ≡ record {
      counts = (step plan s (landing_of client)).counts;
      cause = None;
    })
first-lands plan s true due low e =
    let late : nat_lt s.ticks due ≡ false = le-ltb s.ticks due low in
    rw late (ap (λ (c : Counts). record { counts = c; cause = None }) (sym (land-moves s.ticks _ s
    (record s { frames = s.frames + 1 }) e)))
first-lands plan s false due low e =
    let late : nat_lt s.ticks due ≡ false = le-ltb s.ticks due low in
    rw late (ap (λ (c : Counts). record { counts = c; cause = None }) (sym (land-moves s.ticks _ s
    (record s { commands = s.commands + 1 }) e)))

refusal-is : (leg : Leg) (s : Counts) (client : Bool) (due : ℕ) →
    refusal_by leg s (Some (due_by client due)) ≡ refusal_in_event leg s (landing_of client)
refusal-is leg s true due = refl
refusal-is leg s false due = refl

-- ---- of a way
-- an item of it has landed, or not
pub record GoesOn (leg : Leg) (core : Parts) (next : Step) (why : Option Refusal) (answer : Moved) : Type 0 where
  pub stands : WayStands leg (packets_in core.sink.taken) core
  pub counts : counts_of core (packets_in core.sink.taken) ≡ next.counts
  pub moved : answer ≡ answer_by next.cause why

module _ (own : PairWay) (other : Script) (stands : StandsAs (way_of own.script other) own)
    (known : LandedAs (way_of own.script other) own) (found : Option NextItem)
    (first : AreInOrder own.landing.items → due_of_next found
    ≡ first_due (left_after own.landing.frames own.landing.commands (dues_of own.landing.items))) where
  abbrev leg : Leg
  leg = way_of own.script other

  dues-same : dues_of own.landing.items ≡ dues_of own.script.items
  dues-same = ap dues_of known.items ∙ bare-dues own.script.items

  in-order : AreInOrder own.landing.items
  in-order = (
    subst (λ dues. IsNonDecreasing (frame_dues dues)) (sym dues-same) stands.sound.items.frames,
    subst (λ dues. IsNonDecreasing (command_dues dues)) (sym dues-same) stands.sound.items.commands,
  )

  pub first-of : first_due (left_after own.live.core.source.landed.frames own.live.core.source.landed.commands
      (dues_of own.script.items)) ≡ due_of_next found
  first-of =
      sym (first in-order
      ∙ ap (λ n. first_due (left_after n own.landing.commands (dues_of own.landing.items))) known.frames
      ∙ ap (λ n. first_due (left_after own.live.core.source.landed.frames n (dues_of own.landing.items))) known.commands
      ∙ ap (λ dues. first_due (left_after own.live.core.source.landed.frames own.live.core.source.landed.commands dues))
      dues-same)

  item-step : land_item (walk_plan (way_of own.script other)) (way_counts own)
      ≡ land_first (due_of_next found) (way_counts own)
  item-step = ap (λ (due : Option Due). land_first due (way_counts own)) first-of

  -- nothing moves
  goes-same : (cause : StallCause) →
      land_item (walk_plan (way_of own.script other)) (way_counts own)
      ≡ record { counts = way_counts own; cause = Some cause } →
      Goes (way_of own.script other) own (land_item (walk_plan (way_of own.script other)) (way_counts own))
      (next_refusal (way_of own.script other) (way_counts own)) (Stalled cause)
  goes-same cause e = record {
    stands = stands;
    landed = known;
    counts = sym (ap (λ (x : Step). x.counts) e);
    moved = sym (ap (λ (x : Step). answer_by x.cause (next_refusal leg (way_counts own))) e);
  }

  pub goes-none : None ≡ found →
      Goes (way_of own.script other) own (land_item (walk_plan (way_of own.script other)) (way_counts own))
      (next_refusal (way_of own.script other) (way_counts own)) (Stalled Done)
  goes-none none = goes-same Done
      (item-step ∙ ap (λ (o : Option NextItem). land_first (due_of_next o) (way_counts own)) (sym none))

  pub goes-early : (next : NextItem) → Some next ≡ found → own.live.core.source.core.ticks < next.due →
      Goes (way_of own.script other) own (land_item (walk_plan (way_of own.script other)) (way_counts own))
      (next_refusal (way_of own.script other) (way_counts own)) (Stalled (NotDue next.due))
  goes-early next some early = goes-same (NotDue next.due)
      (item-step ∙ ap (λ (o : Option NextItem). land_first (due_of_next o) (way_counts own)) (sym some)
      ∙ first-early (way_counts own) next.client next.due early)

  pub goes-landed : (next : NextItem) → Some next ≡ found → next.due ≤ own.live.core.source.core.ticks →
      (step (walk_plan (way_of own.script other)) (way_counts own) (landing_of next.client)).cause ≡ None →
      (now : Parts) (why : Option Refusal) →
      Makes (way_of own.script other) (packets_in own.live.core.sink.taken) (landing_of next.client) own.live.core now
      (answer_by None why) → now.sink.taken ≡ own.live.core.sink.taken →
      GoesOn (way_of own.script other) now
      (land_item (walk_plan (way_of own.script other)) (way_counts own))
      (next_refusal (way_of own.script other) (way_counts own)) (answer_by None why)
  goes-landed next some late moves now why makes rows =
      let plan : Plan = walk_plan leg in
      let s : Counts = way_counts own in
      let is : land_item plan s ≡ record { counts = (step plan s (landing_of next.client)).counts; cause = None } =
      item-step ∙ ap (λ (o : Option NextItem). land_first (due_of_next o) s) (sym some)
      ∙ first-lands plan s next.client next.due late moves in
      let refuses : next_refusal leg s ≡ refusal_in_event leg s (landing_of next.client) =
      ap (refusal_by leg s) (first-of ∙ ap due_of_next (sym some)) ∙ refusal-is leg s next.client next.due in
      record {
        stands = subst (λ n. WayStands leg (packets_in n) now) (sym rows) makes.stands;
        counts = ap (λ n. counts_of now (packets_in n)) rows ∙ makes.counts ∙ sym (ap (λ (x : Step). x.counts) is);
        moved = makes.moved
            ∙ ap (λ (cause : Option StallCause). answer_by cause (refusal_in_event leg s (landing_of next.client)))
            moves
            ∙ sym (ap (λ (x : Step). answer_by x.cause (next_refusal leg s)) is ∙ ap (answer_by None) refuses);
      }
