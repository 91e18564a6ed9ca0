-- The next item of a way of a pair, and what an event of the pair does in one way: a walk of it can do the same.
use Rattle.std.proofs.Common.{◌≡◌, ℕ, zero, suc, ◌≤◌, nat_lt, inl, inr, List, [], ◌∷◌, Option, Some, None, refl, ap}
use Rattle.std.proofs.Common.{arith, ◌⊎◌, ◌+◌, ◌%◌, ◌<◌, ◌==◌, ◌&&◌, nat_le, Bool, ◌-◌, if◌then◌else◌, true, false}
use Rattle.std.proofs.Common.{slice_get, sym, ◌∙◌}
use Rattle.std.specs.List.Sorted.{IsNonDecreasing}
use Rattle.std.proofs.lemmas.Bool.{ltb-true, ltb-false, cases_Bool, cases_lt}
use Rattle.std.proofs.lemmas.Option.{same_Some}
use Rattle.law_model.proofs.ListLaws.{rest-in_order}
use Rattle.law_model.specs.Common.{Due, frame_due, command_due, frame_dues, command_dues, LineCounts, Plan}
use Rattle.law_model.specs.Common.{Counts, Step, in_return, moved, stalled, land_due, accept, command, carry, pop_lines}
use Rattle.law_model.specs.Common.{take_popped, is_back_full, take_row, run}
use Rattle.law_progress.proofs.EventOutcomeLaws.{carry-gives}
use Rattle.law_progress.proofs.RoundProgressAndDrainLaws.{Lands, Leads, run-none}
use Rattle.law_pair.specs.Common.{left_after, tick_of, sooner, first_due, landed, land_first, land_item, take_said}
use Rattle.law_pair.specs.Common.{take_one}
use Rattle.law_model.specs.declared.walk_events.Event.TheVariants.{Command, Accept, Carry, Back, Take}
use Rattle.law_model.specs.declared.walk_events.StallCause.TheVariants.{NotDue, BackEmpty}
use Rattle.law_model.specs.session.Scenario.{packets_in}
use Rattle.law_model.specs.session.Counts.{back}
use Rattle.law_progress.specs.Progress.{sum_lines, made}

-- ---- The next item of a way: where it is due the next of its kind is, and where the next of some kind is due it is.
-- ---- the first of each kind
-- where some due tick of the rest is no later than a tick, the first isn't either
first-lands : (ticks due : ℕ) (dues : List ℕ) → IsNonDecreasing (due ∷ dues) → Lands ticks dues zero → due ≤ ticks
first-lands ticks due [] order lands = absurd (let e : None ≡ Some lands.0 = lands.1 in cc)
first-lands ticks due (next ∷ dues) order lands =
    let same : Some next ≡ Some lands.0 = lands.1 in
    let e : next ≡ lands.0 = cc in
    let above : due ≤ next = order zero (suc zero) due (omega arith) (omega arith) in
    let now = lands.2 in
    omega arith

-- ---- the one that is due first
-- where the one of its kind is due first, it is no later than a later one
kind-first : (kind : ℕ → Due) (first due : ℕ) (dues : List ℕ) (found : Option Due) →
    ((n : ℕ) → tick_of (kind n) ≡ n) → IsNonDecreasing (first ∷ dues) →
    (found ≡ Some (kind due) → Lands due dues zero) → sooner (kind first) found ≡ kind due → first ≤ due
kind-first kind first due dues None tick order again e =
    let same = ap tick_of e in let a = tick first in let b = tick due in omega (arith, same, a, b)
kind-first kind first due dues (Some other) tick order again e =
    elim (cases_Bool (nat_lt (tick_of other) (tick_of (kind first)))) [
      | inl less ↦
          let g : other ≡ kind due = rw less at e in
          first-lands due first dues order (again (ap Some g))
      | inr more ↦
          let g : kind first ≡ kind due = rw more at e in
          let same = ap tick_of g in let a = tick first in let b = tick due in omega (arith, same, a, b)
    ]

-- where one of another kind is due first, it stands later
kind-later : (item due : Due) (dues : List ℕ) (a tick : ℕ) (found : Option Due) → (item ≡ due → ⊥) →
    (found ≡ Some due → Lands tick dues a) → sooner item found ≡ due → Lands tick dues a
kind-later item due dues a tick None other again e = absurd (other e)
kind-later item due dues a tick (Some found) other again e =
    elim (cases_Bool (nat_lt (tick_of found) (tick_of item))) [
      | inl less ↦ let g : found ≡ due = rw less at e in again (ap Some g)
      | inr more ↦ absurd (other (rw more at e))
    ]

frame-other : (a b : ℕ) → frame_due a ≡ command_due b → ⊥
frame-other a b e = absurd cc

command-other : (a b : ℕ) → command_due a ≡ frame_due b → ⊥
command-other a b e = absurd cc

pub frame-lands : (a b due : ℕ) (items : List Due) → IsNonDecreasing (frame_dues items) →
    first_due (left_after a b items) ≡ Some (frame_due due) → Lands due (frame_dues items) a
unfolding first_due left_after frame_dues
frame-lands a b due [] order e = absurd cc
frame-lands zero b due (frame_due first ∷ items) order e =
    let left = first_due (left_after zero b items) in (
      first,
      refl,
      kind-first (λ n. frame_due n) first due (frame_dues items) left (λ n. refl) order
          (λ f. frame-lands zero b due items (rest-in_order first (frame_dues items) order) f)
          (same_Some (sooner (frame_due first) left) (frame_due due) e),
    )
frame-lands (suc a) b due (frame_due first ∷ items) order e =
    frame-lands a b due items (rest-in_order first (frame_dues items) order) e
frame-lands a zero due (command_due first ∷ items) order e =
    let left = first_due (left_after a zero items) in
    kind-later (command_due first) (frame_due due) (frame_dues items) a due left (command-other first due)
    (λ f. frame-lands a zero due items order f) (same_Some (sooner (command_due first) left) (frame_due due) e)
frame-lands a (suc b) due (command_due first ∷ items) order e = frame-lands a b due items order e

pub command-lands : (a b due : ℕ) (items : List Due) → IsNonDecreasing (command_dues items) →
    first_due (left_after a b items) ≡ Some (command_due due) → Lands due (command_dues items) b
unfolding first_due left_after command_dues
command-lands a b due [] order e = absurd cc
command-lands zero b due (frame_due first ∷ items) order e =
    let left = first_due (left_after zero b items) in
    kind-later (frame_due first) (command_due due) (command_dues items) b due left (frame-other first due)
    (λ f. command-lands zero b due items order f) (same_Some (sooner (frame_due first) left) (command_due due) e)
command-lands (suc a) b due (frame_due first ∷ items) order e = command-lands a b due items order e
command-lands a zero due (command_due first ∷ items) order e =
    let left = first_due (left_after a zero items) in (
      first,
      refl,
      kind-first (λ n. command_due n) first due (command_dues items) left (λ n. refl) order
          (λ f. command-lands a zero due items (rest-in_order first (command_dues items) order) f)
          (same_Some (sooner (command_due first) left) (command_due due) e),
    )
command-lands a (suc b) due (command_due first ∷ items) order e =
    command-lands a b due items (rest-in_order first (command_dues items) order) e

-- ---- an item that is left is no sooner than the one that is due first
abbrev pub IsDueBy : ℕ → Option Due → Type 0
IsDueBy ticks found = (due : Due) × (found ≡ Some due) × (tick_of due ≤ ticks)

sooner-here : (ticks : ℕ) (item : Due) (found : Option Due) → tick_of item ≤ ticks →
    IsDueBy ticks (Some (sooner item found))
sooner-here ticks item None low = (item, refl, low)
sooner-here ticks item (Some other) low =
    elim (cases_Bool (nat_lt (tick_of other) (tick_of item))) [
      | inl less ↦ let h = ltb-true (tick_of other) (tick_of item) less in rw less (other, refl, omega (arith, h, low))
      | inr more ↦ rw more (item, refl, low)
    ]

sooner-rest : (ticks : ℕ) (item : Due) (found : Option Due) → IsDueBy ticks found →
    IsDueBy ticks (Some (sooner item found))
sooner-rest ticks item None has = absurd (let e : None ≡ Some has.0 = has.1 in cc)
sooner-rest ticks item (Some other) has =
    let e : Some other ≡ Some has.0 = has.1 in
    let same : other ≡ has.0 = cc in
    let tick : tick_of other ≡ tick_of has.0 = ap tick_of same in
    let low = has.2 in
    elim (cases_Bool (nat_lt (tick_of other) (tick_of item))) [
      | inl less ↦ rw less (other, refl, omega (arith, tick, low))
      | inr more ↦ let h = ltb-false (tick_of other) (tick_of item) more in
          rw more (item, refl, omega (arith, h, tick, low))
    ]

pub frame-due : (a b ticks : ℕ) (items : List Due) → Lands ticks (frame_dues items) a →
    IsDueBy ticks (first_due (left_after a b items))
unfolding first_due left_after frame_dues
frame-due a b ticks [] lands = absurd (let e : None ≡ Some lands.0 = lands.1 in cc)
frame-due zero b ticks (frame_due first ∷ items) lands =
    let e : Some first ≡ Some lands.0 = lands.1 in
    let same : first ≡ lands.0 = cc in
    let low = lands.2 in
    sooner-here ticks (frame_due first) (first_due (left_after zero b items)) (omega (arith, same, low))
frame-due (suc a) b ticks (frame_due first ∷ items) lands = frame-due a b ticks items lands
frame-due a zero ticks (command_due first ∷ items) lands =
    sooner-rest ticks (command_due first) (first_due (left_after a zero items)) (frame-due a zero ticks items lands)
frame-due a (suc b) ticks (command_due first ∷ items) lands = frame-due a b ticks items lands

pub command-due : (a b ticks : ℕ) (items : List Due) → Lands ticks (command_dues items) b →
    IsDueBy ticks (first_due (left_after a b items))
unfolding first_due left_after command_dues
command-due a b ticks [] lands = absurd (let e : None ≡ Some lands.0 = lands.1 in cc)
command-due zero b ticks (frame_due first ∷ items) lands =
    sooner-rest ticks (frame_due first) (first_due (left_after zero b items)) (command-due zero b ticks items lands)
command-due (suc a) b ticks (frame_due first ∷ items) lands = command-due a b ticks items lands
command-due a zero ticks (command_due first ∷ items) lands =
    let e : Some first ≡ Some lands.0 = lands.1 in
    let same : first ≡ lands.0 = cc in
    let low = lands.2 in
    sooner-here ticks (command_due first) (first_due (left_after a zero items)) (omega (arith, same, low))
command-due a (suc b) ticks (command_due first ∷ items) lands = command-due a b ticks items lands

-- ---- What an event of a pair does in one way: a walk of that way can do it, it counts more or changes nothing, and what
-- moves in the walk moves here.
-- what is counted of a way but its ticks and return packets
abbrev pub way_made : Counts → ℕ
way_made s = s.frames + s.commands + sum_lines s.lines + s.rows

abbrev pub HasSaid : Counts → Type 0
HasSaid s = s.backs ≡ packets_in s.rows

-- an event leads from counts to others, which are the same or more, by events of the walk that make no tick
pub record OneWay (plan : Plan) (s next : Counts) : Type 0 where
  pub leads : Leads plan s next
  pub ticks : next.ticks ≡ s.ticks
  pub said : HasSaid next

abbrev pub Grows : Counts → Counts → Type 0
Grows s next = (next ≡ s) ⊎ (way_made s < way_made next)

pub leads-none : (plan : Plan) (s : Counts) → Leads plan s s
leads-none plan s = ([], sym (run-none plan s))

stays : (plan : Plan) (s : Counts) → HasSaid s → OneWay plan s s
stays plan s said = record { leads = leads-none plan s; ticks = refl; said = said }

-- ---- Item
abbrev pub AreInOrder : Plan → Type 0
AreInOrder plan = IsNonDecreasing (frame_dues plan.items) × IsNonDecreasing (command_dues plan.items)

in-time : (s next : Counts) (due k : ℕ) (dues : List ℕ) → Lands due dues k → due ≤ s.ticks →
    next ≡ (land_due s.ticks (slice_get dues k) s next).counts
in-time s next due k dues lands now =
    let low = lands.2 in
    let on_time : nat_lt s.ticks lands.0 ≡ false = grind (arith, low, now) in
    sym (ap (λ found. (land_due s.ticks found s next).counts) lands.1
    ∙ ap (λ (early : Bool). (if early then stalled s (NotDue lands.0) else moved next).counts) on_time)

accept-leads : (plan : Plan) (s : Counts) (due : ℕ) → Lands due (frame_dues plan.items) s.frames → due ≤ s.ticks →
    Leads plan s (landed (frame_due due) s)
unfolding run
accept-leads plan s due lands now =
    (Accept ∷ [], in-time s (landed (frame_due due) s) due s.frames (frame_dues plan.items) lands now)

command-leads : (plan : Plan) (s : Counts) (due : ℕ) → Lands due (command_dues plan.items) s.commands →
    due ≤ s.ticks → Leads plan s (landed (command_due due) s)
unfolding run
command-leads plan s due lands now =
    (Command ∷ [], in-time s (landed (command_due due) s) due s.commands (command_dues plan.items) lands now)

module _ (plan : Plan) (s : Counts) where
  -- ---- Item
  abbrev next_item : Option Due
  next_item = first_due (left_after s.frames s.commands plan.items)

  pub item-leads : AreInOrder plan → HasSaid s → OneWay plan s (land_item plan s).counts
  item-leads order said = by next_item refl
    where
      lands : (item : Due) → next_item ≡ Some item → tick_of item ≤ s.ticks → OneWay plan s (landed item s)
      lands (frame_due due) is now = record {
        leads = accept-leads plan s due (frame-lands s.frames s.commands due plan.items order.0 is) now;
        ticks = refl;
        said = said;
      }
      lands (command_due due) is now = record {
        leads = command-leads plan s due (command-lands s.frames s.commands due plan.items order.1 is) now;
        ticks = refl;
        said = said;
      }

      by : (found : Option Due) → next_item ≡ found → OneWay plan s (land_first found s).counts
      by None is = stays plan s said
      by (Some item) is =
          elim (cases_Bool (nat_lt s.ticks (tick_of item))) [
            | inl early ↦ rw early (stays plan s said)
            | inr late ↦ rw late (lands item is (ltb-false s.ticks (tick_of item) late))
          ]

  landed-more : (item : Due) → way_made s < way_made (landed item s)
  landed-more (frame_due due) = omega arith
  landed-more (command_due due) = omega arith

  pub item-grows : Grows s (land_item plan s).counts
  item-grows = by next_item
    where
      by : (found : Option Due) → Grows s (land_first found s).counts
      by None = inl refl
      by (Some item) = elim (cases_Bool (nat_lt s.ticks (tick_of item))) [
        | inl e ↦ rw e (inl refl)
        | inr e ↦ rw e (inr (landed-more item))
      ]

  -- an item that is due moves
  due-moves : (found : Option Due) → IsDueBy s.ticks found → ((land_first found s).cause ≡ None)
      × (way_made s < way_made (land_first found s).counts)
  due-moves None has = absurd (let e : None ≡ Some has.0 = has.1 in cc)
  due-moves (Some item) has =
      let e : Some item ≡ Some has.0 = has.1 in
      let same : item ≡ has.0 = cc in
      let tick : tick_of item ≡ tick_of has.0 = ap tick_of same in
      let low = has.2 in
      let late : nat_lt s.ticks (tick_of item) ≡ false = grind (arith, tick, low) in
      rw late (refl, landed-more item)

  landed-due : (found : Option ℕ) (next : Counts) → (land_due s.ticks found s next).cause ≡ None →
      (due : ℕ) × (found ≡ Some due) × (due ≤ s.ticks)
  landed-due None next moves = absurd cc
  landed-due (Some due) next moves =
      elim (cases_Bool (nat_lt s.ticks due)) [
        | inl early ↦ absurd (let e : (stalled s (NotDue due)).cause ≡ None = rw early at moves in cc)
        | inr late ↦ (due, refl, ltb-false s.ticks due late)
      ]

  pub accept-moves : (accept plan s).cause ≡ None → ((land_item plan s).cause ≡ None)
      × (way_made s < way_made (land_item plan s).counts)
  accept-moves moves =
      due-moves next_item (frame-due s.frames s.commands s.ticks plan.items
      (landed-due (slice_get (frame_dues plan.items) s.frames) (record s { frames = s.frames + 1 }) moves))

  pub command-moves : (command plan s).cause ≡ None → ((land_item plan s).cause ≡ None)
      × (way_made s < way_made (land_item plan s).counts)
  command-moves moves =
      due-moves next_item (command-due s.frames s.commands s.ticks plan.items
      (landed-due (slice_get (command_dues plan.items) s.commands) (record s { commands = s.commands + 1 }) moves))

  -- ---- Carry
  abbrev KeepsLines : Step → Type 0
  KeepsLines next = next.counts ≡ record s { lines = next.counts.lines }

  carry-keeps : (m : ℕ) → KeepsLines (carry plan s m)
  carry-keeps m = carry-gives KeepsLines plan s m (λ cause. refl) (λ line. refl)

  pub carry-leads : (m : ℕ) → HasSaid s → OneWay plan s (carry plan s m).counts
  unfolding run
  carry-leads m said =
      let keeps = carry-keeps m in
      record {
        leads = (Carry m ∷ [], refl);
        ticks = ap (λ (c : Counts). c.ticks) keeps;
        said = ap (λ (c : Counts). c.backs) keeps ∙ said
            ∙ sym (ap (λ (c : Counts). packets_in c.rows) keeps);
      }

  pub carry-more : (m : ℕ) → made s < made (carry plan s m).counts → way_made s < way_made (carry plan s m).counts
  carry-more m more =
      let keeps = carry-keeps m in
      let a = ap made keeps in
      let b = ap way_made keeps in
      omega (arith, more, a, b)

  -- ---- Take
  full-none : HasSaid s → is_back_full s ≡ false
  full-none said =
      let none : nat_le 4 (in_return s) ≡ false = grind (arith, said) in
      ap (λ c. nat_le 23 s.rows && s.rows % 16 == 7 && c) none ∙ and_false (nat_le 23 s.rows && s.rows % 16 == 7)
    where
      and_false : (b : Bool) → (b && false) ≡ false
      and_false true = refl
      and_false false = refl

  -- a row is taken by Take, and by a Back where it ends a return packet
  taken-leads : (lines : List LineCounts) → HasSaid s →
      (take_row plan s) ≡ moved (record s { lines = lines; rows = s.rows + 1 }) →
      Leads plan s (record s { lines = lines; rows = s.rows + 1; backs = packets_in (s.rows + 1) })
  unfolding run
  taken-leads lines said is =
      let next = record s { lines = lines; rows = s.rows + 1 } in
      elim (cases_lt (packets_in s.rows) (packets_in (s.rows + 1))) [
        | inr same ↦
            let e : packets_in (s.rows + 1) ≡ s.backs = omega (arith, same, said) in (
              Take ∷ [],
              ap (λ n. record s { lines = lines; rows = s.rows + 1; backs = n }) e
                  ∙ sym (ap (λ (c : Step). c.counts) is),
            )
        | inl more ↦
            let e : packets_in (s.rows + 1) ≡ s.backs + 1 = omega (arith, more, said) in
            let some : nat_le (packets_in (s.rows + 1) - s.backs) 0 ≡ false = grind (arith, e) in (
              Take ∷ Back ∷ [],
              ap (λ n. record s { lines = lines; rows = s.rows + 1; backs = n }) e
                  ∙ sym (ap (λ (c : Step). (back c.counts).counts) is
                  ∙ ap (λ (none : Bool). (if none then stalled next BackEmpty
                  else moved (record next { backs = next.backs + 1 })).counts) some),
            )
      ]

  pub take-leads : HasSaid s → OneWay plan s (take_one plan s).counts
  unfolding run
  take-leads said =
      let room = full-none said in
      elim (cases_Bool (nat_le plan.ticks s.rows)) [
        | inl e ↦ rw e (stays plan s said)
        | inr e ↦ rw e (by (pop_lines s.rows 0 plan.paths s.lines).lines
            (pop_lines s.rows 0 plan.paths s.lines).waiting
            (rw (e, room) refl))
      ]
    where
      by : (lines : List LineCounts) (waiting : Option ℕ) → take_row plan s ≡ take_popped s lines waiting →
          OneWay plan s (take_said s lines waiting).counts
      by lines (Some line) is = record {
        leads = (Take ∷ [], sym (ap (λ (c : Step). c.counts) is));
        ticks = refl;
        said = said;
      }
      by lines None is = record { leads = taken-leads lines said is; ticks = refl; said = refl }

  -- the two counts of a Take differ in return packets alone
  pub record TakesAs : Type 0 where
    pub lines : (take_one plan s).counts.lines ≡ (take_row plan s).counts.lines
    pub cause : (take_one plan s).cause ≡ (take_row plan s).cause
    pub grows : made s < made (take_row plan s).counts → way_made s < way_made (take_one plan s).counts
    pub same : (take_row plan s).counts ≡ s → (take_one plan s).counts ≡ s

  pub take-as : HasSaid s → TakesAs
  take-as said =
      let room = full-none said in
      elim (cases_Bool (nat_le plan.ticks s.rows)) [
        | inl e ↦ record {
          lines = rw e refl;
          cause = rw e refl;
          grows = rw e (λ more. absurd (omega (arith, more)));
          same = rw e (λ f. f);
        }
        | inr e ↦
            let lines = (pop_lines s.rows 0 plan.paths s.lines).lines in
            let waiting = (pop_lines s.rows 0 plan.paths s.lines).waiting in
            record {
              lines = rw (e, room) (as_lines lines waiting);
              cause = rw (e, room) (as_cause lines waiting);
              grows = rw (e, room) (as_grows lines waiting);
              same = rw (e, room) (as_same lines waiting);
            }
      ]
    where
      as_lines : (lines : List LineCounts) (waiting : Option ℕ) →
          (take_said s lines waiting).counts.lines ≡ (take_popped s lines waiting).counts.lines
      as_lines lines (Some line) = refl
      as_lines lines None = refl

      as_cause : (lines : List LineCounts) (waiting : Option ℕ) →
          (take_said s lines waiting).cause ≡ (take_popped s lines waiting).cause
      as_cause lines (Some line) = refl
      as_cause lines None = refl

      as_grows : (lines : List LineCounts) (waiting : Option ℕ) →
          made s < made (take_popped s lines waiting).counts →
          way_made s < way_made (take_said s lines waiting).counts
      as_grows lines (Some line) more = omega (arith, more)
      as_grows lines None more = omega (arith, more)

      as_same : (lines : List LineCounts) (waiting : Option ℕ) → (take_popped s lines waiting).counts ≡ s →
          (take_said s lines waiting).counts ≡ s
      as_same lines (Some line) f = f
      as_same lines None f = let g : s.rows + 1 ≡ s.rows = ap (λ (c : Counts). c.rows) f in absurd (omega (arith, g))

  -- ---- Back: nothing waits
  pub back-none : HasSaid s → (back s).cause ≡ None → ⊥
  back-none said moves =
      let none : nat_le (in_return s) 0 ≡ true = grind (arith, said) in
      let e : (stalled s BackEmpty).cause ≡ None = rw none at moves in cc
