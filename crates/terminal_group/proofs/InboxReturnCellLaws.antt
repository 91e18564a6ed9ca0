-- Return cells of an inbox that have come or are missing.
use Rattle.std.proofs.Common.{◌≡◌, ℕ, suc, ◌+◌, ◌/◌, ◌%◌, ◌==◌, ◌<◌, ◌≤◌, nat_le, true, false, List, [], ◌∷◌, ◌++◌}
use Rattle.std.proofs.Common.{map, take, drop, length, slice_get, Option, Some, None, option_map, refl, sym, ◌∙◌, ap}
use Rattle.std.proofs.Common.{subst, arith, inl, inr, is_some, length-append, drop-drop}
use Rattle.std.proofs.lemmas.Bool.{cases_Bool}
use Rattle.std.proofs.lemmas.List.{map-append, take-append-le, drop-append-le, length-map}
use Rattle.std.proofs.lemmas.Option.{slice_get-map, slice_get_within}
use Rattle.law_model.specs.Common.{BackCell, told_in, used_in}
use Rattle.terminal_source.specs.source_core.Terminal.{needed_at}
use Rattle.law_model.proofs.ListLaws.{slice_get-drop, take-next, slice_get-inside}
use Rattle.law_walk.proofs.WalkRingAndWaitingTakeLaws.{used-next}
use Rattle.terminal_group.specs.Source.{missing_by}
use Rattle.terminal_group.specs.ReturnInbox.{is_lost_in, Inbox, come_by, come_from, told_from, told_taken, with_come}
use Rattle.terminal_group.specs.ReturnInbox.{cell_for, rest_for, HasCome, Takes}

-- ---- Return cells that have come, and those that decision steps have taken.
pub come-append : (lost : List (ℕ × ℕ)) (k : ℕ) (xs ys : List BackCell) →
    come_from lost k (xs ++ ys) ≡ come_from lost k xs ++ come_from lost (k + length xs) ys
unfolding come_from
come-append lost k [] ys = ap (λ n. come_from lost n ys) (let e : k ≡ k + 0 = omega arith in e)
come-append lost k (x ∷ xs) ys =
    ap (λ rest. come_by (is_lost_in lost k) x ∷ rest)
    (come-append lost (suc k) xs ys
    ∙ ap (λ n. come_from lost (suc k) xs ++ come_from lost n ys)
    (let e : suc k + length xs ≡ k + suc (length xs) = omega arith in e))

come-one : (lost : List (ℕ × ℕ)) (k : ℕ) (cell : BackCell) →
    come_from lost k (cell ∷ []) ≡ come_by (is_lost_in lost k) cell ∷ []
unfolding come_from
come-one lost k cell = refl

pub come-length : (lost : List (ℕ × ℕ)) (k : ℕ) (xs : List BackCell) → length (come_from lost k xs) ≡ length xs
unfolding come_from
come-length lost k [] = refl
come-length lost k (x ∷ xs) = ap suc (come-length lost (suc k) xs)

-- one more has come
pub come-put : (inbox : Inbox) (received : List BackCell) (used : ℕ) (cell : BackCell) → HasCome inbox received used →
    HasCome (with_come inbox cell) (received ++ cell ∷ []) used
come-put inbox received used cell has =
    let long = length-append received (cell ∷ []) in
    let come = has.come in
    let low = has.within in
    let size = come-length inbox.lost 0 received in
    let own : List BackCell = come_by (is_lost_in inbox.lost inbox.come) cell ∷ [] in
    let next : come_from inbox.lost 0 (received ++ cell ∷ []) ≡ come_from inbox.lost 0 received ++ own =
    come-append inbox.lost 0 received (cell ∷ [])
    ∙ ap (λ n. come_from inbox.lost 0 received ++ come_from inbox.lost n (cell ∷ []))
    (let e : 0 + length received ≡ inbox.come = omega arith in e)
    ∙ ap (λ l. come_from inbox.lost 0 received ++ l) (come-one inbox.lost inbox.come cell) in
    record {
      come = omega arith;
      within = omega arith;
      cells = ap (λ l. l ++ own) has.cells
          ∙ sym (ap (drop used) next ∙ drop-append-le used (come_from inbox.lost 0 received) own (omega arith));
    }

-- the first of what has come stays
pub taken-more : (lost : List (ℕ × ℕ)) (lag ticks : ℕ) (received more : List BackCell) →
    used_in lag ticks ≤ length received →
    told_taken lost lag ticks (received ++ more) ≡ told_taken lost lag ticks received
taken-more lost lag ticks received more low =
    let size = length-map (come_from lost 0 received) told_in in
    let long = come-length lost 0 received in
    ap (take (used_in lag ticks)) (ap (map told_in) (come-append lost 0 received more)
    ∙ map-append told_in (come_from lost 0 received) (come_from lost (0 + length received) more))
    ∙ take-append-le (used_in lag ticks) (map told_in (come_from lost 0 received))
    (map told_in (come_from lost (0 + length received) more)) (omega arith)

-- ---- the return cell of a tick
first-cell : (used : ℕ) (cells : List BackCell) (cell : BackCell) → slice_get (drop used cells) 0 ≡ Some cell →
    slice_get cells used ≡ Some cell
first-cell used cells cell e = ap (slice_get cells) (let same : used ≡ used + 0 = omega arith in same)
    ∙ sym (slice_get-drop cells used 0) ∙ e

takes-some : (inbox : Inbox) (received : List BackCell) (lag ticks : ℕ) (cell : BackCell) →
    HasCome inbox received (used_in lag ticks) →
    slice_get inbox.cells 0 ≡ Some cell → used_in lag (ticks + 1) ≡ used_in lag ticks + 1 →
    is_some (needed_at lag ticks) ≡ true →
    Takes inbox (record inbox { cells = drop 1 inbox.cells }) received lag ticks (Some cell)
takes-some inbox received lag ticks cell has there more needs =
    let all : List BackCell = come_from inbox.lost 0 received in
    let at : slice_get all (used_in lag ticks) ≡ Some cell =
    first-cell (used_in lag ticks) all cell (sym (ap (λ l. slice_get l 0) has.cells) ∙ there) in
    let inside = slice_get_within all (used_in lag ticks) cell at in
    let long = come-length inbox.lost 0 received in
    let same : slice_get (map told_in all) (used_in lag ticks) ≡ Some (told_in cell) =
    slice_get-map told_in all (used_in lag ticks) ∙ ap (option_map told_in) at in
    let suc_is : used_in lag ticks + 1 ≡ suc (used_in lag ticks) = omega arith in
    record {
      come = record {
        come = has.come;
        within = omega arith;
        cells = ap (drop 1) has.cells ∙ drop-drop 1 (used_in lag ticks) all ∙ ap (λ n. drop n all) (sym more);
      };
      told = ap (λ n. take n (map told_in all)) (more ∙ suc_is)
          ∙ take-next (map told_in all) (used_in lag ticks) (told_in cell) same;
      some = sym needs;
    }

takes-none : (inbox : Inbox) (received : List BackCell) (lag ticks : ℕ) → HasCome inbox received (used_in lag ticks) →
    used_in lag (ticks + 1) ≡ used_in lag ticks → is_some (needed_at lag ticks) ≡ false →
    Takes inbox inbox received lag ticks None
takes-none inbox received lag ticks has same needs = record {
  come = subst (HasCome inbox received) (sym same) has;
  told = ap (λ n. take n (told_from inbox.lost received)) same;
  some = sym needs;
}

-- the tick takes one exactly where it needs one
pub takes : (inbox next : Inbox) (received : List BackCell) (lag ticks : ℕ) (cell : Option BackCell) →
    HasCome inbox received (used_in lag ticks) →
    (is_some (needed_at lag ticks) ≡ true → 0 < length inbox.cells) →
    cell ≡ cell_for (is_some (needed_at lag ticks)) inbox.cells →
    next ≡ record inbox { cells = rest_for (is_some (needed_at lag ticks)) inbox.cells } →
    Takes inbox next received lag ticks cell
takes inbox next received lag ticks cell has there first left =
    elim (cases_Bool (ticks % 16 == 8)) [
      | inr other ↦ none (used-next lag ticks
          ∙ rw other (let e : used_in lag ticks + 0 ≡ used_in lag ticks = omega arith in e)) (rw other refl)
      | inl place ↦ elim (cases_Bool (nat_le lag (ticks / 16))) [
        | inr early ↦ none (used-next lag ticks
            ∙ rw (place, early) (let e : used_in lag ticks + 0 ≡ used_in lag ticks = omega arith in e))
            (rw (place, early) refl)
        | inl late ↦ some (used-next lag ticks ∙ rw (place, late) refl) (rw (place, late) refl)
      ]
    ]
  where
    none : used_in lag (ticks + 1) ≡ used_in lag ticks → is_some (needed_at lag ticks) ≡ false →
        Takes inbox next received lag ticks cell
    none same needs =
        subst (λ (i : Inbox). Takes inbox i received lag ticks cell)
        (sym (left ∙ ap (λ b. record inbox { cells = rest_for b inbox.cells }) needs))
        (subst (λ (c : Option BackCell). Takes inbox inbox received lag ticks c)
        (sym (first ∙ ap (λ b. cell_for b inbox.cells) needs))
        (takes-none inbox received lag ticks has same needs))

    some : used_in lag (ticks + 1) ≡ used_in lag ticks + 1 → is_some (needed_at lag ticks) ≡ true →
        Takes inbox next received lag ticks cell
    some more needs =
        let (one, e) = slice_get-inside inbox.cells 0 (there needs) in
        subst (λ (i : Inbox). Takes inbox i received lag ticks cell)
        (sym (left ∙ ap (λ b. record inbox { cells = rest_for b inbox.cells }) needs))
        (subst (λ (c : Option BackCell). Takes inbox (record inbox { cells = drop 1 inbox.cells }) received lag ticks c)
        (sym (first ∙ ap (λ b. cell_for b inbox.cells) needs ∙ e))
        (takes-some inbox received lag ticks one has e more needs))

-- where no return cell is missing, the one that is needed is there
pub cell-there : (need : Option ℕ) (cells : List BackCell) → missing_by need cells ≡ None → is_some need ≡ true →
    0 < length cells
cell-there None cells none some = absurd cc
cell-there (Some packet) [] none some = absurd cc
cell-there (Some packet) (cell ∷ cells) none some = omega arith

-- so the tick takes one exactly where it needs one
pub cell-for : (need : Option ℕ) (cells : List BackCell) → missing_by need cells ≡ None →
    is_some (cell_for (is_some need) cells) ≡ is_some need
cell-for None cells none = refl
cell-for (Some packet) [] none = absurd cc
cell-for (Some packet) (cell ∷ cells) none = refl

-- a return cell that is missing is needed, and the inbox holds none
pub missing-some : (need : Option ℕ) (cells : List BackCell) (packet : ℕ) → missing_by need cells ≡ Some packet →
    (need ≡ Some packet) × (cells ≡ [])
missing-some None cells packet e = absurd cc
missing-some (Some other) [] packet e = (e, refl)
missing-some (Some other) (cell ∷ cells) packet e = absurd cc
