-- The text of a check line by line (unused_among, idle_among), and the early frames that it counts.
use Rattle.std.proofs.Common.{◌≡◌, ℕ, ◌+◌, ◌<◌, ◌≤◌, List, [], ◌∷◌, ◌++◌, map, filter, length, take, get_or, sym, ◌∙◌}
use Rattle.std.proofs.Common.{ap, ap₂, Bool, true, false, Option, refl, arith, append_assoc, append-nil, length-append}
use Rattle.std.proofs.Common.{suc, ◌-◌, ◌&&◌, nat_lt, cond, drop, inl, inr}
use Rattle.std.specs.Prelude.{if◌then◌else◌, is_none}
use Rattle.std.proofs.lemmas.Bool.{lt-ltb, cases_Bool}
use Rattle.std.specs.List.{flat_map, range_with_len}
use Rattle.std.proofs.lemmas.List.{map-append, length-map, take_more}
use Rattle.std.proofs.lemmas.List.Concat.{flat_map-append}
use Rattle.std.proofs.lemmas.List.Elements.{filter-append}
use Rattle.law_model.proofs.ListLaws.{filter-few, range-more}
use Rattle.law_model.specs.declared.window_types.Window.{Window}
use Rattle.law_model.specs.session.Leg.{Leg}
use Rattle.law_model.specs.session.Scenario.{scenario_by}
use Rattle.law_walk.specs.Walk.{session_of}
use Rattle.fate_check.specs.UsedLines.{is_unused, unused_among}
use Rattle.fate_check.specs.IdleWindows.{is_idle, idle_among, idle_on}
use Rattle.fate_check.specs.declared.check_lines.Found.{Found}
use Rattle.fate_check.specs.CheckText.{idle_text, early_text, early_if_any}
use Rattle.law_model.specs.declared.script_types.Item.{Item}
use Rattle.law_model.specs.Common.{Counts}
use Rattle.law_walk.specs.Common.{Numbered, is_client, with_if, landed_from, landed_items, refusal_at}
use Rattle.law_walk.proofs.LandedItemRefusalAndTotalLaws.{landed-few}
use Rattle.fate_walks.proofs.CursorAndRulerLaws.{landed-other}
use Rattle.fate_walks.specs.declared.walk_frames.landed_cursor.LandedFrame.{LandedFrame}
use Rattle.fate_walks.specs.walk_frames.ItemCursor.{Cursor, frames_before_item, frames_left, IsAt, IsNext, IsPast}
use Rattle.fate_check.specs.EarlyFrames.{is_before, is_early}

-- ---- How the text goes on: a line more, a failure more, an item more.
-- a list that grows at its end: how long it is, and its text behind others
pub grown : {X : Type 0} (f : X → List ℕ) (xs ys all : List X) → all ≡ xs ++ ys →
    (length all ≡ length xs + length ys)
    × ((before : List ℕ) → before ++ flat_map f xs ++ flat_map f ys ≡ before ++ flat_map f all)
grown f xs ys all is = (
  ap length is ∙ length-append xs ys,
  λ before. append_assoc before (flat_map f xs) (flat_map f ys)
      ∙ ap (λ l. before ++ l) (sym (flat_map-append f xs ys) ∙ ap (flat_map f) (sym is)),
)

-- ---- lines that are unused
pub unused-more : (leg : Leg) (rows n : ℕ) →
    unused_among leg rows (range_with_len 0 (n + 1))
    ≡ unused_among leg rows (range_with_len 0 n) ++ unused_among leg rows (n ∷ [])
unused-more leg rows n =
    ap (unused_among leg rows) (range-more n)
    ∙ filter-append (is_unused (scenario_by leg) (session_of leg) rows) (range_with_len 0 n) (n ∷ [])

-- ---- failures that are idle
abbrev pub text_of : ℕ × Window → List ℕ
text_of failure = idle_text failure.0 failure.1

-- one more of the failures of a line
pub window-more : (leg : Leg) (rows line : ℕ) (windows : List Window) (i : ℕ) (d : Window) → i < length windows →
    idle_among leg rows line (take (i + 1) windows)
    ≡ idle_among leg rows line (take i windows) ++ idle_among leg rows line (get_or windows i d ∷ [])
window-more leg rows line windows i d low =
    let test = is_idle (scenario_by leg) (session_of leg) rows line in
    let own : Window → ℕ × Window = λ (window : Window). (line, window) in
    let one = get_or windows i d ∷ [] in
    ap (idle_among leg rows line) (take_more windows i d low)
    ∙ ap (map own) (filter-append test (take i windows) one)
    ∙ map-append own (filter test (take i windows)) (filter test one)

-- line by line
abbrev pub idle_before : Leg → ℕ → ℕ → List (ℕ × Window)
idle_before leg rows n = flat_map (idle_on leg rows) (range_with_len 0 n)

pub lines-more : (leg : Leg) (rows n : ℕ) →
    idle_before leg rows (n + 1) ≡ idle_before leg rows n ++ idle_on leg rows n
lines-more leg rows n =
    ap (flat_map (idle_on leg rows)) (range-more n)
    ∙ flat_map-append (idle_on leg rows) (range_with_len 0 n) (n ∷ [])
    ∙ ap (λ l. idle_before leg rows n ++ l) (append-nil (idle_on leg rows n))

-- ---- one that is told, or isn't
pub filter-one : {X : Type 0} (test : X → Bool) (x : X) (b : Bool) → test x ≡ b →
    filter test (x ∷ []) ≡ (if b then x ∷ [] else [])
filter-one test x b is = rw is refl

pub idle-one : (leg : Leg) (rows line : ℕ) (window : Window) (b : Bool) →
    is_idle (scenario_by leg) (session_of leg) rows line window ≡ b →
    idle_among leg rows line (window ∷ []) ≡ (if b then (line, window) ∷ [] else [])
idle-one leg rows line window b is = rw is (only b)
  where
    only : (b : Bool) → map {B = ℕ × Window} (λ (window : Window). (line, window)) (if b then window ∷ [] else [])
        ≡ (if b then (line, window) ∷ [] else [])
    only true = refl
    only false = refl

pub text-none : {X : Type 0} (f : X → List ℕ) (xs : List X) (before : List ℕ) → xs ≡ [] →
    before ≡ before ++ flat_map f xs
text-none f xs before none = sym (ap (λ l. before ++ flat_map f l) none ∙ append-nil before)

pub text-one : {X : Type 0} (f : X → List ℕ) (xs : List X) (x : X) (before own : List ℕ) → xs ≡ x ∷ [] → own ≡ f x →
    before ++ own ≡ before ++ flat_map f xs
text-one f xs x before own one is =
    ap (λ l. before ++ l) (is ∙ sym (append-nil (f x))) ∙ sym (ap (λ l. before ++ flat_map f l) one)

pub one-idle-at-most : (leg : Leg) (rows line : ℕ) (window : Window) →
    length (idle_among leg rows line (window ∷ [])) ≤ 1
one-idle-at-most leg rows line window =
    let test = is_idle (scenario_by leg) (session_of leg) rows line in
    let own : Window → ℕ × Window = λ (window : Window). (line, window) in
    omega (arith, filter-few test (window ∷ []), length-map (filter test (window ∷ [])) own)

-- ---- early frames, if there are any
pub early-none : (frames : ℕ) (row : Option ℕ) → frames ≡ 0 → early_if_any frames row ≡ []
early-none frames row none = ap (λ n. early_if_any n row) none

pub early-some : (frames : ℕ) (row : Option ℕ) → 0 < frames → early_if_any frames row ≡ early_text frames row
early-some frames row some = rw (lt-ltb 0 frames some) refl

-- ---- how much of each kind
abbrev found_by : ℕ → ℕ → ℕ → ℕ → Found
found_by unused idle early kept_out = record { unused = unused; idle = idle; early = early; refused = kept_out }

pub same-found : {a a2 b b2 d d2 e e2 : ℕ} → a ≡ a2 → b ≡ b2 → d ≡ d2 → e ≡ e2 → found_by a b d e ≡ found_by a2 b2 d2 e2
same-found {a} {a2} {b} {b2} {d} {d2} {e} {e2} one two three four =
    ap₂ (λ x y. found_by x y d e) one two ∙ ap₂ (λ x y. found_by a2 b2 x y) three four

-- ---- The frames that are early, one after another of those that have landed.
landed-client : (a b i : ℕ) (item : Item) (items : List Item) → is_client item.kind ≡ true →
    landed_from a b i (item ∷ items)
    ≡ with_if (nat_lt 0 a) (record { number = i; item = item }) (landed_from (a - 1) b (suc i) items)
unfolding landed_from
landed-client a b i item items client = rw client refl

-- ---- commands don't count
module _ (leg : Leg) (row : Option ℕ) where
  abbrev test : Numbered → Bool
  test item = is_early leg row item

  other-fails : (item : Numbered) → is_client item.item.kind ≡ false → test item ≡ false
  other-fails item other = rw other refl

  with-skips : (there : Bool) (item : Numbered) (rest : List Numbered) → test item ≡ false →
      filter test (with_if there item rest) ≡ filter test rest
  with-skips true item rest fails = rw fails refl
  with-skips false item rest fails = refl

  with-same : (there : Bool) (item : Numbered) (xs ys : List Numbered) → filter test xs ≡ filter test ys →
      filter test (with_if there item xs) ≡ filter test (with_if there item ys)
  with-same true item xs ys same = ap (λ l. cond (test item) (item ∷ l) l) same
  with-same false item xs ys same = same

  commands-none : (a b i : ℕ) (items : List Item) →
      filter test (landed_from a b i items) ≡ filter test (landed_from a 0 i items)
  unfolding landed_from
  commands-none a b i [] = refl
  commands-none a b i (item ∷ items) =
      let own : Numbered = record { number = i; item = item } in
      elim (cases_Bool (is_client item.kind)) [
        | inl client ↦ ap (filter test) (landed-client a b i item items client)
            ∙ with-same (nat_lt 0 a) own (landed_from (a - 1) b (suc i) items) (landed_from (a - 1) 0 (suc i) items)
            (commands-none (a - 1) b (suc i) items)
            ∙ sym (ap (filter test) (landed-client a 0 i item items client))
        | inr other ↦ ap (filter test) (landed-other a b i item items other)
            ∙ with-skips (nat_lt 0 b) own (landed_from a (b - 1) (suc i) items) (other-fails own other)
            ∙ commands-none a (b - 1) (suc i) items
            ∙ sym (ap (filter test) (landed-other a 0 i item items other))
      ]

-- ---- the frames so far are counted
pub record EarlyCounted (leg : Leg) (s : Counts) (row : Option ℕ) (cursor : Cursor) (early : ℕ) : Type 0 where
  pub at : IsAt leg s cursor
  pub sum : early + length (filter (is_early leg row) (frames_left leg cursor))
      ≡ length (filter (is_early leg row) (landed_items leg s))

pub early-begun : (leg : Leg) (s : Counts) (row : Option ℕ) (cursor : Cursor) → IsAt leg s cursor → cursor.item ≡ 0 →
    EarlyCounted leg s row cursor 0
early-begun leg s row cursor at first =
    let before : frames_before_item leg cursor.item ≡ 0 = ap (frames_before_item leg) first in
    let all : s.frames ≡ cursor.left = omega (arith, at.left, before) in
    let same : filter (is_early leg row) (landed_items leg s) ≡ filter (is_early leg row) (frames_left leg cursor) =
    commands-none leg row s.frames s.commands 0 leg.items
    ∙ ap (λ n. filter (is_early leg row) (landed_from n 0 0 leg.items)) all
    ∙ ap (λ i. filter (is_early leg row) (landed_from cursor.left 0 i (drop i leg.items))) (sym first) in
    record { at = at; sum = omega (arith, ap length same) }

-- one more
counted : (test : Numbered → Bool) (item : Numbered) (items : List Numbered) (b : Bool) → test item ≡ b →
    length (filter test (item ∷ items)) ≡ (if b then 1 else 0) + length (filter test items)
counted test item items true is = rw is (omega arith)
counted test item items false is = rw is (omega arith)

found-test : (leg : Leg) (row : Option ℕ) (was now : Cursor) (found : LandedFrame) (next : IsNext leg was now found) →
    is_early leg row (record { number = found.number; item = next.item })
    ≡ (is_none found.refusal && is_before row found.due)
found-test leg row was now found next =
    let own : Numbered = record { number = found.number; item = next.item } in
    ap (λ kind. (is_client kind && is_none (refusal_at leg own)) && is_before row next.item.due) next.kind
    ∙ ap₂ (λ why due. is_none why && is_before row due) (sym next.refusal) (sym next.due)

pub early-next : (leg : Leg) (s : Counts) (row : Option ℕ) (was now : Cursor) (found : LandedFrame) (early after : ℕ)
    (b : Bool) (next : IsNext leg was now found) → IsAt leg s now → b ≡ (is_none found.refusal && is_before row found.due) →
    after ≡ early + (if b then 1 else 0) → EarlyCounted leg s row was early → EarlyCounted leg s row now after
early-next leg s row was now found early after b next at is more come =
    let own : Numbered = record { number = found.number; item = next.item } in
    let rest = ap (λ l. length (filter (is_early leg row) l)) next.rest in
    let one = counted (is_early leg row) own (frames_left leg now) b (found-test leg row was now found next ∙ sym is) in
    let sum = come.sum in
    record { at = at; sum = omega (arith, rest, one, sum, more) }

pub early-past : (leg : Leg) (s : Counts) (row : Option ℕ) (cursor : Cursor) (early : ℕ) →
    EarlyCounted leg s row cursor early → IsPast leg s cursor →
    early ≡ length (filter (is_early leg row) (landed_items leg s))
early-past leg s row cursor early come past =
    omega (arith, ap (λ l. length (filter (is_early leg row) l)) past.none, come.sum)

-- ---- there are few
pub early-few : (leg : Leg) (s : Counts) (row : Option ℕ) (cursor : Cursor) (early : ℕ) →
    EarlyCounted leg s row cursor early → early < 4294967295
early-few leg s row cursor early come =
    omega (
      arith,
      come.sum,
      filter-few (is_early leg row) (landed_items leg s),
      landed-few s.frames s.commands 0 leg.items,
      come.at.sound.few,
    )
