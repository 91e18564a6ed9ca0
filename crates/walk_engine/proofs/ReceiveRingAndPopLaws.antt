-- What a receive ring holds (Has), and what a Take pops of it: popped_until, popped_line, pop_lines.
use Rattle.std.proofs.Common.{◌≡◌, ◌≢◌, ℕ, ◌+◌, ◌-◌, ◌%◌, ◌<◌, ◌≤◌, nat_lt, false, List, [], ◌∷◌, ◌++◌, length}
use Rattle.std.proofs.Common.{slice_get, slice_set, slice_index_or, Option, Some, None, refl, sym, ◌∙◌, ap, arith, inl}
use Rattle.std.proofs.Common.{inr, length-append, mod-eq_of_lt, mod-lt, option_map, length-set, zero, suc, ◌==◌, Bool}
use Rattle.std.proofs.Common.{true, is_none, is_some, IsSome, not, ◌↔◌, nat_le, map, take, ap₂, subst, if◌then◌else◌}
use Rattle.std.proofs.Common.{le-leb}
use Rattle.std.proofs.Math.Nat.{mod-add-mod, add-mod_right}
use Rattle.std.specs.Global.{Box}
use Rattle.std.proofs.lemmas.Bool.{cases_lt, cases_Bool, lt-leb}
use Rattle.std.proofs.lemmas.Option.{slice_get-map, get_or_from_slice_get, slice_get_within, same_Some}
use Rattle.law_model.proofs.ListLaws.{at-index, some-none}
use Rattle.circular_buffer.proofs.Places.{slice_get-set_same, slice_get-set_other, slice_get-append_left}
use Rattle.circular_buffer.proofs.Places.{slice_get-append_right}
use Rattle.law_model.specs.Common.{Container, Cell, path, verdict, first_open, Leg, cells, scenario_by, carried_by}
use Rattle.law_model.specs.Common.{LinePath, LineCounts, Popped, pop, popped_line, pop_lines, with_line, in_receive}
use Rattle.law_model.specs.Common.{most_ticks, longest_delay}
use Rattle.law_model.specs.declared.window_types.Window.{Window}
use Rattle.member_cells.specs.HeldPlaces.{held}
use Rattle.member_path.specs.declared.cell_numbers.signs_and_verdicts.CellSign.{CellSign}
use Rattle.member_path.specs.path_delay.Carry.{carry_cells}
use Rattle.member_path.specs.cell_numbers.SignsAsCells.{cell_with}
use Rattle.member_path.specs.path_delay.CallsOnDelayedLine.{Line, Calls, opened, carries_of, path_cells, DelayStands}
use Rattle.member_path.specs.path_delay.CallsOnDelayedLine.{with_windows, Counts as CarryCounts}
use Rattle.walk_engine.specs.Common.{Ringed, cell_in, cell_at, with_sign, count_of, Has, popped_until, is_at, calls_on}
use Rattle.walk_engine.specs.Common.{windows_on, IsNext, IsPopped, leaves_open, popped_cells as own_cells, calls_of}
use Rattle.walk_engine.specs.Common.{line_counts, HasLine, CanPop, HasPopped}
use Rattle.walk_engine.specs.walk_parts.Ringed.{IsRinged}
use Rattle.std.proofs.lemmas.List.{set-get_or, length-map, map-set, get_or-set_same, get_or-set_other}
use Rattle.std.specs.List.{position_from, range_with_len}
use Rattle.member_rows.specs.realign_rows.Gather.{with_cell, Gather, GatherStands as Gathers}
use Rattle.walk_engine.proofs.LineCarryAndSendRingLaws.{counts-here, carries, numbers, map-get, path-same}
use Rattle.law_terminal.proofs.ContainerPayloadLaws.{range-at}
use Rattle.law_walk.specs.Common.{walk_plan, CanWalk, counts_at, popped_on, popped_cells, path_on, delay_on}
use Rattle.law_walk.specs.Common.{line_cells, AreDecidedBefore, taken_by, cells_by}
use Rattle.law_walk.proofs.WalkPlanAndPoppedCellLaws.{has-paths, line-path, line-first, open-or}
use Rattle.law_walk.proofs.WalkRingAndWaitingTakeLaws.{taken-cells, popped-decides}
use Rattle.member_path.specs.failure_window.AgreeingWindows.{AgreeBelow}
use Rattle.walk_engine.proofs.WayEventAndToldSourceLaws.{set-each}

-- ---- What a receive ring holds after a carry.
-- two numbers less than r apart differ modulo r
mod-apart : (r y d : ℕ) → 0 < d → d < r → (y + d) % r ≡ y % r → ⊥
mod-apart r y d some few same =
    let a : ℕ = y % r in
    let low : a < r = mod-lt y (omega (arith, some, few)) in
    let e : (a + d) % r ≡ a = mod-add-mod y r d ∙ same in
    elim (cases_lt (a + d) r) [
      | inl under ↦ (let f : (a + d) % r ≡ a + d = mod-eq_of_lt under in absurd (omega (arith, e, f, some)))
      | inr over ↦ (
          let f : a + d ≡ (a + d - r) + r = omega (arith, over) in
          let g : (a + d) % r ≡ a + d - r = ap (λ n. n % r) f ∙ add-mod_right (a + d - r) r
          ∙ mod-eq_of_lt (let h : a + d - r < r = omega (arith, low, few) in h) in
          absurd (omega (arith, e, g, few, low, over)))
    ]

pub slot-apart : (r y given popped : ℕ) → popped ≤ y → y < given → given < popped + r → y % r ≡ given % r → ⊥
slot-apart r y given popped low under room same =
    let e : given ≡ y + (given - y) = omega (arith, under) in
    mod-apart r y (given - y) (omega (arith, under)) (omega (arith, low, under, room))
    (sym (ap (λ n. n % r) e) ∙ sym same)

pub length-with_sign : (carry : Option CellSign) (slot : ℕ) (signs : List CellSign) →
    length (with_sign carry slot signs) ≡ length signs
length-with_sign None slot signs = refl
length-with_sign (Some sign) slot signs = length-set signs slot sign

sign-other : (carry : Option CellSign) (slot k : ℕ) (signs : List CellSign) → k ≢ slot →
    slice_get (with_sign carry slot signs) k ≡ slice_get signs k
sign-other None slot k signs apart = refl
sign-other (Some sign) slot k signs apart = slice_get-set_other signs slot k sign apart

pub length-carry : (carry : Option CellSign) (place : Container) → length (carry_cells carry place) ≡ count_of carry
length-carry None place = refl
length-carry (Some sign) place = refl

module _ (signs : List CellSign) (places : List Container) (given popped : ℕ) (path : List Cell) (place : Container)
    (some : 0 < length signs) (beside : length places ≡ length signs) (room : given < popped + length signs)
    (is : given ≡ length path)
    (holds : (y : ℕ) (cell : Cell) → popped ≤ y → y < given → slice_get path y ≡ Some cell →
    cell_at signs places y ≡ cell ∷ []) where
  abbrev pub slot : ℕ
  slot = given % length signs

  earlier : (carry : Option CellSign) (y : ℕ) (cell : Cell) → popped ≤ y → y < given →
      slice_get (path ++ carry_cells carry place) y ≡ Some cell →
      cell_at (with_sign carry slot signs) (slice_set places slot place) y ≡ cell ∷ []
  earlier carry y cell low under told =
      let apart : y % length signs ≢ slot = λ same. slot-apart (length signs) y given popped low under room same in
      let size = length-with_sign carry slot signs in
      ap (λ n. cell_in (slice_get (with_sign carry slot signs) (y % n))
      (slice_get (slice_set places slot place) (y % n))) size
      ∙ ap (λ s. cell_in s (slice_get (slice_set places slot place) (y % length signs)))
      (sign-other carry slot (y % length signs) signs apart)
      ∙ ap (λ p. cell_in (slice_get signs (y % length signs)) p)
      (slice_get-set_other places slot (y % length signs) place apart)
      ∙ holds y cell low under (sym (slice_get-append_left path (carry_cells carry place) y (omega (arith, under, is)))
      ∙ told)

  last : (sign : CellSign) (y : ℕ) → y ≡ given →
      cell_at (slice_set signs slot sign) (slice_set places slot place) y ≡ cell_with sign place ∷ []
  last sign y same =
      let size = length-set signs slot sign in
      let low : slot < length signs = mod-lt given some in
      ap (λ n. cell_in (slice_get (slice_set signs slot sign) (y % n))
      (slice_get (slice_set places slot place) (y % n))) size
      ∙ ap (λ k. cell_in (slice_get (slice_set signs slot sign) (k % length signs))
      (slice_get (slice_set places slot place) (k % length signs))) same
      ∙ ap (λ s. cell_in s (slice_get (slice_set places slot place) slot)) (slice_get-set_same signs slot sign low)
      ∙ ap (λ p. cell_in (Some sign) p) (slice_get-set_same places slot place (omega (arith, low, beside)))

  told-last : (one cell : Cell) (y : ℕ) → y ≡ given → slice_get (path ++ one ∷ []) y ≡ Some cell → one ≡ cell
  told-last one cell y same told =
      let h : slice_get (path ++ one ∷ []) y ≡ Some one = slice_get-append_right path (one ∷ []) y 0
      (omega (arith, same, is)) in
      let f : Some one ≡ Some cell = sym h ∙ told in
      cc

  pub kept-holds : (carry : Option CellSign) (y : ℕ) (cell : Cell) → popped ≤ y → y < given + count_of carry →
      slice_get (path ++ carry_cells carry place) y ≡ Some cell →
      cell_at (with_sign carry slot signs) (slice_set places slot place) y ≡ cell ∷ []
  kept-holds None y cell low under told = earlier None y cell low (omega (arith, under)) told
  kept-holds (Some sign) y cell low under told =
      elim (cases_lt y given) [
        | inl before ↦ earlier (Some sign) y cell low before told
        | inr here ↦ (
            let same : y ≡ given = omega (arith, here, under) in
            last sign y same ∙ ap (λ x. x ∷ []) (told-last (cell_with sign place) cell y same told))
      ]

-- a carry more
pub has-more : (line : Ringed) (core : Line) (calls more : Calls) (carry : Option CellSign) (place : Container)
    (signs : List CellSign) (places : List Container) (count : ℕ) →
    Has line calls → 0 < length line.signs → length line.places ≡ length line.signs →
    line.given < line.popped + length line.signs →
    DelayStands core more → carries_of more ≡ carries_of calls + 1 →
    path_cells more ≡ path_cells calls ++ carry_cells carry place →
    signs ≡ with_sign carry (line.given % length line.signs) line.signs →
    places ≡ slice_set line.places (line.given % length line.signs) place → count ≡ count_of carry →
    Has (record {
      core = core;
      signs = signs;
      places = places;
      carried = line.carried + 1;
      given = line.given + count;
      popped = line.popped;
    }) more
has-more line core calls more carry place signs places count has some beside room stands next grows sign put counts =
    record {
      core = stands;
      carried = (let h = has.carried in let e : line.carried + 1 ≡ carries_of more = omega (arith, h, next) in e);
      given = (let h = has.given in let f = length-carry carry place in
          let g = length-append (path_cells calls) (carry_cells carry place) in
          let e : line.given + count ≡ length (path_cells calls ++ carry_cells carry place) =
          omega (arith, h, f, g, counts) in e ∙ sym (ap length grows));
      holds = λ y cell low under told.
          ap (λ s. cell_at s places y) sign
          ∙ ap (λ p. cell_at (with_sign carry (line.given % length line.signs) line.signs) p y) put
          ∙ kept-holds line.signs line.places line.given line.popped (path_cells calls) place some beside room has.given
          has.holds carry y cell low
          (omega (arith, under, counts)) (sym (ap (λ xs. slice_get xs y) grows) ∙ told);
    }

-- the ring holds what it held where the line gave the same cells by other calls
pub has-same : (line : Ringed) (core : Line) (calls more : Calls) → Has line calls → DelayStands core more →
    carries_of more ≡ carries_of calls → path_cells more ≡ path_cells calls →
    Has (record line { core = core }) more
has-same line core calls more has stands made same = record {
  core = stands;
  carried = has.carried ∙ sym made;
  given = has.given ∙ sym (ap length same);
  holds = λ y cell low under told. has.holds y cell low under (sym (ap (λ xs. slice_get xs y) same) ∙ told);
}

-- other windows change no count
pub ringed-same : (line : Ringed) (core : Line) (windows : List Window) → IsRinged line →
    core ≡ record line.core { windows = windows } →
    IsRinged (record line { core = core })
ringed-same line core windows is same =
    rw same (record {
      some = is.some;
      beside = is.beside;
      pops = is.pops;
      room = is.room;
      gives = is.gives;
      carries = is.carries;
      pushes = is.pushes;
      flushes = is.flushes;
      total = is.total;
      delay = is.delay;
    })

pub count-few : (carry : Option CellSign) → count_of carry ≤ 1
count-few None = omega arith
count-few (Some sign) = omega arith

-- one carry more, which gave a cell or none
pub ringed-more : (line : Ringed) (core : Line) (carry : Option CellSign) (slot pushes flushes count : ℕ)
    (signs : List CellSign) (places : List Container) → IsRinged line → CarryCounts line.core core pushes flushes →
    pushes + flushes ≡ 1 → core.pushed ≤ core.total → core.flushed ≤ core.delay + 1 →
    line.given < line.popped + length line.signs → signs ≡ with_sign carry slot line.signs →
    length places ≡ length line.places → count ≡ count_of carry →
    IsRinged (record {
      core = core;
      signs = signs;
      places = places;
      carried = line.carried + 1;
      given = line.given + count;
      popped = line.popped;
    })
ringed-more line core carry slot pushes flushes count signs places is counts one pushed flushed room put size gave =
    let same : length signs ≡ length line.signs = ap length put ∙ length-with_sign carry slot line.signs in
    let few = count-few carry in
    record {
      some = omega (arith, same, is.some);
      beside = size ∙ is.beside ∙ sym same;
      pops = omega (arith, is.pops);
      room = omega (arith, room, same, gave, few);
      gives = omega (arith, is.gives, gave, few);
      carries = omega (arith, is.carries, counts.pushed, counts.flushed, one);
      pushes = pushed;
      flushes = flushed;
      total = omega (arith, counts.total, is.total);
      delay = omega (arith, counts.delay, is.delay);
    }

-- more cells were popped
pub ringed-popped : (line after : Ringed) → IsRinged line → IsPopped line after → line.popped ≤ after.popped →
    after.popped ≤ line.given → IsRinged after
ringed-popped line after is popped more pops =
    let same = ap length popped.signs in
    let core = sym popped.core in
    record {
      some = omega (arith, same, is.some);
      beside = popped.size ∙ is.beside ∙ sym same;
      pops = omega (arith, pops, popped.given);
      room = omega (arith, is.room, more, popped.given, same);
      gives = omega (arith, is.gives, popped.given, popped.carried);
      carries = popped.carried ∙ is.carries ∙ ap (λ (core : Line). core.pushed + core.flushed) core;
      pushes = subst (λ (core : Line). core.pushed ≤ core.total) core is.pushes;
      flushes = subst (λ (core : Line). core.flushed ≤ core.delay + 1) core is.flushes;
      total = subst (λ (core : Line). core.total ≤ most_ticks) core is.total;
      delay = subst (λ (core : Line). core.delay ≤ longest_delay) core is.delay;
    }

-- the two places that change their boxes hold no cell
pub has-changed : (line : Ringed) (calls : Calls) (places : List Container) → Has line calls → 0 < length line.signs →
    line.popped ≤ line.given → line.given < line.popped + length line.signs →
    ((k : ℕ) → k ≢ line.given % length line.signs → k ≢ (line.popped + length line.signs - 1) % length line.signs →
    slice_get places k ≡ slice_get line.places k) →
    Has (record line { places = places }) calls
has-changed line calls places has some pops room others = record {
  core = has.core;
  carried = has.carried;
  given = has.given;
  holds = λ y cell low under told.
      let size : ℕ = length line.signs in
      ap (cell_in (slice_get line.signs (y % size)))
      (others (y % size) (λ same. slot-apart size y line.given line.popped low under room same)
      (λ same. slot-apart size y (line.popped + size - 1) line.popped low (omega (arith, under, room))
      (omega (arith, some)) same))
      ∙ has.holds y cell low under told;
}

-- a cell is popped, whatever its place has then
pub has-popped : (line : Ringed) (calls : Calls) (place : Container) → Has line calls → line.popped < line.given →
    line.given ≤ line.popped + length line.signs →
    Has (record line {
      places = slice_set line.places (line.popped % length line.signs) place;
      popped = line.popped + 1;
    }) calls
has-popped line calls place has more room = record {
  core = has.core;
  carried = has.carried;
  given = has.given;
  holds = λ y cell low under told.
      let size : ℕ = length line.signs in
      let apart : y % size ≢ line.popped % size =
      λ same. slot-apart size line.popped y line.popped (omega arith) (omega (arith, low))
      (omega (arith, under, room, low)) (sym same) in
      ap (cell_in (slice_get line.signs (y % size)))
      (slice_get-set_other line.places (line.popped % size) (y % size) place apart)
      ∙ has.holds y cell (omega (arith, low)) under told;
}

-- no carry
pub has-none : (core : Line) (signs : List CellSign) (places : List Container) (delay : ℕ) (windows : List Window)
    (total : ℕ) → DelayStands core (opened delay windows total) →
    Has (record { core = core; signs = signs; places = places; carried = 0; given = 0; popped = 0 })
    (opened delay windows total)
unfolding path
has-none core signs places delay windows total stands = record {
  core = stands;
  carried = refl;
  given = sym (none delay total);
  holds = λ y cell low under told. absurd (omega (arith, under));
}
  where
    none : (delay total : ℕ) → length (path_cells (opened delay windows total)) ≡ 0
    none delay total = let e : 0 - delay ≡ 0 = omega arith in let f : nat_lt total 0 ≡ false = grind arith in
        rw (e, f) refl

-- a cell that is read where it lies
pub cell-read : (signs : List CellSign) (boxes : List (Box Container)) (y len : ℕ) (sign : CellSign)
    (place : Box Container) → 0 < length signs → length boxes ≡ length signs → len ≡ length signs →
    sign ≡ slice_index_or signs (y % len) sign → place ≡ slice_index_or boxes (y % len) place →
    cell_at signs (held boxes) y ≡ cell_with sign place.value ∷ []
cell-read signs boxes y len sign place some beside size at put =
    let low : y % length signs < length signs = mod-lt y some in
    let one = at-index signs (y % length signs) sign low (at ∙ ap (λ n. slice_index_or signs (y % n) sign) size) in
    let two = at-index boxes (y % length signs) place (omega (arith, low, beside))
    (put ∙ ap (λ n. slice_index_or boxes (y % n) place) size) in
    let inside = slice_get-map (λ (b : Box Container). b.value) boxes (y % length signs)
    ∙ ap (option_map (λ (b : Box Container). b.value)) two in
    ap (λ s. cell_in s (slice_get (held boxes) (y % length signs))) one ∙ ap (λ p. cell_in (Some sign) p) inside

-- ---- What comes of popping cells of a line until it decides a row.
-- ---- the first place at which a test passes
position-low : {X : Type 0} (test : X → Bool) (xs : List X) (i k : ℕ) → k < i →
    is_at k (position_from test i xs) ≡ false
position-low test [] i k low = refl
position-low test (x ∷ xs) i k low =
    elim (cases_Bool (test x)) [
      | inl passes ↦ rw passes (grind (arith, low))
      | inr fails ↦ rw fails (position-low test xs (i + 1) k (omega (arith, low)))
    ]

position-at : {X : Type 0} (test : X → Bool) (xs : List X) (i m : ℕ) (x : X) → slice_get xs m ≡ Some x →
    ((k : ℕ) (y : X) → k < m → slice_get xs k ≡ Some y → test y ≡ false) →
    is_at (i + m) (position_from test i xs) ≡ test x
position-at test [] i m x there earlier = absurd cc
position-at test (y ∷ xs) i zero x there earlier =
    let same : y ≡ x = cc in
    elim (cases_Bool (test y)) [
      | inl passes ↦ rw passes (let e : i == i + 0 ≡ true = grind arith in e ∙ sym (ap test (sym same) ∙ passes))
      | inr fails ↦ rw fails (position-low test xs (i + 1) (i + 0) (omega arith) ∙ sym (ap test (sym same) ∙ fails))
    ]
position-at test (y ∷ xs) i (suc m) x there earlier =
    let fails = earlier 0 y (omega arith) refl in
    let up : i + suc m ≡ (i + 1) + m = omega arith in
    rw (fails, up) (position-at test xs (i + 1) m x there (λ k z low e. earlier (suc k) z (omega (arith, low)) e))

-- ---- a line whose cells are put in place of those before
pub none-some : {X : Type 0} (o : Option X) (b : Bool) → b ≡ is_none o → not b ≡ is_some o
none-some None b e = rw e refl
none-some (Some x) b e = rw e refl

pub waits-is : (cells : List (List Cell)) (line t row : ℕ) (waits : Bool) (before own : List Cell) → t ≡ row →
    waits ≡ is_at line (first_open (slice_set cells line own) t) → slice_get cells line ≡ Some before →
    ((k : ℕ) (other : List Cell) → k < line → slice_get cells k ≡ Some other → IsSome (verdict other row)) →
    waits ≡ is_none (verdict own row)
waits-is cells line t row waits before own same is there earlier =
    let low = slice_get_within cells line before there in
    is ∙ ap (λ n. is_at line (first_open (slice_set cells line own) n)) same
    ∙ ap (λ k. is_at k (first_open (slice_set cells line own) row)) (let e : line ≡ 0 + line = omega arith in e)
    ∙ position-at (λ other. is_none (verdict other row)) (slice_set cells line own) 0 line own
    (slice_get-set_same cells line own low)
    (λ k other under e. some-none (verdict other row)
    (earlier k other under (sym (slice_get-set_other cells line k own (λ same. absurd (omega (arith, same, under))))
    ∙ e)))

pub with-set : (cells : List (List Cell)) (m : ℕ) (own : List Cell) (cell : Cell) → m < length cells →
    with_cell (slice_set cells m own) m cell ≡ slice_set cells m (own ++ cell ∷ [])
with-set [] m own cell low = absurd (omega (arith, low))
with-set (x ∷ cells) zero own cell low = refl
with-set (x ∷ cells) (suc m) own cell low = ap (λ rest. x ∷ rest) (with-set cells m own cell (omega (arith, low)))

pub set-same : {X : Type 0} (xs : List X) (m : ℕ) (x : X) → slice_get xs m ≡ Some x → slice_set xs m x ≡ xs
set-same xs m x e = ap (slice_set xs m) (sym (get_or_from_slice_get xs m x x e)) ∙ set-get_or xs m x

-- ---- how many were popped
pub until-shut : (k : ℕ) (is_open : ℕ → Bool) (y : ℕ) → is_open y ≡ false → popped_until k is_open y ≡ y
unfolding popped_until
until-shut zero is_open y shut = refl
until-shut (suc k) is_open y shut = rw shut refl

pub until-none : (given : ℕ) (is_open : ℕ → Bool) (y : ℕ) → given ≤ y → popped_until (given - y) is_open y ≡ y
unfolding popped_until
until-none given is_open y all = ap (λ k. popped_until k is_open y) (let e : given - y ≡ 0 = omega (arith, all) in e)

pub until-next : (given : ℕ) (is_open : ℕ → Bool) (y : ℕ) → y < given → is_open y ≡ true →
    popped_until (given - (y + 1)) is_open (y + 1) ≡ popped_until (given - y) is_open y
unfolding popped_until
until-next given is_open y more shut =
    let e : given - y ≡ suc (given - (y + 1)) = omega (arith, more) in
    let up : y + 1 ≡ suc y = omega arith in
    ap (λ z. popped_until (given - (y + 1)) is_open z) up ∙ sym (ap (λ k. popped_until k is_open y) e ∙ rw shut refl)

-- ---- What a Take pops, by the counts.
-- ---- the counts of lines that are popped
pop-shut : (k : ℕ) (path : LinePath) (t y : ℕ) → t < path.decided y → pop k path t y ≡ y
unfolding pop
pop-shut zero path t y past = refl
pop-shut (suc k) path t y past = rw (lt-leb (path.decided y) t past) refl

-- what was popped isn't popped again
pop-again : (k : ℕ) (path : LinePath) (t y : ℕ) → pop (y + k - pop k path t y) path t (pop k path t y) ≡ pop k path t y
unfolding pop
pop-again zero path t y = ap (λ n. pop n path t y) (let e : y + 0 - y ≡ 0 = omega arith in e)
pop-again (suc k) path t y =
    elim (cases_lt t (path.decided y)) [
      | inl past ↦ rw (lt-leb (path.decided y) t past) (pop-shut (y + suc k - y) path t y past)
      | inr open' ↦ rw (le-leb (path.decided y) t open')
          (ap (λ n. pop (n - pop k path t (suc y)) path t (pop k path t (suc y)))
          (let e : y + suc k ≡ suc y + k = omega arith in e) ∙ pop-again k path t (suc y))
    ]

popped-again : (path : LinePath) (t : ℕ) (line : LineCounts) → line.popped ≤ path.given line.carried →
    popped_line path t (popped_line path t line) ≡ popped_line path t line
popped-again path t line pops =
    let k : ℕ = path.given line.carried - line.popped in
    let e : path.given line.carried ≡ line.popped + k = omega arith in
    ap (λ y. record { carried = line.carried; popped = y })
    (ap (λ n. pop (n - pop (path.given line.carried - line.popped) path t line.popped) path t
    (pop (path.given line.carried - line.popped) path t line.popped)) e
    ∙ pop-again (path.given line.carried - line.popped) path t line.popped)

popped-shut : (path : LinePath) (t : ℕ) (line : LineCounts) → t < path.decided line.popped →
    popped_line path t line ≡ line
popped-shut path t line past = ap (λ y. record { carried = line.carried; popped = y })
    (pop-shut (in_receive path line) path t line.popped past)

-- the lines before line m decide row t
abbrev Ahead : ℕ → List LinePath → List LineCounts → ℕ → Type 0
Ahead t paths lines m = (i : ℕ) (path : LinePath) → i < m → slice_get paths i ≡ Some path →
    t < path.decided (counts_at lines i).popped

-- one line, where it has been popped, and those after it
abbrev turn : ℕ → ℕ → LinePath → List LinePath → List LineCounts → LineCounts → Popped
turn t k path paths lines line =
    if nat_le (path.decided line.popped) t then record { lines = line ∷ lines; waiting = Some k } else with_line line
    (pop_lines t (suc k) paths lines)

turn-past : (t k : ℕ) (path : LinePath) (paths : List LinePath) (lines : List LineCounts) (line : LineCounts) →
    t < path.decided line.popped → turn t k path paths lines line ≡ with_line line (pop_lines t (suc k) paths lines)
turn-past t k path paths lines line past = let e = lt-leb (path.decided line.popped) t past in rw e refl

turn-open : (t k : ℕ) (path : LinePath) (paths : List LinePath) (lines : List LineCounts) (line : LineCounts) →
    path.decided line.popped ≤ t → turn t k path paths lines line ≡ record { lines = line ∷ lines; waiting = Some k }
turn-open t k path paths lines line open' = let e = le-leb (path.decided line.popped) t open' in rw e refl

shut-first : (t k : ℕ) (path : LinePath) (paths : List LinePath) (line : LineCounts) (lines : List LineCounts) →
    t < path.decided line.popped →
    pop_lines t k (path ∷ paths) (line ∷ lines) ≡ with_line line (pop_lines t (suc k) paths lines)
unfolding pop_lines
shut-first t k path paths line lines past =
    ap (turn t k path paths lines) (popped-shut path t line past) ∙ turn-past t k path paths lines line past

pops-all : (t k : ℕ) (paths : List LinePath) (lines : List LineCounts) → length lines ≡ length paths →
    Ahead t paths lines (length lines) → pop_lines t k paths lines ≡ record { lines = lines; waiting = None }
unfolding pop_lines
pops-all t k [] lines size ahead = refl
pops-all t k (path ∷ paths) [] size ahead = absurd (omega (arith, size))
pops-all t k (path ∷ paths) (line ∷ lines) size ahead =
    shut-first t k path paths line lines (ahead 0 path (omega arith) refl)
    ∙ ap (with_line line) (pops-all t (suc k) paths lines (omega (arith, size))
    (λ i p low e. ahead (suc i) p (omega (arith, low)) e))

pops-until : (t k m : ℕ) (paths : List LinePath) (lines : List LineCounts) (path : LinePath) (line : LineCounts) →
    slice_get paths m ≡ Some path → slice_get lines m ≡ Some line → Ahead t paths lines m →
    popped_line path t line ≡ line → path.decided line.popped ≤ t →
    pop_lines t k paths lines ≡ record { lines = lines; waiting = Some (k + m) }
unfolding pop_lines
pops-until t k m [] lines path line has here ahead same open' = absurd cc
pops-until t k m (p ∷ paths) [] path line has here ahead same open' = absurd cc
pops-until t k zero (p ∷ paths) (l ∷ lines) path line has here ahead same open' =
    let a : p ≡ path = cc in
    let b : l ≡ line = cc in
    let f : popped_line p t l ≡ l =
    subst (λ (x : LineCounts). popped_line p t x ≡ x) (sym b)
    (subst (λ x. popped_line x t line ≡ line) (sym a) same) in
    let g : p.decided l.popped ≤ t =
    subst (λ (x : LineCounts). p.decided x.popped ≤ t) (sym b)
    (subst (λ (x : LinePath). x.decided line.popped ≤ t) (sym a) open') in
    ap (turn t k p paths lines) f ∙ turn-open t k p paths lines l g
    ∙ ap (λ n. record { lines = l ∷ lines; waiting = Some n }) (let e : k ≡ k + 0 = omega arith in e)
pops-until t k (suc m) (p ∷ paths) (l ∷ lines) path line has here ahead same open' =
    shut-first t k p paths l lines (ahead 0 p (omega arith) refl)
    ∙ ap (with_line l) (pops-until t (suc k) m paths lines path line has here
    (λ i x low e. ahead (suc i) x (omega (arith, low)) e) same open')
    ∙ ap (λ n. record { lines = l ∷ lines; waiting = Some n }) (let e : suc k + m ≡ k + suc m = omega arith in e)

-- a line that was popped already changes nothing
pops-set : (t k m : ℕ) (paths : List LinePath) (lines : List LineCounts) (path : LinePath) (line : LineCounts) →
    slice_get paths m ≡ Some path → slice_get lines m ≡ Some line → Ahead t paths lines m →
    line.popped ≤ path.given line.carried →
    pop_lines t k paths (slice_set lines m (popped_line path t line)) ≡ pop_lines t k paths lines
unfolding pop_lines
pops-set t k m [] lines path line has here ahead fits = absurd cc
pops-set t k m (p ∷ paths) [] path line has here ahead fits = absurd cc
pops-set t k zero (p ∷ paths) (l ∷ lines) path line has here ahead fits =
    let a : p ≡ path = cc in
    let b : l ≡ line = cc in
    let same : popped_line p t (popped_line path t line) ≡ popped_line p t l =
    ap (λ x. popped_line x t (popped_line path t line)) a ∙ popped-again path t line fits
    ∙ ap₂ (λ x y. popped_line x t y) (sym a) (sym b) in
    ap (turn t k p paths lines) same
pops-set t k (suc m) (p ∷ paths) (l ∷ lines) path line has here ahead fits =
    let past = ahead 0 p (omega arith) refl in
    shut-first t k p paths l (slice_set lines m (popped_line path t line)) past
    ∙ ap (with_line l) (pops-set t (suc k) m paths lines path line has here
    (λ i x low e. ahead (suc i) x (omega (arith, low)) e) fits)
    ∙ sym (shut-first t k p paths l lines past)

-- ---- the cells that were popped
set-at : (lines : List LineCounts) (m : ℕ) (x : LineCounts) → m < length lines → counts_at (slice_set lines m x) m ≡ x
set-at lines m x low = get_or-set_same lines m x _ low

set-beside : (lines : List LineCounts) (m k : ℕ) (x : LineCounts) → (k ≡ m → ⊥) →
    counts_at (slice_set lines m x) k ≡ counts_at lines k
set-beside lines m k x apart = get_or-set_other lines m k x _ apart

map-beside : {X : Type 0} (f g : ℕ → X) (from n : ℕ) → ((k : ℕ) → from ≤ k → g k ≡ f k) →
    map g (range_with_len from n) ≡ map f (range_with_len from n)
map-beside f g from zero same = refl
map-beside f g from (suc n) same =
    ap₂ (λ x xs. x ∷ xs) (same from (omega arith)) (map-beside f g (from + 1) n (λ k low. same k (omega (arith, low))))

map-one : {X : Type 0} (f g : ℕ → X) (from n m : ℕ) (x : X) → m < n → g (from + m) ≡ x →
    ((k : ℕ) → (k ≡ from + m → ⊥) → g k ≡ f k) →
    map g (range_with_len from n) ≡ slice_set (map f (range_with_len from n)) m x
map-one f g from zero m x low here beside = absurd (omega (arith, low))
map-one f g from (suc n) zero x low here beside =
    ap₂ (λ y ys. y ∷ ys) (ap g (let e : from ≡ from + 0 = omega arith in e) ∙ here)
    (map-beside f g (from + 1) n (λ k high. beside k (λ e. omega (arith, high, e))))
map-one f g from (suc n) (suc m) x low here beside =
    let e : from + 1 + m ≡ from + suc m = omega arith in
    ap₂ (λ y ys. y ∷ ys) (beside from (λ e. omega (arith, e)))
    (map-one f g (from + 1) n m x (omega (arith, low)) (ap g e ∙ here)
    (λ k apart. beside k (λ same. apart (same ∙ sym e))))

cells-set : (leg : Leg) (lines : List LineCounts) (m : ℕ) (x : LineCounts) → m < length lines →
    m < length leg.config.windows →
    popped_cells leg (slice_set lines m x) ≡ slice_set (popped_cells leg lines) m
    (take x.popped (line_cells leg m))
cells-set leg lines m x low inside =
    let e : 0 + m ≡ m = omega arith in
    map-one (popped_on leg lines) (popped_on leg (slice_set lines m x)) 0 (length leg.config.windows) m
    (take x.popped (line_cells leg m)) inside
    (ap (popped_on leg (slice_set lines m x)) e
    ∙ ap (λ (l : LineCounts). take l.popped (line_cells leg m)) (set-at lines m x low))
    (λ k apart. ap (λ (l : LineCounts). take l.popped (line_cells leg k))
    (set-beside lines m k x (λ same. apart (same ∙ sym e))))

-- ---- a line that is popped
until-below : (k : ℕ) (is_open : ℕ → Bool) (y : ℕ) → popped_until k is_open y ≤ y + k
unfolding popped_until
until-below zero is_open y = omega arith
until-below (suc k) is_open y =
    elim (cases_Bool (is_open y)) [
      | inl e ↦ rw e (let h = until-below k is_open (suc y) in omega (arith, h))
      | inr e ↦ rw e (omega arith)
    ]

until-pops : (given k : ℕ) (is_open : ℕ → Bool) (path : LinePath) (t y : ℕ) → y + k ≤ given →
    ((z : ℕ) → z ≤ given → is_open z ≡ nat_le (path.decided z) t) → popped_until k is_open y ≡ pop k path t y
unfolding popped_until pop
until-pops given zero is_open path t y low same = refl
until-pops given (suc k) is_open path t y low same =
    ap₂ (λ b z. if b then z else y) (same y (omega (arith, low)))
    (until-pops given k is_open path t (suc y) (omega (arith, low)) same)

-- the lines before line m were popped, and decide the next row
pub record Popping (leg : Leg) (was now : List Ringed) (rows : Gather) (m : ℕ) : Type 0 where
  pub can : CanPop leg now rows
  pub before : AreDecidedBefore leg (map line_counts now) m rows.rows
  pub same : pop_lines rows.rows 0 (walk_plan leg).paths (map line_counts now) ≡ pop_lines rows.rows 0
      (walk_plan leg).paths (map line_counts was)

pub popping-none : (leg : Leg) (lines : List Ringed) (rows : Gather) → CanPop leg lines rows →
    Popping leg lines lines rows 0
popping-none leg lines rows can = record { can = can; before = λ i low. absurd (omega (arith, low)); same = refl }

ahead-of : (leg : Leg) → CanWalk leg → (t m : ℕ) (lines : List LineCounts) →
    AreDecidedBefore leg lines m t → Ahead t (walk_plan leg).paths lines m
ahead-of leg can t m lines before i path low e =
    let count = has-paths leg can in
    let inside = slice_get_within (walk_plan leg).paths i path e in
    let same : path_on leg i ≡ path =
    same_Some (path_on leg i) path (sym (line-path leg can i (omega (arith, inside, count))) ∙ e) in
    subst (λ (p : LinePath). t < p.decided (counts_at lines i).popped) same (before i low)

-- all lines decide the next row
pub popping-all : (leg : Leg) (was now : List Ringed) (rows : Gather) (m : ℕ) → length now ≤ m →
    Popping leg was now rows m → HasPopped leg was now rows None
popping-all leg was now rows m past has =
    let paths = (walk_plan leg).paths in
    let count = has-paths leg has.can.can in
    let size = has.can.size in
    let long = length-map now line_counts in
    let all = pops-all rows.rows 0 paths (map line_counts now) (omega (arith, count, size, long))
    (ahead-of leg has.can.can rows.rows (length (map line_counts now)) (map line_counts now)
    (λ i low. has.before i (omega (arith, low, long, past)))) in
    record {
      lines = has.can.lines;
      counts = sym (ap (λ (p : Popped). p.lines) all) ∙ ap (λ (p : Popped). p.lines) has.same;
      waits = sym (ap (λ (p : Popped). p.waiting) all) ∙ ap (λ (p : Popped). p.waiting) has.same;
      gathers = has.can.gathers;
    }

module _ (leg : Leg) (was now : List Ringed) (rows : Gather) (m : ℕ) (has : Popping leg was now rows m)
    (line : Ringed) (there : slice_get now m ≡ Some line) where
  inside : m < length leg.config.windows
  inside = let low = slice_get_within now m line there in let size = has.can.size in omega (arith, low, size)

  own : HasLine leg m line
  own = has.can.lines.each m line there

  here : slice_get (map line_counts now) m ≡ Some (line_counts line)
  here = map-get line_counts now m line there

  path-is : path_cells (calls_of leg m line) ≡ cells_by leg m line.carried
  path-is = path-same leg m line own ∙ ap (λ k. cells (carried_by (scenario_by leg) m) (delay_on leg m) leg.config.ticks
      (taken_by leg m line.carried) k) (carries leg m line.carried) ∙ taken-cells leg m line.carried

  pops-low : line.popped ≤ line.given
  pops-low = has.can.pops m line there

  given-is : line.given ≡ (path_on leg m).given line.carried
  given-is = (numbers leg m line (has.can.lines.each m line there)).given

  first : (y : ℕ) → y ≤ line.given → take y (path_cells (calls_of leg m line)) ≡ take y (line_cells leg m)
  first y low = ap (take y) path-is
      ∙ sym (line-first leg m line.carried y (has.can.carries m line there) (subst (λ n. y ≤ n) given-is low))

  open-is : (y : ℕ) → y ≤ line.given →
      leaves_open (path_cells (calls_of leg m line)) rows.rows y ≡ nat_le
      ((path_on leg m).decided y) rows.rows
  open-is y low =
      ap (λ own. is_none (verdict own rows.rows)) (first y low)
      ∙ open-or (verdict (take y (line_cells leg m)) rows.rows) ((path_on leg m).decided y) rows.rows
      (popped-decides leg m y rows.rows has.can.row)

  pub is-next : IsNext line (calls_of leg m line) rows (popped_cells leg (map line_counts now)) m
  is-next = record {
    has = own.has;
    gathers = has.can.gathers;
    own = map-get (popped_on leg (map line_counts now)) (range_with_len 0 (length leg.config.windows)) m m
        (range-at 0 (length leg.config.windows) m inside ∙ ap Some (let e : 0 + m ≡ m = omega arith in e))
        ∙ ap Some (ap (λ (l : LineCounts). take l.popped (line_cells leg m))
        (counts-here (map line_counts now) m (line_counts line) here) ∙ sym (first line.popped pops-low));
    before = λ i other low e.
        let within = inside in
        let near : i < length leg.config.windows = omega (arith, low, within) in
        let cell = map-get (popped_on leg (map line_counts now)) (range_with_len 0 (length leg.config.windows)) i
        i (range-at 0 (length leg.config.windows) i near ∙ ap Some (let z : 0 + i ≡ i = omega arith in z)) in
        let same : popped_on leg (map line_counts now) i ≡ other =
        some-cells (popped_on leg (map line_counts now) i) other (sym cell ∙ e) in
        subst (λ (own : List Cell). IsSome (verdict own rows.rows)) same
        ((popped-decides leg i (counts_at (map line_counts now) i).popped rows.rows has.can.row).1
        (has.before i low));
  }
    where
      some-cells : (a b : List Cell) → Some a ≡ Some b → a ≡ b
      some-cells a b e = cc

  module _ (after : Ringed) (rows' : Gather) (others : IsPopped line after) (row : rows'.rows ≡ rows.rows)
      (popped : after.popped ≡ popped_until (line.given - line.popped)
      (λ y. leaves_open (path_cells (calls_of leg m line)) rows.rows y) line.popped)
      (stays : Has after (calls_of leg m line))
      (gathers : Gathers rows' (slice_set (popped_cells leg (map line_counts now)) m
      (own_cells after (calls_of leg m line)))) where
    popped-is : after.popped ≡ pop (in_receive (path_on leg m) (line_counts line))
        (path_on leg m) rows.rows line.popped
    popped-is =
        popped ∙ until-pops line.given (line.given - line.popped)
        (λ y. leaves_open (path_cells (calls_of leg m line)) rows.rows y)
        (path_on leg m) rows.rows line.popped (let p = pops-low in omega (arith, p)) open-is
        ∙ ap (λ n. pop (n - line.popped) (path_on leg m) rows.rows line.popped) given-is

    carried-is : after.carried ≡ line.carried
    carried-is = others.carried

    counts-are : line_counts after ≡ popped_line (path_on leg m) rows.rows (line_counts line)
    counts-are = ap₂ (λ x y. record { carried = x; popped = y }) carried-is popped-is

    after-low : after.popped ≤ line.given
    after-low = let p = pops-low in
        let h = until-below (line.given - line.popped)
        (λ y. leaves_open (path_cells (calls_of leg m line)) rows.rows y) line.popped in
        omega (arith, p, h, popped)

    has-path : slice_get (walk_plan leg).paths m ≡ Some (path_on leg m)
    has-path = line-path leg has.can.can m inside

    set-is : map line_counts (slice_set now m after) ≡ slice_set (map line_counts now) m (line_counts after)
    set-is = map-set line_counts now m after

    long : m < length (map line_counts now)
    long = let e = length-map now line_counts in let low = slice_get_within now m line there in omega (arith, e, low)

    pub popped-can : CanPop leg (slice_set now m after) rows'
    popped-can = record {
      can = has.can.can;
      lines = record {
        size = length-set now m after ∙ has.can.lines.size;
        each = set-each (HasLine leg) now m after has-after has.can.lines.each;
      };
      size = length-set now m after ∙ has.can.size;
      pops = set-each (λ k (l : Ringed). l.popped ≤ l.given) now m after
          (subst (λ n. after.popped ≤ n) (sym others.given) after-low) has.can.pops;
      carries = set-each (λ k (l : Ringed). l.carried ≤ leg.config.ticks + delay_on leg k + 1) now m after
          (subst (λ n. n ≤ leg.config.ticks + delay_on leg m + 1) (sym carried-is) (has.can.carries m line there))
          has.can.carries;
      row = subst (λ t. t < leg.config.ticks) (sym row) has.can.row;
      gathers = subst (Gathers rows')
          (sym (ap (popped_cells leg) set-is
          ∙ cells-set leg (map line_counts now) m (line_counts after) long inside
          ∙ ap (slice_set (popped_cells leg (map line_counts now)) m) (sym (first after.popped after-low)))) gathers;
    }
      where
        has-after : HasLine leg m after
        has-after = record {
          has = subst (Has after)
              (ap₂ (λ n (l : Line). with_windows (calls_on leg m n) l.windows) (sym carried-is) (sym others.core)) stays;
          agrees = subst (λ (l : Line). AgreeBelow (windows_on leg m) l.windows l.pushed) (sym others.core) own.agrees;
          ring = ap length others.signs ∙ own.ring;
        }

    popped-same : pop_lines rows'.rows 0 (walk_plan leg).paths (map line_counts (slice_set now m after))
        ≡ pop_lines rows'.rows 0 (walk_plan leg).paths (map line_counts was)
    popped-same =
        ap₂ (λ t lines. pop_lines t 0 (walk_plan leg).paths lines) row
        (set-is ∙ ap (slice_set (map line_counts now) m) counts-are)
        ∙ pops-set rows.rows 0 m (walk_plan leg).paths (map line_counts now) (path_on leg m)
        (line_counts line) has-path here (ahead-of leg has.can.can rows.rows m (map line_counts now) has.before)
        (subst (λ n. line.popped ≤ n) given-is pops-low)
        ∙ has.same ∙ ap (λ t. pop_lines t 0 (walk_plan leg).paths (map line_counts was)) (sym row)

    before-is : AreDecidedBefore leg (map line_counts (slice_set now m after)) m rows'.rows
    before-is i low =
        subst (λ t. t < (path_on leg i).decided (counts_at (map line_counts (slice_set now m after)) i).popped)
        (sym row)
        (subst (λ (l : LineCounts). rows.rows < (path_on leg i).decided l.popped)
        (sym (ap (λ lines. counts_at lines i) set-is
        ∙ set-beside (map line_counts now) m i (line_counts after) (λ e. omega (arith, e, low))))
        (has.before i low))

    at-after : counts_at (map line_counts (slice_set now m after)) m ≡ line_counts after
    at-after = ap (λ lines. counts_at lines m) set-is ∙ set-at (map line_counts now) m (line_counts after) long

    decided-by : IsSome (verdict (own_cells after (calls_of leg m line)) rows.rows) ↔
        (rows.rows < (path_on leg m).decided after.popped)
    decided-by = subst (λ (own : List Cell). IsSome (verdict own rows.rows) ↔
        (rows.rows < (path_on leg m).decided after.popped)) (sym (first after.popped after-low))
        (popped-decides leg m after.popped rows.rows has.can.row)

    pub popping-next : true ≡ is_some (verdict (own_cells after (calls_of leg m line)) rows.rows) →
        Popping leg was (slice_set now m after) rows' (m + 1)
    popping-next told = record {
      can = popped-can;
      before = λ i low. elim (cases_lt i m) [
        | inl less ↦ before-is i less
        | inr least ↦
            let same : i ≡ m = omega (arith, low, least) in
            subst (λ k. rows'.rows < (path_on leg k).decided
            (counts_at (map line_counts (slice_set now m after)) k).popped) (sym same)
            (subst (λ (l : LineCounts). rows'.rows < (path_on leg m).decided l.popped) (sym at-after)
            (subst (λ t. t < (path_on leg m).decided after.popped) (sym row) (decided-by.0 (sym told))))
      ];
      same = popped-same;
    }

    pub popping-waits : false ≡ is_some (verdict (own_cells after (calls_of leg m line)) rows.rows) →
        HasPopped leg was (slice_set now m after) rows' (Some m)
    popping-waits told =
        let low : (path_on leg m).decided after.popped ≤ rows'.rows =
        elim (cases_lt rows.rows ((path_on leg m).decided after.popped)) [
          | inl past ↦ absurd (let f : false ≡ true = told ∙ decided-by.1 past in cc)
          | inr open' ↦ subst (λ t. (path_on leg m).decided after.popped ≤ t) (sym row) open'
        ] in
        let counts = map line_counts (slice_set now m after) in
        let there' : slice_get counts m ≡ Some (line_counts after) = ap (λ lines. slice_get lines m) set-is
        ∙ slice_get-set_same (map line_counts now) m (line_counts after) long in
        let again : popped_line (path_on leg m) rows'.rows (line_counts after) ≡ line_counts after =
        ap₂ (λ t l. popped_line (path_on leg m) t l) row counts-are
        ∙ popped-again (path_on leg m) rows.rows (line_counts line)
        (subst (λ n. line.popped ≤ n) given-is pops-low) ∙ sym counts-are in
        let all = pops-until rows'.rows 0 m (walk_plan leg).paths counts (path_on leg m)
        (line_counts after) has-path there' (ahead-of leg has.can.can rows'.rows m counts before-is) again
        low in
        record {
          lines = popped-can.lines;
          counts = sym (ap (λ (p : Popped). p.lines) all) ∙ ap (λ (p : Popped). p.lines) popped-same;
          waits = ap Some (let e : m ≡ 0 + m = omega arith in e) ∙ sym (ap (λ (p : Popped). p.waiting) all)
              ∙ ap (λ (p : Popped). p.waiting) popped-same;
          gathers = popped-can.gathers;
        }
