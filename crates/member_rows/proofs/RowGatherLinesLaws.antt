-- The lines of a row gather: which are decided, the governing packets, one cell or one row later.
use Rattle.std.proofs.Common.{◌≡◌, ℕ, zero, suc, ◌+◌, ◌<◌, ◌≤◌, true, false, inl, inr, List, [], ◌∷◌, length, drop}
use Rattle.std.proofs.Common.{slice_get, slice_set, Some, None, refl, sym, ◌∙◌, ap, arith, is_none, ◌-◌, ◌*◌, ◌/◌, ◌%◌}
use Rattle.std.proofs.Common.{nat_lt, ◌++◌, map, replicate, Option, ap₂, IsSome, ltb-true, ltb-false, lt-ltb, le-ltb}
use Rattle.std.proofs.Common.{subst, length-append}
use Rattle.std.specs.List.{position_from}
use Rattle.std.proofs.lemmas.Bool.{cases_Bool, cases_lt, false≢true, cases_eq}
use Rattle.std.proofs.lemmas.Option.{slice_get_within, slice_get-map}
use Rattle.law_model.specs.Common.{Container, Cell, verdict, read_packet, read_packets, governing, first_open}
use Rattle.member_path.specs.cell_numbers.Numbers.{IsOpen, is_open}
use Rattle.member_path.proofs.LineNumbersAfterCellLaws.{open-test, open-verdict, passed-decided, whole-place}
use Rattle.member_rows.specs.realign_rows.Line.{Line, LineStands}
use Rattle.member_rows.specs.realign_rows.Gather.{decided_lines, with_cell, Gather, GatherStands}
use Rattle.law_model.specs.declared.control_packet.Packet.{Packet}
use Rattle.law_line.proofs.DecidedPacketAndRowLaws.{packets_stay}
use Rattle.member_rows.specs.realign_rows.BegunNibbles.{packet_at}
use Rattle.member_rows.specs.realign_rows.LineByLine.{AreRead, AreNew, ArePassed}
use Rattle.check_nibbles.proofs.CellsInStepLaws.{slice_get-append}
use Rattle.std.specs.Prelude.{option_map}
use Rattle.std.specs.Global.{Box}
use Rattle.std.proofs.lemmas.List.{length-replicate, map-set, length-set}
use Rattle.member_cells.specs.HeldPlaces.{held}
use Rattle.law_model.proofs.ListLaws.{slice_get-inside}

-- ---- How many lines are decided before the first one that is not.
pub decided-most : (lines : List Line) → decided_lines lines ≤ length lines
decided-most [] = omega arith
decided-most (line ∷ lines) =
    elim (cases_Bool (is_open line.numbers)) [
      | inl open' ↦ rw open' (omega arith)
      | inr shut ↦ rw shut (let rest = decided-most lines in omega arith)
    ]

-- those before are decided, and the one there is not
pub decided-before : (lines : List Line) (m : ℕ) (line : Line) → m < decided_lines lines →
    slice_get lines m ≡ Some line → is_open line.numbers ≡ false
decided-before [] m line low e = absurd (omega arith)
decided-before (x ∷ lines) zero line low e =
    elim (cases_Bool (is_open x.numbers)) [
      | inl open' ↦ absurd (let low' = rw open' at low in omega arith)
      | inr shut ↦ ap (λ line. is_open line.numbers) (let same : line ≡ x = cc in same) ∙ shut
    ]
decided-before (x ∷ lines) (suc m) line low e =
    elim (cases_Bool (is_open x.numbers)) [
      | inl open' ↦ absurd (let low' = rw open' at low in omega arith)
      | inr shut ↦ decided-before lines m line (let low' = rw shut at low in omega arith) e
    ]

pub decided-here : (lines : List Line) (line : Line) → slice_get lines (decided_lines lines) ≡ Some line →
    is_open line.numbers ≡ true
decided-here [] line e = absurd cc
decided-here (x ∷ lines) line e =
    elim (cases_Bool (is_open x.numbers)) [
      | inl open' ↦ ap (λ line. is_open line.numbers)
          (let here : slice_get (x ∷ lines) 0 ≡ Some line = rw open' at e in let same : line ≡ x = cc in same) ∙ open'
      | inr shut ↦ decided-here lines line (rw shut at e)
    ]

pub decided-shut : (lines : List Line) (m : ℕ) (line : Line) → decided_lines lines ≡ length lines →
    slice_get lines m ≡ Some line → IsOpen line.numbers → ⊥
decided-shut lines m line all here open' =
    let within = slice_get_within lines m line here in
    false≢true (sym (decided-before lines m line (omega arith) here) ∙ open-test line.numbers open')

-- ---- a line that has changed
pub decided-split : (lines : List Line) (m : ℕ) → m ≤ decided_lines lines →
    decided_lines lines ≡ m + decided_lines (drop m lines)
decided-split lines zero low = omega arith
decided-split [] (suc m) low = absurd (omega arith)
decided-split (line ∷ lines) (suc m) low =
    elim (cases_Bool (is_open line.numbers)) [
      | inl open' ↦ absurd (let low' = rw open' at low in omega arith)
      | inr shut ↦ rw shut (let rest = decided-split lines m (let low' = rw shut at low in omega arith) in omega arith)
    ]

pub decided-set : (lines : List Line) (m : ℕ) (line : Line) → m ≤ decided_lines lines →
    m ≤ decided_lines (slice_set lines m line)
decided-set lines zero line low = omega arith
decided-set [] (suc m) line low = low
decided-set (x ∷ lines) (suc m) line low =
    elim (cases_Bool (is_open x.numbers)) [
      | inl open' ↦ absurd (let low' = rw open' at low in omega arith)
      | inr shut ↦ rw shut (let rest =
          decided-set lines m line (let low' = rw shut at low in omega arith) in omega arith)
    ]

pub decided-set-later : (lines : List Line) (m : ℕ) (line : Line) → decided_lines lines < m →
    decided_lines (slice_set lines m line) ≡ decided_lines lines
decided-set-later lines zero line low = absurd (omega arith)
decided-set-later [] (suc m) line low = refl
decided-set-later (x ∷ lines) (suc m) line low =
    elim (cases_Bool (is_open x.numbers)) [
      | inl open' ↦ rw open' refl
      | inr shut ↦ rw shut (ap suc (decided-set-later lines m line (let low' = rw shut at low in omega arith)))
    ]

-- the first one that was not decided has changed
pub decided-again : (lines : List Line) (m : ℕ) (line : Line) → m ≡ decided_lines lines →
    m + decided_lines (drop m (slice_set lines m line)) ≡ decided_lines (slice_set lines m line)
decided-again lines m line same =
    sym (decided-split (slice_set lines m line) m (decided-set lines m line (omega arith)))

-- or another one that was not
pub decided-kept : (lines : List Line) (m : ℕ) (line before : Line) → (m ≡ decided_lines lines → ⊥) →
    slice_get lines m ≡ Some before → IsOpen before.numbers →
    decided_lines lines ≡ decided_lines (slice_set lines m line)
decided-kept lines m line before other here open' =
    elim (cases_lt m (decided_lines lines)) [
      | inl low ↦ absurd (false≢true (sym (decided-before lines m before low here) ∙ open-test before.numbers open'))
      | inr high ↦ sym (decided-set-later lines m line (omega arith))
    ]

-- ---- the first line whose cells don't decide the next row
abbrev pub EachStands : List Line → List Container → List (List Cell) → ℕ → Type 0
EachStands lines places cells t = (m : ℕ) (line : Line) (place : Container) (own : List Cell) →
    slice_get lines m ≡ Some line → slice_get places m ≡ Some place → slice_get cells m ≡ Some own →
    LineStands line place own t

pub first-here : (lines : List Line) (places : List Container) (cells : List (List Cell)) (t i : ℕ) →
    length lines ≡ length cells → length places ≡ length lines → EachStands lines places cells t →
    decided_lines lines < length lines →
    position_from (λ own. is_none (verdict own t)) i cells ≡ Some (i + decided_lines lines)
first-here [] places cells t i size sizes each low = absurd (omega arith)
first-here (line ∷ lines) places [] t i size sizes each low = absurd (omega arith)
first-here (line ∷ lines) [] (own ∷ cells) t i size sizes each low = absurd (omega arith)
first-here (line ∷ lines) (place ∷ places) (own ∷ cells) t i size sizes each low =
    let same : is_open line.numbers ≡ is_none (verdict own t) =
    open-verdict line.numbers place own t (each 0 line place own refl refl refl).numbers in
    elim (cases_Bool (is_open line.numbers)) [
      | inl open' ↦ rw (sym same, open') (ap Some (let e : i ≡ i + 0 = omega arith in e))
      | inr shut ↦
          rw (sym same, shut)
          (first-here lines places cells t (i + 1) (omega arith) (omega arith) (λ m. each (suc m))
          (let low' = rw shut at low in omega arith)
          ∙ ap Some (let e : i + 1 + decided_lines lines ≡ i + suc (decided_lines lines) = omega arith in e))
    ]

pub first-none : (lines : List Line) (places : List Container) (cells : List (List Cell)) (t i : ℕ) →
    length lines ≡ length cells → length places ≡ length lines → EachStands lines places cells t →
    decided_lines lines ≡ length lines → position_from (λ own. is_none (verdict own t)) i cells ≡ None
first-none [] places [] t i size sizes each all = refl
first-none [] places (own ∷ cells) t i size sizes each all = absurd (omega arith)
first-none (line ∷ lines) places [] t i size sizes each all = absurd (omega arith)
first-none (line ∷ lines) [] (own ∷ cells) t i size sizes each all = absurd (omega arith)
first-none (line ∷ lines) (place ∷ places) (own ∷ cells) t i size sizes each all =
    let same : is_open line.numbers ≡ is_none (verdict own t) =
    open-verdict line.numbers place own t (each 0 line place own refl refl refl).numbers in
    elim (cases_Bool (is_open line.numbers)) [
      | inl open' ↦ absurd (let all' = rw open' at all in omega arith)
      | inr shut ↦ rw (sym same, shut)
          (first-none lines places cells t (i + 1) (omega arith) (omega arith) (λ m. each (suc m))
          (let all' = rw shut at all in omega arith))
    ]

-- ---- The packets that govern the next row, one cell or one row later.
-- ---- by line
none-map : (cells : List (List Cell)) (t : ℕ) → nat_lt t 24 ≡ true →
    map (λ own. let none : Option Packet = None in none) cells ≡ map (λ own. packet_at own t) cells
none-map [] t early = refl
none-map (own ∷ cells) t early = ap₂ (λ packet packets. packet ∷ packets) (rw early refl) (none-map cells t early)

read-map : (cells : List (List Cell)) (t : ℕ) → nat_lt t 24 ≡ false →
    read_packets cells ((t - 24) / 16) ≡ map (λ own. packet_at own t) cells
read-map [] t late = refl
read-map (own ∷ cells) t late = ap₂ (λ packet packets. packet ∷ packets) (rw late refl) (read-map cells t late)

pub governing-map : (cells : List (List Cell)) (t : ℕ) → governing cells t ≡ map (λ own. packet_at own t) cells
governing-map cells t =
    elim (cases_Bool (nat_lt t 24)) [
      | inl early ↦ (let first : governing cells t ≡ map (λ own. None) cells = rw early refl in first)
          ∙ none-map cells t early
      | inr late ↦ (let first : governing cells t ≡ read_packets cells ((t - 24) / 16) = rw late refl in first)
          ∙ read-map cells t late
    ]

pub governing-none : (count : ℕ) → governing (replicate count []) 0 ≡ replicate count None
governing-none zero = refl
governing-none (suc count) = ap (λ packets. None ∷ packets) (governing-none count)

-- ---- one cell more
packet-stays : (own : List Cell) (cell : Cell) (t : ℕ) → ((s : ℕ) → s < t → IsSome (verdict own s)) →
    packet_at (own ++ cell ∷ []) t ≡ packet_at own t
packet-stays own cell t decided =
    elim (cases_Bool (nat_lt t 24)) [
      | inl early ↦ rw early refl
      | inr late ↦
          let high = ltb-false t 24 late in
          let k : ℕ = (t - 24) / 16 in
          rw late (packets_stay own (cell ∷ []) k (decided (16 * k + 23) (omega arith)))
    ]

map-with_cell : (cells : List (List Cell)) (m t : ℕ) (cell : Cell) →
    ((own : List Cell) → slice_get cells m ≡ Some own → (s : ℕ) → s < t → IsSome (verdict own s)) →
    map (λ own. packet_at own t) (with_cell cells m cell) ≡ map (λ own. packet_at own t) cells
map-with_cell [] m t cell decided = refl
map-with_cell (own ∷ cells) zero t cell decided =
    ap (λ packet. packet ∷ map (λ own. packet_at own t) cells) (packet-stays own cell t (decided own refl))
map-with_cell (own ∷ cells) (suc m) t cell decided =
    ap (λ packets. packet_at own t ∷ packets) (map-with_cell cells m t cell decided)

pub governing-with_cell : (cells : List (List Cell)) (m t : ℕ) (cell : Cell) →
    ((own : List Cell) → slice_get cells m ≡ Some own → (s : ℕ) → s < t → IsSome (verdict own s)) →
    governing (with_cell cells m cell) t ≡ governing cells t
governing-with_cell cells m t cell decided =
    governing-map (with_cell cells m cell) t ∙ map-with_cell cells m t cell decided ∙ sym (governing-map cells t)

-- ---- one row more
same-packet : (own : List Cell) (t : ℕ) → ((t + 1) % 16 ≡ 8 → ⊥) → packet_at own (t + 1) ≡ packet_at own t
same-packet own t other =
    elim (cases_Bool (nat_lt t 24)) [
      | inl early ↦
          let low = ltb-true t 24 early in
          rw (early, lt-ltb (t + 1) 24 (omega arith)) refl
      | inr late ↦
          let high = ltb-false t 24 late in
          rw (late, le-ltb (t + 1) 24 (omega arith))
          (ap (read_packet own) (let e : (t + 1 - 24) / 16 ≡ (t - 24) / 16 = omega arith in e))
    ]

same-map : (cells : List (List Cell)) (t : ℕ) → ((t + 1) % 16 ≡ 8 → ⊥) →
    map (λ own. packet_at own (t + 1)) cells ≡ map (λ own. packet_at own t) cells
same-map [] t other = refl
same-map (own ∷ cells) t other =
    ap₂ (λ packet packets. packet ∷ packets) (same-packet own t other) (same-map cells t other)

pub governing-same : (cells : List (List Cell)) (t : ℕ) → ((t + 1) % 16 ≡ 8 → ⊥) →
    governing cells (t + 1) ≡ governing cells t
governing-same cells t other = governing-map cells (t + 1) ∙ same-map cells t other ∙ sym (governing-map cells t)

-- where a packet ends with the row, it is read on each line
read-all : (lines : List Line) (places : List Container) (packets : List (Option Packet)) (cells : List (List Cell))
    (t : ℕ) → length lines ≡ length cells → length places ≡ length lines →
    AreRead (length lines) lines packets → EachStands lines places cells t → t % 16 ≡ 8 →
    packets ≡ map (λ own. packet_at own t) cells
read-all [] places [] [] t size sizes are each last = refl
read-all [] places (p ∷ packets) [] t size sizes are each last = absurd (let s = are.size in omega arith)
read-all [] places packets (own ∷ cells) t size sizes are each last = absurd (omega arith)
read-all (line ∷ lines) places packets [] t size sizes are each last = absurd (omega arith)
read-all (line ∷ lines) [] packets (own ∷ cells) t size sizes are each last = absurd (omega arith)
read-all (line ∷ lines) (place ∷ places) [] (own ∷ cells) t size sizes are each last =
    absurd (let s = are.size in omega arith)
read-all (line ∷ lines) (place ∷ places) (p ∷ packets) (own ∷ cells) t size sizes are each last =
    ap₂ (λ packet packets. packet ∷ packets)
    (are.read 0 line p (omega arith) refl refl place own t (each 0 line place own refl refl refl) last)
    (read-all lines places packets cells t (omega arith) (omega arith)
    (record {
      size = (let s = are.size in omega arith);
      read =
          λ m line packet low. are.read (suc m) line packet (omega arith);
    })
    (λ m. each (suc m)) last)

pub governing-read : (lines : List Line) (places : List Container) (packets : List (Option Packet))
    (cells : List (List Cell)) (t : ℕ) → length lines ≡ length cells → length places ≡ length lines →
    AreRead (length lines) lines packets → EachStands lines places cells t → t % 16 ≡ 8 → packets ≡ governing cells t
governing-read lines places packets cells t size sizes are each last =
    read-all lines places packets cells t size sizes are each last ∙ sym (governing-map cells t)

-- ---- What is kept of all lines, one cell or one row later.
-- ---- no cell came
last-one : {X : Type 0} (xs : List X) (x y : X) (m : ℕ) → length xs ≤ m → slice_get (xs ++ x ∷ []) m ≡ Some y → y ≡ x
last-one [] x y zero low e = cc
last-one [] x y (suc m) low e = absurd cc
last-one (z ∷ xs) x y zero low e = absurd (omega arith)
last-one (z ∷ xs) x y (suc m) low e = last-one xs x y m (omega arith) e

slice_get-replicate : {X : Type 0} (n k : ℕ) (x y : X) → slice_get (replicate n x) k ≡ Some y → y ≡ x
slice_get-replicate zero k x y e = absurd cc
slice_get-replicate (suc n) zero x y e = cc
slice_get-replicate (suc n) (suc k) x y e = slice_get-replicate n k x y e

pub new_stands : (count : ℕ) (lines : List Line) (places : List Container) (packets : List (Option Packet)) →
    length lines ≡ count → packets ≡ replicate count None →
    ((m : ℕ) (line : Line) (place : Container) → slice_get lines m ≡ Some line → LineStands line place [] 0) →
    GatherStands (record { lines = lines; places = places; packets = packets; rows = 0 }) (replicate count [])
new_stands count lines places packets size none fresh = record {
  size = size ∙ sym (length-replicate count []);
  each = λ m line place own here there told. rw (slice_get-replicate count m [] own told) (fresh m line place here);
  packets = none ∙ sym (governing-none count);
}

pub new_more : (count : ℕ) (lines : List Line) (line : Line) → AreNew count lines →
    ((place : Container) → LineStands line place [] 0) → IsOpen line.numbers → AreNew (count + 1) (lines ++ line ∷ [])
new_more count lines line are fresh open' = record {
  size = length-append lines (line ∷ [])
      ∙ (let size = are.size in let e : length lines + 1 ≡ count + 1 = omega arith in e);
  fresh = λ m found place here.
      elim (cases_lt m (length lines)) [
        | inl earlier ↦ are.fresh m found place (sym (slice_get-append lines (line ∷ []) m earlier) ∙ here)
        | inr last ↦ rw (last-one lines line found m last here) (fresh place)
      ];
  open' = λ m found here.
      elim (cases_lt m (length lines)) [
        | inl earlier ↦ are.open' m found (sym (slice_get-append lines (line ∷ []) m earlier) ∙ here)
        | inr last ↦ rw (last-one lines line found m last here) open'
      ];
}

pub decided-new : (count : ℕ) (lines : List Line) → AreNew count lines → 0 ≡ decided_lines lines
decided-new count [] are = refl
decided-new count (line ∷ lines) are = rw (open-test line.numbers (are.open' 0 line refl)) refl

-- ---- the next row
pub row_waiting : (gather : Gather) (cells : List (List Cell)) → length gather.places ≡ length gather.lines →
    GatherStands gather cells → decided_lines gather.lines < length gather.lines →
    first_open cells gather.rows ≡ Some (decided_lines gather.lines)
row_waiting gather cells sizes stands low =
    first-here gather.lines gather.places cells gather.rows 0 stands.size sizes stands.each low
    ∙ ap Some (let e : 0 + decided_lines gather.lines ≡ decided_lines gather.lines = omega arith in e)

pub row_decided : (gather : Gather) (cells : List (List Cell)) → length gather.places ≡ length gather.lines →
    GatherStands gather cells → decided_lines gather.lines ≡ length gather.lines → first_open cells gather.rows ≡ None
row_decided gather cells sizes stands all =
    first-none gather.lines gather.places cells gather.rows 0 stands.size sizes stands.each all

pub whole_container : (gather : Gather) (cells : List (List Cell)) (m : ℕ) (own : List Cell) (container : Container) →
    length gather.places ≡ length gather.lines → GatherStands gather cells → slice_get cells m ≡ Some own →
    verdict own gather.rows ≡ Some (Some container) → slice_get gather.places m ≡ Some container
whole_container gather cells m own container sizes stands told is =
    let inside = slice_get_within cells m own told in
    let size = stands.size in
    let (line, here) = slice_get-inside gather.lines m (omega arith) in
    let (place, there) = slice_get-inside gather.places m (omega arith) in
    there ∙ ap Some (whole-place line.numbers place container own gather.rows
    (stands.each m line place own here there told).numbers is)

-- ---- one cell more
length-with_cell : (cells : List (List Cell)) (m : ℕ) (cell : Cell) → length (with_cell cells m cell) ≡ length cells
length-with_cell [] m cell = refl
length-with_cell (own ∷ cells) zero cell = refl
length-with_cell (own ∷ cells) (suc m) cell = ap suc (length-with_cell cells m cell)

with_cell-here : (cells : List (List Cell)) (m : ℕ) (cell : Cell) (own : List Cell) →
    slice_get (with_cell cells m cell) m ≡ Some own → (before : List Cell) × (slice_get cells m ≡ Some before) ×
    (own ≡ before ++ cell ∷ [])
with_cell-here [] m cell own e = absurd cc
with_cell-here (first ∷ cells) zero cell own e = (first, refl, cc)
with_cell-here (first ∷ cells) (suc m) cell own e = with_cell-here cells m cell own e

with_cell-other : (cells : List (List Cell)) (m k : ℕ) (cell : Cell) → (k ≡ m → ⊥) →
    slice_get (with_cell cells m cell) k ≡ slice_get cells k
with_cell-other [] m k cell other = refl
with_cell-other (first ∷ cells) zero zero cell other = absurd (other refl)
with_cell-other (first ∷ cells) zero (suc k) cell other = refl
with_cell-other (first ∷ cells) (suc m) zero cell other = refl
with_cell-other (first ∷ cells) (suc m) (suc k) cell other = with_cell-other cells m k cell (λ e. other (ap suc e))

pub set-here : {X : Type 0} (xs : List X) (m : ℕ) (x y : X) → slice_get (slice_set xs m x) m ≡ Some y → y ≡ x
set-here [] m x y e = absurd cc
set-here (z ∷ xs) zero x y e = cc
set-here (z ∷ xs) (suc m) x y e = set-here xs m x y e

pub set-other : {X : Type 0} (xs : List X) (m k : ℕ) (x : X) → (k ≡ m → ⊥) →
    slice_get (slice_set xs m x) k ≡ slice_get xs k
set-other [] m k x other = refl
set-other (z ∷ xs) zero zero x other = absurd (other refl)
set-other (z ∷ xs) zero (suc k) x other = refl
set-other (z ∷ xs) (suc m) zero x other = refl
set-other (z ∷ xs) (suc m) (suc k) x other = set-other xs m k x (λ e. other (ap suc e))

pub offered_stands : (lines : List Line) (places : List Container) (packets : List (Option Packet)) (rows m : ℕ)
    (before after : Line) (place place' : Container) (cell : Cell) (cells : List (List Cell)) →
    slice_get lines m ≡ Some before → slice_get places m ≡ Some place →
    ((own : List Cell) (t : ℕ) → LineStands before place own t → LineStands after place' (own ++ cell ∷ []) t) →
    GatherStands (record { lines = lines; places = places; packets = packets; rows = rows }) cells →
    GatherStands (record {
      lines = slice_set lines m after;
      places = slice_set places m place';
      packets = packets;
      rows =
          rows;
    }) (with_cell cells m cell)
offered_stands lines places packets rows m before after place place' cell cells was lay next stands = record {
  size = length-set lines m after ∙ stands.size ∙ sym (length-with_cell cells m cell);
  each = λ k line there own here at_place told.
      elim (cases_eq k m) [
        | inl same ↦
            let here' : slice_get (slice_set lines m after) m ≡ Some line =
            subst (λ k. slice_get (slice_set lines m after) k ≡ Some line) same here in
            let at_place' : slice_get (slice_set places m place') m ≡ Some there =
            subst (λ k. slice_get (slice_set places m place') k ≡ Some there) same at_place in
            let told' : slice_get (with_cell cells m cell) m ≡ Some own =
            subst (λ k. slice_get (with_cell cells m cell) k ≡ Some own) same told in
            let (old, at_old, e) = with_cell-here cells m cell own told' in
            rw (set-here lines m after line here', set-here places m place' there at_place', e)
            (next old rows (stands.each m before place old was lay at_old))
        | inr other ↦
            stands.each k line there own (sym (set-other lines m k after other) ∙ here)
            (sym (set-other places m k place' other) ∙ at_place) (sym (with_cell-other cells m k cell other) ∙ told)
      ];
  packets = stands.packets ∙ sym (governing-with_cell cells m rows cell
      (λ own told s low. passed-decided before.numbers place own rows s
      (stands.each m before place own was lay told).numbers low));
}

-- the same, where the containers lie in boxes
pub offered_held : (lines : List Line) (boxes : List (Box Container)) (packets : List (Option Packet)) (rows m : ℕ)
    (before after : Line) (box box' : Box Container) (cell : Cell) (cells : List (List Cell)) →
    slice_get lines m ≡ Some before → slice_get boxes m ≡ Some box →
    ((own : List Cell) (t : ℕ) → LineStands before box.value own t → LineStands after box'.value (own ++ cell ∷ []) t) →
    GatherStands (record { lines = lines; places = held boxes; packets = packets; rows = rows }) cells →
    GatherStands (record {
      lines = slice_set lines m after;
      places = held (slice_set boxes m box');
      packets = packets;
      rows =
          rows;
    }) (with_cell cells m cell)
offered_held lines boxes packets rows m before after box box' cell cells was lay next stands =
    let inside : slice_get (held boxes) m ≡ Some box.value = slice_get-map (λ (b : Box Container). b.value) boxes m
    ∙ ap (option_map (λ (b : Box Container). b.value)) lay in
    subst (λ places. GatherStands (record
    { lines = slice_set lines m after; places = places; packets = packets; rows = rows }) (with_cell cells m cell))
    (sym (map-set (λ (b : Box Container). b.value) boxes m box'))
    (offered_stands lines (held boxes) packets rows m before after box.value box'.value cell cells was inside next
    stands)

-- ---- one row more
pub passed_more : (m j : ℕ) (places : List Container) (old new : List Line) (before after : Line) (here : Container) →
    ArePassed m j places old new → slice_get new m ≡ Some before → slice_get places m ≡ Some here →
    ((own : List Cell) (t : ℕ) → LineStands before here own t → j ≡ (t + 8) % 16 → LineStands after here own (t + 1)) →
    ArePassed (m + 1) j places old (slice_set new m after)
passed_more m j places old new before after here are at_line at_here next = record {
  size = length-set new m after ∙ are.size;
  passed = λ k was is place low at_old at_new at_place.
      elim (cases_eq k m) [
        | inl same ↦
            let at_new' : slice_get (slice_set new m after) m ≡ Some is =
            subst (λ k. slice_get (slice_set new m after) k ≡ Some is) same at_new in
            let at_place' : slice_get places m ≡ Some place =
            subst (λ k. slice_get places k ≡ Some place) same at_place in
            let at_old' : slice_get old m ≡ Some was = subst (λ k. slice_get old k ≡ Some was) same at_old in
            let first : was ≡ before =
            let e : Some was ≡ Some before = sym at_old' ∙ sym (are.others m (omega arith)) ∙ at_line in cc in
            let there : place ≡ here = let e : Some place ≡ Some here = sym at_place' ∙ at_here in cc in
            rw (set-here new m after is at_new', first, there) next
        | inr other ↦ are.passed k was is place (omega arith) at_old (sym (set-other new m k after other) ∙ at_new)
            at_place
      ];
  others = λ k low. set-other new m k after (λ e. omega arith) ∙ are.others k (omega arith);
}

pub read_more : (m : ℕ) (lines : List Line) (packets : List (Option Packet)) (line : Line) (packet : Option Packet) →
    AreRead m lines packets → slice_get lines m ≡ Some line →
    ((place : Container) (own : List Cell) (t : ℕ) → LineStands line place own t → t % 16 ≡ 8 →
    packet ≡ packet_at own t) →
    AreRead (m + 1) lines (slice_set packets m packet)
read_more m lines packets line packet are here is = record {
  size = length-set packets m packet ∙ are.size;
  read = λ k own p low at_line at_packet.
      elim (cases_eq k m) [
        | inl same ↦
            let at_line' : slice_get lines m ≡ Some own = subst (λ k. slice_get lines k ≡ Some own) same at_line in
            let at_packet' : slice_get (slice_set packets m packet) m ≡ Some p =
            subst (λ k. slice_get (slice_set packets m packet) k ≡ Some p) same at_packet in
            let first : own ≡ line = let e : Some own ≡ Some line = sym at_line' ∙ here in cc in
            rw (set-here packets m packet p at_packet', first) is
        | inr other ↦ are.read k own p (omega arith) at_line (sym (set-other packets m k packet other) ∙ at_packet)
      ];
}

pub passed_each : (lines next : List Line) (places : List Container) (packets : List (Option Packet)) (rows j : ℕ)
    (cells : List (List Cell)) → length places ≡ length lines → ArePassed (length lines) j places lines next →
    j ≡ (rows + 8) % 16 →
    GatherStands (record { lines = lines; places = places; packets = packets; rows = rows }) cells →
    (m : ℕ) (line : Line) (place : Container) (own : List Cell) → slice_get next m ≡ Some line →
    slice_get places m ≡ Some place → slice_get cells m ≡ Some own → LineStands line place own (rows + 1)
passed_each lines next places packets rows j cells sizes all number stands m line place own here there told =
    let inside : m < length next = slice_get_within next m line here in
    let size = all.size in
    let (before, was) = slice_get-inside lines m (omega arith) in
    all.passed m before line place (omega arith) was here there own rows (stands.each m before place own was there told)
    number

pub passed_stands : (lines next : List Line) (places : List Container) (packets : List (Option Packet)) (rows j : ℕ)
    (cells : List (List Cell)) → length places ≡ length lines → ArePassed (length lines) j places lines next →
    j ≡ (rows + 8) % 16 → (j ≡ 15 → ⊥) →
    GatherStands (record { lines = lines; places = places; packets = packets; rows = rows }) cells →
    GatherStands (record { lines = next; places = places; packets = packets; rows = rows + 1 }) cells
passed_stands lines next places packets rows j cells sizes all number other stands = record {
  size = all.size ∙ stands.size;
  each = passed_each lines next places packets rows j cells sizes all number stands;
  packets = stands.packets ∙ sym (governing-same cells rows (λ e. other (omega arith)));
}

pub read_stands : (lines next : List Line) (places : List Container) (packets read : List (Option Packet)) (rows j : ℕ)
    (cells : List (List Cell)) → length places ≡ length lines → ArePassed (length lines) j places lines next →
    j ≡ (rows + 8) % 16 → j ≡ 15 →
    AreRead (length next) next read →
    GatherStands (record { lines = lines; places = places; packets = packets; rows = rows }) cells →
    GatherStands (record { lines = next; places = places; packets = read; rows = rows + 1 }) cells
read_stands lines next places packets read rows j cells sizes all number last are stands = record {
  size = all.size ∙ stands.size;
  each = passed_each lines next places packets rows j cells sizes all number stands;
  packets = governing-read next places read cells (rows + 1) (all.size ∙ stands.size) (sizes ∙ sym all.size) are
      (passed_each lines next places packets rows j cells sizes all number stands) (omega arith);
}
