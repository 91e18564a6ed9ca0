-- What a tick makes of a terminal's scenario: table, active lines, nibbles, stream and frame.
use Rattle.std.proofs.Common.{◌≡◌, ◌≤◌, ◌<◌, ◌↔◌, ℕ, zero, suc, ◌+◌, ◌-◌, ◌*◌, ◌/◌, ◌%◌, ◌==◌, ◌&&◌, nat_le, nat_lt}
use Rattle.std.proofs.Common.{true, false, Bool, if◌then◌else◌, inl, inr, List, [], ◌∷◌, ◌++◌, map, filter, fold}
use Rattle.std.proofs.Common.{length, take, drop, All, slice_index, slice_index_or, Option, Some, None, option_map}
use Rattle.std.proofs.Common.{refl, sym, ◌∙◌, ap, subst, arith}
use Rattle.std.specs.Option.{is_some}
use Rattle.std.specs.List.{range_with_len}
use Rattle.std.proofs.lemmas.Bool.{cases_lt, eqb-true, eqb-false, eq-eqb, leb-true, le-leb, lt-ltb, ltb-true}
use Rattle.std.proofs.lemmas.Bool.{ltb-false}
use Rattle.std.proofs.lemmas.Bool.Decides.{nat_tests}
use Rattle.std.proofs.lemmas.List.{get_or_at, get_or_past, get_or-replicate, length-append}
use Rattle.std.proofs.lemmas.List.Elements.{All-head, All-tail}
use Rattle.std.proofs.lemmas.List.FromFn.{length-map-range_with_len, get_or-map-range_with_len, fill_by_all}
use Rattle.law_session.proofs.ClientStreamAndReplayLaws.{stream_before-next, Alike, alike-after, alike-place}
use Rattle.law_session.proofs.ClientStreamAndReplayLaws.{alike-stream, map-same}
use Rattle.law_model.specs.Common.{BackCell, Container, Scenario, DueCommand, DueFrame, orders_at, frames_at, lands_at}
use Rattle.law_model.specs.Common.{comes_at, steps_in, packet_nibbles, stream_of, Told, active, told_in, Source}
use Rattle.law_model.specs.Common.{asked_all, decide, cell_at, after, source_at, table_of, Course, called, decides}
use Rattle.law_model.specs.Common.{said_by, count_of, forward_packet, untold, telling_at, telling, Stream, offered}
use Rattle.law_model.specs.Common.{reached, width, stream_before, place_of, payload_of, active_at, payload_on}
use Rattle.law_model.specs.Common.{nibble_in, nibble_at, container_of, frame_of}
use Rattle.law_session.proofs.ReturnCellAndLineWordLaws.{asked_all-table, Agree, Agree-append}
use Rattle.gfp_fill.specs.Queue.{Held}
use Rattle.gfp_fill.specs.SentAreas.{Sender}
use Rattle.gfp_fill.specs.FilledStream.{FillerStands as HasWritten}
use Rattle.terminal_source.specs.source_core.Terminal.{needed_at}
use Rattle.terminal_source.specs.source_core.FrameContainers.{container_by, containers_by}
use Rattle.terminal_source.specs.source_core.StepOfTerminal.{is_step, table_by, active_by, nibbles_of, nibbles_by}
use Rattle.terminal_source.specs.source_core.StepOfTerminal.{left_by, terminal_of}
use Rattle.terminal_source.specs.source_core.GivenScenario.{with_cell, stream_now, course_now, nibbles_after}
use Rattle.terminal_source.specs.source_core.GivenScenario.{nibbles_now, active_now, SourceStands}

-- What a tick makes of a terminal's scenario: a decision step where one is due, and the next octets of the stream.
-- ---- whether a return cell is there
needed-when : (b : Bool) (n : ℕ) → is_some (if b then Some n else None) ≡ b
needed-when true n = refl
needed-when false n = refl

-- the cell that a tick is given, where it needs one
abbrev pub IsDue : ℕ → ℕ → Option BackCell → Type 0
IsDue lag t None = t % 16 ≡ 8 → t / 16 < lag
IsDue lag t (Some cell) = (t % 16 ≡ 8) × (lag ≤ t / 16)

pub test-both : (a b c d : ℕ) → (a == b && nat_le c d) ≡ true → (a ≡ b) × (c ≤ d)
test-both a b c d e = (grind (arith, nat_tests, e), grind (arith, nat_tests, e))

pub is-due : (lag t : ℕ) (back : Option BackCell) → (is_some back ≡ true) ↔ (is_some (needed_at lag t) ≡ true) →
    IsDue lag t back
is-due lag t (Some cell) same =
    let test = t % 16 == 8 && nat_le lag (t / 16) in
    test-both (t % 16) 8 lag (t / 16) (sym (needed-when test (t / 16 - lag)) ∙ same.0 refl)
is-due lag t None same = λ at.
    elim (cases_lt (t / 16) lag) [
      | inl low ↦ low
      | inr high ↦
          let test = t % 16 == 8 && nat_le lag (t / 16) in
          let holds : test ≡ true = rw (eq-eqb (t % 16) 8 at, le-leb lag (t / 16) high) refl in
          let there = same.1 (needed-when test (t / 16 - lag) ∙ holds) in
          absurd (cc)
    ]

-- ---- the return cells
with_cell-agree : (scenario : Scenario) (cells : List (Option Told)) (back : Option BackCell) (n : ℕ) →
    length cells ≡ n - scenario.lag → Agree scenario (with_cell cells back) cells n
with_cell-agree scenario cells None n told = λ i low. refl
with_cell-agree scenario cells (Some cell) n told = Agree-append scenario cells (told_in cell ∷ []) n (omega arith)

pub tick-alike : (scenario : Scenario) (cells : List (Option Told)) (back : Option BackCell) (t : ℕ) →
    length cells ≡ steps_in t - scenario.lag →
    Alike scenario (with_cell cells back) scenario cells t
tick-alike scenario cells back t told = record {
  lines = refl;
  lag = refl;
  size = refl;
  statuses = refl;
  orders = λ j low. refl;
  cells = λ j low. with_cell-agree scenario cells back (steps_in t) told j low;
  offers = λ u low. refl;
  tells = λ k low. refl;
}

-- the step takes the cell that the tick was given
cell-now : (scenario : Scenario) (cells : List (Option Told)) (back : Option BackCell) (t n : ℕ) → n ≡ t / 16 →
    t % 16 ≡ 8 → length cells ≡ n - scenario.lag → IsDue scenario.lag t back →
    cell_at scenario (with_cell cells back) n ≡ said_by (option_map told_in back)
cell-now scenario cells None t n is at told due =
    let early = due at in
    elim (nat_le scenario.lag n) as (λ b. nat_le scenario.lag n ≡ b →
    (if b then slice_index_or cells (n - scenario.lag) None else None) ≡ None) [
      | true ↦ λ e. let low = leb-true scenario.lag n e in absurd (omega arith)
      | false ↦ λ e. refl
    ] refl
cell-now scenario cells (Some cell) t n is at told due =
    let low : scenario.lag ≤ n = omega (arith, due.1) in
    ap (λ b. if b then slice_index_or (cells ++ told_in cell ∷ []) (n - scenario.lag) None else None)
    (le-leb scenario.lag n low)
    ∙ get_or_at cells (told_in cell) [] None (n - scenario.lag) told

cells-count : (lag t n : ℕ) (back : Option BackCell) → n ≡ t / 16 → t % 16 ≡ 8 → IsDue lag t back →
    n - lag + count_of (option_map told_in back) ≡ suc n - lag
cells-count lag t n None is at due = let early = due at in omega arith
cells-count lag t n (Some cell) is at due = let late = due.1 in omega arith

pub told-ticked : (scenario : Scenario) (cells : List (Option Told)) (back : Option BackCell) (t : ℕ) →
    length cells ≡ steps_in t - scenario.lag → IsDue scenario.lag t back →
    length (with_cell cells back) ≡ steps_in (t + 1) - scenario.lag
told-ticked scenario cells (Some cell) t told due =
    let more = length-append cells (told_in cell ∷ []) in
    let at = due.0 in
    let late = due.1 in
    omega arith
told-ticked scenario cells None t told due =
    elim (t % 16 == 8) as (λ b. (t % 16 == 8) ≡ b → length cells ≡ steps_in (t + 1) - scenario.lag) [
      | true ↦ λ e. let at = eqb-true (t % 16) 8 e in let early = due at in omega arith
      | false ↦ λ e. let other = eqb-false (t % 16) 8 e in omega arith
    ] refl

-- ---- nothing that is due by now lands later
pub filter-none : {X : Type 0} (test : X → Bool) (xs : List X) → All (λ x. test x ≡ false) xs → filter test xs ≡ []
filter-none test [] none = refl
filter-none test (x ∷ xs) none =
    let first = All-head (λ x. test x ≡ false) x xs none in
    rw first (filter-none test xs (All-tail (λ x. test x ≡ false) x xs none))

comes-late : (due t : ℕ) → due ≤ t → (nat_le due (t + 1) && nat_le (t + 1) due) ≡ false
comes-late due t low = grind (arith, nat_tests, low)

no-orders : (scenario : Scenario) (t j : ℕ) → t ≤ 16 * j + 8 →
    All (λ (order : DueCommand). order.due ≤ t) scenario.orders → orders_at scenario (suc j) ≡ []
no-orders scenario t j high due =
    ap (map (λ (order : DueCommand). order.command))
    (filter-none (lands_at (suc j)) scenario.orders
    (λ k d low. late (slice_index_or scenario.orders k d).due (due k d low))) where
      late : (n : ℕ) → n ≤ t → (nat_lt (16 * suc j) (n + 8) && nat_le n (16 * suc j + 8)) ≡ false
      late n low = grind (arith, nat_tests, low, high)

no-frames : (scenario : Scenario) (t : ℕ) → All (λ (offer : DueFrame). offer.due ≤ t) scenario.offers →
    frames_at scenario (t + 1) ≡ []
no-frames scenario t due =
    ap (map (λ (offer : DueFrame). offer.frame))
    (filter-none (comes_at (t + 1)) scenario.offers
    (λ k d low. comes-late (slice_index_or scenario.offers k d).due t (due k d low)))

-- ---- the table
source-next : (scenario : Scenario) (cells : List (Option Told)) (back : Option BackCell) (t n : ℕ) → n ≡ t / 16 →
    t % 16 ≡ 8 → length cells ≡ n - scenario.lag → IsDue scenario.lag t back →
    after scenario (with_cell cells back) (suc n) ≡ decide ((n - scenario.lag) % scenario.options.statuses) (said_by (option_map told_in back))
    (source_at scenario cells n)
unfolding after
source-next scenario cells back t n is at told due =
    let more = with_cell cells back in
    let steps : steps_in t ≡ n = omega arith in
    let same = alike-after scenario more scenario cells t n (tick-alike scenario cells back t (rw steps told))
    (omega arith) in
    ap (λ told. decide ((n - scenario.lag) % scenario.options.statuses) told
    (asked_all (length scenario.windows) (orders_at scenario n) (after scenario more n)))
    (cell-now scenario cells back t n is at told due)
    ∙ ap (λ source. decide ((n - scenario.lag) % scenario.options.statuses) (said_by (option_map told_in back))
    (asked_all (length scenario.windows) (orders_at scenario n) source)) same

abbrev pub course_after : Scenario → List (Option Told) → ℕ → Course
course_after scenario cells n = record {
  lines = length scenario.windows;
  statuses = scenario.options.statuses;
  source = source_at scenario cells n;
  taken = n - scenario.lag;
  steps = n;
}

course-next : (scenario : Scenario) (cells : List (Option Told)) (back : Option BackCell) (t n : ℕ) → n ≡ t / 16 →
    t % 16 ≡ 8 → length cells ≡ n - scenario.lag → IsDue scenario.lag t back →
    All (λ (order : DueCommand). order.due ≤ t) scenario.orders →
    called (course_after scenario cells n) (decides (option_map told_in back)) ≡ course_after scenario
    (with_cell cells back) (suc n)
course-next scenario cells back t n is at told due orders =
    let more = with_cell cells back in
    let lines = length scenario.windows in
    let found : source_at scenario more (suc n) ≡ decide ((n - scenario.lag) % scenario.options.statuses) (said_by (option_map told_in back))
    (source_at scenario cells n) =
    ap (λ orders. asked_all lines orders (after scenario more (suc n))) (no-orders scenario t n (omega arith) orders)
    ∙ source-next scenario cells back t n is at told due in
    let next : n + 1 ≡ suc n = omega arith in
    ap (λ source. record {
      lines = lines;
      statuses = scenario.options.statuses;
      source = source;
      taken =
          n - scenario.lag + count_of (option_map told_in back);
      steps = n + 1;
    }) (sym found)
    ∙ ap (λ taken. record {
      lines = lines;
      statuses = scenario.options.statuses;
      source = source_at scenario more (suc n);
      taken = taken;
      steps = n + 1;
    })
    (cells-count scenario.lag t n back is at due)
    ∙ ap (λ steps. record {
      lines = lines;
      statuses = scenario.options.statuses;
      source = source_at scenario more (suc n);
      taken = suc n - scenario.lag;
      steps = steps;
    }) next

-- where no step is made there is no cell
no-cell : (scenario : Scenario) (cells : List (Option Told)) (back : Option BackCell) (t : ℕ) → is_step t ≡ false →
    IsDue scenario.lag t back → with_cell cells back ≡ cells
no-cell scenario cells None t e due = refl
no-cell scenario cells (Some cell) t e due = let other = eqb-false (t % 16) 8 e in absurd (other due.0)

pub table-ticked : (scenario : Scenario) (cells : List (Option Told)) (back : Option BackCell) (t : ℕ) →
    length cells ≡ steps_in t - scenario.lag → IsDue scenario.lag t back →
    All (λ (order : DueCommand). order.due ≤ t) scenario.orders → (b : Bool) → is_step t ≡ b →
    table_by b back (course_now scenario cells t) ≡ course_now scenario (with_cell cells back) (t + 1)
table-ticked scenario cells back t told due orders true e =
    let at = eqb-true (t % 16) 8 e in
    let n = steps_in t in
    let next : suc (steps_in t) ≡ steps_in (t + 1) = omega arith in
    course-next scenario cells back t (steps_in t) (omega arith) at told due orders
    ∙ ap (course_after scenario (with_cell cells back)) next
table-ticked scenario cells back t told due orders false e =
    let other = eqb-false (t % 16) 8 e in
    let same : steps_in t ≡ steps_in (t + 1) = omega arith in
    ap (course_after scenario cells) same
    ∙ ap (λ cells. course_after scenario cells (steps_in (t + 1))) (sym (no-cell scenario cells back t e due))

-- ---- the lines that carry payload
pub active-ticked : (scenario : Scenario) (cells : List (Option Told)) (back : Option BackCell) (t : ℕ) →
    length cells ≡ steps_in t - scenario.lag → IsDue scenario.lag t back → (b : Bool) → is_step t ≡ b →
    active_by b (course_now scenario cells t) (active_now scenario cells t) ≡ active_now scenario (with_cell cells back)
    (t + 1)
active-ticked scenario cells back t told due true e =
    let at = eqb-true (t % 16) 8 e in
    let next : steps_in t ≡ steps_in (t + 1) - 1 = omega arith in
    let more = with_cell cells back in
    ap active (asked_all-table (length scenario.windows) (orders_at scenario (steps_in t))
    (after scenario cells (steps_in t)))
    ∙ ap (λ (source : Source). active source.table)
    (sym (alike-after scenario more scenario cells t (steps_in t) (tick-alike scenario cells back t told)
    (omega arith)))
    ∙ ap (λ n. active (after scenario more n).table) next
active-ticked scenario cells back t told due false e =
    let other = eqb-false (t % 16) 8 e in
    let same : steps_in t - 1 ≡ steps_in (t + 1) - 1 = omega arith in
    ap (λ n. active (after scenario cells n).table) same
    ∙ ap (λ cells. active (after scenario cells (steps_in (t + 1) - 1)).table)
    (sym (no-cell scenario cells back t e due))

-- those of a frame are those that the terminal has in it
none-before : (scenario : Scenario) (cells : List (Option Told)) (n : ℕ) → n ≡ 0 →
    active (after scenario cells n).table ≡ []
unfolding after
none-before scenario cells n none = ap (λ n. active (after scenario cells n).table) none

pub active-at : (scenario : Scenario) (cells : List (Option Told)) (t : ℕ) →
    active_at scenario cells t ≡ active_now scenario cells (t + 1)
active-at scenario cells t =
    elim (nat_lt t 24) as (λ b. nat_lt t 24 ≡ b →
    (if b then [] else active (table_of scenario cells ((t - 24) / 16))) ≡ active_now scenario cells (t + 1)) [
      | true ↦ λ e. let low = ltb-true t 24 e in sym (none-before scenario cells (steps_in (t + 1) - 1) (omega arith))
      | false ↦ λ e.
          let high = ltb-false t 24 e in
          let same : suc ((t - 24) / 16) ≡ steps_in (t + 1) - 1 = omega arith in
          ap (λ n. active (after scenario cells n).table) same
    ] refl

pub width-at : (scenario : Scenario) (cells : List (Option Told)) (t : ℕ) →
    width scenario cells t ≡ length (active_at scenario cells t)
width-at scenario cells t =
    elim (nat_lt t 24) as (λ b. (if b then 0 else length (active (table_of scenario cells ((t - 24) / 16)))) ≡ length
    (if b then [] else active (table_of scenario cells ((t - 24) / 16)))) [
      | true ↦ refl
      | false ↦ refl
    ]

-- ---- the nibbles
pub nibbles-ticked : (scenario : Scenario) (cells : List (Option Told)) (back : Option BackCell) (t : ℕ) (told : Told) →
    IsDue scenario.lag t back → told ≡ telling_at scenario (steps_in t) → (b : Bool) → is_step t ≡ b →
    nibbles_by b (course_now scenario (with_cell cells back) (t + 1)) told (nibbles_now scenario cells t)
    ≡ nibbles_now scenario (with_cell cells back) (t + 1)
nibbles-ticked scenario cells back t told due tells true e =
    let at = eqb-true (t % 16) 8 e in
    let more = with_cell cells back in
    let lines = length scenario.windows in
    let next : steps_in (t + 1) ≡ suc (steps_in t) = omega arith in
    let said = telling_at scenario (steps_in t) in
    ap (λ n. nibbles_of (course_after scenario more (steps_in (t + 1))) told n)
    (length-map-range_with_len (λ line. nibbles_after scenario cells line (steps_in t)) 0 lines)
    ∙ ap (λ n. nibbles_of (course_after scenario more n) told lines) next
    ∙ ap (λ told. nibbles_of (course_after scenario more (suc (steps_in t))) told lines) tells
    ∙ map-same (λ line. packet_nibbles
    (telling said (forward_packet (source_at scenario more (suc (steps_in t))).table line (suc (steps_in t) - 1))))
    (λ line. nibbles_after scenario more line (suc (steps_in t)))
    (λ line. ap (λ table. packet_nibbles (telling said (forward_packet table line (suc (steps_in t) - 1))))
    (asked_all-table lines (orders_at scenario (suc (steps_in t))) (after scenario more (suc (steps_in t))))
    ∙ (let k : suc (steps_in t) - 1 ≡ steps_in t = omega arith in
    ap (λ n. packet_nibbles (telling said (forward_packet (table_of scenario more (steps_in t)) line n))) k))
    (range_with_len 0 lines)
    ∙ ap (λ n. map (λ line. nibbles_after scenario more line n) (range_with_len 0 lines)) (sym next)
nibbles-ticked scenario cells back t told due tells false e =
    let other = eqb-false (t % 16) 8 e in
    let same : steps_in t ≡ steps_in (t + 1) = omega arith in
    ap (λ n. map (λ line. nibbles_after scenario cells line n) (range_with_len 0 (length scenario.windows))) same
    ∙ ap (λ cells. map (λ line. nibbles_after scenario cells line (steps_in (t + 1)))
    (range_with_len 0 (length scenario.windows))) (sym (no-cell scenario cells back t e due))

-- ---- what is left to tell
pub left-ticked : (scenario : Scenario) (t : ℕ) (told : Told) → length scenario.tells ≤ steps_in t + 1 →
    told ≡ telling_at scenario (steps_in t) → (b : Bool) → is_step t ≡ b →
    left_by b told ≡ telling_at scenario (steps_in (t + 1))
left-ticked scenario t told few tells true e =
    let at = eqb-true (t % 16) 8 e in
    sym (get_or_past scenario.tells (steps_in (t + 1)) untold (omega arith))
left-ticked scenario t told few tells false e =
    let other = eqb-false (t % 16) 8 e in
    let same : steps_in t ≡ steps_in (t + 1) = omega arith in
    tells ∙ ap (telling_at scenario) same

-- ---- the stream
place-next : (scenario : Scenario) (cells : List (Option Told)) (t : ℕ) →
    place_of scenario cells (suc t) ≡ place_of scenario cells t + scenario.size * width scenario cells t
unfolding place_of
place-next scenario cells t = refl

-- the place after the tick
pub place-ticked : (scenario : Scenario) (cells : List (Option Told)) (back : Option BackCell) (t size : ℕ)
    (lines : List ℕ) → length cells ≡ steps_in t - scenario.lag → size ≡ scenario.size →
    lines ≡ active_now scenario (with_cell cells back) (t + 1) →
    place_of scenario cells t + size * length lines ≡ place_of scenario (with_cell cells back) (suc t)
place-ticked scenario cells back t size lines told is_size is_lines =
    let more = with_cell cells back in
    ap (λ n. n + size * length lines)
    (sym (alike-place scenario more scenario cells t (tick-alike scenario cells back t told)))
    ∙ ap (λ n. place_of scenario more t + n * length lines) is_size
    ∙ ap (λ n. place_of scenario more t + scenario.size * n)
    (ap length (is_lines ∙ sym (active-at scenario more t)) ∙ sym (width-at scenario more t))
    ∙ sym (place-next scenario more t)

-- and the stream
pub stream-ticked : (scenario : Scenario) (cells : List (Option Told)) (back : Option BackCell) (t place : ℕ) →
    length cells ≡ steps_in t - scenario.lag →
    place ≡ place_of scenario (with_cell cells back) (suc t) →
    reached place (stream_now scenario cells t) ≡ stream_before scenario (with_cell cells back) (suc t)
stream-ticked scenario cells back t place told is =
    let more = with_cell cells back in
    ap (λ n. reached n (stream_now scenario cells t)) is
    ∙ ap (λ stream. reached (place_of scenario more (suc t)) (fold offered stream (frames_at scenario t)))
    (sym (alike-stream scenario more scenario cells t (tick-alike scenario cells back t told)))
    ∙ sym (stream_before-next scenario more t)

pub stream-now : (scenario : Scenario) (cells : List (Option Told)) (t : ℕ) →
    All (λ (offer : DueFrame). offer.due ≤ t) scenario.offers →
    stream_now scenario cells (t + 1) ≡ stream_before scenario cells (suc t)
stream-now scenario cells t offers =
    let next : t + 1 ≡ suc t = omega arith in
    ap (fold offered (stream_before scenario cells (t + 1))) (no-frames scenario t offers)
    ∙ ap (stream_before scenario cells) next

-- ---- the fields after a tick
pub record NextFields (scenario : Scenario) (more : List (Option Told)) (t : ℕ) (table : Course) (members : List ℕ)
    (nibbles : List (List ℕ)) (left : Told) : Type 0 where
  pub table_is : table ≡ course_now scenario more (t + 1)
  pub members_are : members ≡ active_now scenario more (t + 1)
  pub nibbles_are : nibbles ≡ nibbles_now scenario more (t + 1)
  pub left_is : left ≡ telling_at scenario (steps_in (t + 1))

pub next-fields : (lag size t : ℕ) (queue : Held) (sender : Sender) (table next : Course) (active members : List ℕ)
    (nibbles said : List (List ℕ)) (told left : Told) (back : Option BackCell) (scenario : Scenario)
    (cells : List (Option Told)) →
    next ≡ table_by (is_step t) back table → members ≡ active_by (is_step t) table active →
    said ≡ nibbles_by (is_step t) next told nibbles → left ≡ left_by (is_step t) told → IsDue lag t back →
    SourceStands (terminal_of lag size t queue sender table active nibbles told) scenario cells →
    NextFields scenario (with_cell cells back) t next members said left
next-fields lag size t queue sender table next active members nibbles said told left back scenario cells is_next
    are_members are_said is_left due stands =
    let b = is_step t in
    let fits = subst (λ n. IsDue n t back) stands.lag due in
    let table_is = is_next ∙ ap (table_by b back) stands.table
    ∙ table-ticked scenario cells back t stands.told fits stands.orders b refl in
    record {
      table_is = table_is;
      members_are = are_members ∙ ap (λ course. active_by b course active) stands.table
          ∙ ap (active_by b (course_now scenario cells t)) stands.active
          ∙ active-ticked scenario cells back t stands.told fits b refl;
      nibbles_are = are_said ∙ ap (λ course. nibbles_by b course told nibbles) table_is
          ∙ ap (nibbles_by b (course_now scenario (with_cell cells back) (t + 1)) told) stands.nibbles
          ∙ nibbles-ticked scenario cells back t told fits stands.telling b refl;
      left_is = is_left ∙ left-ticked scenario t told stands.tells stands.telling b refl;
    }

-- the stream is written up to the place at which the next frame begins
stream-written : (size t place : ℕ) (queue : Held) (sender : Sender) (members : List ℕ) (back : Option BackCell)
    (scenario : Scenario) (cells : List (Option Told)) →
    length cells ≡ steps_in t - scenario.lag → size ≡ scenario.size →
    members ≡ active_now scenario (with_cell cells back) (t + 1) →
    All (λ (offer : DueFrame). offer.due ≤ t) scenario.offers →
    place ≡ place_of scenario cells t + size * length members →
    HasWritten sender queue (reached place (stream_now scenario cells t)) place →
    HasWritten sender queue (stream_now scenario (with_cell cells back) (t + 1))
    (place_of scenario (with_cell cells back) (t + 1))
stream-written size t place queue sender members back scenario cells told is_size are_members offers is_place written =
    let more = with_cell cells back in
    let next : suc t ≡ t + 1 = omega arith in
    let further = is_place ∙ place-ticked scenario cells back t size members told is_size are_members in
    subst (HasWritten sender queue (stream_now scenario more (t + 1))) (further ∙ ap (place_of scenario more) next)
    (subst (λ s. HasWritten sender queue s place)
    (stream-ticked scenario cells back t place told further ∙ sym (stream-now scenario more t offers)) written)

later-offers : (t : ℕ) (scenario : Scenario) → All (λ (offer : DueFrame). offer.due ≤ t) scenario.offers →
    All (λ (offer : DueFrame). offer.due ≤ t + 1) scenario.offers
later-offers t scenario due k d low = let now = due k d low in omega arith

later-orders : (t : ℕ) (scenario : Scenario) → All (λ (order : DueCommand). order.due ≤ t) scenario.orders →
    All (λ (order : DueCommand). order.due ≤ t + 1) scenario.orders
later-orders t scenario due k d low = let now = due k d low in omega arith

pub Stands-ticked : (lag size t : ℕ) (queue later : Held) (sender further : Sender) (table next : Course)
    (active members : List ℕ) (nibbles said : List (List ℕ)) (told left : Told) (back : Option BackCell)
    (scenario : Scenario) (cells : List (Option Told)) →
    NextFields scenario (with_cell cells back) t next members said left → IsDue lag t back →
    ((stream : Stream) (place : ℕ) → HasWritten sender queue stream place →
    HasWritten further later (reached (place + size * length members) stream) (place + size * length members)) →
    SourceStands (terminal_of lag size t queue sender table active nibbles told) scenario cells →
    SourceStands (terminal_of lag size (t + 1) later further next members said left) scenario (with_cell cells back)
Stands-ticked lag size t queue later sender further table next active members nibbles said told left back scenario
    cells fields due writes stands = record {
      lines = ap (λ (course : Course). course.lines) fields.table_is;
      lag = stands.lag;
      size = stands.size;
      statuses = ap (λ (course : Course). course.statuses) fields.table_is;
      offers = later-offers t scenario stands.offers;
      orders = later-orders t scenario stands.orders;
      told = told-ticked scenario cells back t stands.told (subst (λ n. IsDue n t back) stands.lag due);
      table = fields.table_is;
      stream = stream-written size t (place_of scenario cells t + size * length members) later further members back
          scenario
          cells stands.told stands.size fields.members_are stands.offers refl
          (writes (stream_now scenario cells t) (place_of scenario cells t) stands.stream);
      active = fields.members_are;
      nibbles = fields.nibbles_are;
      tells = let few = stands.tells in omega arith;
      telling = fields.left_is;
    }

-- ---- the octets of the frame, and its containers
pub row-ticked : (size t : ℕ) (members : List ℕ) (back : Option BackCell) (scenario : Scenario)
    (cells : List (Option Told)) →
    length cells ≡ steps_in t - scenario.lag → size ≡ scenario.size →
    members ≡ active_now scenario (with_cell cells back) (t + 1) →
    take (size * length members) (drop (place_of scenario cells t)
    (stream_of (reached (place_of scenario cells t + size * length members) (stream_now scenario cells t)).pieces))
    ≡ payload_of scenario (with_cell cells back) t
row-ticked size t members back scenario cells told is_size are_members =
    let more = with_cell cells back in
    let further = place-ticked scenario cells back t size members told is_size are_members in
    let many = ap (λ n. n * length members) is_size
    ∙ ap (λ n. scenario.size * n) (ap length (are_members ∙ sym (active-at scenario more t))
    ∙ sym (width-at scenario more t)) in
    ap (λ n. take n (drop (place_of scenario cells t)
    (stream_of (reached (place_of scenario cells t + size * length members) (stream_now scenario cells t)).pieces)))
    many
    ∙ ap (λ n. take (scenario.size * width scenario more t)
    (drop n (stream_of (reached (place_of scenario cells t + size * length members)
    (stream_now scenario cells t)).pieces)))
    (sym (alike-place scenario more scenario cells t (tick-alike scenario cells back t told)))
    ∙ ap (λ (stream : Stream). take (scenario.size * width scenario more t)
    (drop (place_of scenario more t) (stream_of stream.pieces)))
    (stream-ticked scenario cells back t (place_of scenario cells t + size * length members) told further)

-- the nibble that a line sends
nibble-by : (scenario : Scenario) (cells : List (Option Told)) (line t n : ℕ) → n ≡ steps_in (t + 1) →
    slice_index (nibbles_after scenario cells line n) ((t % 16 + 8) % 16) ≡ nibble_at scenario cells line t
nibble-by scenario cells line t zero is =
    let low : t < 8 = omega arith in
    get_or-replicate 16 ((t % 16 + 8) % 16) 0 0 (omega arith)
    ∙ ap (λ b. if b then 0 else nibble_in scenario cells line ((t - 8) / 16) ((t - 8) % 16)) (sym (lt-ltb t 8 low))
nibble-by scenario cells line t (suc k) is =
    let high : 8 ≤ t = omega arith in
    let same : k ≡ (t - 8) / 16 = omega arith in
    let place : (t % 16 + 8) % 16 ≡ (t - 8) % 16 = omega arith in
    ap (nibble_in scenario cells line k) place ∙ ap (λ k. nibble_in scenario cells line k ((t - 8) % 16)) same
    ∙ ap (λ b. if b then 0 else nibble_in scenario cells line ((t - 8) / 16) ((t - 8) % 16))
    (sym (not-below t high)) where
      not-below : (t : ℕ) → 8 ≤ t → nat_lt t 8 ≡ false
      not-below t high = grind (arith, nat_tests, high)

pub frame-ticked : (size t : ℕ) (table : Course) (members : List ℕ) (nibbles : List (List ℕ)) (left : Told)
    (row : List ℕ) (lines : ℕ) (scenario : Scenario) (more : List (Option Told)) →
    NextFields scenario more t table members nibbles left → size ≡ scenario.size → row ≡ payload_of scenario more t →
    lines ≡ length scenario.windows →
    containers_by lines t nibbles members size row ≡ frame_of scenario more t
frame-ticked size t table members nibbles left row lines scenario more fields is_size is_row are_lines =
    let all = length scenario.windows in
    ap (λ n. containers_by n t nibbles members size row) are_lines
    ∙ ap (λ nibbles. containers_by all t nibbles members size row) fields.nibbles_are
    ∙ ap (λ members. containers_by all t (nibbles_now scenario more (t + 1)) members size row)
    (fields.members_are ∙ sym (active-at scenario more t))
    ∙ ap (λ size. containers_by all t (nibbles_now scenario more (t + 1)) (active_at scenario more t) size row) is_size
    ∙ ap (containers_by all t (nibbles_now scenario more (t + 1)) (active_at scenario more t) scenario.size) is_row
    ∙ fill_by_all (λ line. container_of scenario more line t)
    (containers_by all t (nibbles_now scenario more (t + 1)) (active_at scenario more t) scenario.size
    (payload_of scenario more t)) all
    (container_of scenario more 0 t) (length-map-range_with_len _ 0 all) each where
      made : ℕ → ℕ → Container
      made nibble line = record {
        h4 = 16 * nibble + t % 16;
        payload =
            payload_on (active_at scenario more t) line scenario.size (payload_of scenario more t);
      }

      each : (line : ℕ) → line < length scenario.windows →
          slice_index_or (containers_by (length scenario.windows) t (nibbles_now scenario more (t + 1))
          (active_at scenario more t) scenario.size (payload_of scenario more t)) line
          (container_of scenario more 0 t)
          ≡ container_of scenario more line t
      each line low =
          get_or-map-range_with_len (container_by t (nibbles_now scenario more (t + 1))
          (active_at scenario more t) scenario.size (payload_of scenario more t)) 0
          (length scenario.windows) line line
          (container_of scenario more 0 t) low (omega arith)
          ∙ ap (λ nibbles. made (slice_index nibbles ((t % 16 + 8) % 16)) line)
          (get_or-map-range_with_len (λ line. nibbles_after scenario more line (steps_in (t + 1))) 0
          (length scenario.windows) line line [] low (omega arith))
          ∙ ap (λ nibble. made nibble line) (nibble-by scenario more line t (steps_in (t + 1)) refl)
