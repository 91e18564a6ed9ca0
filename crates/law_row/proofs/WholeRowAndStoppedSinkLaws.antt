-- Which rows are whole, the octets that their containers join to, and the same where the sink stops.
use Rattle.std.proofs.Common.{◌≡◌, ℕ, zero, suc, ◌+◌, ◌*◌, ◌≤◌, List, [], ◌∷◌, ◌++◌, map, length, slice_get}
use Rattle.std.proofs.Common.{slice_index, nat_lt, ◌-◌, ◌/◌, if◌then◌else◌, Option, Some, inl, inr, refl, sym, ◌∙◌, ap}
use Rattle.std.proofs.Common.{arith, ◌<◌, ◌&&◌, Bool, true, false, filter, None, option_map, ap₂, ◌%◌, ◌==◌, ◌||◌, not}
use Rattle.std.specs.List.{range_with_len, list_all}
use Rattle.std.proofs.lemmas.Bool.{cases_Bool, ltb-false, and_parts, and_from}
use Rattle.std.proofs.lemmas.List.{length-map, nil_from_length}
use Rattle.std.proofs.lemmas.List.FromFn.{fill_by_all}
use Rattle.law_model.specs.Common.{Container, octets_at, octets_from, carried_row, Scenario, Told, active, table_of}
use Rattle.law_model.specs.Common.{width, payload_of, Cell, is_good, carried_by, is_norm, is_normal, cells_before}
use Rattle.law_model.specs.Common.{container_on, with_first, containers_at, carriers_at, row_at, is_known, known_lines}
use Rattle.law_model.specs.Common.{is_whole_under, is_whole_row, orders_at, is_read, is_heard, is_lost, Table, Source}
use Rattle.law_model.specs.Common.{asked_all, decide, cell_at, after, said_before, said, is_line, is_line_up}
use Rattle.law_model.specs.Common.{last_read, is_up, is_restored, are_missed, word_by, word, stands_at, group_of}
use Rattle.law_model.specs.Common.{status, return_cell, packets, session_cells, are_inferred, most_lines}
use Rattle.law_session.proofs.ClientStreamAndReplayLaws.{payload-length}
use Rattle.law_row.specs.Received.{AreDealt, IsDealtRow, row_octets, TellsRow, stopping}
use Rattle.law_model.specs.declared.lcas_states.Member.{Member}
use Rattle.law_model.specs.rows.GroupRows.{row_by}
use Rattle.law_session.specs.Feedback.{lines_of}
use Rattle.law_session.proofs.SourceOrderAndPlanLaws.{times, IsBelow}
use Rattle.law_row.proofs.ActivePacketsLaws.{carrying, inside, below-after}
use Rattle.law_row.proofs.SilentLineAndKnownCarrierLaws.{carriers-known, carriers-stop}
use Rattle.law_row.proofs.LastWordAndReturnPacketLaws.{any-same, map-same}

-- ---- Octets that were dealt to containers in turn are joined again.
abbrev payloads : List Container → List (List ℕ)
payloads containers = map (λ container. container.payload) containers

-- two runs of numbers, one after the other
map-range : (g : ℕ → ℕ) (a m n : ℕ) →
    map g (range_with_len a m) ++ map g (range_with_len (a + m) n) ≡ map g (range_with_len a (m + n))
map-range g a zero n =
    let e : a + 0 ≡ a = omega arith in
    let f : n ≡ 0 + n = omega arith in
    ap (λ c. map g (range_with_len c n)) e ∙ ap (λ c. map g (range_with_len a c)) f
map-range g a (suc m) n =
    let e : a + suc m ≡ a + 1 + m = omega arith in
    let f : suc (m + n) ≡ suc m + n = omega arith in
    ap (λ c. g a ∷ (map g (range_with_len (a + 1) m) ++ map g (range_with_len c n))) e
    ∙ ap (λ rest. g a ∷ rest) (map-range g (a + 1) m n) ∙ ap (λ c. map g (range_with_len a c)) f

-- one place of each container
place-map : (octet : ℕ → ℕ) (place from : ℕ) (containers : List Container) →
    ((r : ℕ) (container : Container) → slice_get containers r ≡ Some container →
    slice_index container.payload place ≡ octet (from + r)) →
    octets_at place (payloads containers) ≡ map octet (range_with_len from (length containers))
place-map octet place from [] dealt = refl
place-map octet place from (container ∷ containers) dealt =
    let zero_on : from + 0 ≡ from = omega arith in
    ap (λ o. o ∷ octets_at place (payloads containers)) (dealt 0 container refl ∙ ap octet zero_on)
    ∙ ap (λ rest. octet from ∷ rest)
    (place-map octet place (from + 1) containers
    (λ r c here. let e : from + suc r ≡ from + 1 + r = omega arith in dealt (suc r) c here ∙ ap octet e))

next_place : (p x : ℕ) → suc p * x ≡ p * x + x
next_place p x = omega arith

next_size : (n x : ℕ) → suc n * x ≡ x + n * x
next_size n x = omega arith

joined-from : (octet : ℕ → ℕ) (containers : List Container) (size : ℕ) → AreDealt octet containers size → (p n : ℕ) →
    p + n ≤ size →
    octets_from p n (payloads containers) ≡ map octet (range_with_len (p * length containers) (n * length containers))
unfolding octets_from
joined-from octet containers size dealt p zero fits = let e : 0 ≡ 0 * length containers = omega arith in
    ap (λ c. map octet (range_with_len (p * length containers) c)) e
joined-from octet containers size dealt p (suc n) fits =
    let x = length containers in
    ap (λ front. front ++ octets_from (suc p) n (payloads containers))
    (place-map octet p (p * x) containers (λ r c here. dealt r p c here (omega arith)))
    ∙ ap (λ rest. map octet (range_with_len (p * x) x) ++ rest)
    (joined-from octet containers size dealt (suc p) n (omega arith)
    ∙ ap (λ c. map octet (range_with_len c (n * x))) (next_place p x))
    ∙ map-range octet (p * x) x (n * x)
    ∙ ap (λ c. map octet (range_with_len (p * x) c)) (sym (next_size n x))

pub joined-dealt : (octet : ℕ → ℕ) (containers : List Container) (size : ℕ) → AreDealt octet containers size →
    carried_row containers size ≡ map octet (range_with_len 0 (size * length containers))
joined-dealt octet containers size dealt =
    let e : 0 * length containers ≡ 0 = omega arith in
    joined-from octet containers size dealt 0 size (omega arith)
    ∙ ap (λ c. map octet (range_with_len c (size * length containers))) e

-- ---- the octets of a row
listed : (xs : List ℕ) (n : ℕ) → length xs ≡ n → map (λ place. slice_index xs place) (range_with_len 0 n) ≡ xs
listed xs n size = sym (fill_by_all (λ place. slice_index xs place) xs n 0 size (λ k inside. refl))

pub row-payload : (scenario : Scenario) (returns : List (Option Told)) (sent : ℕ → Container) (t : ℕ) →
    IsDealtRow scenario returns sent t →
    row_octets scenario returns sent t ≡ payload_of scenario returns t
row-payload scenario returns sent t dealt =
    let octets = payload_of scenario returns t in
    let long = payload-length scenario returns t in
    elim (cases_Bool (nat_lt t 24)) [
      | inl early ↦
          let none : width scenario returns t ≡ 0 = rw early refl in
          let size : length octets ≡ 0 = long ∙ ap (λ n. scenario.size * n) none
          ∙ (let e : scenario.size * 0 ≡ 0 = omega arith in e) in
          ap (λ b. if b then [] else carried_row (map sent (active (table_of scenario returns ((t - 24) / 16))))
          scenario.size) early
          ∙ sym (nil_from_length octets size)
      | inr late ↦
          let act = active (table_of scenario returns ((t - 24) / 16)) in
          let lines : width scenario returns t ≡ length act = rw late refl in
          let count : scenario.size * length (map sent act) ≡ scenario.size * length act =
          ap (λ n. scenario.size * n) (length-map act sent) in
          let whole = joined-dealt (λ place. slice_index octets place) (map sent act) scenario.size
          (dealt (ltb-false t 24 late)) in
          let row : carried_row (map sent act) scenario.size ≡ octets =
          whole ∙ listed octets (scenario.size * length (map sent act))
          (long ∙ ap (λ n. scenario.size * n) lines ∙ sym count) in
          ap (λ b. if b then [] else carried_row (map sent act) scenario.size) late ∙ row
    ]

-- ---- A row is whole by the packets that are read exactly where it is by the table and the failures.
-- ---- the containers
abbrev pub AreBelow : ℕ → List ℕ → Type 0
AreBelow n [] = Unit {0}
AreBelow n (x ∷ xs) = (x < n) × AreBelow n xs

AreBelow-carrying : (n : ℕ) (order : List Member) → IsBelow n (times (lines_of order)) → AreBelow n (carrying order)
AreBelow-carrying n [] below = tt
AreBelow-carrying n (member ∷ order) below =
    let rest = AreBelow-carrying n order (λ l high. let none = below l high in omega arith) in
    let here = inside n member order below in
    elim (is_norm member.standing) as (λ b. AreBelow n
    (map (λ m. m.line) (if b then member ∷ filter is_normal order else filter is_normal order))) [
      | true ↦ (here, rest)
      | false ↦ rest
    ]

with_first-if : (a b : Bool) (container : Container) (rest : List Container) →
    with_first (if a then Some container else None) (if b then Some rest else None) ≡
    (if a && b then Some (container ∷ rest) else None)
with_first-if true true container rest = refl
with_first-if true false container rest = refl
with_first-if false b container rest = refl

containers_at-good : (cells : List (List Cell)) (t n : ℕ) (good : ℕ → Bool) (sent : ℕ → Container) →
    ((l : ℕ) → l < n → container_on (slice_get cells l) t ≡ (if good l then Some (sent l) else None)) →
    (lines : List ℕ) → AreBelow n lines →
    containers_at cells t lines ≡ (if list_all good lines then Some (map sent lines) else None)
containers_at-good cells t n good sent told [] below = refl
containers_at-good cells t n good sent told (line ∷ lines) below =
    ap₂ with_first (told line below.0) (containers_at-good cells t n good sent told lines below.1)
    ∙ with_first-if (good line) (list_all good lines) (sent line) (map sent lines)

-- ---- the row that lines give where they are known
option_map-if : (f : List Container → List ℕ) (a : Bool) (containers : List Container) →
    option_map f (if a then Some containers else None) ≡ (if a then Some (f containers) else None)
option_map-if f true containers = refl
option_map-if f false containers = refl

row-by : (known good : Bool) (lines : List ℕ) (size : ℕ) (cells : List (List Cell)) (t : ℕ)
    (containers : List Container) → containers_at cells t lines ≡ (if good then Some containers else None) →
    row_by (if known then Some lines else None) size cells t
    ≡ (if known && good then Some (carried_row containers size) else None)
row-by true good lines size cells t containers are =
    ap (option_map (λ given. carried_row given size)) are
    ∙ option_map-if (λ given. carried_row given size) good containers
row-by false good lines size cells t containers are = refl

row-under : (scenario : Scenario) (returns : List (Option Told)) (sent : ℕ → Container) (cells : List (List Cell))
    (k t : ℕ) →
    ((line : ℕ) → line < length scenario.windows →
    container_on (slice_get cells line) t ≡
    (if is_good (carried_by scenario line) t then Some (sent line) else None)) →
    row_by (known_lines scenario returns k) scenario.size cells t
    ≡ (if is_whole_under scenario returns k t then Some
    (carried_row (map sent (active (table_of scenario returns k))) scenario.size) else None)
row-under scenario returns sent cells k t told =
    let table = table_of scenario returns k in
    let good = λ (line : ℕ). is_good (carried_by scenario line) t in
    row-by (is_known scenario returns k) (list_all good (active table)) (active table) scenario.size cells t
    (map sent (active table))
    (containers_at-good cells t (length scenario.windows) good sent told (active table)
    (AreBelow-carrying (length scenario.windows) table.order (below-after scenario returns k)))

-- the sink knows of row t which lines carry payload, as the session does
abbrev KnowsRow : Scenario → List (Option Told) → List (List Cell) → ℕ → Type 0
KnowsRow scenario returns cells t = 24 ≤ t →
    carriers_at scenario.options cells ((t - 24) / 16) ≡ known_lines scenario returns ((t - 24) / 16)

row-known : (scenario : Scenario) (returns : List (Option Told)) (sent : ℕ → Container) (cells : List (List Cell))
    (t : ℕ) → KnowsRow scenario returns cells t → TellsRow scenario returns sent cells t →
    row_at scenario.options scenario.size cells t
    ≡ (if is_whole_row scenario returns t then Some (row_octets scenario returns sent t) else None)
row-known scenario returns sent cells t knows tells =
    elim (cases_Bool (nat_lt t 24)) [
      | inl early ↦ rw early refl
      | inr late ↦
          let known = knows (ltb-false t 24 late) in
          rw (late, known) (row-under scenario returns sent cells ((t - 24) / 16) t tells.containers)
    ]

pub row-whole : (scenario : Scenario) (n : ℕ) (sent : ℕ → Container) (cells : List (List Cell)) (t : ℕ) →
    length scenario.windows ≤ most_lines → 0 < scenario.lag → TellsRow scenario (cells_before scenario n) sent cells t →
    row_at scenario.options scenario.size cells t
    ≡ (if is_whole_row scenario (cells_before scenario n) t
    then Some (row_octets scenario (cells_before scenario n) sent t) else None)
row-whole scenario n sent cells t limit lag tells =
    row-known scenario (cells_before scenario n) sent cells t
    (λ late. carriers-known scenario n ((t - 24) / 16) cells limit lag (tells.packets late)) tells

pub row-stops : (scenario : Scenario) (returns : List (Option Told)) (sent : ℕ → Container) (cells : List (List Cell))
    (t : ℕ) → length scenario.windows ≤ most_lines → scenario.options.infers ≡ false →
    TellsRow scenario returns sent cells t →
    row_at scenario.options scenario.size cells t
    ≡ (if is_whole_row scenario returns t then Some (row_octets scenario returns sent t) else None)
row-stops scenario returns sent cells t limit stops tells =
    row-known scenario returns sent cells t
    (λ late. carriers-stop scenario returns ((t - 24) / 16) cells limit stops (tells.packets late)) tells

-- ---- The same script with `sink stops` has the same tables and return packets, and each row that is whole there is whole.
module _ (scenario : Scenario) where
  -- ---- tables
  stopping-after : (cells : List (Option Told)) (j : ℕ) → after (stopping scenario) cells j ≡ after scenario cells j
  unfolding after
  stopping-after cells zero = refl
  stopping-after cells (suc j) =
      ap (λ source. decide ((j - scenario.lag) % scenario.options.statuses) (cell_at scenario cells j)
      (asked_all (length scenario.windows) (orders_at scenario j) source)) (stopping-after cells j)

  pub stopping-table : (cells : List (Option Told)) (j : ℕ) →
      table_of (stopping scenario) cells j ≡ table_of scenario cells j
  stopping-table cells j = ap (λ (source : Source). source.table) (stopping-after cells (suc j))

  -- ---- return cells
  stopping-said : (cells : List (Option Told)) (k : ℕ) →
      said_before (stopping scenario) cells k ≡ said_before scenario cells k
  unfolding said_before
  stopping-said cells zero = refl
  stopping-said cells (suc k) =
      ap (λ (table : Table). if is_heard scenario k then table.count else said_before (stopping scenario) cells k)
      (stopping-table cells k)
      ∙ ap (λ count. if is_heard scenario k then (table_of scenario cells k).count else count) (stopping-said cells k)

  stopping-up : (read : ℕ → Bool) (k : ℕ) →
      is_up (stopping scenario).options read k ≡ is_up scenario.options read k
  unfolding is_up
  stopping-up read zero = refl
  stopping-up read (suc k) =
      ap (λ up. is_restored scenario.options.restore read (suc k)
      || (not (are_missed scenario.options.holdoff read (suc k)) && up)) (stopping-up read k)

  stopping-stands : (cells : List (Option Told)) (line sq count : ℕ) (found : Option ℕ) →
      stands_at (stopping scenario) cells line sq (word_by (stopping scenario) cells count found)
      ≡ stands_at scenario cells line sq (word_by scenario cells count found)
  stopping-stands cells line sq count None = refl
  stopping-stands cells line sq count (Some last) =
      ap (λ (table : Table). stands_at (stopping scenario) cells line sq
      (if table.count == count then Some last else None)) (stopping-table cells last)
      ∙ elim ((table_of scenario cells last).count == count)
      as (λ b. stands_at (stopping scenario) cells line sq (if b then Some last else None)
      ≡ stands_at scenario cells line sq (if b then Some last else None)) [
        | true ↦ ap (λ (table : Table). is_line line (slice_get table.order sq)) (stopping-table cells last)
        | false ↦ refl
      ]

  stopping-status : (cells : List (Option Told)) (k sq : ℕ) →
      status (stopping scenario) cells k sq ≡ status scenario cells k sq
  stopping-status cells k sq =
      any-same
      (λ line. is_line_up (stopping scenario) line k
      && stands_at (stopping scenario) cells line sq (word (stopping scenario) cells line k))
      (λ line. is_line_up scenario line k && stands_at scenario cells line sq (word scenario cells line k)) 0
      (length scenario.windows)
      (λ line low high. ap₂ (λ up stands. up && stands) (stopping-up (is_read scenario line) k)
      (ap (λ count. stands_at (stopping scenario) cells line sq
      (word_by (stopping scenario) cells count (last_read (is_read scenario line) k))) (stopping-said cells (suc k))
      ∙ stopping-stands cells line sq (said scenario cells k) (last_read (is_read scenario line) k)))

  stopping-cell : (cells : List (Option Told)) (k : ℕ) →
      return_cell (stopping scenario) cells k ≡ return_cell scenario cells k
  stopping-cell cells k =
      let sq = λ (i : ℕ). 8 * group_of scenario k + i in
      ap (λ count. if is_lost scenario k then None else Some (let told : Told = record {
        rs_ack = count % 2;
        oks = map (λ i. status (stopping scenario) cells k (sq i)) (0 ∷ 1 ∷ 2 ∷ 3 ∷ 4 ∷ 5 ∷ 6 ∷ 7 ∷ []);
      } in told)) (stopping-said cells (suc k))
      ∙ ap (λ oks. if is_lost scenario k then None else Some
      (let told : Told = record { rs_ack = said scenario cells k % 2; oks = oks } in told))
      (map-same (λ i. status (stopping scenario) cells k (sq i)) (λ i. status scenario cells k (sq i))
      (0 ∷ 1 ∷ 2 ∷ 3 ∷ 4 ∷ 5 ∷ 6 ∷ 7 ∷ []) (λ i. stopping-status cells k (sq i)))

  stopping-cells : (n : ℕ) → cells_before (stopping scenario) n ≡ cells_before scenario n
  unfolding cells_before
  stopping-cells zero = refl
  stopping-cells (suc n) =
      ap (λ cells. cells ++ return_cell (stopping scenario) cells n ∷ []) (stopping-cells n)
      ∙ ap (λ cell. cells_before scenario n ++ cell ∷ []) (stopping-cell (cells_before scenario n) n)

  pub stopping-session : session_cells (stopping scenario) ≡ session_cells scenario
  stopping-session = stopping-cells (packets scenario)

  -- ---- rows
  stopping-under : (cells : List (Option Told)) (k t : ℕ) →
      is_whole_under (stopping scenario) cells k t ≡ true → is_whole_under scenario cells k t ≡ true
  stopping-under cells k t whole =
      let act = active (table_of scenario cells k) in
      let good = list_all (λ line. is_good (carried_by scenario line) t) act in
      let all = list_all (λ line. is_read scenario line k) act in
      let infers = scenario.options.infers && are_inferred scenario cells k in
      let here : ((is_heard scenario k && (all || false)) && good) ≡ true =
      sym (ap (λ (table : Table). (is_heard scenario k
      && (list_all (λ line. is_read scenario line k) (active table) || false))
      && list_all (λ line. is_good (carried_by scenario line) t) (active table)) (stopping-table cells k)) ∙ whole in
      let parts = and_parts (is_heard scenario k && (all || false)) good here in
      let known = and_parts (is_heard scenario k) (all || false) parts.0 in
      and_from (is_heard scenario k && (all || infers)) good
      (and_from (is_heard scenario k) (all || infers) known.0
      (elim all as (λ a. (a || false) ≡ true → (a || infers) ≡ true)
      [ true ↦ λ is. refl | false ↦ λ is. absurd cc ] known.1)) parts.1

  pub stopping-more : (cells : List (Option Told)) (t : ℕ) →
      is_whole_row (stopping scenario) cells t ≡ true → is_whole_row scenario cells t ≡ true
  stopping-more cells t =
      elim (nat_lt t 24) as (λ b.
      (if b then true else is_whole_under (stopping scenario) cells ((t - 24) / 16) t) ≡ true →
      (if b then true else is_whole_under scenario cells ((t - 24) / 16) t) ≡ true)
      [ true ↦ λ whole. refl | false ↦ stopping-under cells ((t - 24) / 16) t ]
