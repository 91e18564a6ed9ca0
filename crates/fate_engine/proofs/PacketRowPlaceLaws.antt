-- The places at which rows begin, by the runs of packets that govern them.
use Rattle.std.proofs.Common.{◌≡◌, ℕ, zero, suc, ◌+◌, ◌-◌, ◌*◌, ◌/◌, ◌^◌, ◌<◌, ◌≤◌, ◌⊎◌, nat_le, nat_lt, Bool, true}
use Rattle.std.proofs.Common.{false, List, [], ◌∷◌, ◌++◌, length, take, drop, set, replicate, All, Option, Some, slice_get}
use Rattle.std.proofs.Common.{slice_index_or, refl, sym, ◌∙◌, ap, ap₂, subst, arith, inl, inr, length-append, sum_by}
use Rattle.std.proofs.Common.{mul-le-mul_left, mul-le-mul_right, leb-true, leb-false, le-leb, lt-ltb, le-ltb, append-nil}
use Rattle.std.proofs.Common.{append_assoc}
use Rattle.std.specs.List.Sorted.{IsPartitionedBy, IsPartitionPoint}
use Rattle.std.proofs.lemmas.List.Sums.{sum_by-append, sum_by-le}
use Rattle.std.proofs.lemmas.List.Folds.{sum_by-replicate}
use Rattle.std.proofs.lemmas.List.Concat.{flat_map-append, get_or-flat_map}
use Rattle.std.proofs.lemmas.List.{length-replicate, get_or-replicate, take-append-drop, take-append-le, set_split}
use Rattle.std.proofs.lemmas.List.{replicate-append-replicate, drop_all}
use Rattle.std.proofs.lemmas.Option.{slice_get_within, slice_get-get_or, get_or_from_slice_get}
use Rattle.std.proofs.Math.Seq.{take-add, take-suc, take-length, take-append_seam}
use Rattle.std.proofs.lemmas.List.Elements.{All-nil, All-cons, All-append}
use Rattle.std.proofs.lemmas.Bool.{cases_lt}
use Rattle.law_model.proofs.ListLaws.{slice_get-append, slice_get-append_seam}
use Rattle.law_model.specs.Common.{Scenario, Told, width, place_of, most_lines, most_packets}
use Rattle.fate_engine.specs.Common.{PacketList, ArePackets, ArePacketRuns, IsRun, active_in, lines_of, octets_of, start_by}
use Rattle.fate_engine.specs.Common.{packets_in, Follows, AreApart, IsPacketList}
use Rattle.fate_engine.specs.declared.fate_core.packet_rows.Run.{Run}

-- The places at which rows begin, by the runs of packets that govern them.
-- ---- the octets of rows
pub octets-append : (size : ℕ) (xs ys : List (List ℕ)) →
    octets_of size (xs ++ ys) ≡ octets_of size xs + octets_of size ys
octets-append size xs ys =
    ap (λ n. size * n * 16) (sum_by-append length xs ys) ∙ spread (sum_by length xs) (sum_by length ys)
  where
    spread : (a b : ℕ) → size * (a + b) * 16 ≡ size * a * 16 + size * b * 16
    spread a b = omega arith

pub octets-same : (size n : ℕ) (x : List ℕ) → octets_of size (replicate n x) ≡ 16 * n * (size * length x)
octets-same size n x = ap (λ k. size * k * 16) (sum_by-replicate length n x) ∙ turned (length x)
  where
    turned : (w : ℕ) → size * (n * w) * 16 ≡ 16 * n * (size * w)
    turned w = omega arith

pub octets-few : (size : ℕ) (xs : List (List ℕ)) → size < 2 ^ 16 → length xs ≤ most_packets →
    All (λ (x : List ℕ). length x ≤ most_lines) xs → octets_of size xs ≤ 838860800000000
octets-few size xs small few narrow =
    let sum : sum_by length xs ≤ 800000000 =
    (let all = sum_by-le length most_lines xs narrow in omega (arith, all, few)) in
    omega (arith, mul-le-mul_left size sum, mul-le-mul_right 800000000 (let le : size ≤ 65536 = omega arith in le))

pub start-next : (size : ℕ) (xs : List (List ℕ)) (k : ℕ) → k < length xs →
    start_by size xs (suc k) ≡ start_by size xs k + 16 * (size * length (slice_index_or xs k []))
start-next size xs k low =
    ap (octets_of size) (take-suc xs k [] low) ∙ octets-append size (take k xs) (slice_index_or xs k [] ∷ [])
    ∙ ap (λ n. start_by size xs k + n) (octets-same size 1 (slice_index_or xs k []))

-- ---- runs and the packets before them
module _ (runs : List Run) where
  abbrev before : ℕ → List (List ℕ)
  before i = active_in (take i runs)

  before-more : (i d : ℕ) → before (i + d) ≡ before i ++ active_in (take d (drop i runs))
  before-more i d = ap active_in (take-add i d runs) ∙ flat_map-append lines_of (take i runs) (take d (drop i runs))

  whole : (i : ℕ) → active_in runs ≡ before i ++ active_in (drop i runs)
  whole i = ap active_in (sym (take-append-drop i runs)) ∙ flat_map-append lines_of (take i runs) (drop i runs)

  before-next : (i : ℕ) (run : Run) → slice_get runs i ≡ Some run → before (suc i) ≡ before i ++ lines_of run
  before-next i run there =
      let within = slice_get_within runs i run there in
      ap active_in (take-suc runs i run within) ∙ flat_map-append lines_of (take i runs) (slice_index_or runs i run ∷ [])
      ∙ ap (λ r. before i ++ (lines_of r ++ [])) (get_or_from_slice_get runs i run run there)
      ∙ ap (λ l. before i ++ l) (append-nil (lines_of run))

  packets-next : (i : ℕ) (run : Run) → slice_get runs i ≡ Some run →
      length (before (suc i)) ≡ length (before i) + run.packets
  packets-next i run there =
      ap length (before-next i run there) ∙ length-append (before i) (lines_of run)
      ∙ ap (λ n. length (before i) + n) (length-replicate run.packets run.lines.items)

  octets-next : (size i : ℕ) (run : Run) → slice_get runs i ≡ Some run →
      octets_of size (before (suc i)) ≡ octets_of size (before i) + 16 * run.packets * (size * length run.lines.items)
  octets-next size i run there =
      ap (octets_of size) (before-next i run there) ∙ octets-append size (before i) (lines_of run)
      ∙ ap (λ n. octets_of size (before i) + n) (octets-same size run.packets run.lines.items)

  packets-rise : (i j : ℕ) → i ≤ j → length (before i) ≤ length (before j)
  packets-rise i j le =
      let e : i + (j - i) ≡ j = omega arith in
      omega (
        arith,
        ap length (before-more i (j - i)),
        length-append (before i) (active_in (take (j - i) (drop i runs))),
        ap (λ n. length (before n)) e,
      )

  octets-rise : (size i j : ℕ) → i ≤ j → octets_of size (before i) ≤ octets_of size (before j)
  octets-rise size i j le =
      let e : i + (j - i) ≡ j = omega arith in
      omega (
        arith,
        ap (octets_of size) (before-more i (j - i)),
        octets-append size (before i) (active_in (take (j - i) (drop i runs))),
        ap (λ n. octets_of size (before n)) e,
      )

-- a fact of the lines of runs holds of the lines of their packets
narrow-all : (runs : List Run) →
    ((i : ℕ) (run : Run) → slice_get runs i ≡ Some run → length run.lines.items ≤ most_lines) →
    All (λ (x : List ℕ). length x ≤ most_lines) (active_in runs)
narrow-all [] narrow = All-nil (λ (x : List ℕ). length x ≤ most_lines)
narrow-all (run ∷ runs) narrow =
    All-append (λ (x : List ℕ). length x ≤ most_lines) (lines_of run) (active_in runs)
    (same run.packets (narrow zero run refl)) (narrow-all runs (λ i r there. narrow (suc i) r there))
  where
    same : (n : ℕ) → length run.lines.items ≤ most_lines →
        All (λ (x : List ℕ). length x ≤ most_lines) (replicate n run.lines.items)
    same zero low = All-nil (λ (x : List ℕ). length x ≤ most_lines)
    same (suc n) low = All-cons (λ (x : List ℕ). length x ≤ most_lines) run.lines.items
        (replicate n run.lines.items) low (same n low)

-- ---- a run of a list
module _ (size : ℕ) (runs : List Run) (count end : ℕ) (is : IsPacketList size runs count end) where
  octets-low : octets_of size (active_in runs) ≤ 838860800000000
  octets-low = octets-few size (active_in runs) is.small (let all = is.all in let few = is.few in omega (arith, all, few))
      (narrow-all runs (λ i run there. (is.begin.each i run there).narrow))

  pub end-low : end ≤ 838860800000000
  end-low = let ends = is.ends in omega (arith, octets-low, ends)

  start-before : (i : ℕ) →
      start_by size (active_in runs) (length (before runs i)) ≡ octets_of size (before runs i)
  start-before i = ap (octets_of size) (ap (take (length (before runs i))) (whole runs i)
      ∙ take-append_seam (before runs i) (active_in (drop i runs)))

  pub is-run : (known : List Bool) (i : ℕ) (run : Run) → slice_get runs i ≡ Some run →
      IsRun (packets_in size runs known) run
  is-run known i run there =
      let low = slice_get_within runs i run there in
      let own : slice_index_or runs i run ≡ run = get_or_from_slice_get runs i run run there in
      let follows = is.begin.each i run there in
      record {
        first = length (before runs i);
        row = follows.row;
        start = follows.start ∙ sym (start-before i);
        within = omega (
          arith,
          packets-next runs i run there,
          ap length (whole runs (suc i)),
          length-append (before runs (suc i)) (active_in (drop (suc i) runs)),
        );
        few = (let all = is.all in let few = is.few in omega (arith, all, few));
        lines = λ j inside.
            get_or-flat_map lines_of runs i j run [] low
            (subst (λ (r : Run). j < length (lines_of r)) (sym own)
            (let all = length-replicate run.packets run.lines.items in omega (arith, all, inside)))
            ∙ ap (λ (r : Run). slice_index_or (lines_of r) j []) own
            ∙ get_or-replicate run.packets j run.lines.items [] inside;
        narrow = follows.narrow;
        low =
            let upto = ap (octets_of size) (whole runs (suc i)) in
            let parts = octets-append size (before runs (suc i)) (active_in (drop (suc i) runs)) in
            let start = follows.start in
            omega (arith, octets-low, upto, parts, octets-next runs size i run there, start);
      }

-- ---- the run that a search finds
abbrev pub Begun : List Run → (Run → ℕ) → ℕ → ℕ → Type 0
Begun runs key x i = IsPartitionPoint (λ (run : Run). nat_le (key run) x ≡ true)
    (λ (run : Run). nat_le (key run) x ≡ false) runs i

-- the one before is there, begins by x and ends behind it
pub record Found (runs : List Run) (key span : Run → ℕ) (x i : ℕ) : Type 0 where
  pub some : 1 ≤ i
  pub from : (run : Run) → slice_get runs (i - 1) ≡ Some run → key run ≤ x
  pub below : (run : Run) → slice_get runs (i - 1) ≡ Some run → x < key run + span run

-- each begins where those before it end
module _ (runs : List Run) (key span : Run → ℕ) (at : ℕ → ℕ)
    (keys : (i : ℕ) (run : Run) → slice_get runs i ≡ Some run → key run ≡ at i)
    (next : (i : ℕ) (run : Run) → slice_get runs i ≡ Some run → at (suc i) ≡ at i + span run)
    (rise : (i j : ℕ) → i ≤ j → at i ≤ at j) (x : ℕ) where
  key-at : (i : ℕ) (d : Run) → i < length runs → key (slice_index_or runs i d) ≡ at i
  key-at i d low = keys i (slice_index_or runs i d) (slice_get-get_or runs i d low)

  parted : IsPartitionedBy (λ (run : Run). nat_le (key run) x) runs
  parted i j d before within ended =
      let low = leb-true (key (slice_index_or runs j d)) x ended in
      le-leb (key (slice_index_or runs i d)) x
      (omega (arith, key-at i d (omega (arith, before, within)), key-at j d within, rise i j before, low))

  at-below : (i : ℕ) → i ≤ length runs → Begun runs key x i → x < at (length runs) → x < at i
  at-below i within point below =
      elim (cases_lt i (length runs)) [
        | inl more ↦ by runs refl more
        | inr last ↦ (let e : at (length runs) ≡ at i =
            ap at (let e : length runs ≡ i = omega (arith, last, within) in e) in omega (arith, e, below))
      ]
    where
      by : (xs : List Run) → xs ≡ runs → i < length runs → x < at i
      by [] same more = absurd (omega (arith, ap length same, more))
      by (run ∷ xs) same more =
          let above = leb-false (key (slice_index_or runs i run)) x (point.1 i run (omega arith) more) in
          omega (arith, key-at i run more, above)

  found : (i : ℕ) → i ≤ length runs → Begun runs key x i → at zero ≤ x → x < at (length runs) →
      Found runs key span x i
  found zero within point from below = let low = at-below zero within point below in absurd (omega (arith, low, from))
  found (suc i) within point from below = record {
    some = omega arith;
    from = λ run there.
        leb-true (key run) x (ap (λ r. nat_le (key r) x) (sym (get_or_from_slice_get runs i run run (own run there)))
        ∙ point.0 i run (omega arith) (omega (arith, within)));
    below = λ run there.
        let low = at-below (suc i) within point below in
        omega (arith, low, next i run (own run there), keys i run (own run there));
  }
    where
      own : (run : Run) → slice_get runs (suc i - 1) ≡ Some run → slice_get runs i ≡ Some run
      own run there = ap (slice_get runs) (let e : i ≡ suc i - 1 = omega arith in e) ∙ there

module _ (size : ℕ) (runs : List Run) (count end : ℕ) (is : IsPacketList size runs count end) (x : ℕ) where
  abbrev row-at : ℕ → ℕ
  row-at i = 24 + 16 * length (before runs i)

  abbrev start-at : ℕ → ℕ
  start-at i = octets_of size (before runs i)

  row-next : (i : ℕ) (run : Run) → slice_get runs i ≡ Some run → row-at (suc i) ≡ row-at i + 16 * run.packets
  row-next i run there = let next = packets-next runs i run there in omega (arith, next)

  row-rise : (i j : ℕ) → i ≤ j → row-at i ≤ row-at j
  row-rise i j le = let rise = packets-rise runs i j le in omega (arith, rise)

  row-keys : (i : ℕ) (run : Run) → slice_get runs i ≡ Some run → run.row ≡ row-at i
  row-keys i run there = (is.begin.each i run there).row

  start-keys : (i : ℕ) (run : Run) → slice_get runs i ≡ Some run → run.start ≡ start-at i
  start-keys i run there = (is.begin.each i run there).start

  abbrev pub rows : Run → ℕ
  rows run = 16 * run.packets

  abbrev pub octets : Run → ℕ
  octets run = 16 * run.packets * (size * length run.lines.items)

  pub rows-parted : IsPartitionedBy (λ (run : Run). nat_le run.row x) runs
  rows-parted = parted runs (λ run. run.row) rows row-at row-keys row-next row-rise x

  pub starts-parted : IsPartitionedBy (λ (run : Run). nat_le run.start x) runs
  starts-parted = parted runs (λ run. run.start) octets start-at start-keys (octets-next runs size) (octets-rise runs size) x

  all-before : before runs (length runs) ≡ active_in runs
  all-before = ap active_in (take-length runs)

  pub row-found : (i : ℕ) → i ≤ length runs → Begun runs (λ run. run.row) x i → 24 ≤ x →
      x < 24 + 16 * length (active_in runs) → Found runs (λ run. run.row) rows x i
  row-found i within point late governed =
      found runs (λ run. run.row) rows row-at row-keys row-next row-rise x i within point late
      (omega (arith, ap length all-before, governed))

  pub start-found : (i : ℕ) → i ≤ length runs → Begun runs (λ run. run.start) x i →
      x < octets_of size (active_in runs) → Found runs (λ run. run.start) octets x i
  start-found i within point low =
      found runs (λ run. run.start) octets start-at start-keys (octets-next runs size) (octets-rise runs size) x i within
      point (let e : start-at zero ≤ x = omega arith in e) (omega (arith, ap (octets_of size) all-before, low))

-- ---- a session
module _ (scenario : Scenario) (cells : List (Option Told)) where
  pub place-none : (t : ℕ) → t ≤ 24 → place_of scenario cells t ≡ 0
  unfolding place_of
  place-none zero low = refl
  place-none (suc t) low =
      let before = place-none t (omega arith) in
      let none : width scenario cells t ≡ 0 = rw (lt-ltb t 24 (omega arith)) refl in
      ap₂ (λ a b. a + scenario.size * b) before none ∙ (let e : 0 + scenario.size * 0 ≡ 0 = omega arith in e)

  module _ (packets : PacketList) (are : ArePackets scenario cells packets) where
    pub wide : (t k : ℕ) → 24 ≤ t → (t - 24) / 16 ≡ k → k < length packets.active →
        width scenario cells t ≡ length (slice_index_or packets.active k [])
    wide t k late is low =
        let behind : nat_lt t 24 ≡ false = le-ltb t 24 late in
        rw (behind, is) (ap length (sym (are.lines k low)))

    -- rows of packets with the same lines
    rows-same : (k n : ℕ) (lines : List ℕ) → k + n ≤ length packets.active →
        ((j : ℕ) → j < n → slice_index_or packets.active (k + j) [] ≡ lines) → (q : ℕ) → q ≤ 16 * n →
        place_of scenario cells (24 + 16 * k + q) ≡ place_of scenario cells (24 + 16 * k) + q * (packets.size * length lines)
    unfolding place_of
    rows-same k n lines within same zero low =
        ap (place_of scenario cells) (let e : 24 + 16 * k + 0 ≡ 24 + 16 * k = omega arith in e)
        ∙ (let e : place_of scenario cells (24 + 16 * k) ≡ place_of scenario cells (24 + 16 * k)
        + 0 * (packets.size * length lines) = omega arith in e)
    rows-same k n lines within same (suc q) low =
        let own : ℕ = packets.size * length lines in
        let j : ℕ = q / 16 in
        let few : q / 16 < n = omega arith in
        let next : place_of scenario cells (24 + 16 * k + suc q) ≡ place_of scenario cells (suc (24 + 16 * k + q)) =
        ap (place_of scenario cells) (let e : 24 + 16 * k + suc q ≡ suc (24 + 16 * k + q) = omega arith in e) in
        let row : scenario.size * width scenario cells (24 + 16 * k + q) ≡ own =
        ap₂ ◌*◌ (sym are.size) (wide (24 + 16 * k + q) (k + q / 16) (omega arith) (omega arith) (omega arith)
        ∙ ap length (same (q / 16) few)) in
        let more : suc q * own ≡ q * own + own = omega arith in
        next ∙ (let e : place_of scenario cells (24 + 16 * k + q) + scenario.size * width scenario cells
        (24 + 16 * k + q) ≡ place_of scenario cells (24 + 16 * k) + suc q * own =
        omega (arith, rows-same k n lines within same q (omega arith), row, more) in e)

    pub place-first : (k : ℕ) → k ≤ length packets.active →
        place_of scenario cells (24 + 16 * k) ≡ start_by packets.size packets.active k
    place-first zero low = ap (place_of scenario cells) (let e : 24 + 16 * 0 ≡ 24 = omega arith in e)
        ∙ place-none 24 (omega arith) ∙ none
      where
        none : 0 ≡ packets.size * 0 * 16
        none = omega arith
    place-first (suc k) low =
        ap (place_of scenario cells) (let e : 24 + 16 * suc k ≡ 24 + 16 * k + 16 = omega arith in e)
        ∙ (let e : place_of scenario cells (24 + 16 * k + 16) ≡ start_by packets.size packets.active (suc k) =
        let rows = rows-same k 1 (slice_index_or packets.active k []) (omega arith)
        (λ j one. ap (λ i. slice_index_or packets.active i []) (let e : k + j ≡ k = omega arith in e)) 16 (omega arith) in
        let next = start-next packets.size packets.active k (omega arith) in
        omega (arith, place-first k (omega arith), rows, next) in e)

    pub place-last : (row : ℕ) → row ≡ 16 * length packets.active + 24 →
        place_of scenario cells row ≡ start_by packets.size packets.active (length packets.active)
    place-last row last =
        ap (place_of scenario cells) (let e : row ≡ 24 + 16 * length packets.active = omega arith in e)
        ∙ place-first (length packets.active) (omega arith)

    module _ (run : Run) (is : IsRun packets run) where
      -- the place of a row of the run, or of the one behind them
      pub place-in : (row : ℕ) → run.row ≤ row → row ≤ run.row + 16 * run.packets →
          place_of scenario cells row ≡ run.start + (row - run.row) * (packets.size * length run.lines.items)
      place-in row from upto =
          let own = is.row in
          let at : row ≡ 24 + 16 * is.first + (row - run.row) = omega (arith, own) in
          let all = rows-same is.first run.packets run.lines.items is.within is.lines (row - run.row) (omega arith) in
          let first = place-first is.first (let low = is.within in omega (arith, low)) in
          ap (place_of scenario cells) at ∙ (let e : place_of scenario cells (24 + 16 * is.first + (row - run.row))
          ≡ run.start + (row - run.row) * (packets.size * length run.lines.items) =
          omega (arith, all, first, is.start) in e)

      pub packet-lines : (k : ℕ) → run.row ≤ 24 + 16 * k → 24 + 16 * k < run.row + 16 * run.packets →
          slice_index_or packets.active k [] ≡ run.lines.items
      packet-lines k from below =
          let own = is.row in
          ap (λ i. slice_index_or packets.active i []) (let e : k ≡ is.first + (k - is.first) = omega (arith, own) in e)
          ∙ is.lines (k - is.first) (omega (arith, own))

      pub run-width : (row : ℕ) → run.row ≤ row → row < run.row + 16 * run.packets →
          width scenario cells row ≡ length run.lines.items
      run-width row from below =
          let own = is.row in
          let within = is.within in
          let j : ℕ = (row - run.row) / 16 in
          let few : (row - run.row) / 16 < run.packets = omega arith in
          wide row (is.first + (row - run.row) / 16) (omega (arith, own)) (omega (arith, own)) (omega (arith, within, few))
          ∙ ap length (is.lines ((row - run.row) / 16) few)

-- ---- the row among those of a run
pub some-width : (x w n : ℕ) → x < n * w → 0 < w
some-width x zero n low = absurd (omega arith)
some-width x (suc w) n low = omega arith

pub few-rows : (x w n : ℕ) → x < n * w → x / w < n
few-rows x w n low =
    elim (cases_lt (x / w) n) [
      | inl few ↦ few
      | inr many ↦ absurd (let much = mul-le-mul_left w many in omega (arith, much, some-width x w n low, low))
    ]

-- ---- one more packet
front-or-last : {X : Type 0} (xs : List X) (x : X) (k : ℕ) (y : X) → slice_get (xs ++ x ∷ []) k ≡ Some y →
    ((slice_get xs k ≡ Some y) × (k < length xs)) ⊎ ((y ≡ x) × (k ≡ length xs))
front-or-last [] x zero y there = inr (cc, refl)
front-or-last [] x (suc zero) y there = absurd cc
front-or-last [] x (suc (suc k)) y there = absurd cc
front-or-last (own ∷ xs) x zero y there = inl (there, omega arith)
front-or-last (own ∷ xs) x (suc k) y there =
    elim (front-or-last xs x k y there) [
      | inl front ↦ inl (front.0, (let low = front.1 in omega (arith, low)))
      | inr last ↦ inr (last.0, (let at = last.1 in omega (arith, at)))
    ]

-- a run behind others
pub with-run : (size : ℕ) (front : List Run) (run : Run) → ArePacketRuns size front → Follows size front run →
    ArePacketRuns size (front ++ run ∷ [])
with-run size front run are follows = record {
  each = λ i r there. elim (front-or-last front run i r there) [
    | inl before ↦ subst (λ l. Follows size l r)
        (sym (take-append-le i front (run ∷ []) (let low = before.1 in omega (arith, low)))) (are.each i r before.0)
    | inr last ↦ subst (λ l. Follows size l r)
        (sym (ap (λ n. take n (front ++ run ∷ [])) last.1 ∙ take-append_seam front (run ∷ [])))
        (subst (Follows size front) (sym last.0) follows)
  ];
}

without-run : (size : ℕ) (front : List Run) (run : Run) → ArePacketRuns size (front ++ run ∷ []) →
    ArePacketRuns size front × Follows size front run
without-run size front run are = (
  record {
    each = λ i r there. subst (λ l. Follows size l r)
        (take-append-le i front (run ∷ []) (let low = slice_get_within front i r there in omega (arith, low)))
        (are.each i r (slice_get-append front (run ∷ []) i (slice_get_within front i r there) ∙ there));
  },
  subst (λ l. Follows size l run) (take-append_seam front (run ∷ []))
      (are.each (length front) run (slice_get-append_seam front run [])),
)

abbrev pub longer : Run → Run
longer run = record { lines = run.lines; packets = run.packets + 1; row = run.row; start = run.start }

module _ (runs : List Run) (last : ℕ) (run : Run) (count : suc last ≡ length runs) (there : slice_get runs last ≡ Some run)
  where
    with-longer : set runs last (longer run) ≡ take last runs ++ longer run ∷ []
    with-longer = set_split runs last (longer run) (omega (arith, count))
        ∙ ap (λ l. take last runs ++ longer run ∷ l) (drop_all (suc last) runs (omega (arith, count)))

    all-runs : take (suc last) runs ≡ runs
    all-runs = ap (λ n. take n runs) count ∙ take-length runs

    with-last : runs ≡ take last runs ++ run ∷ []
    with-last = sym all-runs ∙ take-suc runs last run (omega (arith, count))
        ∙ ap (λ r. take last runs ++ r ∷ []) (get_or_from_slice_get runs last run run there)

    pub longer-active : (lines : List ℕ) → run.lines.items ≡ lines →
        active_in (set runs last (longer run)) ≡ active_in runs ++ lines ∷ []
    longer-active lines same =
        ap active_in with-longer ∙ flat_map-append lines_of (take last runs) (longer run ∷ [])
        ∙ ap (λ l. before runs last ++ l) (append-nil (lines_of (longer run))
        ∙ sym (replicate-append-replicate run.packets 1 run.lines.items))
        ∙ sym (append_assoc (before runs last) (lines_of run) (run.lines.items ∷ []))
        ∙ ap₂ (λ l x. l ++ x ∷ []) (sym (before-next runs last run there) ∙ ap active_in all-runs) same

    pub longer-runs : (size : ℕ) → ArePacketRuns size runs → ArePacketRuns size (set runs last (longer run))
    longer-runs size are =
        let parts = without-run size (take last runs) run (subst (ArePacketRuns size) with-last are) in
        subst (ArePacketRuns size) (sym with-longer) (with-run size (take last runs) (longer run) parts.0
        (record { narrow = parts.1.narrow; row = parts.1.row; start = parts.1.start }))

-- ---- runs that are the longest ones
pub apart-new : (runs : List Run) (run : Run) →
    ((last : Run) → slice_get runs (length runs - 1) ≡ Some last → last.lines.items ≡ run.lines.items → ⊥) →
    AreApart runs → AreApart (runs ++ run ∷ [])
apart-new runs run other are = record {
  apart = λ i one two here there same. elim (front-or-last runs run (suc i) two there) [
    | inl before ↦ are.apart i one two
        (sym (slice_get-append runs (run ∷ []) i (let low = before.1 in omega (arith, low))) ∙ here) before.0 same
    | inr last ↦
        let low : i < length runs = (let at = last.1 in omega (arith, at)) in
        let end : i ≡ length runs - 1 = (let at = last.1 in omega (arith, at)) in
        other one (ap (slice_get runs) (sym end) ∙ sym (slice_get-append runs (run ∷ []) i low) ∙ here)
        (same ∙ ap (λ (r : Run). r.lines.items) last.0)
  ];
}

-- with other numbers of packets
apart-lines : (front : List Run) (one two : Run) → one.lines.items ≡ two.lines.items →
    AreApart (front ++ one ∷ []) → AreApart (front ++ two ∷ [])
apart-lines front one two lines are = record {
  apart = λ i a b here there same. elim (front-or-last front two (suc i) b there) [
    | inl before ↦
        let low : i < length front = (let at = before.1 in omega (arith, at)) in
        are.apart i a b
        (slice_get-append front (one ∷ []) i low ∙ sym (slice_get-append front (two ∷ []) i low) ∙ here)
        (slice_get-append front (one ∷ []) (suc i) before.1 ∙ before.0) same
    | inr last ↦
        let low : i < length front = (let at = last.1 in omega (arith, at)) in
        are.apart i a one
        (slice_get-append front (one ∷ []) i low ∙ sym (slice_get-append front (two ∷ []) i low) ∙ here)
        (ap (slice_get (front ++ one ∷ [])) last.1 ∙ slice_get-append_seam front one [])
        (same ∙ ap (λ (r : Run). r.lines.items) last.0 ∙ sym lines)
  ];
}

pub apart-longer : (runs : List Run) (last : ℕ) (run : Run) → suc last ≡ length runs → slice_get runs last ≡ Some run →
    AreApart runs → AreApart (set runs last (longer run))
apart-longer runs last run count there are =
    subst AreApart (sym (with-longer runs last run count there))
    (apart-lines (take last runs) run (longer run) refl (subst AreApart (with-last runs last run count there) are))

pub grown : (size : ℕ) (runs : List Run) (count end : ℕ) → IsPacketList size runs count end →
    (more : List Run) (lines : List ℕ) (octets-more : ℕ) → ArePacketRuns size more → AreApart more →
    active_in more ≡ active_in runs ++ lines ∷ [] → count < most_packets → octets-more ≡ size * length lines * 16 →
    IsPacketList size more (count + 1) (end + octets-more)
grown size runs count end is more lines octets-more are apart active few own = record {
  small = is.small;
  begin = are;
  longest = apart;
  all = (let all = is.all in omega (arith, all, ap length active, length-append (active_in runs) (lines ∷ [])));
  few = omega (arith, few);
  ends =
      let ends = is.ends in
      let parts = octets-append size (active_in runs) (lines ∷ []) in
      let last : octets_of size (lines ∷ []) ≡ size * length lines * 16 = ap (λ n. size * n * 16) (single (length lines)) in
      omega (arith, ends, parts, last, own, ap (octets_of size) active);
}
  where
    single : (n : ℕ) → 0 + n ≡ n
    single n = omega arith
