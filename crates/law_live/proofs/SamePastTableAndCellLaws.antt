-- Two legs in which the same was said so far: their tables, return cells, rows and cells of lines are the same.
use Rattle.std.proofs.Common.{◌≡◌, ℕ, zero, suc, ◌+◌, ◌-◌, ◌*◌, ◌%◌, ◌<◌, ◌≤◌, ◌==◌, ◌&&◌, nat_le, Bool, true, false}
use Rattle.std.proofs.Common.{if◌then◌else◌, List, [], ◌∷◌, ◌++◌, map, length, slice_get, slice_index_or, Option, Some}
use Rattle.std.proofs.Common.{None, refl, sym, ◌∙◌, ap, ap₂, arith, leb-true, ◌/◌, ◌||◌, nat_lt, not, filter, fold}
use Rattle.std.proofs.Common.{take, drop, is_some, option_map, ltb-false, inl, inr, All, min, subst, length-take}
use Rattle.std.specs.List.{list_any, range_with_len, list_all}
use Rattle.std.proofs.Math.Path.{fun_ext}
use Rattle.std.proofs.lemmas.List.{get_or-take, append-nil, get_or_past}
use Rattle.law_model.specs.Common.{DueCommand, DueFrame, Scenario, Table, Told, are_whole, carried_by, cell_at}
use Rattle.law_model.specs.Common.{cells_before, frames_at, group_of, is_heard, is_line, is_line_up, is_lost, is_read}
use Rattle.law_model.specs.Common.{is_whole, last_read, orders_at, packets, packets_from, packets_of, return_cell}
use Rattle.law_model.specs.Common.{said, said_before, session_cells, stands_at, status, steps_in, table_of, telling_at}
use Rattle.law_model.specs.Common.{word, word_by, Stream, StreamRow, active, after, are_inferred, are_known, asked_all}
use Rattle.law_model.specs.Common.{comes_at, container_of, frame_refusal, is_good, is_inferred, is_silent_line}
use Rattle.law_model.specs.Common.{is_whole_row, is_whole_under, lands_at, lock_of, offered, offers_of, orders_of}
use Rattle.law_model.specs.Common.{payload_of, place_of, refusal, return_of, rows_of, stream_before, stream_of}
use Rattle.law_model.specs.Common.{was_member, width, Leg, order_of, offer_of, packet_nibbles, scenario_by, Container}
use Rattle.law_model.specs.Common.{deliver, longest_frame, return_packet, LinePath, cells, cells_of, containers_of, decided_in, end_of, path, reading_of}
use Rattle.law_model.specs.declared.window_types.Carried.{Carried}
use Rattle.law_model.specs.declared.window_types.Window.{Window}
use Rattle.law_row.proofs.ActivePacketsLaws.{heard-any}
use Rattle.law_row.proofs.LastWordAndReturnPacketLaws.{last-same, up-same}
use Rattle.law_session.proofs.ClientStreamAndReplayLaws.{Alike, alike-after, Alike-sooner, alike-frame, alike-place}
use Rattle.law_session.proofs.ClientStreamAndReplayLaws.{alike-stream, alike-tables, width-same}
use Rattle.law_session.proofs.ReturnCellAndLineWordLaws.{last-read, word-of}
use Rattle.law_terminal.proofs.SessionCourseLaws.{session-agree}
use Rattle.std.proofs.lemmas.Option.{same_Some, slice_get_within}
use Rattle.law_model.proofs.ListLaws.{at-range}
use Rattle.law_model.specs.declared.item_refusals.Refusal.TheVariants.{Frame as frame_fault, Command as command_fault}
use Rattle.law_model.specs.declared.lcas_states.Command.TheVariants.{Add as add, Remove as remove}
use Rattle.law_model.specs.declared.script_types.Item.{Item}
use Rattle.law_model.specs.declared.script_types.ItemKind.{ItemKind}
use Rattle.law_model.specs.declared.script_types.ItemKind.TheVariants.{Frame, Add, Remove}
use Rattle.law_terminal.specs.Course.{packet_by}
use Rattle.law_terminal.proofs.ContainerPayloadLaws.{same-range}
use Rattle.law_walk.specs.Common.{kind_refusal, CanWalk, back_cell, cell_taken, session_of, table_in, delay_on}
use Rattle.law_walk.specs.Common.{delivered_of, path_on, said_packet, sent_at, sent_on, walk_plan}
use Rattle.std.proofs.lemmas.Bool.{cases_lt}
use Rattle.std.proofs.lemmas.Bool.Decides.{nat_tests}
use Rattle.std.proofs.lemmas.Grind.{flat_map-append}
use Rattle.std.proofs.lemmas.List.Elements.{All-head, All-tail, filter-append}
use Rattle.member_cells.specs.declared.containers_and_cells.BackCell.TheVariants.{Packet as Nibbles, Lost}
use Rattle.law_model.specs.declared.script_types.Config.{Config}
use Rattle.law_model.specs.members.Damage.{carried}
use Rattle.law_walk.proofs.WalkRingAndWaitingTakeLaws.{packet-is}
use Rattle.law_live.specs.Common.{Agrees, HasLater, Live, waiting_at}
use Rattle.law_terminal.specs.SessionLines.{given}
use Rattle.law_terminal.proofs.ArrivedCellAndRowLaws.{given-whole}
use Rattle.law_terminal.proofs.ContainerPayloadLaws.{containers-size}
use Rattle.law_walk.proofs.WalkPlanAndPoppedCellLaws.{has-paths, line-path, line-first}

-- ---- What was read of each line so far, and so the return cells and the source's tables so far, depend on what comes of the
-- containers that are made and on what has landed alone.
-- a scenario of the same network, with the failures and losses of another, in which the same lands and is told as there
abbrev pub with_parts : Scenario → Scenario → Scenario
with_parts scenario parts = record scenario {
  windows = parts.windows;
  lost = parts.lost;
  orders = parts.orders;
  offers = parts.offers;
  tells = parts.tells;
}

-- the same comes of each container below a number, the same lands before it, and the same is told. Whether a return packet
-- is lost is known so many packets later
pub record SameBelow (one other : Scenario) (later n : ℕ) : Type 0 where
  pub some : later < one.lag
  pub most : n ≤ one.ticks
  pub lines : length one.windows ≡ length other.windows
  pub windows : (line t : ℕ) → t < n → carried_by one line t ≡ carried_by other line t
  pub orders : (j : ℕ) → j < steps_in n → orders_at one j ≡ orders_at other j
  pub offers : (t : ℕ) → t < n → frames_at one t ≡ frames_at other t
  pub lost : (k : ℕ) → 16 * (k + later) + 24 ≤ n → is_lost one k ≡ is_lost other k
  pub tells : (k : ℕ) → k < steps_in n → telling_at one k ≡ telling_at other k

-- ---- what is whole
pub whole-same : (f g : ℕ → Carried) (from count : ℕ) →
    ((t : ℕ) → from ≤ t → t < from + count → f t ≡ g t) → are_whole f from count ≡ are_whole g from count
unfolding are_whole
whole-same f g from zero same = refl
whole-same f g from (suc count) same =
    ap₂ (λ a b. a && is_whole b) (whole-same f g from count (λ t low high. same t low (omega (arith, high))))
    (same (from + count) (omega arith) (omega arith))

module _ (one parts : Scenario) (later n : ℕ) (same : SameBelow one (with_parts one parts) later n) where
  abbrev other : Scenario
  other = with_parts one parts

  -- ---- what is read
  pub reads-same : (line k : ℕ) → 16 * k + 24 ≤ n → is_read one line k ≡ is_read other line k
  reads-same line k low =
      whole-same (carried_by one line) (carried_by other line) (16 * k) 24
      (λ t from high. same.windows line t (omega (arith, high, low)))

  pub heard-same : (k : ℕ) → 16 * k + 24 ≤ n → is_heard one k ≡ is_heard other k
  heard-same k low =
      sym (heard-any one k)
      ∙ ap (λ test. list_any test (range_with_len 0 (length one.windows)))
      (fun_ext (λ line. reads-same line k low))
      ∙ ap (λ size. list_any (λ line. is_read other line k) (range_with_len 0 size)) same.lines
      ∙ heard-any other k

  pub last_read-same : (line k : ℕ) → 16 * k + 24 ≤ n →
      last_read (is_read one line) k ≡ last_read (is_read other line) k
  last_read-same line k low =
      last-same (is_read one line) (is_read other line) k (λ j early. reads-same line j (omega (arith, early, low)))

  up-so-far : (line k : ℕ) → 16 * k + 24 ≤ n → is_line_up one line k ≡ is_line_up other line k
  up-so-far line k low =
      up-same one.options (is_read one line) (is_read other line) k
      (λ j early. reads-same line j (omega (arith, early, low)))

  -- ---- by return cells that are the same so far
  module _ (a b : List (Option Told)) (alike : Alike one a other b n) where
    pub table-same : (j : ℕ) → j < steps_in n → table_of one a j ≡ table_of other b j
    table-same j low = ap (λ source. source.table) (alike-after one a other b n (suc j) alike low)

    pub said-same : (k : ℕ) → 16 * k + 8 ≤ n → said_before one a k ≡ said_before other b k
    unfolding said_before
    said-same zero low = refl
    said-same (suc k) low =
        ap (λ heard. if heard then (table_of one a k).count else said_before one a k) (heard-same k (omega (arith, low)))
        ∙ ap (λ (table : Table). if is_heard other k then table.count else said_before one a k)
        (table-same k (omega (arith, low)))
        ∙ ap (λ count. if is_heard other k then (table_of other b k).count else count)
        (said-same k (omega (arith, low)))

    word_by-same : (count : ℕ) (found : Option ℕ) → ((last : ℕ) → found ≡ Some last → last < steps_in n) →
        word_by one a count found ≡ word_by other b count found
    word_by-same count None early = refl
    word_by-same count (Some last) early =
        ap (λ (table : Table). if table.count == count then Some last else None) (table-same last (early last refl))

    pub word-same : (line k : ℕ) → 16 * k + 24 ≤ n → word one a line k ≡ word other b line k
    word-same line k low =
        ap (λ count. word_by one a count (last_read (is_read one line) k)) (said-same (suc k) (omega (arith, low)))
        ∙ ap (word_by one a (said other b k)) (last_read-same line k low)
        ∙ word_by-same (said other b k) (last_read (is_read other line) k)
        (λ last e. let past = (last-read (is_read other line) k last e).0 in omega (arith, past, low))

    stands-same : (line sq : ℕ) (found : Option ℕ) → ((last : ℕ) → found ≡ Some last → last < steps_in n) →
        stands_at one a line sq found ≡ stands_at other b line sq found
    stands-same line sq None early = refl
    stands-same line sq (Some last) early =
        ap (λ (table : Table). is_line line (slice_get table.order sq)) (table-same last (early last refl))

    line-same : (k sq : ℕ) → 16 * k + 24 ≤ n → (line : ℕ) →
        (is_line_up one line k && stands_at one a line sq (word one a line k))
        ≡ (is_line_up other line k && stands_at other b line sq (word other b line k))
    line-same k sq low line =
        ap₂ (λ up stands. up && stands) (up-so-far line k low)
        (ap (stands_at one a line sq) (word-same line k low)
        ∙ stands-same line sq (word other b line k)
        (λ last e. let past = (word-of other b line k last e).past in omega (arith, past, low)))

    status-same : (k sq : ℕ) → 16 * k + 24 ≤ n → status one a k sq ≡ status other b k sq
    status-same k sq low =
        ap (λ test. list_any test (range_with_len 0 (length one.windows))) (fun_ext (line-same k sq low))
        ∙ ap (λ size. list_any (λ line. is_line_up other line k && stands_at other b line sq (word other b line k))
        (range_with_len 0 size)) same.lines

    abbrev told_with : ℕ → ℕ → (ℕ → Bool) → Told
    told_with count k ok = record {
      rs_ack = count % 2;
      oks = map (λ i. ok (8 * group_of one k + i)) (0 ∷ 1 ∷ 2 ∷ 3 ∷ 4 ∷ 5 ∷ 6 ∷ 7 ∷ []);
    }

    pub return-same : (k : ℕ) → 16 * k + 24 ≤ n → return_packet one a k ≡ return_packet other b k
    return-same k low =
        ap (λ count. told_with count k (status one a k)) (said-same (suc k) (omega (arith, low)))
        ∙ ap (told_with (said other b k) k) (fun_ext (λ sq. status-same k sq low))

    pub returned-same : (k : ℕ) → 16 * (k + later) + 24 ≤ n → return_cell one a k ≡ return_cell other b k
    returned-same k low =
        ap₂ (λ lost (packet : Told). if lost then None else Some packet) (same.lost k low)
        (return-same k (omega (arith, low)))

    -- the packets of all lines that can be read
    pub packets-same : (k : ℕ) → 16 * k + 24 ≤ n → packets_of one a k ≡ packets_of other b k
    packets-same k low =
        ap₂ (λ size told. packets_from size told (table_of one a k) k (λ line. is_read one line k)) same.lines
        (same.tells k (omega (arith, low)))
        ∙ ap (λ (table : Table). packets_from (length other.windows) (telling_at other k) table k
        (λ line. is_read one line k)) (table-same k (omega (arith, low)))
        ∙ ap (packets_from (length other.windows) (telling_at other k) (table_of other b k) k)
        (fun_ext (λ line. reads-same line k low))

  -- ---- the session's own return cells
  alike-any : (cells : List (Option Told)) → Alike one cells other cells n
  alike-any cells = record {
    lines = same.lines;
    lag = refl;
    size = refl;
    statuses = refl;
    orders = same.orders;
    cells = λ j low. refl;
    offers = same.offers;
    tells = same.tells;
  }

  cells-same : (k : ℕ) → 16 * (k + later) + 8 ≤ n → cells_before one k ≡ cells_before other k
  unfolding cells_before
  cells-same zero low = refl
  cells-same (suc k) low =
      let before = cells-same k (omega (arith, low)) in
      ap (λ cells. cells ++ return_cell one cells k ∷ []) before
      ∙ ap (λ cell. cells_before other k ++ cell ∷ [])
      (returned-same (cells_before other k) (cells_before other k) (alike-any (cells_before other k)) k
      (omega (arith, low)))

  session-cell : (scenario : Scenario) (i : ℕ) → i < packets scenario →
      slice_index_or (session_cells scenario) i None ≡ slice_index_or (cells_before scenario (suc i)) i None
  session-cell scenario i low =
      sym (get_or-take (suc i) (session_cells scenario) i None (omega arith))
      ∙ ap (λ cells. slice_index_or cells i None) (sym (session-agree scenario (suc i) (suc i) low (omega arith)))
      ∙ get_or-take (suc i) (cells_before scenario (suc i)) i None (omega arith)

  taken-same : (j : ℕ) → j < steps_in n → cell_at one (session_cells one) j ≡ cell_at other (session_cells other) j
  taken-same j low =
      elim (nat_le one.lag j) as (λ c. nat_le one.lag j ≡ c →
      (if c then slice_index_or (session_cells one) (j - one.lag) None else None)
      ≡ (if c then slice_index_or (session_cells other) (j - one.lag) None else None)) [
        | true ↦ λ e.
            let late = leb-true one.lag j e in
            let some = same.some in
            let most = same.most in
            let i : ℕ = j - one.lag in
            let inside : i < packets one = omega (arith, late, some, most, low) in
            session-cell one i inside
            ∙ ap (λ cells. slice_index_or cells i None) (cells-same (suc i) (omega (arith, late, some, low)))
            ∙ sym (session-cell other i inside)
        | false ↦ λ e. refl
      ] refl

  pub alike-session : Alike one (session_cells one) other (session_cells other) n
  alike-session = record {
    lines = same.lines;
    lag = refl;
    size = refl;
    statuses = refl;
    orders = same.orders;
    cells = taken-same;
    offers = same.offers;
    tells = same.tells;
  }

-- ---- What the rows so far carry, which of them are whole, which containers are sent and what is refused depend on what comes
-- of the containers that are made and on what has landed alone.
module _ (one parts : Scenario) (later n : ℕ) (same : SameBelow one (with_parts one parts) later n)
    (a b : List (Option Told)) (alike : Alike one a (with_parts one parts) b n)
  where
    abbrev other-rows : Scenario
    other-rows = with_parts one parts

    reads : (line k : ℕ) → 16 * k + 24 ≤ n → is_read one line k ≡ is_read other-rows line k
    reads = reads-same one parts later n same

    tables : (j : ℕ) → j < steps_in n → table_of one a j ≡ table_of other-rows b j
    tables = table-same one parts later n same a b alike

    sooner : (t : ℕ) → t ≤ n → Alike one a other-rows b t
    sooner t low = Alike-sooner one a other-rows b t n low alike

    -- ---- which rows are whole
    good-same : (line t : ℕ) → t < n → is_good (carried_by one line) t ≡ is_good (carried_by other-rows line) t
    good-same line t low =
        ap (λ whole. nat_le 2 t && whole)
        (whole-same (carried_by one line) (carried_by other-rows line) (lock_of t) (t + 1 - lock_of t)
        (λ u from high. same.windows line u (omega (arith, high, low))))

    member-same : (line : ℕ) (found : Option ℕ) → ((last : ℕ) → found ≡ Some last → last < steps_in n) →
        was_member one a line found ≡ was_member other-rows b line found
    member-same line None early = refl
    member-same line (Some last) early =
        ap (λ (table : Table). list_any (λ member. is_line line (Some member)) table.order)
        (tables last (early last refl))

    silent-same : (line k : ℕ) → 16 * k + 24 ≤ n → is_silent_line one a line k ≡ is_silent_line other-rows b line k
    silent-same line k low =
        ap₂ (λ read member. not read && member) (reads line k low)
        (ap (was_member one a line) (last_read-same one parts later n same line k low)
        ∙ member-same line (last_read (is_read other-rows line) k)
        (λ last e. let past = (last-read (is_read other-rows line) k last e).0 in omega (arith, past, low)))

    supposed-same : (line k : ℕ) → 16 * k + 24 ≤ n → is_inferred one a line k ≡ is_inferred other-rows b line k
    supposed-same line k low =
        ap₂ (λ (table : Table) (said : Option ℕ). list_any (λ carrier. carrier == line) (active table) && is_some said)
        (tables k (omega (arith, low))) (word-same one parts later n same a b alike line k low)

    settled-same : (k : ℕ) → 16 * k + 24 ≤ n → (line : ℕ) →
        (not (is_silent_line one a line k) || is_inferred one a line k)
        ≡ (not (is_silent_line other-rows b line k) || is_inferred other-rows b line k)
    settled-same k low line =
        ap₂ (λ silent supposed. not silent || supposed) (silent-same line k low) (supposed-same line k low)

    inferred-same : (k : ℕ) → 16 * k + 24 ≤ n → are_inferred one a k ≡ are_inferred other-rows b k
    inferred-same k low =
        ap (λ test. list_all test (range_with_len 0 (length one.windows))) (fun_ext (settled-same k low))
        ∙ ap (λ size. list_all (λ line. not (is_silent_line other-rows b line k) || is_inferred other-rows b line k)
        (range_with_len 0 size)) same.lines

    known-same : (k : ℕ) → 16 * k + 24 ≤ n → are_known one a k ≡ are_known other-rows b k
    known-same k low =
        ap₂ (λ read inferred. read || (one.options.infers && inferred))
        (ap (λ (table : Table). list_all (λ line. is_read one line k) (active table)) (tables k (omega (arith, low)))
        ∙ ap (λ test. list_all test (active (table_of other-rows b k))) (fun_ext (λ line. reads line k low)))
        (inferred-same k low)

    under-same : (k t : ℕ) → 16 * k + 24 ≤ n → t < n → is_whole_under one a k t ≡ is_whole_under other-rows b k t
    under-same k t low early =
        ap₂ (λ known good. known && good)
        (ap₂ (λ heard known. heard && known) (heard-same one parts later n same k low) (known-same k low))
        (ap (λ (table : Table). list_all (λ line. is_good (carried_by one line) t) (active table))
        (tables k (omega (arith, low)))
        ∙ ap (λ test. list_all test (active (table_of other-rows b k))) (fun_ext (λ line. good-same line t early)))

    row-whole : (t : ℕ) → t < n → is_whole_row one a t ≡ is_whole_row other-rows b t
    row-whole t low =
        elim (nat_lt t 24) as (λ c. nat_lt t 24 ≡ c →
        (if c then true else is_whole_under one a ((t - 24) / 16) t)
        ≡ (if c then true else is_whole_under other-rows b ((t - 24) / 16) t)) [
          | true ↦ λ e. refl
          | false ↦ λ e.
              let high = ltb-false t 24 e in
              under-same ((t - 24) / 16) t (omega (arith, high, low)) low
        ] refl

    -- ---- what they carry
    payload-same : (t : ℕ) → t < n → payload_of one a t ≡ payload_of other-rows b t
    payload-same t low =
        let now : Alike one a other-rows b t = sooner t (omega (arith, low)) in
        ap (λ wide. take (one.size * wide) (drop (place_of one a t) (stream_of (stream_before one a (suc t)).pieces)))
        (width-same one a other-rows b t (alike-tables one a other-rows b t now))
        ∙ ap (λ place. take (one.size * width other-rows b t) (drop place (stream_of (stream_before one a (suc t)).pieces)))
        (alike-place one a other-rows b t now)
        ∙ ap (λ (s : Stream). take (one.size * width other-rows b t) (drop (place_of other-rows b t) (stream_of s.pieces)))
        (alike-stream one a other-rows b (suc t) (sooner (suc t) low))

    pub rows-same : (t : ℕ) → t ≤ n → rows_of one a t ≡ rows_of other-rows b t
    unfolding rows_of
    rows-same zero low = refl
    rows-same (suc t) low =
        ap₂ (λ rows (row : StreamRow). rows ++ row ∷ []) (rows-same t (omega (arith, low)))
        (ap₂ (λ whole octets. let row : StreamRow = record { whole = whole; octets = octets } in row)
        (row-whole t low) (payload-same t low))

    -- ---- containers
    pub container-same : (line t : ℕ) → line < length one.windows → t < n →
        container_of one a line t ≡ container_of other-rows b line t
    container-same line t inside low =
        let size = same.lines in
        same_Some (container_of one a line t) (container_of other-rows b line t)
        (sym (at-range (λ line. container_of one a line t) (length one.windows) line inside)
        ∙ ap (λ frame. slice_get frame line) (alike-frame one a other-rows b t (sooner (suc t) low))
        ∙ at-range (λ line. container_of other-rows b line t) (length other-rows.windows) line (omega (arith, inside, size)))

    -- ---- return packets
    pub packet-same : (k : ℕ) → 16 * k + 24 ≤ n → packet_by one a k ≡ packet_by other-rows b k
    packet-same k low =
        ap (λ rows. return_of one.options rows k)
        (same-range (packets_of one a) (packets_of other-rows b) (k + 1)
        (λ j early. packets-same one parts later n same a b alike j (omega (arith, early, low))))

    -- ---- refusals
    source-met : (due : ℕ) (earlier : List Item) → due ≤ n →
        asked_all (length one.windows) (map (λ order. order.command) (filter (lands_at (steps_in due)) (orders_of earlier)))
        (after one a (steps_in due))
        ≡ asked_all (length other-rows.windows)
        (map (λ order. order.command) (filter (lands_at (steps_in due)) (orders_of earlier)))
        (after other-rows b (steps_in due))
    source-met due earlier low =
        ap₂ (λ size source. asked_all size
        (map (λ order. order.command) (filter (lands_at (steps_in due)) (orders_of earlier))) source)
        same.lines (alike-after one a other-rows b n (steps_in due) alike (omega (arith, low)))

    pub refusal-same : (due : ℕ) (earlier : List Item) (kind : ItemKind) → due ≤ n →
        kind_refusal one a due earlier kind ≡ kind_refusal other-rows b due earlier kind
    refusal-same due earlier (Frame octets) low =
        ap (λ stream. option_map frame_fault (frame_refusal octets
        (fold offered stream (map (λ offer. offer.frame) (filter (comes_at due) (offers_of earlier))))))
        (alike-stream one a other-rows b due (sooner due low))
    refusal-same due earlier (Add line) low =
        ap₂ (λ size source. option_map command_fault (refusal size (add line) source)) same.lines
        (source-met due earlier low)
    refusal-same due earlier (Remove line) low =
        ap₂ (λ size source. option_map command_fault (refusal size (remove line) source)) same.lines
        (source-met due earlier low)

-- ---- Two legs in which the same was said so far: the return cells that were taken and the tables that they left are the same.
-- a configuration with other failures, and what lands
abbrev pub leg_with : Config → List (List Window) → List Item → Leg
leg_with config windows items = record { config = record config { windows = windows }; items = items; tells = [] }

-- ---- what lands later lands in no earlier tick
late-orders : (n j : ℕ) (items : List Item) → j < steps_in n → All (λ (item : Item). n ≤ item.due) items →
    filter (lands_at j) (orders_of items) ≡ []
late-orders n j [] low late = refl
late-orders n j (item ∷ items) low late =
    by-kind item.due item.kind (All-head (λ (item : Item). n ≤ item.due) item items late)
    (late-orders n j items low (All-tail (λ (item : Item). n ≤ item.due) item items late))
  where
    one : (order : DueCommand) → n ≤ order.due → filter (lands_at j) (orders_of items) ≡ [] →
        filter (lands_at j) (order ∷ orders_of items) ≡ []
    one order high rest =
        let past : 16 * j + 8 < order.due = omega (arith, high, low) in
        let e : lands_at j order ≡ false = grind (arith, nat_tests, past) in
        rw e rest

    by-kind : (due : ℕ) (kind : ItemKind) → n ≤ due → filter (lands_at j) (orders_of items) ≡ [] →
        filter (lands_at j) (order_of due kind ++ orders_of items) ≡ []
    by-kind due (Frame octets) high rest = rest
    by-kind due (Add line) high rest = one _ high rest
    by-kind due (Remove line) high rest = one _ high rest

late-offers : (n t : ℕ) (items : List Item) → t < n → All (λ (item : Item). n ≤ item.due) items →
    filter (comes_at t) (offers_of items) ≡ []
late-offers n t [] low late = refl
late-offers n t (item ∷ items) low late =
    by-kind item.due item.kind (All-head (λ (item : Item). n ≤ item.due) item items late)
    (late-offers n t items low (All-tail (λ (item : Item). n ≤ item.due) item items late))
  where
    by-kind : (due : ℕ) (kind : ItemKind) → n ≤ due → filter (comes_at t) (offers_of items) ≡ [] →
        filter (comes_at t) (offer_of due kind ++ offers_of items) ≡ []
    by-kind due (Frame octets) high rest =
        let offer : DueFrame = record { due = due; frame = octets } in
        let past : t < due = omega (arith, high, low) in
        let e : comes_at t offer ≡ false = grind (arith, nat_tests, past) in
        rw e rest
    by-kind due (Add line) high rest = rest
    by-kind due (Remove line) high rest = rest

module _ (live : Live) (items : List Item) (more : HasLater live items) where
  pub orders-so-far : (j : ℕ) → j < steps_in live.passed →
      filter (lands_at j) (orders_of items) ≡ filter (lands_at j) (orders_of live.items)
  orders-so-far j low =
      let order : Item → List DueCommand = λ (item : Item). order_of item.due item.kind in
      ap (λ items. filter (lands_at j) (orders_of items)) more.are
      ∙ ap (filter (lands_at j)) (flat_map-append order live.items more.later)
      ∙ filter-append (lands_at j) (orders_of live.items) (orders_of more.later)
      ∙ ap (λ l. filter (lands_at j) (orders_of live.items) ++ l) (late-orders live.passed j more.later low more.late)
      ∙ append-nil (filter (lands_at j) (orders_of live.items))

  pub offers-so-far : (t : ℕ) → t < live.passed →
      filter (comes_at t) (offers_of items) ≡ filter (comes_at t) (offers_of live.items)
  offers-so-far t low =
      let offer : Item → List DueFrame = λ (item : Item). offer_of item.due item.kind in
      ap (λ items. filter (comes_at t) (offers_of items)) more.are
      ∙ ap (filter (comes_at t)) (flat_map-append offer live.items more.later)
      ∙ filter-append (comes_at t) (offers_of live.items) (offers_of more.later)
      ∙ ap (λ l. filter (comes_at t) (offers_of live.items) ++ l) (late-offers live.passed t more.later low more.late)
      ∙ append-nil (filter (comes_at t) (offers_of live.items))

-- ---- two legs that agree
pub agrees-with_parts : (config : Config) (live : Live) (leg : Leg) → Agrees config live leg →
    leg ≡ leg_with config leg.config.windows leg.items
agrees-with_parts config live leg agrees =
    ap₂ (λ config tells. let with : Leg = record { config = config; items = leg.items; tells = tells } in with)
    agrees.network agrees.quiet

module _ (config : Config) (live : Live) (windows windows' : List (List Window)) (items items' : List Item)
    (lag : 1 ≤ config.lag) (most : live.passed ≤ config.ticks)
    (agrees : Agrees config live (leg_with config windows items))
    (agrees' : Agrees config live (leg_with config windows' items'))
  where
    carried-same : (line t : ℕ) → t < live.passed →
        carried_by (scenario_by (leg_with config windows items)) line t
        ≡ carried_by (scenario_by (leg_with config windows' items')) line t
    carried-same line t low =
        let size : length windows ≡ length live.courses = agrees.lines in
        let size' : length windows' ≡ length live.courses = agrees'.lines in
        elim (cases_lt line (length live.courses)) [
          | inl inside ↦ agrees.windows line inside t low ∙ sym (agrees'.windows line inside t low)
          | inr past ↦
              ap (λ own. carried own t) (get_or_past windows line [] (omega (arith, past, size)))
              ∙ sym (ap (λ own. carried own t) (get_or_past windows' line [] (omega (arith, past, size'))))
        ]

    pub same-below : SameBelow (scenario_by (leg_with config windows items))
        (scenario_by (leg_with config windows' items')) 0 live.passed
    same-below = record {
      some = omega (arith, lag);
      most = most;
      lines = agrees.lines ∙ sym agrees'.lines;
      windows = carried-same;
      orders = λ j low.
          ap (map (λ order. order.command))
          (orders-so-far live items agrees.items j low ∙ sym (orders-so-far live items' agrees'.items j low));
      offers = λ t low.
          ap (map (λ offer. offer.frame))
          (offers-so-far live items agrees.items t low ∙ sym (offers-so-far live items' agrees'.items t low));
      lost = λ k low. refl;
      tells = λ k low. refl;
    }

-- ---- a leg with the failures, losses, items and tellings of another one
abbrev pub leg_from : Leg → Leg → Leg
leg_from leg parts = record {
  config = record leg.config { windows = parts.config.windows; lost = parts.config.lost };
  items = parts.items;
  tells = parts.tells;
}

module _ (leg parts : Leg) (later n : ℕ)
    (same : SameBelow (scenario_by leg) (scenario_by (leg_from leg parts)) later n)
  where
    abbrev other-legs : Leg
    other-legs = leg_from leg parts

    pub alike-legs : Alike (scenario_by leg) (session_of leg) (scenario_by other-legs) (session_of other-legs) n
    alike-legs = alike-session (scenario_by leg) (scenario_by parts) later n same

    pub tables-same : (j : ℕ) → j < steps_in n → table_in leg (16 * j + 9) ≡ table_in other-legs (16 * j + 9)
    tables-same j low =
        ap (λ source. source.table)
        (alike-after (scenario_by leg) (session_of leg) (scenario_by other-legs) (session_of other-legs) n
        (steps_in (16 * j + 9)) alike-legs (omega (arith, low)))

    pub delivered-same : (rows : ℕ) → rows ≤ n → delivered_of leg rows ≡ delivered_of other-legs rows
    delivered-same rows low =
        ap (deliver longest_frame)
        (rows-same (scenario_by leg) (scenario_by parts) later n same (session_of leg) (session_of other-legs) alike-legs
        rows low)

    pub waiting-same : (t : ℕ) → t ≤ n → waiting_at leg t ≡ waiting_at other-legs t
    waiting-same t low =
        ap (λ (stream : Stream). length stream.waiting)
        (alike-stream (scenario_by leg) (session_of leg) (scenario_by other-legs) (session_of other-legs) t
        (Alike-sooner (scenario_by leg) (session_of leg) (scenario_by other-legs) (session_of other-legs) t n low
        alike-legs))

    pub refused-same : (due : ℕ) (earlier : List Item) (kind : ItemKind) → due ≤ n →
        kind_refusal (scenario_by leg) (session_of leg) due earlier kind
        ≡ kind_refusal (scenario_by other-legs) (session_of other-legs) due earlier kind
    refused-same due earlier kind low =
        refusal-same (scenario_by leg) (scenario_by parts) later n same (session_of leg) (session_of other-legs) alike-legs
        due earlier kind low

    pub sent-same : (line t : ℕ) → line < length leg.config.windows → t < n →
        sent_at leg line t ≡ sent_at other-legs line t
    sent-same line t inside low =
        container-same (scenario_by leg) (scenario_by parts) later n same (session_of leg) (session_of other-legs)
        alike-legs line t inside low

    module _ (can : CanWalk leg) (can' : CanWalk other-legs) where
      pub packet-same-legs : (k : ℕ) → 16 * k + 24 ≤ n → said_packet leg k ≡ said_packet other-legs k
      packet-same-legs k low =
          let most = same.most in
          packet-is leg can k (omega (arith, low, most))
          ∙ packet-same (scenario_by leg) (scenario_by parts) later n same (session_of leg) (session_of other-legs)
          alike-legs k low
          ∙ sym (packet-is other-legs can' k (omega (arith, low, most)))

      back-same : (k : ℕ) → 16 * (k + later) + 24 ≤ n → back_cell leg k ≡ back_cell other-legs k
      back-same k low =
          ap₂ (λ lost packet. if lost then Lost else Nibbles (packet_nibbles packet)) (same.lost k low)
          (packet-same-legs k (omega (arith, low)))

      pub cells-same-legs : (j : ℕ) → j < steps_in n → cell_taken leg j ≡ cell_taken other-legs j
      cells-same-legs j low =
          let some = same.some in
          elim (nat_le leg.config.lag j) as (λ c. nat_le leg.config.lag j ≡ c →
          (if c then Some (back_cell leg (j - leg.config.lag)) else None)
          ≡ (if c then Some (back_cell other-legs (j - leg.config.lag)) else None)) [
            | true ↦ λ e.
                let late = leb-true leg.config.lag j e in
                ap Some (back-same (j - leg.config.lag) (omega (arith, late, some, low)))
            | false ↦ λ e. refl
          ] refl

-- ---- Two legs in which the same was said so far: of each line the same cells were given so far, and these decide the same.
-- ---- lines in numbers that are the same, of a total of ticks, as long as so many are made
pub record PathAlike (total n : ℕ) (one other-paths : LinePath) : Type 0 where
  pub delay : one.delay ≡ other-paths.delay
  pub given : (x : ℕ) → min x total ≤ n → one.given x ≡ other-paths.given x
  pub decided : (x y : ℕ) → x ≤ total + one.delay + 1 → min x total ≤ n → y ≤ one.given x →
      one.decided y ≡ other-paths.decided y

unfoldable pub PathsAlike : ℕ → ℕ → List LinePath → List LinePath → Type 0
PathsAlike total n [] [] = Unit {0}
PathsAlike total n [] (other-paths ∷ others) = ⊥
PathsAlike total n (one ∷ ones) [] = ⊥
PathsAlike total n (one ∷ ones) (other-paths ∷ others) = PathAlike total n one other-paths × PathsAlike total n ones others

abbrev pub AtAlike : ℕ → ℕ → Option LinePath → Option LinePath → Type 0
AtAlike total n None None = Unit {0}
AtAlike total n None (Some other-paths) = ⊥
AtAlike total n (Some one) None = ⊥
AtAlike total n (Some one) (Some other-paths) = PathAlike total n one other-paths

pub alike-at : (total n : ℕ) (ones others : List LinePath) (m : ℕ) → PathsAlike total n ones others →
    AtAlike total n (slice_get ones m) (slice_get others m)
unfolding PathsAlike
alike-at total n [] [] m alike = tt
alike-at total n [] (other-paths ∷ others) m alike = absurd alike
alike-at total n (one ∷ ones) [] m alike = absurd alike
alike-at total n (one ∷ ones) (other-paths ∷ others) zero alike = alike.0
alike-at total n (one ∷ ones) (other-paths ∷ others) (suc m) alike = alike-at total n ones others m alike.1

alike-from : (total n : ℕ) (ones others : List LinePath) → length ones ≡ length others →
    ((m : ℕ) (one other-paths : LinePath) → slice_get ones m ≡ Some one → slice_get others m ≡ Some other-paths →
    PathAlike total n one other-paths) → PathsAlike total n ones others
unfolding PathsAlike
alike-from total n [] [] size each = tt
alike-from total n [] (other-paths ∷ others) size each = absurd (omega (arith, size))
alike-from total n (one ∷ ones) [] size each = absurd (omega (arith, size))
alike-from total n (one ∷ ones) (other-paths ∷ others) size each = (
  each 0 one other-paths refl refl,
  alike-from total n ones others (omega (arith, size)) (λ m a b here there. each (suc m) a b here there),
)

-- ---- the cells of containers of which the same comes
path-same : (f g : ℕ → Carried) (m : ℕ) (containers : List Container) →
    ((t : ℕ) → m ≤ t → t < m + length containers → f t ≡ g t) → path f m containers ≡ path g m containers
unfolding path
path-same f g m [] same = refl
path-same f g m (container ∷ containers) same =
    ap₂ (λ fate rest. cells_of fate container ++ rest) (same m (omega arith) (omega arith))
    (path-same f g (suc m) containers (λ t low high. same t (omega (arith, low)) (omega (arith, high))))

module _ (leg-paths parts : Leg) (later n : ℕ)
    (same : SameBelow (scenario_by leg-paths) (scenario_by (leg_from leg-paths parts)) later n)
  where
    abbrev other-paths : Leg
    other-paths = leg_from leg-paths parts

    all-sent : (line : ℕ) → line < length leg-paths.config.windows →
        containers_of (scenario_by leg-paths) (session_of leg-paths) line n
        ≡ containers_of (scenario_by other-paths) (session_of other-paths) line n
    all-sent line inside =
        same-range (container_of (scenario_by leg-paths) (session_of leg-paths) line)
        (container_of (scenario_by other-paths) (session_of other-paths) line) n
        (λ t early. sent-same leg-paths parts later n same line t inside early)

    given-same : (line x : ℕ) → line < length leg-paths.config.windows → min x leg-paths.config.ticks ≤ n →
        given (scenario_by leg-paths) (session_of leg-paths) line leg-paths.config.ticks (delay_on leg-paths line) x
        ≡ given (scenario_by other-paths) (session_of other-paths) line leg-paths.config.ticks (delay_on leg-paths line) x
    given-same line x inside low =
        let d : ℕ = delay_on leg-paths line in
        let here : ℕ → Carried = carried_by (scenario_by leg-paths) line in
        let there : ℕ → Carried = carried_by (scenario_by other-paths) line in
        let now : List Container = containers_of (scenario_by other-paths) (session_of other-paths) line n in
        let size : length now ≡ n =
        containers-size (scenario_by other-paths) (session_of other-paths) line n in
        let few = length-take (x - d) now in
        sym (given-whole (scenario_by leg-paths) (session_of leg-paths) line n d x same.most low)
        ∙ ap (λ containers. cells here d leg-paths.config.ticks containers x) (all-sent line inside)
        ∙ ap (λ l. l ++ end_of leg-paths.config.ticks (x - d))
        (path-same here there 0 (take (x - d) now)
        (λ t from high.
        same.windows line t
        (omega (arith, high, few, size))))
        ∙ given-whole (scenario_by other-paths) (session_of other-paths) line n d x same.most low

    module _ (can : CanWalk leg-paths) (can' : CanWalk other-paths) where
      whole : (leg-paths : Leg) (line x : ℕ) →
          cells (carried_by (scenario_by leg-paths) line) (delay_on leg-paths line) (length (sent_on (scenario_by leg-paths) line))
          (sent_on (scenario_by leg-paths) line) x
          ≡ given (scenario_by leg-paths) (session_of leg-paths) line leg-paths.config.ticks (delay_on leg-paths line) x
      whole leg-paths line x =
          ap (λ size. cells (carried_by (scenario_by leg-paths) line) (delay_on leg-paths line) size
          (sent_on (scenario_by leg-paths) line) x)
          (containers-size (scenario_by leg-paths) (session_of leg-paths) line leg-paths.config.ticks)

      counts-same : (line x : ℕ) → line < length leg-paths.config.windows → min x leg-paths.config.ticks ≤ n →
          (path_on leg-paths line).given x ≡ (path_on other-paths line).given x
      counts-same line x inside low =
          ap length (whole leg-paths line x ∙ given-same line x inside low ∙ sym (whole other-paths line x))

      path-alike : (line : ℕ) → line < length leg-paths.config.windows →
          PathAlike leg-paths.config.ticks n (path_on leg-paths line) (path_on other-paths line)
      path-alike line inside = record {
        delay = refl;
        given = λ x low. counts-same line x inside low;
        decided = λ x y fits low few.
            ap₂ (λ total cells. decided_in total (reading_of cells))
            (containers-size (scenario_by leg-paths) (session_of leg-paths) line leg-paths.config.ticks
            ∙ sym (containers-size (scenario_by other-paths) (session_of other-paths) line leg-paths.config.ticks))
            (line-first leg-paths line x y fits few
            ∙ ap (take y) (given-same line x inside low)
            ∙ sym (line-first other-paths line x y fits (subst (λ count. y ≤ count) (counts-same line x inside low) few)));
      }

      pub paths-alike : PathsAlike leg-paths.config.ticks n (walk_plan leg-paths).paths (walk_plan other-paths).paths
      paths-alike =
          alike-from leg-paths.config.ticks n (walk_plan leg-paths).paths (walk_plan other-paths).paths
          (has-paths leg-paths can ∙ same.lines ∙ sym (has-paths other-paths can'))
          (λ m one two here there.
          let within = slice_get_within (walk_plan leg-paths).paths m one here in
          let size = has-paths leg-paths can in
          let sizes = same.lines in
          let inside : m < length leg-paths.config.windows = omega (arith, within, size) in
          let inside' : m < length parts.config.windows = omega (arith, inside, sizes) in
          let e : path_on leg-paths m ≡ one = same_Some (path_on leg-paths m) one (sym (line-path leg-paths can m inside) ∙ here) in
          let f : path_on other-paths m ≡ two = same_Some (path_on other-paths m) two (sym (line-path other-paths can' m inside') ∙ there) in
          subst (λ one. PathAlike leg-paths.config.ticks n one two) e
          (subst (λ two. PathAlike leg-paths.config.ticks n (path_on leg-paths m) two) f (path-alike m inside)))
