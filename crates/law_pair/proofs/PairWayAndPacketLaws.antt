-- The ways of a pair of scripts are sound legs; what the packets of one tell the other, and what both deliver.
use Rattle.std.proofs.Common.{◌≡◌, ℕ, zero, suc, ◌+◌, ◌-◌, ◌*◌, ◌/◌, ◌%◌, ◌==◌, nat_lt, ◌&&◌, ◌||◌, not, Bool, true}
use Rattle.std.proofs.Common.{if◌then◌else◌, List, [], ◌∷◌, ◌++◌, map, length, take, drop, slice_get, Option, Some}
use Rattle.std.proofs.Common.{None, is_some, refl, ◌∙◌, ap, ◌<◌, ◌≤◌, false, sym, subst}
use Rattle.std.proofs.Common.{arith, replicate, slice_index_or, option_map}
use Rattle.std.specs.List.{list_any, list_all, range_with_len}
use Rattle.std.proofs.Math.Path.{fun_ext}
use Rattle.law_model.specs.Common.{Scenario, orders_at, carried_by, is_read, is_heard, is_lost, is_good, stream_of}
use Rattle.law_model.specs.Common.{Table, Told, active, Source, asked_all, decide, cell_at, after, table_of}
use Rattle.law_model.specs.Common.{said_before, said, is_line, is_line_up, last_read, word_by, word, stands_at}
use Rattle.law_model.specs.Common.{group_of, status, return_packet, return_cell, cells_before, Stream, width, place_of}
use Rattle.law_model.specs.Common.{stream_before, payload_of, active_at, payload_on, container_of, was_member}
use Rattle.law_model.specs.Common.{is_silent_line, is_inferred, are_inferred, is_whole_row, rows_of, scenario_by}
use Rattle.law_model.specs.Common.{IsSound, greatest, greatest_slip, scenario_of, forward_packet, oks_in}
use Rattle.law_model.specs.Common.{told_by, untold, telling_at, mst_by, telling, sent_packet, session_cells, leader}
use Rattle.law_model.specs.Common.{packet_if, packets_of, Leg, read_packets, return_at, Counts, packets}
use Rattle.law_model.specs.Common.{deliver, longest_frame, most_packets}
use Rattle.law_session.proofs.ClientStreamAndReplayLaws.{SameTables, width-same, place_of-same, stream_before-same}
use Rattle.law_pair.specs.Common.{telling_of, IsWay, IsPair, is_unheard, way_of, way_telling, said_of, way_tells}
use Rattle.law_pair.specs.Common.{PairCounts, pair_bound, with_lag, IsPairPlan, pair_plan, pair_drained}
use Rattle.law_pair.specs.Common.{IsPairWalked}
use Rattle.law_model.specs.declared.script_types.Script.{Script}
use Rattle.law_model.specs.session.Scenario.{packets_in}
use Rattle.std.proofs.lemmas.List.FromFn.{get_or-map-range_with_len}
use Rattle.law_row.proofs.LastWordAndReturnPacketLaws.{oks_in-number}
use Rattle.law_model.specs.declared.control_packet.Packet.{Packet}
use Rattle.law_model.proofs.PacketNibblesLaws.{bit_nibble-bit}
use Rattle.law_row.proofs.ActivePacketsLaws.{heard-any}
use Rattle.law_row.specs.Received.{HasPackets}
use Rattle.law_terminal.proofs.ArrivedCellAndRowLaws.{has-packets}
use Rattle.law_walk.specs.Common.{session_of, CanWalk, IsWalked, popped_cells, walk_plan}
use Rattle.law_walk.specs.Common.{delivered_of, landed_items, report_among, report_of, final_report}
use Rattle.law_walk.proofs.WalkPlanAndPoppedCellLaws.{has-lines, sound-walks, cells-come, cells-decide}
use Rattle.law_walk.proofs.WalkPlanAndPoppedCellLaws.{plan-with}
use Rattle.law_walk.proofs.AcceptedFrameAndDrainedWalkLaws.{counts-within, ticks-made, items-landed}
use Rattle.law_progress.specs.Progress.{IsPlan}
use Rattle.law_pair.specs.declared.pair_events.Way.TheVariants.{There, Back}
use Rattle.std.specs.Prelude.{filter, flat_map, fold, is_none}
use Rattle.text_report.specs.ReportLines.{got_texts, refused_texts, total_text}
use Rattle.law_model.specs.Common.{DueCommand, DueFrame, comes_at, lands_at, offers_of, orders_of, steps_in, offered}
use Rattle.law_model.specs.Common.{frame_refusal, refusal}
use Rattle.law_model.specs.declared.script_types.Item.{Item}
use Rattle.law_model.specs.declared.script_types.ItemKind.{ItemKind}
use Rattle.law_model.specs.declared.script_types.ItemKind.TheVariants.{Frame, Add, Remove}
use Rattle.law_model.specs.declared.lcas_states.Command.TheVariants.{Add as add, Remove as remove}
use Rattle.law_model.specs.declared.item_refusals.Refusal.{Refusal}
use Rattle.law_model.specs.declared.item_refusals.Refusal.TheVariants.{Frame as frame_fault, Command as command_fault}
use Rattle.law_walk.specs.Common.{Numbered, is_client, kind_refusal, refusal_at, refused_by, source_met}
use Rattle.law_pair.proofs.RunsOfPacketsLaws.{runs-apart, runs-end, runs-named}
use Rattle.law_pair.proofs.ReachedPairAndStallLaws.{pair-walks}
use Rattle.law_pair.proofs.PairMeasureAndDrainLaws.{pair-ends, pair-drains}
use Rattle.law_row.proofs.LastWordAndReturnPacketLaws as returned

-- ---- A session doesn't depend on what its packets tell.
module _ (scenario : Scenario) (tells : List Told) where
  abbrev other : Scenario
  other = telling_of scenario tells

  -- ---- tables
  pub telling-after : (cells : List (Option Told)) (j : ℕ) → after other cells j ≡ after scenario cells j
  unfolding after
  telling-after cells zero = refl
  telling-after cells (suc j) =
      ap (λ source. decide ((j - scenario.lag) % scenario.options.statuses) (cell_at scenario cells j)
      (asked_all (length scenario.windows) (orders_at scenario j) source)) (telling-after cells j)

  pub telling-table : (cells : List (Option Told)) (j : ℕ) → table_of other cells j ≡ table_of scenario cells j
  telling-table cells j = ap (λ (source : Source). source.table) (telling-after cells (suc j))

  -- ---- return cells
  telling-said : (cells : List (Option Told)) (k : ℕ) → said_before other cells k ≡ said_before scenario cells k
  unfolding said_before
  telling-said cells zero = refl
  telling-said cells (suc k) =
      ap (λ (table : Table). if is_heard scenario k then table.count else said_before other cells k)
      (telling-table cells k)
      ∙ ap (λ count. if is_heard scenario k then (table_of scenario cells k).count else count) (telling-said cells k)

  telling-word : (cells : List (Option Told)) (count : ℕ) (found : Option ℕ) →
      word_by other cells count found ≡ word_by scenario cells count found
  telling-word cells count None = refl
  telling-word cells count (Some last) =
      ap (λ (table : Table). if table.count == count then Some last else None) (telling-table cells last)

  telling-words : (cells : List (Option Told)) (line k : ℕ) → word other cells line k ≡ word scenario cells line k
  telling-words cells line k =
      ap (λ count. word_by other cells count (last_read (is_read scenario line) k)) (telling-said cells (suc k))
      ∙ telling-word cells (said scenario cells k) (last_read (is_read scenario line) k)

  telling-stands : (cells : List (Option Told)) (line sq : ℕ) (found : Option ℕ) →
      stands_at other cells line sq found ≡ stands_at scenario cells line sq found
  telling-stands cells line sq None = refl
  telling-stands cells line sq (Some last) =
      ap (λ (table : Table). is_line line (slice_get table.order sq)) (telling-table cells last)

  telling-status : (cells : List (Option Told)) (k sq : ℕ) → status other cells k sq ≡ status scenario cells k sq
  telling-status cells k sq =
      ap (λ test. list_any test (range_with_len 0 (length scenario.windows))) (fun_ext (λ line.
      ap (λ stands. is_line_up scenario line k && stands)
      (ap (stands_at other cells line sq) (telling-words cells line k)
      ∙ telling-stands cells line sq (word scenario cells line k))))

  abbrev packet_with : ℕ → ℕ → (ℕ → Bool) → Told
  packet_with count k ok = record {
    rs_ack = count % 2;
    oks = map (λ i. ok (8 * group_of scenario k + i)) (0 ∷ 1 ∷ 2 ∷ 3 ∷ 4 ∷ 5 ∷ 6 ∷ 7 ∷ []);
  }

  pub telling-packet : (cells : List (Option Told)) (k : ℕ) →
      return_packet other cells k ≡ return_packet scenario cells k
  telling-packet cells k =
      ap (λ count. packet_with count k (status other cells k)) (telling-said cells (suc k))
      ∙ ap (packet_with (said scenario cells k) k) (fun_ext (telling-status cells k))

  telling-cell : (cells : List (Option Told)) (k : ℕ) → return_cell other cells k ≡ return_cell scenario cells k
  telling-cell cells k =
      ap (λ packet. if is_lost scenario k then None else Some packet) (telling-packet cells k)

  pub telling-cells : (n : ℕ) → cells_before other n ≡ cells_before scenario n
  unfolding cells_before
  telling-cells zero = refl
  telling-cells (suc n) =
      ap (λ cells. cells ++ return_cell other cells n ∷ []) (telling-cells n)
      ∙ ap (λ cell. cells_before scenario n ++ cell ∷ []) (telling-cell (cells_before scenario n) n)

  -- ---- rows
  tables : (cells : List (Option Told)) (n : ℕ) → SameTables other cells scenario cells n
  tables cells n = record { size = refl; tables = λ j low. telling-after cells j }

  pub telling-payload : (cells : List (Option Told)) (t : ℕ) → payload_of other cells t ≡ payload_of scenario cells t
  telling-payload cells t =
      ap (λ n. take (scenario.size * n) (drop (place_of other cells t)
      (stream_of (stream_before other cells (suc t)).pieces)))
      (width-same other cells scenario cells t (tables cells ((t - 8) / 16)))
      ∙ ap (λ place. take (scenario.size * width scenario cells t) (drop place
      (stream_of (stream_before other cells (suc t)).pieces)))
      (place_of-same other cells scenario cells t (tables cells ((t - 8) / 16)))
      ∙ ap (λ (s : Stream). take (scenario.size * width scenario cells t)
      (drop (place_of scenario cells t) (stream_of s.pieces)))
      (stream_before-same other cells scenario cells (suc t) (tables cells ((suc t - 8) / 16)) (λ u low. refl))

  telling-active : (cells : List (Option Told)) (t : ℕ) → active_at other cells t ≡ active_at scenario cells t
  telling-active cells t =
      ap (λ (table : Table). if nat_lt t 24 then [] else active table) (telling-table cells ((t - 24) / 16))

  pub telling-container : (cells : List (Option Told)) (line t : ℕ) →
      (container_of other cells line t).payload ≡ (container_of scenario cells line t).payload
  telling-container cells line t =
      ap (λ lines. payload_on lines line scenario.size (payload_of other cells t)) (telling-active cells t)
      ∙ ap (payload_on (active_at scenario cells t) line scenario.size) (telling-payload cells t)

  telling-member : (cells : List (Option Told)) (line : ℕ) (found : Option ℕ) →
      was_member other cells line found ≡ was_member scenario cells line found
  telling-member cells line None = refl
  telling-member cells line (Some last) =
      ap (λ (table : Table). list_any (λ member. is_line line (Some member)) table.order) (telling-table cells last)

  abbrev is_settled : Bool → Bool → Bool → Bool
  is_settled read member carries = not (not read && member) || carries

  telling-settled : (cells : List (Option Told)) (line k : ℕ) →
      (not (is_silent_line other cells line k) || is_inferred other cells line k)
      ≡ (not (is_silent_line scenario cells line k) || is_inferred scenario cells line k)
  telling-settled cells line k =
      let carries = λ (table : Table) (said : Option ℕ).
      list_any (λ carrier. carrier == line) (active table) && is_some said in
      ap (λ member. is_settled (is_read scenario line k) member (is_inferred other cells line k))
      (telling-member cells line (last_read (is_read scenario line) k))
      ∙ ap (λ (table : Table). not (is_silent_line scenario cells line k) || carries table (word other cells line k))
      (telling-table cells k)
      ∙ ap (λ said. not (is_silent_line scenario cells line k) || carries (table_of scenario cells k) said)
      (telling-words cells line k)

  telling-inferred : (cells : List (Option Told)) (k : ℕ) → are_inferred other cells k ≡ are_inferred scenario cells k
  telling-inferred cells k =
      ap (λ test. list_all test (range_with_len 0 (length scenario.windows)))
      (fun_ext (λ line. telling-settled cells line k))

  abbrev whole_by : ℕ → Bool → List ℕ → Bool
  whole_by t inferred lines =
      if nat_lt t 24 then true else ((is_heard scenario ((t - 24) / 16)
      && (list_all (λ line. is_read scenario line ((t - 24) / 16)) lines || (scenario.options.infers && inferred)))
      && list_all (λ line. is_good (carried_by scenario line) t) lines)

  telling-whole : (cells : List (Option Told)) (t : ℕ) → is_whole_row other cells t ≡ is_whole_row scenario cells t
  telling-whole cells t =
      let k : ℕ = (t - 24) / 16 in
      ap (λ (table : Table). whole_by t (are_inferred other cells k) (active table)) (telling-table cells k)
      ∙ ap (λ inferred. whole_by t inferred (active (table_of scenario cells k))) (telling-inferred cells k)

  pub telling-rows : (cells : List (Option Told)) (n : ℕ) → rows_of other cells n ≡ rows_of scenario cells n
  unfolding rows_of
  telling-rows cells zero = refl
  telling-rows cells (suc t) =
      ap (λ rows. rows ++ record { whole = is_whole_row other cells t; octets = payload_of other cells t } ∷ [])
      (telling-rows cells t)
      ∙ ap (λ whole. rows_of scenario cells t ++ record { whole = whole; octets = payload_of other cells t } ∷ [])
      (telling-whole cells t)
      ∙ ap (λ octets. rows_of scenario cells t ++ record { whole = is_whole_row scenario cells t; octets = octets }
      ∷ []) (telling-payload cells t)

  -- ---- items that are refused
  telling-stream : (cells : List (Option Told)) (t : ℕ) → stream_before other cells t ≡ stream_before scenario cells t
  telling-stream cells t = stream_before-same other cells scenario cells t (tables cells ((t - 8) / 16)) (λ u low. refl)

  telling-source : (cells : List (Option Told)) (due : ℕ) (earlier : List DueCommand) →
      source_met other cells due earlier ≡ source_met scenario cells due earlier
  telling-source cells due earlier =
      ap (asked_all (length scenario.windows) (map (λ (order : DueCommand). order.command)
      (filter (lands_at (steps_in due)) earlier))) (telling-after cells (steps_in due))

  pub telling-refusal : (cells : List (Option Told)) (due : ℕ) (earlier : List Item) (kind : ItemKind) →
      kind_refusal other cells due earlier kind ≡ kind_refusal scenario cells due earlier kind
  telling-refusal cells due earlier (Frame octets) =
      ap (λ (s : Stream). option_map frame_fault (frame_refusal octets (fold offered s
      (map (λ (offer : DueFrame). offer.frame) (filter (comes_at due) (offers_of earlier)))))) (telling-stream cells due)
  telling-refusal cells due earlier (Add line) =
      ap (λ (s : Source). option_map command_fault (refusal (length scenario.windows) (add line) s))
      (telling-source cells due (orders_of earlier))
  telling-refusal cells due earlier (Remove line) =
      ap (λ (s : Source). option_map command_fault (refusal (length scenario.windows) (remove line) s))
      (telling-source cells due (orders_of earlier))

-- ---- The ways of a pair are sound legs, and which return packets of a way are lost.
pub way-lost : (script other : Script) (k : ℕ) → k < packets_in script.config.ticks →
    is_lost (scenario_by (way_of script other)) k ≡ is_unheard other k
way-lost script other k low =
    runs-named (is_unheard other) k 0 (packets_in script.config.ticks) (omega arith) (omega (arith, low))

-- ---- a way is sound
pub way-sound : (script other : Script) → IsWay script → IsSound (way_of script other)
way-sound script other is =
    let sound = is.valid.sound in
    let network = sound.network in
    let near = is.near in
    let ticks = network.ticks.1 in
    let some = network.lag.0 in
    let fits = network.fits_lag in
    record {
      network = record {
        lines = network.lines;
        delay_each = network.delay_each;
        delays = network.delays;
        windows_each = network.windows_each;
        windows = network.windows;
        lost = record {
          apart = runs-apart (is_unheard other) 0 (packets_in script.config.ticks) 0 (omega arith);
          ends = runs-end (is_unheard other) most_packets 0 (packets_in script.config.ticks) (omega (arith, ticks));
        };
        ring = network.ring;
        lag = (omega (arith, some), omega (arith, near));
        ticks = network.ticks;
        size = network.size;
        options = network.options;
        fits_ring = network.fits_ring;
        fits_lag = let doubled : 16 + greatest script.config.delays + greatest_slip script.config.windows
            ≤ 16 * (2 * script.config.lag) = omega (arith, fits) in doubled;
      };
      items = sound.items;
      few = sound.few;
    }

pub pair-turned : (there back : Script) → IsPair there back → IsPair back there
pair-turned there back pair =
    record { there_way = pair.back_way; back_way = pair.there_way; lag = sym pair.lag; ticks = sym pair.ticks }

-- ---- What the packets of a way tell, and what is read of them.
-- ---- what is told in which packet
told-first : (lag k : ℕ) (tells : List Told) → k < lag →
    slice_index_or (replicate lag untold ++ tells) k untold ≡ untold
told-first zero k tells low = absurd (omega (arith, low))
told-first (suc lag) zero tells low = refl
told-first (suc lag) (suc k) tells low = told-first lag k tells (omega (arith, low))

told-later : (lag k j : ℕ) (tells : List Told) → k + lag ≡ j →
    slice_index_or (replicate lag untold ++ tells) j untold ≡ slice_index_or tells k untold
told-later zero k j tells e = let same : j ≡ k = omega (arith, e) in ap (λ i. slice_index_or tells i untold) same
told-later (suc lag) k zero tells e = absurd (omega (arith, e))
told-later (suc lag) k (suc j) tells e = told-later lag k j tells (omega (arith, e))

pub told-early : (script other : Script) (k : ℕ) → k < script.config.lag →
    telling_at (scenario_by (way_of script other)) k ≡ untold
told-early script other k low = told-first script.config.lag k (said_of (way_telling other script [])) low

-- what is said of a way doesn't depend on what its packets tell
said-way : (script other : Script) (k : ℕ) →
    return_packet (scenario_by (way_telling script other []))
    (session_cells (scenario_by (way_telling script other []))) k
    ≡ return_packet (scenario_by (way_of script other)) (session_cells (scenario_by (way_of script other))) k
said-way script other k =
    let silent : Scenario = scenario_by (way_telling script other []) in
    let way : Scenario = scenario_by (way_of script other) in
    sym (ap (λ cells. return_packet way cells k)
    (telling-cells silent (way_tells script other) (packets_in script.config.ticks))
    ∙ telling-packet silent (way_tells script other) (session_cells silent) k)

pub told-said : (script other : Script) (k : ℕ) → k < packets_in other.config.ticks →
    telling_at (scenario_by (way_of script other)) (k + script.config.lag)
    ≡ return_packet (scenario_by (way_of other script)) (session_cells (scenario_by (way_of other script))) k
told-said script other k low =
    let silent : Scenario = scenario_by (way_telling other script []) in
    told-later script.config.lag k (k + script.config.lag) (said_of (way_telling other script [])) refl
    ∙ get_or-map-range_with_len (return_packet silent (session_cells silent)) 0 (packets_in other.config.ticks) k k
    untold low (omega arith)
    ∙ said-way other script k

-- ---- what a packet tells that tells a return packet
abbrev told_as : ℕ → List Bool → Told
told_as ack oks = record { rs_ack = ack; oks = oks }

tells-again : (scenario : Scenario) (cells : List (Option Told)) (k : ℕ) (packet : Packet) →
    told_by (telling (return_packet scenario cells k) packet) ≡ return_packet scenario cells k
tells-again scenario cells k packet =
    let told : Told = return_packet scenario cells k in
    ap (λ ack. told_as ack (oks_in (mst_by told.oks))) (bit_nibble-bit (said scenario cells k))
    ∙ ap (told_as told.rs_ack) (oks_in-number told.oks refl)

-- ---- what is read of a row of packets
leader-told : (packets : ℕ → Packet) (told : Told) → ((line : ℕ) → told_by (packets line) ≡ told) →
    (readable : ℕ → Bool) (a n : ℕ) →
    option_map told_by (leader (map (λ line. packet_if (readable line) (packets line)) (range_with_len a n)))
    ≡ (if list_any readable (range_with_len a n) then Some told else None)
leader-told packets told same readable a zero = refl
leader-told packets told same readable a (suc n) =
    let rest = map (λ line. packet_if (readable line) (packets line)) (range_with_len (a + 1) n) in
    elim (readable a) as (λ b. option_map told_by (leader (packet_if b (packets a) ∷ rest))
    ≡ (if b || list_any readable (range_with_len (a + 1) n) then Some told else None)) [
      | true ↦ ap Some (same a)
      | false ↦ leader-told packets told same readable (a + 1) n
    ]

leader-none : (packets : ℕ → Packet) (readable : ℕ → Bool) (a n : ℕ) →
    list_any readable (range_with_len a n) ≡ false →
    leader (map (λ line. packet_if (readable line) (packets line)) (range_with_len a n)) ≡ None
leader-none packets readable a zero none = refl
leader-none packets readable a (suc n) none =
    let rest = map (λ line. packet_if (readable line) (packets line)) (range_with_len (a + 1) n) in
    elim (readable a) as (λ b. (b || list_any readable (range_with_len (a + 1) n)) ≡ false →
    leader (packet_if b (packets a) ∷ rest) ≡ None) [
      | true ↦ λ e. absurd cc
      | false ↦ λ e. leader-none packets readable (a + 1) n e
    ] none

pub silent-none : (scenario : Scenario) (cells : List (Option Told)) (k : ℕ) → is_heard scenario k ≡ false →
    leader (packets_of scenario cells k) ≡ None
silent-none scenario cells k silent =
    leader-none (λ line. sent_packet scenario cells line k) (λ line. is_read scenario line k) 0
    (length scenario.windows) (heard-any scenario k ∙ silent)

-- what a row of packets of a way tells
row-told : (script other : Script) (cells : List (Option Told)) (k : ℕ) → k < packets_in other.config.ticks →
    option_map told_by (leader (packets_of (scenario_by (way_of script other)) cells (k + script.config.lag)))
    ≡ (if is_heard (scenario_of script) (k + script.config.lag)
    then Some (telling_at (scenario_by (way_of script other)) (k + script.config.lag)) else None)
row-told script other cells k low =
    let way : Scenario = scenario_by (way_of script other) in
    let j = k + script.config.lag in
    leader-told (λ line. sent_packet way cells line j) (telling_at way j) each (λ line. is_read way line j) 0
    (length way.windows)
    ∙ ap (λ heard. if heard then Some (telling_at way j) else None) (heard-any way j)
  where
    each : (line : ℕ) → told_by (sent_packet (scenario_by (way_of script other)) cells line (k + script.config.lag))
        ≡ telling_at (scenario_by (way_of script other)) (k + script.config.lag)
    each line =
        ap (λ told. told_by (telling told (forward_packet
        (table_of (scenario_by (way_of script other)) cells (k + script.config.lag)) line (k + script.config.lag))))
        (told-said script other k low)
        ∙ tells-again (scenario_by (way_of other script)) (session_cells (scenario_by (way_of other script))) k
        (forward_packet (table_of (scenario_by (way_of script other)) cells (k + script.config.lag)) line
        (k + script.config.lag))
        ∙ sym (told-said script other k low)

pub heard-told : (script other : Script) (cells : List (Option Told)) (k : ℕ) → k < packets_in other.config.ticks →
    is_heard (scenario_of script) (k + script.config.lag) ≡ true →
    option_map told_by (leader (packets_of (scenario_by (way_of script other)) cells (k + script.config.lag)))
    ≡ Some (telling_at (scenario_by (way_of script other)) (k + script.config.lag))
heard-told script other cells k low heard =
    row-told script other cells k low
    ∙ ap (λ b. if b then Some (telling_at (scenario_by (way_of script other)) (k + script.config.lag)) else None) heard

pub way-cells : (script other : Script) (cells : List (Option Told)) (k : ℕ) → k < packets_in script.config.ticks →
    return_cell (scenario_by (way_of script other)) (session_cells (scenario_by (way_of script other))) k
    ≡ option_map told_by
    (leader (packets_of (scenario_by (way_of other script)) cells (k + other.config.lag)))
way-cells script other cells k low =
    let way : Scenario = scenario_by (way_of script other) in
    let said : Told = return_packet way (session_cells way) k in
    ap (λ lost. if lost then None else Some said) (way-lost script other k low)
    ∙ if-not (is_heard (scenario_of other) (k + other.config.lag)) said
    ∙ ap (λ told. if is_heard (scenario_of other) (k + other.config.lag) then Some told else None)
    (sym (told-said other script k low))
    ∙ sym (row-told other script cells k low)
  where
    if-not : (b : Bool) (told : Told) → (if not b then None else Some told) ≡ (if b then Some told else None)
    if-not true told = refl
    if-not false told = refl

-- ---- Where the two ways of a pair meet: what the sink of one says and what is read in the packets of the other, by the
-- cells that were popped.
-- the packets of a walk that its rows end are read as the session says
read-packets : (leg : Leg) (s : Counts) (k : ℕ) → CanWalk leg → IsWalked leg s → 16 * k + 23 < s.rows →
    HasPackets (scenario_by leg) (session_of leg) (popped_cells leg s.lines) k
read-packets leg s k can walked low =
    let (rows, ticks) = counts-within leg s can walked in
    has-packets (scenario_by leg) (session_of leg) (has-lines leg can) s.ticks (popped_cells leg s.lines)
    (cells-come leg s can walked) k (omega (arith, low, rows, ticks))
    (cells-decide leg s can walked (16 * k + 23) low)

can-walk : (script other : Script) → IsWay script → CanWalk (way_of script other)
can-walk script other is = sound-walks (way_of script other) (way-sound script other is)

pub says-told : (script other : Script) (s : Counts) (k : ℕ) → IsWay script → IsWalked (way_of script other) s →
    16 * k + 23 < s.rows → told_by (return_at script.config.options (popped_cells (way_of script other) s.lines) k)
    ≡ telling_at (scenario_by (way_of other script)) (k + other.config.lag)
says-told script other s k is walked low =
    let leg : Leg = way_of script other in
    let can = can-walk script other is in
    let (rows, ticks) = counts-within leg s can walked in
    let lag = is.valid.sound.network.lag.0 in
    returned.told-said (scenario_by leg) (packets (scenario_by leg)) k (popped_cells leg s.lines) (omega (arith, lag))
    (read-packets leg s k can walked low)
    ∙ sym (told-said other script k (omega (arith, low, rows, ticks)))

pub reads-told : (script other : Script) (s : Counts) (k : ℕ) → IsWay other → IsWalked (way_of other script) s →
    k < packets_in script.config.ticks → 16 * (k + other.config.lag) + 23 < s.rows →
    option_map told_by (leader (read_packets (popped_cells (way_of other script) s.lines) (k + other.config.lag)))
    ≡ return_cell (scenario_by (way_of script other)) (session_of (way_of script other)) k
reads-told script other s k is walked made low =
    let leg : Leg = way_of other script in
    let packets = read-packets leg s (k + other.config.lag) (can-walk other script is) walked low in
    ap (λ row. option_map told_by (leader row)) (packets (k + other.config.lag) (omega arith))
    ∙ sym (way-cells script other (session_of leg) k made)

-- ---- The plan of a pair of scripts, and what its ways deliver.
way-plan : (script other : Script) → IsWay script →
    IsPlan (with_lag script.config.lag (walk_plan (way_of script other)))
way-plan script other is =
    plan-with (way_of script other) script.config.lag (can-walk script other is) is.valid.sound.network.fits_lag

pub has-pair-plan : (there back : Script) → IsPair there back → IsPairPlan (pair_plan there back)
has-pair-plan there back pair = record {
  there_plan = way-plan there back pair.there_way;
  back_plan = subst (λ lag. IsPlan (with_lag lag (walk_plan (way_of back there)))) (sym pair.lag)
      (way-plan back there pair.back_way);
  there_lag = omega arith;
  back_lag = let same = pair.lag in omega (arith, same);
  ticks = pair.ticks;
}

-- ---- the walk of each way
pub there-walked : (there back : Script) (s : PairCounts) → IsPair there back → IsPairWalked there back s →
    IsWalked (way_of there back) s.there
there-walked there back s pair walked =
    pair-walks (pair_plan there back) s There (has-pair-plan there back pair) walked

pub back-walked : (there back : Script) (s : PairCounts) → IsPair there back → IsPairWalked there back s →
    IsWalked (way_of back there) s.back
back-walked there back s pair walked =
    pair-walks (pair_plan there back) s Back (has-pair-plan there back pair) walked

-- ---- after a drain
drained-walked : (there back : Script) (s : PairCounts) → IsPairWalked there back s →
    IsPairWalked there back (pair_drained there back s)
drained-walked there back s walked =
    pair-drains (pair_plan there back) s (pair_bound (pair_plan there back)) walked

pub there-taken : (there back : Script) (s : PairCounts) → IsPair there back → IsPairWalked there back s →
    (pair_drained there back s).there.rows ≡ there.config.ticks
there-taken there back s pair walked =
    pair-ends (pair_plan there back) s There (has-pair-plan there back pair) walked

pub back-taken : (there back : Script) (s : PairCounts) → IsPair there back → IsPairWalked there back s →
    (pair_drained there back s).back.rows ≡ back.config.ticks
back-taken there back s pair walked =
    pair-ends (pair_plan there back) s Back (has-pair-plan there back pair) walked

-- a leg whose rows are all taken has made all ticks, and all its items have landed
ended-report : (leg : Leg) (s : Counts) → IsSound leg → IsWalked leg s → s.rows ≡ leg.config.ticks →
    report_of leg s ≡ final_report leg
ended-report leg s sound walked taken =
    let total = leg.config.ticks in
    let ticks = ticks-made leg s sound walked taken in
    ap (λ made. report_among leg made s.rows (landed_items leg s)) ticks
    ∙ ap (λ rows. report_among leg total rows (landed_items leg s)) taken
    ∙ ap (report_among leg total total) (items-landed leg s sound walked ticks)

pub there-report : (there back : Script) (s : PairCounts) → IsPair there back → IsPairWalked there back s →
    report_of (way_of there back) (pair_drained there back s).there ≡ final_report (way_of there back)
there-report there back s pair walked =
    ended-report (way_of there back) (pair_drained there back s).there (way-sound there back pair.there_way)
    (there-walked there back (pair_drained there back s) pair (drained-walked there back s walked))
    (there-taken there back s pair walked)

pub back-report : (there back : Script) (s : PairCounts) → IsPair there back → IsPairWalked there back s →
    report_of (way_of back there) (pair_drained there back s).back ≡ final_report (way_of back there)
back-report there back s pair walked =
    ended-report (way_of back there) (pair_drained there back s).back (way-sound back there pair.back_way)
    (back-walked there back (pair_drained there back s) pair (drained-walked there back s walked))
    (back-taken there back s pair walked)

-- ---- what a way delivers
delivered-silent : (script other : Script) (tells : List Told) (rows : ℕ) →
    delivered_of (way_telling script other tells) rows ≡ delivered_of (way_telling script other []) rows
delivered-silent script other tells rows =
    let silent : Scenario = scenario_by (way_telling script other []) in
    let telling : Scenario = scenario_by (way_telling script other tells) in
    ap (λ cells. deliver longest_frame (rows_of telling cells rows))
    (telling-cells silent tells (packets_in script.config.ticks))
    ∙ ap (deliver longest_frame) (telling-rows silent tells (session_cells silent) rows)

pub delivered-same : (script other : Script) (tells : List Told) (rows : ℕ) →
    delivered_of (way_telling script other tells) rows ≡ delivered_of (way_of script other) rows
delivered-same script other tells rows =
    delivered-silent script other tells rows
    ∙ sym (delivered-silent script other (way_tells script other) rows)

-- ---- what is reported of a way
-- by what is delivered and which items are refused
abbrev report_by : List (List ℕ) → (Numbered → Option Refusal) → ℕ → ℕ → List Numbered → List ℕ
report_by frames why ticks rows items =
    let refused = flat_map (λ (item : Numbered). refused_by item.number (why item)) items in
    got_texts frames ++ refused_texts refused ++ total_text (record {
      ticks = ticks;
      taken = rows;
      frames = length (filter (λ item. is_client item.item.kind && is_none (why item)) items);
      commands = length (filter (λ item. not (is_client item.item.kind) && is_none (why item)) items);
      refused = length refused;
      got = length frames;
    })

refusal-silent : (script other : Script) (tells : List Told) (item : Numbered) →
    refusal_at (way_telling script other tells) item ≡ refusal_at (way_telling script other []) item
refusal-silent script other tells item =
    let silent : Scenario = scenario_by (way_telling script other []) in
    let telling : Scenario = scenario_by (way_telling script other tells) in
    ap (λ cells. kind_refusal telling cells item.item.due (take item.number script.items) item.item.kind)
    (telling-cells silent tells (packets_in script.config.ticks))
    ∙ telling-refusal silent tells (session_cells silent) item.item.due (take item.number script.items) item.item.kind

refusal-same : (script other : Script) (tells : List Told) (item : Numbered) →
    refusal_at (way_telling script other tells) item ≡ refusal_at (way_of script other) item
refusal-same script other tells item =
    refusal-silent script other tells item ∙ sym (refusal-silent script other (way_tells script other) item)

pub report-same : (script other : Script) (tells : List Told) (ticks rows : ℕ) (items : List Numbered) →
    report_among (way_telling script other tells) ticks rows items
    ≡ report_among (way_of script other) ticks rows items
report-same script other tells ticks rows items =
    let leg : Leg = way_telling script other tells in
    ap (λ frames. report_by frames (refusal_at leg) ticks rows items) (delivered-same script other tells rows)
    ∙ ap (λ why. report_by (delivered_of (way_of script other) rows) why ticks rows items)
    (fun_ext (refusal-same script other tells))
