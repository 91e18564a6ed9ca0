-- The cells that have come of a session's lines, and the rows and return packets that the sink makes of them.
use Rattle.std.proofs.Common.{IsSome, ◌≡◌, ℕ, suc, ◌+◌, ◌-◌, ◌*◌, ◌/◌, ◌<◌, ◌≤◌, min, Bool, true, false, if◌then◌else◌}
use Rattle.std.proofs.Common.{inl, inr, List, [], ◌∷◌, ◌++◌, map, length, slice_get, slice_index_or, Option, Some}
use Rattle.std.proofs.Common.{None, refl, sym, ◌∙◌, ap, ap₂, subst, arith}
use Rattle.std.specs.List.{range_with_len}
use Rattle.std.specs.Result.{result_ok}
use Rattle.std.proofs.lemmas.Bool.{cases_lt}
use Rattle.std.proofs.lemmas.List.FromFn.{take-map-range_with_len}
use Rattle.std.proofs.lemmas.Option.{slice_get_within}
use Rattle.law_model.specs.Common.{Container, Cell, is_good, path, end_of, cells, verdict, IsLine, sent_nibbles}
use Rattle.law_model.specs.Common.{packet_nibbles, read_of, Scenario, carried_by, is_read, Told, sent_packet}
use Rattle.law_model.specs.Common.{container_of, containers_of, read_packet, read_packets, container_in, container_on}
use Rattle.law_model.specs.Common.{packet_if, packets_of, is_lost, told_in, return_packet, return_cell, cells_before}
use Rattle.law_model.specs.Common.{payload_of, return_of, row_at, return_at, is_whole_row, carriers_at, known_lines}
use Rattle.law_model.specs.declared.window_types.Window.{Window}
use Rattle.law_model.specs.declared.control_packet.Packet.{Packet}
use Rattle.law_model.proofs.PacketNibblesLaws.{read_of-packet_nibbles}
use Rattle.law_line.specs.Numbering.{line_cells}
use Rattle.law_line.specs.StableRows.{AreDecidedAt}
use Rattle.law_model.proofs.ListLaws.{is-some, slice_get-inside}
use Rattle.law_line.proofs.ReadingVerdictLaws.{are_numbered, verdict-stays}
use Rattle.law_line.proofs.DecidedPacketAndRowLaws.{earlier, packets_stay, are_read}
use Rattle.law_row.specs.Received.{HasPackets, TellsRow, row_octets}
use Rattle.law_terminal.specs.SessionLines.{HasLines, given, ComesOfLine, ComeOfLines}
use Rattle.law_terminal.proofs.ContainerPayloadLaws.{sent-packet, container-at, containers-size, are-sent}
use Rattle.law_terminal.proofs.ContainerPayloadLaws.{packet-nibbles, same-range, dealt-row}
use Rattle.member_cells.specs.declared.containers_and_cells.BackCell.TheVariants.{Packet as Nibbles, Lost}
use Rattle.law_row.proofs.SilentLineAndKnownCarrierLaws.{carriers-known}
use Rattle.law_row.proofs.WholeRowAndStoppedSinkLaws.{row-whole, row-stops, row-payload}
use Rattle.law_row.proofs.LastWordAndReturnPacketLaws.{said-nibbles}
use Rattle.law_terminal.specs.Course.{back_of, packet_by}

-- ---- What has come of the lines of a session: their containers where those are good, and their packets where those can be
-- read.
-- ---- one line
abbrev windows_of : Scenario → ℕ → List Window
windows_of scenario line = slice_index_or scenario.windows line []

read-back : (packet : Packet) (nibbles : List ℕ) (readable : Bool) → read_of nibbles ≡ read_of (packet_nibbles packet) →
    result_ok (read_of (packet_nibbles packet)) ≡ Some packet →
    (if readable then result_ok (read_of nibbles) else None) ≡ packet_if readable packet
read-back packet nibbles true same read = ap result_ok same ∙ read
read-back packet nibbles false same read = refl

-- the containers that aren't made yet give no cell
pub given-whole : (scenario : Scenario) (returns : List (Option Told)) (line frames delay carries : ℕ) →
    frames ≤ scenario.ticks → min carries scenario.ticks ≤ frames →
    given scenario returns line frames delay carries ≡ given scenario returns line scenario.ticks delay carries
given-whole scenario returns line frames delay carries made taken =
    let f = container_of scenario returns line in
    let n : ℕ = carries - delay in
    elim (cases_lt frames n) [
      | inl beyond ↦ let all : frames ≡ scenario.ticks = omega arith in
          ap (λ frames. given scenario returns line frames delay carries) all
      | inr within ↦
          ap (λ l. path (carried_by scenario line) 0 l ++ end_of scenario.ticks n)
          (take-map-range_with_len f 0 frames n within
          ∙ sym (take-map-range_with_len f 0 scenario.ticks n (omega arith)))
    ]

module _ (scenario : Scenario) (returns : List (Option Told)) (lines : HasLines scenario) (line : ℕ)
    (inside : line < length scenario.windows) where
  pub is-line : IsLine (windows_of scenario line) (containers_of scenario returns line scenario.ticks)
  is-line = record {
    apart = lines.apart line [] inside;
    slip = lines.slip line [] inside;
    sent = are-sent scenario returns line scenario.ticks lines.few;
  }

  module _ (frames : ℕ) (made : frames ≤ scenario.ticks) (own : List Cell)
      (comes : ComesOfLine scenario returns line frames own) where
    all-cells : line_cells (windows_of scenario line) (containers_of scenario returns line scenario.ticks) comes.delay
        comes.carries ≡ own ++ comes.later
    all-cells =
        ap (λ n. cells (carried_by scenario line) comes.delay n (containers_of scenario returns line scenario.ticks)
        comes.carries) (containers-size scenario returns line scenario.ticks)
        ∙ sym (given-whole scenario returns line frames comes.delay comes.carries made comes.taken) ∙ comes.first

    verdict-all : (t : ℕ) (told : Option Container) → verdict own t ≡ Some told →
        verdict (line_cells (windows_of scenario line) (containers_of scenario returns line scenario.ticks) comes.delay
        comes.carries) t ≡ Some told
    verdict-all t told is = ap (λ l. verdict l t) all-cells ∙ verdict-stays own comes.later t told is

    container-told : (t : ℕ) → t < scenario.ticks → IsSome (verdict own t) →
        container_on (Some own) t ≡ (if is_good (carried_by scenario line) t then Some
        (container_of scenario returns line t) else None)
    container-told t low decided =
        let containers : List Container = containers_of scenario returns line scenario.ticks in
        let size = containers-size scenario returns line scenario.ticks in
        let (told, is) = is-some (verdict own t) decided in
        let due = are_numbered (windows_of scenario line) containers comes.delay comes.carries t told is-line
        (omega arith) (verdict-all t told is) in
        ap container_in is ∙ due
        ∙ ap (λ container. if is_good (carried_by scenario line) t then container else None)
        (container-at scenario returns line scenario.ticks t low)

    packet-read : (k : ℕ) → 16 * k + 23 < scenario.ticks → IsSome (verdict own (16 * k + 23)) →
        read_packet own k ≡ packet_if (is_read scenario line k) (sent_packet scenario returns line k)
    packet-read k low decided =
        let containers : List Container = containers_of scenario returns line scenario.ticks in
        let packet : Packet = sent_packet scenario returns line k in
        let size = containers-size scenario returns line scenario.ticks in
        let (told, is) = is-some (verdict own (16 * k + 23)) decided in
        let all_decided = subst (λ verdict. IsSome verdict) (sym (verdict-all (16 * k + 23) told is)) refl in
        sym (packets_stay own comes.later k decided)
        ∙ ap (λ l. read_packet l k) (sym all-cells)
        ∙ are_read (windows_of scenario line) containers comes.delay comes.carries k is-line (omega arith) all_decided
        ∙ read-back packet (sent_nibbles containers k) (is_read scenario line k)
        (ap read_of (packet-nibbles scenario returns line scenario.ticks k lines.few low))
        (ap result_ok (read_of-packet_nibbles packet (sent-packet scenario returns line k lines.few)))

-- ---- all lines
map-lines : {X Y : Type 0} (f : X → Y) (g : ℕ → Y) (xs : List X) (from : ℕ) →
    ((m : ℕ) (x : X) → slice_get xs m ≡ Some x → f x ≡ g (from + m)) →
    map f xs ≡ map g (range_with_len from (length xs))
map-lines f g [] from same = refl
map-lines f g (x ∷ xs) from same =
    let e : from + 0 ≡ from = omega arith in
    ap₂ (λ y ys. y ∷ ys) (same 0 x refl ∙ ap g e)
    (map-lines f g xs (from + 1) (λ m y here. same (suc m) y here
    ∙ (let e : from + suc m ≡ from + 1 + m = omega arith in ap g e)))

module _ (scenario : Scenario) (returns : List (Option Told)) (lines : HasLines scenario) (frames : ℕ)
    (cells : List (List Cell)) (come : ComeOfLines scenario returns frames cells) where
  packets-read : (k : ℕ) → 16 * k + 23 < scenario.ticks → AreDecidedAt cells (16 * k + 23) →
      read_packets cells k ≡ packets_of scenario returns k
  packets-read k low decided =
      let g = λ (line : ℕ). packet_if (is_read scenario line k) (sent_packet scenario returns line k) in
      let size = come.lines in
      map-lines (λ own. read_packet own k) g cells 0
      (λ m own here.
      let within = slice_get_within cells m own here in
      let e : m ≡ 0 + m = omega arith in
      packet-read scenario returns lines m (omega arith) frames come.made own (come.each m own here) k low
      (decided m own here) ∙ ap g e)
      ∙ ap (λ n. map g (range_with_len 0 n)) size

  pub has-packets : (k : ℕ) → 16 * k + 23 < scenario.ticks → AreDecidedAt cells (16 * k + 23) →
      HasPackets scenario returns cells k
  has-packets k low decided j below =
      packets-read j (omega arith) (λ m own here. earlier own (16 * j + 23) (16 * k + 23) (omega arith)
      (decided m own here))

  pub tells-row : (t : ℕ) → t < scenario.ticks → AreDecidedAt cells t →
      TellsRow scenario returns (λ line. container_of scenario returns line t) cells t
  tells-row t low decided = record {
    packets = λ late.
        has-packets ((t - 24) / 16) (omega arith)
        (λ m own here. earlier own (16 * ((t - 24) / 16) + 23) t (omega arith) (decided m own here));
    containers = λ line inside.
        let size = come.lines in
        let (own, here) = slice_get-inside cells line (omega arith) in
        ap (λ own. container_on own t) here
        ∙ container-told scenario returns lines line inside frames come.made own (come.each line own here) t low
        (decided line own here);
  }

-- ---- The rows and return packets that a sink makes of what has come, by the session.
-- the octets of a row that is whole, where the source made the containers
row-of : (scenario : Scenario) (returns : List (Option Told)) (t : ℕ) →
    (if is_whole_row scenario returns t
    then Some (row_octets scenario returns (λ line. container_of scenario returns line t) t) else None)
    ≡ (if is_whole_row scenario returns t then Some (payload_of scenario returns t) else None)
row-of scenario returns t =
    ap (λ octets. if is_whole_row scenario returns t then Some octets else None)
    (row-payload scenario returns (λ line. container_of scenario returns line t) t (dealt-row scenario returns t))

pub row-told : (scenario : Scenario) (n frames : ℕ) (cells : List (List Cell)) (t : ℕ) → HasLines scenario →
    0 < scenario.lag →
    ComeOfLines scenario (cells_before scenario n) frames cells → t < scenario.ticks → AreDecidedAt cells t →
    row_at scenario.options scenario.size cells t ≡ (if is_whole_row scenario (cells_before scenario n) t then Some
    (payload_of scenario (cells_before scenario n) t) else None)
row-told scenario n frames cells t lines lag come low decided =
    let returns = cells_before scenario n in
    row-whole scenario n (λ line. container_of scenario returns line t) cells t lines.few lag
    (tells-row scenario returns lines frames cells come t low decided)
    ∙ row-of scenario returns t

-- where the sink stops, whatever the source was told
pub row-stopped : (scenario : Scenario) (returns : List (Option Told)) (frames : ℕ) (cells : List (List Cell)) (t : ℕ) →
    HasLines scenario → scenario.options.infers ≡ false →
    ComeOfLines scenario returns frames cells → t < scenario.ticks → AreDecidedAt cells t →
    row_at scenario.options scenario.size cells t ≡ (if is_whole_row scenario returns t then Some
    (payload_of scenario returns t) else None)
row-stopped scenario returns frames cells t lines stops come low decided =
    row-stops scenario returns (λ line. container_of scenario returns line t) cells t lines.few stops
    (tells-row scenario returns lines frames cells come t low decided)
    ∙ row-of scenario returns t

pub carriers-told : (scenario : Scenario) (n frames : ℕ) (cells : List (List Cell)) (k : ℕ) → HasLines scenario →
    0 < scenario.lag →
    ComeOfLines scenario (cells_before scenario n) frames cells → 16 * k + 23 < scenario.ticks →
    AreDecidedAt cells (16 * k + 23) →
    carriers_at scenario.options cells k ≡ known_lines scenario (cells_before scenario n) k
carriers-told scenario n frames cells k lines lag come low decided =
    carriers-known scenario n k cells lines.few lag
    (has-packets scenario (cells_before scenario n) lines frames cells come k low decided)

-- what comes of a return packet, by whether it is lost
lost-or : (lost : Bool) (nibbles : List ℕ) (told : Told) → told_in (Nibbles nibbles) ≡ Some told →
    told_in (if lost then Lost else Nibbles nibbles) ≡ (if lost then None else Some told)
lost-or true nibbles told is = refl
lost-or false nibbles told is = is

-- where the packets that the sink read are those of the session
pub back-said : (scenario : Scenario) (n k : ℕ) (cells : List (List Cell)) → 0 < scenario.lag →
    HasPackets scenario (cells_before scenario n) cells k →
    told_in (back_of scenario cells k) ≡ return_cell scenario (cells_before scenario n) k
back-said scenario n k cells lag has =
    lost-or (is_lost scenario k) (packet_nibbles (return_at scenario.options cells k))
    (return_packet scenario (cells_before scenario n) k) (said-nibbles scenario n k cells lag has)

pub back-told : (scenario : Scenario) (n frames k : ℕ) (cells : List (List Cell)) → HasLines scenario →
    0 < scenario.lag →
    ComeOfLines scenario (cells_before scenario n) frames cells → 16 * k + 23 < scenario.ticks →
    AreDecidedAt cells (16 * k + 23) →
    told_in (back_of scenario cells k) ≡ return_cell scenario (cells_before scenario n) k
back-told scenario n frames k cells lines lag come low decided =
    back-said scenario n k cells lag
    (has-packets scenario (cells_before scenario n) lines frames cells come k low decided)

pub packet-told : (scenario : Scenario) (returns : List (Option Told)) (frames : ℕ) (cells : List (List Cell)) (k : ℕ) →
    HasLines scenario →
    ComeOfLines scenario returns frames cells → 16 * k + 23 < scenario.ticks → AreDecidedAt cells (16 * k + 23) →
    return_at scenario.options cells k ≡ packet_by scenario returns k
packet-told scenario returns frames cells k lines come low decided =
    let read = has-packets scenario returns lines frames cells come k low decided in
    ap (λ rows. return_of scenario.options rows k)
    (same-range (read_packets cells) (packets_of scenario returns) (k + 1) (λ j below. read j (omega arith)))
