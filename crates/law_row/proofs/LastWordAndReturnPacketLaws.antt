-- What a line said last by the rows that were read, and the return packet that a sink makes of it.
use Rattle.std.proofs.Common.{◌≡◌, ℕ, zero, suc, ◌+◌, ◌-◌, ◌<◌, ◌≤◌, nat_le, ◌&&◌, ◌||◌, not, Bool, true, false}
use Rattle.std.proofs.Common.{if◌then◌else◌, Some, None, refl, sym, ◌∙◌, ap, ap₂, arith, inl, inr, leb-true, ◌%◌, ◌==◌}
use Rattle.std.proofs.Common.{List, [], ◌∷◌, map, length, Option, is_some, option_map, slice_get, slice_index_or}
use Rattle.std.proofs.Common.{eqb-true, ◌*◌}
use Rattle.std.specs.List.{list_any, list_all, range_with_len}
use Rattle.std.proofs.lemmas.Bool.{and_parts, cases_eq, cases_Bool, not-true, eq-eqb, ne_eqb, eqb-false}
use Rattle.law_model.specs.Common.{is_up, last_read, is_restored, are_missed, Scenario, is_read, is_heard, Told}
use Rattle.law_model.specs.Common.{is_normal, table_of, ctrl_by, telling_at, sent_packet, cells_before, said, status}
use Rattle.law_model.specs.Common.{is_line, is_line_up, word, word_by, stands_at, Row, leader, is_member, says_at}
use Rattle.law_model.specs.Common.{packet_row, packet_on, has_packet, is_same, agree, have_one_chg, last_word}
use Rattle.law_model.specs.Common.{last_word_by, status_of, has, packet_if, packets_of, bits, number, Cell, bit_nibble}
use Rattle.law_model.specs.Common.{IsPacket, packet_nibbles, said_before, return_packet, ack_by, ack_of, mst_of}
use Rattle.law_model.specs.Common.{return_of, oks_in, told_by, packet_read, told_in, read_packets, return_at}
use Rattle.law_model.specs.declared.script_types.Options.{Options}
use Rattle.std.proofs.lemmas.List.FromFn.{length-map-range_with_len, get_or-map-range_with_len}
use Rattle.std.proofs.lemmas.List.FromFn.{take-map-range_with_len, map-range_with_len_more}
use Rattle.law_model.specs.declared.control_packet.Packet.{Packet}
use Rattle.law_model.specs.declared.lcas_states.Standing.{Standing}
use Rattle.law_model.specs.declared.lcas_states.Member.{Member}
use Rattle.law_model.specs.declared.lcas_states.Standing.TheVariants.{Add as adding, Norm as normal, Dnu as unused}
use Rattle.law_session.specs.Feedback.{lines_of}
use Rattle.law_session.proofs.SourceOrderAndPlanLaws.{times}
use Rattle.law_session.proofs.UpLineAndReadablePacketLaws.{some_heard}
use Rattle.law_session.proofs.ReturnCellAndLineWordLaws.{one_count, session-law, last-read}
use Rattle.law_row.proofs.ActivePacketsLaws.{all_read, packet, carries-absent, head-self, head-other, head-rest}
use Rattle.law_row.proofs.ActivePacketsLaws.{once-after, carrying, heard-any}
use Rattle.std.proofs.lemmas.List.{length-map}
use Rattle.std.proofs.lemmas.List.Sums.{fold_push}
use Rattle.law_model.proofs.ListLaws.{map-same_range}
use Rattle.check_remainder.proofs.NumberAndOctetBitsLaws.{bits-number, number_below}
use Rattle.member_cells.specs.declared.containers_and_cells.BackCell.TheVariants.{Packet as Nibbles}
use Rattle.law_model.proofs.PacketNibblesLaws.{read_of-packet_nibbles, bit_nibble-bit}
use Rattle.law_row.specs.Received.{HasPackets}

-- ---- Whether a line is up, and which of its packets was read last, depend on what was read up to that packet alone. Tests
-- of the numbers of a range.
-- ---- tests
pub same_tests : (a b : Bool) → (a ≡ true → b ≡ true) → (b ≡ true → a ≡ true) → a ≡ b
same_tests true b forth back = sym (forth refl)
same_tests false true forth back = back refl
same_tests false false forth back = refl

-- ---- tests of the numbers of a range
pub all-at : (test : ℕ → Bool) (from count : ℕ) → list_all test (range_with_len from count) ≡ true → (j : ℕ) →
    from ≤ j → j < from + count → test j ≡ true
all-at test from zero e j low high = absurd (omega arith)
all-at test from (suc count) e j low high =
    let parts = and_parts (test from) (list_all test (range_with_len (from + 1) count)) e in
    elim (cases_eq from j) [
      | inl same ↦ ap test (sym same) ∙ parts.0
      | inr other ↦ all-at test (from + 1) count parts.1 j (omega arith) (omega arith)
    ]

pub all-from : (test : ℕ → Bool) (from count : ℕ) → ((j : ℕ) → from ≤ j → j < from + count → test j ≡ true) →
    list_all test (range_with_len from count) ≡ true
all-from test from zero each = refl
all-from test from (suc count) each =
    let first = each from (omega arith) (omega arith) in
    rw first (all-from test (from + 1) count (λ j low high. each j (omega arith) (omega arith)))

pub all-same : (f g : ℕ → Bool) (from count : ℕ) → ((j : ℕ) → from ≤ j → j < from + count → f j ≡ g j) →
    list_all f (range_with_len from count) ≡ list_all g (range_with_len from count)
all-same f g from zero same = refl
all-same f g from (suc count) same =
    ap (λ b. b && list_all f (range_with_len (from + 1) count)) (same from (omega arith) (omega arith))
    ∙ ap (λ b. g from && b) (all-same f g (from + 1) count (λ j low high. same j (omega arith) (omega arith)))

pub any-same : (f g : ℕ → Bool) (from count : ℕ) → ((j : ℕ) → from ≤ j → j < from + count → f j ≡ g j) →
    list_any f (range_with_len from count) ≡ list_any g (range_with_len from count)
any-same f g from zero same = refl
any-same f g from (suc count) same =
    ap (λ b. b || list_any f (range_with_len (from + 1) count)) (same from (omega arith) (omega arith))
    ∙ ap (λ b. g from || b) (any-same f g (from + 1) count (λ j low high. same j (omega arith) (omega arith)))

-- what is read up to a packet is the same
abbrev pub ReadAlike : (ℕ → Bool) → (ℕ → Bool) → ℕ → Type 0
ReadAlike f g k = (j : ℕ) → j ≤ k → f j ≡ g j

restored-same : (restore : ℕ) (f g : ℕ → Bool) (k : ℕ) → ReadAlike f g k →
    is_restored restore f k ≡ is_restored restore g k
restored-same restore f g k same =
    all-same f g (k - restore) (k + 1 - (k - restore)) (λ j low high. same j (omega arith))

missed-same : (holdoff : ℕ) (f g : ℕ → Bool) (k : ℕ) → ReadAlike f g k →
    are_missed holdoff f k ≡ are_missed holdoff g k
missed-same holdoff f g k same =
    elim (nat_le holdoff k) as (λ b. nat_le holdoff k ≡ b →
    (b && list_all (λ j. not (f j)) (range_with_len (k - holdoff) (holdoff + 1))) ≡
    (b && list_all (λ j. not (g j)) (range_with_len (k - holdoff) (holdoff + 1)))) [
      | true ↦ λ e.
          let low = leb-true holdoff k e in
          all-same (λ j. not (f j)) (λ j. not (g j)) (k - holdoff) (holdoff + 1)
          (λ j above below. ap not (same j (omega arith)))
      | false ↦ λ e. refl
    ] refl

pub up-same : (options : Options) (f g : ℕ → Bool) (k : ℕ) → ReadAlike f g k → is_up options f k ≡ is_up options g k
unfolding is_up
up-same options f g zero same = same zero (omega arith)
up-same options f g (suc k) same =
    let missed = missed-same options.holdoff f g (suc k) same in
    let before = up-same options f g k (λ j low. same j (omega arith)) in
    ap₂ (λ a b. a || b) (restored-same options.restore f g (suc k) same) (ap₂ (λ a b. not a && b) missed before)

pub last-same : (f g : ℕ → Bool) (k : ℕ) → ReadAlike f g k → last_read f k ≡ last_read g k
unfolding last_read
last-same f g zero same = ap (λ b. if b then Some zero else None) (same zero (omega arith))
last-same f g (suc k) same =
    ap (λ b. if b then Some (suc k) else last_read f k) (same (suc k) (omega arith))
    ∙ ap (λ last. if g (suc k) then Some (suc k) else last) (last-same f g k (λ j low. same j (omega arith)))

-- ---- What a line said last by the rows that a sink read, and by the source's table: by the session's own return cells one
-- change bit stands for one count of changes.
-- ---- rows of packets
-- the rows of a session up to packet k
abbrev pub rows_to : Scenario → List (Option Told) → ℕ → List Row
rows_to scenario returns k = map (packets_of scenario returns) (range_with_len 0 (k + 1))

pub row-at : (scenario : Scenario) (returns : List (Option Told)) (k j : ℕ) → j ≤ k →
    packet_row (rows_to scenario returns k) j ≡ packets_of scenario returns j
row-at scenario returns k j low =
    get_or-map-range_with_len (packets_of scenario returns) 0 (k + 1) j j [] (omega arith) (omega arith)

pub row-lines : (scenario : Scenario) (returns : List (Option Told)) (k : ℕ) →
    length (packet_row (rows_to scenario returns k) k) ≡ length scenario.windows
row-lines scenario returns k =
    ap length (row-at scenario returns k k (omega arith))
    ∙ length-map-range_with_len (λ line. packet_if (is_read scenario line k) (sent_packet scenario returns line k)) 0
    (length scenario.windows)

pub packet-at : (scenario : Scenario) (returns : List (Option Told)) (k line j : ℕ) → line < length scenario.windows →
    j ≤ k →
    packet_on (rows_to scenario returns k) line j
    ≡ packet_if (is_read scenario line j) (sent_packet scenario returns line j)
packet-at scenario returns k line j inside low =
    ap (λ row. slice_index_or row line None) (row-at scenario returns k j low)
    ∙ get_or-map-range_with_len
    (λ line. packet_if (is_read scenario line j) (sent_packet scenario returns line j)) 0 (length scenario.windows) line
    line None inside (omega arith)

some-if : (read : Bool) (p : Packet) → is_some (packet_if read p) ≡ read
some-if true p = refl
some-if false p = refl

pub has-read : (scenario : Scenario) (returns : List (Option Told)) (k line : ℕ) → line < length scenario.windows →
    (j : ℕ) → j ≤ k → has_packet (rows_to scenario returns k) line j ≡ is_read scenario line j
has-read scenario returns k line inside j low =
    ap is_some (packet-at scenario returns k line j inside low)
    ∙ some-if (is_read scenario line j) (sent_packet scenario returns line j)

-- ---- the change bit of a leader
abbrev pub chg_of : Option Packet → Option Bool
chg_of found = option_map (λ packet. packet.chg) found

leader-chg : (packets : ℕ → Packet) (chg : Bool) → ((l : ℕ) → (packets l).chg ≡ chg) → (readable : ℕ → Bool)
    (a n : ℕ) →
    chg_of (leader (all_read (λ l. packet_if (readable l) (packets l)) a n)) ≡
    (if list_any readable (range_with_len a n) then Some chg else None)
leader-chg packets chg same readable a zero = refl
leader-chg packets chg same readable a (suc n) =
    let rest = all_read (λ l. packet_if (readable l) (packets l)) (a + 1) n in
    elim (readable a) as (λ b. chg_of (leader (packet_if b (packets a) ∷ rest)) ≡
    (if b || list_any readable (range_with_len (a + 1) n) then Some chg else None)) [
      | true ↦ ap Some (same a)
      | false ↦ leader-chg packets chg same readable (a + 1) n
    ]

-- a row has a leader exactly where some line is heard, and it has the change bit of the count
pub leader-heard : (scenario : Scenario) (returns : List (Option Told)) (k : ℕ) →
    chg_of (leader (packets_of scenario returns k)) ≡
    (if is_heard scenario k then Some ((table_of scenario returns k).count % 2 == 1) else None)
leader-heard scenario returns k =
    let chg : Bool = (table_of scenario returns k).count % 2 == 1 in
    leader-chg (λ line. sent_packet scenario returns line k) chg (λ line. refl) (λ line. is_read scenario line k) 0
    (length scenario.windows)
    ∙ ap (λ heard. if heard then Some chg else None) (heard-any scenario k)

-- ---- one change bit
abbrev one_bit : Option Bool → Option Bool → Bool
one_bit None other = true
one_bit (Some bit) None = true
one_bit (Some bit) (Some other) = is_same bit other

agree-chg : (a b : Option Packet) → agree a b ≡ one_bit (chg_of a) (chg_of b)
agree-chg None b = refl
agree-chg (Some a) None = refl
agree-chg (Some a) (Some b) = refl

is_same-true : (a b : Bool) → is_same a b ≡ true → a ≡ b
is_same-true true b e = sym e
is_same-true false b e = sym (not-true b e)

is_same-self : (a : Bool) → is_same a a ≡ true
is_same-self true = refl
is_same-self false = refl

-- the change bits of two counts are the same exactly where they are even apart
bits-true : (a b : ℕ) → is_same (a % 2 == 1) (b % 2 == 1) ≡ true → b % 2 ≡ a % 2
bits-true a b e =
    let same = is_same-true (a % 2 == 1) (b % 2 == 1) e in
    elim (cases_Bool (a % 2 == 1)) [
      | inl one ↦
          let left = eqb-true (a % 2) 1 one in
          let right = eqb-true (b % 2) 1 (sym same ∙ one) in
          omega arith
      | inr none ↦
          let left = eqb-false (a % 2) 1 none in
          let right = eqb-false (b % 2) 1 (sym same ∙ none) in
          omega arith
    ]

bits-from : (a b : ℕ) → b % 2 ≡ a % 2 → is_same (a % 2 == 1) (b % 2 == 1) ≡ true
bits-from a b e = ap (λ n. is_same (a % 2 == 1) (n == 1)) e ∙ is_same-self (a % 2 == 1)

agree-heard : (scenario : Scenario) (returns : List (Option Told)) (k last j : ℕ) → last ≤ k → j ≤ k →
    is_heard scenario last ≡ true →
    agree (leader (packet_row (rows_to scenario returns k) last)) (leader (packet_row (rows_to scenario returns k) j)) ≡
    (if is_heard scenario j then is_same ((table_of scenario returns last).count % 2 == 1)
    ((table_of scenario returns j).count % 2 == 1) else true)
agree-heard scenario returns k last j low_last low heard =
    let bit : Bool = (table_of scenario returns last).count % 2 == 1 in
    let other : Bool = (table_of scenario returns j).count % 2 == 1 in
    ap₂ (λ a b. agree (leader a) (leader b)) (row-at scenario returns k last low_last) (row-at scenario returns k j low)
    ∙ agree-chg (leader (packets_of scenario returns last)) (leader (packets_of scenario returns j))
    ∙ ap₂ one_bit (leader-heard scenario returns last ∙ ap (λ b. if b then Some bit else None) heard)
    (leader-heard scenario returns j)
    ∙ elim (is_heard scenario j)
    as (λ b. one_bit (Some bit) (if b then Some other else None) ≡ (if b then is_same bit other else true))
    [ true ↦ refl | false ↦ refl ]

-- the leaders from a packet that is heard on have one change bit exactly where its count is the one that is said
one_chg-count : (scenario : Scenario) (n k last : ℕ) → 0 < scenario.lag → last ≤ k → is_heard scenario last ≡ true →
    have_one_chg (rows_to scenario (cells_before scenario n) k) last k
    ≡ ((table_of scenario (cells_before scenario n) last).count == said scenario (cells_before scenario n) k)
one_chg-count scenario n k last lag low heard =
    let returns = cells_before scenario n in
    let rows = rows_to scenario returns k in
    let count = (table_of scenario returns last).count in
    let test = λ (j : ℕ). agree (leader (packet_row rows last)) (leader (packet_row rows j)) in
    let law = one_count scenario returns (session-law scenario n lag) lag last k low heard in
    same_tests (have_one_chg rows last k) (count == said scenario returns k)
    (λ all. eq-eqb count (said scenario returns k) (law.0 (λ j late high there.
    bits-true count (table_of scenario returns j).count
    (ap (λ b. if b then is_same (count % 2 == 1) ((table_of scenario returns j).count % 2 == 1) else true) (sym there)
    ∙ sym (agree-heard scenario returns k last j low high heard)
    ∙ all-at test last (k + 1 - last) all j late (omega arith)))))
    (λ same.
    let one = law.1 (eqb-true count (said scenario returns k) same) in
    all-from test last (k + 1 - last) (λ j late high.
    agree-heard scenario returns k last j low (omega arith) heard
    ∙ elim (is_heard scenario j) as (λ b. is_heard scenario j ≡ b →
    (if b then is_same (count % 2 == 1) ((table_of scenario returns j).count % 2 == 1) else true) ≡ true) [
      | true ↦ λ there. bits-from count (table_of scenario returns j).count (one j late (omega arith) there)
      | false ↦ λ there. refl
    ] refl))

-- ---- the SQ that a packet says
pub ctrl_said : (standing : Standing) (more : Bool) → is_member (ctrl_by standing more) ≡ true
ctrl_said adding more = refl
ctrl_said normal true = refl
ctrl_said normal false = refl
ctrl_said unused more = refl

and_true : (b : Bool) → (b && true) ≡ b
and_true true = refl
and_true false = refl

-- the packet of a line has an SQ exactly where the line stands at this place
says-order : (order : List Member) (sq : ℕ) (told : Told) (chg : Bool) (k act line i : ℕ) →
    ((l : ℕ) → times (lines_of order) l ≤ 1) →
    has is_member (sq + i) (Some (packet order sq told chg k act line)) ≡ is_line line (slice_get order i)
says-order [] sq told chg k act line i once = carries-absent is_member refl [] sq told chg k act line (sq + i) refl
says-order (member ∷ order) sq told chg k act line zero once =
    let e : sq + 0 ≡ sq = omega arith in
    ap (λ s. has is_member s (Some (packet (member ∷ order) sq told chg k act line))) e
    ∙ elim (cases_eq member.line line) [
      | inl same ↦
          ap (λ l. has is_member sq (Some (packet (member ∷ order) sq told chg k act l))) (sym same)
          ∙ head-self is_member refl member order sq told chg k act true
          ∙ and_true (is_member (ctrl_by member.standing (list_any is_normal order)))
          ∙ ctrl_said member.standing (list_any is_normal order) ∙ sym (eq-eqb member.line line same)
      | inr other ↦
          head-other is_member refl member order sq told chg k act line true other
          ∙ sym (ne_eqb member.line line other)
    ]
says-order (member ∷ order) sq told chg k act line (suc i) once =
    let e : sq + suc i ≡ sq + 1 + i = omega arith in
    head-rest is_member refl member order sq told chg k act line (sq + suc i) true (omega arith) (once line)
    ∙ ap (λ s. has is_member s (Some (packet order (sq + 1) told chg k act line))) e
    ∙ says-order order (sq + 1) told chg k act line i (λ l. let most = once l in omega arith)

says-line : (scenario : Scenario) (returns : List (Option Told)) (line k sq : ℕ) →
    says_at sq (Some (sent_packet scenario returns line k))
    ≡ is_line line (slice_get (table_of scenario returns k).order sq)
says-line scenario returns line k sq =
    let table = table_of scenario returns k in
    let e : sq ≡ 0 + sq = omega arith in
    ap (λ s. has is_member s (Some (sent_packet scenario returns line k))) e
    ∙ says-order table.order 0 (telling_at scenario k) (table.count % 2 == 1) k (length (carrying table.order)) line sq
    (once-after scenario returns k)

-- ---- what a line said last
-- by the rows it is the packet that it sent as its word
pub last_word-sent : (scenario : Scenario) (n k line : ℕ) → 0 < scenario.lag → line < length scenario.windows →
    last_word (rows_to scenario (cells_before scenario n) k) line k
    ≡ option_map (λ last. sent_packet scenario (cells_before scenario n) line last)
    (word scenario (cells_before scenario n) line k)
last_word-sent scenario n k line lag inside =
    let returns = cells_before scenario n in
    let rows = rows_to scenario returns k in
    let read = is_read scenario line in
    let sent = λ (last : ℕ). sent_packet scenario returns line last in
    ap (last_word_by rows line k) (last-same (has_packet rows line) read k (has-read scenario returns k line inside))
    ∙ elim (last_read read k) as (λ found. last_read read k ≡ found → last_word_by rows line k found
    ≡ option_map sent (word_by scenario returns (said scenario returns k) found)) [
      | None ↦ λ e. refl
      | Some last ↦ λ e.
          let there = last-read read k last e in
          let heard = some_heard scenario.windows line last inside there.1 in
          let count = (table_of scenario returns last).count in
          ap (λ b. if b then packet_on rows line last else None) (one_chg-count scenario n k last lag there.0 heard)
          ∙ elim (count == said scenario returns k)
          as (λ b. (if b then packet_on rows line last else None) ≡ option_map sent (if b then Some last else None)) [
            | true ↦
                packet-at scenario returns k line last inside there.0 ∙ ap (λ b. packet_if b (sent last)) there.1
            | false ↦ refl
          ]
    ] refl

word-said : (scenario : Scenario) (n k line sq : ℕ) → 0 < scenario.lag → line < length scenario.windows →
    says_at sq (last_word (rows_to scenario (cells_before scenario n) k) line k)
    ≡ stands_at scenario (cells_before scenario n) line sq (word scenario (cells_before scenario n) line k)
word-said scenario n k line sq lag inside =
    let returns = cells_before scenario n in
    ap (says_at sq) (last_word-sent scenario n k line lag inside)
    ∙ elim (word scenario returns line k)
    as (λ found. says_at sq (option_map (λ last. sent_packet scenario returns line last) found)
    ≡ stands_at scenario returns line sq found) [
      | None ↦ refl
      | Some last ↦ says-line scenario returns line last sq
    ]

-- the status of an SQ by the rows is the one by the table
pub status-said : (scenario : Scenario) (n k sq : ℕ) → 0 < scenario.lag →
    status_of scenario.options (rows_to scenario (cells_before scenario n) k) k sq
    ≡ status scenario (cells_before scenario n) k sq
status-said scenario n k sq lag =
    let returns = cells_before scenario n in
    let rows = rows_to scenario returns k in
    let test = λ (line : ℕ). is_up scenario.options (has_packet rows line) k && says_at sq (last_word rows line k) in
    ap (λ lines. list_any test (range_with_len 0 lines)) (row-lines scenario returns k)
    ∙ any-same test
    (λ line. is_line_up scenario line k && stands_at scenario returns line sq (word scenario returns line k)) 0
    (length scenario.windows)
    (λ line low high. let inside : line < length scenario.windows = omega arith in
    ap₂ (λ a b. a && b)
    (up-same scenario.options (has_packet rows line) (is_read scenario line) k
    (has-read scenario returns k line inside))
    (word-said scenario n k line sq lag inside))

-- ---- The return packet that a sink makes, what it tells the source, and what its nibbles tell.
-- ---- the change bit
-- the last change bit, where a leader has one or none
abbrev bit_or : Bool → Option Bool → Bool
bit_or before None = before
bit_or before (Some bit) = bit

ack_by-chg : (before : Bool) (found : Option Packet) → ack_by before found ≡ bit_or before (chg_of found)
ack_by-chg before None = refl
ack_by-chg before (Some packet) = refl

ack-said : (scenario : Scenario) (returns : List (Option Told)) (k : ℕ) →
    ack_of (map (packets_of scenario returns) (range_with_len 0 k)) ≡ (said_before scenario returns k % 2 == 1)
unfolding said_before
ack-said scenario returns zero = refl
ack-said scenario returns (suc k) =
    let table = table_of scenario returns k in
    let chg : Bool = table.count % 2 == 1 in
    let before = ack_of (map (packets_of scenario returns) (range_with_len 0 k)) in
    let e : suc k ≡ k + 1 = omega arith in
    ap (λ n. ack_of (map (packets_of scenario returns) (range_with_len 0 n))) e
    ∙ ap ack_of (map-range_with_len_more (packets_of scenario returns) 0 k k (omega arith))
    ∙ fold_push (λ ack row. ack_by ack (leader row)) false (map (packets_of scenario returns) (range_with_len 0 k))
    (packets_of scenario returns k)
    ∙ ack_by-chg before (leader (packets_of scenario returns k))
    ∙ ap (bit_or before) (leader-heard scenario returns k)
    ∙ elim (is_heard scenario k) as (λ b. bit_or before (if b then Some chg else None) ≡
    ((if b then table.count else said_before scenario returns k) % 2 == 1)) [
      | true ↦ refl
      | false ↦ ack-said scenario returns k
    ]

-- ---- what the packet tells
pub not_not : (bs : List Bool) → map not (map not bs) ≡ bs
not_not [] = refl
not_not (true ∷ bs) = ap (λ rest. true ∷ rest) (not_not bs)
not_not (false ∷ bs) = ap (λ rest. false ∷ rest) (not_not bs)

pub oks_in-number : (oks : List Bool) → length oks ≡ 8 → oks_in (number (map not oks)) ≡ oks
oks_in-number oks eight =
    ap (λ k. map not (bits k (number (map not oks)))) (sym (length-map oks not ∙ eight))
    ∙ ap (map not) (bits-number (map not oks)) ∙ not_not oks

pub map-same : {X Y : Type 0} (f g : X → Y) (xs : List X) → ((x : X) → f x ≡ g x) → map f xs ≡ map g xs
map-same f g [] same = refl
map-same f g (x ∷ xs) same = ap₂ (λ y ys. y ∷ ys) (same x) (map-same f g xs same)

range-shift : {X : Type 0} (g : ℕ → X) (a b n : ℕ) →
    map (λ r. g (a + r)) (range_with_len b n) ≡ map g (range_with_len (a + b) n)
range-shift g a b zero = refl
range-shift g a b (suc n) =
    let e : a + (b + 1) ≡ a + b + 1 = omega arith in
    ap (λ rest. g (a + b) ∷ rest) (range-shift g a (b + 1) n ∙ ap (λ c. map g (range_with_len c n)) e)

-- the eight statuses from an SQ on, each said
eight-said : (scenario : Scenario) (n k sq : ℕ) → 0 < scenario.lag →
    oks_in (mst_of scenario.options (rows_to scenario (cells_before scenario n) k) k sq)
    ≡ map (λ i. status scenario (cells_before scenario n) k (sq + i)) (0 ∷ 1 ∷ 2 ∷ 3 ∷ 4 ∷ 5 ∷ 6 ∷ 7 ∷ [])
eight-said scenario n k sq lag =
    let says = status_of scenario.options (rows_to scenario (cells_before scenario n) k) k in
    let e : sq + 0 ≡ sq = omega arith in
    oks_in-number (map says (range_with_len sq 8)) refl
    ∙ ap (λ from. map says (range_with_len from 8)) (sym e)
    ∙ sym (range-shift says sq 0 8)
    ∙ map-same (λ i. says (sq + i)) (λ i. status scenario (cells_before scenario n) k (sq + i)) (range_with_len 0 8)
    (λ i. status-said scenario n k (sq + i) lag)

abbrev pub told_as : ℕ → List Bool → Told
told_as ack oks = record { rs_ack = ack; oks = oks }

pub told-said : (scenario : Scenario) (n k : ℕ) (cells : List (List Cell)) → 0 < scenario.lag →
    HasPackets scenario (cells_before scenario n) cells k →
    told_by (return_at scenario.options cells k) ≡ return_packet scenario (cells_before scenario n) k
told-said scenario n k cells lag has_packets =
    let returns = cells_before scenario n in
    let packets = packets_of scenario returns in
    let rows = rows_to scenario returns k in
    let group = k % scenario.options.statuses in
    let oks = oks_in (mst_of scenario.options rows k (8 * group)) in
    let e : k + 1 ≡ suc k = omega arith in
    ap (λ read. told_by (return_of scenario.options read k))
    (map-same_range (read_packets cells) packets 0 (k + 1) (λ j low. has_packets j (omega arith)))
    ∙ ap (λ read. told_as (bit_nibble (ack_of read)) oks)
    (take-map-range_with_len packets 0 (k + 1) (k + 1) (omega arith))
    ∙ ap (λ count. told_as (bit_nibble (ack_of (map packets (range_with_len 0 count)))) oks) e
    ∙ ap (λ ack. told_as (bit_nibble ack) oks) (ack-said scenario returns (suc k))
    ∙ ap (λ bit. told_as bit oks) (bit_nibble-bit (said scenario returns k))
    ∙ ap (told_as (said scenario returns k % 2)) (eight-said scenario n k (8 * group) lag)

-- ---- the packet and its nibbles
mst-below : (options : Options) (rows : List Row) (k sq : ℕ) → mst_of options rows k sq < 256
mst-below options rows k sq = number_below (map (λ place. not (status_of options rows k place)) (range_with_len sq 8))

pub is_packet : (options : Options) (cells : List (List Cell)) (k : ℕ) → IsPacket (return_at options cells k)
is_packet options cells k = record {
  mst = mst-below options (map (read_packets cells) (range_with_len 0 (k + 1))) k (8 * (k % options.statuses));
  sq = omega arith;
  mfi2 = omega arith;
  act = omega arith;
}

pub told_in-nibbles : (sent : Packet) → IsPacket sent → told_in (Nibbles (packet_nibbles sent)) ≡ Some (told_by sent)
told_in-nibbles sent is = ap (λ read. option_map told_by (packet_read read)) (read_of-packet_nibbles sent is)

pub said-nibbles : (scenario : Scenario) (n k : ℕ) (cells : List (List Cell)) → 0 < scenario.lag →
    HasPackets scenario (cells_before scenario n) cells k →
    told_in (Nibbles (packet_nibbles (return_at scenario.options cells k)))
    ≡ Some (return_packet scenario (cells_before scenario n) k)
said-nibbles scenario n k cells lag has_packets =
    told_in-nibbles (return_at scenario.options cells k) (is_packet scenario.options cells k)
    ∙ ap Some (told-said scenario n k cells lag has_packets)
