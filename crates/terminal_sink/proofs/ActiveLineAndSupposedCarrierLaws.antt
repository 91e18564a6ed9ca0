-- The active lines by their numbers, the silent ones, and the carriers that a sink supposes of them.
use Rattle.std.proofs.Common.{◌≡◌, ℕ, zero, suc, ◌+◌, ◌-◌, ◌<◌, ◌≤◌, ◌==◌, true, false, if◌then◌else◌, List, [], ◌∷◌}
use Rattle.std.proofs.Common.{◌++◌, length, slice_index_or, drop, Option, Some, None, refl, sym, ◌∙◌, ap, ap₂, arith}
use Rattle.std.proofs.Common.{inl, inr, append_assoc, ◌&&◌, not, Bool, take, is_some, ◌⊎◌, ◌||◌, map, option_map}
use Rattle.std.proofs.Common.{take_all}
use Rattle.std.proofs.lemmas.Bool.{cases_Bool}
use Rattle.std.proofs.lemmas.Bool.Decides.{nat_tests}
use Rattle.std.proofs.lemmas.List.{append-nil, length-append, nil_from_length, drop_more}
use Rattle.law_model.specs.Common.{is_carrying, has, lines_at, active_from, active_of, Row, is_member, packet_row}
use Rattle.law_model.specs.Common.{packet_on, has_packet, last_packet, packet_of_last, says_member, is_silent}
use Rattle.law_model.specs.Common.{state_next, sink_state, leader, last_read, last_word, last_word_by, have_one_chg}
use Rattle.law_model.specs.Common.{in_norm, supposed, supposed_row, are_worded, inferred, carriers_by, carriers_of}
use Rattle.law_model.specs.declared.control_packet.Packet.{Packet}
use Rattle.member_rows.specs.vcat_interleave.MemberPayloads.{AreLines}
use Rattle.terminal_sink.specs.active_lines.CarryingLines.{carries, carrying, act_of}
use Rattle.std.proofs.Math.Seq.{take-suc}
use Rattle.std.proofs.lemmas.List.Sums.{fold-append}
use Rattle.law_model.specs.packets.ReturnPacket.{state_read, state_unread}
use Rattle.law_model.specs.declared.lcas_states.SinkState.{SinkState}
use Rattle.law_model.specs.declared.lcas_states.SinkState.TheVariants.{Idle, Fine, Failed}
use Rattle.terminal_sink.specs.known_carriers.Supposed.{is_failed, is_worded, are_all_worded, norm_at, supposed_by}
use Rattle.terminal_sink.specs.known_carriers.Supposed.{supposed_at, supposed_packets, inferred_by}
use Rattle.terminal_sink.proofs.WatchTimerAndLastWordLaws.{last_read-here, last_read-none, last_read-before, row-last}
use Rattle.std.specs.List.{range_with_len}
use Rattle.law_model.specs.declared.script_types.Options.{Options}
use Rattle.law_row.proofs.LastWordAndReturnPacketLaws.{all-same}
use Rattle.terminal_sink.specs.declared.member_watch.MemberWatch.{MemberWatch}
use Rattle.terminal_sink.specs.member_watch.Watches.{WatchStands, AreWatched, watch_at, word_before, sq_of}
use Rattle.terminal_sink.specs.lcas_sink.SinkStates.{state_at, last_carriers}

-- ---- The lines that carry payload, number by number.
-- ---- numbers from one on
zero_on : (n : ℕ) → 0 + n ≡ n
zero_on n = omega arith

pub active_from-add : (sq a b : ℕ) (packets : List (Option Packet)) →
    active_from sq (a + b) packets ≡ active_from sq a packets ++ active_from (sq + a) b packets
unfolding active_from
active_from-add sq zero b packets = let e : sq ≡ sq + 0 = omega arith in let f : b ≡ 0 + b = omega arith in
    ap₂ (λ sq b. active_from sq b packets) e (sym f)
active_from-add sq (suc a) b packets =
    let e : sq + 1 + a ≡ sq + suc a = omega arith in
    let f : suc a + b ≡ suc (a + b) = omega arith in
    ap (λ n. active_from sq n packets) f
    ∙ ap (λ l. lines_at sq 0 packets ++ l) (active_from-add (sq + 1) a b packets)
    ∙ sym (append_assoc (lines_at sq 0 packets) (active_from (sq + 1) a packets) (active_from (sq + 1 + a) b packets))
    ∙ ap (λ n. (lines_at sq 0 packets ++ active_from (sq + 1) a packets) ++ active_from n b packets) e

pub active_from-one : (sq : ℕ) (packets : List (Option Packet)) → active_from sq 1 packets ≡ lines_at sq 0 packets
unfolding active_from
active_from-one sq packets = append-nil (lines_at sq 0 packets)

pub active_from-more : (n : ℕ) (packets : List (Option Packet)) →
    active_from 0 (n + 1) packets ≡ active_from 0 n packets ++ lines_at n 0 packets
active_from-more n packets =
    active_from-add 0 n 1 packets ∙ ap (λ l. active_from 0 n packets ++ l)
    (ap (λ sq. active_from sq 1 packets) (zero_on n) ∙ active_from-one n packets)

pub active_from-none : (sq : ℕ) (packets : List (Option Packet)) → active_from sq 0 packets ≡ []
unfolding active_from
active_from-none sq packets = refl

-- ---- how many they are
length-lines_at : (sq line other : ℕ) (packets : List (Option Packet)) →
    length (lines_at sq line packets) ≡ length (lines_at sq other packets)
length-lines_at sq line other [] = refl
length-lines_at sq line other (packet ∷ packets) =
    elim (cases_Bool (has is_carrying sq packet)) [
      | inl here ↦ rw here (ap suc (length-lines_at sq (line + 1) (other + 1) packets))
      | inr not_here ↦ rw not_here (length-lines_at sq (line + 1) (other + 1) packets)
    ]

has-carries : (sq : ℕ) (packet : Option Packet) → has is_carrying sq packet ≡ true → carries packet ≡ true
has-carries sq None e = absurd cc
has-carries sq (Some packet) e =
    elim (cases_Bool (is_carrying packet.ctrl))
    [ inl on ↦ on | inr off ↦ absurd (let f : false ≡ true = rw off at e in cc) ]

-- the number of a packet, where it has one
abbrev IsBefore : ℕ → Option Packet → Type 0
IsBefore sq None = Unit {0}
IsBefore sq (Some packet) = packet.sq < sq

has-before : (sq : ℕ) (packet : Option Packet) → has is_carrying sq packet ≡ true → IsBefore (sq + 1) packet
has-before sq None e = absurd cc
has-before sq (Some packet) e =
    elim (cases_Bool (is_carrying packet.ctrl)) [
      | inl on ↦ let f : (packet.sq == sq) ≡ true = rw on at e in
          let g : packet.sq ≡ sq = grind (arith, nat_tests, f) in omega arith
      | inr off ↦ absurd (let f : false ≡ true = rw off at e in cc)
    ]

before-later : (sq : ℕ) (packet : Option Packet) → IsBefore sq packet → IsBefore (sq + 1) packet
before-later sq None before = tt
before-later sq (Some packet) before = omega arith

before-other : (sq : ℕ) (packet : Option Packet) → IsBefore sq packet → has is_carrying sq packet ≡ false
before-other sq None before = refl
before-other sq (Some packet) before =
    elim (cases_Bool (is_carrying packet.ctrl)) [
      | inl on ↦ rw on (let e : (packet.sq == sq) ≡ false = grind (arith, nat_tests, before) in e)
      | inr off ↦ rw off refl
    ]

-- a number that a packet doesn't have has as many lines without it
one-other : (sq : ℕ) (packet : Option Packet) (packets : List (Option Packet)) → has is_carrying sq packet ≡ false →
    length (lines_at sq 0 (packet ∷ packets)) ≡ length (lines_at sq 0 packets)
one-other sq packet packets other = rw other (length-lines_at sq 1 0 packets)

one-here : (sq : ℕ) (packet : Option Packet) (packets : List (Option Packet)) → has is_carrying sq packet ≡ true →
    length (lines_at sq 0 (packet ∷ packets)) ≡ suc (length (lines_at sq 0 packets))
one-here sq packet packets here = rw here (ap suc (length-lines_at sq 1 0 packets))

length-both : (sq n : ℕ) (packets : List (Option Packet)) →
    length (active_from sq (suc n) packets) ≡ length (lines_at sq 0 packets) + length (active_from (sq + 1) n packets)
unfolding active_from
length-both sq n packets = length-append (lines_at sq 0 packets) (active_from (sq + 1) n packets)

length-none : (sq : ℕ) (packets : List (Option Packet)) → length (active_from sq 0 packets) ≡ 0
unfolding active_from
length-none sq packets = refl

one-before : (n sq : ℕ) (packet : Option Packet) (packets : List (Option Packet)) → IsBefore sq packet →
    length (active_from sq n (packet ∷ packets)) ≡ length (active_from sq n packets)
one-before zero sq packet packets before = length-none sq (packet ∷ packets) ∙ sym (length-none sq packets)
one-before (suc n) sq packet packets before =
    length-both sq n (packet ∷ packets)
    ∙ ap₂ ◌+◌ (one-other sq packet packets (before-other sq packet before))
    (one-before n (sq + 1) packet packets (before-later sq packet before))
    ∙ sym (length-both sq n packets)

one-more : (n sq : ℕ) (packet : Option Packet) (packets : List (Option Packet)) →
    length (active_from sq n (packet ∷ packets)) ≤ (if carries packet then 1 else 0) + length (active_from sq n packets)
one-more zero sq packet packets = let a = length-none sq (packet ∷ packets) in omega arith
one-more (suc n) sq packet packets =
    let all = length-both sq n (packet ∷ packets) in
    let rest = length-both sq n packets in
    elim (cases_Bool (has is_carrying sq packet)) [
      | inl here ↦
          let a = one-here sq packet packets here in
          let b = one-before n (sq + 1) packet packets (has-before sq packet here) in
          rw (has-carries sq packet here) (omega arith)
      | inr other ↦
          let a = one-other sq packet packets other in
          let b = one-more n (sq + 1) packet packets in
          omega arith
    ]

no-lines : (n sq : ℕ) → length (active_from sq n []) ≡ 0
unfolding active_from
no-lines zero sq = refl
no-lines (suc n) sq = no-lines n (sq + 1)

pub active_from-fits : (n sq : ℕ) (packets : List (Option Packet)) →
    length (active_from sq n packets) ≤ carrying packets
active_from-fits n sq [] = let none = no-lines n sq in omega arith
active_from-fits n sq (packet ∷ packets) =
    let first = one-more n sq packet packets in
    let rest = active_from-fits n sq packets in
    elim (cases_Bool (carries packet)) [
      | inl on ↦ let first' : length (active_from sq n (packet ∷ packets)) ≤ 1 + length (active_from sq n packets) =
          rw on at first in rw on (omega arith)
      | inr off ↦ let first' : length (active_from sq n (packet ∷ packets)) ≤ 0 + length (active_from sq n packets) =
          rw off at first in rw off (omega arith)
    ]

pub carrying-fits : (packets : List (Option Packet)) → carrying packets ≤ length packets
carrying-fits [] = omega arith
carrying-fits (packet ∷ packets) =
    let rest = carrying-fits packets in
    elim (cases_Bool (carries packet)) [ inl on ↦ rw on (omega arith) | inr off ↦ rw off (omega arith) ]

-- once as many are found as carry payload, these are all
pub active_of-found : (n : ℕ) (packets : List (Option Packet)) → n ≤ 256 →
    length (active_from 0 n packets) ≡ carrying packets → active_from 0 n packets ≡ active_of packets
active_of-found n packets below all =
    let found : List ℕ = active_from 0 n packets in
    let rest : List ℕ = active_from n (256 - n) packets in
    let parts : active_of packets ≡ found ++ rest =
    ap (λ k. active_from 0 k packets) (let e : 256 ≡ n + (256 - n) = omega arith in e)
    ∙ active_from-add 0 n (256 - n) packets
    ∙ ap (λ sq. found ++ active_from sq (256 - n) packets) (zero_on n) in
    let size = ap length parts ∙ length-append found rest in
    let fits = active_from-fits 256 0 packets in
    let none : rest ≡ [] = nil_from_length rest (omega arith) in
    sym (parts ∙ ap (λ l. found ++ l) none ∙ append-nil found)

-- ---- they are lines of the group
lines-cons : (n x : ℕ) (xs : List ℕ) → x < n → AreLines n xs → AreLines n (x ∷ xs)
lines-cons n x xs first rest zero low = first
lines-cons n x xs first rest (suc rank) low = rest rank (omega arith)

lines-append : (n : ℕ) (xs ys : List ℕ) → AreLines n xs → AreLines n ys → AreLines n (xs ++ ys)
lines-append n [] ys first rest = rest
lines-append n (x ∷ xs) ys first rest =
    lines-cons n x (xs ++ ys) (first 0 (omega arith))
    (lines-append n xs ys (λ rank low. first (suc rank) (omega arith)) rest)

lines_at-lines : (n sq line : ℕ) (packets : List (Option Packet)) → line + length packets ≤ n →
    AreLines n (lines_at sq line packets)
lines_at-lines n sq line [] fits = λ rank low. absurd (omega arith)
lines_at-lines n sq line (packet ∷ packets) fits =
    let rest = lines_at-lines n sq (line + 1) packets (omega arith) in
    elim (cases_Bool (has is_carrying sq packet)) [
      | inl here ↦ rw here (lines-cons n line (lines_at sq (line + 1) packets) (omega arith) rest)
      | inr other ↦ rw other rest
    ]

active_from-lines : (n sq : ℕ) (packets : List (Option Packet)) → AreLines (length packets) (active_from sq n packets)
unfolding active_from
active_from-lines zero sq packets = λ rank low. absurd (omega arith)
active_from-lines (suc n) sq packets =
    lines-append (length packets) (lines_at sq 0 packets) (active_from (sq + 1) n packets)
    (lines_at-lines (length packets) sq 0 packets (omega arith)) (active_from-lines n (sq + 1) packets)

active_of-lines : (packets : List (Option Packet)) → AreLines (length packets) (active_of packets)
active_of-lines packets = active_from-lines 256 0 packets

-- a line that has the number is one more
pub lines_at-here : (sq i : ℕ) (packets : List (Option Packet)) → i < length packets →
    has is_carrying sq (slice_index_or packets i None) ≡ true →
    0 < length (lines_at sq i (drop i packets))
lines_at-here sq i packets inside here =
    let next = drop_more packets i None inside in
    rw (next, here) (omega arith)

-- what was found
pub found-lines : (packets : List (Option Packet)) (found : List ℕ) → found ≡ active_of packets →
    AreLines (length packets) found
found-lines packets found are = rw are (active_of-lines packets)

-- ---- A line is silent exactly where the sink's table says that it failed.
-- ---- the last packet of a line
last-here : (rows : List Row) (line k : ℕ) (packet : Packet) → packet_on rows line k ≡ Some packet →
    last_packet rows line k ≡ Some packet
last-here rows line k packet e =
    ap (packet_of_last rows line) (last_read-here (has_packet rows line) k (ap is_some e)) ∙ e

last-none : (rows : List Row) (line : ℕ) → packet_on rows line 0 ≡ None → last_packet rows line 0 ≡ None
last-none rows line e = ap (packet_of_last rows line) (last_read-none (has_packet rows line) (ap is_some e))

last-before : (rows : List Row) (line k : ℕ) → packet_on rows line (k + 1) ≡ None →
    last_packet rows line (k + 1) ≡ last_packet rows line k
last-before rows line k e =
    ap (packet_of_last rows line) (last_read-before (has_packet rows line) k (ap is_some e))

-- ---- the state by it
-- the line is a member by its last packet before packet n
abbrev was_member : List Row → ℕ → ℕ → Bool
was_member rows line zero = false
was_member rows line (suc k) = says_member (last_packet rows line k)

abbrev is_in : SinkState → Bool
is_in Idle = false
is_in Fine = true
is_in Failed = true

in-read : (member : Bool) → is_in (state_read member) ≡ member
in-read true = refl
in-read false = refl

in-unread : (state : SinkState) → is_in (state_unread state) ≡ is_in state
in-unread Idle = refl
in-unread Fine = refl
in-unread Failed = refl

failed-read : (member : Bool) → is_failed (state_read member) ≡ false
failed-read true = refl
failed-read false = refl

failed-unread : (state : SinkState) → is_failed (state_unread state) ≡ is_in state
failed-unread Idle = refl
failed-unread Fine = refl
failed-unread Failed = refl

state-more : (rows : List Row) (line k : ℕ) → k < length rows →
    sink_state (take (suc k) rows) line ≡ state_next (sink_state (take k rows) line) (packet_on rows line k)
state-more rows line k inside =
    ap (λ rows. sink_state rows line) (take-suc rows k [] inside)
    ∙ fold-append (λ state row. state_next state (slice_index_or row line None)) Idle (take k rows)
    (packet_row rows k ∷ [])

was-unread : (rows : List Row) (line k : ℕ) → packet_on rows line k ≡ None →
    was_member rows line k ≡ says_member (last_packet rows line k)
was-unread rows line zero e = sym (ap says_member (last-none rows line e))
was-unread rows line (suc k) e =
    let next : suc k ≡ k + 1 = omega arith in
    sym (ap says_member (ap (last_packet rows line) next
    ∙ last-before rows line k (ap (packet_on rows line) (sym next) ∙ e)))

state-in : (rows : List Row) (line n : ℕ) → n ≤ length rows →
    is_in (sink_state (take n rows) line) ≡ was_member rows line n
state-in rows line zero inside = refl
state-in rows line (suc k) inside =
    let before = sink_state (take k rows) line in
    ap is_in (state-more rows line k (omega arith))
    ∙ elim (packet_on rows line k) as (λ found. packet_on rows line k ≡ found →
    is_in (state_next before found) ≡ says_member (last_packet rows line k)) [
      | Some packet ↦ λ e. in-read (is_member packet.ctrl) ∙ sym (ap says_member (last-here rows line k packet e))
      | None ↦ λ e. in-unread before ∙ state-in rows line k (omega arith) ∙ was-unread rows line k e
    ] refl

pub silent-failed : (rows : List Row) (line k : ℕ) → k < length rows →
    is_silent rows line k ≡ is_failed (sink_state (take (k + 1) rows) line)
silent-failed rows line k inside =
    let before = sink_state (take k rows) line in
    let next : k + 1 ≡ suc k = omega arith in
    elim (packet_on rows line k) as (λ found. packet_on rows line k ≡ found →
    (not (is_some found) && says_member (last_packet rows line k)) ≡ is_failed (state_next before found)) [
      | Some packet ↦ λ e. sym (failed-read (is_member packet.ctrl))
      | None ↦ λ e. sym (failed-unread before ∙ state-in rows line k (omega arith) ∙ was-unread rows line k e)
    ] refl
    ∙ ap is_failed (sym (state-more rows line k inside))
    ∙ ap (λ n. is_failed (sink_state (take n rows) line)) (sym next)

-- ---- What is supposed of the lines by the sink's table is what the rows say.
-- ---- packets that carry payload at the same SQ
lines-same : (f g : ℕ → Option Packet) (sq line from count : ℕ) →
    ((i : ℕ) → from ≤ i → i < from + count → has is_carrying sq (f i) ≡ has is_carrying sq (g i)) →
    lines_at sq line (map f (range_with_len from count)) ≡ lines_at sq line (map g (range_with_len from count))
lines-same f g sq line from zero same = refl
lines-same f g sq line from (suc count) same =
    ap₂ (λ here rest. if here then line ∷ rest else rest) (same from (omega arith) (omega arith))
    (lines-same f g sq (line + 1) (from + 1) count (λ i low high. same i (omega arith) (omega arith)))

active_from-same : (f g : ℕ → Option Packet) (n sq count : ℕ) →
    ((sq i : ℕ) → i < n → has is_carrying sq (f i) ≡ has is_carrying sq (g i)) →
    active_from sq count (map f (range_with_len 0 n)) ≡ active_from sq count (map g (range_with_len 0 n))
unfolding active_from
active_from-same f g n sq zero same = refl
active_from-same f g n sq (suc count) same =
    ap₂ ◌++◌ (lines-same f g sq 0 0 n (λ i low high. same sq i (omega arith)))
    (active_from-same f g n (sq + 1) count same)

-- ---- what a silent line said last
-- it is a member's word, or none
silent-word : (rows : List Row) (line k : ℕ) → says_member (last_packet rows line k) ≡ true →
    (last_word rows line k ≡ None) ⊎ (says_member (last_word rows line k) ≡ true)
silent-word rows line k member =
    let last = last_read (has_packet rows line) k in
    elim last as (λ found. says_member (packet_of_last rows line found) ≡ true →
    (last_word_by rows line k found ≡ None) ⊎ (says_member (last_word_by rows line k found) ≡ true)) [
      | None ↦ λ e. inl refl
      | Some last ↦ λ e. elim (have_one_chg rows last k) as (λ b.
          ((if b then packet_on rows line last else None) ≡ None)
          ⊎ (says_member (if b then packet_on rows line last else None) ≡ true)) [
            | true ↦ inr e
            | false ↦ inl refl
          ]
    ] member

-- the SQ of a word is there where it is, and the word carries payload at it as NORM
sq-there : (word : Option Packet) → (word ≡ None) ⊎ (says_member word ≡ true) → is_some word ≡ is_some (sq_of word)
sq-there None are = refl
sq-there (Some packet) (inl none) = absurd cc
sq-there (Some packet) (inr member) = sym (ap (λ b. is_some (if b then Some packet.sq else None)) member)

sq-carries : (sq : ℕ) (word : Option Packet) → (word ≡ None) ⊎ (says_member word ≡ true) →
    has is_carrying sq (option_map in_norm word) ≡ has is_carrying sq (option_map norm_at (sq_of word))
sq-carries sq None are = refl
sq-carries sq (Some packet) (inl none) = absurd cc
sq-carries sq (Some packet) (inr member) =
    sym (ap (λ b. has is_carrying sq (option_map norm_at (if b then Some packet.sq else None))) member)

-- ---- line by line
-- where the table stands after rows, of which the last is row k
abbrev Sees : Options → List Row → ℕ → ℕ → SinkState → MemberWatch → Type 0
Sees options rows k line state watch =
    (length rows ≡ suc k) × (state ≡ sink_state rows line) × WatchStands options rows line watch

silent-state : (options : Options) (rows : List Row) (k line : ℕ) (state : SinkState) (watch : MemberWatch) →
    Sees options rows k line state watch → is_silent rows line k ≡ is_failed state
silent-state options rows k line state watch sees =
    silent-failed rows line k (omega (arith, sees.0))
    ∙ ap (λ rows. is_failed (sink_state rows line)) (take_all (k + 1) rows (omega (arith, sees.0)))
    ∙ sym (ap is_failed sees.1)

word-said : (options : Options) (rows : List Row) (k line : ℕ) (state : SinkState) (watch : MemberWatch) →
    Sees options rows k line state watch → watch.said ≡ sq_of (last_word rows line k)
word-said options rows k line state watch sees =
    sees.2.said ∙ ap (λ n. sq_of (word_before rows line n)) sees.0

member-silent : (rows : List Row) (line k : ℕ) → is_silent rows line k ≡ true →
    (last_word rows line k ≡ None) ⊎ (says_member (last_word rows line k) ≡ true)
member-silent rows line k silent = silent-word rows line k (right (not (has_packet rows line k)) _ silent)
  where
    right : (a b : Bool) → (a && b) ≡ true → b ≡ true
    right true b e = e
    right false b e = absurd cc

worded-line : (options : Options) (rows : List Row) (k line : ℕ) (state : SinkState) (watch : MemberWatch) →
    Sees options rows k line state watch →
    (not (is_silent rows line k) || is_some (last_word rows line k)) ≡ is_worded state watch
worded-line options rows k line state watch sees =
    let same = silent-state options rows k line state watch sees in
    elim (is_failed state) as (λ b. is_silent rows line k ≡ b →
    (not (is_silent rows line k) || is_some (last_word rows line k)) ≡ (not b || is_some watch.said)) [
      | true ↦ λ silent. ap (λ b. not b || is_some (last_word rows line k)) silent
          ∙ sq-there (last_word rows line k) (member-silent rows line k silent)
          ∙ sym (ap is_some (word-said options rows k line state watch sees))
      | false ↦ λ heard. ap (λ b. not b || is_some (last_word rows line k)) heard
    ] same

supposed-failed : (sq : ℕ) (state : SinkState) (watch : MemberWatch) (packet : Option Packet) →
    has is_carrying sq (supposed_by state watch packet)
    ≡ (if is_failed state then has is_carrying sq (option_map norm_at watch.said) else has is_carrying sq packet)
supposed-failed sq Idle watch packet = refl
supposed-failed sq Fine watch packet = refl
supposed-failed sq Failed watch packet = refl

supposed-line : (options : Options) (rows : List Row) (k line : ℕ) (state : SinkState) (watch : MemberWatch) (sq : ℕ) →
    Sees options rows k line state watch →
    has is_carrying sq (supposed rows line k) ≡ has is_carrying sq (supposed_by state watch (packet_on rows line k))
supposed-line options rows k line state watch sq sees =
    let same = silent-state options rows k line state watch sees in
    let word = last_word rows line k in
    elim (is_failed state) as (λ b. is_silent rows line k ≡ b → has is_carrying sq (supposed rows line k)
    ≡ (if b then has is_carrying sq (option_map norm_at watch.said) else has is_carrying sq (packet_on rows line k))) [
      | true ↦ λ silent.
          ap (λ b. has is_carrying sq (if b then option_map in_norm word else packet_on rows line k)) silent
          ∙ sq-carries sq word (member-silent rows line k silent)
          ∙ sym (ap (λ said. has is_carrying sq (option_map norm_at said)) (word-said _ rows k line _ _ sees))
      | false ↦ λ heard.
          ap (λ b. has is_carrying sq (if b then option_map in_norm word else packet_on rows line k)) heard
    ] same
    ∙ sym (supposed-failed sq state watch (packet_on rows line k))

-- ---- one row more
abbrev AreSeen : Options → List Row → Row → List SinkState → List MemberWatch → Type 0
AreSeen options rows row states watches =
    ((line : ℕ) → state_at states line ≡ sink_state (rows ++ row ∷ []) line)
    × AreWatched options (rows ++ row ∷ []) (length row) watches

sees-line : (options : Options) (rows : List Row) (row : Row) (states : List SinkState) (watches : List MemberWatch)
    (line : ℕ) → AreSeen options rows row states watches → line < length row →
    Sees options (rows ++ row ∷ []) (length rows) line (state_at states line) (watch_at watches line)
sees-line options rows row states watches line seen low =
    let size = length-append rows (row ∷ []) in
    let next : length (rows ++ row ∷ []) ≡ suc (length rows) = omega (arith, size) in
    (next, seen.0 line, seen.1 line low)

worded-row : (options : Options) (rows : List Row) (row : Row) (states : List SinkState) (watches : List MemberWatch) →
    AreSeen options rows row states watches →
    are_worded (rows ++ row ∷ []) (length rows) ≡ are_all_worded states watches (length row)
worded-row options rows row states watches seen =
    let all = rows ++ row ∷ [] in
    let k = length rows in
    let lines : length (packet_row all k) ≡ length row = ap length (row-last rows row) in
    all-same (λ line. not (is_silent all line k) || is_some (last_word all line k))
    (λ line. is_worded (state_at states line) (watch_at watches line)) 0 (length (packet_row all k))
    (λ line low high. worded-line options all k line (state_at states line) (watch_at watches line)
    (sees-line options rows row states watches line seen (omega (arith, high, lines))))
    ∙ ap (are_all_worded states watches) lines

supposed-lines : (options : Options) (rows : List Row) (row : Row) (states : List SinkState)
    (watches : List MemberWatch) → AreSeen options rows row states watches →
    active_of (supposed_row (rows ++ row ∷ []) (length rows)) ≡ active_of (supposed_packets states watches row)
supposed-lines options rows row states watches seen =
    let all = rows ++ row ∷ [] in
    let k = length rows in
    let here : packet_row all k ≡ row = row-last rows row in
    ap (λ row. active_of (map (λ line. supposed all line k) (range_with_len 0 (length row)))) here
    ∙ active_from-same (λ line. supposed all line k) (supposed_at states watches row) (length row) 0 256
    (λ sq line low. supposed-line _ all k _ _ _ sq (sees-line options rows row states watches line seen low)
    ∙ ap (λ row. has is_carrying sq (supposed_by (state_at states line) (watch_at watches line)
    (slice_index_or row line None))) here)

inferred-row : (options : Options) (rows : List Row) (row : Row) (states : List SinkState) (watches : List MemberWatch)
    (act : ℕ) → AreSeen options rows row states watches →
    inferred options (rows ++ row ∷ []) (length rows) act ≡ inferred_by options states watches row act
inferred-row options rows row states watches act seen =
    ap₂ (λ worded lines. if options.infers && worded && length lines == act then Some lines else None)
    (worded-row options rows row states watches seen) (supposed-lines options rows row states watches seen)

-- by the ACT of the leader
abbrev pub known_by : Options → List SinkState → List MemberWatch → Row → Option ℕ → Option (List ℕ)
known_by options states watches row None = None
known_by options states watches row (Some act) =
    if length (active_of row) == act then Some (active_of row)
    else inferred_by options states watches row act

pub carriers-row : (options : Options) (rows : List Row) (row : Row) (states : List SinkState)
    (watches : List MemberWatch) → AreSeen options rows row states watches →
    known_by options states watches row (act_of (leader row)) ≡ carriers_of options (rows ++ row ∷ []) (length rows)
carriers-row options rows row states watches seen =
    let all = rows ++ row ∷ [] in
    let k = length rows in
    let here : packet_row all k ≡ row = row-last rows row in
    by-leader (leader row) ∙ ap (λ row. carriers_by options all k (leader row)) (sym here)
  where
    by-leader : (first : Option Packet) → known_by options states watches row (act_of first)
        ≡ carriers_by options (rows ++ row ∷ []) (length rows) first
    by-leader None = refl
    by-leader (Some packet) =
        let all = rows ++ row ∷ [] in
        let k = length rows in
        sym (ap (λ row. if length (active_of row) == packet.act then Some (active_of row)
        else inferred options all k packet.act) (row-last rows row)
        ∙ ap (λ rest. if length (active_of row) == packet.act then Some (active_of row) else rest)
        (inferred-row options rows row states watches packet.act seen))

pub carriers-last : (options : Options) (rows : List Row) (row : Row) →
    last_carriers options (rows ++ row ∷ []) ≡ carriers_of options (rows ++ row ∷ []) (length rows)
carriers-last options rows row =
    let size = length-append rows (row ∷ []) in
    let next : length (rows ++ row ∷ []) ≡ suc (length rows) = omega (arith, size) in
    let last : suc (length rows) - 1 ≡ length rows = omega arith in
    let some' : (0 == suc (length rows)) ≡ false =
    grind (arith, nat_tests, (let apart : 0 ≡ suc (length rows) → ⊥ = λ same. absurd (omega (arith, same)) in apart)) in
    ap (λ n. if 0 == n then None else carriers_of options (rows ++ row ∷ []) (n - 1)) next
    ∙ ap (λ b. if b then None else carriers_of options (rows ++ row ∷ []) (suc (length rows) - 1)) some'
    ∙ ap (carriers_of options (rows ++ row ∷ [])) last
