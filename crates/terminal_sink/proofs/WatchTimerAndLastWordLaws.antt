-- The last word of a line, its watch and its timers after one row more, and whether it was up.
use Rattle.std.proofs.Common.{◌≡◌, ℕ, zero, suc, ◌+◌, ◌-◌, ◌<◌, ◌≤◌, ◌==◌, ◌&&◌, not, Bool, true, false, if◌then◌else◌}
use Rattle.std.proofs.Common.{List, [], ◌∷◌, ◌++◌, take, length, Option, Some, None, is_some, slice_index_or, refl}
use Rattle.std.proofs.Common.{sym}
use Rattle.std.proofs.Common.{◌∙◌, ap, ap₂, subst, arith, take_all, length-append, nat_le, nat_lt, ◌||◌, inl, inr, min}
use mathlib.Core.Bool.{beq}
use Rattle.std.specs.List.{list_all, range_with_len}
use Rattle.std.proofs.Math.Seq.{get_or-append_seam, take-suc}
use Rattle.std.proofs.lemmas.Bool.{and_parts, cases_Bool, cases_lt, cases_eq}
use Rattle.std.proofs.lemmas.List.{get_or_append_left}
use Rattle.std.proofs.lemmas.List.Sums.{fold-append}
use Rattle.law_model.specs.Common.{Row, leader, ack_by, ack_of, is_member, is_same, agree, says_at, packet_row}
use Rattle.law_model.specs.Common.{packet_on, has_packet, have_one_chg, last_read, last_word, last_word_by, is_up}
use Rattle.law_model.specs.Common.{is_restored, are_missed}
use Rattle.law_model.specs.declared.control_packet.Packet.{Packet}
use Rattle.law_model.specs.declared.script_types.Options.{Options}
use Rattle.law_row.proofs.LastWordAndReturnPacketLaws.{all-same, last-same, up-same}
use Rattle.terminal_sink.specs.declared.member_watch.MemberWatch.{MemberWatch}
use Rattle.terminal_sink.specs.declared.member_watch.MemberTimers.{MemberTimers}
use Rattle.terminal_sink.specs.member_watch.Watches.{was_up, word_before, sq_of, is_changed, has_said, says}
use Rattle.terminal_sink.specs.member_watch.Watches.{TimersStand, WatchStands}
use Rattle.std.proofs.lemmas.Bool.Decides.{nat_tests}

-- ---- What a line said last, with one row more.
-- ---- one row more
pub row-before : (rows more : List Row) (k : ℕ) → k < length rows →
    packet_row (rows ++ more) k ≡ packet_row rows k
row-before rows more k inside = get_or_append_left rows more [] k inside

pub row-last : (rows : List Row) (row : Row) → packet_row (rows ++ row ∷ []) (length rows) ≡ row
row-last rows row = get_or-append_seam rows row [] []

pub ack-more : (rows : List Row) (row : Row) → ack_of (rows ++ row ∷ []) ≡ ack_by (ack_of rows) (leader row)
ack-more rows row = fold-append (λ ack row. ack_by ack (leader row)) false rows (row ∷ [])

pub has-before : (rows more : List Row) (line k : ℕ) → k < length rows →
    has_packet (rows ++ more) line k ≡ has_packet rows line k
has-before rows more line k inside =
    ap (λ row. is_some (slice_index_or row line None)) (row-before rows more k inside)

pub has-last : (rows : List Row) (row : Row) (line : ℕ) →
    has_packet (rows ++ row ∷ []) line (length rows) ≡ is_some (slice_index_or row line None)
has-last rows row line = ap (λ row. is_some (slice_index_or row line None)) (row-last rows row)

-- ---- the change bit of the leaders
is_same-is : (a b : Bool) → is_same a b ≡ true → b ≡ a
is_same-is true b e = e
is_same-is false true e = sym e
is_same-is false false e = refl

is_same-self : (a : Bool) → is_same a a ≡ true
is_same-self true = refl
is_same-self false = refl

agree-self : (found : Option Packet) → agree found found ≡ true
agree-self None = refl
agree-self (Some packet) = is_same-self packet.chg

agree-ack : (first : Packet) (found : Option Packet) → agree (Some first) found ≡ true →
    ack_by first.chg found ≡ first.chg
agree-ack first None e = refl
agree-ack first (Some packet) e = is_same-is first.chg packet.chg e

leader-there : (row : Row) (line : ℕ) (packet : Packet) → slice_index_or row line None ≡ Some packet →
    (first : Packet) × (leader row ≡ Some first)
leader-there [] line packet e = absurd cc
leader-there (Some first ∷ row) line packet e = (first, refl)
leader-there (None ∷ row) zero packet e = absurd cc
leader-there (None ∷ row) (suc line) packet e = leader-there row line packet e

-- tests of a range with one number more
all-more : (test : ℕ → Bool) (from count : ℕ) →
    list_all test (range_with_len from (count + 1)) ≡ (list_all test (range_with_len from count) && test (from + count))
all-more test from zero =
    let e : zero + 1 ≡ suc zero = omega arith in
    let f : from + zero ≡ from = omega arith in
    ap (λ n. list_all test (range_with_len from n)) e ∙ and-true (test from) ∙ ap test (sym f)
  where
    and-true : (b : Bool) → (b && true) ≡ b
    and-true true = refl
    and-true false = refl
all-more test from (suc count) =
    let e : suc count + 1 ≡ suc (count + 1) = omega arith in
    let f : from + 1 + count ≡ from + suc count = omega arith in
    ap (λ n. list_all test (range_with_len from n)) e
    ∙ ap (λ b. test from && b) (all-more test (from + 1) count ∙ ap
    (λ j. list_all test (range_with_len (from + 1) count) && test j) f)
    ∙ both (test from) (list_all test (range_with_len (from + 1) count)) (test (from + suc count))
  where
    both : (a b c : Bool) → (a && (b && c)) ≡ ((a && b) && c)
    both true b c = refl
    both false b c = refl

pub chg-more : (rows : List Row) (from k : ℕ) → from ≤ k + 1 →
    have_one_chg rows from (k + 1)
    ≡ (have_one_chg rows from k && agree (leader (packet_row rows from)) (leader (packet_row rows (k + 1))))
chg-more rows from k low =
    let test = λ (j : ℕ). agree (leader (packet_row rows from)) (leader (packet_row rows j)) in
    let e : k + 1 + 1 - from ≡ k + 1 - from + 1 = omega arith in
    let f : from + (k + 1 - from) ≡ k + 1 = omega arith in
    ap (λ n. list_all test (range_with_len from n)) e ∙ all-more test from (k + 1 - from)
    ∙ ap (λ j. list_all test (range_with_len from (k + 1 - from)) && test j) f

pub chg-here : (rows : List Row) (k : ℕ) → have_one_chg rows k k ≡ true
chg-here rows k =
    let e : k + 1 - k ≡ 1 = omega arith in
    ap (λ n. list_all (λ j. agree (leader (packet_row rows k)) (leader (packet_row rows j))) (range_with_len k n)) e
    ∙ ap (λ b. b && true) (agree-self (leader (packet_row rows k)))

ack-upto : (rows : List Row) (k : ℕ) → k < length rows →
    ack_of (take (k + 1) rows) ≡ ack_by (ack_of (take k rows)) (leader (packet_row rows k))
ack-upto rows k inside =
    let e : k + 1 ≡ suc k = omega arith in
    ap (λ n. ack_of (take n rows)) e ∙ ap ack_of (take-suc rows k [] inside)
    ∙ ack-more (take k rows) (packet_row rows k)

-- while leaders have one change bit, it is the one to acknowledge
ack-one : (rows : List Row) (from d : ℕ) (first : Packet) → from + d < length rows →
    leader (packet_row rows from) ≡ Some first → have_one_chg rows from (from + d) ≡ true →
    ack_of (take (from + d + 1) rows) ≡ first.chg
ack-one rows from zero first inside led one =
    let e : from + zero ≡ from = omega arith in
    ap (λ n. ack_of (take (n + 1) rows)) e ∙ ack-upto rows from (omega arith)
    ∙ ap (ack_by (ack_of (take from rows))) led
ack-one rows from (suc d) first inside led one =
    let e : from + suc d ≡ from + d + 1 = omega arith in
    let more : (have_one_chg rows from (from + d)
    && agree (leader (packet_row rows from)) (leader (packet_row rows (from + d + 1)))) ≡ true =
    sym (chg-more rows from (from + d) (omega arith)) ∙ ap (have_one_chg rows from) (sym e) ∙ one in
    let parts = and_parts (have_one_chg rows from (from + d))
    (agree (leader (packet_row rows from)) (leader (packet_row rows (from + d + 1)))) more in
    ap (λ n. ack_of (take (n + 1) rows)) e ∙ ack-upto rows (from + d + 1) (omega arith)
    ∙ ap (λ ack. ack_by ack (leader (packet_row rows (from + d + 1))))
    (ack-one rows from d first (omega arith) led parts.0)
    ∙ agree-ack first (leader (packet_row rows (from + d + 1)))
    (ap (λ found. agree found (leader (packet_row rows (from + d + 1)))) (sym led) ∙ parts.1)

-- ---- the packet that was read last
pub last_read-here : (read : ℕ → Bool) (k : ℕ) → read k ≡ true → last_read read k ≡ Some k
unfolding last_read
last_read-here read zero e = ap (λ b. if b then Some zero else None) e
last_read-here read (suc k) e = ap (λ b. if b then Some (suc k) else last_read read k) e

pub last_read-none : (read : ℕ → Bool) → read 0 ≡ false → last_read read 0 ≡ None
unfolding last_read
last_read-none read e = ap (λ b. if b then Some 0 else None) e

pub last_read-before : (read : ℕ → Bool) (k : ℕ) → read (k + 1) ≡ false → last_read read (k + 1) ≡ last_read read k
unfolding last_read
last_read-before read k e =
    let f : k + 1 ≡ suc k = omega arith in
    ap (last_read read) f ∙ ap (λ b. if b then Some (suc k) else last_read read k) (ap read (sym f) ∙ e)

pub last_read-is : (read : ℕ → Bool) (k last : ℕ) → last_read read k ≡ Some last → (last ≤ k) × (read last ≡ true)
unfolding last_read
last_read-is read zero last e =
    elim (read zero) as (λ b. read zero ≡ b → (if b then Some zero else None) ≡ Some last →
    (last ≤ zero) × (read last ≡ true)) [
      | true ↦ λ there found. let same : zero ≡ last = cc in (omega arith, ap read (sym same) ∙ there)
      | false ↦ λ none found. absurd cc
    ] refl e
last_read-is read (suc k) last e =
    elim (read (suc k)) as (λ b. read (suc k) ≡ b → (if b then Some (suc k) else last_read read k) ≡ Some last →
    (last ≤ suc k) × (read last ≡ true)) [
      | true ↦ λ there found. let same : suc k ≡ last = cc in (omega arith, ap read (sym same) ∙ there)
      | false ↦ λ none found. let (low, is) = last_read-is read k last found in (omega arith, is)
    ] refl e

-- ---- the word
-- a line that is read says a new one
pub word-read : (rows : List Row) (row : Row) (line : ℕ) (packet : Packet) →
    slice_index_or row line None ≡ Some packet →
    last_word (rows ++ row ∷ []) line (length rows) ≡ Some packet
word-read rows row line packet e =
    let all = rows ++ row ∷ [] in
    let there : packet_on all line (length rows) ≡ Some packet =
    ap (λ row. slice_index_or row line None) (row-last rows row) ∙ e in
    ap (last_word_by all line (length rows))
    (last_read-here (has_packet all line) (length rows) (ap is_some there))
    ∙ ap (λ b. if b then packet_on all line (length rows) else None) (chg-here all (length rows))
    ∙ there

-- one that isn't says what it said, where no change is read
word-kept : (rows : List Row) (row : Row) (line k : ℕ) → length rows ≡ k + 1 →
    slice_index_or row line None ≡ None →
    last_word (rows ++ row ∷ []) line (k + 1) ≡ (if is_changed rows row then None else last_word rows line k)
word-kept rows row line k size e =
    let all = rows ++ row ∷ [] in
    let here : packet_row all (k + 1) ≡ row = ap (packet_row all) (sym size) ∙ row-last rows row in
    let missed : has_packet all line (k + 1) ≡ false =
    ap (λ row. is_some (slice_index_or row line None)) here ∙ ap is_some e in
    ap (last_word_by all line (k + 1)) (last_read-before (has_packet all line) k missed
    ∙ last-same (has_packet all line) (has_packet rows line) k (λ j low. has-before rows (row ∷ []) line j (omega arith)))
    ∙ elim (last_read (has_packet rows line) k) as (λ found. last_read (has_packet rows line) k ≡ found →
    last_word_by all line (k + 1) found ≡ (if is_changed rows row then None else last_word_by rows line k found)) [
      | None ↦ λ e. sym (none-both (is_changed rows row) None)
      | Some last ↦ λ is.
          let (low, there) = last_read-is (has_packet rows line) k last is in
          said-last last low there
    ] refl
  where
    none-both : (b : Bool) (word : Option Packet) → (if b then word else word) ≡ word
    none-both true word = refl
    none-both false word = refl

    one-before : (last : ℕ) → last ≤ k →
        have_one_chg (rows ++ row ∷ []) last k ≡ have_one_chg rows last k
    one-before last low =
        all-same (λ j. agree (leader (packet_row (rows ++ row ∷ []) last)) (leader (packet_row (rows ++ row ∷ []) j)))
        (λ j. agree (leader (packet_row rows last)) (leader (packet_row rows j))) last (k + 1 - last)
        (λ j above below. ap₂ (λ a b. agree (leader a) (leader b)) (row-before rows (row ∷ []) last (omega arith))
        (row-before rows (row ∷ []) j (omega arith)))

    agree-changed : (first : Packet) (ack : Bool) (found : Option Packet) → ack ≡ first.chg →
        agree (Some first) found ≡ not (not (is_same (ack_by ack found) ack))
    agree-changed first ack None e = sym (ap (λ b. not (not b)) (is_same-self ack))
    agree-changed first ack (Some packet) e =
        ap (λ b. is_same b packet.chg) (sym e) ∙ turned ack packet.chg
      where
        turned : (a b : Bool) → is_same a b ≡ not (not (is_same b a))
        turned true true = refl
        turned true false = refl
        turned false true = refl
        turned false false = refl

    kept : (one changed : Bool) (said : Option Packet) →
        (if one && not changed then said else None) ≡ (if changed then None else (if one then said else None))
    kept true true said = refl
    kept true false said = refl
    kept false true said = refl
    kept false false said = refl

    said-last : (last : ℕ) → last ≤ k → has_packet rows line last ≡ true →
        last_word_by (rows ++ row ∷ []) line (k + 1) (Some last)
        ≡ (if is_changed rows row then None else last_word_by rows line k (Some last))
    said-last last low there =
        let all = rows ++ row ∷ [] in
        let said : packet_on all line last ≡ packet_on rows line last =
        ap (λ row. slice_index_or row line None) (row-before rows (row ∷ []) last (omega arith)) in
        let first_row = row-before rows (row ∷ []) last (omega arith) in
        let here : packet_row all (k + 1) ≡ row = ap (packet_row all) (sym size) ∙ row-last rows row in
        let one : have_one_chg all last (k + 1)
        ≡ (have_one_chg rows last k && agree (leader (packet_row rows last)) (leader row)) =
        chg-more all last k (omega arith)
        ∙ ap₂ (λ a b. a && b) (one-before last low) (ap₂ (λ a b. agree (leader a) (leader b)) first_row here) in
        ap₂ (λ b found. if b then found else None)
        (one ∙ bits (packet_on rows line last) refl there) said
        ∙ kept (have_one_chg rows last k) (is_changed rows row) (packet_on rows line last)
      where
        bits : (found : Option Packet) → packet_on rows line last ≡ found → is_some found ≡ true →
            (have_one_chg rows last k && agree (leader (packet_row rows last)) (leader row))
            ≡ (have_one_chg rows last k && not (is_changed rows row))
        bits None is e = absurd cc
        bits (Some packet) is e =
            let (first, led) = leader-there (packet_row rows last) line packet is in
            elim (have_one_chg rows last k) as (λ b. have_one_chg rows last k ≡ b →
            (b && agree (leader (packet_row rows last)) (leader row)) ≡ (b && not (is_changed rows row))) [
              | true ↦ λ one.
                  let d : last + (k - last) ≡ k = omega arith in
                  let all : take (k + 1) rows ≡ rows = take_all (k + 1) rows (omega arith) in
                  let ack : ack_of rows ≡ first.chg = ap ack_of (sym all)
                  ∙ ap (λ n. ack_of (take (n + 1) rows)) (sym d)
                  ∙ ack-one rows last (k - last) first (omega arith) led (ap (have_one_chg rows last) d ∙ one) in
                  ap (λ found. agree found (leader row)) led ∙ agree-changed first (ack_of rows) (leader row) ack
              | false ↦ λ one. refl
            ] refl

pub word-missed : (rows : List Row) (row : Row) (line : ℕ) → slice_index_or row line None ≡ None →
    last_word (rows ++ row ∷ []) line (length rows)
    ≡ (if is_changed rows row then None else word_before rows line (length rows))
word-missed rows row line e =
    elim (length rows) as (λ n. length rows ≡ n → last_word (rows ++ row ∷ []) line n
    ≡ (if is_changed rows row then None else word_before rows line n)) [
      | zero ↦ λ size.
          let all = rows ++ row ∷ [] in
          let missed : has_packet all line 0 ≡ false =
          ap (has_packet all line) (sym size) ∙ has-last rows row line ∙ ap is_some e in
          ap (last_word_by all line 0) (last_read-none (has_packet all line) missed)
          ∙ sym (none-both (is_changed rows row) None)
      | suc k ↦ λ size.
          let f : k + 1 ≡ suc k = omega arith in
          ap (last_word (rows ++ row ∷ []) line) (sym f)
          ∙ word-kept rows row line k (omega arith) e
    ] refl
  where
    none-both : (b : Bool) (word : Option Packet) → (if b then word else word) ≡ word
    none-both true word = refl
    none-both false word = refl

-- ---- what is kept of a line
pub watch-step : (options : Options) (rows : List Row) (row : Row) (line : ℕ) (timers : MemberTimers)
    (said : Option ℕ) →
    TimersStand options (has_packet (rows ++ row ∷ []) line) (length rows + 1) timers →
    said ≡ sq_of (last_word (rows ++ row ∷ []) line (length rows)) →
    WatchStands options (rows ++ row ∷ []) line (record { timers = timers; said = said })
watch-step options rows row line timers said stands is =
    let size : length (rows ++ row ∷ []) ≡ length rows + 1 = length-append rows (row ∷ []) in
    let next : length (rows ++ row ∷ []) ≡ suc (length rows) = omega arith in
    record {
      timers = subst (λ n. TimersStand options (has_packet (rows ++ row ∷ []) line) n timers) (sym size) stands;
      said = is ∙ ap (λ n. sq_of (word_before (rows ++ row ∷ []) line n)) (sym next);
    }

-- ---- a change in a row
pub changed-by : (rows : List Row) (row : Row) (before ack : Bool) → before ≡ ack_of rows → ack ≡ ack_by before (leader row) →
    not (beq ack before) ≡ is_changed rows row
changed-by rows row before ack is_before is_ack =
    ap not (beq-same ack before ∙ ap₂ is_same (is_ack ∙ ap (λ b. ack_by b (leader row)) is_before) is_before)
  where
    beq-same : (a b : Bool) → beq a b ≡ is_same a b
    beq-same true true = refl
    beq-same true false = refl
    beq-same false true = refl
    beq-same false false = refl

-- ---- what it says
says-word : (word : Option Packet) (sq : ℕ) → has_said (sq_of word) sq ≡ says_at sq word
says-word None sq = refl
says-word (Some packet) sq =
    elim (is_member packet.ctrl) as (λ b. has_said (if b then Some packet.sq else None) sq ≡ (b && packet.sq == sq)) [
      | true ↦ refl
      | false ↦ refl
    ]

pub says-by : (options : Options) (rows : List Row) (k line : ℕ) (watch : MemberWatch) (sq : ℕ) → length rows ≡ suc k →
    WatchStands options rows line watch →
    says watch sq ≡ (is_up options (has_packet rows line) k && says_at sq (last_word rows line k))
says-by options rows k line watch sq size stands =
    ap₂ (λ a b. a && b)
    (stands.timers.up ∙ ap (was_up options (has_packet rows line)) size)
    (ap (λ said. has_said said sq) (stands.said ∙ ap (λ n. sq_of (word_before rows line n)) size)
    ∙ says-word (last_word rows line k) sq)

-- ---- One more packet of a line, and whether the line is up by then.
-- ---- tests of the numbers of a range
all-pass : (test : ℕ → Bool) (from count : ℕ) → ((j : ℕ) → from ≤ j → j < from + count → test j ≡ true) →
    list_all test (range_with_len from count) ≡ true
all-pass test from zero each = refl
all-pass test from (suc count) each =
    ap (λ b. b && list_all test (range_with_len (from + 1) count)) (each from (omega arith) (omega arith))
    ∙ all-pass test (from + 1) count (λ j low high. each j (omega arith) (omega arith))

and-false : (b : Bool) → (b && false) ≡ false
and-false true = refl
and-false false = refl

one-fails : (test : ℕ → Bool) (from count j : ℕ) → from ≤ j → j < from + count → test j ≡ false →
    list_all test (range_with_len from count) ≡ false
one-fails test from zero j low high e = absurd (omega arith)
one-fails test from (suc count) j low high e =
    elim (cases_eq from j) [
      | inl same ↦
          ap (λ b. b && list_all test (range_with_len (from + 1) count)) (ap test same ∙ e)
      | inr other ↦
          ap (λ b. test from && b) (one-fails test (from + 1) count j (omega arith) (omega arith) e)
          ∙ and-false (test from)
    ]

-- ---- the two timers
pub restored-true : (restore : ℕ) (read : ℕ → Bool) (k : ℕ) →
    ((j : ℕ) → j ≤ k → k ≤ j + restore → read j ≡ true) → is_restored restore read k ≡ true
restored-true restore read k each =
    all-pass read (k - restore) (k + 1 - (k - restore)) (λ j low high. each j (omega arith) (omega arith))

pub restored-false : (restore : ℕ) (read : ℕ → Bool) (k j : ℕ) → j ≤ k → k ≤ j + restore → read j ≡ false →
    is_restored restore read k ≡ false
restored-false restore read k j low high e =
    one-fails read (k - restore) (k + 1 - (k - restore)) j (omega arith) (omega arith) e

pub missed-true : (holdoff : ℕ) (read : ℕ → Bool) (k : ℕ) → holdoff ≤ k →
    ((j : ℕ) → j ≤ k → k ≤ j + holdoff → read j ≡ false) → are_missed holdoff read k ≡ true
missed-true holdoff read k long each =
    let there : nat_le holdoff k ≡ true = grind (arith, nat_tests, long) in
    ap (λ b. b && list_all (λ j. not (read j)) (range_with_len (k - holdoff) (holdoff + 1))) there
    ∙ all-pass (λ j. not (read j)) (k - holdoff) (holdoff + 1)
    (λ j low high. ap not (each j (omega arith) (omega arith)))

pub missed-false : (holdoff : ℕ) (read : ℕ → Bool) (k j : ℕ) → j ≤ k → k ≤ j + holdoff → read j ≡ true →
    are_missed holdoff read k ≡ false
missed-false holdoff read k j low high e =
    elim (cases_Bool (nat_le holdoff k)) [
      | inr short ↦
          ap (λ b. b && list_all (λ j. not (read j)) (range_with_len (k - holdoff) (holdoff + 1))) short
      | inl there ↦
          let long : holdoff ≤ k = grind (arith, nat_tests, there) in
          ap (λ b. nat_le holdoff k && b)
          (one-fails (λ j. not (read j)) (k - holdoff) (holdoff + 1) j (omega arith) (omega arith) (ap not e))
          ∙ and-false (nat_le holdoff k)
    ]

pub missed-early : (holdoff : ℕ) (read : ℕ → Bool) (k : ℕ) → k < holdoff → are_missed holdoff read k ≡ false
missed-early holdoff read k short =
    let none : nat_le holdoff k ≡ false = grind (arith, nat_tests, short) in
    ap (λ b. b && list_all (λ j. not (read j)) (range_with_len (k - holdoff) (holdoff + 1))) none

-- ---- whether the line is up by one packet more
or-and-false : (a b : Bool) → a ≡ ((a && true) || (b && false))
or-and-false true b = refl
or-and-false false true = refl
or-and-false false false = refl

pub up-next : (options : Options) (read : ℕ → Bool) (k : ℕ) →
    was_up options read (k + 1)
    ≡ (is_restored options.restore read k || (not (are_missed options.holdoff read k) && was_up options read k))
unfolding is_up
up-next options read zero =
    let from : zero - options.restore ≡ 0 = omega arith in
    let count : zero + 1 - (zero - options.restore) ≡ 1 = omega arith in
    or-and-false (read zero) (not (are_missed options.holdoff read zero))
    ∙ ap₂ (λ a n. list_all read (range_with_len a n) || (not (are_missed options.holdoff read zero) && false))
    (sym from) (sym count)
up-next options read (suc k) = let e : suc k + 1 ≡ suc (suc k) = omega arith in ap (was_up options read) e

pub up-read : (options : Options) (read : ℕ → Bool) (k : ℕ) → read k ≡ true →
    was_up options read (k + 1) ≡ (was_up options read k || is_restored options.restore read k)
up-read options read k e =
    up-next options read k
    ∙ ap (λ b. is_restored options.restore read k || (not b && was_up options read k))
    (missed-false options.holdoff read k k (omega arith) (omega arith) e)
    ∙ either-way (is_restored options.restore read k) (was_up options read k)
  where
    either-way : (a b : Bool) → (a || b) ≡ (b || a)
    either-way true true = refl
    either-way true false = refl
    either-way false true = refl
    either-way false false = refl

pub up-missed : (options : Options) (read : ℕ → Bool) (k : ℕ) → read k ≡ false →
    was_up options read (k + 1) ≡ (was_up options read k && not (are_missed options.holdoff read k))
up-missed options read k e =
    up-next options read k
    ∙ ap (λ b. b || (not (are_missed options.holdoff read k) && was_up options read k))
    (restored-false options.restore read k k (omega arith) (omega arith) e)
    ∙ both-ways (not (are_missed options.holdoff read k)) (was_up options read k)
  where
    both-ways : (a b : Bool) → (a && b) ≡ (b && a)
    both-ways true true = refl
    both-ways true false = refl
    both-ways false true = refl
    both-ways false false = refl

-- ---- the registers
pub or-there : (a b : Bool) → a ≡ true → a ≡ (a || b)
or-there true b e = refl
or-there false b e = absurd cc

pub or-past : (a : Bool) (count timer : ℕ) → a ≡ false → nat_lt timer count ≡ (a || not (nat_le count timer))
or-past a count timer e =
    elim (cases_lt timer count) [
      | inl past ↦
          let one : nat_lt timer count ≡ true = grind (arith, nat_tests, past) in
          let two : nat_le count timer ≡ false = grind (arith, nat_tests, past) in
          one ∙ sym (ap₂ (λ a b. a || not b) e two)
      | inr within ↦
          let one : nat_lt timer count ≡ false = grind (arith, nat_tests, within) in
          let two : nat_le count timer ≡ true = grind (arith, nat_tests, within) in
          one ∙ sym (ap₂ (λ a b. a || not b) e two)
    ]

pub and-there : (a b : Bool) → a ≡ true → b ≡ (a && b)
and-there true b e = refl
and-there false b e = absurd cc

pub and-gone : (a b : Bool) → a ≡ false → a ≡ (a && b)
and-gone true b e = absurd cc
and-gone false b e = refl

pub timers-read : (options : Options) (was now : MemberTimers) (read : ℕ → Bool) (passed : ℕ) →
    now.reads ≡ min was.reads options.restore + 1 → now.misses ≡ 0 →
    now.is_up ≡ (was.is_up || not (nat_le now.reads options.restore)) →
    TimersStand options read passed was → read passed ≡ true → TimersStand options read (passed + 1) now
timers-read options was now read passed reads misses up stands e = record {
  read_last = λ j low high. elim (cases_eq passed j) [
    | inl same ↦ ap read (sym same) ∙ e
    | inr other ↦ stands.read_last j (omega arith) (omega arith)
  ];
  unread = λ few.
      let (j, at, none) = stands.unread (omega arith) in
      (j, let same : j + now.reads + 1 ≡ passed + 1 = omega arith in same, none);
  missed_last = λ j low high. absurd (omega arith);
  heard = λ few. inr (passed, let same : passed + now.misses + 1 ≡ passed + 1 = omega arith in same, e);
  within = omega arith;
  up = up ∙ ap₂ (λ a b. a || b) stands.up restored ∙ sym (up-read options read passed e);
}
  where
    restored : not (nat_le now.reads options.restore) ≡ is_restored options.restore read passed
    restored =
        elim (cases_lt options.restore now.reads) [
          | inl long ↦
              let past : nat_le now.reads options.restore ≡ false = grind (arith, nat_tests, long) in
              ap not past ∙ sym (restored-true options.restore read passed (λ j low high.
              elim (cases_eq passed j) [
                | inl same ↦ ap read (sym same) ∙ e
                | inr other ↦ stands.read_last j (omega arith) (omega arith)
              ]))
          | inr short ↦
              let within : nat_le now.reads options.restore ≡ true = grind (arith, nat_tests, short) in
              let (j, at, none) = stands.unread (omega arith) in
              ap not within
              ∙ sym (restored-false options.restore read passed j (omega arith) (omega arith) none)
        ]

pub timers-missed : (options : Options) (was now : MemberTimers) (read : ℕ → Bool) (passed : ℕ) →
    now.reads ≡ 0 → now.misses ≡ min was.misses options.holdoff + 1 →
    now.is_up ≡ (was.is_up && nat_le now.misses options.holdoff) →
    TimersStand options read passed was → read passed ≡ false → TimersStand options read (passed + 1) now
timers-missed options was now read passed reads misses up stands e = record {
  read_last = λ j low high. absurd (omega arith);
  unread = λ few. (passed, let same : passed + now.reads + 1 ≡ passed + 1 = omega arith in same, e);
  missed_last = λ j low high. elim (cases_eq passed j) [
    | inl same ↦ ap read (sym same) ∙ e
    | inr other ↦ stands.missed_last j (omega arith) (omega arith)
  ];
  heard = λ few. elim (stands.heard (omega arith)) [
    | inl all ↦ inl (let same : now.misses ≡ passed + 1 = omega arith in same)
    | inr (j, at, there) ↦ inr (j, let same : j + now.misses + 1 ≡ passed + 1 = omega arith in same, there)
  ];
  within = let low = stands.within in omega arith;
  up = up ∙ ap₂ (λ a b. a && b) stands.up held ∙ sym (up-missed options read passed e);
}
  where
    held : nat_le now.misses options.holdoff ≡ not (are_missed options.holdoff read passed)
    held =
        elim (cases_lt options.holdoff now.misses) [
          | inl long ↦
              let past : nat_le now.misses options.holdoff ≡ false = grind (arith, nat_tests, long) in
              let low = stands.within in
              past ∙ ap not (sym (missed-true options.holdoff read passed (omega arith) (λ j low high.
              elim (cases_eq passed j) [
                | inl same ↦ ap read (sym same) ∙ e
                | inr other ↦ stands.missed_last j (omega arith) (omega arith)
              ])))
          | inr short ↦
              let within : nat_le now.misses options.holdoff ≡ true = grind (arith, nat_tests, short) in
              within ∙ ap not (sym (elim (stands.heard (omega arith)) [
                | inl all ↦ missed-early options.holdoff read passed (omega arith)
                | inr (j, at, there) ↦
                    missed-false options.holdoff read passed j (omega arith) (omega arith) there
              ]))
        ]

-- ---- what is read of the packets that passed is the same
pub timers-same : (options : Options) (timers : MemberTimers) (read other : ℕ → Bool) (passed : ℕ) →
    ((j : ℕ) → j < passed → read j ≡ other j) → TimersStand options read passed timers →
    TimersStand options other passed timers
timers-same options timers read other passed same stands = record {
  read_last = λ j low high. sym (same j low) ∙ stands.read_last j low high;
  unread = λ few. let (j, at, none) = stands.unread few in (j, at, sym (same j (omega arith)) ∙ none);
  missed_last = λ j low high. sym (same j low) ∙ stands.missed_last j low high;
  heard = λ few. elim (stands.heard few) [
    | inl all ↦ inl all
    | inr (j, at, there) ↦ inr (j, at, sym (same j (omega arith)) ∙ there)
  ];
  within = stands.within;
  up = stands.up ∙ was-same passed same;
}
  where
    was-same : (passed : ℕ) → ((j : ℕ) → j < passed → read j ≡ other j) →
        was_up options read passed ≡ was_up options other passed
    was-same zero same = refl
    was-same (suc k) same = up-same options read other k (λ j low. same j (omega arith))
