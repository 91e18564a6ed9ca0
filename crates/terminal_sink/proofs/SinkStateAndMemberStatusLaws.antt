-- Sink states, member status and return packets, as a row is taken packet by packet.
use Rattle.std.proofs.Common.{◌≡◌, ℕ, suc, ◌+◌, ◌-◌, ◌*◌, ◌^◌, ◌%◌, ◌<◌, ◌≤◌, ◌==◌, ◌&&◌, ◌||◌, nat_lt, not, Bool}
use Rattle.std.proofs.Common.{true, false, if◌then◌else◌, List, [], ◌∷◌, ◌++◌, map, take, length, Some, None}
use Rattle.std.proofs.Common.{slice_get, slice_index_or, slice_set, refl, sym, ◌∙◌, ap, ap₂, subst, pow-suc, arith}
use Rattle.std.proofs.Common.{zero, take_all, length-append, length-take-le, get_or-set_same, get_or-set_other, lt-ltb}
use Rattle.std.proofs.Common.{le-ltb, eq-eqb}
use Rattle.std.specs.List.{list_any, range_with_len}
use Rattle.std.proofs.lemmas.Bool.Decides.{nat_tests}
use Rattle.std.proofs.lemmas.List.{take-append-le, get_or_past}
use Rattle.std.proofs.lemmas.List.Sums.{fold-append}
use Rattle.check_remainder.specs.Bits.{number}
use Rattle.law_model.specs.Common.{number_behind, Row, leader, ack_by, ack_of, agree, says_at, packet_row, has_packet}
use Rattle.law_model.specs.Common.{last_read, last_word, last_word_by, is_up, status_of, mst_of, return_of, sink_state}
use Rattle.law_model.specs.Common.{state_next}
use Rattle.law_model.specs.declared.control_packet.Packet.{Packet}
use Rattle.law_model.specs.declared.lcas_states.SinkState.{SinkState}
use Rattle.law_model.specs.declared.script_types.Options.{Options}
use Rattle.member_cells.specs.declared.control_word.Ctrl.TheVariants.{Idle as idle_word}
use Rattle.law_model.specs.declared.lcas_states.SinkState.TheVariants.{Idle}
use Rattle.std.proofs.lemmas.Option.{slice_get_within}
use Rattle.law_model.proofs.ListLaws.{map-same_range, slice_get-take}
use Rattle.law_row.proofs.LastWordAndReturnPacketLaws.{all-same, any-same, last-same, up-same}
use Rattle.terminal_sink.specs.declared.member_watch.MemberWatch.{MemberWatch}
use Rattle.terminal_sink.specs.member_watch.Watches.{WatchStands, AreWatched, watch_at, says, is_told}
use Rattle.terminal_sink.specs.lcas_sink.SinkStates.{state_at, state_upto}
use Rattle.terminal_sink.proofs.WatchTimerAndLastWordLaws.{row-before, row-last, has-before, ack-more, last_read-is}
use Rattle.terminal_sink.proofs.WatchTimerAndLastWordLaws.{says-by}

-- A row is taken packet by packet, and what is told of it.
-- ---- the states
-- a test of numbers where it turns
test-step : (line i : ℕ) → (line ≡ i → ⊥) → nat_lt line i ≡ nat_lt line (i + 1)
test-step line i other =
    elim (nat_lt line i) as (λ b. nat_lt line i ≡ b → b ≡ nat_lt line (i + 1)) [
      | true ↦ λ e. let h : line < i = grind (arith, nat_tests, e) in sym (lt-ltb line (i + 1) (omega arith))
      | false ↦ λ e. let h : i ≤ line = grind (arith, nat_tests, e) in sym (le-ltb line (i + 1) (omega arith))
    ] refl

pub upto-more : (states old : List SinkState) (row : Row) (i : ℕ) (next seen : SinkState) → i < length states →
    seen ≡ state_at states i →
    next ≡ state_next seen (slice_index_or row i None) →
    ((line : ℕ) → state_at states line ≡ state_upto i old row line) →
    (line : ℕ) → state_at (slice_set states i next) line ≡ state_upto (i + 1) old row line
upto-more states old row i next seen inside is_seen is_next so_far line =
    elim (nat_lt line i) as (λ b. nat_lt line i ≡ b →
    state_at (slice_set states i next) line ≡ state_upto (i + 1) old row line) [
      | true ↦ λ e.
          let h : line < i = grind (arith, nat_tests, e) in
          get_or-set_other states i line next Idle (λ same. omega arith) ∙ so_far line
          ∙ ap (λ b. if b then state_next (state_at old line) (slice_index_or row line None) else state_at old line)
          (test-step line i (λ same. omega arith))
      | false ↦ λ e.
          let h : i ≤ line = grind (arith, nat_tests, e) in
          elim (line == i) as (λ b. (line == i) ≡ b →
          state_at (slice_set states i next) line ≡ state_upto (i + 1) old row line) [
            | true ↦ λ same_test.
                let same : line ≡ i = grind (arith, nat_tests, same_test) in
                let here = lt-ltb i (i + 1) (omega arith) in
                let before = le-ltb i i (omega arith) in
                rw (same, here) (get_or-set_same states i next Idle inside ∙ is_next
                ∙ ap (λ state. state_next state (slice_index_or row i None)) (is_seen ∙ so_far i
                ∙ ap (λ b. if b then state_next (state_at old i) (slice_index_or row i None) else state_at old i)
                before))
            | false ↦ λ other_test.
                let other : line ≡ i → ⊥ = λ same. absurd
                (let f : true ≡ false = sym (eq-eqb line i same) ∙ other_test in cc) in
                get_or-set_other states i line next Idle other ∙ so_far line
                ∙ ap (λ b. if b then state_next (state_at old line) (slice_index_or row line None) else state_at old
                line) (test-step line i other)
          ] refl
    ] refl

-- the next row makes the next state of each line
pub states-more : (now old : List SinkState) (rows : List Row) (row : Row) →
    ((line : ℕ) → length row ≤ line → state_at old line ≡ Idle) →
    ((line : ℕ) → state_at old line ≡ sink_state rows line) →
    ((line : ℕ) → state_at now line ≡ state_upto (length row) old row line) →
    (line : ℕ) → state_at now line ≡ sink_state (rows ++ row ∷ []) line
states-more now old rows row idle are next line =
    let more : sink_state (rows ++ row ∷ []) line ≡ state_next (sink_state rows line) (slice_index_or row line None) =
    fold-append (λ state row. state_next state (slice_index_or row line None)) Idle rows (row ∷ []) in
    next line ∙ elim (nat_lt line (length row)) as (λ b. nat_lt line (length row) ≡ b →
    (if b then state_next (state_at old line) (slice_index_or row line None) else state_at old line)
    ≡ sink_state (rows ++ row ∷ []) line) [
      | true ↦ λ e. ap (λ state. state_next state (slice_index_or row line None)) (are line) ∙ sym more
      | false ↦ λ e.
          let past : length row ≤ line = grind (arith, nat_tests, e) in
          idle line past
          ∙ sym (more ∙ ap₂ state_next (sym (are line) ∙ idle line past) (get_or_past row line None past))
    ] refl

-- ---- member status
-- the statuses of eight SQs, of which a test says which are OK
abbrev pub mst_for : (ℕ → Bool) → ℕ → ℕ
mst_for told first = number (map (λ sq. not (told sq)) (range_with_len first 8))

pub status-first : (told : ℕ → Bool) (first : ℕ) →
    number_behind 0 (map (λ sq. not (told sq)) (range_with_len (first + 0) 8)) ≡ mst_for told first
status-first told first = let e : first + 0 ≡ first = omega arith in
    ap (λ sq. number_behind 0 (map (λ sq. not (told sq)) (range_with_len sq 8))) e

behind-more : (n : ℕ) (b : Bool) (bs : List Bool) →
    number_behind n (b ∷ bs) ≡ number_behind (2 * n + (if b then 1 else 0)) bs
unfolding number_behind
behind-more n b bs = refl

behind-none : (n : ℕ) → number_behind n [] ≡ n
unfolding number_behind
behind-none n = refl

pub status-more : (told : ℕ → Bool) (first place n flag : ℕ) → place < 8 →
    flag ≡ (if not (told (first + place)) then 1 else 0) →
    number_behind (2 * n + flag) (map (λ sq. not (told sq))
    (range_with_len (first + (place + 1)) (8 - (place + 1))))
    ≡ number_behind n (map (λ sq. not (told sq)) (range_with_len (first + place) (8 - place)))
status-more told first place n flag inside is_flag =
    let count : 8 - place ≡ suc (8 - (place + 1)) = omega arith in
    let next : first + (place + 1) ≡ first + place + 1 = omega arith in
    ap₂ (λ flag from. number_behind (2 * n + flag)
    (map (λ sq. not (told sq)) (range_with_len from (8 - (place + 1))))) is_flag next
    ∙ sym (behind-more n (not (told (first + place)))
    (map (λ sq. not (told sq)) (range_with_len (first + place + 1) (8 - (place + 1)))))
    ∙ ap (λ count. number_behind n (map (λ sq. not (told sq)) (range_with_len (first + place) count)))
    (sym count)

flag-small : (b : Bool) → (if b then 1 else 0) < 2
flag-small true = omega arith
flag-small false = omega arith

pub status-small : (n place flag : ℕ) (b : Bool) → flag ≡ (if not b then 1 else 0) → n < 2 ^ place →
    2 * n + flag < 2 ^ (place + 1)
status-small n place flag b is_flag small =
    let bit = flag-small (not b) in
    let twice : 2 ^ (place + 1) ≡ 2 ^ place * 2 = ap (λ k. 2 ^ k) (let e : place + 1 ≡ suc place = omega arith in e)
    ∙ pow-suc 2 place in
    omega arith

pub status-last : (told : ℕ → Bool) (first place n : ℕ) → 8 ≤ place →
    number_behind n (map (λ sq. not (told sq)) (range_with_len (first + place) (8 - place)))
    ≡ mst_for told first → n ≡ mst_for told first
status-last told first place n all value =
    let none : 8 - place ≡ 0 = omega arith in
    sym (behind-none n) ∙ ap (λ count. number_behind n
    (map (λ sq. not (told sq)) (range_with_len (first + place) count))) (sym none) ∙ value

-- what lines say by what is kept of each is what the rows say
any-each : (f : MemberWatch → Bool) (g : ℕ → Bool) (watches : List MemberWatch) (from : ℕ) →
    ((i : ℕ) (watch : MemberWatch) → slice_get watches i ≡ Some watch → f watch ≡ g (from + i)) →
    list_any f watches ≡ list_any g (range_with_len from (length watches))
any-each f g [] from each = refl
any-each f g (watch ∷ watches) from each =
    let e : from + 0 ≡ from = omega arith in
    ap₂ (λ a b. a || b) (each 0 watch refl ∙ ap g e)
    (any-each f g watches (from + 1) (λ i found there.
    let h : from + suc i ≡ from + 1 + i = omega arith in each (suc i) found there ∙ ap g h))

pub told-by : (options : Options) (rows : List Row) (k : ℕ) (watches : List MemberWatch) (sq : ℕ) →
    length rows ≡ suc k → length watches ≡ length (packet_row rows k) →
    ((i : ℕ) (watch : MemberWatch) → slice_get watches i ≡ Some watch → WatchStands options rows i watch) →
    is_told watches sq ≡ status_of options rows k sq
told-by options rows k watches sq size lines stand =
    any-each (λ watch. says watch sq)
    (λ line. is_up options (has_packet rows line) k && says_at sq (last_word rows line k)) watches 0
    (λ i watch there. let e : i ≡ 0 + i = omega arith in
    says-by options rows k i watch sq size (stand i watch there)
    ∙ ap (λ line. is_up options (has_packet rows line) k && says_at sq (last_word rows line k)) e)
    ∙ ap (λ n. list_any (λ line. is_up options (has_packet rows line) k && says_at sq (last_word rows line k))
    (range_with_len 0 n)) lines

pub told-rows : (options : Options) (rows : List Row) (row : Row) (watches : List MemberWatch) (sq : ℕ) →
    length row ≤ length watches → AreWatched options (rows ++ row ∷ []) (length row) watches →
    is_told (take (length row) watches) sq ≡ status_of options (rows ++ row ∷ []) (length rows) sq
told-rows options rows row watches sq room watched =
    let all = rows ++ row ∷ [] in
    let count = length-append rows (row ∷ []) in
    let first = take (length row) watches in
    let few : length first ≡ length row = length-take-le (length row) watches room in
    told-by options all (length rows) first sq (omega arith) (few ∙ ap length (sym (row-last rows row)))
    (λ i watch there.
    let inside = slice_get_within first i watch there in
    subst (WatchStands options all i)
    (get_or-slice_get watches i watch (slice_get-take watches (length row) i watch there))
    (watched i (omega arith)))
  where
    get_or-slice_get : (watches : List MemberWatch) (i : ℕ) (watch : MemberWatch) → slice_get watches i ≡ Some watch →
        watch_at watches i ≡ watch
    get_or-slice_get [] i watch e = absurd cc
    get_or-slice_get (first ∷ watches) zero watch e = (let same : first ≡ watch = cc in same)
    get_or-slice_get (first ∷ watches) (suc i) watch e = get_or-slice_get watches i watch e

pub mst-same : (told other : ℕ → Bool) (first : ℕ) → ((sq : ℕ) → told sq ≡ other sq) →
    mst_for told first ≡ mst_for other first
mst-same told other first same =
    ap number (map-same_range (λ sq. not (told sq)) (λ sq. not (other sq)) first 8 (λ sq low. ap not (same sq)))

-- ---- one more row
abbrev pub packet_with : ℕ → Bool → ℕ → Packet
packet_with mst ack mfi2 = record {
  mst = mst;
  rs_ack = ack;
  chg = false;
  sq = 255;
  mfi2 = mfi2;
  ctrl = idle_word;
  gid =
      false;
  act = 0;
}

same-packet : (mst mst' mfi2 mfi2' : ℕ) (ack ack' : Bool) → mst ≡ mst' → ack ≡ ack' → mfi2 ≡ mfi2' →
    packet_with mst ack mfi2 ≡ packet_with mst' ack' mfi2'
same-packet mst mst' mfi2 mfi2' ack ack' is_mst is_ack is_mfi2 = cc

pub return-fields : (options : Options) (rows : List Row) (row : Row) (taken mst : ℕ) (before ack : Bool) →
    taken ≡ length rows → before ≡ ack_of rows →
    mst ≡ mst_of options (rows ++ row ∷ []) (length rows) (8 * (taken % options.statuses)) →
    ack ≡ ack_by before (leader row) →
    packet_with mst ack ((taken + 1) % 256) ≡ return_of options (rows ++ row ∷ []) (length rows)
return-fields options rows row taken mst before ack is_taken is_before is_mst is_ack =
    let size = length-append rows (row ∷ []) in
    let all : take (length rows + 1) (rows ++ row ∷ []) ≡ rows ++ row ∷ [] =
    take_all (length rows + 1) (rows ++ row ∷ []) (omega arith) in
    same-packet _ _ _ _ _ _
    (is_mst ∙ ap (λ n. mst_of options (rows ++ row ∷ []) (length rows) (8 * (n % options.statuses))) is_taken)
    (is_ack ∙ ap (λ ack. ack_by ack (leader row)) is_before ∙ sym (ack-more rows row) ∙ ap ack_of (sym all))
    (ap (λ n. (n + 1) % 256) is_taken)

-- ---- more rows
word-prefix : (rows more : List Row) (line k : ℕ) → k < length rows →
    last_word (rows ++ more) line k ≡ last_word rows line k
word-prefix rows more line k inside =
    ap (last_word_by (rows ++ more) line k)
    (last-same (has_packet (rows ++ more) line) (has_packet rows line) k
    (λ j low. has-before rows more line j (omega arith)))
    ∙ elim (last_read (has_packet rows line) k) as (λ found. last_read (has_packet rows line) k ≡ found →
    last_word_by (rows ++ more) line k found ≡ last_word_by rows line k found) [
      | None ↦ λ e. refl
      | Some last ↦ λ is.
          let (low, there) = last_read-is (has_packet rows line) k last is in
          let first = row-before rows more last (omega arith) in
          ap₂ (λ b found. if b then found else None)
          (all-same (λ j. agree (leader (packet_row (rows ++ more) last)) (leader (packet_row (rows ++ more) j)))
          (λ j. agree (leader (packet_row rows last)) (leader (packet_row rows j))) last (k + 1 - last)
          (λ j above below. ap₂ (λ a b. agree (leader a) (leader b)) first (row-before rows more j (omega arith))))
          (ap (λ row. slice_index_or row line None) first)
    ] refl

status-prefix : (options : Options) (rows more : List Row) (k sq : ℕ) → k < length rows →
    status_of options (rows ++ more) k sq ≡ status_of options rows k sq
status-prefix options rows more k sq inside =
    let lines = length (packet_row rows k) in
    ap (λ row. list_any
    (λ line. is_up options (has_packet (rows ++ more) line) k && says_at sq (last_word (rows ++ more) line k))
    (range_with_len 0 (length row))) (row-before rows more k inside)
    ∙ any-same (λ line. is_up options (has_packet (rows ++ more) line) k && says_at sq (last_word (rows ++ more) line k))
    (λ line. is_up options (has_packet rows line) k && says_at sq (last_word rows line k)) 0 lines
    (λ line low high. ap₂ (λ up word. up && says_at sq word)
    (up-same options (has_packet (rows ++ more) line) (has_packet rows line) k
    (λ j low. has-before rows more line j (omega arith)))
    (word-prefix rows more line k inside))

pub return-prefix : (options : Options) (rows more : List Row) (k : ℕ) → k < length rows →
    return_of options (rows ++ more) k ≡ return_of options rows k
return-prefix options rows more k inside =
    let before = take-append-le (k + 1) rows more (omega arith) in
    same-packet _ _ _ _ _ _
    (mst-same (status_of options (rows ++ more) k) (status_of options rows k) (8 * (k % options.statuses))
    (λ sq. status-prefix options rows more k sq inside))
    (ap ack_of before) refl
