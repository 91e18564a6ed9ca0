-- What return cells say: the count of changes, a line's word and status; later cells change nothing of it.
use Rattle.std.proofs.Common.{◌≡◌, ◌↔◌, ℕ, zero, suc, ◌+◌, ◌-◌, ◌%◌, ◌<◌, ◌≤◌, ◌==◌, nat_le, true, false}
use Rattle.std.proofs.Common.{if◌then◌else◌, List, [], ◌∷◌, length, Option, Some, None, slice_index_or, refl, sym, ◌∙◌}
use Rattle.std.proofs.Common.{ap, subst, arith, leb-true, eqb-true, ◌&&◌, ◌||◌, Bool, inl, inr, option_map, slice_get}
use Rattle.std.proofs.Common.{◌/◌, ◌*◌, ◌++◌, take, map}
use Rattle.std.proofs.lemmas.Option.{none-some, same_Some, slice_get-map}
use Rattle.law_model.specs.Common.{Scenario, orders_at, is_heard, Table, Told, Source, asked, asked_by, asked_all}
use Rattle.law_model.specs.Common.{refusal, after, cell_at, table_of, said_before, said, return_packet, is_read}
use Rattle.law_model.specs.Common.{is_line, is_line_up, last_read, stands_at, status, word, word_by, kept_of, is_for}
use Rattle.law_model.specs.Common.{keep, none_kept, acknowledged_by, heard, told_on, exchange, exchanged, change_by}
use Rattle.law_model.specs.Common.{change, group_of, is_lost, decide, return_cell, cells_before, most_lines}
use Rattle.law_model.specs.declared.lcas_states.Command.{Command}
use Rattle.law_model.specs.declared.item_refusals.CommandFault.{CommandFault}
use Rattle.law_session.specs.Feedback.{HaveOneChg, lines_of, table_before}
use Rattle.law_session.proofs.DecisionStepMemberLaws.{Goes, Goes-decide, confirmed, confirmed_by}
use Rattle.std.specs.List.{list_any, range_with_len}
use Rattle.std.proofs.Math.Nat.{eq-or-lt_of_le}
use Rattle.std.proofs.lemmas.Bool.{eq-eqb, and_parts, and_from, cases_lt}
use Rattle.law_model.specs.declared.lcas_states.Member.{Member}
use Rattle.law_session.proofs.UpLineAndReadablePacketLaws.{some_heard}
use Rattle.std.proofs.lemmas.List.{length-replicate, get_or_append_left, get_or_at, get_or_past, get_or-take, take_at}
use Rattle.std.proofs.lemmas.List.{length-append, append_assoc, append-nil}
use Rattle.law_model.proofs.ListLaws.{replicate-at}
use Rattle.law_model.specs.declared.lcas_states.Command.TheVariants.{Add as add, Remove as remove}
use Rattle.std.proofs.Math.Path.{fun_ext}

-- ---- Feedback: which changes a return packet tells of, and that a status is said of the line under the SQ that it still
-- has.
-- a command that is asked for changes nothing of the table
asked_by-table : (refused : Option CommandFault) (command : Command) (source : Source) →
    (asked_by refused command source).table ≡ source.table
asked_by-table None command source = refl
asked_by-table (Some why) command source = refl

pub asked_all-table : (lines : ℕ) (commands : List Command) (source : Source) →
    (asked_all lines commands source).table ≡ source.table
asked_all-table lines [] source = refl
asked_all-table lines (command ∷ commands) source =
    asked_all-table lines commands (asked lines source command)
    ∙ asked_by-table (refusal lines command source) command source

-- ---- one step, and many
pub step : (scenario : Scenario) (cells : List (Option Told)) (j : ℕ) →
    Goes (table_before scenario cells j) (table_before scenario cells (suc j))
    (confirmed_by (cell_at scenario cells j) (table_before scenario cells j))
unfolding after
step scenario cells j =
    let source = asked_all (length scenario.windows) (orders_at scenario j) (after scenario cells j) in
    subst (λ table. Goes table (table_before scenario cells (suc j)) (confirmed_by (cell_at scenario cells j) table))
    (asked_all-table (length scenario.windows) (orders_at scenario j) (after scenario cells j))
    (Goes-decide ((j - scenario.lag) % scenario.options.statuses) (cell_at scenario cells j) source)

-- the count never falls, and the order of the lines stays as long as it stays
pub rises : (scenario : Scenario) (cells : List (Option Told)) (j i : ℕ) →
    (table_before scenario cells j).count ≤ (table_before scenario cells (i + j)).count
rises scenario cells j zero = let e : zero + j ≡ j = omega arith in rw e (omega arith)
rises scenario cells j (suc i) =
    let e : suc i + j ≡ suc (i + j) = omega arith in
    let before = rises scenario cells j i in
    let last = (step scenario cells (i + j)).rises in
    rw e (omega arith)

pub stays : (scenario : Scenario) (cells : List (Option Told)) (j i : ℕ) →
    (table_before scenario cells (i + j)).count ≡ (table_before scenario cells j).count →
    lines_of (table_before scenario cells (i + j)).order ≡ lines_of (table_before scenario cells j).order
stays scenario cells j zero same = let e : zero + j ≡ j = omega arith in rw e refl
stays scenario cells j (suc i) same =
    let e : suc i + j ≡ suc (i + j) = omega arith in
    let same_there : (table_before scenario cells (suc (i + j))).count ≡ (table_before scenario cells j).count =
    rw e at same in
    let before = rises scenario cells j i in
    let last = (step scenario cells (i + j)).rises in
    let lines = (step scenario cells (i + j)).lines (omega arith) in
    rw e (lines ∙ stays scenario cells j i (omega arith))

-- ---- what is said
pub said-count : (scenario : Scenario) (cells : List (Option Told)) (k : ℕ) →
    said_before scenario cells k ≤ (table_before scenario cells k).count
unfolding said_before
said-count scenario cells zero = omega arith
said-count scenario cells (suc k) =
    let before = said-count scenario cells k in
    let rises = (step scenario cells k).rises in
    elim (is_heard scenario k) as (λ b.
    (if b then (table_before scenario cells (suc k)).count else said_before scenario cells k) ≤
    (table_before scenario cells (suc k)).count) [
      | true ↦ omega arith
      | false ↦ omega arith
    ]

said-rises_one : (scenario : Scenario) (cells : List (Option Told)) (k : ℕ) →
    said_before scenario cells k ≤ said_before scenario cells (suc k)
unfolding said_before
said-rises_one scenario cells k =
    let before = said-count scenario cells k in
    let rises = (step scenario cells k).rises in
    elim (is_heard scenario k) as (λ b. said_before scenario cells k ≤
    (if b then (table_before scenario cells (suc k)).count else said_before scenario cells k)) [
      | true ↦ omega arith
      | false ↦ omega arith
    ]

pub said-rises : (scenario : Scenario) (cells : List (Option Told)) (k i : ℕ) →
    said_before scenario cells k ≤ said_before scenario cells (i + k)
said-rises scenario cells k zero = let e : zero + k ≡ k = omega arith in rw e (omega arith)
said-rises scenario cells k (suc i) =
    let e : suc i + k ≡ suc (i + k) = omega arith in
    let before = said-rises scenario cells k i in
    let last = said-rises_one scenario cells (i + k) in
    rw e (omega arith)

-- ---- one bit of acknowledgement stands for the whole count
confirmed-least : (table : Table) → table.count ≤ confirmed table + 1
confirmed-least table =
    elim table.acknowledged as (λ b. table.count ≤ (if b then table.count else table.count - 1) + 1) [
      | true ↦ omega arith
      | false ↦ omega arith
    ]

whole_count : (table : Table) (n : ℕ) → confirmed table ≤ n → n ≤ table.count → n % 2 ≡ table.count % 2 →
    n ≡ table.count
whole_count table n low high same = let least = confirmed-least table in omega arith

-- no return packet says more than the table of the step that takes it
said-at_most : (scenario : Scenario) (cells : List (Option Told)) (j k : ℕ) → 0 < scenario.lag → j ≡ k + scenario.lag →
    said scenario cells k ≤ (table_before scenario cells j).count
said-at_most scenario cells j k lag same =
    let here = said-count scenario cells (suc k) in
    let e : j - suc k + suc k ≡ j = omega arith in
    let later : (table_before scenario cells (suc k)).count ≤ (table_before scenario cells j).count =
    rw e at (rises scenario cells (suc k) (j - suc k)) in
    omega arith

-- each cell that isn't lost is the return packet
abbrev pub IsSession : Scenario → List (Option Told) → Type 0
IsSession scenario cells = (k : ℕ) (told : Told) → slice_index_or cells k None ≡ Some told →
    told ≡ return_packet scenario cells k

pub cell-taken : (scenario : Scenario) (cells : List (Option Told)) (j : ℕ) (told : Told) →
    cell_at scenario cells j ≡ Some told →
    (scenario.lag ≤ j) × (slice_index_or cells (j - scenario.lag) None ≡ Some told)
cell-taken scenario cells j told =
    elim (nat_le scenario.lag j) as (λ b. nat_le scenario.lag j ≡ b →
    (if b then slice_index_or cells (j - scenario.lag) None else None) ≡ Some told →
    (scenario.lag ≤ j) × (slice_index_or cells (j - scenario.lag) None ≡ Some told)) [
      | true ↦ λ e is. (leb-true scenario.lag j e, is)
      | false ↦ λ e is. absurd (none-some told is)
    ] refl

-- what a return cell acknowledges: nothing, or the count that it was told of
confirmed_by-cell : (told : Option Told) (table : Table) (bound : ℕ) → confirmed table ≤ bound →
    ((packet : Told) → told ≡ Some packet → packet.rs_ack ≡ table.count % 2 → table.count ≤ bound) →
    confirmed_by told table ≤ bound
confirmed_by-cell None table bound low says = low
confirmed_by-cell (Some packet) table bound low says =
    elim (packet.rs_ack == table.count % 2)
    as (λ b. (packet.rs_ack == table.count % 2) ≡ b → (if b then table.count else confirmed table) ≤ bound) [
      | true ↦ λ e. says packet refl (eqb-true packet.rs_ack (table.count % 2) e)
      | false ↦ λ e. low
    ] refl

-- where such a packet has the RS-Ack of the count before step j, it says that very count
pub says_count : (scenario : Scenario) (cells : List (Option Told)) → IsSession scenario cells → 0 < scenario.lag →
    (j k : ℕ) → j ≡ k + scenario.lag → (told : Told) → slice_index_or cells k None ≡ Some told →
    told.rs_ack ≡ (table_before scenario cells j).count % 2 →
    confirmed (table_before scenario cells j) ≤ said scenario cells k →
    said scenario cells k ≡ (table_before scenario cells j).count
says_count scenario cells session lag j k same told is bit low =
    let packet = session k told is in
    whole_count (table_before scenario cells j) (said scenario cells k) low (said-at_most scenario cells j k lag same)
    (sym (ap (λ t. t.rs_ack) packet) ∙ bit)

opening-known : (scenario : Scenario) (cells : List (Option Told)) (n : ℕ) →
    confirmed (table_before scenario cells zero) ≤ n
unfolding after
opening-known scenario cells n = omega arith

-- what is acknowledged in the table before step j is said by each return packet that the step before it or a later one
-- takes
pub known : (scenario : Scenario) (cells : List (Option Told)) → IsSession scenario cells → 0 < scenario.lag →
    (j k : ℕ) → j ≤ suc (k + scenario.lag) → confirmed (table_before scenario cells j) ≤ said scenario cells k
known scenario cells session lag zero k near = opening-known scenario cells (said scenario cells k)
known scenario cells session lag (suc j) k near =
    let table = table_before scenario cells j in
    let cell = cell_at scenario cells j in
    let by = (step scenario cells j).confirms in
    let bound : confirmed_by cell table ≤ said scenario cells k =
    confirmed_by-cell cell table (said scenario cells k) (known scenario cells session lag j k (omega arith))
    (λ told is bit.
    let taken = cell-taken scenario cells j told is in
    let e : j ≡ j - scenario.lag + scenario.lag = omega (arith, taken.0) in
    let low = known scenario cells session lag j (j - scenario.lag) (omega (arith, e)) in
    let there = says_count scenario cells session lag j (j - scenario.lag) e told taken.1 bit low in
    let later = said-rises scenario cells (suc (j - scenario.lag)) (k - (j - scenario.lag)) in
    let place : k - (j - scenario.lag) + suc (j - scenario.lag) ≡ suc k = omega (arith, near, taken.0) in
    let at_k : said scenario cells (j - scenario.lag) ≤ said scenario cells k = rw place at later in
    omega arith)
    in rw by bound

-- ---- a return packet that isn't lost, where step j takes it
pub feedback : (scenario : Scenario) (cells : List (Option Told)) → IsSession scenario cells → 0 < scenario.lag →
    (j k : ℕ) → j ≡ k + scenario.lag → (told : Told) → slice_index_or cells k None ≡ Some told →
    (told.rs_ack ≡ (table_before scenario cells j).count % 2) ↔
    (said scenario cells k ≡ (table_before scenario cells j).count)
feedback scenario cells session lag j k same told is = (
  λ bit. says_count scenario cells session lag j k same told is bit
      (known scenario cells session lag j k (omega arith)),
  λ whole. ap (λ t. t.rs_ack) (session k told is) ∙ ap (λ n. n % 2) whole,
)

pub same_lines_since : (scenario : Scenario) (cells : List (Option Told)) (j k : ℕ) → k < j →
    said scenario cells k ≡ (table_before scenario cells j).count →
    lines_of (table_before scenario cells j).order ≡ lines_of (table_of scenario cells k).order
same_lines_since scenario cells j k before whole =
    let here = said-count scenario cells (suc k) in
    let e : j - suc k + suc k ≡ j = omega arith in
    let later : (table_before scenario cells (suc k)).count ≤ (table_before scenario cells j).count =
    rw e at (rises scenario cells (suc k) (j - suc k)) in
    let stay : (table_before scenario cells j).count ≡ (table_before scenario cells (suc k)).count →
    lines_of (table_before scenario cells j).order ≡ lines_of (table_before scenario cells (suc k)).order =
    rw e at (stays scenario cells (suc k) (j - suc k)) in
    stay (omega arith)

pub same_lines : (scenario : Scenario) (cells : List (Option Told)) → 0 < scenario.lag → (j k : ℕ) →
    j ≡ k + scenario.lag →
    said scenario cells k ≡ (table_before scenario cells j).count →
    lines_of (table_before scenario cells j).order ≡ lines_of (table_of scenario cells k).order
same_lines scenario cells lag j k same whole = same_lines_since scenario cells j k (omega arith) whole

-- ---- what is heard with one change bit is of one count
pub said-heard : (scenario : Scenario) (cells : List (Option Told)) (k : ℕ) → is_heard scenario k ≡ true →
    said scenario cells k ≡ (table_of scenario cells k).count
unfolding said_before
said-heard scenario cells k e = rw e refl

said-unheard : (scenario : Scenario) (cells : List (Option Told)) (k : ℕ) → is_heard scenario (suc k) ≡ false →
    said scenario cells (suc k) ≡ said scenario cells k
unfolding said_before
said-unheard scenario cells k e = rw e refl

-- a packet that is heard has the count that is said before it, or a count of the other parity
said-next : (scenario : Scenario) (cells : List (Option Told)) → IsSession scenario cells → 0 < scenario.lag → (k : ℕ) →
    is_heard scenario (suc k) ≡ true → (table_of scenario cells (suc k)).count % 2 ≡ said scenario cells k % 2 →
    said scenario cells (suc k) ≡ said scenario cells k
said-next scenario cells session lag k heard same =
    let here = said-heard scenario cells (suc k) heard in
    let low = said-rises_one scenario cells (suc k) in
    let known_there = known scenario cells session lag (suc (suc k)) k (omega arith) in
    let least = confirmed-least (table_of scenario cells (suc k)) in
    omega arith

one-said : (scenario : Scenario) (cells : List (Option Told)) → IsSession scenario cells → 0 < scenario.lag →
    (from i : ℕ) → is_heard scenario from ≡ true → HaveOneChg scenario cells from (i + from) →
    said scenario cells (i + from) ≡ (table_of scenario cells from).count
one-said scenario cells session lag from zero heard same =
    let e : zero + from ≡ from = omega arith in rw e (said-heard scenario cells from heard)
one-said scenario cells session lag from (suc i) heard same =
    let e : suc i + from ≡ suc (i + from) = omega arith in
    let before = one-said scenario cells session lag from i heard (λ j low high. same j low (omega arith)) in
    rw e (elim (is_heard scenario (suc (i + from))) as (λ b. is_heard scenario (suc (i + from)) ≡ b →
    said scenario cells (suc (i + from)) ≡ (table_of scenario cells from).count) [
      | true ↦ λ here.
          let bit = same (suc (i + from)) (omega arith) (omega arith) here in
          said-next scenario cells session lag (i + from) here (bit ∙ ap (λ n. n % 2) (sym before)) ∙ before
      | false ↦ λ here. said-unheard scenario cells (i + from) here ∙ before
    ] refl)

-- the count of a packet that is heard is said from there on
heard-said : (scenario : Scenario) (cells : List (Option Told)) (j k : ℕ) → j ≤ k → is_heard scenario j ≡ true →
    (table_of scenario cells j).count ≤ said scenario cells k
heard-said scenario cells j k low heard =
    let here = said-heard scenario cells j heard in
    let e : k - j + suc j ≡ suc k = omega arith in
    let later : said scenario cells j ≤ said scenario cells k = rw e at (said-rises scenario cells (suc j) (k - j)) in
    omega arith

pub one_count : (scenario : Scenario) (cells : List (Option Told)) → IsSession scenario cells → 0 < scenario.lag →
    (from k : ℕ) → from ≤ k → is_heard scenario from ≡ true →
    HaveOneChg scenario cells from k ↔ ((table_of scenario cells from).count ≡ said scenario cells k)
one_count scenario cells session lag from k low heard =
    let e : k - from + from ≡ k = omega arith in (
      λ one. sym (rw e at (one-said scenario cells session lag from (k - from) heard (rw e one))),
      λ same j late high there.
          let place : j - from + suc from ≡ suc j = omega arith in
          let rose : (table_of scenario cells from).count ≤ (table_of scenario cells j).count =
          rw place at (rises scenario cells (suc from) (j - from)) in
          let most = heard-said scenario cells j k high there in
          let count : (table_of scenario cells j).count ≡ (table_of scenario cells from).count = omega arith in
          ap (λ n. n % 2) count,
    )

-- ---- What a line said last, and the statuses that are told by it: each looks at what was read up to its own packet.
-- ---- numbers of a range that pass a test
pub any-find : (test : ℕ → Bool) (from count : ℕ) → list_any test (range_with_len from count) ≡ true →
    (n : ℕ) × (from ≤ n) × (n < from + count) × (test n ≡ true)
any-find test from zero e = absurd cc
any-find test from (suc count) e =
    elim (test from) as (λ b. test from ≡ b → (b || list_any test (range_with_len (from + 1) count)) ≡ true →
    (n : ℕ) × (from ≤ n) × (n < from + suc count) × (test n ≡ true)) [
      | true ↦ λ is e. (from, omega arith, omega arith, is)
      | false ↦ λ is e.
          let rest = any-find test (from + 1) count e in
          (rest.0, omega (arith, rest.1), omega (arith, rest.2), rest.3)
    ] refl e

pub any-at : (test : ℕ → Bool) (from count n : ℕ) → from ≤ n → n < from + count → test n ≡ true →
    list_any test (range_with_len from count) ≡ true
any-at test from zero n low high is = absurd (omega arith)
any-at test from (suc count) n low high is =
    elim (eq-or-lt_of_le low) [
      | inl same ↦ let first : test from ≡ true = subst (λ m. test m ≡ true) (sym same) is in rw first refl
      | inr later ↦
          let rest = any-at test (from + 1) count n (omega arith) (omega arith) is in
          elim (test from) as (λ b. (b || list_any test (range_with_len (from + 1) count)) ≡ true)
          [ true ↦ refl | false ↦ rest ]
    ]

-- ---- the last packet that was read
pub last-read : (read : ℕ → Bool) (k last : ℕ) → last_read read k ≡ Some last → (last ≤ k) × (read last ≡ true)
unfolding last_read
last-read read zero last e =
    elim (read zero) as (λ b. read zero ≡ b → (if b then Some zero else None) ≡ Some last →
    (last ≤ zero) × (read last ≡ true)) [
      | true ↦ λ is e.
          let same = same_Some zero last e in
          (omega (arith, same), subst (λ n. read n ≡ true) same is)
      | false ↦ λ is e. absurd (none-some last e)
    ] refl e
last-read read (suc k) last e =
    elim (read (suc k)) as (λ b. read (suc k) ≡ b → (if b then Some (suc k) else last_read read k) ≡ Some last →
    (last ≤ suc k) × (read last ≡ true)) [
      | true ↦ λ is e.
          let same = same_Some (suc k) last e in
          (omega (arith, same), subst (λ n. read n ≡ true) same is)
      | false ↦ λ is e. let rest = last-read read k last e in (omega (arith, rest.0), rest.1)
    ] refl e

pub last-here : (read : ℕ → Bool) (k : ℕ) → read k ≡ true → last_read read k ≡ Some k
unfolding last_read
last-here read zero is = rw is refl
last-here read (suc k) is = rw is refl

-- ---- the word of a line
-- a packet of a line that it said last: it was read, and tells of the count that is said
pub record IsWord (scenario : Scenario) (cells : List (Option Told)) (line k last : ℕ) : Type 0 where
  pub past : last ≤ k
  pub read : is_read scenario line last ≡ true
  pub count : (table_of scenario cells last).count ≡ said scenario cells k

word_by-some : (scenario : Scenario) (cells : List (Option Told)) (count : ℕ) (found : Option ℕ) (last : ℕ) →
    word_by scenario cells count found ≡ Some last →
    (found ≡ Some last) × ((table_of scenario cells last).count ≡ count)
word_by-some scenario cells count None last e = absurd (none-some last e)
word_by-some scenario cells count (Some n) last e =
    elim ((table_of scenario cells n).count == count)
    as (λ b. ((table_of scenario cells n).count == count) ≡ b → (if b then Some n else None) ≡ Some last →
    (Some n ≡ Some last) × ((table_of scenario cells last).count ≡ count)) [
      | true ↦ λ test e. (
        e,
        subst (λ m. (table_of scenario cells m).count ≡ count) (same_Some n last e) (eqb-true _ count test),
      )
      | false ↦ λ test e. absurd (none-some last e)
    ] refl e

pub word-of : (scenario : Scenario) (cells : List (Option Told)) (line k last : ℕ) →
    word scenario cells line k ≡ Some last →
    IsWord scenario cells line k last
word-of scenario cells line k last e =
    let parts = word_by-some scenario cells (said scenario cells k) (last_read (is_read scenario line) k) last e in
    let there = last-read (is_read scenario line) k last parts.0 in
    record { past = there.0; read = there.1; count = parts.1 }

-- where a line is read, its packet is its word
pub word-here : (scenario : Scenario) (cells : List (Option Told)) (line k : ℕ) → line < length scenario.windows →
    is_read scenario line k ≡ true → word scenario cells line k ≡ Some k
word-here scenario cells line k inside read =
    let count = sym (said-heard scenario cells k (some_heard scenario.windows line k inside read)) in
    ap (word_by scenario cells (said scenario cells k)) (last-here (is_read scenario line) k read)
    ∙ ap (λ b. if b then Some k else None) (eq-eqb _ _ count)

-- ---- a status that is OK
is_line-of : (line : ℕ) (found : Option Member) → is_line line found ≡ true →
    option_map (λ member. member.line) found ≡ Some line
is_line-of line None e = absurd cc
is_line-of line (Some member) e = ap Some (eqb-true member.line line e)

is_line-from : (line : ℕ) (found : Option Member) → option_map (λ member. member.line) found ≡ Some line →
    is_line line found ≡ true
is_line-from line None e = absurd (none-some line e)
is_line-from line (Some member) e = eq-eqb member.line line (same_Some member.line line e)

-- the line by which an SQ has OK at a packet, and the packet that says so
pub record IsSpoken (scenario : Scenario) (cells : List (Option Told)) (k sq line last : ℕ) : Type 0 where
  pub inside : line < length scenario.windows
  pub up : is_line_up scenario line k ≡ true
  pub word : word scenario cells line k ≡ Some last
  pub had : slice_get (lines_of (table_of scenario cells last).order) sq ≡ Some line

stands-of : (scenario : Scenario) (cells : List (Option Told)) (line sq : ℕ) (found : Option ℕ) →
    stands_at scenario cells line sq found ≡ true →
    (last : ℕ) × (found ≡ Some last) × (slice_get (lines_of (table_of scenario cells last).order) sq ≡ Some line)
stands-of scenario cells line sq None e = absurd cc
stands-of scenario cells line sq (Some last) e = (
  last,
  refl,
  slice_get-map (λ member. member.line) (table_of scenario cells last).order sq
      ∙ is_line-of line (slice_get (table_of scenario cells last).order sq) e,
)

pub status-of : (scenario : Scenario) (cells : List (Option Told)) (k sq : ℕ) → status scenario cells k sq ≡ true →
    (line : ℕ) × (last : ℕ) × IsSpoken scenario cells k sq line last
status-of scenario cells k sq e =
    let found = any-find
    (λ line. is_line_up scenario line k && stands_at scenario cells line sq (word scenario cells line k)) 0
    (length scenario.windows) e in
    let parts = and_parts (is_line_up scenario found.0 k)
    (stands_at scenario cells found.0 sq (word scenario cells found.0 k)) found.3 in
    let stands = stands-of scenario cells found.0 sq (word scenario cells found.0 k) parts.1 in (
      found.0,
      stands.0,
      record { inside = omega (arith, found.2); up = parts.0; word = stands.1; had = stands.2 },
    )

pub status-from : (scenario : Scenario) (cells : List (Option Told)) (k sq line last : ℕ) →
    IsSpoken scenario cells k sq line last → status scenario cells k sq ≡ true
status-from scenario cells k sq line last spoken =
    let inside = spoken.inside in
    let stands : stands_at scenario cells line sq (word scenario cells line k) ≡ true =
    ap (stands_at scenario cells line sq) spoken.word
    ∙ is_line-from line (slice_get (table_of scenario cells last).order sq)
    (sym (slice_get-map (λ member. member.line) (table_of scenario cells last).order sq) ∙ spoken.had) in
    any-at (λ line. is_line_up scenario line k && stands_at scenario cells line sq (word scenario cells line k)) 0
    (length scenario.windows) line (omega arith) (omega arith)
    (and_from (is_line_up scenario line k) (stands_at scenario cells line sq (word scenario cells line k)) spoken.up
    stands)

pub status-none : (scenario : Scenario) (cells : List (Option Told)) (k sq : ℕ) →
    ((line last : ℕ) → IsSpoken scenario cells k sq line last → ⊥) → status scenario cells k sq ≡ false
status-none scenario cells k sq none =
    elim (status scenario cells k sq) as (λ b. status scenario cells k sq ≡ b → b ≡ false) [
      | true ↦ λ e. let found = status-of scenario cells k sq e in absurd (none found.0 found.1 found.2)
      | false ↦ λ e. refl
    ] refl

-- ---- The statuses that are kept, as a list by SQ: there are always 128 of them.
pub none_kept-at : (sq : ℕ) → slice_index_or none_kept sq None ≡ None
unfolding none_kept
none_kept-at sq = replicate-at most_lines None sq

pub none_kept-some : (sq : ℕ) (ok : Bool) → slice_index_or none_kept sq None ≡ Some ok → ⊥
none_kept-some sq ok e = none-some ok (sym (none_kept-at sq) ∙ e)

none_kept-size : length none_kept ≡ most_lines
unfolding none_kept
none_kept-size = length-replicate {A = Option Bool} most_lines None

pub keep-size : (group : ℕ) (oks : List Bool) (base : ℕ) (statuses : List (Option Bool)) →
    length (keep group oks base statuses) ≡ length statuses
unfolding keep
keep-size group oks base [] = refl
keep-size group oks base (old ∷ statuses) = ap suc (keep-size group oks (base + 1) statuses)

keep-at_from : (group : ℕ) (oks : List Bool) (base : ℕ) (statuses : List (Option Bool)) (sq : ℕ) →
    sq < length statuses →
    slice_index_or (keep group oks base statuses) sq None
    ≡ (if (base + sq) / 8 == group then slice_get oks ((base + sq) % 8) else slice_index_or statuses sq None)
unfolding keep
keep-at_from group oks base [] sq h = absurd (omega arith)
keep-at_from group oks base (old ∷ statuses) zero h = let e : base + zero ≡ base = omega arith in rw e refl
keep-at_from group oks base (old ∷ statuses) (suc sq) h =
    let e : base + suc sq ≡ base + 1 + sq =
    omega arith in rw e (keep-at_from group oks (base + 1) statuses sq (omega arith))

pub keep-at : (group : ℕ) (oks : List Bool) (statuses : List (Option Bool)) (sq : ℕ) → sq < length statuses →
    slice_index_or (keep group oks 0 statuses) sq None ≡
    (if sq / 8 == group then slice_get oks (sq % 8) else slice_index_or statuses sq None)
keep-at group oks statuses sq h = let e : 0 + sq ≡ sq = omega arith in rw e at (keep-at_from group oks 0 statuses sq h)

pub inside-of_some : {X : Type 0} (xs : List (Option X)) (k : ℕ) (x : X) → slice_index_or xs k None ≡ Some x →
    k < length xs
inside-of_some [] k x e = absurd (let f : None ≡ Some x = e in cc)
inside-of_some (y ∷ xs) zero x e = omega arith
inside-of_some (y ∷ xs) (suc k) x e = let h = inside-of_some xs k x e in omega arith

-- ---- always 128
abbrev pub IsFull : Table → Type 0
IsFull table = length table.statuses ≡ most_lines

full-heard : (group : ℕ) (told : Option Told) (table : Table) → IsFull table → IsFull (heard group told table)
full-heard group told table full =
    elim (is_for table.count told) as (λ b. IsFull (if b then acknowledged_by group told table else table)) [
      | true ↦ keep-size group _ 0 table.statuses ∙ full
      | false ↦ full
    ]

full-exchanged : (found : Option (List Member)) (table : Table) → IsFull table → IsFull (exchanged found table)
full-exchanged None table full = full
full-exchanged (Some order) table full = none_kept-size

full-change_by : (commands : List Command) (source : Source) (table : Table) → IsFull table →
    IsFull (change_by commands source table).table
full-change_by [] source table full = full-exchanged (exchange (kept_of table) 0 table.order) table full
full-change_by (add line ∷ commands) source table full = none_kept-size
full-change_by (remove line ∷ commands) source table full = none_kept-size

full-change : (source : Source) (table : Table) → IsFull table → IsFull (change source table).table
full-change source table full =
    elim table.acknowledged as (λ b. IsFull (if b then change_by source.waiting source table
    else record { table = table; planned = source.planned; waiting = source.waiting }).table) [
      | true ↦ full-change_by source.waiting source table full
      | false ↦ full
    ]

pub full-after : (scenario : Scenario) (cells : List (Option Told)) (j : ℕ) → IsFull (table_before scenario cells j)
unfolding after
full-after scenario cells zero = none_kept-size
full-after scenario cells (suc j) =
    let source = asked_all (length scenario.windows) (orders_at scenario j) (after scenario cells j) in
    let same = asked_all-table (length scenario.windows) (orders_at scenario j) (after scenario cells j) in
    full-change source (told_on (heard (group_of scenario (j - scenario.lag)) (cell_at scenario cells j) source.table))
    (full-heard (group_of scenario (j - scenario.lag)) (cell_at scenario cells j) source.table
    (subst IsFull (sym same) (full-after scenario cells j)))

-- ---- More return cells after a list change nothing of what came before: the return cells of a session are return packets
-- or lost.
-- ---- steps that take the same cells
abbrev pub Agree : Scenario → List (Option Told) → List (Option Told) → ℕ → Type 0
Agree scenario a b j = (i : ℕ) → i < j → cell_at scenario a i ≡ cell_at scenario b i

pub Agree-sooner : (scenario : Scenario) (a b : List (Option Told)) (i j : ℕ) → i ≤ j → Agree scenario a b j →
    Agree scenario a b i
Agree-sooner scenario a b i j sooner agree k inside = agree k (omega arith)

pub after-agree : (scenario : Scenario) (a b : List (Option Told)) (j : ℕ) → Agree scenario a b j →
    after scenario a j ≡ after scenario b j
unfolding after
after-agree scenario a b zero agree = refl
after-agree scenario a b (suc j) agree =
    let before = after-agree scenario a b j (Agree-sooner scenario a b j (suc j) (omega arith) agree) in
    let cell = agree j (omega arith) in
    ap (λ source. decide ((j - scenario.lag) % scenario.options.statuses) (cell_at scenario a j)
    (asked_all (length scenario.windows) (orders_at scenario j) source)) before
    ∙ ap (λ told. decide ((j - scenario.lag) % scenario.options.statuses) told
    (asked_all (length scenario.windows) (orders_at scenario j) (after scenario b j))) cell

pub said_before-agree : (scenario : Scenario) (a b : List (Option Told)) (k : ℕ) → Agree scenario a b k →
    said_before scenario a k ≡ said_before scenario b k
unfolding said_before
said_before-agree scenario a b zero agree = refl
said_before-agree scenario a b (suc k) agree =
    let before = said_before-agree scenario a b k (Agree-sooner scenario a b k (suc k) (omega arith) agree) in
    let source = after-agree scenario a b (suc k) agree in
    ap (λ source. if is_heard scenario k then source.table.count else said_before scenario a k) source
    ∙ ap (λ n. if is_heard scenario k then (table_of scenario b k).count else n) before

-- what a line said last, and by it
stands-same : (scenario : Scenario) (a b : List (Option Told)) (line sq count last : ℕ) →
    table_of scenario a last ≡ table_of scenario b last →
    stands_at scenario a line sq (word_by scenario a count (Some last))
    ≡ stands_at scenario b line sq (word_by scenario b count (Some last))
stands-same scenario a b line sq count last same =
    elim ((table_of scenario a last).count == count)
    as (λ c. stands_at scenario a line sq (if c then Some last else None)
    ≡ stands_at scenario b line sq (if c then Some last else None)) [
      | true ↦ ap (λ table. is_line line (slice_get table.order sq)) same
      | false ↦ refl
    ]
    ∙ ap (λ table. stands_at scenario b line sq (if table.count == count then Some last else None)) same

stands-agree : (scenario : Scenario) (a b : List (Option Told)) (line sq count k : ℕ) (found : Option ℕ) →
    Agree scenario a b (suc k) → ((last : ℕ) → found ≡ Some last → last ≤ k) →
    stands_at scenario a line sq (word_by scenario a count found)
    ≡ stands_at scenario b line sq (word_by scenario b count found)
stands-agree scenario a b line sq count k None agree past = refl
stands-agree scenario a b line sq count k (Some last) agree past =
    let within = past last refl in
    stands-same scenario a b line sq count last (ap (λ source. source.table) (after-agree scenario a b (suc last)
    (Agree-sooner scenario a b (suc last) (suc k) (omega arith) agree)))

pub status-agree : (scenario : Scenario) (a b : List (Option Told)) (k sq : ℕ) → Agree scenario a b (suc k) →
    status scenario a k sq ≡ status scenario b k sq
status-agree scenario a b k sq agree =
    ap (λ test. list_any test (range_with_len 0 (length scenario.windows))) (fun_ext (λ line.
    ap (λ stands. is_line_up scenario line k && stands)
    (stands-agree scenario a b line sq (said scenario a k) k (last_read (is_read scenario line) k) agree
    (λ last e. (last-read (is_read scenario line) k last e).0)
    ∙ ap (λ count. stands_at scenario b line sq (word_by scenario b count (last_read (is_read scenario line) k)))
    (said_before-agree scenario a b (suc k) agree))))

pub return_cell-agree : (scenario : Scenario) (a b : List (Option Told)) (k : ℕ) → Agree scenario a b (suc k) →
    return_cell scenario a k ≡ return_cell scenario b k
return_cell-agree scenario a b k agree =
    let said = said_before-agree scenario a b (suc k) agree in
    ap (λ n. if is_lost scenario k then None else Some
    (record { rs_ack = n % 2; oks = (return_packet scenario a k).oks })) said
    ∙ ap (λ (ok : ℕ → Bool). if is_lost scenario k then None else Some (record {
      rs_ack = said_before scenario b (suc k) % 2;
      oks = map (λ i. ok (8 * group_of scenario k + i)) (0 ∷ 1 ∷ 2 ∷ 3 ∷ 4 ∷ 5 ∷ 6 ∷ 7 ∷ []);
    })) (fun_ext (λ sq. status-agree scenario a b k sq agree))

-- ---- longer lists of cells

-- step j needs the cells up to j - lag alone
pub Agree-append : (scenario : Scenario) (cells more : List (Option Told)) (j : ℕ) → j ≤ length cells + scenario.lag →
    Agree scenario (cells ++ more) cells j
Agree-append scenario cells more j enough i inside =
    elim (nat_le scenario.lag i) as (λ b. nat_le scenario.lag i ≡ b →
    (if b then slice_index_or (cells ++ more) (i - scenario.lag) None else None) ≡
    (if b then slice_index_or cells (i - scenario.lag) None else None)) [
      | true ↦ λ e. let low = leb-true scenario.lag i e in
          get_or_append_left cells more None (i - scenario.lag) (omega arith)
      | false ↦ λ e. refl
    ] refl

pub Agree-take : (scenario : Scenario) (a b : List (Option Told)) (j : ℕ) →
    take (j + 1 - scenario.lag) a ≡ take (j + 1 - scenario.lag) b → Agree scenario a b (suc j)
Agree-take scenario a b j same i inside =
    elim (nat_le scenario.lag i) as (λ b'. nat_le scenario.lag i ≡ b' →
    (if b' then slice_index_or a (i - scenario.lag) None else None) ≡
    (if b' then slice_index_or b (i - scenario.lag) None else None)) [
      | true ↦ λ e.
          let low = leb-true scenario.lag i e in
          let within : i - scenario.lag < j + 1 - scenario.lag = omega arith in
          sym (get_or-take (j + 1 - scenario.lag) a (i - scenario.lag) None within)
          ∙ ap (λ cells. slice_index_or cells (i - scenario.lag) None) same
          ∙ get_or-take (j + 1 - scenario.lag) b (i - scenario.lag) None within
      | false ↦ λ e. refl
    ] refl

pub Agree-first : (scenario : Scenario) (a b : List (Option Told)) (n : ℕ) →
    take (n - scenario.lag) a ≡ take (n - scenario.lag) b → Agree scenario a b n
Agree-first scenario a b zero same i inside = absurd (omega arith)
Agree-first scenario a b (suc j) same i inside =
    let e : suc j - scenario.lag ≡ j + 1 - scenario.lag = omega arith in
    Agree-take scenario a b j (rw e at same) i inside

pub table_of-take : (scenario : Scenario) (a b : List (Option Told)) (j : ℕ) →
    take (j + 1 - scenario.lag) a ≡ take (j + 1 - scenario.lag) b → table_of scenario a j ≡ table_of scenario b j
table_of-take scenario a b j same =
    ap (λ source. source.table) (after-agree scenario a b (suc j) (Agree-take scenario a b j same))

-- ---- the cells of a session
pub cells_before-length : (scenario : Scenario) (k : ℕ) → length (cells_before scenario k) ≡ k
unfolding cells_before
cells_before-length scenario zero = refl
cells_before-length scenario (suc k) =
    let before = cells_before-length scenario k in
    let whole = length-append (cells_before scenario k) (return_cell scenario (cells_before scenario k) k ∷ []) in
    whole ∙ (let e : length (cells_before scenario k) + 1 ≡ suc k = omega arith in e)

cells_before-next : (scenario : Scenario) (k : ℕ) →
    cells_before scenario (suc k) ≡ cells_before scenario k ++ return_cell scenario (cells_before scenario k) k ∷ []
unfolding cells_before
cells_before-next scenario k = refl

abbrev pub Begins : List (Option Told) → List (Option Told) → Type 0
Begins whole front = (rest : List (Option Told)) × (whole ≡ front ++ rest)

-- a longer session extends a shorter one
pub cells_before-longer : (scenario : Scenario) (k i : ℕ) →
    Begins (cells_before scenario (i + k)) (cells_before scenario k)
cells_before-longer scenario k zero = ([], (let e : zero + k ≡ k = omega arith in rw (e, append-nil)))
cells_before-longer scenario k (suc i) =
    let before = cells_before-longer scenario k i in (
      before.0 ++ return_cell scenario (cells_before scenario (i + k)) (i + k) ∷ [],
      (let e : suc i + k ≡ suc (i + k) = omega arith in
          ap (cells_before scenario) e ∙ cells_before-next scenario (i + k)
          ∙ ap (λ cells. cells ++ return_cell scenario (cells_before scenario (i + k)) (i + k) ∷ []) before.1
          ∙ append_assoc (cells_before scenario k) before.0 _),
    )

pub cells_before-prefix : (scenario : Scenario) (n more : ℕ) →
    take n (cells_before scenario (n + more)) ≡ cells_before scenario n
cells_before-prefix scenario n more =
    let longer = cells_before-longer scenario n more in
    let size = cells_before-length scenario n in
    let e : n + more ≡ more + n = omega arith in
    let same : cells_before scenario (n + more) ≡ cells_before scenario n ++ longer.0 = ap (cells_before scenario) e
    ∙ longer.1 in
    rw same (take_at (cells_before scenario n) longer.0 n size)

-- the cells before packet k, and packet k
pub cells_before-split : (scenario : Scenario) (n k : ℕ) → k < n →
    (rest : List (Option Told)) × (cells_before scenario n ≡ cells_before scenario k ++ return_cell scenario
    (cells_before scenario k) k ∷ rest)
cells_before-split scenario n k inside =
    let longer = cells_before-longer scenario (suc k) (n - suc k) in
    let e : n - suc k + suc k ≡ n = omega arith in (
      longer.0,
      ap (cells_before scenario) (sym e) ∙ longer.1 ∙ ap (λ cells. cells ++ longer.0) (cells_before-next scenario k)
          ∙ append_assoc (cells_before scenario k) (return_cell scenario (cells_before scenario k) k ∷ []) longer.0,
    )

pub session-cell : (scenario : Scenario) (n k : ℕ) → 0 < scenario.lag → k < n →
    slice_index_or (cells_before scenario n) k None ≡ return_cell scenario (cells_before scenario n) k
session-cell scenario n k lag inside =
    let split = cells_before-split scenario n k inside in
    let size = cells_before-length scenario k in
    let cell = return_cell scenario (cells_before scenario k) k in
    let seam = get_or_at (cells_before scenario k) cell split.0 None (length (cells_before scenario k)) refl in
    let agree = Agree-append scenario (cells_before scenario k) (cell ∷ split.0) (suc k) (omega arith) in
    let same = return_cell-agree scenario (cells_before scenario k ++ cell ∷ split.0)
    (cells_before scenario k) k agree in
    rw split.1 (rw size at seam ∙ sym same)

-- a cell that came is the return packet, and wasn't lost
abbrev Came : Scenario → List (Option Told) → ℕ → Told → Type 0
Came scenario cells k told = (is_lost scenario k ≡ false) × (told ≡ return_packet scenario cells k)

came : (scenario : Scenario) (cells : List (Option Told)) (k : ℕ) (told : Told) →
    return_cell scenario cells k ≡ Some told →
    Came scenario cells k told
came scenario cells k told =
    elim (is_lost scenario k) as (λ b. (if b then None else Some (return_packet scenario cells k)) ≡ Some told →
    (b ≡ false) × (told ≡ return_packet scenario cells k)) [
      | true ↦ λ is. absurd (none-some told is)
      | false ↦ λ is. (refl, sym (same_Some (return_packet scenario cells k) told is))
    ]

session-came : (scenario : Scenario) (n k : ℕ) (told : Told) → 0 < scenario.lag →
    slice_index_or (cells_before scenario n) k None ≡ Some told → Came scenario (cells_before scenario n) k told
session-came scenario n k told lag is =
    let size = cells_before-length scenario n in
    elim (cases_lt k n) [
      | inl inside ↦ came scenario (cells_before scenario n) k told (sym (session-cell scenario n k lag inside) ∙ is)
      | inr beyond ↦ absurd (none-some told (sym (get_or_past (cells_before scenario n) k None (omega arith)) ∙ is))
    ]

pub session-law : (scenario : Scenario) (n : ℕ) → 0 < scenario.lag → IsSession scenario (cells_before scenario n)
session-law scenario n lag k told is = (session-came scenario n k told lag is).1

pub session-kept : (scenario : Scenario) (n k : ℕ) (told : Told) → 0 < scenario.lag →
    slice_index_or (cells_before scenario n) k None ≡ Some told → is_lost scenario k ≡ false
session-kept scenario n k told lag is = (session-came scenario n k told lag is).0
