-- The containers of a frame, dealt to the members: lines that carry payload, their ranks and parts.
use Rattle.std.proofs.Common.{◌≡◌, ℕ, zero, suc, ◌+◌, ◌<◌, ◌≤◌, true, false, if◌then◌else◌, inl, inr, List, [], ◌∷◌}
use Rattle.std.proofs.Common.{map, filter, length, slice_index, subst, arith, ◌≢◌, ◌-◌, ◌*◌, ◌==◌, Bool, ◌++◌, take}
use Rattle.std.proofs.Common.{drop, replicate, slice_index_or, slice_set, Option, Some, None, refl, sym, ◌∙◌, ap, ap₂}
use Rattle.std.proofs.Common.{length-drop, is_some, eqb-true, length-take-le, ◌/◌, ◌%◌}
use Rattle.std.proofs.lemmas.Bool.{cases_lt, eqb-false, false≢true, false_from_ne_true, lt-ltb, le-ltb}
use Rattle.law_model.specs.Common.{is_normal, active, Source, planned_of, Container, part_of, rank_of, payload_by}
use Rattle.law_model.specs.Common.{Piece, stream_of, size, Scenario, Told, after, table_of, payload_of, payload_on}
use Rattle.law_model.specs.Common.{active_at}
use Rattle.law_model.specs.declared.lcas_states.Member.{Member}
use Rattle.law_session.specs.Feedback.{lines_of}
use Rattle.law_session.proofs.SourceOrderAndPlanLaws.{one, one-self, times, IsBelow, IsPlan-once, Fits, Fits-size}
use Rattle.law_session.proofs.SourceOrderAndPlanLaws.{Fits-after}
use Rattle.member_rows.specs.vcat_interleave.MemberPayloads.{AreLines, with_octets}
use Rattle.member_rows.specs.vcat_interleave.Spread.{AreDistinct, SpreadsOver, Spreads}
use Rattle.terminal_source.specs.source_core.StepOfTerminal.{AreMembers}
use Rattle.std.specs.List.{position_from}
use Rattle.std.proofs.lemmas.List.{get_or-replicate, length-replicate, get_or_append_left}
use Rattle.std.proofs.Math.ListN.{get_or-eq_default}
use Rattle.std.proofs.lemmas.List.FromFn.{fill_by_all}
use Rattle.member_rows.proofs.RowPartAndLaneLaws.{length-part_of, is-part_of, get-part_of, place-within}
use Rattle.member_rows.proofs.PutOctetAndRowSpreadLaws.{spreads-none, spreads-next}
use Rattle.terminal_source.specs.source_core.FrameContainers.{h4_by, carries, IsBegun, AreBegun, container_by}
use Rattle.terminal_source.specs.source_core.FrameContainers.{containers_by}
use Rattle.law_session.proofs.ClientStreamAndReplayLaws.{payload-length}
use Rattle.terminal_source.specs.source_core.Dealt.{IsDealt}
use Rattle.terminal_source.proofs.TerminalTickSteps.{active-at, width-at}

-- ---- The lines that carry payload: each is one of the group's, and none stands twice.
-- what stands at a place stands once at least, and what stands at two places twice
times-at : (xs : List ℕ) (i : ℕ) → i < length xs → 1 ≤ times xs (slice_index xs i)
times-at [] i low = absurd (omega arith)
times-at (x ∷ xs) zero low = let self = one-self x in omega arith
times-at (x ∷ xs) (suc i) low = let later = times-at xs i (omega arith) in omega arith

times-twice : (xs : List ℕ) (i j : ℕ) → i < j → j < length xs → slice_index xs i ≡ slice_index xs j →
    2 ≤ times xs (slice_index xs j)
times-twice [] i j before low same = absurd (omega arith)
times-twice (x ∷ xs) i zero before low same = absurd (omega arith)
times-twice (x ∷ xs) zero (suc j) before low same =
    let later = times-at xs j (omega arith) in
    let self : one x (slice_index xs j) ≡ 1 = subst (λ y. one x y ≡ 1) same (one-self x) in
    omega arith
times-twice (x ∷ xs) (suc i) (suc j) before low same =
    let later = times-twice xs i j (omega arith) (omega arith) same in omega arith

distinct-of_times : (xs : List ℕ) → ((l : ℕ) → times xs l ≤ 1) → AreDistinct xs
distinct-of_times xs once i j before low same = let two = times-twice xs i j before low same in
    let most = once (slice_index xs j) in absurd (omega arith)

among-of_times : (n : ℕ) (xs : List ℕ) → IsBelow n (times xs) → AreLines n xs
among-of_times n xs inside i low =
    elim (cases_lt (slice_index xs i) n) [
      | inl less ↦ less
      | inr more ↦ let none = inside (slice_index xs i) more in let some = times-at xs i low in absurd (omega arith)
    ]

-- the lines in use stand in the order
kept-times : (order : List Member) (l : ℕ) →
    times (map (λ member. member.line) (filter is_normal order)) l ≤ times (lines_of order) l
kept-times [] l = omega arith
kept-times (member ∷ order) l =
    let rest = kept-times order l in
    elim (is_normal member) as (λ b. times
    (map (λ member. member.line) (if b then member ∷ filter is_normal order else filter is_normal order)) l ≤ one
    member.line l + times (lines_of order) l) [
      | true ↦ omega arith
      | false ↦ omega arith
    ]

kept-length : (order : List Member) →
    length (map (λ (member : Member). member.line) (filter is_normal order)) ≤ length order
kept-length [] = omega arith
kept-length (member ∷ order) =
    let rest = kept-length order in
    elim (is_normal member) as (λ b. length
    (map (λ (member : Member). member.line) (if b then member ∷ filter is_normal order else filter is_normal order))
    ≤ suc (length order)) [
      | true ↦ omega arith
      | false ↦ omega arith
    ]

pub active-members : (lines : ℕ) (source : Source) → Fits lines source → AreMembers lines (active source.table)
active-members lines source fits =
    let order = source.table.order in
    let once = IsPlan-once lines (times (lines_of order)) source.waiting (planned_of source) fits.0.1 in
    let size = Fits-size lines source fits in
    let few = kept-length order in
    record {
      among = among-of_times lines (active source.table)
          (λ l high. let none = fits.0.0 l high in let less = kept-times order l in omega arith);
      distinct = distinct-of_times (active source.table)
          (λ l. let most = once l in let less = kept-times order l in omega arith);
      most = omega arith;
    }

-- ---- The containers of a frame: H4 and zeros first, and then the row over the lines that carry payload.
-- ---- the place of a line among lines
-- a line stands at its place, or nowhere
abbrev pub IsRank : List ℕ → ℕ → ℕ → Option ℕ → Type 0
IsRank lines line from None = (rank : ℕ) → rank < length lines → slice_index lines rank ≢ line
IsRank lines line from (Some place) = (rank : ℕ) × (place ≡ from + rank) × (rank < length lines) ×
    (slice_index lines rank ≡ line)

IsRank-later : (first : ℕ) (lines : List ℕ) (line from : ℕ) (found : Option ℕ) → first ≢ line →
    IsRank lines line (from + 1) found → IsRank (first ∷ lines) line from found
IsRank-later first lines line from None other none = later where
  later : (rank : ℕ) → rank < suc (length lines) → slice_index (first ∷ lines) rank ≢ line
  later zero low same = other same
  later (suc rank) low same = none rank (omega arith) same
IsRank-later first lines line from (Some place) other found =
    (suc found.0, omega (arith, found.1), omega (arith, found.2), found.3)

IsRank-from : (lines : List ℕ) (line from : ℕ) →
    IsRank lines line from (position_from (λ other. other == line) from lines)
IsRank-from [] line from = λ rank low same. omega arith
IsRank-from (first ∷ lines) line from =
    elim (first == line) as (λ b. (first == line) ≡ b →
    IsRank (first ∷ lines) line from
    (if b then Some from else position_from (λ other. other == line) (from + 1) lines)) [
      | true ↦ λ e. (zero, omega arith, omega arith, eqb-true first line e)
      | false ↦ λ e. IsRank-later first lines line from (position_from (λ other. other == line) (from + 1) lines)
          (eqb-false first line e) (IsRank-from lines line (from + 1))
    ] refl

pub rank_of-is : (lines : List ℕ) (line : ℕ) → IsRank lines line 0 (rank_of lines line)
rank_of-is lines line = IsRank-from lines line 0

-- no line is marked at first
pub no-mark : (lines line : ℕ) → slice_index_or (replicate lines false) line false ≡ true → ⊥
no-mark lines line marked =
    elim (cases_lt line lines) [
      | inl low ↦ false≢true (sym (get_or-replicate lines line false false low) ∙ marked)
      | inr high ↦ false≢true (sym (get_or-eq_default (replicate lines false) false
          (let e : length (replicate lines false) ≤ line = omega (arith, length-replicate lines false) in e)) ∙ marked)
    ]

-- which lines are marked, where each of those that carry payload is and no other
pub marked-is : (active : List ℕ) (marks : List Bool) (line : ℕ) →
    ((rank : ℕ) → rank < length active → slice_index_or marks (slice_index active rank) false ≡ true) →
    (slice_index_or marks line false ≡ true → (rank : ℕ) × (rank < length active) × (slice_index active rank ≡ line)) →
    slice_index_or marks line false ≡ carries active line
marked-is active marks line all only = is (rank_of active line) (rank_of-is active line) where
  is : (found : Option ℕ) → IsRank active line 0 found → slice_index_or marks line false ≡ is_some found
  is (Some place) found = sym (ap (λ n. slice_index_or marks n false) found.3) ∙ all found.0 found.2
  is None none = false_from_ne_true (slice_index_or marks line false) (λ e. let one = only e in none one.0 one.1 one.2)

-- ---- a part of a row, put into a container that was begun
pub IsBegun-as : (h4 other filled more : ℕ) (one same : Container) → h4 ≡ other → filled ≡ more → one ≡ same →
    IsBegun h4 filled one → IsBegun other more same
IsBegun-as h4 other filled more one same header size is begun =
    subst (IsBegun other more) is (subst (λ n. IsBegun other n one) size
    (subst (λ n. IsBegun n filled one) header begun))

part-put : (h4 size : ℕ) (part : List ℕ) (container : Container) → length part ≡ size → IsBegun h4 size container →
    with_octets 0 part container ≡ record { h4 = h4; payload = part ++ replicate (2340 - size) 0 }
part-put h4 size part container long begun =
    let place : 0 + length part ≡ size = omega arith in
    ap₂ (λ (h : ℕ) (rest : List ℕ). record { h4 = h; payload = part ++ rest }) begun.header
    (ap (λ n. drop n container.payload) place ∙ begun.zeros)

-- one that has no octets of the stream
empty : (h4 : ℕ) (container : Container) → IsBegun h4 0 container →
    container ≡ record { h4 = h4; payload = replicate 2340 0 }
empty h4 container begun = ap₂ (λ (h : ℕ) (payload : List ℕ). record { h4 = h; payload = payload }) begun.header
    begun.zeros

-- ---- all lines
pub sent-frame : (lines t : ℕ) (nibbles : List (List ℕ)) (active : List ℕ) (size : ℕ) (row : List ℕ)
    (before after : List Container) →
    AreBegun t nibbles active size lines before → Spreads 0 size row active before after → length before ≡ lines →
    after ≡ containers_by lines t nibbles active size row
sent-frame lines t nibbles active size row before after begun spreads long =
    fill_by_all (container_by t nibbles active size row) after lines none (spreads.lines ∙ long) each where
      none : Container
      none = record { h4 = 0; payload = [] }

      header : ℕ → ℕ
      header line = h4_by t (slice_index_or nibbles line [])

      one : (line : ℕ) → (found : Option ℕ) → IsRank active line 0 found →
          IsBegun (header line) (if is_some found then size else 0) (slice_index_or before line none) →
          slice_index_or after line none ≡
          record { h4 = header line; payload = payload_by found (length active) size row }
      one line None apart is = spreads.others line none (λ rank above low. apart rank low)
          ∙ empty (header line) (slice_index_or before line none) is
      one line (Some place) found is =
          let rank = found.0 in
          let same : rank ≡ place = omega (arith, found.1) in
          let part = part_of rank (length active) size row in
          sym (ap (λ n. slice_index_or after n none) found.3)
          ∙ spreads.members rank none (omega arith) found.2
          ∙ ap (λ n. with_octets 0 part (slice_index_or before n none)) found.3
          ∙ part-put (header line) size part (slice_index_or before line none)
          (length-part_of rank (length active) size row) is
          ∙ ap (λ n. record {
            h4 = header line;
            payload =
                part_of n (length active) size row ++ replicate (2340 - size) 0;
          }) same

      each : (line : ℕ) → line < lines → slice_index_or after line none ≡ container_by t nibbles active size row line
      each line low = one line (rank_of active line) (rank_of-is active line) (begun line none low)

-- ---- one member
-- its part is the row
part_of-one : (row : List ℕ) → part_of 0 1 (length row) row ≡ row
part_of-one row = sym (is-part_of row row 0 1
    (λ p low. let place : p ≡ p * 1 + 0 = omega arith in ap (slice_index row) place))

-- the row is put into its container
pub spreads-one : (size : ℕ) (row active : List ℕ) (before after : List Container) → length active ≡ 1 →
    AreDistinct active → AreLines (length before) active → length row ≡ size →
    ((d : Container) → after ≡ slice_set before (slice_index active 0)
    (with_octets 0 row (slice_index_or before (slice_index active 0) d))) →
    Spreads 0 size row active before after
spreads-one size row active before after single distinct lines long put =
    let part : row ≡ part_of 0 (length active) size row =
    sym (part_of-one row) ∙ ap (λ x. part_of 0 x (length row) row) (sym single)
    ∙ ap (λ n. part_of 0 (length active) n row) long in
    subst (λ upto. SpreadsOver 0 upto 0 size row active before after) (sym single)
    (spreads-next 0 0 0 size row active before before after distinct lines (omega arith) (omega arith)
    (λ d. put d ∙ ap (λ part. slice_set before (slice_index active 0)
    (with_octets 0 part (slice_index_or before (slice_index active 0) d))) part)
    (spreads-none 0 0 0 size row active before (omega arith)))

-- the next octets of a stream are as many as it has been reached for
pub next-size : (place n : ℕ) (pieces : List Piece) → place + n ≤ length (stream_of pieces) →
    length (take n (drop place (stream_of pieces))) ≡ n
next-size place n pieces within =
    length-take-le n (drop place (stream_of pieces)) (omega (arith, length-drop place (stream_of pieces)))

-- ---- How the octets of a frame are dealt to the lines that carry payload.
pub governed : (scenario : Scenario) (cells : List (Option Told)) (k i : ℕ) → i < 16 →
    active_at scenario cells (16 * k + 24 + i) ≡ active (table_of scenario cells k)
governed scenario cells k i low =
    let t = 16 * k + 24 + i in
    let same : (16 * k + 24 + i - 24) / 16 ≡ k = omega arith in
    ap (λ b. if b then [] else active (table_of scenario cells ((16 * k + 24 + i - 24) / 16)))
    (le-ltb (16 * k + 24 + i) 24 (omega arith))
    ∙ ap (λ k. active (table_of scenario cells k)) same

pub none-before : (scenario : Scenario) (cells : List (Option Told)) (t : ℕ) → t < 24 → active_at scenario cells t ≡ []
none-before scenario cells t low =
    ap (λ b. if b then [] else active (table_of scenario cells ((t - 24) / 16))) (lt-ltb t 24 low)

pub members-at : (scenario : Scenario) (cells : List (Option Told)) (t : ℕ) →
    AreMembers (length scenario.windows) (active_at scenario cells t)
members-at scenario cells t =
    subst (AreMembers (length scenario.windows)) (sym (active-at scenario cells t))
    (active-members (length scenario.windows) (after scenario cells ((t + 1 + 7) / 16 - 1))
    (Fits-after scenario cells ((t + 1 + 7) / 16 - 1)))

pub size-at : (scenario : Scenario) (cells : List (Option Told)) (t : ℕ) →
    length (payload_of scenario cells t) ≡ scenario.size * length (active_at scenario cells t)
size-at scenario cells t = payload-length scenario cells t ∙ ap (λ n. scenario.size * n) (width-at scenario cells t)

-- the line at a rank has that rank
same-rank : (lines : List ℕ) (rank other : ℕ) → AreDistinct lines → rank < length lines → other < length lines →
    slice_index lines rank ≡ slice_index lines other → rank ≡ other
same-rank lines rank other distinct low below same =
    elim (cases_lt rank other) [
      | inl less ↦ absurd (distinct rank other less below same)
      | inr more ↦ elim (cases_lt other rank) [
        | inl less ↦ absurd (distinct other rank less low (sym same))
        | inr high ↦ omega arith
      ]
    ]

rank-found : (lines : List ℕ) (rank : ℕ) (found : Option ℕ) → AreDistinct lines → rank < length lines →
    IsRank lines (slice_index lines rank) 0 found → found ≡ Some rank
rank-found lines rank None distinct low none = absurd (none rank low refl)
rank-found lines rank (Some place) distinct low found =
    let same = same-rank lines found.0 rank distinct found.2 low found.3 in
    let is : place ≡ rank = omega (arith, found.1, same) in
    ap Some is

rank_of-at : (lines : List ℕ) (rank : ℕ) → AreDistinct lines → rank < length lines →
    rank_of lines (slice_index lines rank) ≡ Some rank
rank_of-at lines rank distinct low =
    rank-found lines rank (rank_of lines (slice_index lines rank)) distinct low
    (rank_of-is lines (slice_index lines rank))

octet-dealt : (lines : List ℕ) (size i : ℕ) (row : List ℕ) → AreDistinct lines → i < size * length lines →
    slice_index (payload_on lines (slice_index lines (i % length lines)) size row) (i / length lines)
    ≡ slice_index row i
octet-dealt lines size i row distinct low =
    let x = length lines in
    let within = place-within x size i low in
    let long = length-part_of (i % x) x size row in
    ap (λ found. slice_index (payload_by found x size row) (i / x)) (rank_of-at lines (i % x) distinct within.1)
    ∙ get_or_append_left (part_of (i % x) x size row) (replicate (2340 - size) 0) 0 (i / x) (omega (arith, within.0))
    ∙ get-part_of (i % x) x size row (i / x) within.0
    ∙ ap (slice_index row) within.2

pub is-dealt : (scenario : Scenario) (cells : List (Option Told)) (t i : ℕ) → i < length (payload_of scenario cells t) →
    IsDealt scenario cells t i
is-dealt scenario cells t i low =
    let lines = active_at scenario cells t in
    let size = size-at scenario cells t in
    let inside : i < scenario.size * length lines = omega arith in
    record {
      rank = (place-within (length lines) scenario.size i inside).1;
      octet = octet-dealt lines scenario.size i (payload_of scenario cells t)
          (members-at scenario cells t).distinct inside;
    }
