-- The order in which silent lines carry payload too; the sink knows the carriers where table and failures tell them.
use Rattle.std.proofs.Common.{◌≡◌, ℕ, suc, ◌+◌, ◌<◌, ◌≤◌, ◌==◌, ◌&&◌, ◌||◌, not, Bool, true, false, if◌then◌else◌}
use Rattle.std.proofs.Common.{List, [], ◌∷◌, map, filter, length, Contains, refl, sym, ◌∙◌, ap, ap₂, arith, inl, inr}
use Rattle.std.proofs.Common.{zero, ◌%◌, Option, Some, None, is_some, option_map}
use Rattle.std.specs.List.{list_any, list_all, range_with_len}
use Rattle.std.proofs.lemmas.Bool.{and_parts, and_from, or_left, or_right, cases_lt, eqb-true, ne_eqb, both_ways}
use Rattle.std.proofs.lemmas.Bool.{false_from_ne_true}
use Rattle.law_model.specs.Common.{is_norm, is_normal, is_carrying, place_in, ctrl_by, Cell, Scenario, is_read}
use Rattle.law_model.specs.Common.{is_heard, Told, active, table_of, sent_packet, telling_at, cells_before, said}
use Rattle.law_model.specs.Common.{last_read, word, word_by, Row, leader, is_member, packet_row, packet_on, has_packet}
use Rattle.law_model.specs.Common.{last_word, has, active_of, packet_if, packets_of, packet_of_last, says_member}
use Rattle.law_model.specs.Common.{is_silent, are_worded, in_norm, supposed, supposed_row, inferred, carriers_by}
use Rattle.law_model.specs.Common.{carriers_of, carriers_at, read_packets, was_member, is_silent_line, is_inferred}
use Rattle.law_model.specs.Common.{are_inferred, known_lines, is_line, most_lines}
use Rattle.law_model.specs.declared.lcas_states.Standing.{Standing}
use Rattle.law_model.specs.declared.lcas_states.Member.{Member}
use Rattle.law_model.specs.declared.lcas_states.Standing.TheVariants.{Norm as normal}
use Rattle.law_session.specs.Feedback.{lines_of}
use Rattle.law_session.proofs.SourceOrderAndPlanLaws.{one, times, one-self, IsBelow, order-length}
use Rattle.law_row.proofs.ActivePacketsLaws.{place_of, carrying, ctrl_carries, same_next, all_read, packet, read_of}
use Rattle.law_row.proofs.ActivePacketsLaws.{active_from-same, active_from-order, count-all, filter-all}
use Rattle.law_row.proofs.ActivePacketsLaws.{active_of-filter, once-after, below-after, heard-any}
use Rattle.law_row.proofs.LastWordAndReturnPacketLaws.{all-at, all-from, same_tests, all-same, last-same, rows_to}
use Rattle.law_row.proofs.LastWordAndReturnPacketLaws.{row-at}
use Rattle.law_row.proofs.LastWordAndReturnPacketLaws.{row-lines, packet-at, has-read, last_word-sent, ctrl_said}
use Rattle.std.proofs.lemmas.Option.{none-some}
use Rattle.law_model.proofs.ListLaws.{map-same_range}
use Rattle.law_model.specs.declared.control_packet.Packet.{Packet}
use Rattle.law_model.specs.declared.script_types.Options.{Options}
use Rattle.law_session.proofs.ReturnCellAndLineWordLaws.{said-heard, last-read, word-of}
use Rattle.law_session.proofs.FreshStatusLaws.{lines-then}
use Rattle.law_session.proofs.FailedLinePayloadLaws.{active-member}
use Rattle.law_row.specs.Received.{HasPackets}

-- ---- The order in which silent lines carry payload too, each at its place. It has as many lines that carry payload as the
-- order itself exactly where each silent line is one of them.
abbrev raised_to : Bool → Standing → Standing
raised_to silent standing = if silent then normal else standing

abbrev pub raised : (ℕ → Bool) → List Member → List Member
raised silent order =
    map (λ member. record { line = member.line; standing = raised_to (silent member.line) member.standing }) order

pub raised-lines : (silent : ℕ → Bool) (order : List Member) → lines_of (raised silent order) ≡ lines_of order
raised-lines silent [] = refl
raised-lines silent (member ∷ order) = ap (λ lines. member.line ∷ lines) (raised-lines silent order)

-- ---- lines that are among others
abbrev pub among : List ℕ → ℕ → Bool
among lines line = list_any (λ other. other == line) lines

-- ---- places
-- the place of a line is by the lines alone
pub place-lines : (order other : List Member) (sq line : ℕ) → lines_of order ≡ lines_of other →
    (place_in order sq line).sq ≡ (place_in other sq line).sq
unfolding place_in
place-lines [] [] sq line same = refl
place-lines [] (member ∷ other) sq line same = absurd cc
place-lines (member ∷ order) [] sq line same = absurd cc
place-lines (member ∷ order) (next ∷ other) sq line same =
    let first : member.line ≡ next.line = cc in
    let rest : lines_of order ≡ lines_of other = cc in
    let here = place_of (ctrl_by member.standing (list_any is_normal order)) sq in
    let there = place_of (ctrl_by next.standing (list_any is_normal other)) sq in
    ap (λ n. (if n == line then here else place_in order (sq + 1) line).sq) first
    ∙ elim (next.line == line) as (λ b. (if b then here else place_in order (sq + 1) line).sq
    ≡ (if b then there else place_in other (sq + 1) line).sq) [
      | true ↦ refl
      | false ↦ place-lines order other (sq + 1) line rest
    ]

-- a line that isn't silent carries what it carries
pub raised-other : (silent : ℕ → Bool) (order : List Member) (sq line : ℕ) → silent line ≡ false →
    is_carrying (place_in (raised silent order) sq line).ctrl ≡ is_carrying (place_in order sq line).ctrl
unfolding place_in
raised-other silent [] sq line heard = refl
raised-other silent (member ∷ order) sq line heard =
    let here = place_of (ctrl_by member.standing (list_any is_normal order)) sq in
    let there = place_of (ctrl_by (raised_to (silent member.line) member.standing)
    (list_any is_normal (raised silent order))) sq in
    elim (member.line == line) as (λ b. (member.line == line) ≡ b →
    is_carrying (if b then there else place_in (raised silent order) (sq + 1) line).ctrl
    ≡ is_carrying (if b then here else place_in order (sq + 1) line).ctrl) [
      | true ↦ λ e.
          let is = ap silent (eqb-true member.line line e) ∙ heard in
          ctrl_carries (raised_to (silent member.line) member.standing) (list_any is_normal (raised silent order))
          ∙ ap (λ b. is_norm (raised_to b member.standing)) is
          ∙ sym (ctrl_carries member.standing (list_any is_normal order))
      | false ↦ λ e. raised-other silent order (sq + 1) line heard
    ] refl

-- and a silent member does
pub raised-silent : (silent : ℕ → Bool) (order : List Member) (sq line : ℕ) → silent line ≡ true →
    among (lines_of order) line ≡ true →
    is_carrying (place_in (raised silent order) sq line).ctrl ≡ true
unfolding place_in
raised-silent silent [] sq line is stands = absurd cc
raised-silent silent (member ∷ order) sq line is stands =
    let there = place_of (ctrl_by (raised_to (silent member.line) member.standing)
    (list_any is_normal (raised silent order))) sq in
    elim (member.line == line) as (λ b. (member.line == line) ≡ b → (b || among (lines_of order) line) ≡ true →
    is_carrying (if b then there else place_in (raised silent order) (sq + 1) line).ctrl ≡ true) [
      | true ↦ λ e there.
          let here = ap silent (eqb-true member.line line e) ∙ is in
          ctrl_carries (raised_to (silent member.line) member.standing) (list_any is_normal (raised silent order))
          ∙ ap (λ b. is_norm (raised_to b member.standing)) here
      | false ↦ λ e there. raised-silent silent order (sq + 1) line is there
    ] refl stands

-- ---- how many carry payload
-- those of an order that begins with a line
abbrev carrying_on : Bool → ℕ → List ℕ → List ℕ
carrying_on carries line rest = if carries then line ∷ rest else rest

carrying-first : (member : Member) (order : List Member) →
    carrying (member ∷ order) ≡ carrying_on (is_norm member.standing) member.line (carrying order)
carrying-first member order =
    elim (is_norm member.standing) as (λ b.
    map (λ m. m.line) (if b then member ∷ filter is_normal order else filter is_normal order)
    ≡ carrying_on b member.line (carrying order)) [ true ↦ refl | false ↦ refl ]

raised-first : (silent : ℕ → Bool) (member : Member) (order : List Member) →
    carrying (raised silent (member ∷ order))
    ≡ carrying_on (silent member.line || is_norm member.standing) member.line (carrying (raised silent order))
raised-first silent member order =
    carrying-first (record { line = member.line; standing = raised_to (silent member.line) member.standing })
    (raised silent order)
    ∙ ap (λ b. carrying_on b member.line (carrying (raised silent order)))
    (elim (silent member.line) as (λ s. is_norm (raised_to s member.standing) ≡ (s || is_norm member.standing))
    [ true ↦ refl | false ↦ refl ])

raised-more : (silent : ℕ → Bool) (order : List Member) →
    length (carrying order) ≤ length (carrying (raised silent order))
raised-more silent [] = omega arith
raised-more silent (member ∷ order) =
    let rest = raised-more silent order in
    rw (carrying-first member order, raised-first silent member order)
    (elim (silent member.line) as (λ s. length (carrying_on (is_norm member.standing) member.line (carrying order)) ≤
    length (carrying_on (s || is_norm member.standing) member.line (carrying (raised silent order)))) [
      | true ↦
          elim (is_norm member.standing) as (λ n. length (carrying_on n member.line (carrying order)) ≤
          suc (length (carrying (raised silent order)))) [ true ↦ omega arith | false ↦ omega arith ]
      | false ↦
          elim (is_norm member.standing) as (λ n. length (carrying_on n member.line (carrying order)) ≤
          length (carrying_on n member.line (carrying (raised silent order)))) [ true ↦ omega arith | false ↦ rest ]
    ])

-- each silent member carries payload
abbrev pub silent_carry : (ℕ → Bool) → List Member → Bool
silent_carry silent order = list_all (λ member. not (silent member.line) || is_normal member) order

pub raised-count : (silent : ℕ → Bool) (order : List Member) →
    (length (carrying (raised silent order)) == length (carrying order)) ≡ silent_carry silent order
raised-count silent [] = refl
raised-count silent (member ∷ order) =
    let rest = raised-count silent order in
    let more = raised-more silent order in
    let there = carrying (raised silent order) in
    let here = carrying order in
    ap₂ (λ a b. length a == length b) (raised-first silent member order) (carrying-first member order)
    ∙ elim (silent member.line) as (λ s. (length (carrying_on (s || is_norm member.standing) member.line there)
    == length (carrying_on (is_norm member.standing) member.line here))
    ≡ ((not s || is_norm member.standing) && silent_carry silent order)) [
      | true ↦
          elim (is_norm member.standing) as (λ n. (suc (length there) == length (carrying_on n member.line here))
          ≡ (n && silent_carry silent order)) [
            | true ↦ same_next (length there) (length here) ∙ rest
            | false ↦ ne_eqb (suc (length there)) (length here) (λ e. omega arith)
          ]
      | false ↦
          elim (is_norm member.standing) as (λ n. (length (carrying_on n member.line there)
          == length (carrying_on n member.line here)) ≡ silent_carry silent order) [
            | true ↦ same_next (length there) (length here) ∙ rest
            | false ↦ rest
          ]
    ]

pub raised-same : (silent : ℕ → Bool) (order : List Member) → silent_carry silent order ≡ true →
    carrying (raised silent order) ≡ carrying order
raised-same silent [] all = refl
raised-same silent (member ∷ order) all =
    let parts = and_parts (not (silent member.line) || is_normal member) (silent_carry silent order) all in
    let rest = raised-same silent order parts.1 in
    raised-first silent member order
    ∙ ap (carrying_on (silent member.line || is_norm member.standing) member.line) rest
    ∙ elim (silent member.line) as (λ s. (not s || is_norm member.standing) ≡ true →
    carrying_on (s || is_norm member.standing) member.line (carrying order)
    ≡ carrying_on (is_norm member.standing) member.line (carrying order)) [
      | true ↦ λ is. ap (λ n. carrying_on n member.line (carrying order)) (sym is)
      | false ↦ λ is. refl
    ] parts.0
    ∙ sym (carrying-first member order)

-- a list in which each line of it passes
pub all-contained : (test : ℕ → Bool) (lines : List ℕ) → ((line : ℕ) → Contains lines line → test line ≡ true) →
    list_all test lines ≡ true
all-contained test [] each = refl
all-contained test (line ∷ lines) each =
    and_from (test line) (list_all test lines) (each line (0, omega arith, refl))
    (all-contained test lines (λ l among. each l (suc among.0, omega (arith, among.1), among.2)))

-- silent lines pass a test that those which carry payload do
pub raised-all : (silent test : ℕ → Bool) (order : List Member) → ((line : ℕ) → silent line ≡ true → test line ≡ true) →
    list_all test (carrying order) ≡ true → list_all test (carrying (raised silent order)) ≡ true
raised-all silent test [] each all = refl
raised-all silent test (member ∷ order) each all =
    let rest = raised-all silent test order each in
    ap (list_all test) (raised-first silent member order)
    ∙ elim (silent member.line) as (λ s. silent member.line ≡ s →
    list_all test (carrying_on (is_norm member.standing) member.line (carrying order)) ≡ true →
    list_all test (carrying_on (s || is_norm member.standing) member.line (carrying (raised silent order))) ≡ true) [
      | true ↦ λ is all.
          and_from (test member.line) (list_all test (carrying (raised silent order))) (each member.line is)
          (rest (elim (is_norm member.standing) as (λ n.
          list_all test (carrying_on n member.line (carrying order)) ≡ true →
          list_all test (carrying order) ≡ true) [
            | true ↦ λ all. (and_parts (test member.line) (list_all test (carrying order)) all).1
            | false ↦ λ all. all
          ] all))
      | false ↦ λ is.
          elim (is_norm member.standing) as (λ n.
          list_all test (carrying_on n member.line (carrying order)) ≡ true →
          list_all test (carrying_on n member.line (carrying (raised silent order))) ≡ true) [
            | true ↦ λ all.
                let parts = and_parts (test member.line) (list_all test (carrying order)) all in
                and_from (test member.line) (list_all test (carrying (raised silent order))) parts.0 (rest parts.1)
            | false ↦ rest
          ]
    ] refl (sym (ap (list_all test) (carrying-first member order)) ∙ all)

-- ---- which silent lines carry payload
-- those that carry payload are members
among-lines : (order : List Member) (line : ℕ) → among (carrying order) line ≡ true → 1 ≤ times (lines_of order) line
among-lines [] line is = absurd cc
among-lines (member ∷ order) line is =
    elim (is_norm member.standing) as (λ n. among (carrying_on n member.line (carrying order)) line ≡ true →
    1 ≤ one member.line line + times (lines_of order) line) [
      | true ↦ λ is.
          elim (member.line == line) as (λ b. (b || among (carrying order) line) ≡ true →
          1 ≤ (if b then 1 else 0) + times (lines_of order) line) [
            | true ↦ λ is. omega arith
            | false ↦ λ is. let rest = among-lines order line is in omega arith
          ] is
      | false ↦ λ is. let rest = among-lines order line is in omega arith
    ] (sym (ap (λ lines. among lines line) (carrying-first member order)) ∙ is)

silent-among : (silent : ℕ → Bool) (order : List Member) (line : ℕ) → silent_carry silent order ≡ true →
    silent line ≡ true → among (lines_of order) line ≡ true → among (carrying order) line ≡ true
silent-among silent [] line all is stands = absurd cc
silent-among silent (member ∷ order) line all is stands =
    let parts = and_parts (not (silent member.line) || is_normal member) (silent_carry silent order) all in
    ap (λ lines. among lines line) (carrying-first member order)
    ∙ elim (member.line == line) as (λ b. (member.line == line) ≡ b → (b || among (lines_of order) line) ≡ true →
    among (carrying_on (is_norm member.standing) member.line (carrying order)) line ≡ true) [
      | true ↦ λ e there.
          let here = ap silent (eqb-true member.line line e) ∙ is in
          let carries : is_norm member.standing ≡ true = sym (ap (λ s. not s || is_normal member) here) ∙ parts.0 in
          ap (λ n. among (carrying_on n member.line (carrying order)) line) carries
          ∙ or_left (member.line == line) (among (carrying order) line) e
      | false ↦ λ e there.
          let rest = silent-among silent order line parts.1 is there in
          elim (is_norm member.standing)
          as (λ n. among (carrying_on n member.line (carrying order)) line ≡ true) [
            | true ↦ or_right (member.line == line) (among (carrying order) line) rest
            | false ↦ rest
          ]
    ] refl stands

among-silent : (silent : ℕ → Bool) (order : List Member) → ((l : ℕ) → times (lines_of order) l ≤ 1) →
    ((line : ℕ) → 1 ≤ times (lines_of order) line → silent line ≡ true → among (carrying order) line ≡ true) →
    silent_carry silent order ≡ true
among-silent silent [] once each = refl
among-silent silent (member ∷ order) once each =
    let self = one-self member.line in
    let most = once member.line in
    let first = λ (line : ℕ) (stands : 1 ≤ times (lines_of (member ∷ order)) line) (is : silent line ≡ true).
    sym (ap (λ lines. among lines line) (carrying-first member order)) ∙ each line stands is in
    and_from (not (silent member.line) || is_normal member) (silent_carry silent order)
    (elim (silent member.line) as (λ s. silent member.line ≡ s → (not s || is_normal member) ≡ true) [
      | true ↦ λ is.
          elim (is_norm member.standing) as (λ n.
          among (carrying_on n member.line (carrying order)) member.line ≡ true → n ≡ true) [
            | true ↦ λ there. refl
            | false ↦ λ there. let twice = among-lines order member.line there in absurd (omega arith)
          ] (first member.line (omega arith) is)
      | false ↦ λ is. refl
    ] refl)
    (among-silent silent order (λ l. let least = once l in omega arith) (λ line stands is.
    let least = once line in
    let other : (member.line == line) ≡ false = ne_eqb member.line line (λ e.
    let here : one member.line line ≡ 1 = ap (one member.line) (sym e) ∙ self in omega arith) in
    elim (is_norm member.standing) as (λ n.
    among (carrying_on n member.line (carrying order)) line ≡ true → among (carrying order) line ≡ true) [
      | true ↦ λ there. sym (ap (λ b. b || among (carrying order) line) other) ∙ there
      | false ↦ λ there. there
    ] (first line (omega arith) is)))

-- each silent line is one of those that carry payload, with a word
abbrev pub silent_among : ℕ → (ℕ → Bool) → (ℕ → Bool) → List Member → Bool
silent_among lines silent worded order =
    list_all (λ line. not (silent line) || (among (carrying order) line && worded line)) (range_with_len 0 lines)

-- where silent lines have words, and are members by those
pub silent-carry : (lines : ℕ) (silent worded : ℕ → Bool) (order : List Member) →
    ((l : ℕ) → times (lines_of order) l ≤ 1) → IsBelow lines (times (lines_of order)) →
    ((line : ℕ) → line < lines → silent line ≡ true → worded line ≡ true) →
    ((line : ℕ) → line < lines → silent line ≡ true → among (lines_of order) line ≡ true) →
    silent_carry silent order ≡ silent_among lines silent worded order
silent-carry lines silent worded order once below words stands =
    let test = λ (line : ℕ). not (silent line) || (among (carrying order) line && worded line) in
    same_tests (silent_carry silent order) (silent_among lines silent worded order)
    (λ all. all-from test 0 lines (λ line low high.
    let inside : line < lines = omega arith in
    elim (silent line) as (λ s. silent line ≡ s → (not s || (among (carrying order) line && worded line)) ≡ true) [
      | true ↦ λ is.
          and_from (among (carrying order) line) (worded line)
          (silent-among silent order line all is (stands line inside is)) (words line inside is)
      | false ↦ λ is. refl
    ] refl))
    (λ all. among-silent silent order once (λ line there is.
    elim (cases_lt line lines) [
      | inl inside ↦
          let here = all-at test 0 lines all line (omega arith) (omega arith) in
          (and_parts (among (carrying order) line) (worded line)
          (sym (ap (λ s. not s || (among (carrying order) line && worded line)) is) ∙ here)).0
      | inr beyond ↦ let none = below line beyond in absurd (omega arith)
    ]))

-- ---- The sink knows which lines carry payload exactly where this is known by the source's table and the failures, and they
-- are then those of the table: each of them is read or silent, and a silent line still has the SQ that it said last.
-- ---- by what is read alone
-- the carriers, where all that are read say the same number
abbrev carriers_if : Bool → ℕ → Options → List Row → ℕ → Option (List ℕ)
carriers_if heard act options rows k =
    if heard then (if length (active_of (packet_row rows k)) == act then Some (active_of (packet_row rows k))
    else inferred options rows k act) else None

carriers_by-leader : (packets : ℕ → Packet) (act : ℕ) → ((l : ℕ) → (packets l).act ≡ act) →
    (readable : ℕ → Bool) (options : Options) (rows : List Row) (k a n : ℕ) →
    carriers_by options rows k (leader (all_read (λ l. packet_if (readable l) (packets l)) a n))
    ≡ carriers_if (list_any readable (range_with_len a n)) act options rows k
carriers_by-leader packets act same readable options rows k a zero = refl
carriers_by-leader packets act same readable options rows k a (suc n) =
    let rest = all_read (λ l. packet_if (readable l) (packets l)) (a + 1) n in
    elim (readable a) as (λ b. carriers_by options rows k (leader (packet_if b (packets a) ∷ rest))
    ≡ carriers_if (b || list_any readable (range_with_len (a + 1) n)) act options rows k) [
      | true ↦ ap (λ number. carriers_if true number options rows k) (same a)
      | false ↦ carriers_by-leader packets act same readable options rows k (a + 1) n
    ]

all-counted : (r : ℕ → Bool) (xs : List ℕ) (other : Option (List ℕ)) →
    (if length (filter r xs) == length xs then Some (filter r xs) else other)
    ≡ (if list_all r xs then Some xs else other)
all-counted r xs other =
    ap (λ b. if b then Some (filter r xs) else other) (count-all r xs)
    ∙ elim (list_all r xs) as (λ b. list_all r xs ≡ b →
    (if b then Some (filter r xs) else other) ≡ (if b then Some xs else other))
    [ true ↦ λ all. ap Some (filter-all r xs all) | false ↦ λ some. refl ] refl

-- the rows up to packet k: known where all are read, and else where the sink can go on
carriers-counted : (scenario : Scenario) (returns : List (Option Told)) (k : ℕ) → length scenario.windows ≤ most_lines →
    carriers_of scenario.options (rows_to scenario returns k) k
    ≡ (if is_heard scenario k
    then (if list_all (λ line. is_read scenario line k) (active (table_of scenario returns k))
    then Some (active (table_of scenario returns k))
    else inferred scenario.options (rows_to scenario returns k) k (length (active (table_of scenario returns k))))
    else None)
carriers-counted scenario returns k limit =
    let rows = rows_to scenario returns k in
    let act = active (table_of scenario returns k) in
    let read = λ (line : ℕ). is_read scenario line k in
    let lines = length scenario.windows in
    let none = inferred scenario.options rows k (length act) in
    let row = row-at scenario returns k k (omega arith) in
    ap (λ packets. carriers_by scenario.options rows k (leader packets)) row
    ∙ carriers_by-leader (λ line. sent_packet scenario returns line k) (length act) (λ line. refl) read
    scenario.options rows k 0 lines
    ∙ ap (λ heard. carriers_if heard (length act) scenario.options rows k) (heard-any scenario k)
    ∙ ap (λ found. if is_heard scenario k then (if length found == length act then Some found else none) else None)
    (ap active_of row ∙ active_of-filter scenario returns k (telling_at scenario k) read limit)
    ∙ ap (λ found. if is_heard scenario k then found else None) (all-counted read act none)

known-either : (all infers : Bool) (lines : List ℕ) →
    (if all then Some lines else (if infers then Some lines else None)) ≡ (if all || infers then Some lines else None)
known-either true infers lines = refl
known-either false infers lines = refl

-- ---- a line that is silent
module _ (scenario : Scenario) (returns : List (Option Told)) (k line : ℕ) (inside : line < length scenario.windows)
  where
    says-place : (order : List Member) (sq : ℕ) →
        is_member (place_in order sq line).ctrl ≡ list_any (λ member. is_line line (Some member)) order
    unfolding place_in
    says-place [] sq = refl
    says-place (member ∷ order) sq =
        let here = place_of (ctrl_by member.standing (list_any is_normal order)) sq in
        elim (member.line == line) as (λ b.
        is_member (if b then here else place_in order (sq + 1) line).ctrl
        ≡ (b || list_any (λ member. is_line line (Some member)) order)) [
          | true ↦ ctrl_said member.standing (list_any is_normal order)
          | false ↦ says-place order (sq + 1)
        ]

    silent-same : is_silent (rows_to scenario returns k) line k ≡ is_silent_line scenario returns line k
    silent-same =
        let rows = rows_to scenario returns k in
        let read = is_read scenario line in
        let reads = has-read scenario returns k line inside in
        ap₂ (λ has says. not has && says) (reads k (omega arith))
        (ap (λ last. says_member (packet_of_last rows line last)) (last-same (has_packet rows line) read k reads)
        ∙ elim (last_read read k) as (λ found. last_read read k ≡ found →
        says_member (packet_of_last rows line found) ≡ was_member scenario returns line found) [
          | None ↦ λ e. refl
          | Some last ↦ λ e.
              let there = last-read read k last e in
              ap says_member (packet-at scenario returns k line last inside there.0
              ∙ ap (λ b. packet_if b (sent_packet scenario returns line last)) there.1)
              ∙ says-place (table_of scenario returns last).order 0
        ] refl)

-- ---- the packets of k with those of silent lines
module _ (scenario : Scenario) (n k : ℕ) (lag : 0 < scenario.lag) where
  abbrev returns : List (Option Told)
  returns = cells_before scenario n

  abbrev rows : List Row
  rows = rows_to scenario returns k

  abbrev lines : ℕ
  lines = length scenario.windows

  abbrev order : List Member
  order = (table_of scenario returns k).order

  abbrev read : ℕ → Bool
  read line = is_read scenario line k

  abbrev silent : ℕ → Bool
  silent line = is_silent_line scenario returns line k

  abbrev worded : ℕ → Bool
  worded line = is_some (word scenario returns line k)

  -- each silent line has a word
  abbrev are_all_worded : Bool
  are_all_worded = list_all (λ line. not (silent line) || worded line) (range_with_len 0 lines)

  worded-same : (line : ℕ) → line < lines → is_some (last_word rows line k) ≡ worded line
  worded-same line inside =
      ap is_some (last_word-sent scenario n k line lag inside)
      ∙ elim (word scenario returns line k)
      as (λ found. is_some (option_map (λ last. sent_packet scenario returns line last) found) ≡ is_some found)
      [ None ↦ refl | Some last ↦ refl ]

  all-worded : are_worded rows k ≡ are_all_worded
  all-worded =
      ap (λ count. list_all (λ line. not (is_silent rows line k) || is_some (last_word rows line k))
      (range_with_len 0 count)) (row-lines scenario returns k)
      ∙ all-same (λ line. not (is_silent rows line k) || is_some (last_word rows line k))
      (λ line. not (silent line) || worded line) 0 lines
      (λ line low high. let inside : line < lines = omega arith in
      ap₂ (λ s w. not s || w) (silent-same scenario returns k line inside) (worded-same line inside))

  -- where packet k is heard, a word is of its count
  module _ (heard : is_heard scenario k ≡ true) where
    word-lines : (line last : ℕ) → word scenario returns line k ≡ Some last →
        lines_of (table_of scenario returns last).order ≡ lines_of order
    word-lines line last is =
        let of = word-of scenario returns line k last is in
        let past = of.past in
        lines-then scenario returns (suc k) last (omega arith) (of.count ∙ said-heard scenario returns k heard)

    word-latest : (line last count : ℕ) (found : Option ℕ) → word_by scenario returns count found ≡ Some last →
        found ≡ Some last
    word-latest line last count None is = absurd (none-some last is)
    word-latest line last count (Some n) is =
        elim ((table_of scenario returns n).count == count)
        as (λ b. (if b then Some n else None) ≡ Some last → Some n ≡ Some last)
        [ true ↦ λ same. same | false ↦ λ none. absurd (none-some last none) ] is

    among-member : (line : ℕ) (members : List Member) →
        list_any (λ member. is_line line (Some member)) members ≡ among (lines_of members) line
    among-member line [] = refl
    among-member line (member ∷ members) = ap (λ b. member.line == line || b) (among-member line members)

    -- a silent line is a member of the table by its word
    silent-stands : (line last : ℕ) → silent line ≡ true → word scenario returns line k ≡ Some last →
        among (lines_of order) line ≡ true
    silent-stands line last is spoke =
        let latest = word-latest line last (said scenario returns k) (last_read (is_read scenario line) k) spoke in
        let was = (and_parts (not (read line)) (was_member scenario returns line (last_read (is_read scenario line) k))
        is).1 in
        ap (λ lines. among lines line) (sym (word-lines line last spoke))
        ∙ sym (among-member line (table_of scenario returns last).order)
        ∙ sym (ap (was_member scenario returns line) latest) ∙ was

    -- ---- what a silent line is supposed to send
    abbrev counted : ℕ → Bool
    counted line = read line || silent line

    abbrev act : List ℕ
    act = active (table_of scenario returns k)

    -- by an order, the packet of a line that is read or silent
    abbrev packet_by : List Member → ℕ → Option Packet
    packet_by members = read_of members 0 (telling_at scenario k) ((table_of scenario returns k).count % 2 == 1) k
        (length act) counted

    word-there : are_all_worded ≡ true → (line : ℕ) → line < lines → silent line ≡ true → worded line ≡ true
    word-there all line inside is =
        sym (ap (λ s. not s || worded line) is)
        ∙ all-at (λ line. not (silent line) || worded line) 0 lines all line (omega arith) (omega arith)

    -- its word has the SQ that it still has
    word-has : (sq line last : ℕ) → silent line ≡ true → word scenario returns line k ≡ Some last →
        has is_carrying sq (Some (in_norm (sent_packet scenario returns line last)))
        ≡ has is_carrying sq (packet_if true (packet (raised silent order) 0 (telling_at scenario k)
        ((table_of scenario returns k).count % 2 == 1) k (length act) line))
    word-has sq line last is spoke =
        let was = (table_of scenario returns last).order in
        ap₂ (λ carries place. carries && place == sq)
        (sym (raised-silent silent order 0 line is (silent-stands line last is spoke)))
        (place-lines was (raised silent order) 0 line
        (word-lines line last spoke ∙ sym (raised-lines silent order)))

    supposed-has : are_all_worded ≡ true → (sq line : ℕ) → line < lines →
        has is_carrying sq (supposed rows line k) ≡ has is_carrying sq (packet_by (raised silent order) line)
    supposed-has all sq line inside =
        let by = packet (raised silent order) 0 (telling_at scenario k)
        ((table_of scenario returns k).count % 2 == 1) k (length act) line in
        ap (λ s. has is_carrying sq
        (if s then option_map in_norm (last_word rows line k) else packet_on rows line k))
        (silent-same scenario returns k line inside)
        ∙ elim (silent line) as (λ s. silent line ≡ s →
        has is_carrying sq (if s then option_map in_norm (last_word rows line k) else packet_on rows line k)
        ≡ has is_carrying sq (packet_if (read line || s) by)) [
          | true ↦ λ is.
              ap (λ found. has is_carrying sq (option_map in_norm found))
              (last_word-sent scenario n k line lag inside)
              ∙ elim (word scenario returns line k) as (λ found. word scenario returns line k ≡ found →
              is_some found ≡ true → has is_carrying sq (option_map in_norm
              (option_map (λ last. sent_packet scenario returns line last) found))
              ≡ has is_carrying sq (packet_if true by)) [
                | None ↦ λ e none. absurd cc
                | Some last ↦ λ spoke some. word-has sq line last is spoke
              ] refl (word-there all line inside is)
              ∙ ap (λ b. has is_carrying sq (packet_if b by)) (sym (or_right (read line) true refl))
          | false ↦ λ isnt.
              ap (has is_carrying sq) (packet-at scenario returns k line k inside (omega arith))
              ∙ elim (read line) as (λ r. has is_carrying sq (packet_if r (sent_packet scenario returns line k))
              ≡ has is_carrying sq (packet_if (r || false) by)) [
                | true ↦
                    ap₂ (λ carries place. carries && place == sq) (sym (raised-other silent order 0 line isnt))
                    (place-lines order (raised silent order) 0 line (sym (raised-lines silent order)))
                | false ↦ refl
              ]
        ] refl

    -- each line that carries payload is read or silent
    active-counted : (line : ℕ) → Contains act line → counted line ≡ true
    active-counted line carries =
        let member = active-member scenario n k line lag carries in
        elim (read line)
        as (λ r. (r || (not r && was_member scenario returns line (last_read (is_read scenario line) k))) ≡ true)
        [ true ↦ refl | false ↦ member ]

    raised-once : (line : ℕ) → times (lines_of (raised silent order)) line ≤ 1
    raised-once line = rw (raised-lines silent order) (once-after scenario returns k line)

    raised-below : IsBelow lines (times (lines_of (raised silent order)))
    raised-below line beyond = rw (raised-lines silent order) (below-after scenario returns k line beyond)

    raised-size : (members : List Member) → length (raised silent members) ≡ length members
    raised-size [] = refl
    raised-size (member ∷ members) = ap suc (raised-size members)

    supposed-active : lines ≤ most_lines → are_all_worded ≡ true →
        active_of (supposed_row rows k) ≡ carrying (raised silent order)
    supposed-active limit all =
        let size = order-length scenario returns (suc k) in
        let same = raised-size order in
        ap (λ count. active_of (all_read (λ line. supposed rows line k) 0 count)) (row-lines scenario returns k)
        ∙ active_from-same (λ line. supposed rows line k) (packet_by (raised silent order)) lines 0 256
        (λ sq line low inside. supposed-has all sq line inside)
        ∙ active_from-order (raised silent order) lines 0 (telling_at scenario k)
        ((table_of scenario returns k).count % 2 == 1) k (length act) 256 counted (omega arith) raised-once raised-below
        ∙ filter-all counted (carrying (raised silent order))
        (raised-all silent counted order (λ line is. or_right (read line) (silent line) is)
        (all-contained counted act active-counted))

    -- ---- what can be inferred
    inferred-words : are_inferred scenario returns k ≡ true → are_all_worded ≡ true
    inferred-words all =
        let by = is_inferred scenario returns in
        all-from (λ line. not (silent line) || worded line) 0 lines (λ line low high.
        let here = all-at (λ line. not (silent line) || by line k) 0 lines all line low high in
        elim (silent line) as (λ s. (not s || by line k) ≡ true → (not s || worded line) ≡ true) [
          | true ↦ λ is. (and_parts (among act line) (worded line) is).1
          | false ↦ λ isnt. refl
        ] here)

    inferred-by : lines ≤ most_lines →
        (if are_worded rows k && length (active_of (supposed_row rows k)) == length act
        then Some (active_of (supposed_row rows k)) else None)
        ≡ (if are_inferred scenario returns k then Some act else None)
    inferred-by limit =
        let found = active_of (supposed_row rows k) in
        ap (λ w. if w && length found == length act then Some found else None) all-worded
        ∙ elim are_all_worded as (λ w. are_all_worded ≡ w →
        (if w && length found == length act then Some found else None)
        ≡ (if are_inferred scenario returns k then Some act else None)) [
          | true ↦ λ all.
              ap (λ lines. if length lines == length act then Some lines else None) (supposed-active limit all)
              ∙ ap (λ b. if b then Some (carrying (raised silent order)) else None) (raised-count silent order)
              ∙ elim (silent_carry silent order) as (λ b. silent_carry silent order ≡ b →
              (if b then Some (carrying (raised silent order)) else None) ≡ (if b then Some act else None))
              [ true ↦ λ each. ap Some (raised-same silent order each) | false ↦ λ some. refl ] refl
              ∙ ap (λ b. if b then Some act else None)
              (silent-carry lines silent worded order (once-after scenario returns k) (below-after scenario returns k)
              (word-there all) (λ line inside is.
              elim (word scenario returns line k) as (λ found. word scenario returns line k ≡ found →
              is_some found ≡ true → among (lines_of order) line ≡ true) [
                | None ↦ λ e none. absurd cc
                | Some last ↦ λ spoke some. silent-stands line last is spoke
              ] refl (word-there all line inside is)))
          | false ↦ λ none.
              let less : are_inferred scenario returns k ≡ false =
              false_from_ne_true (are_inferred scenario returns k)
              (λ all. both_ways are_all_worded none (inferred-words all)) in
              ap (λ b. if b then Some act else None) (sym less)
        ] refl

    inferred-same : lines ≤ most_lines → inferred scenario.options rows k (length act)
        ≡ (if scenario.options.infers && are_inferred scenario returns k then Some act else None)
    inferred-same limit =
        let found = active_of (supposed_row rows k) in
        let by = inferred-by limit in
        elim scenario.options.infers
        as (λ infers. (if infers && are_worded rows k && length found == length act then Some found else None)
        ≡ (if infers && are_inferred scenario returns k then Some act else None))
        [ true ↦ by | false ↦ refl ]

-- ---- the carriers that the sink knows
has-rows : (scenario : Scenario) (returns : List (Option Told)) (k : ℕ) (cells : List (List Cell)) →
    HasPackets scenario returns cells k →
    carriers_at scenario.options cells k ≡ carriers_of scenario.options (rows_to scenario returns k) k
has-rows scenario returns k cells has =
    ap (λ rows. carriers_of scenario.options rows k)
    (map-same_range (read_packets cells) (packets_of scenario returns) 0 (k + 1) (λ j low. has j (omega arith)))

pub carriers-known : (scenario : Scenario) (n k : ℕ) (cells : List (List Cell)) → length scenario.windows ≤ most_lines →
    0 < scenario.lag → HasPackets scenario (cells_before scenario n) cells k →
    carriers_at scenario.options cells k ≡ known_lines scenario (cells_before scenario n) k
carriers-known scenario n k cells limit lag has =
    let returns = cells_before scenario n in
    let act = active (table_of scenario returns k) in
    let all = list_all (λ line. is_read scenario line k) act in
    let infers = scenario.options.infers && are_inferred scenario returns k in
    let other = inferred scenario.options (rows_to scenario returns k) k (length act) in
    has-rows scenario returns k cells has
    ∙ carriers-counted scenario returns k limit
    ∙ elim (is_heard scenario k) as (λ heard. is_heard scenario k ≡ heard →
    (if heard then (if all then Some act else other) else None)
    ≡ (if heard && (all || infers) then Some act else None)) [
      | true ↦ λ heard.
          ap (λ rest. if all then Some act else rest) (inferred-same scenario n k lag heard limit)
          ∙ known-either all infers act
      | false ↦ λ none. refl
    ] refl

pub carriers-stop : (scenario : Scenario) (returns : List (Option Told)) (k : ℕ) (cells : List (List Cell)) →
    length scenario.windows ≤ most_lines → scenario.options.infers ≡ false → HasPackets scenario returns cells k →
    carriers_at scenario.options cells k ≡ known_lines scenario returns k
carriers-stop scenario returns k cells limit stops has =
    let rows = rows_to scenario returns k in
    let act = active (table_of scenario returns k) in
    let all = list_all (λ line. is_read scenario line k) act in
    let found = active_of (supposed_row rows k) in
    has-rows scenario returns k cells has
    ∙ carriers-counted scenario returns k limit
    ∙ ap (λ infers. if is_heard scenario k then (if all then Some act
    else (if infers && are_worded rows k && length found == length act then Some found else None)) else None) stops
    ∙ elim (is_heard scenario k) as (λ heard. (if heard then (if all then Some act else None) else None)
    ≡ (if heard && (all || false) then Some act else None))
    [ true ↦ known-either all false act | false ↦ refl ]
    ∙ ap (λ infers. if is_heard scenario k && (all || (infers && are_inferred scenario returns k)) then Some act
    else None) (sym stops)
