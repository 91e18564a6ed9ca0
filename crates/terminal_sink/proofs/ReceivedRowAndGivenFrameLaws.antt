-- The rows, frames and return packets of a sink with one row or cell more, and the frames of the rows of a session.
use Rattle.std.proofs.Common.{◌≡◌, ◌*◌, ℕ, zero, suc, ◌+◌, ◌-◌, ◌/◌, ◌%◌, ◌<◌, ◌≤◌, ◌==◌, ◌&&◌, nat_lt, true, false}
use Rattle.std.proofs.Common.{inl, inr, List, [], ◌∷◌, ◌++◌, map, length, Option, Some, None, refl, sym, ◌∙◌, ap}
use Rattle.std.proofs.Common.{subst, arith, drop, slice_get, append_assoc, Bool, ap₂}
use Rattle.std.specs.Prelude.{if◌then◌else◌, is_none, IsSome, is_some}
use Rattle.std.specs.List.{position_from}
use Rattle.std.proofs.lemmas.Bool.{cases_Bool, cases_eq, cases_lt}
use Rattle.std.proofs.lemmas.Bool.Decides.{nat_tests}
use Rattle.std.proofs.lemmas.List.FromFn.{map-range_with_len_more, length-map-range_with_len}
use Rattle.law_model.specs.Common.{Cell, return_of, carriers_of, verdict, read_packets, governing, row_at, first_open}
use Rattle.law_model.specs.Common.{return_at, StreamRow, deliver, longest_frame, Scenario, Told, cells_before}
use Rattle.law_model.specs.Common.{is_whole_row, payload_of, Segments, segments_of, rows_of, most_lines}
use Rattle.law_model.specs.declared.control_packet.Packet.{Packet}
use Rattle.law_model.specs.declared.script_types.Options.{Options}
use Rattle.law_line.specs.StableRows.{AreDecidedAt, IsLonger}
use Rattle.terminal_sink.specs.lcas_sink.SinkStates.{last_carriers}
use Rattle.terminal_sink.specs.sink_core.TakenAndGiven.{row_in, received_rows, read_rows, packet_rows, back_at}
use Rattle.terminal_sink.specs.sink_core.TakenAndGiven.{answer_by, answer_at, AreCarriers, given_frames, added_frames}
use Rattle.terminal_sink.specs.declared.sink_core.sink_terminal.TakeAnswer.TheVariants.{Taken}
use Rattle.std.proofs.lemmas.List.{append-nil}
use Rattle.std.proofs.lemmas.Option.{slice_get_within}
use Rattle.law_model.proofs.ListLaws.{slice_get-inside, is-some, map-same_range}
use Rattle.law_line.proofs.ReadingVerdictLaws.{verdict-stays}
use Rattle.law_line.proofs.DecidedPacketAndRowLaws.{read-stays, rows_stay, returns_stay}
use Rattle.law_loss.proofs.SegmentsOfAddedRowsLaws.{deliver-grows, segments_of-push, deliver-lost, added-whole}
use Rattle.law_loss.proofs.SegmentsOfAddedRowsLaws.{grows-whole, adds}
use Rattle.member_rows.specs.realign_rows.Gather.{with_cell}
use Rattle.terminal_sink.specs.sink_core.RowsInReceiver.{Receives}
use Rattle.terminal_sink.specs.sink_core.Core.{Core, SinkStands}
use Rattle.law_model.specs.rows.SessionStream.{row_of}
use Rattle.law_row.proofs.WholeRowAndStoppedSinkLaws.{row-whole, row-payload}
use Rattle.law_loss.specs.AddedFrames.{next_frames, whole_row, lost_row}
use Rattle.terminal_sink.specs.sink_core.SessionTells.{AreSessionRows, TellRows}
use Rattle.terminal_sink.specs.lcas_sink.SinkStates as sink_table

-- ---- Rows, frames and return packets of one row more.
-- ---- rows
pub received-more : (options : Options) (size : ℕ) (cells : List (List Cell)) (n : ℕ) →
    received_rows options size cells (n + 1)
    ≡ received_rows options size cells n ++ row_in (row_at options size cells n) ∷ []
received-more options size cells n =
    map-range_with_len_more (λ t. row_in (row_at options size cells t)) 0 n n (omega arith)

-- ---- packets that are read
pub read-more : (cells : List (List Cell)) (n : ℕ) →
    read_rows cells (n + 1) ≡ read_rows cells n ++ read_packets cells n ∷ []
read-more cells n = map-range_with_len_more (read_packets cells) 0 n n (omega arith)

pub length-read : (cells : List (List Cell)) (n : ℕ) → length (read_rows cells n) ≡ n
length-read cells n = length-map-range_with_len (read_packets cells) 0 n

-- a packet ends with row t
pub packet-ends : (t : ℕ) → (nat_lt 22 t && t % 16 == 7) ≡ true → (23 ≤ t) × (t % 16 ≡ 7)
packet-ends t ends =
    elim (cases_Bool (nat_lt 22 t)) [
      | inr early ↦ absurd (let e : false ≡ true = rw early at ends in cc)
      | inl late ↦
          let a : 22 < t = grind (arith, nat_tests, late) in
          let tested : (t % 16 == 7) ≡ true = rw late at ends in
          let b : t % 16 ≡ 7 = grind (arith, nat_tests, tested) in
          (omega arith, b)
    ]

pub packet_rows-more : (t : ℕ) → 23 ≤ t → t % 16 ≡ 7 → packet_rows (t + 1) ≡ packet_rows t + 1
packet_rows-more t late last = omega arith

pub packet_rows-between : (t : ℕ) → (nat_lt 22 t && t % 16 == 7) ≡ false → packet_rows t ≡ packet_rows (t + 1)
packet_rows-between t no_end =
    elim (cases_Bool (nat_lt 22 t)) [
      | inl late ↦
          let a : 22 < t = grind (arith, nat_tests, late) in
          let tested : (t % 16 == 7) ≡ false = rw late at no_end in
          let other : t % 16 ≡ 7 → ⊥ = grind (arith, nat_tests, tested) in
          elim (cases_eq (t % 16) 7) [ inl same ↦ absurd (other same) | inr apart ↦ omega arith ]
      | inr early ↦
          let low : t ≤ 22 = grind (arith, nat_tests, early) in
          omega arith
    ]

pub packet-of : (t : ℕ) → 23 ≤ t → t % 16 ≡ 7 → (t - 23) / 16 ≡ packet_rows t
packet-of t late last = omega arith

pub governing-back : (cells : List (List Cell)) (t : ℕ) → 23 ≤ t → t % 16 ≡ 7 →
    governing cells (t + 1) ≡ read_packets cells (packet_rows t)
governing-back cells t late last =
    let e : nat_lt (t + 1) 24 ≡ false = grind (arith, nat_tests, (let h : 24 ≤ t + 1 = omega arith in h)) in
    ap (λ early. if early then map (λ own. None) cells else read_packets cells ((t + 1 - 24) / 16)) e
    ∙ ap (read_packets cells) (let f : (t + 1 - 24) / 16 ≡ packet_rows t = omega arith in f)

pub back-here : (options : Options) (cells : List (List Cell)) (t : ℕ) → 23 ≤ t → t % 16 ≡ 7 →
    back_at options cells t ≡ Some (return_of options (read_rows cells (packet_rows t) ++ read_packets cells (packet_rows t) ∷ [])
    (packet_rows t))
back-here options cells t late last =
    let k = packet_rows t in
    let e : nat_lt 22 t ≡ true = grind (arith, nat_tests, (let h : 22 < t = omega arith in h)) in
    let f : (t % 16 == 7) ≡ true = grind (arith, nat_tests, last) in
    ap (λ b. if b && t % 16 == 7 then Some (return_at options cells ((t - 23) / 16)) else None) e
    ∙ ap (λ b. if b then Some (return_at options cells ((t - 23) / 16)) else None) f
    ∙ ap (λ k. Some (return_at options cells k)) (packet-of t late last)
    ∙ ap (λ rows. Some (return_of options rows k)) (read-more cells k)

-- ---- the answer
not-none : {X : Type 0} (x : Option X) → is_none x ≡ false → IsSome x
not-none None e = absurd cc
not-none (Some x) e = refl

decided-from : (cells : List (List Cell)) (t i : ℕ) → position_from (λ own. is_none (verdict own t)) i cells ≡ None →
    AreDecidedAt cells t
decided-from [] t i none m own here = absurd cc
decided-from (first ∷ cells) t i none zero own here =
    elim (cases_Bool (is_none (verdict first t))) [
      | inl open' ↦ absurd (let e : Some i ≡ None = rw open' at none in cc)
      | inr shut ↦ let same : first ≡ own = cc in
          subst (λ own. IsSome (verdict own t)) same (not-none (verdict first t) shut)
    ]
decided-from (first ∷ cells) t i none (suc m) own here =
    elim (cases_Bool (is_none (verdict first t))) [
      | inl open' ↦ absurd (let e : Some i ≡ None = rw open' at none in cc)
      | inr shut ↦ decided-from cells t (i + 1) (rw shut at none) m own here
    ]

pub decided-none : (cells : List (List Cell)) (t : ℕ) → first_open cells t ≡ None → AreDecidedAt cells t
decided-none cells t none = decided-from cells t 0 none

pub decided-more : (cells : List (List Cell)) (taken : ℕ) → ((t : ℕ) → t < taken → AreDecidedAt cells t) →
    AreDecidedAt cells taken → (t : ℕ) → t < taken + 1 → AreDecidedAt cells t
decided-more cells taken before here t low =
    elim (cases_lt t taken) [
      | inl earlier ↦ before t earlier
      | inr last ↦ let same : taken ≡ t = omega arith in subst (AreDecidedAt cells) same here
    ]

pub answer-taken : (options : Options) (cells : List (List Cell)) (t : ℕ) (back : Option Packet) → first_open cells t ≡ None →
    back ≡ back_at options cells t → Taken back ≡ answer_at options cells t
answer-taken options cells t back none is = ap Taken is ∙ sym (ap (λ o. answer_by o options cells t) none)

-- ---- return packets at rows 16 k + 23 alone
pub back-there : (options : Options) (cells : List (List Cell)) (k : ℕ) →
    back_at options cells (16 * k + 23) ≡ Some (return_at options cells k)
back-there options cells k =
    let t = 16 * k + 23 in
    let e : nat_lt 22 t ≡ true = grind (arith, nat_tests, (let h : 22 < t = omega arith in h)) in
    let f : (t % 16 == 7) ≡ true = grind (arith, nat_tests, (let h : t % 16 ≡ 7 = omega arith in h)) in
    ap (λ b. if b && t % 16 == 7 then Some (return_at options cells ((t - 23) / 16)) else None) e
    ∙ ap (λ b. if b then Some (return_at options cells ((t - 23) / 16)) else None) f
    ∙ ap (λ k. Some (return_at options cells k)) (let g : (t - 23) / 16 ≡ k = omega arith in g)

pub back-elsewhere : (options : Options) (cells : List (List Cell)) (t : ℕ) → ((k : ℕ) → t ≡ 16 * k + 23 → ⊥) →
    back_at options cells t ≡ None
back-elsewhere options cells t other =
    elim (cases_Bool (nat_lt 22 t && t % 16 == 7)) [
      | inl ends ↦ let (late, last) = packet-ends t ends in absurd (other ((t - 23) / 16) (omega (arith, late, last)))
      | inr no_end ↦ ap (λ b. if b then Some (return_at options cells ((t - 23) / 16)) else None) no_end
    ]

-- ---- the lines that carry payload
-- those by the packets that were read so far are those of the next row
pub carriers-next : (options : Options) (cells : List (List Cell)) (t : ℕ) (lines : Option (List ℕ)) →
    lines ≡ last_carriers options (read_rows cells (packet_rows t)) → AreCarriers options cells t lines
carriers-next options cells t lines are late =
    let rows = read_rows cells (packet_rows t) in
    let k = (t - 24) / 16 in
    let next : packet_rows t ≡ k + 1 = omega (arith, late) in
    let size : length rows ≡ k + 1 = length-read cells (packet_rows t) ∙ next in
    let some' : (0 == length rows) ≡ false =
    grind (arith, nat_tests, (let apart : 0 ≡ length rows → ⊥ = λ same. absurd (omega (arith, same, size)) in apart)) in
    are ∙ ap (λ b. if b then None else carriers_of options rows (length rows - 1)) some'
    ∙ ap (carriers_of options rows) (let last : length rows - 1 ≡ k = omega (arith, size) in last)
    ∙ ap (λ n. carriers_of options (read_rows cells n) k) next

-- ---- More cells change nothing of rows that are decided, and more rows add frames.
-- ---- more cells
abbrev AreDecidedTo : List (List Cell) → ℕ → Type 0
AreDecidedTo cells taken = (t : ℕ) → t < taken → AreDecidedAt cells t

received-stays : (options : Options) (size taken : ℕ) (cells longer : List (List Cell)) → IsLonger cells longer →
    AreDecidedTo cells taken → received_rows options size longer taken ≡ received_rows options size cells taken
received-stays options size taken cells longer more decided =
    map-same_range (λ t. row_in (row_at options size longer t)) (λ t. row_in (row_at options size cells t)) 0 taken
    (λ t low. ap row_in (rows_stay options size cells longer t more (decided t (omega arith))))

packets-stay : (taken : ℕ) (cells longer : List (List Cell)) → IsLonger cells longer → AreDecidedTo cells taken →
    read_rows longer (packet_rows taken) ≡ read_rows cells (packet_rows taken)
packets-stay taken cells longer more decided =
    map-same_range (read_packets longer) (read_packets cells) 0 (packet_rows taken)
    (λ k low. read-stays cells longer k more (decided (16 * k + 23) (omega arith)))

decided-stays : (t : ℕ) (cells longer : List (List Cell)) → IsLonger cells longer → AreDecidedAt cells t →
    AreDecidedAt longer t
decided-stays t cells longer are decided m own here =
    let inside = slice_get_within longer m own here in
    let size = are.size in
    let (before, was) = slice_get-inside cells m (omega arith) in
    let (more, now) = are.each m before was in
    let same : own ≡ before ++ more = let e : Some own ≡ Some (before ++ more) = sym here ∙ now in cc in
    let (told, said) = is-some (verdict before t) (decided m before was) in
    ap is_some (ap (λ own. verdict own t) same ∙ verdict-stays before more t told said)

pub stands-longer : (core : Core) (cells longer : List (List Cell)) → IsLonger cells longer → SinkStands core cells →
    SinkStands core longer
stands-longer core cells longer more stands = record {
  lines = more.size ∙ stands.lines;
  receives = subst (Receives core.receiver)
      (sym (received-stays core.options core.size core.taken cells longer more stands.decided)) stands.receives;
  table = subst (sink_table.SinkTableStands core.table) (sym (packets-stay core.taken cells longer more stands.decided))
      stands.table;
  decided = λ t low. decided-stays t cells longer more (stands.decided t low);
}

pub frames-stay : (options : Options) (size taken : ℕ) (cells longer : List (List Cell)) → IsLonger cells longer →
    ((t : ℕ) → t < taken → AreDecidedAt cells t) →
    given_frames options size longer taken ≡ given_frames options size cells taken
frames-stay options size taken cells longer more decided =
    ap (deliver longest_frame) (received-stays options size taken cells longer more decided)

pub back-stays : (options : Options) (t : ℕ) (cells longer : List (List Cell)) → IsLonger cells longer →
    AreDecidedAt cells t → back_at options longer t ≡ back_at options cells t
back-stays options t cells longer more decided =
    elim (cases_Bool (nat_lt 22 t)) [
      | inr early ↦ rw early refl
      | inl late ↦
          elim (cases_Bool (t % 16 == 7)) [
            | inr other ↦ rw (late, other) refl
            | inl last ↦
                let a : 22 < t = grind (arith, nat_tests, late) in
                let b : t % 16 ≡ 7 = grind (arith, nat_tests, last) in
                let k = (t - 23) / 16 in
                let at : t ≡ 16 * k + 23 = omega arith in
                rw (late, last) (ap Some (returns_stay options cells longer k more (subst (AreDecidedAt cells) at decided)))
          ]
    ]

pub with_cell-longer : (cells : List (List Cell)) (line : ℕ) (cell : Cell) → IsLonger cells (with_cell cells line cell)
with_cell-longer cells line cell = record { size = size cells line; each = each cells line }
  where
    size : (cells : List (List Cell)) (line : ℕ) → length (with_cell cells line cell) ≡ length cells
    size [] line = refl
    size (own ∷ cells) zero = refl
    size (own ∷ cells) (suc line) = ap suc (size cells line)

    each : (cells : List (List Cell)) (line m : ℕ) (own : List Cell) → slice_get cells m ≡ Some own →
        (more : List Cell) × (slice_get (with_cell cells line cell) m ≡ Some (own ++ more))
    each [] line m own here = absurd cc
    each (first ∷ cells) zero zero own here =
        (cell ∷ [], ap (λ own. Some (own ++ cell ∷ [])) (let same : first ≡ own = cc in same))
    each (first ∷ cells) zero (suc m) own here = ([], here ∙ ap Some (sym (append-nil own)))
    each (first ∷ cells) (suc line) zero own here = ([], here ∙ ap Some (sym (append-nil own)))
    each (first ∷ cells) (suc line) (suc m) own here = each cells line m own here

-- ---- more rows
received-split : (options : Options) (size : ℕ) (cells : List (List Cell)) (n more : ℕ) → (rest : List StreamRow) ×
    (received_rows options size cells (n + more) ≡ received_rows options size cells n ++ rest)
received-split options size cells n zero =
    let e : n + 0 ≡ n = omega arith in
    ([], ap (received_rows options size cells) e ∙ sym (append-nil (received_rows options size cells n)))
received-split options size cells n (suc more) =
    let (rest, is) = received-split options size cells n more in
    let e : n + suc more ≡ n + more + 1 = omega arith in
    let row = row_in (row_at options size cells (n + more)) in (
      rest ++ row ∷ [],
      ap (received_rows options size cells) e ∙ received-more options size cells (n + more) ∙ ap (λ l. l ++ row ∷ []) is
          ∙ append_assoc (received_rows options size cells n) rest (row ∷ []),
    )

pub frames-grow : (options : Options) (size before taken : ℕ) (cells : List (List Cell)) → before ≤ taken →
    given_frames options size cells taken
    ≡ given_frames options size cells before ++ added_frames options size cells before taken
frames-grow options size before taken cells low =
    let (rest, is) = received-split options size cells before (taken - before) in
    let e : before + (taken - before) ≡ taken = omega arith in
    let first = received_rows options size cells before in
    let all : received_rows options size cells taken ≡ first ++ rest =
    ap (received_rows options size cells) (sym e) ∙ is in
    let given = given_frames options size cells before in
    ap (deliver longest_frame) all ∙ deliver-grows longest_frame first rest
    ∙ ap (λ rows. given ++ drop (length given) (deliver longest_frame rows)) (sym all)

-- ---- The frames of rows whose whole ones are those of a session.
-- rows give the same frames, and so they do with more rows
pub record Agree (some' other : List StreamRow) : Type 0 where
  pub frames : deliver longest_frame some' ≡ deliver longest_frame other
  pub first : (segments_of some').last.first ≡ (segments_of other).last.first
  pub octets : (segments_of some').last.octets ≡ (segments_of other).last.octets

agree-whole : (a b : List StreamRow) (octets : List ℕ) → Agree a b →
    Agree (a ++ whole_row octets ∷ []) (b ++ whole_row octets ∷ [])
agree-whole a b octets agree =
    let last-a = (segments_of a).last in
    let last-b = (segments_of b).last in
    record {
      frames =
          grows-whole longest_frame a octets (adds longest_frame last-a.first last-a.octets octets)
          ∙ ap₂ ◌++◌ agree.frames (added-whole longest_frame a octets
          ∙ ap₂ (λ first before. next_frames longest_frame first before octets) agree.first agree.octets
          ∙ sym (added-whole longest_frame b octets))
          ∙ sym (grows-whole longest_frame b octets (adds longest_frame last-b.first last-b.octets octets));
      first = ap (λ (s : Segments). s.last.first) (segments_of-push a (whole_row octets)) ∙ agree.first
          ∙ sym (ap (λ (s : Segments). s.last.first) (segments_of-push b (whole_row octets)));
      octets =
          ap (λ (s : Segments). s.last.octets) (segments_of-push a (whole_row octets))
          ∙ ap (λ l. l ++ octets) agree.octets
          ∙ sym (ap (λ (s : Segments). s.last.octets) (segments_of-push b (whole_row octets)));
    }

agree-lost : (a b : List StreamRow) (some' other : List ℕ) → Agree a b →
    Agree (a ++ lost_row some' ∷ []) (b ++ lost_row other ∷ [])
agree-lost a b some' other agree = record {
  frames = deliver-lost longest_frame a some' ∙ agree.frames ∙ sym (deliver-lost longest_frame b other);
  first = ap (λ (s : Segments). s.last.first) (segments_of-push a (lost_row some'))
      ∙ sym (ap (λ (s : Segments). s.last.first) (segments_of-push b (lost_row other)));
  octets = ap (λ (s : Segments). s.last.octets) (segments_of-push a (lost_row some'))
      ∙ sym (ap (λ (s : Segments). s.last.octets) (segments_of-push b (lost_row other)));
}

-- one row more
agree-row : (a b : List StreamRow) (whole : Bool) (octets : List ℕ) (row : Option (List ℕ)) →
    row ≡ (if whole then Some octets else None) → Agree a b →
    Agree (a ++ row_in row ∷ []) (b ++ record { whole = whole; octets = octets } ∷ [])
agree-row a b true octets row is agree = rw is (agree-whole a b octets agree)
agree-row a b false octets row is agree = rw is (agree-lost a b [] octets agree)

rows-agree : (scenario : Scenario) (returns : List (Option Told)) (cells : List (List Cell)) (n : ℕ) →
    AreSessionRows scenario returns cells n →
    Agree (received_rows scenario.options scenario.size cells n) (rows_of scenario returns n)
unfolding rows_of
rows-agree scenario returns cells zero are = record { frames = refl; first = refl; octets = refl }
rows-agree scenario returns cells (suc n) are =
    let e : suc n ≡ n + 1 = omega arith in
    let received = received_rows scenario.options scenario.size cells in
    let row = row_at scenario.options scenario.size cells n in
    let all : received (suc n) ≡ received n ++ row_in row ∷ [] =
    ap received e ∙ received-more scenario.options scenario.size cells n in
    subst (λ rows. Agree rows (rows_of scenario returns n ++ row_of scenario returns n ∷ [])) (sym all)
    (agree-row (received n) _ (is_whole_row scenario returns n) (payload_of scenario returns n) row
    (are n (omega arith)) (rows-agree scenario returns cells n (λ t low. are t (omega arith))))

pub session-frames : (scenario : Scenario) (returns : List (Option Told)) (cells : List (List Cell)) (n : ℕ) →
    AreSessionRows scenario returns cells n →
    given_frames scenario.options scenario.size cells n ≡ deliver longest_frame (rows_of scenario returns n)
session-frames scenario returns cells n are = let agree = rows-agree scenario returns cells n are in agree.frames

pub session-last : (scenario : Scenario) (returns : List (Option Told)) (cells : List (List Cell)) (n : ℕ) →
    AreSessionRows scenario returns cells n →
    (segments_of (received_rows scenario.options scenario.size cells n)).last.octets ≡
    (segments_of (rows_of scenario returns n)).last.octets
session-last scenario returns cells n are = let agree = rows-agree scenario returns cells n are in agree.octets

pub session-rows : (scenario : Scenario) (told : ℕ) (cells : List (List Cell)) (n : ℕ) →
    length scenario.windows ≤ most_lines → 0 < scenario.lag → TellRows scenario (cells_before scenario told) cells n →
    AreSessionRows scenario (cells_before scenario told) cells n
session-rows scenario told cells n few lag tell t low =
    let returns = cells_before scenario told in
    let tells = tell t low in
    row-whole scenario told tells.sent cells t few lag tells.tells
    ∙ ap (λ octets. if is_whole_row scenario returns t then Some octets else None)
    (row-payload scenario returns tells.sent t tells.dealt)
