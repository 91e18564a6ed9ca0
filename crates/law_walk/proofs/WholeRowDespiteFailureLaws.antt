-- Which rows are whole: while windows are clear, or though one line fails; and what is confirmed behind the others.
use Rattle.std.proofs.Common.{◌≡◌, ℕ, suc, ◌+◌, ◌-◌, ◌*◌, ◌/◌, ◌<◌, ◌≤◌, nat_le, nat_lt, ◌&&◌, true, false, inl, inr}
use Rattle.std.proofs.Common.{List, [], ◌∷◌, length, slice_index_or, All, Option, refl, sym, ◌∙◌, ap, ap₂, subst}
use Rattle.std.proofs.Common.{arith, ◌≢◌, ◌⊎◌, ◌==◌, ◌||◌, not, Bool, Some, None, Contains, zero, ◌++◌, map, filter}
use Rattle.std.proofs.Common.{append_assoc}
use Rattle.std.proofs.lemmas.Bool.{lt-leb, ltb-false, cases_Bool, cases_lt, cases_eq, eq-eqb}
use Rattle.std.proofs.lemmas.List.{get_or_past}
use Rattle.std.proofs.lemmas.List.Elements.{All-nil, All-cons, All-head, All-tail}
use Rattle.law_model.specs.Common.{Leg, lock_of, is_good, is_readable, Piece, idle, frames_by, Scenario, scenario_by}
use Rattle.law_model.specs.Common.{carried_by, is_read, is_heard, is_known, Told, active, table_of, session_cells}
use Rattle.law_model.specs.Common.{is_whole_row, Segment, octets_of_rows, StartsTrue, rows_of, IsSound, longest_frame}
use Rattle.law_model.specs.Common.{packets, last_read, was_member, is_silent_line, is_inferred, are_inferred}
use Rattle.law_model.specs.Common.{are_known, client, stream_of, DueFrame, offers_of, comes_at, frames_in, width}
use Rattle.law_model.specs.Common.{place_of, stream_before, accepted_offers, offers_before, IsPlaceOfPiece, IsSize}
use Rattle.law_model.specs.declared.window_types.Window.{Window}
use Rattle.law_model.specs.declared.window_types.Carried.TheVariants.{Whole}
use Rattle.law_model.specs.members.Damage.{carried}
use Rattle.law_session.specs.ReturnedCells.{AreWhole}
use Rattle.law_session.proofs.UpLineAndReadablePacketLaws.{readable-whole, good-whole, heard-line}
use Rattle.law_loss.specs.CarriedStream.{CarriesStream, IsSentPiece}
use Rattle.law_loss.proofs.ClientFrameExtentLaws.{and_false, or_true}
use Rattle.law_loss.proofs.SessionStreamLossLaws.{pieces-sent, rows-whole, all-true}
use Rattle.law_loss.proofs.SessionStreamLossLaws.{pieces-open, rows-carry, rows-length, pieces-begin}
use Rattle.law_loss.proofs.GivenAndLostFrameLaws.{only_segment, deliver-whole}
use Rattle.law_loss.proofs.ItemDueTicksLaws.{are_octets}
use Rattle.law_walk.specs.Common.{delivered_of, session_pieces, place_after, IsClear, row_from, AreWholeBefore}
use Rattle.law_walk.specs.Common.{ConfirmsTrue, FailsAlone}
use Rattle.std.specs.List.{list_all, list_any, range_with_len}
use Rattle.law_session.proofs.ReturnCellAndLineWordLaws.{last-read}
use Rattle.law_session.proofs.HeldLineAndStatusRoundLaws.{still-word}
use Rattle.law_session.proofs.FailedLinePayloadLaws.{active-member}
use Rattle.law_loss.proofs.ClientFrameExtentLaws.{no_octets}
use Rattle.law_model.proofs.StreamOfPiecesLaws.{length-stream_of-cons}
use Rattle.law_session.proofs.ClientStreamAndReplayLaws.{stream-reaches, stream_before-frames}
use Rattle.law_loss.proofs.SessionStreamLossLaws.{aligned-starts}

-- ---- Which rows are whole, and what is delivered while they are.
-- ---- one line
clear-carried : (windows : List Window) (from end n : ℕ) → IsClear windows from end → from ≤ n → n < end →
    carried windows n ≡ Whole
unfolding carried
clear-carried [] from end n clear low high = refl
clear-carried (window ∷ windows) from end n clear low high =
    let rest = clear-carried windows from end n (λ k d inside. clear (suc k) d (omega arith)) low high in
    elim (clear 0 window (omega arith)) [
      | inl later ↦ let e : nat_le window.first n ≡ false = lt-leb window.first n (omega arith) in rw e rest
      | inr sooner ↦
          let e : (nat_le window.first n && nat_lt n window.end) ≡ false =
          ap (λ b. nat_le window.first n && b) (grind (arith, (let h : window.end ≤ n = omega arith in h)))
          ∙ and_false (nat_le window.first n) in
          rw e rest
    ]

pub clear-whole : (windows : List Window) (from end : ℕ) → IsClear windows from end →
    AreWhole (carried windows) from end
clear-whole windows from end clear n low high = clear-carried windows from end n clear low high

-- fewer containers are as clear
pub clear-within : (windows : List Window) (a from b end : ℕ) → a ≤ from → end ≤ b → IsClear windows a b →
    IsClear windows from end
clear-within windows a from b end low high clear k d inside =
    elim (clear k d inside) [
      | inl later ↦ inl (omega arith)
      | inr sooner ↦ inr (omega arith)
    ]

-- a packet of containers that are clear is read, and a row on them is good
pub clear-read : (windows : List Window) (k : ℕ) → IsClear windows (16 * k) (16 * k + 24) →
    is_readable (carried windows) k ≡ true
clear-read windows k clear =
    (readable-whole (carried windows) k).1 (clear-whole windows (16 * k) (16 * k + 24) clear)

pub clear-good : (windows : List Window) (t : ℕ) → 2 ≤ t → IsClear windows (lock_of t) (t + 1) →
    is_good (carried windows) t ≡ true
clear-good windows t late clear =
    (good-whole (carried windows) t).1 (late, clear-whole windows (lock_of t) (t + 1) clear)

-- a line that isn't configured is clear
pub beyond-clear : (leg : Leg) (line from end : ℕ) → length leg.config.windows ≤ line →
    IsClear (slice_index_or leg.config.windows line []) from end
beyond-clear leg line from end beyond =
    subst (λ windows. IsClear windows from end) (sym (get_or_past leg.config.windows line [] beyond))
    (λ k d inside. absurd (omega arith))

-- ---- a row
-- it is whole where it is known which lines carry payload, and the container of each line is good
pub whole-known : (scenario : Scenario) (cells : List (Option Told)) (t : ℕ) →
    (24 ≤ t → is_known scenario cells ((t - 24) / 16) ≡ true) →
    ((line : ℕ) → 24 ≤ t → is_good (carried_by scenario line) t ≡ true) → is_whole_row scenario cells t ≡ true
whole-known scenario cells t known good =
    elim (cases_Bool (nat_lt t 24)) [
      | inl early ↦ rw early refl
      | inr late ↦
          let high = ltb-false t 24 late in
          let k : ℕ = (t - 24) / 16 in
          rw (late, known high) (all-true (λ line. is_good (carried_by scenario line) t)
          (active (table_of scenario cells k)) (λ line. good line high))
    ]

module _ (leg : Leg) (some : 0 < length leg.config.windows) (t : ℕ)
    (clear : (line : ℕ) → line < length leg.config.windows →
    IsClear (slice_index_or leg.config.windows line []) (row_from t) (t + 1)) where
  abbrev scenario : Scenario
  scenario = scenario_by leg

  abbrev cells : List (Option Told)
  cells = session_cells (scenario_by leg)

  line-clear : (line from : ℕ) → row_from t ≤ from →
      IsClear (slice_index_or leg.config.windows line []) from (t + 1)
  line-clear line from low =
      clear-within (slice_index_or leg.config.windows line []) (row_from t) from (t + 1) (t + 1) low (omega arith)
      (elim (cases_lt line (length leg.config.windows)) [
        | inl inside ↦ clear line inside
        | inr beyond ↦ beyond-clear leg line (row_from t) (t + 1) beyond
      ])

  line-read : (line : ℕ) → 24 ≤ t → is_read scenario line ((t - 24) / 16) ≡ true
  line-read line late =
      let k : ℕ = (t - 24) / 16 in
      clear-read (slice_index_or leg.config.windows line []) k
      (clear-within (slice_index_or leg.config.windows line []) (16 * k) (16 * k) (t + 1) (16 * k + 24) (omega arith)
      (omega arith) (line-clear line (16 * k) (omega arith)))

  all-known : 24 ≤ t → is_known scenario cells ((t - 24) / 16) ≡ true
  all-known late =
      let k : ℕ = (t - 24) / 16 in
      let heard : is_heard scenario k ≡ true = (heard-line scenario k).1 (0, some, line-read 0 late) in
      let read = all-true (λ line. is_read scenario line k) (active (table_of scenario cells k))
      (λ line. line-read line late) in
      rw (heard, read) refl

  pub row-whole : is_whole_row scenario cells t ≡ true
  row-whole =
      whole-known scenario cells t all-known
      (λ line late. clear-good (slice_index_or leg.config.windows line []) t (omega arith)
      (line-clear line (lock_of t) (omega arith)))

-- ---- the rows before the first that isn't whole
pub delivered-before : (leg : Leg) (rows : ℕ) → IsSound leg → rows ≤ leg.config.ticks →
    AreWholeBefore leg rows →
    delivered_of leg rows ≡ frames_by (place_after leg rows) (session_pieces leg)
delivered-before leg rows sound low whole =
    let scenario : Scenario = scenario_by leg in
    let cells : List (Option Told) = session_cells scenario in
    let pieces : List Piece = session_pieces leg in
    let opens = pieces-open scenario cells leg.config.ticks in
    let all : All (IsSentPiece longest_frame) (idle ∷ idle ∷ opens.0) =
    subst (All (IsSentPiece longest_frame)) opens.1
    (pieces-sent scenario cells leg.config.ticks (are_octets leg sound)) in
    let sent : All (IsSentPiece longest_frame) opens.0 = λ k d inside. all (suc (suc k)) d (omega arith) in
    let carry : CarriesStream (rows_of scenario cells rows) (idle ∷ idle ∷ opens.0) =
    subst (CarriesStream (rows_of scenario cells rows)) opens.1
    (rows-carry scenario cells rows leg.config.ticks low) in
    deliver-whole longest_frame opens.0 (rows_of scenario cells rows) (omega arith) sent carry
    (rows-whole scenario cells rows whole)
    ∙ ap₂ frames_by (rows-length scenario cells rows leg.config.ticks low) (sym opens.1)

-- whole rows have one segment, so nothing is confirmed after a break
pub whole-starts : (leg : Leg) (rows : ℕ) → AreWholeBefore leg rows → ConfirmsTrue leg rows
whole-starts leg rows whole =
    let scenario : Scenario = scenario_by leg in
    let cells : List (Option Told) = session_cells scenario in
    let pieces : List Piece = session_pieces leg in
    let only : Segment = record { first = true; base = 0; octets = octets_of_rows (rows_of scenario cells rows) } in
    subst (All (StartsTrue pieces))
    (sym (only_segment (rows_of scenario cells rows) (rows-whole scenario cells rows whole)))
    (All-cons (StartsTrue pieces) only [] (λ later. absurd cc) (All-nil (StartsTrue pieces)))

-- ---- A row is whole in spite of a failure of one line alone, where the sink goes on.
abbrev Stands : List ℕ → ℕ → Type 0
Stands lines line = Contains lines line × (list_any (λ other. other == line) lines ≡ true)

-- what holds of each other line holds of all of a list, if the line doesn't stand there
all-but : (test : ℕ → Bool) (line : ℕ) (lines : List ℕ) → ((other : ℕ) → other ≢ line → test other ≡ true) →
    Stands lines line ⊎ (list_all test lines ≡ true)
all-but test line [] each = inr refl
all-but test line (first ∷ lines) each =
    elim (cases_eq first line) [
      | inl same ↦ inl ((0, omega arith, same), (rw (eq-eqb first line same) refl))
      | inr differs ↦ elim (all-but test line lines each) [
        | inr rest ↦ inr (rw (each first differs, rest) refl)
        | inl there ↦ inl (
          (suc there.0.0, omega (arith, there.0.1), there.0.2),
          ap (λ b. (first == line) || b) there.1 ∙ or_true (first == line),
        )
      ]
    ]

-- a line that was a member in its last packet has such a packet
last-of : (scenario-whole : Scenario) (cells-whole : List (Option Told)) (line : ℕ) (found : Option ℕ) →
    was_member scenario-whole cells-whole line found ≡ true → (last : ℕ) × (found ≡ Some last)
last-of scenario-whole cells-whole line None e = absurd cc
last-of scenario-whole cells-whole line (Some last) e = (last, refl)

module _ (leg : Leg) (line t : ℕ) (sound : IsSound leg) (infers : leg.config.options.infers ≡ true) (late : 24 ≤ t)
    (alone : FailsAlone leg line t) where
  abbrev scenario-whole : Scenario
  scenario-whole = scenario_by leg

  abbrev cells-whole : List (Option Told)
  cells-whole = session_cells (scenario_by leg)

  abbrev k : ℕ
  k = (t - 24) / 16

  abbrev carrying : List ℕ
  carrying = active (table_of (scenario_by leg) (session_cells (scenario_by leg)) ((t - 24) / 16))

  -- ---- the other lines
  other-clear : (other : ℕ) → other ≢ line → IsClear (slice_index_or leg.config.windows other []) (row_from t) (t + 1)
  other-clear other differs =
      elim (cases_lt other (length leg.config.windows)) [
        | inl inside ↦ alone.others other inside differs
        | inr beyond ↦ beyond-clear leg other (row_from t) (t + 1) beyond
      ]

  other-read : (other : ℕ) → other ≢ line → is_read scenario-whole other k ≡ true
  other-read other differs =
      let windows = slice_index_or leg.config.windows other [] in
      clear-read windows k
      (clear-within windows (row_from t) (16 * k) (t + 1) (16 * k + 24) (omega arith) (omega arith)
      (other-clear other differs))

  heard : is_heard scenario-whole k ≡ true
  heard =
      let several = alone.several in
      (heard-line scenario-whole k).1 (elim (cases_eq 0 line) [
        | inl first ↦ (1, several, other-read 1 (λ same. omega arith))
        | inr differs ↦ (0, omega arith, other-read 0 differs)
      ])

  -- ---- the line itself: it was last read as a member, and no change was made since
  self-inferred : Stands carrying line → is_inferred scenario-whole cells-whole line k ≡ true
  self-inferred stands =
      let lag = sound.network.lag.0 in
      let last = last-of scenario-whole cells-whole line (last_read (is_read scenario-whole line) k)
      (active-member scenario-whole (packets scenario-whole) k line (omega arith) stands.0) in
      let read = last-read (is_read scenario-whole line) k last.0 last.1 in
      let word = still-word scenario-whole cells-whole line last.0 k alone.inside read.1 read.0 (alone.unchanged last.0 last.1) in
      rw (stands.1, word.1) refl

  each-inferred : Stands carrying line → (any : ℕ) →
      (not (is_silent_line scenario-whole cells-whole any k) || is_inferred scenario-whole cells-whole any k) ≡ true
  each-inferred stands any =
      elim (cases_eq any line) [
        | inl same ↦
            subst (λ n. (not (is_silent_line scenario-whole cells-whole n k) || is_inferred scenario-whole cells-whole n k) ≡ true) (sym same)
            (ap (λ b. not (is_silent_line scenario-whole cells-whole line k) || b) (self-inferred stands)
            ∙ or_true (not (is_silent_line scenario-whole cells-whole line k)))
        | inr differs ↦ rw (other-read any differs) refl
      ]

  are-known : are_known scenario-whole cells-whole k ≡ true
  are-known =
      elim (all-but (λ other. is_read scenario-whole other k) line carrying other-read) [
        | inr read ↦ rw read refl
        | inl stands ↦
            let inferred : are_inferred scenario-whole cells-whole k ≡ true = all-true
            (λ any. not (is_silent_line scenario-whole cells-whole any k) || is_inferred scenario-whole cells-whole any k)
            (range_with_len 0 (length scenario-whole.windows)) (each-inferred stands) in
            ap (λ b. list_all (λ other. is_read scenario-whole other k) carrying || b)
            (ap₂ (λ a b. a && b) infers inferred)
            ∙ or_true (list_all (λ other. is_read scenario-whole other k) carrying)
      ]

  known : is_known scenario-whole cells-whole k ≡ true
  known = rw (heard, are-known) refl

  -- ---- the row
  good : IsClear (slice_index_or leg.config.windows line []) (lock_of t) (t + 1) → (any : ℕ) →
      is_good (carried_by scenario-whole any) t ≡ true
  good own any =
      clear-good (slice_index_or leg.config.windows any []) t (omega arith)
      (elim (cases_eq any line) [
        | inl same ↦
            subst (λ n. IsClear (slice_index_or leg.config.windows n []) (lock_of t) (t + 1)) (sym same) own
        | inr differs ↦
            clear-within (slice_index_or leg.config.windows any []) (row_from t) (lock_of t) (t + 1) (t + 1)
            (omega arith) (omega arith) (other-clear any differs)
      ])

  pub near-whole : IsClear (slice_index_or leg.config.windows line []) (lock_of t) (t + 1) →
      is_whole_row scenario-whole cells-whole t ≡ true
  near-whole own = whole-known scenario-whole cells-whole t (λ late. known) (λ any late. good own any)

  pub behind-whole : (end : ℕ) → IsClear (slice_index_or leg.config.windows line []) end (t + 1) → end + 17 ≤ t →
      is_whole_row scenario-whole cells-whole t ≡ true
  behind-whole end own far =
      near-whole
      (clear-within (slice_index_or leg.config.windows line []) end (lock_of t) (t + 1) (t + 1) (omega arith)
      (omega arith) own)

-- ---- When what is confirmed after a break is sure to be the place of a piece: where each row that isn't whole ends at one;
-- so
-- where no frame is sent before such rows have ended.
-- ---- rows that end at the place of a piece
pub aligned-true : (leg : Leg) (rows : ℕ) → IsSound leg → rows ≤ leg.config.ticks →
    ((t : ℕ) → t < rows → is_whole_row (scenario_by leg) (session_cells (scenario_by leg)) t ≡ false →
    IsPlaceOfPiece (session_pieces leg) (place_after leg (suc t))) →
    ConfirmsTrue leg rows
aligned-true leg rows sound low each =
    aligned-starts (scenario_by leg) (session_cells (scenario_by leg)) rows leg.config.ticks
    (are_octets leg sound) low each

-- ---- no frame yet
-- no offer comes before a tick
none-come : (offers : List DueFrame) (from t : ℕ) → All (λ (offer : DueFrame). from ≤ offer.due) offers → t < from →
    filter (comes_at t) offers ≡ []
none-come [] from t late low = refl
none-come (offer ∷ offers) from t late low =
    let due : from ≤ offer.due = All-head (λ (offer : DueFrame). from ≤ offer.due) offer offers late in
    let not_yet : nat_le offer.due t ≡ false = lt-leb offer.due t (omega (arith, due, low)) in
    rw not_yet (none-come offers from t (All-tail (λ (offer : DueFrame). from ≤ offer.due) offer offers late) low)

module _ (scenario : Scenario) (cells : List (Option Told)) (from : ℕ)
    (late : All (λ (offer : DueFrame). from ≤ offer.due) scenario.offers) where
  none-before : (t : ℕ) → t ≤ from → offers_before scenario cells t ≡ []
  unfolding offers_before
  none-before zero low = refl
  none-before (suc t) low =
      ap₂ (λ before now. before ++ accepted_offers (stream_before scenario cells t) now)
      (none-before t (omega (arith, low)))
      (none-come scenario.offers from t late (omega (arith, low)))

  -- so the stream has idles alone
  no-frames : (t : ℕ) → t ≤ from → frames_in (stream_before scenario cells t).pieces ≡ []
  no-frames t low =
      let all : frames_in (stream_before scenario cells t).pieces ++ (stream_before scenario cells t).waiting ≡ [] =
      stream_before-frames scenario cells t
      ∙ ap (λ (offers : List DueFrame). map (λ (offer : DueFrame). offer.frame) offers) (none-before t low) in
      front-none (frames_in (stream_before scenario cells t).pieces) (stream_before scenario cells t).waiting all
    where
      front-none : (front back : List (List ℕ)) → front ++ back ≡ [] → front ≡ []
      front-none [] back none = refl
      front-none (frame ∷ front) back none = absurd cc

-- among idles each fourth octet is the place of one
idle-place : (n : ℕ) (pieces : List Piece) → frames_in pieces ≡ [] → 4 * n ≤ length (stream_of pieces) →
    IsPlaceOfPiece pieces (4 * n)
idle-place zero pieces none low = record { front = []; more = pieces; parts = refl; ends = no_octets }
idle-place (suc n) [] none low = absurd (omega (arith, low, no_octets))
idle-place (suc n) (client frame ∷ pieces) none low = absurd cc
idle-place (suc n) (idle ∷ pieces) none low =
    let rest = idle-place n pieces none (omega (arith, low, length-stream_of-cons idle pieces)) in
    record {
      front = idle ∷ rest.front;
      more = rest.more;
      parts = ap (λ (l : List Piece). idle ∷ l) rest.parts;
      ends = omega (arith, length-stream_of-cons idle rest.front, rest.ends);
    }

later-place : (front whole : List Piece) (place : ℕ) → (more : List Piece) × (whole ≡ front ++ more) →
    IsPlaceOfPiece front place → IsPlaceOfPiece whole place
later-place front whole place begins is = record {
  front = is.front;
  more = is.more ++ begins.0;
  parts = begins.1 ∙ ap (λ l. l ++ begins.0) is.parts ∙ append_assoc is.front is.more begins.0;
  ends = is.ends;
}

-- the rows of a leg carry whole idles
fourth : (size w : ℕ) → IsSize size → (n : ℕ) × (size * w ≡ 4 * n)
fourth size w (inl three) = (189 * w, rw three (omega arith))
fourth size w (inr four) = (585 * w, rw four (omega arith))

place-fourth : (scenario : Scenario) (cells : List (Option Told)) (t : ℕ) → IsSize scenario.size →
    (n : ℕ) × (place_of scenario cells t ≡ 4 * n)
unfolding place_of
place-fourth scenario cells zero is = (0, refl)
place-fourth scenario cells (suc t) is =
    let before = place-fourth scenario cells t is in
    let row = fourth scenario.size (width scenario cells t) is in
    (before.0 + row.0, omega (arith, before.1, row.1))

pub quiet-true : (leg : Leg) (rows from : ℕ) → IsSound leg → rows ≤ leg.config.ticks →
    from ≤ leg.config.ticks →
    All (λ (offer : DueFrame). from ≤ offer.due) (offers_of leg.items) →
    ((t : ℕ) → from ≤ t → t < rows →
    is_whole_row (scenario_by leg) (session_cells (scenario_by leg)) t ≡ true) → ConfirmsTrue leg rows
quiet-true leg rows from sound low within late whole =
    let scenario : Scenario = scenario_by leg in
    let cells : List (Option Told) = session_cells scenario in
    aligned-true leg rows sound low
    (λ t inside lost. elim (cases_lt t from) [
      | inr past ↦ absurd (let wrong : true ≡ false = sym (whole t past inside) ∙ lost in cc)
      | inl early ↦
          let pieces : List Piece = (stream_before scenario cells (suc t)).pieces in
          let place = place-fourth scenario cells (suc t) sound.network.size in
          let reaches = stream-reaches scenario cells (suc t) in
          let here : IsPlaceOfPiece pieces (4 * place.0) =
          idle-place place.0 pieces (no-frames scenario cells from late (suc t) (omega (arith, early)))
          (omega (arith, reaches, place.1)) in
          later-place pieces (session_pieces leg) (place_of scenario cells (suc t))
          (pieces-begin scenario cells (suc t) leg.config.ticks (omega (arith, early, within)))
          (subst (IsPlaceOfPiece pieces) (sym place.1) here)
    ])
