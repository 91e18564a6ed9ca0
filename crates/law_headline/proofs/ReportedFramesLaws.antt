-- The frames that a report tells, as they are picked out of those of the stream.
use Rattle.std.proofs.Common.{◌≡◌, ◌⊎◌, ℕ, ◌+◌, ◌<◌, ◌≤◌, Bool, true, false, not, List, ◌++◌, length, filter}
use Rattle.std.proofs.Common.{slice_index_or, All, refl, sym, ◌∙◌, ap, arith, inl, inr, ◌&&◌, ◌||◌, leb-true, le-leb}
use Rattle.std.proofs.lemmas.Bool.{cases_Bool, and_parts, not-true}
use Rattle.std.proofs.lemmas.List.{length-map}
use Rattle.law_model.specs.Common.{Leg, Scenario, scenario_by, session_cells, StreamRow, Segment, segments}
use Rattle.law_model.specs.Common.{octets_of_rows, rows_of, Extent, is_carried, lies_in, is_frame_lost, IsSound}
use Rattle.text_report.specs.ReportLines.{got_texts, refused_texts, total_text}
use Rattle.law_loss.specs.CarriedStream.{IsUndamaged}
use Rattle.law_loss.proofs.SegmentsOfAddedRowsLaws.{Stands-all}
use Rattle.law_loss.proofs.GivenAndLostFrameLaws.{way_of, lost_of}
use Rattle.law_loss.proofs.ClientFrameExtentLaws.{extents-between}
use Rattle.law_loss.proofs.SessionStreamLossLaws.{rows-length}
use Rattle.law_loss.proofs.GivenAndLostFrameLaws.{IsWhole, only_segment}
use Rattle.law_loss.proofs.SessionStreamLossLaws.{undamaged-whole, rows-whole}
use Rattle.law_walk.specs.Common.{session_rows, Numbered, refusals_among, totals_among, session_pieces}
use Rattle.law_walk.specs.Common.{session_extents}
use Rattle.law_walk.specs.Common.{place_after, HasNoFailure, AreWholeBefore, ConfirmsTrue, report_among}
use Rattle.law_walk.proofs.WalkPlanAndPoppedCellLaws.{sound-walks}
use Rattle.law_walk.proofs.AcceptedFrameAndDrainedWalkLaws.{frames-kept, frames-known}
use Rattle.law_walk.proofs.WholeRowDespiteFailureLaws.{whole-starts}
use Rattle.law_headline.specs.Headline.{ComesThrough, ArePicked, Reports, IsHeadline}

-- ---- which frames come through
module _ (leg : Leg) (rows : ℕ) (low : rows ≤ leg.config.ticks) where
  abbrev parts : List Segment
  parts = segments (session_rows leg rows)

  abbrev octets : List ℕ
  octets = octets_of_rows (session_rows leg rows)

  -- the test by which frames are kept
  abbrev is_kept : Extent → Bool
  is_kept e = is_carried (length octets) e && not (is_frame_lost parts (session_extents leg) e)

  ends : length octets ≡ place_after leg rows
  ends = rows-length (scenario_by leg) (session_cells (scenario_by leg)) rows leg.config.ticks low

  comes : (e : Extent) → e.from < e.to → e.to ≤ place_after leg rows →
      is_frame_lost parts (session_extents leg) e ≡ false →
      ComesThrough leg rows e
  comes e long carried kept =
      let order = (Stands-all (session_rows leg rows)).order in
      record {
        carried = carried;
        kept = λ lost. (let wrong : true ≡ false = sym (lost_of (session_extents leg) e parts long order lost)
            ∙ kept in cc);
      }

  through : (e : Extent) → e.from < e.to → is_kept e ≡ true → ComesThrough leg rows e
  through e long is =
      let halves = and_parts (is_carried (length octets) e) (not (is_frame_lost parts (session_extents leg) e)) is in
      let carried = leb-true e.to (length octets) halves.0 in
      comes e long (omega (arith, carried, ends)) (not-true (is_frame_lost parts (session_extents leg) e) halves.1)

  back : (e : Extent) → ComesThrough leg rows e → is_kept e ≡ true
  back e is =
      let fits = is.carried in
      let carried : is_carried (length octets) e ≡ true = le-leb e.to (length octets) (omega (arith, fits, ends)) in
      elim (cases_Bool (is_frame_lost parts (session_extents leg) e)) [
        | inl lost ↦ absurd (is.kept (way_of (session_extents leg) e parts lost))
        | inr kept ↦ rw (carried, kept) refl
      ]

  kept-picked : ArePicked (ComesThrough leg rows) (session_extents leg) (filter is_kept (session_extents leg))
  kept-picked = record {
    test = is_kept;
    decides = λ i d inside. (
      through (slice_index_or (session_extents leg) i d) (extents-between 0 (session_pieces leg) i d inside).size,
      back (slice_index_or (session_extents leg) i d),
    );
    are = refl;
  }

  reports : (ticks : ℕ) (items : List Numbered) → IsSound leg → ConfirmsTrue leg rows →
      Reports leg ticks rows items (report_among leg ticks rows items)
  reports ticks items sound starts = record {
    accepted = sym (frames-known leg sound);
    through = filter is_kept (session_extents leg);
    picked = kept-picked;
    lines = ap
        (λ frames. got_texts frames ++ refused_texts (refusals_among leg items)
        ++ total_text (totals_among leg ticks rows items))
        (frames-kept leg rows sound low starts);
    counted = ap length (frames-kept leg rows sound low starts)
        ∙ length-map (filter is_kept (session_extents leg)) (λ extent. extent.frame);
  }

-- ---- where each row is whole, no frame is lost that they carry
whole-kept : (rows : List StreamRow) (all : List Extent) (e : Extent) → All IsWhole rows →
    e.to ≤ length (octets_of_rows rows) →
    is_frame_lost (segments rows) all e ≡ false
whole-kept rows all e whole fits =
    let only : Segment = record { first = true; base = 0; octets = octets_of_rows rows } in
    let lies : lies_in only e ≡ true =
    rw (le-leb 0 e.from (omega arith), le-leb e.to (0 + length (octets_of_rows rows)) (omega (arith, fits))) refl in
    ap (λ (parts : List Segment). is_frame_lost parts all e) (only_segment rows whole)
    ∙ ap (λ b. not ((b && true) || false)) lies

module _ (leg : Leg) (sound : IsSound leg) (none : HasNoFailure leg) where
  abbrev scenario : Scenario
  scenario = scenario_by leg

  fine : IsUndamaged scenario
  fine = record { some_line = (sound-walks leg sound).some; none = none }

  whole : (rows : ℕ) → AreWholeBefore leg rows
  whole rows t inside = undamaged-whole scenario (session_cells scenario) t fine

  each-whole : (rows : ℕ) → All IsWhole (rows_of scenario (session_cells scenario) rows)
  each-whole rows = rows-whole scenario (session_cells scenario) rows (whole rows)

  none-starts : (rows : ℕ) → ConfirmsTrue leg rows
  none-starts rows = whole-starts leg rows (whole rows)

  none-lost : (rows : ℕ) → rows ≤ leg.config.ticks →
      All (λ (frame : Extent). frame.to ≤ place_after leg rows → ComesThrough leg rows frame)
      (session_extents leg)
  none-lost rows low i d inside carried =
      let e : Extent = slice_index_or (session_extents leg) i d in
      comes leg rows low e (extents-between 0 (session_pieces leg) i d inside).size carried
      (whole-kept (session_rows leg rows) (session_extents leg) e (each-whole rows)
      (omega (arith, carried, ends leg rows low)))

-- ---- the headline
pub is_headline : (leg : Leg) (ticks rows : ℕ) (items : List Numbered) → IsSound leg →
    rows ≤ leg.config.ticks →
    IsHeadline leg ticks rows items (report_among leg ticks rows items)
is_headline leg ticks rows items sound low =
    let starts-true : HasNoFailure leg ⊎ ConfirmsTrue leg rows → ConfirmsTrue leg rows = λ premise.
    elim premise [ inl none ↦ none-starts leg sound none rows | inr starts ↦ starts ] in
    record {
      tells = λ premise. reports leg rows low ticks items sound (starts-true premise);
      hitless = λ none. none-lost leg sound none rows low;
    }
