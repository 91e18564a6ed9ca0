-- Frames of the rows that a walk takes: captured and read back, counted and summed.
use Rattle.std.proofs.Common.{◌≡◌, ℕ, zero, suc, ◌+◌, ◌-◌, ◌<◌, ◌≤◌, List, [], ◌∷◌, ◌++◌, map, Option, refl, sym}
use Rattle.std.proofs.Common.{◌∙◌, ap, subst, arith, append-nil, Bool, true, false, length, take, drop, All, Some}
use Rattle.std.proofs.Common.{None, Ok, inl, inr, length-drop, nat_lt, ltb-false, ◌*◌, min, sum, length-append}
use Rattle.std.proofs.Common.{length-take-le}
use Rattle.std.specs.List.{flat_map, range_with_len}
use Rattle.std.proofs.lemmas.List.{map-append}
use Rattle.std.proofs.lemmas.List.Concat.{flat_map-append}
use Rattle.law_model.proofs.ListLaws.{range-more}
use Rattle.law_live.proofs.AnsweredFrameAndRefusalLaws.{grown}
use Rattle.walk_engine.proofs.OpenedWayLaws.{none-delivered, drop-none}
use Rattle.law_model.specs.Common.{Start, leg_of, Counts, begin, longest_frame, type_fault, head, Outcome, outcome_by}
use Rattle.law_model.specs.Common.{client_outcome, is_settled, area_outcomes, outcomes_after, outcomes_after_with}
use Rattle.law_model.specs.Common.{descrambled_areas, run_outcomes, Run, runs_with, Segment, segments, segment_frames}
use Rattle.law_model.specs.Common.{IsValid, drain, bound, most_ticks, Leg}
use Rattle.law_model.specs.declared.script_types.Script.{Script}
use Rattle.law_walk.specs.Common.{walk_plan, delivered_of, session_rows, totals_of}
use Rattle.walk_engine.specs.Common.{Walked, GivesRows}
use Rattle.law_walk.specs.DeliveredFrames.{delivered_since}
use Rattle.walk_engine.proofs.WalkRoundAndTotalsLaws.{since-none}
use Rattle.text_captures.specs.capture_file.WrittenCapture.{RowFrame, AreRising, due_frames}
use Rattle.text_captures.specs.declared.capture_file.capture_out.CaptureOut.{CaptureOut}
use Rattle.text_captures.specs.capture_file.CaptureSoFar.{HasCapture, AddsRow, at_row}
use Rattle.text_captures.proofs.WrittenCaptureFrameLaws.{row-more, read-back}
use Rattle.command_rooms.specs.commands.Capture.{frames_of_row, taken_frames, HasTaken, capture_octets}
use Rattle.std.proofs.lemmas.Bool.{cases_Bool}
use Rattle.std.proofs.lemmas.List.Elements.{All-nil, All-cons, All-head, All-tail, All-append, All-drop, All-weaker}
use Rattle.law_model.specs.declared.frame_faults.TypeFault.{TypeFault}
use Rattle.law_model.specs.frames.Delivery.{frame_in}
use Rattle.law_walk.proofs.WalkPlanAndPoppedCellLaws.{sound-walks}
use Rattle.law_walk.proofs.AcceptedFrameAndDrainedWalkLaws.{counts-within}
use Rattle.law_headline.specs.WalkTexts.{counts_in}
use Rattle.text_captures.specs.capture_file.Reading.{capture_said}
use Rattle.command_rooms.proofs.WalkTraceAndEventCountLaws.{counts-walked}
use Rattle.std.proofs.lemmas.List.Sums.{sum_by_push}
use borrow.Rule.Slice.PartMut.{put_mid, post_of}
use Rattle.law_model.specs.declared.session_totals.Totals.{Totals}
use Rattle.text_scripts.specs.make_load.Load.{load}
use Rattle.law_walk.proofs.DeliveredFrameCountLaws.{delivered-few}
use Rattle.command_rooms.specs.commands.Make.{octet_count, octet_sum, lines_text, make_text, HasSummed}

-- ---- The frames of the rows that are taken, row by row.
pub taken-none : (script : Script) → taken_frames script 0 ≡ []
unfolding taken_frames
taken-none script = refl

pub taken-more : (script : Script) (row : ℕ) →
    taken_frames script (row + 1) ≡ taken_frames script row ++ frames_of_row script row
unfolding taken_frames
taken-more script row =
    ap (flat_map (frames_of_row script)) (range-more row)
    ∙ flat_map-append (frames_of_row script) (range_with_len 0 row) (row ∷ [])
    ∙ ap (λ l. flat_map (frames_of_row script) (range_with_len 0 row) ++ l) (append-nil (frames_of_row script row))

taken-by : (script : Script) (row more : ℕ) → more ≤ 1 →
    taken_frames script row ++ at_row row (delivered_since (leg_of script) row (row + more))
    ≡ taken_frames script (row + more)
taken-by script row zero one =
    let e : row + 0 ≡ row = omega arith in
    ap (λ n. taken_frames script row ++ at_row row (delivered_since (leg_of script) row n)) e
    ∙ ap (λ l. taken_frames script row ++ at_row row l) (since-none (leg_of script) row)
    ∙ append-nil (taken_frames script row)
    ∙ ap (taken_frames script) (sym e)
taken-by script row (suc zero) one = sym (taken-more script row)
taken-by script row (suc (suc more)) one = absurd (omega (arith, one))

-- those of a row more, or of none
pub taken-next : (script : Script) (row next : ℕ) → row ≤ next → next ≤ row + 1
    → taken_frames script row ++ at_row row (delivered_since (leg_of script) row next) ≡ taken_frames script next
taken-next script row next low one =
    let P : ℕ → Type 0 = λ n. taken_frames script row ++ at_row row (delivered_since (leg_of script) row n)
    ≡ taken_frames script n in
    subst P (let e : row + (next - row) ≡ next = omega (arith, low) in e)
    (taken-by script row (next - row) (omega (arith, one)))

-- they are the frames that are delivered, in order and each once
frames-at : (row : ℕ) (frames : List (List ℕ)) → map (λ (own : RowFrame). own.frame) (at_row row frames) ≡ frames
frames-at row [] = refl
frames-at row (frame ∷ frames) = ap (λ l. frame ∷ l) (frames-at row frames)

pub taken-delivered : (script : Script) (rows : ℕ) →
    map (λ (own : RowFrame). own.frame) (taken_frames script rows) ≡ delivered_of (leg_of script) rows
taken-delivered script zero = ap (map (λ (own : RowFrame). own.frame)) (taken-none script)
    ∙ sym (none-delivered (leg_of script))
taken-delivered script (suc rows) =
    let e : suc rows ≡ rows + 1 = omega arith in
    ap (λ n. map (λ (own : RowFrame). own.frame) (taken_frames script n)) e
    ∙ ap (map (λ (own : RowFrame). own.frame)) (taken-more script rows)
    ∙ map-append (λ (own : RowFrame). own.frame) (taken_frames script rows) (frames_of_row script rows)
    ∙ ap (λ l. l ++ map (λ (own : RowFrame). own.frame) (frames_of_row script rows)) (taken-delivered script rows)
    ∙ ap (λ l. delivered_of (leg_of script) rows ++ l)
    (frames-at rows (delivered_since (leg_of script) rows (rows + 1)))
    ∙ grown (leg_of script) rows (rows + 1) (omega arith) ∙ ap (delivered_of (leg_of script)) (sym e)

-- ---- a capture that is written
module _ {K : Type 0} (written : K → Option (List ℕ)) (faults : K → ℕ) where
  -- a turn takes one row or none
  pub turn-taken : (was between now : CaptureOut K) (start : Start) (old new : Walked) → new.script ≡ old.script →
      old.counts.rows ≤ new.counts.rows
      → new.counts.rows ≤ old.counts.rows + 1 → between.row ≡ old.counts.rows
      → ((start : Start) (frames : List RowFrame) → HasCapture written faults was start frames →
      HasCapture written faults between start frames)
      → GivesRows (AddsRow written faults) between now (leg_of old.script) old.counts.rows new.counts.rows
      → HasTaken written faults was start old → HasTaken written faults now start new
  turn-taken was between now start old new same low one row keeps gives has =
      let more = row-more written faults between now start (taken_frames old.script old.counts.rows)
      (delivered_since (leg_of old.script) old.counts.rows new.counts.rows)
      (keeps start (taken_frames old.script old.counts.rows) has) gives in
      subst (HasCapture written faults now start)
      (ap (λ r. taken_frames old.script old.counts.rows ++ at_row r
      (delivered_since (leg_of old.script) old.counts.rows new.counts.rows)) row
      ∙ taken-next old.script old.counts.rows new.counts.rows low one
      ∙ ap (λ s. taken_frames s new.counts.rows) (sym same)) more

  pub begun-taken : (out : CaptureOut K) (start : Start) (walk : Walked) → HasCapture written faults out start [] →
      walk.counts ≡ begin (walk_plan (leg_of walk.script))
      → HasTaken written faults out start walk
  begun-taken out start walk has begun =
      subst (HasCapture written faults out start)
      (sym (ap (λ (s : Counts). taken_frames walk.script s.rows) begun ∙ taken-none walk.script)) has

-- ---- The capture of a script's walk is read as the frames in it: rows don't fall, and no frame is long.
-- ---- no delivered frame is long
abbrev Short : List ℕ → Type 0
Short frame = length frame ≤ longest_frame

all-flat : {X : Type 0} (f : X → List (List ℕ)) (xs : List X) → ((x : X) → All Short (f x)) → All Short (flat_map f xs)
all-flat f [] each = All-nil Short
all-flat f (x ∷ xs) each = All-append Short (f x) (flat_map f xs) (each x) (all-flat f xs each)

short-by : (area : List ℕ) → length area ≤ longest_frame + 4 → (fault : Option TypeFault) →
    All Short (frame_in (outcome_by fault area))
short-by area fits None =
    All-cons Short (drop 4 area) [] (let size = length-drop 4 area in omega (arith, size, fits)) (All-nil Short)
short-by area fits (Some fault) = All-nil Short

outcome-short : (settled : Bool) (area : List ℕ) → All Short (frame_in (client_outcome longest_frame settled area))
outcome-short false area = All-nil Short
outcome-short true area =
    elim (cases_Bool (nat_lt (longest_frame + 4) (length area))) [
      | inl long ↦ rw long (All-nil Short)
      | inr fits ↦ rw fits
          (short-by area (let low = ltb-false (longest_frame + 4) (length area) fits in omega (arith, low))
          (type_fault (take 4 area)))
    ]

abbrev AllShort : List Outcome → Type 0
AllShort outcomes = All Short (flat_map frame_in outcomes)

area-short : (settled : Bool) (before : ℕ) (area : List ℕ) →
    AllShort (area_outcomes (client_outcome longest_frame) settled before area)
area-short settled before [] = All-nil Short
area-short settled before (o ∷ area) =
    All-append Short (frame_in (client_outcome longest_frame (is_settled settled before) (o ∷ area))) []
    (outcome-short (is_settled settled before) (o ∷ area)) (All-nil Short)

after-short : (settled : Bool) (before : ℕ) (areas : List (List ℕ)) →
    AllShort (outcomes_after longest_frame settled before areas)
unfolding outcomes_after_with
after-short settled before [] = All-nil Short
after-short settled before (area ∷ areas) =
    let own = area_outcomes (client_outcome longest_frame) settled before area in
    let rest = outcomes_after longest_frame settled (before + length area) areas in
    subst (All Short) (sym (flat_map-append frame_in own rest))
    (All-append Short (flat_map frame_in own) (flat_map frame_in rest) (area-short settled before area)
    (after-short settled (before + length area) areas))

runs-short : (runs : List Run) → AllShort (flat_map (run_outcomes longest_frame) runs)
runs-short [] = All-nil Short
runs-short (run ∷ runs) =
    let own = run_outcomes longest_frame run in
    let rest = flat_map (run_outcomes longest_frame) runs in
    subst (All Short) (sym (flat_map-append frame_in own rest))
    (All-append Short (flat_map frame_in own) (flat_map frame_in rest)
    (after-short run.settled 0 (descrambled_areas run.areas)) (runs-short runs))

delivered-short : (script : Script) (rows : ℕ) → All Short (delivered_of (leg_of script) rows)
delivered-short script rows =
    all-flat (segment_frames longest_frame) (segments (session_rows (leg_of script) rows))
    (λ (segment : Segment). runs-short (runs_with head head segment.first segment.octets))

-- ---- rows don't fall
row-rises : (least row : ℕ) (frames : List (List ℕ)) → least ≤ row → row < most_ticks → All Short frames →
    AreRising least (at_row row frames)
unfolding AreRising
row-rises least row [] low high short = tt
row-rises least row (frame ∷ frames) low high short = (
  low,
  high,
  (let own = All-head Short frame frames short in omega (arith, own)),
  row-rises row row frames (omega arith) high (All-tail Short frame frames short),
)

abbrev IsBy : ℕ → RowFrame → Type 0
IsBy row own = own.row ≤ row

more-rises : (least row : ℕ) (xs : List RowFrame) (frames : List (List ℕ)) → least ≤ row → row < most_ticks →
    All (IsBy row) xs → All Short frames → AreRising least xs → AreRising least (xs ++ at_row row frames)
unfolding AreRising
more-rises least row [] frames low high by short rising = row-rises least row frames low high short
more-rises least row (own ∷ xs) frames low high by short rising = (
  rising.0,
  rising.1,
  rising.2,
  more-rises own.row row xs frames (All-head (IsBy row) own xs by) high (All-tail (IsBy row) own xs by) short rising.3,
)

at-by : (row : ℕ) (frames : List (List ℕ)) → All (IsBy row) (at_row row frames)
at-by row [] = All-nil (IsBy row)
at-by row (frame ∷ frames) =
    All-cons (IsBy row) (record { row = row; frame = frame }) (at_row row frames) (omega arith) (at-by row frames)

taken-by-walk : (script : Script) (rows : ℕ) → All (IsBy rows) (taken_frames script rows)
taken-by-walk script zero = subst (All (IsBy 0)) (sym (taken-none script)) (All-nil (IsBy 0))
taken-by-walk script (suc rows) =
    let e : rows + 1 ≡ suc rows = omega arith in
    subst (λ n. All (IsBy (suc rows)) (taken_frames script n)) e
    (subst (All (IsBy (suc rows))) (sym (taken-more script rows))
    (All-weaker (IsBy rows) (IsBy (suc rows)) (λ own low. omega (arith, low))
    (taken_frames script rows ++ frames_of_row script rows)
    (All-append (IsBy rows) (taken_frames script rows) (frames_of_row script rows) (taken-by-walk script rows)
    (at-by rows (delivered_since (leg_of script) rows (rows + 1))))))

none-rises : AreRising 0 []
unfolding AreRising
none-rises = tt

taken-rises : (script : Script) (rows : ℕ) → rows ≤ most_ticks → AreRising 0 (taken_frames script rows)
taken-rises script zero high = subst (AreRising 0) (sym (taken-none script)) none-rises
taken-rises script (suc rows) high =
    let e : rows + 1 ≡ suc rows = omega arith in
    subst (λ n. AreRising 0 (taken_frames script n)) e
    (subst (AreRising 0) (sym (taken-more script rows))
    (more-rises 0 rows (taken_frames script rows) (delivered_since (leg_of script) rows (rows + 1)) (omega arith)
    (omega (arith, high)) (taken-by-walk script rows)
    (All-drop Short (length (delivered_of (leg_of script) rows)) (delivered_of (leg_of script) (rows + 1))
    (delivered-short script (rows + 1)))
    (taken-rises script rows (omega (arith, high)))))

-- ---- what is read of it
pub capture-read : (script : Script) → IsValid script →
    capture_said (capture_octets script) ≡ Ok (due_frames (taken_frames script (counts_in script).rows))
capture-read script valid =
    let within =
    counts-within (leg_of script) (counts_in script) (sound-walks (leg_of script) valid.sound) (counts-walked script) in
    let most = valid.sound.network.ticks.1 in
    read-back (taken_frames script (counts_in script).rows)
    (taken-rises script (counts_in script).rows (omega (arith, within.0, within.1, most)))

-- ---- Frames whose octets are counted and added up.
pub since-begin : (leg : Leg) (rows : ℕ) → delivered_since leg 0 rows ≡ delivered_of leg rows
since-begin leg rows = ap (λ (frames : List (List ℕ)). drop (length frames) (delivered_of leg rows))
    (none-delivered leg) ∙ drop-none (delivered_of leg rows)

pub summed-none : HasSummed 0 0 []
summed-none = record { octets = refl; total = refl; few = omega arith; small = omega arith }

pub summed-next : (octets total size add more_octets more_total : ℕ) (frames : List (List ℕ)) (frame : List ℕ) →
    HasSummed octets total frames → length frame ≤ longest_frame → size ≡ length frame
    → add ≡ sum frame → add ≤ 255 * length frame → more_octets ≡ min (octets + size) 18446744073709551615 →
    more_total ≡ min (total + add) 18446744073709551615
    → HasSummed more_octets more_total (frames ++ frame ∷ [])
summed-next octets total size add more_octets more_total frames frame so short is_size is_add small is_octets is_total =
    let count = sum_by_push (λ (frame : List ℕ). length frame) frames frame in
    let all = sum_by_push (λ (frame : List ℕ). sum frame) frames frame in
    let long = length-append frames (frame ∷ []) in
    let was_octets = so.octets in
    let was_total = so.total in
    let was_few = so.few in
    let was_small = so.small in
    record {
      octets = omega (arith, was_octets, count, is_octets, is_size);
      total = omega (arith, was_total, all, is_total, is_add);
      few = omega (arith, was_few, count, long, short);
      small = omega (arith, was_small, all, long, short, small, is_add);
    }

-- the sums of what a valid script delivers are told exactly
module _ (script : Script) (rows octets total : ℕ) (valid : IsValid script) (low : rows ≤ script.config.ticks)
    (so : HasSummed octets total (delivered_of (leg_of script) rows)) where
  pub count-exact : octets ≡ octet_count (delivered_of (leg_of script) rows)
  count-exact = let few = delivered-few (leg_of script) rows valid.sound low in let is = so.octets in let most =
      so.few in
      omega (arith, few, is, most)

  pub sum-exact : total ≡ octet_sum (delivered_of (leg_of script) rows)
  sum-exact = let few = delivered-few (leg_of script) rows valid.sound low in let is = so.total in let most =
      so.small in
      omega (arith, few, is, most)

-- the lines of a walk that drained
module _ (number lines ticks : ℕ) (was now : Walked) (script : was.script ≡ load number lines ticks)
    (begun : was.counts ≡ begin (walk_plan (leg_of was.script))) (same : now.script ≡ was.script)
    (drained : now.counts ≡ drain (bound (walk_plan (leg_of was.script))) (walk_plan (leg_of was.script)) was.counts)
  where
    pub counts-are : now.counts ≡ counts_in (load number lines ticks)
    counts-are =
        drained ∙ ap (drain (bound (walk_plan (leg_of was.script))) (walk_plan (leg_of was.script))) begun
        ∙ ap (λ (s : Script). drain (bound (walk_plan (leg_of s))) (walk_plan (leg_of s))
        (begin (walk_plan (leg_of s))))
        script

    pub lines-are : (octets total : ℕ) (totals : Totals) → totals ≡ totals_of (leg_of now.script) now.counts →
        octets ≡ octet_count (delivered_of (leg_of was.script) now.counts.rows)
        → total ≡ octet_sum (delivered_of (leg_of was.script) now.counts.rows) →
        lines_text lines ticks totals octets total ≡ make_text number lines ticks
    lines-are octets total totals is_totals is_octets is_total =
        let all : Script = load number lines ticks in
        let end : Counts = counts_in (load number lines ticks) in
        let a : totals ≡ totals_of (leg_of all) end = is_totals
        ∙ ap (λ (s : Script). totals_of (leg_of s) now.counts) (same ∙ script)
        ∙ ap (totals_of (leg_of all)) counts-are in
        let rows : delivered_of (leg_of was.script) now.counts.rows ≡ delivered_of (leg_of all) end.rows =
        ap (λ (s : Script). delivered_of (leg_of s) now.counts.rows) script
        ∙ ap (λ (s : Counts). delivered_of (leg_of all) s.rows) counts-are in
        let b : octets ≡ octet_count (delivered_of (leg_of all) end.rows) = is_octets ∙ ap octet_count rows in
        let d : total ≡ octet_sum (delivered_of (leg_of all) end.rows) = is_total ∙ ap octet_sum rows in
        ap (λ t. lines_text lines ticks t octets total) a
        ∙ ap (λ n. lines_text lines ticks (totals_of (leg_of all) end) n total) b
        ∙ ap (lines_text lines ticks (totals_of (leg_of all) end) (octet_count (delivered_of (leg_of all) end.rows))) d

-- what stands behind a front that a line was put behind
pub room-behind : (len n k : ℕ) (octets out : List ℕ) → len ≤ length octets → n ≤ length out →
    len + n ≤ length (put_mid len k octets out)
room-behind len n k octets out within room =
    let a = length-append (take len octets) (out ++ post_of len k octets) in
    let b = length-append out (post_of len k octets) in
    let d = length-take-le len octets within in
    omega (arith, a, b, d, room)
