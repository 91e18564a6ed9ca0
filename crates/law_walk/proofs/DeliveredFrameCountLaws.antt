-- How many frames rows can give: no more than they have octets; and which frames the rows give that a walk took.
use Rattle.std.proofs.Common.{IfSome, ◌≡◌, ℕ, zero, suc, ◌+◌, ◌-◌, ◌*◌, ◌/◌, ◌≤◌, nat_le, nat_lt, Bool, true, false}
use Rattle.std.proofs.Common.{not, if◌then◌else◌, inl, inr, List, [], ◌∷◌, map, filter, drop, length, sum_by, Option}
use Rattle.std.proofs.Common.{Some, None, arith, length-append, length-drop, flat_map, mul-le-mul_left}
use Rattle.std.proofs.Common.{mul-le-mul_right, leb-true, ◌++◌, refl, sym, ◌∙◌, ap, ap₂, subst, append_assoc}
use Rattle.std.proofs.lemmas.Bool.{cases_Bool}
use Rattle.std.proofs.lemmas.List.{length-map, append-nil}
use Rattle.std.proofs.lemmas.List.Sums.{sum_by-cons, sum_by-append, length-filter, count_by-le-length}
use Rattle.law_model.specs.Common.{Leg, head, joined, descrambled_octets, header_with, Confirmed, confirm_by}
use Rattle.law_model.specs.Common.{confirm_with, hunt_by, hunt_within, hunt_with, Followed, follow_by, follow_within}
use Rattle.law_model.specs.Common.{follow_with, Run, Delineated, run_then, delineate_by, delineate_within, delineate}
use Rattle.law_model.specs.Common.{Outcome, delivery, dropping, client_outcome, outcomes_after_with, descrambled_areas}
use Rattle.law_model.specs.Common.{run_outcomes_with, outcomes, StreamRow, Segment, Segments, segments_on, segments_of}
use Rattle.law_model.specs.Common.{segments, segment_frames, deliver, octets_of_rows, Scenario, scenario_by, Told}
use Rattle.law_model.specs.Common.{is_normal, table_of, session_cells, width, place_of, rows_of, IsSound}
use Rattle.law_model.specs.Common.{longest_frame, payload_of, row_at, is_whole_row, Counts, most_lines, most_ticks}
use Rattle.law_model.specs.frames.Delivery.{frame_in}
use Rattle.law_model.specs.frames.Segment.{row_by}
use Rattle.law_model.proofs.ScrambledBitAndAreaLaws.{length-cut}
use Rattle.law_session.proofs.SourceOrderAndPlanLaws.{order-length}
use Rattle.law_loss.proofs.SessionStreamLossLaws.{rows-length}
use Rattle.law_walk.specs.Common.{delivered_of, CanWalk, IsWalked, popped_cells, session_rows, IsReceived}
use Rattle.std.specs.List.{range_with_len}
use Rattle.std.proofs.lemmas.List.FromFn.{map-range_with_len_more}
use Rattle.law_model.specs.rows.SessionStream.{row_of}
use Rattle.law_loss.specs.AddedFrames.{added, next_frames, whole_row, lost_row}
use Rattle.law_loss.proofs.SegmentsOfAddedRowsLaws.{segments_of-push, deliver-lost, added-whole, grows-whole}
use Rattle.law_loss.proofs.SegmentsOfAddedRowsLaws.{adds, deliver-grows}
use Rattle.law_walk.proofs.WalkPlanAndPoppedCellLaws.{rows-are}

-- ---- How many frames rows can give: no more than they have octets.
-- ---- a search goes on in fewer octets
abbrev Shorter : List ℕ → Option Confirmed → Type 0
Shorter octets found = IfSome found (λ (c : Confirmed). length c.octets ≤ length octets)

shorter-drop : (m : ℕ) (octets : List ℕ) (found : Option Confirmed) → Shorter (drop m octets) found →
    Shorter octets found
shorter-drop m octets None h = tt
shorter-drop m octets (Some found) h = let e = length-drop m octets in omega arith

confirm_by-shorter : (header : Option ℕ) (refused : Bool) (p : ℕ) (octets : List ℕ)
    (f : Bool → ℕ → List ℕ → Option Confirmed) →
    ((r : Bool) (p : ℕ) (more : List ℕ) → Shorter more (f r p more)) →
    Shorter octets (confirm_by header refused p octets f)
confirm_by-shorter None refused p octets f each =
    shorter-drop 1 octets (f true (p + 1) (drop 1 octets)) (each true (p + 1) (drop 1 octets))
confirm_by-shorter (Some pli) refused p octets f each = omega arith

confirm-shorter : (refused : Bool) (p : ℕ) (octets : List ℕ) (f : Bool → ℕ → List ℕ → Option Confirmed) →
    ((r : Bool) (p : ℕ) (more : List ℕ) → Shorter more (f r p more)) →
    Shorter octets (confirm_with head refused p octets f)
confirm-shorter refused p octets f each =
    elim (cases_Bool (nat_le 4 (length octets))) [
      | inl e ↦ rw e (confirm_by-shorter (header_with head octets) refused p octets f each)
      | inr e ↦ rw e tt
    ]

hunt_by-shorter : (header : Option ℕ) (refused : Bool) (p : ℕ) (octets : List ℕ)
    (f : Bool → ℕ → List ℕ → Option Confirmed) →
    ((r : Bool) (p : ℕ) (more : List ℕ) → Shorter more (f r p more)) →
    Shorter octets (hunt_by head header refused p octets f)
hunt_by-shorter None refused p octets f each =
    shorter-drop 1 octets (f refused (p + 1) (drop 1 octets)) (each refused (p + 1) (drop 1 octets))
hunt_by-shorter (Some pli) refused p octets f each =
    shorter-drop (4 + pli) octets (confirm_with head refused (p + (4 + pli)) (drop (4 + pli) octets) f)
    (confirm-shorter refused (p + (4 + pli)) (drop (4 + pli) octets) f each)

hunt-shorter : (k : ℕ) (refused : Bool) (p : ℕ) (octets : List ℕ) → Shorter octets (hunt_within head k refused p octets)
unfolding hunt_within
hunt-shorter zero refused p octets = tt
hunt-shorter (suc k) refused p octets =
    hunt_by-shorter (header_with head octets) refused p octets (hunt_within head k) (hunt-shorter k)

-- ---- each area of a run has a header of four octets
abbrev left_of : Option (List ℕ) → ℕ
left_of None = 0
left_of (Some octets) = length octets

if-left : (long : Bool) (octets : List ℕ) → left_of (if long then Some (drop 1 octets) else None) ≤ length octets
if-left true octets = let e = length-drop 1 octets in omega arith
if-left false octets = omega arith

follow_by-few : (header : Option ℕ) (octets : List ℕ) (f : List ℕ → Followed) →
    ((more : List ℕ) → 4 * length (f more).areas + left_of (f more).after ≤ length more) →
    4 * length (follow_by header octets f).areas + left_of (follow_by header octets f).after ≤ length octets
follow_by-few None octets f each = let left = if-left (nat_le 4 (length octets)) octets in omega arith
follow_by-few (Some pli) octets f each =
    elim (cases_Bool (nat_le (4 + pli) (length octets))) [
      | inl e ↦
          let long = leb-true (4 + pli) (length octets) e in
          let rest = each (drop (4 + pli) octets) in
          let size = length-drop (4 + pli) octets in
          rw e (omega arith)
      | inr e ↦ rw e (omega arith)
    ]

follow-few : (steps : ℕ) (octets : List ℕ) →
    4 * length (follow_within head steps octets).areas + left_of (follow_within head steps octets).after ≤ length octets
unfolding follow_within
follow-few zero octets = omega arith
follow-few (suc steps) octets =
    follow_by-few (header_with head octets) octets (follow_within head steps) (follow-few steps)

-- ---- the runs of a segment
abbrev areas_in : List Run → ℕ
areas_in runs = sum_by (λ (run : Run). length run.areas) runs

run_then-few : (run : Run) (after : Option (List ℕ)) (f : List ℕ → Delineated) →
    ((more : List ℕ) → 4 * areas_in (f more).runs ≤ length more) →
    4 * areas_in (run_then run after f).runs ≤ 4 * length run.areas + left_of after
run_then-few run None f each = let e = sum_by-cons (λ (run : Run). length run.areas) run [] in omega arith
run_then-few run (Some octets) f each =
    let e = sum_by-cons (λ (run : Run). length run.areas) run (f octets).runs in
    let rest = each octets in
    omega arith

delineate_by-few : (found : Option Confirmed) (octets : List ℕ) (f : List ℕ → Delineated) → Shorter octets found →
    ((more : List ℕ) → 4 * areas_in (f more).runs ≤ length more) →
    4 * areas_in (delineate_by (follow_with head) found f).runs ≤ length octets
delineate_by-few None octets f shorter each = omega arith
delineate_by-few (Some found) octets f shorter each =
    let followed : Followed = follow_with head found.octets in
    let few = follow-few (suc (length found.octets)) found.octets in
    let most = run_then-few (record { settled = not found.refused; areas = followed.areas }) followed.after f each in
    omega arith

delineate-few : (steps : ℕ) (refused : Bool) (octets : List ℕ) →
    4 * areas_in (delineate_within head head steps refused octets).runs ≤ length octets
unfolding delineate_within
delineate-few zero refused octets = omega arith
delineate-few (suc steps) refused octets =
    delineate_by-few (hunt_with head refused 0 octets) octets (delineate_within head head steps true)
    (hunt-shorter (length octets) refused 0 octets) (delineate-few steps true)

-- ---- outcomes and frames
areas-few : (longest : ℕ) (settled : Bool) (before : ℕ) (areas : List (List ℕ)) →
    length (outcomes_after_with (client_outcome longest) settled before areas) ≤ length areas
unfolding outcomes_after_with
areas-few longest settled before [] = omega arith
areas-few longest settled before ([] ∷ areas) = let rest = areas-few longest settled (before + 0) areas in omega arith
areas-few longest settled before ((o ∷ area) ∷ areas) =
    let rest = areas-few longest settled (before + length (o ∷ area)) areas in omega arith

run-few : (longest : ℕ) (run : Run) → length (run_outcomes_with (client_outcome longest) run) ≤ length run.areas
run-few longest run =
    let few = areas-few longest run.settled 0 (descrambled_areas run.areas) in
    let cuts = length-cut (map length run.areas) (descrambled_octets (joined run.areas)) in
    let sizes = length-map run.areas length in
    omega arith

runs-few : (longest : ℕ) (runs : List Run) →
    length (flat_map (run_outcomes_with (client_outcome longest)) runs) ≤ areas_in runs
runs-few longest [] = omega arith
runs-few longest (run ∷ runs) =
    let own = run-few longest run in
    let rest = runs-few longest runs in
    let sum = length-append (run_outcomes_with (client_outcome longest) run)
    (flat_map (run_outcomes_with (client_outcome longest)) runs) in
    let e = sum_by-cons (λ (run : Run). length run.areas) run runs in
    omega arith

frames-few : (found : List Outcome) → length (flat_map frame_in found) ≤ length found
frames-few [] = omega arith
frames-few (delivery frame ∷ found) = let rest = frames-few found in omega arith
frames-few (dropping why ∷ found) = let rest = frames-few found in omega arith

segment-few : (longest : ℕ) (segment : Segment) → 4 * length (segment_frames longest segment) ≤ length segment.octets
segment-few longest segment =
    let frames = frames-few (outcomes longest segment.first segment.octets) in
    let runs = runs-few longest (delineate segment.first segment.octets).runs in
    let areas = delineate-few (suc (length segment.octets)) (not segment.first) segment.octets in
    omega arith

-- ---- rows
abbrev octets_in : List Segment → ℕ
octets_in all = sum_by (λ (segment : Segment). length segment.octets) all

all-few : (longest : ℕ) (all : List Segment) → 4 * length (flat_map (segment_frames longest) all) ≤ octets_in all
all-few longest [] = omega arith
all-few longest (segment ∷ all) =
    let own = segment-few longest segment in
    let rest = all-few longest all in
    let sum = length-append (segment_frames longest segment) (flat_map (segment_frames longest) all) in
    let e = sum_by-cons (λ (segment : Segment). length segment.octets) segment all in
    omega arith

abbrev come_in : Segments → ℕ
come_in come = octets_in come.ended + length come.last.octets

row-held : (whole : Bool) (come : Segments) (octets : List ℕ) →
    come_in (row_by whole come octets) ≤ come_in come + length octets
row-held true come octets = let sum = length-append come.last.octets octets in omega arith
row-held false come octets =
    let sum = sum_by-append (λ (segment : Segment). length segment.octets) come.ended (come.last ∷ []) in
    let one = sum_by-cons (λ (segment : Segment). length segment.octets) come.last [] in
    omega arith

rows-held : (rows : List StreamRow) (come : Segments) →
    come_in (segments_on come rows) ≤ come_in come + length (octets_of_rows rows)
unfolding segments_on
rows-held [] come = omega arith
rows-held (row ∷ rows) come =
    let own = row-held row.whole come row.octets in
    let rest = rows-held rows (row_by row.whole come row.octets) in
    let sum = length-append row.octets (octets_of_rows rows) in
    omega arith

pub deliver-few : (longest : ℕ) (rows : List StreamRow) →
    4 * length (deliver longest rows) ≤ length (octets_of_rows rows)
deliver-few longest rows =
    let come : Segments = segments_of rows in
    let few = all-few longest (segments rows) in
    let held = rows-held rows (record { ended = []; last = record { first = true; base = 0; octets = [] } }) in
    let sum = sum_by-append (λ (segment : Segment). length segment.octets) come.ended (come.last ∷ []) in
    let one = sum_by-cons (λ (segment : Segment). length segment.octets) come.last [] in
    omega arith

-- ---- a session
width-few : (scenario : Scenario) (cells : List (Option Told)) (t : ℕ) →
    width scenario cells t ≤ length scenario.windows
width-few scenario cells t =
    elim (cases_Bool (nat_lt t 24)) [
      | inl e ↦ rw e (omega arith)
      | inr e ↦
          let k : ℕ = (t - 24) / 16 in
          let order = (table_of scenario cells k).order in
          let all = order-length scenario cells (suc k) in
          let some = length-filter is_normal order in
          let few = count_by-le-length is_normal order in
          let size = length-map (filter is_normal order) (λ member. member.line) in
          rw e (omega arith)
    ]

pub place-few : (scenario : Scenario) (cells : List (Option Told)) (t : ℕ) →
    place_of scenario cells t ≤ t * (scenario.size * length scenario.windows)
unfolding place_of
place-few scenario cells zero = omega arith
place-few scenario cells (suc t) =
    let before = place-few scenario cells t in
    let own = mul-le-mul_left scenario.size (width-few scenario cells t) in
    let room : ℕ = scenario.size * length scenario.windows in
    let more : suc t * room ≡ t * room + room = grind arith in
    omega (arith, before, own, more)

product-few : (t size lines : ℕ) → t ≤ most_ticks → size ≤ 2340 → lines ≤ most_lines → t * (size * lines) ≤ 29952000000000
product-few t size lines ticks octets few =
    let a = mul-le-mul_left size few in
    let b = mul-le-mul_right most_lines octets in
    let room : ℕ = size * lines in
    let c : room ≤ 299520 = omega (arith, a, b) in
    let d = mul-le-mul_right room ticks in
    let e = mul-le-mul_left most_ticks c in
    omega (arith, d, e)

-- the octets of a leg's session are counted in fewer than 64 bits
pub place-most : (leg : Leg) (rows : ℕ) → IsSound leg → rows ≤ leg.config.ticks →
    place_of (scenario_by leg) (session_cells (scenario_by leg)) rows ≤ 29952000000000
place-most leg rows sound low =
    let network = sound.network in
    let ticks = network.ticks in
    let lines = network.lines in
    let each = network.windows_each in
    let place = place-few (scenario_by leg) (session_cells (scenario_by leg)) rows in
    let size : leg.config.size ≤ 2340 = elim network.size [ inl small ↦ omega arith | inr large ↦ omega arith ] in
    let most = product-few rows leg.config.size (length leg.config.windows) (omega arith) size (omega arith) in
    omega (arith, place, most)

pub delivered-few : (leg : Leg) (rows : ℕ) → IsSound leg → rows ≤ leg.config.ticks →
    length (delivered_of leg rows) ≤ 7488000000000
delivered-few leg rows sound low =
    let scenario : Scenario = scenario_by leg in
    let cells : List (Option Told) = session_cells scenario in
    let few = deliver-few longest_frame (rows_of scenario cells rows) in
    let octets = rows-length scenario cells rows rows (omega arith) in
    let place = place-most leg rows sound low in
    omega (arith, few, octets, place)

-- ---- The frames of the rows that a walk has taken.
-- rows give the same frames, and their last segments have the same octets
record SameFrames (a b : List StreamRow) : Type 0 where
  pub frames : deliver longest_frame a ≡ deliver longest_frame b
  pub first : (segments_of a).last.first ≡ (segments_of b).last.first
  pub octets : (segments_of a).last.octets ≡ (segments_of b).last.octets

with-whole : (a b : List StreamRow) (octets : List ℕ) → SameFrames a b →
    SameFrames (a ++ whole_row octets ∷ []) (b ++ whole_row octets ∷ [])
with-whole a b octets same =
    let one : Segments = segments_of a in
    let other : Segments = segments_of b in
    let more : added longest_frame a (whole_row octets) ≡ added longest_frame b (whole_row octets) =
    added-whole longest_frame a octets ∙ ap₂ (λ first before. next_frames longest_frame first before octets) same.first same.octets
    ∙ sym (added-whole longest_frame b octets) in
    record {
      frames = grows-whole longest_frame a octets (adds longest_frame one.last.first one.last.octets octets) ∙ ap₂ ◌++◌ same.frames more
          ∙ sym (grows-whole longest_frame b octets (adds longest_frame other.last.first other.last.octets octets));
      first = ap (λ (come : Segments). come.last.first) (segments_of-push a (whole_row octets)) ∙ same.first
          ∙ sym (ap (λ (come : Segments). come.last.first) (segments_of-push b (whole_row octets)));
      octets = ap (λ (come : Segments). come.last.octets) (segments_of-push a (whole_row octets))
          ∙ ap (λ l. l ++ octets) same.octets
          ∙ sym (ap (λ (come : Segments). come.last.octets) (segments_of-push b (whole_row octets)));
    }

with-lost : (a b : List StreamRow) (some other : List ℕ) → SameFrames a b →
    SameFrames (a ++ lost_row some ∷ []) (b ++ lost_row other ∷ [])
with-lost a b some other same = record {
  frames = deliver-lost longest_frame a some ∙ same.frames ∙ sym (deliver-lost longest_frame b other);
  first = ap (λ (come : Segments). come.last.first) (segments_of-push a (lost_row some))
      ∙ sym (ap (λ (come : Segments). come.last.first) (segments_of-push b (lost_row other)));
  octets = ap (λ (come : Segments). come.last.octets) (segments_of-push a (lost_row some))
      ∙ sym (ap (λ (come : Segments). come.last.octets) (segments_of-push b (lost_row other)));
}

lost-as : (row : StreamRow) → row.whole ≡ false → row ≡ lost_row row.octets
lost-as row e = ap (λ whole. record { whole = whole; octets = row.octets }) e

with-row : (receive : Option (List ℕ) → StreamRow) → IsReceived receive →
    (a b : List StreamRow) (whole : Bool) (octets : List ℕ) → SameFrames a b →
    SameFrames (a ++ receive (if whole then Some octets else None) ∷ [])
    (b ++ record { whole = whole; octets = octets } ∷ [])
with-row receive is a b true octets same =
    subst (λ row. SameFrames (a ++ row ∷ []) (b ++ whole_row octets ∷ [])) (sym (is.whole octets))
    (with-whole a b octets same)
with-row receive is a b false octets same =
    subst (λ row. SameFrames (a ++ row ∷ []) (b ++ lost_row octets ∷ [])) (sym (lost-as (receive None) is.lost))
    (with-lost a b (receive None).octets octets same)

module _ (leg : Leg) (s : Counts) (can : CanWalk leg) (walked : IsWalked leg s)
    (receive : Option (List ℕ) → StreamRow) (is : IsReceived receive) where
  abbrev read : ℕ → StreamRow
  read t = receive (row_at leg.config.options leg.config.size (popped_cells leg s.lines) t)

  abbrev scenario : Scenario
  scenario = scenario_by leg

  abbrev session : List (Option Told)
  session = session_cells (scenario_by leg)

  same-frames : (n : ℕ) → n ≤ s.rows → SameFrames (map read (range_with_len 0 n)) (rows_of scenario session n)
  unfolding rows_of
  same-frames zero low = record { frames = refl; first = refl; octets = refl }
  same-frames (suc n) low =
      let e : suc n ≡ n + 1 = omega arith in
      let rows : map read (range_with_len 0 (suc n)) ≡ map read (range_with_len 0 n) ++ read n ∷ [] =
      ap (λ k. map read (range_with_len 0 k)) e ∙ map-range_with_len_more read 0 n n (omega arith) in
      let row = rows-are leg s can walked n (omega arith) in
      subst (λ l. SameFrames l (rows_of scenario session n ++ row_of scenario session n ∷ [])) (sym rows)
      (subst (λ (found : Option (List ℕ)). SameFrames (map read (range_with_len 0 n) ++ receive found ∷ [])
      (rows_of scenario session n ++ row_of scenario session n ∷ [])) (sym row)
      (with-row receive is (map read (range_with_len 0 n)) (rows_of scenario session n)
      (is_whole_row scenario session n) (payload_of scenario session n) (same-frames n (omega arith))))

  pub frames-received : (n : ℕ) → n ≤ s.rows → deliver longest_frame (map read (range_with_len 0 n)) ≡ delivered_of leg n
  frames-received n low = (same-frames n low).frames

-- ---- more rows
pub rows-longer : (scenario : Scenario) (cells : List (Option Told)) (n more : ℕ) → (rows : List StreamRow) ×
    (rows_of scenario cells (more + n) ≡ rows_of scenario cells n ++ rows)
unfolding rows_of
rows-longer scenario cells n zero = (
  [],
  (let e : zero + n ≡ n = omega arith in ap (rows_of scenario cells) e
      ∙ sym (append-nil (rows_of scenario cells n))),
)
rows-longer scenario cells n (suc more) =
    let (rows, before) = rows-longer scenario cells n more in
    let e : suc more + n ≡ suc (more + n) = omega arith in (
      rows ++ row_of scenario cells (more + n) ∷ [],
      ap (rows_of scenario cells) e ∙ ap (λ l. l ++ row_of scenario cells (more + n) ∷ []) before
          ∙ append_assoc (rows_of scenario cells n) rows (row_of scenario cells (more + n) ∷ []),
    )

pub frames-grow : (leg : Leg) (n more : ℕ) →
    delivered_of leg (n + more) ≡ delivered_of leg n ++ drop (length (delivered_of leg n))
    (delivered_of leg (n + more))
frames-grow leg n more =
    let (rows, longer) = rows-longer (scenario_by leg) (session_cells (scenario_by leg)) n more in
    let e : n + more ≡ more + n = omega arith in
    let all : session_rows leg (n + more) ≡ session_rows leg n ++ rows = ap (session_rows leg) e ∙ longer in
    subst (λ l. deliver longest_frame l ≡ delivered_of leg n ++ drop (length (delivered_of leg n)) (deliver longest_frame l))
    (sym all) (deliver-grows longest_frame (session_rows leg n) rows)
