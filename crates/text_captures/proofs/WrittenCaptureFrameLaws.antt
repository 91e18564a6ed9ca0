-- How a capture that is written grows by the frames of a row, with or without GFP headers, and is read back.
use Rattle.std.proofs.Common.{◌≡◌, ℕ, List, [], ◌∷◌, ◌++◌, length, drop, Option, refl, sym, ◌∙◌, ap, subst}
use Rattle.std.proofs.Common.{append_assoc, append-nil, ap₂, ◌+◌, ◌-◌, ◌*◌, ◌/◌, ◌%◌, ◌<◌, ◌≤◌, max, true, map, Some, None}
use Rattle.std.proofs.Common.{Ok, arith, length-append}
use Rattle.std.proofs.Math.Seq.{take-append_seam, drop-append_seam}
use Rattle.std.proofs.lemmas.Grind.{flat_map-append}
use Rattle.std.proofs.lemmas.List.{map-append, drop-drop}
use Rattle.law_model.specs.Common.{Start, bits, octet_bits, octets_of, xors, hec_of, hec_bits, core_header, client}
use Rattle.law_model.specs.Common.{area_of, most_ticks, type_header}
use Rattle.text_got.specs.TextSoFar.{HasText}
use Rattle.text_captures.specs.capture_file.WrittenCapture.{RowFrame, record_head, record_octets, records_octets}
use Rattle.text_captures.specs.capture_file.WrittenCapture.{ethernet_head, ethernet_capture, AreRising, due_after}
use Rattle.text_captures.specs.capture_file.WrittenCapture.{due_frames}
use Rattle.text_captures.specs.declared.capture_file.capture_out.CaptureOut.{CaptureOut}
use Rattle.text_captures.specs.capture_file.CaptureSoFar.{HasCapture, AddsRow, at_row, row_start, first_in}
use Rattle.std.specs.Int.{w16, to_be_bytes, w32, to_le_bytes, from_le_bytes}
use Rattle.std.specs.List.{flat_map}
use Rattle.check_remainder.proofs.NumberAndOctetBitsLaws.{octet_bits-bytes_high_first}
use Rattle.check_hec16.proofs.HecWithOneWrongBitLaws.{bits-hec_of}
use Rattle.text_captures.specs.capture_file.GfpInCapture.{plain_header, with_pattern, gfp_octets, gfp_record, gfp_head}
use Rattle.text_captures.specs.capture_file.GfpInCapture.{gfp_capture}
use Rattle.std.proofs.lemmas.Bool.{eq-eqb, le-ltb, lt-leb}
use Rattle.std.proofs.lemmas.Nat.{from_le_bytes-to_le_bytes_4}
use Rattle.text_captures.specs.declared.capture_file.capture_form.ByteOrder.TheVariants.{LeastFirst}
use Rattle.text_captures.specs.declared.capture_file.capture_form.TimeUnit.TheVariants.{Microseconds}
use Rattle.text_captures.specs.declared.capture_file.capture_form.Form.{Form}
use Rattle.text_captures.specs.declared.capture_file.capture_form.RecordHead.{RecordHead}
use Rattle.text_captures.specs.capture_file.Form.{Record, Cut, head_of, first_record, behind_record, cut_of, form_of}
use Rattle.text_captures.specs.capture_file.Reading.{time_of, ticks_between, ticks_in, due_of, record_fault}
use Rattle.text_captures.specs.capture_file.Reading.{faults_behind, frames_behind, one_on, there_or, first_there}
use Rattle.text_captures.specs.capture_file.Reading.{greatest, capture_said, said_by}
use Rattle.text_captures.proofs.CaptureRecordReadingLaws.{record-there, record-none, cut_of-none, cut_of-some}
use Rattle.text_captures.proofs.CaptureRecordReadingLaws.{greatest-more, said-sound}

-- ---- How a capture grows by the frames of a row.
pub records-append : (xs ys : List RowFrame) → records_octets (xs ++ ys) ≡ records_octets xs ++ records_octets ys
records-append xs ys = flat_map-append record_octets xs ys

-- a frame more of a row
pub frames-more : (row : ℕ) (frames : List (List ℕ)) (frame : List ℕ)
    → records_octets (at_row row (frames ++ frame ∷ [])) ≡ records_octets (at_row row frames) ++ record_octets
    (record { row = row; frame = frame })
frames-more row frames frame =
    ap records_octets (map-append (λ (frame : List ℕ). record { row = row; frame = frame }) frames (frame ∷ []))
    ∙ records-append (at_row row frames) (record { row = row; frame = frame } ∷ [])
    ∙ ap (λ l. records_octets (at_row row frames) ++ l)
    (append-nil (record_octets (record { row = row; frame = frame })))

-- four pieces behind a text, and two
pub four-behind : (before a b d e : List ℕ) → before ++ a ++ b ++ d ++ e ≡ before ++ (a ++ b ++ d ++ e)
four-behind before a b d e =
    ap (λ l. l ++ e) (ap (λ l. l ++ d) (append_assoc before a b) ∙ append_assoc before (a ++ b) d)
    ∙ append_assoc before (a ++ b ++ d) e

pub row-behind : (before : List ℕ) (row : ℕ) (frames : List (List ℕ)) (frame : List ℕ)
    → before ++ records_octets (at_row row frames) ++ record_head row (length frame) ++ frame ≡ before ++ records_octets
    (at_row row (frames ++ frame ∷ []))
row-behind before row frames frame =
    let old = records_octets (at_row row frames) in
    append_assoc (before ++ old) (record_head row (length frame)) frame
    ∙ append_assoc before old (record_head row (length frame) ++ frame)
    ∙ ap (λ l. before ++ l) (sym (frames-more row frames frame))

module _ {K : Type 0} (written : K → Option (List ℕ)) (faults : K → ℕ) where
  first-is : (start : Start) (row : ℕ) (before : List ℕ) → first_in (row_start start row before) ≡ start
  first-is start row before =
      let F : List ℕ → Start = λ octets. record { octets = octets; faults = start.faults; name = start.name } in ap F
      (take-append_seam start.octets before)

  -- all frames of a row
  pub row-more : (was now : CaptureOut K) (start : Start) (earlier : List RowFrame) (since : List (List ℕ)) →
      HasCapture written faults was start earlier
      → ((at : Start) (given : List (List ℕ)) → AddsRow written faults was at given →
      AddsRow written faults now at (given ++ since))
      → HasCapture written faults now start (earlier ++ at_row was.row since)
  row-more was now start earlier since has adds =
      let text = ethernet_capture earlier in
      let at = row_start start was.row text in
      let P : CaptureOut K → Start → List ℕ → Type 0 = λ out s t. HasText written faults out.got s t in
      let before = drop-append_seam start.octets text in
      let begun : HasText written faults was.got (first_in at) text =
      subst (λ s. P was s text) (sym (first-is start was.row text)) has in
      let none = subst (P was (first_in at))
      (sym (append-nil (drop (length start.octets) (start.octets ++ text)) ∙ before)) begun in
      let after = adds at [] (refl, none) in
      let more = subst (λ s. P now s (drop (length start.octets) (start.octets ++ text) ++ records_octets
      (at_row now.row since))) (first-is start was.row text) after.1 in
      subst (P now start)
      (ap (λ l. l ++ records_octets (at_row now.row since)) before
      ∙ ap (λ r. text ++ records_octets (at_row r since)) after.0
      ∙ append_assoc ethernet_head (records_octets earlier) (records_octets (at_row was.row since))
      ∙ ap (λ l. ethernet_head ++ l) (sym (records-append earlier (at_row was.row since)))) more

-- ---- The headers of a GFP frame, and how a capture grows by one.
-- ---- its core header
plain-bits : (pli : ℕ) → octet_bits (plain_header pli) ≡ bits 16 pli ++ hec_bits pli
plain-bits pli =
    flat_map-append (bits 8) (to_be_bytes w16 pli) (to_be_bytes w16 (hec_of pli))
    ∙ ap₂ ◌++◌ (octet_bits-bytes_high_first 2 pli) (octet_bits-bytes_high_first 2 (hec_of pli) ∙ bits-hec_of pli)

pub pattern-on : (pli : ℕ) → with_pattern (plain_header pli) ≡ core_header pli
unfolding core_header
pattern-on pli = ap (λ b. octets_of 4 (xors (bits 32 0xb6ab31e0) b)) (plain-bits pli)

-- ---- its record
-- three texts behind another
pub three-behind : (before a b d : List ℕ) → before ++ a ++ b ++ d ≡ before ++ (a ++ b ++ d)
three-behind before a b d = ap (λ l. l ++ d) (append_assoc before a b) ∙ append_assoc before (a ++ b) d

pub gfp-more : (before : List RowFrame) (row octets pli : ℕ) (frame : List ℕ) → octets ≡ length (gfp_octets frame) →
    pli ≡ length (area_of (client frame)) →
    gfp_capture before ++ record_head row octets ++ (plain_header pli ++ type_header) ++ frame
    ≡ gfp_capture (before ++ record { row = row; frame = frame } ∷ [])
gfp-more before row octets pli frame size length_is =
    let own : RowFrame = record { row = row; frame = frame } in
    let head = record_head row (length (gfp_octets frame)) in
    let plain = plain_header (length (area_of (client frame))) in
    ap (λ n. gfp_capture before ++ record_head row n ++ (plain_header pli ++ type_header) ++ frame) size
    ∙ ap (λ n. gfp_capture before ++ head ++ (plain_header n ++ type_header) ++ frame) length_is
    ∙ three-behind (gfp_capture before) head (plain ++ type_header) frame
    ∙ ap (λ l. gfp_capture before ++ l)
    (append_assoc head (plain ++ type_header) frame ∙ ap (λ l. head ++ l) (append_assoc plain type_header frame)
    ∙ sym (append-nil (gfp_record own)))
    ∙ append_assoc gfp_head (flat_map gfp_record before) (flat_map gfp_record (own ∷ []))
    ∙ ap (λ l. gfp_head ++ l) (sym (flat_map-append gfp_record before (own ∷ [])))

-- ---- A capture that is written is read as the frames in it.
-- ---- its head
abbrev written_form : Form
written_form = record { order = LeastFirst; unit = Microseconds; has_fcs = true }

head-said : (rest : List ℕ) → form_of (ethernet_head ++ rest) ≡ Ok written_form
head-said rest = rw (le-ltb (length (ethernet_head ++ rest)) 24 (omega (arith, length-append ethernet_head rest))) refl

-- ---- its records
abbrev head_for : RowFrame → RecordHead
head_for own = record {
  seconds = 125 * own.row / 1000000;
  fraction = 125 * own.row % 1000000;
  captured = length own.frame;
  original = length own.frame;
}

abbrev record_for : RowFrame → Record
record_for own = record { head = head_for own; octets = own.frame }

head-is : (own : RowFrame) (rest : List ℕ) → own.row < most_ticks → length own.frame ≤ 65535 →
    head_for own ≡ head_of LeastFirst (record_octets own ++ rest)
head-is own rest row few =
    let n = length own.frame in
    let H : ℕ → ℕ → ℕ → RecordHead = λ s f c. record { seconds = s; fraction = f; captured = c; original = c } in
    let seconds = from_le_bytes-to_le_bytes_4 (125 * own.row / 1000000) (omega (arith, row)) in
    let fraction = from_le_bytes-to_le_bytes_4 (125 * own.row % 1000000) (omega arith) in
    let size = from_le_bytes-to_le_bytes_4 n (omega (arith, few)) in
    sym (ap (λ s. H s (from_le_bytes w32 (to_le_bytes w32 (125 * own.row % 1000000)))
    (from_le_bytes w32 (to_le_bytes w32 n))) seconds
    ∙ ap (λ f. H (125 * own.row / 1000000) f (from_le_bytes w32 (to_le_bytes w32 n))) fraction
    ∙ ap (H (125 * own.row / 1000000) (125 * own.row % 1000000)) size)

record-said : (own : RowFrame) (rest : List ℕ) → own.row < most_ticks → length own.frame ≤ 65535
    → first_record LeastFirst (record_octets own ++ rest) ≡ Some (record_for own, rest)
record-said own rest row few =
    let octets = record_octets own ++ rest in
    let size : length octets ≡ 16 + length own.frame + length rest =
    omega (arith, length-append (record_octets own) rest, length-append own.frame rest) in
    record-there LeastFirst octets own.frame rest (head_for own) (head-is own rest row few) (omega (arith, size))
    (sym (take-append_seam own.frame rest))
    (sym (drop-append_seam own.frame rest) ∙ drop-drop (length own.frame) 16 octets)

records-said : (least : ℕ) (frames : List RowFrame) → AreRising least frames →
    cut_of LeastFirst (records_octets frames) ≡ record { records = map record_for frames; rest = [] }
unfolding AreRising
records-said least [] rising = cut_of-none LeastFirst [] (record-none LeastFirst [] (omega arith))
records-said least (own ∷ frames) rising =
    cut_of-some LeastFirst (record_octets own ++ records_octets frames) (record_for own, records_octets frames)
    (record-said own (records_octets frames) rising.1 rising.2)
    ∙ ap (behind_record (record_for own)) (records-said own.row frames rising.3)

-- ---- its times
ticks-are : (first own : RowFrame) →
    ticks_between (time_of Microseconds (head_for first)) (time_of Microseconds (head_for own)) ≡ own.row - first.row
ticks-are first own = omega arith

due-more : (first r : Record) (before : List Record)
    → due_of Microseconds (first ∷ before ++ r ∷ []) ≡ max (due_of Microseconds (first ∷ before))
    (ticks_between (time_of Microseconds first.head) (time_of Microseconds r.head))
due-more first r before =
    let ticks = ticks_between (time_of Microseconds first.head) (time_of Microseconds r.head) in
    ap greatest (map-append (λ (r : Record). ticks_between (time_of Microseconds first.head)
    (time_of Microseconds r.head)) (first ∷ before) (r ∷ []))
    ∙ greatest-more (ticks_in Microseconds (first ∷ before)) ticks

fault-none : (own : RowFrame) (due : ℕ) → length own.frame ≤ 65535 → due < most_ticks →
    record_fault true (head_for own) due ≡ None
fault-none own due few low =
    rw (eq-eqb (length own.frame) (length own.frame) refl)
    (rw (le-ltb 65535 (length own.frame) few) (rw (lt-leb most_ticks due low) refl))

-- those behind a first one
following : (first : RowFrame) (before : List Record) (last : ℕ) (frames : List RowFrame) →
    due_of Microseconds (record_for first ∷ before) ≡ last - first.row → first.row ≤ last
    → AreRising last frames
    → (first_there (faults_behind written_form (record_for first ∷ before) (map record_for frames)) ≡ None)
    × (frames_behind written_form (record_for first ∷ before) (map record_for frames) ≡ map
    (due_after first.row) frames)
unfolding AreRising faults_behind frames_behind first_there
following first before last [] due low rising = (refl, refl)
following first before last (own ∷ frames) due low rising =
    let first_low = rising.0 in
    let next : due_of Microseconds (record_for first ∷ before ++ record_for own ∷ []) ≡ own.row - first.row =
    due-more (record_for first) (record_for own) before
    ∙ ap (λ n. max (due_of Microseconds (record_for first ∷ before)) n) (ticks-are first own)
    ∙ ap (λ n. max n (own.row - first.row)) due
    ∙ (let e : max (last - first.row) (own.row - first.row) ≡ own.row - first.row = omega (arith, first_low) in e)
    in
    let rest = following first (before ++ record_for own ∷ []) own.row frames next
    (omega (arith, low, first_low)) rising.3 in
    let bound = rising.1 in
    let fault = fault-none own (due_of Microseconds (record_for first ∷ before ++ record_for own ∷ [])) rising.2
    (omega (arith, next, bound)) in (
      ap (λ o. there_or o (first_there
          (faults_behind written_form (record_for first ∷ before ++ record_for own ∷ []) (map record_for frames))))
          fault ∙ ap one_on rest.0,
      ap (λ n. record { due = n; frame = own.frame } ∷ frames_behind written_form
          (record_for first ∷ before ++ record_for own ∷ []) (map record_for frames)) next
          ∙ ap (λ l. due_after first.row own ∷ l) rest.1,
    )

-- all of them
all-of : (least : ℕ) (frames : List RowFrame) → AreRising least frames
    → (first_there (faults_behind written_form [] (map record_for frames)) ≡ None) ×
    (frames_behind written_form [] (map record_for frames) ≡ due_frames frames)
unfolding AreRising faults_behind frames_behind first_there greatest
all-of least [] rising = (refl, refl)
all-of least (own ∷ frames) rising =
    let none : due_of Microseconds (record_for own ∷ []) ≡ own.row - own.row = ap (λ n. max n 0) (ticks-are own own)
    ∙ (let e : max (own.row - own.row) 0 ≡ own.row - own.row = omega arith in e) in
    let rest = following own [] own.row frames none (omega arith) rising.3 in
    let fault = fault-none own (due_of Microseconds (record_for own ∷ [])) rising.2 (omega (arith, none)) in (
      ap (λ o. there_or o (first_there (faults_behind written_form (record_for own ∷ []) (map record_for frames))))
          fault ∙ ap one_on rest.0,
      ap (λ n. record { due = n; frame = own.frame } ∷ frames_behind written_form (record_for own ∷ [])
          (map record_for frames)) none
          ∙ ap (λ l. due_after own.row own ∷ l) rest.1,
    )

pub read-back : (frames : List RowFrame) → AreRising 0 frames →
    capture_said (ethernet_capture frames) ≡ Ok (due_frames frames)
read-back frames rising =
    let body = records_octets frames in
    let cut = records-said 0 frames rising in
    let all = all-of 0 frames rising in
    ap (λ form. said_by form body) (head-said body)
    ∙ said-sound written_form body (map record_for frames) (ap (λ (cut : Cut). cut.records) cut)
    (ap (λ (cut : Cut). cut.rest) cut) all.0
    ∙ ap Ok (ap (λ (cut : Cut). frames_behind written_form [] cut.records) cut ∙ all.1)
