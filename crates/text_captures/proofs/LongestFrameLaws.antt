-- How many octets a frame of a capture has at most.
use Rattle.std.proofs.Common.{◌≡◌, ℕ, zero, suc, ◌+◌, ◌-◌, ◌<◌, ◌≤◌, Bool, true, false, List, [], ◌∷◌, ◌++◌, length}
use Rattle.std.proofs.Common.{map, take, drop, Option, Some, None, Result, Ok, Err, All, if◌then◌else◌, nat_le, nat_lt}
use Rattle.std.proofs.Common.{refl, sym, ◌∙◌, ap, subst, arith, replicate, unwrap_or, ltb-false, le-ltb, eq-eqb}
use Rattle.std.proofs.Common.{length-append, length-take, not, ◌==◌}
use Rattle.std.proofs.lemmas.Bool.{lt-leb}
use Rattle.std.proofs.lemmas.List.{length-map, length-replicate}
use Rattle.std.proofs.lemmas.List.Elements.{All-nil, All-cons, All-head, All-tail}
use Rattle.check_crc32.specs.Crc32.{least_first, ordered, fcs_of, fcs_in}
use Rattle.check_crc32.proofs.CheckBitsAndRemainderLaws.{length-fcs_of}
use Rattle.law_model.specs.Common.{most_ticks}
use Rattle.text_captures.specs.declared.capture_file.capture_form.ByteOrder.{ByteOrder}
use Rattle.text_captures.specs.declared.capture_file.capture_form.Form.{Form}
use Rattle.text_captures.specs.declared.capture_file.capture_form.HeadFault.{HeadFault}
use Rattle.text_captures.specs.declared.capture_file.capture_form.CaptureFault.{CaptureFault}
use Rattle.text_captures.specs.declared.capture_file.capture_form.RecordHead.{RecordHead}
use Rattle.text_captures.specs.declared.capture_file.capture_form.RecordFault.{RecordFault}
use Rattle.text_captures.specs.declared.capture_file.capture_form.RecordFault.TheVariants as wrong
use Rattle.text_captures.specs.capture_file.Form.{Record, Cut, first_record, number_at, head_of, cut_then, cut_in}
use Rattle.text_captures.specs.capture_file.Form.{records_of, rest_of, form_of}
use Rattle.text_captures.specs.capture_file.Reading.{DueFrame, client_frame, filled_up, most_octets, record_fault}
use Rattle.text_captures.specs.capture_file.Reading.{due_of, faults_behind, frames_behind, one_on, there_or}
use Rattle.text_captures.specs.capture_file.Reading.{first_there, said_with, said_by, capture_said}

-- ---- a record has no more octets than its head says
abbrev IsShort : Record → Type 0
IsShort r = length r.octets ≤ r.head.captured

abbrev AreShort : List Record → Type 0
AreShort records = All IsShort records

then-short : (octets : List ℕ) (found : Option (Record × List ℕ)) (following : List ℕ → Cut) →
    ((own : Record × List ℕ) → found ≡ Some own → IsShort own.0) →
    ((rest : List ℕ) → AreShort (following rest).records) → AreShort (cut_then octets found following).records
then-short octets None following own rest = All-nil IsShort
then-short octets (Some found) following own rest =
    All-cons IsShort found.0 (following found.1).records (own found refl) (rest found.1)

short-by : (fits : Bool) (r : Record) (rest : List ℕ) (found : Record × List ℕ) → IsShort r →
    (if fits then Some (r, rest) else None) ≡ Some found → IsShort found.0
short-by true r rest found short is = subst IsShort (ap (λ o. (unwrap_or o found).0) is) short
short-by false r rest found short is = absurd cc

found-short : (order : ByteOrder) (octets : List ℕ) (found : Record × List ℕ) →
    first_record order octets ≡ Some found → IsShort found.0
found-short order octets found is =
    let n = number_at order 8 octets in
    let taken = length-take n (drop 16 octets) in
    short-by (nat_le (16 + n) (length octets))
    (record { head = head_of order octets; octets = take n (drop 16 octets) }) (drop (16 + n) octets) found (omega (arith, taken)) is

all-short : (order : ByteOrder) (k : ℕ) (octets : List ℕ) → AreShort (cut_in order k octets).records
unfolding cut_in
all-short order zero octets = All-nil IsShort
all-short order (suc k) octets =
    then-short octets (first_record order octets) (cut_in order k) (found-short order octets) (all-short order k)

-- ---- how long its frame is
length-check : (octets : List ℕ) → length (fcs_in least_first octets) ≡ 4
length-check octets =
    length-map (fcs_of (map (ordered least_first) octets)) (ordered least_first)
    ∙ length-fcs_of (map (ordered least_first) octets)

length-checked : (octets : List ℕ) →
    length (client_frame false octets) ≡ length octets + (60 - length octets) + 4
length-checked octets =
    let filled = filled_up octets in
    let none : ℕ = 0 in
    let zeros = length-replicate (60 - length octets) none in
    let whole = length-append octets (replicate (60 - length octets) 0) in
    omega (arith, length-append filled (fcs_in least_first filled), length-check filled, whole, zeros)

abbrev Fits : DueFrame → Type 0
Fits own = length own.frame ≤ 65535

within-most : (most captured : ℕ) (snapped over late : Bool) → nat_lt most captured ≡ over →
    (if snapped then Some wrong.Snapped
    else if over then Some (wrong.Length captured)
    else if late then Some wrong.Late
    else None) ≡ None → captured ≤ most
within-most most captured true over late is none = absurd cc
within-most most captured false true late is none = absurd cc
within-most most captured false false late is none = ltb-false most captured is

frame-fits : (has_fcs : Bool) (r : Record) → r.head.captured ≤ most_octets has_fcs → IsShort r →
    length (client_frame has_fcs r.octets) ≤ 65535
frame-fits true r low short = omega (arith, low, short)
frame-fits false r low short = let all = length-checked r.octets in omega (arith, low, short, all)

-- ---- all frames
one-none : (o : Option (ℕ × RecordFault)) → one_on o ≡ None → o ≡ None
one-none None none = refl
one-none (Some found) none = absurd cc

there-none : (o : Option RecordFault) (later : Option (ℕ × RecordFault)) → there_or o later ≡ None →
    (o ≡ None) × (later ≡ None)
there-none None later none = (refl, one-none later none)
there-none (Some t) later none = absurd cc

frames-fit : (form : Form) (before records : List Record) → AreShort records →
    first_there (faults_behind form before records) ≡ None → All Fits (frames_behind form before records)
unfolding faults_behind frames_behind first_there
frames-fit form before [] short none = All-nil Fits
frames-fit form before (r ∷ records) short none =
    let due = due_of form.unit (before ++ r ∷ []) in
    let most = most_octets form.has_fcs in
    let here = there-none (record_fault form.has_fcs r.head due)
    (first_there (faults_behind form (before ++ r ∷ []) records)) none in
    let low = within-most most r.head.captured (not (r.head.captured == r.head.original))
    (nat_lt most r.head.captured) (nat_le most_ticks due) refl here.0 in
    All-cons Fits (record { due = due; frame = client_frame form.has_fcs r.octets })
    (frames_behind form (before ++ r ∷ []) records)
    (frame-fits form.has_fcs r low (All-head IsShort r records short))
    (frames-fit form (before ++ r ∷ []) records (All-tail IsShort r records short) here.1)

abbrev frames_in : Result (List DueFrame) CaptureFault → List DueFrame
frames_in (Ok frames) = frames
frames_in (Err fault) = []

with-fit : (form : Form) (records : List Record) (rest : List ℕ) (fault : Option (ℕ × RecordFault))
    (frames : List DueFrame) → AreShort records → first_there (faults_behind form [] records) ≡ fault →
    said_with form records rest fault ≡ Ok frames → All Fits frames
with-fit form records rest (Some found) frames short none is = absurd cc
with-fit form records [] None frames short none is =
    subst (All Fits) (ap frames_in is) (frames-fit form [] records short none)
with-fit form records (o ∷ rest) None frames short none is = absurd cc

by-fit : (form : Result Form HeadFault) (body : List ℕ) (frames : List DueFrame) → said_by form body ≡ Ok frames →
    All Fits frames
by-fit (Err own) body frames is = absurd cc
by-fit (Ok form) body frames is =
    with-fit form (records_of form.order body) (rest_of form.order body)
    (first_there (faults_behind form [] (records_of form.order body))) frames
    (all-short form.order (length body) body) refl is

pub all-fit : (octets : List ℕ) (frames : List DueFrame) → capture_said octets ≡ Ok frames → All Fits frames
all-fit octets frames is = by-fit (form_of octets) (drop 24 octets) frames is

-- ---- a record whose frame fits
low-enough : (has_fcs : Bool) (octets : List ℕ) → length (client_frame has_fcs octets) ≤ 65535 →
    length octets ≤ most_octets has_fcs
low-enough true octets low = low
low-enough false octets low = let all = length-checked octets in omega (arith, low, all)

pub none-longer : (has_fcs : Bool) (octets : List ℕ) (head : RecordHead) (due : ℕ) → head.captured ≡ length octets
    → head.original ≡ length octets → due < most_ticks → length (client_frame has_fcs octets) ≤ 65535 →
    record_fault has_fcs head due ≡ None
none-longer has_fcs octets head due captured original soon low =
    let most = low-enough has_fcs octets low in
    rw (eq-eqb head.captured head.original (captured ∙ sym original))
    (rw (le-ltb (most_octets has_fcs) head.captured (omega (arith, captured, most)))
    (rw (lt-leb most_ticks due soon) refl))
