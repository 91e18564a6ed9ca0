-- How a capture is cut into records, when these are due, which fault is first, and which lines they become.
use Rattle.std.proofs.Common.{◌≡◌, ℕ, zero, suc, ◌+◌, ◌-◌, ◌<◌, ◌≤◌, Bool, true, false, List, [], ◌∷◌, ◌++◌, length}
use Rattle.std.proofs.Common.{take, drop, Option, Some, None, if◌then◌else◌, refl, sym, ◌∙◌, ap, subst, arith}
use Rattle.std.proofs.Common.{append_assoc, append-nil, nat_le, unwrap_or, le-leb, leb-true, length-drop, ◌/◌, max}
use Rattle.std.proofs.Common.{map, Ok, Err, ◌*◌, slice_index, ◌%◌, take-add}
use Rattle.std.proofs.lemmas.Bool.{lt-leb}
use Rattle.text_captures.specs.declared.capture_file.capture_form.ByteOrder.{ByteOrder}
use Rattle.text_captures.specs.declared.capture_file.capture_form.RecordHead.{RecordHead}
use Rattle.text_captures.specs.capture_file.Form.{number_at, Record, Cut, head_of, first_record, behind_record}
use Rattle.text_captures.specs.capture_file.Form.{cut_then, cut_in, cut_of, records_of, rest_of}
use Rattle.std.proofs.lemmas.List.{map-append}
use Rattle.text_captures.specs.declared.capture_file.capture_form.TimeUnit.{TimeUnit}
use Rattle.text_captures.specs.declared.capture_file.capture_form.Form.{Form}
use Rattle.text_captures.specs.declared.capture_file.capture_form.RecordFault.{RecordFault}
use Rattle.text_captures.specs.capture_file.Reading.{time_of, ticks_between, greatest, due_of, record_fault}
use Rattle.text_captures.specs.capture_file.Reading.{faults_behind, frames_behind, client_frame, one_on, first_there}
use Rattle.text_captures.specs.capture_file.Reading.{said_with, body_said}
use Rattle.text_captures.specs.capture_file.Clock.{ClockStands}
use Rattle.text_captures.specs.declared.capture_file.record_clock.Clock.{Clock}
use Rattle.std.proofs.lemmas.Grind.{flat_map-append}
use Rattle.hex.specs.Hex.{encode_with, encode_lower, lower_digits}
use Rattle.text_captures.specs.capture_file.Texts.{frame_text, frame_texts}
use Rattle.text_captures.specs.declared.capture_file.capture_form.RecordFault.TheVariants as wrong
use Rattle.text_captures.specs.declared.capture_file.capture_form.CaptureFault.TheVariants as fault

-- ---- How octets are cut into records.
-- ---- the first record
pub record-there : (order : ByteOrder) (octets found rest : List ℕ) (head : RecordHead) → head ≡ head_of order octets →
    16 + head.captured ≤ length octets
    → found ≡ take head.captured (drop 16 octets) → rest ≡ drop (16 + head.captured) octets →
    first_record order octets ≡ Some (record { head = head; octets = found }, rest)
record-there order octets found rest head is fits there behind =
    let P : RecordHead → Type 0 =
    λ head. 16 + head.captured ≤ length octets → found ≡ take head.captured (drop 16 octets) →
    rest ≡ drop (16 + head.captured) octets
    → first_record order octets ≡ Some (record { head = head; octets = found }, rest) in
    subst P (sym is) (λ fits there behind. rw (le-leb (16 + number_at order 8 octets) (length octets) fits)
    (rw there (rw behind refl))) fits there behind

pub record-none : (order : ByteOrder) (octets : List ℕ) → length octets < 16 + number_at order 8 octets →
    first_record order octets ≡ None
record-none order octets short = rw (lt-leb (16 + number_at order 8 octets) (length octets) short) refl

short-by : (fits : Bool) (n : ℕ) (octets : List ℕ) (r : Record) (found : Record × List ℕ) →
    nat_le n (length octets) ≡ fits → 16 ≤ n
    → (if fits then Some (r, drop n octets) else None) ≡ Some found → length found.1 + 16 ≤ length octets
short-by true n octets r found fits least is =
    let e : drop n octets ≡ found.1 = ap (λ o. (unwrap_or o found).1) is in
    omega (arith, ap length e, length-drop n octets, leb-true n (length octets) fits, least)
short-by false n octets r found fits least is = absurd cc

-- what lies behind it is shorter by its head at least
pub found-short : (order : ByteOrder) (octets : List ℕ) (found : Record × List ℕ) →
    first_record order octets ≡ Some found → length found.1 + 16 ≤ length octets
found-short order octets found is =
    short-by (nat_le (16 + number_at order 8 octets) (length octets)) (16 + number_at order 8 octets) octets
    (record { head = head_of order octets; octets = take (number_at order 8 octets) (drop 16 octets) }) found refl
    (omega arith) is

-- ---- all of them
then-same : (octets : List ℕ) (found : Option (Record × List ℕ)) (f g : List ℕ → Cut)
    → ((own : Record × List ℕ) → found ≡ Some own → f own.1 ≡ g own.1) →
    cut_then octets found f ≡ cut_then octets found g
then-same octets None f g same = refl
then-same octets (Some own) f g same = ap (behind_record own.0) (same own refl)

nothing : (order : ByteOrder) (octets : List ℕ) (g : List ℕ → Cut) → length octets ≡ 0 →
    record { records = []; rest = octets } ≡ cut_then octets (first_record order octets) g
nothing order octets g none = rw (record-none order octets (omega (arith, none))) refl

cut_in-enough : (order : ByteOrder) (k m : ℕ) (octets : List ℕ) → length octets ≤ k → length octets ≤ m →
    cut_in order k octets ≡ cut_in order m octets
unfolding cut_in
cut_in-enough order zero zero octets few enough = refl
cut_in-enough order zero (suc m) octets few enough = nothing order octets (cut_in order m) (omega (arith, few))
cut_in-enough order (suc k) zero octets few enough = sym (nothing order octets (cut_in order k) (omega (arith, enough)))
cut_in-enough order (suc k) (suc m) octets few enough =
    then-same octets (first_record order octets) (cut_in order k) (cut_in order m)
    (λ own is. let short = found-short order octets own is in
    cut_in-enough order k m own.1 (omega (arith, short, few)) (omega (arith, short, enough)))

one-more : (order : ByteOrder) (octets : List ℕ) →
    cut_of order octets ≡ cut_then octets (first_record order octets) (cut_in order (length octets))
unfolding cut_in
one-more order octets = cut_in-enough order (length octets) (suc (length octets)) octets (omega arith) (omega arith)

pub cut_of-none : (order : ByteOrder) (octets : List ℕ) → first_record order octets ≡ None →
    cut_of order octets ≡ record { records = []; rest = octets }
cut_of-none order octets none = one-more order octets ∙ ap (λ o. cut_then octets o (cut_in order (length octets))) none

pub cut_of-some : (order : ByteOrder) (octets : List ℕ) (found : Record × List ℕ) →
    first_record order octets ≡ Some found
    → cut_of order octets ≡ behind_record found.0 (cut_of order found.1)
cut_of-some order octets found is =
    let short = found-short order octets found is in
    one-more order octets ∙ ap (λ o. cut_then octets o (cut_in order (length octets))) is
    ∙ ap (behind_record found.0) (cut_in-enough order (length octets) (length found.1) found.1 (omega (arith, short))
    (omega arith))

-- ---- behind records that were read
pub record HasCut (order : ByteOrder) (body rest : List ℕ) (before : List Record) : Type 0 where
  pub records : records_of order body ≡ before ++ records_of order rest
  pub left : rest_of order body ≡ rest_of order rest

pub has-begun : (order : ByteOrder) (body : List ℕ) → HasCut order body body []
has-begun order body = record { records = refl; left = refl }

pub has-next : (order : ByteOrder) (body rest behind : List ℕ) (before : List Record) (r : Record) →
    first_record order rest ≡ Some (r, behind)
    → HasCut order body rest before → HasCut order body behind (before ++ r ∷ [])
has-next order body rest behind before r is has =
    let more = cut_of-some order rest (r, behind) is in
    record {
      records = has.records ∙ ap (λ (cut : Cut). before ++ cut.records) more
          ∙ sym (append_assoc before (r ∷ []) (records_of order behind));
      left = has.left ∙ ap (λ (cut : Cut). cut.rest) more;
    }

pub has-next-then : (order : ByteOrder) (body rest behind : List ℕ) (before : List Record) (r : Record) →
    first_record order rest ≡ Some (r, behind)
    → HasCut order body rest before → records_of order body ≡ before ++ r ∷ records_of order behind
has-next-then order body rest behind before r is has = has.records
    ∙ ap (λ (cut : Cut). before ++ cut.records) (cut_of-some order rest (r, behind) is)

pub has-ended : (order : ByteOrder) (body rest : List ℕ) (before : List Record) → first_record order rest ≡ None →
    HasCut order body rest before
    → (records_of order body ≡ before) × (rest_of order body ≡ rest)
has-ended order body rest before none has =
    let last = cut_of-none order rest none in (
      has.records ∙ ap (λ (cut : Cut). before ++ cut.records) last ∙ append-nil before,
      has.left
          ∙ ap (λ (cut : Cut). cut.rest) last,
    )

-- ---- what a slice has from a place on

-- ---- When frames are due, and which fault is the first.
-- ---- due ticks
max-assoc : (a b d : ℕ) → max a (max b d) ≡ max (max a b) d
max-assoc a b d = omega arith

max-zero : (n : ℕ) → max n 0 ≡ max 0 n
max-zero n = omega arith

pub greatest-more : (ns : List ℕ) (n : ℕ) → greatest (ns ++ n ∷ []) ≡ max (greatest ns) n
unfolding greatest
greatest-more [] n = max-zero n
greatest-more (m ∷ ns) n = ap (λ x. max m x) (greatest-more ns n) ∙ max-assoc m (greatest ns) n

pub stands-begun : (unit : TimeUnit) → ClockStands (record { unit = unit; first = None; due = 0 }) []
unfolding greatest
stands-begun unit = record { first = refl; due = refl }

-- a record more
pub stands-more : (unit : TimeUnit) (first : Option ℕ) (due time next : ℕ) (before : List Record) (r : Record) →
    time ≡ time_of unit r.head
    → next ≡ max due ((time - unwrap_or first time) / 125000) →
    ClockStands (record { unit = unit; first = first; due = due }) before
    → ClockStands (record { unit = unit; first = Some (unwrap_or first time); due = next }) (before ++ r ∷ [])
unfolding greatest
stands-more unit first due time next [] r at moves stands =
    let at_first : unwrap_or first time ≡ time = ap (λ o. unwrap_or o time) stands.first in record {
      first = ap Some (at_first ∙ at);
      due = moves ∙ ap (λ n. max n ((time - unwrap_or first time) / 125000)) stands.due
          ∙ ap (λ t. max 0 ((time - t) / 125000)) at_first
          ∙ ap (λ t. max 0 ((t - t) / 125000)) at
          ∙ sym (max-zero (ticks_between (time_of unit r.head) (time_of unit r.head)));
    }
stands-more unit first due time next (f ∷ before) r at moves stands =
    let at_first : unwrap_or first time ≡ time_of unit f.head = ap (λ o. unwrap_or o time) stands.first in
    let ticks : List Record → List ℕ =
    map (λ (r : Record). ticks_between (time_of unit f.head) (time_of unit r.head)) in record {
      first = ap Some at_first;
      due = moves ∙ ap (λ n. max n ((time - unwrap_or first time) / 125000)) stands.due
          ∙ ap (λ t. max (greatest (ticks (f ∷ before))) ((time - t) / 125000)) at_first
          ∙ ap (λ t. max (greatest (ticks (f ∷ before))) ((t - time_of unit f.head) / 125000)) at
          ∙ sym (greatest-more (ticks (f ∷ before)) (ticks_between (time_of unit f.head) (time_of unit r.head)))
          ∙ ap greatest (sym (map-append (λ (r : Record). ticks_between (time_of unit f.head) (time_of unit r.head))
          (f ∷ before) (r ∷ [])));
    }

-- ---- faults and frames of records one after another
pub faults-append : (form : Form) (before xs ys : List Record) →
    faults_behind form before (xs ++ ys) ≡ faults_behind form before xs ++ faults_behind form (before ++ xs) ys
unfolding faults_behind
faults-append form before [] ys = ap (λ b. faults_behind form b ys) (sym (append-nil before))
faults-append form before (x ∷ xs) ys =
    ap (λ l. record_fault form.has_fcs x.head (due_of form.unit (before ++ x ∷ [])) ∷ l)
    (faults-append form (before ++ x ∷ []) xs ys
    ∙ ap (λ b. faults_behind form (before ++ x ∷ []) xs ++ faults_behind form b ys)
    (append_assoc before (x ∷ []) xs))

pub frames-append : (form : Form) (before xs ys : List Record) →
    frames_behind form before (xs ++ ys) ≡ frames_behind form before xs ++ frames_behind form (before ++ xs) ys
unfolding frames_behind
frames-append form before [] ys = ap (λ b. frames_behind form b ys) (sym (append-nil before))
frames-append form before (x ∷ xs) ys =
    ap (λ l. record { due = due_of form.unit (before ++ x ∷ []); frame = client_frame form.has_fcs x.octets } ∷ l)
    (frames-append form (before ++ x ∷ []) xs ys
    ∙ ap (λ b. frames_behind form (before ++ x ∷ []) xs ++ frames_behind form b ys)
    (append_assoc before (x ∷ []) xs))

length-faults : (form : Form) (before xs : List Record) → length (faults_behind form before xs) ≡ length xs
unfolding faults_behind
length-faults form before [] = refl
length-faults form before (x ∷ xs) = ap suc (length-faults form (before ++ x ∷ []) xs)

one_on-none : (o : Option (ℕ × RecordFault)) → one_on o ≡ None → o ≡ None
one_on-none None none = refl
one_on-none (Some found) none = absurd cc

first-more : (xs ys : List (Option RecordFault)) (own : RecordFault) → first_there xs ≡ None →
    first_there (xs ++ Some own ∷ ys) ≡ Some (length xs, own)
unfolding first_there
first-more [] ys own none = refl
first-more (Some x ∷ xs) ys own none = absurd cc
first-more (None ∷ xs) ys own none = ap one_on (first-more xs ys own (one_on-none (first_there xs) none))
    ∙ ap (λ n. Some (n, own)) (omega arith)

none-more : (xs : List (Option RecordFault)) → first_there xs ≡ None → first_there (xs ++ None ∷ []) ≡ None
unfolding first_there
none-more [] none = refl
none-more (Some x ∷ xs) none = absurd cc
none-more (None ∷ xs) none = ap one_on (none-more xs (one_on-none (first_there xs) none))

-- some records have no fault
abbrev pub AreSound : Form → List Record → Type 0
AreSound form records = first_there (faults_behind form [] records) ≡ None

pub sound-begun : (form : Form) → AreSound form []
unfolding first_there faults_behind
sound-begun form = refl

single : (form : Form) (before : List Record) (r : Record) (o : Option RecordFault) →
    record_fault form.has_fcs r.head (due_of form.unit (before ++ r ∷ [])) ≡ o
    → faults_behind form before (r ∷ []) ≡ o ∷ []
unfolding faults_behind
single form before r o is = ap (λ o. o ∷ []) is

pub sound-more : (form : Form) (before : List Record) (r : Record) → AreSound form before
    → record_fault form.has_fcs r.head (due_of form.unit (before ++ r ∷ [])) ≡ None → AreSound form (before ++ r ∷ [])
sound-more form before r sound none =
    ap first_there (faults-append form [] before (r ∷ [])
    ∙ ap (λ l. faults_behind form [] before ++ l) (single form before r None none))
    ∙ none-more (faults_behind form [] before) sound

split : (form : Form) (before more : List Record) (r : Record) (own : RecordFault) →
    record_fault form.has_fcs r.head (due_of form.unit (before ++ r ∷ [])) ≡ Some own
    → faults_behind form [] (before ++ r ∷ more) ≡ faults_behind form [] before ++ Some own ∷ faults_behind form
    (before ++ r ∷ []) more
unfolding faults_behind
split form before more r own is =
    faults-append form [] before (r ∷ more)
    ∙ ap (λ o. faults_behind form [] before ++ o ∷ faults_behind form (before ++ r ∷ []) more) is

-- ---- what is said
pub said-fault : (form : Form) (body : List ℕ) (before more : List Record) (r : Record) (own : RecordFault)
    (number : ℕ) → records_of form.order body ≡ before ++ r ∷ more
    → number ≡ length before → AreSound form before →
    record_fault form.has_fcs r.head (due_of form.unit (before ++ r ∷ [])) ≡ Some own
    → body_said form body ≡ Err (fault.Record number own)
said-fault form body before more r own number all at sound is =
    let first : first_there (faults_behind form [] (records_of form.order body)) ≡ Some (number, own) =
    ap (λ l. first_there (faults_behind form [] l)) all ∙ ap first_there (split form before more r own is)
    ∙ first-more (faults_behind form [] before) (faults_behind form (before ++ r ∷ []) more) own sound
    ∙ ap (λ n. Some (n, own)) (length-faults form [] before ∙ sym at) in
    ap (said_with form (records_of form.order body) (rest_of form.order body)) first

said-by-rest : (form : Form) (records : List Record) (rest : List ℕ) → 0 < length rest →
    said_with form records rest None ≡ Err (fault.Record (length records) wrong.Cut)
said-by-rest form records [] some = absurd (omega arith)
said-by-rest form records (o ∷ rest) some = refl

pub said-cut : (form : Form) (body rest : List ℕ) (before : List Record) (number : ℕ) →
    records_of form.order body ≡ before → rest_of form.order body ≡ rest
    → number ≡ length before → AreSound form before → 0 < length rest →
    body_said form body ≡ Err (fault.Record number wrong.Cut)
said-cut form body rest before number all left at sound some =
    let none : first_there (faults_behind form [] (records_of form.order body)) ≡ None =
    ap (λ l. first_there (faults_behind form [] l)) all ∙ sound in
    ap (said_with form (records_of form.order body) (rest_of form.order body)) none
    ∙ said-by-rest form (records_of form.order body) (rest_of form.order body)
    (let e = ap length left in omega (arith, e, some))
    ∙ ap (λ n. Err (fault.Record n wrong.Cut)) (ap length all ∙ sym at)

pub said-sound : (form : Form) (body : List ℕ) (before : List Record) → records_of form.order body ≡ before →
    rest_of form.order body ≡ []
    → AreSound form before → body_said form body ≡ Ok (frames_behind form [] (records_of form.order body))
said-sound form body before all left sound =
    let none : first_there (faults_behind form [] (records_of form.order body)) ≡ None =
    ap (λ l. first_there (faults_behind form [] l)) all ∙ sound in
    ap (said_with form (records_of form.order body) (rest_of form.order body)) none
    ∙ ap (λ l. said_with form (records_of form.order body) l None) left

-- ---- What is known of records that were read one after another.
-- some records were read, the clock stands behind them, and what lies behind them is left
pub record HasRead (form : Form) (body rest : List ℕ) (clock : Clock) (before : List Record) : Type 0 where
  pub cut : HasCut form.order body rest before
  pub unit : clock.unit ≡ form.unit
  pub stands : ClockStands clock before

pub read-begun : (form : Form) (body : List ℕ) (clock : Clock) → clock.unit ≡ form.unit → ClockStands clock [] →
    HasRead form body body clock []
read-begun form body clock unit stands = record { cut = has-begun form.order body; unit = unit; stands = stands }

-- and they are sound
pub record HasChecked (form : Form) (body rest : List ℕ) (clock : Clock) (number : ℕ) : Type 0 where
  pub before : List Record
  pub read : HasRead form body rest clock before
  pub count : number ≡ length before
  pub few : 16 * number + length rest ≤ length body
  pub sound : AreSound form before

pub read-more : (form : Form) (body rest behind octets : List ℕ) (old new : Clock) (head : RecordHead)
    (before : List Record) → HasRead form body rest old before
    → first_record form.order rest ≡ Some (record { head = head; octets = octets }, behind) → new.unit ≡ old.unit
    → ((b : List Record) (r : Record) → ClockStands old b → r.head ≡ head → ClockStands new (b ++ r ∷ []))
    → HasRead form body behind new (before ++ record { head = head; octets = octets } ∷ [])
read-more form body rest behind octets old new head before read is unit stands = record {
  cut = has-next form.order body rest behind before (record { head = head; octets = octets }) is read.cut;
  unit = unit ∙ read.unit;
  stands = stands before (record { head = head; octets = octets }) read.stands refl;
}

pub due-is : (form : Form) (body rest : List ℕ) (clock : Clock) (before : List Record) →
    HasRead form body rest clock before → clock.due ≡ due_of form.unit before
due-is form body rest clock before read = read.stands.due ∙ ap (λ unit. due_of unit before) read.unit

-- ---- How lines and their digits are put together.
pub texts-none : (form : Form) → frame_texts (frames_behind form [] []) ≡ []
unfolding frames_behind
texts-none form = refl

single-written : (form : Form) (before : List Record) (r : Record) → frame_texts (frames_behind form before (r ∷ []))
    ≡ frame_text (record { due = due_of form.unit (before ++ r ∷ []); frame = client_frame form.has_fcs r.octets })
unfolding frames_behind
single-written form before r = append-nil
    (frame_text (record { due = due_of form.unit (before ++ r ∷ []); frame = client_frame form.has_fcs r.octets }))

pub texts-more : (form : Form) (before : List Record) (r : Record) (due : ℕ) → due ≡ due_of form.unit (before ++ r ∷ [])
    → frame_texts (frames_behind form [] before) ++ frame_text
    (record { due = due; frame = client_frame form.has_fcs r.octets })
    ≡ frame_texts (frames_behind form [] (before ++ r ∷ []))
texts-more form before r due is =
    ap (λ n. frame_texts (frames_behind form [] before) ++ frame_text
    (record { due = n; frame = client_frame form.has_fcs r.octets })) is
    ∙ ap (λ l. frame_texts (frames_behind form [] before) ++ l) (sym (single-written form before r))
    ∙ sym (ap frame_texts (frames-append form [] before (r ∷ []))
    ∙ flat_map-append frame_text (frames_behind form [] before) (frames_behind form before (r ∷ [])))
