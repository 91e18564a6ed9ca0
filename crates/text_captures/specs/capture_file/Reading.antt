-- What a capture says: frames of a client, each with the tick in which it is due; or the first that is wrong.
use Rattle.std.specs.Prelude.{ℕ, ◌+◌, ◌-◌, ◌*◌, ◌/◌, ◌==◌, Bool, true, false, not, nat_le, nat_lt, max, List, [], ◌∷◌, ◌++◌}
use Rattle.std.specs.Prelude.{length, map, replicate, drop, Option, Some, None, Result, Ok, Err, if◌then◌else◌}
use Rattle.check_crc32.specs.Crc32.{least_first, fcs_in}
use Rattle.text_captures.specs.declared.capture_file.capture_form.TimeUnit.{TimeUnit}
use Rattle.text_captures.specs.declared.capture_file.capture_form.TimeUnit.TheVariants.{Microseconds, Nanoseconds}
use Rattle.text_captures.specs.declared.capture_file.capture_form.Form.{Form}
use Rattle.text_captures.specs.declared.capture_file.capture_form.RecordHead.{RecordHead}
use Rattle.text_captures.specs.declared.capture_file.capture_form.HeadFault.{HeadFault}
use Rattle.text_captures.specs.declared.capture_file.capture_form.RecordFault.{RecordFault}
use Rattle.text_captures.specs.declared.capture_file.capture_form.RecordFault.TheVariants as wrong
use Rattle.text_captures.specs.declared.capture_file.capture_form.CaptureFault.{CaptureFault}
use Rattle.text_captures.specs.declared.capture_file.capture_form.CaptureFault.TheVariants as fault
use Rattle.law_model.specs.Common.{most_ticks}
use Rattle.text_captures.specs.capture_file.Form.{Record, form_of, records_of, rest_of}

-- ---- when a record's frame is due
-- a time in nanoseconds
abbrev pub in_nanoseconds : TimeUnit → ℕ → ℕ
in_nanoseconds Microseconds n = 1000 * n
in_nanoseconds Nanoseconds n = n

abbrev pub time_of : TimeUnit → RecordHead → ℕ
time_of unit head = 1000000000 * head.seconds + in_nanoseconds unit head.fraction

-- the whole ticks of 125 microseconds from one time to another, none where the other isn't later
abbrev pub ticks_between : ℕ → ℕ → ℕ
ticks_between first time = (time - first) / 125000

-- those from the first of some records to each of them
abbrev pub ticks_in : TimeUnit → List Record → List ℕ
ticks_in unit [] = []
ticks_in unit (first ∷ records) =
    map (λ (r : Record). ticks_between (time_of unit first.head) (time_of unit r.head)) (first ∷ records)

unfoldable pub greatest : List ℕ → ℕ
greatest [] = 0
greatest (n ∷ ns) = max n (greatest ns)

-- the tick in which the frame of the last of some records is due: no frame is due before one that stands before it
abbrev pub due_of : TimeUnit → List Record → ℕ
due_of unit records = greatest (ticks_in unit records)

-- ---- its frame
-- without an FCS it is filled up with zeros to 60 octets, and gets one
abbrev pub filled_up : List ℕ → List ℕ
filled_up octets = octets ++ replicate (60 - length octets) 0

abbrev pub with_fcs : List ℕ → List ℕ
with_fcs octets = octets ++ fcs_in least_first octets

abbrev pub client_frame : Bool → List ℕ → List ℕ
client_frame true octets = octets
client_frame false octets = with_fcs (filled_up octets)

-- a frame and the tick in which it is due
pub record DueFrame : Type 0 where
  pub due : ℕ
  pub frame : List ℕ

-- ---- what is wrong with a record, whose frame is due in a tick
abbrev pub most_octets : Bool → ℕ
most_octets true = 65535
most_octets false = 65531

abbrev pub record_fault : Bool → RecordHead → ℕ → Option RecordFault
record_fault has_fcs head due =
    if not (head.captured == head.original) then Some wrong.Snapped
    else if nat_lt (most_octets has_fcs) head.captured then Some (wrong.Length head.captured)
    else if nat_le most_ticks due then Some wrong.Late
    else None

-- ---- records one after another, behind others
unfoldable pub faults_behind : Form → List Record → List Record → List (Option RecordFault)
faults_behind form before [] = []
faults_behind form before (r ∷ rs) =
    record_fault form.has_fcs r.head (due_of form.unit (before ++ r ∷ [])) ∷ faults_behind form (before ++ r ∷ []) rs

unfoldable pub frames_behind : Form → List Record → List Record → List DueFrame
frames_behind form before [] = []
frames_behind form before (r ∷ rs) =
    record { due = due_of form.unit (before ++ r ∷ []); frame = client_frame form.has_fcs r.octets } ∷ frames_behind
    form (before ++ r ∷ []) rs

-- the first of some that is there, with its place
abbrev pub one_on : {T : Type 0} → Option (ℕ × T) → Option (ℕ × T)
one_on None = None
one_on (Some found) = Some (found.0 + 1, found.1)

abbrev pub there_or : {T : Type 0} → Option T → Option (ℕ × T) → Option (ℕ × T)
there_or (Some t) later = Some (0, t)
there_or None later = one_on later

unfoldable pub first_there : {T : Type 0} → List (Option T) → Option (ℕ × T)
first_there [] = None
first_there (o ∷ os) = there_or o (first_there os)

-- ---- what is said
-- by records and what lies behind them, where no whole record stands
abbrev pub said_with : Form → List Record → List ℕ → Option (ℕ × RecordFault) → Result (List DueFrame) CaptureFault
said_with form records rest (Some found) = Err (fault.Record found.0 found.1)
said_with form records [] None = Ok (frames_behind form [] records)
said_with form records (o ∷ rest) None = Err (fault.Record (length records) wrong.Cut)

-- by the octets behind the head
abbrev pub body_said : Form → List ℕ → Result (List DueFrame) CaptureFault
body_said form body =
    said_with form (records_of form.order body) (rest_of form.order body)
    (first_there (faults_behind form [] (records_of form.order body)))

abbrev pub frames_of : Form → List ℕ → List DueFrame
frames_of form body = frames_behind form [] (records_of form.order body)

abbrev pub said_by : Result Form HeadFault → List ℕ → Result (List DueFrame) CaptureFault
said_by (Ok form) body = body_said form body
said_by (Err own) body = Err (fault.Head own)

-- by a capture
abbrev pub capture_said : List ℕ → Result (List DueFrame) CaptureFault
capture_said octets = said_by (form_of octets) (drop 24 octets)
