-- What is written of a capture: the lines of its frames, as a script has them, or a note on its first fault. These
-- texts are this
-- project's own.
use Rattle.std.specs.Prelude.{ℕ, ◌==◌, List, [], ◌++◌, codes, decimal, flat_map, if◌then◌else◌}
use Rattle.hex.specs.Hex.{encode_lower}
use Rattle.text_captures.specs.declared.capture_file.capture_form.HeadFault.{HeadFault}
use Rattle.text_captures.specs.declared.capture_file.capture_form.HeadFault.TheVariants as head
use Rattle.text_captures.specs.declared.capture_file.capture_form.RecordFault.{RecordFault}
use Rattle.text_captures.specs.declared.capture_file.capture_form.RecordFault.TheVariants as wrong
use Rattle.text_captures.specs.declared.capture_file.capture_form.CaptureFault.{CaptureFault}
use Rattle.text_captures.specs.declared.capture_file.capture_form.CaptureFault.TheVariants.{Head, Record}
use Rattle.text_captures.specs.capture_file.Reading.{DueFrame}

-- ---- frames
abbrev pub line_start : ℕ → List ℕ
line_start due = codes "frame " ++ decimal due ++ codes " "

abbrev pub frame_text : DueFrame → List ℕ
frame_text due_frame = line_start due_frame.due ++ encode_lower due_frame.frame ++ codes "\n"

abbrev pub frame_texts : List DueFrame → List ℕ
frame_texts frames = flat_map frame_text frames

-- ---- faults
abbrev pub head_fault_text : HeadFault → List ℕ
head_fault_text head.Cut = codes "cut"
head_fault_text head.PcapNg = codes "pcapng"
head_fault_text head.Magic = codes "magic"
head_fault_text head.Version = codes "version"
head_fault_text (head.Link link) = codes "link " ++ decimal link
head_fault_text (head.Fcs octets) = codes "fcs " ++ decimal octets

-- what is said of how to make the capture, of one whose frames aren't Ethernet: 171 is the link type of GFP frames
abbrev pub link_help_text : ℕ → List ℕ
link_help_text link =
    if link == 171 then
    codes "help: these are GFP frames, as gfp writes them; frames reads Ethernet, as capture writes it\n"
    else codes "help: frames reads Ethernet, which is link type 1\n"

abbrev pub head_help_text : HeadFault → List ℕ
head_help_text (head.Link link) = link_help_text link
head_help_text fault = []

abbrev pub record_fault_text : RecordFault → List ℕ
record_fault_text wrong.Cut = codes "cut"
record_fault_text wrong.Snapped = codes "snapped"
record_fault_text (wrong.Length octets) = codes "length " ++ decimal octets
record_fault_text wrong.Late = codes "late"

abbrev pub fault_text : CaptureFault → List ℕ
fault_text (Head fault) = codes "fault: head: " ++ head_fault_text fault ++ codes "\n" ++ head_help_text fault
fault_text (Record number fault) =
    codes "fault: record " ++ decimal number ++ codes ": " ++ record_fault_text fault ++ codes "\n"
