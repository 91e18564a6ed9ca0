-- The text of a session's report: a line for each frame that is delivered, a line for each item that is refused, and a
-- line of totals.
-- Each line ends with LF, and numbers are in decimal digits without leading zeros. These texts are this project's own.
use Rattle.std.specs.Prelude.{ℕ, List, ◌++◌, codes, decimal, flat_map}
use Rattle.hex.specs.Hex.{encode_lower}
use Rattle.law_model.specs.declared.item_refusals.AcceptFault.{AcceptFault}
use Rattle.law_model.specs.declared.item_refusals.AcceptFault.TheVariants.{Length, QueueFull}
use Rattle.law_model.specs.declared.item_refusals.CommandFault.{CommandFault}
use Rattle.law_model.specs.declared.item_refusals.CommandFault.TheVariants.{UnknownLine, AlreadyIn, NotIn, TooManyPending}
use Rattle.law_model.specs.declared.item_refusals.Refusal.{Refusal}
use Rattle.law_model.specs.declared.session_totals.Totals.{Totals}
use Rattle.law_model.specs.declared.item_refusals.Refusal.TheVariants.{Frame, Command}

-- the line of a delivered frame
abbrev pub got_text : List ℕ → List ℕ
got_text frame = codes "got " ++ encode_lower frame ++ codes "\n"

-- the lines of delivered frames
abbrev pub got_texts : List (List ℕ) → List ℕ
got_texts frames = flat_map got_text frames

-- why a frame is refused: its length in octets, or the full queue
abbrev pub accept_fault_text : AcceptFault → List ℕ
accept_fault_text (Length n) = codes "length " ++ decimal n
accept_fault_text (QueueFull waiting) = codes "queue"

-- why a command is refused
abbrev pub command_fault_text : CommandFault → List ℕ
command_fault_text (UnknownLine lines) = codes "unknown"
command_fault_text AlreadyIn = codes "already in"
command_fault_text NotIn = codes "not in"
command_fault_text (TooManyPending pending) = codes "pending"

-- why an item is refused
abbrev pub refusal_text : Refusal → List ℕ
refusal_text (Frame fault) = accept_fault_text fault
refusal_text (Command fault) = command_fault_text fault

-- the line of a refused item
abbrev pub refused_text : ℕ → Refusal → List ℕ
refused_text item why = codes "refused " ++ decimal item ++ codes " " ++ refusal_text why ++ codes "\n"

-- the lines of refused items, each with its number
abbrev pub refused_texts : List (ℕ × Refusal) → List ℕ
refused_texts refusals = flat_map (λ (refused : ℕ × Refusal). refused_text refused.0 refused.1) refusals

-- the line of totals
abbrev pub total_text : Totals → List ℕ
total_text totals =
    codes "total ticks " ++ decimal totals.ticks ++ codes " taken " ++ decimal totals.taken ++ codes " frames " ++
    decimal totals.frames
    ++ codes " commands " ++ decimal totals.commands ++ codes " refused " ++ decimal totals.refused ++ codes " got " ++
    decimal totals.got ++ codes "\n"
