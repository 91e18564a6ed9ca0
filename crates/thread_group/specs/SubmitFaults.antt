-- What it means that an item isn't accepted.
use Rattle.std.specs.Prelude.{Bool, true, false, Option, Some, None}
use Rattle.law_model.specs.declared.item_refusals.Refusal.{Refusal}
use Rattle.law_model.specs.declared.item_refusals.Refusal.TheVariants.{Frame as frame_refused, Command as command_refused}
use Rattle.thread_group.specs.declared.group_answers.SubmitFault.{SubmitFault}
use Rattle.thread_group.specs.declared.group_answers.SubmitFault.TheVariants.{NotNext, Early, Frame, Command, JournalFull}

-- the answer for an item that is refused
abbrev pub fault_of : Refusal → SubmitFault
fault_of (frame_refused why) = Frame why
fault_of (command_refused why) = Command why

-- whether the item has landed: it is accepted, or it is refused
abbrev pub has_landed : Option SubmitFault → Bool
has_landed None = true
has_landed (Some (NotNext next)) = false
has_landed (Some (Early now)) = false
has_landed (Some (Frame why)) = true
has_landed (Some (Command why)) = true
has_landed (Some (JournalFull entries bytes)) = false

-- why it is refused, where it is
abbrev pub refusal_told : Option SubmitFault → Option Refusal
refusal_told None = None
refusal_told (Some (NotNext next)) = None
refusal_told (Some (Early now)) = None
refusal_told (Some (Frame why)) = Some (frame_refused why)
refusal_told (Some (Command why)) = Some (command_refused why)
refusal_told (Some (JournalFull entries bytes)) = None

-- the journal has no room for it
abbrev pub is_full : Option SubmitFault → Bool
is_full None = false
is_full (Some (NotNext next)) = false
is_full (Some (Early now)) = false
is_full (Some (Frame why)) = false
is_full (Some (Command why)) = false
is_full (Some (JournalFull entries bytes)) = true
