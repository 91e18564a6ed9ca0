-- The client's frames that have landed, in the columns that sums need. These sums are this project's own.
use Rattle.std.specs.Prelude.{◌≡◌, ℕ, ◌+◌, Bool, true, false, List, [], ◌∷◌, ◌++◌, length, map, Option, Some, None}
use Rattle.std.specs.Prelude.{option_to_list}
use Rattle.std.specs.List.{flat_map}
use Rattle.fate_engine.specs.Common.{End, refused, accepted, Ended, is_refused, has_waited}
use Rattle.fate_engine.specs.declared.fate_law.Fate.{Fate}
use Rattle.fate_engine.specs.declared.fate_law.Fate.TheVariants.{Waits, Cut, Unconfirmed, Hunting, Unsettled, Got}
use Rattle.fate_service.specs.declared.landed_frames.Tally.{Tally}
use Rattle.fate_service.specs.declared.landed_frames.OfferedFrame.{OfferedFrame}
use Rattle.fate_service.specs.declared.landed_frames.CarriedFrame.{CarriedFrame}
use Rattle.fate_service.specs.declared.landed_frames.LandedFrames.{LandedFrames}

-- ---- numbers of frames and of their octets
abbrev pub no_frames : Tally
no_frames = record { frames = 0; octets = 0 }

-- with one more frame
abbrev pub with_frame : Tally → ℕ → Tally
with_frame tally octets = record { frames = tally.frames + 1; octets = tally.octets + octets }

abbrev pub with_frame_if : Bool → Tally → ℕ → Tally
with_frame_if true tally octets = with_frame tally octets
with_frame_if false tally octets = tally

-- ---- those that landed
abbrev pub offered_frame : Ended → OfferedFrame
offered_frame ended = record { due = ended.due; octets = length ended.frame; refused = is_refused ended.end }

abbrev pub offered_of : List Ended → List OfferedFrame
offered_of all = map offered_frame all

-- the due ticks of those that were accepted
abbrev pub due_if : ℕ → End → List ℕ
due_if due (refused why) = []
due_if due (accepted fate) = due ∷ []

abbrev pub accepted_of : List Ended → List ℕ
accepted_of all = flat_map (λ (ended : Ended). due_if ended.due ended.end) all

-- ---- those that the taken rows carry to their end
abbrev pub carried_by : ℕ → ℕ → ℕ → ℕ → Bool → Option CarriedFrame
carried_by due octets at last got =
    Some (record { due = due; octets = octets; at = at; last = last; got = got })

-- a frame that is cut is decided in the first of its rows that isn't whole, and another one in its first row
abbrev pub carried_if : ℕ → ℕ → Fate → Option CarriedFrame
carried_if due octets Waits = None
carried_if due octets (Cut r q t) = carried_by due octets t q false
carried_if due octets (Unconfirmed r q) = carried_by due octets r q false
carried_if due octets (Hunting r q) = carried_by due octets r q false
carried_if due octets (Unsettled r q) = carried_by due octets r q false
carried_if due octets (Got r q) = carried_by due octets r q true

abbrev pub carried_end : ℕ → ℕ → End → Option CarriedFrame
carried_end due octets (refused why) = None
carried_end due octets (accepted fate) = carried_if due octets fate

abbrev pub carried_of : List Ended → List CarriedFrame
carried_of all =
    flat_map (λ (ended : Ended). option_to_list (carried_end ended.due (length ended.frame) ended.end)) all

-- ---- the accepted ones that they don't
unfoldable pub waits_on : Tally → List Ended → Tally
waits_on tally [] = tally
waits_on tally (ended ∷ all) = waits_on (with_frame_if (has_waited ended.end) tally (length ended.frame)) all

abbrev pub waits_of : List Ended → Tally
waits_of all = waits_on no_frames all

-- the columns are those of some frames
pub record AreLanded (all : List Ended) (landed : LandedFrames) : Type 0 where
  pub offered : landed.offered.items ≡ offered_of all
  pub accepted : landed.accepted.items ≡ accepted_of all
  pub carried : landed.carried.items ≡ carried_of all
  pub waits : landed.waits ≡ waits_of all

-- one more frame was taken, with this end
pub record TakesFrame (old new : LandedFrames) (due octets : ℕ) (end : End) : Type 0 where
  pub offered : new.offered.items
      ≡ old.offered.items ++ record { due = due; octets = octets; refused = is_refused end } ∷ []
  pub accepted : new.accepted.items ≡ old.accepted.items ++ due_if due end
  pub carried : new.carried.items ≡ old.carried.items ++ option_to_list (carried_end due octets end)
  pub waits : new.waits ≡ with_frame_if (has_waited end) old.waits octets
