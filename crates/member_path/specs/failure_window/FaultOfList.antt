-- What is wrong with a list of windows: each is tested in its turn, and the first fault is told.
use Rattle.std.specs.Prelude.{ℕ, suc, ◌-◌, nat_le, nat_lt, List, [], ◌∷◌, Option, Some, None, if◌then◌else◌}
use Rattle.law_model.specs.declared.window_types.Window.{Window}
use Rattle.member_path.specs.declared.failure_window.window_fault.WindowFault.{WindowFault}
use Rattle.member_path.specs.declared.failure_window.window_fault.WindowFault.TheVariants.{Empty, Overlap, SlipTooLong}

-- the first fault of window i, where the window before it ends at this container
abbrev pub fault_of : ℕ → ℕ → Window → Option WindowFault
fault_of i end window =
    if nat_le window.end window.first then Some (Empty i)
    else if nat_lt window.first end then Some (Overlap i)
    else if nat_le (window.end - window.first) window.slip then Some (SlipTooLong i)
    else None

abbrev pub fault_or : Option WindowFault → Option WindowFault → Option WindowFault
fault_or (Some fault) later = Some fault
fault_or None later = later

-- the first fault of the windows from number i on, where the window before them ends at this container
unfoldable pub fault_from : ℕ → ℕ → List Window → Option WindowFault
fault_from i end [] = None
fault_from i end (window ∷ windows) = fault_or (fault_of i end window) (fault_from (suc i) window.end windows)

-- the first fault of a list; before the first window there is none that it could overlap
abbrev pub window_fault : List Window → Option WindowFault
window_fault windows = fault_from 0 0 windows
