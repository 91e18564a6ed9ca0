-- Bursts of lines that no thread serves.
use Rattle.std.specs.Prelude.{◌≡◌, ℕ, ◌<◌, List, slice_get, Some, sum_by}
use Rattle.thread_alarms.specs.declared.watched_line.served_line.ServedLine.{ServedLine}
use Rattle.thread_alarms.specs.watched_line.ServedWithPosts.{worker_of}
use Rattle.thread_rings.specs.WorkerOfLine.{carries_of, WasEmpty, WasFull}
use Rattle.thread_session.specs.declared.session_parts.line_thread.Held.{Held}
use Rattle.thread_session.specs.declared.session_parts.line_thread.Held.TheVariants.{There, Here}
use Rattle.thread_session.specs.session_parts.LineRingsLaid.{IsServedDone}

-- a burst was made of a line: it carried, or a look at one of its rings missed, or the end had been pushed before
pub data HasTried (was now : ServedLine) : Type 0 where
  moved : carries_of (worker_of was) < carries_of (worker_of now) → HasTried was now
  empty : WasEmpty (worker_of was) (worker_of now) → HasTried was now
  full : WasFull (worker_of was) (worker_of now) → HasTried was now
  done : IsServedDone was → HasTried was now

-- so it is with each of some lines
abbrev pub AreTried : List ServedLine → List ServedLine → Type 0
AreTried was now = (m : ℕ) (old new : ServedLine) → slice_get was m ≡ Some old → slice_get now m ≡ Some new →
    HasTried old new

-- with each line of a share, where no thread serves it
abbrev pub IsTriedHere : Held → Held → Type 0
IsTriedHere (There child) now = Unit {0}
IsTriedHere (Here lines) (There child) = ⊥
IsTriedHere (Here lines) (Here later) = AreTried lines.items later.items

-- and with each share
abbrev pub AreTriedHere : List Held → List Held → Type 0
AreTriedHere was now = (w : ℕ) (old new : Held) → slice_get was w ≡ Some old → slice_get now w ≡ Some new →
    IsTriedHere old new

-- ---- how many carries were made
abbrev pub carries_in : List ServedLine → ℕ
carries_in lines = sum_by (λ (line : ServedLine). carries_of (worker_of line)) lines

-- those of a share that no thread serves
abbrev pub carries_here : Held → ℕ
carries_here (There child) = 0
carries_here (Here lines) = carries_in lines.items

-- and of all such shares
abbrev pub all_carries_here : List Held → ℕ
all_carries_here held = sum_by carries_here held
