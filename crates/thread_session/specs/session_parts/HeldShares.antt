-- Shares of workers in the hands of threads, or kept where no thread could be started.
use Rattle.std.specs.Prelude.{◌≡◌, ℕ, List, slice_get, Some}
use Rattle.std.specs.Global.{Vec}
use Rattle.std.specs.List.{AllZip}
use Rattle.thread_alarms.specs.declared.watched_line.served_line.ServedLine.{ServedLine}
use Rattle.thread_session.specs.declared.session_parts.line_thread.Held.{Held}
use Rattle.thread_session.specs.declared.session_parts.line_thread.Held.TheVariants.{There, Here}
use Rattle.thread_session.specs.declared.session_parts.stop_flag.Flag.{Flag}
use Rattle.thread_session.specs.session_parts.Flags.{flag_of}
use Rattle.thread_alarms.specs.watched_line.ServedWithPosts.{AreServedLater}

-- a thread was given these workers, and promises to give them back later; or they are here, later
abbrev pub IsHeldOf : List ServedLine → Held → Type 0
IsHeldOf workers (There child) = child.promise.0.value.items ≡ workers
IsHeldOf workers (Here own) = AreServedLater workers own.items

-- so it is with each share
abbrev pub AreHeldOf : List (Vec ServedLine) → List Held → Type 0
AreHeldOf shares held = AllZip (λ (share : Vec ServedLine) (one : Held). IsHeldOf share.items one) shares held

-- the thread looks at the flag of this number
abbrev pub IsToldBy : ℕ → Held → Type 0
IsToldBy flag (There child) = flag_of child.promise.1.value ≡ flag
IsToldBy flag (Here own) = Unit {0}

-- each at the flag of its own place
abbrev pub AreToldBy : List Flag → List Held → Type 0
AreToldBy flags held = (w : ℕ) (flag : Flag) (one : Held) → slice_get flags w ≡ Some flag →
    slice_get held w ≡ Some one → IsToldBy (flag_of flag) one
