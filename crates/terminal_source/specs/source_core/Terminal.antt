-- What a source terminal holds.
use Rattle.std.specs.Prelude.{◌≡◌, ℕ, ◌-◌, ◌/◌, ◌%◌, ◌==◌, ◌&&◌, nat_le, if◌then◌else◌, List, Option, Some, None}
use Rattle.law_model.specs.Common.{Told, Course}
use Rattle.gfp_fill.specs.Queue.{Held}
use Rattle.gfp_fill.specs.SentAreas.{Sender}

-- how many lines there are; the lag in packets; the payload octets of a container; how many return packets tell all
-- statuses; how many frames were made; the client's frames that aren't sent, and the stream that is made of them; the
-- table; the lines that carry payload, and the nibbles of each line's packet, as they were in the frame that was made
-- last; what the packets of the next decision step tell
pub record Terminal : Type 0 where
  pub lines : ℕ
  pub lag : ℕ
  pub size : ℕ
  pub statuses : ℕ
  pub ticks : ℕ
  pub queue : Held
  pub sender : Sender
  pub table : Course
  pub active : List ℕ
  pub nibbles : List (List ℕ)
  pub told : Told

-- the return cell that the tick of frame t needs: decision step j is made in that of frame 16 j + 8, and takes return
-- cell j - lag
abbrev pub needed_at : ℕ → ℕ → Option ℕ
needed_at lag t = if t % 16 == 8 && nat_le lag (t / 16) then Some (t / 16 - lag) else None

abbrev pub needed : Terminal → Option ℕ
needed core = needed_at core.lag core.ticks

-- two terminals of the same lines, lag, size and number of packets that tell all statuses
pub record SameKind (one other : Terminal) : Type 0 where
  pub lines : one.lines ≡ other.lines
  pub lag : one.lag ≡ other.lag
  pub size : one.size ≡ other.size
  pub statuses : one.statuses ≡ other.statuses
