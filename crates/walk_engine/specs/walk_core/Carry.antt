-- Why a line carries nothing.
use Rattle.std.specs.Prelude.{◌≡◌, ◌≢◌, ◌<◌, ◌≤◌, ◌%◌, List, length, slice_get, ℕ, ◌+◌, nat_le, nat_lt, ◌&&◌}
use Rattle.std.specs.Prelude.{if◌then◌else◌, Option, Some, None}
use Rattle.std.specs.Global.{Vec, Box}
use Rattle.law_model.specs.Common.{Container, Leg, LinePath, LineCounts, in_send, in_receive}
use Rattle.law_model.specs.declared.walk_events.StallCause.{StallCause}
use Rattle.law_model.specs.declared.walk_events.StallCause.TheVariants.{Done, Empty, RxFull}
use Rattle.member_cells.specs.HeldPlaces.{held}
use Rattle.law_walk.specs.Common.{sent_at, path_on}
use Rattle.law_model.specs.members.Damage.{carried as come_of}
use Rattle.walk_engine.specs.walk_parts.Ringed.{Ringed, ring_of}
use Rattle.walk_engine.specs.walk_core.WayParts.{windows_on}

-- the first cause, where there is one: of line m, whose ring holds so many cells, where the ticks are made
abbrev pub carry_cause : ℕ → ℕ → ℕ → ℕ → LinePath → LineCounts → Option StallCause
carry_cause total ring ticks m path line =
    if nat_lt (total + path.delay) line.carried then Some Done
    else (if nat_lt line.carried total && nat_le (in_send total ticks line) 0 then Some (Empty m)
    else (if nat_le ring (in_receive path line) then Some (RxFull m) else None))

-- what a carry asks of a line: its end wasn't given, a container waits where not all were carried, and its ring isn't
-- full
pub record CanCarry (line : Ringed) (ticks : ℕ) : Type 0 where
  pub runs : line.core.flushed ≤ line.core.delay
  pub wet : line.core.pushed < line.core.total → line.carried < ticks
  pub room : line.given ≢ line.popped + ring_of line

-- the cells that were popped were given, and the ring holds the others
pub record HasReceiveRoom (leg : Leg) (m : ℕ) (line : Ringed) : Type 0 where
  pub pops : line.popped ≤ (path_on leg m).given line.carried
  pub room : (path_on leg m).given line.carried ≤ line.popped + leg.config.ring

-- the container of frame t of a line is in the send rings
abbrev pub IsSentOn : Leg → ℕ → ℕ → List (Vec (Box Container)) → Type 0
IsSentOn leg m t sent = t < leg.config.ticks →
    (frame : Vec (Box Container)) → slice_get sent (t % 32) ≡ Some frame →
    slice_get (held frame.items) m ≡ Some (sent_at leg m t)

-- of the container that it carries next, its windows say what those of the leg do
abbrev pub IsKnownOn : Leg → ℕ → Ringed → Type 0
IsKnownOn leg m line = line.core.pushed < line.core.total →
    come_of (windows_on leg m) line.carried ≡ come_of line.core.windows line.carried

-- in the send rings, of the frame at a place at most the container of line m has changed, and no other frame
pub record IsCarriedAt (place m : ℕ) (before after : List (List Container)) : Type 0 where
  pub places : length after ≡ length before
  pub lines : (k : ℕ) (frame : List Container) → slice_get after k ≡ Some frame →
      (was : List Container) × (slice_get before k ≡ Some was) × (length frame ≡ length was)
      × ((line : ℕ) → (k ≡ place → line ≢ m) → slice_get frame line ≡ slice_get was line)
