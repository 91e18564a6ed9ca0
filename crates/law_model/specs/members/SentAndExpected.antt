-- What a line carries whose numbers are never in doubt, and what its cells ought to tell of them.
use Rattle.std.specs.Prelude.{◌≡◌, ℕ, ◌+◌, ◌*◌, ◌/◌, ◌%◌, ◌<◌, List, map, take, drop, slice_get, Option, Some, None}
use Rattle.std.specs.Prelude.{if◌then◌else◌}
use Rattle.member_cells.specs.declared.containers_and_cells.Container.{Container}
use Rattle.law_model.specs.declared.window_types.Window.{Window}
use Rattle.law_model.specs.declared.window_types.Carried.{Carried}
use Rattle.law_model.specs.members.Damage.{is_good, AreWindows, slip_of}

-- the H4 of container n: MFI1 is n modulo 16, and the first two of a multiframe have the halves of MFI2
pub record HasPlace (n h4 : ℕ) : Type 0 where
  pub small : h4 < 256
  pub mfi1 : h4 % 16 ≡ n % 16
  pub upper : n % 16 ≡ 0 → h4 / 16 ≡ n / 256 % 16
  pub lower : n % 16 ≡ 1 → h4 / 16 ≡ n / 16 % 16

abbrev pub AreSent : List Container → Type 0
AreSent containers = (n : ℕ) (container : Container) → slice_get containers n ≡ Some container → HasPlace n container.h4

-- the windows are in order, and the slip of the line is below the numbers that are sent, which are known modulo 4096
pub record IsLine (windows : List Window) (containers : List Container) : Type 0 where
  pub apart : AreWindows 0 windows
  pub slip : slip_of windows < 4096
  pub sent : AreSent containers

-- the verdict that number t ought to have: its container, where that is good, else none
abbrev pub expected : (ℕ → Carried) → List Container → ℕ → Option Container
expected carries containers t = if is_good carries t then slice_get containers t else None

-- the nibbles of packet k, as they were sent
abbrev pub sent_nibbles : List Container → ℕ → List ℕ
sent_nibbles containers k = map (λ container. container.h4 / 16) (take 16 (drop (16 * k + 8) containers))
