-- What the cells of a line with failures tell of its containers.
use Rattle.std.specs.Prelude.{◌≡◌, ◌↔◌, true, ℕ, ◌+◌, ◌*◌, ◌%◌, ◌<◌, ◌≤◌, List, ◌∷◌, ◌++◌, length, take, slice_get}
use Rattle.std.specs.Prelude.{Option, Some, None, IsSome, if◌then◌else◌}
use Rattle.std.specs.Result.{result_ok}
use Rattle.law_model.specs.Common.{Container, Cell, Good, IsAt, is_good, is_readable, path, cells, locked, reading_of}
use Rattle.law_model.specs.Common.{verdict, signs_of, IsLine, expected, sent_nibbles, nibbles_of, read_of, read_packet}
use Rattle.law_model.specs.declared.window_types.Window.{Window}
use Rattle.law_model.specs.declared.window_types.Carried.{Carried}
use Rattle.law_model.specs.declared.window_types.Carried.TheVariants.{Whole}
use Rattle.law_model.specs.members.Damage.{carried}
use Rattle.law_line.specs.Wording.{dec_of}

-- the cells of i carries of a line all of whose containers are known
abbrev pub line_cells : List Window → List Container → ℕ → ℕ → List Cell
line_cells windows containers delay i = cells (carried windows) delay (length containers) containers i

-- each number that the cells of a line decide has the verdict of its container
abbrev pub AreNumbered : Type 0
AreNumbered = (windows : List Window) (containers : List Container) (delay i t : ℕ) (told : Option Container) →
    IsLine windows containers → t < length containers →
    verdict (line_cells windows containers delay i) t ≡ Some told →
    told ≡ expected (carried windows) containers t

-- a cell is that of container n: it came whole, and the cells before it are those of the containers before it
pub record IsCellOf (windows : List Window) (containers : List Container) (told : List Cell) (i n : ℕ) : Type 0 where
  pub container : Container
  pub cell : slice_get told i ≡ Some (Good container)
  pub sent : slice_get containers n ≡ Some container
  pub whole : carried windows n ≡ Whole
  pub before : take i told ≡ path (carried windows) 0 (take n containers)

-- a cell that comes while the line is locked is that of the container with its number, which is how many numbers are
-- decided before it
abbrev pub AreAt : Type 0
AreAt = (windows : List Window) (containers : List Container) (delay carries i : ℕ) →
    IsLine windows containers → IsAt (signs_of (line_cells windows containers delay carries)) i →
    IsCellOf windows containers (line_cells windows containers delay carries) i
    (dec_of (line_cells windows containers delay carries) i)

-- where the containers before a whole one leave the line locked, they decide just their own numbers, and its MFI1 is
-- the one that is due
abbrev pub AreInStep : Type 0
AreInStep = (windows : List Window) (containers : List Container) (n mfi1 : ℕ) (container : Container) →
    IsLine windows containers → slice_get containers n ≡ Some container → carried windows n ≡ Whole →
    (reading_of (path (carried windows) 0 (take n containers))).lock ≡ locked mfi1 →
    (length (reading_of (path (carried windows) 0 (take n containers))).verdicts ≡ n)
    × (container.h4 % 16 ≡ (mfi1 + 1) % 16)

-- a locked line never meets another MFI1 than the one that is due, wherever the cells of the line are cut
abbrev pub AreExpected : Type 0
AreExpected = (windows : List Window) (containers : List Container) (before after : List Cell) (mfi1 : ℕ)
    (container : Container) →
    IsLine windows containers → path (carried windows) 0 containers ≡ before ++ Good container ∷ after →
    (reading_of before).lock ≡ locked mfi1 → container.h4 % 16 ≡ (mfi1 + 1) % 16

-- a packet is readable exactly where the numbers of its nibbles are good
abbrev pub ArePackets : Type 0
ArePackets = (carries : ℕ → Carried) (k : ℕ) →
    (is_readable carries k ≡ true) ↔ ((t : ℕ) → 16 * k + 8 ≤ t → t < 16 * k + 24 → is_good carries t ≡ true)

-- a packet whose numbers are decided has its nibbles exactly where it is readable, and then those that were sent
abbrev pub AreReadable : Type 0
AreReadable = (windows : List Window) (containers : List Container) (delay i k : ℕ) →
    IsLine windows containers → 16 * k + 23 < length containers →
    ((t : ℕ) → 16 * k + 8 ≤ t → t < 16 * k + 24 → IsSome (verdict (line_cells windows containers delay i) t)) →
    nibbles_of (line_cells windows containers delay i) k
    ≡ (if is_readable (carried windows) k then Some (sent_nibbles containers k) else None)

-- and it is read exactly where it is readable, and what was sent is that of a packet
abbrev pub AreRead : Type 0
AreRead = (windows : List Window) (containers : List Container) (delay i k : ℕ) →
    IsLine windows containers → 16 * k + 23 < length containers →
    IsSome (verdict (line_cells windows containers delay i) (16 * k + 23)) →
    read_packet (line_cells windows containers delay i) k
    ≡ (if is_readable (carried windows) k then result_ok (read_of (sent_nibbles containers k)) else None)
