-- How the sink numbers the cells of a line, by the multiframe of G.707: what each cell decides. Which number is decided
-- when is this project's own.
use Rattle.std.specs.Prelude.{ℕ, suc, ◌+◌, ◌-◌, ◌*◌, ◌/◌, ◌%◌, ◌==◌, List, [], ◌∷◌, ◌++◌, length, replicate, slice_get}
use Rattle.std.specs.Prelude.{Option, Some, None, if◌then◌else◌}
use Rattle.member_cells.specs.declared.containers_and_cells.Container.{Container}
use Rattle.member_cells.specs.declared.containers_and_cells.Cell.{Cell}
use Rattle.member_cells.specs.declared.containers_and_cells.Cell.TheVariants.{Good, Fail, End}

-- what is known of a line after some cells: it is not locked; nor is it, and the last cell was a good one with MFI1 0
-- and this H4
-- octet; it is locked, and the last cell had this MFI1; it has ended
pub data LineLock : Type 0 where
  unlocked : LineLock
  begun : ℕ → LineLock
  locked : ℕ → LineLock
  over : LineLock

-- what a good cell is: it decides one number as bad; it locks the line, with its number modulo 4096; it has the next
-- number
pub data Sight : Type 0 where
  unknown : Sight
  locks : ℕ → Sight
  at : Sight

abbrev pub sight_of : LineLock → ℕ → Sight
sight_of unlocked h4 = unknown
sight_of (begun octet) h4 = if h4 % 16 == 1 then locks (16 * (16 * (octet / 16) + h4 / 16) + 1) else unknown
sight_of (locked mfi1) h4 = if h4 % 16 == (mfi1 + 1) % 16 then at else unknown
sight_of over h4 = unknown

abbrev pub lock_after : Sight → ℕ → LineLock
lock_after unknown h4 = if h4 % 16 == 0 then begun h4 else unlocked
lock_after (locks number) h4 = locked (h4 % 16)
lock_after at h4 = locked (h4 % 16)

-- how far the least number of at least d that equals r modulo 4096 is from d
abbrev pub ahead : ℕ → ℕ → ℕ
ahead d r = (r + 4096 - d % 4096) % 4096

-- the verdicts by which a good cell goes on: of each number a container, where it is whole, and none, where it is bad
abbrev pub verdicts_by : Sight → ℕ → Container → List (Option Container)
verdicts_by unknown d container = None ∷ []
verdicts_by (locks number) d container = replicate (suc (ahead d number)) None
verdicts_by at d container = Some container ∷ []

-- what the cells of a line have told: of each number that they decide its verdict, by rising numbers
pub record Reading : Type 0 where
  pub lock : LineLock
  pub verdicts : List (Option Container)

abbrev pub read_good : Sight → List (Option Container) → Container → Reading
read_good sight verdicts container = record {
  lock = lock_after sight container.h4;
  verdicts = verdicts ++ verdicts_by sight (length verdicts) container;
}

abbrev pub read_open : LineLock → List (Option Container) → Cell → Reading
read_open lock verdicts (Good container) = read_good (sight_of lock container.h4) verdicts container
read_open lock verdicts Fail = record { lock = unlocked; verdicts = verdicts ++ None ∷ [] }
read_open lock verdicts End = record { lock = over; verdicts = verdicts }

abbrev pub read_at : LineLock → List (Option Container) → Cell → Reading
read_at unlocked verdicts cell = read_open unlocked verdicts cell
read_at (begun octet) verdicts cell = read_open (begun octet) verdicts cell
read_at (locked mfi1) verdicts cell = read_open (locked mfi1) verdicts cell
read_at over verdicts cell = record { lock = over; verdicts = verdicts }

unfoldable pub read_on : Reading → List Cell → Reading
read_on reading [] = reading
read_on reading (cell ∷ cells) = read_on (read_at reading.lock reading.verdicts cell) cells

abbrev pub reading_of : List Cell → Reading
reading_of cells = read_on (record { lock = unlocked; verdicts = [] }) cells

-- End decides all further numbers as bad
abbrev pub verdict_over : LineLock → Option (Option Container)
verdict_over unlocked = None
verdict_over (begun octet) = None
verdict_over (locked mfi1) = None
verdict_over over = Some None

abbrev pub verdict_or : Option (Option Container) → Option (Option Container) → Option (Option Container)
verdict_or (Some verdict) other = Some verdict
verdict_or None other = other

-- the verdict of number t, where it is decided
abbrev pub verdict_in : Reading → ℕ → Option (Option Container)
verdict_in reading t = verdict_or (slice_get reading.verdicts t) (verdict_over reading.lock)

abbrev pub verdict : List Cell → ℕ → Option (Option Container)
verdict cells t = verdict_in (reading_of cells) t
