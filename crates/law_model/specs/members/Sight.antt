-- What each cell of a line is to the lock on the multiframe (G.707), computed over the whole list of their H4 octets.
-- An entry is the H4 octet of a good cell, or none for a cell that is not good. The lock is this project's own.
use Rattle.std.specs.Prelude.{ℕ, List, [], ◌∷◌, Option, Some, None}
use Rattle.law_model.specs.members.CellVerdicts.{LineLock, unlocked, Sight, unknown, sight_of, lock_after}

-- what a cell is
abbrev pub sight_by : LineLock → Option ℕ → Sight
sight_by lock None = unknown
sight_by lock (Some h4) = sight_of lock h4

-- what is known of the line after it
abbrev pub lock_by : LineLock → Option ℕ → LineLock
lock_by lock None = unlocked
lock_by lock (Some h4) = lock_after (sight_of lock h4) h4

-- what cells are that come after others
unfoldable pub sights_on : LineLock → List (Option ℕ) → List Sight
sights_on lock [] = []
sights_on lock (sign ∷ signs) = sight_by lock sign ∷ sights_on (lock_by lock sign) signs

-- what the cells of a line are
abbrev pub sights : List (Option ℕ) → List Sight
sights signs = sights_on unlocked signs
