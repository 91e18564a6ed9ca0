-- Which packets of a line count: what it said last, and whether it is up, by which of its packets were read. A test says
-- of a number whether that packet was read. A line that is up and isn't read for a while stays up for the hold-off, and
-- one that is down is up again once it was read for the wait to restore, for which packets before packet 0 count as
-- read. Both timers are those of equipment, and that they count packets is this project's own.
use Rattle.std.specs.Prelude.{◌≡◌, ℕ, zero, suc, ◌+◌, ◌-◌, ◌<◌, ◌≤◌, nat_le, ◌&&◌, ◌||◌, not, Bool, true}
use Rattle.std.specs.Prelude.{if◌then◌else◌, Option, Some, None}
use Rattle.std.specs.List.{list_all, range_with_len}
use Rattle.law_model.specs.declared.script_types.Options.{Options}

-- the greatest number up to k that was read
unfoldable pub last_read : (ℕ → Bool) → ℕ → Option ℕ
last_read read zero = if read zero then Some zero else None
last_read read (suc k) = if read (suc k) then Some (suc k) else last_read read k

-- a line is up at k since r: the packets from r - restore to r were read, and behind r up to k no holdoff + 1 in turn
-- weren't
pub record IsUpSince (options : Options) (read : ℕ → Bool) (k r : ℕ) : Type 0 where
  pub past : r ≤ k
  pub restored : (j : ℕ) → r ≤ j + options.restore → j ≤ r → read j ≡ true
  pub held : (j : ℕ) → r < j → j + options.holdoff ≤ k →
      (i : ℕ) × (j ≤ i) × (i ≤ j + options.holdoff) × (read i ≡ true)

abbrev pub IsUp : Options → (ℕ → Bool) → ℕ → Type 0
IsUp options read k = (r : ℕ) × IsUpSince options read k r

-- ---- the same as a test
-- the packets from k - restore to k were read
abbrev pub is_restored : ℕ → (ℕ → Bool) → ℕ → Bool
is_restored restore read k = list_all read (range_with_len (k - restore) (k + 1 - (k - restore)))

-- the packets from k - holdoff to k weren't
abbrev pub are_missed : ℕ → (ℕ → Bool) → ℕ → Bool
are_missed holdoff read k =
    nat_le holdoff k && list_all (λ j. not (read j)) (range_with_len (k - holdoff) (holdoff + 1))

unfoldable pub is_up : Options → (ℕ → Bool) → ℕ → Bool
is_up options read zero = read zero
is_up options read (suc k) =
    is_restored options.restore read (suc k) || (not (are_missed options.holdoff read (suc k)) && is_up options read k)
