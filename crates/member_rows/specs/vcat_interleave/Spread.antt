-- What spreading a row over the members of a group leaves.
use Rattle.std.specs.Prelude.{◌≡◌, ◌≢◌, ℕ, ◌<◌, ◌≤◌, List, length, slice_index, slice_index_or}
use Rattle.law_model.specs.Common.{Container, part_of}
use Rattle.member_rows.specs.vcat_interleave.MemberPayloads.{with_octets}

-- a row is spread over the members of the ranks from one on and below another: each of them has its part at these
-- places, and nothing
-- else has changed
pub record SpreadsOver (from upto place places : ℕ) (row active : List ℕ) (before after : List Container) : Type 0 where
  pub members : (rank : ℕ) (d : Container) → from ≤ rank → rank < upto →
      slice_index_or after (slice_index active rank) d
      ≡ with_octets place (part_of rank (length active) places row) (slice_index_or before (slice_index active rank) d)
  pub others : (line : ℕ) (d : Container) → ((rank : ℕ) → from ≤ rank → rank < upto → slice_index active rank ≢ line) →
      slice_index_or after line d ≡ slice_index_or before line d
  pub lines : length after ≡ length before

-- over all members
abbrev pub Spreads : ℕ → ℕ → List ℕ → List ℕ → List Container → List Container → Type 0
Spreads place places row active before after = SpreadsOver 0 (length active) place places row active before after

-- no line is in it twice
abbrev pub AreDistinct : List ℕ → Type 0
AreDistinct active = (rank other : ℕ) → rank < other → other < length active →
    slice_index active rank ≢ slice_index active other
