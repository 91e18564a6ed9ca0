-- The frames of a client that sends at a rate, of some sizes in turn. A tick of 125 microseconds carries 125 bits for
-- each megabit a second.
use Rattle.std.specs.Prelude.{ℕ, zero, suc, ◌+◌, ◌-◌, ◌*◌, ◌/◌, ◌%◌, ◌<◌, ◌≤◌, nat_le, List, [], ◌∷◌, ◌++◌, length, map}
use Rattle.std.specs.Prelude.{All, slice_index_or, if◌then◌else◌}
use Rattle.std.specs.List.{range_with_len}
use Rattle.check_crc32.specs.Crc32.{least_first, fcs_in}
use Rattle.law_rates.specs.Draws.{draws, after_draws}
use Rattle.law_rates.specs.Limits.{most_sizes, shortest_frame, longest_frame, most_mbits, most_ticks}
use Rattle.law_rates.specs.declared.rate_frames.Rate.{Rate}

pub record IsRate (rate : Rate) : Type 0 where
  pub some : 1 ≤ length rate.sizes
  pub few : length rate.sizes ≤ most_sizes
  pub sizes : All (λ size. (shortest_frame ≤ size) × (size ≤ longest_frame)) rate.sizes
  pub moves : 1 ≤ rate.mbits
  pub slow : rate.mbits ≤ most_mbits
  pub before : rate.first < rate.end
  pub end : rate.end ≤ most_ticks

-- ---- a frame
-- the octets that each begins with: two addresses and a type
abbrev pub head : List ℕ
head = 0x02 ∷ 0x00 ∷ 0x00 ∷ 0x00 ∷ 0x00 ∷ 0x02 ∷ 0x02 ∷ 0x00 ∷ 0x00 ∷ 0x00 ∷ 0x00 ∷ 0x01 ∷ 0x88 ∷ 0xb5 ∷ []

-- one of so many octets, from a state of draws: its head, its draws, and the check of Ethernet over these
abbrev pub content_of : ℕ → ℕ → List ℕ
content_of octets state = head ++ draws (octets - 18) 256 state

abbrev pub frame_of : ℕ → ℕ → List ℕ
frame_of octets state = content_of octets state ++ fcs_in least_first (content_of octets state)

-- ---- sizes in turn, by the numbers of frames from 0
abbrev pub size_at : List ℕ → ℕ → ℕ
size_at sizes k = slice_index_or sizes (k % length sizes) 0

-- the octets of the frames before frame k
unfoldable pub octets_before : List ℕ → ℕ → ℕ
octets_before sizes zero = 0
octets_before sizes (suc k) = octets_before sizes k + size_at sizes k

-- ---- frames
abbrev pub due_of : Rate → ℕ → ℕ
due_of rate k = rate.first + 8 * octets_before rate.sizes k / (125 * rate.mbits)

-- the draws run on from frame to frame; 18 octets of each aren't drawn
abbrev pub state_of : Rate → ℕ → ℕ
state_of rate k = after_draws (octets_before rate.sizes k - 18 * k) rate.number

pub record RateFrame : Type 0 where
  pub due : ℕ
  pub octets : List ℕ

abbrev pub frame_at : Rate → ℕ → RateFrame
frame_at rate k = record { due = due_of rate k; octets = frame_of (size_at rate.sizes k) (state_of rate k) }

-- ---- how many are due before the end
-- the most octets that may be before one of them
abbrev pub last_octets : Rate → ℕ
last_octets rate = ((rate.end - rate.first) * (125 * rate.mbits) - 1) / 8

-- of the first frames of a turn, how many have no more octets before them than these
unfoldable pub begun_within : List ℕ → ℕ → ℕ → ℕ
begun_within sizes octets zero = 0
begun_within sizes octets (suc k) =
    begun_within sizes octets k + (if nat_le (octets_before sizes k) octets then 1 else 0)

-- those of the whole turns, and of the turn after them
abbrev pub count_of : Rate → ℕ
count_of rate =
    let turn = octets_before rate.sizes (length rate.sizes) in
    length rate.sizes * (last_octets rate / turn)
    + begun_within rate.sizes (last_octets rate % turn) (length rate.sizes)

-- the first frames, and all
abbrev pub first_frames : Rate → ℕ → List RateFrame
first_frames rate k = map (frame_at rate) (range_with_len 0 k)

unfoldable pub frames : Rate → List RateFrame
frames rate = first_frames rate (count_of rate)
