-- What a queue of channels holds, and how it keeps it.
use Rattle.std.specs.Prelude.{◌≡◌, ℕ, ◌+◌, ◌<◌, ◌≤◌, List, [], ◌∷◌, nat_le, Vec, All, length, Option, Some, None}
use Rattle.std.specs.Prelude.{if◌then◌else◌, ⊤, vec_capacity}
use Rattle.std.specs.declared.alloc.Global.{Global}
use Rattle.gfp_model.specs.linear_model.Channels.{Channels, or_else}

-- the frames that wait, and the octets of the frame that is being sent which aren't written yet
pub record Queued : Type 0 where
  pub channels : Channels
  pub begun : List ℕ

-- these frames wait, and none is being sent
abbrev pub unbegun : Channels → Queued
unbegun channels = record { channels = channels; begun = [] }

-- ---- the channels with a frame
-- their numbers, by rising number, where the first queue has a number
unfoldable pub busy_from : ℕ → List (List (List ℕ)) → List ℕ
busy_from cid [] = []
busy_from cid ([] ∷ queues) = busy_from (cid + 1) queues
busy_from cid ((frame ∷ frames) ∷ queues) = cid ∷ busy_from (cid + 1) queues

-- the first of numbers that isn't below another one, and the first of all
unfoldable pub first_from : ℕ → List ℕ → Option ℕ
first_from least [] = None
first_from least (cid ∷ cids) = if nat_le least cid then Some cid else first_from least cids

abbrev pub first_of : List ℕ → Option ℕ
first_of [] = None
first_of (cid ∷ cids) = Some cid

-- the one whose turn it is
abbrev pub turn_among : ℕ → List ℕ → Option ℕ
turn_among next busy = or_else (first_from next busy) (first_of busy)

-- what is true of a queue
pub record IsKept (queues : List (List (List ℕ))) (busy : Vec ℕ Global) (next : ℕ) : Type 0 where
  pub some : 1 ≤ length queues
  pub most : length queues ≤ 256
  pub numbers : busy.items ≡ busy_from 0 queues
  pub places : length queues ≤ vec_capacity busy
  pub round : next ≤ length queues

-- each number is above those before it
unfoldable pub IsRising : List ℕ → Type 0
IsRising [] = ⊤
IsRising (cid ∷ cids) = All (λ other. cid < other) cids × IsRising cids
