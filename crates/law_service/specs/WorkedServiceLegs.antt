-- Worked legs of the service that a client gets.
use Rattle.std.specs.Prelude.{ℕ, List, [], ◌∷◌, map, replicate}
use Rattle.law_model.specs.Common.{Leg, scenario_by}
use Rattle.law_model.specs.declared.script_types.Item.{Item}
use Rattle.law_model.specs.declared.script_types.ItemKind.TheVariants.{Frame, Add}
use Rattle.law_walk.specs.Common.{place_after, session_of, item, plain}
use Rattle.law_service.specs.Bucket.{Bucket, stream_at}
use Rattle.law_service.specs.FrameEnds.{filled, Placed, placed_frames}

-- one line, in use from frame 40 on; frames of 64 to 66 octets and a short one that is refused wait for that, a
-- frame comes just before frame 40 is made, and one just behind it
abbrev pub queued_items : List Item
queued_items =
    item 0 (Add 0) ∷ item 0 (Frame (replicate 64 1)) ∷ item 0 (Frame (replicate 65 2))
    ∷ item 0 (Frame (replicate 63 3)) ∷ item 0 (Frame (replicate 66 4)) ∷ item 40 (Frame (replicate 64 5))
    ∷ item 41 (Frame (replicate 70 6)) ∷ []

-- in 42 ticks, with a lag of one packet
abbrev pub queued_leg : Leg
queued_leg = record { config = plain ([] ∷ []) 1 1 42; items = queued_items; tells = [] }

-- when each frame landed, and where it ends
abbrev pub told_ends : Leg → List (ℕ × ℕ)
told_ends leg = map (λ (placed : Placed). (placed.due, placed.to)) (placed_frames leg)

-- a bucket that suits one container of 756 octets in each frame
abbrev pub full_bucket : Bucket
full_bucket = record { burst = 1504; rate = 756; shortest = 744 }

-- one line, in use from frame 40 on; two frames come just before it is made that fill a burst, and one with the next
-- tick that is just the rate
abbrev pub full_items : List Item
full_items =
    item 0 (Add 0) ∷ item 40 (Frame (replicate 744 1)) ∷ item 40 (Frame (replicate 744 2))
    ∷ item 41 (Frame (replicate 748 3)) ∷ []

-- in 43 ticks, with a lag of one packet
abbrev pub full_leg : Leg
full_leg = record { config = plain ([] ∷ []) 1 1 43; items = full_items; tells = [] }

-- the place at which frames begin, and how far the stream is filled then
abbrev pub fills : Leg → List ℕ → List (ℕ × ℕ)
fills leg ticks = map (λ t. (place_after leg t, filled (stream_at (scenario_by leg) (session_of leg) t))) ticks
