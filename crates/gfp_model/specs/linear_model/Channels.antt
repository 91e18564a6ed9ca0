-- The queues of channels that share a stream, and whose turn it is. That turns go round, and how many frames of a
-- channel may wait, is this project's own.
use Rattle.std.specs.Prelude.{ℕ, zero, suc, ◌+◌, nat_le, nat_lt, ◌||◌, if◌then◌else◌, List, [], ◌∷◌, ◌++◌, length}
use Rattle.std.specs.Prelude.{take, drop, replicate, slice_index_or, Option, Some, None}
use Rattle.law_model.specs.Common.{shortest_frame, longest_frame}
use Rattle.gfp_model.specs.declared.linear_model.ChannelFault.{ChannelFault}
use Rattle.gfp_model.specs.declared.linear_model.ChannelFault.TheVariants.{Unknown, Length, QueueFull}

-- how many frames of a channel may wait
abbrev pub most_of_channel : ℕ
most_of_channel = 16

-- the frames that wait, of each channel oldest first, by the number of the channel; and the channel from which the
-- next turn is looked for
pub record Channels : Type 0 where
  pub waiting : List (List (List ℕ))
  pub next : ℕ

-- a number of channels of which none has a frame
abbrev pub silent : ℕ → Channels
silent channels = record { waiting = replicate channels []; next = 0 }

-- the frames that wait of a channel
abbrev pub waiting_of : ℕ → Channels → List (List ℕ)
waiting_of cid channels = slice_index_or channels.waiting cid []

-- ---- turns
-- the first channel with a frame, where the first of the list has a number
unfoldable pub first_busy : ℕ → List (List (List ℕ)) → Option ℕ
first_busy cid [] = None
first_busy cid ([] ∷ queues) = first_busy (cid + 1) queues
first_busy cid ((frame ∷ frames) ∷ queues) = Some cid

abbrev pub or_else : Option ℕ → Option ℕ → Option ℕ
or_else None other = other
or_else (Some cid) other = Some cid

-- the first channel with a frame, counted round from the one from which the turn is looked for
abbrev pub turn : Channels → Option ℕ
turn channels =
    or_else (first_busy channels.next (drop channels.next channels.waiting))
    (first_busy 0 (take channels.next channels.waiting))

-- ---- what is done to one queue
-- the queue of a channel is another one, and those of all others stay
unfoldable pub with_queue : ℕ → List (List ℕ) → List (List (List ℕ)) → List (List (List ℕ))
with_queue cid queue [] = []
with_queue zero queue (other ∷ queues) = queue ∷ queues
with_queue (suc cid) queue (other ∷ queues) = other ∷ with_queue cid queue queues

-- the oldest frame of a channel that has one, and the channels without it, of which the one behind it comes next
abbrev pub oldest : ℕ → Channels → List ℕ
oldest cid channels = slice_index_or (waiting_of cid channels) 0 []

abbrev pub served : ℕ → Channels → Channels
served cid channels =
    record { waiting = with_queue cid (drop 1 (waiting_of cid channels)) channels.waiting; next = cid + 1 }

-- ---- a frame is offered
-- why it is refused: there is no such channel; or else its length is outside 64 to 9,600 octets; or else 16 frames of
-- this channel wait
abbrev pub channel_refusal : ℕ → List ℕ → Channels → Option ChannelFault
channel_refusal cid frame channels =
    if nat_le (length channels.waiting) cid then Some (Unknown (length channels.waiting))
    else if nat_lt (length frame) shortest_frame || nat_lt longest_frame (length frame) then
    Some (Length (length frame))
    else if nat_le most_of_channel (length (waiting_of cid channels)) then Some (QueueFull most_of_channel)
    else None

-- it waits behind the others of its channel
abbrev pub with_frame : ℕ → List ℕ → Channels → Channels
with_frame cid frame channels = record {
  waiting = with_queue cid (waiting_of cid channels ++ frame ∷ []) channels.waiting;
  next = channels.next;
}

abbrev pub pushed_by : Option ChannelFault → ℕ → List ℕ → Channels → Channels
pushed_by (Some refusal) cid frame channels = channels
pushed_by None cid frame channels = with_frame cid frame channels

abbrev pub pushed : ℕ → List ℕ → Channels → Channels
pushed cid frame channels = pushed_by (channel_refusal cid frame channels) cid frame channels
