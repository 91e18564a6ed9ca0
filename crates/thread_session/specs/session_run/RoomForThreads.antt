-- Room that is taken before threads are started.
use Rattle.std.specs.Prelude.{◌≡◌, ℕ, ◌<◌, ◌≤◌, [], vec_len, vec_capacity}
use Rattle.thread_session.specs.session_parts.ServedLines.{HaveRoom}
use Rattle.thread_session.specs.declared.session_run.room_and_flags.Room.{Room}
use Rattle.thread_session.specs.declared.session_run.room_and_flags.Places.{Places}
use Rattle.thread_session.specs.declared.session_run.room_and_flags.Kit.{Kit}

-- room for so many lines, in so many shares
pub record HasRoomFor (lines workers : ℕ) (room : Room) : Type 0 where
  pub some : 0 < workers
  pub count : vec_len room.shares ≡ workers
  pub shares : HaveRoom lines room.shares.items
  pub held : (room.held.items ≡ []) × (workers ≤ vec_capacity room.held)
  pub back : (room.back.items ≡ []) × (workers ≤ vec_capacity room.back)
  pub place : (room.lines.items ≡ []) × (lines ≤ vec_capacity room.lines)

-- places for so many lines, their workers and their posts
pub record HasPlacesFor (lines : ℕ) (places : Places) : Type 0 where
  pub lines_place : (places.lines.items ≡ []) × (lines ≤ vec_capacity places.lines)
  pub workers : (places.workers.items ≡ []) × (lines ≤ vec_capacity places.workers)
  pub posts : (places.posts.items ≡ []) × (lines ≤ vec_capacity places.posts)

-- both, in as many shares as there are flags
pub record IsKitFor (lines : ℕ) (kit : Kit) : Type 0 where
  pub room : HasRoomFor lines (vec_len kit.flags.lines) kit.room
  pub places : HasPlacesFor lines kit.places
