-- How the frames are kept: buffers with a frame that waits, and spare ones. They are together as many as may wait, and
-- each has room for any frame.
use Rattle.std.specs.Prelude.{◌≡◌, ℕ, ◌+◌, ◌≤◌, Vec, All, vec_len, vec_capacity}
use Rattle.std.specs.VecDeque.{deque_len, deque_capacity}
use Rattle.std.specs.declared.alloc.Global.{Global}
use Rattle.std.specs.declared.collections.VecDeque.{VecDeque}
use Rattle.law_model.specs.Common.{longest_frame}

-- a buffer that has room for any frame
abbrev pub HasFrameRoom : Vec ℕ Global → Type 0
HasFrameRoom buffer = longest_frame ≤ vec_capacity buffer

-- a buffer that holds a frame
abbrev pub HoldsFrame : Vec ℕ Global → Type 0
HoldsFrame buffer = (vec_len buffer ≤ longest_frame) × HasFrameRoom buffer

-- what is true of the buffers of a store of so many frames
pub record IsStore (most : ℕ) (waiting : VecDeque (Vec ℕ Global) Global) (spare : Vec (Vec ℕ Global) Global) : Type 0 where
  pub count : deque_len waiting + vec_len spare ≡ most
  pub places : most ≤ deque_capacity waiting
  pub spares : most ≤ vec_capacity spare
  pub frames : All HoldsFrame waiting.items
  pub room : All HasFrameRoom spare.items
