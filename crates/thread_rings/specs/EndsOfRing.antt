-- What is known of the ends of a ring.
use Rattle.std.specs.Prelude.{◌≡◌, ℕ, List, [], length}
use Rattle.std.specs.Global.{Global}
use denote.RawPtr.{Ptr}
use Rattle.rtrb.specs.Shared.{Names}
use Rattle.rtrb.specs.declared.producer.Producer.{Producer}
use Rattle.rtrb.specs.declared.consumer.Consumer.{Consumer}
use Rattle.rtrb.specs.Ring.{sent, received, known_items, producer_capacity, IsPair}

-- which ring an end of rtrb is of
pub record Strand : Type 0 where
  pub words : Ptr
  pub slots : Ptr
  pub names : Names
  pub heap : Global

module _ {X P : Type 0} where
  abbrev pub strand_out : Producer X Global P → Strand
  strand_out p = record { words = p.end.words; slots = p.end.slots; names = p.end.names; heap = p.end.heap }

  abbrev pub strand_in : Consumer X Global P → Strand
  strand_in c = record { words = c.end.words; slots = c.end.slots; names = c.end.names; heap = c.end.heap }

-- the end that pushes: what was pushed, oldest first; how many slots are known to be free, with a place to come back
-- for each; how many slots there are; how many looks found none; what lies in its hand; and which ring it is of, by the
-- way of the items and by the way of the places that come back
pub record OutEnd (T : Type 0) : Type 0 where
  pub passed : List T
  pub free : ℕ
  pub size : ℕ
  pub misses : ℕ
  pub hand : T
  pub forth : Strand
  pub back : Strand

-- the end that pops: what was popped, oldest first; the items that are known to be there, with room for their places
pub record InEnd (T : Type 0) : Type 0 where
  pub passed : List T
  pub items : List T
  pub size : ℕ
  pub misses : ℕ
  pub hand : T
  pub forth : Strand
  pub back : Strand

module _ {T : Type 0} where
  -- what was pushed, oldest first
  abbrev pub out_passed : OutEnd T → List T
  out_passed out = out.passed

  -- how many slots are known to be free
  abbrev pub out_free : OutEnd T → ℕ
  out_free out = out.free

  -- how many slots the ring has
  abbrev pub out_size : OutEnd T → ℕ
  out_size out = out.size

  -- how many looks found no slot; the count stops at 2^64 - 1
  abbrev pub out_misses : OutEnd T → ℕ
  out_misses out = out.misses

  -- what lies in the hand of the end, to be pushed next
  abbrev pub out_hand : OutEnd T → T
  out_hand out = out.hand

  -- what was popped, oldest first
  abbrev pub in_passed : InEnd T → List T
  in_passed into = into.passed

  -- the items that are known to be there: the next pops give them
  abbrev pub in_items : InEnd T → List T
  in_items into = into.items

  -- how many slots the ring has
  abbrev pub in_size : InEnd T → ℕ
  in_size into = into.size

  -- how many looks found no item; the count stops at 2^64 - 1
  abbrev pub in_misses : InEnd T → ℕ
  in_misses into = into.misses

  -- what lies in the hand of the end, which was popped last
  abbrev pub in_hand : InEnd T → T
  in_hand into = into.hand

  -- both are ends of one ring
  abbrev pub AreEnds : OutEnd T → InEnd T → Type 0
  AreEnds out into = (into.forth ≡ out.forth) × (into.back ≡ out.back)

  -- the same end of the same ring, at another moment
  abbrev pub SameOut : OutEnd T → OutEnd T → Type 0
  SameOut a b = (b.forth ≡ a.forth) × (b.back ≡ a.back) × (b.size ≡ a.size)

  abbrev pub SameIn : InEnd T → InEnd T → Type 0
  SameIn a b = (b.forth ≡ a.forth) × (b.back ≡ a.back) × (b.size ≡ a.size)

  -- the two ends of a ring of so many slots through which nothing has passed
  pub record AreFresh (out : OutEnd T) (into : InEnd T) (size : ℕ) : Type 0 where
    pub ends : AreEnds out into
    pub pushed : out_passed out ≡ []
    pub popped : in_passed into ≡ []
    pub free : out_free out ≡ size
    pub items : in_items into ≡ []
    pub out_slots : out_size out ≡ size
    pub in_slots : in_size into ≡ size
    pub out_quiet : out_misses out ≡ 0
    pub in_quiet : in_misses into ≡ 0

-- the two ends of the way back of a ring of so many slots, with a place for each slot
pub record AreSpare {X P : Type 0} (returns : Producer X Global P) (spares : Consumer X Global P) (size : ℕ) :
    Type 0 where
  pub ends : IsPair returns spares
  pub given : length (sent returns) ≡ size
  pub taken : received spares ≡ []
  pub known : length (known_items spares) ≡ size
  pub slots : producer_capacity returns ≡ size
