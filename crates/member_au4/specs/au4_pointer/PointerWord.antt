-- G.707, AU-4 pointers: the words of pointers.
use Rattle.std.specs.Prelude.{ℕ, ◌+◌, ◌-◌, ◌/◌, ◌%◌, ◌==◌, nat_le, if◌then◌else◌, bit_xor, List, [], ◌∷◌, Option, Some}
use Rattle.std.specs.Prelude.{None, Result, Ok, Err}
use Rattle.std.specs.List.{fold}
use Rattle.member_au4.specs.declared.au4_pointer.au_frame.Action.{Action}
use Rattle.member_au4.specs.declared.au4_pointer.au_frame.Action.TheVariants.{Keep, Up, Down, New}
use Rattle.member_au4.specs.declared.au4_pointer.pointer_source.PointerFault.{PointerFault}
use Rattle.member_au4.specs.declared.au4_pointer.pointer_source.PointerFault.TheVariants.{Range, TooSoon}
use Rattle.member_au4.specs.declared.au4_pointer.pointer_sink.PointerWordFault.{PointerWordFault}
use Rattle.member_au4.specs.declared.au4_pointer.pointer_sink.PointerWordFault.TheVariants.{Flag, Range as OutOfRange, Unexpected}

-- ---- what is sent
-- the value behind a frame, from the one of the frame
abbrev pub next_value : ℕ → Action → ℕ
next_value value Keep = value
next_value value Up = (value + 1) % 783
next_value value Down = (value + 782) % 783
next_value value (New p) = p

-- the word of a frame: 0110 10 and the value, with its I bits or its D bits inverted; or 1001 10 and the new value
abbrev pub word_of : ℕ → Action → ℕ
word_of value Keep = 0x6800 + value
word_of value Up = 0x6800 + bit_xor value 0x2aa
word_of value Down = 0x6800 + bit_xor value 0x155
word_of value (New p) = 0x9800 + p

-- the value behind frames
abbrev pub value_after : ℕ → List Action → ℕ
value_after start actions = fold next_value start actions

-- ---- what is refused
-- the frames still to wait behind a frame, from those before it: three behind one that isn't Keep
abbrev pub next_wait : ℕ → Action → ℕ
next_wait wait Keep = wait - 1
next_wait wait Up = 3
next_wait wait Down = 3
next_wait wait (New p) = 3

-- the frames to wait before a New
abbrev pub new_wait : List Action → ℕ
new_wait actions = fold next_wait 0 actions

-- the frames to wait before an Up or a Down, which is never the first frame
abbrev pub move_wait : List Action → ℕ
move_wait [] = 1
move_wait (a ∷ more) = new_wait (a ∷ more)

-- the cause where so many frames are still to wait
abbrev pub too_soon : ℕ → Option PointerFault
too_soon left = if nat_le left 0 then None else Some (TooSoon left)

-- why an action is refused behind others
abbrev pub fault_after : List Action → Action → Option PointerFault
fault_after actions Keep = None
fault_after actions Up = too_soon (move_wait actions)
fault_after actions Down = too_soon (move_wait actions)
fault_after actions (New p) = if nat_le p 782 then too_soon (new_wait actions) else Some (Range p)

-- ---- what is read: each word by itself and exactly, which is this project's own
-- a word at which a part begins
abbrev pub beginning : ℕ → Result Action PointerWordFault
beginning word = if nat_le (word % 1024) 782 then Ok (New (word % 1024)) else Err (OutOfRange (word % 1024))

-- a word within a part
abbrev pub moving : ℕ → ℕ → Result Action PointerWordFault
moving value word =
    if word % 1024 == value then Ok Keep
    else (if word % 1024 == bit_xor value 0x2aa then Ok Up
    else (if word % 1024 == bit_xor value 0x155 then Ok Down else Err (Unexpected (word % 1024))))

-- a word with its flag, behind a frame with this next value or behind none. The flag is the upper four bits, the value
-- the lower ten
abbrev pub reading : Option ℕ → ℕ → Result Action PointerWordFault
reading None word =
    if word / 4096 == 6 then beginning word
    else (if word / 4096 == 9 then beginning word else Err (Flag (word / 4096)))
reading (Some value) word =
    if word / 4096 == 6 then moving value word
    else (if word / 4096 == 9 then beginning word else Err (Flag (word / 4096)))
