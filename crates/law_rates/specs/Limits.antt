-- The limits of a rate, each by its word. They are this project's own.
use Rattle.std.specs.Prelude.{ℕ}

-- the sizes that frames have in turn
abbrev pub most_sizes : ℕ
most_sizes = 16

-- the octets of a frame, its check included
abbrev pub shortest_frame : ℕ
shortest_frame = 64

abbrev pub longest_frame : ℕ
longest_frame = 9600

-- megabits a second
abbrev pub most_mbits : ℕ
most_mbits = 400000

-- the ticks before the end
abbrev pub most_ticks : ℕ
most_ticks = 100000000
