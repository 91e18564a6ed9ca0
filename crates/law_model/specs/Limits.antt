-- The limits of scripts and sessions, each by its word. They are this project's own, apart from the sizes of a
-- container. The code has them in `src/limits.rt`. The ticks of a session, the megabits a second of a stream and the
-- octets of a frame that is accepted, from its destination address to its FCS, are the limits of a rate.
use Rattle.std.specs.Prelude.{ℕ, ◌+◌, ◌*◌}
pub use Rattle.law_rates.specs.Limits.{most_mbits, most_ticks, shortest_frame, longest_frame}

-- ---- scripts
-- the lines of a group
abbrev pub most_lines : ℕ
most_lines = 128

-- the ticks of a load that is drawn
abbrev pub most_drawn_ticks : ℕ
most_drawn_ticks = 1000000

-- the number of an event line
abbrev pub most_count : ℕ
most_count = 1000000

-- the delay of a line in ticks, and how many containers vanish where a failure ends
abbrev pub longest_delay : ℕ
longest_delay = 2047

abbrev pub longest_slip : ℕ
longest_slip = 2047

-- the cells of a receive ring, and the packets of a lag
abbrev pub largest_ring : ℕ
largest_ring = 2048

abbrev pub longest_lag : ℕ
longest_lag = 512

-- the failures of a line, and the losses of the return path
abbrev pub most_windows : ℕ
most_windows = 256

-- the packets of a session, and so the end of a loss
abbrev pub most_packets : ℕ
most_packets = 6250000

-- the timers of a member, in packets
abbrev pub longest_holdoff : ℕ
longest_holdoff = 5000

abbrev pub longest_restore : ℕ
longest_restore = 62500

-- the octets of a frame that is offered, and may be refused
abbrev pub longest_offer : ℕ
longest_offer = 65535

-- the octets of an input
abbrev pub longest_input : ℕ
longest_input = 67108864

-- the items of a script, the frames of its traffic counted
abbrev pub most_items : ℕ
most_items = 268435456

-- ---- frames and commands
-- the octets of the longest area of a client frame that has a payload FCS or a linear extension header: a type header
-- of four octets and four octets more
abbrev pub longest_extended_area : ℕ
longest_extended_area = longest_frame + 8

-- how many accepted frames may wait
abbrev pub most_waiting : ℕ
most_waiting = 256

-- how many accepted commands may wait
abbrev pub most_pending : ℕ
most_pending = 64

-- the octets of payload that a container has in a frame
abbrev pub vc3_size : ℕ
vc3_size = 756

abbrev pub vc4_size : ℕ
vc4_size = 2340

-- the octets of the line that tells a delivered frame: a word, a space, two digits for each octet, and the end of the
-- line
abbrev pub longest_got_line : ℕ
longest_got_line = 2 * longest_frame + 5
