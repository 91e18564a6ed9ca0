-- The script of a load, drawn from a number.
use Rattle.std.specs.Prelude.{ℕ, zero, suc, ◌+◌, ◌/◌, List, [], ◌∷◌, ◌++◌, map, replicate}
use Rattle.std.specs.List.{range_with_len}
use Rattle.law_model.specs.Common.{vc4_size, default_options}
use Rattle.law_model.specs.declared.script_types.Config.{Config}
use Rattle.law_model.specs.declared.script_types.Item.{Item}
use Rattle.law_model.specs.declared.script_types.Script.{Script}
use Rattle.law_model.specs.declared.script_types.ItemKind.TheVariants.{Frame, Add}
use Rattle.law_rates.specs.Draws.{next, drawn, draws, after_draws}

-- ---- a frame
-- its length is drawn first, and then its octets
abbrev pub length_of : ℕ → ℕ
length_of state = 64 + drawn (next state) 1455

abbrev pub frame_of : ℕ → List ℕ
frame_of state = draws (length_of state) 256 (next state)

abbrev pub after_frame : ℕ → ℕ
after_frame state = after_draws (length_of state) (next state)

-- ---- items
abbrev pub addition : ℕ → Item
addition line = record { due = 0; kind = Add line }

-- each line is added at once
abbrev pub additions : ℕ → List Item
additions lines = map addition (range_with_len 0 lines)

-- a number of frames, each due eight ticks after the one before it
unfoldable pub frames : ℕ → ℕ → ℕ → List Item
frames zero due state = []
frames (suc count) due state = record { due = due; kind = Frame (frame_of state) } ∷ frames count (due + 8)
    (after_frame state)

-- how many there are: one for each eight ticks that are begun
abbrev pub frame_count : ℕ → ℕ
frame_count ticks = (ticks + 7) / 8

-- ---- the script
-- the delay of each line is drawn, then the frames
abbrev pub config_of : ℕ → ℕ → ℕ → Config
config_of number lines ticks = record {
  lines = lines;
  delays = draws lines 41 number;
  windows = replicate lines [];
  lost = [];
  ring = 64;
  lag = 4;
  ticks = ticks;
  size = vc4_size;
  options = default_options;
}

abbrev pub load : ℕ → ℕ → ℕ → Script
load number lines ticks = record {
  config = config_of number lines ticks;
  items = additions lines ++ frames (frame_count ticks) 0 (after_draws lines number);
  events = [];
}
