-- Live texts of both ways, worked by hand: their first faults, and the two scripts that say the same as one of them.
use Rattle.std.specs.Prelude.{ℕ, List, [], ◌∷◌, ◌++◌, codes, decimal, Option, Some, None, Result, Ok, Err}
use Rattle.text_lines.specs.Language.{said_from}
use Rattle.text_lines.specs.declared.text_faults.FieldFault.TheVariants as field
use Rattle.law_model.specs.Common.{vc4_size, default_options}
use Rattle.law_model.specs.declared.script_types.Config.{Config}
use Rattle.law_model.specs.declared.window_types.Window.{Window}
use Rattle.law_model.specs.declared.script_types.ItemKind.TheVariants.{Add, Frame}
use Rattle.text_scripts.specs.declared.script_read.script_fault.LineFault.TheVariants.{Missing}
use Rattle.text_scripts.specs.declared.script_read.script_fault.ScriptFault.TheVariants as script
use Rattle.text_scripts.specs.declared.script_read.script_keyword.Keyword.TheVariants.{Delays}
use Rattle.law_pair.specs.declared.pair_events.Way.TheVariants.{There, Back}
use Rattle.text_live.specs.declared.live_keyword.EarlierPart.TheVariants.{Configuration, Windows}
use Rattle.text_live.specs.declared.live_keyword.LiveKeyword.TheVariants as word
use Rattle.text_live.specs.declared.live_fault.LiveLineFault.TheVariants as live_wrong
use Rattle.text_pairs.specs.declared.script_pair.ScriptPair.{ScriptPair}
use Rattle.text_pairs.specs.declared.script_pair.PairFault.TheVariants as pair_fault
use Rattle.pair_live.specs.declared.live_pair_fault.PairLineFault.TheVariants as line_wrong
use Rattle.pair_live.specs.PairLines.{PairSaid, PairWrong, of_script, of_limits, undivided, of_live}
use Rattle.pair_live.specs.PairLines.{pair_lines, nothing_said}

-- ---- texts
-- the configuration of one line of this delay, with a ring for one tick, this lag and so many ticks
abbrev pub one_line : ℕ → ℕ → ℕ → List (List ℕ)
one_line delay lag ticks =
    codes "lines 1" ∷ (codes "delays " ++ decimal delay) ∷ codes "ring 1" ∷ (codes "lag " ++ decimal lag)
    ∷ (codes "ticks " ++ decimal ticks) ∷ []

-- two of them, and more lines
abbrev pub both_then : ℕ → List (List ℕ) → List (List ℕ)
both_then ticks more = one_line 0 1 ticks ++ codes "other" ∷ (one_line 0 1 ticks ++ more)

-- ---- the first fault of lines, and the number of its line
abbrev pub fault_of : Result PairSaid (ℕ × PairWrong) → Option (ℕ × PairWrong)
fault_of (Ok s) = None
fault_of (Err at) = Some at

abbrev pub fault_in : List (List ℕ) → Option (ℕ × PairWrong)
fault_in ls = fault_of (said_from pair_lines 1 nothing_said ls)

-- behind the configurations of both ways, of which the last line is line 11
abbrev pub fault_behind : List (List ℕ) → Option (ℕ × PairWrong)
fault_behind ls = fault_in (both_then 9 ls)

-- of words and their number
abbrev pub word_texts : List (List (List ℕ))
word_texts =
    (codes "cut 0" ∷ []) ∷ (codes "pass there 1" ∷ []) ∷ (codes "pass 4" ∷ codes "frame There 0a0" ∷ [])
    ∷ (codes "frame back 0a0" ∷ []) ∷ (codes "cut back 1" ∷ []) ∷ (codes "other" ∷ []) ∷ []

abbrev pub word_faults : List (Option (ℕ × PairWrong))
word_faults =
    Some (12, of_live (line_wrong.Count word.Cut 1))
    ∷ Some (12, of_live (line_wrong.Live (live_wrong.Count word.Pass 2)))
    ∷ Some (13, of_live line_wrong.Way)
    ∷ Some (12, of_live (line_wrong.Live (live_wrong.Field (field.Hex 3))))
    ∷ Some (12, of_live (line_wrong.Live (live_wrong.Field (field.Range 3 0 0))))
    ∷ Some (12, of_live (line_wrong.Live live_wrong.First)) ∷ []

-- of what was said before
abbrev pub order_texts : List (List (List ℕ))
order_texts =
    (codes "cut there 0" ∷ codes "cut back 0" ∷ codes "pass 1" ∷ codes "cut back 0" ∷ [])
    ∷ (codes "cut there 0" ∷ codes "mend back 0" ∷ []) ∷ (codes "pass 9" ∷ codes "add back 0" ∷ [])
    ∷ (codes "pass 4" ∷ codes "lost 0 1" ∷ []) ∷ (codes "pass 4" ∷ codes "sink infers" ∷ []) ∷ []

abbrev pub order_faults : List (Option (ℕ × PairWrong))
order_faults =
    Some (15, of_live (line_wrong.Live (live_wrong.CutAlready 0)))
    ∷ Some (13, of_live (line_wrong.Live (live_wrong.NotCut 0)))
    ∷ Some (13, of_live (line_wrong.Live live_wrong.LastTick))
    ∷ Some (13, of_live (line_wrong.Live (live_wrong.Behind Windows)))
    ∷ Some (13, of_live (line_wrong.Live (live_wrong.Behind Configuration))) ∷ []

-- of the configurations
abbrev pub opening_texts : List (List (List ℕ))
opening_texts =
    (one_line 0 1 9 ++ codes "other x" ∷ []) ∷ (one_line 0 1 9 ++ codes "pass 1" ∷ [])
    ∷ (codes "lines 1" ∷ codes "other" ∷ [])
    ∷ (one_line 0 1 9 ++ codes "other" ∷ codes "lines 1" ∷ codes "pass 1" ∷ [])
    ∷ (one_line 0 1 9 ++ codes "lost 0 1" ∷ codes "other" ∷ one_line 17 1 8)
    ∷ (one_line 0 1 9 ++ codes "lost 0 1" ∷ codes "other" ∷ one_line 0 2 8)
    ∷ (one_line 0 1 9 ++ codes "other" ∷ (one_line 0 2 8 ++ codes "pass 1 1" ∷ []))
    ∷ (one_line 0 1 9 ++ codes "other" ∷ one_line 0 1 8) ∷ []

abbrev pub opening_faults : List (Option (ℕ × PairWrong))
opening_faults =
    Some (6, of_live (line_wrong.Live live_wrong.First)) ∷ Some (6, undivided) ∷ Some (2, of_script (Missing Delays))
    ∷ Some (8, of_script (Missing Delays)) ∷ Some (13, of_limits (pair_fault.Limit Back (script.Lag 1 3 17 0)))
    ∷ Some (13, of_limits (pair_fault.Lost There)) ∷ Some (12, of_limits (pair_fault.Lag 1 2 1))
    ∷ Some (12, of_limits (pair_fault.Ticks 9 8)) ∷ []

-- ---- a conversation: a line there is added, the line back is cut for a tick, and then a frame is sent there
abbrev pub cut_back_lines : List (List ℕ)
cut_back_lines = both_then 1000
    (codes "add there 0" ∷ codes "pass 100" ∷ codes "cut back 0" ∷ codes "pass 1" ∷ codes "mend back 0"
    ∷ codes "frame there aa" ∷ codes "pass 1" ∷ [])

abbrev pub one_config : List Window → Config
one_config windows = record {
  lines = 1;
  delays = 0 ∷ [];
  windows = windows ∷ [];
  lost = [];
  ring = 1;
  lag = 1;
  ticks = 1000;
  size = vc4_size;
  options = default_options;
}

abbrev pub cut_back_scripts : ScriptPair
cut_back_scripts = record {
  there = record {
    config = one_config [];
    items = record { due = 0; kind = Add 0 } ∷ record { due = 101; kind = Frame (170 ∷ []) } ∷ [];
    events = [];
  };
  back = record {
    config = one_config (record { first = 100; end = 101; slip = 0 } ∷ []);
    items = [];
    events = [];
  };
}
