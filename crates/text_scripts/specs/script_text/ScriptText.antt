-- The text of a script without its event lines. What a script says if a line isn't there has no line: a VC-4, a sink
-- that stops, timers of 0, and 16 return packets that tell all statuses.
use Rattle.std.specs.Prelude.{ℕ, ◌+◌, ◌==◌, List, [], ◌∷◌, ◌++◌, map, codes, decimal, Bool, if◌then◌else◌}
use Rattle.std.specs.List.{flat_map}
use Rattle.hex.specs.Hex.{encode_lower}
use Rattle.law_model.specs.Common.{vc3_size}
use Rattle.law_model.specs.declared.window_types.Window.{Window}
use Rattle.law_model.specs.declared.script_types.Config.{Config}
use Rattle.law_model.specs.declared.script_types.Options.{Options}
use Rattle.law_model.specs.declared.script_types.Item.{Item}
use Rattle.law_model.specs.declared.script_types.ItemKind.{ItemKind}
use Rattle.law_model.specs.declared.script_types.ItemKind.TheVariants.{Frame, Add, Remove}
use Rattle.law_model.specs.declared.script_types.Script.{Script}

-- ---- a line: a keyword, the words behind it with a space before each, and LF
abbrev pub spaced : List ℕ → List ℕ
spaced word = codes " " ++ word

abbrev pub line : List ℕ → List (List ℕ) → List ℕ
line keyword words = keyword ++ flat_map spaced words ++ codes "\n"

-- one of numbers, and one that stands only where a test says so
abbrev pub number_line : List ℕ → List ℕ → List ℕ
number_line keyword numbers = line keyword (map decimal numbers)

abbrev pub line_if : Bool → List ℕ → List ℕ
line_if stands text = if stands then text else []

-- ---- the network
abbrev pub container_text : ℕ → List ℕ
container_text size = line_if (size == vc3_size) (line (codes "container") (codes "vc3" ∷ []))

unfoldable pub network_text : Config → List ℕ
network_text config =
    container_text config.size
    ++ number_line (codes "lines") (config.lines ∷ [])
    ++ number_line (codes "delays") config.delays
    ++ number_line (codes "ring") (config.ring ∷ [])
    ++ number_line (codes "lag") (config.lag ∷ [])
    ++ number_line (codes "ticks") (config.ticks ∷ [])

-- ---- the options
abbrev pub sink_text : Bool → List ℕ
sink_text infers = line_if infers (line (codes "sink") (codes "infers" ∷ []))

-- that of a timer, which is 0 without a line
abbrev pub timer_text : List ℕ → ℕ → List ℕ
timer_text keyword packets = if packets == 0 then [] else number_line keyword (packets ∷ [])

abbrev pub statuses_text : ℕ → List ℕ
statuses_text statuses = line_if (statuses == 32) (line (codes "statuses") (codes "32" ∷ []))

unfoldable pub options_text : Options → List ℕ
options_text options =
    sink_text options.infers
    ++ timer_text (codes "holdoff") options.holdoff
    ++ timer_text (codes "restore") options.restore
    ++ statuses_text options.statuses

-- ---- failures and losses
abbrev pub fail_line : ℕ → Window → List ℕ
fail_line m window = number_line (codes "fail") (m ∷ window.first ∷ window.end ∷ window.slip ∷ [])

-- the windows of each line, of which the first has the number m
unfoldable pub failures_from : ℕ → List (List Window) → List ℕ
failures_from m [] = []
failures_from m (windows ∷ lists) = flat_map (fail_line m) windows ++ failures_from (m + 1) lists

abbrev pub lost_line : ℕ × ℕ → List ℕ
lost_line window = number_line (codes "lost") (window.0 ∷ window.1 ∷ [])

-- ---- items
abbrev pub kind_line : ℕ → ItemKind → List ℕ
kind_line due (Frame octets) = line (codes "frame") (decimal due ∷ encode_lower octets ∷ [])
kind_line due (Add m) = number_line (codes "add") (due ∷ m ∷ [])
kind_line due (Remove m) = number_line (codes "remove") (due ∷ m ∷ [])

abbrev pub item_line : Item → List ℕ
item_line item = kind_line item.due item.kind

-- ---- the script
unfoldable pub script_text : Script → List ℕ
script_text script =
    network_text script.config
    ++ options_text script.config.options
    ++ failures_from 0 script.config.windows
    ++ flat_map lost_line script.config.lost
    ++ flat_map item_line script.items
