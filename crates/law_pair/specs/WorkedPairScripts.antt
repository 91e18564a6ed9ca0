-- Worked pairs: which return packets are lost, what the packets tell, and a frame that is delivered.
use Rattle.std.specs.Prelude.{ℕ, true, false, List, [], ◌∷◌, replicate}
use Rattle.law_model.specs.Common.{Told, untold}
use Rattle.law_model.specs.declared.window_types.Window.{Window}
use Rattle.law_model.specs.declared.script_types.Script.{Script}
use Rattle.law_model.specs.declared.script_types.Item.{Item}
use Rattle.law_model.specs.declared.script_types.ItemKind.TheVariants.{Frame, Add}
use Rattle.law_walk.specs.Common.{item, plain}

-- one line, which is added at once, 100 ticks, and a lag of one packet
abbrev pub worked_script : List (List Window) → List Item → Script
worked_script windows items =
    record { config = plain windows 1 1 100; items = item 0 (Add 0) ∷ items; events = [] }

-- a frame of 64 octets goes there
abbrev pub worked_there : Script
worked_there = worked_script ([] ∷ []) (item 0 (Frame (replicate 64 0)) ∷ [])

abbrev pub worked_back : Script
worked_back = worked_script ([] ∷ []) []

-- and of the line back container 16 fails
abbrev pub failing_back : Script
failing_back = worked_script ((record { first = 16; «end» = 17; slip = 0 } ∷ []) ∷ []) []

-- by packet 0 one line is added, so that the count of changes is 1, and is seen
abbrev pub first_tells : List Told
first_tells = untold ∷ record { rs_ack = 1; oks = true ∷ replicate 7 false } ∷ []

abbrev pub one_frame : List (List ℕ)
one_frame = replicate 64 0 ∷ []
