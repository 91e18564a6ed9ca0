-- What comes of worked streams and rows.
use Rattle.std.specs.Prelude.{List, [], ◌∷◌, Option, Some, None}
use Rattle.fate_engine.specs.declared.fate_law.Fate.{Fate}
use Rattle.fate_engine.specs.declared.fate_law.Fate.TheVariants.{Cut, Unconfirmed, Hunting, Unsettled, Got}
use Rattle.fate_engine.specs.declared.fate_law.Cause.{Cause}
use Rattle.fate_engine.specs.declared.fate_law.Cause.TheVariants.{PacketOf, Container}
use Rattle.fate_engine.specs.declared.fate_law.RowSegment.{RowSegment}
use Rattle.fate_engine.specs.declared.fate_law.SpoiledRun.{SpoiledRun}
use Rattle.fate_engine.specs.fate_law.Ruler.{Ruler}

abbrev pub worked_fates : List Fate
worked_fates = Cut 0 2 1 ∷ Hunting 2 2 ∷ Unsettled 2 2 ∷ Got 2 2 ∷ Cut 2 4 3 ∷ Unconfirmed 4 4 ∷ []

abbrev pub worked_segments : List RowSegment
worked_segments = record { first = 2; end = 3; mark = Some 28 } ∷ record { first = 4; end = 5; mark = None } ∷ []

abbrev pub worked_causes : List (Option Cause)
worked_causes = None ∷ Some (Container 0) ∷ Some (Container 0) ∷ Some (PacketOf 1) ∷ None ∷ Some (PacketOf 1) ∷ []

abbrev pub worked_runs : List SpoiledRun
worked_runs =
    record { first = 41; end = 43; cause = Container 0 } ∷ record { first = 43; end = 44; cause = PacketOf 1 }
    ∷ record { first = 45; end = 46; cause = PacketOf 1 } ∷ []

-- a frame of 64 octets is begun at place 8, and reaches place 40
abbrev pub worked_ruler : Ruler
worked_ruler = record { end = 80; sent = (8, 80) ∷ []; waiting = 65 ∷ [] }
