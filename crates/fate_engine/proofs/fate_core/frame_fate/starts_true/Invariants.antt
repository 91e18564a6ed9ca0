-- The marks before are true.
use Rattle.std.proofs.Common.{◌≡◌, List, drop}
use Rattle.std.specs.List.{list_all}
use Rattle.law_model.specs.Common.{Stream, StreamRow}
use Rattle.fate_engine.specs.Common.{ruler_of, are_true_marks, later_segments}
use Rattle.fate_engine.specs.fate_core.Segments.{SegmentsStand}
use Rattle.fate_engine.proofs.TrueMarksLaws.{test}
use Rattle.fate_engine.proofs.fate_core.frame_fate.starts_true.Given as goal

abbrev pub invariant-loop-i : goal.invariant-loop-i
invariant-loop-i l =
    (stream : Stream) (rows : List StreamRow) → l.ruler ≡ ruler_of stream → SegmentsStand l.segments rows →
    list_all (test stream.pieces) (drop l.i (later_segments rows)) ≡ are_true_marks stream.pieces rows
