-- The lines of the multiframes so far are written.
use Rattle.std.proofs.Common.{ℕ, List, ◌++◌, flat_map}
use Rattle.std.specs.List.{range_with_len}
use Rattle.law_model.specs.Common.{Start}
use Rattle.text_got.specs.TextSoFar.{HasText}
use Rattle.command_rooms.specs.commands.H4.{multiframe_text}
use Rattle.command_rooms.proofs.commands.h4.write_multiframes.Given as goal

abbrev pub invariant-loop-m : goal.invariant-loop-m
invariant-loop-m g l = (start : Start) (before : List ℕ) →
    HasText g.K.ByteSink.written g.K.ByteSink.faults l.fn.got start before →
    HasText g.K.ByteSink.written g.K.ByteSink.faults l.got start
    (before ++ flat_map (multiframe_text l.fn.octets) (range_with_len 0 l.m))
