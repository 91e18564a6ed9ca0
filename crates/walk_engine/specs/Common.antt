-- The words that most definitions and proofs cite, passed on from one place. Declares nothing.
pub use Rattle.walk_engine.specs.walk_core.Carry.{CanCarry, IsCarriedAt, IsKnownOn, IsSentOn, carry_cause}
pub use Rattle.walk_engine.specs.walk_core.FramesCounted.{counting, passing}
pub use Rattle.walk_engine.specs.walk_core.Landing.{early_cause, landing_of, stall_by}
pub use Rattle.walk_engine.specs.walk_core.WalkAfterEvent.{GivesRows, Walked, answer_by, counts_after, moved_of}
pub use Rattle.law_walk.specs.DeliveredFrames.{delivered_since}
pub use Rattle.walk_engine.specs.walk_core.WalkAfterEvent.{refusal_in_event, refusal_of_item}
pub use Rattle.walk_engine.specs.walk_core.OpenedWay.{AreOpened, AreRings, HasWindows, IsAlike, IsNew, IsNewGather}
pub use Rattle.walk_engine.specs.walk_core.OpenedWay.{IsNewSink, IsOpened}
pub use Rattle.walk_engine.specs.walk_core.LiveWalking.{AgreesNow, IsLegOver, IsLive, IsWalk, Walking, LiveMakes, LiveFinishes}
pub use Rattle.walk_engine.specs.walk_core.LiveWalking.{LiveRounds, LiveStands, walking_counts, walking_of}
pub use Rattle.walk_engine.specs.walk_core.WayParts.{HasBack, HasCounted, HasLanded, HasLine, HasLines, HasSent, HasSource}
pub use Rattle.walk_engine.specs.walk_core.WayParts.{Parts, StandsForSome, calls_on, counts_of, frame_in, line_counts}
pub use Rattle.walk_engine.specs.walk_core.WayParts.{AgreesAt, calls_of, windows_in, windows_of, windows_on}
pub use Rattle.walk_engine.specs.walk_core.WayParts.{note_of, sent_frames, told_leg, told_scenario, waiting_in}
pub use Rattle.walk_engine.specs.walk_core.Take.{CanPop, CanTake, HasPopped, HasRow, take_cause}
pub use Rattle.walk_engine.specs.walk_core.EventAnswers.{CanTick, IsDue, IsNoneHeld, IsTold, Makes, Takes, next_in}
pub use Rattle.walk_engine.specs.walk_core.EventAnswers.{said_at, take_by, take_moved, with_passed}
pub use Rattle.walk_engine.specs.walk_parts.Return.{Return, and_moved, come, listed, moved_by, packet_cell, path_of}
pub use Rattle.walk_engine.specs.walk_parts.Ringed.{Has, IsNext, IsPopped, Ringed, cell_at, cell_in, count_of, is_at}
pub use Rattle.walk_engine.specs.walk_parts.Ringed.{leaves_open, popped_cells, ring_of, with_sign}
unfoldable pub use Rattle.walk_engine.specs.walk_parts.Ringed.{popped_until}
