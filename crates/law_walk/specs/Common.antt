-- The words that most definitions and proofs cite, passed on from one place. Declares nothing.
pub use Rattle.law_walk.specs.DeliveredFrames.{IsReceived, delivered_of, session_rows}
pub use Rattle.law_walk.specs.LandedOfLeg.{IsOfferAt, IsOrderAt, IsPlaced, Numbered, is_accepted_command, is_accepted_frame}
pub use Rattle.law_walk.specs.LandedOfLeg.{is_client, kind_refusal, landed_items, landed_scenario, refusal_at}
pub use Rattle.law_walk.specs.LandedOfLeg.{refusals_among, refusals_of, refused_by, source_met, stream_met, told_before}
pub use Rattle.law_walk.specs.LandedOfLeg.{totals_among, totals_of, with_command_told, with_frame_told, with_if}
unfoldable pub use Rattle.law_walk.specs.LandedOfLeg.{landed_from}
pub use Rattle.law_walk.specs.Promise.{AreWholeBefore, ConfirmsTrue, FailsAlone, HasNoFailure, InUseBy, IsClear}
pub use Rattle.law_walk.specs.Promise.{IsUnchangedSinceRead, accepted_frames, drained, frame_by, place_after, row_from}
pub use Rattle.law_walk.specs.Promise.{session_extents, session_pieces, session_waiting}
unfoldable pub use Rattle.law_walk.specs.Promise.{numbered}
pub use Rattle.law_walk.specs.WalkReport.{final_report, report_among, report_of}
pub use Rattle.law_walk.specs.WalkRings.{AreDecidedBefore, all_lines, back_cell, cells_by, delay_on, inbox, line_cells}
pub use Rattle.law_walk.specs.WalkRings.{receive_by, return_ring, said_packet, send_by, sent_at, taken_by}
pub use Rattle.law_walk.specs.LastDecisionStep.{cell_taken, last_packet, table_in}
pub use Rattle.law_walk.specs.Walk.{CanWalk, IsWalked, cells_on, counts_at, path_on, popped_cells, popped_on, sent_of}
pub use Rattle.law_walk.specs.Walk.{sent_on, session_of, walk_plan}
pub use Rattle.law_walk.specs.WorkedLegs.{failing_items, failing_leg, failing_windows, item, near_leg, near_windows, plain}
pub use Rattle.law_walk.specs.WorkedLegs.{silent_leg, silent_windows, whole_rows}
