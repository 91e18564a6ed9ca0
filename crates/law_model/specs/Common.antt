-- The words that most definitions and proofs cite, passed on from one place. Declares nothing.
pub use Rattle.law_model.specs.Limits.{largest_ring, longest_delay, longest_extended_area, longest_frame}
pub use Rattle.law_model.specs.Limits.{longest_got_line, longest_holdoff, longest_input, longest_lag, longest_offer}
pub use Rattle.law_model.specs.Limits.{longest_restore, longest_slip, most_count, most_drawn_ticks, most_items, most_lines}
pub use Rattle.law_model.specs.Limits.{most_packets, most_pending, most_ticks, most_waiting, most_windows}
pub use Rattle.law_model.specs.Limits.{shortest_frame, vc3_size, vc4_size}
pub use Rattle.law_model.specs.frames.Core.{IsPli, is_pli}
unfoldable pub use Rattle.law_model.specs.frames.Core.{core_header, head, pli_of}
pub use Rattle.law_model.specs.frames.Delivery.{delivered}
pub use Rattle.law_model.specs.frames.Hunt.{Confirmed, confirm_by, confirm_with, header_at, hunt, hunt_by, hunt_with}
unfoldable pub use Rattle.law_model.specs.frames.Hunt.{header_with, hunt_within}
pub use Rattle.law_model.specs.frames.Loss.{Extent, IsPlaceOfPiece, LiesConfirmed, LiesLater, Lost, StartsTrue}
pub use Rattle.law_model.specs.frames.Loss.{TrueStarts, confirmed_in, cut_off, frames_kept, is_carried, is_frame_lost}
pub use Rattle.law_model.specs.frames.Loss.{is_given, is_missed, lies_in, missed_after, too_early, unconfirmed}
pub use Rattle.law_model.specs.frames.Loss.{unsettled}
unfoldable pub use Rattle.law_model.specs.frames.Loss.{extents}
pub use Rattle.law_model.specs.frames.Outcome.{Outcome, area_outcomes, client_outcome, delivery, descrambled_areas}
pub use Rattle.law_model.specs.frames.Outcome.{dropping, is_settled, outcome_by, outcome_of, outcomes, outcomes_after}
pub use Rattle.law_model.specs.frames.Outcome.{outcomes_with, run_outcomes, run_outcomes_with}
unfoldable pub use Rattle.law_model.specs.frames.Outcome.{outcomes_after_with}
pub use Rattle.law_model.specs.frames.Payload.{payload_of}
pub use Rattle.law_model.specs.frames.Piece.{Piece, area_of, areas_stream, client, frames_by, idle, joined}
pub use Rattle.law_model.specs.frames.Piece.{scrambled_areas, size_of, stream_of, with_header}
unfoldable pub use Rattle.law_model.specs.frames.Piece.{cut, frame_ends}
pub use Rattle.law_model.specs.frames.Run.{Delineated, Followed, Run, after_run, area_then, areas, delineate}
pub use Rattle.law_model.specs.frames.Run.{delineate_by, delineate_with, follow_by, follow_with, is_sync, no_area}
pub use Rattle.law_model.specs.frames.Run.{no_run, run_then, runs, runs_then, runs_with}
unfoldable pub use Rattle.law_model.specs.frames.Run.{delineate_within, follow_within}
pub use Rattle.law_model.specs.frames.Scramble.{IsScrambled, descrambled, descrambled_octets, scrambled}
pub use Rattle.law_model.specs.frames.Scramble.{scrambled_octets}
unfoldable pub use Rattle.law_model.specs.frames.Scramble.{scramble_on}
pub use Rattle.law_model.specs.frames.Segment.{Segment, Segments, StreamRow, broken, deliver, longer, no_rows}
pub use Rattle.law_model.specs.frames.Segment.{octets_of_rows, segment_frames, segments, segments_of}
unfoldable pub use Rattle.law_model.specs.frames.Segment.{segments_on}
pub use Rattle.law_model.specs.frames.TypeHeader.{type_check, type_field, type_header}
unfoldable pub use Rattle.law_model.specs.frames.TypeHeader.{type_fault}
pub use Rattle.law_model.specs.members.Damage.{carried_in, is_damaged, is_good, is_readable, is_whole, lock_of, slip_of}
unfoldable pub use Rattle.law_model.specs.members.Damage.{AreWindows, are_whole, slip_after}
pub use Rattle.law_model.specs.members.SentAndExpected.{AreSent, HasPlace, IsLine, expected, sent_nibbles}
pub use Rattle.law_model.specs.members.CellVerdicts.{LineLock, Reading, Sight, ahead, at, lock_after, locked, locks, over}
pub use Rattle.law_model.specs.members.CellVerdicts.{read_at, read_good, reading_of, sight_of, unknown, unlocked, verdict}
pub use Rattle.law_model.specs.members.CellVerdicts.{verdict_in, verdict_or, verdict_over, verdicts_by}
unfoldable pub use Rattle.law_model.specs.members.CellVerdicts.{read_on}
pub use Rattle.law_model.specs.members.Path.{cells, cells_of, end_of}
unfoldable pub use Rattle.law_model.specs.members.Path.{path}
pub use Rattle.law_model.specs.members.Timers.{IsUp, IsUpSince, are_missed, is_restored}
unfoldable pub use Rattle.law_model.specs.members.Timers.{is_up, last_read}
pub use Rattle.law_model.specs.members.Sight.{lock_by, sight_by, sights}
unfoldable pub use Rattle.law_model.specs.members.Sight.{sights_on}
pub use Rattle.law_model.specs.members.Sign.{HasNoEnd, sign_of, signs_of}
pub use Rattle.law_model.specs.packets.Decode.{Found, begins_packet, front_nibbles, good_cells, is_at, is_front}
pub use Rattle.law_model.specs.packets.Decode.{packet_here, upper_halves}
unfoldable pub use Rattle.law_model.specs.packets.Decode.{packets_on}
pub use Rattle.law_model.specs.packets.DecodeText.{end_text, found_text, found_texts}
unfoldable pub use Rattle.law_model.specs.packets.DecodeText.{decoded_text}
pub use Rattle.law_model.specs.packets.Forward.{LineFields, ctrl_by, forward_packet, state_by, state_of, state_without}
unfoldable pub use Rattle.law_model.specs.packets.Forward.{place_in, state_in}
pub use Rattle.law_model.specs.packets.GroupBit.{next_bit}
unfoldable pub use Rattle.law_model.specs.packets.GroupBit.{bits_from, group_bit, group_bits}
pub use Rattle.law_model.specs.packets.MemberPacket.{nibbles_of, upper_of, with_last}
unfoldable pub use Rattle.law_model.specs.packets.MemberPacket.{uppers}
pub use Rattle.law_model.specs.packets.Packet.{IsPacket, are_nibbles, bit_at, bit_nibble, cleared_nibbles}
pub use Rattle.law_model.specs.packets.Packet.{covered_nibbles, found_check, octet_at, octet_nibbles, packet_nibbles}
pub use Rattle.law_model.specs.packets.Packet.{packet_of, read_by, said_check, said_code}
unfoldable pub use Rattle.law_model.specs.packets.Packet.{read_of}
pub use Rattle.law_model.specs.packets.PacketText.{bit_text, ctrl_text, nibble_text}
pub use Rattle.law_model.specs.packets.ReturnPacket.{Row, ack_by, ack_of, agree, has_packet, have_one_chg, is_member, is_same}
pub use Rattle.law_model.specs.packets.ReturnPacket.{last_word, last_word_by, leader, mst_of, packet_on, packet_row}
pub use Rattle.law_model.specs.packets.ReturnPacket.{return_of, says_at, sink_state, state_next, status_of}
pub use Rattle.law_model.specs.packets.TellsOtherWay.{mst_by, passed_on, sent_packet, telling, telling_at, untold}
pub use Rattle.law_model.specs.packets.ToldToSource.{oks_in, packet_read, told_by, told_in}
pub use Rattle.law_model.specs.rows.Interleave.{octets_at, parts_of}
unfoldable pub use Rattle.law_model.specs.rows.Interleave.{octets_from, part_of}
pub use Rattle.law_model.specs.rows.Carriers.{active_of, are_worded, carriers_by, carriers_of, has, in_norm, inferred}
pub use Rattle.law_model.specs.rows.Carriers.{is_carrying, is_silent, last_packet, lines_at, packet_of_last, says_member}
pub use Rattle.law_model.specs.rows.Carriers.{supposed, supposed_row}
unfoldable pub use Rattle.law_model.specs.rows.Carriers.{active_from}
pub use Rattle.law_model.specs.rows.GroupRows.{carried_row, carriers_at, container_in, container_on, containers_at, first_open}
pub use Rattle.law_model.specs.rows.GroupRows.{governing, read_packet, read_packets, return_at, row_at, with_first}
pub use Rattle.law_model.specs.rows.SessionContainers.{active_at, container_of, containers_of, frame_of, nibble_at, nibble_in}
pub use Rattle.law_model.specs.rows.SessionContainers.{payload_by, payload_on, rank_of}
pub use Rattle.law_model.specs.rows.SessionRows.{are_inferred, are_known, is_inferred, is_known, is_silent_line}
pub use Rattle.law_model.specs.rows.SessionRows.{is_whole_row, is_whole_under, known_lines, packet_if, packets_from}
pub use Rattle.law_model.specs.rows.SessionRows.{packets_of, was_member}
unfoldable pub use Rattle.law_model.specs.rows.SessionStream.{rows_of}
pub use Rattle.law_model.specs.session.Counts.{Counts, Due, LineCounts, LinePath, Plan, Popped, Step, accept, begin}
pub use Rattle.law_model.specs.session.Counts.{bound, carry, carry_at, carry_on, command, command_due, due_of, dues_of}
pub use Rattle.law_model.specs.session.Counts.{frame_due, in_inbox, in_receive, in_return, in_send, is_back_full}
pub use Rattle.law_model.specs.session.Counts.{is_missing, land_due, moved, popped_line, round, run_line, stalled, step}
pub use Rattle.law_model.specs.session.Counts.{take_popped, take_row, tick, tick_full, tick_held, used_in, walked}
pub use Rattle.law_model.specs.session.Counts.{with_line}
unfoldable pub use Rattle.law_model.specs.session.Counts.{carries_from, command_dues, drain, frame_dues, full, held}
unfoldable pub use Rattle.law_model.specs.session.Counts.{pop, pop_lines, run, run_lines, sum_delays}
pub use Rattle.law_model.specs.session.Leg.{Leg, leg_of}
pub use Rattle.law_model.specs.session.Options.{IsOptions, IsStatuses, default_options}
pub use Rattle.law_model.specs.session.Plan.{FitsLag, FitsRing, all_cells, decided_by, decided_in, greatest}
pub use Rattle.law_model.specs.session.Plan.{greatest_slip, least, least_or, path_of, paths_of, plan_of}
pub use Rattle.law_model.specs.session.Scenario.{DueCommand, DueFrame, Scenario, carried_by, comes_at, frames_at}
pub use Rattle.law_model.specs.session.Scenario.{is_heard, is_lost, is_read, lands_at, offer_of, offers_of, order_of}
pub use Rattle.law_model.specs.session.Scenario.{orders_at, orders_of, packets, scenario_by, scenario_of, steps_in}
pub use Rattle.law_model.specs.session.ValidScript.{AreItems, HasFailures, HasFewLosses, HasLosses, IsCount, IsEvent, IsItem}
pub use Rattle.law_model.specs.session.ValidScript.{IsKind, IsNetwork, IsSize, IsSound, IsValid, IsWithin}
unfoldable pub use Rattle.law_model.specs.session.ValidScript.{AreApart}
pub use Rattle.law_model.specs.source.Accepted.{accepted_of, kept_by, refusal_in}
pub use Rattle.law_model.specs.source.SessionReturns.{group_of, is_line, is_line_up, return_cell, return_packet, said}
pub use Rattle.law_model.specs.source.SessionReturns.{session_cells, stands_at, status, word, word_by}
unfoldable pub use Rattle.law_model.specs.source.SessionReturns.{cells_before, said_before}
pub use Rattle.law_model.specs.source.Client.{IsFewest, Stream, frame_refusal, frames_in, next_by, offered, offered_by}
pub use Rattle.law_model.specs.source.Client.{reached, refusal_while, size, width}
unfoldable pub use Rattle.law_model.specs.source.Client.{place_of, reaching, stream_before}
pub use Rattle.law_model.specs.source.Course.{Call, Course, asks, called, count_of, course_of, decides, given_at}
pub use Rattle.law_model.specs.source.Course.{said_by}
unfoldable pub use Rattle.law_model.specs.source.Course.{calls_before}
pub use Rattle.law_model.specs.source.Journal.{accepted_offers, accepted_orders, frames_before, replayed, with_items}
unfoldable pub use Rattle.law_model.specs.source.Journal.{offers_before, orders_before}
pub use Rattle.law_model.specs.source.Source.{Source, accepted, asked, asked_all, asked_by, cell_at, change, change_by}
pub use Rattle.law_model.specs.source.Source.{decide, first_of, line_of, planned_of, refusal, source_at, table_of}
pub use Rattle.law_model.specs.source.Source.{told_at}
unfoldable pub use Rattle.law_model.specs.source.Source.{after}
pub use Rattle.law_model.specs.source.Table.{Table, Told, acknowledged_by, active, carried_out, changed, exchanged}
pub use Rattle.law_model.specs.source.Table.{first_table, heard, in_use, is_adding, is_fail, is_for, is_norm, is_normal}
pub use Rattle.law_model.specs.source.Table.{is_ok, kept_in, kept_of, member_of, told_on, turn}
unfoldable pub use Rattle.law_model.specs.source.Table.{admit, exchange, keep, none_kept, take_out, turned}
pub use Rattle.member_cells.specs.ControlCode.{code_of, ctrl_of}
pub use Rattle.member_cells.specs.HeldPlaces.{blank}
pub use Rattle.member_cells.specs.declared.containers_and_cells.BackCell.{BackCell}
pub use Rattle.member_cells.specs.declared.containers_and_cells.Cell.{Cell}
pub use Rattle.member_cells.specs.declared.containers_and_cells.Cell.TheVariants.{End, Fail, Good}
pub use Rattle.member_cells.specs.declared.containers_and_cells.Container.{Container}
pub use Rattle.member_cells.specs.declared.control_word.Ctrl.{Ctrl}
pub use Rattle.member_cells.specs.declared.control_word.Ctrl.TheVariants.{Eos}
pub use Rattle.check_hec16.specs.OneWrongBit.{IsFixed}
pub use Rattle.check_hec16.specs.Hec.{hec_bits}
unfoldable pub use Rattle.check_hec16.specs.Hec.{hec_of}
pub use Rattle.octet_io.specs.FaultCounts.{one_more}
pub use Rattle.octet_io.specs.Start.{Start}
pub use Rattle.octet_io.specs.Transfer.{Appends, AppendsPart, GivesAll, Tells}
unfoldable pub use Rattle.check_nibbles.specs.NibbleCheck.{crc8_of}
pub use Rattle.check_nibbles.specs.MultiframeLock.{HasMfi1, HasMfi2, HasNumber, IsAt, IsFirstStep, IsInStep, IsOutOfStep, Locks}
pub use Rattle.check_remainder.specs.Bits.{number, octet_bits, xor}
unfoldable pub use Rattle.check_remainder.specs.Bits.{bits, number_behind, octets_of, xors}
unfoldable pub use Rattle.check_remainder.specs.BitCount.{count}
pub use Rattle.check_remainder.specs.Remainder.{remainder}
unfoldable pub use Rattle.check_remainder.specs.Remainder.{add_front, divide}
