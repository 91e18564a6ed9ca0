-- The words that most definitions and proofs cite, passed on from one place. Declares nothing.
pub use Rattle.law_live.specs.LiveSayings.{Saying, lands, cuts, mends, passes, LineCourse, Live, uncut, opened, closed, windows_by}
pub use Rattle.law_live.specs.LiveSayings.{course_at, cut_at, mended_at, with_course, item_at, live_after, live_of, frames_in}
pub use Rattle.law_live.specs.LiveSayings.{commands_in}
unfoldable pub use Rattle.law_live.specs.LiveSayings.{live_from}
pub use Rattle.law_live.specs.WellSaid.{CanCut, IsOfLine, IsPass, CanSay, IsWellSaid}
unfoldable pub use Rattle.law_live.specs.WellSaid.{CanSayAll}
pub use Rattle.law_live.specs.LiveCounts.{live_round, rounds_for, landing_of, rounds_said, counts_said, live_counts}
pub use Rattle.law_live.specs.LiveCounts.{rounds_of}
unfoldable pub use Rattle.law_live.specs.LiveCounts.{after_rounds, rounds_until, counts_from, rounds_from}
pub use Rattle.law_live.specs.ScriptOfSayings.{config_by, leg_by, leg_said, counted, events_by, script_by, script_said}
pub use Rattle.law_live.specs.LiveAnswers.{Answer, refused_item, step_made, got_at, queue_at, now_at, next_item}
pub use Rattle.law_live.specs.LiveAnswers.{refused_answer, item_answers, steps_between, round_answers, waiting_at}
pub use Rattle.law_live.specs.LiveAnswers.{pass_ends, pass_answers}
pub use Rattle.law_live.specs.LiveAnswers.{answers_to, answers, frames_got, items_refused, steps_made, times_told}
pub use Rattle.law_live.specs.LiveAnswers.{got_at_text, now_text, Telling, answer_text, answers_text}
pub use Rattle.law_live.specs.LiveAnswers.{last_text, report_said}
unfoldable pub use Rattle.law_live.specs.LiveAnswers.{rounds_answers, answers_from, Rises}
pub use Rattle.law_live.specs.LiveMembers.{member_code, code_at, MemberTold, told_of, told_among, members_in, member_text}
pub use Rattle.law_live.specs.LiveMembers.{members_text, members_told, told_by, codes_of, plain_code}
unfoldable pub use Rattle.law_live.specs.LiveMembers.{last_code, Differ, code_after}
pub use Rattle.law_live.specs.LiveQueue.{changed_number, queue_text, queue_texts, queue_of, queues_told, Reckoned}
pub use Rattle.law_live.specs.LiveQueue.{accepted_one, reckoned_to, reckoned}
unfoldable pub use Rattle.law_live.specs.LiveQueue.{last_number, AreOthers, reckoned_from}
pub use Rattle.law_live.specs.Agrees.{IsSameBelow, HasLater, Agrees}
pub use Rattle.law_live.specs.PairSayings.{PairSaying, lands_on, cuts_on, mends_on, both_pass, if_on, saying_on, said_on}
pub use Rattle.law_live.specs.PairSayings.{config_on, IsPairNetwork, IsPairSaid, script_on, PairAgrees, ArePairs, both_passed}
pub use Rattle.law_live.specs.PairSayingCounts.{pair_turn, turn_both, turns_for, both_said, pair_counts}
unfoldable pub use Rattle.law_live.specs.PairSayingCounts.{after_turns, turns_until, both_from}
pub use Rattle.law_live.specs.PairAnswers.{PairAnswer, way_told, both_at, leg_on, steps_told, frames_told, turn_answers}
pub use Rattle.law_live.specs.PairAnswers.{queue_told, both_end, both_answer, pair_answers, answer_on, answers_on, pair_time_of, pair_times}
pub use Rattle.law_live.specs.PairAnswers.{way_word, refused_way_text}
pub use Rattle.law_live.specs.PairAnswers.{got_way_text, member_way_text, queue_way_text, way_answer_text}
pub use Rattle.law_live.specs.PairAnswers.{pair_answer_text, pair_answers_text, total_way_text, totals_on, last_pair_text}
pub use Rattle.law_live.specs.PairAnswers.{reckoned_by, both_reckoned}
unfoldable pub use Rattle.law_live.specs.PairAnswers.{turns_answers, pair_answers_from, both_reckoned_from}
