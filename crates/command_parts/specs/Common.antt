-- The words that most definitions and proofs cite, passed on from one place. Declares nothing.
pub use Rattle.command_parts.specs.Ends.{Ends, FailedOnce, HasRead, IsBeyond, IsCut, IsDone, IsLong, IsNoCommand}
pub use Rattle.command_parts.specs.Ends.{IsRefused, IsShort, IsTold, IsTooLong, IsUnread, Kept, Lent, Meets, Quiet}
pub use Rattle.command_parts.specs.Ends.{Takes, WritesAll, WritesPart, beyond, cut, done, lent, no_command, no_source}
pub use Rattle.command_parts.specs.Ends.{refused, short, since, talked, too_long, unread, until}
pub use Rattle.command_parts.specs.FaultTexts.{IsRefusedFor, fault_text, limit_text, line_text, why_of}
pub use Rattle.command_parts.specs.TextInPieces.{Follows, StopsAt, answer_told}
pub use Rattle.command_parts.specs.Scripts.{HasScript, IsTaken, ReadsScript, answer_of, script_answer, told_of}
pub use Rattle.command_parts.specs.Status.{HasReadAt, HasRunAt, Rises, is_status}
pub use Rattle.command_parts.specs.Stops.{IsRefusedAs, StopsFor, StopsReading, StopsTaking, note_of, status_at}
pub use Rattle.command_parts.specs.Talk.{IsTalk, Said, Talk, TalkEnd}
pub use Rattle.command_parts.specs.Task.{Answer, HasInput, IsCommand, IsGood, IsQuiet, IsQuietTask, Reads, Talks, Task}
pub use Rattle.command_parts.specs.Task.{exceeds, makes, none, reads, refused_status, refuses, talks, writes, writes_both}
