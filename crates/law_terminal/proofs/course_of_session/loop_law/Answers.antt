-- A course by the session's own return cells.
use Rattle.law_terminal.proofs.SessionCourseLaws.{frame-same, source-same, stream-same, next-cell}
use Rattle.law_terminal.proofs.course_of_session.loop_law.Goals as goal

pub returns : goal.returns
returns c = record {
  frames = frame-same;
  sources = source-same;
  streams = stream-same;
  next = next-cell;
}
