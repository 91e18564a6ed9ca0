-- Each event keeps a course.
use Rattle.law_terminal.proofs.SessionCourseLaws.{course-opens, course-ticks, course-comes, course-backs}
use Rattle.law_terminal.proofs.course_of_session.keep_law.Goals as goal

pub returns : goal.returns
returns c = record {
  opens = course-opens;
  ticks = course-ticks;
  comes = course-comes;
  backs = course-backs;
}
