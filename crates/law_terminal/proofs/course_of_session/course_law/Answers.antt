-- A course is the session's.
use Rattle.law_terminal.proofs.SessionCourseLaws.{course-returns, course-containers, course-come, course-rows}
use Rattle.law_terminal.proofs.SessionCourseLaws.{course-carriers, course-cell, course-packet}
use Rattle.law_terminal.proofs.course_of_session.course_law.Goals as goal

pub returns : goal.returns
returns c = record {
  returns = course-returns;
  containers = λ scenario frames n line t cells lines lag course.
      course-containers scenario frames n cells lines lag course line t;
  come = course-come;
  rows = λ scenario frames n t cells lines lag course. course-rows scenario frames n cells lines lag course t;
  carriers = λ scenario frames n k cells lines lag course. course-carriers scenario frames n cells lines lag course k;
  backs = λ scenario frames n k cells lines lag course. course-cell scenario frames n cells lines lag course k;
  packets = λ scenario frames n k cells lines lag course. course-packet scenario frames n cells lines lag course k;
}
