-- The course of a scenario's calls, field by field.
use Rattle.std.proofs.Common.{ap}
use Rattle.law_model.specs.Common.{Course}
use Rattle.terminal_source.proofs.SourceTableCourseLaws.{course-of_scenario}
use Rattle.terminal_source.proofs.lcas_source.course_law.Goals as goal

pub returns : goal.returns
returns c = record {
  source = λ scenario cells j. ap (λ (course : Course). course.source) (course-of_scenario scenario cells j);
  taken = λ scenario cells j. ap (λ (course : Course). course.taken) (course-of_scenario scenario cells j);
  steps = λ scenario cells j. ap (λ (course : Course). course.steps) (course-of_scenario scenario cells j);
}
