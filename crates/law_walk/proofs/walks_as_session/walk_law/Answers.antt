-- A walk is a course of the session.
use Rattle.law_progress.proofs.RoundProgressAndDrainLaws.{walked-reached}
use Rattle.law_walk.specs.Common.{walk_plan}
use Rattle.law_walk.proofs.WalkPlanAndPoppedCellLaws.{begins-walked, steps-walked, drains-walked, is-course}
use Rattle.law_walk.proofs.WalkPlanAndPoppedCellLaws.{sources-are, streams-are, frames-are, cells-come, cells-decide}
use Rattle.law_walk.proofs.WalkPlanAndPoppedCellLaws.{rows-are, carriers-are, backs-are}
use Rattle.law_walk.proofs.walks_as_session.walk_law.Goals as goal

pub returns-clause-frames : goal.returns-clause-frames
returns-clause-frames c leg s t can walked = frames-are leg s can walked t

pub returns-clause-come : goal.returns-clause-come
returns-clause-come c = cells-come

pub returns-clause-decided : goal.returns-clause-decided
returns-clause-decided c leg s t can walked = cells-decide leg s can walked t

pub returns-clause-rows : goal.returns-clause-rows
returns-clause-rows c leg s t can walked = rows-are leg s can walked t

pub returns-clause-carriers : goal.returns-clause-carriers
returns-clause-carriers c leg s k can walked = carriers-are leg s can walked k

pub returns-clause-backs : goal.returns-clause-backs
returns-clause-backs c = backs-are

pub returns-clause-begins : goal.returns-clause-begins
returns-clause-begins c = begins-walked

pub returns-clause-steps : goal.returns-clause-steps
returns-clause-steps c = steps-walked

pub returns-clause-drains : goal.returns-clause-drains
returns-clause-drains c = drains-walked

pub returns-clause-event_lines : goal.returns-clause-event_lines
returns-clause-event_lines c leg lines = walked-reached (walk_plan leg) lines

pub returns-clause-course : goal.returns-clause-course
returns-clause-course c = is-course

pub returns-clause-sources : goal.returns-clause-sources
returns-clause-sources c leg s j can walked = sources-are leg s can walked j

pub returns-clause-streams : goal.returns-clause-streams
returns-clause-streams c leg s t can walked = streams-are leg s can walked t
