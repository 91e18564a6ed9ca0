-- No ring is lost.
use Rattle.std.proofs.Common.{refl}
use Rattle.thread_session.proofs.RungBellLaws.{none-lost, rung-since, behind-since}
use Rattle.thread_session.proofs.session_parts.bell_laws.bell_law.Goals as goal

pub returns-clause-asleep : goal.returns-clause-asleep
returns-clause-asleep c = none-lost

pub returns-clause-rung : goal.returns-clause-rung
returns-clause-rung c = rung-since

pub returns-clause-behind : goal.returns-clause-behind
returns-clause-behind c = behind-since

pub returns-clause-worked : goal.returns-clause-worked
returns-clause-worked c = refl

pub returns-clause-looked_first : goal.returns-clause-looked_first
returns-clause-looked_first c = refl

pub returns-clause-heard_late : goal.returns-clause-heard_late
returns-clause-heard_late c = refl
