-- Failures in containers.
use Rattle.law_session.proofs.FailedLinePayloadLaws.{gaps-down, short-held, window-count, window-packets}
use Rattle.law_session.proofs.FailedLinePayloadLaws.{window-spoils}
use Rattle.law_session.proofs.members_with_timers.window_law.Goals as goal

pub returns-clause-short : goal.returns-clause-short
returns-clause-short c = short-held

pub returns-clause-gaps : goal.returns-clause-gaps
returns-clause-gaps c = gaps-down

pub returns-clause-spoils : goal.returns-clause-spoils
returns-clause-spoils c = window-spoils

pub returns-clause-packets : goal.returns-clause-packets
returns-clause-packets c = window-packets

pub returns-clause-count : goal.returns-clause-count
returns-clause-count c = window-count
