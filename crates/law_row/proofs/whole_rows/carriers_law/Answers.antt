-- Which lines carry payload.
use Rattle.law_row.proofs.SilentLineAndKnownCarrierLaws.{carriers-known, carriers-stop}
use Rattle.law_row.proofs.WholeRowAndStoppedSinkLaws.{stopping-table, stopping-session, stopping-more}
use Rattle.law_row.proofs.whole_rows.carriers_law.Goals as goal

pub returns-clause-carriers : goal.returns-clause-carriers
returns-clause-carriers c = carriers-known

pub returns-clause-stops : goal.returns-clause-stops
returns-clause-stops c = carriers-stop

pub returns-clause-tables : goal.returns-clause-tables
returns-clause-tables c = stopping-table

pub returns-clause-backs : goal.returns-clause-backs
returns-clause-backs c = stopping-session

pub returns-clause-more : goal.returns-clause-more
returns-clause-more c = stopping-more
