-- More cells change nothing of what is decided.
use Rattle.law_line.proofs.ReadingVerdictLaws.{verdict-stays, cells-part}
use Rattle.law_line.proofs.DecidedPacketAndRowLaws.{octets_stay, packets_stay, governing_stay, carriers_stay}
use Rattle.law_line.proofs.DecidedPacketAndRowLaws.{rows_stay, returns_stay}
use Rattle.law_line.proofs.stable_law.Goals as goal

pub returns-clause-verdicts : goal.returns-clause-verdicts
returns-clause-verdicts c = verdict-stays

pub returns-clause-octets : goal.returns-clause-octets
returns-clause-octets c = octets_stay

pub returns-clause-cells : goal.returns-clause-cells
returns-clause-cells c = cells-part

pub returns-clause-packets : goal.returns-clause-packets
returns-clause-packets c = packets_stay

pub returns-clause-governing : goal.returns-clause-governing
returns-clause-governing c = governing_stay

pub returns-clause-carriers : goal.returns-clause-carriers
returns-clause-carriers c = carriers_stay

pub returns-clause-rows : goal.returns-clause-rows
returns-clause-rows c = rows_stay

pub returns-clause-returns : goal.returns-clause-returns
returns-clause-returns c = returns_stay
