-- The two scripts are whole, and fit together or don't.
use Rattle.std.proofs.Common.{◌∙◌, sym}
use Rattle.pair_live.proofs.PairLineSayingsLaws.{fits_network}
use Rattle.pair_live.proofs.PairReaderStateLaws.{limits_told, untested_first}
use Rattle.pair_live.proofs.live_pair_reader.opened.Goals as goal

pub returns-in-Some-limits_fault-clause-fault : goal.returns-in-Some-limits_fault-clause-fault
returns-in-Some-limits_fault-clause-fault c s says =
    limits_told c.args.first c.args.reader s c.in-Some.there c.in-Ok.script c.in-Some-limits_fault.fault says
    c.in-Some.is c.in-Ok.ensures.whole c.in-Ok.ensures.script (sym c.in-Some-limits_fault.is ∙ c.limits_fault.ensures)

pub returns-clause-network : goal.returns-clause-network
returns-clause-network c =
    fits_network (record { there = c.in-Some.there; back = c.in-Ok.script })
    (untested_first c.args.first c.in-Some.there c.in-Some.is c.requires.first) c.in-Ok.ensures.untested
    (sym c.limits_fault.ensures ∙ c.in_default-limits_fault.is)
