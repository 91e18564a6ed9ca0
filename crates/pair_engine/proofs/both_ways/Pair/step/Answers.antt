-- What gives no row gives no frame.
use Rattle.law_pair.specs.Common.{counts_on}
use Rattle.law_pair.specs.declared.pair_events.Way.TheVariants.{There, Back}
use Rattle.pair_engine.specs.PairAfterEvent.{leg_on}
use Rattle.pair_engine.proofs.TakenRowAndHeardPacketLaws.{gives-same}
use Rattle.pair_engine.proofs.both_ways.Pair.step.Goals as goal

pub returns-in-Item-clause-gives_there : goal.returns-in-Item-clause-gives_there
returns-in-Item-clause-gives_there g c =
    gives-same g.F.FrameOut.stands_for c.args.there.now (leg_on c.args.self.now There)
    (counts_on c.args.self.now.counts There).rows _ c.land.ensures.rows.there

pub returns-in-Item-clause-gives_back : goal.returns-in-Item-clause-gives_back
returns-in-Item-clause-gives_back g c =
    gives-same g.G.FrameOut.stands_for c.args.back.now (leg_on c.args.self.now Back)
    (counts_on c.args.self.now.counts Back).rows _ c.land.ensures.rows.back

pub returns-in-Tick-clause-gives_there : goal.returns-in-Tick-clause-gives_there
returns-in-Tick-clause-gives_there g c =
    gives-same g.F.FrameOut.stands_for c.args.there.now (leg_on c.args.self.now There)
    (counts_on c.args.self.now.counts There).rows _ c.tick.ensures.rows.there

pub returns-in-Tick-clause-gives_back : goal.returns-in-Tick-clause-gives_back
returns-in-Tick-clause-gives_back g c =
    gives-same g.G.FrameOut.stands_for c.args.back.now (leg_on c.args.self.now Back)
    (counts_on c.args.self.now.counts Back).rows _ c.tick.ensures.rows.back

pub returns-in-Carry-clause-gives_there : goal.returns-in-Carry-clause-gives_there
returns-in-Carry-clause-gives_there g c =
    gives-same g.F.FrameOut.stands_for c.args.there.now (leg_on c.args.self.now There)
    (counts_on c.args.self.now.counts There).rows _ c.carry.ensures.rows.there

pub returns-in-Carry-clause-gives_back : goal.returns-in-Carry-clause-gives_back
returns-in-Carry-clause-gives_back g c =
    gives-same g.G.FrameOut.stands_for c.args.back.now (leg_on c.args.self.now Back)
    (counts_on c.args.self.now.counts Back).rows _ c.carry.ensures.rows.back
