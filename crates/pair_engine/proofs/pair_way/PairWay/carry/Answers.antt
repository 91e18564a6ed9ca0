-- A line carries.
use Rattle.std.proofs.Common.{sym, ◌∙◌, ap, subst}
use Rattle.law_model.specs.session.Scenario.{packets_in}
use Rattle.law_pair.specs.Common.{way_of}
use Rattle.walk_engine.specs.walk_core.WayParts.{WayStands}
use Rattle.walk_engine.specs.Common.{Parts, counts_of}
use Rattle.walk_engine.proofs.WayEventAndToldSourceLaws.{landing-stays}
use Rattle.pair_engine.specs.Ways.{way_counts}
use Rattle.pair_engine.proofs.pair_way.PairWay.carry.Goals as goal

pub returns-clause-goes : goal.returns-clause-goes
returns-clause-goes c other stands landed =
    let own = c.args.self.now in
    let leg = way_of own.script other in
    let e = c.carry.ensures in
    let makes = e.makes leg (packets_in own.live.core.sink.taken) stands in
    let rows = ap (λ (p : Parts). packets_in p.sink.taken) e.rest in
    record {
      stands = subst (λ n. WayStands leg n c.carry.new.self) (sym rows) makes.stands;
      landed = landing-stays leg (way_counts own) (counts_of c.carry.new.self (packets_in c.carry.new.self.sink.taken))
          own.landing (ap (λ (p : Parts). p.source.landed.frames) e.rest)
          (ap (λ (p : Parts). p.source.landed.commands) e.rest) landed;
      counts = ap (counts_of c.carry.new.self) rows ∙ makes.counts;
      moved = c.carried.ensures ∙ makes.moved;
    }
