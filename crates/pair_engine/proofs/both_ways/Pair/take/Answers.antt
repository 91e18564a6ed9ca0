-- A row of a way is tried.
use Rattle.std.proofs.Common.{ap, refl, subst}
use Rattle.law_model.specs.Common.{Counts}
use Rattle.law_pair.specs.Common.{counts_on}
use Rattle.law_pair.specs.declared.pair_events.PairEvent.TheVariants.{Take}
use Rattle.law_pair.specs.declared.pair_events.Way.TheVariants.{There, Back}
use Rattle.walk_engine.specs.Common.{GivesRows}
use Rattle.pair_engine.specs.PairAfterEvent.{Paired, leg_on}
use Rattle.pair_engine.specs.Ways.{leg_beside}
use Rattle.pair_engine.proofs.PairEventAndRoundLaws.{there-live, back-live, take-follows, seen-follows}
use Rattle.pair_engine.proofs.TakenRowAndHeardPacketLaws.{gives-same}
use Rattle.pair_engine.proofs.both_ways.Pair.take.Goals as goal

pub take_way_row-requires : goal.take_way_row-requires
take_way_row-requires g c =
    let f = c.self.inside in (f.there.script, f.back.script, there-live f.there f.back c.self.invariant)

pub invariant_of-self : goal.invariant_of-self
invariant_of-self g c =
    let f = c.self.inside in
    (take-follows There f.there f.back c.take_way_row.new.own c.take_way_row.new.other c.take_way_row.result
    c.self.invariant refl (c.take_way_row.ensures.takes f.there.script f.back.script
    (there-live f.there f.back c.self.invariant)) c.take_way_row.ensures.own c.take_way_row.ensures.other).walk

pub returns-in-There-clause-pair : goal.returns-in-There-clause-pair
returns-in-There-clause-pair g c =
    let f = c.self.inside in
    (seen-follows _ _ _ There Take c.take_way_row.result c.self.view_is c.in-There.is c.moved_on.ensures
    (take-follows There f.there f.back c.take_way_row.new.own c.take_way_row.new.other c.take_way_row.result
    c.self.invariant refl (c.take_way_row.ensures.takes f.there.script f.back.script
    (there-live f.there f.back c.self.invariant)) c.take_way_row.ensures.own c.take_way_row.ensures.other)).pair

pub returns-in-There-clause-moved : goal.returns-in-There-clause-moved
returns-in-There-clause-moved g c =
    let f = c.self.inside in
    (seen-follows _ _ _ There Take c.take_way_row.result c.self.view_is c.in-There.is c.moved_on.ensures
    (take-follows There f.there f.back c.take_way_row.new.own c.take_way_row.new.other c.take_way_row.result
    c.self.invariant refl (c.take_way_row.ensures.takes f.there.script f.back.script
    (there-live f.there f.back c.self.invariant)) c.take_way_row.ensures.own c.take_way_row.ensures.other)).moved

pub returns-in-There-clause-gives_there : goal.returns-in-There-clause-gives_there
returns-in-There-clause-gives_there g c =
    let f = c.self.inside in
    subst (λ (p : Paired). GivesRows g.F.FrameOut.stands_for c.args.there.now c.take_way_row.new.out (leg_on p There)
    (counts_on p.counts There).rows c.take_way_row.new.own.core.sink.taken) c.self.view_is
    (c.take_way_row.ensures.gives f.there.script f.back.script (there-live f.there f.back c.self.invariant))

pub returns-in-There-clause-gives_back : goal.returns-in-There-clause-gives_back
returns-in-There-clause-gives_back g c =
    let f = c.self.inside in
    subst (λ (p : Paired). GivesRows g.G.FrameOut.stands_for c.args.back.now c.args.back.now (leg_on p Back)
    (counts_on p.counts Back).rows c.take_way_row.new.other.core.sink.taken) c.self.view_is
    (gives-same g.G.FrameOut.stands_for c.args.back.now (leg_beside f.back f.there) f.back.live.core.sink.taken
    c.take_way_row.new.other.core.sink.taken (ap (λ (s : Counts). s.rows)
    (c.take_way_row.ensures.takes f.there.script f.back.script
    (there-live f.there f.back c.self.invariant)).other_counts))

pub take_way_row-requires-in-Back : goal.take_way_row-requires-in-Back
take_way_row-requires-in-Back g c =
    let f = c.self.inside in (f.back.script, f.there.script, back-live f.there f.back c.self.invariant)

pub invariant_of-self-in-Back : goal.invariant_of-self-in-Back
invariant_of-self-in-Back g c =
    let f = c.self.inside in
    (take-follows Back f.back f.there c.take_way_row-in-Back.new.own c.take_way_row-in-Back.new.other
    c.take_way_row-in-Back.result c.self.invariant refl
    (c.take_way_row-in-Back.ensures.takes f.back.script f.there.script
    (back-live f.there f.back c.self.invariant)) c.take_way_row-in-Back.ensures.own
    c.take_way_row-in-Back.ensures.other).walk

pub returns-in-Back-clause-pair : goal.returns-in-Back-clause-pair
returns-in-Back-clause-pair g c =
    let f = c.self.inside in
    (seen-follows _ _ _ Back Take c.take_way_row-in-Back.result c.self.view_is c.in-Back.is c.moved_on-in-Back.ensures
    (take-follows Back f.back f.there c.take_way_row-in-Back.new.own c.take_way_row-in-Back.new.other
    c.take_way_row-in-Back.result c.self.invariant refl
    (c.take_way_row-in-Back.ensures.takes f.back.script f.there.script
    (back-live f.there f.back c.self.invariant)) c.take_way_row-in-Back.ensures.own
    c.take_way_row-in-Back.ensures.other)).pair

pub returns-in-Back-clause-moved : goal.returns-in-Back-clause-moved
returns-in-Back-clause-moved g c =
    let f = c.self.inside in
    (seen-follows _ _ _ Back Take c.take_way_row-in-Back.result c.self.view_is c.in-Back.is c.moved_on-in-Back.ensures
    (take-follows Back f.back f.there c.take_way_row-in-Back.new.own c.take_way_row-in-Back.new.other
    c.take_way_row-in-Back.result c.self.invariant refl
    (c.take_way_row-in-Back.ensures.takes f.back.script f.there.script
    (back-live f.there f.back c.self.invariant)) c.take_way_row-in-Back.ensures.own
    c.take_way_row-in-Back.ensures.other)).moved

pub returns-in-Back-clause-gives_back : goal.returns-in-Back-clause-gives_back
returns-in-Back-clause-gives_back g c =
    let f = c.self.inside in
    subst (λ (p : Paired). GivesRows g.G.FrameOut.stands_for c.args.back.now c.take_way_row-in-Back.new.out
    (leg_on p Back) (counts_on p.counts Back).rows c.take_way_row-in-Back.new.own.core.sink.taken) c.self.view_is
    (c.take_way_row-in-Back.ensures.gives f.back.script f.there.script (back-live f.there f.back c.self.invariant))

pub returns-in-Back-clause-gives_there : goal.returns-in-Back-clause-gives_there
returns-in-Back-clause-gives_there g c =
    let f = c.self.inside in
    subst (λ (p : Paired). GivesRows g.F.FrameOut.stands_for c.args.there.now c.args.there.now (leg_on p There)
    (counts_on p.counts There).rows c.take_way_row-in-Back.new.other.core.sink.taken) c.self.view_is
    (gives-same g.F.FrameOut.stands_for c.args.there.now (leg_beside f.there f.back) f.there.live.core.sink.taken
    c.take_way_row-in-Back.new.other.core.sink.taken (ap (λ (s : Counts). s.rows)
    (c.take_way_row-in-Back.ensures.takes f.back.script f.there.script
    (back-live f.there f.back c.self.invariant)).other_counts))
