-- The item is landed by the direction of its way.
use Rattle.std.proofs.Common.{refl, sym, ap, subst}
use Rattle.law_model.specs.declared.script_types.ItemKind.{ItemKind}
use Rattle.law_model.specs.session.Scenario.{packets_in}
use Rattle.terminal_group.specs.Item.{kind_of}
use Rattle.law_pair.specs.Common.{way_of}
use Rattle.law_pair.specs.declared.pair_events.Way.TheVariants.{There, Back}
use Rattle.walk_engine.specs.Common.{Parts, windows_in}
use Rattle.pair_engine.specs.LivePairs.{PairWalking, SameWindows, WayWalking}
use Rattle.pair_engine.specs.Ways.{walking_both, walking_of}
use Rattle.pair_engine.proofs.LivePairLaws.{RefusesOn, SaysOn, said-goes, same-windows, still-landed, with_way}
use Rattle.pair_engine.proofs.live_pair.LivePair.say.Goals as goal

pub returns-in-There : goal.returns-in-There
returns-in-There c =
    let f = c.self.inside in
    let pair : PairWalking = walking_both f.there f.back in
    let e = c.land.ensures in
    let kind : ItemKind = kind_of c.args.item in
    let now : WayWalking = record (walking_of f.there) { core = c.land.new.self } in
    let still = still-landed (walking_of f.there) now refl refl refl e.ticks e.inbox e.rest in
    record {
      lands = subst (SaysOn c.args.self.now (with_way pair There now) kind) (sym c.in-There.is)
          (subst (λ (p : PairWalking). SaysOn p (with_way pair There now) kind There) c.self.view_is
          (λ one other lives lands. said-goes one other pair There kind now c.land.result lives lands still
          (e.makes (way_of one other) (packets_in f.there.core.sink.taken) lives.there_way.stands lands.due)));
      refusal = subst (RefusesOn c.args.self.now c.land.result kind) (sym c.in-There.is)
          (subst (λ (p : PairWalking). RefusesOn p c.land.result kind There) c.self.view_is
          (λ one other lives lands. e.refusal (way_of one other) (packets_in f.there.core.sink.taken)
          lives.there_way.stands lands.due));
      windows = subst (λ (p : PairWalking). SameWindows p (with_way pair There now)) c.self.view_is
          (same-windows pair There now (ap (λ (p : Parts). windows_in p.lines) e.rest));
    }

pub returns-in-Back : goal.returns-in-Back
returns-in-Back c =
    let f = c.self.inside in
    let pair : PairWalking = walking_both f.there f.back in
    let e = c.land-in-Back.ensures in
    let kind : ItemKind = kind_of c.args.item in
    let now : WayWalking = record (walking_of f.back) { core = c.land-in-Back.new.self } in
    let still = still-landed (walking_of f.back) now refl refl refl e.ticks e.inbox e.rest in
    record {
      lands = subst (SaysOn c.args.self.now (with_way pair Back now) kind) (sym c.in-Back.is)
          (subst (λ (p : PairWalking). SaysOn p (with_way pair Back now) kind Back) c.self.view_is
          (λ one other lives lands. said-goes one other pair Back kind now c.land-in-Back.result lives lands still
          (e.makes (way_of other one) (packets_in f.back.core.sink.taken) lives.back_way.stands lands.due)));
      refusal = subst (RefusesOn c.args.self.now c.land-in-Back.result kind) (sym c.in-Back.is)
          (subst (λ (p : PairWalking). RefusesOn p c.land-in-Back.result kind Back) c.self.view_is
          (λ one other lives lands. e.refusal (way_of other one) (packets_in f.back.core.sink.taken)
          lives.back_way.stands lands.due));
      windows = subst (λ (p : PairWalking). SameWindows p (with_way pair Back now)) c.self.view_is
          (same-windows pair Back now (ap (λ (p : Parts). windows_in p.lines) e.rest));
    }
