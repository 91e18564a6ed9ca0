-- A line of a way carries.
use Rattle.std.proofs.Common.{◌<◌, length, refl, sym, subst}
use Rattle.law_model.specs.session.Scenario.{packets_in}
use Rattle.law_pair.specs.Common.{way_of}
use Rattle.law_pair.specs.declared.pair_events.Way.TheVariants.{There, Back}
use Rattle.pair_engine.specs.LivePairs.{IsLivePair, PairWalking, SameWindows, WayWalking, walking_on}
use Rattle.pair_engine.specs.WayCalls.{KeepsRows}
use Rattle.pair_engine.specs.Ways.{walking_both, walking_of}
use Rattle.pair_engine.proofs.LivePairLaws.{CarriesOn, carry-goes, same-windows, some-on, still-carried, with_way}
use Rattle.pair_engine.proofs.live_pair.LivePair.carry.Goals as goal

pub carry-requires : goal.carry-requires
carry-requires c = record {
  line = subst (λ (p : PairWalking). c.args.line < length p.there.core.lines) (sym c.self.view_is)
      (subst (λ way. c.args.line < length (walking_on c.args.self.now way).core.lines) c.in-There.is c.requires.line);
  stands = some-on (walking_both c.self.inside.there c.self.inside.back) There
      (subst IsLivePair (sym c.self.view_is) c.requires.lives);
}

pub returns-in-There : goal.returns-in-There
returns-in-There c =
    let f = c.self.inside in
    let pair : PairWalking = walking_both f.there f.back in
    let e = c.carry.ensures in
    let now : WayWalking = record (walking_of f.there) { core = c.carry.new.self } in
    let still = still-carried (walking_of f.there) now refl refl refl e.rest in
    record {
      carries = subst (CarriesOn c.args.self.now (with_way pair There now) c.args.line) (sym c.in-There.is)
          (subst (λ (p : PairWalking). CarriesOn p (with_way pair There now) c.args.line There) c.self.view_is
          (λ one other lives. carry-goes one other pair There c.args.line now c.carry.result lives still
          (e.makes (way_of one other) (packets_in f.there.core.sink.taken) lives.there_way.stands)));
      rows = subst (λ (p : PairWalking). KeepsRows p (with_way pair There now)) c.self.view_is
          (record { there = still.rows; back = refl });
      windows = subst (λ (p : PairWalking). SameWindows p (with_way pair There now)) c.self.view_is
          (same-windows pair There now e.windows);
    }

pub carry-requires-in-Back : goal.carry-requires-in-Back
carry-requires-in-Back c = record {
  line = subst (λ (p : PairWalking). c.args.line < length p.back.core.lines) (sym c.self.view_is)
      (subst (λ way. c.args.line < length (walking_on c.args.self.now way).core.lines) c.in-Back.is c.requires.line);
  stands = some-on (walking_both c.self.inside.there c.self.inside.back) Back
      (subst IsLivePair (sym c.self.view_is) c.requires.lives);
}

pub returns-in-Back : goal.returns-in-Back
returns-in-Back c =
    let f = c.self.inside in
    let pair : PairWalking = walking_both f.there f.back in
    let e = c.carry-in-Back.ensures in
    let now : WayWalking = record (walking_of f.back) { core = c.carry-in-Back.new.self } in
    let still = still-carried (walking_of f.back) now refl refl refl e.rest in
    record {
      carries = subst (CarriesOn c.args.self.now (with_way pair Back now) c.args.line) (sym c.in-Back.is)
          (subst (λ (p : PairWalking). CarriesOn p (with_way pair Back now) c.args.line Back) c.self.view_is
          (λ one other lives. carry-goes one other pair Back c.args.line now c.carry-in-Back.result lives still
          (e.makes (way_of other one) (packets_in f.back.core.sink.taken) lives.back_way.stands)));
      rows = subst (λ (p : PairWalking). KeepsRows p (with_way pair Back now)) c.self.view_is
          (record { there = refl; back = still.rows });
      windows = subst (λ (p : PairWalking). SameWindows p (with_way pair Back now)) c.self.view_is
          (same-windows pair Back now e.windows);
    }
