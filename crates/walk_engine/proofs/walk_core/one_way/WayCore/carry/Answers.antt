-- A line carries.
use Rattle.std.proofs.Common.{rules, ℕ, ◌<◌, length, refl, sym, subst, arith}
use Rattle.law_model.specs.Common.{Leg}
use Rattle.walk_engine.specs.walk_core.WayParts.{Parts, WayStands}
use Rattle.walk_engine.proofs.LineCarryAndSendRingLaws.{frame-size, sent-places}
use Rattle.walk_engine.proofs.LineCarryAndSendRingLaws.{line-read, line-stays, line-free, line-carried}
use Rattle.walk_engine.proofs.walk_core.one_way.WayCore.carry.Goals as goal

pub index-requires : goal.index-requires
index-requires c =
    let low = subst (λ (p : Parts). c.args.line < length p.lines) (sym c.self.view_is) c.requires.line in
    let within : c.from-m.result < length c.self.inside.lines.items = omega (arith, low, c.from-m.ensures) in
    search (rules, within)

pub index_mut-requires : goal.index_mut-requires
index_mut-requires c =
    let low = subst (λ (p : Parts). c.args.line < length p.lines) (sym c.self.view_is) c.requires.line in
    let within : c.from-m.result < length c.self.inside.lines.items = omega (arith, low, c.from-m.ensures) in
    search (rules, within)

pub returns-in-Some-clause-rest : goal.returns-in-Some-clause-rest
returns-in-Some-clause-rest c = refl

pub returns-in-Some-clause-windows : goal.returns-in-Some-clause-windows
returns-in-Some-clause-windows c = refl

pub returns-in-Some-clause-makes : goal.returns-in-Some-clause-makes
returns-in-Some-clause-makes c leg backs stands =
    line-stays leg backs _ _ c.self.view_is stands c.args.line c.from-m.result c.from-m.ensures c.requires.line
    c.index.result.now c.index.ensures c.ticks.result (rw c.core.ensures at c.ticks.ensures) c.carry_stall.result
    c.carry_stall.ensures.cause c.in-Some.cause c.in-Some.is

pub carry_on-requires : goal.carry_on-requires
carry_on-requires c =
    let (leg, backs, stands) = c.requires.stands in
    let (is, low, there) = line-read leg backs _ _ c.self.view_is stands c.args.line c.from-m.result c.from-m.ensures
    c.requires.line c.index.result.now c.index.ensures in
    let free = line-free leg backs _ _ c.self.view_is stands c.args.line c.from-m.result c.from-m.ensures c.requires.line
    c.index.result.now c.index.ensures c.ticks.result (rw c.core.ensures at c.ticks.ensures) c.carry_stall.result
    c.carry_stall.ensures.cause c.in-None.is (c.carry_stall.ensures.can c.in-None.is) c.index_mut.result.now
    c.index_mut.ensures.value in
    let sent = c.self.inside.sent.items in
    let at = c.from-m.ensures in
    record {
      runs = free.0;
      room = free.1;
      places = sent-places leg c.self.inside.source.core.ticks _ sent is.sent;
      lines = λ k frame e.
          let size = frame-size leg c.self.inside.source.core.ticks _ sent is.sent k frame e in
          omega (arith, low, at, size);
    }

pub returns-in-None : goal.returns-in-None
returns-in-None c =
    let on = c.carry_on.ensures in
    let carried = λ (leg : Leg) (backs : ℕ) (stands : WayStands leg backs c.args.self.now).
    line-carried leg backs _ _ c.self.view_is stands c.args.line c.from-m.result c.from-m.ensures c.requires.line
    c.index.result.now c.index.ensures c.ticks.result (rw c.core.ensures at c.ticks.ensures) c.carry_stall.result
    c.carry_stall.ensures.cause c.in-None.is (c.carry_stall.ensures.can c.in-None.is) c.index_mut.result.now
    c.index_mut.ensures.value
    c.self.inside.sent.items refl c.carry_on.new.own _
    (record { has = on.has; windows = on.windows; carried = on.carried; popped = on.popped; sent = on.sent }) in
    let (leg, backs, stands) = c.requires.stands in
    record {
      makes = λ leg backs stands. (carried leg backs stands).0;
      rest = search rules;
      windows = (carried leg backs stands).1;
    }
