-- A row is taken, or the cells that were popped wait for more.
use Rattle.std.proofs.Common.{sym, ◌∙◌, ap, subst}
use Rattle.walk_engine.specs.Common.{GivesRows, Parts, counts_of, take_cause, windows_in}
use Rattle.walk_engine.specs.walk_core.WayParts.{WayStands}
use Rattle.walk_engine.proofs.WalkRoundAndTotalsLaws.{gives-none}
use Rattle.walk_engine.proofs.TakeRowAndBackSteps.{rows-few, can-pop, waits-kept, can-take, taken-kept, taken-gives}
use Rattle.walk_engine.proofs.TickAndFullRingLaws.{lines-few}
use Rattle.walk_engine.proofs.WayEventAndToldSourceLaws.{takes-from}
use Rattle.walk_engine.proofs.walk_core.one_way.WayCore.take.Goals as goal

pub pop_lines-requires : goal.pop_lines-requires
pop_lines-requires g c =
    let (leg, backs, stands) = c.requires in
    record { few = lines-few leg backs _ (subst (WayStands leg backs) (sym c.self.view_is) stands) }

pub returns-in-Some-clause-takes : goal.returns-in-Some-clause-takes
returns-in-Some-clause-takes g c leg backs stands free =
    let is = subst (WayStands leg backs) (sym c.self.view_is) stands in
    let none = free ∙ ap (λ (p : Parts). take_cause leg.config.ticks (counts_of p backs)) (sym c.self.view_is) in
    takes-from leg backs _ _ _ _ c.self.view_is
    (waits-kept leg backs _ is none _ _ _ c.pop_lines.ensures.rows c.pop_lines.ensures.lines
    (c.pop_lines.ensures.pops leg (can-pop leg backs _ is none)) c.pop_lines.ensures.windows c.in-Some.line (sym c.in-Some.is))

pub returns-in-Some-clause-gives : goal.returns-in-Some-clause-gives
returns-in-Some-clause-gives g c leg backs stands free =
    gives-none g.F.FrameOut.stands_for c.args.out.now leg _ _ (ap (λ (p : Parts). p.sink.taken) c.self.view_is)

pub take_counted_row-back-requires : goal.take_counted_row-back-requires
take_counted_row-back-requires g c =
    let (leg, backs, stands) = c.requires in
    record {
      lines = c.pop_lines.ensures.lines ∙ (subst (WayStands leg backs) (sym c.self.view_is) stands).sink.lines;
      rows = c.pop_lines.ensures.rows ∙ (subst (WayStands leg backs) (sym c.self.view_is) stands).sink.passed;
      few = rows-few leg backs _ (subst (WayStands leg backs) (sym c.self.view_is) stands);
    }

pub returns-clause-takes : goal.returns-clause-takes
returns-clause-takes g c leg backs stands free =
    let is = subst (WayStands leg backs) (sym c.self.view_is) stands in
    let none = free ∙ ap (λ (p : Parts). take_cause leg.config.ticks (counts_of p backs)) (sym c.self.view_is) in
    let popped = c.pop_lines.ensures.pops leg (can-pop leg backs _ is none) in
    let decided = sym c.in_default.is in
    let can =
    can-take leg backs _ is none _ _ _ c.pop_lines.ensures.rows c.pop_lines.ensures.lines popped
    c.pop_lines.ensures.windows decided in
    takes-from leg backs _ _ _ _ c.self.view_is
    (taken-kept leg backs _ is none _ _ _ c.pop_lines.ensures.rows c.pop_lines.ensures.lines popped
    c.pop_lines.ensures.windows decided
    _ _ c.take_counted_row-back.result.0 (c.take_counted_row-back.ensures.takes _ can) _ (c.take_counted_row-back.ensures.counted _ can))

pub returns-clause-gives : goal.returns-clause-gives
returns-clause-gives g c leg backs stands free =
    let is = subst (WayStands leg backs) (sym c.self.view_is) stands in
    let none = free ∙ ap (λ (p : Parts). take_cause leg.config.ticks (counts_of p backs)) (sym c.self.view_is) in
    let popped = c.pop_lines.ensures.pops leg (can-pop leg backs _ is none) in
    let decided = sym c.in_default.is in
    let can =
    can-take leg backs _ is none _ _ _ c.pop_lines.ensures.rows c.pop_lines.ensures.lines popped
    c.pop_lines.ensures.windows decided in
    subst (λ (p : Parts). GivesRows g.F.FrameOut.stands_for c.args.out.now c.take_counted_row-back.new.out leg p.sink.taken
    c.take_counted_row-back.new.sink.taken) c.self.view_is
    (taken-gives leg backs _ is none _ _ _ c.pop_lines.ensures.rows c.pop_lines.ensures.lines popped
    c.pop_lines.ensures.windows decided
    _ _ c.take_counted_row-back.result.0 (c.take_counted_row-back.ensures.takes _ can) g.F.FrameOut.stands_for c.args.out.now
    c.take_counted_row-back.new.out (c.take_counted_row-back.ensures.gives _ can))

pub returns-in-Some-clause-windows : goal.returns-in-Some-clause-windows
returns-in-Some-clause-windows g c = c.pop_lines.ensures.windows ∙ ap (λ (p : Parts). windows_in p.lines) c.self.view_is

pub returns-clause-windows : goal.returns-clause-windows
returns-clause-windows g c = c.pop_lines.ensures.windows ∙ ap (λ (p : Parts). windows_in p.lines) c.self.view_is
