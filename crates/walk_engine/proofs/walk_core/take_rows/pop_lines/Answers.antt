-- A line pops until it decides the next row, or is the first that doesn't.
use Rattle.std.proofs.Common.{rules, refl, sym, ◌∙◌, ap, arith, length-set}
use Rattle.member_path.specs.path_delay.CallsOnDelayedLine.{Line}
use Rattle.walk_engine.proofs.LineCarryAndSendRingLaws.{windows-set}
use Rattle.law_model.proofs.ListLaws.{at-index}
use Rattle.walk_engine.specs.Common.{calls_of}
use Rattle.walk_engine.proofs.ReceiveRingAndPopLaws.{popping-none, popping-all, is-next, popping-next, popping-waits}
use Rattle.walk_engine.proofs.walk_core.take_rows.pop_lines.Goals as goal

pub loop-m-init : goal.loop-m-init
loop-m-init c = record {
  size = refl;
  count = refl;
  rows = refl;
  windows = refl;
  pops =
      λ leg can. popping-none leg c.args.lines.now.items c.args.rows.now can;
}

pub returns-then-not-pop_into : goal.returns-then-not-pop_into
returns-then-not-pop_into c =
    let inv = c.loop-m.invariant in
    let m = c.loop-m.m in
    let line = c.index_mut.result.now in
    let test = c.loop-m-test.true in
    let end = c.len-m-end.ensures in
    let size = inv.size in
    let there = at-index c.loop-m.lines.items m line (omega (arith, test, end, size)) c.index_mut.ensures.value in
    record {
      pops = λ leg can.
          let has = inv.pops leg can in
          let next = is-next leg c.args.lines.now.items c.loop-m.lines.items c.loop-m.rows m has line there in
          let calls = calls_of leg m line in
          popping-waits leg c.args.lines.now.items c.loop-m.lines.items c.loop-m.rows m has line there c.pop_into.new.self
          c.pop_into.new.rows
          c.pop_into.ensures.others c.pop_into.ensures.rows (c.pop_into.ensures.popped calls _ next)
          (c.pop_into.ensures.has calls next.has) (c.pop_into.ensures.gathers calls _ next)
          (sym c.if-not-pop_into.true ∙ c.pop_into.ensures.decides calls _ next);
      lines = search rules;
      rows = search rules;
      windows = windows-set c.loop-m.lines.items m line c.pop_into.new.self there
          (ap (λ (l : Line). l.windows) c.pop_into.ensures.others.core) ∙ inv.windows;
    }

pub loop-m-preserved : goal.loop-m-preserved
loop-m-preserved c =
    let inv = c.loop-m.invariant in
    let m = c.loop-m.m in
    let line = c.index_mut.result.now in
    let test = c.loop-m-test.true in
    let end = c.len-m-end.ensures in
    let size = inv.size in
    let there = at-index c.loop-m.lines.items m line (omega (arith, test, end, size)) c.index_mut.ensures.value in
    record {
      size = length-set c.loop-m.lines.items m c.pop_into.new.self ∙ inv.size;
      count = c.pop_into.ensures.lines ∙ inv.count;
      rows = c.pop_into.ensures.rows ∙ inv.rows;
      windows = windows-set c.loop-m.lines.items m line c.pop_into.new.self there
          (ap (λ (l : Line). l.windows) c.pop_into.ensures.others.core) ∙ inv.windows;
      pops = λ leg can.
          let has = inv.pops leg can in
          let next = is-next leg c.args.lines.now.items c.loop-m.lines.items c.loop-m.rows m has line there in
          let calls = calls_of leg m line in
          popping-next leg c.args.lines.now.items c.loop-m.lines.items c.loop-m.rows m has line there
          c.pop_into.new.self c.pop_into.new.rows
          c.pop_into.ensures.others c.pop_into.ensures.rows (c.pop_into.ensures.popped calls _ next)
          (c.pop_into.ensures.has calls next.has) (c.pop_into.ensures.gathers calls _ next)
          (sym c.if-not-pop_into.false ∙ c.pop_into.ensures.decides calls _ next);
    }

pub returns-clause-pops : goal.returns-clause-pops
returns-clause-pops c leg can =
    let inv = c.loop-m.invariant in
    let test = c.loop-m-test.false in
    let end = c.len-m-end.ensures in
    let size = inv.size in
    popping-all leg c.args.lines.now.items c.loop-m.lines.items c.loop-m.rows c.loop-m.m
    (omega (arith, test, end, size)) (inv.pops leg can)
