-- One pair more is laid beside each other.
use Rattle.std.proofs.Common.{◌≡◌, ℕ, arith, length, sym, subst}
use Rattle.thread_session.specs.session_parts.LineRingsLaid.{PairsBelow, IsReceiveLaid}
use Rattle.thread_session.proofs.WorkerShareAndPairListLaws.{pairs-none, pairs-left, pairs-next}
use Rattle.thread_session.proofs.session_parts.lay_ring_ends.lay_receives.Goals as goal

pub loop-m-init : goal.loop-m-init
loop-m-init c = pairs-none IsReceiveLaid c.args.workers.now.items c.args.rx.now.items

pub loop-m-preserved : goal.loop-m-preserved
loop-m-preserved c =
    pairs-next IsReceiveLaid c.loop-m.m _ c.args.rx.now.items c.loop-m.workers.items c.loop-m.rx.items _ _
    (sym c.requires.count) (omega (arith, c.loop-m-test.true, c.len-m-end.ensures, c.args.workers.now.ok.0))
    c.index_mut.ensures.value c.index_mut-in-loop-m.ensures.value c.loop-m.invariant c.lay_receive.new.worker
    c.lay_receive.new.into c.lay_receive.ensures

pub returns : goal.returns
returns c =
    let whole : c.loop-m.m ≡ length c.args.workers.now.items =
    omega (arith, c.loop-m-test.false, c.loop-m.auto.m-end, c.len-m-end.ensures, c.args.workers.now.ok.0) in
    subst (λ (n : ℕ). PairsBelow IsReceiveLaid n c.args.workers.now.items c.args.rx.now.items c.loop-m.workers.items
    c.loop-m.rx.items) whole c.loop-m.invariant

pub lay_receive-requires : goal.lay_receive-requires
lay_receive-requires c =
    let worker = c.index_mut.result.now in
    let into = c.index_mut-in-loop-m.result.now in
    let left = pairs-left IsReceiveLaid c.loop-m.m _ c.args.rx.now.items _ c.loop-m.rx.items worker into
    (sym c.requires.count) (omega (arith, c.loop-m-test.true, c.len-m-end.ensures, c.args.workers.now.ok.0))
    c.index_mut.ensures.value c.index_mut-in-loop-m.ensures.value c.loop-m.invariant in
    c.requires.ends c.loop-m.m worker into left.0 left.1
