-- One pair more is laid beside each other.
use Rattle.std.proofs.Common.{◌≡◌, ℕ, arith, length, subst}
use Rattle.thread_session.specs.session_parts.LineRingsLaid.{PairsBelow, IsSendLaid}
use Rattle.thread_session.proofs.WorkerShareAndPairListLaws.{pairs-none, pairs-left, pairs-next}
use Rattle.thread_session.proofs.session_parts.lay_ring_ends.lay_sends.Goals as goal

pub loop-m-init : goal.loop-m-init
loop-m-init c = pairs-none IsSendLaid c.args.tx.now.items c.args.workers.now.items

pub loop-m-preserved : goal.loop-m-preserved
loop-m-preserved c =
    pairs-next IsSendLaid c.loop-m.m c.args.tx.now.items c.args.workers.now.items c.loop-m.tx.items
    c.loop-m.workers.items c.index_mut.result.now c.index_mut-in-loop-m.result.now c.requires.count
    (omega (arith, c.loop-m-test.true, c.len-m-end.ensures, c.args.workers.now.ok.0, c.requires.count))
    c.index_mut.ensures.value c.index_mut-in-loop-m.ensures.value c.loop-m.invariant
    c.lay_send.new.out c.lay_send.new.worker c.lay_send.ensures

pub returns : goal.returns
returns c =
    let whole : c.loop-m.m ≡ length c.args.workers.now.items =
    omega (arith, c.loop-m-test.false, c.loop-m.auto.m-end, c.len-m-end.ensures, c.args.workers.now.ok.0) in
    subst (λ (n : ℕ). PairsBelow IsSendLaid n c.args.tx.now.items c.args.workers.now.items c.loop-m.tx.items
    c.loop-m.workers.items) whole c.loop-m.invariant

pub lay_send-requires : goal.lay_send-requires
lay_send-requires c =
    let out = c.index_mut.result.now in
    let worker = c.index_mut-in-loop-m.result.now in
    let left = pairs-left IsSendLaid c.loop-m.m c.args.tx.now.items c.args.workers.now.items c.loop-m.tx.items
    c.loop-m.workers.items out worker c.requires.count
    (omega (arith, c.loop-m-test.true, c.len-m-end.ensures, c.args.workers.now.ok.0, c.requires.count))
    c.index_mut.ensures.value c.index_mut-in-loop-m.ensures.value c.loop-m.invariant in
    c.requires.ends c.loop-m.m out worker left.0 left.1
