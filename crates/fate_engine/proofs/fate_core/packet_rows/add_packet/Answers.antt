-- One more packet of the last run, or of a new one.
use Rattle.std.proofs.Common.{◌≡◌, ◌-◌, ◌<◌, suc, List, length, Some, slice_get, sym, ◌∙◌, ap, ap₂, subst, arith}
use Rattle.law_model.proofs.ListLaws.{at-index}
use Rattle.fate_engine.specs.Common.{AreApart, ArePacketRuns}
use Rattle.fate_engine.proofs.PacketRowPlaceLaws.{longer-active, longer-runs, with-run, apart-longer, apart-new}
use Rattle.fate_engine.specs.declared.fate_core.packet_rows.Run.{Run}
use Rattle.fate_engine.proofs.fate_core.packet_rows.add_packet.Goals as goal

some : (c : goal.After-runs-1) → 0 < length c.args.runs.now.items
some c = let low = c.goes_on.ensures.some c.if-goes_on.true in omega (arith, low, ap length c.deref.ensures.value)

count : (c : goal.After-runs-1) → suc (c.len-last.result - 1) ≡ length c.args.runs.now.items
count c = let n = c.len-last.ensures in omega (arith, some c, n)

there : (c : goal.After-runs-1) → slice_get c.args.runs.now.items (c.len-last.result - 1) ≡ Some c.index_mut.result.now
there c =
    at-index c.args.runs.now.items (c.len-last.result - 1) c.index_mut.result.now
    (let all = count c in omega (arith, all)) c.index_mut.ensures.value

pub returns-then-goes_on-clause-active : goal.returns-then-goes_on-clause-active
returns-then-goes_on-clause-active c =
    longer-active c.args.runs.now.items (c.len-last.result - 1) c.index_mut.result.now (count c) (there c)
    c.args.lines.items
    (c.goes_on.ensures.same c.index_mut.result.now c.if-goes_on.true (ap₂ slice_get c.deref.ensures.value
    (let n = c.len-last.ensures in let e : length c.deref.result.now - 1 ≡ c.len-last.result - 1 =
    omega (arith, n, ap length c.deref.ensures.value) in e) ∙ there c))

pub returns-then-goes_on-clause-begin : goal.returns-then-goes_on-clause-begin
returns-then-goes_on-clause-begin c = λ size are start.
    longer-runs c.args.runs.now.items (c.len-last.result - 1) c.index_mut.result.now (count c) (there c) size are

pub returns-clause-begin : goal.returns-clause-begin
returns-clause-begin c = λ size are start.
    subst (ArePacketRuns size) (sym c.in_ok-push.ensures.items)
    (with-run size c.args.runs.now.items
    (record { lines = c.args.lines; packets = 1; row = c.args.row; start = c.args.start }) are
    (record { narrow = c.requires.lines; row = c.requires.row; start = start }))

pub returns-then-goes_on-clause-longest : goal.returns-then-goes_on-clause-longest
returns-then-goes_on-clause-longest c =
    apart-longer c.args.runs.now.items (c.len-last.result - 1) c.index_mut.result.now (count c) (there c)

pub returns-clause-longest : goal.returns-clause-longest
returns-clause-longest c = λ are.
    subst AreApart (sym c.in_ok-push.ensures.items)
    (apart-new c.args.runs.now.items
    (record { lines = c.args.lines; packets = 1; row = c.args.row; start = c.args.start })
    (λ last there. c.goes_on.ensures.other last c.if-goes_on.false
    (ap₂ slice_get c.deref.ensures.value (ap (λ (l : List Run). length l - 1) c.deref.ensures.value) ∙ there)) are)
