-- The lines of one number more, until all are found.
use Rattle.std.proofs.Common.{◌≡◌, ◌+◌, ◌≤◌, ◌++◌, length, sym, ◌∙◌, ap, arith, length-append}
use Rattle.law_model.specs.Common.{lines_at, active_from}
use Rattle.terminal_sink.specs.active_lines.CarryingLines.{carrying}
use Rattle.terminal_sink.proofs.ActiveLineAndSupposedCarrierLaws.{active_from-none, active_from-more, active_from-fits}
use Rattle.terminal_sink.proofs.ActiveLineAndSupposedCarrierLaws.{carrying-fits, active_of-found, found-lines}
use Rattle.terminal_sink.proofs.active_lines.find_active.Goals as goal

pub loop-sq-init : goal.loop-sq-init
loop-sq-init c = c.new-active.ensures ∙ sym (active_from-none 0 c.args.packets.now)

pub returns-then-len-count-clause-active : goal.returns-then-len-count-clause-active
returns-then-len-count-clause-active c =
    let packets = c.args.packets.now in
    let n = c.loop-sq.sq in
    let size = ap length c.loop-sq.invariant in
    let count : length (active_from 0 n packets) ≡ carrying packets =
    omega (arith, size, c.len.ensures, c.if-len-count.true, c.carrying-count.ensures) in
    let below : n ≤ 256 = omega (arith, c.loop-sq-test.true) in
    c.loop-sq.invariant ∙ active_of-found n packets below count

pub returns-then-len-count-clause-lines : goal.returns-then-len-count-clause-lines
returns-then-len-count-clause-lines c =
    found-lines c.args.packets.now c.loop-sq.active (returns-then-len-count-clause-active c)

pub returns-clause-lines : goal.returns-clause-lines
returns-clause-lines c =
    let packets = c.args.packets.now in
    let all : c.loop-sq.sq ≡ 256 = omega (arith, c.loop-sq-test.false, c.loop-sq.auto.sq-end) in
    found-lines packets c.loop-sq.active (c.loop-sq.invariant ∙ ap (λ n. active_from 0 n packets) all)

pub push_lines-requires-clause-room : goal.push_lines-requires-clause-room
push_lines-requires-clause-room c =
    let packets = c.args.packets.now in
    let n = c.loop-sq.sq in
    let more = ap length (active_from-more n packets)
    ∙ length-append (active_from 0 n packets) (lines_at n 0 packets) in
    let fits = active_from-fits (n + 1) 0 packets in
    let all = carrying-fits packets in
    let found = ap length c.loop-sq.invariant in
    let few = c.requires in
    omega (arith, more, found)

pub loop-sq-preserved : goal.loop-sq-preserved
loop-sq-preserved c =
    let packets = c.args.packets.now in
    let n = c.loop-sq.sq in
    c.push_lines.ensures ∙ ap (λ found. found ++ lines_at n 0 packets) c.loop-sq.invariant
    ∙ sym (active_from-more n packets)
