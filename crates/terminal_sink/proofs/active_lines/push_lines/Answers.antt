-- There is room for one more line.
use Rattle.std.proofs.Common.{length, drop, sym, ◌∙◌, ap, arith, length-append}
use Rattle.law_model.specs.Common.{lines_at}
use Rattle.terminal_sink.proofs.ActiveLineAndSupposedCarrierLaws.{lines_at-here}
use Rattle.terminal_sink.proofs.active_lines.push_lines.Goals as goal

pub push-requires : goal.push-requires
push-requires c =
    let i = c.loop-line.line in
    let packets = c.args.packets.now in
    let found = c.loop-line.active in
    let rest = lines_at c.args.sq i (drop i packets) in
    let both = sym (length-append found rest) ∙ ap length c.loop-line.invariant
    ∙ length-append c.args.active.now (lines_at c.args.sq 0 packets) in
    let here = lines_at-here c.args.sq i packets c.loop-line-test.true (sym c.has.ensures ∙ c.if-has.true) in
    omega (arith, both, here, c.requires.room)
