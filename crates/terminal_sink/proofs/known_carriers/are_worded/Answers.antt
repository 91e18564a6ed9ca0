-- One line more is worded.
use Rattle.std.proofs.Common.{◌≡◌, ℕ, suc, ◌+◌, ◌-◌, ◌&&◌, true, sym, ◌∙◌, ap, arith}
use Rattle.std.specs.List.{list_all, range_with_len}
use Rattle.terminal_sink.specs.known_carriers.Supposed.{is_worded}
use Rattle.terminal_sink.specs.member_watch.Watches.{watch_at}
use Rattle.terminal_sink.specs.lcas_sink.SinkStates.{state_at}
use Rattle.terminal_sink.proofs.known_carriers.are_worded.Goals as goal

pub loop-line-preserved : goal.loop-line-preserved
loop-line-preserved c =
    let line = c.loop-line.line in
    let lines = c.args.lines in
    let test = λ (line : ℕ). is_worded (state_at c.args.states.now line) (watch_at c.args.watches.now line) in
    let left : lines - line ≡ suc (lines - (line + 1)) = omega (arith, c.loop-line-test.true) in
    let here : test line ≡ true = sym c.is_worded.ensures ∙ cc in
    sym (ap (λ n. list_all test (range_with_len line n)) left
    ∙ ap (λ b. b && list_all test (range_with_len (line + 1) (lines - (line + 1)))) here)
    ∙ c.loop-line.invariant
