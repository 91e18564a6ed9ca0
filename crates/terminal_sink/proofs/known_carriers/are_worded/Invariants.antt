-- What the lines so far said last counts, so that those that are left decide.
use Rattle.std.proofs.Common.{◌≡◌, ◌-◌}
use Rattle.std.specs.List.{list_all, range_with_len}
use Rattle.terminal_sink.specs.known_carriers.Supposed.{is_worded, are_all_worded}
use Rattle.terminal_sink.specs.member_watch.Watches.{watch_at}
use Rattle.terminal_sink.specs.lcas_sink.SinkStates.{state_at}
use Rattle.terminal_sink.proofs.known_carriers.are_worded.Given as goal

abbrev pub invariant-loop-line : goal.invariant-loop-line
invariant-loop-line l =
    list_all (λ line. is_worded (state_at l.states line) (watch_at l.watches line))
    (range_with_len l.line (l.lines - l.line)) ≡ are_all_worded l.states l.watches l.lines
