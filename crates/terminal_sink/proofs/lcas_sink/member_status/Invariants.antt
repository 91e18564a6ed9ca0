-- The bits so far, with the statuses that are left behind them, are the octet.
use Rattle.std.proofs.Common.{◌≡◌, ◌+◌, ◌-◌, ◌<◌, ◌^◌, map, not}
use Rattle.std.specs.List.{range_with_len}
use Rattle.law_model.specs.Common.{number_behind}
use Rattle.terminal_sink.specs.member_watch.Watches.{is_told, mst_by}
use Rattle.terminal_sink.proofs.lcas_sink.member_status.Given as goal

abbrev pub invariant-loop-place : goal.invariant-loop-place
invariant-loop-place l = record {
  value : number_behind l.mst (map (λ sq. not (is_told l.watches sq)) (range_with_len (l.first + l.place) (8 - l.place)))
      ≡ mst_by l.watches l.first;
  small : l.mst < 2 ^ l.place;
}
