-- One status more behind the bits so far, and none is left after eight.
use Rattle.std.proofs.Common.{◌∙◌, arith}
use Rattle.terminal_sink.specs.member_watch.Watches.{is_told}
use Rattle.terminal_sink.proofs.SinkStateAndMemberStatusLaws.{status-first, status-more, status-small, status-last}
use Rattle.terminal_sink.proofs.lcas_sink.member_status.Goals as goal

pub loop-place-init : goal.loop-place-init
loop-place-init c =
    record { value = status-first (is_told c.args.watches.now) c.args.first; small = omega arith }

pub loop-place-preserved : goal.loop-place-preserved
loop-place-preserved c =
    record {
      value = status-more (is_told c.args.watches.now) c.args.first c.loop-place.place c.loop-place.mst
          c.status_bit.result (omega arith) c.status_bit.ensures ∙ c.loop-place.invariant.value;
      small = status-small c.loop-place.mst c.loop-place.place c.status_bit.result _ c.status_bit.ensures
          c.loop-place.invariant.small;
    }

pub returns : goal.returns
returns c = status-last (is_told c.args.watches.now) c.args.first c.loop-place.place c.loop-place.mst
    (omega arith) c.loop-place.invariant.value
