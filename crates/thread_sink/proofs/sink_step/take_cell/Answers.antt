-- One line has one cell more.
use Rattle.std.proofs.Common.{◌<◌, length, refl, sym, subst, arith, slice_set}
use Rattle.thread_rings.specs.EndsOfRing.{in_passed, SameIn}
use Rattle.thread_sink.specs.ReceivedByRings.{Missed}
use Rattle.thread_sink.specs.Step.{Grew, TookCell}
use Rattle.thread_sink.proofs.SinkStepAndFrameLaws.{map-with_cell, map-still, set-there, set-was, set-length, set-each}
use Rattle.thread_sink.proofs.sink_step.take_cell.Goals as goal

pub returns : goal.returns
returns c =
    let items = c.args.rx.now.items in
    let within : c.from.result < length items = omega (arith, c.from.ensures, c.requires.line, c.requires.rings) in
    record {
      took = λ took'.
          let took = c.pass_cell.ensures.took took' in
          subst (λ m. TookCell items (slice_set items c.from.result c.pass_cell.new.end) c.args.rows.now
          c.pass_cell.new.rows m) c.from.ensures (record {
            cell = took.cell;
            passed = map-with_cell in_passed items c.from.result c.index_mut.result.now c.pass_cell.new.end took.cell
                within c.index_mut.ensures.value took.passed;
            grew = subst (λ m. Grew c.args.rows.now c.pass_cell.new.rows m took.cell) (sym c.from.ensures) took.grew;
          });
      stays = λ none'.
          let stays = c.pass_cell.ensures.stays none' in (
            map-still in_passed items c.from.result c.index_mut.result.now c.pass_cell.new.end within
                c.index_mut.ensures.value stays.0,
            stays.1,
          );
      missed = λ none'.
          let missed = c.pass_cell.ensures.missed none' in
          subst (Missed items (slice_set items c.from.result c.pass_cell.new.end)) c.from.ensures (record {
            before = c.index_mut.result.now;
            after = c.pass_cell.new.end;
            was = set-was items c.from.result c.index_mut.result.now within c.index_mut.ensures.value;
            is = set-there items c.from.result c.pass_cell.new.end within;
            none = missed.0;
            counted = missed.1;
          });
      same = record {
        count = set-length items c.from.result c.pass_cell.new.end;
        each = set-each SameIn (λ a. (refl, refl, refl)) items c.from.result c.index_mut.result.now
            c.pass_cell.new.end within c.index_mut.ensures.value c.pass_cell.ensures.same;
      };
    }
