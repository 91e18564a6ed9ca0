-- One line more has its packet.
use Rattle.std.proofs.Common.{◌+◌, ◌<◌, ◌∷◌, ◌++◌, [], length, sym, ◌∙◌, ap₂, arith}
use Rattle.std.proofs.lemmas.List.{length-set, take_more_set}
use Rattle.std.proofs.lemmas.List.FromFn.{map-range_with_len_more}
use Rattle.terminal_sink.specs.known_carriers.Supposed.{supposed_at}
use Rattle.terminal_sink.proofs.known_carriers.supposed_row.Goals as goal

pub loop-line-preserved : goal.loop-line-preserved
loop-line-preserved c =
    let line = c.loop-line.line in
    let packets = c.loop-line.packets in
    let packet = supposed_at c.args.states.now c.args.watches.now c.args.row.now in
    let inside : line < length packets =
    omega (arith, c.loop-line-test.true, c.requires.lines, c.loop-line.invariant.size) in
    record {
      size = length-set packets line c.supposed.result ∙ c.loop-line.invariant.size;
      done = take_more_set packets line c.supposed.result inside
          ∙ ap₂ (λ before here. before ++ here ∷ []) c.loop-line.invariant.done c.supposed.ensures
          ∙ sym (map-range_with_len_more packet 0 line line (omega arith));
    }
