-- One line more, and the end of the whole lines.
use Rattle.std.proofs.Common.{ℕ, ◌-◌, List, length, take, arith, length-take, length-append}
use Rattle.text_scripts.proofs.ScriptLineAndFirstFaultLaws.{rest_more, line_more, line_fails, piece_read}
use Rattle.text_scripts.proofs.script_read.script_reader.ScriptReader.read_lines.Goals as goal

pub loop-line-preserved : goal.loop-line-preserved
loop-line-preserved c =
    let piece : List ℕ = c.args.piece.now in
    let rest : List ℕ = c.loop-line.rest.now in
    let later : List ℕ = c.in-Some.later.now in
    record {
      read = line_more piece rest later c.loop-line.invariant.within c.in-Some.ensures.moves c.loop-line.invariant.rest
          _ c.loop-line.self.number _ _ _ c.loop-line.invariant.read c.in-Some.ensures.some _ _
          c.in-Ok.ensures.sound c.in-Ok.ensures.number c.in-Ok.ensures.adds;
      rest = rest_more piece rest later c.loop-line.invariant.within c.in-Some.ensures.moves
          c.loop-line.invariant.rest c.in-Some.ensures.rest;
      within = omega (arith, c.loop-line.invariant.within, c.in-Some.ensures.moves);
      reader = c.in-Ok.ensures.reader;
      small = omega (arith, c.loop-line.invariant.small, c.in-Some.ensures.moves, c.in-Ok.ensures.number);
    }

pub returns-in-Err-clause-fault : goal.returns-in-Err-clause-fault
returns-in-Err-clause-fault c text stands =
    let piece : List ℕ = c.args.piece.now in
    let rest : List ℕ = c.loop-line.rest.now in
    let later : List ℕ = c.in-Some.later.now in
    line_fails piece rest later c.loop-line.invariant.within c.in-Some.ensures.moves c.loop-line.invariant.rest
    _ c.loop-line.self.number _ _ _ c.loop-line.invariant.read c.in-Some.ensures.some text _ stands.said
    c.in-Some.ensures.rest c.in-Err.ensures.fault

pub returns-clause-stands : goal.returns-clause-stands
returns-clause-stands c text stands =
    let piece : List ℕ = c.args.piece.now in
    let k : ℕ = length piece - length c.loop-line.rest.now in
    record {
      said = piece_read text piece k _ _ _ _ stands.said c.loop-line.invariant.read;
      count = omega (
        arith,
        c.loop-line.invariant.small,
        c.loop-line.invariant.within,
        stands.count,
        length-append text (take k piece),
        length-take k piece,
      );
    }
