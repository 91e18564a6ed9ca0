-- One line more, and the end of the whole lines.
use Rattle.std.proofs.Common.{List, ℕ, subst, arith}
use Rattle.text_lines.specs.Cut.{Lacks}
use Rattle.text_pairs.proofs.PairScriptReaderLaws.{rest_more, line_more, line_fails}
use Rattle.text_pairs.proofs.pair_reader.PairReader.read_lines.Goals as goal

pub loop-line-preserved : goal.loop-line-preserved
loop-line-preserved c =
    let piece : List ℕ = c.args.piece.now in
    let rest : List ℕ = c.loop-line.rest.now in
    let later : List ℕ = c.in-Some.later.now in
    record {
      said = line_more piece rest later c.loop-line.invariant.within c.in-Some.ensures.moves c.loop-line.invariant.rest
          c.args.self c.loop-line.reader _ c.loop-line.invariant.said c.in-Some.ensures.some _ c.in-Ok.ensures.sound
          c.in-Ok.ensures.at;
      rest = rest_more piece rest later c.loop-line.invariant.within c.in-Some.ensures.moves
          c.loop-line.invariant.rest c.in-Some.ensures.rest;
      within = omega (arith, c.loop-line.invariant.within, c.in-Some.ensures.moves);
      made = c.in-Ok.ensures.reader;
      count = omega (arith, c.loop-line.invariant.count, c.in-Some.ensures.moves, c.in-Ok.ensures.at.number);
    }

pub returns-in-Err-clause-fault : goal.returns-in-Err-clause-fault
returns-in-Err-clause-fault c =
    let piece : List ℕ = c.args.piece.now in
    let rest : List ℕ = c.loop-line.rest.now in
    let later : List ℕ = c.in-Some.later.now in
    line_fails piece rest later c.loop-line.invariant.within c.in-Some.ensures.moves c.loop-line.invariant.rest
    c.args.self c.loop-line.reader _ c.loop-line.invariant.said c.in-Some.ensures.some c.in-Err.fault
    c.in-Some.ensures.rest c.in-Err.ensures.fault

pub returns-clause-said : goal.returns-clause-said
returns-clause-said c = c.loop-line.invariant.said

pub returns-clause-cut : goal.returns-clause-cut
returns-clause-cut c = subst (Lacks 10) c.loop-line.invariant.rest c.in_default.ensures.none

pub returns-clause-count : goal.returns-clause-count
returns-clause-count c = omega (arith, c.loop-line.invariant.count, c.loop-line.invariant.within)
