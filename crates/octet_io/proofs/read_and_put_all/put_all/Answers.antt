-- Each call puts the next octets, or is the last one.
use Rattle.std.proofs.Common.{arith}
use Rattle.std.proofs.lemmas.Grind.{common_steps}
use Rattle.std.proofs.lemmas.List.{take_rest}
use Rattle.octet_io.proofs.AppendedTextAndPrefixLaws.{Appends-more, AppendsPart-stop}
use Rattle.octet_io.proofs.read_and_put_all.put_all.Goals as goal

pub loop-at-preserved : goal.loop-at-preserved
loop-at-preserved g c = record {
  within = grind (arith, common_steps);
  written = Appends-more _ _ _ _ _ _ c.loop-at.at c.in-Ok.n c.loop-at.invariant.written
      (rw take_rest at c.in-Ok.ensures.appended) c.in-Ok.ensures.quiet;
}

pub returns-in-Err-clause-err : goal.returns-in-Err-clause-err
returns-in-Err-clause-err g c =
    AppendsPart-stop _ _ _ _ _ _ c.loop-at.at (omega arith) c.loop-at.invariant.written c.in-Err.ensures.stays
    c.in-Err.ensures.counted
