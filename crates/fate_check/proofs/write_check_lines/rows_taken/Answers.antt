-- As many as the counts say, and no more than were made.
use Rattle.std.proofs.Common.{ap, arith}
use Rattle.law_model.specs.declared.session_totals.Totals.{Totals}
use Rattle.law_model.specs.session.Leg.{leg_of}
use Rattle.fate_walks.proofs.FatesAndSeenRowsLaws.{few-rows}
use Rattle.fate_walks.proofs.FatesAndSeenRowsLaws.{reach}
use Rattle.fate_check.proofs.write_check_lines.rows_taken.Goals as goal

pub returns : goal.returns
returns c =
    let taken = ap (λ (t : Totals). t.taken) c.totals.ensures in
    let few = few-rows (leg_of c.args.walk.now.script) c.args.walk.now.counts c.requires.sound c.requires.walked in
    let known = c.requires.rows.known in
    let low = reach (leg_of c.args.walk.now.script) c.args.walk.now.counts c.args.seen.now c.requires in
    record {
      rows = taken;
      few = omega (arith, taken, few.0, few.2);
      governed = omega (arith, taken, low);
      known = omega (arith, taken, known);
    }
