-- The frames lie in the order of the rows that decide, and the row is governed.
use Rattle.std.proofs.Common.{length, sym, ◌∙◌, ap, subst, arith}
use Rattle.std.specs.List.Sorted.{IsNonDecreasingBy}
use Rattle.law_model.specs.Common.{leg_of}
use Rattle.fate_walks.proofs.FatesAndSeenRowsLaws.{reach}
use Rattle.fate_service.specs.declared.landed_frames.CarriedFrame.{CarriedFrame}
use Rattle.fate_service.proofs.LandedFrameTallyLaws.{carried-count}
use Rattle.fate_service.proofs.FrameTickAndRowOrderLaws.{at-ordered}
use Rattle.fate_service.proofs.service_report.write_outage.Goals as goal

pub losses-lost-requires : goal.losses-lost-requires
losses-lost-requires g c = record {
  few =
      let few = carried-count (leg_of c.args.walk.now.script) c.args.walk.now.counts c.args.survey.now.landed
      c.requires.seen.sound c.requires.survey.landed in
      omega (arith, ap length c.deref.ensures.value, few);
  order = subst (λ l. IsNonDecreasingBy (λ (f : CarriedFrame). f.at) l)
      (sym (c.deref.ensures.value ∙ c.requires.survey.landed.carried))
      (at-ordered (leg_of c.args.walk.now.script) c.args.walk.now.counts);
}

pub row_cause-cause-requires-clause-governed : goal.row_cause-cause-requires-clause-governed
row_cause-cause-requires-clause-governed g c =
    let low = reach (leg_of c.args.walk.now.script) c.args.walk.now.counts c.args.seen.now c.requires.seen in
    omega (arith, c.requires.within, low)

pub row_cause-cause-requires-clause-known : goal.row_cause-cause-requires-clause-known
row_cause-cause-requires-clause-known g c = omega (arith, c.requires.within, c.requires.seen.rows.known)
