-- Nothing has come, and nothing is on its way.
use Rattle.std.proofs.Common.{sym, subst}
use Rattle.law_model.specs.Common.{leg_of}
use Rattle.walk_engine.specs.Common.{HasLanded}
use Rattle.walk_engine.proofs.OpenedWayLaws.{none-known}
use Rattle.walk_engine.proofs.walk_core.walk.Walk.begun.Goals as goal

pub invariant_of-result : goal.invariant_of-result
invariant_of-result c = (
  c.requires.script,
  record {
    stands = c.requires.stands;
    known = c.requires.known;
    landed = subst (λ s. HasLanded (leg_of c.args.script) s c.args.landing) (sym c.requires.counts)
        (none-known (leg_of c.args.script) c.args.landing c.requires.landing);
  },
)
