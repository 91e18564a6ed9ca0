-- What was opened is the script's.
use Rattle.std.proofs.Common.{refl, sym, ap}
use Rattle.law_model.specs.members.Damage.{carried}
use Rattle.law_model.specs.Common.{leg_of}
use Rattle.walk_engine.proofs.walk_core.walk.Walk.new.Goals as goal

pub begun-requires-clause-stands : goal.begun-requires-clause-stands
begun-requires-clause-stands c = c.in_ok-live.ensures.stands (leg_of c.args.script)
    (record { sound = c.requires.sound; network = refl; quiet = refl })

pub begun-requires-clause-counts : goal.begun-requires-clause-counts
begun-requires-clause-counts c = c.in_ok-live.ensures.counts (leg_of c.args.script)
    (record { sound = c.requires.sound; network = refl; quiet = refl })

pub begun-requires-clause-known : goal.begun-requires-clause-known
begun-requires-clause-known c t m low = ap (λ windows. carried windows t) (sym (c.in_ok-live.ensures.windows m low))
