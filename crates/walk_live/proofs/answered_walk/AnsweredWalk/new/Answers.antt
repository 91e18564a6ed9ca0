-- Nothing was said.
use Rattle.std.proofs.Common.{refl}
use Rattle.walk_live.proofs.AnsweredWalkAndSayingLaws.{nothing-items, nothing-waits, nothing-walks}
use Rattle.walk_live.proofs.AnsweredWalkAndSayingLaws.{nothing-well}
use Rattle.walk_live.proofs.answered_walk.AnsweredWalk.new.Goals as goal

pub returns : goal.returns
returns c =
    let config = c.args.config.now in
    let made = c.in_ok-walk.ensures in
    record {
      network = c.requires;
      well = nothing-well config;
      walks = nothing-walks config c.in_ok-walk.walk c.requires made.stands made.counts made.windows;
      lines = refl;
      items = nothing-items config;
      waiting = λ leg is. nothing-waits config leg;
      tells = refl;
    }
