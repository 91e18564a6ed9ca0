-- No more than the number behind the last of them.
use Rattle.std.proofs.Common.{arith}
use Rattle.law_model.proofs.StreamPlacesLaws.{behind_least}
use Rattle.law_model.proofs.script_items.streams.Streams.streamed.Goals as goal

pub returns-clause-few : goal.returns-clause-few
returns-clause-few c =
    let least = behind_least c.self.inside.streams.items 0 0 c.self.invariant.0 in
    omega (arith, least, c.self.invariant.1, c.self.invariant.2, c.self.invariant.3)
