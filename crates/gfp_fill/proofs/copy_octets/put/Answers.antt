-- What stands behind the octets that are put stays.
use Rattle.std.proofs.Common.{rules}
use Rattle.std.proofs.lemmas.Slice.{overwrites}
use Rattle.gfp_fill.proofs.copy_octets.put.Goals as goal

pub returns-clause-back : goal.returns-clause-back
returns-clause-back c = search (rules, overwrites)
