-- What stands behind the octets that are copied stays.
use Rattle.std.proofs.Common.{rules}
use Rattle.std.proofs.lemmas.Slice.{overwrites}
use Rattle.gfp_fill.proofs.copy_octets.copy_some.Goals as goal

pub returns-clause-behind : goal.returns-clause-behind
returns-clause-behind c = search (rules, overwrites)
