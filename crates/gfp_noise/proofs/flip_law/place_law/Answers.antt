-- The same with flips that places tell, and which bits these turn over.
use Rattle.gfp_noise.proofs.FlipPlaceAndBitLaws.{get_or-flips_of}
use Rattle.gfp_noise.proofs.FlippedFcsStreamLaws.{delivered-places}
use Rattle.gfp_noise.proofs.flip_law.place_law.Goals as goal

pub returns-clause-delivered : goal.returns-clause-delivered
returns-clause-delivered c = delivered-places

pub returns-clause-places : goal.returns-clause-places
returns-clause-places c = get_or-flips_of
