-- What is near is read, what is read is near, and a word is fixed in one way alone.
use Rattle.gfp_noise.proofs.NearHeaderLaws.{near-flipped, near-IsNear, near-IsFixed}
use Rattle.check_hec16.proofs.HecWithOneWrongBitLaws.{fixed_once}
use Rattle.gfp_noise.proofs.flip_law.near_law.Goals as goal

pub returns-clause-flipped : goal.returns-clause-flipped
returns-clause-flipped c = near-flipped

pub returns-clause-read : goal.returns-clause-read
returns-clause-read c = near-IsNear

pub returns-clause-once : goal.returns-clause-once
returns-clause-once c = fixed_once

pub returns-clause-fixed : goal.returns-clause-fixed
returns-clause-fixed c = λ octets pli four below. near-IsFixed octets four below pli
