-- What the frames of a part carry, one after another.
use Rattle.member_au4.proofs.NumberedVcCountsLaws.{all-data}
use Rattle.member_au4.proofs.au4_pointer.pointer_laws.data_law.Goals as goal

pub returns : goal.returns
returns c = all-data
