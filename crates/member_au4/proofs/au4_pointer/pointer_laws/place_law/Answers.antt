-- It is so of the first frame, and each frame keeps it.
use Rattle.member_au4.proofs.SourceSendSteps.{place-after}
use Rattle.member_au4.proofs.au4_pointer.pointer_laws.place_law.Goals as goal

pub returns : goal.returns
returns c = place-after
