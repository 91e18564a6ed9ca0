-- Why a row isn't whole.
use Rattle.fate_engine.proofs.SpoiledRunAndWholeContainerLaws.{cause-whole}
use Rattle.fate_engine.proofs.fate_law.cause_law.Goals as goal

pub returns : goal.returns
returns c = cause-whole
