-- Legs that meet what is asked.
use Rattle.law_service.proofs.WorkedServiceLegLaws.{costly-sound, costly-settled, costly-together, costly-has}
use Rattle.law_service.proofs.WorkedServiceLegLaws.{costly-were}
use Rattle.law_service.proofs.WorkedPartedLegLaws.{parted-sound, parted-settled, parted-together, parted-were}
use Rattle.law_service.proofs.cost_of_failures.met_law.Goals as goal

pub returns : goal.returns
returns c = record {
  sound = costly-sound;
  settled = costly-settled;
  together = costly-together;
  has = costly-has;
  were = costly-were;
  parted_sound = parted-sound;
  parted_settled = parted-settled;
  parted_together = parted-together;
  parted_were = parted-were;
}
