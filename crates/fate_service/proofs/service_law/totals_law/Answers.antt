-- The last line beside other texts.
use Rattle.fate_service.proofs.LandedFrameTallyLaws.{fates-told, walk-got, frames-add, octets-add}
use Rattle.fate_service.proofs.MemberRunAndCarriedOctetLaws.{octets-fit}
use Rattle.fate_service.proofs.service_law.totals_law.Goals as goal

pub returns : goal.returns
returns c = record {
  fates = fates-told;
  walk = walk-got;
  frames = frames-add;
  octets = octets-add;
  fits = octets-fit;
}
