-- What was received so far, as private clauses say it.
use Rattle.std.specs.Prelude.{◌≡◌, ℕ, List, length, Option}
use Rattle.law_model.specs.Common.{Start}
use Rattle.text_report.specs.ReportLines.{got_texts}
use Rattle.text_got.specs.TextSoFar.{HasText}
use Rattle.gfp_noise.specs.gfp_fcs.Delineator.{fcs_outcomes}
use Rattle.gfp_noise.specs.gfp_fcs.Delineator as delineator
use Rattle.gfp_noise.specs.declared.noise_link.noise_reception.Reception.{Reception}
use Rattle.gfp_noise.specs.noise_link.NoiseReportText.{delivered, causes}

-- these octets were received: the lines of the frames that they delivered were written since a start, or wait, and the
-- frames are counted
pub record Received {K : Type 0} (written : K → Option (List ℕ)) (faults : K → ℕ) (reception : Reception K)
    (start : Start) (octets : List ℕ) : Type 0 where
  pub stands : delineator.FcsReceiverStands reception.delineator octets
  pub text : HasText written faults reception.lines start (got_texts (delivered (fcs_outcomes octets)))
  pub got : reception.got ≡ length (delivered (fcs_outcomes octets))
  pub dropped : reception.dropped ≡ length (causes (fcs_outcomes octets))
