-- The frames that are delivered of a first part of the opening are those whose piece ends in it.
use Rattle.gfp_delineate.proofs.WholeAreaDeliveryLaws.{delivered-opening}
use Rattle.gfp_delineate.proofs.delineator.delivery_law.Goals as goal

pub returns : goal.returns
returns c longest frames idles place fits all within = delivered-opening longest frames idles place fits all
