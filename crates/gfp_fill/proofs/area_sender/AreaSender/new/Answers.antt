-- Two idles are begun, and no octet of an area.
use Rattle.std.proofs.Common.{[], refl, arith}
use Rattle.gfp_fill.proofs.IdlesAndNextPiecesLaws.{two_idles}
use Rattle.gfp_fill.proofs.area_sender.AreaSender.new.Goals as goal

pub returns : goal.returns
returns c = record {
  within = omega arith;
  given = [];
  scrambled = c.new.ensures;
  parts = refl;
  rest = two_idles;
}
