-- The descrambler has the octets so far.
use Rattle.std.proofs.Common.{take}
use Rattle.gfp_scramble.specs.Descrambler.{Continues}
use Rattle.gfp_delineate.proofs.area_octets.settle.Given as goal

abbrev pub invariant-loop-octet : goal.invariant-loop-octet
invariant-loop-octet l = Continues l.fn.descrambler l.descrambler (take l.octet-index l.piece)
