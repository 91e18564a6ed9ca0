-- The bits that were turned over give no header; those that are left decide.
use Rattle.std.proofs.Common.{◌≡◌, ◌-◌}
use Rattle.gfp_model.specs.fcs_model.NearHeader.{near, turned_below}
use Rattle.gfp_delineate.proofs.corrected_header.read_near.Given as goal

abbrev pub invariant-loop-place : goal.invariant-loop-place
invariant-loop-place l = near l.octets ≡ turned_below (32 - l.place) l.octets
