-- The register stands after the octets before and those that were read.
use Rattle.std.proofs.Common.{ℕ, List, ◌++◌, take}
use Rattle.check_crc32.specs.Crc32.{BitOrder}
use Rattle.check_crc32.specs.Register.{RegisterStands, IsTable}
use Rattle.check_crc32.proofs.frame_check.after_octets.Given as goal

abbrev pub invariant-loop-i : goal.invariant-loop-i
invariant-loop-i l = (order : BitOrder) (before : List ℕ) → IsTable order l.table →
    RegisterStands order before l.begun → RegisterStands order (before ++ take l.i l.octets) l.register
