-- The octets so far, and those that are left.
use Rattle.std.proofs.Common.{◌≡◌, ◌-◌, ◌++◌, length, take}
use Rattle.member_au4.specs.au4_link.Vcs.{rising}
use Rattle.member_au4.proofs.au4_link.numbered_vcs.fill_rising.Given as goal

abbrev pub invariant-loop-i : goal.invariant-loop-i
invariant-loop-i l = rising (length l.fn.out) l.fn.first ≡ take l.i l.out ++ rising (length l.fn.out - l.i) l.octet
