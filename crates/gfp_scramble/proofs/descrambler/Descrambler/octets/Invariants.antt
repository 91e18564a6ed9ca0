-- Up to the octet that comes next, the area is descrambled, and from there on it is as it was.
use Rattle.std.proofs.Common.{◌≡◌, ℕ, Bool, List, ◌++◌, take, drop}
use Rattle.law_model.specs.Common.{descrambled_octets}
use Rattle.gfp_scramble.specs.Descrambler.{DescramblerStands, unknown}
use Rattle.gfp_scramble.proofs.descrambler.Descrambler.octets.Given as goal

abbrev pub invariant-loop-octet : goal.invariant-loop-octet
invariant-loop-octet l = record {
  stands : (settled : Bool) (octets : List ℕ) → DescramblerStands l.fn.self settled octets →
      DescramblerStands l.self settled (octets ++ take l.octet-index l.fn.area);
  front : (settled : Bool) (octets : List ℕ) → DescramblerStands l.fn.self settled octets →
      drop (unknown settled) (descrambled_octets (octets ++ take l.octet-index l.fn.area))
      ≡ drop (unknown settled) (descrambled_octets octets ++ take l.octet-index l.area);
  back : drop l.octet-index l.area ≡ drop l.octet-index l.fn.area;
}
