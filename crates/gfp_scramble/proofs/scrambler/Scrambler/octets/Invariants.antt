-- Up to the octet that comes next, the area is scrambled, and from there on it is as it was.
use Rattle.std.proofs.Common.{◌≡◌, ℕ, List, ◌++◌, take, drop}
use Rattle.law_model.specs.Common.{scrambled_octets}
use Rattle.gfp_scramble.specs.Scrambler.{ScramblerStands}
use Rattle.gfp_scramble.proofs.scrambler.Scrambler.octets.Given as goal

abbrev pub invariant-loop-octet : goal.invariant-loop-octet
invariant-loop-octet l = record {
  stands : (octets : List ℕ) → ScramblerStands l.fn.self octets → ScramblerStands l.self (octets ++ take l.octet-index l.fn.area);
  front : (octets : List ℕ) → ScramblerStands l.fn.self octets →
      scrambled_octets (octets ++ take l.octet-index l.fn.area) ≡ scrambled_octets octets ++ take l.octet-index l.area;
  back : drop l.octet-index l.area ≡ drop l.octet-index l.fn.area;
}
