-- Up to the word that comes next, the area is descrambled, and from there on it is as it was.
use Rattle.std.proofs.Common.{◌≡◌, ℕ, ◌*◌, Bool, List, ◌++◌, take, drop}
use Rattle.law_model.specs.Common.{descrambled_octets}
use Rattle.gfp_scramble.specs.Descrambler.{DescramblerStands, unknown}
use Rattle.gfp_scramble.proofs.descrambler.Descrambler.words.Given as goal

abbrev pub invariant-loop-i : goal.invariant-loop-i
invariant-loop-i l = record {
  stands : (settled : Bool) (octets : List ℕ) → DescramblerStands l.fn.self settled octets →
      DescramblerStands l.self settled (octets ++ take (8 * l.i) l.fn.area);
  front : (settled : Bool) (octets : List ℕ) → DescramblerStands l.fn.self settled octets →
      drop (unknown settled) (descrambled_octets (octets ++ take (8 * l.i) l.fn.area))
      ≡ drop (unknown settled) (descrambled_octets octets ++ take (8 * l.i) l.area);
  back : drop (8 * l.i) l.area ≡ drop (8 * l.i) l.fn.area;
}
