-- Up to the word that comes next, the area is scrambled, and from there on it is as it was.
use Rattle.std.proofs.Common.{◌≡◌, ℕ, ◌*◌, List, ◌++◌, take, drop}
use Rattle.law_model.specs.Common.{scrambled_octets}
use Rattle.gfp_scramble.specs.Scrambler.{ScramblerStands}
use Rattle.gfp_scramble.proofs.scrambler.Scrambler.words.Given as goal

abbrev pub invariant-loop-i : goal.invariant-loop-i
invariant-loop-i l = record {
  stands : (octets : List ℕ) → ScramblerStands l.fn.self octets → ScramblerStands l.self (octets ++ take (8 * l.i) l.fn.area);
  front : (octets : List ℕ) → ScramblerStands l.fn.self octets →
      scrambled_octets (octets ++ take (8 * l.i) l.fn.area) ≡ scrambled_octets octets ++ take (8 * l.i) l.area;
  back : drop (8 * l.i) l.area ≡ drop (8 * l.i) l.fn.area;
}
