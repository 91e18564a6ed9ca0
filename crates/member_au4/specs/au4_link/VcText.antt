-- What is written of a VC-4. This text is this project's own.
use Rattle.std.specs.Prelude.{ℕ, List, ◌++◌, take, codes, decimal, sum}
use Rattle.std.specs.Int.{w64, from_be_bytes}

-- a VC-4: its first eight octets as a number, the first one highest, and the sum of all its octets
abbrev pub vc_text : List ℕ → List ℕ
vc_text vc = codes "vc " ++ decimal (from_be_bytes w64 (take 8 vc)) ++ codes " sum " ++ decimal (sum vc) ++ codes "\n"
