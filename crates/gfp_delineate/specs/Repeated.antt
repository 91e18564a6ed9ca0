-- Octets again and again.
use Rattle.std.specs.Prelude.{ℕ, List, ◌++◌, take, drop, replicate}
use Rattle.law_model.specs.Common.{core_header, joined}

abbrev pub repeated : ℕ → List ℕ → List ℕ
repeated count octets = joined (replicate count octets)

-- the octets of a number of idle frames, from a place in the first header to the same place in the one behind the last
abbrev pub idles_from : ℕ → ℕ → List ℕ
idles_from place count = repeated count (drop place (core_header 0) ++ take place (core_header 0))
