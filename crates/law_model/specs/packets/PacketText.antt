-- How the parts of a control packet are printed.
use Rattle.std.specs.Prelude.{ℕ, Bool, if◌then◌else◌, List, [], ◌∷◌, drop, codes}
use Rattle.hex.specs.Hex.{encode_lower}
use Rattle.member_cells.specs.declared.control_word.Ctrl.{Ctrl}
use Rattle.member_cells.specs.declared.control_word.Ctrl.TheVariants.{Fixed, Add, Norm, Eos, Idle, Dnu}

-- a control word
abbrev pub ctrl_text : Ctrl → List ℕ
ctrl_text Fixed = codes "fixed"
ctrl_text Add = codes "add"
ctrl_text Norm = codes "norm"
ctrl_text Eos = codes "eos"
ctrl_text Idle = codes "idle"
ctrl_text Dnu = codes "dnu"

-- a bit
abbrev pub bit_text : Bool → List ℕ
bit_text bit = if bit then codes "1" else codes "0"

-- an octet: two hexadecimal digits
abbrev pub octet_text : ℕ → List ℕ
octet_text octet = encode_lower (octet ∷ [])

-- a nibble: one
abbrev pub nibble_text : ℕ → List ℕ
nibble_text nibble = drop 1 (octet_text nibble)
