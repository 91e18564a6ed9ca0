-- The control word of a control packet (G.7042, CTRL) and its code of four bits.
use Rattle.std.specs.Prelude.{ℕ, ◌==◌, Option, Some, None, if◌then◌else◌}
use Rattle.member_cells.specs.declared.control_word.Ctrl.{Ctrl}
use Rattle.member_cells.specs.declared.control_word.Ctrl.TheVariants.{Fixed, Add, Norm, Eos, Idle, Dnu}

-- the code of a word
abbrev pub code_of : Ctrl → ℕ
code_of Fixed = 0
code_of Add = 1
code_of Norm = 2
code_of Eos = 3
code_of Idle = 5
code_of Dnu = 15

-- the word that has this code, where there is one
abbrev pub ctrl_of : ℕ → Option Ctrl
ctrl_of code =
    if code == 0 then Some Fixed
    else if code == 1 then Some Add
    else if code == 2 then Some Norm
    else if code == 3 then Some Eos
    else if code == 5 then Some Idle
    else if code == 15 then Some Dnu
    else None
