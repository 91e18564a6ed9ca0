-- A code stands for one word, and the word of a code is computed.
use Rattle.std.proofs.Common.{◌≡◌, ℕ, ◌==◌, ◌<◌, Option, Some, None, if◌then◌else◌, inl, inr, refl, sym, ◌∙◌, ap, lit<}
use Rattle.std.proofs.lemmas.Bool.{cases_eq, eq-eqb, ne_eqb}
use Rattle.member_cells.specs.declared.control_word.Ctrl.{Ctrl}
use Rattle.member_cells.specs.declared.control_word.Ctrl.TheVariants.{Fixed, Add, Norm, Eos, Idle, Dnu}
use Rattle.member_cells.specs.ControlCode.{code_of, ctrl_of}

-- the code of a word gives that word back
pub ctrl_of-code_of : (ctrl : Ctrl) → ctrl_of (code_of ctrl) ≡ Some ctrl
ctrl_of-code_of Fixed = refl
ctrl_of-code_of Add = refl
ctrl_of-code_of Norm = refl
ctrl_of-code_of Eos = refl
ctrl_of-code_of Idle = refl
ctrl_of-code_of Dnu = refl

-- the word that is computed has the code
by_test : (code n : ℕ) (word ctrl : Ctrl) (others : Option Ctrl) → code_of word ≡ n →
    (others ≡ Some ctrl → code_of ctrl ≡ code) →
    (if code == n then Some word else others) ≡ Some ctrl → code_of ctrl ≡ code
by_test code n word ctrl others own further e =
    elim (cases_eq code n) [
      | inl same ↦ let is : Some word ≡ Some ctrl = rw (eq-eqb code n same) at e in let found : word ≡ ctrl = cc in
          ap code_of (sym found) ∙ own ∙ sym same
      | inr other ↦ further (rw (ne_eqb code n other) at e)
    ]

pub ctrl_of-some : (code : ℕ) (ctrl : Ctrl) → ctrl_of code ≡ Some ctrl → code_of ctrl ≡ code
ctrl_of-some code ctrl e =
    let none : None ≡ Some ctrl → code_of ctrl ≡ code = λ absent. absurd cc in
    let dnu : Option Ctrl = if code == 15 then Some Dnu else None in
    let idle : Option Ctrl = if code == 5 then Some Idle else dnu in
    let eos : Option Ctrl = if code == 3 then Some Eos else idle in
    let norm : Option Ctrl = if code == 2 then Some Norm else eos in
    let add : Option Ctrl = if code == 1 then Some Add else norm in
    by_test code 0 Fixed ctrl add refl
    (by_test code 1 Add ctrl norm refl
    (by_test code 2 Norm ctrl eos refl
    (by_test code 3 Eos ctrl idle refl (by_test code 5 Idle ctrl dnu refl (by_test code 15 Dnu ctrl None refl none)))))
    e

-- a code has four bits
pub code_of_below : (ctrl : Ctrl) → code_of ctrl < 16
code_of_below Fixed = lit< tt
code_of_below Add = lit< tt
code_of_below Norm = lit< tt
code_of_below Eos = lit< tt
code_of_below Idle = lit< tt
code_of_below Dnu = lit< tt
