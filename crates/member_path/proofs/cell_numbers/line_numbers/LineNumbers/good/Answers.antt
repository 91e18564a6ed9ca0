-- What is kept after the cell, by what the lock says of it.
use Rattle.std.proofs.Common.{◌≡◌, ◌+◌, ◌∷◌, ◌∙◌, true, false, None, sym, ap, subst}
use Rattle.member_path.specs.declared.h4_multiframe.Place.TheVariants.{Unknown, Locks, At}
use Rattle.member_path.specs.cell_numbers.Numbers.{IsOpen, last_of}
use Rattle.member_path.proofs.LineNumbersAfterCellLaws.{Stands-good, locks-left, at-left}
use Rattle.member_path.proofs.cell_numbers.line_numbers.LineNumbers.good.Goals as goal
use Rattle.member_path.proofs.cell_numbers.line_numbers.LineNumbers.good.Goals.{in-Unknown, in-Locks, in-At}

pub returns-clause-kept : goal.returns-clause-kept
returns-clause-kept c kept place cells t stands =
    let inside = c.self.inside in
    let container = c.args.container.now in
    let is = subst IsOpen (sym c.self.view_is) c.requires.open in
    elim c.match-good.branch [
      | in-Unknown w ↦ absurd (let e : false ≡ true = sym is.whole ∙ sym (ap (λ s. s.whole) w.self-inside-is)
          ∙ kept in cc)
      | in-Locks w ↦ absurd (let e : false ≡ true = sym is.whole ∙ sym (ap (λ s. s.whole) w.self-inside-is)
          ∙ kept in cc)
      | in-At w ↦
          let number = w.in-At.field-0 in
          rw w.self-inside-is (Stands-good _ c.args.self.now place cells t c.self.view_is c.requires.open stands
          container (At number) c.good.new.self inside.bad true container w.in-At.ensures.place c.good.ensures.stands
          (at-left number inside.next inside.bad container is.bad))
    ]

pub returns-clause-bad : goal.returns-clause-bad
returns-clause-bad c bad place cells t stands =
    let inside = c.self.inside in
    let container = c.args.container.now in
    let is = subst IsOpen (sym c.self.view_is) c.requires.open in
    elim c.match-good.branch [
      | in-Unknown w ↦
          rw w.self-inside-is (Stands-good _ c.args.self.now place cells t c.self.view_is c.requires.open stands
          container Unknown c.good.new.self 1 inside.whole place w.in-Unknown.ensures.place c.good.ensures.stands
          (ap (λ whole. None ∷ last_of whole place) (sym is.whole)))
      | in-Locks w ↦
          let number = w.in-Locks.number in
          rw w.self-inside-is (Stands-good _ c.args.self.now place cells t c.self.view_is c.requires.open stands
          container (Locks number) c.good.new.self (w.ahead_of.result + 1) inside.whole place w.in-Locks.ensures.place
          c.good.ensures.stands
          (locks-left inside.next number w.ahead_of.result container place inside.whole w.ahead_of.ensures.value
          is.whole))
      | in-At w ↦ absurd (let e : false ≡ true = sym bad ∙ ap (λ s. s.whole) w.self-inside-is in cc)
    ]
