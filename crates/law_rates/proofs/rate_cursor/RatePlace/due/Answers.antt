-- The frames that are due before the end are those that are counted.
use Rattle.std.proofs.Common.{◌<◌, ◌≤◌, inl, inr, arith}
use Rattle.std.proofs.lemmas.Bool.{cases_lt}
use Rattle.law_rates.specs.Rates.{count_of}
use Rattle.law_rates.proofs.RateCountLaws.{due_before}
use Rattle.law_rates.proofs.rate_cursor.RatePlace.due.Goals as goal

pub overflow_cast-result : goal.overflow_cast-result
overflow_cast-result c = omega (arith, c.requires.rate.end, c.if-due-from.true, c.from.ensures)

pub returns-then-due-from-clause-more : goal.returns-then-due-from-clause-more
returns-then-due-from-clause-more c =
    (due_before c.args.rate.now c.args.self.now.number c.requires.rate).1
    (omega (arith, c.wide_tick-due.ensures, c.if-due-from.true, c.from.ensures))

pub returns-else-due-from-clause-none : goal.returns-else-due-from-clause-none
returns-else-due-from-clause-none c =
    elim (cases_lt c.args.self.now.number (count_of c.args.rate.now)) [
      | inl less ↦ (
          let early = (due_before c.args.rate.now c.args.self.now.number c.requires.rate).0 less in
          absurd (omega (arith, c.wide_tick-due.ensures, early, c.if-due-from.false, c.from.ensures)))
      | inr most ↦ omega (arith, most, c.requires.place.within)
    ]
