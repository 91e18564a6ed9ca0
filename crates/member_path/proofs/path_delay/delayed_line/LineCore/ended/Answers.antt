-- End is given by the flush after the cell of the last container.
use Rattle.std.proofs.Common.{inl, inr, subst, sym, arith}
use Rattle.std.proofs.lemmas.Bool.{cases_lt, lt-ltb, ltb-true}
use Rattle.law_model.specs.members.Damage.{carried}
use Rattle.member_path.specs.path_delay.CallsOnDelayedLine.{DelayStands, carries_of}
use Rattle.member_path.proofs.DelayedPathCellLaws.{end-given, end-open}
use Rattle.member_path.proofs.path_delay.delayed_line.LineCore.ended.Goals as goal

pub returns-clause-given : goal.returns-clause-given
returns-clause-given c calls stands =
    let own = subst (λ line. DelayStands line calls) (sym c.self.view_is) stands in
    let order = c.self.invariant.order in (
      λ ended.
          let past = ltb-true c.from.result c.self.inside.flushed ended in
          end-given (carried calls.windows) calls.delay calls.total calls.containers (carries_of calls)
          (omega (arith, own.delay, own.total, own.pushed, own.flushed, past, order)),
      λ has.
          elim (cases_lt c.from.result c.self.inside.flushed) [
            | inl past ↦ lt-ltb c.from.result c.self.inside.flushed past
            | inr early ↦ absurd (end-open (carried calls.windows) calls.delay calls.total calls.containers
                (carries_of calls) (omega (arith, own.delay, own.total, own.pushed, own.flushed, early)) has)
          ],
    )
