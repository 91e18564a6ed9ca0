-- A step's line stands after those before it.
use Rattle.std.proofs.Common.{ℕ, List, sym, ◌∙◌, ap, subst, arith}
use Rattle.std.proofs.lemmas.Result.{on_ok_weaker, on_err_weaker}
use Rattle.law_model.specs.Common.{Appends, AppendsPart, steps_in}
use Rattle.law_model.specs.declared.session_totals.Totals.{Totals}
use Rattle.octet_io.proofs.AppendedTextAndPrefixLaws.{Appends-then, AppendsPart-then}
use Rattle.command_rooms.proofs.WalkTraceAndEventCountLaws.{lines-same, lines-next}
use Rattle.command_rooms.proofs.turns.trace_turns.tell_since.Goals as goal

pub is_step-requires : goal.is_step-requires
is_step-requires g c =
    let e = ap (λ (t : Totals). t.ticks) c.totals.ensures in
    record { least = omega (arith, e, c.requires.least); most = omega (arith, e, c.requires.most) }

pub tell_step-requires-clause-some : goal.tell_step-requires-clause-some
tell_step-requires-clause-some g c =
    let e = ap steps_in (ap (λ (t : Totals). t.ticks) c.totals.ensures) in
    let h = c.if-is_step.ensures.yes in
    omega (arith, e, h)

pub returns-then-is_step : goal.returns-then-is_step
returns-then-is_step g c =
    let walk = c.args.walk.now in
    let next = sym (lines-next walk.script c.args.ticks walk.counts.ticks
    (ap steps_in (sym (ap (λ (t : Totals). t.ticks) c.totals.ensures)) ∙ c.if-is_step.ensures.yes)) in
    record {
      ok = λ first lines.
          let P : List ℕ → Type 0 = λ text. Appends g.E.ByteSink.written g.E.ByteSink.faults first
          c.tell_step.new.notes text in
          on_ok_weaker c.tell_step.result (λ more. subst P next (Appends-then _ _ first _ _ _ _ lines more))
          c.tell_step.ensures.ok;
      err = λ first lines.
          let P : List ℕ → Type 0 = λ text. AppendsPart g.E.ByteSink.written g.E.ByteSink.faults first
          c.tell_step.new.notes text in
          on_err_weaker c.tell_step.result (λ more. subst P next (AppendsPart-then _ _ first _ _ _ _ lines more))
          c.tell_step.ensures.err;
    }

pub returns-else-is_step-clause-ok : goal.returns-else-is_step-clause-ok
returns-else-is_step-clause-ok g c first lines =
    let walk = c.args.walk.now in
    let P : List ℕ → Type 0 = λ text. Appends g.E.ByteSink.written g.E.ByteSink.faults first c.args.notes.now text in
    let step = ap steps_in (sym (ap (λ (t : Totals). t.ticks) c.totals.ensures)) ∙ c.if-is_step.ensures.no in
    subst P (sym (lines-same walk.script c.args.ticks walk.counts.ticks step)) lines
