-- A command more came.
use Rattle.std.proofs.Common.{length, sym, subst}
use Rattle.law_model.specs.declared.lcas_states.Command.TheVariants.{Remove as remove}
use Rattle.law_model.specs.Common.{passed_on}
use Rattle.terminal_source.specs.source_core.StepOfTerminal.{terminal_of}
use Rattle.terminal_source.specs.source_core.GivenScenario.{with_command, SourceStands}
use Rattle.terminal_source.proofs.SourceTerminalScenarioLaws.{IsTerminal-asked, Stands-with_command}
use Rattle.terminal_source.proofs.source_core.source_terminal.SourceCore.remove.Goals as goal

pub invariant_of-self : goal.invariant_of-self
invariant_of-self c =
    let f = c.self.inside in
    IsTerminal-asked f.lag f.size f.ticks f.queue f.filler f.table c.remove.new.self f.active.items f.nibbles.items
    (passed_on f.told) (length f.row.items) (remove c.args.line) c.remove.ensures.asked c.self.invariant

pub returns-clause-stands : goal.returns-clause-stands
returns-clause-stands c scenario cells stands =
    let f = c.self.inside in
    let before = subst (λ core. SourceStands core scenario cells) (sym c.self.view_is) stands in
    subst (λ core. SourceStands (terminal_of f.lag f.size f.ticks f.queue f.filler c.remove.new.self f.active.items
    f.nibbles.items (passed_on f.told)) (with_command scenario core.ticks (remove c.args.line)) cells) c.self.view_is
    (Stands-with_command f.lag f.size f.ticks f.queue f.filler f.table c.remove.new.self f.active.items f.nibbles.items
    (passed_on f.told) scenario cells (remove c.args.line) c.remove.ensures.asked before)
