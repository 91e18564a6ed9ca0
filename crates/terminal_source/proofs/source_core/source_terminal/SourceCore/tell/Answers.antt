-- There is something to tell.
use Rattle.std.proofs.Common.{sym, subst}
use Rattle.law_model.specs.Common.{steps_in, told_by, passed_on}
use Rattle.terminal_source.specs.source_core.StepOfTerminal.{terminal_of}
use Rattle.terminal_source.specs.source_core.GivenScenario.{with_told, SourceStands}
use Rattle.terminal_source.proofs.SourceTerminalScenarioLaws.{Stands-with_told}
use Rattle.terminal_source.proofs.source_core.source_terminal.SourceCore.tell.Goals as goal

pub returns-clause-stands : goal.returns-clause-stands
returns-clause-stands c scenario cells stands =
    let f = c.self.inside in
    let before = subst (λ core. SourceStands core scenario cells) (sym c.self.view_is) stands in
    subst (λ core. SourceStands (terminal_of f.lag f.size f.ticks f.queue f.filler f.table f.active.items f.nibbles.items
    (told_by c.args.packet)) (with_told scenario (steps_in core.ticks) (told_by c.args.packet)) cells) c.self.view_is
    (Stands-with_told f.lag f.size f.ticks f.queue f.filler f.table f.active.items f.nibbles.items (passed_on f.told)
    (told_by c.args.packet) scenario cells before)
