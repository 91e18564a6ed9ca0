-- A frame more came.
use Rattle.std.proofs.Common.{sym, subst}
use Rattle.law_model.specs.Common.{passed_on}
use Rattle.terminal_source.specs.source_core.StepOfTerminal.{terminal_of}
use Rattle.terminal_source.specs.source_core.GivenScenario.{with_frame, SourceStands}
use Rattle.terminal_source.proofs.SourceTerminalScenarioLaws.{Stands-with_frame}
use Rattle.terminal_source.proofs.source_core.source_terminal.SourceCore.accept.Goals as goal

pub returns-clause-stands : goal.returns-clause-stands
returns-clause-stands c scenario cells stands =
    let f = c.self.inside in
    let before = subst (λ core. SourceStands core scenario cells) (sym c.self.view_is) stands in
    subst (λ core. SourceStands (terminal_of f.lag f.size f.ticks c.push.new.self f.filler f.table f.active.items
    f.nibbles.items (passed_on f.told)) (with_frame scenario core.ticks c.args.frame.now) cells) c.self.view_is
    (Stands-with_frame f.lag f.size f.ticks f.queue c.push.new.self f.filler f.table f.active.items f.nibbles.items
    (passed_on f.told) scenario cells c.args.frame.now
    (λ stream place written. c.push.ensures.stands f.filler stream place written) before)
