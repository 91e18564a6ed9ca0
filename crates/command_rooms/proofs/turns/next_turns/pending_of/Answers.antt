-- Each line but a drain is a turn, so many times.
use Rattle.std.proofs.Common.{sym, ◌∙◌, ap}
use Rattle.law_model.specs.declared.script_types.EventLine.{EventLine}
use Rattle.law_model.specs.declared.walk_events.Event.TheVariants.{Accept, Command, Tick, Carry, Back, Take}
use Rattle.law_model.specs.session.Counts.{run, run_line}
use Rattle.command_rooms.proofs.WalkTraceAndEventCountLaws.{tries-flat}
use Rattle.command_rooms.proofs.turns.next_turns.pending_of.Goals as goal

pub returns-in-Client-clause-once : goal.returns-in-Client-clause-once
returns-in-Client-clause-once c plan s = sym (ap (λ (line : EventLine). run_line plan s line) c.in-Client.is
    ∙ ap (run plan s) (tries-flat c.in-Client.n Accept))

pub returns-in-Operator-clause-once : goal.returns-in-Operator-clause-once
returns-in-Operator-clause-once c plan s = sym (ap (λ (line : EventLine). run_line plan s line) c.in-Operator.is
    ∙ ap (run plan s) (tries-flat c.in-Operator.n Command))

pub returns-in-Tick-clause-once : goal.returns-in-Tick-clause-once
returns-in-Tick-clause-once c plan s = sym (ap (λ (line : EventLine). run_line plan s line) c.in-Tick.is
    ∙ ap (run plan s) (tries-flat c.in-Tick.n Tick))

pub returns-in-Carry-clause-once : goal.returns-in-Carry-clause-once
returns-in-Carry-clause-once c plan s = sym (ap (λ (line : EventLine). run_line plan s line) c.in-Carry.is
    ∙ ap (run plan s) (tries-flat c.in-Carry.n (Carry c.in-Carry.line)))

pub returns-in-Back-clause-once : goal.returns-in-Back-clause-once
returns-in-Back-clause-once c plan s = sym (ap (λ (line : EventLine). run_line plan s line) c.in-Back.is
    ∙ ap (run plan s) (tries-flat c.in-Back.n Back))

pub returns-in-Take-clause-once : goal.returns-in-Take-clause-once
returns-in-Take-clause-once c plan s = sym (ap (λ (line : EventLine). run_line plan s line) c.in-Take.is
    ∙ ap (run plan s) (tries-flat c.in-Take.n Take))
