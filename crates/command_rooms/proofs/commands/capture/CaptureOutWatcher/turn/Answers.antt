-- The frames of a row that is taken stand behind those before them.
use Rattle.std.proofs.Common.{◌∙◌, ap}
use Rattle.law_model.specs.declared.session_totals.Totals.{Totals}
use Rattle.command_rooms.proofs.WalkCaptureAndFrameSumLaws.{turn-taken}
use Rattle.command_rooms.proofs.commands.capture.CaptureOutWatcher.turn.Goals as goal

pub returns-clause-seen : goal.returns-clause-seen
returns-clause-seen g c start has =
    turn-taken g.K.ByteSink.written g.K.ByteSink.faults c.args.self.now c.begin_row.new.self c.make_turn.new.out start
    c.args.walk.now c.make_turn.new.walk c.make_turn.ensures.script
    c.make_turn.ensures.rows c.make_turn.ensures.one
    (c.begin_row.ensures.row ∙ ap (λ (t : Totals). t.taken) c.totals.ensures) c.begin_row.ensures.kept
    c.make_turn.ensures.gives has
