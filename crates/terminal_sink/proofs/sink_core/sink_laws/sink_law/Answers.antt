-- More cells, and more rows.
use Rattle.terminal_sink.proofs.ReceivedRowAndGivenFrameLaws.{stands-longer, frames-stay, back-stays, with_cell-longer}
use Rattle.terminal_sink.proofs.ReceivedRowAndGivenFrameLaws.{frames-grow, back-there, back-elsewhere}
use Rattle.terminal_sink.proofs.sink_core.sink_laws.sink_law.Goals as goal

pub returns-clause-stands : goal.returns-clause-stands
returns-clause-stands c = stands-longer

pub returns-clause-frames : goal.returns-clause-frames
returns-clause-frames c = frames-stay

pub returns-clause-back : goal.returns-clause-back
returns-clause-back c = back-stays

pub returns-clause-added : goal.returns-clause-added
returns-clause-added c = frames-grow

pub returns-clause-cell : goal.returns-clause-cell
returns-clause-cell c = with_cell-longer

pub returns-clause-there : goal.returns-clause-there
returns-clause-there c = back-there

pub returns-clause-elsewhere : goal.returns-clause-elsewhere
returns-clause-elsewhere c = back-elsewhere
