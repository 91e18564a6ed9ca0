-- Each line of the array is idle, and so is what is read behind its end.
use Rattle.law_model.specs.declared.lcas_states.SinkState.TheVariants.{Idle}
use Rattle.terminal_sink.proofs.lcas_sink.all_idle.Goals as goal
use Rattle.law_model.proofs.ListLaws.{replicate-at}
use Rattle.law_model.specs.Common.{most_lines}

pub returns : goal.returns
returns c = replicate-at most_lines Idle
