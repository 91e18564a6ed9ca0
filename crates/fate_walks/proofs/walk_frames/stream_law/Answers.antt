-- The stream frame by frame, and tick by tick.
use Rattle.law_model.specs.Common.{scenario_by}
use Rattle.law_walk.specs.Common.{session_of}
use Rattle.fate_walks.proofs.CursorAndRulerLaws.{met-start, met-tick, ruler-refused, ruler-accepted}
use Rattle.fate_walks.proofs.walk_frames.stream_law.Goals as goal

pub returns : goal.returns
returns c = record {
  start = λ leg. met-start (scenario_by leg) (session_of leg);
  tick = met-tick;
  refused = ruler-refused;
  accepted = ruler-accepted;
}
