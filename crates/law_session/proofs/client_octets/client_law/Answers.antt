-- The client's stream.
use Rattle.law_session.proofs.ReturnCellAndLineWordLaws.{Agree-first}
use Rattle.law_session.proofs.ClientStreamAndReplayLaws.{stream_before-frames, stream_before-reaches}
use Rattle.law_session.proofs.ClientStreamAndReplayLaws.{stream_before-fewest, stream_before-agree, payload-length}
use Rattle.law_session.proofs.client_octets.client_law.Goals as goal

pub returns-clause-frames : goal.returns-clause-frames
returns-clause-frames c = stream_before-frames

pub returns-clause-reaches : goal.returns-clause-reaches
returns-clause-reaches c = stream_before-reaches

pub returns-clause-cells : goal.returns-clause-cells
returns-clause-cells c = λ scenario a b t same. stream_before-agree scenario a b t (Agree-first scenario a b _ same)

pub returns-clause-fewest : goal.returns-clause-fewest
returns-clause-fewest c = stream_before-fewest

pub returns-clause-payload : goal.returns-clause-payload
returns-clause-payload c = payload-length
