-- Losses in a session.
use Rattle.std.proofs.Common.{◌++◌, ◌∙◌, ap, arith}
use Rattle.law_model.specs.Common.{stream_before}
use Rattle.law_session.proofs.ClientStreamAndReplayLaws.{stream_before-frames}
use Rattle.law_loss.proofs.SessionStreamLossLaws.{rows-carry, rows-length, frames-extents, session-kept}
use Rattle.law_loss.proofs.SessionStreamLossLaws.{aligned-starts}
use Rattle.law_loss.proofs.session_loss_law.Goals as goal

pub returns-clause-accepted : goal.returns-clause-accepted
returns-clause-accepted c = λ scenario cells n.
    let stream = stream_before scenario cells n in
    ap (λ frames. frames ++ stream.waiting) (frames-extents 0 stream.pieces) ∙ stream_before-frames scenario cells n

pub returns-clause-carried : goal.returns-clause-carried
returns-clause-carried c = rows-carry

pub returns-clause-place : goal.returns-clause-place
returns-clause-place c = λ scenario cells t. rows-length scenario cells t t (omega arith)

pub returns-clause-kept : goal.returns-clause-kept
returns-clause-kept c = session-kept

pub returns-clause-aligned : goal.returns-clause-aligned
returns-clause-aligned c = aligned-starts
