-- Fates by the pieces that are made.
use Rattle.fate_engine.proofs.FrameFateAndPieceLaws.{made-same, session-made}
use Rattle.fate_engine.proofs.fate_law.made_law.Goals as goal

pub returns : goal.returns
returns c = record { front = made-same; session = session-made }
