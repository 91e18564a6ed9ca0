-- Where an accepted frame ends is settled when it lands.
use Rattle.std.proofs.Common.{arith}
use Rattle.law_service.proofs.FrameEndAndBucketLaws.{place-accepted, place-settled, place-begins, place-waits}
use Rattle.law_service.proofs.where_frames_end.place_law.Goals as goal

pub returns : goal.returns
returns c = record {
  frame = λ frame. omega arith;
  accepted = place-accepted;
  settled = place-settled;
  begins = place-begins;
  waits = place-waits;
}
