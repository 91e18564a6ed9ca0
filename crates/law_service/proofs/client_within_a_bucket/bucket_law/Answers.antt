-- A client that keeps to a bucket.
use Rattle.law_service.proofs.FrameEndAndBucketLaws.{bucket-refused, bucket-backlog, bucket-delay}
use Rattle.law_service.proofs.client_within_a_bucket.bucket_law.Goals as goal

pub returns : goal.returns
returns c = record {
  accepted = λ bucket leg from members count item offer keeps at low high.
      bucket-refused bucket leg from members keeps count item offer at low high;
  backlog = λ bucket leg from members t keeps low high.
      bucket-backlog bucket leg from members keeps t low high;
  delay = λ bucket leg from members n rows placed keeps one low enough high.
      bucket-delay bucket leg from members keeps n placed rows one low enough high;
}
