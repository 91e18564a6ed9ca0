-- They lie between the two points.
use Rattle.std.proofs.Common.{rules, ℕ, nat_lt, ltb, sym, ◌∙◌, ap}
use Rattle.std.proofs.lemmas.List.Sorted.{IsPartitionPoint-from_clause, IsPartitionedBy-ltb}
use Rattle.fate_service.specs.declared.landed_frames.CarriedFrame.{CarriedFrame}
use Rattle.fate_service.specs.FrameColumns.{no_frames}
use Rattle.fate_service.specs.Outages.{lost_on}
use Rattle.fate_service.proofs.FrameTickAndRowOrderLaws.{Point, within-part, part-at}
use Rattle.fate_service.proofs.outages.losses.Goals as goal

pub returns : goal.returns
returns c =
    let frames = c.args.carried.now in
    let first = c.args.first in
    let end = c.args.end in
    let from = c.partition_point-from.result in
    let to = c.partition_point-to.result in
    let key : CarriedFrame → ℕ = λ (f : CarriedFrame). f.at in
    let one : Point (λ (f : CarriedFrame). nat_lt f.at first) frames from =
    IsPartitionPoint-from_clause (λ (f : CarriedFrame). ltb f.at first) _ _ c.partition_point-from.ensures.partitioned
    (IsPartitionedBy-ltb key frames first c.requires.order) (λ a r q k. search rules) in
    let two : Point (λ (f : CarriedFrame). nat_lt f.at end) frames to =
    IsPartitionPoint-from_clause (λ (f : CarriedFrame). ltb f.at end) _ _ c.partition_point-to.ensures.partitioned
    (IsPartitionedBy-ltb key frames end c.requires.order) (λ a r q k. search rules) in
    c.lost_of.ensures
    ∙ ap (lost_on no_frames) (part-at frames from to c.min.result c.min.ensures ∙ sym (within-part key first end frames from to one two))
