-- The search ends there.
use Rattle.std.proofs.Common.{◌≡◌, ◌≤◌, ◌<◌, ℕ, List, nat_le, true, false, length, slice_index_or, ap, arith, rules}
use Rattle.std.proofs.Common.{leb-true, leb-false, le-leb}
use Rattle.std.specs.List.Sorted.{IsPartitionedBy, IsPartitionPoint}
use Rattle.std.proofs.lemmas.Fn.{always_returns_same}
use Rattle.law_model.specs.declared.script_items.streams.Stream.{Stream}
use Rattle.law_model.specs.session.Streams.{AreStreams, IsFirstAbove, behind_of}
use Rattle.law_model.proofs.ListLaws.{at-index}
use Rattle.law_model.proofs.StreamPlacesLaws.{ends_rise, passed_some, found}
use Rattle.law_model.proofs.script_items.streams.first_above.Goals as goal

parted : (streams : List Stream) (number : ℕ) → AreStreams 0 0 streams →
    IsPartitionedBy (λ stream. nat_le stream.behind number) streams
parted streams number are i j d before within ended =
    let rise = ends_rise streams 0 0 i j d are before within in
    let low = leb-true (slice_index_or streams j d).behind number ended in
    le-leb (slice_index_or streams i d).behind number (omega (arith, rise, low))

abbrev IsPoint : List Stream → ℕ → ℕ → Type 0
IsPoint streams number p = IsPartitionPoint (λ stream. nat_le stream.behind number ≡ true)
    (λ stream. nat_le stream.behind number ≡ false) streams p

point : (c : goal.After-partition_point-passed) → IsPoint c.args.streams.now c.args.number c.partition_point-passed.result
point c =
    c.partition_point-passed.ensures.partitioned (λ stream. nat_le stream.behind c.args.number)
    (always_returns_same _ _ _ (λ a r f k. search rules)) (parted c.args.streams.now c.args.number c.requires.apart)

inside : (streams : List Stream) (number p : ℕ) → AreStreams 0 0 streams → number < behind_of 0 streams →
    p ≤ length streams → IsPoint streams number p → p < length streams
inside streams number p are low within point =
    passed_some streams number p are low within
    (λ k d under. leb-true (slice_index_or streams k d).behind number (point.0 k d (omega arith) under))

first : (streams : List Stream) (number p : ℕ) (s : Stream) → AreStreams 0 0 streams → p < length streams →
    s ≡ slice_index_or streams p s → IsPoint streams number p → IsFirstAbove streams 0 number s
first streams number p s are within is point =
    let high = leb-false (slice_index_or streams p s).behind number (point.1 p s (omega arith) within) in
    let e = ap (λ (t : Stream). t.behind) is in
    found streams 0 0 number p s are (at-index streams p s within is)
    (λ k d under. leb-true (slice_index_or streams k d).behind number (point.0 k d (omega arith) under))
    (omega (arith, high, e))

pub bounds-streams-passed : goal.bounds-streams-passed
bounds-streams-passed c =
    inside c.args.streams.now c.args.number c.partition_point-passed.result c.requires.apart c.requires.some
    c.partition_point-passed.ensures.bound (point c)

pub returns : goal.returns
returns c =
    let point = c.partition_point-passed.ensures.partitioned (λ stream. nat_le stream.behind c.args.number)
    (always_returns_same _ _ _ (λ a r f k. search rules)) (parted c.args.streams.now c.args.number c.requires.apart) in
    first c.args.streams.now c.args.number c.partition_point-passed.result c.index-streams-passed.result c.requires.apart
    (inside c.args.streams.now c.args.number c.partition_point-passed.result c.requires.apart c.requires.some
    c.partition_point-passed.ensures.bound point) c.index-streams-passed.is point
