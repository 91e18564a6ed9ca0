-- The accepted ones that are due by then are the first ones.
use Rattle.std.proofs.Common.{rules, ℕ, ◌-◌, nat_le, leb, ◌∙◌, ap₂, arith}
use Rattle.std.proofs.lemmas.List.Sorted.{IsPartitionPoint-from_clause, IsPartitionedBy-leb}
use Rattle.fate_service.proofs.FrameTickAndRowOrderLaws.{Point, point-count}
use Rattle.fate_service.proofs.stretch_counts.queue_at.Goals as goal

pub returns : goal.returns
returns c =
    let accepted = c.args.accepted.now in
    let tick = c.args.tick in
    let i = c.partition_point-landed.result in
    let point : Point (λ (n : ℕ). nat_le n tick) accepted i =
    IsPartitionPoint-from_clause (λ (n : ℕ). leb n tick) _ _ c.partition_point-landed.ensures.partitioned
    (IsPartitionedBy-leb (λ (n : ℕ). n) accepted tick c.requires.order) (λ a r q k. search rules) in
    c.saturating_sub.ensures
    ∙ ap₂ (λ a b. a - b)
    (point-count (λ (n : ℕ). nat_le n tick) accepted i
    (let bound = c.partition_point-landed.ensures.bound in omega (arith, bound)) point) c.begun_before.ensures
