-- The search ends at the first window that ends above the container.
use Rattle.std.proofs.Common.{rules, ◌≡◌, ◌-◌, ◌≤◌, nat_le, true, false, ℕ, List, length, take, drop, slice_index_or}
use Rattle.std.proofs.Common.{sym, ◌∙◌, arith, leb-true, leb-false, le-leb}
use Rattle.std.specs.List.Sorted.{IsPartitionedBy, IsPartitionPoint}
use Rattle.std.proofs.lemmas.List.{take_rest}
use Rattle.std.proofs.lemmas.Fn.{always_returns_same}
use Rattle.law_model.specs.Common.{AreWindows}
use Rattle.law_model.specs.declared.window_types.Window.{Window}
use Rattle.member_path.specs.failure_window.WindowsAbove.{IsFirstAbove}
use Rattle.law_model.specs.members.Damage.{carried}
use Rattle.member_path.proofs.FailureWindowListLaws.{carried-drop, ends-rise, first-above}
use Rattle.member_path.proofs.failure_window.window_list.carried_at.Goals as goal

parted : (list : List Window) (n : ℕ) → AreWindows 0 list → IsPartitionedBy (λ window. nat_le window.end n) list
parted list n are i j d before within ended =
    let rise = ends-rise 0 list i j d are before within in
    let low = leb-true (slice_index_or list j d).end n ended in
    le-leb (slice_index_or list i d).end n (omega (arith, rise, low))

-- the windows below the container, and those above it
split : (list : List Window) (n i : ℕ) → AreWindows 0 list → i ≤ length list →
    IsPartitionPoint (λ window. nat_le window.end n ≡ true) (λ window. nat_le window.end n ≡ false) list i →
    IsFirstAbove n (take (length list - i) (drop i list)) ×
    (carried (take (length list - i) (drop i list)) n ≡ carried list n)
split list n i are within point =
    rw (take_rest list i) (
      first-above 0 list n i are within
          (λ k d from below. leb-false (slice_index_or list k d).end n (point.1 k d from below)),
      sym (carried-drop list n i (λ k d below inside. leb-true (slice_index_or list k d).end n
          (point.0 k d (omega arith) below))),
    )

pub carried_by_first-requires : goal.carried_by_first-requires
carried_by_first-requires c =
    let list = c.args.list.now in
    let n = c.args.n in
    let passed = c.partition_point-passed.ensures in
    let point = passed.partitioned (λ window. nat_le window.end n) (always_returns_same _ _ _ (λ a r f k. search rules))
    (parted list n c.requires) in
    (split list n c.partition_point-passed.result c.requires passed.bound point).0

pub returns : goal.returns
returns c =
    let list = c.args.list.now in
    let n = c.args.n in
    let passed = c.partition_point-passed.ensures in
    let point = passed.partitioned (λ window. nat_le window.end n) (always_returns_same _ _ _ (λ a r f k. search rules))
    (parted list n c.requires) in
    c.carried_by_first.ensures ∙ (split list n c.partition_point-passed.result c.requires passed.bound point).1
