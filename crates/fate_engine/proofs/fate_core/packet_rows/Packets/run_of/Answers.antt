-- The last run that begins by then is the one.
use Rattle.std.proofs.Common.{rules, nat_le, ◌≡◌, ◌-◌, ◌*◌, length, Some, slice_get, sym}
use Rattle.std.proofs.Common.{ap, subst, arith}
use Rattle.std.specs.List.Sorted.{IsPartitionedBy}
use Rattle.std.proofs.lemmas.Fn.{always_returns_same}
use Rattle.law_model.proofs.ListLaws.{at-index}
use Rattle.fate_engine.specs.Common.{IsRun}
use Rattle.fate_engine.specs.declared.fate_core.packet_rows.Run.{Run}
use Rattle.fate_engine.proofs.PacketRowPlaceLaws.{Begun, Found, is-run, rows-parted, row-found}
use Rattle.fate_engine.proofs.fate_core.packet_rows.Packets.run_of.Goals as goal
use Rattle.fate_engine.proofs.fate_core.packet_rows.Packets.run_of.Goals.{After-partition_point-begun}

found : (c : After-partition_point-begun) →
    Found c.self.inside.runs.items (λ run. run.row) (λ run. 16 * run.packets) c.args.row c.partition_point-begun.result
found c =
    let x = c.args.row in
    let items = c.self.inside.runs.items in
    let parted : IsPartitionedBy (λ (run : Run). nat_le run.row x) c.deref.result.now =
    subst (λ items. IsPartitionedBy (λ (run : Run). nat_le run.row x) items) (sym c.deref.ensures.value)
    (rows-parted c.self.inside.size items c.self.inside.count c.self.inside.end c.self.invariant x) in
    let point : Begun items (λ run. run.row) x c.partition_point-begun.result =
    subst (λ items. Begun items (λ run. run.row) x c.partition_point-begun.result) c.deref.ensures.value
    (c.partition_point-begun.ensures.partitioned (λ run. nat_le run.row x)
    (always_returns_same _ _ _ (λ a r f k. search rules)) parted) in
    row-found c.self.inside.size items c.self.inside.count c.self.inside.end c.self.invariant x
    c.partition_point-begun.result
    (let bound = c.partition_point-begun.ensures.bound in omega (arith, bound, ap length c.deref.ensures.value)) point
    c.requires.late
    (let few = c.requires.governed in omega (arith, few, ap (λ p. length p.active) c.self.view_is))

pub overflow_sub-begun : goal.overflow_sub-begun
overflow_sub-begun c = (found c).some

pub returns : goal.returns
returns c =
    let at = found (goal.at.returns c).After-partition_point-begun in
    let there : slice_get c.self.inside.runs.items (c.partition_point-begun.result - 1) ≡ Some c.index.result.now =
    at-index c.self.inside.runs.items (c.partition_point-begun.result - 1) c.index.result.now
    (let bound = c.partition_point-begun.ensures.bound in let some = at.some in
    omega (arith, bound, some, ap length c.deref.ensures.value)) c.index.ensures in
    record {
      run = subst (λ p. IsRun p c.index.result.now) c.self.view_is
          (is-run c.self.inside.size c.self.inside.runs.items c.self.inside.count c.self.inside.end c.self.invariant
          c.self.inside.known.items (c.partition_point-begun.result - 1) c.index.result.now there);
      from = at.from c.index.result.now there;
      below = at.below c.index.result.now there;
    }
