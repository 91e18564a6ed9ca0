-- The last run that begins by then is the one.
use Rattle.std.proofs.Common.{rules, nat_le, ◌≡◌, ◌+◌, ◌-◌, ◌*◌, ◌<◌, length, Some, slice_get, sym}
use Rattle.std.proofs.Common.{ap, subst, arith}
use Rattle.std.specs.List.Sorted.{IsPartitionedBy}
use Rattle.std.proofs.Math.Seq.{take-length}
use Rattle.std.proofs.lemmas.Fn.{always_returns_same}
use Rattle.law_model.proofs.ListLaws.{at-index}
use Rattle.fate_engine.specs.Common.{IsRun, active_in, octets_of, start_by}
use Rattle.fate_engine.specs.declared.fate_core.packet_rows.Run.{Run}
use Rattle.fate_engine.proofs.PacketRowPlaceLaws.{Begun, Found, is-run, starts-parted, start-found}
use Rattle.fate_engine.proofs.fate_core.packet_rows.Packets.run_at.Goals as goal
use Rattle.fate_engine.proofs.fate_core.packet_rows.Packets.run_at.Goals.{After-partition_point-begun}

found : (c : After-partition_point-begun) →
    Found c.self.inside.runs.items (λ run. run.start)
    (λ run. 16 * run.packets * (c.self.inside.size * length run.lines.items)) c.args.place
    c.partition_point-begun.result
found c =
    let x = c.args.place in
    let items = c.self.inside.runs.items in
    let parted : IsPartitionedBy (λ (run : Run). nat_le run.start x) c.deref.result.now =
    subst (λ items. IsPartitionedBy (λ (run : Run). nat_le run.start x) items) (sym c.deref.ensures.value)
    (starts-parted c.self.inside.size items c.self.inside.count c.self.inside.end c.self.invariant x) in
    let point : Begun items (λ run. run.start) x c.partition_point-begun.result =
    subst (λ items. Begun items (λ run. run.start) x c.partition_point-begun.result) c.deref.ensures.value
    (c.partition_point-begun.ensures.partitioned (λ run. nat_le run.start x)
    (always_returns_same _ _ _ (λ a r f k. search rules)) parted) in
    start-found c.self.inside.size items c.self.inside.count c.self.inside.end c.self.invariant x
    c.partition_point-begun.result
    (let bound = c.partition_point-begun.ensures.bound in omega (arith, bound, ap length c.deref.ensures.value)) point
    (let low = subst (λ p. c.args.place < start_by p.size p.active (length p.active)) (sym c.self.view_is) c.requires in
    let all = ap (octets_of c.self.inside.size) (take-length (active_in items)) in omega (arith, low, all))

pub overflow_sub-begun : goal.overflow_sub-begun
overflow_sub-begun c = (found c).some

pub returns : goal.returns
returns c =
    let at = found (goal.at.returns c).After-partition_point-begun in
    let there : slice_get c.self.inside.runs.items (c.partition_point-begun.result - 1) ≡ Some c.index.result.now =
    at-index c.self.inside.runs.items (c.partition_point-begun.result - 1) c.index.result.now
    (let bound = c.partition_point-begun.ensures.bound in let some = at.some in
    omega (arith, bound, some, ap length c.deref.ensures.value)) c.index.ensures in
    record {
      run = subst (λ p. IsRun p c.index.result.now) c.self.view_is
          (is-run c.self.inside.size c.self.inside.runs.items c.self.inside.count c.self.inside.end c.self.invariant
          c.self.inside.known.items (c.partition_point-begun.result - 1) c.index.result.now there);
      from = at.from c.index.result.now there;
      below = subst (λ p. c.args.place < c.index.result.now.start
          + 16 * c.index.result.now.packets * (p.size * length c.index.result.now.lines.items)) c.self.view_is
          (at.below c.index.result.now there);
    }
