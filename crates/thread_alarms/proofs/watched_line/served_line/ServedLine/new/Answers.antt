-- The post has room for all alarms of the line.
use Rattle.std.proofs.Common.{arith}
use Rattle.thread_rings.specs.WorkerOfLine.{number_of, delay_of, windows_of, total_of}
use Rattle.thread_alarms.proofs.AlarmCountLaws.{are_few}
use Rattle.thread_alarms.proofs.watched_line.served_line.ServedLine.new.Goals as goal

pub invariant_of-result : goal.invariant_of-result
invariant_of-result c =
    let worker = c.args.worker in
    record {
      told = λ own is. (c.requires own is).told;
      small = λ own is. (c.requires own is).small;
      few = λ own is containers i.
          let may = c.requires own is in
          let some = are_few (number_of worker) (delay_of worker) (total_of worker) i
          (windows_of worker) containers may.windows in
          omega (arith, some, may.most);
    }
