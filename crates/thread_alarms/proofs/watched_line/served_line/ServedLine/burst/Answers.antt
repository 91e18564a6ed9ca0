-- The post has room for the alarms of one more burst.
use Rattle.std.proofs.Common.{◌≡◌, ◌≢◌, ◌<◌, ◌++◌, length, refl, sym, ◌∙◌, ap, ap₂, arith, rules, length-append}
use Rattle.law_model.specs.members.Damage.{carried}
use Rattle.law_model.specs.Common.{cells}
use Rattle.thread_rings.specs.EndsOfRing.{in_passed}
use Rattle.thread_rings.specs.declared.line_worker.Burst.TheVariants.{Done}
use Rattle.thread_rings.specs.LineAlarms.{alarms_of_line}
use Rattle.thread_rings.specs.WorkerOfLine.{number_of, delay_of, windows_of, total_of, carries_of, raised_by}
use Rattle.thread_alarms.specs.alarm_log.Posts.{posted_by}
use Rattle.thread_alarms.proofs.watched_line.served_line.ServedLine.burst.Goals as goal

pub post_all-requires : goal.post_all-requires
post_all-requires g c =
    let old = c.args.self.now in
    let own = c.in-Some.post in
    let new = c.burst-burst.new.self in
    let e = c.burst-burst.ensures in
    let same = e.later.same in
    let told = old.told own c.in-Some.is in
    let open_ : c.burst-burst.result ≢ Done = search rules in
    let small : total_of new < 4294967296 = let few = old.small own c.in-Some.is in omega (arith, few, same.total) in
    let whole : posted_by own ++ c.alarms.result.now ≡ raised_by new = ap₂ (λ a b. a ++ b) told c.alarms.ensures.last
    ∙ sym (e.alarms open_ small) in
    let line : raised_by new ≡ alarms_of_line (number_of old.worker)
    (cells (carried (windows_of old.worker)) (delay_of old.worker) (total_of old.worker)
    (in_passed new.consumer) (carries_of new)) =
    ap (alarms_of_line (number_of new)) e.sent ∙ rw (same.number, same.delay, same.windows, same.total) refl in
    let few = old.few own c.in-Some.is (in_passed new.consumer) (carries_of new) in
    let size = length-append (posted_by own) c.alarms.result.now in
    let long = ap length whole in
    let own_long = ap length line in
    omega (arith, few, size, long, own_long)
