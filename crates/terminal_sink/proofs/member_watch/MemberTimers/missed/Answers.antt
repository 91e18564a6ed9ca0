-- One packet more wasn't read.
use Rattle.std.proofs.Common.{◌+◌, refl, ap}
use Rattle.terminal_sink.proofs.WatchTimerAndLastWordLaws.{timers-missed, and-there, and-gone}
use Rattle.terminal_sink.proofs.member_watch.MemberTimers.missed.Goals as goal

pub returns-then-self : goal.returns-then-self
returns-then-self c read passed =
    timers-missed c.args.options c.args.self _ read passed refl (ap (λ n. n + 1) c.min-misses.ensures)
    (and-there c.args.self.is_up _ c.if-self.true)

pub returns-else-self : goal.returns-else-self
returns-else-self c read passed =
    timers-missed c.args.options c.args.self _ read passed refl (ap (λ n. n + 1) c.min-misses.ensures)
    (and-gone c.args.self.is_up _ c.if-self.false)
