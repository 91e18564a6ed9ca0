-- One packet more was read.
use Rattle.std.proofs.Common.{◌+◌, refl, ap}
use Rattle.terminal_sink.proofs.WatchTimerAndLastWordLaws.{timers-read, or-there, or-past}
use Rattle.terminal_sink.proofs.member_watch.MemberTimers.read.Goals as goal

pub returns-then-self : goal.returns-then-self
returns-then-self c read passed =
    timers-read c.args.options c.args.self _ read passed (ap (λ n. n + 1) c.min-reads.ensures) refl
    (or-there c.args.self.is_up _ c.if-self.true)

pub returns-else-self : goal.returns-else-self
returns-else-self c read passed =
    timers-read c.args.options c.args.self _ read passed (ap (λ n. n + 1) c.min-reads.ensures) refl
    (or-past c.args.self.is_up _ c.args.options.restore c.if-self.false)
