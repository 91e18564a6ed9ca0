-- The live lines begin, and the line is read.
use Rattle.std.proofs.Common.{◌∙◌, ◌+◌, ℕ, ap, sym, subst}
use Rattle.text_lines.specs.WordsOfLine.{words}
use Rattle.pair_live.specs.declared.live_pair_fault.LivePairFault.TheVariants as text_wrong
use Rattle.pair_live.specs.PairReaderStands.{StopsPair}
use Rattle.pair_live.proofs.PairReaderStateLaws.{opening_stops, rest_stops, reads_live, begun_says, kept_by}
use Rattle.pair_live.proofs.live_pair_reader.LivePairReader.read_live.Goals as goal

pub returns-in-Err-clause-stops : goal.returns-in-Err-clause-stops
returns-in-Err-clause-stops c n s ws at stays is =
    opening_stops n s ws (words c.args.rest.now) c.args.keyword c.in-Err.fault stays is (c.in-Err.ensures.fault n s at)

pub returns-in-Ok-read-clause-read : goal.returns-in-Ok-read-clause-read
returns-in-Ok-read-clause-read c n s ws at stays is =
    let mid = c.in-Ok.ensures.at n s at in
    let says = begun_says c.finish.new.self.first c.finish.new.self.settings c.finish.new.self.states _
    c.in-Ok.ensures.begun mid.says in
    let read = c.in-Ok-read.ensures.ok s (kept_by c.finish.new.self.states s says) in
    reads_live _ c.finish.new.self.states n s ws (words c.args.rest.now) c.args.keyword c.in-Ok-read.said stays is
    (c.in-Ok.ensures.whole n s at) says read mid.goes_on (ap (λ (k : ℕ). k + 1) mid.number) c.in-Ok.ensures.begun
    (c.in-Ok.ensures.configs n s at)

pub returns-in-Err-read-clause-stops : goal.returns-in-Err-read-clause-stops
returns-in-Err-read-clause-stops c n s ws at stays is =
    let mid = c.in-Ok.ensures.at n s at in
    let says = begun_says c.finish.new.self.first c.finish.new.self.settings c.finish.new.self.states _
    c.in-Ok.ensures.begun mid.says in
    subst (StopsPair n s ws)
    (sym (c.stop.ensures.fault ∙ ap (λ (k : ℕ). text_wrong.Line k c.in-Err-read.fault) mid.number))
    (rest_stops n s ws (words c.args.rest.now) c.args.keyword c.in-Err-read.fault stays is
    (c.in-Ok.ensures.whole n s at)
    (c.in-Err-read.ensures.err s (kept_by c.finish.new.self.states s says)))
