-- The live lines begin, and the line is read.
use Rattle.std.proofs.Common.{◌∙◌, ◌+◌, ℕ, ap, ap₂, length, sym, subst}
use Rattle.text_lines.specs.WordsOfLine.{words}
use Rattle.text_live.specs.declared.live_fault.LiveFault.TheVariants as fault
use Rattle.text_live.specs.declared.live_fault.LiveLineFault.{LiveLineFault}
use Rattle.text_live.specs.declared.live_fault.LiveLineFault.TheVariants.{Count}
use Rattle.text_live.specs.LiveLines.{now_live}
use Rattle.text_live.specs.LiveReaderStands.{Stops}
use Rattle.text_live.proofs.LiveReaderStateLaws.{opening_stops, rest_stops, reads_live, begun_says, one_stops}
use Rattle.text_live.proofs.LiveReaderStateLaws.{kept_by, count_stops}
use Rattle.text_live.proofs.live_reader.LiveReader.read_live.Goals as goal

pub returns-in-Err-clause-stops : goal.returns-in-Err-clause-stops
returns-in-Err-clause-stops c n s ws at is =
    opening_stops n s ws (words c.args.rest.now) c.args.keyword c.in-Err.fault is (c.in-Err.ensures.fault n s at)

pub returns-in-Ok-read-clause-read : goal.returns-in-Ok-read-clause-read
returns-in-Ok-read-clause-read c n s ws at is =
    let mid = c.in-Ok.ensures.at n s at in
    let keeps = kept_by c.finish.new.self.state s
    (begun_says c.finish.new.self.settings c.finish.new.self.state _ c.in-Ok.ensures.begun mid.says) in
    reads_live _ n s ws (words c.args.rest.now) c.args.keyword c.in-Some.word.now c.in-Ok-read.said is
    (c.in-Ok.ensures.whole n s at) c.in-Some.ensures.some
    (c.in-Ok-read.ensures.ok s.settings.config (now_live s) keeps) mid.goes_on (ap (λ (k : ℕ). k + 1) mid.number)
    c.in-Ok.ensures.begun (c.in-Ok.ensures.config n s at)

pub returns-in-Err-read-clause-stops : goal.returns-in-Err-read-clause-stops
returns-in-Err-read-clause-stops c n s ws at is =
    let mid = c.in-Ok.ensures.at n s at in
    let keeps = kept_by c.finish.new.self.state s
    (begun_says c.finish.new.self.settings c.finish.new.self.state _ c.in-Ok.ensures.begun mid.says) in
    subst (Stops n s ws)
    (sym (c.stop-in-Err-read.ensures.fault ∙ ap (λ (k : ℕ). fault.Line k c.in-Err-read.fault) mid.number))
    (rest_stops n s ws (words c.args.rest.now) c.args.keyword c.in-Err-read.fault is (c.in-Ok.ensures.whole n s at)
    (one_stops s.settings.config (now_live s) c.args.keyword (words c.args.rest.now) c.in-Some.word.now
    c.in-Err-read.fault c.in-Some.ensures.some (c.in-Err-read.ensures.err s.settings.config (now_live s) keeps)))

pub returns-in_default-clause-stops : goal.returns-in_default-clause-stops
returns-in_default-clause-stops c n s ws at is =
    let mid = c.in-Ok.ensures.at n s at in
    let none = c.in_default.ensures in
    subst (Stops n s ws)
    (sym (c.stop.ensures.fault ∙ ap₂ (λ (k : ℕ) (f : LiveLineFault). fault.Line k f) mid.number c.count_fault.ensures))
    (rest_stops n s ws (words c.args.rest.now) c.args.keyword
    (Count c.args.keyword (length (words c.args.rest.now))) is (c.in-Ok.ensures.whole n s at)
    (count_stops s.settings.config (now_live s) c.args.keyword (words c.args.rest.now) none.none))
