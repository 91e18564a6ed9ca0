-- The state of the way that is named stands for what is said with the line.
use Rattle.std.proofs.Common.{◌≡◌, ◌∙◌, Some, ap, sym}
use Rattle.text_lines.specs.WordsOfLine.{words}
use Rattle.law_pair.specs.declared.pair_events.Way.{Way}
use Rattle.law_pair.specs.declared.pair_events.Way.TheVariants.{There, Back}
use Rattle.pair_live.specs.PairLines.{there_config, back_config, both_now, way_named}
use Rattle.pair_live.proofs.PairReaderStateLaws.{reads_of_way}
use Rattle.pair_live.proofs.read_pair_line.BothStates.read_of_way.Goals as goal

pub returns-in-Ok-clause-ok : goal.returns-in-Ok-clause-ok
returns-in-Ok-clause-ok c s keeps =
    let names : Some There ≡ way_named c.in-Some.word.now =
    ap (λ (way : Way). Some way) (sym c.in-Some-There.field-0-is) ∙ sym c.in-Some-There.is ∙ c.way_named.ensures in
    reads_of_way c.args.self.now c.read.new.self _ s c.args.keyword (words c.args.rest.now) c.in-Some.word.now
    c.in-Some.value.now There c.in-Ok.line _ c.requires.happens c.in-Some.ensures.some names keeps
    (c.in-Ok.ensures.ok (there_config s) (both_now s).there keeps.keeps_there) (c.of_way.ensures _)

pub returns-in-Ok-read-clause-ok : goal.returns-in-Ok-read-clause-ok
returns-in-Ok-read-clause-ok c s keeps =
    let names : Some Back ≡ way_named c.in-Some.word.now =
    ap (λ (way : Way). Some way) (sym c.in-Some-Back.field-0-is) ∙ sym c.in-Some-Back.is ∙ c.way_named.ensures in
    reads_of_way c.args.self.now c.read-in-Some-Back.new.self _ s c.args.keyword (words c.args.rest.now)
    c.in-Some.word.now c.in-Some.value.now Back c.in-Ok-read.line _ c.requires.happens c.in-Some.ensures.some names keeps
    (c.in-Ok-read.ensures.ok (back_config s) (both_now s).back keeps.keeps_back) (c.of_way-in-Ok-read.ensures _)
