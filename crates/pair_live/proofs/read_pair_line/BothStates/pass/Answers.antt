-- As many ticks pass in both ways.
use Rattle.text_lines.specs.WordsOfLine.{words}
use Rattle.pair_live.specs.PairLines.{there_config, back_config, both_now}
use Rattle.pair_live.proofs.PairReaderStateLaws.{reads_pass}
use Rattle.pair_live.proofs.read_pair_line.BothStates.pass.Goals as goal

pub returns-in-Ok-clause-ok : goal.returns-in-Ok-clause-ok
returns-in-Ok-clause-ok c s keeps octets =
    reads_pass _ octets s (words c.args.rest.now) c.in-Some.word.now c.in-Ok.ticks c.in-Some.ensures.some
    (c.in-Ok.ensures.ok octets (there_config s) (both_now s).there keeps.keeps_there)
    (c.pass_ticks.ensures.keeps (back_config s) (both_now s).back keeps.keeps_back)
