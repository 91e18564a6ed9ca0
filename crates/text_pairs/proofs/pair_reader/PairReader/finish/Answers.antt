-- The lines of the text, and the tests of what they say.
use Rattle.std.proofs.Common.{sym, inr}
use Rattle.text_pairs.proofs.PairScriptReaderLaws.{end_fails, end_said, pair_fits, text_said, text_fails}
use Rattle.text_pairs.proofs.pair_reader.PairReader.finish.Goals as goal

pub returns-in-Err-clause-fault : goal.returns-in-Err-clause-fault
returns-in-Err-clause-fault c text stands =
    text_fails c.args.self text c.args.piece.now c.in-Err.fault stands c.in-Err.ensures.fault

pub returns-in-Err-end-clause-fault : goal.returns-in-Err-end-clause-fault
returns-in-Err-end-clause-fault c text stands =
    inr (text_said c.args.self c.in-Ok.reader text c.args.piece.now _ stands c.in-Ok.ensures.said
    (end_fails c.in-Ok.reader c.in-Err-end.fault c.in-Err-end.ensures.fault))

pub returns-in-Some-clause-fault : goal.returns-in-Some-clause-fault
returns-in-Some-clause-fault c text stands =
    inr (text_said c.args.self c.in-Ok.reader text c.args.piece.now _ stands c.in-Ok.ensures.said
    (end_said c.in-Ok.reader c.in-Ok-end.pair _ c.in-Ok-end.ensures.whole c.in-Ok-end.ensures.pair
    c.in-Some.ensures))

pub returns-in-None-clause-pair : goal.returns-in-None-clause-pair
returns-in-None-clause-pair c text stands =
    text_said c.args.self c.in-Ok.reader text c.args.piece.now _ stands c.in-Ok.ensures.said
    (end_said c.in-Ok.reader c.in-Ok-end.pair _ c.in-Ok-end.ensures.whole c.in-Ok-end.ensures.pair
    c.in-None.ensures)

pub returns-in-None-clause-fits : goal.returns-in-None-clause-fits
returns-in-None-clause-fits c =
    pair_fits c.in-Ok-end.pair c.in-Ok-end.ensures.there c.in-Ok-end.ensures.back (sym c.in-None.ensures)
