-- By how both ways stand.
use Rattle.law_live.proofs.BothWaysCountLaws.{pair-passes, pair-walked, way-stands}
use Rattle.law_live.proofs.both_ways.what_both_were_told.both_pass_law.Goals as goal

pub returns-clause-walked : goal.returns-clause-walked
returns-clause-walked c = λ one other said. pair-walked one other said

pub returns-clause-ticks : goal.returns-clause-ticks
returns-clause-ticks c = λ there back said one other way pair well agrees.
    (way-stands one other pair there back said well agrees way).ticks

pub returns-clause-pass : goal.returns-clause-pass
returns-clause-pass c = λ there back said k one other pair well agrees.
    pair-passes one other pair there back said k well agrees

pub returns-clause-frames : goal.returns-clause-frames
returns-clause-frames c = λ there back said one other way pair well agrees.
    (way-stands one other pair there back said well agrees way).frames

pub returns-clause-commands : goal.returns-clause-commands
returns-clause-commands c = λ there back said one other way pair well agrees.
    (way-stands one other pair there back said well agrees way).commands
