-- By how both ways stand while ticks pass.
use Rattle.law_live.proofs.BothWaysRoundLaws.{turns-over}
use Rattle.law_live.proofs.BothWaysTurnLaws.{pass-free, pass-left, pass-turn, said-next}
use Rattle.law_live.proofs.both_ways.what_both_were_told.both_turn_law.Goals as goal

pub returns-clause-left : goal.returns-clause-left
returns-clause-left c = λ there back said k one other pair well agrees.
    pass-left one other pair there back said k well agrees

pub returns-clause-turn : goal.returns-clause-turn
returns-clause-turn c = λ there back said k n one other pair well agrees left.
    pass-turn one other pair there back said k well agrees n left

pub returns-clause-over : goal.returns-clause-over
returns-clause-over c = λ pair s k until done. turns-over k pair until s done

pub returns-clause-free : goal.returns-clause-free
returns-clause-free c = λ there back said k n one other way pair well agrees left.
    pass-free one other pair there back said k well agrees n way left

pub returns-clause-next : goal.returns-clause-next
returns-clause-next c = λ there back said kind one other way pair well agrees.
    said-next one other pair there back said way kind well agrees
