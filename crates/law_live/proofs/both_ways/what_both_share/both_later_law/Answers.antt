-- By all that the two pairs have in common so far.
use Rattle.law_live.proofs.BothWaysSharedLaws.{shared}
use Rattle.law_live.proofs.both_ways.what_both_share.both_later_law.Goals as goal

pub returns-clause-counts : goal.returns-clause-counts
returns-clause-counts c = λ there back said one other a b are. (shared there back said one other a b are).counts

pub returns-clause-answers : goal.returns-clause-answers
returns-clause-answers c = λ there back said one other a b are. (shared there back said one other a b are).answers

pub returns-clause-cells : goal.returns-clause-cells
returns-clause-cells c = λ there back said one other a b way j are.
    ((shared there back said one other a b are).ways way).cells j

pub returns-clause-tables : goal.returns-clause-tables
returns-clause-tables c = λ there back said one other a b way j are.
    ((shared there back said one other a b are).ways way).tables j

pub returns-clause-tells : goal.returns-clause-tells
returns-clause-tells c = λ there back said one other a b way j are.
    ((shared there back said one other a b are).ways way).tells j

pub returns-clause-packets : goal.returns-clause-packets
returns-clause-packets c = λ there back said one other a b way k are.
    ((shared there back said one other a b are).ways way).packets k

pub returns-clause-waiting : goal.returns-clause-waiting
returns-clause-waiting c = λ there back said one other a b way t are.
    ((shared there back said one other a b are).ways way).waiting t

pub returns-clause-sent : goal.returns-clause-sent
returns-clause-sent c = λ there back said one other a b way line t are.
    ((shared there back said one other a b are).ways way).sent line t
