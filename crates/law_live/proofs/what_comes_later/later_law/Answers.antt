-- By all that the two legs have in common so far.
use Rattle.law_live.proofs.SamePastRoundAndAnswerLaws.{later}
use Rattle.law_live.proofs.what_comes_later.later_law.Goals as goal

pub returns-clause-counts : goal.returns-clause-counts
returns-clause-counts c = λ config said leg other sound sound' well agrees agrees'.
    (later config said leg other sound sound' well agrees agrees').counts

pub returns-clause-rounds : goal.returns-clause-rounds
returns-clause-rounds c = λ config said leg other sound sound' well agrees agrees'.
    (later config said leg other sound sound' well agrees agrees').rounds

pub returns-clause-answers : goal.returns-clause-answers
returns-clause-answers c = λ config said leg other sound sound' well agrees agrees'.
    (later config said leg other sound sound' well agrees agrees').answers

pub returns-clause-cells : goal.returns-clause-cells
returns-clause-cells c = λ config said j leg other sound sound' well agrees agrees'.
    (later config said leg other sound sound' well agrees agrees').cells j

pub returns-clause-tables : goal.returns-clause-tables
returns-clause-tables c = λ config said j leg other sound sound' well agrees agrees'.
    (later config said leg other sound sound' well agrees agrees').tables j

pub returns-clause-waiting : goal.returns-clause-waiting
returns-clause-waiting c = λ config said t leg other sound sound' well agrees agrees'.
    (later config said leg other sound sound' well agrees agrees').waiting t
