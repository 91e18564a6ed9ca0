-- By the script that the text says.
use Rattle.law_headline.proofs.ScriptTextHeadlineLaws.{walk_headline, run_headline, walk-same}
use Rattle.law_headline.proofs.headline_law.Goals as goal

pub returns-clause-walk : goal.returns-clause-walk
returns-clause-walk c = walk_headline

pub returns-clause-run : goal.returns-clause-run
returns-clause-run c = run_headline

pub returns-clause-same : goal.returns-clause-same
returns-clause-same c = walk-same
