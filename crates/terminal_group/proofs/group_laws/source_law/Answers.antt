-- Each of them is a law of what lands or of what comes.
use Rattle.terminal_group.proofs.RefusalOrderAndNextItemLaws.{placed-same}
use Rattle.terminal_group.proofs.InboxReturnCellLaws.{come-put, cell-there, takes, taken-more}
use Rattle.terminal_group.proofs.group_laws.source_law.Goals as goal

pub returns : goal.returns
returns c =
    record {
      placed = λ number put was now other. placed-same number put was now other;
      comes = λ inbox received used cell. come-put inbox received used cell;
      takes = λ inbox next received lag ticks cell has none first left. takes inbox next received lag ticks
          cell has (cell-there _ _ none) first left;
      stays = λ lost lag ticks received more. taken-more lost lag ticks received more;
    }
