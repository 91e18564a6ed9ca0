-- What the sink makes of what has come.
use Rattle.law_terminal.proofs.ArrivedCellAndRowLaws.{row-told, row-stopped, carriers-told, back-told, packet-told}
use Rattle.law_terminal.proofs.rows_and_returns.rows_law.Goals as goal

pub returns : goal.returns
returns c = record {
  rows = λ scenario n frames t cells. row-told scenario n frames cells t;
  stops = λ scenario returns frames t cells. row-stopped scenario returns frames cells t;
  carriers = λ scenario n frames k cells. carriers-told scenario n frames cells k;
  backs = back-told;
  packets = λ scenario returns frames k cells. packet-told scenario returns frames cells k;
}
