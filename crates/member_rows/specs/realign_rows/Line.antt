-- What is kept of one line.
use Rattle.std.specs.Prelude.{ℕ, List}
use Rattle.law_model.specs.Common.{Container, Cell}
use Rattle.member_path.specs.cell_numbers.Numbers.{Numbers, NumbersStand}
use Rattle.member_rows.specs.realign_rows.BegunNibbles.{Begun, HasNibbles}

pub record Line : Type 0 where
  pub numbers : Numbers
  pub begun : Begun

-- these cells of the line came, and t numbers were passed; the container of the next one lies in a place, where it is
-- whole
pub record LineStands (line : Line) (place : Container) (own : List Cell) (t : ℕ) : Type 0 where
  pub numbers : NumbersStand line.numbers place own t
  pub nibbles : HasNibbles line.begun own t
