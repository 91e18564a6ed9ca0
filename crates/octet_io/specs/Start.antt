-- What had been given before what is spoken of.
use Rattle.std.specs.Prelude.{ℕ, List}

-- the octets that had been written, how many writes had failed, and the name of the reference by which is written. Who
-- keeps what it is
-- given, or makes it, and writes nothing needs none of them
pub record Start : Type 0 where
  pub octets : List ℕ
  pub faults : ℕ
  pub name : ℕ
