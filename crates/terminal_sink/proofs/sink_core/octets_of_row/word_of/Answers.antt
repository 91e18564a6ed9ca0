-- The octets of the word that was read, the least significant one first, are these.
use Rattle.std.proofs.lemmas.Nat.{le_bytes_8}
use Rattle.terminal_sink.proofs.sink_core.octets_of_row.word_of.Goals as goal

pub returns : goal.returns
returns c = le_bytes_8 c.args.octets.now c.from_le_bytes.result c.told-octets c.fits-octets c.from_le_bytes.ensures
