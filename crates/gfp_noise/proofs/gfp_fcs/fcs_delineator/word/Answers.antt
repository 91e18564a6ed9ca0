-- The octets of the word that was read, the most significant one first, are these.
use Rattle.std.proofs.lemmas.Nat.{be_bytes_4}
use Rattle.gfp_noise.proofs.gfp_fcs.fcs_delineator.word.Goals as goal

pub returns : goal.returns
returns c =
    be_bytes_4 c.args.octets.now c.from_be_bytes.result c.told-octets c.fits-octets c.from_be_bytes.ensures
