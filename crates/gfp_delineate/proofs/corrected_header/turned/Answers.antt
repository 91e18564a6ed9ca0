-- To turn over a bit of the word turns over that of its octets, counted from the last one.
use Rattle.std.proofs.Common.{rules, ◌≡◌, ◌^◌, bit_xor, w32, ◌∙◌}
use Rattle.std.specs.Int.{to_be_bytes}
use Rattle.std.proofs.lemmas.Nat.{be_bytes_4}
use Rattle.gfp_delineate.proofs.CorrectedHeaderBitLaws.{turned-word}
use Rattle.gfp_delineate.proofs.corrected_header.turned.Goals as goal

pub returns : goal.returns
returns c =
    let word = c.from_be_bytes.result in
    let is = be_bytes_4 c.args.octets.now word c.told-octets c.fits-octets c.from_be_bytes.ensures in
    let octets : c.to_be_bytes.result ≡ to_be_bytes w32 (bit_xor word (2 ^ c.args.place)) = search rules in
    octets ∙ turned-word c.args.octets.now word c.args.place is c.requires
