-- Each lane of two values.
use Rattle.std.proofs.Common.{◌≡◌, ◌+◌, ◌*◌, ◌%◌, slice_index, ◌∙◌, arith}
use Rattle.text_hex.proofs.HexDigitLanesLaws.{two_lane, two_long}
use Rattle.text_hex.proofs.decoding.joined.Goals as goal

pub returns-clause-octets : goal.returns-clause-octets
returns-clause-octets c i below high low =
    two_lane _ _ c.args.upper c.args.lower c.requires.uppers c.requires.lowers i below
    ∙ (let e : (slice_index c.args.upper i * 16 % 256 + slice_index c.args.lower i) % 256
    ≡ slice_index c.args.upper i * 16 + slice_index c.args.lower i = omega (arith, high, low) in e)

pub returns-clause-lanes : goal.returns-clause-lanes
returns-clause-lanes c = two_long _ _ c.args.upper c.args.lower c.requires.uppers c.requires.lowers
