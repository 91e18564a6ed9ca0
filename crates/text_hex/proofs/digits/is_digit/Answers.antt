-- The tests agree, for each of the 256 characters.
use Rattle.text_hex.proofs.HexDigitLanesLaws.{digit_between}
use Rattle.text_hex.proofs.digits.is_digit.Goals as goal

pub returns : goal.returns
returns c = digit_between c.args.c c.ranges.c.fits
