-- Whether a lane is above fifteen.
use Rattle.text_hex.proofs.HexDigitLanesLaws.{both_small, one_large}
use Rattle.text_hex.proofs.digits.are_digits.Goals as goal

pub returns-clause-upper : goal.returns-clause-upper
returns-clause-upper c none i below =
    (both_small c.args.upper c.args.lower c.requires.uppers c.requires.lowers none i below).0

pub returns-clause-lower : goal.returns-clause-lower
returns-clause-lower c none i below =
    (both_small c.args.upper c.args.lower c.requires.uppers c.requires.lowers none i below).1

pub returns-clause-other : goal.returns-clause-other
returns-clause-other c some = one_large c.args.upper c.args.lower c.requires.uppers c.requires.lowers some
