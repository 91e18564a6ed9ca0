-- The lanes of two vectors, taken apart.
use Rattle.text_hex.proofs.HexDigitLanesLaws.{first_column, second_column}
use Rattle.text_hex.proofs.decoding.columns.Goals as goal

pub returns-clause-upper : goal.returns-clause-upper
returns-clause-upper c = first_column c.args.text.now c.args.at

pub returns-clause-lower : goal.returns-clause-lower
returns-clause-lower c = second_column c.args.text.now c.args.at
