-- Digits alone, and too many.
use Rattle.text_live.proofs.LiveReaderStateLaws.{long_size}
use Rattle.text_live.proofs.frame_digits.long_fault.Goals as goal

pub returns-then-is_hex : goal.returns-then-is_hex
returns-then-is_hex c =
    let read = c.is_hex.ensures.yes c.if-is_hex.true in
    long_size c.args.place c.args.digits.now read.0 c.requires read.1
