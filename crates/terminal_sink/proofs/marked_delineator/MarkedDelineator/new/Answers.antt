-- Nothing has come, and nothing is confirmed.
use Rattle.terminal_sink.proofs.ConfirmedPlaceAndMarkLaws.{no-octets}
use Rattle.terminal_sink.proofs.marked_delineator.MarkedDelineator.new.Goals as goal

pub returns : goal.returns
returns c = (c.in_ok-new.ensures, no-octets)
