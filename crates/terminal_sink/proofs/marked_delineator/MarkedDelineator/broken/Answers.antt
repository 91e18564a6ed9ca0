-- After a break nothing has come.
use Rattle.std.proofs.Common.{sym, subst}
use Rattle.gfp_delineate.specs.Receiver as receiver
use Rattle.terminal_sink.specs.marked_delineator.Marks.{Marked}
use Rattle.terminal_sink.proofs.ConfirmedPlaceAndMarkLaws.{no-octets}
use Rattle.terminal_sink.proofs.marked_delineator.MarkedDelineator.broken.Goals as goal

pub returns-clause-stands_in : goal.returns-clause-stands_in
returns-clause-stands_in c longest first octets stands = (
  c.broken.ensures.stands_in longest first octets
      (subst (λ (marked : Marked). receiver.StandsIn marked.receiver longest first octets)
      (sym c.self.view_is) stands.0),
  no-octets,
)
