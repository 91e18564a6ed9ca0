-- One octet more, with the mark that the state after it says.
use Rattle.std.proofs.Common.{◌∷◌, ◌++◌, [], sym, subst}
use Rattle.gfp_delineate.specs.Receiver as receiver
use Rattle.terminal_sink.specs.marked_delineator.Marks.{HasMark, Marked}
use Rattle.terminal_sink.proofs.ConfirmedPlaceAndMarkLaws.{mark-next}
use Rattle.terminal_sink.proofs.marked_delineator.MarkedDelineator.byte.Goals as goal

pub returns-clause-stands_in : goal.returns-clause-stands_in
returns-clause-stands_in c longest first octets stands =
    let before = subst (λ (marked : Marked). receiver.StandsIn marked.receiver longest first octets)
    (sym c.self.view_is) stands.0 in
    let marked = subst (λ (marked : Marked). HasMark marked.mark octets) (sym c.self.view_is) stands.1 in
    let after = c.byte-step.ensures.stands_in longest first octets before in (
      after,
      rw c.next-self-inside.ensures
          (mark-next c.self.inside.mark octets c.args.octet c.synced.result
          (c.synced.ensures longest first (octets ++ c.args.octet ∷ []) after) marked),
    )

pub returns-clause-outcome : goal.returns-clause-outcome
returns-clause-outcome c longest first octets stands =
    c.byte-step.ensures.outcome longest first octets
    (subst (λ (marked : Marked). receiver.StandsIn marked.receiver longest first octets)
    (sym c.self.view_is) stands.0)

pub returns-clause-short : goal.returns-clause-short
returns-clause-short c longest first octets stands =
    c.byte-step.ensures.short longest first octets
    (subst (λ (marked : Marked). receiver.StandsIn marked.receiver longest first octets)
    (sym c.self.view_is) stands.0)
