-- One octet while nothing is confirmed, and else octets that change no mark.
use Rattle.std.proofs.Common.{sym, ◌∙◌, ap, subst, inl, inr, arith}
use Rattle.gfp_delineate.specs.Receiver as receiver
use Rattle.gfp_delineate.proofs.OctetPieceAndIdleRunLaws.{take_one}
use Rattle.terminal_sink.specs.marked_delineator.Marks.{HasMark, Marked, is_hunting}
use Rattle.terminal_sink.proofs.ConfirmedPlaceAndMarkLaws.{mark-kept}
use Rattle.terminal_sink.proofs.marked_delineator.MarkedDelineator.feed.Goals as goal

pub returns-then-piece-gt0-clause-stands_in : goal.returns-then-piece-gt0-clause-stands_in
returns-then-piece-gt0-clause-stands_in c = rw (take_one c.args.piece.now c.if-piece-gt0.true) c.byte.ensures.stands_in

pub returns-else-is_hunting-clause-stands_in : goal.returns-else-is_hunting-clause-stands_in
returns-else-is_hunting-clause-stands_in c longest first octets stands =
    let marked = subst (λ (marked : Marked). HasMark marked.mark octets) (sym c.self.view_is) stands.1 in (
      c.feed.ensures.stands_in longest first octets
          (subst (λ (marked : Marked). receiver.StandsIn marked.receiver longest first octets)
          (sym c.self.view_is) stands.0),
      mark-kept c.self.inside.mark octets c.args.piece.now c.feed.result.0
          (elim c.else-is_hunting.either [
            | inl empty ↦ inr (omega (arith, empty.1))
            | inr isnt ↦ inl
                (ap (λ (marked : Marked). is_hunting marked.mark) c.self.view_is ∙ sym c.is_hunting.ensures ∙ isnt)
          ]) marked,
    )
