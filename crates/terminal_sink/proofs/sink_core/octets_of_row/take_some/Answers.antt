-- The frame that octets complete is given.
use Rattle.std.proofs.Common.{◌≡◌, [], ◌++◌, take, sym, ◌∙◌, ap, subst, inl, inr, append-nil}
use Rattle.gfp_delineate.proofs.AreaOutcomeLaws.{told}
use Rattle.terminal_sink.proofs.ReceivedOctetAndDealtIdleLaws.{next-told}
use Rattle.terminal_sink.proofs.sink_core.octets_of_row.take_some.Goals as goal
use Rattle.law_model.specs.Common.{longest_frame}

pub give-requires-clause-short : goal.give-requires-clause-short
give-requires-clause-short g c = let (first, octets, stands) = c.requires in
    c.feed-taken.ensures.short longest_frame first octets stands

pub returns-in-Frame-clause-grows : goal.returns-in-Frame-clause-grows
returns-in-Frame-clause-grows g c first octets stands = c.feed-taken.ensures.stands_in longest_frame first octets stands

pub returns-in-Frame-clause-gives : goal.returns-in-Frame-clause-gives
returns-in-Frame-clause-gives g c start first octets stands frames before =
    let piece = take c.feed-taken.result.0 c.args.piece.now in
    let told' = next-told c.feed-taken.new.self c.feed-taken.result.1 first octets piece
    (c.feed-taken.ensures.outcome longest_frame first octets stands) in
    subst (g.F.FrameOut.stands_for c.give.new.out start)
    (ap (λ l. frames ++ l) (sym (told' ∙ ap (told c.feed-taken.new.self.receiver) c.in-Frame.is)))
    (c.give.ensures start frames before)

pub returns-in-Nothing-clause-grows : goal.returns-in-Nothing-clause-grows
returns-in-Nothing-clause-grows g c first octets stands = c.feed-taken.ensures.stands_in longest_frame first octets stands

pub returns-in-Nothing-clause-gives : goal.returns-in-Nothing-clause-gives
returns-in-Nothing-clause-gives g c start first octets stands frames before =
    let piece = take c.feed-taken.result.0 c.args.piece.now in
    let told' = next-told c.feed-taken.new.self c.feed-taken.result.1 first octets piece
    (c.feed-taken.ensures.outcome longest_frame first octets stands) in
    let none : told c.feed-taken.new.self.receiver c.feed-taken.result.1 ≡ [] =
    elim c.in-Nothing.is [
      | inl e ↦ ap (told c.feed-taken.new.self.receiver) e
      | inr d ↦ ap
          (told c.feed-taken.new.self.receiver) d.1
    ] in
    subst (g.F.FrameOut.stands_for c.args.out.now start)
    (sym (append-nil frames) ∙ ap (λ l. frames ++ l) (sym (told' ∙ none))) before
