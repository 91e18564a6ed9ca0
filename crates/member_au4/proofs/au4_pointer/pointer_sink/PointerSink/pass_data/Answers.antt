-- The octets that are the data of a frame.
use Rattle.std.proofs.Common.{sym, subst}
use Rattle.member_au4.specs.au4_pointer.Sink.{Gives, due, data_of}
use Rattle.member_au4.proofs.SinkTakeGivesSteps.{gives-more}
use Rattle.member_au4.proofs.au4_pointer.pointer_sink.PointerSink.pass_data.Goals as goal

pub returns-in-Down-clause-gives : goal.returns-in-Down-clause-gives
returns-in-Down-clause-gives g c =
    let f = c.args.f.now in
    subst (λ a. Gives (λ o. g.O.VcOut.stands_for o) c.args.out.now c.pass-in-Down-2.new.out
    (due c.args.self.now a) c.pass-in-Down-2.new.self (data_of a f)) (sym c.in-Down.is)
    (gives-more (λ o. g.O.VcOut.stands_for o) c.args.out.now c.pass-in-Down.new.out c.pass-in-Down-2.new.out
    c.args.self.now c.pass-in-Down.new.self c.pass-in-Down-2.new.self f.h3 f.body
    c.pass-in-Down.ensures.gives c.pass-in-Down-2.ensures.gives)
