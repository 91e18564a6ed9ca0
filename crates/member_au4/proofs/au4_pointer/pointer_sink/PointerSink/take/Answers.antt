-- A frame more is taken.
use Rattle.std.proofs.Common.{◌≡◌, ◌<◌, ◌++◌, List, [], ◌∷◌, Ok, length, sym, ◌∙◌, ap, ap₂, subst, arith}
use Rattle.std.proofs.lemmas.List.{length-take-le}
use Rattle.member_au4.specs.declared.au4_pointer.au_frame.AuFrame.{AuFrame}
use Rattle.member_au4.specs.au4_pointer.PointerWord.{reading}
use Rattle.member_au4.specs.au4_pointer.Sink.{value_behind, PointerSinkStands, Sink}
use Rattle.member_au4.proofs.SinkTakeGivesSteps.{Takes, takes}
use Rattle.member_au4.proofs.au4_pointer.pointer_sink.PointerSink.take.Goals as goal
use Rattle.member_au4.proofs.au4_pointer.pointer_sink.PointerSink.take.Given as given

module _ (g : given.Over) (c : goal.After-self-1 g) (frames : List AuFrame) (s : PointerSinkStands c.args.self.now frames) where
  few : length c.pass_data.new.self.kept < 2349
  few =
      let now = c.self-in-Ok.inside in
      subst (λ (k : Sink). length k.kept < 2349) c.self-in-Ok.view_is
      (omega (
        arith,
        length-take-le now.kept now.vc (omega (arith, c.self-in-Ok.told, c.self-in-Ok.invariant)),
        c.self-in-Ok.invariant,
      ))

  read : reading c.args.self.now.value c.args.f.now.word ≡ Ok c.in-Ok.a
  read = ap (λ v. reading v c.args.f.now.word) (ap (λ k. k.value) (sym c.self.view_is)) ∙ sym c.in-Ok.ensures

  step : Takes (λ o. g.O.VcOut.stands_for o) c.args.out.now c.pass_data.new.out c.pass_data.new.self few
      c.args.self.now frames c.args.f.now c.in-Ok.a c.pass_data.ensures.gives.vcs
  step = takes (λ o. g.O.VcOut.stands_for o) c.args.out.now c.pass_data.new.out c.pass_data.new.self few
      c.args.self.now frames c.args.f.now c.in-Ok.a s read c.pass_data.ensures.gives

pub returns-in-Ok-clause-stands : goal.returns-in-Ok-clause-stands
returns-in-Ok-clause-stands g c frames s =
    let now = c.self-in-Ok.inside in
    let value : c.value_behind-self-inside.result ≡ value_behind c.args.self.now.value c.in-Ok.a =
    c.value_behind-self-inside.ensures ∙ ap (λ v. value_behind v c.in-Ok.a) (ap (λ k. k.value) c.self-in-Ok.view_is
    ∙ c.pass_data.ensures.value) in
    subst (λ (k : Sink). PointerSinkStands k (frames ++ c.args.f.now ∷ []))
    (ap₂ (λ v k. record { value = v; lead = k.lead; kept = k.kept }) (sym value) (sym c.self-in-Ok.view_is))
    (step g c frames s).now_stands

pub returns-in-Ok-clause-gives : goal.returns-in-Ok-clause-gives
returns-in-Ok-clause-gives g c frames s start vcs h =
    subst (λ l. g.O.VcOut.stands_for c.pass_data.new.out start (vcs ++ l)) (step g c frames s).adds
    (c.pass_data.ensures.gives.gives start vcs h)
