-- Octets of the frame are scrambled where they were copied to.
use Rattle.std.proofs.Common.{◌≡◌, List, ℕ, ◌++◌, take, drop, length, sym, ◌∙◌, ap, ap₂, subst, arith}
use Rattle.std.proofs.lemmas.List.{take_at, drop_at, take-append-drop, length-take-le}
use Rattle.gfp_scramble.specs.Scrambler.{Continues, ScramblesTo}
use Rattle.gfp_fill.specs.SentAreas.{Sender, StandsIn, HasWrittenIn, head_of}
use Rattle.gfp_fill.proofs.SenderAndFillerStepLaws.{octets_written}
use Rattle.gfp_fill.proofs.area_sender.AreaSender.send_frame.Goals as goal

pub returns-clause-writes : goal.returns-clause-writes
returns-clause-writes c areas place stands =
    let n = c.send-n.result in
    let begun : List ℕ = c.args.frame.now in
    let rest : List ℕ = c.send-n.new.self in
    let out = c.send-n.new.out in
    let octets = c.area.new.area in
    let both : begun ≡ take n out ++ rest =
    sym (take-append-drop n begun) ∙ sym (ap₂ ◌++◌ c.send-n.ensures.octets c.send-n.ensures.rest) in
    let here : StandsIn c.args.self.now (take n out ++ rest) areas place =
    subst (λ left. StandsIn c.args.self.now left areas place) both stands in
    let size : length octets ≡ n =
    omega (
      arith,
      c.area.auto.area,
      length-take-le n out (omega (arith, c.send-n.auto.out, c.send-n.ensures.count)),
    ) in
    subst (HasWrittenIn _ rest areas place) (sym (take_at octets (drop n out) n size))
    (octets_written c.args.self.now _ (take n out) rest areas place octets here c.requires
    (ap head_of c.self.view_is ∙ c.requires)
    (subst (λ (s : Sender). ScramblesTo s.scrambler (take n out) octets) c.self.view_is c.area.ensures.answer)
    (subst (λ (s : Sender). Continues s.scrambler c.area.new.self (take n out)) c.self.view_is c.area.ensures.stands))

pub returns-clause-behind : goal.returns-clause-behind
returns-clause-behind c =
    let n = c.send-n.result in
    let out = c.send-n.new.out in
    let octets = c.area.new.area in
    let size : length octets ≡ n =
    omega (
      arith,
      c.area.auto.area,
      length-take-le n out (omega (arith, c.send-n.auto.out, c.send-n.ensures.count)),
    ) in
    drop_at octets (drop n out) n size ∙ c.send-n.ensures.behind
