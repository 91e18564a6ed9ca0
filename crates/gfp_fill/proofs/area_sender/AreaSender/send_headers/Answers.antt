-- Octets of headers are written.
use Rattle.std.proofs.Common.{◌≡◌, ◌-◌, length, take, drop, sym, ◌∙◌, ap, arith, length-drop, take_all, drop-drop}
use Rattle.gfp_fill.specs.SentAreas.{Sender, head_of}
use Rattle.gfp_fill.proofs.SenderAndFillerStepLaws.{headers_written}
use Rattle.gfp_fill.proofs.area_sender.AreaSender.send_headers.Goals as goal

pub returns-clause-writes : goal.returns-clause-writes
returns-clause-writes c left areas place stands =
    let n = c.copy_some-n.result in
    let sent = c.self.inside.sent in
    let headers = c.self.inside.headers in
    let whole : take (12 - sent) (drop sent headers) ≡ drop sent headers =
    take_all (12 - sent) (drop sent headers) (omega (arith, length-drop sent headers, c.self.told)) in
    let head : head_of c.args.self.now ≡ take (12 - sent) (drop sent headers) =
    ap head_of (sym c.self.view_is) ∙ sym whole in
    headers_written c.args.self.now _ left areas place n _ stands
    (omega (arith, c.copy_some-n.ensures.count, ap length head)) (c.copy_some-n.ensures.copied ∙ ap (take n) (sym head))
    (sym (drop-drop n sent headers) ∙ ap (drop n) (sym (ap head_of (sym c.self.view_is))))
    (ap (λ (s : Sender). s.scrambler) c.self.view_is)
