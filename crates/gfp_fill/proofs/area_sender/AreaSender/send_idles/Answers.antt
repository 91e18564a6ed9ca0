-- Whole idles are written, or the first octets of one.
use Rattle.std.proofs.Common.{◌≡◌, ◌+◌, ◌/◌, [], ◌∷◌, ◌++◌, length, sym, ap, arith}
use Rattle.law_model.proofs.CoreHeaderLaws.{core_header-idle}
use Rattle.gfp_fill.specs.SentAreas.{Sender}
use Rattle.gfp_fill.proofs.SenderAndFillerStepLaws.{idle_begun, idles_written}
use Rattle.gfp_fill.proofs.area_sender.AreaSender.send_idles.Goals as goal

pub returns-then-n-gt0-clause-writes : goal.returns-then-n-gt0-clause-writes
returns-then-n-gt0-clause-writes c areas place stands =
    let idles = c.put_idles-n.ensures.idles in
    let count : (c.put_idles-n.result + 3) / 4 ≡ length c.args.out.now / 4 =
    omega (arith, c.put_idles-n.ensures.count) in
    rw (count, idles)
    (idles_written (length c.args.out.now / 4) c.args.self.now areas place stands c.requires.done)

pub returns-clause-writes : goal.returns-clause-writes
returns-clause-writes c areas place stands =
    let one : (c.send_headers.result + 3) / 4 ≡ 1 =
    omega (arith, c.send_headers.ensures.count, c.put_idles-n.ensures.count, c.put_idles-n.auto.out) in
    rw one
    (c.send_headers.ensures.writes [] (areas ++ [] ∷ []) place
    (idle_begun c.args.self.now _ areas place stands c.requires.done (sym core_header-idle)
    (ap (λ (s : Sender). s.scrambler) c.self.view_is)))
