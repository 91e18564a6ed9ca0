-- A tick more; and all of them.
use Rattle.std.proofs.Common.{◌≡◌, ℕ, ◌+◌, ◌-◌, sym, ◌∙◌, ap}
use Rattle.law_model.specs.Common.{place_of}
use Rattle.fate_service.specs.Stretches.{queue_at, queue_in, higher, peak_on}
use Rattle.fate_service.proofs.LandedFrameTallyLaws.{peak-next, peak-end}
use Rattle.fate_service.proofs.stretch_counts.peak_in.Goals as goal

pub loop-tick-preserved : goal.loop-tick-preserved
loop-tick-preserved c = λ scenario cells are.
    let accepted = c.args.accepted.now in
    let sent = c.args.ruler.now.sent in
    let tick = c.loop-tick.tick in
    let end = c.args.end in
    let queue : ℕ → ℕ = queue_in accepted sent (place_of scenario cells) c.args.made in
    let here : c.queue_at-queue.result ≡ queue tick = c.queue_at-queue.ensures
    ∙ ap (λ place. queue_at accepted sent place tick)
    (c.place.ensures scenario cells are ∙ ap (place_of scenario cells) c.min.ensures) in
    ap (λ peak. peak_on queue peak (tick + 1) (end - (tick + 1)))
    (c.higher-peak.ensures ∙ ap (λ n. higher c.loop-tick.peak n tick) here)
    ∙ sym (peak-next queue c.loop-tick.peak tick end c.loop-tick-test.true)
    ∙ c.loop-tick.invariant scenario cells are

pub returns : goal.returns
returns c = λ scenario cells are.
    sym (peak-end (queue_in c.args.accepted.now c.args.ruler.now.sent (place_of scenario cells) c.args.made)
    c.loop-tick.peak c.loop-tick.tick c.args.end c.loop-tick-test.false)
    ∙ c.loop-tick.invariant scenario cells are
