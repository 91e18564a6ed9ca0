-- A run begins, or one that isn't lost is passed.
use Rattle.std.proofs.Common.{◌≡◌, true, sym, ◌∙◌, ap, arith, inl, inr}
use Rattle.std.proofs.lemmas.Bool.{cases_lt}
use Rattle.law_pair.specs.Common.{is_unheard}
use Rattle.law_pair.proofs.RunsOfPacketsLaws.{left-heard, left-none, left-run}
use Rattle.pair_walk.proofs.script_of_way.next_run.Goals as goal

pub loop-packet-preserved : goal.loop-packet-preserved
loop-packet-preserved c =
    c.loop-packet.invariant
    ∙ left-heard (is_unheard c.args.other.now) c.loop-packet.packet c.args.packets c.loop-packet-test.true
    (sym c.is_unheard.ensures ∙ c.if-is_unheard.false)

pub returns-then-is_unheard-clause-some : goal.returns-then-is_unheard-clause-some
returns-then-is_unheard-clause-some c =
    let packet = c.loop-packet.packet in
    let end = c.run_end.result in
    let first : is_unheard c.args.other.now packet ≡ true = sym c.is_unheard.ensures ∙ c.if-is_unheard.true in
    c.loop-packet.invariant
    ∙ left-run (is_unheard c.args.other.now) packet end c.args.packets (omega (arith, c.run_end.ensures.within.0))
    c.run_end.ensures.within.1
    (λ k low high. elim (cases_lt packet k) [
      | inl later ↦ c.run_end.ensures.lost k (omega (arith, later)) high
      | inr here ↦ ap (is_unheard c.args.other.now) (let e : k ≡ packet = omega (arith, low, here) in e) ∙ first
    ])
    c.run_end.ensures.heard

pub returns-clause-none : goal.returns-clause-none
returns-clause-none c =
    c.loop-packet.invariant
    ∙ left-none (is_unheard c.args.other.now) c.loop-packet.packet c.args.packets (omega (arith, c.loop-packet-test.false))
