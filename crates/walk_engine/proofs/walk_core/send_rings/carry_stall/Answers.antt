-- The first cause of a stall, by the line's numbers.
use Rattle.std.proofs.Common.{rules, ◌≡◌, ◌+◌, arith}
use Rattle.member_path.specs.path_delay.CallsOnDelayedLine.{IsEnded}
use Rattle.walk_engine.specs.Common.{ring_of}
use Rattle.walk_engine.proofs.LineCarryAndSendRingLaws.{cause-full, cause-none}
use Rattle.walk_engine.proofs.walk_core.send_rings.carry_stall.Goals as goal

pub returns-then-is_full-clause-cause : goal.returns-then-is_full-clause-cause
returns-then-is_full-clause-cause c leg has room =
    let own = c.args.own.now in
    let runs : IsEnded own.core → ⊥ = search (rules, rw c.core.ensures at c.if-ended.ensures.ended) in
    let full : own.given ≡ own.popped + ring_of own = search (rules, c.if-is_full.ensures.full) in
    cause-full leg c.args.line c.args.ticks own has room.pops room.room runs
    (λ left dry. let wet = c.is_dry.ensures.wet c.if-is_dry.false left in omega (arith, wet, dry)) full

pub returns-else-is_full-clause-cause : goal.returns-else-is_full-clause-cause
returns-else-is_full-clause-cause c leg has room =
    let own = c.args.own.now in
    let runs : IsEnded own.core → ⊥ = search (rules, rw c.core.ensures at c.if-ended.ensures.ended) in
    let free : own.given ≡ own.popped + ring_of own → ⊥ = search (rules, c.if-is_full.ensures.full) in
    cause-none leg c.args.line c.args.ticks own has room.pops room.room runs
    (λ left dry. let wet = c.is_dry.ensures.wet c.if-is_dry.false left in omega (arith, wet, dry)) free
