-- The next item lands, or stalls.
use Rattle.std.proofs.Common.{◌≡◌, ◌≤◌, slice_get, Some, None, refl, sym, ◌∙◌, ap, subst, arith, is_some}
use Rattle.law_model.specs.declared.script_types.Item.{Item}
use Rattle.law_model.specs.session.Scenario.{packets_in}
use Rattle.terminal_group.specs.Item.{kind_of}
use Rattle.terminal_group.specs.Landed.{HasPassed, next_number}
use Rattle.law_pair.specs.Common.{way_of}
use Rattle.walk_engine.specs.Common.{HasLanded, Makes, Parts, answer_by, counts_after, counts_of, landing_of}
use Rattle.walk_engine.proofs.LandedItemSteps.{number-in, land-kind, land-due, due-in, land-known, land-reason}
use Rattle.pair_engine.specs.Ways.{way_counts}
use Rattle.pair_engine.proofs.FirstDueItemLaws.{goes-none, goes-early, goes-landed}
use Rattle.pair_engine.proofs.pair_way.PairWay.land.Goals as goal

pub returns-in_default-clause-goes : goal.returns-in_default-clause-goes
returns-in_default-clause-goes c other stands known =
    goes-none c.args.self.now other stands known c.next_item.result c.next_item.ensures.first (sym c.in_default.is)

pub returns-then-ticks-next-clause-goes : goal.returns-then-ticks-next-clause-goes
returns-then-ticks-next-clause-goes c other stands known =
    let early = c.if-ticks-next.true in
    let at = rw (c.core.ensures, c.source.ensures) at c.ticks.ensures in
    goes-early c.args.self.now other stands known c.next_item.result c.next_item.ensures.first
    c.in-Some.next (sym c.in-Some.is) (omega (arith, early, at))

pub lend-lent-requires : goal.lend-lent-requires
lend-lent-requires c =
    let own = c.args.self.now in
    let (other, stands, known) = c.requires in
    (number-in (way_of own.script other) (packets_in own.live.core.sink.taken) own.live.core stands own.landing known
    c.in-Some.next.client c.in-Some.next.number c.in-Some.ensures.number).1

pub land-requires-clause-reason : goal.land-requires-clause-reason
land-requires-clause-reason c =
    let own = c.args.self.now in
    let (other, stands, known) = c.requires in
    let leg = way_of own.script other in
    let backs = packets_in own.live.core.sink.taken in
    let next = c.in-Some.next in
    let low = c.if-ticks-next.false in
    let at = rw (c.core.ensures, c.source.ensures) at c.ticks.ensures in
    let dues = c.in-Some.ensures.due in
    let lends : (item : Item) → slice_get own.script.items next.number ≡ Some item →
    kind_of c.lent_item.result ≡ item.kind = λ item at. c.lent_item.ensures ∙ c.lend-lent.ensures item at in
    let due = due-in leg backs own.live.core stands own.landing known next.client next.number
    (kind_of c.lent_item.result) c.in-Some.ensures.number lends (omega (arith, low, at, dues)) in
    land-reason leg backs own.live.core stands own.landing known next.number (kind_of c.lent_item.result)
    c.land-why.result due (c.land-why.ensures.refusal leg backs stands due) lends

pub returns-clause-goes : goal.returns-clause-goes
returns-clause-goes c other stands known =
    let own = c.args.self.now in
    let leg = way_of own.script other in
    let backs = packets_in own.live.core.sink.taken in
    let next = c.in-Some.next in
    let low = c.if-ticks-next.false in
    let at = rw (c.core.ensures, c.source.ensures) at c.ticks.ensures in
    let dues = c.in-Some.ensures.due in
    let late : next.due ≤ own.live.core.source.core.ticks = omega (arith, low, at) in
    let lends : (item : Item) → slice_get own.script.items next.number ≡ Some item →
    kind_of c.lent_item.result ≡ item.kind = λ item at. c.lent_item.ensures ∙ c.lend-lent.ensures item at in
    let kind = land-kind leg backs own.live.core stands own.landing known next.client next.number
    (kind_of c.lent_item.result) c.in-Some.ensures.number lends in
    let due = due-in leg backs own.live.core stands own.landing known next.client next.number
    (kind_of c.lent_item.result) c.in-Some.ensures.number lends (omega (arith, late, dues)) in
    let makes : Makes leg backs (landing_of next.client) own.live.core c.land-why.new.self
    (answer_by None c.land-why.result) =
    subst (λ client. Makes leg backs (landing_of client) own.live.core c.land-why.new.self
    (answer_by None c.land-why.result)) kind (c.land-why.ensures.makes leg backs stands due) in
    let moves = land-due leg backs own.live.core stands own.landing known next.client next.number
    own.live.core.source.core.ticks next.due c.in-Some.ensures.number refl dues late in
    let rows = ap (λ (p : Parts). p.sink.taken) c.land-why.ensures.rest in
    let goes = goes-landed own other stands known c.next_item.result c.next_item.ensures.first next
    (sym c.in-Some.is) late moves c.land-why.new.self c.land-why.result makes rows in
    let landed = land-known leg backs own.live.core stands own.landing known c.land.new.self next.number
    (kind_of c.lent_item.result) c.land-why.result due (ap (next_number own.landing) kind ∙ c.in-Some.ensures.number)
    (c.land-why.ensures.refusal leg backs stands due)
    (subst (λ client. HasPassed own.landing c.land.new.self client (is_some c.land-why.result)) (sym kind)
    c.land.ensures.passed) c.land.ensures.refusals in
    record {
      stands = goes.stands;
      landed = subst (λ n. HasLanded leg (counts_of c.land-why.new.self (packets_in n)) c.land.new.self) (sym rows)
          (subst (λ s. HasLanded leg s c.land.new.self) (sym makes.counts)
          (subst (λ client. HasLanded leg (counts_after leg (way_counts own) (landing_of client)) c.land.new.self) kind
          landed));
      counts = goes.counts;
      moved = c.landed.ensures ∙ goes.moved;
    }
