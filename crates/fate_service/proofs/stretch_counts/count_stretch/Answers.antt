-- Column by column.
use Rattle.std.proofs.Common.{length, sym, ◌∙◌, ap, ap₂, subst, arith}
use Rattle.std.specs.List.Sorted.{IsNonDecreasing, IsNonDecreasingBy}
use Rattle.law_model.specs.Common.{leg_of, scenario_by, place_of}
use Rattle.law_model.specs.declared.session_totals.Totals.{Totals}
use Rattle.law_walk.specs.Common.{session_of}
use Rattle.fate_engine.specs.Common.{Ruler}
use Rattle.fate_walks.proofs.FatesAndSeenRowsLaws.{within, reach}
use Rattle.fate_service.specs.declared.landed_frames.OfferedFrame.{OfferedFrame}
use Rattle.fate_service.specs.declared.landed_frames.CarriedFrame.{CarriedFrame}
use Rattle.fate_service.specs.Stretches.{came_in, ended_in, capacity_in, queue_in, peak_in, dark_in}
use Rattle.fate_service.specs.ServiceText.{known_of}
use Rattle.fate_service.proofs.LandedFrameTallyLaws.{offered-count, accepted-count, carried-count}
use Rattle.fate_service.proofs.FrameTickAndRowOrderLaws.{offered-ordered, accepted-ordered, last-ordered}
use Rattle.fate_service.proofs.OutageAndDarkRowLaws.{states-count}
use Rattle.fate_service.proofs.ServiceTextLaws.{same-stretch}
use Rattle.fate_service.proofs.stretch_counts.count_stretch.Goals as goal

pub came_in-requires : goal.came_in-requires
came_in-requires c = record {
  few =
      let few = offered-count (leg_of c.args.walk.now.script) c.args.walk.now.counts c.args.landed.now c.requires.seen.sound
      c.requires.landed in
      omega (arith, ap length c.deref.ensures.value, few);
  order = subst (λ l. IsNonDecreasingBy (λ (f : OfferedFrame). f.due) l)
      (sym (c.deref.ensures.value ∙ c.requires.landed.offered))
      (offered-ordered (leg_of c.args.walk.now.script) c.args.walk.now.counts c.requires.seen.sound);
}

pub ended_in-requires : goal.ended_in-requires
ended_in-requires c = record {
  few =
      let few = carried-count (leg_of c.args.walk.now.script) c.args.walk.now.counts c.args.landed.now c.requires.seen.sound
      c.requires.landed in
      omega (arith, ap length c.deref-2.ensures.value, few);
  order = subst (λ l. IsNonDecreasingBy (λ (f : CarriedFrame). f.last) l)
      (sym (c.deref-2.ensures.value ∙ c.requires.landed.carried))
      (last-ordered (leg_of c.args.walk.now.script) c.args.walk.now.counts);
}

pub capacity_in-requires : goal.capacity_in-requires
capacity_in-requires c =
    let low = reach (leg_of c.args.walk.now.script) c.args.walk.now.counts c.args.seen.now c.requires.seen in
    omega (arith, ap (λ (t : Totals). t.taken) c.totals-totals.ensures, low)

pub peak_in-requires-clause-few : goal.peak_in-requires-clause-few
peak_in-requires-clause-few c =
    let few = accepted-count (leg_of c.args.walk.now.script) c.args.walk.now.counts c.args.landed.now
    c.requires.seen.sound c.requires.landed in
    omega (arith, ap length c.deref-3.ensures.value, few)

pub peak_in-requires-clause-order : goal.peak_in-requires-clause-order
peak_in-requires-clause-order c =
    subst (λ l. IsNonDecreasing l) (sym (c.deref-3.ensures.value ∙ c.requires.landed.accepted))
    (accepted-ordered (leg_of c.args.walk.now.script) c.args.walk.now.counts c.requires.seen.sound)

pub dark_in-requires : goal.dark_in-requires
dark_in-requires c =
    let leg = leg_of c.args.walk.now.script in
    let s = c.args.walk.now.counts in
    let bounds = within leg s c.args.seen.now c.requires.seen in
    let few = c.requires.seen.sound.network.ticks in
    omega (arith, ap length c.requires.states, states-count leg s.rows, bounds.0, bounds.1, few)

pub returns : goal.returns
returns c =
    let leg = leg_of c.args.walk.now.script in
    let s = c.args.walk.now.counts in
    let known = known_of leg s in
    let first = c.args.first in
    let end = c.args.end in
    let are = c.requires.seen.rows.packets.are in
    let taken = ap (λ (t : Totals). t.taken) c.totals-totals.ensures in
    let ticks = ap (λ (t : Totals). t.ticks) c.totals-totals.ensures in
    let sent = ap (λ (r : Ruler). r.sent) c.requires.seen.places in
    let place = place_of (scenario_by leg) (session_of leg) in
    same-stretch c.came_in.result (came_in known.offered first end) c.ended_in.result (ended_in known.carried first end)
    c.capacity_in.result (capacity_in known.place known.rows first end) c.peak_in.result
    (peak_in (queue_in known.accepted known.sent known.place known.ticks) first end) c.dark_in.result
    (dark_in known.states first end)
    (c.came_in.ensures ∙ ap (λ l. came_in l first end) (c.deref.ensures.value ∙ c.requires.landed.offered))
    (c.ended_in.ensures ∙ ap (λ l. ended_in l first end) (c.deref-2.ensures.value ∙ c.requires.landed.carried))
    (c.capacity_in.ensures (scenario_by leg) (session_of leg) are ∙ ap (λ n. capacity_in place n first end) taken)
    (c.peak_in.ensures (scenario_by leg) (session_of leg) are
    ∙ ap₂ (λ l m. peak_in (queue_in l m place c.totals-totals.result.ticks) first end)
    (c.deref-3.ensures.value ∙ c.requires.landed.accepted) sent
    ∙ ap (λ n. peak_in (queue_in known.accepted known.sent place n) first end) ticks)
    (c.dark_in.ensures ∙ ap (λ l. dark_in l first end) c.requires.states)
