-- Frame by frame the stream is ruled, and then up to the last tick.
use Rattle.std.proofs.Common.{◌≡◌, ℕ, not, ◌∙◌, ap, subst}
use Rattle.law_model.specs.Common.{leg_of}
use Rattle.law_model.specs.declared.session_totals.Totals.{Totals}
use Rattle.fate_engine.specs.Common.{ruler_of}
use Rattle.fate_walks.specs.walk_frames.StreamInTicks.{Between, stream_in}
use Rattle.fate_walks.proofs.CursorAndRulerLaws.{none-of, some-of, ruled-first, next-due, next-fewer, ruled-refused}
use Rattle.fate_walks.proofs.CursorAndRulerLaws.{ruled-accepted, ruled-end}
use Rattle.fate_walks.proofs.walk_fates.frame_places.place_frames.Goals as goal

pub loop-frame-init : goal.loop-frame-init
loop-frame-init c =
    ruled-first (leg_of c.args.walk.now.script) c.args.walk.now.counts c.in_ok-ruler.ruler c.new-cursor.result
    c.new-cursor.ensures.at c.new-cursor.ensures.first c.in_ok-ruler.ensures

pub reach_ticks-requires-clause-order : goal.reach_ticks-requires-clause-order
reach_ticks-requires-clause-order c =
    next-due (leg_of c.args.walk.now.script) c.args.walk.now.counts c.loop-frame.ruler c.loop-frame.cursor
    c.next_before.new.cursor c.loop-frame.ticks c.in-Some.frame c.loop-frame.invariant c.in-Some.ensures.some

pub loop-frame-smaller-in-Continue-branch-2 : goal.loop-frame-smaller-in-Continue-branch-2
loop-frame-smaller-in-Continue-branch-2 c =
    next-fewer (leg_of c.args.walk.now.script) c.args.walk.now.counts c.loop-frame.ruler c.loop-frame.cursor
    c.next_before.new.cursor c.loop-frame.ticks c.in-Some.frame c.loop-frame.invariant c.in-Some.ensures.some

pub loop-frame-preserved-in-Continue-branch-2 : goal.loop-frame-preserved-in-Continue-branch-2
loop-frame-preserved-in-Continue-branch-2 c =
    ruled-accepted (leg_of c.args.walk.now.script) c.args.walk.now.counts c.loop-frame.ruler c.loop-frame.cursor
    c.next_before.new.cursor c.loop-frame.ticks c.in-Some.frame c.loop-frame.invariant c.in-Some.ensures.some
    c.next_before.ensures.at c.in-Some.ensures.before c.reach_ticks.new.ruler c.reach_ticks.ensures c.accept.new.self
    (none-of c.in-Some.frame.refusal (c.is_none.ensures ∙ ap not c.if-is_none.true)) c.in_ok-accept.ensures.ok

pub loop-frame-smaller : goal.loop-frame-smaller
loop-frame-smaller c =
    next-fewer (leg_of c.args.walk.now.script) c.args.walk.now.counts c.loop-frame.ruler c.loop-frame.cursor
    c.next_before.new.cursor c.loop-frame.ticks c.in-Some.frame c.loop-frame.invariant c.in-Some.ensures.some

pub loop-frame-preserved : goal.loop-frame-preserved
loop-frame-preserved c =
    let why = some-of c.in-Some.frame.refusal (c.is_none.ensures ∙ ap not c.if-is_none.false) in
    ruled-refused (leg_of c.args.walk.now.script) c.args.walk.now.counts c.loop-frame.ruler c.loop-frame.cursor
    c.next_before.new.cursor c.loop-frame.ticks c.in-Some.frame c.loop-frame.invariant c.in-Some.ensures.some
    c.next_before.ensures.at c.in-Some.ensures.before c.reach_ticks.new.ruler c.reach_ticks.ensures why.0 why.1

pub returns : goal.returns
returns c =
    let s = c.args.walk.now.counts in
    let ticks : c.totals-totals.result.ticks ≡ s.ticks = ap (λ (totals : Totals). totals.ticks) c.totals-totals.ensures in
    let late = rw c.in_default.is at c.next_before.ensures.none in
    ruled-end (leg_of c.args.walk.now.script) s c.loop-frame.ruler c.loop-frame.cursor c.loop-frame.ticks
    c.reach_ticks-2.new.ruler c.loop-frame.invariant late
    (subst (λ to. (frames : ℕ) → Between (leg_of c.args.walk.now.script) frames c.loop-frame.ticks to →
    c.loop-frame.ruler ≡ ruler_of (stream_in (leg_of c.args.walk.now.script) c.loop-frame.ticks frames) →
    c.reach_ticks-2.new.ruler ≡ ruler_of (stream_in (leg_of c.args.walk.now.script) to frames)) ticks
    c.reach_ticks-2.ensures)
