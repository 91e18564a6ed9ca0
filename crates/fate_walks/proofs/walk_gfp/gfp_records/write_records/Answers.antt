-- A frame more; and all of them.
use Rattle.std.proofs.Common.{◌+◌, ◌≤◌, ℕ, List, length, take, not, refl, sym, ◌∙◌, ap, subst, arith}
use Rattle.law_model.specs.Common.{leg_of, longest_frame}
use Rattle.law_walk.specs.Common.{session_rows, session_pieces, session_extents}
use Rattle.text_captures.specs.capture_file.CaptureSoFar.{HasGfp}
use Rattle.fate_walks.proofs.CursorAndRulerLaws.{none-of, some-of}
use Rattle.fate_walks.specs.walk_gfp.CarriedInRows.{carried_among}
use Rattle.fate_walks.proofs.AcceptedAndCarriedFrameLaws.{carried-more, carried-all}
use Rattle.fate_walks.proofs.AcceptedAndCarriedFrameLaws.{none-behind, accepted-none, accepted-few, next-less, accepted-not, accepted-more}
use Rattle.fate_walks.proofs.AcceptedAndCarriedFrameLaws.{accepted-frame, accepted-low, accepted-all, landed_accepted}
use Rattle.fate_walks.proofs.walk_gfp.gfp_records.write_records.Goals as goal

pub loop-frame-init : goal.loop-frame-init
loop-frame-init g c = (
  accepted-none (leg_of c.args.walk.now.script) c.args.walk.now.counts c.new-cursor.result c.new-cursor.ensures.at
      c.new-cursor.ensures.first,
  λ start has. has,
)

pub write_accepted-requires-clause-few : goal.write_accepted-requires-clause-few
write_accepted-requires-clause-few g c =
    let script = c.args.walk.now.script in
    let s = c.args.walk.now.counts in
    let next = c.in-Some.ensures.some in
    let none = none-of c.in-Some.frame.refusal (c.is_none.ensures ∙ ap not c.if-is_none.true) in
    let same = c.octets_of-octets.ensures next.item next.octets next.there next.kind in
    let low = accepted-low (leg_of script) s c.loop-frame.cursor c.next.new.self c.loop-frame.accepted c.in-Some.frame
    c.loop-frame.invariant.0 next none in
    subst (λ (l : List ℕ). length l ≤ longest_frame) (sym same) low

pub overflow_add-accepted : goal.overflow_add-accepted
overflow_add-accepted g c =
    let few =
    accepted-few (leg_of c.args.walk.now.script) c.args.walk.now.counts c.loop-frame.cursor c.loop-frame.accepted
    c.loop-frame.invariant.0 in
    omega (arith, few)

pub loop-frame-preserved-then-is_none : goal.loop-frame-preserved-then-is_none
loop-frame-preserved-then-is_none g c =
    let script = c.args.walk.now.script in
    let s = c.args.walk.now.counts in
    let rows = session_rows (leg_of script) s.rows in
    let was = c.loop-frame.cursor in
    let now = c.next.new.self in
    let i = c.loop-frame.accepted in
    let is = c.loop-frame.invariant.0 in
    let next = c.in-Some.ensures.some in
    let none = none-of c.in-Some.frame.refusal (c.is_none.ensures ∙ ap not c.if-is_none.true) in
    let same = c.octets_of-octets.ensures next.item next.octets next.there next.kind in (
      accepted-more (leg_of script) s was now i c.in-Some.frame is next none (i + 1) refl c.in-Some.ensures.at,
      λ start has.
          subst (HasGfp g.K.ByteSink.written g.K.ByteSink.faults c.write_accepted.new.out start)
          (carried-more (session_pieces (leg_of script)) rows i c.octets_of-octets.result.now
          (λ e there. accepted-frame (leg_of script) s was now i c.in-Some.frame is next none e there ∙ sym same))
          (c.write_accepted.ensures start (carried_among rows (take i (session_extents (leg_of script))))
          (c.loop-frame.invariant.1 start has)),
    )

pub loop-frame-smaller-then-is_none : goal.loop-frame-smaller-then-is_none
loop-frame-smaller-then-is_none g c =
    next-less
    (leg_of c.args.walk.now.script) c.args.walk.now.counts c.loop-frame.cursor c.next.new.self c.loop-frame.accepted
    c.in-Some.frame c.loop-frame.invariant.0 c.in-Some.ensures.some

pub loop-frame-preserved : goal.loop-frame-preserved
loop-frame-preserved g c =
    let why = some-of c.in-Some.frame.refusal (c.is_none.ensures ∙ ap not c.if-is_none.false) in (
      accepted-not (leg_of c.args.walk.now.script) c.args.walk.now.counts c.loop-frame.cursor c.next.new.self
          c.loop-frame.accepted c.in-Some.frame c.loop-frame.invariant.0 c.in-Some.ensures.some why.0 why.1
          c.in-Some.ensures.at,
      c.loop-frame.invariant.1,
    )

pub loop-frame-smaller : goal.loop-frame-smaller
loop-frame-smaller g c =
    next-less
    (leg_of c.args.walk.now.script) c.args.walk.now.counts c.loop-frame.cursor c.next.new.self c.loop-frame.accepted
    c.in-Some.frame c.loop-frame.invariant.0 c.in-Some.ensures.some

pub returns : goal.returns
returns g c = λ start has.
    let script = c.args.walk.now.script in
    let s = c.args.walk.now.counts in
    let rows = session_rows (leg_of script) s.rows in
    let is = c.loop-frame.invariant.0 in
    let count = accepted-all (leg_of script) s c.loop-frame.cursor c.loop-frame.accepted is c.in_default.ensures.none in
    subst (HasGfp g.K.ByteSink.written g.K.ByteSink.faults c.loop-frame.out start)
    (ap (λ n. carried_among rows (take n (session_extents (leg_of script)))) count
    ∙ carried-all (session_pieces (leg_of script)) rows (length (landed_accepted (leg_of script) s))
    (none-behind (leg_of script) s is.at.sound is.at.walked))
    (c.loop-frame.invariant.1 start has)
