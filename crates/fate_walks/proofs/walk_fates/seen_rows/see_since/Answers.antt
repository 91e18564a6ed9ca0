-- One packet more, and one row more.
use Rattle.std.proofs.Common.{◌≡◌, ℕ, refl, sym, ◌∙◌, ap, subst, arith}
use Rattle.law_model.specs.Common.{Leg, Counts, leg_of, steps_in, active}
use Rattle.law_walk.specs.Common.{table_in}
use Rattle.law_model.specs.declared.session_totals.Totals.{Totals}
use Rattle.std.proofs.lemmas.Result.{on_err_weaker}
use Rattle.fate_walks.specs.declared.walk_fates.seen_rows.SeenRows.{SeenRows}
use Rattle.fate_engine.specs.Common.{PacketList}
use Rattle.fate_walks.specs.walk_fates.Seen.{Sees}
use Rattle.fate_walks.proofs.FatesAndSeenRowsLaws.{few-rows, sees-step, sees-same, on-err, part-stays, part-after}
use Rattle.fate_walks.proofs.walk_fates.seen_rows.see_since.Goals as goal
use Rattle.fate_walks.proofs.walk_fates.seen_rows.see_since.Goals.{then-is_step+in_ok-push, else-is_step}

-- once a decision step was seen, where there was one
record Stepped (leg : Leg) (ticks rows : ℕ) (was is : SeenRows) : Type 0 where
  segments : is.segments ≡ was.segments
  known : is.packets.known ≡ was.packets.known
  runs : is.runs ≡ was.runs
  sees : Sees leg ticks rows is

pub is_step-requires : goal.is_step-requires
is_step-requires c =
    let e = ap (λ (t : Totals). t.ticks) c.totals-totals.ensures in
    record { least = omega (arith, e, c.requires.least); most = omega (arith, e, c.requires.most) }

pub push-requires : goal.push-requires
push-requires c =
    let few =
    few-rows (leg_of c.args.walk.now.script) c.args.walk.now.counts c.requires.valid.sound c.requires.walked in
    let e = ap (λ (t : Totals). t.ticks) c.totals-totals.ensures in
    omega (arith, few.2, c.requires.least, c.requires.seen.packets.steps, c.if-is_step.ensures.yes, e)

pub returns-then-totals-rows-clause-ok : goal.returns-then-totals-rows-clause-ok
returns-then-totals-rows-clause-ok c =
    let leg = leg_of c.args.walk.now.script in
    let ticks = c.args.walk.now.counts.ticks in
    let on : steps_in ticks ≡ steps_in c.totals-totals.result.ticks =
    ap steps_in (sym (ap (λ (t : Totals). t.ticks) c.totals-totals.ensures)) in
    let all : c.args.rows ≡ c.args.walk.now.counts.rows = sym c.if-totals-rows.true
    ∙ ap (λ (t : Totals). t.taken) c.totals-totals.ensures in
    let sees : Sees leg ticks c.args.rows c.if-is_step.seen = elim c.if-is_step.branch [
      | then-is_step+in_ok-push w ↦
          sees-step leg c.args.ticks ticks c.args.rows c.args.seen.now c.if-is_step.seen
          w.push.new.self w.active.result.items c.requires.seen
          (on ∙ w.if-is_step.ensures.yes)
          (w.active.ensures ∙ ap active (w.table.ensures.table leg _ (w.way.ensures.stands leg w.live.ensures.stands)
          ∙ ap (λ (s : Counts). table_in leg s.ticks) (w.way.ensures.counts ∙ w.live.ensures.counts)))
          w.in_ok-push.ensures.ok w.seen-is
      | else-is_step w ↦ sees-same leg c.args.ticks ticks c.args.rows c.args.seen.now c.if-is_step.seen
          c.requires.seen (on ∙ w.if-is_step.ensures.no) w.seen-is
    ] in
    subst (λ n. Sees leg ticks n c.if-is_step.seen) all sees

pub see_row-requires-clause-seen : goal.see_row-requires-clause-seen
see_row-requires-clause-seen c =
    let leg = leg_of c.args.walk.now.script in
    let ticks = c.args.walk.now.counts.ticks in
    let on : steps_in ticks ≡ steps_in c.totals-totals.result.ticks =
    ap steps_in (sym (ap (λ (t : Totals). t.ticks) c.totals-totals.ensures)) in
    elim c.if-is_step.branch [
      | then-is_step+in_ok-push w ↦
          sees-step leg c.args.ticks ticks c.args.rows c.args.seen.now c.if-is_step.seen
          w.push.new.self w.active.result.items c.requires.seen
          (on ∙ w.if-is_step.ensures.yes)
          (w.active.ensures ∙ ap active (w.table.ensures.table leg _ (w.way.ensures.stands leg w.live.ensures.stands)
          ∙ ap (λ (s : Counts). table_in leg s.ticks) (w.way.ensures.counts ∙ w.live.ensures.counts)))
          w.in_ok-push.ensures.ok w.seen-is
      | else-is_step w ↦ sees-same leg c.args.ticks ticks c.args.rows c.args.seen.now c.if-is_step.seen
          c.requires.seen (on ∙ w.if-is_step.ensures.no) w.seen-is
    ]

pub returns-clause-err : goal.returns-clause-err
returns-clause-err c =
    let leg = leg_of c.args.walk.now.script in
    let ticks = c.args.walk.now.counts.ticks in
    let on : steps_in ticks ≡ steps_in c.totals-totals.result.ticks =
    ap steps_in (sym (ap (λ (t : Totals). t.ticks) c.totals-totals.ensures)) in
    let after : Stepped leg ticks c.args.rows c.args.seen.now c.if-is_step.seen = elim c.if-is_step.branch [
      | then-is_step+in_ok-push w ↦ record {
        segments = ap (λ (seen : SeenRows). seen.segments) w.seen-is;
        known = ap (λ (seen : SeenRows). seen.packets.known) w.seen-is
            ∙ ap (λ (packets : PacketList). packets.known) w.in_ok-push.ensures.ok;
        runs = ap (λ (seen : SeenRows). seen.runs) w.seen-is;
        sees = sees-step leg c.args.ticks ticks c.args.rows c.args.seen.now c.if-is_step.seen
            w.push.new.self w.active.result.items c.requires.seen
            (on ∙ w.if-is_step.ensures.yes)
            (w.active.ensures ∙ ap active (w.table.ensures.table leg _ (w.way.ensures.stands leg w.live.ensures.stands)
            ∙ ap (λ (s : Counts). table_in leg s.ticks) (w.way.ensures.counts ∙ w.live.ensures.counts)))
            w.in_ok-push.ensures.ok w.seen-is;
      }
      | else-is_step w ↦ record {
        segments = ap (λ (seen : SeenRows). seen.segments) w.seen-is;
        known = ap (λ (seen : SeenRows). seen.packets.known) w.seen-is;
        runs = ap (λ (seen : SeenRows). seen.runs) w.seen-is;
        sees = sees-same leg c.args.ticks ticks c.args.rows c.args.seen.now c.if-is_step.seen
            c.requires.seen (on ∙ w.if-is_step.ensures.no) w.seen-is;
      }
    ] in
    on_err_weaker c.see_row.result
    (part-after leg ticks c.args.walk.now.counts.rows c.args.seen.now c.if-is_step.seen c.see_row.new.seen after.segments
    after.sees.packets after.known after.runs) c.see_row.ensures.err

pub returns-in_err-push-clause-err : goal.returns-in_err-push-clause-err
returns-in_err-push-clause-err c =
    on-err c.from_residual.result
    (part-stays (leg_of c.args.walk.now.script) c.args.walk.now.counts.ticks c.args.walk.now.counts.rows c.args.seen.now
    (record c.args.seen.now { packets = c.push.new.self }) refl c.in_err-push.ensures.err refl)
