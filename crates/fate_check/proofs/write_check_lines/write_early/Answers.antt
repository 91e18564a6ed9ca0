-- Frames are told, if there are any.
use Rattle.std.proofs.Common.{◌≡◌, ℕ, ◌<◌, ◌++◌, Option, length, filter, sym, ◌∙◌, ap, ap₂, subst, arith, append-nil}
use Rattle.law_model.specs.Common.{leg_of, scenario_by}
use Rattle.law_walk.specs.Common.{session_of, landed_items}
use Rattle.text_got.specs.TextSoFar.{HasText}
use Rattle.fate_check.specs.UsedLines.{first_payload}
use Rattle.fate_check.specs.EarlyFrames.{is_early, payload_row, early_frames}
use Rattle.fate_check.specs.CheckText.{early_if_any}
use Rattle.fate_check.proofs.CheckTextAndEarlyFrameLaws.{early-none, early-some}
use Rattle.fate_check.proofs.write_check_lines.write_early.Goals as goal

pub returns-then-early-eq0 : goal.returns-then-early-eq0
returns-then-early-eq0 g c =
    let leg = leg_of c.args.walk.now.script in
    let s = c.args.walk.now.counts in
    let first : c.first_payload-row.result ≡ payload_row leg s =
    c.first_payload-row.ensures (scenario_by leg) (session_of leg) c.requires.rows.packets.are
    ∙ ap (first_payload (scenario_by leg) (session_of leg)) c.rows_taken.ensures.rows in
    let count : c.count_early-early.result ≡ length (early_frames leg s) =
    c.count_early-early.ensures ∙ ap (λ (row : Option ℕ). length (filter (is_early leg row) (landed_items leg s))) first in
    let none : length (early_frames leg s) ≡ 0 = omega (arith, count, c.if-early-eq0.true) in
    record {
      text = λ start before has. subst (HasText g.K.ByteSink.written g.K.ByteSink.faults c.args.got.now start)
          (sym (ap (λ l. before ++ l) (early-none (length (early_frames leg s)) (payload_row leg s) none)
          ∙ append-nil before)) has;
      count = sym none;
    }

pub returns : goal.returns
returns g c =
    let leg = leg_of c.args.walk.now.script in
    let s = c.args.walk.now.counts in
    let first : c.first_payload-row.result ≡ payload_row leg s =
    c.first_payload-row.ensures (scenario_by leg) (session_of leg) c.requires.rows.packets.are
    ∙ ap (first_payload (scenario_by leg) (session_of leg)) c.rows_taken.ensures.rows in
    let count : c.count_early-early.result ≡ length (early_frames leg s) =
    c.count_early-early.ensures ∙ ap (λ (row : Option ℕ). length (filter (is_early leg row) (landed_items leg s))) first in
    let some : 0 < c.count_early-early.result = (let test = c.if-early-eq0.false in omega (arith, test)) in
    record {
      text = λ start before has. subst (HasText g.K.ByteSink.written g.K.ByteSink.faults c.line.new.self start)
          (ap (λ l. before ++ l) (c.early_line-end.ensures.line
          ∙ sym (early-some c.count_early-early.result c.first_payload-row.result some) ∙ ap₂ early_if_any count first))
          (c.line.ensures start before has);
      count = count;
    }
