-- A line is told, or isn't.
use Rattle.std.proofs.Common.{◌≡◌, false, true, [], ◌∷◌, length, take, sym, ◌∙◌, ap, subst}
use Rattle.law_model.specs.Common.{leg_of, scenario_by}
use Rattle.law_walk.specs.Common.{session_of}
use Rattle.text_got.specs.TextSoFar.{HasText}
use Rattle.fate_check.specs.UsedLines.{is_unused, unused_among}
use Rattle.fate_check.specs.CheckText.{unused_text}
use Rattle.fate_check.proofs.CheckTextAndEarlyFrameLaws.{filter-one, text-none, text-one}
use Rattle.fate_check.proofs.write_check_lines.write_if_unused.Goals as goal

pub returns-then-not-is_unused : goal.returns-then-not-is_unused
returns-then-not-is_unused g c =
    let leg = leg_of c.args.walk.now.script in
    let rows = c.args.walk.now.counts.rows in
    let member = c.args.member in
    let none : unused_among leg rows (member ∷ []) ≡ [] =
    filter-one (is_unused (scenario_by leg) (session_of leg) rows) member false
    (ap (λ n. is_unused (scenario_by leg) (session_of leg) n member) (sym c.rows_taken-rows.ensures.rows)
    ∙ sym (c.is_unused.ensures (scenario_by leg) (session_of leg) c.requires.rows.packets.are) ∙ c.if-not-is_unused.true) in
    record {
      text = λ start before has. subst (HasText g.K.ByteSink.written g.K.ByteSink.faults c.args.got.now start)
          (text-none unused_text (unused_among leg rows (member ∷ [])) before none) has;
      count = sym (ap length none);
    }

pub returns : goal.returns
returns g c =
    let leg = leg_of c.args.walk.now.script in
    let rows = c.args.walk.now.counts.rows in
    let member = c.args.member in
    let one : unused_among leg rows (member ∷ []) ≡ member ∷ [] =
    filter-one (is_unused (scenario_by leg) (session_of leg) rows) member true
    (ap (λ n. is_unused (scenario_by leg) (session_of leg) n member) (sym c.rows_taken-rows.ensures.rows)
    ∙ sym (c.is_unused.ensures (scenario_by leg) (session_of leg) c.requires.rows.packets.are) ∙ c.if-not-is_unused.false) in
    record {
      text = λ start before has. subst (HasText g.K.ByteSink.written g.K.ByteSink.faults c.line.new.self start)
          (text-one unused_text (unused_among leg rows (member ∷ [])) member before
          (take c.unused_line-end.result c.unused_line-end.new.out) one c.unused_line-end.ensures.line)
          (c.line.ensures start before has);
      count = sym (ap length one);
    }
