-- A failure is told, or isn't.
use Rattle.std.proofs.Common.{◌≡◌, false, true, [], ◌∷◌, length, take, All, sym, ◌∙◌, ap, subst}
use Rattle.law_model.specs.declared.script_types.Script.{Script}
use Rattle.law_model.specs.Common.{AreWindows, leg_of, scenario_by}
use Rattle.law_walk.specs.Common.{session_of}
use Rattle.text_got.specs.TextSoFar.{HasText}
use Rattle.fate_check.specs.IdleWindows.{is_idle, idle_among}
use Rattle.fate_check.proofs.CheckTextAndEarlyFrameLaws.{text_of, idle-one, text-none, text-one}
use Rattle.fate_check.proofs.write_check_lines.write_if_idle.Goals as goal

pub is_idle-requires-clause-apart : goal.is_idle-requires-clause-apart
is_idle-requires-clause-apart g c =
    subst (λ (s : Script). All (AreWindows 0) s.config.windows) (sym c.script.ensures.script)
    (λ k d low. (c.requires.seen.sound.network.windows k d low).apart)

pub returns-then-not-is_idle : goal.returns-then-not-is_idle
returns-then-not-is_idle g c =
    let leg = leg_of c.args.walk.now.script in
    let rows = c.args.walk.now.counts.rows in
    let member = c.args.member in
    let window = c.args.window in
    let same = ap (λ (s : Script). s.config.windows) (sym c.script.ensures.script) in
    let options = ap (λ (s : Script). s.config.options) (sym c.script.ensures.script) in
    let none : idle_among leg rows member (window ∷ []) ≡ [] =
    idle-one leg rows member window false
    (ap (λ n. is_idle (scenario_by leg) (session_of leg) n member window) (sym c.rows_taken-rows.ensures.rows)
    ∙ sym (c.is_idle.ensures (scenario_by leg) (session_of leg) options same c.requires.seen.rows.packets.are)
    ∙ c.if-not-is_idle.true) in
    record {
      text = λ start before has. subst (HasText g.K.ByteSink.written g.K.ByteSink.faults c.args.got.now start)
          (text-none text_of (idle_among leg rows member (window ∷ [])) before none) has;
      count = sym (ap length none);
    }

pub returns : goal.returns
returns g c =
    let leg = leg_of c.args.walk.now.script in
    let rows = c.args.walk.now.counts.rows in
    let member = c.args.member in
    let window = c.args.window in
    let same = ap (λ (s : Script). s.config.windows) (sym c.script.ensures.script) in
    let options = ap (λ (s : Script). s.config.options) (sym c.script.ensures.script) in
    let one : idle_among leg rows member (window ∷ []) ≡ (member, window) ∷ [] =
    idle-one leg rows member window true
    (ap (λ n. is_idle (scenario_by leg) (session_of leg) n member window) (sym c.rows_taken-rows.ensures.rows)
    ∙ sym (c.is_idle.ensures (scenario_by leg) (session_of leg) options same c.requires.seen.rows.packets.are)
    ∙ c.if-not-is_idle.false) in
    record {
      text = λ start before has. subst (HasText g.K.ByteSink.written g.K.ByteSink.faults c.line.new.self start)
          (text-one text_of (idle_among leg rows member (window ∷ [])) (member, window) before
          (take c.idle_line-end.result c.idle_line-end.new.out) one c.idle_line-end.ensures.line)
          (c.line.ensures start before has);
      count = sym (ap length one);
    }
