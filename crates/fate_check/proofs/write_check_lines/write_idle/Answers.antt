-- A line more; and all of them.
use Rattle.std.proofs.Common.{◌≡◌, ◌++◌, length, ◌∙◌, ap, subst, arith}
use Rattle.law_model.specs.declared.script_types.Script.{Script}
use Rattle.law_model.specs.session.Leg.{leg_of}
use Rattle.text_got.specs.TextSoFar.{HasText}
use Rattle.fate_check.specs.IdleWindows.{idle_on}
use Rattle.fate_check.specs.CheckText.{idle_texts}
use Rattle.fate_check.proofs.CheckTextAndEarlyFrameLaws.{text_of, idle_before, grown, lines-more}
use Rattle.fate_check.proofs.write_check_lines.write_idle.Goals as goal

pub loop-member-preserved : goal.loop-member-preserved
loop-member-preserved g c =
    let leg = leg_of c.args.walk.now.script in
    let rows = c.args.walk.now.counts.rows in
    let i = c.loop-member.member in
    let grows = grown text_of (idle_before leg rows i) (idle_on leg rows i) _ (lines-more leg rows i) in
    let few = c.write_idle_on-idle.ensures.few in (
      omega (arith, grows.0, c.loop-member.invariant.0, c.write_idle_on-idle.ensures.count),
      omega (arith, c.loop-member.invariant.1, few),
      λ start before has.
          subst (HasText g.K.ByteSink.written g.K.ByteSink.faults c.write_idle_on-idle.new.got start) (grows.1 before)
          (c.write_idle_on-idle.ensures.text start (before ++ idle_texts (idle_before leg rows i))
          (c.loop-member.invariant.2 start before has)),
    )

pub returns : goal.returns
returns g c =
    let leg = leg_of c.args.walk.now.script in
    let rows = c.args.walk.now.counts.rows in
    let all : c.loop-member.member ≡ leg.config.lines =
    (let end = ap (λ (s : Script). s.config.lines) c.script.ensures.script in
    let test = c.loop-member-test.false in let upto = c.loop-member.auto.member-end in omega (arith, end, test, upto)) in
    record {
      text = λ start before has.
          subst (HasText g.K.ByteSink.written g.K.ByteSink.faults c.loop-member.got start)
          (ap (λ n. before ++ idle_texts (idle_before leg rows n)) all) (c.loop-member.invariant.2 start before has);
      count = c.loop-member.invariant.0 ∙ ap (λ n. length (idle_before leg rows n)) all;
    }
