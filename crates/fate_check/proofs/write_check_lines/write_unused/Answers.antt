-- A line more; and all of them.
use Rattle.std.proofs.Common.{◌≡◌, [], ◌∷◌, ◌++◌, length, ◌∙◌, ap, subst, arith}
use Rattle.std.specs.List.{flat_map, range_with_len}
use Rattle.law_model.proofs.ListLaws.{filter-few}
use Rattle.law_model.specs.declared.script_types.Script.{Script}
use Rattle.law_model.specs.Common.{leg_of, scenario_by}
use Rattle.law_walk.specs.Common.{session_of}
use Rattle.text_got.specs.TextSoFar.{HasText}
use Rattle.fate_check.specs.UsedLines.{is_unused, unused_among}
use Rattle.fate_check.specs.CheckText.{unused_text}
use Rattle.fate_check.proofs.CheckTextAndEarlyFrameLaws.{grown, unused-more}
use Rattle.fate_check.proofs.write_check_lines.write_unused.Goals as goal

pub loop-member-preserved : goal.loop-member-preserved
loop-member-preserved g c =
    let leg = leg_of c.args.walk.now.script in
    let rows = c.args.walk.now.counts.rows in
    let i = c.loop-member.member in
    let grows = grown unused_text (unused_among leg rows (range_with_len 0 i)) (unused_among leg rows (i ∷ [])) _
    (unused-more leg rows i) in
    let own = c.write_if_unused-unused.ensures.count in
    let few = filter-few (is_unused (scenario_by leg) (session_of leg) rows) (i ∷ []) in (
      omega (arith, grows.0, c.loop-member.invariant.0, own),
      omega (arith, c.loop-member.invariant.1, own, few),
      λ start before has.
          subst (HasText g.K.ByteSink.written g.K.ByteSink.faults c.write_if_unused-unused.new.got start) (grows.1 before)
          (c.write_if_unused-unused.ensures.text start
          (before ++ flat_map unused_text (unused_among leg rows (range_with_len 0 i)))
          (c.loop-member.invariant.2 start before has)),
    )

pub returns : goal.returns
returns g c =
    let leg = leg_of c.args.walk.now.script in
    let rows = c.args.walk.now.counts.rows in
    let all : c.loop-member.member ≡ leg.config.lines =
    (let end = ap (λ (s : Script). s.config.lines) c.script.ensures.script in
    let test = c.loop-member-test.false in let upto = c.loop-member.auto.member-end in omega (arith, end, test, upto)) in
    record {
      text = λ start before has.
          subst (HasText g.K.ByteSink.written g.K.ByteSink.faults c.loop-member.got start)
          (ap (λ n. before ++ flat_map unused_text (unused_among leg rows (range_with_len 0 n))) all)
          (c.loop-member.invariant.2 start before has);
      count = c.loop-member.invariant.0 ∙ ap (λ n. length (unused_among leg rows (range_with_len 0 n))) all;
    }
