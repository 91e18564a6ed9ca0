-- A row more; and all of them.
use Rattle.std.proofs.Common.{◌≡◌, ℕ, zero, suc, ◌+◌, ◌-◌, ◌<◌, ◌≤◌, ◌++◌, List, [], map, refl, sym, ◌∙◌, ap, subst, arith}
use Rattle.std.proofs.Common.{append-nil, append_assoc}
use Rattle.std.specs.List.{flat_map, range_with_len}
use Rattle.text_got.specs.TextSoFar.{HasText}
use Rattle.law_model.specs.Common.{width, most_lines}
use Rattle.fate_service.specs.declared.width_run.WidthRun.{WidthRun}
use Rattle.fate_service.specs.MemberRuns.{runs_on, runs_of}
use Rattle.fate_service.specs.Surveyed.{next_run, run_text}
use Rattle.fate_service.specs.ServiceText.{members_text}
use Rattle.fate_service.proofs.ServiceTextLaws.{members-begin, members-next, members-end, run-few, run-grows, text-more, text-whole}
use Rattle.fate_service.proofs.service_report.write_members.Goals as goal

some-rows : (n : ℕ) → (n ≡ 0 → ⊥) → 0 < n
some-rows zero isnt = absurd (isnt refl)
some-rows (suc n) isnt = omega arith

pub loop-row-init : goal.loop-row-init
loop-row-init g c = (
  c.width_in.ensures.few,
  refl,
  λ scenario cells are. (
    [],
    ap (flat_map (members_text c.args.size)) (members-begin (width scenario cells) c.args.rows c.width_in.result
        (some-rows c.args.rows c.if-rows-eq0.false) (c.width_in.ensures.width scenario cells are)),
    λ start before has.
        subst (HasText g.K.ByteSink.written g.K.ByteSink.faults c.args.got.now start) (sym (append-nil before)) has,
  ),
)

pub loop-row-preserved : goal.loop-row-preserved
loop-row-preserved g c =
    let run = c.loop-row.run in
    let row = c.loop-row.row in
    let rows = c.args.rows in
    let size = c.args.size in
    let members = c.width_in-in-loop-row.result in
    let is = c.add_row-run.ensures.run in (
      subst (λ (r : WidthRun). r.members ≤ most_lines) (sym is)
          (run-few run members c.loop-row.invariant.0 c.width_in-in-loop-row.ensures.few),
      ap (λ (r : WidthRun). r.end) is ∙ run-grows run members ∙ ap (λ n. n + 1) c.loop-row.invariant.1,
      λ scenario cells are.
          let kept = c.loop-row.invariant.2 scenario cells are in
          let done = kept.0 in
          let own : List ℕ = run_text size run members in
          let f : ℕ → ℕ = width scenario cells in (
            done ++ own,
            subst (λ (r : WidthRun). (done ++ own) ++ flat_map (members_text size)
                (runs_on r (map f (range_with_len (row + 1) (rows - (row + 1)))))
                ≡ flat_map (members_text size) (runs_of (map f (range_with_len 0 rows)))) (sym is)
                (text-more done own (flat_map (members_text size)
                (runs_on (next_run run members) (map f (range_with_len (row + 1) (rows - (row + 1))))))
                (flat_map (members_text size) (runs_on run (map f (range_with_len row (rows - row)))))
                (flat_map (members_text size) (runs_of (map f (range_with_len 0 rows))))
                (members-next size f run row rows members c.loop-row-test.true
                (c.width_in-in-loop-row.ensures.width scenario cells are)) kept.1),
            λ start before has. subst (HasText g.K.ByteSink.written g.K.ByteSink.faults c.add_row-run.new.got start)
                (append_assoc before done own) (c.add_row-run.ensures.text start (before ++ done) (kept.2 start before has)),
          ),
    )

pub returns : goal.returns
returns g c = λ scenario cells are start before has.
    let run = c.loop-row.run in
    let row = c.loop-row.row in
    let rows = c.args.rows in
    let size = c.args.size in
    let kept = c.loop-row.invariant.2 scenario cells are in
    let done = kept.0 in
    let f : ℕ → ℕ = width scenario cells in
    subst (HasText g.K.ByteSink.written g.K.ByteSink.faults c.write_run.new.got start)
    (append_assoc before done (members_text size run)
    ∙ ap (λ l. before ++ l) (text-whole done
    (flat_map (members_text size) (runs_on run (map f (range_with_len row (rows - row))))) (members_text size run)
    (flat_map (members_text size) (runs_of (map f (range_with_len 0 rows))))
    (members-end size f run row rows c.loop-row-test.false) kept.1))
    (c.write_run.ensures start (before ++ done) (kept.2 start before has))
