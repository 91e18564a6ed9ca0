-- Mark by mark.
use Rattle.std.proofs.Common.{◌≡◌, ◌+◌, ◌≤◌, ◌&&◌, true, false, length, drop, slice_get, sym, ◌∙◌, ap, arith}
use Rattle.std.specs.List.{list_all}
use Rattle.std.proofs.lemmas.List.{drop_all}
use Rattle.fate_engine.specs.Common.{later_segments, is_true_of}
use Rattle.fate_engine.proofs.TrueMarksLaws.{test, marks-later, test-at}
use Rattle.fate_engine.proofs.fate_core.frame_fate.starts_true.Goals as goal

pub loop-i-init : goal.loop-i-init
loop-i-init c = λ stream rows is stands. marks-later stream.pieces rows

pub loop-i-preserved : goal.loop-i-preserved
loop-i-preserved c = λ stream rows is stands.
    let own : is_true_of stream.pieces (slice_get (later_segments rows) c.loop-i.i) ≡ true =
    ap (is_true_of stream.pieces) (sym (c.later.ensures rows stands)) ∙ sym (c.is_true.ensures stream is)
    ∙ c.if-not-is_true.false in
    sym (test-at stream.pieces (later_segments rows) c.loop-i.i
    ∙ ap (λ b. b && list_all (test stream.pieces) (drop (c.loop-i.i + 1) (later_segments rows))) own)
    ∙ c.loop-i.invariant stream rows is stands

pub returns-then-not-is_true : goal.returns-then-not-is_true
returns-then-not-is_true c = λ stream rows is stands.
    let own : is_true_of stream.pieces (slice_get (later_segments rows) c.loop-i.i) ≡ false =
    ap (is_true_of stream.pieces) (sym (c.later.ensures rows stands)) ∙ sym (c.is_true.ensures stream is)
    ∙ c.if-not-is_true.true in
    sym (test-at stream.pieces (later_segments rows) c.loop-i.i
    ∙ ap (λ b. b && list_all (test stream.pieces) (drop (c.loop-i.i + 1) (later_segments rows))) own)
    ∙ c.loop-i.invariant stream rows is stands

pub returns : goal.returns
returns c = λ stream rows is stands.
    let count = c.later_count-i-end.ensures rows stands in
    let all : length (later_segments rows) ≤ c.loop-i.i = omega (arith, count, c.loop-i-test.false) in
    sym (ap (list_all (test stream.pieces)) (drop_all c.loop-i.i (later_segments rows) all))
    ∙ c.loop-i.invariant stream rows is stands
