-- A line more; and a first part that is too long.
use Rattle.std.proofs.Common.{◌≡◌, ◌≤◌, ◌+◌, ◌*◌, suc, length, ap, sym, ◌∙◌, arith, refl}
use Rattle.law_rates.specs.Rates.{count_of, first_frames}
use Rattle.text_scripts.specs.rate_load.RateTexts.{lines_of, start_of}
use Rattle.text_scripts.proofs.RateTextLaws.{no_length, length_more, length_within, length_all}
use Rattle.text_scripts.proofs.rate_load.write_rate_text.is_too_long.Goals as goal

pub loop-due-init : goal.loop-due-init
loop-due-init c = record {
  place = c.first-place.ensures.place;
  total = sym (no_length c.args.rate.now c.first-place.result.number c.first-place.ensures.number);
  small = omega arith;
}

next_total : (c : goal.Then-total-gt-LONGEST) →
    c.loop-due.total + (c.line_start-end.result + 2 * c.from.result + 1)
    ≡ length (lines_of (first_frames c.args.rate.now (suc c.loop-due.place.number)))
next_total c =
    length_more c.args.rate.now c.loop-due.place.number c.loop-due.total c.line_start-end.result c.from.result
    c.line_start-end.new.out c.requires (c.from.ensures ∙ c.size.ensures.size)
    (c.line_start-end.ensures.start ∙ ap start_of c.in-Some.ensures.due)
    c.line_start-end.ensures.within c.loop-due.invariant.total

pub returns-then-total-gt-LONGEST : goal.returns-then-total-gt-LONGEST
returns-then-total-gt-LONGEST c =
    let e = next_total c in
    let more : suc c.loop-due.place.number ≤ count_of c.args.rate.now = omega (arith, c.in-Some.ensures.more) in
    let long = length_within c.args.rate.now (suc c.loop-due.place.number) more in
    (λ t. omega (arith, e, long, c.if-total-gt-LONGEST.true), λ t. refl)

pub loop-due-preserved : goal.loop-due-preserved
loop-due-preserved c = record {
  place = c.after-place.ensures.place;
  total =
      length_more c.args.rate.now c.loop-due.place.number c.loop-due.total c.line_start-end.result c.from.result
      c.line_start-end.new.out c.requires (c.from.ensures ∙ c.size.ensures.size)
      (c.line_start-end.ensures.start ∙ ap start_of c.in-Some.ensures.due)
      c.line_start-end.ensures.within c.loop-due.invariant.total
      ∙ ap (λ k. length (lines_of (first_frames c.args.rate.now k))) (sym c.after-place.ensures.number);
  small = omega (arith, c.if-total-gt-LONGEST.false);
}

pub returns : goal.returns
returns c =
    let all = length_all c.args.rate.now c.loop-due.place.number c.in_default.ensures.none in
    (λ t. absurd cc, λ long. absurd (omega (arith, all, long, c.loop-due.invariant.total, c.loop-due.invariant.small)))
