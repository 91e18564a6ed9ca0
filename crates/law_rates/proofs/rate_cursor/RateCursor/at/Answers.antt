-- The draws of the frames before are skipped.
use Rattle.std.proofs.Common.{◌≡◌, ◌*◌, ◌-◌, ap, ap₂, ◌∙◌, arith}
use Rattle.law_rates.specs.Draws.{after_draws}
use Rattle.law_rates.specs.Places.{frames_from}
use Rattle.law_rates.specs.Rates.{octets_before}
use Rattle.law_rates.proofs.RateCountLaws.{few_frames}
use Rattle.law_rates.proofs.RateFrameLaws.{before_many}
use Rattle.law_rates.proofs.rate_cursor.RateCursor.at.Goals as goal

pub overflow_mul-number : goal.overflow_mul-number
overflow_mul-number c =
    let few = few_frames c.args.rate.now c.args.number c.requires.rate c.requires.within in
    omega (arith, few)

pub overflow_sub-place : goal.overflow_sub-place
overflow_sub-place c =
    let many = before_many c.args.rate.now.sizes c.at-place.result.number c.requires.rate.some c.requires.rate.sizes in
    let place = c.at-place.ensures.place.octets in
    let number = c.at-place.ensures.number in
    omega (arith, many, place, number)

pub invariant_of-result : goal.invariant_of-result
invariant_of-result c = record {
  fits = c.requires.rate;
  at = c.at-place.ensures.place;
  state =
      (let place = c.at-place.ensures.place.octets in
      let number = c.at-place.ensures.number in
      let e : c.at-place.result.octets - 18 * c.args.number
      ≡ octets_before c.args.rate.now.sizes c.at-place.result.number - 18 * c.at-place.result.number =
      omega (arith, place, number) in
      c.skip.ensures ∙ ap₂ (λ k s. after_draws k s) e c.new-draws.ensures);
}

pub returns : goal.returns
returns c = ap (frames_from c.args.rate.now) c.at-place.ensures.number
