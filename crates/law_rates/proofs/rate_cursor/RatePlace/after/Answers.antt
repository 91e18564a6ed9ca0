-- One frame on.
use Rattle.std.proofs.Common.{◌≡◌, suc, ◌+◌, ◌%◌, ◌<◌, ◌⊎◌, inl, inr, length, sym, ap, ◌∙◌, arith}
use Rattle.law_rates.proofs.RateFrameLaws.{before_more, next_turn}
use Rattle.law_rates.proofs.RateCountLaws.{few_octets, few_frames}
use Rattle.law_rates.proofs.rate_cursor.RatePlace.after.Goals as goal
use Rattle.law_rates.proofs.rate_cursor.RatePlace.after.Goals.{then-last, else-last}

pub overflow_add-result : goal.overflow_add-result
overflow_add-result c =
    let few = few_frames c.args.rate.now c.args.self.now.number c.requires.rate c.requires.place.within in
    omega (arith, few)

pub overflow_add-result-2 : goal.overflow_add-result-2
overflow_add-result-2 c =
    let few = few_octets c.args.rate.now c.args.self.now.number c.requires.rate c.requires.place.within in
    omega (arith, few, c.requires.place.octets, c.from-2.ensures, c.size.ensures.most)

turn : (c : goal.After-from-2) → c.if-last.result ≡ suc c.args.self.now.number % length c.args.rate.now.sizes
turn c =
    let is = c.from.ensures in
    let count = c.len.ensures.count in
    elim (next_turn c.args.self.now.number (length c.args.rate.now.sizes) c.args.self.now.turn c.requires.rate.some
    c.requires.place.turn) [
      | inl last ↦ elim c.if-last.branch [
        | then-last w ↦ omega (arith, w.result-is, last.1)
        | else-last w ↦ absurd (omega (arith, w.if-last.false, last.0, is, count))
      ]
      | inr more ↦ elim c.if-last.branch [
        | then-last w ↦ absurd (omega (arith, w.if-last.true, more.0, is, count))
        | else-last w ↦ omega (arith, w.result-is, more.1)
      ]
    ]

pub returns-clause-place : goal.returns-clause-place
returns-clause-place c = record {
  within = omega (arith, c.requires.more);
  turn = turn c ∙ ap (λ m. m % length c.args.rate.now.sizes)
      (let e : suc c.args.self.now.number ≡ c.args.self.now.number + 1 = omega arith in e);
  octets =
      (let step = before_more c.args.rate.now.sizes (c.args.self.now.number + 1) c.args.self.now.number (omega arith) in
      omega (arith, step, c.requires.place.octets, c.from-2.ensures, c.size.ensures.size));
}
