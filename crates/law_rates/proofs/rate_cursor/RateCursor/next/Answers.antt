-- The next frame is the first of those that are left.
use Rattle.std.proofs.Common.{◌≡◌, ℕ, ◌+◌, ◌-◌, ◌≤◌, List, ◌++◌, length, take, ap, ap₂, sym, ◌∙◌, arith}
use Rattle.std.proofs.Math.Seq.{take-append_seam}
use Rattle.law_rates.specs.Draws.{after_draws}
use Rattle.law_rates.specs.Rates.{frame_of, size_at, state_of}
use Rattle.law_rates.proofs.RateFrameLaws.{length-frame_of, next_state}
use Rattle.law_rates.proofs.RateCountLaws.{from_end, from_next}
use Rattle.law_rates.proofs.rate_cursor.RateCursor.next.Goals as goal

pub returns-in_default-clause-end : goal.returns-in_default-clause-end
returns-in_default-clause-end c =
    sym c.self.view_is ∙ from_end c.self.inside.rate c.self.inside.place.number c.in_default.ensures.none

pub returns-in_default-clause-ended : goal.returns-in_default-clause-ended
returns-in_default-clause-ended c =
    sym c.self.view_is ∙ from_end c.self.inside.rate c.self.inside.place.number c.in_default.ensures.none

size : (c : goal.After-self-1) → c.from-size.result ≡ size_at c.self.inside.rate.sizes c.self.inside.place.number
size c = c.from-size.ensures ∙ c.size.ensures.size

long : (c : goal.After-self-1) → length c.split_at_mut-frame.result.0.now ≡ c.from-size.result
long c = c.split_at_mut-frame.ensures.front_len

octets : (c : goal.After-self-1) →
    c.fill_frame.new.frame ≡ frame_of (size_at c.self.inside.rate.sizes c.self.inside.place.number)
    (state_of c.self.inside.rate c.self.inside.place.number)
octets c =
    c.fill_frame.ensures.frame ∙ ap₂ frame_of (long c ∙ size c) c.self.invariant.state

pub invariant_of-self : goal.invariant_of-self
invariant_of-self c = record {
  fits = c.self.invariant.fits;
  at = c.after-self-inside.ensures.place;
  state =
      c.fill_frame.ensures.state
      ∙ ap₂ (λ size state. after_draws (size - 18) state) (long c ∙ size c) c.self.invariant.state
      ∙ sym (next_state c.self.inside.rate c.self.inside.place.number c.after-self-inside.result.number
      c.self.invariant.fits c.after-self-inside.ensures.number);
}

pub returns-clause-frame : goal.returns-clause-frame
returns-clause-frame c =
    let whole : length c.fill_frame.new.frame ≡ c.from-size.result =
    ap length (octets c) ∙ length-frame_of (size_at c.self.inside.rate.sizes c.self.inside.place.number)
    (state_of c.self.inside.rate c.self.inside.place.number)
    (let least = c.size.ensures.least in let e = c.size.ensures.size in omega (arith, least, e)) ∙ sym (size c) in
    let front : take c.from-size.result (c.fill_frame.new.frame ++ c.split_at_mut-frame.result.1.now)
    ≡ c.fill_frame.new.frame =
    ap (λ n. take n (c.fill_frame.new.frame ++ c.split_at_mut-frame.result.1.now)) (sym whole)
    ∙ take-append_seam c.fill_frame.new.frame c.split_at_mut-frame.result.1.now in
    sym c.self.view_is ∙ from_next c.self.inside.rate c.self.inside.place.number c.after-self-inside.result.number
    c.in-Some.due (take c.from-size.result (c.fill_frame.new.frame ++ c.split_at_mut-frame.result.1.now))
    c.in-Some.ensures.more c.after-self-inside.ensures.number c.in-Some.ensures.due (front ∙ octets c)
