-- The octets of the sizes so far, and how many of the frames have begun.
use Rattle.std.proofs.Common.{◌≡◌, ◌≤◌, ◌*◌}
use Rattle.law_rates.specs.Rates.{octets_before, begun_within}
use Rattle.law_rates.proofs.rate_frames.begun_within.Given as goal

abbrev pub invariant-loop-size : goal.invariant-loop-size
invariant-loop-size l = record {
  before : l.before ≡ octets_before l.sizes l.size-index;
  few : l.before ≤ 65535 * l.size-index;
  begun : l.begun ≡ begun_within l.sizes l.octets l.size-index;
}
