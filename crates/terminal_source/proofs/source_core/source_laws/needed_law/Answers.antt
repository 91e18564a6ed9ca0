-- The number of the frame says which return cell a tick needs.
use Rattle.std.proofs.Common.{◌≡◌, ◌≤◌, ℕ, ◌+◌, ◌-◌, ◌*◌, ◌/◌, ◌%◌, ◌==◌, ◌&&◌, nat_le, true, false, if◌then◌else◌}
use Rattle.std.proofs.Common.{Some, None, refl, ◌∙◌, ap, arith, eq-eqb, le-leb}
use Rattle.std.proofs.lemmas.Option.{none-some}
use Rattle.terminal_source.specs.source_core.Terminal.{needed_at}
use Rattle.terminal_source.proofs.TerminalTickSteps.{test-both}
use Rattle.terminal_source.proofs.source_core.source_laws.needed_law.Goals as goal

from-some : (lag t k : ℕ) → needed_at lag t ≡ Some k → t ≡ 16 * (k + lag) + 8
from-some lag t k =
    elim (t % 16 == 8 && nat_le lag (t / 16))
    as (λ b. (t % 16 == 8 && nat_le lag (t / 16)) ≡ b → (if b then Some (t / 16 - lag) else None) ≡ Some k →
    t ≡ 16 * (k + lag) + 8) [
      | true ↦ λ e h.
          let both = test-both (t % 16) 8 lag (t / 16) e in
          let at = both.0 in
          let late = both.1 in
          let is : t / 16 - lag ≡ k = cc in
          omega arith
      | false ↦ λ e h. absurd (none-some k h)
    ] refl

to-some : (lag t k : ℕ) → t ≡ 16 * (k + lag) + 8 → needed_at lag t ≡ Some k
to-some lag t k is =
    let at : t % 16 ≡ 8 = omega arith in
    let late : lag ≤ t / 16 = omega arith in
    let number : t / 16 - lag ≡ k = omega arith in
    let test : (t % 16 == 8 && nat_le lag (t / 16)) ≡ true = rw (eq-eqb (t % 16) 8 at, le-leb lag (t / 16) late) refl in
    ap (λ b. if b then Some (t / 16 - lag) else None) test ∙ ap Some number

pub returns : goal.returns
returns c lag t k = (from-some lag t k, to-some lag t k)
