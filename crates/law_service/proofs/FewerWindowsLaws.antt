-- A leg without some of its failures is a sound one too.
use Rattle.std.proofs.Common.{◌≡◌, ◌⊎◌, ℕ, suc, ◌+◌, ◌<◌, ◌≤◌, max, nat_lt, not, true, false, if◌then◌else◌, inl, inr}
use Rattle.std.proofs.Common.{List, [], ◌∷◌, map, length, slice_index_or, All, refl, sym, ◌∙◌, subst, arith, ltb-true}
use Rattle.std.proofs.Common.{ltb-false}
use Rattle.std.proofs.lemmas.List.{get_or-map, length-map}
use Rattle.std.proofs.lemmas.List.Elements.{All-filter}
use Rattle.law_model.specs.Common.{Leg, AreWindows, IsSound, slip_of, longest_slip}
use Rattle.law_model.specs.declared.window_types.Window.{Window}
use Rattle.law_model.specs.members.Damage.{slip_after}
use Rattle.law_model.specs.session.Plan.{greatest_slip}
use Rattle.law_model.specs.session.ValidScript.{HasFailures}
use Rattle.law_service.specs.cost_of_failures.Unnoticed.{begins_in, windows_but, without}

module _ (from horizon : ℕ) where
  fewer : (windows : List Window) → length (windows_but from horizon windows) ≤ length windows
  fewer [] = omega arith
  fewer (window ∷ windows) =
      let rest = fewer windows in
      elim (begins_in from horizon window) as (λ b.
      length (if not b then window ∷ windows_but from horizon windows else windows_but from horizon windows)
      ≤ length (window ∷ windows)) [
        | true ↦ omega arith
        | false ↦ omega arith
      ]

  -- ---- they stand in order
  sooner-are : (sooner start : ℕ) (windows : List Window) → sooner ≤ start → AreWindows start windows →
      AreWindows sooner windows
  unfolding AreWindows
  sooner-are sooner start [] low are = are
  sooner-are sooner start (window ∷ windows) low are = let begins = are.0 in (omega arith, are.1, are.2)

  are-but : (start : ℕ) (windows : List Window) → AreWindows start windows →
      AreWindows start (windows_but from horizon windows)
  unfolding AreWindows
  are-but start [] are = are
  are-but start (window ∷ windows) are =
      let begins = are.0 in
      let some = are.1 in
      let rest = are-but window.end windows are.2 in
      elim (begins_in from horizon window) as (λ b. AreWindows start
      (if not b then window ∷ windows_but from horizon windows else windows_but from horizon windows)) [
        | true ↦ sooner-are start window.end (windows_but from horizon windows) (omega arith) rest
        | false ↦ (are.0, are.1, rest)
      ]

  -- ---- their slips
  slip-low : (run end : ℕ) (windows : List Window) → run ≤ slip_after run end windows
  unfolding slip_after
  slip-low run end [] = omega arith
  slip-low run end (window ∷ windows) = omega arith

  -- a run of windows that is part of another, or behind which the next ones are apart
  slips-but : (run end r e start : ℕ) (windows : List Window) → AreWindows start windows → end ≤ start →
      ((end ≤ e) × (run ≤ r)) ⊎ (end + 17 ≤ start) →
      slip_after run end (windows_but from horizon windows) ≤ max run (slip_after r e windows)
  unfolding slip_after AreWindows
  slips-but run end r e start [] are past either = omega arith
  slips-but run end r e start (window ∷ windows) are past either =
      let begins = are.0 in
      let some = are.1 in
      elim (begins_in from horizon window) as (λ b. slip_after run end
      (if not b then window ∷ windows_but from horizon windows else windows_but from horizon windows)
      ≤ max run (max r (slip_after (if nat_lt window.first (e + 17) then r + window.slip else window.slip) window.end
      windows))) [
        | true ↦ elim (nat_lt window.first (e + 17)) as (λ c. nat_lt window.first (e + 17) ≡ c →
            slip_after run end (windows_but from horizon windows)
            ≤ max run (max r (slip_after (if c then r + window.slip else window.slip) window.end windows))) [
              | true ↦ λ is.
                  let rest = slips-but run end (r + window.slip) window.end window.end windows are.2 (omega arith)
                  (elim either [
                    | inl part ↦ inl (omega arith, (let less = part.1 in omega arith))
                    | inr apart ↦ inr (omega arith)
                  ]) in
                  omega arith
              | false ↦ λ is.
                  let far = ltb-false window.first (e + 17) is in
                  let rest = slips-but run end window.slip window.end window.end windows are.2 (omega arith)
                  (elim either [
                    | inl part ↦ inr (let less = part.0 in omega arith)
                    | inr apart ↦ inr (omega arith)
                  ]) in
                  omega arith
            ] refl
        | false ↦
            elim (nat_lt window.first (e + 17)) as (λ c. nat_lt window.first (e + 17) ≡ c →
            max run (slip_after (if nat_lt window.first (end + 17) then run + window.slip else window.slip) window.end
            (windows_but from horizon windows))
            ≤ max run (max r (slip_after (if c then r + window.slip else window.slip) window.end windows))) [
              | true ↦ λ is. elim (nat_lt window.first (end + 17)) as (λ d. nat_lt window.first (end + 17) ≡ d →
                  max run (slip_after (if d then run + window.slip else window.slip) window.end
                  (windows_but from horizon windows))
                  ≤ max run (max r (slip_after (r + window.slip) window.end windows))) [
                    | true ↦ λ same.
                        let close = ltb-true window.first (end + 17) same in
                        let less : run ≤ r = elim either [
                          | inl part ↦ part.1
                          | inr apart ↦ omega arith
                        ] in
                        let rest = slips-but (run + window.slip) window.end (r + window.slip) window.end window.end
                        windows are.2 (omega arith) (inl (omega arith, omega arith)) in
                        let least = slip-low (r + window.slip) window.end windows in
                        omega arith
                    | false ↦ λ other.
                        let rest = slips-but window.slip window.end (r + window.slip) window.end window.end windows
                        are.2 (omega arith) (inl (omega arith, omega arith)) in
                        let least = slip-low (r + window.slip) window.end windows in
                        omega arith
                  ] refl
              | false ↦ λ is. elim (nat_lt window.first (end + 17)) as (λ d. nat_lt window.first (end + 17) ≡ d →
                  max run (slip_after (if d then run + window.slip else window.slip) window.end
                  (windows_but from horizon windows))
                  ≤ max run (max r (slip_after window.slip window.end windows))) [
                    | true ↦ λ same.
                        let close = ltb-true window.first (end + 17) same in
                        let far = ltb-false window.first (e + 17) is in
                        absurd (elim either [
                          | inl part ↦ (let less = part.0 in omega arith)
                          | inr apart ↦ omega arith
                        ])
                    | false ↦ λ other.
                        let rest = slips-but window.slip window.end window.slip window.end window.end windows are.2
                        (omega arith) (inl (omega arith, omega arith)) in
                        let least = slip-low window.slip window.end windows in
                        omega arith
                  ] refl
            ] refl
      ]

  slip-but : (windows : List Window) → AreWindows 0 windows →
      slip_of (windows_but from horizon windows) ≤ slip_of windows
  slip-but windows are =
      let least = slips-but 0 0 0 0 0 windows are (omega arith) (inl (omega arith, omega arith)) in omega arith

  -- ---- line by line
  slips-of : (ticks : ℕ) (lists : List (List Window)) → All (HasFailures ticks) lists →
      greatest_slip (map (windows_but from horizon) lists) ≤ greatest_slip lists
  slips-of ticks [] has = omega arith
  slips-of ticks (windows ∷ lists) has =
      let own : HasFailures ticks windows = has 0 windows (omega arith) in
      let here = slip-but windows own.apart in
      let rest = slips-of ticks lists (λ i d inside. has (suc i) d (omega arith)) in
      omega arith

  line-but : (ticks : ℕ) (windows : List Window) → HasFailures ticks windows →
      HasFailures ticks (windows_but from horizon windows)
  line-but ticks windows has = record {
    few = (let most = fewer windows in let few = has.few in omega arith);
    apart = are-but 0 windows has.apart;
    ends = All-filter (λ (window : Window). not (begins_in from horizon window)) (λ (w : Window). w.end ≤ ticks) windows
        has.ends;
    slips = All-filter (λ (window : Window). not (begins_in from horizon window)) (λ (w : Window). w.slip ≤ longest_slip)
        windows has.slips;
  }

  pub sound-without : (leg : Leg) → IsSound leg → IsSound (without leg from horizon)
  sound-without leg sound =
      let network = sound.network in
      let slips = slips-of leg.config.ticks leg.config.windows network.windows in
      let ring = network.fits_ring in
      let lag = network.fits_lag in
      record {
        network = record {
          lines = network.lines;
          delay_each = network.delay_each;
          delays = network.delays;
          windows_each = length-map leg.config.windows (windows_but from horizon) ∙ network.windows_each;
          windows = λ line none inside.
              let within : line < length leg.config.windows =
              (let same = length-map leg.config.windows (windows_but from horizon) in omega (arith, inside, same)) in
              subst (HasFailures leg.config.ticks)
              (sym (get_or-map (windows_but from horizon) leg.config.windows line [] none within))
              (line-but leg.config.ticks (slice_index_or leg.config.windows line []) (network.windows line [] within));
          lost = network.lost;
          ring = network.ring;
          lag = network.lag;
          ticks = network.ticks;
          size = network.size;
          options = network.options;
          fits_ring = omega arith;
          fits_lag = omega arith;
        };
        items = sound.items;
        few = sound.few;
      }
