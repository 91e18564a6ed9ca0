-- Events that raise a measure or change nothing: a list that tries one which raises it raises it, and rounds of them end.
use Rattle.std.proofs.Common.{◌≡◌, ◌⊎◌, ℕ, zero, suc, ◌+◌, ◌-◌, ◌<◌, ◌≤◌, Bool, true, false, if◌then◌else◌, inl, inr}
use Rattle.std.proofs.Common.{List, [], ◌∷◌, Contains, refl, sym, ◌∙◌, ap, subst, arith}
use Rattle.std.proofs.lemmas.Bool.{cases_Bool}
use Rattle.law_model.proofs.ListLaws.{contains-parts}

-- what goes on by events, in rounds until it is over; a measure, and its bound
pub record Rounds (S E : Type 0) : Type 0 where
  pub next : S → E → S
  pub run : S → List E → S
  pub round : List E
  pub over : S → Bool
  pub drain : ℕ → S → S
  pub made : S → ℕ
  pub most : ℕ

pub record AreRising {S E : Type 0} (m : Rounds S E) (Good : S → Type 0) : Type 0 where
  pub run_none : (s : S) → m.run s [] ≡ s
  pub run_more : (s : S) (event : E) (events : List E) → m.run s (event ∷ events) ≡ m.run (m.next s event) events
  pub drain_none : (s : S) → m.drain 0 s ≡ s
  pub drain_more : (k : ℕ) (s : S) → m.drain (suc k) s ≡ (if m.over s then s else m.drain k (m.run s m.round))
  pub keeps : (s : S) (event : E) → Good s →
      (m.next s event ≡ s) ⊎ (Good (m.next s event) × (m.made s < m.made (m.next s event)))
  pub few : (s : S) → Good s → m.made s ≤ m.most
  pub moves : (s : S) → Good s → m.over s ≡ false →
      (event : E) × Contains m.round event × (m.made s < m.made (m.next s event))

module _ {S E : Type 0} (m : Rounds S E) (Good : S → Type 0) (are : AreRising m Good) where
  pub run-good : (s : S) (events : List E) → Good s → Good (m.run s events) × (m.made s ≤ m.made (m.run s events))
  run-good s [] good = rw (are.run_none s) (good, omega arith)
  run-good s (event ∷ events) good = rw (are.run_more s event events) (elim (are.keeps s event good) [
    | inl same ↦ rw same (run-good s events good)
    | inr (new, up) ↦ let (rest, more) = run-good (m.next s event) events new in (rest, omega (arith, up, more))
  ])

  -- as long as no event before it adds anything, an event does what it did at the start
  pub run-rises : (s : S) (event : E) (events : List E) → Good s → Contains events event →
      m.made s < m.made (m.next s event) → m.made s < m.made (m.run s events)
  run-rises s event [] good here more = absurd (let inside = here.1 in omega arith)
  run-rises s event (first ∷ events) good here more =
      rw (are.run_more s first events) (elim (are.keeps s first good) [
        | inr (new, up) ↦ let rest = (run-good (m.next s first) events new).1 in omega (arith, up, rest)
        | inl same ↦ elim (contains-parts first events event here) [
          | inl e ↦
              let f : m.made (m.next s event) ≡ m.made s =
              subst (λ tried. m.made (m.next s tried) ≡ m.made s) e (ap m.made same) in
              absurd (omega (arith, f, more))
          | inr later ↦ rw same (run-rises s event events good later more)
        ]
      ])

  abbrev turned : S → S
  turned s = m.run s m.round

  turned-good : (s : S) → Good s → Good (turned s)
  turned-good s good = (run-good s m.round good).0

  pub round-rises : (s : S) → Good s → m.over s ≡ false → m.made s < m.made (turned s)
  round-rises s good open_ =
      let (event, tried, more) = are.moves s good open_ in run-rises s event m.round good tried more

  -- the measure of a loop over rounds falls
  pub round-less : (s : S) → Good s → m.over s ≡ false → m.most - m.made (turned s) < m.most - m.made s
  round-less s good open_ =
      let more = round-rises s good open_ in
      let high = are.few (turned s) (turned-good s good) in
      omega (arith, more, high)

  pub drain-stop : (k : ℕ) (s : S) → m.over s ≡ true → m.drain k s ≡ s
  drain-stop zero s over = are.drain_none s
  drain-stop (suc k) s over = are.drain_more k s ∙ rw over refl

  drain-on : (k : ℕ) (s : S) → m.over s ≡ false → m.drain (suc k) s ≡ m.drain k (turned s)
  drain-on k s open_ = are.drain_more k s ∙ rw open_ refl

  pub drain-over : (k : ℕ) (s : S) → Good s → m.most - m.made s ≤ k →
      Good (m.drain k s) × (m.over (m.drain k s) ≡ true)
  drain-over zero s good enough = elim (cases_Bool (m.over s)) [
    | inl over ↦ rw (are.drain_none s) (good, over)
    | inr open_ ↦ let less = round-less s good open_ in absurd (omega (arith, less, enough))
  ]
  drain-over (suc k) s good enough = elim (cases_Bool (m.over s)) [
    | inl over ↦ rw (drain-stop (suc k) s over) (good, over)
    | inr open_ ↦
        let less = round-less s good open_ in
        rw (drain-on k s open_) (drain-over k (turned s) (turned-good s good) (omega (arith, less, enough)))
  ]

  drain-again : (k : ℕ) (s : S) → Good s → m.most - m.made s ≤ k → m.drain (suc k) s ≡ m.drain k s
  drain-again zero s good enough =
      let over = (drain-over zero s good enough).1 in
      drain-stop 1 s (rw (are.drain_none s) at over) ∙ sym (are.drain_none s)
  drain-again (suc k) s good enough = elim (cases_Bool (m.over s)) [
    | inl over ↦ drain-stop (suc (suc k)) s over ∙ sym (drain-stop (suc k) s over)
    | inr open_ ↦
        let less = round-less s good open_ in
        drain-on (suc k) s open_ ∙ drain-again k (turned s) (turned-good s good) (omega (arith, less, enough))
        ∙ sym (drain-on k s open_)
  ]

  -- a round changes nothing of what enough rounds give
  pub drain-turn : (s : S) → Good s → m.over s ≡ false → m.drain m.most (turned s) ≡ m.drain m.most s
  drain-turn s good open_ = by m.most refl
    where
      by : (k : ℕ) → m.most ≡ k → m.drain k (turned s) ≡ m.drain k s
      by zero e = absurd (let less = round-less s good open_ in omega (arith, less, e))
      by (suc k) e =
          let less = round-less s good open_ in
          drain-again k (turned s) (turned-good s good) (omega (arith, less, e)) ∙ sym (drain-on k s open_)
