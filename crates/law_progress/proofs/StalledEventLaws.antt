-- A stalled event changes nothing, but that a Take keeps the cells which it popped.
use Rattle.std.proofs.Common.{◌≡◌, ◌⊎◌, ℕ, suc, ◌+◌, ◌<◌, nat_le, inl, inr, List, [], ◌∷◌, sum_by, Option, Some, None}
use Rattle.std.proofs.Common.{slice_get, refl, ◌∙◌, ap, arith}
use Rattle.std.proofs.lemmas.Bool.{cases_Bool}
use Rattle.std.proofs.lemmas.List.Sums.{sum_by-cons}
use Rattle.law_model.specs.Common.{frame_dues, command_dues, LinePath, LineCounts, Plan, Counts, Step, popped_line}
use Rattle.law_model.specs.Common.{pop_lines, take_row, step}
use Rattle.law_model.specs.declared.walk_events.Event.{Event}
use Rattle.law_model.specs.declared.walk_events.Event.TheVariants.{Accept, Tick, Carry, Back, Take, Command}
use Rattle.law_model.specs.declared.walk_events.StallCause.{StallCause}
use Rattle.law_progress.proofs.EventOutcomeLaws.{land-gives, tick-gives, carry-gives, back-gives, take-gives}
use Rattle.law_progress.specs.Progress.{Each, sum_lines, made, ChangesNothing, IsProgress}

-- A stalled event changes nothing, but that a Take keeps the cells which it popped: so what raises the sum of all
-- counts is progress.
-- what an event may give: it moves, or changes nothing but what a Take may
abbrev StaysOrPops : Counts → Event → Step → Type 0
StaysOrPops s event next = (next.cause ≡ None)
    ⊎ ((next.counts ≡ s) ⊎ ((event ≡ Take) × (next.counts ≡ record s { lines = next.counts.lines })))

stays_or_pops : (plan : Plan) (s : Counts) (event : Event) → StaysOrPops s event (step plan s event)
stays_or_pops plan s Accept = land-gives (StaysOrPops s Accept) s (record s { frames = s.frames + 1 })
    (slice_get (frame_dues plan.items) s.frames) (λ cause. inr (inl refl)) (λ due there now. inl refl)
stays_or_pops plan s Command = land-gives (StaysOrPops s Command) s (record s { commands = s.commands + 1 })
    (slice_get (command_dues plan.items) s.commands) (λ cause. inr (inl refl)) (λ due there now. inl refl)
stays_or_pops plan s Tick =
    tick-gives (StaysOrPops s Tick) plan s (λ cause. inr (inl refl)) (λ none. inl refl)
stays_or_pops plan s (Carry m) =
    carry-gives (StaysOrPops s (Carry m)) plan s m (λ cause. inr (inl refl)) (λ line. inl refl)
stays_or_pops plan s Back = back-gives (StaysOrPops s Back) plan s (λ cause. inr (inl refl)) (inl refl)
stays_or_pops plan s Take =
    take-gives (StaysOrPops s Take) plan s (λ cause. inr (inl refl)) (λ line. inr (inr (refl, refl))) (inl refl)

none_cause : (found : Option StallCause) (cause : StallCause) → found ≡ None → found ≡ Some cause → ⊥
none_cause found cause e f = cc

pub stalled-same : (plan : Plan) (s : Counts) (event : Event) (cause : StallCause) →
    (step plan s event).cause ≡ Some cause → ChangesNothing plan s event
stalled-same plan s event cause e = elim (stays_or_pops plan s event) [
  | inl moves ↦ absurd (none_cause (step plan s event).cause cause moves e)
  | inr same ↦ same
]

-- ---- a Take carries nothing: what it adds to the sum of all counts are cells that it popped
abbrev pub carries : List LineCounts → ℕ
carries lines = sum_by (λ (line : LineCounts). line.carried) lines

abbrev pub pops : List LineCounts → ℕ
pops lines = sum_by (λ (line : LineCounts). line.popped) lines

sum_lines-parts : (lines : List LineCounts) → sum_lines lines ≡ carries lines + pops lines
unfolding sum_lines
sum_lines-parts [] = refl
sum_lines-parts (line ∷ lines) =
    let rest = sum_lines-parts lines in
    let c = sum_by-cons (λ (line : LineCounts). line.carried) line lines in
    let p = sum_by-cons (λ (line : LineCounts). line.popped) line lines in
    omega arith

carries-line : (line new : LineCounts) (lines others : List LineCounts) → new.carried ≡ line.carried →
    carries others ≡ carries lines → carries (new ∷ others) ≡ carries (line ∷ lines)
carries-line line new lines others same rest =
    let a = sum_by-cons (λ (line : LineCounts). line.carried) line lines in
    let b = sum_by-cons (λ (line : LineCounts). line.carried) new others in
    omega arith

carries-pop_lines : (t m : ℕ) (paths : List LinePath) (lines : List LineCounts) →
    Each (λ path line. Unit {0}) paths lines → carries (pop_lines t m paths lines).lines ≡ carries lines
unfolding pop_lines Each
carries-pop_lines t m [] lines beside = refl
carries-pop_lines t m (path ∷ paths) [] beside = absurd beside
carries-pop_lines t m (path ∷ paths) (line ∷ lines) beside =
    elim (cases_Bool (nat_le (path.decided (popped_line path t line).popped) t)) [
      | inl e ↦ rw e (carries-line line (popped_line path t line) lines lines refl refl)
      | inr e ↦ rw e (carries-line line (popped_line path t line) lines (pop_lines t (suc m) paths lines).lines refl
          (carries-pop_lines t (suc m) paths lines beside.1))
    ]

carries-take : (plan : Plan) (s : Counts) → Each (λ path line. Unit {0}) plan.paths s.lines →
    carries (take_row plan s).counts.lines ≡ carries s.lines
carries-take plan s beside =
    let popped = carries-pop_lines s.rows 0 plan.paths s.lines beside in
    take-gives (λ next. carries next.counts.lines ≡ carries s.lines) plan s (λ cause. refl) (λ line. popped) popped

pub is_progress : (plan : Plan) (s : Counts) (event : Event) → Each (λ path line. Unit {0}) plan.paths s.lines →
    made s < made (step plan s event).counts → IsProgress plan s event
is_progress plan s event beside more = elim (stays_or_pops plan s event) [
  | inl moves ↦ inl moves
  | inr (inl same) ↦ let e = ap made same in absurd (omega arith)
  | inr (inr (take_is, same)) ↦
      let e : step plan s event ≡ step plan s Take = ap (step plan s) take_is in
      let rest : made (step plan s event).counts ≡ made (record s { lines = (step plan s event).counts.lines }) =
      ap made same in
      let kept : carries (step plan s event).counts.lines ≡ carries s.lines =
      ap (λ (next : Step). carries next.counts.lines) e ∙ carries-take plan s beside in
      let old = sum_lines-parts s.lines in
      let new = sum_lines-parts (step plan s event).counts.lines in
      inr (take_is, omega arith)
]
