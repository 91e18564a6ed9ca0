-- What each event of a walk may give: what holds of all its outcomes holds of the one that it has.
use Rattle.std.proofs.Common.{◌≡◌, ℕ, ◌+◌, ◌-◌, ◌≤◌, ◌/◌, nat_le, nat_lt, ◌&&◌, inl, inr, Option, Some, None, slice_get}
use Rattle.std.proofs.Common.{slice_set, List, refl}
use Rattle.std.proofs.lemmas.Bool.{cases_Bool, ltb-false}
use Rattle.law_model.specs.Common.{frame_dues, command_dues, LinePath, LineCounts, Plan, Counts, Step, stalled, moved}
use Rattle.law_model.specs.Common.{land_due, held, full, is_missing, tick_full, tick_held, tick, in_send, in_receive, carry}
use Rattle.law_model.specs.Common.{carry_at, in_return, pop_lines, take_popped, is_back_full, take_row, step}
use Rattle.law_model.specs.declared.walk_events.Event.{Event}
use Rattle.law_model.specs.declared.walk_events.Event.TheVariants.{Accept, Tick, Carry, Back, Take, Command}
use Rattle.law_model.specs.declared.walk_events.StallCause.{StallCause}
use Rattle.law_model.specs.declared.walk_events.StallCause.TheVariants.{Done, NotDue, Held, TxFull, BackMissing, Empty, RxFull}
use Rattle.law_model.specs.declared.walk_events.StallCause.TheVariants.{BackEmpty, BackFull, Waiting}
use Rattle.law_model.specs.session.Counts.{back}

pub land-gives : (P : Step → Type 0) (s next : Counts) (due : Option ℕ) → ((cause : StallCause) → P (stalled s cause)) →
    ((d : ℕ) → due ≡ Some d → d ≤ s.ticks → P (moved next)) → P (land_due s.ticks due s next)
land-gives P s next None stalls moves = stalls Done
land-gives P s next (Some due) stalls moves = elim (cases_Bool (nat_lt s.ticks due)) [
  | inl e ↦ rw e (stalls (NotDue due))
  | inr e ↦ rw e (moves due refl (ltb-false s.ticks due e))
]

module _ (P : Step → Type 0) (plan : Plan) (s : Counts) where
  abbrev pub lines_popped : List LineCounts
  lines_popped = (pop_lines s.rows 0 plan.paths s.lines).lines

  pub tick-gives : ((cause : StallCause) → P (stalled s cause)) →
      (held s.ticks s.frames s.commands 0 plan.items ≡ None → P (moved (record s { ticks = s.ticks + 1 }))) →
      P (tick plan s)
  tick-gives stalls moves = elim (cases_Bool (nat_le plan.ticks s.ticks)) [
    | inl e ↦ rw e (stalls Done)
    | inr e ↦ rw e (by-held (held s.ticks s.frames s.commands 0 plan.items) refl)
  ]
    where
      by-full : (found : Option ℕ) → held s.ticks s.frames s.commands 0 plan.items ≡ None → P (tick_full found plan s)
      by-full (Some line) none = stalls (TxFull line)
      by-full None none = elim (cases_Bool (is_missing plan s)) [
        | inl e ↦ rw e (stalls (BackMissing (s.ticks / 16 - plan.lag)))
        | inr e ↦ rw e (moves none)
      ]

      by-held : (found : Option ℕ) → held s.ticks s.frames s.commands 0 plan.items ≡ found → P (tick_held found plan s)
      by-held (Some item) is = stalls (Held item)
      by-held None is = by-full (full plan.ticks s.ticks 0 s.lines) is

  pub carry-gives : (m : ℕ) → ((cause : StallCause) → P (stalled s cause)) → ((line : LineCounts) →
      P (moved (record s { lines = slice_set s.lines m (record line { carried = line.carried + 1 }) }))) →
      P (carry plan s m)
  carry-gives m stalls moves = by (slice_get plan.paths m) (slice_get s.lines m)
    where
      by : (path : Option LinePath) (line : Option LineCounts) → P (carry_at plan s m path line)
      by (Some path) None = stalls Done
      by None line = stalls Done
      by (Some path) (Some line) = elim (cases_Bool (nat_lt (plan.ticks + path.delay) line.carried)) [
        | inl e ↦ rw e (stalls Done)
        | inr e ↦ rw e
            (elim (cases_Bool (nat_lt line.carried plan.ticks && nat_le (in_send plan.ticks s.ticks line) 0)) [
              | inl f ↦ rw f (stalls (Empty m))
              | inr f ↦ rw f (elim (cases_Bool (nat_le plan.ring (in_receive path line))) [
                | inl g ↦ rw g (stalls (RxFull m))
                | inr g ↦ rw g (moves line)
              ])
            ])
      ]

  pub back-gives : ((cause : StallCause) → P (stalled s cause)) → P (moved (record s { backs = s.backs + 1 })) →
      P (back s)
  back-gives stalls moves = elim (cases_Bool (nat_le (in_return s) 0)) [
    | inl e ↦ rw e (stalls BackEmpty)
    | inr e ↦ rw e moves
  ]

  pub take-gives : ((cause : StallCause) → P (stalled s cause)) →
      ((line : ℕ) → P (stalled (record s { lines = lines_popped }) (Waiting line))) →
      P (moved (record s { lines = lines_popped; rows = s.rows + 1 })) → P (take_row plan s)
  take-gives stalls waits moves = elim (cases_Bool (nat_le plan.ticks s.rows)) [
    | inl e ↦ rw e (stalls Done)
    | inr e ↦ rw e (elim (cases_Bool (is_back_full s)) [
      | inl f ↦ rw f (stalls BackFull)
      | inr f ↦ rw f (by (pop_lines s.rows 0 plan.paths s.lines).waiting)
    ])
  ]
    where
      by : (waiting : Option ℕ) → P (take_popped s lines_popped waiting)
      by (Some line) = waits line
      by None = moves

  -- each outcome of any event
  pub record IsGiven : Type 0 where
    pub stalls : (cause : StallCause) → P (stalled s cause)
    pub accepts : (due : ℕ) → slice_get (frame_dues plan.items) s.frames ≡ Some due → due ≤ s.ticks →
        P (moved (record s { frames = s.frames + 1 }))
    pub commands : (due : ℕ) → slice_get (command_dues plan.items) s.commands ≡ Some due → due ≤ s.ticks →
        P (moved (record s { commands = s.commands + 1 }))
    pub ticks : held s.ticks s.frames s.commands 0 plan.items ≡ None → P (moved (record s { ticks = s.ticks + 1 }))
    pub carries : (lines : List LineCounts) → P (moved (record s { lines = lines }))
    pub backs : P (moved (record s { backs = s.backs + 1 }))
    pub waits : (line : ℕ) → P (stalled (record s { lines = lines_popped }) (Waiting line))
    pub takes : P (moved (record s { lines = lines_popped; rows = s.rows + 1 }))

  pub step-gives : (event : Event) → IsGiven → P (step plan s event)
  step-gives Accept is = land-gives P s (record s { frames = s.frames + 1 }) (slice_get (frame_dues plan.items) s.frames)
      is.stalls is.accepts
  step-gives Command is = land-gives P s (record s { commands = s.commands + 1 })
      (slice_get (command_dues plan.items) s.commands) is.stalls is.commands
  step-gives Tick is = tick-gives is.stalls is.ticks
  step-gives (Carry m) is = carry-gives m is.stalls
      (λ line. is.carries (slice_set s.lines m (record line { carried = line.carried + 1 })))
  step-gives Back is = back-gives is.stalls is.backs
  step-gives Take is = take-gives is.stalls is.waits is.takes
