-- What is told of a walk that is traced, to its end, and how far events move the counts of a walk.
use Rattle.std.proofs.Common.{◌≡◌, ℕ, zero, suc, ◌+◌, ◌<◌, ◌≤◌, ◌&&◌, nat_le, nat_lt, inl, inr, List, [], ◌∷◌, ◌++◌}
use Rattle.std.proofs.Common.{length, replicate, slice_get, Option, Some, None, refl, ◌∙◌, ap, arith, ◌-◌, ◌*◌, ◌==◌}
use Rattle.std.proofs.Common.{Bool, true, false, not, sym, subst, take, drop, map-id, take-append-drop, append_assoc}
use Rattle.std.proofs.Common.{append-nil}
use Rattle.std.proofs.lemmas.List.FromFn.{take-map-range_with_len}
use Rattle.std.proofs.lemmas.Bool.{cases_Bool, lt-ltb}
use Rattle.law_model.specs.declared.script_types.EventLine.{EventLine}
use Rattle.law_model.specs.declared.walk_events.Event.{Event}
use Rattle.law_model.specs.declared.walk_events.Event.TheVariants.{Accept, Command, Tick, Carry, Back, Take}
use Rattle.law_model.specs.session.Counts.{LinePath, LineCounts, Plan, Counts, in_send, in_receive, in_return, held}
use Rattle.law_model.specs.session.Counts.{full, is_missing, tick_full, tick_held, tick, carry_at, back, pop_lines}
use Rattle.law_model.specs.session.Counts.{take_popped, take_row, is_back_full, land_due, frame_dues, command_dues}
use Rattle.law_model.specs.session.Counts.{step, run, carries_from, round, begin, bound, drain, run_lines, walked}
use Rattle.law_progress.proofs.RoundProgressAndDrainLaws.{run-append, walked-reached}
use Rattle.std.specs.List.{flat_map, range_with_len}
use Rattle.std.proofs.lemmas.Grind.{flat_map-append}
use Rattle.octet_io.specs.Transfer.{Appends, AppendsPart}
use Rattle.octet_io.proofs.AppendedTextAndPrefixLaws.{AppendsPart-longer}
use Rattle.command_parts.specs.Common.{Lent, WritesPart, lent, writes_both}
use Rattle.law_live.proofs.AnsweredFrameAndRefusalLaws.{grown}
use Rattle.law_model.specs.declared.script_types.Script.{Script}
use Rattle.law_model.specs.session.Leg.{leg_of}
use Rattle.law_model.specs.session.ValidScript.{IsValid}
use Rattle.law_model.specs.session.Scenario.{scenario_of, steps_in}
use Rattle.law_model.specs.source.Table.{Table}
use Rattle.law_model.specs.source.Source.{after}
use Rattle.text_report.specs.ReportLines.{got_text, got_texts, refused_texts, total_text}
use Rattle.octet_io.specs.Start.{Start}
use Rattle.law_model.proofs.ListLaws.{texts-more}
use Rattle.text_got.specs.TextSoFar.{AppendsSome, GivesUp, HasText, has_failed, name_of, start_at}
use Rattle.law_walk.specs.DeliveredFrames.{delivered_of, delivered_since}
use Rattle.law_walk.specs.Walk.{session_of, walk_plan, IsWalked}
use Rattle.law_walk.specs.LastDecisionStep.{last_packet, cell_taken, table_in}
use Rattle.law_walk.specs.LandedOfLeg.{refusals_of, totals_of}
use Rattle.law_walk.proofs.WalkPlanAndPoppedCellLaws.{has-paths, sound-walks, begins-walked}
use Rattle.walk_engine.specs.walk_core.WalkAfterEvent.{Walked, GivesRows}
use Rattle.walk_engine.specs.walk_core.WayParts.{note_of}
use Rattle.walk_engine.specs.declared.walk_core.step_answers.StepNote.{StepNote}
use Rattle.text_captures.specs.packet_trace.StepText.{step_text}
use Rattle.command_rooms.specs.HandedWalk.{StopsBoth}
use Rattle.law_headline.specs.WalkTexts.{counts_in, walk_text}
use Rattle.command_rooms.specs.commands.Trace.{decision_text, decisions_text, trace_text}
use Rattle.command_rooms.specs.TracedWalk.{HasRows, TellsPart, IsTold}
use Rattle.law_model.specs.Common.{run as model_run, run_lines as model_run_lines}
use Rattle.law_model.specs.declared.script_types.EventLine.TheVariants.{Drain}
use Rattle.walk_engine.proofs.OpenedWayLaws.{none-delivered}
use Rattle.text_got.specs.declared.got_text.GotLines.{GotLines}
use Rattle.law_walk.specs.Common.{report_of}

-- ---- A text that is given up, and where two texts stop.
given_up-longer : {K : Type 0} (failed : Bool) (written : K → Option (List ℕ)) (faults : K → ℕ) (old new : K)
    (text more : List ℕ)
    → GivesUp failed written faults old new text → GivesUp failed written faults old new (text ++ more)
given_up-longer true written faults old new text more stops = AppendsPart-longer written faults old new text more stops
given_up-longer false written faults old new text more some = record {
  part = some.part;
  rest = some.rest ++ more;
  prefix = sym (append_assoc some.part some.rest more) ∙ ap (λ octets. octets ++ more) some.prefix;
  appended = some.appended;
  quiet = some.quiet;
}

pub appends-all : {K : Type 0} (written : K → Option (List ℕ)) (faults : K → ℕ) (old new : K) (text : List ℕ) →
    Appends written faults old new text → AppendsSome written faults old new text
appends-all written faults old new text all =
    record { part = text; rest = []; prefix = append-nil text; appended = all.appended; quiet = all.quiet }

stops-both : {K E : Type 0} (out : Lent K) (notes : Lent E) (failed : Bool) (text told : List ℕ) →
    GivesUp failed out.octets out.faults out.old out.new text →
    GivesUp (not failed) notes.octets notes.faults notes.old notes.new told →
    WritesPart out notes (writes_both text told)
stops-both out notes true text told a b = inl (a, b)
stops-both out notes false text told a b = inr (a, b)

-- ---- How far an event and a round move the counts of a walk.
-- no fewer rows and ticks, and so many more at most
pub record Moves (r t : ℕ) (s next : Counts) : Type 0 where
  pub rows : s.rows ≤ next.rows
  pub more_rows : next.rows ≤ s.rows + r
  pub ticks : s.ticks ≤ next.ticks
  pub more_ticks : next.ticks ≤ s.ticks + t

still : {r t : ℕ} (s next : Counts) → next.rows ≡ s.rows → next.ticks ≡ s.ticks → Moves r t s next
still s next rows ticks = record {
  rows = omega (arith, rows);
  more_rows = omega (arith, rows);
  ticks = omega (arith, ticks);
  more_ticks = omega (arith, ticks);
}

moves-then : {r t a b d e : ℕ} (s next last : Counts) → a + d ≤ r → b + e ≤ t → Moves a b s next → Moves d e next last →
    Moves r t s last
moves-then s next last rows ticks one two = record {
  rows = omega (arith, one.rows, two.rows);
  more_rows = omega (arith, rows, one.more_rows, two.more_rows);
  ticks = omega (arith, one.ticks, two.ticks);
  more_ticks = omega (arith, ticks, one.more_ticks, two.more_ticks);
}

-- ---- one event
land-moves : {r t : ℕ} (ticks : ℕ) (due : Option ℕ) (s next : Counts) → Moves r t s next →
    Moves r t s (land_due ticks due s next).counts
land-moves ticks None s next one = still s s refl refl
land-moves ticks (Some due) s next one =
    elim (cases_Bool (nat_lt ticks due)) [ inl h ↦ rw h (still s s refl refl) | inr h ↦ rw h one ]

back-moves : {r t : ℕ} (s : Counts) → Moves r t s (back s).counts
back-moves s = elim (cases_Bool (nat_le (in_return s) 0))
    [ inl h ↦ rw h (still s s refl refl) | inr h ↦ rw h (still s _ refl refl) ]

carried-moves : {r t : ℕ} (plan : Plan) (s : Counts) (m : ℕ) (path : Option LinePath) (line : Option LineCounts) →
    Moves r t s (carry_at plan s m path line).counts
carried-moves plan s m None line = still s s refl refl
carried-moves plan s m (Some path) None = still s s refl refl
carried-moves plan s m (Some path) (Some line) =
    elim (cases_Bool (nat_lt (plan.ticks + path.delay) line.carried)) [
      | inl a ↦ rw a (still s s refl refl)
      | inr a ↦ rw a (elim (cases_Bool (nat_lt line.carried plan.ticks && nat_le (in_send plan.ticks s.ticks line) 0)) [
        | inl b ↦ rw b (still s s refl refl)
        | inr b ↦ rw b (elim (cases_Bool (nat_le plan.ring (in_receive path line)))
            [ inl d ↦ rw d (still s s refl refl) | inr d ↦ rw d (still s _ refl refl) ])
      ])
    ]

full-moves : {r : ℕ} (line : Option ℕ) (plan : Plan) (s : Counts) → Moves r 1 s (tick_full line plan s).counts
full-moves (Some line) plan s = still s s refl refl
full-moves None plan s =
    elim (cases_Bool (is_missing plan s)) [
      | inl h ↦ rw h (still s s refl refl)
      | inr h ↦ rw h (record {
        rows = omega arith;
        more_rows = omega arith;
        ticks = omega arith;
        more_ticks = omega arith;
      })
    ]

held-moves : {r : ℕ} (item : Option ℕ) (plan : Plan) (s : Counts) → Moves r 1 s (tick_held item plan s).counts
held-moves (Some item) plan s = still s s refl refl
held-moves None plan s = full-moves (full plan.ticks s.ticks 0 s.lines) plan s

tick-moves : {r : ℕ} (plan : Plan) (s : Counts) → Moves r 1 s (tick plan s).counts
tick-moves plan s =
    elim (cases_Bool (nat_le plan.ticks s.ticks)) [
      | inl h ↦ rw h (still s s refl refl)
      | inr h ↦ rw h (held-moves (held s.ticks s.frames s.commands 0 plan.items) plan s)
    ]

popped-moves : {t : ℕ} (s : Counts) (lines : List LineCounts) (waiting : Option ℕ) →
    Moves 1 t s (take_popped s lines waiting).counts
popped-moves s lines (Some line) = still s _ refl refl
popped-moves s lines None =
    record { rows = omega arith; more_rows = omega arith; ticks = omega arith; more_ticks = omega arith }

take-moves : {t : ℕ} (plan : Plan) (s : Counts) → Moves 1 t s (take_row plan s).counts
take-moves plan s =
    elim (cases_Bool (nat_le plan.ticks s.rows)) [
      | inl a ↦ rw a (still s s refl refl)
      | inr a ↦ rw a (elim (cases_Bool (is_back_full s)) [
        | inl b ↦ rw b (still s s refl refl)
        | inr b ↦ rw b (popped-moves s (pop_lines s.rows 0 plan.paths s.lines).lines
            (pop_lines s.rows 0 plan.paths s.lines).waiting)
      ])
    ]

accept-moves : {r t : ℕ} (plan : Plan) (s : Counts) → Moves r t s (step plan s Accept).counts
accept-moves plan s = land-moves s.ticks (slice_get (frame_dues plan.items) s.frames) s
    (record s { frames = s.frames + 1 }) (still s _ refl refl)

command-moves : {r t : ℕ} (plan : Plan) (s : Counts) → Moves r t s (step plan s Command).counts
command-moves plan s = land-moves s.ticks (slice_get (command_dues plan.items) s.commands) s
    (record s { commands = s.commands + 1 }) (still s _ refl refl)

carry-moves : {r t : ℕ} (plan : Plan) (s : Counts) (m : ℕ) → Moves r t s (step plan s (Carry m)).counts
carry-moves plan s m = carried-moves plan s m (slice_get plan.paths m) (slice_get s.lines m)

pub step-moves : (plan : Plan) (s : Counts) (event : Event) → Moves 1 1 s (step plan s event).counts
step-moves plan s Accept = accept-moves plan s
step-moves plan s Command = command-moves plan s
step-moves plan s Tick = tick-moves plan s
step-moves plan s (Carry m) = carry-moves plan s m
step-moves plan s Back = back-moves s
step-moves plan s Take = take-moves plan s

-- ---- a round
tries-move : (plan : Plan) (event : Event) → ((s : Counts) → Moves 0 0 s (step plan s event).counts) → (s : Counts)
    (k : ℕ) → Moves 0 0 s (run plan s (replicate k event))
unfolding run
tries-move plan event each s zero = still s s refl refl
tries-move plan event each s (suc k) =
    let next = (step plan s event).counts in
    moves-then s next _ (omega arith) (omega arith) (each s) (tries-move plan event each next k)

carries-move : (plan : Plan) (s : Counts) (m : ℕ) (paths : List LinePath) →
    Moves 1 0 s (run plan s (carries_from m paths))
unfolding run carries_from
carries-move plan s m [] =
    let next = (back s).counts in
    moves-then {a = 0} {b = 0} {e = 0} s next _ (omega arith) (omega arith) (back-moves s) (take-moves plan next)
carries-move plan s m (path ∷ paths) =
    let next = (step plan s (Carry m)).counts in
    moves-then {a = 0} {b = 0} s next _ (omega arith) (omega arith) (carry-moves plan s m)
    (carries-move plan next (suc m) paths)

pub round-moves : (plan : Plan) (s : Counts) → Moves 1 1 s (run plan s (round plan))
unfolding run
round-moves plan s =
    let n : ℕ = suc (length plan.items) in
    let carries : List Event = carries_from 0 plan.paths in
    let a = run plan s (replicate n Accept) in
    let b = run plan a (replicate n Command) in
    let t = (step plan b Tick).counts in
    subst (Moves 1 1 s)
    (sym (run-append plan s (replicate n Accept) (replicate n Command ++ Tick ∷ carries)
    ∙ run-append plan a (replicate n Command) (Tick ∷ carries)))
    (moves-then {d = 1} {e = 1} s a _ (omega arith) (omega arith) (tries-move plan Accept (accept-moves plan) s n)
    (moves-then {d = 1} {e = 1} a b _ (omega arith) (omega arith) (tries-move plan Command (command-moves plan) a n)
    (moves-then {a = 0} {b = 1} b t _ (omega arith) (omega arith) (tick-moves plan b) (carries-move plan t 0 plan.paths))))

-- ---- the event lines of a script
-- where there are lines, a walk is these
pub lines-some : (plan : Plan) (lines : List EventLine) → 0 < length lines →
    walked plan lines ≡ run_lines plan (begin plan) lines
lines-some plan [] some = absurd (omega (arith, some))
lines-some plan (line ∷ lines) some = refl

pub lines-no : (plan : Plan) (lines : List EventLine) → length lines ≡ 0 →
    walked plan lines ≡ drain (bound plan) plan (begin plan)
lines-no plan [] none = refl
lines-no plan (line ∷ lines) none = absurd (omega (arith, none))

-- ---- What is told of a walk that is traced, as it goes on.
-- ---- the lines of decision steps
pub lines-same : (script : Script) (a b : ℕ) → steps_in b ≡ steps_in a →
    decisions_text script b ≡ decisions_text script a
lines-same script a b same = ap (λ n. flat_map (decision_text script) (range_with_len 0 n)) same

pub lines-next : (script : Script) (a b : ℕ) → steps_in b ≡ steps_in a + 1 →
    decisions_text script b ≡ decisions_text script a ++ decision_text script (steps_in b - 1)
lines-next script a b one =
    ap (λ n. flat_map (decision_text script) (range_with_len 0 n)) one ∙ texts-more (decision_text script) (steps_in a)
    ∙ ap (λ j. decisions_text script a ++ decision_text script j)
    (let e : steps_in a ≡ steps_in b - 1 = omega (arith, one) in e)

pub lines-more : (script : Script) (a b : ℕ) → a ≤ b → (more : List ℕ) ×
    (decisions_text script b ≡ decisions_text script a ++ more)
lines-more script a b low =
    let line = decision_text script in
    let n : ℕ = steps_in a in
    let all = range_with_len 0 (steps_in b) in
    let front : take n all ≡ range_with_len 0 n = ap (take n) (sym (map-id all))
    ∙ take-map-range_with_len (λ (k : ℕ). k) 0 (steps_in b) n (omega (arith, low)) ∙ map-id (range_with_len 0 n) in (
      flat_map line (drop n all),
      ap (flat_map line) (sym (take-append-drop n all)) ∙ flat_map-append line (take n all) (drop n all)
          ∙ ap (λ steps. flat_map line steps ++ flat_map line (drop n all)) front,
    )

-- the line of the last step, by the note and the table as they are told
pub note-some : (script : Script) (ticks : ℕ) → 0 < steps_in ticks →
    note_of (leg_of script) (last_packet ticks) ≡ Some
    (record { packet = steps_in ticks - 1; back = cell_taken (leg_of script) (steps_in ticks - 1) })
note-some script ticks some = let yes : nat_lt 0 (steps_in ticks) ≡ true = lt-ltb 0 (steps_in ticks) some in rw yes refl

same-some : {X : Type 0} (x y : X) → Some x ≡ Some y → x ≡ y
same-some x y e = cc

pub last-line : (script : Script) (ticks lines : ℕ) (note : StepNote) (table : Table) → 0 < steps_in ticks →
    Some note ≡ note_of (leg_of script) (last_packet ticks) → table ≡ table_in (leg_of script) ticks
    → lines ≡ script.config.lines →
    step_text note.packet note.back table lines ≡ decision_text script (steps_in ticks - 1)
last-line script ticks lines note table some is_note is_table is_lines =
    let j : ℕ = steps_in ticks - 1 in
    let last : StepNote = record { packet = j; back = cell_taken (leg_of script) j } in
    let e : note ≡ last = same-some note last (is_note ∙ note-some script ticks some) in
    let same : steps_in ticks ≡ steps_in (16 * j + 9) = omega (arith, some) in
    let at : table_in (leg_of script) ticks ≡ table_in (leg_of script) (16 * j + 9) =
    ap (λ n. (after (scenario_of script) (session_of (leg_of script)) n).table) same in
    ap (λ (n : StepNote). step_text n.packet n.back table lines) e
    ∙ ap (λ t. step_text j (cell_taken (leg_of script) j) t lines) (is_table ∙ at)
    ∙ ap (step_text j (cell_taken (leg_of script) j) (table_in (leg_of script) (16 * j + 9))) is_lines

-- ---- the lines of frames
module _ {K : Type 0} (written : K → Option (List ℕ)) (faults : K → ℕ) where
  -- what stands for frames is their lines
  abbrev lines_of : GotLines K → Start → List (List ℕ) → Type 0
  lines_of got start frames = HasText written faults got start (got_texts frames)

  -- none is delivered before any event
  pub rows-begun : (got : GotLines K) (start : Start) (walk : Walked) → HasText written faults got start [] →
      walk.counts ≡ begin (walk_plan (leg_of walk.script)) → HasRows written faults got start walk walk.counts.rows
  rows-begun got start walk fresh begun =
      subst (HasText written faults got start)
      (sym (ap (λ (s : Counts). got_texts (delivered_of (leg_of walk.script) s.rows)) begun
      ∙ ap got_texts (none-delivered (leg_of walk.script)))) fresh

  -- a turn gives those of the rows that it takes
  pub rows-on : (was now : GotLines K) (start : Start) (old new : Walked) → new.script ≡ old.script →
      old.counts.rows ≤ new.counts.rows →
      GivesRows lines_of was now (leg_of old.script) old.counts.rows new.counts.rows →
      HasRows written faults was start old old.counts.rows → HasRows written faults now start new new.counts.rows
  rows-on was now start old new script rows gives has =
      subst (lines_of now start)
      (grown (leg_of old.script) old.counts.rows new.counts.rows rows
      ∙ ap (λ s. delivered_of (leg_of s) new.counts.rows) (sym script))
      (gives start (delivered_of (leg_of old.script) old.counts.rows) has)

  -- behind all of them stands the rest of the walk's text
  pub text-told : (out : K) (was got last : GotLines K) (script : Script) (walk : Walked) → walk.script ≡ script →
      walk.counts ≡ counts_in script →
      HasRows written faults got (start_at written faults out (name_of was)) walk walk.counts.rows →
      ((start : Start) (before : List ℕ) → HasText written faults got start before → HasText written faults last start
      (before ++ refused_texts (refusals_of (leg_of walk.script) walk.counts) ++ total_text
      (totals_of (leg_of walk.script) walk.counts))) →
      (name_of last ≡ name_of was)
      × HasText written faults last (start_at written faults out (name_of last)) (walk_text script)
  text-told out was got last script walk same counts has rest =
      let start : Start = start_at written faults out (name_of was) in
      let all : report_of (leg_of walk.script) walk.counts ≡ walk_text script =
      ap (λ s. report_of (leg_of s) walk.counts) same ∙ ap (report_of (leg_of script)) counts in
      let text = subst (HasText written faults last start) all
      (rest start (got_texts (delivered_of (leg_of walk.script) walk.counts.rows)) has) in
      (text.0, (refl, text.1))

  -- or they are given up: those of some first rows are a front of the walk's text
  rows-given_up : (failed : Bool) (old new : K) (script : Script) (rows : ℕ) → rows ≤ (counts_in script).rows →
      GivesUp failed written faults old new (got_texts (delivered_of (leg_of script) rows)) →
      GivesUp failed written faults old new (walk_text script)
  rows-given_up failed old new script rows low part =
      let leg = leg_of script in
      let end : Counts = counts_in script in
      let a : List ℕ = got_texts (delivered_of leg rows) in
      let all : List ℕ = got_texts (delivered_of leg end.rows) in
      let refused : List ℕ = refused_texts (refusals_of leg end) in
      let more : a ++ got_texts (delivered_since leg rows end.rows) ≡ all =
      sym (flat_map-append got_text (delivered_of leg rows) (delivered_since leg rows end.rows))
      ∙ ap got_texts (grown leg rows end.rows low) in
      given_up-longer failed written faults old new (all ++ refused) (total_text (totals_of leg end))
      (given_up-longer failed written faults old new all refused
      (subst (λ text. GivesUp failed written faults old new text) more
      (given_up-longer failed written faults old new a (got_texts (delivered_since leg rows end.rows)) part)))

-- ---- those, and the lines of decision steps on notes
module _ {K E : Type 0} (k_written : K → Option (List ℕ)) (k_faults : K → ℕ) (written : E → Option (List ℕ))
    (faults : E → ℕ) (start : Start) (first : E) where
  -- after a write that failed, nothing more is told
  pub told-silent : (over : Bool) (got : GotLines K) (notes : E) (was now : Walked) → over ≡ true →
      now.script ≡ was.script → was.counts.rows ≤ now.counts.rows → was.counts.ticks ≤ now.counts.ticks →
      IsTold k_written k_faults written faults over start first got notes was →
      IsTold k_written k_faults written faults over start first got notes now
  told-silent false got notes was now is script rows ticks told = absurd cc
  told-silent true got notes was now is script rows ticks told =
      let (more, longer) = lines-more was.script was.counts.ticks now.counts.ticks ticks in
      let P : List ℕ → Type 0 = λ text. GivesUp (not (has_failed got)) written faults first notes text in
      let G : Script → Type 0 = λ s. HasText k_written k_faults got start (got_texts (delivered_of (leg_of s) told.rows))
      in
      record {
        rows = told.rows;
        low = (let low = told.low in omega (arith, low, rows));
        gives = subst G (sym script) told.gives;
        lines = subst P (sym (ap (λ s. decisions_text s now.counts.ticks) script ∙ longer))
            (given_up-longer (not (has_failed got)) written faults first notes
            (decisions_text was.script was.counts.ticks) more told.lines);
      }

  -- else a turn gives the lines of the rows that it takes
  pub turn-told : (over : Bool) (got_was got_now : GotLines K) (notes : E) (was now : Walked) (ticks : ℕ) →
      over ≡ false → now.script ≡ was.script → was.counts.rows ≤ now.counts.rows →
      GivesRows (lines_of k_written k_faults) got_was got_now (leg_of was.script) was.counts.rows now.counts.rows →
      ticks ≡ was.counts.ticks → IsTold k_written k_faults written faults over start first got_was notes was →
      HasRows k_written k_faults got_now start now now.counts.rows ×
      Appends written faults first notes (decisions_text now.script ticks)
  turn-told true got_was got_now notes was now ticks is script rows gives at told = absurd cc
  turn-told false got_was got_now notes was now ticks is script rows gives at told =
      let P : List ℕ → Type 0 = λ text. Appends written faults first notes text in (
        rows-on k_written k_faults got_was got_now start was now script rows gives told.gives,
        subst P (sym (ap (λ s. decisions_text s ticks) script ∙ ap (decisions_text was.script) at)) told.lines,
      )

  -- a write of those has failed in the turn
  pub told-out : (got : GotLines K) (notes : E) (walk : Walked) (ticks : ℕ) → has_failed got ≡ true →
      ticks ≤ walk.counts.ticks → HasRows k_written k_faults got start walk walk.counts.rows →
      Appends written faults first notes (decisions_text walk.script ticks) →
      TellsPart k_written k_faults written faults start first got notes walk
  told-out got notes walk ticks failed low has lines =
      let (more, longer) = lines-more walk.script ticks walk.counts.ticks low in
      let P : List ℕ → Type 0 = λ text. AppendsSome written faults first notes text in
      let Q : Bool → Type 0 = λ b. GivesUp (not b) written faults first notes
      (decisions_text walk.script walk.counts.ticks) in
      record {
        rows = walk.counts.rows;
        low = omega arith;
        gives = has;
        lines = subst Q (sym failed)
            (subst P (sym longer) (given_up-longer false written faults first notes _ more
            (appends-all written faults first notes (decisions_text walk.script ticks) lines)));
      }

  -- or one on the notes
  pub told-notes : (got : GotLines K) (notes : E) (walk : Walked) → has_failed got ≡ false →
      HasRows k_written k_faults got start walk walk.counts.rows →
      AppendsPart written faults first notes (decisions_text walk.script walk.counts.ticks) →
      TellsPart k_written k_faults written faults start first got notes walk
  told-notes got notes walk whole has lines =
      let Q : Bool → Type 0 = λ b. GivesUp (not b) written faults first notes
      (decisions_text walk.script walk.counts.ticks) in
      record { rows = walk.counts.rows; low = omega arith; gives = has; lines = subst Q (sym whole) lines }

-- ---- how a traced walk ends
trace-is : (script : Script) (walk : Walked) → walk.script ≡ script → walk.counts ≡ counts_in script →
    decisions_text walk.script walk.counts.ticks ≡ trace_text script
trace-is script walk same counts =
    ap (λ s. decisions_text s walk.counts.ticks) same ∙ ap (λ (s : Counts). decisions_text script s.ticks) counts

module _ {K E : Type 0} (k_written : K → Option (List ℕ)) (k_faults : K → ℕ) (written : E → Option (List ℕ))
    (faults : E → ℕ) (out : K) (first notes : E) (was got : GotLines K) (script : Script) (walk : Walked)
    (same : walk.script ≡ script) (counts : walk.counts ≡ counts_in script) (over : Bool)
    (told : IsTold k_written k_faults written faults over (start_at k_written k_faults out (name_of was)) first got notes
    walk) where
  -- a write failed, and the lines that wait are given up
  pub part-told : (new : K) → over ≡ true →
      ((at : K) (text : List ℕ) → HasText k_written k_faults got (start_at k_written k_faults at (name_of got)) text
      → GivesUp (has_failed got) k_written k_faults at new text) →
      (name_of got ≡ name_of was) ×
      StopsBoth k_written k_faults out new (walk_text script) written faults first notes (trace_text script)
  part-told new is gives_up =
      let own = subst (λ o. IsTold k_written k_faults written faults o (start_at k_written k_faults out (name_of was))
      first got notes walk) is told in
      let rows : ℕ = own.rows in
      let P : Script → Type 0 = λ s. GivesUp (has_failed got) k_written k_faults out new
      (got_texts (delivered_of (leg_of s) rows)) in
      let end : walk.counts.rows ≡ (counts_in script).rows = ap (λ (s : Counts). s.rows) counts in
      let low = own.low in (
        own.gives.0,
        stops-both (lent k_written k_faults out new) (lent written faults first notes) (has_failed got)
            (walk_text script) (trace_text script)
            (rows-given_up k_written k_faults (has_failed got) out new script rows (omega (arith, low, end))
            (subst P same (gives_up out (got_texts (delivered_of (leg_of walk.script) rows)) (refl, own.gives.1))))
            (subst (λ text. GivesUp (not (has_failed got)) written faults first notes text)
            (trace-is script walk same counts) own.lines),
      )

  -- none failed
  pub whole-told : over ≡ false → HasRows k_written k_faults got (start_at k_written k_faults out (name_of was)) walk
      walk.counts.rows × Appends written faults first notes (trace_text script)
  whole-told is =
      let own = subst (λ o. IsTold k_written k_faults written faults o (start_at k_written k_faults out (name_of was))
      first got notes walk) is told in (
        own.gives,
        subst (λ text. Appends written faults first notes text) (trace-is script walk same counts) own.lines,
      )

-- ---- turns, one by one
pub turns-none : (plan : Plan) (s : Counts) (events : List Event) →
    run plan s (flat_map (λ (tries : List Event). tries) (replicate 0 events)) ≡ s
unfolding run
turns-none plan s events = refl

-- an event that is tried a number of times
pub tries-flat : (n : ℕ) (event : Event) →
    replicate n event ≡ flat_map (λ (tries : List Event). tries) (replicate n (event ∷ []))
tries-flat zero event = refl
tries-flat (suc n) event = ap (λ l. event ∷ l) (tries-flat n event)

pub run-one : (plan : Plan) (s : Counts) (event : Event) → run plan s (event ∷ []) ≡ (step plan s event).counts
unfolding run
run-one plan s event = refl

pub turn-walked : (script : Script) (s next : Counts) (events : List Event) → IsWalked (leg_of script) s →
    next ≡ run (walk_plan (leg_of script)) s events → IsWalked (leg_of script) next
turn-walked script s next events walked is = (
  walked.0 ++ events,
  is ∙ ap (λ s. run (walk_plan (leg_of script)) s events) walked.1
      ∙ sym (run-append (walk_plan (leg_of script)) (begin (walk_plan (leg_of script))) walked.0 events),
)

-- there is a path for each line
pub paths-many : (script : Script) → IsValid script → script.config.lines ≤ length (walk_plan (leg_of script)).paths
paths-many script valid = let paths = has-paths (leg_of script) (sound-walks (leg_of script) valid.sound) in
    let each = valid.sound.network.windows_each in omega (arith, paths, each)

-- ---- event lines
pub lines-walked : (script : Script) (lines : List EventLine) →
    IsWalked (leg_of script) (run_lines (walk_plan (leg_of script)) (begin (walk_plan (leg_of script))) lines)
unfolding run_lines
lines-walked script [] = begins-walked (leg_of script)
lines-walked script (line ∷ lines) = walked-reached (walk_plan (leg_of script)) (line ∷ lines)

pub some-lines : (n : ℕ) → false ≡ (n == 0) → 0 < n
some-lines zero e = absurd cc
some-lines (suc n) e = omega arith

-- ---- What stands of a walk after a turn, where its script is kept.
pub walked-on : (was now : Script) (s next : Counts) (events : List Event) → IsWalked (leg_of was) s → now ≡ was →
    next ≡ model_run (walk_plan (leg_of was)) s events → IsWalked (leg_of now) next
walked-on was now s next events walked same made =
    subst (λ (x : Script). IsWalked (leg_of x) next) (sym same) (turn-walked was s next events walked made)

pub counts-walked : (script : Script) → IsWalked (leg_of script) (counts_in script)
unfolding model_run_lines
counts-walked script = of script.events
  where
    of : (lines : List EventLine) → IsWalked (leg_of script) (walked (walk_plan (leg_of script)) lines)
    of [] = lines-walked script (Drain ∷ [])
    of (line ∷ lines) = lines-walked script (line ∷ lines)
