-- The lines of a way: those of a walk behind the word of the way, and what they are of a round.
use Rattle.std.proofs.Common.{◌≡◌, ℕ, ◌+◌, ◌-◌, ◌*◌, ◌%◌, ◌==◌, ◌<◌, nat_lt, true, false, inl, inr, List, [], ◌∷◌}
use Rattle.std.proofs.Common.{◌++◌, decimal, length, option_map, map, flat_map, slice_index_or, Option, Some, None}
use Rattle.std.proofs.Common.{codes, refl, sym, ◌∙◌, ap, ap₂, subst, append-nil, arith}
use Rattle.std.proofs.lemmas.Bool.{cases_Bool, lt-ltb}
use Rattle.std.proofs.lemmas.Option.{same_Some}
use Rattle.std.proofs.lemmas.Grind.{flat_map-append}
use Rattle.law_model.specs.Common.{BackCell, Leg, Table, active, after, bit_text, nibble_text, scenario_by, state_of}
use Rattle.law_model.specs.Common.{steps_in}
use Rattle.law_model.specs.declared.lcas_states.SourceState.{SourceState}
use Rattle.law_model.specs.declared.lcas_states.SourceState.TheVariants.{Idle}
use Rattle.law_model.specs.declared.script_types.Script.{Script}
use Rattle.law_model.specs.declared.walk_events.StallCause.{StallCause}
use Rattle.law_walk.specs.Common.{cell_taken, last_packet, session_of, table_in}
use Rattle.law_walk.specs.DeliveredFrames.{delivered_since}
use Rattle.law_pair.specs.Common.{PairCounts, PairPlan, carries_on, counts_on, pair_plan, pair_run, pair_step}
use Rattle.law_pair.specs.Common.{tick_by, tick_cause}
use Rattle.law_pair.specs.declared.pair_events.Way.{Way}
use Rattle.law_pair.specs.declared.pair_events.Way.TheVariants.{There, Back}
use Rattle.law_pair.specs.declared.pair_events.PairEvent.TheVariants.{Take, Tick}
use Rattle.law_pair.proofs.PairMeasureAndDrainLaws.{run-append}
use Rattle.law_live.specs.Common.{MemberTold, Telling, code_at, frames_told, got_at, got_way_text, leg_on}
use Rattle.law_live.specs.Common.{member_code, member_way_text, members_in, pair_answer_text, pair_answers_text}
use Rattle.law_live.specs.Common.{steps_told, told_among, turn_answers, turn_both, way_told, way_word}
use Rattle.law_live.proofs.BothWaysRoundLaws.{IsQuiet, quiet-behind, quiet-goes, run-goes}
use Rattle.text_captures.specs.packet_trace.StepText.{back_text, place_texts}
use Rattle.walk_engine.specs.declared.walk_core.step_answers.StepNote.{StepNote}
use Rattle.walk_engine.specs.walk_core.WayParts.{note_of}
use Rattle.walk_live.proofs.ToldStepLaws.{among-same}
use Rattle.walk_live.specs.MemberWriting.{worded_members}
use Rattle.walk_live.specs.PassingRounds.{AreStates}
use Rattle.walk_live.specs.TimedWriting.{worded_texts}
use Rattle.walk_live.specs.declared.asked.Asked.{Asked}
use Rattle.walk_live.specs.declared.asked.Asked.TheVariants.{Nothing, Steps, Members}
use Rattle.pair_engine.specs.LivePairs.{GoesOn, IsShownAs, NoteShown, PairLives, PairWalking, note_shown}
use Rattle.pair_engine.specs.LivePairs.{walking_counts}
use Rattle.pair_engine.specs.ToldAndHeard.{CellShown, cell_shown}
use Rattle.pair_engine.specs.WayCalls.{KeepsRows}
use Rattle.pair_engine.proofs.ShownCellLaws.{by-shown}
use Rattle.pair_live.specs.PairPassing.{both_frames_text, both_steps_text, finish_both, frames_text_on, steps_text_on}
use Rattle.pair_live.specs.PairPassing.{turn_text}
use Rattle.pair_live.specs.PairReplies.{pair_telling, step_line_on, step_way_text}
use Rattle.pair_live.proofs.PairStandLaws.{lives-together}

-- the first words of a line of a way
abbrev pub words_on : List ℕ → Way → List ℕ
words_on word way = word ++ way_word way ++ codes " "

-- ---- frames
told-frames : (tells : Way → Telling) (way : Way) (ticks : ℕ) (frames : List (List ℕ)) →
    pair_answers_text tells (map (way_told way) (map (got_at ticks) frames)) ≡ flat_map (got_way_text way ticks) frames
told-frames tells way ticks [] = refl
told-frames tells way ticks (frame ∷ frames) =
    ap (λ l. got_way_text way ticks frame ++ l) (told-frames tells way ticks frames)

pub worded-frames : (words : List ℕ) (way : Way) (ticks : ℕ) (frames : List (List ℕ)) →
    words ≡ words_on (codes "got ") way → worded_texts words ticks frames ≡ flat_map (got_way_text way ticks) frames
worded-frames words way ticks frames is = ap (λ w. worded_texts w ticks frames) is

-- ---- the line of the last step
some-note : (leg : Leg) (ticks : ℕ) → 0 < steps_in ticks →
    note_of leg (last_packet ticks)
    ≡ Some (record { packet = steps_in ticks - 1; back = cell_taken leg (steps_in ticks - 1) })
some-note leg ticks some = let yes : nat_lt 0 (steps_in ticks) ≡ true = lt-ltb 0 (steps_in ticks) some in rw yes refl

-- two return cells of which the same is shown have the same text
abbrev shown_text : Option (Option CellShown) → List ℕ
shown_text None = codes "none"
shown_text (Some None) = codes "lost"
shown_text (Some (Some cell)) =
    nibble_text cell.high ++ nibble_text cell.low ++ codes "/" ++ bit_text (cell.ack == 1)

back-shown : (cell other : Option BackCell) → option_map cell_shown cell ≡ option_map cell_shown other →
    back_text cell ≡ back_text other
back-shown cell other same =
    by-shown back_text shown_text refl refl (λ nibbles. refl) cell ∙ ap shown_text same
    ∙ sym (by-shown back_text shown_text refl refl (λ nibbles. refl) other)

pub packet-line : (one other : Script) (way : Way) (ticks j lines : ℕ) (note : StepNote) (table : Table) →
    steps_in ticks ≡ j + 1 → IsShownAs (Some note) (note_of (leg_on one other way) (last_packet ticks)) →
    table ≡ table_in (leg_on one other way) ticks → lines ≡ (leg_on one other way).config.lines →
    step_way_text way note.packet note.back table lines ≡ step_line_on Steps one other way j
packet-line one other way ticks j lines note table made is_note is_table is_lines =
    let leg : Leg = leg_on one other way in
    let last : StepNote = record { packet = steps_in ticks - 1; back = cell_taken leg (steps_in ticks - 1) } in
    let e : note_shown note ≡ note_shown last =
    same_Some (note_shown note) (note_shown last)
    (is_note ∙ ap (option_map note_shown) (some-note leg ticks (omega (arith, made)))) in
    let packet : note.packet ≡ last.packet = ap (λ (n : NoteShown). n.packet) e in
    let back : back_text note.back ≡ back_text last.back =
    back-shown note.back last.back (ap (λ (n : NoteShown). n.back) e) in
    let number : steps_in ticks - 1 ≡ j = omega (arith, made) in
    let same : steps_in ticks ≡ steps_in (16 * j + 9) = omega (arith, made) in
    let at : table_in leg ticks ≡ table_in leg (16 * j + 9) =
    ap (λ n. (after (scenario_by leg) (session_of leg) n).table) same in
    ap (λ n. step_way_text way n note.back table lines) packet
    ∙ ap (λ text. codes "packet " ++ way_word way ++ codes " " ++ decimal last.packet ++ codes " chg "
    ++ bit_text (table.count % 2 == 1) ++ codes " act " ++ decimal (length (active table))
    ++ codes " back " ++ text ++ place_texts table lines ++ codes "\n") back
    ∙ ap (λ n. step_way_text way n (cell_taken leg n) table lines) number
    ∙ ap (λ t. step_way_text way j (cell_taken leg j) t lines) (is_table ∙ at)
    ∙ ap (step_way_text way j (cell_taken leg j) (table_in leg (16 * j + 9))) is_lines

-- there is one
pub some-step : (one other : Script) (way : Way) (ticks j : ℕ) → steps_in ticks ≡ j + 1 →
    IsShownAs None (note_of (leg_on one other way) (last_packet ticks)) → ⊥
some-step one other way ticks j made none =
    let some = none ∙ ap (option_map note_shown) (some-note (leg_on one other way) ticks (omega (arith, made))) in
    absurd cc

-- ---- the lines of members
member-worded : (way : Way) (told : List MemberTold) →
    worded_members (words_on (codes "member ") way) told ≡ flat_map (member_way_text way) told
member-worded There told = refl
member-worded Back told = refl

-- by the states before a step, and the table behind it
pub members-line-on : (words : List ℕ) (one other : Script) (way : Way) (j ticks lines : ℕ) (states : List SourceState)
    (table : Table) → words ≡ words_on (codes "member ") way → ticks ≡ 16 * j + 9 →
    table ≡ table_in (leg_on one other way) ticks → lines ≡ (leg_on one other way).config.lines →
    AreStates (leg_on one other way) lines (16 * j + 8) states →
    worded_members words (told_among ticks (λ m. member_code (slice_index_or states m Idle))
    (λ m. member_code (state_of table m)) lines)
    ≡ step_line_on Members one other way j
members-line-on words one other way j ticks lines states table is_words made is_table is_lines are =
    let leg : Leg = leg_on one other way in
    ap (λ w. worded_members w (told_among ticks (λ m. member_code (slice_index_or states m Idle))
    (λ m. member_code (state_of table m)) lines)) is_words
    ∙ ap (worded_members (words_on (codes "member ") way))
    (among-same ticks (λ m. member_code (slice_index_or states m Idle)) (λ m. member_code (state_of table m))
    (code_at leg (16 * j + 8)) (code_at leg (16 * j + 9)) lines (λ m low. ap member_code (are m low))
    (λ m low. ap (λ (t : Table). member_code (state_of t m)) (is_table ∙ ap (table_in leg) made))
    ∙ ap (λ n. told_among n (code_at leg (16 * j + 8)) (code_at leg (16 * j + 9)) lines) made
    ∙ ap (told_among (16 * j + 9) (code_at leg (16 * j + 8)) (code_at leg (16 * j + 9))) is_lines)
    ∙ member-worded way (members_in leg j)

-- ---- the steps since some ticks
pub untold-on : (one other : Script) (way : Way) (was now : ℕ) → steps_text_on Nothing one other way was now ≡ []
untold-on one other way was now = elim (cases_Bool (nat_lt (steps_in was) (steps_in now))) [
  | inl e ↦ rw e refl
  | inr e ↦ rw e refl
]

pub same-on : (asked : Asked) (one other : Script) (way : Way) (was now : ℕ) → steps_in now ≡ steps_in was →
    steps_text_on asked one other way was now ≡ []
same-on asked one other way was now same =
    let e : nat_lt (steps_in was) (steps_in now) ≡ false = grind (arith, same) in rw e refl

pub one-on : (asked : Asked) (one other : Script) (way : Way) (was now : ℕ) → steps_in now ≡ steps_in was + 1 →
    steps_text_on asked one other way was now ≡ step_line_on asked one other way (steps_in was)
one-on asked one other way was now one_step =
    let e : nat_lt (steps_in was) (steps_in now) ≡ true = grind (arith, one_step) in
    rw e (append-nil (step_line_on asked one other way (steps_in was)))

-- ---- a round
-- a tick takes no row
pub record TicksOnly (was now : PairCounts) : Type 0 where
  pub there : now.there.rows ≡ was.there.rows
  pub back : now.back.rows ≡ was.back.rows

tick-only : (found : Option (Way × StallCause)) (s : PairCounts) → TicksOnly s (tick_by found s).counts
tick-only (Some cause) s = record { there = refl; back = refl }
tick-only None s = record { there = refl; back = refl }

-- and all but it make no tick
pub finish-ticks : (plan : PairPlan) (s : PairCounts) (way : Way) →
    (counts_on (finish_both plan s) way).ticks ≡ (counts_on s way).ticks
finish-ticks plan s There =
    let goes = run-goes plan s _ (quiet-behind plan.there.paths plan.back.paths) in
    let least = goes.there.ticks in
    let most = goes.there.most in
    omega (arith, least, most)
finish-ticks plan s Back =
    let goes = run-goes plan s _ (quiet-behind plan.there.paths plan.back.paths) in
    let least = goes.back.ticks in
    let most = goes.back.most in
    omega (arith, least, most)

pub turn-parts : (plan : PairPlan) (s : PairCounts) →
    turn_both plan s ≡ finish_both plan (pair_step plan s Tick).counts
unfolding pair_run
turn-parts plan s = refl

-- its text, by its parts
parts-text : (asked : Asked) (one other : Script) (was now : PairCounts) →
    pair_answers_text (pair_telling asked one other) (turn_answers one other was now)
    ≡ (steps_text_on asked one other There was.there.ticks now.there.ticks
    ++ steps_text_on asked one other Back was.back.ticks now.back.ticks)
    ++ both_frames_text one other was now
parts-text asked one other was now =
    let tells = pair_telling asked one other in
    flat_map-append (pair_answer_text tells) (steps_told There was now ++ steps_told Back was now)
    (frames_told one other There was now ++ frames_told one other Back was now)
    ∙ ap₂ ◌++◌
    (flat_map-append (pair_answer_text tells) (steps_told There was now) (steps_told Back was now))
    (flat_map-append (pair_answer_text tells) (frames_told one other There was now) (frames_told one other Back was now)
    ∙ ap₂ ◌++◌
    (told-frames tells There now.there.ticks (delivered_since (leg_on one other There) was.there.rows now.there.rows))
    (told-frames tells Back now.back.ticks (delivered_since (leg_on one other Back) was.back.rows now.back.rows)))

-- what was told after the tick, and then the frames
pub turn-told : (asked : Asked) (one other : Script) (was mid : PairCounts) (before : ℕ) → before ≡ was.there.ticks →
    was.back.ticks ≡ was.there.ticks → mid.back.ticks ≡ mid.there.ticks →
    mid ≡ (pair_step (pair_plan one other) was Tick).counts →
    both_steps_text asked one other before mid.there.ticks
    ++ both_frames_text one other mid (finish_both (pair_plan one other) mid)
    ≡ turn_text asked one other was
turn-told asked one other was mid before first together together' made =
    let plan = pair_plan one other in
    let now : PairCounts = finish_both plan mid in
    let turn : turn_both plan was ≡ now = turn-parts plan was ∙ ap (finish_both plan) (sym made) in
    let rows = subst (TicksOnly was) (sym made) (tick-only (tick_cause plan was) was) in
    let ticks = finish-ticks plan mid There in
    let ticks' = finish-ticks plan mid Back in
    ap₂ (λ a b. (steps_text_on asked one other There a mid.there.ticks
    ++ steps_text_on asked one other Back b mid.there.ticks) ++ both_frames_text one other mid now)
    first (first ∙ sym together)
    ∙ ap₂ (λ a b. (steps_text_on asked one other There was.there.ticks a
    ++ steps_text_on asked one other Back was.back.ticks b) ++ both_frames_text one other mid now)
    (sym ticks) (sym together' ∙ sym ticks')
    ∙ ap₂ (λ a b. (steps_text_on asked one other There was.there.ticks now.there.ticks
    ++ steps_text_on asked one other Back was.back.ticks now.back.ticks)
    ++ (flat_map (got_way_text There now.there.ticks) (delivered_since (leg_on one other There) a now.there.rows)
    ++ flat_map (got_way_text Back now.back.ticks) (delivered_since (leg_on one other Back) b now.back.rows)))
    rows.there rows.back
    ∙ sym (parts-text asked one other was now)
    ∙ ap (λ c. pair_answers_text (pair_telling asked one other) (turn_answers one other was c)) (sym turn)

-- ---- a row of a way, whose frames come out with the ticks made by now
take-ticks : (plan : PairPlan) (s : PairCounts) (of way : Way) →
    (counts_on (pair_step plan s (Take of)).counts way).ticks ≡ (counts_on s way).ticks
unfolding IsQuiet
take-ticks plan s of There =
    let goes = quiet-goes plan s (Take of) tt in
    let least = goes.there.ticks in
    let most = goes.there.most in
    omega (arith, least, most)
take-ticks plan s of Back =
    let goes = quiet-goes plan s (Take of) tt in
    let least = goes.back.ticks in
    let most = goes.back.most in
    omega (arith, least, most)

pub frames-taken : (one other : Script) (way : Way) (was now : PairWalking) (words : List ℕ) (ticks : ℕ) →
    PairLives one other was →
    GoesOn one other (pair_step (pair_plan one other) (walking_counts was) (Take way)).counts now →
    words ≡ words_on (codes "got ") way → ticks ≡ (walking_counts was).there.ticks →
    worded_texts words ticks (delivered_since (leg_on one other way) (counts_on (walking_counts was) way).rows
    (counts_on (walking_counts now) way).rows)
    ≡ frames_text_on one other way (walking_counts was) (walking_counts now)
frames-taken one other way was now words ticks lives goes is made =
    let frames : List (List ℕ) = delivered_since (leg_on one other way) (counts_on (walking_counts was) way).rows
    (counts_on (walking_counts now) way).rows in
    worded-frames words way ticks frames is
    ∙ ap (λ n. flat_map (got_way_text way n) frames)
    (made ∙ sym (lives-together one other was lives way)
    ∙ sym (ap (λ s. (counts_on s way).ticks) goes.counts
    ∙ take-ticks (pair_plan one other) (walking_counts was) way way))

pub rows-after : (was now next : PairWalking) → KeepsRows was now → KeepsRows now next → KeepsRows was next
rows-after was now next first second = record {
  there = second.there ∙ first.there;
  back = second.back ∙ first.back;
}

-- ---- all of a round but its tick: carries, which take no row, a row there and a row back
module _ (one other : Script) (was carried taken : PairWalking) where
  abbrev plan : PairPlan
  plan = pair_plan one other

  abbrev Carried : Type 0
  Carried = GoesOn one other (pair_run plan (pair_run plan (walking_counts was) (carries_on There 0 plan.there.paths))
      (carries_on Back 0 plan.back.paths)) carried

  abbrev TakenThere : Type 0
  TakenThere = GoesOn one other (pair_step plan (walking_counts carried) (Take There)).counts taken

  pub both-carried : GoesOn one other (pair_run plan (walking_counts was) (carries_on There 0 plan.there.paths)) taken →
      GoesOn one other (pair_run plan (walking_counts taken) (carries_on Back 0 plan.back.paths)) carried → Carried
  both-carried first second = record {
    lives = second.lives;
    counts = second.counts ∙ ap (λ s. pair_run plan s (carries_on Back 0 plan.back.paths)) first.counts;
  }

  pub finish-counts : Carried → TakenThere →
      finish_both plan (walking_counts was) ≡ (pair_step plan (walking_counts taken) (Take Back)).counts
  unfolding pair_run
  finish-counts first second =
      run-append plan (walking_counts was) (carries_on There 0 plan.there.paths)
      (carries_on Back 0 plan.back.paths ++ Take There ∷ Take Back ∷ [])
      ∙ run-append plan (pair_run plan (walking_counts was) (carries_on There 0 plan.there.paths))
      (carries_on Back 0 plan.back.paths) (Take There ∷ Take Back ∷ [])
      ∙ sym (ap (λ s. (pair_step plan s (Take Back)).counts)
      (second.counts ∙ ap (λ s. (pair_step plan s (Take There)).counts) first.counts))

  abbrev text_there : ℕ → PairCounts → List ℕ
  text_there rows s =
      flat_map (got_way_text There s.there.ticks) (delivered_since (leg_on one other There) rows s.there.rows)

  abbrev text_back : ℕ → PairCounts → List ℕ
  text_back rows s =
      flat_map (got_way_text Back s.back.ticks) (delivered_since (leg_on one other Back) rows s.back.rows)

  pub there-text : Carried → TakenThere → KeepsRows was carried →
      frames_text_on one other There (walking_counts carried) (walking_counts taken)
      ≡ frames_text_on one other There (walking_counts was) (finish_both plan (walking_counts was))
  there-text first second rows =
      ap (λ n. text_there n (walking_counts taken)) rows.there
      ∙ ap (text_there (walking_counts was).there.rows) (sym (finish-counts first second))

  pub back-text : (now : PairWalking) → Carried → TakenThere → KeepsRows was carried →
      GoesOn one other (pair_step plan (walking_counts taken) (Take Back)).counts now →
      frames_text_on one other Back (walking_counts taken) (walking_counts now)
      ≡ frames_text_on one other Back (walking_counts was) (finish_both plan (walking_counts was))
  back-text now first second rows third =
      ap₂ text_back (ap (λ (s : PairCounts). s.back.rows) second.counts ∙ rows.back)
      (third.counts ∙ sym (finish-counts first second))
