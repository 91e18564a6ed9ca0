-- What is told of a decision step: nothing, its line, or the lines of members whose codes are others than before.
use Rattle.std.proofs.Common.{◌≡◌, ℕ, zero, suc, ◌+◌, ◌-◌, ◌*◌, ◌<◌, ◌≤◌, nat_lt, true, false, inl, inr, List, []}
use Rattle.std.proofs.Common.{◌++◌, length, slice_index_or, Some, refl, sym, ◌∙◌, ap, ap₂, subst, arith, append-nil}
use Rattle.std.proofs.Common.{append_assoc, length-append, bytes_eq}
use Rattle.std.proofs.lemmas.Bool.{cases_Bool, lt-ltb}
use Rattle.std.proofs.lemmas.Grind.{flat_map-append}
use Rattle.law_model.specs.Common.{Leg, Table, after, scenario_by, state_of, steps_in}
use Rattle.law_model.specs.declared.lcas_states.SourceState.{SourceState}
use Rattle.law_model.specs.declared.lcas_states.SourceState.TheVariants.{Idle}
use Rattle.law_walk.specs.Common.{cell_taken, last_packet, session_of, table_in}
use Rattle.law_live.specs.Common.{code_at, member_code, members_text, told_among, told_of}
use Rattle.law_live.proofs.ToldMemberLaws.{among-more, among-none}
use Rattle.text_captures.specs.packet_trace.StepText.{step_text}
use Rattle.text_report.specs.TextCursor.{Extends, text_of}
use Rattle.text_report.specs.declared.text_cursor.TextCursor.{TextCursor}
use Rattle.walk_engine.specs.declared.walk_core.step_answers.StepNote.{StepNote}
use Rattle.walk_engine.specs.walk_core.WayParts.{note_of}
use Rattle.walk_live.specs.LiveReplies.{step_line}
use Rattle.walk_live.specs.MemberWriting.{worded_member, worded_members}
use Rattle.walk_live.specs.PassingRounds.{AreStates, HasStates, steps_text}
use Rattle.walk_live.specs.declared.asked.Asked.{Asked}
use Rattle.walk_live.specs.declared.asked.Asked.TheVariants.{Nothing, Steps, Members}

-- ---- the line of the last one
note-some : (leg : Leg) (ticks : ℕ) → 0 < steps_in ticks →
    note_of leg (last_packet ticks)
    ≡ Some (record { packet = steps_in ticks - 1; back = cell_taken leg (steps_in ticks - 1) })
note-some leg ticks some = let yes : nat_lt 0 (steps_in ticks) ≡ true = lt-ltb 0 (steps_in ticks) some in rw yes refl

same-some : {X : Type 0} (x y : X) → Some x ≡ Some y → x ≡ y
same-some x y e = cc

pub last-line : (leg : Leg) (ticks j lines : ℕ) (note : StepNote) (table : Table) → steps_in ticks ≡ j + 1 →
    Some note ≡ note_of leg (last_packet ticks) → table ≡ table_in leg ticks → lines ≡ leg.config.lines →
    step_text note.packet note.back table lines ≡ step_line Steps leg j
last-line leg ticks j lines note table made is_note is_table is_lines =
    let last : StepNote = record { packet = steps_in ticks - 1; back = cell_taken leg (steps_in ticks - 1) } in
    let e : note ≡ last = same-some note last (is_note ∙ note-some leg ticks (omega (arith, made))) in
    let number : steps_in ticks - 1 ≡ j = omega (arith, made) in
    let same : steps_in ticks ≡ steps_in (16 * j + 9) = omega (arith, made) in
    let at : table_in leg ticks ≡ table_in leg (16 * j + 9) =
    ap (λ n. (after (scenario_by leg) (session_of leg) n).table) same in
    ap (λ (n : StepNote). step_text n.packet n.back table lines) e
    ∙ ap (λ n. step_text n (cell_taken leg n) table lines) number
    ∙ ap (λ t. step_text j (cell_taken leg j) t lines) (is_table ∙ at)
    ∙ ap (step_text j (cell_taken leg j) (table_in leg (16 * j + 9))) is_lines

-- ---- the lines of members
module _ (ticks : ℕ) (was now was' now' : ℕ → List ℕ) where
  pub among-same : (n : ℕ) → ((m : ℕ) → m < n → was m ≡ was' m) → ((m : ℕ) → m < n → now m ≡ now' m) →
      told_among ticks was now n ≡ told_among ticks was' now' n
  among-same zero first last = among-none ticks was now ∙ sym (among-none ticks was' now')
  among-same (suc n) first last =
      let one : n + 1 ≡ suc n = omega arith in
      subst (λ k. told_among ticks was now k ≡ told_among ticks was' now' k) one
      (among-more ticks was now n
      ∙ ap₂ ◌++◌ (among-same n (λ m low. first m (omega (arith, low))) (λ m low. last m (omega (arith, low))))
      (ap₂ (told_of ticks n) (first n (omega arith)) (last n (omega arith)))
      ∙ sym (among-more ticks was' now' n))

-- by the states before a step, and the table behind it
pub members-line : (leg : Leg) (j ticks lines : ℕ) (states : List SourceState) (table : Table) → ticks ≡ 16 * j + 9 →
    table ≡ table_in leg ticks → lines ≡ leg.config.lines → AreStates leg lines (16 * j + 8) states →
    members_text (told_among ticks (λ m. member_code (slice_index_or states m Idle))
    (λ m. member_code (state_of table m)) lines)
    ≡ step_line Members leg j
members-line leg j ticks lines states table made is_table is_lines are =
    ap members_text
    (among-same ticks (λ m. member_code (slice_index_or states m Idle)) (λ m. member_code (state_of table m))
    (code_at leg (16 * j + 8)) (code_at leg (16 * j + 9)) lines (λ m low. ap member_code (are m low))
    (λ m low. ap (λ (t : Table). member_code (state_of t m)) (is_table ∙ ap (table_in leg) made))
    ∙ ap (λ n. told_among n (code_at leg (16 * j + 8)) (code_at leg (16 * j + 9)) lines) made
    ∙ ap (told_among (16 * j + 9) (code_at leg (16 * j + 8)) (code_at leg (16 * j + 9))) is_lines)

-- one more
pub members-next : (words : List ℕ) (first middle now : TextCursor) (ticks : ℕ) (was is : ℕ → List ℕ) (n : ℕ) →
    Extends first middle (worded_members words (told_among ticks was is n)) →
    Extends middle now (worded_members words (told_of ticks n (was n) (is n))) →
    Extends first now (worded_members words (told_among ticks was is (n + 1)))
members-next words first middle now ticks was is n before behind =
    let front : List ℕ = worded_members words (told_among ticks was is n) in
    let one : List ℕ = worded_members words (told_of ticks n (was n) (is n)) in
    let more : worded_members words (told_among ticks was is (n + 1)) ≡ front ++ one =
    ap (worded_members words) (among-more ticks was is n)
    ∙ flat_map-append (worded_member words) (told_among ticks was is n) (told_of ticks n (was n) (is n)) in
    record {
      text = behind.text ∙ ap (λ l. l ++ one) before.text ∙ append_assoc (text_of first) front one
          ∙ ap (λ l. text_of first ++ l) (sym more);
      end = (let size = ap length more in omega
          (arith, behind.end, before.end, size, length-append front one));
      size = behind.size ∙ before.size;
      slice = behind.slice ∙ before.slice;
    }

-- ---- since some ticks
pub steps-untold : (leg : Leg) (was now : ℕ) → steps_text Nothing leg was now ≡ []
steps-untold leg was now = elim (cases_Bool (nat_lt (steps_in was) (steps_in now))) [
  | inl e ↦ rw e refl
  | inr e ↦ rw e refl
]

pub steps-one : (asked : Asked) (leg : Leg) (was now : ℕ) → steps_in now ≡ steps_in was + 1 →
    steps_text asked leg was now ≡ step_line asked leg (steps_in was)
steps-one asked leg was now one =
    let e : nat_lt (steps_in was) (steps_in now) ≡ true = grind (arith, one) in
    rw e (append-nil (step_line asked leg (steps_in was)))

-- ---- the states before a step
pub states-before : (asked : Asked) (leg : Leg) (lines was now : ℕ) (states : List SourceState) → asked ≡ Members →
    steps_in now ≡ steps_in was + 1 → now ≤ was + 1 → HasStates asked leg lines was states →
    AreStates leg lines (16 * steps_in was + 8) states
states-before asked leg lines was now states is one most has =
    let at : was ≡ 16 * steps_in was + 8 = omega (arith, one, most) in
    subst (λ n. AreStates leg lines n states) at (has is (omega (arith, one, most)))

pub step-tick : (was now : ℕ) → steps_in now ≡ steps_in was + 1 → now ≤ was + 1 → now ≡ 16 * steps_in was + 9
step-tick was now one most = omega (arith, one, most)
