-- The turns that are left of a walk: one of them, or none of a line.
use Rattle.std.proofs.Common.{◌≡◌, ℕ, zero, suc, ◌-◌, ◌<◌, ◌≤◌, ◌+◌, List, [], ◌∷◌, replicate, length, All, refl, sym}
use Rattle.std.proofs.Common.{take, drop, get_or, ◌∙◌, ap, ap₂, subst, arith}
use Rattle.std.proofs.lemmas.List.{take_all}
use Rattle.std.proofs.lemmas.List.Elements.{All-head, All-tail}
use Rattle.std.specs.List.{flat_map}
use Rattle.law_model.specs.declared.script_types.Script.{Script}
use Rattle.law_model.specs.declared.script_types.EventLine.{EventLine}
use Rattle.law_model.specs.declared.walk_events.Event.{Event}
use Rattle.law_model.specs.session.Leg.{leg_of}
use Rattle.law_model.specs.session.ValidScript.{IsValid, IsEvent}
use Rattle.law_model.specs.session.Counts.{Plan, Counts, begin, run, run_line, run_lines, round, bound}
use Rattle.law_progress.specs.Progress.{made}
use Rattle.law_progress.proofs.RoundProgressAndDrainLaws.{run-append}
use Rattle.law_walk.specs.Walk.{walk_plan}
use Rattle.law_walk.proofs.WalkPlanAndPoppedCellLaws.{begins-walked}
use Rattle.law_headline.specs.WalkTexts.{counts_in}
use Rattle.walk_engine.proofs.WalkRoundAndTotalsLaws.{round-turn, drained-end}
use Rattle.command_rooms.specs.declared.turns.watched_turns.Turn.{Turn}
use Rattle.command_rooms.specs.declared.turns.watched_turns.Turn.TheVariants.{Round}
use Rattle.command_rooms.specs.declared.turns.next_turns.Pending.{Pending}
use Rattle.command_rooms.specs.declared.turns.next_turns.Pending.TheVariants.{Tries, Rounds}
use Rattle.command_rooms.specs.declared.turns.next_turns.TurnsLeft.{TurnsLeft}
use Rattle.command_rooms.specs.TracedWalk.{events_of}
use Rattle.command_rooms.specs.TurnsLeft.{once, turns_once, line_turns, lines_turns, turns_in, IsPending, AreLeft}
use Rattle.command_rooms.specs.TurnsLeft.{GivesTurn}
use Rattle.command_rooms.proofs.WalkTraceAndEventCountLaws.{lines-some, lines-no, turn-walked, turns-none, paths-many}

-- The turns that are left of a walk: one of them, or none of a line.
-- the first of some tries
tries-first : (plan : Plan) (s : Counts) (events : List Event) (count : ℕ) → 0 < count →
    run plan s (flat_map (λ (tries : List Event). tries) (replicate count events))
    ≡ run plan (run plan s events) (flat_map (λ (tries : List Event). tries) (replicate (count - 1) events))
tries-first plan s events zero some = absurd (omega (arith, some))
tries-first plan s events (suc k) some =
    run-append plan s events (flat_map (λ (tries : List Event). tries) (replicate k events))
    ∙ ap (λ n. run plan (run plan s events) (flat_map (λ (tries : List Event). tries) (replicate n events)))
    (let e : k ≡ suc k - 1 = omega arith in e)

module _ (script : Script) (was now : TurnsLeft) (s : Counts) (left : AreLeft script was s) where
  abbrev plan : Plan
  plan = walk_plan (leg_of script)

  pub gives-try : (turn : Turn) (count : ℕ) → was.pending ≡ Tries turn count → 0 < count →
      now.pending ≡ Tries turn (count - 1) → now.lines.now ≡ was.lines.now → now.ticks ≡ was.ticks →
      GivesTurn script was now s turn
  gives-try turn count begun some then lines ticks =
      let own = subst (IsPending plan) begun left.pending in
      record {
        is = own;
        left = λ next is. record {
          valid = left.valid;
          walked = turn-walked script s next (events_of plan turn) left.walked is;
          ticks = ticks ∙ left.ticks;
          pending = subst (IsPending plan) (sym then) own;
          lines = subst (All (IsEvent script.config.lines)) (sym lines) left.lines;
          whole = ap₂ (λ (p : Pending) (l : List EventLine). run_lines plan (once plan p next) l) then lines
              ∙ ap (λ (t : Counts). run_lines plan (once plan (Tries turn (count - 1)) t) was.lines.now) is
              ∙ ap (λ (t : Counts). run_lines plan t was.lines.now)
              (sym (tries-first plan s (events_of plan turn) count some))
              ∙ ap (λ (p : Pending). run_lines plan (once plan p s) was.lines.now) (sym begun) ∙ left.whole;
        };
        fewer = λ next is.
            let a : turns_once plan now.pending next ≡ count - 1 = ap (λ (p : Pending). turns_once plan p next) then in
            let b : turns_once plan was.pending s ≡ count = ap (λ (p : Pending). turns_once plan p s) begun in
            let d : lines_turns plan now.lines.now ≡ lines_turns plan was.lines.now = ap (lines_turns plan) lines in
            omega (arith, a, b, d, some);
      }

  pub gives-round : was.pending ≡ Rounds → s.rows < script.config.ticks → now ≡ was → GivesTurn script was now s Round
  gives-round begun open_ same = record {
    is = tt;
    left = λ next is. record {
      valid = left.valid;
      walked = turn-walked script s next (round plan) left.walked is;
      ticks = ap (λ (t : TurnsLeft). t.ticks) same ∙ left.ticks;
      pending = subst (λ (t : TurnsLeft). IsPending plan t.pending) (sym same) left.pending;
      lines = subst (λ (t : TurnsLeft). All (IsEvent script.config.lines) t.lines.now) (sym same) left.lines;
      whole = ap (λ (t : TurnsLeft). run_lines plan (once plan t.pending next) t.lines.now) same
          ∙ ap (λ (p : Pending). run_lines plan (once plan p next) was.lines.now) begun
          ∙ ap (λ (t : Counts). run_lines plan t was.lines.now)
          (round-turn (leg_of script) s next left.valid.sound left.walked open_ is).1
          ∙ ap (λ (p : Pending). run_lines plan (once plan p s) was.lines.now) (sym begun) ∙ left.whole;
    };
    fewer = λ next is.
        let a : turns_once plan now.pending next ≡ bound plan - made next =
        ap (λ (t : TurnsLeft). turns_once plan t.pending next) same ∙ ap (λ (p : Pending). turns_once plan p next) begun in
        let b : turns_once plan was.pending s ≡ bound plan - made s = ap (λ (p : Pending). turns_once plan p s) begun in
        let d : lines_turns plan now.lines.now ≡ lines_turns plan was.lines.now =
        ap (λ (t : TurnsLeft). lines_turns plan t.lines.now) same in
        omega (arith, a, b, d, (round-turn (leg_of script) s next left.valid.sound left.walked open_ is).0);
  }

  -- none is left of a line
  pub no-try : (turn : Turn) (count : ℕ) → was.pending ≡ Tries turn count → count ≡ 0 → once plan was.pending s ≡ s
  no-try turn count begun none =
      ap (λ (p : Pending). once plan p s) begun ∙ ap (λ (n : ℕ). once plan (Tries turn n) s) none
      ∙ turns-none plan s (events_of plan turn)

  pub no-round : was.pending ≡ Rounds → script.config.ticks ≤ s.rows → once plan was.pending s ≡ s
  no-round begun shut = ap (λ (p : Pending). once plan p s) begun ∙ sym (drained-end (leg_of script) s _ shut refl)

  -- then the next line is begun
  pub line-begun : (line : EventLine) (rest : List EventLine) → once plan was.pending s ≡ s →
      was.lines.now ≡ line ∷ rest → All (IsEvent script.config.lines) rest → now.lines.now ≡ rest →
      now.ticks ≡ was.ticks → once plan now.pending s ≡ run_line plan s line → IsPending plan now.pending →
      AreLeft script now s
  unfolding run_lines
  line-begun line rest none begun each lines ticks made fits = record {
    valid = left.valid;
    walked = left.walked;
    ticks = ticks ∙ left.ticks;
    pending = fits;
    lines = subst (All (IsEvent script.config.lines)) (sym lines) each;
    whole = ap₂ (λ (t : Counts) (l : List EventLine). run_lines plan t l) made lines
        ∙ sym (ap₂ (λ (t : Counts) (l : List EventLine). run_lines plan t l) none begun) ∙ left.whole;
  }

  -- or the walk has come to its end
  pub all-made : once plan was.pending s ≡ s → was.lines.now ≡ [] → s ≡ counts_in script
  unfolding run_lines
  all-made none empty =
      sym (ap₂ (λ (t : Counts) (l : List EventLine). run_lines plan t l) none empty) ∙ left.whole

-- ---- a line more, as a loop takes it off the front
front : (lines : List EventLine) (d : EventLine) → 1 ≤ length lines →
    lines ≡ get_or lines 0 d ∷ take (length lines - 1) (drop 1 lines)
front [] d some = absurd (omega (arith, some))
front (line ∷ lines) d some = ap (λ l. line ∷ l) (sym (take_all (length (line ∷ lines) - 1) lines (omega arith)))

module _ (script : Script) (was mid now : TurnsLeft) (s : Counts) (d : EventLine) (left : AreLeft script was s)
    (none : once (walk_plan (leg_of script)) was.pending s ≡ s) (same : mid ≡ was) (some : 1 ≤ length mid.lines.now)
    (lines : now.lines.now ≡ take (length mid.lines.now - 1) (drop 1 mid.lines.now)) where
  begun : was.lines.now ≡ get_or mid.lines.now 0 d ∷ take (length mid.lines.now - 1) (drop 1 mid.lines.now)
  begun = ap (λ (t : TurnsLeft). t.lines.now) (sym same) ∙ front mid.lines.now d some

  pub next-line : now.ticks ≡ mid.ticks →
      ((plan : Plan) (s : Counts) → once plan now.pending s ≡ run_line plan s (get_or mid.lines.now 0 d)) →
      ((plan : Plan) (lines : ℕ) → IsEvent lines (get_or mid.lines.now 0 d) → lines ≤ length plan.paths →
      IsPending plan now.pending) → AreLeft script now s
  next-line ticks says fits =
      let plan = walk_plan (leg_of script) in
      let each : All (IsEvent script.config.lines)
      (get_or mid.lines.now 0 d ∷ take (length mid.lines.now - 1) (drop 1 mid.lines.now)) =
      subst (All (IsEvent script.config.lines)) begun left.lines in
      line-begun script was now s left (get_or mid.lines.now 0 d)
      (take (length mid.lines.now - 1) (drop 1 mid.lines.now)) none begun (All-tail (IsEvent script.config.lines) _ _ each) lines
      (ticks ∙ ap (λ (t : TurnsLeft). t.ticks) same) (says plan s)
      (fits plan script.config.lines (All-head (IsEvent script.config.lines) _ _ each) (paths-many script left.valid))

pub next-fewer : (script : Script) (was mid : TurnsLeft) (s : Counts) (d : EventLine) (pending : Pending) (most : ℕ) →
    mid ≡ was → 1 ≤ length mid.lines.now → turns_in script was s ≤ most →
    ((plan : Plan) (s : Counts) → turns_once plan pending s ≤ line_turns plan (get_or mid.lines.now 0 d)) →
    turns_once (walk_plan (leg_of script)) pending s
    + lines_turns (walk_plan (leg_of script)) (take (length mid.lines.now - 1) (drop 1 mid.lines.now)) ≤ most
unfolding lines_turns
next-fewer script was mid s d pending most same some low few =
    let plan = walk_plan (leg_of script) in
    let line = get_or mid.lines.now 0 d in
    let rest = take (length mid.lines.now - 1) (drop 1 mid.lines.now) in
    let a : lines_turns plan was.lines.now ≡ line_turns plan line + lines_turns plan rest =
    ap (λ (t : TurnsLeft). lines_turns plan t.lines.now) (sym same) ∙ ap (lines_turns plan) (front mid.lines.now d some) in
    omega (arith, a, few plan s, low)

-- or no line is left
pub last-line-made : (script : Script) (was mid : TurnsLeft) (s : Counts) → AreLeft script was s →
    once (walk_plan (leg_of script)) was.pending s ≡ s → mid ≡ was → length mid.lines.now < 1 → s ≡ counts_in script
last-line-made script was mid s left none same few =
    all-made script was was s left none
    (no-line was.lines.now (subst (λ (t : TurnsLeft). length t.lines.now < 1) same few))
  where
    no-line : (lines : List EventLine) → length lines < 1 → lines ≡ []
    no-line [] few = refl
    no-line (line ∷ lines) few = absurd (omega (arith, few))

-- a turn of what is left later
pub later : (script : Script) (first was now : TurnsLeft) (s : Counts) (turn : Turn) →
    turns_in script was s ≤ turns_in script first s → GivesTurn script was now s turn →
    GivesTurn script first now s turn
later script first was now s turn few gives = record {
  is = gives.is;
  left = gives.left;
  fewer = λ next is. let less = gives.fewer next is in omega (arith, few, less);
}

-- a turn of a walk whose script is kept
pub turn-made : (script was : Script) (s next : Counts) (turn : Turn) → was ≡ script →
    next ≡ run (walk_plan (leg_of was)) s (events_of (walk_plan (leg_of was)) turn) →
    next ≡ run (walk_plan (leg_of script)) s (events_of (walk_plan (leg_of script)) turn)
turn-made script was s next turn same is =
    is ∙ ap (λ (x : Script). run (walk_plan (leg_of x)) s (events_of (walk_plan (leg_of x)) turn)) same

-- ---- at first
no-lines : (plan : Plan) (s : Counts) (lines : List EventLine) → length lines ≡ 0 → run_lines plan s lines ≡ s
unfolding run_lines
no-lines plan s [] none = refl
no-lines plan s (line ∷ lines) none = absurd (omega (arith, none))

module _ (script : Script) (turns : TurnsLeft) (valid : IsValid script) (lines : turns.lines.now ≡ script.events)
    (ticks : turns.ticks ≡ script.config.ticks) where
  abbrev first : Counts
  first = begin (walk_plan (leg_of script))

  pub drains-first : turns.pending ≡ Rounds → length turns.lines.now ≡ 0 → AreLeft script turns first
  drains-first begun none =
      let plan = walk_plan (leg_of script) in
      record {
        valid = valid;
        walked = begins-walked (leg_of script);
        ticks = ticks;
        pending = subst (IsPending plan) (sym begun) tt;
        lines = subst (All (IsEvent script.config.lines)) (sym lines) valid.events;
        whole = no-lines plan (once plan turns.pending first) turns.lines.now none
            ∙ ap (λ (p : Pending). once plan p first) begun
            ∙ sym (lines-no plan script.events (ap length (sym lines) ∙ none));
      }

  pub lines-first : turns.pending ≡ Tries Round 0 → 0 < length turns.lines.now → AreLeft script turns first
  lines-first begun some =
      let plan = walk_plan (leg_of script) in
      let many : 0 < length script.events = subst (λ (l : List EventLine). 0 < length l) lines some in
      record {
        valid = valid;
        walked = begins-walked (leg_of script);
        ticks = ticks;
        pending = subst (IsPending plan) (sym begun) tt;
        lines = subst (All (IsEvent script.config.lines)) (sym lines) valid.events;
        whole = ap (λ (p : Pending). run_lines plan (once plan p first) turns.lines.now) begun
            ∙ ap (λ (t : Counts). run_lines plan t turns.lines.now) (turns-none plan first (events_of plan Round))
            ∙ ap (run_lines plan first) lines ∙ sym (lines-some plan script.events many);
      }
