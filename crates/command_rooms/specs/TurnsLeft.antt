-- The turns that are left of a walk, as private clauses say it.
use Rattle.std.specs.Prelude.{◌≡◌, ℕ, ◌+◌, ◌-◌, ◌<◌, List, [], ◌∷◌, replicate, All}
use Rattle.std.specs.List.{flat_map}
use Rattle.law_model.specs.declared.script_types.Script.{Script}
use Rattle.law_model.specs.declared.script_types.EventLine.{EventLine}
use Rattle.law_model.specs.declared.script_types.EventLine.TheVariants as line
use Rattle.law_model.specs.declared.walk_events.Event.{Event}
use Rattle.law_model.specs.session.Leg.{leg_of}
use Rattle.law_model.specs.session.ValidScript.{IsValid, IsEvent}
use Rattle.law_model.specs.session.Counts.{Plan, Counts, run, run_lines, drain, bound}
use Rattle.law_progress.specs.Progress.{made}
use Rattle.law_walk.specs.Walk.{walk_plan, IsWalked}
use Rattle.law_headline.specs.WalkTexts.{counts_in}
use Rattle.command_rooms.specs.declared.turns.watched_turns.Turn.{Turn}
use Rattle.command_rooms.specs.declared.turns.next_turns.Pending.{Pending}
use Rattle.command_rooms.specs.declared.turns.next_turns.Pending.TheVariants.{Tries, Rounds}
use Rattle.command_rooms.specs.declared.turns.next_turns.TurnsLeft.{TurnsLeft}
use Rattle.command_rooms.specs.TracedWalk.{events_of, IsTurn}

-- the counts once what is left of a line is made
abbrev pub once : Plan → Pending → Counts → Counts
once plan (Tries turn count) s =
    run plan s (flat_map (λ (tries : List Event). tries) (replicate count (events_of plan turn)))
once plan Rounds s = drain (bound plan) plan s

-- ---- as many turns at most
abbrev pub turns_once : Plan → Pending → Counts → ℕ
turns_once plan (Tries turn count) s = count
turns_once plan Rounds s = bound plan - made s

abbrev pub line_turns : Plan → EventLine → ℕ
line_turns plan (line.Client n) = n
line_turns plan (line.Operator n) = n
line_turns plan (line.Tick n) = n
line_turns plan (line.Carry m n) = n
line_turns plan (line.Back n) = n
line_turns plan (line.Take n) = n
line_turns plan (line.Round n) = n
line_turns plan line.Drain = bound plan

unfoldable pub lines_turns : Plan → List EventLine → ℕ
lines_turns plan [] = 0
lines_turns plan (line ∷ lines) = line_turns plan line + lines_turns plan lines

abbrev pub turns_in : Script → TurnsLeft → Counts → ℕ
turns_in script turns s =
    turns_once (walk_plan (leg_of script)) turns.pending s + lines_turns (walk_plan (leg_of script)) turns.lines.now

-- ---- the turns that are left of a script's walk lead it to its end
abbrev pub IsPending : Plan → Pending → Type 0
IsPending plan (Tries turn count) = IsTurn plan turn
IsPending plan Rounds = Unit {0}

pub record AreLeft (script : Script) (turns : TurnsLeft) (s : Counts) : Type 0 where
  pub valid : IsValid script
  pub walked : IsWalked (leg_of script) s
  pub ticks : turns.ticks ≡ script.config.ticks
  pub pending : IsPending (walk_plan (leg_of script)) turns.pending
  pub lines : All (IsEvent script.config.lines) turns.lines.now
  pub whole : run_lines (walk_plan (leg_of script)) (once (walk_plan (leg_of script)) turns.pending s) turns.lines.now
      ≡ counts_in script

-- the first of them, behind which there are fewer
pub record GivesTurn (script : Script) (was now : TurnsLeft) (s : Counts) (turn : Turn) : Type 0 where
  pub is : IsTurn (walk_plan (leg_of script)) turn
  pub left : (next : Counts) → next ≡ run (walk_plan (leg_of script)) s (events_of (walk_plan (leg_of script)) turn) →
      AreLeft script now next
  pub fewer : (next : Counts) → next ≡ run (walk_plan (leg_of script)) s (events_of (walk_plan (leg_of script)) turn) →
      turns_in script now next < turns_in script was s
