-- Rounds that are made while ticks pass, and what is answered of them, as private clauses say it.
use Rattle.std.specs.Prelude.{◌≡◌, ℕ, ◌+◌, ◌%◌, ◌<◌, List, [], ◌∷◌, ◌++◌, slice_index_or}
use Rattle.law_model.specs.Common.{Counts, Leg, state_of}
use Rattle.law_model.specs.declared.lcas_states.SourceState.{SourceState}
use Rattle.law_model.specs.declared.lcas_states.SourceState.TheVariants.{Idle}
use Rattle.law_model.specs.declared.script_types.Config.{Config}
use Rattle.law_walk.specs.Common.{table_in, walk_plan}
use Rattle.law_live.specs.Common.{IsWellSaid, Saying, answers_text, leg_said, live_counts, live_of, live_round, passes}
use Rattle.law_live.specs.Common.{round_answers, rounds_answers, rounds_for, steps_between}
use Rattle.walk_engine.specs.walk_core.LiveWalking.{AgreesNow, Walking, LiveStands, walking_counts}
use Rattle.walk_engine.specs.walk_core.EventAnswers.{IsNoneHeld}
use Rattle.walk_live.specs.declared.answered_walk.AnsweredWalk.{AnsweredWalk}
use Rattle.walk_live.specs.declared.asked.Asked.{Asked}
use Rattle.walk_live.specs.declared.asked.Asked.TheVariants.{Members}
use Rattle.walk_live.specs.Answered.{IsAnswered}
use Rattle.walk_live.specs.LiveReplies.{telling}

-- ---- a round
-- a walk stands for a leg, of which nothing is held that is due now; and they say the same of the containers that are
-- made next
pub record CanRound (leg : Leg) (walk : Walking) : Type 0 where
  pub stands : LiveStands leg walk
  pub free : IsNoneHeld leg (walking_counts walk)
  pub agrees : AgreesNow leg walk

-- but for its walk it is the same
pub record IsOtherwise (was now : AnsweredWalk) : Type 0 where
  pub lines : now.lines ≡ was.lines
  pub items : now.items ≡ was.items
  pub waiting : now.waiting ≡ was.waiting
  pub tells : now.tells ≡ was.tells

-- the states of so many lines, once these ticks are made; and where members are told and a decision step comes next
abbrev pub AreStates : Leg → ℕ → ℕ → List SourceState → Type 0
AreStates leg lines ticks states =
    (m : ℕ) → m < lines → slice_index_or states m Idle ≡ state_of (table_in leg ticks) m

abbrev pub HasStates : Asked → Leg → ℕ → ℕ → List SourceState → Type 0
HasStates asked leg lines ticks states = asked ≡ Members → ticks % 16 ≡ 8 → AreStates leg lines ticks states

-- what is told of the decision step that was made from some ticks to others, at most one apart
abbrev pub steps_text : Asked → Leg → ℕ → ℕ → List ℕ
steps_text asked leg was now = answers_text (telling asked leg) (steps_between was now)

abbrev pub round_text : Asked → Leg → Counts → List ℕ
round_text asked leg s =
    answers_text (telling asked leg) (round_answers leg s (live_round (walk_plan leg) s))

-- ---- the rounds of a pass
-- so many ticks more may pass, up to a number of ticks
pub record CanPass (walk : AnsweredWalk) (asked : Asked) (config : Config) (said : List Saying) (k until : ℕ) : Type 0
  where
    pub is : IsAnswered walk asked config said
    pub well : IsWellSaid config (said ++ passes k ∷ [])
    pub ends : until ≡ (live_of config said).passed + k

-- what is answered of them, of the session of which that is all
abbrev pub rounds_text : Asked → Config → List Saying → ℕ → List ℕ
rounds_text asked config said k =
    let leg = leg_said config (said ++ passes k ∷ []) in
    answers_text (telling asked leg) (rounds_answers (rounds_for k (walk_plan leg) (live_counts leg said)) leg (live_counts leg said))
