-- A walk that is told what is said, and what it answers, as private clauses say it.
use Rattle.std.specs.Prelude.{◌≡◌, ℕ, ◌<◌, List, [], ◌∷◌, ◌++◌, length, Option, slice_index_or}
use Rattle.law_model.specs.Common.{AppendsPart, IsNetwork, IsSound, Leg}
use Rattle.law_model.specs.declared.script_types.Config.{Config}
use Rattle.law_live.specs.Common.{Agrees, IsWellSaid, Saying, course_at, live_counts, live_of, waiting_at, windows_by}
use Rattle.text_got.specs.TextSoFar.{Holds}
use Rattle.walk_engine.specs.walk_core.LiveWalking.{Walking, LiveStands, walking_counts}
use Rattle.walk_engine.specs.walk_core.WayParts.{windows_in}
use Rattle.walk_live.specs.declared.answered_walk.AnsweredWalk.{AnsweredWalk}
use Rattle.walk_live.specs.LiveReplies.{answer_to}
use Rattle.walk_live.specs.declared.asked.Asked.{Asked}

-- a leg of a session in which this was said so far, whatever comes later in it
pub record IsLegOf (config : Config) (said : List Saying) (leg : Leg) : Type 0 where
  pub sound : IsSound leg
  pub agrees : Agrees config (live_of config said) leg

-- a walk stands for each of them, with its counts; and its lines have the failures that were said, of which one that isn't
-- over lasts to the last tick
pub record WalksAs (config : Config) (said : List Saying) (walk : Walking) : Type 0 where
  pub stands : (leg : Leg) → IsLegOf config said leg → LiveStands leg walk
  pub counts : (leg : Leg) → IsLegOf config said leg → walking_counts walk ≡ live_counts leg said
  pub windows : (m : ℕ) → m < config.lines →
      slice_index_or (windows_in walk.way.lines) m [] ≡ windows_by config.ticks (course_at (live_of config said) m)
  pub lines : length walk.way.lines ≡ config.lines
  pub total : walk.way.source.total ≡ config.ticks

-- this was said to it over a configuration, and answered
pub record IsAnswered (walk : AnsweredWalk) (asked : Asked) (config : Config) (said : List Saying) : Type 0 where
  pub network : IsNetwork config
  pub well : IsWellSaid config said
  pub walks : WalksAs config said walk.walk
  pub lines : walk.lines ≡ config.lines
  pub items : walk.items ≡ length (live_of config said).items
  pub waiting : (leg : Leg) → IsLegOf config said leg → walk.waiting ≡ waiting_at leg (live_of config said).passed
  pub tells : walk.tells ≡ asked

-- one more saying, which was answered: the answer is written, or waits behind what waited
pub record Answers {K : Type 0} (written : K → Option (List ℕ)) (faults : K → ℕ) (old new : K) (waited waits : List ℕ)
    (now : AnsweredWalk) (asked : Asked) (config : Config) (said : List Saying) (saying : Saying) : Type 0 where
  pub is : IsAnswered now asked config (said ++ saying ∷ [])
  pub holds : Holds written faults old new waits (waited ++ answer_to asked config said saying)

-- or a write failed before all of it was written
abbrev pub AnswersPart : {K : Type 0} → (K → Option (List ℕ)) → (K → ℕ) → K → K → List ℕ → Asked → Config → List Saying →
    Saying → Type 0
AnswersPart written faults old new waited asked config said saying =
    AppendsPart written faults old new (waited ++ answer_to asked config said saying)
