-- A pair that is told what is said, and what it answers, as private clauses say it.
use Rattle.std.specs.Prelude.{◌≡◌, ℕ, ◌+◌, ◌<◌, List, [], ◌∷◌, ◌++◌, length, Option, slice_index_or}
use Rattle.law_model.specs.Common.{AppendsPart}
use Rattle.law_model.specs.declared.script_types.Config.{Config}
use Rattle.law_model.specs.declared.script_types.Script.{Script}
use Rattle.law_pair.specs.Common.{IsPair}
use Rattle.law_pair.specs.declared.pair_events.Way.{Way}
use Rattle.law_pair.specs.declared.pair_events.Way.TheVariants.{There, Back}
use Rattle.law_live.specs.Common.{IsPairNetwork, IsPairSaid, Live, PairAgrees, PairSaying, config_on, course_at}
use Rattle.law_live.specs.Common.{leg_on, live_of, pair_counts, said_on, waiting_at, windows_by}
use Rattle.text_got.specs.TextSoFar.{Holds}
use Rattle.pair_engine.specs.LivePairs.{PairLives, PairWalking, walking_counts, walking_on, way_beside}
use Rattle.pair_engine.specs.LivePairs.{windows_of_way}
use Rattle.walk_live.specs.declared.asked.Asked.{Asked}
use Rattle.pair_live.specs.declared.answered_pair.AnsweredPair.{AnsweredPair}
use Rattle.pair_live.specs.declared.answered_pair.WayNumbers.{WayNumbers}
use Rattle.pair_live.specs.PairReplies.{pair_answer_of, pair_answer_to}

-- ---- two scripts
-- a pair in which this was said so far, whatever comes later in either way
pub record ArePairOf (there back : Config) (said : List PairSaying) (one other : Script) : Type 0 where
  pub pair : IsPair one other
  pub agrees : PairAgrees there back said one other

-- how a way stands
abbrev pub live_said_on : Config → Config → Way → List PairSaying → Live
live_said_on there back way said = live_of (config_on there back way) (said_on way said)

-- ---- a pair stands for each of them, with their counts; and its lines have the failures that were said, of which one
-- that isn't over lasts to the last tick
pub record WalksAsPair (there back : Config) (said : List PairSaying) (pair : PairWalking) : Type 0 where
  pub lives : (one other : Script) → ArePairOf there back said one other → PairLives one other pair
  pub counts : (one other : Script) → ArePairOf there back said one other →
      walking_counts pair ≡ pair_counts one other said
  pub windows : (way : Way) (m : ℕ) → m < (config_on there back way).lines →
      slice_index_or (windows_of_way pair way) m []
      ≡ windows_by (config_on there back way).ticks (course_at (live_said_on there back way said) m)
  pub lines : (way : Way) → length (walking_on pair way).core.lines ≡ (config_on there back way).lines
  pub total : (way : Way) → (walking_on pair way).core.source.total ≡ (config_on there back way).ticks

-- ---- this was said to it over two configurations, and answered
abbrev pub numbers_on : AnsweredPair → Way → WayNumbers
numbers_on pair There = pair.there
numbers_on pair Back = pair.back

pub record IsPairAnswered (pair : AnsweredPair) (asked : Asked) (there back : Config) (said : List PairSaying) : Type 0
  where
    pub network : IsPairNetwork there back
    pub well : IsPairSaid there back said
    pub walks : WalksAsPair there back said pair.pair
    pub lines : (way : Way) → (numbers_on pair way).lines ≡ (config_on there back way).lines
    pub items : (way : Way) → (numbers_on pair way).items ≡ length (live_said_on there back way said).items
    pub waiting : (way : Way) (one other : Script) → ArePairOf there back said one other →
        (numbers_on pair way).waiting ≡ waiting_at (leg_on one other way) (live_said_on there back way said).passed
    pub tells : pair.tells ≡ asked

-- what has landed of a way counts one item more
pub record CountsOn (of : Way) (was now : AnsweredPair) : Type 0 where
  pub own : numbers_on now of ≡ record (numbers_on was of) { items = (numbers_on was of).items + 1 }
  pub beside : numbers_on now (way_beside of) ≡ numbers_on was (way_beside of)
  pub tells : now.tells ≡ was.tells

-- ---- more that was said, and answered: the answer is written, or waits behind what waited
pub record PairAnswersMore {K : Type 0} (written : K → Option (List ℕ)) (faults : K → ℕ) (old new : K)
    (waited waits : List ℕ) (now : AnsweredPair) (asked : Asked) (there back : Config)
    (said more : List PairSaying) : Type 0 where
  pub is : IsPairAnswered now asked there back (said ++ more)
  pub holds : Holds written faults old new waits (waited ++ pair_answer_of asked there back said more)

-- or a write failed before all of it was written
abbrev pub PairAnswersPart : {K : Type 0} → (K → Option (List ℕ)) → (K → ℕ) → K → K → List ℕ → Asked → Config → Config →
    List PairSaying → PairSaying → Type 0
PairAnswersPart written faults old new waited asked there back said saying =
    AppendsPart written faults old new (waited ++ pair_answer_to asked there back said saying)

-- one saying
abbrev pub PairAnswers : {K : Type 0} → (K → Option (List ℕ)) → (K → ℕ) → K → K → List ℕ → List ℕ → AnsweredPair →
    Asked → Config → Config → List PairSaying → PairSaying → Type 0
PairAnswers written faults old new waited waits now asked there back said saying =
    PairAnswersMore written faults old new waited waits now asked there back said (saying ∷ [])
