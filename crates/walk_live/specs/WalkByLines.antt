-- Where a walk stands that answers the lines of a live text, as private clauses say it.
use Rattle.std.specs.Prelude.{◌≡◌, ℕ, ◌+◌, List, [], ◌∷◌, ◌++◌, length, Some}
use Rattle.law_live.specs.Common.{IsWellSaid, Saying, leg_said}
use Rattle.text_live.specs.LiveLines.{happens, nothing_said}
use Rattle.text_live.specs.declared.live_line.LiveLine.{LiveLine}
use Rattle.text_live.specs.declared.live_reader.LiveReader.{LiveReader}
use Rattle.text_live.specs.LiveReaderStands.{IsAt, IsLiveReader, frame_of, told_line, waiting_config}
use Rattle.text_live.specs.Sayings.{AreFine, leg_in, line_saying, said_in, sayings}
use Rattle.law_model.specs.declared.script_types.Config.{Config}
use Rattle.walk_live.specs.declared.answered_walk.AnsweredWalk.{AnsweredWalk}
use Rattle.walk_live.specs.Answered.{IsAnswered}
use Rattle.walk_live.specs.declared.asked.Asked.{Asked}

abbrev pub config_in : List (List ℕ) → Config
config_in ls = (said_in ls).settings.config

-- a reader has read these lines, none of which is faulty
pub record HasReadLines (reader : LiveReader) (ls : List (List ℕ)) : Type 0 where
  pub fine : AreFine nothing_said ls
  pub made : IsLiveReader reader
  pub at : IsAt reader (length ls + 1) (said_in ls)

-- what they say was said to a walk, and answered
pub record HasAnsweredLines (walk : AnsweredWalk) (asked : Asked) (ls : List (List ℕ)) : Type 0 where
  pub is : IsAnswered walk asked (config_in ls) (sayings ls)
  pub leg : leg_in ls ≡ leg_said (config_in ls) (sayings ls)

-- nothing was said, and the configuration waits
pub record WaitsForWalk (reader : LiveReader) (ls : List (List ℕ)) : Type 0 where
  pub made : IsLiveReader reader
  pub none : sayings ls ≡ []
  pub leg : leg_in ls ≡ leg_said (config_in ls) (sayings ls)
  pub config : waiting_config reader ≡ Some (config_in ls)

-- a line says that something happens, which can be said behind what others say
pub record IsSaidBehind (reader : LiveReader) (says : LiveLine) (ls : List (List ℕ)) (line : List ℕ) : Type 0 where
  pub saying : Saying
  pub told : told_line (frame_of reader) says ≡ happens saying
  pub here : line_saying line ≡ saying ∷ []
  pub config : config_in (ls ++ line ∷ []) ≡ config_in ls
  pub well : IsWellSaid (config_in (ls ++ line ∷ [])) (sayings (ls ++ line ∷ []))
  pub leg : leg_in (ls ++ line ∷ []) ≡ leg_said (config_in (ls ++ line ∷ [])) (sayings (ls ++ line ∷ []))
