-- Where a pair stands that answers the lines of a live text of both ways, as private clauses say it.
use Rattle.std.specs.Prelude.{◌≡◌, ℕ, ◌+◌, List, [], ◌∷◌, ◌++◌, length, Some}
use Rattle.law_live.specs.Common.{IsPairSaid, PairSaying}
use Rattle.walk_live.specs.declared.asked.Asked.{Asked}
use Rattle.pair_live.specs.declared.answered_pair.AnsweredPair.{AnsweredPair}
use Rattle.pair_live.specs.declared.live_pair_line.LivePairLine.{LivePairLine}
use Rattle.pair_live.specs.declared.live_pair_reader.LivePairReader.{LivePairReader}
use Rattle.pair_live.specs.PairAnswered.{IsPairAnswered}
use Rattle.pair_live.specs.PairLines.{PairSaid, back_config, happens, nothing_said, there_config}
use Rattle.pair_live.specs.PairReaderStands.{IsLivePairReader, IsPairAt, pair_frame, told_pair_line, waiting_configs}
use Rattle.pair_live.specs.PairSayingsOfLines.{AreFine, line_pair_saying, pair_said_in, pair_sayings}

-- over the configurations that lines say
abbrev pub IsAnsweredBy : AnsweredPair → Asked → PairSaid → List PairSaying → Type 0
IsAnsweredBy pair asked s said = IsPairAnswered pair asked (there_config s) (back_config s) said

abbrev pub IsSaidBy : PairSaid → List PairSaying → Type 0
IsSaidBy s said = IsPairSaid (there_config s) (back_config s) said

-- a reader has read these lines, none of which is faulty
pub record HasReadLines (reader : LivePairReader) (ls : List (List ℕ)) : Type 0 where
  pub fine : AreFine nothing_said ls
  pub made : IsLivePairReader reader
  pub at : IsPairAt reader (length ls + 1) (pair_said_in ls)

-- what they say was said to a pair, and answered
abbrev pub HasAnsweredLines : AnsweredPair → Asked → List (List ℕ) → Type 0
HasAnsweredLines pair asked ls = IsAnsweredBy pair asked (pair_said_in ls) (pair_sayings ls)

-- nothing was said, and the configurations wait
pub record WaitsForPair (reader : LivePairReader) (ls : List (List ℕ)) : Type 0 where
  pub made : IsLivePairReader reader
  pub none : pair_sayings ls ≡ []
  pub configs : waiting_configs reader ≡ Some (there_config (pair_said_in ls), back_config (pair_said_in ls))

-- a line says that something happens, which can be said behind what others say
pub record IsSaidBehind (reader : LivePairReader) (says : LivePairLine) (ls : List (List ℕ)) (line : List ℕ) : Type 0
  where
    pub saying : PairSaying
    pub told : told_pair_line (pair_frame reader) says ≡ happens saying
    pub here : line_pair_saying line ≡ saying ∷ []
    pub there : there_config (pair_said_in (ls ++ line ∷ [])) ≡ there_config (pair_said_in ls)
    pub back : back_config (pair_said_in (ls ++ line ∷ [])) ≡ back_config (pair_said_in ls)
    pub well : IsSaidBy (pair_said_in (ls ++ line ∷ [])) (pair_sayings (ls ++ line ∷ []))
