-- Which line of a text is the first that has a fault, as a relation.
use Rattle.std.specs.Prelude.{◌≡◌, ◌⊎◌, ℕ, ◌+◌, List, [], ◌∷◌, ◌++◌, length, Some, None}
use Rattle.text_lines.specs.WordsOfLine.{words}
use Rattle.text_lines.specs.Language.{Language}

-- lines without a fault, from number n on, after what others say, and what is said with them
unfoldable pub AreSound : {D K : Type 0} → Language D K → ℕ → D → List (List ℕ) → D → Type 0
AreSound language n d [] now = d ≡ now
AreSound language n d (l ∷ ls) now =
    (language.fault d (words l) ≡ None) × AreSound language (n + 1) (language.after n d (words l)) ls now

-- line m is the first that has a fault, where the first line has the number n
pub record IsFaulty {D K : Type 0} (language : Language D K) (n : ℕ) (d : D) (ls : List (List ℕ)) (m : ℕ)
    (fault : K) : Type 0 where
  pub before : List (List ℕ)
  pub line : List ℕ
  pub later : List (List ℕ)
  pub now : D
  pub here : ls ≡ before ++ line ∷ later
  pub count : m ≡ n + length before
  pub sound : AreSound language n d before now
  pub faulty : language.fault now (words line) ≡ Some fault

-- no line has a fault, and something is missing behind them
pub record IsShort {D K : Type 0} (language : Language D K) (n : ℕ) (d : D) (ls : List (List ℕ)) (m : ℕ)
    (fault : K) : Type 0 where
  pub now : D
  pub sound : AreSound language n d ls now
  pub count : m ≡ n + length ls
  pub short : language.missing now ≡ Some fault

-- line m has the first fault, or nothing is missing before it
abbrev pub IsFirstFault : {D K : Type 0} → Language D K → ℕ → D → List (List ℕ) → ℕ → K → Type 0
IsFirstFault language n d ls m fault = IsFaulty language n d ls m fault ⊎ IsShort language n d ls m fault

-- no line has a fault, and nothing is missing
pub record AreWhole {D K : Type 0} (language : Language D K) (n : ℕ) (d : D) (ls : List (List ℕ)) (now : D) :
    Type 0 where
  pub sound : AreSound language n d ls now
  pub whole : language.missing now ≡ None
