-- What the lines of a text say one after another, or the first of them that has a fault.
use Rattle.std.specs.Prelude.{ℕ, ◌+◌, List, [], ◌∷◌, Option, Some, None, Result, Ok, Err}
use Rattle.std.specs.Str.Lines.{lines}
use Rattle.text_lines.specs.WordsOfLine.{words}

-- a language of lines, by their words. D is what lines say, K what can be wrong with one
pub record Language (D K : Type 0) : Type 0 where
  -- what is said before the first line
  pub first : D
  -- what is wrong with a line after what those before it say
  pub fault : D → List (List ℕ) → Option K
  -- what is said with that line, which has this number
  pub after : ℕ → D → List (List ℕ) → D
  -- what is missing after the last line
  pub missing : D → Option K

-- what lines say, unless that of number n has a fault
abbrev pub unless_fault : {D K : Type 0} → ℕ → Option K → Result D (ℕ × K) → Result D (ℕ × K)
unless_fault n None said = said
unless_fault n (Some fault) said = Err (n, fault)

-- what lines say, from number n on, after others that say d; or the number of the first that has a fault, and the
-- fault. What is missing has the number of the line that would come next
unfoldable pub said_from : {D K : Type 0} → Language D K → ℕ → D → List (List ℕ) → Result D (ℕ × K)
said_from language n d [] = unless_fault n (language.missing d) (Ok d)
said_from language n d (l ∷ ls) =
    unless_fault n (language.fault d (words l)) (said_from language (n + 1) (language.after n d (words l)) ls)

-- what a text says; its lines are counted from 1
abbrev pub said_by : {D K : Type 0} → Language D K → List ℕ → Result D (ℕ × K)
said_by language text = said_from language 1 language.first (lines text)
