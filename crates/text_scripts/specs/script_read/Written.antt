-- The streams of a script: the words that each may have, and the script with each written out, as the lines of its
-- frames, in its place.
use Rattle.std.specs.Prelude.{◌≡◌, ℕ, ◌<◌, ◌≤◌, List, [], ◌∷◌, ◌++◌, length, drop, codes, true, All, Option, Some}
use Rattle.std.specs.Prelude.{if◌then◌else◌}
use Rattle.std.specs.List.{list_all}
use Rattle.std.specs.Str.Lines.{lines}
use Rattle.text_lines.specs.WordsOfLine.{words, word_at, number_at, is_number, is_skipped}
use Rattle.law_rates.specs.Rates.{IsRate}
use Rattle.text_scripts.specs.rate_load.RateTexts.{rate_text}
use Rattle.text_scripts.specs.declared.script_read.script_keyword.Keyword.{Keyword}
use Rattle.text_scripts.specs.declared.script_read.script_keyword.Keyword.TheVariants as word
use Rattle.text_scripts.specs.script_read.Statements.{keyword_of, parts_of, are_digits, rate_in}

-- ---- form and ranges
-- the words behind `stream`, in a session of so many ticks: sizes with commas between, megabits a second, the first
-- tick and the end, and a number of one to twenty digits, below 2^64
pub record IsStream (ticks : ℕ) (ws : List (List ℕ)) : Type 0 where
  pub five : length ws ≡ 5
  pub sizes : list_all is_number (parts_of (word_at 0 ws)) ≡ true
  pub mbits : is_number (word_at 1 ws) ≡ true
  pub first : is_number (word_at 2 ws) ≡ true
  pub end : is_number (word_at 3 ws) ≡ true
  pub number : are_digits 20 (word_at 4 ws) ≡ true
  pub rate : IsRate (rate_in ws)
  pub ends : number_at 3 ws ≤ ticks
  pub below : number_at 4 ws < 18446744073709551616

-- of each line that begins with that word
abbrev pub IsFormed : ℕ → List ℕ → Type 0
IsFormed ticks line = word_at 0 (words line) ≡ codes "stream" → IsStream ticks (drop 1 (words line))

abbrev pub AreFormed : ℕ → List (List ℕ) → Type 0
AreFormed ticks ls = All (IsFormed ticks) ls

-- ---- written out
-- a line whose first word has a keyword, before the words behind it
abbrev pub written_by : List ℕ → List (List ℕ) → Option Keyword → List (List ℕ)
written_by line ws (Some word.Stream) = lines (rate_text (rate_in ws))
written_by line ws k = line ∷ []

abbrev pub written : List ℕ → List (List ℕ)
written line =
    if is_skipped (words line) then line ∷ []
    else written_by line (drop 1 (words line)) (keyword_of (word_at 0 (words line)))

-- the lines of a script, each of them so
unfoldable pub all_written : List (List ℕ) → List (List ℕ)
all_written [] = []
all_written (line ∷ ls) = written line ++ all_written ls
