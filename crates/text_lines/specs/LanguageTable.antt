-- Languages of lines as tables: which words begin a line, where such a line may stand, what its other words have to be,
-- what the lines before it leave no room for, and what it adds to what they say.
use Rattle.std.specs.Prelude.{ℕ, ◌+◌, ◌==◌, ◌&&◌, nat_lt, not, List, length, drop, Option, Some, None, option_map}
use Rattle.std.specs.Prelude.{Result, Ok, Err, if◌then◌else◌}
use Rattle.std.specs.Option.{option_or}
use Rattle.text_lines.specs.WordsOfLine.{word_at, is_skipped}
use Rattle.text_lines.specs.Fields.{Field, where_true, number_fault, fields_fault}
use Rattle.text_lines.specs.Language.{Language, said_by}
use Rattle.text_lines.specs.declared.text_faults.LineFault.{LineFault}
use Rattle.text_lines.specs.declared.text_faults.LineFault.TheVariants as wrong

-- D is what lines say, K the words that begin one, and O what can be wrong with one in this language alone
pub record Table (D K O : Type 0) : Type 0 where
  -- what is said before the first line
  pub first : D
  -- the keyword that a word is
  pub keyword : List ℕ → Option K
  -- the place of its lines in a text
  pub place : K → ℕ
  -- how many places, from 0 on, have one line each that has to be there; the others stand by rising places
  pub must : ℕ
  -- the keyword of the line that has to be at such a place
  pub awaited : ℕ → K
  -- what the words behind a keyword have to be
  pub fields : D → K → List Field
  -- what the lines before it leave no room for
  pub own : D → K → List (List ℕ) → Option O
  -- what is said with the line
  pub after : D → K → List (List ℕ) → D

-- what lines say, and the keyword of the last of them
pub record Told (D K : Type 0) : Type 0 where
  pub said : D
  pub last : Option K

abbrev pub told : {D K : Type 0} → D → Option K → Told D K
told said last = record { said = said; last = last }

-- ---- the place of a line
-- the place from which on a line may stand behind one of this keyword
abbrev pub next_by : {D K O : Type 0} → Table D K O → K → ℕ
next_by t k = if nat_lt (t.place k) t.must then t.place k + 1 else t.place k

abbrev pub next_after : {D K O : Type 0} → Table D K O → Option K → ℕ
next_after t None = 0
next_after t (Some k) = next_by t k

-- the line that has to stand next isn't there
abbrev pub missing_at : {D K O : Type 0} → Table D K O → ℕ → LineFault K O
missing_at t next = wrong.Missing (t.awaited next)

-- none comes back to an earlier place
abbrev pub order_fault : {D K O : Type 0} → Table D K O → Option K → K → Option (LineFault K O)
order_fault t None k = None
order_fault t (Some before) k = where_true (nat_lt (t.place k) (next_by t before)) (wrong.Order k before)

abbrev pub place_fault : {D K O : Type 0} → Table D K O → Option K → K → Option (LineFault K O)
place_fault t last k =
    option_or
    (where_true (nat_lt (next_after t last) t.must && not (t.place k == next_after t last))
    (missing_at t (next_after t last)))
    (order_fault t last k)

-- ---- the first fault of a line
-- of the number of the words behind a keyword
abbrev pub count_fault : {K O : Type 0} → K → ℕ → List (List ℕ) → Option (LineFault K O)
count_fault k takes ws = where_true (not (length ws == takes)) (wrong.Count k takes (length ws))

-- of these words, of which the first is word 2 of its line
abbrev pub rest_fault : {D K O : Type 0} → Table D K O → D → K → List (List ℕ) → Option (LineFault K O)
rest_fault t d k ws =
    option_or (count_fault k (length (t.fields d k)) ws)
    (option_or (option_map wrong.Field (fields_fault (t.fields d k) 2 0 ws)) (option_map wrong.Own (t.own d k ws)))

abbrev pub known_fault : {D K O : Type 0} → Table D K O → Told D K → List (List ℕ) → Option K → Option (LineFault K O)
known_fault t s ws None = Some wrong.First
known_fault t s ws (Some k) = option_or (place_fault t s.last k) (rest_fault t s.said k ws)

-- of the words of a line
abbrev pub words_fault : {D K O : Type 0} → Table D K O → Told D K → List (List ℕ) → Option (LineFault K O)
words_fault t s ws = if is_skipped ws then None else known_fault t s (drop 1 ws) (t.keyword (word_at 0 ws))

-- of a line that takes one number
abbrev pub one_fault : {K O : Type 0} → K → ℕ → ℕ → List (List ℕ) → Option (LineFault K O)
one_fault k least most ws =
    option_or (count_fault k 1 ws) (option_map wrong.Field (number_fault 2 least most (word_at 0 ws)))

-- ---- what a line without a fault adds
abbrev pub known_after : {D K O : Type 0} → Table D K O → Told D K → List (List ℕ) → Option K → Told D K
known_after t s ws None = s
known_after t s ws (Some k) = told (t.after s.said k ws) (Some k)

abbrev pub words_after : {D K O : Type 0} → Table D K O → Told D K → List (List ℕ) → Told D K
words_after t s ws = if is_skipped ws then s else known_after t s (drop 1 ws) (t.keyword (word_at 0 ws))

-- ---- the language
-- a line that has to be there isn't
abbrev pub missing_fault : {D K O : Type 0} → Table D K O → Told D K → Option (LineFault K O)
missing_fault t s = where_true (nat_lt (next_after t s.last) t.must) (missing_at t (next_after t s.last))

abbrev pub language_of : {D K O : Type 0} → Table D K O → Language (Told D K) (LineFault K O)
language_of t =
    record { first = told t.first None; fault = words_fault t; after = λ n. words_after t; missing = missing_fault t }

-- what a text says, or the number of the first faulty line, counted from 1, and what is wrong with it
abbrev pub said_alone : {D K E : Type 0} → Result (Told D K) E → Result D E
said_alone (Ok s) = Ok s.said
said_alone (Err at) = Err at

abbrev pub said_in : {D K O : Type 0} → Table D K O → List ℕ → Result D (ℕ × LineFault K O)
said_in t text = said_alone (said_by (language_of t) text)

-- what is made of what a text says
abbrev pub formed : {D E A : Type 0} → (D → A) → Result D E → Result A E
formed form (Ok d) = Ok (form d)
formed form (Err at) = Err at
