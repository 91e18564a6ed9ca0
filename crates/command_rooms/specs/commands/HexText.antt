-- A text of lines of hexadecimal digits: a line that isn't skipped has one word, two digits for each octet.
use Rattle.std.specs.Prelude.{◌≡◌, ℕ, List, [], ◌∷◌, ◌++◌, Option, Some, None, is_none, unwrap_or, Result, Ok, Err}
use Rattle.std.specs.Prelude.{if◌then◌else◌}
use Rattle.std.specs.Result.{result_ok}
use Rattle.hex.specs.Hex.{decode_of}
use Rattle.text_lines.specs.declared.text_faults.LineKind.{LineKind}
use Rattle.text_lines.specs.declared.text_faults.LineKind.TheVariants.{Hex}
use Rattle.text_lines.specs.WordsOfLine.{is_skipped}
use Rattle.text_lines.specs.Fields.{where_true}
use Rattle.text_lines.specs.Language.{Language, said_by}

-- the octets of the only word
abbrev pub word_octets : List (List ℕ) → Option (List ℕ)
word_octets [] = None
word_octets (w ∷ []) = result_ok (decode_of w)
word_octets (w ∷ v ∷ ws) = None

-- the octets of a line by its words, where it is skipped or has digits
abbrev pub line_octets : List (List ℕ) → Option (List ℕ)
line_octets ws = if is_skipped ws then Some [] else word_octets ws

-- the lines one after another: their octets so far
abbrev pub hex_lines : Language (List ℕ) LineKind
hex_lines = record {
  first = [];
  fault = λ octets ws. where_true (is_none (line_octets ws)) Hex;
  after = λ n octets ws. octets ++ unwrap_or (line_octets ws) [];
  missing = λ octets. None;
}

abbrev pub hex_text : Result (List ℕ) (ℕ × LineKind) → Result (List ℕ) ℕ
hex_text (Ok octets) = Ok octets
hex_text (Err at) = Err at.0

-- the octets that the lines of a text say, or the number of the first that isn't hexadecimal, counted from 1
abbrev pub hex_text_of : List ℕ → Result (List ℕ) ℕ
hex_text_of text = hex_text (said_by hex_lines text)

abbrev pub IsFirstFault : List ℕ → ℕ → Type 0
IsFirstFault text number = hex_text_of text ≡ Err number
