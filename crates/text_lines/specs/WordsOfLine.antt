-- The words of a line, and the numbers and octets that words say.
use Rattle.std.specs.Prelude.{ℕ, ◌+◌, ◌-◌, ◌*◌, ◌==◌, ◌&&◌, nat_le, true, false, Bool, List, [], ◌∷◌, length}
use Rattle.std.specs.Prelude.{slice_index_or}
use Rattle.std.specs.List.{slice_split, filter, list_all}
use Rattle.std.specs.Result.{result_unwrap_or}
use Rattle.hex.specs.Hex.{decode_of}

abbrev pub has_octets : List ℕ → Bool
has_octets [] = false
has_octets (octet ∷ part) = true

-- the words of a line: its parts between spaces that aren't empty
unfoldable pub words : List ℕ → List (List ℕ)
words line = filter has_octets (slice_split (λ octet. octet == 32) line)

-- a word of a line by its place
abbrev pub word_at : ℕ → List (List ℕ) → List ℕ
word_at i ws = slice_index_or ws i []

-- a line without words, or whose first word begins with '#'
abbrev pub is_skipped : List (List ℕ) → Bool
is_skipped [] = true
is_skipped (w ∷ ws) = slice_index_or w 0 0 == 35

abbrev pub is_digit : ℕ → Bool
is_digit c = nat_le 48 c && nat_le c 57

-- a number is one to ten decimal digits
abbrev pub is_number : List ℕ → Bool
is_number word = nat_le 1 (length word) && (nat_le (length word) 10 && list_all is_digit word)

-- the value of the digits of a number, after others that have this value
abbrev pub number_after : ℕ → List ℕ → ℕ
number_after n [] = n
number_after n (c ∷ word) = number_after (10 * n + (c - 48)) word

abbrev pub number_of : List ℕ → ℕ
number_of word = number_after 0 word

abbrev pub number_at : ℕ → List (List ℕ) → ℕ
number_at i ws = number_of (word_at i ws)

-- the octets that hexadecimal digits say
abbrev pub octets_of : List ℕ → List ℕ
octets_of word = result_unwrap_or (decode_of word) []
