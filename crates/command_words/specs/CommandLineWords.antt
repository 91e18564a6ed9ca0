-- Words of a command line, and the numbers among them.
use Rattle.std.specs.Prelude.{ℕ, ◌==◌, ◌&&◌, not, nat_le, false, Bool, List, [], ◌∷◌, length, Option, Some, None}
use Rattle.std.specs.Prelude.{if◌then◌else◌}
use Rattle.std.specs.List.{list_all}
use Rattle.text_lines.specs.WordsOfLine.{is_digit, number_of}

-- a word isn't empty and doesn't begin with a dash, so it is no option and no negative number
abbrev pub is_plain : List ℕ → Bool
is_plain [] = false
is_plain (first ∷ rest) = not (first == 45)

-- words that may be a command: one to six, each of them plain
abbrev pub are_plain : List (List ℕ) → Bool
are_plain words = nat_le 1 (length words) && (nat_le (length words) 6 && list_all is_plain words)

-- a number is one or more decimal digits, so leading zeros may stand
abbrev pub is_number : List ℕ → Bool
is_number w = nat_le 1 (length w) && list_all is_digit w

-- the value of a number within two bounds
abbrev pub number_in : ℕ → ℕ → List ℕ → Option ℕ
number_in least most w =
    if is_number w && (nat_le least (number_of w) && nat_le (number_of w) most) then Some (number_of w) else None

-- of words that may be a command, what a program takes them for
abbrev pub taken_as : {C : Type 0} → (List (List ℕ) → Option C) → List (List ℕ) → Option C
taken_as named words = if are_plain words then named words else None
