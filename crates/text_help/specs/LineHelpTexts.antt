-- What is said of how to write a line, in any language of lines. These texts are this project's own.
use Rattle.std.specs.Prelude.{ℕ, ◌==◌, nat_le, List, ◌++◌, codes, decimal, if◌then◌else◌}
use Rattle.text_lines.specs.declared.text_faults.FieldFault.{FieldFault}
use Rattle.text_lines.specs.declared.text_faults.FieldFault.TheVariants.{Number, Hex, Range, Size, Name}
use Rattle.text_lines.specs.declared.text_faults.Names.{Names}
use Rattle.text_lines.specs.declared.text_faults.Names.TheVariants.{Containers, Sinks, Statuses}
use Rattle.text_lines.specs.declared.text_faults.LineFault.{LineFault}
use Rattle.text_lines.specs.declared.text_faults.LineFault.TheVariants as wrong

-- ---- of one word of a line; its place is counted from 1
abbrev pub word_text : ℕ → List ℕ → List ℕ
word_text at rest = codes "word " ++ decimal at ++ rest

-- the bounds of a number; where no number is within them, the upper one alone
abbrev pub bounds_text : ℕ → ℕ → List ℕ
bounds_text least most =
    if nat_le least most then codes " is from " ++ decimal least ++ codes " to " ++ decimal most
    else codes " is at most " ++ decimal most

-- the names that a word chooses from
abbrev pub names_text : Names → List ℕ
names_text Containers = codes " is vc3 or vc4"
names_text Sinks = codes " is stops or infers"
names_text Statuses = codes " is 16 or 32"

-- what a word has to be
abbrev pub field_text : FieldFault → List ℕ
field_text (Number at) = word_text at (codes " is a number of one to ten digits")
field_text (Hex at) = word_text at (codes " is an even number of hexadecimal digits")
field_text (Range at least most) = word_text at (bounds_text least most)
field_text (Size at least most) =
    word_text at (codes " has " ++ decimal least ++ codes " to " ++ decimal most ++ codes " octets")
field_text (Name at names) = word_text at (names_text names)

-- ---- of a line
-- so many words are taken, and so many follow
abbrev pub takes_text : ℕ → List ℕ
takes_text n = if n == 1 then codes " word" else codes " words"

abbrev pub follow_text : ℕ → List ℕ
follow_text n = if n == 1 then codes " follows" else codes " follow"

-- the line that this word begins takes so many words behind it, and so many are there
abbrev pub count_text : List ℕ → ℕ → ℕ → List ℕ
count_text first takes follow =
    first ++ codes " takes " ++ decimal takes ++ takes_text takes ++ codes ", and " ++ decimal follow
    ++ follow_text follow

-- the line that this word begins isn't where it has to be
abbrev pub missing_text : List ℕ → List ℕ
missing_text first = codes "the line " ++ first ++ codes " has to stand here"

-- this line, or part of a text, comes behind that one and has to come before it
abbrev pub order_text : List ℕ → List ℕ → List ℕ
order_text this that = this ++ codes " stands before " ++ that

-- none of these words begins this line
abbrev pub first_text : List ℕ → List ℕ
first_text all = codes "a line begins with one of " ++ all

-- of a line of a language, by the words of its keywords, by all of them, and by what it says of its own faults
abbrev pub fault_text : {K O : Type 0} → (K → List ℕ) → List ℕ → (O → List ℕ) → LineFault K O → List ℕ
fault_text word all own wrong.First = first_text all
fault_text word all own (wrong.Count keyword takes follow) = count_text (word keyword) takes follow
fault_text word all own (wrong.Field fault) = field_text fault
fault_text word all own (wrong.Missing keyword) = missing_text (word keyword)
fault_text word all own (wrong.Order this before) = order_text (word this) (word before)
fault_text word all own (wrong.Own fault) = own fault
