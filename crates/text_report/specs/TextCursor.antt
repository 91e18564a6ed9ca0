-- A line of text that is put together at the front of a slice.
use Rattle.std.specs.Prelude.{◌≡◌, ◌≤◌, ◌+◌, ℕ, List, ◌++◌, length, take}
use Rattle.text_report.specs.declared.text_cursor.TextCursor.{TextCursor}

-- the text so far
abbrev pub text_of : TextCursor → List ℕ
text_of line = take line.at line.out.now

-- the slice has room for a number of octets more
abbrev pub HasTextRoom : TextCursor → ℕ → Type 0
HasTextRoom line n = line.at + n ≤ length line.out.now

-- the text has grown by a piece, in the same slice
pub record Extends (old new : TextCursor) (piece : List ℕ) : Type 0 where
  pub text : text_of new ≡ text_of old ++ piece
  pub end : new.at ≡ old.at + length piece
  pub size : length new.out.now ≡ length old.out.now
  pub slice : new.out.ghost_name ≡ old.out.ghost_name
