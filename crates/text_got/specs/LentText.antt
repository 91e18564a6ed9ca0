-- What is written so far of a text by a `LentGotLines`, whose block is lent.
use Rattle.std.specs.Prelude.{◌≡◌, ℕ, List, Option}
use Rattle.law_model.specs.Common.{Start}
use Rattle.text_got.specs.TextSoFar.{WritesOrWaits, seen, told_of}
use Rattle.text_got.specs.declared.lent_got_text.LentGotLines.{LentGotLines}

-- by which reference it writes
abbrev pub name_of : {K : Type 0} → LentGotLines K → ℕ
name_of got = got.out.ghost_name

-- this text was written since a start, or waits
abbrev pub HasText : {K : Type 0} → (K → Option (List ℕ)) → (K → ℕ) → LentGotLines K → Start → List ℕ → Type 0
HasText written faults got start text = (got.out.ghost_name ≡ start.name)
    × WritesOrWaits got.failed (seen (told_of start.octets) start.faults)
    (seen (written got.out.now) (faults got.out.now)) got.block.now text
