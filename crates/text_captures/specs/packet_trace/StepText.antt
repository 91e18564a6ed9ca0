-- What is written of a decision step of the source: its number, what its packets say, the return cell that it took, and
-- each line's
-- code and SQ. This text is this project's own.
use Rattle.std.specs.Prelude.{ℕ, ◌%◌, ◌==◌, List, ◌++◌, length, slice_index_or, Option, Some, None, codes, decimal}
use Rattle.std.specs.List.{flat_map, range_with_len}
use Rattle.law_model.specs.Common.{BackCell, ctrl_text, bit_text, nibble_text, Table, active, LineFields, place_in}
use Rattle.member_cells.specs.declared.containers_and_cells.BackCell.TheVariants.{Packet, Lost}

-- the nibble of a return packet at a place
abbrev pub nibble_at : List ℕ → ℕ → ℕ
nibble_at nibbles place = slice_index_or nibbles place 0

-- a return cell: the two digits of its status octet, and RS-Ack
abbrev pub back_text : Option BackCell → List ℕ
back_text None = codes "none"
back_text (Some Lost) = codes "lost"
back_text (Some (Packet nibbles)) =
    nibble_text (nibble_at nibbles 0) ++ nibble_text (nibble_at nibbles 1) ++ codes "/" ++ bit_text
    (nibble_at nibbles 2 % 2 == 1)

-- a line: its code and its SQ
abbrev pub place_text : LineFields → List ℕ
place_text place = codes " " ++ ctrl_text place.ctrl ++ codes ":" ++ decimal place.sq

-- the lines from 0 on
abbrev pub place_texts : Table → ℕ → List ℕ
place_texts table lines = flat_map (λ line. place_text (place_in table.order 0 line)) (range_with_len 0 lines)

-- the step that left this table
abbrev pub step_text : ℕ → Option BackCell → Table → ℕ → List ℕ
step_text packet back table lines =
    codes "packet " ++ decimal packet ++ codes " chg " ++ bit_text (table.count % 2 == 1) ++ codes " act " ++ decimal
    (length (active table))
    ++ codes " back " ++ back_text back ++ place_texts table lines ++ codes "\n"
