-- What became of frames by some rows, and by more of them.
use Rattle.std.specs.Prelude.{ℕ, ◌≡◌, ◌⊎◌, List, [], ◌∷◌, ◌++◌, map, take, drop, true}
use Rattle.law_model.specs.Common.{extents, stream_of, StreamRow}
use Rattle.law_loss.specs.WorkedLosses.{worked_pieces, worked_rows}
use Rattle.fate_engine.specs.Common.{fate_of}
use Rattle.fate_engine.specs.declared.fate_law.Fate.{Fate}
use Rattle.fate_engine.specs.declared.fate_law.Fate.TheVariants.{Waits, Cut, Unconfirmed, Hunting, Unsettled, Got}

-- a fate is the same by more rows, with the same rows of its frame; but a frame that waits may come to any, and one
-- in whose segment nothing was confirmed may begin before the place that is confirmed there by now
abbrev pub Keeps : Fate → Fate → Type 0
Keeps Waits later = Unit {0}
Keeps (Cut r q t) later = later ≡ Cut r q t
Keeps (Unconfirmed r q) later = (later ≡ Unconfirmed r q) ⊎ (later ≡ Hunting r q)
Keeps (Hunting r q) later = later ≡ Hunting r q
Keeps (Unsettled r q) later = later ≡ Unsettled r q
Keeps (Got r q) later = later ≡ Got r q

-- ---- a worked stream
-- the rows of the worked stream of losses, of which the third comes as two: of 14 octets, with which the second frame
-- ends, and of 20
abbrev pub halved_rows : List StreamRow
halved_rows =
    take 2 worked_rows
    ++ record { whole = true; octets = take 14 (drop 16 (stream_of worked_pieces)) }
    ∷ record { whole = true; octets = take 20 (drop 30 (stream_of worked_pieces)) }
    ∷ drop 3 worked_rows

-- what became of its frames by some of them
abbrev pub fates_after : ℕ → List Fate
fates_after rows = map (fate_of worked_pieces (take rows halved_rows)) (extents 0 worked_pieces)

abbrev pub first_fates : List Fate
first_fates = Cut 0 2 1 ∷ Unconfirmed 2 2 ∷ Waits ∷ Waits ∷ Waits ∷ Waits ∷ []

abbrev pub next_fates : List Fate
next_fates = Cut 0 2 1 ∷ Hunting 2 2 ∷ Unsettled 2 3 ∷ Got 3 3 ∷ Waits ∷ Waits ∷ []

abbrev pub last_fates : List Fate
last_fates = Cut 0 2 1 ∷ Hunting 2 2 ∷ Unsettled 2 3 ∷ Got 3 3 ∷ Cut 3 5 4 ∷ Unconfirmed 5 5 ∷ []
