-- What passes at one bell, in the order in which it happens, and that no ring is lost. This is a model: the atomic words
-- of a `Bell` are in no clause.
use Rattle.std.specs.Prelude.{◌≡◌, ℕ, List, [], ◌∷◌, ◌++◌, fold, All, Bool, true, false, if◌then◌else◌}

-- the word of a bell
pub data BellWord : Type 0 where
  quiet : BellWord
  rung : BellWord
  asleep : BellWord

-- a bell: its word, and whether those behind the owner are heard
pub record BellNow : Type 0 where
  pub word : BellWord
  pub heard : Bool

-- The owner takes note of all rings, looks whether it can go on, begins or stops to hear those behind it, and goes to
-- sleep. Another, told by a number, moves what the owner may wait for, rings, or rings from behind
pub data BellStep : Type 0 where
  notes : BellStep
  looks : BellStep
  hears : BellStep
  stops_hearing : BellStep
  sleeps : BellStep
  moves : ℕ → BellStep
  rings : ℕ → BellStep
  rings_from_behind : ℕ → BellStep

-- the owner sleeps if nobody has rung since its note
abbrev pub asleep_if_quiet : BellWord → BellWord
asleep_if_quiet quiet = asleep
asleep_if_quiet rung = rung
asleep_if_quiet asleep = asleep

-- a bell after a step, and after steps
abbrev pub bell_by : BellNow → BellStep → BellNow
bell_by bell notes = record bell { word = quiet }
bell_by bell looks = bell
bell_by bell hears = record bell { heard = true }
bell_by bell stops_hearing = record bell { heard = false }
bell_by bell sleeps = record bell { word = asleep_if_quiet bell.word }
bell_by bell (moves who) = bell
bell_by bell (rings who) = record bell { word = rung }
bell_by bell (rings_from_behind who) = if bell.heard then record bell { word = rung } else bell

abbrev pub bell_after : BellNow → List BellStep → BellNow
bell_after bell steps = fold bell_by bell steps

-- no step of these is a note of the owner's; in none does it stop to hear those behind it
abbrev pub is_note : BellStep → Bool
is_note notes = true
is_note looks = false
is_note hears = false
is_note stops_hearing = false
is_note sleeps = false
is_note (moves who) = false
is_note (rings who) = false
is_note (rings_from_behind who) = false

abbrev pub is_stop : BellStep → Bool
is_stop notes = false
is_stop looks = false
is_stop hears = false
is_stop stops_hearing = true
is_stop sleeps = false
is_stop (moves who) = false
is_stop (rings who) = false
is_stop (rings_from_behind who) = false

abbrev pub HaveNoNote : List BellStep → Type 0
HaveNoNote steps = All (λ step. is_note step ≡ false) steps

abbrev pub AreHeard : List BellStep → Type 0
AreHeard steps = All (λ step. is_stop step ≡ false) steps

-- how the owner waits: it takes note, looks, and has taken no note since
abbrev pub waiting : List BellStep → List BellStep → List BellStep
waiting between since = notes ∷ between ++ looks ∷ since

-- and how it waits for those behind it too: first it begins to hear them
abbrev pub waiting_for_behind : List BellStep → List BellStep → List BellStep
waiting_for_behind between since = hears ∷ notes ∷ between ++ looks ∷ since

-- ---- worked steps
-- one that moves what the owner waits for just after its look, and rings
abbrev pub late_move : List BellStep
late_move = waiting [] (moves 1 ∷ rings 1 ∷ sleeps ∷ [])

-- the same by an owner that looks first and takes note after it
abbrev pub late_note : List BellStep
late_note = looks ∷ moves 1 ∷ rings 1 ∷ notes ∷ sleeps ∷ []

-- one behind the owner, that began to hear it after its look
abbrev pub late_hearing : List BellStep
late_hearing = notes ∷ looks ∷ moves 1 ∷ rings_from_behind 1 ∷ hears ∷ sleeps ∷ []

abbrev pub at_rest : BellNow
at_rest = record { word = quiet; heard = false }
