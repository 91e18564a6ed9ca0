-- What lines of a live text say that happens, one after another, and the leg of a session of which they say all.
use Rattle.std.specs.Prelude.{◌≡◌, ℕ, ◌+◌, List, [], ◌∷◌, flat_map, Option, Some, None}
use Rattle.text_lines.specs.WordsOfLine.{words}
use Rattle.text_lines.specs.Language.{Language}
use Rattle.text_lines.specs.FirstFault.{AreSound}
use Rattle.law_model.specs.Common.{IsNetwork, Leg}
use Rattle.law_live.specs.Common.{IsWellSaid, Live, Saying, leg_by, live_of}
use Rattle.text_live.specs.LiveLines.{Said, Told, nothing, setting, happens, told, line_after, live_lines, nothing_said, now_live}

-- ---- lines of any language
-- what is said with them, from line n on, behind others that say d
abbrev pub behind : {D K : Type 0} → Language D K → ℕ → D → List (List ℕ) → D
behind language n d [] = d
behind language n d (line ∷ ls) = behind language (n + 1) (language.after n d (words line)) ls

-- none of them is faulty behind those before it
abbrev pub AreFineBehind : {D K : Type 0} → Language D K → ℕ → D → List (List ℕ) → Type 0
AreFineBehind language n d ls = AreSound language n d ls (behind language n d ls)

-- ---- what happens
-- a line says at most that one thing does
abbrev pub saying_of : Told → List Saying
saying_of nothing = []
saying_of setting = []
saying_of (happens saying) = saying ∷ []

abbrev pub line_saying : List ℕ → List Saying
line_saying line = saying_of (told (words line))

abbrev pub sayings : List (List ℕ) → List Saying
sayings ls = flat_map line_saying ls

-- ---- all that is said
abbrev pub said_with_line : ℕ → Said → List ℕ → Said
said_with_line n s line = line_after n s (words line)

abbrev pub said_in : List (List ℕ) → Said
said_in ls = behind live_lines 1 nothing_said ls

abbrev pub AreFine : Said → List (List ℕ) → Type 0
AreFine s ls = AreFineBehind live_lines 1 s ls

-- the leg
abbrev pub leg_in : List (List ℕ) → Leg
leg_in ls = leg_by (said_in ls).settings.config (now_live (said_in ls))

-- ---- what they say beside what happens: before the first live line nothing does, and from it on the configuration is one
-- that can be walked, over which what happens is well said and leaves it as it stands
abbrev pub AgreesWith : Said → List Saying → Option Live → Type 0
AgreesWith s said None = said ≡ []
AgreesWith s said (Some live) =
    IsNetwork s.settings.config × IsWellSaid s.settings.config said × (live ≡ live_of s.settings.config said)
