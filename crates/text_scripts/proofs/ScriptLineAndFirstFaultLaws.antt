-- What the lines of a script say, one by one, in pieces and in all: the first fault, or a valid script.
use Rattle.std.proofs.Common.{◌≡◌, ℕ, ◌+◌, ◌<◌, ◌≤◌, List, ◌∷◌, ap, sym, ◌∙◌, refl, inl, inr, ◌⊎◌, ◌↔◌, ◌-◌, nat_le}
use Rattle.std.proofs.Common.{Bool, true, false, [], ap₂, Ok, ◌++◌, length, take, drop, arith, append_assoc}
use Rattle.std.proofs.Common.{take-append-drop, take-add, drop-drop, subst}
use Rattle.std.specs.Prelude.{Option, None, Some, Err, Result}
use Rattle.std.proofs.lemmas.Bool.{cases_lt, lt-ltb, le-ltb, cases_Bool}
use Rattle.text_scripts.specs.declared.script_read.script_fault.LineFault.{LineFault}
use Rattle.text_scripts.specs.declared.script_read.script_fault.LineFault.TheVariants.{Missing}
use Rattle.text_scripts.specs.declared.script_read.script_fault.LineStop.{LineStop}
use Rattle.text_lines.specs.WordsOfLine.{words}
use Rattle.text_scripts.specs.script_read.Lifted.{IsStop}
use Rattle.text_lines.specs.Language.{said_from, said_by}
use Rattle.text_lines.proofs.LineLanguageAndTableLaws.{line_faulty, line_sound, first_fault, all_said}
use Rattle.text_lines.proofs.LineLanguageAndTableLaws.{end_missing, end_sound}
use Rattle.text_scripts.specs.declared.script_read.script_fault.ScriptFault.{ScriptFault}
use Rattle.text_scripts.specs.declared.script_read.script_keyword.Keyword.{Keyword}
use Rattle.text_scripts.specs.declared.script_read.script_draft.Draft.{Draft}
use Rattle.text_scripts.specs.script_read.Statements.{awaited, words_fault, words_said, after, at_first}
use Rattle.text_scripts.specs.script_read.Drafts.{fault_at, IsDraft}
use Rattle.text_scripts.specs.script_read.ScriptInPieces.{IsToldAt, ReaderStands, Follows}
use Rattle.text_scripts.specs.script_read.Script.{missing_line, script_lines, script_of_draft, fault_or, windows_fault}
use Rattle.text_scripts.specs.script_read.Script.{slip_fault, spread_fault, least_lag, lag_fault, config_fault}
use Rattle.text_scripts.specs.script_read.Script.{script_in, script_unless, script_of, IsScriptOf}
use Rattle.std.specs.Str.Lines.{lines}
use Rattle.text_lines.specs.FirstFault.{IsFirstFault, AreSound}
use Rattle.law_model.specs.Common.{greatest, least, greatest_slip, IsValid, HasFewLosses}
use Rattle.law_model.specs.declared.window_types.Window.{Window}
use Rattle.law_model.specs.declared.script_types.Config.{Config}
use Rattle.law_model.specs.declared.script_types.Script.{Script}
use Rattle.text_scripts.specs.declared.script_read.script_reader.ScriptReader.{ScriptReader}
use Rattle.text_scripts.proofs.ScriptDraftGrowthLaws.{IsDraft-first, IsDraft-after, IsValid-draft}
use Rattle.text_scripts.proofs.StatementAndWordFaultLaws.{fits_words}
use Rattle.text_scripts.specs.declared.script_read.script_fault.LineStop.TheVariants as stop
use Rattle.text_scripts.specs.declared.script_read.script_fault.ScriptFault.TheVariants as fault

-- ---- The lines of a script, one line on and at the end.
-- a line without a fault
pub line_said : (n next : ℕ) (d new : Draft) (all : List (List ℕ)) (l : List ℕ) (ls : List (List ℕ)) → all ≡ l ∷ ls
    → words_fault d (words l) ≡ None → next ≡ n + 1 → new ≡ after n d (words_said (words l))
    → said_from script_lines n d all ≡ said_from script_lines next new ls
line_said n next d new all l ls first none one is =
    line_sound script_lines n d new all l ls first none is
    ∙ ap (λ (m : ℕ). said_from script_lines m new ls) (sym one)

-- what is said of a text whose line has this fault first
pub line_told : (whole : Result Draft (ℕ × LineFault)) (n : ℕ) (kind : LineFault) → whole ≡ Err (n, kind)
    → script_of_draft whole ≡ Err (fault.Line n kind)
line_told whole n kind is = ap script_of_draft is

-- a line that was not read
pub line_stops : (whole : Result Draft (ℕ × LineFault)) (n : ℕ) (d : Draft) (all : List (List ℕ)) (l : List ℕ)
    (ls : List (List ℕ)) (f : ScriptFault) → whole ≡ said_from script_lines n d all → all ≡ l ∷ ls
    → (f ≡ fault.Memory) ⊎ IsToldAt n (words_fault d (words l)) f → (f ≡ fault.Memory) ⊎ (script_of_draft whole ≡ Err f)
line_stops whole n d all l ls f same first (inl short) = inl short
line_stops whole n d all l ls f same first (inr told) =
    inr (line_told whole n told.wrong (same ∙ line_faulty script_lines n d all l ls told.wrong first told.fails)
    ∙ ap Err (sym told.is))

-- the same whatever follows
pub lines_stop : (whole : List ℕ → Result Draft (ℕ × LineFault)) (n : ℕ) (d : Draft) (all : List ℕ → List (List ℕ))
    (l : List ℕ) (ls : List ℕ → List (List ℕ)) (f : ScriptFault)
    → ((more : List ℕ) → whole more ≡ said_from script_lines n d (all more))
    → ((more : List ℕ) → all more ≡ l ∷ ls more) → (f ≡ fault.Memory) ⊎ IsToldAt n (words_fault d (words l)) f
    → (f ≡ fault.Memory) ⊎ ((more : List ℕ) → script_of_draft (whole more) ≡ Err f)
lines_stop whole n d all l ls f same first (inl short) = inl short
lines_stop whole n d all l ls f same first (inr told) =
    inr (λ more. line_told (whole more) n told.wrong
    (same more ∙ line_faulty script_lines n d (all more) l (ls more) told.wrong (first more) told.fails)
    ∙ ap Err (sym told.is))

-- ---- after the last line
pub config_missing : (d : Draft) → d.next < 6 → missing_line d ≡ Some (Missing (awaited d.next))
config_missing d less = rw (lt-ltb d.next 6 less) refl

pub config_whole : (d : Draft) → 6 ≤ d.next → missing_line d ≡ None
config_whole d least = rw (le-ltb d.next 6 least) refl

pub whole_config : (d : Draft) → missing_line d ≡ None → 6 ≤ d.next
whole_config d none =
    elim (cases_lt d.next 6) [
      | inl less ↦ absurd (let bad : Some (Missing (awaited d.next)) ≡ None = sym (config_missing d less) ∙ none in cc)
      | inr least ↦ least
    ]

-- ---- the whole text
pub end_fails : (whole : Result Draft (ℕ × LineFault)) (n : ℕ) (d : Draft) (f : ScriptFault) →
    whole ≡ said_from script_lines n d [] → IsToldAt n (missing_line d) f → script_of_draft whole ≡ Err f
end_fails whole n d f same told =
    line_told whole n told.wrong (same ∙ end_missing script_lines n d [] told.wrong refl told.fails)
    ∙ ap Err (sym told.is)

pub end_tested : (whole : Result Draft (ℕ × LineFault)) (n : ℕ) (d : Draft) (script : Script) (f : Option ScriptFault) →
    whole ≡ said_from script_lines n d [] → missing_line d ≡ None → script ≡ script_in d
    → config_fault script.config ≡ f → script_of_draft whole ≡ script_unless f script
end_tested whole n d script f same none is tested =
    ap script_of_draft (same ∙ end_sound script_lines n d [] refl none)
    ∙ ap (λ (s : Script). script_unless (config_fault s.config) s) (sym is)
    ∙ ap (λ (found : Option ScriptFault). script_unless found script) tested

-- ---- a line by its number
-- one that wasn't read
pub stop_told : (n : ℕ) (found : Option LineFault) (why : LineStop) (f : ScriptFault) → f ≡ fault_at n why →
    IsStop why found → (f ≡ fault.Memory) ⊎ IsToldAt n found f
stop_told n found (stop.Fault wrong) f is fails = inr (record { wrong = wrong; fails = fails; is = is })
stop_told n found stop.Memory f is fails = inl is

-- the configuration isn't whole
pub missing_told : (n : ℕ) (d : Draft) (k : Keyword) → d.next < 6 → k ≡ awaited d.next →
    IsToldAt n (missing_line d) (fault.Line n (Missing k))
missing_told n d k less is = record {
  wrong = Missing k;
  fails = config_missing d less ∙ ap (λ (k : Keyword). Some (Missing k)) (sym is);
  is = refl;
}

-- ---- The first fault of a text, and the script that one without a fault says.
-- ---- the tests of a configuration tell no line
is_line : Option ScriptFault → Bool
is_line (Some (fault.Line n kind)) = true
is_line f = false

neither : (f later : Option ScriptFault) → is_line f ≡ false → is_line later ≡ false
    → is_line (fault_or f later) ≡ false
neither None later a b = b
neither (Some f) later a b = a

windows_line : (m i : ℕ) (ws : List Window) → is_line (windows_fault m i ws) ≡ false
unfolding is_line
windows_line m i [] = refl
windows_line m i (w ∷ ws) =
    elim (cases_Bool (nat_le (w.end - w.first) w.slip)) [
      | inl far ↦ rw far refl
      | inr near ↦ rw near (windows_line m (i + 1) ws)
    ]

slips_line : (m : ℕ) (lists : List (List Window)) → is_line (slip_fault m lists) ≡ false
unfolding is_line
slips_line m [] = refl
slips_line m (ws ∷ lists) =
    neither (windows_fault m 0 ws) (slip_fault (m + 1) lists) (windows_line m 0 ws) (slips_line (m + 1) lists)

spread_line : (c : Config) → is_line (spread_fault c) ≡ false
unfolding is_line
spread_line c =
    elim (cases_Bool (nat_le (greatest c.delays - least c.delays + greatest_slip c.windows + 1) c.ring))
    [ inl fits ↦ rw fits refl | inr wide ↦ rw wide refl ]

lag_line : (c : Config) → is_line (lag_fault c) ≡ false
unfolding is_line
lag_line c = elim (cases_Bool (nat_le (least_lag c) c.lag)) [ inl fits ↦ rw fits refl | inr short ↦ rw short refl ]

config_line : (c : Config) → is_line (config_fault c) ≡ false
config_line c =
    neither (slip_fault 0 c.windows) (fault_or (spread_fault c) (lag_fault c)) (slips_line 0 c.windows)
    (neither (spread_fault c) (lag_fault c) (spread_line c) (lag_line c))

pub no_line : (c : Config) (m : ℕ) (kind : LineFault) → config_fault c ≡ Some (fault.Line m kind) → ⊥
unfolding is_line
no_line c m kind e = (let bad : true ≡ false = sym (ap is_line e) ∙ config_line c in cc)

-- ---- the text
abbrev told : ℕ → LineFault → Result Draft (ℕ × LineFault)
told n kind = Err (n, kind)

abbrev refused : ScriptFault → Result Script ScriptFault
refused f = Err f

abbrev read : Script → Result Script ScriptFault
read script = Ok script

tested_line : (d : Draft) (m : ℕ) (kind : LineFault) (f : Option ScriptFault) → config_fault d.config ≡ f
    → script_unless f (script_in d) ≡ refused (fault.Line m kind) → ⊥
tested_line d m kind None is e = cc
tested_line d m kind (Some f) is e =
    no_line d.config m kind (is ∙ ap Some (let same : f ≡ fault.Line m kind = cc in same))

line_of : (r : Result Draft (ℕ × LineFault)) (m : ℕ) (kind : LineFault)
    → script_of_draft r ≡ refused (fault.Line m kind) → r ≡ told m kind
line_of (Err at) m kind e =
    let number : at.0 ≡ m = cc in
    let same : at.1 ≡ kind = cc in
    ap₂ (λ (n : ℕ) (k : LineFault). told n k) number same
line_of (Ok d) m kind e = absurd (tested_line d m kind (config_fault d.config) refl e)

pub told_line : (text : List ℕ) (m : ℕ) (kind : LineFault)
    → (script_of text ≡ refused (fault.Line m kind)) ↔ IsFirstFault script_lines 1 at_first (lines text) m kind
told_line text m kind = (
  λ e. (first_fault script_lines text m kind).0 (line_of (said_by script_lines text) m kind e),
  λ is. line_told (said_by script_lines text) m kind ((first_fault script_lines text m kind).1 is),
)

-- a draft that passes the tests
record Passes (d : Draft) (script : Script) : Type 0 where
  passes : config_fault d.config ≡ None
  is : script ≡ script_in d

passed_tests : (d : Draft) (script : Script) (f : Option ScriptFault) → config_fault d.config ≡ f
    → script_unless f (script_in d) ≡ read script → Passes d script
passed_tests d script None is e = record { passes = is; is = (let same : script ≡ script_in d = cc in same) }
passed_tests d script (Some f) is e = absurd cc

script_from : (text : List ℕ) (script : Script) (r : Result Draft (ℕ × LineFault)) → said_by script_lines text ≡ r
    → script_of_draft r ≡ read script
    → IsScriptOf (lines text) script
script_from text script (Err at) is e = absurd cc
script_from text script (Ok d) is e =
    let are = (all_said script_lines text d).0 is in
    let passes = passed_tests d script (config_fault d.config) refl e in
    record { now = d; sound = are.sound; whole = whole_config d are.whole; passes = passes.passes; is = passes.is }

script_back : (text : List ℕ) (script : Script) → IsScriptOf (lines text) script → script_of text ≡ read script
script_back text script is =
    ap script_of_draft ((all_said script_lines text is.now).1
    (record { sound = is.sound; whole = config_whole is.now is.whole }))
    ∙ ap (λ (f : Option ScriptFault). script_unless f (script_in is.now)) is.passes ∙ ap read (sym is.is)

pub said_script : (text : List ℕ) (script : Script) → (script_of text ≡ read script) ↔ IsScriptOf (lines text) script
said_script text script = (
  λ e. script_from text script (said_by script_lines text) refl e,
  λ is. script_back text script is,
)

-- ---- A piece of a text is read line by line.
-- what was read of a list, and what wasn't
pub split : (xs ys : List ℕ) (k : ℕ) → ys ≡ drop k xs → xs ≡ take k xs ++ ys
split xs ys k is = sym (take-append-drop k xs) ∙ ap (λ (t : List ℕ). take k xs ++ t) (sym is)

-- a piece, what is left of it before a line was read, and after it
module _ (piece rest later : List ℕ) (within : length rest ≤ length piece) (shorter : length later < length rest)
    (is : rest ≡ drop (length piece - length rest) piece) where
  front_more : take (length piece - length later) piece
      ≡ take (length piece - length rest) piece ++ take (length rest - length later) rest
  front_more =
      (let sum : length piece - length later ≡ length piece - length rest + (length rest - length later) =
      omega arith in
      ap (λ (k : ℕ). take k piece) sum)
      ∙ take-add (length piece - length rest) (length rest - length later) piece
      ∙ ap (λ (t : List ℕ). take (length piece - length rest) piece ++ take (length rest - length later) t) (sym is)

  pub rest_more : later ≡ drop (length rest - length later) rest → later ≡ drop (length piece - length later) piece
  rest_more next =
      next ∙ ap (drop (length rest - length later)) is
      ∙ drop-drop (length rest - length later) (length piece - length rest) piece
      ∙ (let sum : length piece - length rest + (length rest - length later) ≡ length piece - length later =
      omega arith in
      ap (λ (k : ℕ). drop k piece) sum)

  module _ (n₀ n : ℕ) (d₀ d : Draft) (l : List ℕ)
      (before : (more : List ℕ) → said_from script_lines n₀ d₀ (lines (take (length piece - length rest) piece ++ more))
      ≡ said_from script_lines n d (lines more))
      (whole : (more : List ℕ) → lines (take (length rest - length later) rest ++ more) ≡ l ∷ lines more) where
    -- one line more was read
    pub line_more : (next : ℕ) (new : Draft) → words_fault d (words l) ≡ None → next ≡ n + 1 →
        new ≡ after n d (words_said (words l)) → (more : List ℕ) →
        said_from script_lines n₀ d₀ (lines (take (length piece - length later) piece ++ more))
        ≡ said_from script_lines next new (lines more)
    line_more next new none one grown more =
        ap (λ (t : List ℕ). said_from script_lines n₀ d₀ (lines (t ++ more))) front_more
        ∙ ap (λ (t : List ℕ). said_from script_lines n₀ d₀ (lines t))
        (append_assoc (take (length piece - length rest) piece) (take (length rest - length later) rest) more)
        ∙ before (take (length rest - length later) rest ++ more)
        ∙ line_said n next d new (lines (take (length rest - length later) rest ++ more)) l (lines more) (whole more)
        none one grown

    -- or the line has a fault, whatever follows
    pub line_fails : (text : List ℕ) (f : ScriptFault) →
        ((more : List ℕ) → said_by script_lines (text ++ more) ≡ said_from script_lines n₀ d₀ (lines more)) →
        later ≡ drop (length rest - length later) rest →
        (f ≡ fault.Memory) ⊎ IsToldAt n (words_fault d (words l)) f →
        (f ≡ fault.Memory) ⊎ ((more : List ℕ) → script_of (text ++ (piece ++ more)) ≡ Err f)
    line_fails text f stands next told =
        lines_stop (λ more. said_by script_lines (text ++ (piece ++ more))) n d (λ more. lines (rest ++ more)) l
        (λ more. lines (later ++ more)) f
        (λ more. stands (piece ++ more)
        ∙ ap (λ (t : List ℕ). said_from script_lines n₀ d₀ (lines (t ++ more)))
        (split piece rest (length piece - length rest) is)
        ∙ ap (λ (t : List ℕ). said_from script_lines n₀ d₀ (lines t))
        (append_assoc (take (length piece - length rest) piece) rest more)
        ∙ before (rest ++ more))
        (λ more. ap (λ (t : List ℕ). lines (t ++ more)) (split rest later (length rest - length later) next)
        ∙ ap lines (append_assoc (take (length rest - length later) rest) later more)
        ∙ whole (later ++ more))
        told

-- the text that was read, and the whole lines of a piece
pub piece_read : (text piece : List ℕ) (k n₀ n : ℕ) (d₀ d : Draft) →
    ((more : List ℕ) → said_by script_lines (text ++ more) ≡ said_from script_lines n₀ d₀ (lines more)) →
    ((more : List ℕ) → said_from script_lines n₀ d₀ (lines (take k piece ++ more))
    ≡ said_from script_lines n d (lines more)) →
    (more : List ℕ) → said_by script_lines ((text ++ take k piece) ++ more) ≡ said_from script_lines n d (lines more)
piece_read text piece k n₀ n d₀ d stands read more =
    ap (said_by script_lines) (append_assoc text (take k piece) more) ∙ stands (take k piece ++ more) ∙ read more

-- all of a text but a rest, of which some was read
pub follows_on : (reader new : ScriptReader) (rest left all : List ℕ) (k : ℕ) (follows : Follows reader rest all) →
    left ≡ drop k rest → ReaderStands new (follows.text ++ take k rest) → Follows new left all
follows_on reader new rest left all k follows is stands = record {
  text = follows.text ++ take k rest;
  is = follows.is ∙ ap (λ (t : List ℕ). follows.text ++ t) (split rest left k is)
      ∙ sym (append_assoc follows.text (take k rest) left);
  stands = stands;
}

-- or that has a fault, whatever follows
pub fails_on : {reader : ScriptReader} (rest all : List ℕ) (f : ScriptFault) (follows : Follows reader rest all) →
    (f ≡ fault.Memory) ⊎ ((more : List ℕ) → script_of (follows.text ++ (rest ++ more)) ≡ Err f) →
    (f ≡ fault.Memory) ⊎ ((more : List ℕ) → script_of (all ++ more) ≡ Err f)
fails_on rest all f follows told = elim told [
  | inl short ↦ inl short
  | inr fails ↦ inr (λ more. ap (λ (t : List ℕ). script_of (t ++ more)) follows.is
      ∙ ap script_of (append_assoc follows.text rest more) ∙ fails more)
]

-- ---- What lines without a fault say is a draft.
-- ---- a draft line by line
sound_draft : (ls : List (List ℕ)) (n : ℕ) (d now : Draft) → IsDraft d → AreSound script_lines n d ls now → IsDraft now
unfolding AreSound
sound_draft [] n d now is sound = subst IsDraft sound is
sound_draft (l ∷ ls) n d now is sound =
    sound_draft ls (n + 1) (after n d (words_said (words l))) now
    (IsDraft-after n d (words_said (words l)) is (fits_words d (words l) is sound.0)) sound.1

pub valid_script : (text : List ℕ) (script : Script) → script_of text ≡ Ok script → IsValid script
valid_script text script said =
    let is = (said_script text script).0 said in
    subst IsValid (sym is.is)
    (IsValid-draft is.now (sound_draft (lines text) 1 at_first is.now IsDraft-first is.sound) is.whole is.passes)

pub valid_text : (text : List ℕ) (script : Script) → length text ≤ 67108864 → script_of text ≡ Ok script →
    IsValid script
valid_text text script short said = valid_script text script said

pub few_lost_text : (text : List ℕ) (script : Script) → script_of text ≡ Ok script → HasFewLosses script
few_lost_text text script said =
    let is = (said_script text script).0 said in
    let read = sound_draft (lines text) 1 at_first is.now IsDraft-first is.sound in
    subst HasFewLosses (sym is.is) read.config.few_lost
