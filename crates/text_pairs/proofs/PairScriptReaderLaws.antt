-- A PairReader reads a text of two scripts line by line (Halves): its first fault, its limits, a valid pair.
use Rattle.std.proofs.Common.{◌≡◌, ◌↔◌, ℕ, Bool, true, false, not, nat_lt, ◌||◌, ◌==◌, length, List, ap, ap₂, sym, ◌∙◌}
use Rattle.std.proofs.Common.{refl, Option, None, Some, Result, Ok, Err, option_map, ◌⊎◌, ◌+◌, [], ◌∷◌, inl, inr}
use Rattle.std.proofs.Common.{if◌then◌else◌, IfOk, IfErr, is_none, subst, ◌≢◌, length-append, arith, ◌≤◌, eqb-true}
use Rattle.std.proofs.Common.{ltb-false, ◌-◌, ◌<◌, ◌++◌, take, drop, append_assoc, length-take, length-drop, take-add}
use Rattle.std.proofs.Common.{drop-drop, take_all, append-nil, IfSome, unwrap_or}
use Rattle.std.specs.Option.{option_or}
use Rattle.std.specs.Str.Lines.{lines}
use Rattle.text_lines.specs.Fields.{where_true}
use Rattle.text_lines.specs.Language.{said_by, said_from}
use Rattle.text_lines.specs.FirstFault.{IsFirstFault, AreSound}
use Rattle.text_lines.proofs.LineLanguageAndTableLaws.{first_fault, all_said}
use Rattle.law_model.specs.declared.script_types.Script.{Script}
use Rattle.text_scripts.specs.declared.script_read.script_fault.ScriptFault.{ScriptFault}
use Rattle.text_scripts.specs.script_read.Script.{config_fault, missing_line, script_in}
use Rattle.text_pairs.specs.declared.script_pair.PairFault.{PairFault}
use Rattle.text_pairs.specs.declared.script_pair.ScriptPair.{ScriptPair}
use Rattle.text_pairs.specs.PairTextLines.{Halves, HalfFault, of_script, no_division, nothing_said}
use Rattle.text_pairs.specs.PairTextLines.{pair_lines, half_fault, half_after, divides, divided}
use Rattle.text_pairs.specs.PairTextLines.{half_missing}
use Rattle.text_pairs.specs.PairOfText.{alone_fault, fault_at, least_of, limits_fault, pair_in, pair_unless}
use Rattle.text_pairs.specs.PairOfText.{pair_of_halves, pair_of, unlike_fault}
use Rattle.text_lines.specs.WordsOfLine.{words}
use Rattle.text_lines.proofs.LineLanguageAndTableLaws.{line_faulty, line_sound, end_missing, end_sound}
use Rattle.text_scripts.specs.declared.script_read.script_draft.Draft.{Draft}
use Rattle.text_scripts.specs.declared.script_read.script_fault.LineFault.{LineFault}
use Rattle.text_scripts.specs.script_read.Statements.{words_fault, words_said, after, at_first}
use Rattle.text_scripts.specs.script_read.ScriptInPieces.{IsAt, IsToldAt, next_number, drafted, IsUntested}
use Rattle.text_scripts.specs.declared.script_read.script_reader.ScriptReader.{ScriptReader}
use Rattle.text_pairs.specs.declared.pair_reader.PairReader.{PairReader}
use Rattle.text_pairs.specs.Pieces.{no_memory, line_at, halves_of, said_after, IsPairAt, IsPairToldAt}
use Rattle.text_pairs.specs.Pieces.{FollowsIn, HasPairRoom, StandsAt}
use Rattle.text_scripts.specs.declared.script_read.script_fault.ScriptFault.TheVariants.{Line, Slip, Spread, Lag}
use Rattle.text_scripts.specs.declared.script_read.script_fault.ScriptFault.TheVariants.{Memory}
use Rattle.command_parts.specs.Common.{StopsAt, Follows}
use Rattle.command_parts.specs.declared.stop_and_status.Stop.{Stop}
use Rattle.command_parts.specs.TextInPieces.{HasNumbersLeft}
use Rattle.command_parts.proofs.SourceTextAndStopLaws.{stops_as, stops_short}
use Rattle.text_pairs.specs.Faults.{pair_why, pair_fault_text}
use Rattle.text_pairs.specs.Inputs.{pair_told, IsPairRefused, ReadsPair}
use Rattle.std.proofs.lemmas.Bool.{not-false, or_parts, cases_Bool}
use Rattle.text_lines.proofs.TextLineAndWordLaws.{or_none, where_none, map_none}
use Rattle.law_pair.specs.Common.{IsPair}
use Rattle.law_pair.specs.declared.pair_events.Way.{Way}
use Rattle.law_pair.specs.declared.pair_events.Way.TheVariants.{There, Back}
use Rattle.text_scripts.proofs.ScriptLineAndFirstFaultLaws.{split}
use Rattle.text_lines.specs.Cut.{Lacks}
use Rattle.text_lines.proofs.TextLineAndWordLaws.{lines_last}
use Rattle.text_scripts.specs.script_read.Drafts.{IsDraft}
use Rattle.text_scripts.proofs.ScriptLineAndFirstFaultLaws.{whole_config}
use Rattle.text_scripts.proofs.StatementAndWordFaultLaws.{fits_words}
use Rattle.text_scripts.proofs.ScriptDraftGrowthLaws.{IsDraft-first, IsDraft-after, IsUntested-draft}
use Rattle.text_scripts.specs.declared.script_read.script_fault.ScriptFault.TheVariants as script
use Rattle.text_pairs.specs.declared.script_pair.PairFault.TheVariants as fault
use Rattle.command_parts.specs.declared.stop_and_status.Stop.TheVariants as stop

-- ---- The first fault of a text of two scripts is that of its language.
-- ---- the tests of scripts as a whole tell no line
is_line : Option PairFault → Bool
is_line None = false
is_line (Some (fault.Script (script.Line n wrong))) = true
is_line (Some (fault.Script (script.Slip line window slip))) = false
is_line (Some (fault.Script (script.Spread slow fast slip ring))) = false
is_line (Some (fault.Script (script.Lag lag least slow slip))) = false
is_line (Some (fault.Script script.Memory)) = false
is_line (Some (fault.Undivided n)) = true
is_line (Some (fault.Limit way wrong)) = false
is_line (Some (fault.Lost way)) = false
is_line (Some (fault.Events way)) = false
is_line (Some (fault.Lag there back least)) = false
is_line (Some (fault.Ticks there back)) = false
is_line (Some (fault.Runs runs)) = false

neither : (f later : Option PairFault) → is_line f ≡ false → is_line later ≡ false →
    is_line (option_or f later) ≡ false
neither None later a b = b
neither (Some f) later a b = a

where_line : (found : Bool) (f : PairFault) → is_line (Some f) ≡ false → is_line (where_true found f) ≡ false
unfolding is_line
where_line true f none = none
where_line false f none = refl

limit_line : (way : Way) (found : Option ScriptFault) → is_line (option_map (fault.Limit way) found) ≡ false
unfolding is_line
limit_line way None = refl
limit_line way (Some wrong) = refl

alone_line : (there back : Script) → is_line (alone_fault there back) ≡ false
unfolding is_line
alone_line there back =
    neither _ _ (where_line (nat_lt 0 (length there.config.lost)) (fault.Lost There) refl)
    (neither _ _ (where_line (nat_lt 0 (length back.config.lost)) (fault.Lost Back) refl)
    (neither _ _ (where_line (nat_lt 0 (length there.events)) (fault.Events There) refl)
    (where_line (nat_lt 0 (length back.events)) (fault.Events Back) refl)))

unlike_line : (there back : Script) → is_line (unlike_fault there back) ≡ false
unfolding is_line
unlike_line there back =
    neither _ _ (where_line (not (there.config.lag == back.config.lag) || nat_lt 256 there.config.lag)
    (fault.Lag there.config.lag back.config.lag (least_of there back)) refl)
    (where_line (not (there.config.ticks == back.config.ticks)) (fault.Ticks there.config.ticks back.config.ticks)
    refl)

limits_line : (pair : ScriptPair) → is_line (limits_fault pair) ≡ false
limits_line pair =
    neither _ _ (limit_line There (config_fault pair.there.config))
    (neither _ _ (limit_line Back (config_fault pair.back.config))
    (neither _ _ (alone_line pair.there pair.back) (unlike_line pair.there pair.back)))

-- ---- what is told of a line
abbrev refused : PairFault → Result ScriptPair PairFault
refused f = Err f

is_told : (n : ℕ) (wrong : HalfFault) → is_line (Some (fault_at n wrong)) ≡ true
unfolding is_line
is_told n (of_script wrong) = refl
is_told n no_division = refl

untold : (pair : ScriptPair) (found : Option PairFault) (n : ℕ) (wrong : HalfFault) → is_line found ≡ false →
    pair_unless found pair ≡ refused (fault_at n wrong) → ⊥
untold pair None n wrong none e = cc
untold pair (Some f) n wrong none e =
    let same : f ≡ fault_at n wrong = cc in
    let bad : true ≡ false = sym (is_told n wrong) ∙ ap (λ (f : PairFault). is_line (Some f)) (sym same) ∙ none in
    cc

abbrev at_line : ℕ → HalfFault → ℕ × HalfFault
at_line n wrong = (n, wrong)

same_line : (m n : ℕ) (one other : HalfFault) → fault_at m one ≡ fault_at n other → at_line m one ≡ at_line n other
same_line m n (of_script one) (of_script other) e =
    let number : m ≡ n = cc in
    let wrong : one ≡ other = cc in
    ap₂ at_line number (ap of_script wrong)
same_line m n (of_script one) no_division e = absurd cc
same_line m n no_division (of_script other) e = absurd cc
same_line m n no_division no_division e =
    let number : m ≡ n = cc in
    ap (λ (k : ℕ). at_line k no_division) number

told : ℕ → HalfFault → Result Halves (ℕ × HalfFault)
told n wrong = Err (n, wrong)

told_by : (said : Result Halves (ℕ × HalfFault)) (n : ℕ) (wrong : HalfFault) →
    pair_of_halves said ≡ refused (fault_at n wrong) → said ≡ told n wrong
unfolding told
told_by (Err at) n wrong e =
    let same : fault_at at.0 at.1 ≡ fault_at n wrong = cc in
    ap (λ (at : ℕ × HalfFault). Err at) (same_line at.0 n at.1 wrong same)
told_by (Ok h) n wrong e =
    absurd (untold (pair_in h) (limits_fault (pair_in h)) n wrong (limits_line (pair_in h)) e)

pub told_line : (text : List ℕ) (n : ℕ) (wrong : HalfFault) →
    (pair_of text ≡ Err (fault_at n wrong)) ↔ IsFirstFault pair_lines 1 nothing_said (lines text) n wrong
unfolding told
told_line text n wrong = (
  λ e. (first_fault pair_lines text n wrong).0 (told_by (said_by pair_lines text) n wrong e),
  λ is. ap pair_of_halves ((first_fault pair_lines text n wrong).1 is),
)

-- ---- The lines of two scripts, one line on and at the end.
-- what is said, by its parts
abbrev half : Option Script → Draft → Halves
half there d = record { there = there; now = d }

abbrev both : Script → Script → ScriptPair
both there back = record { there = there; back = back }

-- the line that divides
pub divide_fault : (h : Halves) (ws : List (List ℕ)) → true ≡ divides h ws →
    option_map of_script (missing_line h.now) ≡ half_fault h ws
divide_fault h ws splits =
    ap (λ (b : Bool). option_map of_script (if b then missing_line h.now else words_fault h.now ws)) splits

pub divide_after : (n : ℕ) (h : Halves) (ws : List (List ℕ)) → true ≡ divides h ws → divided h.now ≡ half_after n h ws
divide_after n h ws splits =
    ap (λ (b : Bool). if b then divided h.now else half h.there (after n h.now (words_said ws))) splits

-- any other one
pub plain_fault : (h : Halves) (ws : List (List ℕ)) → false ≡ divides h ws →
    option_map of_script (words_fault h.now ws) ≡ half_fault h ws
plain_fault h ws stays =
    ap (λ (b : Bool). option_map of_script (if b then missing_line h.now else words_fault h.now ws)) stays

pub plain_after : (n : ℕ) (h : Halves) (ws : List (List ℕ)) → false ≡ divides h ws →
    half h.there (after n h.now (words_said ws)) ≡ half_after n h ws
plain_after n h ws stays =
    ap (λ (b : Bool). if b then divided h.now else half h.there (after n h.now (words_said ws))) stays

-- a fault of a script
pub script_told : (n : ℕ) (found : Option LineFault) (f : ScriptFault) → IsToldAt n found f →
    IsPairToldAt n (option_map of_script found) (fault.Script f)
script_told n found f told = record {
  wrong = of_script told.wrong;
  fails = ap (option_map of_script) told.fails;
  is = ap fault.Script told.is;
}

-- any other line by itself
pub plain_stopped : (n : ℕ) (h : Halves) (ws : List (List ℕ)) (f : ScriptFault) → false ≡ divides h ws →
    (f ≡ script.Memory) ⊎ IsToldAt n (words_fault h.now ws) f →
    (fault.Script f ≡ no_memory) ⊎ IsPairToldAt n (half_fault h ws) (fault.Script f)
plain_stopped n h ws f stays stopped = elim stopped [
  | inl short ↦ inl (ap fault.Script short)
  | inr told ↦ inr (subst (λ (o : Option HalfFault). IsPairToldAt n o (fault.Script f)) (plain_fault h ws stays)
      (script_told n (words_fault h.now ws) f told))
]

-- what holds of each answer
pub if_ok : {T E : Type 0} (r : Result T E) (P Q : T → Type 0) → IfOk r P → ((x : T) → P x → Q x) → IfOk r Q
if_ok (Ok x) P Q is on = on x is
if_ok (Err e) P Q is on = is

pub if_both : {T E : Type 0} (r : Result T E) (P Q R : T → Type 0) → IfOk r P → IfOk r Q →
    ((x : T) → P x → Q x → R x) → IfOk r R
if_both (Ok x) P Q R one other on = on x one other
if_both (Err e) P Q R one other on = one

pub if_err : {T E : Type 0} (r : Result T E) (P Q : E → Type 0) → IfErr r P → ((e : E) → P e → Q e) → IfErr r Q
if_err (Ok x) P Q is on = is
if_err (Err e) P Q is on = on e is

-- ---- what is said
-- before the first line
pub begins : (first : ScriptReader) → IsAt first 1 at_first → (more : List ℕ) →
    said_by pair_lines more ≡ said_from pair_lines (next_number first) (half None (drafted first)) (lines more)
begins first at more =
    ap₂ (λ (n : ℕ) (d : Draft). said_from pair_lines n (half None d) (lines more)) (sym at.number) (sym at.draft)

-- behind the line that divides
pub divided_at : (there : Script) (later : ScriptReader) (d : Draft) → there ≡ script_in d →
    drafted later ≡ at_first → half (Some there) (drafted later) ≡ divided d
divided_at there later d is at = ap₂ (λ (s : Script) (x : Draft). half (Some s) x) is at

-- behind any other one
pub plain_at : (n : ℕ) (h : Halves) (ws : List (List ℕ)) (next : ScriptReader) → false ≡ divides h ws →
    drafted next ≡ after n h.now (words_said ws) → half h.there (drafted next) ≡ half_after n h ws
plain_at n h ws next stays is = ap (λ (d : Draft). half h.there d) is ∙ plain_after n h ws stays

-- one line on
pub one_more : (reader next : PairReader) (l text more : List ℕ) → lines text ≡ l ∷ lines more →
    half_fault (halves_of reader) (words l) ≡ None →
    IsPairAt next (line_at reader + 1) (half_after (line_at reader) (halves_of reader) (words l)) →
    said_after reader text ≡ said_after next more
one_more reader next l text more first none at =
    line_sound pair_lines (line_at reader) (halves_of reader)
    (half_after (line_at reader) (halves_of reader) (words l)) (lines text) l (lines more) first none refl
    ∙ ap₂ (λ (n : ℕ) (h : Halves). said_from pair_lines n h (lines more)) (sym at.number) (sym at.halves)

-- a line with a fault
pub one_fails : (reader : PairReader) (l text : List ℕ) (ls : List (List ℕ)) (f : PairFault) → lines text ≡ l ∷ ls →
    IsPairToldAt (line_at reader) (half_fault (halves_of reader) (words l)) f →
    pair_of_halves (said_after reader text) ≡ Err f
one_fails reader l text ls f first told =
    ap pair_of_halves
    (line_faulty pair_lines (line_at reader) (halves_of reader) (lines text) l ls told.wrong first told.fails)
    ∙ ap Err (sym told.is)

-- after the last line
no_lines : lines [] ≡ []
no_lines = refl

pub end_fails : (reader : PairReader) (f : PairFault) →
    IsPairToldAt (line_at reader) (half_missing (halves_of reader)) f →
    pair_of_halves (said_after reader []) ≡ Err f
end_fails reader f told =
    ap pair_of_halves
    (end_missing pair_lines (line_at reader) (halves_of reader) (lines []) told.wrong no_lines told.fails)
    ∙ ap Err (sym told.is)

pub end_said : (reader : PairReader) (pair : ScriptPair) (found : Option PairFault) →
    half_missing (halves_of reader) ≡ None → pair ≡ pair_in (halves_of reader) → found ≡ limits_fault pair →
    pair_of_halves (said_after reader []) ≡ pair_unless found pair
end_said reader pair found whole is tested =
    ap pair_of_halves (end_sound pair_lines (line_at reader) (halves_of reader) (lines []) no_lines whole)
    ∙ ap (λ (p : ScriptPair). pair_unless (limits_fault p) p) (sym is)
    ∙ ap (λ (f : Option PairFault). pair_unless f pair) (sym tested)

-- ---- at the end
abbrev missing_with : Option Script → Option LineFault → Option HalfFault
missing_with there found = option_or (option_map of_script found) (where_true (is_none there) no_division)

pub missing_told : (n : ℕ) (h : Halves) (f : ScriptFault) → IsToldAt n (missing_line h.now) f →
    IsPairToldAt n (half_missing h) (fault.Script f)
missing_told n h f told = record {
  wrong = of_script told.wrong;
  fails = ap (missing_with h.there) told.fails;
  is = ap fault.Script told.is;
}

pub undivided_told : (n : ℕ) (h : Halves) → missing_line h.now ≡ None → h.there ≡ None →
    IsPairToldAt n (half_missing h) (fault.Undivided n)
undivided_told n h whole none = record {
  wrong = no_division;
  fails = ap₂ missing_with none whole;
  is = refl;
}

pub divided_whole : (h : Halves) (there : Script) → missing_line h.now ≡ None → h.there ≡ Some there →
    half_missing h ≡ None
divided_whole h there whole some = ap₂ missing_with some whole

-- of a script there, whatever stood for it
pub same_back : (there back other : Script) → back ≡ other → both there back ≡ both there other
same_back there back other is = ap (both there) is

-- ---- A reader of two scripts as any reader of a text in pieces.
pub as_pair : (reader : PairReader) (rest all : List ℕ) → Follows ReadsPair reader rest all →
    FollowsIn reader rest all
as_pair reader rest all follows = record { text = follows.text; is = follows.is; stands = follows.reads.stands }

pub room_for : (reader : PairReader) (rest : List ℕ) → HasNumbersLeft ReadsPair reader rest → HasPairRoom reader (length rest)
room_for reader rest has =
    let it = has.follows in
    omega (arith, has.fits, it.reads.stands.count, ap (λ (t : List ℕ). length t) it.is, length-append it.text rest)

-- ---- a text that doesn't say two scripts
memory_or : (own : PairFault) → (own ≡ no_memory) ⊎ (own ≢ no_memory)
memory_or (fault.Script (Line n wrong)) = inr (λ e. cc)
memory_or (fault.Script (Slip l w x)) = inr (λ e. cc)
memory_or (fault.Script (Spread a b c d)) = inr (λ e. cc)
memory_or (fault.Script (Lag a b x y)) = inr (λ e. cc)
memory_or (fault.Script Memory) = inl refl
memory_or (fault.Undivided n) = inr (λ e. cc)
memory_or (fault.Limit way wrong) = inr (λ e. cc)
memory_or (fault.Lost way) = inr (λ e. cc)
memory_or (fault.Events way) = inr (λ e. cc)
memory_or (fault.Lag a b c) = inr (λ e. cc)
memory_or (fault.Ticks a b) = inr (λ e. cc)
memory_or (fault.Runs n) = inr (λ e. cc)

pub stops_pair : {T : Type 0} (of : Result T PairFault) (own : PairFault) (why : Stop) →
    (own ≡ no_memory) ⊎ (of ≡ Err own) → (own ≢ no_memory → IsPairRefused own why) →
    (own ≡ no_memory → why ≡ stop.Memory) → StopsAt (pair_told of) why
stops_pair of own why either for lack = elim (memory_or own) [
  | inl short ↦ stops_short (pair_told of) why (lack short)
  | inr other ↦ elim either [
    | inl short ↦ absurd (other short)
    | inr says ↦ stops_as (pair_told of) (pair_why own) (pair_fault_text own) why (ap pair_told says) (for other)
  ]
]

pub said-pair : (of : Result ScriptPair PairFault) (pair : ScriptPair) → pair_told of ≡ Ok pair → of ≡ Ok pair
said-pair (Ok own) pair says = let same : own ≡ pair = cc in ap Ok same
said-pair (Err own) pair says = absurd cc

-- ---- Two scripts that pass all tests make a pair.
empty : {X : Type 0} (xs : List X) → nat_lt 0 (length xs) ≡ false → xs ≡ []
empty [] none = refl
empty (x ∷ xs) none = absurd (omega (arith, ltb-false 0 (length (x ∷ xs)) none))

same : (n m : ℕ) → not (n == m) ≡ false → n ≡ m
same n m is = eqb-true n m (not-false (n == m) is)

-- both together
record Fits (there back : Script) : Type 0 where
  lost : (there.config.lost ≡ []) × (back.config.lost ≡ [])
  events : (there.events ≡ []) × (back.events ≡ [])
  lag : (there.config.lag ≡ back.config.lag) × (there.config.lag ≤ 256)
  ticks : there.config.ticks ≡ back.config.ticks

-- what is found of each of these
some_found : {X : Type 0} (xs : List X) (f : PairFault) (later : Option PairFault) →
    option_or (where_true (nat_lt 0 (length xs)) f) later ≡ None → (xs ≡ []) × (later ≡ None)
some_found xs f later none =
    let found = or_none (where_true (nat_lt 0 (length xs)) f) later none in
    (empty xs (where_none (nat_lt 0 (length xs)) f found.0), found.1)

abbrev lag_found : Script → Script → Option PairFault
lag_found there back =
    where_true (not (there.config.lag == back.config.lag) || nat_lt 256 there.config.lag)
    (fault.Lag there.config.lag back.config.lag (least_of there back))

abbrev ticks_found : Script → Script → Option PairFault
ticks_found there back =
    where_true (not (there.config.ticks == back.config.ticks)) (fault.Ticks there.config.ticks back.config.ticks)

fitting : (there back : Script) → alone_fault there back ≡ None → unlike_fault there back ≡ None → Fits there back
fitting there back alone unlike =
    let events_back = where_true (nat_lt 0 (length back.events)) (fault.Events Back) in
    let events = option_or (where_true (nat_lt 0 (length there.events)) (fault.Events There)) events_back in
    let lost_back = option_or (where_true (nat_lt 0 (length back.config.lost)) (fault.Lost Back)) events in
    let lost = some_found there.config.lost (fault.Lost There) lost_back alone in
    let also_lost = some_found back.config.lost (fault.Lost Back) events lost.1 in
    let told = some_found there.events (fault.Events There) events_back also_lost.1 in
    let also_told = empty back.events (where_none (nat_lt 0 (length back.events)) (fault.Events Back) told.1) in
    let lag = or_none (lag_found there back) (ticks_found there back) unlike in
    let lags = or_parts (not (there.config.lag == back.config.lag)) (nat_lt 256 there.config.lag)
    (where_none (not (there.config.lag == back.config.lag) || nat_lt 256 there.config.lag)
    (fault.Lag there.config.lag back.config.lag (least_of there back)) lag.0) in
    record {
      lost = (lost.0, also_lost.0);
      events = (told.0, also_told);
      lag = (same there.config.lag back.config.lag lags.0, ltb-false 256 there.config.lag lags.1);
      ticks = same there.config.ticks back.config.ticks
          (where_none (not (there.config.ticks == back.config.ticks))
          (fault.Ticks there.config.ticks back.config.ticks) lag.1);
    }

pub pair_fits : (pair : ScriptPair) → IsUntested pair.there → IsUntested pair.back → limits_fault pair ≡ None →
    IsPair pair.there pair.back
pair_fits pair there back none =
    let alone = alone_fault pair.there pair.back in
    let unlike = unlike_fault pair.there pair.back in
    let first = or_none (option_map (fault.Limit There) (config_fault pair.there.config))
    (option_or (option_map (fault.Limit Back) (config_fault pair.back.config)) (option_or alone unlike)) none in
    let second = or_none (option_map (fault.Limit Back) (config_fault pair.back.config)) (option_or alone unlike)
    first.1 in
    let third = or_none alone unlike second.1 in
    let fits = fitting pair.there pair.back third.0 third.1 in
    record {
      there_way = record {
        valid = there.valid (map_none (fault.Limit There) (config_fault pair.there.config) first.0);
        near = fits.lag.1;
        lost = fits.lost.0;
        events = fits.events.0;
      };
      back_way = record {
        valid = back.valid (map_none (fault.Limit Back) (config_fault pair.back.config) second.0);
        near = omega (arith, fits.lag.0, fits.lag.1);
        lost = fits.lost.1;
        events = fits.events.1;
      };
      lag = fits.lag.0;
      ticks = fits.ticks;
    }

-- ---- A piece of a text is read line by line.
-- memory was short, or what follows from a fault
or_then : {A B C : Type 0} → A ⊎ B → (B → C) → A ⊎ C
or_then (inl a) f = inl a
or_then (inr b) f = inr (f b)

-- a piece, what is left of it before a line was read, and after it
module _ (piece rest later : List ℕ) (within : length rest ≤ length piece) (shorter : length later < length rest)
    (is : rest ≡ drop (length piece - length rest) piece) where
  front_more : take (length piece - length later) piece
      ≡ take (length piece - length rest) piece ++ take (length rest - length later) rest
  front_more =
      (let sum : length piece - length later ≡ length piece - length rest + (length rest - length later) =
      omega arith in
      ap (λ (k : ℕ). take k piece) sum)
      ∙ take-add (length piece - length rest) (length rest - length later) piece
      ∙ ap (λ (t : List ℕ). take (length piece - length rest) piece ++ take (length rest - length later) t) (sym is)

  pub rest_more : later ≡ drop (length rest - length later) rest → later ≡ drop (length piece - length later) piece
  rest_more next =
      next ∙ ap (drop (length rest - length later)) is
      ∙ drop-drop (length rest - length later) (length piece - length rest) piece
      ∙ (let sum : length piece - length rest + (length rest - length later) ≡ length piece - length later =
      omega arith in
      ap (λ (k : ℕ). drop k piece) sum)

  module _ (first reader : PairReader) (l : List ℕ)
      (before : (more : List ℕ) → said_after first (take (length piece - length rest) piece ++ more)
      ≡ said_after reader more)
      (whole : (more : List ℕ) → lines (take (length rest - length later) rest ++ more) ≡ l ∷ lines more) where
    -- one line more was read
    pub line_more : (next : PairReader) → half_fault (halves_of reader) (words l) ≡ None →
        IsPairAt next (line_at reader + 1) (half_after (line_at reader) (halves_of reader) (words l)) → (more : List ℕ) →
        said_after first (take (length piece - length later) piece ++ more) ≡ said_after next more
    line_more next none at more =
        ap (λ (t : List ℕ). said_after first (t ++ more)) front_more
        ∙ ap (said_after first)
        (append_assoc (take (length piece - length rest) piece) (take (length rest - length later) rest) more)
        ∙ before (take (length rest - length later) rest ++ more)
        ∙ one_more reader next l (take (length rest - length later) rest ++ more) more (whole more) none at

    -- or the line has a fault, whatever follows
    pub line_fails : (f : PairFault) → later ≡ drop (length rest - length later) rest →
        (f ≡ no_memory) ⊎ IsPairToldAt (line_at reader) (half_fault (halves_of reader) (words l)) f →
        (f ≡ no_memory) ⊎ ((more : List ℕ) → pair_of_halves (said_after first (piece ++ more)) ≡ Err f)
    line_fails f next stopped = or_then stopped (λ told more.
        ap (λ (t : List ℕ). pair_of_halves (said_after first (t ++ more)))
        (split piece rest (length piece - length rest) is)
        ∙ ap (λ (t : List ℕ). pair_of_halves (said_after first t))
        (append_assoc (take (length piece - length rest) piece) rest more)
        ∙ ap pair_of_halves (before (rest ++ more))
        ∙ one_fails reader l (rest ++ more) (lines (later ++ more)) f
        (ap (λ (t : List ℕ). lines (t ++ more)) (split rest later (length rest - length later) next)
        ∙ ap lines (append_assoc (take (length rest - length later) rest) later more) ∙ whole (later ++ more)) told)

-- ---- the end of a text
-- what is left behind the whole lines
pub rest_said : (first reader : PairReader) (piece last : List ℕ) (k : ℕ) → last ≡ drop k piece →
    ((more : List ℕ) → said_after first (take k piece ++ more) ≡ said_after reader more) →
    said_after first piece ≡ said_after reader last
rest_said first reader piece last k is read = ap (said_after first) (split piece last k is) ∙ read last

pub tail_is : (xs : List ℕ) (k n : ℕ) → length xs - k ≤ n → take n (drop k xs) ≡ drop k xs
tail_is xs k n within = take_all n (drop k xs) (omega (arith, within, length-drop k xs))

-- or a line without an end
pub last_line : (last : List ℕ) → Lacks 10 last → 0 < length last → lines last ≡ last ∷ lines []
last_line last lacks some = lines_last last 0 refl lacks some

pub last_fails : (reader : PairReader) (last : List ℕ) (f : PairFault) → Lacks 10 last → 0 < length last →
    (f ≡ no_memory) ⊎ IsPairToldAt (line_at reader) (half_fault (halves_of reader) (words last)) f →
    (f ≡ no_memory) ⊎ (pair_of_halves (said_after reader last) ≡ Err f)
last_fails reader last f lacks some stopped =
    or_then stopped (λ told. one_fails reader last last (lines []) f (last_line last lacks some) told)

-- what holds of the whole text as well
pub tail_fails : (first reader : PairReader) (piece last : List ℕ) (f : PairFault) →
    (f ≡ no_memory) ⊎ (pair_of_halves (said_after reader last) ≡ Err f) →
    said_after first piece ≡ said_after reader last →
    (f ≡ no_memory) ⊎ (pair_of_halves (said_after first piece) ≡ Err f)
tail_fails first reader piece last f told said = or_then told (λ fails. ap pair_of_halves said ∙ fails)

-- a fault that stays whatever follows is there where nothing does
pub front_fails : (first : PairReader) (piece : List ℕ) (f : PairFault) →
    (f ≡ no_memory) ⊎ ((more : List ℕ) → pair_of_halves (said_after first (piece ++ more)) ≡ Err f) →
    (f ≡ no_memory) ⊎ (pair_of_halves (said_after first piece) ≡ Err f)
front_fails first piece f told = or_then told (λ fails.
    ap (λ (t : List ℕ). pair_of_halves (said_after first t)) (sym (append-nil piece)) ∙ fails [])

-- ---- a text in pieces
-- all of a text but a rest, of which some was read
pub follows_on : (reader next : PairReader) (rest left all : List ℕ) (k : ℕ) (follows : FollowsIn reader rest all) →
    left ≡ drop k rest → k ≤ length rest → line_at next ≤ line_at reader + k →
    ((more : List ℕ) → said_after reader (take k rest ++ more) ≡ said_after next more) → FollowsIn next left all
follows_on reader next rest left all k follows is within count said = record {
  text = follows.text ++ take k rest;
  is = follows.is ∙ ap (λ (t : List ℕ). follows.text ++ t) (split rest left k is)
      ∙ sym (append_assoc follows.text (take k rest) left);
  stands = record {
    said = λ more. ap (said_by pair_lines) (append_assoc follows.text (take k rest) more)
        ∙ follows.stands.said (take k rest ++ more) ∙ said more;
    count = omega (
      arith,
      follows.stands.count,
      count,
      within,
      length-append follows.text (take k rest),
      length-take k rest,
    );
  };
}

-- or that has a fault, whatever follows
pub fails_on : (reader : PairReader) (rest all : List ℕ) (f : PairFault) (follows : FollowsIn reader rest all) →
    (f ≡ no_memory) ⊎ ((more : List ℕ) → pair_of_halves (said_after reader (rest ++ more)) ≡ Err f) →
    (f ≡ no_memory) ⊎ ((more : List ℕ) → pair_of (all ++ more) ≡ Err f)
fails_on reader rest all f follows told = or_then told (λ fails more.
    ap (λ (t : List ℕ). pair_of (t ++ more)) follows.is ∙ ap pair_of (append_assoc follows.text rest more)
    ∙ ap pair_of_halves (follows.stands.said (rest ++ more)) ∙ fails more)

-- at its end
pub text_said : (reader last : PairReader) (text piece : List ℕ) (r : Result ScriptPair PairFault) →
    StandsAt reader text → said_after reader piece ≡ said_after last [] → pair_of_halves (said_after last []) ≡ r →
    pair_of (text ++ piece) ≡ r
text_said reader last text piece r stands said is = ap pair_of_halves (stands.said piece ∙ said) ∙ is

pub text_fails : (reader : PairReader) (text piece : List ℕ) (f : PairFault) → StandsAt reader text →
    (f ≡ no_memory) ⊎ (pair_of_halves (said_after reader piece) ≡ Err f) →
    (f ≡ no_memory) ⊎ (pair_of (text ++ piece) ≡ Err f)
text_fails reader text piece f stands told = or_then told (λ fails. ap pair_of_halves (stands.said piece) ∙ fails)

-- ---- What lines without a fault say is two scripts that make a pair.
-- ---- halves line by line
-- a script before the line that divides is whole
record AreRead (h : Halves) : Type 0 where
  there : IfSome h.there IsUntested
  now : IsDraft h.now

line_read : (n : ℕ) (h : Halves) (ws : List (List ℕ)) → AreRead h → half_fault h ws ≡ None →
    AreRead (half_after n h ws)
line_read n h ws is none =
    elim (cases_Bool (divides h ws)) [
      | inl splits ↦
          let whole = map_none of_script (missing_line h.now) (divide_fault h ws (sym splits) ∙ none) in
          subst AreRead (divide_after n h ws (sym splits))
          (record { there = IsUntested-draft h.now is.now (whole_config h.now whole); now = IsDraft-first })
      | inr stays ↦
          let sound = map_none of_script (words_fault h.now ws) (plain_fault h ws (sym stays) ∙ none) in
          subst AreRead (plain_after n h ws (sym stays))
          (record {
            there = is.there;
            now = IsDraft-after n h.now (words_said ws) is.now (fits_words h.now ws is.now sound);
          })
    ]

lines_read : (ls : List (List ℕ)) (n : ℕ) (h now : Halves) → AreRead h → AreSound pair_lines n h ls now → AreRead now
unfolding AreSound
lines_read [] n h now is sound = subst AreRead sound is
lines_read (l ∷ ls) n h now is sound =
    lines_read ls (n + 1) (half_after n h (words l)) now (line_read n h (words l) is sound.0) sound.1

-- ---- at the end
-- both scripts are there
there_read : (there : Option Script) → IfSome there IsUntested → is_none there ≡ false →
    IsUntested (unwrap_or there (script_in at_first))
there_read (Some there) is some = is
there_read None is some = absurd cc

ends_paired : (h : Halves) (pair : ScriptPair) (found : Option PairFault) → AreRead h → half_missing h ≡ None →
    limits_fault (pair_in h) ≡ found → pair_unless found (pair_in h) ≡ Ok pair → IsPair pair.there pair.back
ends_paired h pair None is none found said =
    let same : pair_in h ≡ pair = cc in
    let parts = or_none (option_map of_script (missing_line h.now)) (where_true (is_none h.there) no_division) none in
    let whole = whole_config h.now (map_none of_script (missing_line h.now) parts.0) in
    subst (λ (p : ScriptPair). IsPair p.there p.back) same
    (pair_fits (pair_in h) (there_read h.there is.there (where_none (is_none h.there) no_division parts.1))
    (IsUntested-draft h.now is.now whole) found)
ends_paired h pair (Some fault) is none found said = absurd cc

-- ---- the text
said_pair : (text : List ℕ) (pair : ScriptPair) (of : Result Halves (ℕ × HalfFault)) → said_by pair_lines text ≡ of →
    pair_of_halves of ≡ Ok pair → IsPair pair.there pair.back
said_pair text pair (Ok h) is said =
    let are = (all_said pair_lines text h).0 is in
    let read = lines_read (lines text) 1 nothing_said h (record { there = tt; now = IsDraft-first }) are.sound in
    ends_paired h pair (limits_fault (pair_in h)) read are.whole refl said
said_pair text pair (Err at) is said = absurd cc

pub valid_pair : (text : List ℕ) (pair : ScriptPair) → pair_of text ≡ Ok pair → IsPair pair.there pair.back
valid_pair text pair said = said_pair text pair (said_by pair_lines text) refl said
