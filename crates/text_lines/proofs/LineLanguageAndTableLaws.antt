-- What lines say in a language, also in one that is a table, and that a fault told is of the first faulty line.
use Rattle.std.proofs.Common.{◌≡◌, ℕ, ◌+◌, List, [], ◌∷◌, ap, sym, ◌∙◌, Option, None, Some, Ok, Err, ◌↔◌, ◌++◌, length}
use Rattle.std.proofs.Common.{arith, refl, inl, inr, append-nil, Result, ◌<◌, ◌≤◌, ◌==◌, ◌&&◌, nat_lt, not, Bool, true}
use Rattle.std.proofs.Common.{false, drop, subst}
use Rattle.text_lines.specs.WordsOfLine.{words, word_at, is_skipped}
use Rattle.text_lines.specs.Language.{Language, said_from, unless_fault, said_by}
use Rattle.std.specs.Str.Lines.{lines}
use Rattle.text_lines.specs.FirstFault.{AreSound, IsFirstFault, IsShort, AreWhole}
use Rattle.std.specs.Prelude.{option_map}
use Rattle.std.specs.Option.{option_or}
use Rattle.std.proofs.lemmas.Bool.{not-false, ltb-false, eqb-true, lt-ltb, le-ltb, cases_lt}
use Rattle.std.proofs.lemmas.Bool.Decides.{nat_tests}
use Rattle.text_lines.specs.Fields.{where_true, fields_fault}
use Rattle.text_lines.specs.LineFaults.{IsLineStop, IsTextFault, stopped}
use Rattle.text_lines.specs.LanguageTable.{Table, Told, told as told_by_table, next_by, next_after, missing_at}
use Rattle.text_lines.specs.LanguageTable.{order_fault, place_fault, count_fault, rest_fault, known_fault, words_fault}
use Rattle.text_lines.specs.LanguageTable.{known_after, words_after, missing_fault, language_of, said_alone, said_in}
use Rattle.text_lines.specs.LanguageTable.{formed}
use Rattle.text_lines.specs.declared.text_faults.LineFault.{LineFault}
use Rattle.text_lines.specs.declared.text_faults.LineStop.{LineStop}
use Rattle.text_lines.specs.declared.text_faults.TextFault.{TextFault}
use Rattle.text_lines.proofs.TextLineAndWordLaws.{or_none, where_none, map_none}
use Rattle.text_lines.specs.declared.text_faults.LineFault.TheVariants as wrong
use Rattle.text_lines.specs.declared.text_faults.LineStop.TheVariants as stop
use Rattle.text_lines.specs.declared.text_faults.TextFault.TheVariants as whole

-- ---- What lines say, one line on and at the end.
-- a line that has a fault
pub line_faulty : {D K : Type 0} (language : Language D K) (n : ℕ) (d : D) (all : List (List ℕ)) (l : List ℕ)
    (ls : List (List ℕ)) (fault : K)
    → all ≡ l ∷ ls → language.fault d (words l) ≡ Some fault → said_from language n d all ≡ Err (n, fault)
unfolding said_from
line_faulty {K = K} language n d all l ls fault first fails =
    ap (λ (x : List (List ℕ)). said_from language n d x) first
    ∙ ap (λ (f : Option K). unless_fault n f (said_from language (n + 1) (language.after n d (words l)) ls)) fails

-- a line without a fault
pub line_sound : {D K : Type 0} (language : Language D K) (n : ℕ) (d new : D) (all : List (List ℕ)) (l : List ℕ)
    (ls : List (List ℕ))
    → all ≡ l ∷ ls → language.fault d (words l) ≡ None → new ≡ language.after n d (words l)
    → said_from language n d all ≡ said_from language (n + 1) new ls
unfolding said_from
line_sound {D = D} {K = K} language n d new all l ls first none is =
    ap (λ (x : List (List ℕ)). said_from language n d x) first
    ∙ ap (λ (f : Option K). unless_fault n f (said_from language (n + 1) (language.after n d (words l)) ls)) none
    ∙ ap (λ (d : D). said_from language (n + 1) d ls) (sym is)

-- after the last line
pub end_missing : {D K : Type 0} (language : Language D K) (n : ℕ) (d : D) (all : List (List ℕ)) (fault : K)
    → all ≡ [] → language.missing d ≡ Some fault → said_from language n d all ≡ Err (n, fault)
unfolding said_from
end_missing {K = K} language n d all fault none misses =
    ap (λ (x : List (List ℕ)). said_from language n d x) none ∙ ap (λ (f : Option K). unless_fault n f (Ok d)) misses

pub end_sound : {D K : Type 0} (language : Language D K) (n : ℕ) (d : D) (all : List (List ℕ))
    → all ≡ [] → language.missing d ≡ None → said_from language n d all ≡ Ok d
unfolding said_from
end_sound {K = K} language n d all none whole =
    ap (λ (x : List (List ℕ)). said_from language n d x) none ∙ ap (λ (f : Option K). unless_fault n f (Ok d)) whole

-- ---- The fault that a text is told to have is that of its first faulty line; what a text says is said by sound lines.
abbrev told : {D K : Type 0} → ℕ → K → Result D (ℕ × K)
told n fault = Err (n, fault)

abbrev said : {D K : Type 0} → D → Result D (ℕ × K)
said d = Ok d

same_line : {D K : Type 0} (n m : ℕ) (k fault : K) → told {D = D} n k ≡ told m fault → (m ≡ n) × (k ≡ fault)
same_line {K = K} n m k fault e =
    let pair : (n, k) ≡ (m, fault) = cc in
    (sym (ap (λ (p : ℕ × K). p.0) pair), ap (λ (p : ℕ × K). p.1) pair)

-- ---- lines without a fault are passed over
pub passed : {D K : Type 0} (language : Language D K) (before rest : List (List ℕ)) (n : ℕ) (d now : D)
    → AreSound language n d before now
    → said_from language n d (before ++ rest) ≡ said_from language (n + length before) now rest
unfolding AreSound
passed {D = D} language [] rest n d now sound =
    ap (λ (x : D). said_from language n x rest) sound
    ∙ ap (λ (k : ℕ). said_from language k now rest) (let e : n ≡ n + 0 = omega arith in e)
passed language (l ∷ before) rest n d now sound =
    line_sound language n d (language.after n d (words l)) (l ∷ before ++ rest) l (before ++ rest) refl sound.0 refl
    ∙ passed language before rest (n + 1) (language.after n d (words l)) now sound.1
    ∙ ap (λ (k : ℕ). said_from language k now rest)
    (let e : n + 1 + length before ≡ n + length (l ∷ before) = omega arith in e)

passed_all : {D K : Type 0} (language : Language D K) (ls : List (List ℕ)) (n : ℕ) (d now : D)
    → AreSound language n d ls now
    → said_from language n d ls ≡ said_from language (n + length ls) now []
passed_all language ls n d now sound =
    ap (λ (x : List (List ℕ)). said_from language n d x) (sym (append-nil ls)) ∙ passed language ls [] n d now sound

told_faulty : {D K : Type 0} (language : Language D K) (n : ℕ) (d : D) (ls : List (List ℕ)) (m : ℕ) (fault : K)
    → IsFirstFault language n d ls m fault → said_from language n d ls ≡ told m fault
told_faulty language n d ls m fault (inl f) =
    ap (λ (x : List (List ℕ)). said_from language n d x) f.here
    ∙ passed language f.before (f.line ∷ f.later) n d f.now f.sound
    ∙ line_faulty language (n + length f.before) f.now (f.line ∷ f.later) f.line f.later fault refl f.faulty
    ∙ ap (λ (k : ℕ). told k fault) (sym f.count)
told_faulty language n d ls m fault (inr s) =
    passed_all language ls n d s.now s.sound ∙ end_missing language (n + length ls) s.now [] fault refl s.short
    ∙ ap (λ (k : ℕ). told k fault) (sym s.count)

-- ---- and the other way
ends : {D K : Type 0} (language : Language D K) (n : ℕ) (d : D) (m : ℕ) (fault : K) (f : Option K)
    → language.missing d ≡ f
    → unless_fault n f (said d) ≡ told m fault → IsShort language n d [] m fault
unfolding AreSound
ends language n d m fault None is e = absurd cc
ends language n d m fault (Some k) is e =
    let same = same_line n m k fault e in
    record { now = d; sound = refl; count = omega (arith, same.0); short = is ∙ ap Some same.1 }

later_line : {D K : Type 0} (language : Language D K) (n : ℕ) (d : D) (l : List ℕ) (ls : List (List ℕ)) (m : ℕ)
    (fault : K)
    → language.fault d (words l) ≡ None → IsFirstFault language (n + 1) (language.after n d (words l)) ls m fault
    → IsFirstFault language n d (l ∷ ls) m fault
unfolding AreSound
later_line language n d l ls m fault none (inl f) =
    inl (record {
      before = l ∷ f.before;
      line = f.line;
      later = f.later;
      now = f.now;
      here = ap (λ (x : List (List ℕ)). l ∷ x) f.here;
      count = omega (arith, f.count);
      sound = (none, f.sound);
      faulty = f.faulty;
    })
later_line language n d l ls m fault none (inr s) =
    inr (record { now = s.now; sound = (none, s.sound); count = omega (arith, s.count); short = s.short })

this_line : {D K : Type 0} (language : Language D K) (n : ℕ) (d : D) (l : List ℕ) (ls : List (List ℕ)) (m : ℕ)
    (fault : K) (f : Option K)
    → language.fault d (words l) ≡ f
    → (said_from language (n + 1) (language.after n d (words l)) ls ≡ told m fault
    → IsFirstFault language (n + 1) (language.after n d (words l)) ls m fault)
    → unless_fault n f (said_from language (n + 1) (language.after n d (words l)) ls) ≡ told m fault
    → IsFirstFault language n d (l ∷ ls) m fault
unfolding AreSound
this_line language n d l ls m fault None is later e = later_line language n d l ls m fault is (later e)
this_line language n d l ls m fault (Some k) is later e =
    let same = same_line n m k fault e in
    inl (record {
      before = [];
      line = l;
      later = ls;
      now = d;
      here = refl;
      count = omega (arith, same.0);
      sound = refl;
      faulty = is ∙ ap Some same.1;
    })

first_from : {D K : Type 0} (language : Language D K) (ls : List (List ℕ)) (n : ℕ) (d : D) (m : ℕ) (fault : K)
    → said_from language n d ls ≡ told m fault → IsFirstFault language n d ls m fault
unfolding said_from
first_from language [] n d m fault e = inr (ends language n d m fault (language.missing d) refl e)
first_from language (l ∷ ls) n d m fault e =
    this_line language n d l ls m fault (language.fault d (words l)) refl
    (first_from language ls (n + 1) (language.after n d (words l)) m fault) e

read_end : {D K : Type 0} (language : Language D K) (n : ℕ) (d now : D) (f : Option K) → language.missing d ≡ f
    → unless_fault n f (said d) ≡ said now → AreWhole language n d [] now
unfolding AreSound
read_end {D = D} language n d now None is e =
    let same : d ≡ now = cc in
    record { sound = same; whole = ap (λ (x : D). language.missing x) (sym same) ∙ is }
read_end language n d now (Some k) is e = absurd cc

this_read : {D K : Type 0} (language : Language D K) (n : ℕ) (d now : D) (l : List ℕ) (ls : List (List ℕ))
    (f : Option K)
    → language.fault d (words l) ≡ f
    → (said_from language (n + 1) (language.after n d (words l)) ls ≡ said now
    → AreWhole language (n + 1) (language.after n d (words l)) ls now)
    → unless_fault n f (said_from language (n + 1) (language.after n d (words l)) ls) ≡ said now
    → AreWhole language n d (l ∷ ls) now
unfolding AreSound
this_read language n d now l ls None is later e =
    let read = later e in record { sound = (is, read.sound); whole = read.whole }
this_read language n d now l ls (Some k) is later e = absurd cc

all_read : {D K : Type 0} (language : Language D K) (ls : List (List ℕ)) (n : ℕ) (d now : D)
    → said_from language n d ls ≡ said now
    → AreWhole language n d ls now
unfolding said_from
all_read language [] n d now e = read_end language n d now (language.missing d) refl e
all_read language (l ∷ ls) n d now e =
    this_read language n d now l ls (language.fault d (words l)) refl
    (all_read language ls (n + 1) (language.after n d (words l)) now) e

-- ---- the text
-- the fault that a text is told to have is its first one
pub first_fault : {D K : Type 0} (language : Language D K) (text : List ℕ) (number : ℕ) (fault : K)
    → (said_by language text ≡ Err (number, fault)) ↔ IsFirstFault language 1 language.first (lines text) number fault
first_fault language text number fault = (
  λ e. first_from language (lines text) 1 language.first number fault e,
  λ is. told_faulty language 1 language.first (lines text) number fault is,
)

-- what a text says is said by lines without a fault, and nothing is missing
pub all_said : {D K : Type 0} (language : Language D K) (text : List ℕ) (now : D)
    → (said_by language text ≡ Ok now) ↔ AreWhole language 1 language.first (lines text) now
all_said language text now = (
  λ e. all_read language (lines text) 1 language.first now e,
  λ is. passed_all language (lines text) 1 language.first now is.sound
      ∙ end_sound language (1 + length (lines text)) now [] refl is.whole,
)

-- ---- What a text says in a language that is a table.
-- ---- a line without a fault
-- it stands in its place
pub record IsPlaced (must next at : ℕ) : Type 0 where
  pub early : at < must → next ≡ at
  pub late : must ≤ at → must ≤ next
  pub fits : next ≤ at

-- and its words are what they have to be
pub record IsSound {D K O : Type 0} (t : Table D K O) (d : D) (k : K) (ws : List (List ℕ)) : Type 0 where
  pub count : length ws ≡ length (t.fields d k)
  pub each : fields_fault (t.fields d k) 2 0 ws ≡ None
  pub own : t.own d k ws ≡ None

at_place : (must next at : ℕ) → (nat_lt next must && not (at == next)) ≡ false → next ≤ at → IsPlaced must next at
at_place must next at found behind =
    elim (cases_lt next must) [
      | inl low ↦
          let e : nat_lt next must ≡ true = grind (arith, nat_tests, low) in
          let other : not (at == next) ≡ false = ap (λ (b : Bool). b && not (at == next)) (sym e) ∙ found in
          let same = eqb-true at next (not-false (at == next) other) in
          record { early = λ early. omega (arith, same); late = λ late. omega (arith, same, late); fits = behind }
      | inr high ↦
          record { early = λ early. absurd (omega (arith, behind, early, high)); late = λ late. high; fits = behind }
    ]

not_behind : {D K O : Type 0} (t : Table D K O) (last : Option K) (k : K) → order_fault t last k ≡ None
    → next_after t last ≤ t.place k
not_behind t None k none = omega arith
not_behind t (Some before) k none =
    ltb-false (t.place k) (next_by t before)
    (where_none (nat_lt (t.place k) (next_by t before)) (wrong.Order k before) none)

placed : {D K O : Type 0} (t : Table D K O) (last : Option K) (k : K) → place_fault t last k ≡ None
    → IsPlaced t.must (next_after t last) (t.place k)
placed t last k none =
    let found = nat_lt (next_after t last) t.must && not (t.place k == next_after t last) in
    let parts = or_none (where_true found (missing_at t (next_after t last))) (order_fault t last k) none in
    at_place t.must (next_after t last) (t.place k) (where_none found (missing_at t (next_after t last)) parts.0)
    (not_behind t last k parts.1)

sound : {D K O : Type 0} (t : Table D K O) (d : D) (k : K) (ws : List (List ℕ)) → rest_fault t d k ws ≡ None
    → IsSound t d k ws
sound {K = K} {O = O} t d k ws none =
    let takes = length (t.fields d k) in
    let count : LineFault K O = wrong.Count k takes (length ws) in
    let each : Option (LineFault K O) = option_map wrong.Field (fields_fault (t.fields d k) 2 0 ws) in
    let own : Option (LineFault K O) = option_map wrong.Own (t.own d k ws) in
    let one = or_none (count_fault k takes ws) (option_or each own) none in
    let two = or_none each own one.1 in
    record {
      count =
          eqb-true (length ws) takes
          (not-false (length ws == takes) (where_none (not (length ws == takes)) count one.0));
      each = map_none wrong.Field (fields_fault (t.fields d k) 2 0 ws) two.0;
      own = map_none wrong.Own (t.own d k ws) two.1;
    }

-- ---- what is met from the first line on
-- by what lines say, where the next one may stand from a place on
pub record Keeps {D K O : Type 0} (t : Table D K O) (Stands : ℕ → D → Type 0) : Type 0 where
  pub first : Stands 0 t.first
  pub after : (next : ℕ) (d : D) (k : K) (ws : List (List ℕ)) → Stands next d → IsPlaced t.must next (t.place k)
      → IsSound t d k ws → Stands (next_by t k) (t.after d k ws)

abbrev Meets : {D K O : Type 0} → Table D K O → (ℕ → D → Type 0) → Told D K → Type 0
Meets t Stands s = Stands (next_after t s.last) s.said

known_kept : {D K O : Type 0} (t : Table D K O) (Stands : ℕ → D → Type 0) → Keeps t Stands → (s : Told D K)
    (ws : List (List ℕ)) (k : Option K) → Meets t Stands s → known_fault t s ws k ≡ None
    → Meets t Stands (known_after t s ws k)
known_kept t Stands keeps s ws None is none = absurd cc
known_kept t Stands keeps s ws (Some k) is none =
    let parts = or_none (place_fault t s.last k) (rest_fault t s.said k ws) none in
    keeps.after (next_after t s.last) s.said k ws is (placed t s.last k parts.0) (sound t s.said k ws parts.1)

words_kept : {D K O : Type 0} (t : Table D K O) (Stands : ℕ → D → Type 0) → Keeps t Stands → (s : Told D K)
    (ws : List (List ℕ)) (skipped : Bool) → is_skipped ws ≡ skipped → Meets t Stands s → words_fault t s ws ≡ None
    → Meets t Stands (words_after t s ws)
words_kept t Stands keeps s ws true is meets none = rw is meets
words_kept t Stands keeps s ws false is meets none =
    rw is (known_kept t Stands keeps s (drop 1 ws) (t.keyword (word_at 0 ws)) meets (rw is at none))

lines_kept : {D K O : Type 0} (t : Table D K O) (Stands : ℕ → D → Type 0) → Keeps t Stands → (ls : List (List ℕ))
    (n : ℕ) (s now : Told D K) → Meets t Stands s → AreSound (language_of t) n s ls now → Meets t Stands now
unfolding AreSound
lines_kept t Stands keeps [] n s now meets sound = subst (Meets t Stands) sound meets
lines_kept t Stands keeps (l ∷ ls) n s now meets sound =
    lines_kept t Stands keeps ls (n + 1) (words_after t s (words l)) now
    (words_kept t Stands keeps s (words l) (is_skipped (words l)) refl meets sound.0) sound.1

-- all lines that have to be there are
all_there : {D K O : Type 0} (t : Table D K O) (s : Told D K) → missing_fault t s ≡ None
    → t.must ≤ next_after t s.last
all_there t s none =
    ltb-false (next_after t s.last) t.must
    (where_none (nat_lt (next_after t s.last) t.must) (missing_at t (next_after t s.last)) none)

made_of : {D K O A : Type 0} (t : Table D K O) (Stands : ℕ → D → Type 0) → Keeps t Stands → (form : D → A)
    (IsValid : A → Type 0) → ((next : ℕ) (d : D) → t.must ≤ next → Stands next d → IsValid (form d))
    → (text : List ℕ) (a : A) (said : Result (Told D K) (ℕ × LineFault K O)) → said_by (language_of t) text ≡ said
    → formed form (said_alone said) ≡ Ok a → IsValid a
made_of t Stands keeps form IsValid valid text a (Err at) is made = absurd cc
made_of t Stands keeps form IsValid valid text a (Ok s) is made =
    let same : form s.said ≡ a = cc in
    let are = (all_said (language_of t) text s).0 is in
    subst IsValid same
    (valid (next_after t s.last) s.said (all_there t s are.whole)
    (lines_kept t Stands keeps (lines text) 1 (language_of t).first s keeps.first are.sound))

-- so what is made of a text is valid
pub said_valid : {D K O A : Type 0} (t : Table D K O) (Stands : ℕ → D → Type 0) → Keeps t Stands → (form : D → A)
    (IsValid : A → Type 0) → ((next : ℕ) (d : D) → t.must ≤ next → Stands next d → IsValid (form d))
    → (text : List ℕ) (a : A) → formed form (said_in t text) ≡ Ok a → IsValid a
said_valid t Stands keeps form IsValid valid text a made =
    made_of t Stands keeps form IsValid valid text a (said_by (language_of t) text) refl made

-- ---- the fault of a text
abbrev failed : {A E : Type 0} → E → Result A E
failed at = Err at

no_form : {D K A E : Type 0} (form : D → A) (said : Result (Told D K) E) (at : E)
    → formed form (said_alone said) ≡ failed at → said ≡ failed at
no_form form (Ok s) at e = absurd cc
no_form form (Err other) at e = let same : other ≡ at = cc in ap failed same

-- it is that of its first faulty line
pub said_fault : {D K O A : Type 0} (t : Table D K O) (form : D → A) (text : List ℕ) (number : ℕ)
    (fault : LineFault K O)
    → (formed form (said_in t text) ≡ Err (number, fault))
    ↔ IsFirstFault (language_of t) 1 (told_by_table t.first None) (lines text) number fault
said_fault t form text number fault =
    let is = first_fault (language_of t) text number fault in (
      λ e. is.0 (no_form form (said_by (language_of t) text) (number, fault) e),
      λ first. ap (λ said. formed form (said_alone said)) (is.1 first),
    )

-- and of what is made of it
pub fault_formed : {K O D A : Type 0} (form : D → A) (said : Result D (ℕ × LineFault K O)) (fault : TextFault K O)
    → IsTextFault said fault → IsTextFault (formed form said) fault
fault_formed form said (whole.Line number fault) is = ap (formed form) is
fault_formed form said whole.Memory is = tt

-- ---- line by line
-- a line wasn't read
pub line_stopped : {D K O : Type 0} (t : Table D K O) (text : List ℕ) (n : ℕ) (s : Told D K) (all : List (List ℕ))
    (l : List ℕ) (ls : List (List ℕ)) (why : LineStop K O)
    → said_by (language_of t) text ≡ said_from (language_of t) n s all → all ≡ l ∷ ls
    → IsLineStop why (words_fault t s (words l))
    → IsTextFault (said_in t text) (stopped n why)
line_stopped t text n s all l ls (stop.Fault fault) same first fails =
    ap said_alone (same ∙ line_faulty (language_of t) n s all l ls fault first fails)
line_stopped t text n s all l ls stop.Memory same first fails = tt

-- after the last line
pub is_missing : {D K O : Type 0} (t : Table D K O) (s : Told D K) (next must : ℕ) (awaited : K)
    → next ≡ next_after t s.last → must ≡ t.must → awaited ≡ t.awaited next → next < must
    → missing_fault t s ≡ Some (wrong.Missing awaited)
is_missing {K = K} {O = O} t s next must awaited at count is less =
    let yes : nat_lt (next_after t s.last) t.must ≡ true =
    lt-ltb (next_after t s.last) t.must (omega (arith, at, count, less)) in
    let named : t.awaited (next_after t s.last) ≡ awaited = ap t.awaited (sym at) ∙ sym is in
    let fault : K → Option (LineFault K O) = λ k. Some (wrong.Missing k) in
    ap (λ (b : Bool). where_true b (missing_at t (next_after t s.last))) yes ∙ ap fault named

pub none_missing : {D K O : Type 0} (t : Table D K O) (s : Told D K) (next must : ℕ)
    → next ≡ next_after t s.last → must ≡ t.must → must ≤ next → missing_fault t s ≡ None
none_missing t s next must at count least =
    let no : nat_lt (next_after t s.last) t.must ≡ false =
    le-ltb (next_after t s.last) t.must (omega (arith, at, count, least)) in
    ap (λ (b : Bool). where_true b (missing_at t (next_after t s.last))) no

pub end_stopped : {D K O : Type 0} (t : Table D K O) (text : List ℕ) (n : ℕ) (s : Told D K) (all : List (List ℕ))
    (fault : LineFault K O)
    → said_by (language_of t) text ≡ said_from (language_of t) n s all → all ≡ [] → missing_fault t s ≡ Some fault
    → said_in t text ≡ Err (n, fault)
end_stopped t text n s all fault same none misses =
    ap said_alone (same ∙ end_missing (language_of t) n s all fault none misses)

pub end_said : {D K O : Type 0} (t : Table D K O) (text : List ℕ) (n : ℕ) (s : Told D K) (all : List (List ℕ))
    → said_by (language_of t) text ≡ said_from (language_of t) n s all → all ≡ [] → missing_fault t s ≡ None
    → said_in t text ≡ Ok s.said
end_said t text n s all same none whole = ap said_alone (same ∙ end_sound (language_of t) n s all none whole)
