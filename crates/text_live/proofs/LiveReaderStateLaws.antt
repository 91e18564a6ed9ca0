-- What a reader of live lines keeps and tells stands for what these lines say, also of digits of a frame.
use Rattle.std.proofs.Common.{◌≡◌, ◌∙◌, ℕ, ◌+◌, ◌-◌, ◌<◌, List, [], ◌∷◌, ◌++◌, length, map, ap, ap₂, sym, subst, arith}
use Rattle.std.proofs.Common.{refl, inl, inr, slice_index_or, slice_set, Option, None, Some, All, Bool, true, false}
use Rattle.std.proofs.Common.{option_map, is_none, if◌then◌else◌, Ok, ◌≢◌, ◌/◌, ◌≤◌, nat_le, ◌&&◌}
use Rattle.std.proofs.Common.{◌==◌, not, take, get_or, slice_index}
use Rattle.std.specs.Option.{option_or}
use Rattle.std.proofs.lemmas.Bool.{cases_lt, lt-ltb, le-ltb}
use Rattle.std.proofs.lemmas.List.{length-append, length-set, length-map, map-set, get_or-map, take_all, take_more}
use Rattle.text_lines.specs.WordsOfLine.{number_of, word_at, is_skipped}
use Rattle.text_lines.specs.Fields.{within, where_true, octets_fault}
use Rattle.law_model.specs.declared.window_types.Window.{Window}
use Rattle.law_model.specs.declared.script_types.Config.{Config}
use Rattle.text_live.specs.declared.live_keyword.LiveKeyword.{LiveKeyword}
use Rattle.text_live.specs.declared.live_fault.LiveLineFault.{LiveLineFault}
use Rattle.text_live.specs.declared.read_live_line.LineState.{LineState}
use Rattle.text_live.specs.declared.read_live_line.LiveState.{LiveState}
use Rattle.law_live.specs.LiveSayings.{LineCourse, Live, closed, course_at, cut_at, cuts, live_after, mends, uncut}
use Rattle.law_live.specs.LiveSayings.{Saying, windows_by, with_course}
use Rattle.text_live.specs.LiveLines.{happens, word_fault, own_fault, cut_fault, cut_fault_by, mend_fault}
use Rattle.text_live.specs.LiveLines.{mend_fault_by, Said, LineWrong, of_live, nothing, now_live, opening_fault}
use Rattle.text_live.specs.LiveLines.{rest_fault, value_fault, fault_by, line_fault, told_by, told, first_of}
use Rattle.text_live.specs.LiveLines.{live_said, live_told, with_live, said_with}
use Rattle.text_live.specs.LiveReaderStands.{Keeps, IsKept, HasFew, Reads, mended_by, mended_state, state_of, IsToldAt}
use Rattle.text_live.specs.LiveReaderStands.{IsAt, ReadsLine, Stops, Says, failure as reader_failure}
use Rattle.text_live.specs.LiveReaderStands.{line_at, frame_of, HandsOut, opened_said, IsLiveLine}
use Rattle.law_model.specs.Common.{IsNetwork, longest_offer}
use Rattle.std.proofs.lemmas.List.Elements.{All-map, All-push}
use Rattle.text_live.proofs.LiveCourseAndItemLaws.{failure, last_end-one}
use Rattle.text_scripts.specs.declared.script_read.script_reader.ScriptReader.{ScriptReader}
use Rattle.text_live.specs.declared.live_keyword.FirstWord.{FirstWord}
use Rattle.text_live.specs.declared.live_fault.LiveFault.{LiveFault}
use Rattle.text_live.specs.declared.live_line.LiveLine.{LiveLine}
use Rattle.text_live.specs.declared.live_reader.LiveReader.{LiveReader}
use Rattle.std.specs.List.{range_with_len, AllPass}
use Rattle.std.specs.Char.{is_ascii_hexdigit}
use Rattle.std.proofs.lemmas.Bool.Decides.{nat_tests}
use Rattle.std.proofs.lemmas.List.FromFn.{get_or-map-range_with_len}
use Rattle.hex.specs.Hex.{decode_of, is_hex_digit}
use Rattle.hex.proofs.HexLemmas.{decode_of-ok}
use Rattle.text_lines.specs.declared.text_faults.FieldFault.TheVariants.{Size}
use Rattle.text_live.specs.declared.live_keyword.LiveKeyword.TheVariants as word
use Rattle.text_live.specs.declared.live_line.LiveLine.TheVariants as line
use Rattle.text_live.specs.declared.live_keyword.FirstWord.TheVariants as first
use Rattle.text_live.specs.declared.live_fault.LiveFault.TheVariants as fault
use Rattle.text_live.specs.declared.live_fault.LiveLineFault.TheVariants.{Count}

-- ---- What is kept of the lines of the group stands for what is said of them.
-- ---- one line
mended-by : (passed : ℕ) (windows : List Window) (cut : Option ℕ) →
    mended_by passed (state_of (record { windows = windows; cut = cut })) cut
    ≡ state_of (uncut (closed passed windows cut))
mended-by passed windows None = refl
mended-by passed windows (Some start) =
    elim (cases_lt start passed) [
      | inl less ↦ rw (lt-ltb start passed less)
          (ap₂ (λ (n end : ℕ). record { failures = n; end = end; cut = None })
          (let size : length windows + 1 ≡ length (windows ++ failure start passed ∷ []) =
          sym (length-append windows (failure start passed ∷ [])) in size)
          (sym (last_end-one windows (failure start passed))))
      | inr least ↦ rw (le-ltb start passed least) refl
    ]

mended : (passed : ℕ) (course : LineCourse) →
    mended_state passed (state_of course) ≡ state_of (uncut (windows_by passed course))
mended passed course = mended-by passed course.windows course.cut

-- ---- all lines
pub lines_count : (old : LiveState) (c : Config) (live : Live) → Keeps old c live → length old.lines.items ≡ c.lines
lines_count old c live keeps = ap length keeps.lines ∙ length-map live.courses state_of ∙ keeps.count

line_kept : (old : LiveState) (c : Config) (live : Live) (m : ℕ) (l : LineState) → Keeps old c live →
    m < length old.lines.items → l ≡ slice_index_or old.lines.items m l → l ≡ state_of (course_at live m)
line_kept old c live m l keeps low is =
    is ∙ ap (λ (ls : List LineState). slice_index_or ls m l) keeps.lines
    ∙ get_or-map state_of live.courses m (uncut []) l
    (omega (arith, low, lines_count old c live keeps, keeps.count))

keeps_line : (old now : LiveState) (c : Config) (live : Live) (m : ℕ) (new : LineState) (course : LineCourse) →
    Keeps old c live → now.ticks ≡ old.ticks → now.passed ≡ old.passed →
    now.lines.items ≡ slice_set old.lines.items m new → new ≡ state_of course →
    Keeps now c (with_course live m course)
keeps_line old now c live m new course keeps ticks passed lines is = record {
  ticks = ticks ∙ keeps.ticks;
  passed = passed ∙ keeps.passed;
  lines = lines
      ∙ ap₂ (λ (ls : List LineState) (l : LineState). slice_set ls m l) keeps.lines is
      ∙ sym (map-set state_of live.courses m course);
  count = length-set live.courses m course ∙ keeps.count;
}

-- the word of a line of the group
line_word_fine : (old : LiveState) (c : Config) (live : Live) (at : ℕ) (w : List ℕ) → Keeps old c live →
    word_fault (within 0 (length old.lines.items - 1)) at w ≡ None → word_fault (within 0 (c.lines - 1)) at w ≡ None
line_word_fine old c live at w keeps fine =
    sym (ap (λ (n : ℕ). word_fault (within 0 (n - 1)) at w) (lines_count old c live keeps)) ∙ fine

both_none : (one other : Option LiveLineFault) → one ≡ None → other ≡ None → option_or one other ≡ None
both_none one other first second = ap₂ option_or first second

-- ---- a failure that begins
abbrev pub cut_new : LineState → ℕ → LineState
cut_new l passed = record { failures = l.failures; end = l.end; cut = Some passed }

abbrev line_cut_fault : ℕ → ℕ → ℕ → LineState → Option LiveLineFault
line_cut_fault ticks passed m l = cut_fault_by ticks passed m l.failures l.end l.cut

cut_fine : (old : LiveState) (c : Config) (live : Live) (m : ℕ) (l : LineState) → Keeps old c live →
    l ≡ state_of (course_at live m) → line_cut_fault old.ticks old.passed m l ≡ None →
    cut_fault c.ticks live.passed m (course_at live m) ≡ None
cut_fine old c live m l keeps is none =
    sym (ap (λ (t : ℕ). line_cut_fault t old.passed m l) keeps.ticks
    ∙ ap (λ (p : ℕ). line_cut_fault c.ticks p m l) keeps.passed
    ∙ ap (λ (l : LineState). line_cut_fault c.ticks live.passed m l) is) ∙ none

pub reads_cut : (old now : LiveState) (octets : List ℕ) (c : Config) (live : Live) (at : ℕ) (w : List ℕ) (m : ℕ) (l : LineState) →
    Keeps old c live → m ≡ number_of w → word_fault (within 0 (length old.lines.items - 1)) at w ≡ None →
    m < length old.lines.items → l ≡ slice_index_or old.lines.items m l → line_cut_fault old.ticks old.passed m l ≡ None →
    now.ticks ≡ old.ticks → now.passed ≡ old.passed →
    now.lines.items ≡ slice_set old.lines.items m (cut_new l old.passed) →
    Reads now octets c live word.Cut at w (line.Cut m)
reads_cut old now octets c live at w m l keeps number fine low here none ticks passed lines =
    let is : l ≡ state_of (course_at live m) = line_kept old c live m l keeps low here in
    record {
      fine = both_none (word_fault (within 0 (c.lines - 1)) at w)
          (own_fault c.ticks live word.Cut (number_of w)) (line_word_fine old c live at w keeps fine)
          (subst (λ (n : ℕ). own_fault c.ticks live word.Cut n ≡ None) number (cut_fine old c live m l keeps is none));
      told = ap (λ n. happens (cuts n)) number;
      keeps = subst (λ (n : ℕ). Keeps now c (live_after live (cuts n))) number
          (keeps_line old now c live m (cut_new l old.passed) (cut_at live.passed (course_at live m)) keeps ticks passed
          lines (ap₂ cut_new is keeps.passed));
    }

-- ---- a failure that ends
abbrev line_mend_fault : ℕ → ℕ → ℕ → LineState → Option LiveLineFault
line_mend_fault ticks passed m l = mend_fault_by ticks passed m l.cut

mend_fine : (old : LiveState) (c : Config) (live : Live) (m : ℕ) (l : LineState) → Keeps old c live →
    l ≡ state_of (course_at live m) → line_mend_fault old.ticks old.passed m l ≡ None →
    mend_fault c.ticks live.passed m (course_at live m) ≡ None
mend_fine old c live m l keeps is none =
    sym (ap (λ (t : ℕ). line_mend_fault t old.passed m l) keeps.ticks
    ∙ ap (λ (p : ℕ). line_mend_fault c.ticks p m l) keeps.passed
    ∙ ap (λ (l : LineState). line_mend_fault c.ticks live.passed m l) is) ∙ none

pub reads_mend : (old now : LiveState) (octets : List ℕ) (c : Config) (live : Live) (at : ℕ) (w : List ℕ) (m : ℕ) (l : LineState) →
    Keeps old c live → m ≡ number_of w → word_fault (within 0 (length old.lines.items - 1)) at w ≡ None →
    m < length old.lines.items → l ≡ slice_index_or old.lines.items m l → line_mend_fault old.ticks old.passed m l ≡ None →
    now.ticks ≡ old.ticks → now.passed ≡ old.passed →
    now.lines.items ≡ slice_set old.lines.items m (mended_state old.passed l) →
    Reads now octets c live word.Mend at w (line.Mend m)
reads_mend old now octets c live at w m l keeps number fine low here none ticks passed lines =
    let is : l ≡ state_of (course_at live m) = line_kept old c live m l keeps low here in
    record {
      fine = both_none (word_fault (within 0 (c.lines - 1)) at w)
          (own_fault c.ticks live word.Mend (number_of w)) (line_word_fine old c live at w keeps fine)
          (subst (λ (n : ℕ). own_fault c.ticks live word.Mend n ≡ None) number
          (mend_fine old c live m l keeps is none));
      told = ap (λ n. happens (mends n)) number;
      keeps = subst (λ (n : ℕ). Keeps now c (live_after live (mends n))) number
          (keeps_line old now c live m (mended_state old.passed l)
          (uncut (windows_by live.passed (course_at live m))) keeps ticks passed lines
          (ap₂ (λ (p : ℕ) (l : LineState). mended_state p l) keeps.passed is
          ∙ mended live.passed (course_at live m)));
    }

-- ---- before the first tick
pub opened_kept : (state : LiveState) (c : Config) (lists : List (List Window)) → IsNetwork c → lists ≡ c.windows →
    state.lines.items ≡ map state_of (map uncut lists) → state.ticks ≡ c.ticks → state.passed ≡ 0 → IsKept state
opened_kept state c lists network all lines ticks passed =
    let same : state.lines.items ≡ map state_of (map uncut c.windows) =
    lines ∙ ap (λ (lists : List (List Window)). map state_of (map uncut lists)) all in
    let size : length state.lines.items ≡ c.lines =
    ap length same ∙ length-map (map uncut c.windows) state_of ∙ length-map c.windows uncut ∙ network.windows_each in
    record {
      some = omega (arith, size, network.lines.0);
      lines = omega (arith, size, network.lines.1);
      few = subst (All HasFew) (sym same)
          (All-map HasFew state_of (map uncut c.windows)
          (All-map (λ (course : LineCourse). HasFew (state_of course)) uncut c.windows
          (λ i d low. let few = (network.windows i d low).few in omega (arith, few))));
      ticks = omega (arith, ticks, network.ticks.1);
      passed = omega (arith, passed);
    }

-- ---- What a reader tells of a line, by what its parts tell.
-- ---- a live line
pub by_keyword : {A : Type 0} (none : A) (by : FirstWord → A) (ws rest : List (List ℕ)) (k : LiveKeyword) →
    IsLiveLine ws k rest → (if is_skipped ws then none else by (first_of (word_at 0 ws))) ≡ by (first.Live k)
by_keyword none by ws rest k is =
    ap (λ (skipped : Bool). if skipped then none else by (first_of (word_at 0 ws))) is.said ∙ ap by is.first

abbrev pub live_with : Said → LiveKeyword → List (List ℕ) → Option LineWrong → Option LineWrong
live_with s k ws opening = option_or opening (option_map of_live (rest_fault s.settings.config (now_live s) k ws))

live_fault : (s : Said) (ws rest : List (List ℕ)) (k : LiveKeyword) → IsLiveLine ws k rest →
    line_fault s ws ≡ live_with s k rest (opening_fault s.live s.settings)
live_fault s ws rest k is =
    by_keyword None (fault_by s ws) ws rest k is
    ∙ ap (λ (ws : List (List ℕ)). live_with s k ws (opening_fault s.live s.settings)) is.others

live_told_by : (ws rest : List (List ℕ)) (k : LiveKeyword) → IsLiveLine ws k rest → told ws ≡ happens (live_told k rest)
live_told_by ws rest k is =
    by_keyword nothing (told_by ws) ws rest k is ∙ ap (λ (ws : List (List ℕ)). happens (live_told k ws)) is.others

pub opening_stops : (n : ℕ) (s : Said) (ws rest : List (List ℕ)) (k : LiveKeyword) (f : LiveFault) →
    IsLiveLine ws k rest → IsToldAt n (opening_fault s.live s.settings) f → Stops n s ws f
opening_stops n s ws rest k f is told =
    inr (record {
      wrong = told.wrong;
      fails = live_fault s ws rest k is ∙ ap (live_with s k rest) told.fails;
      is = told.is;
    })

pub rest_stops : (n : ℕ) (s : Said) (ws rest : List (List ℕ)) (k : LiveKeyword) (f : LiveLineFault) →
    IsLiveLine ws k rest → opening_fault s.live s.settings ≡ None →
    rest_fault s.settings.config (now_live s) k rest ≡ Some f → Stops n s ws (fault.Line n f)
rest_stops n s ws rest k f is none found =
    inr (record {
      wrong = of_live f;
      fails = live_fault s ws rest k is ∙ ap (live_with s k rest) none ∙ ap (option_map of_live) found;
      is = refl;
    })

-- the line has one word
pub one_fine : (c : Config) (live : Live) (k : LiveKeyword) (ws : List (List ℕ)) (w : List ℕ) → ws ≡ w ∷ [] →
    value_fault c live k 2 w ≡ None → rest_fault c live k ws ≡ None
one_fine c live k ws w one none = ap (rest_fault c live k) one ∙ none

pub one_stops : (c : Config) (live : Live) (k : LiveKeyword) (ws : List (List ℕ)) (w : List ℕ) (f : LiveLineFault) →
    ws ≡ w ∷ [] → value_fault c live k 2 w ≡ Some f → rest_fault c live k ws ≡ Some f
one_stops c live k ws w f one found = ap (rest_fault c live k) one ∙ found

pub count_stops : (c : Config) (live : Live) (k : LiveKeyword) (ws : List (List ℕ)) → length ws ≢ 1 →
    rest_fault c live k ws ≡ Some (Count k (length ws))
count_stops c live k ws other =
    let one : (length ws == 1) ≡ false = grind (arith, nat_tests, other) in
    ap (λ (same : Bool). option_or (where_true (not same) (Count k (length ws)))
    (value_fault c live k 2 (word_at 0 ws))) one

-- ---- where the reader stands
abbrev pub Begins : LiveState → Said → Type 0
Begins state s = (live : Live) × (s.live ≡ Some live) × Keeps state s.settings.config live

pub begun_says : (settings : Option ScriptReader) (state : LiveState) (s : Said) → is_none settings ≡ true →
    Says settings state s → Begins state s
begun_says None state s begun says = says
begun_says (Some reader) state s begun says = absurd cc

pub says_begun : (settings : Option ScriptReader) (state : LiveState) (s : Said) → is_none settings ≡ true →
    Begins state s → Says settings state s
says_begun None state s begun says = says
says_begun (Some reader) state s begun says = absurd cc

pub reads_live : (now : LiveReader) (n : ℕ) (s : Said) (ws rest : List (List ℕ)) (k : LiveKeyword) (w : List ℕ)
    (said : LiveLine) → IsLiveLine ws k rest → opening_fault s.live s.settings ≡ None → rest ≡ w ∷ [] →
    Reads now.state (frame_of now) s.settings.config (now_live s) k 2 w said → reader_failure now ≡ None →
    line_at now ≡ n + 1 → is_none now.settings ≡ true → HandsOut now s → ReadsLine now n s ws said
reads_live now n s ws rest k w said is whole one read goes number begun hands =
    let same : live_said k w ≡ live_told k rest = sym (ap (live_told k) one) in
    record {
      fine = live_fault s ws rest k is ∙ ap (live_with s k rest) whole
          ∙ ap (option_map of_live) (one_fine s.settings.config (now_live s) k rest w one read.fine);
      told = read.told ∙ ap (λ (saying : Saying). happens saying) same ∙ sym (live_told_by ws rest k is);
      at = subst (IsAt now (n + 1)) (ap (said_with n s ws) (sym (live_told_by ws rest k is)))
          (record {
            goes_on = goes;
            number = number;
            says = says_begun now.settings now.state (with_live s (live_told k rest)) begun (
              live_after (now_live s) (live_told k rest),
              refl,
              subst (λ (saying : Saying). Keeps now.state s.settings.config (live_after (now_live s) saying)) same
                  read.keeps,
            );
          });
      opens = λ live begun. hands;
    }

-- what is kept is what is said by now
pub kept_by : (state : LiveState) (s : Said) → Begins state (opened_said s) → Keeps state s.settings.config (now_live s)
kept_by state s begun =
    let same : now_live s ≡ begun.0 = cc in
    subst (Keeps state s.settings.config) (sym same) begun.2

-- ---- Which characters are hexadecimal digits, and digits that say too many octets.
all_characters : map is_ascii_hexdigit (range_with_len 0 256) ≡ map is_hex_digit (range_with_len 0 256)
all_characters = refl

digit_is : (c : ℕ) → c < 256 → is_ascii_hexdigit c ≡ is_hex_digit c
digit_is c low =
    sym (get_or-map-range_with_len is_ascii_hexdigit 0 256 c c false low (omega arith))
    ∙ ap (λ l. get_or l c false) all_characters
    ∙ get_or-map-range_with_len is_hex_digit 0 256 c c false low (omega arith)

pub other_refused : (text : List ℕ) (i : ℕ) (found : Bool) → i < length text → slice_index text i < 256 →
    found ≡ is_ascii_hexdigit (slice_index text i) → found ≡ false → (bytes : List ℕ) → decode_of text ≢ Ok bytes
other_refused text i found low octet is none bytes ok =
    let digit = (decode_of-ok text bytes ok).1 i 0 low in
    let other : is_hex_digit (slice_index text i) ≡ false = sym (digit_is (slice_index text i) octet) ∙ sym is ∙ none in
    absurd cc

pub digits_more : (text : List ℕ) (i : ℕ) (found : Bool) → i < length text → slice_index text i < 256 →
    found ≡ is_ascii_hexdigit (slice_index text i) → found ≡ true → AllPass is_hex_digit (take i text) →
    AllPass is_hex_digit (take (i + 1) text)
digits_more text i found low octet is some are =
    subst (AllPass is_hex_digit) (sym (take_more text i 0 low))
    (All-push (λ c. is_hex_digit c ≡ true) (take i text) (slice_index text i) are
    (sym (digit_is (slice_index text i) octet) ∙ sym is ∙ some))

pub digits_all : (text : List ℕ) (i : ℕ) → length text ≤ i → AllPass is_hex_digit (take i text) →
    AllPass is_hex_digit text
digits_all text i most are = subst (AllPass is_hex_digit) (take_all i text most) are

over : (at n : ℕ) → 65536 ≤ n →
    where_true (not (nat_le 1 n && nat_le n longest_offer)) (Size at 1 longest_offer) ≡ Some (Size at 1 longest_offer)
over at n most =
    let low : nat_le 1 n ≡ true = grind (arith, nat_tests, most) in
    let high : nat_le n longest_offer ≡ false = grind (arith, nat_tests, most) in
    rw (low, high) refl

pub long_size : (at : ℕ) (digits bytes : List ℕ) → 65536 ≤ length digits / 2 → decode_of digits ≡ Ok bytes →
    octets_fault at 1 longest_offer (decode_of digits) ≡ Some (Size at 1 longest_offer)
long_size at digits bytes most ok =
    let size = (decode_of-ok digits bytes ok).2 in
    ap (octets_fault at 1 longest_offer) ok ∙ over at (length bytes) (omega (arith, most, size))
