-- What lines without a fault say one after another: sayings, their leg, and a script, which is valid.
use Rattle.std.proofs.Common.{◌≡◌, ◌∙◌, ℕ, ◌+◌, ◌≤◌, Bool, true, false, List, [], ◌∷◌, ◌++◌, length, ap, sym, subst}
use Rattle.std.proofs.Common.{arith, refl, length-append, Option, None, Some, Result, Ok, Err, drop, ◌/◌}
use Rattle.std.proofs.Common.{◌%◌, ◌<◌, ◌==◌, max, map, replicate, All, if◌then◌else◌}
use Rattle.std.specs.Prelude.{option_map}
use Rattle.std.proofs.lemmas.List.{append-nil, length-map}
use Rattle.std.proofs.lemmas.List.Concat.{flat_map-append}
use Rattle.text_lines.specs.WordsOfLine.{words, word_at, is_skipped}
use Rattle.text_lines.specs.Language.{said_from}
use Rattle.text_lines.specs.LanguageTable.{formed}
use Rattle.text_lines.proofs.TextLineAndWordLaws.{or_none, map_none}
use Rattle.law_model.specs.Common.{IsNetwork, leg_of, longest_input, IsValid, HasFewLosses, HasFailures, IsEvent}
use Rattle.law_model.specs.Common.{IsCount, greatest, greatest_slip, slip_of, after as after_event, frame_dues}
use Rattle.law_model.specs.Common.{command_dues, slip_after, most_count}
use Rattle.law_model.specs.declared.script_types.Config.{Config}
use Rattle.law_model.specs.declared.script_types.Script.{Script}
use Rattle.text_scripts.specs.declared.script_read.script_draft.Draft.{Draft}
use Rattle.text_scripts.specs.script_read.Statements.{words_fault, words_said, after}
use Rattle.text_scripts.specs.script_read.Script.{missing_line, config_fault}
use Rattle.text_scripts.specs.script_read.Drafts.{IsDraft}
use Rattle.law_live.specs.LiveSayings.{live_from, LineCourse, commands_in, frames_in, windows_by}
use Rattle.law_live.specs.WellSaid.{CanSayAll}
use Rattle.law_live.specs.Common.{CanSay, IsWellSaid, Live, Saying, live_after, live_of, opened}
use Rattle.law_live.proofs.AgreeingLegConversationLaws.{live-more}
use Rattle.text_live.specs.declared.live_keyword.EarlierPart.{EarlierPart}
use Rattle.text_live.specs.declared.live_keyword.FirstWord.{FirstWord}
use Rattle.text_live.specs.LiveLines.{Said, LineWrong, of_script, of_limits, of_live, setting, live_or, now_live}
use Rattle.text_live.specs.LiveLines.{opening_fault}
use Rattle.text_live.specs.LiveLines.{rest_fault, earlier_fault, fault_by, line_fault, first_of, live_told, told}
use Rattle.text_live.specs.LiveLines.{told_by, said_with, line_after, nothing_said, live_lines}
use Rattle.text_live.specs.LiveScript.{script_in, script_of_live}
use Rattle.text_live.specs.Sayings.{AgreesWith, AreFine, leg_in, line_saying, said_in}
use Rattle.text_live.specs.Sayings.{said_with_line, saying_of, sayings}
use Rattle.text_live.proofs.LiveCourseAndItemLaws.{HasLive, can_say, course_slip, failures-by, has_after, has_opened}
use Rattle.text_live.proofs.LiveCourseAndItemLaws.{live_later, network_of, slip-by}
use Rattle.text_live.proofs.LinesBehindLaws.{all_fine, all_speak, behind_more, fine_front, fine_less, fine_more, none_fine}
use Rattle.text_live.proofs.LinesBehindLaws.{says_all}
use Rattle.std.proofs.lemmas.Bool.Decides.{nat_tests}
use Rattle.std.proofs.lemmas.List.Elements.{All-append, All-replicate, All-map, All-cons}
use Rattle.law_model.specs.declared.script_types.EventLine.{EventLine}
use Rattle.law_model.specs.declared.script_types.EventLine.TheVariants.{Client, Operator, Round}
use Rattle.text_scripts.proofs.ScriptDraftGrowthLaws.{All-none, IsDraft-first, IsDraft-after}
use Rattle.text_scripts.proofs.StatementAndWordFaultLaws.{fits_words}
use Rattle.law_live.specs.ScriptOfSayings.{config_by, counted, events_by}
use Rattle.hex.specs.Hex.{decode_pairs}
use Rattle.law_live.specs.LiveAnswers.{answers, answers_from}
use Rattle.text_live.specs.WorkedLiveTexts.{frame_lines, frame_script, cut_lines, cut_script, refused_answers}
use Rattle.text_live.specs.WorkedLiveTexts.{refused_lines, begun_lines, lone_words, lone_faults, faults_behind}
use Rattle.text_live.specs.declared.live_keyword.FirstWord.TheVariants as first

-- ---- What is said of one way over its configuration, so that it can happen, and how it stands then.
pub record Stands (k : ℕ) (c : Config) (said : List Saying) (live : Live) : Type 0 where
  pub has : HasLive k c live
  pub each : CanSayAll c.ticks (opened c) said
  pub is : live ≡ live_of c said

pub stands_opened : (k : ℕ) (c : Config) → IsNetwork c → Stands k c [] (opened c)
unfolding CanSayAll live_from
stands_opened k c network = record { has = has_opened k c network; each = tt; is = refl }

pub stands_later : (k : ℕ) (c : Config) (said : List Saying) (live : Live) → Stands k c said live →
    Stands (k + 1) c said live
stands_later k c said live stands =
    record { has = live_later k c live stands.has; each = stands.each; is = stands.is }

-- ---- at most one thing more
can_more : (ticks : ℕ) (said more : List Saying) (live : Live) → CanSayAll ticks live said →
    CanSayAll ticks (live_from live said) more → CanSayAll ticks live (said ++ more)
unfolding CanSayAll live_from
can_more ticks [] more live all can = can
can_more ticks (s ∷ said) more live all can = (all.0, can_more ticks said more (live_after live s) all.1 can)

has_more : (k : ℕ) (c : Config) (live : Live) (more : List Saying) → length more ≤ 1 → HasLive k c live →
    CanSayAll c.ticks live more → HasLive (k + 1) c (live_from live more)
unfolding CanSayAll live_from
has_more k c live [] one has can = live_later k c live has
has_more k c live (s ∷ []) one has can = has_after k c live s has can.0
has_more k c live (s ∷ t ∷ more) one has can = absurd (omega (arith, one))

pub stands_more : (k : ℕ) (c : Config) (said more : List Saying) (live : Live) → length more ≤ 1 →
    Stands k c said live → CanSayAll c.ticks live more → Stands (k + 1) c (said ++ more) (live_from live more)
stands_more k c said more live one stands can = record {
  has = has_more k c live more one stands.has can;
  each = can_more c.ticks said more (opened c) stands.each
      (subst (λ (l : Live). CanSayAll c.ticks l more) stands.is can);
  is = ap (λ (l : Live). live_from l more) stands.is ∙ sym (live-more (opened c) said more);
}

stands_one : (k : ℕ) (c : Config) (said : List Saying) (saying : Saying) (live : Live) → Stands k c said live →
    CanSay c.ticks live saying → Stands (k + 1) c (said ++ saying ∷ []) (live_after live saying)
unfolding CanSayAll live_from
stands_one k c said saying live stands can = stands_more k c said (saying ∷ []) live (omega arith) stands (can, tt)

-- ---- What lines without a fault say, one after another.
abbrev pub StandsIf : ℕ → Config → List Saying → Option Live → Type 0
StandsIf k c said None = said ≡ []
StandsIf k c said (Some live) = Stands k c said live

pub record Speaks (k : ℕ) (s : Said) (said : List Saying) : Type 0 where
  pub draft : IsDraft s.settings
  pub stands : StandsIf k s.settings.config said s.live
  pub few : length said ≤ k

opening : (k : ℕ) (d : Draft) (said : List Saying) (live : Option Live) → IsDraft d →
    StandsIf k d.config said live → opening_fault live d ≡ None → Stands k d.config said (live_or live d.config)
opening k d said (Some live) is stands none = stands
opening k d said None is stands none =
    let parts = or_none (option_map of_script (missing_line d)) (option_map of_limits (config_fault d.config)) none in
    subst (λ (said : List Saying). Stands k d.config said (opened d.config)) (sym stands)
    (stands_opened k d.config (network_of d is (map_none of_script (missing_line d) parts.0)
    (map_none of_limits (config_fault d.config) parts.1)))

-- ---- one more line, which says nothing that happens
later : (k : ℕ) (c : Config) (said : List Saying) (live : Option Live) → StandsIf k c said live →
    StandsIf (k + 1) c said live
later k c said None stands = stands
later k c said (Some live) stands = stands_later k c said live stands

silent : (k : ℕ) (s : Said) (said : List Saying) → Speaks k s said → Speaks k s (said ++ [])
silent k s said speaks = subst (Speaks k s) (sym (append-nil said)) speaks

by_earlier : (k n : ℕ) (d : Draft) (live : Option Live) (p : EarlierPart) (ws : List (List ℕ)) (said : List Saying) →
    Speaks k (record { settings = d; live = live }) said → earlier_fault live d p ws ≡ None →
    Speaks (k + 1) (record { settings = after n d (words_said ws); live = live }) said
by_earlier k n d (Some live) p ws said speaks none = absurd cc
by_earlier k n d None p ws said speaks none = record {
  draft = IsDraft-after n d (words_said ws) speaks.draft
      (fits_words d ws speaks.draft (map_none of_script (words_fault d ws) none));
  stands = speaks.stands;
  few = omega (arith, speaks.few);
}

-- ---- or any
by_first : (k n : ℕ) (s : Said) (ws : List (List ℕ)) (f : FirstWord) (said : List Saying) → Speaks k s said →
    fault_by s ws f ≡ None → Speaks (k + 1) (said_with n s ws (told_by ws f)) (said ++ saying_of (told_by ws f))
by_first k n s ws (first.Earlier p) said speaks none =
    silent (k + 1) (said_with n s ws setting) said (by_earlier k n s.settings s.live p ws said speaks none)
by_first k n s ws (first.Live w) said speaks none =
    let c : Config = s.settings.config in
    let parts = or_none (opening_fault s.live s.settings)
    (option_map of_live (rest_fault c (now_live s) w (drop 1 ws))) none in
    let begun = opening k s.settings said s.live speaks.draft speaks.stands parts.0 in
    record {
      draft = speaks.draft;
      stands = stands_one k c said (live_told w (drop 1 ws)) (now_live s) begun
          (can_say k c (now_live s) w (drop 1 ws) begun.has
          (map_none of_live (rest_fault c (now_live s) w (drop 1 ws)) parts.1));
      few = omega (arith, speaks.few, length-append said (live_told w (drop 1 ws) ∷ []));
    }
by_first k n s ws first.Other said speaks none = absurd cc

by_skip : (k n : ℕ) (s : Said) (ws : List (List ℕ)) (skipped : Bool) (said : List Saying) → is_skipped ws ≡ skipped →
    Speaks k s said → line_fault s ws ≡ None → Speaks (k + 1) (line_after n s ws) (said ++ saying_of (told ws))
by_skip k n s ws true said is speaks none =
    rw is
    (silent (k + 1) s said
    (record {
      draft = speaks.draft;
      stands = later k s.settings.config said s.live speaks.stands;
      few = omega (arith, speaks.few);
    }))
by_skip k n s ws false said is speaks none =
    rw is (by_first k n s ws (first_of (word_at 0 ws)) said speaks (rw is at none))

-- ---- all lines
pub speaks_in : (ls : List (List ℕ)) → AreFine nothing_said ls → Speaks (length ls) (said_in ls) (sayings ls)
speaks_in ls fine =
    all_speak live_lines line_saying Speaks
    (λ k n s line said. by_skip k n s (words line) (is_skipped (words line)) said refl) ls
    (record { draft = IsDraft-first; stands = refl; few = omega arith }) fine

agrees_by : (k : ℕ) (s : Said) (said : List Saying) (live : Option Live) → StandsIf k s.settings.config said live →
    length said ≤ longest_input → AgreesWith s said live
agrees_by k s said None stands few = stands
agrees_by k s said (Some live) stands few =
    (stands.has.network, record { each = stands.each; few = few }, stands.is)

pub lines_agree : (ls : List (List ℕ)) → AreFine nothing_said ls → length ls ≤ longest_input →
    AgreesWith (said_in ls) (sayings ls) (said_in ls).live
lines_agree ls fine few =
    let speaks = speaks_in ls fine in
    agrees_by (length ls) (said_in ls) (sayings ls) (said_in ls).live speaks.stands (omega (arith, few, speaks.few))

-- and so at their end, where nothing is missing
pub record IsAllSaid (c : Config) (live : Live) (said : List Saying) : Type 0 where
  pub network : IsNetwork c
  pub well : IsWellSaid c said
  pub stands : live ≡ live_of c said

end_stands : (ls : List (List ℕ)) → AreFine nothing_said ls →
    opening_fault (said_in ls).live (said_in ls).settings ≡ None →
    Stands (length ls) (said_in ls).settings.config (sayings ls) (now_live (said_in ls))
end_stands ls fine whole =
    let s : Said = said_in ls in
    let speaks = speaks_in ls fine in
    opening (length ls) s.settings (sayings ls) s.live speaks.draft speaks.stands whole

pub all_said : (ls : List (List ℕ)) → AreFine nothing_said ls → length ls ≤ longest_input →
    opening_fault (said_in ls).live (said_in ls).settings ≡ None →
    IsAllSaid (said_in ls).settings.config (now_live (said_in ls)) (sayings ls)
all_said ls fine few whole =
    let stands = end_stands ls fine whole in
    record {
      network = stands.has.network;
      well = record { each = stands.each; few = omega (arith, few, (speaks_in ls fine).few) };
      stands = stands.is;
    }

-- ---- behind a live line the configuration stays, and live lines have begun
pub record IsSettled (s now : Said) : Type 0 where
  pub settings : now.settings ≡ s.settings
  pub live : Live
  pub begun : now.live ≡ Some live

settled_first : (n : ℕ) (s : Said) (ws : List (List ℕ)) (f : FirstWord) (live : Live) → s.live ≡ Some live →
    fault_by s ws f ≡ None → IsSettled s (said_with n s ws (told_by ws f))
settled_first n s ws (first.Earlier p) live is none =
    absurd (let no = subst (λ (l : Option Live). earlier_fault l s.settings p ws ≡ None) is none in cc)
settled_first n s ws (first.Live w) live is none =
    record { settings = refl; live = live_after (now_live s) (live_told w (drop 1 ws)); begun = refl }
settled_first n s ws first.Other live is none = absurd cc

settled_skip : (n : ℕ) (s : Said) (ws : List (List ℕ)) (skipped : Bool) (live : Live) → is_skipped ws ≡ skipped →
    s.live ≡ Some live → line_fault s ws ≡ None → IsSettled s (line_after n s ws)
settled_skip n s ws true live skips is none = rw skips (record { settings = refl; live = live; begun = is })
settled_skip n s ws false live skips is none =
    rw skips (settled_first n s ws (first_of (word_at 0 ws)) live is (rw skips at none))

pub settled : (n : ℕ) (s : Said) (line : List ℕ) (live : Live) → s.live ≡ Some live →
    line_fault s (words line) ≡ None → IsSettled s (said_with_line n s line)
settled n s line live is none = settled_skip n s (words line) (is_skipped (words line)) live refl is none

-- ---- one line more
pub nothing_fine : AreFine nothing_said []
nothing_fine = none_fine live_lines 1 nothing_said

pub more_fine : (ls : List (List ℕ)) (line : List ℕ) → AreFine nothing_said ls →
    line_fault (said_in ls) (words line) ≡ None → AreFine nothing_said (ls ++ line ∷ [])
more_fine = fine_more live_lines 1 nothing_said

pub less_fine : (ls : List (List ℕ)) (line : List ℕ) → AreFine nothing_said (ls ++ line ∷ []) →
    AreFine nothing_said ls × (line_fault (said_in ls) (words line) ≡ None)
less_fine = fine_less live_lines 1 nothing_said

pub front_fine : (ls more : List (List ℕ)) → AreFine nothing_said (ls ++ more) → AreFine nothing_said ls
front_fine = fine_front live_lines 1 nothing_said

pub said_next : (ls : List (List ℕ)) (line : List ℕ) →
    said_in (ls ++ line ∷ []) ≡ said_with_line (length ls + 1) (said_in ls) line
said_next = behind_more live_lines 1 nothing_said

pub sayings_next : (ls : List (List ℕ)) (line : List ℕ) → sayings (ls ++ line ∷ []) ≡ sayings ls ++ line_saying line
sayings_next ls line =
    flat_map-append line_saying ls (line ∷ []) ∙ ap (λ (l : List Saying). sayings ls ++ l) (append-nil (line_saying line))

-- ---- their script
abbrev IsMade : ℕ → List (List ℕ) → Script → Type 0
IsMade rounds ls script =
    AreFine nothing_said ls × (opening_fault (said_in ls).live (said_in ls).settings ≡ None)
    × (script_in rounds (said_in ls) ≡ script)

made_by : (rounds : ℕ) (ls : List (List ℕ)) (script : Script) (said : Result Said (ℕ × LineWrong)) →
    said_from live_lines 1 nothing_said ls ≡ said → formed (script_in rounds) said ≡ Ok script → IsMade rounds ls script
made_by rounds ls script (Err at) is e = absurd cc
made_by rounds ls script (Ok now) is e =
    let fine = all_fine live_lines 1 nothing_said now ls is in
    let made : script_in rounds now ≡ script = cc in
    (fine.0, fine.1, ap (script_in rounds) fine.2 ∙ made)

made_of : (rounds : ℕ) (ls : List (List ℕ)) (script : Script) → script_of_live rounds ls ≡ Ok script →
    IsMade rounds ls script
made_of rounds ls script e = made_by rounds ls script (said_from live_lines 1 nothing_said ls) refl e

pub leg_live : (rounds : ℕ) (ls : List (List ℕ)) (script : Script) → script_of_live rounds ls ≡ Ok script →
    leg_of script ≡ leg_in ls
leg_live rounds ls script e = sym (ap leg_of (made_of rounds ls script e).2)

pub script_live : (rounds : ℕ) (ls : List (List ℕ)) → AreFine nothing_said ls →
    opening_fault (said_in ls).live (said_in ls).settings ≡ None →
    script_of_live rounds ls ≡ Ok (script_in rounds (said_in ls))
script_live rounds ls fine whole =
    ap (λ (said : Result Said (ℕ × LineWrong)). formed (script_in rounds) said)
    (says_all live_lines 1 nothing_said ls fine whole)

-- ---- The script of what lines without a fault say can be walked.
-- ---- the configuration
same_slips : (passed : ℕ) (courses : List LineCourse) →
    map slip_of (map (windows_by passed) courses) ≡ map course_slip courses
same_slips passed [] = refl
same_slips passed (course ∷ courses) =
    ap (λ (n : ℕ). n ∷ map slip_of (map (windows_by passed) courses)) (slip-by passed course)
    ∙ ap (λ (ns : List ℕ). course_slip course ∷ ns) (same_slips passed courses)

greatest_same : (k : ℕ) (c : Config) (live : Live) → HasLive k c live →
    greatest_slip (config_by c live).windows ≡ greatest_slip c.windows
greatest_same k c live has = ap greatest (same_slips live.passed live.courses ∙ has.slips)

network_by : (k : ℕ) (c : Config) (live : Live) → HasLive k c live → IsNetwork (config_by c live)
network_by k c live has =
    let same = greatest_same k c live has in
    record {
      lines = has.network.lines;
      delay_each = has.network.delay_each;
      delays = has.network.delays;
      windows_each = length-map live.courses (windows_by live.passed) ∙ has.count;
      windows = All-map (HasFailures c.ticks) (windows_by live.passed) live.courses
          (λ i d within. failures-by c.ticks live.passed _ has.passed (has.courses i d within));
      lost = has.network.lost;
      ring = has.network.ring;
      lag = has.network.lag;
      ticks = has.network.ticks;
      size = has.network.size;
      options = has.network.options;
      fits_ring = omega (arith, same, has.network.fits_ring);
      fits_lag = omega (arith, same, has.network.fits_lag);
    }

-- ---- the events
rest_counts : (lines : ℕ) (line : ℕ → EventLine) (n : ℕ) (whole : Bool) → (n == 0) ≡ whole → n < most_count →
    ((m : ℕ) → IsCount m → IsEvent lines (line m)) →
    All (IsEvent lines) (if whole then [] else line n ∷ [])
rest_counts lines line n true is low each = All-none _
rest_counts lines line n false is low each =
    let some : 1 ≤ n = grind (arith, nat_tests, is) in
    All-cons (IsEvent lines) (line n) [] (each n (some, omega (arith, low))) (All-none _)

counts : (lines : ℕ) (line : ℕ → EventLine) (n : ℕ) → ((m : ℕ) → IsCount m → IsEvent lines (line m)) →
    All (IsEvent lines) (counted line n)
counts lines line n each =
    All-append (IsEvent lines) (replicate (n / most_count) (line most_count))
    (if n % most_count == 0 then [] else line (n % most_count) ∷ [])
    (All-replicate (IsEvent lines) (n / most_count) (line most_count) (each most_count (omega arith, omega arith)))
    (rest_counts lines line (n % most_count) (n % most_count == 0) refl (omega arith) each)

events : (lines rounds : ℕ) (live : Live) → All (IsEvent lines) (events_by rounds live)
events lines rounds live =
    All-append (IsEvent lines) (counted Round rounds ++ counted Client (max 1 (frames_in live)))
    (counted Operator (max 1 (commands_in live)))
    (All-append (IsEvent lines) (counted Round rounds) (counted Client (max 1 (frames_in live)))
    (counts lines Round rounds (λ m is. is))
    (counts lines Client (max 1 (frames_in live)) (λ m is. is)))
    (counts lines Operator (max 1 (commands_in live)) (λ m is. is))

-- ---- the script
pub valid_by : (k : ℕ) (c : Config) (live : Live) (order : List EventLine) → HasLive k c live → k ≤ longest_input →
    All (IsEvent c.lines) order →
    IsValid (record { config = config_by c live; items = live.items; events = order })
valid_by k c live order has few are = record {
  sound = record {
    network = network_by k c live has;
    items = has.items.are;
    few = omega (arith, few, has.few);
  };
  events = are;
}

pub valid_live : (rounds : ℕ) (ls : List (List ℕ)) (script : Script) → length ls ≤ longest_input →
    script_of_live rounds ls ≡ Ok script → IsValid script
valid_live rounds ls script few e =
    let made = made_of rounds ls script e in
    let s : Said = said_in ls in
    subst IsValid made.2
    (valid_by (length ls) s.settings.config (now_live s) (events_by rounds (now_live s))
    (end_stands ls made.0 made.1).has few (events s.settings.config.lines rounds (now_live s)))

pub few_lost_live : (rounds : ℕ) (ls : List (List ℕ)) (script : Script) → script_of_live rounds ls ≡ Ok script →
    HasFewLosses script
few_lost_live rounds ls script e =
    let made = made_of rounds ls script e in
    subst HasFewLosses made.2 (speaks_in ls made.0).draft.config.few_lost

-- ---- The worked texts, by computation.
pub frame_worked : script_of_live 43 frame_lines ≡ Ok frame_script
unfolding decode_pairs words said_from frame_dues command_dues slip_after
frame_worked = refl

pub cut_worked : script_of_live 326 cut_lines ≡ Ok cut_script
unfolding words said_from frame_dues command_dues slip_after
cut_worked = refl

pub refused_worked : answers (leg_in refused_lines) (sayings refused_lines) ≡ refused_answers
unfolding decode_pairs words answers_from after_event frame_dues command_dues
refused_worked = refl

pub lone_worked : faults_behind begun_lines lone_words ≡ map (λ fault. Some (of_live fault)) lone_faults
unfolding words
lone_worked = refl
