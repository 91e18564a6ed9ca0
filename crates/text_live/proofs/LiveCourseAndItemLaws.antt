-- What lines without a fault say all along: courses, failures and items that fit the configuration.
use Rattle.std.proofs.Common.{◌≡◌, ℕ, zero, suc, ◌+◌, ◌-◌, ◌<◌, ◌≤◌, max, nat_lt, Bool, true, false, List, [], ◌∷◌}
use Rattle.std.proofs.Common.{◌++◌, length, map, ap, ◌∙◌, arith, refl, slice_index_or, if◌then◌else◌, inl, inr, Option}
use Rattle.std.proofs.Common.{None, Some, sym, subst, All, ◌==◌, nat_le, slice_set, is_some}
use Rattle.std.proofs.Common.{is_none, ltb-false, leb-false}
use Rattle.std.proofs.lemmas.List.{length-append, append-nil, length-set, length-map, get_or-map}
use Rattle.std.proofs.lemmas.List.Elements.{All-push, All-set, All-get_or, All-map}
use Rattle.law_model.specs.Common.{AreWindows, slip_after, slip_of, HasFailures, Due, frame_due, command_due, due_of}
use Rattle.law_model.specs.Common.{dues_of, frame_dues, command_dues, IsItem, IsKind, AreItems, IsNetwork}
use Rattle.law_model.specs.declared.window_types.Window.{Window}
use Rattle.text_scripts.specs.script_read.Statements.{last_end}
use Rattle.std.proofs.lemmas.Bool.{cases_lt, lt-ltb, le-ltb}
use Rattle.law_live.specs.LiveSayings.{LineCourse, closed, cut_at, uncut, windows_by, Live, course_at, cuts, lands}
use Rattle.law_live.specs.LiveSayings.{live_after, mends, opened, passes, with_course}
use Rattle.std.specs.List.Sorted.{IsNonDecreasing}
use Rattle.law_model.specs.declared.script_types.Item.{Item}
use Rattle.law_model.specs.declared.script_types.ItemKind.{ItemKind}
use Rattle.text_scripts.proofs.ScriptDraftGrowthLaws.{All-none, rising-none, rising-one, most-one, most-up, frames-one}
use Rattle.text_scripts.proofs.ScriptDraftGrowthLaws.{commands-one, IsValid-draft}
use Rattle.std.specs.Prelude.{IsSome}
use Rattle.std.proofs.lemmas.Bool.Decides.{nat_tests}
use Rattle.std.specs.Option.{option_or}
use Rattle.text_lines.specs.WordsOfLine.{word_at, number_of}
use Rattle.text_lines.specs.Fields.{Field, within, digits, where_true, field_fault}
use Rattle.text_lines.proofs.TextLineAndWordLaws.{or_none, where_none, map_none, number_ok, digits_ok}
use Rattle.law_model.specs.declared.script_types.Config.{Config}
use Rattle.text_scripts.specs.declared.script_read.script_draft.Draft.{Draft}
use Rattle.text_scripts.specs.script_read.Script.{missing_line, config_fault}
use Rattle.text_scripts.specs.script_read.Drafts.{IsDraft}
use Rattle.text_scripts.proofs.ScriptLineAndFirstFaultLaws.{whole_config}
use Rattle.text_live.specs.declared.live_keyword.LiveKeyword.{LiveKeyword}
use Rattle.law_live.specs.Common.{CanCut, CanSay, IsOfLine, Saying}
use Rattle.law_live.proofs.WellSaidLegAndWindowLaws.{ends-last}
use Rattle.text_live.specs.LiveLines.{count_by, ended_fault, cut_fault, mend_fault, own_fault, word_fault, value_fault}
use Rattle.text_live.specs.LiveLines.{count_fault, rest_fault, live_said, live_told}
use Rattle.law_model.specs.declared.script_types.ItemKind.TheVariants as kind
use Rattle.text_live.specs.declared.live_keyword.LiveKeyword.TheVariants as word
use Rattle.text_live.specs.declared.live_fault.LiveLineFault.TheVariants as wrong
use Rattle.law_model.specs.Common.{longest_offer, longest_slip, most_windows}

-- ---- One more failure of a line, behind all those before it, of which no container vanishes.
-- ---- its end
end_from : ℕ → List Window → ℕ
end_from end [] = end
end_from end (window ∷ windows) = end_from window.end windows

end-at : (end : ℕ) (ws : List Window) (i : ℕ) → i + 1 ≡ length ws →
    slice_index_or (map (λ (w : Window). w.end) ws) i 0 ≡ end_from end ws
unfolding end_from
end-at end (w ∷ []) zero size = refl
end-at end (w ∷ v ∷ ws) (suc i) size = end-at w.end (v ∷ ws) i (omega arith)
end-at end ws i size = absurd (omega arith)

end-is : (ws : List Window) → last_end ws ≡ end_from 0 ws
unfolding end_from
end-is [] = refl
end-is (w ∷ ws) = end-at 0 (w ∷ ws) (length (w ∷ ws) - 1) (omega arith)

end-more : (end : ℕ) (ws : List Window) (w : Window) → end_from end (ws ++ w ∷ []) ≡ w.end
unfolding end_from
end-more end [] w = refl
end-more end (v ∷ ws) w = end-more v.end ws w

pub last_end-one : (ws : List Window) (w : Window) → last_end (ws ++ w ∷ []) ≡ w.end
last_end-one ws w = end-is (ws ++ w ∷ []) ∙ end-more 0 ws w

-- ---- its place
windows-more : (end : ℕ) (ws : List Window) (w : Window) → AreWindows end ws → end_from end ws ≤ w.first →
    w.slip + w.first < w.end → AreWindows end (ws ++ w ∷ [])
unfolding end_from AreWindows
windows-more end [] w are later some = (later, some, tt)
windows-more end (v ∷ ws) w are later some = (are.0, are.1, windows-more v.end ws w are.2 later some)

abbrev pub failure : ℕ → ℕ → Window
failure start end = record { first = start; end = end; slip = 0 }

pub failures-one : (ticks : ℕ) (ws : List Window) (start end : ℕ) → HasFailures ticks ws → last_end ws ≤ start →
    start < end → end ≤ ticks → length ws < most_windows → HasFailures ticks (ws ++ failure start end ∷ [])
failures-one ticks ws start end has later some ends few = record {
  few = omega (arith, few, length-append ws (failure start end ∷ []));
  apart = windows-more 0 ws (failure start end) has.apart (omega (arith, later, end-is ws)) (omega (arith, some));
  ends = All-push (λ (w : Window). w.end ≤ ticks) ws (failure start end) has.ends ends;
  slips = All-push (λ (w : Window). w.slip ≤ longest_slip) ws (failure start end) has.slips (omega arith);
}

-- ---- its slip
no_more : (run : ℕ) (near : Bool) → max run (if near then run + 0 else 0) ≡ run
no_more run true = omega arith
no_more run false = omega arith

slip-more : (run last : ℕ) (ws : List Window) (start end : ℕ) →
    slip_after run last (ws ++ failure start end ∷ []) ≡ slip_after run last ws
unfolding slip_after
slip-more run last [] start end = no_more run (nat_lt start (last + 17))
slip-more run last (w ∷ ws) start end =
    ap (max run) (slip-more (if nat_lt w.first (last + 17) then run + w.slip else w.slip) w.end ws start end)

pub slip-one : (ws : List Window) (start end : ℕ) → slip_of (ws ++ failure start end ∷ []) ≡ slip_of ws
slip-one ws start end = slip-more 0 0 ws start end

-- ---- What a line of the group meets all along, and what its failures are once the last of them ends.
-- ---- of one line
-- a failure that isn't over begins behind all others, and there is room for it
abbrev pub IsCut : ℕ → ℕ → List Window → Option ℕ → Type 0
IsCut ticks passed windows None = Unit {0}
IsCut ticks passed windows (Some start) =
    (start ≤ passed) × (start < ticks) × (last_end windows ≤ start) × (length windows < most_windows)

pub record HasCourse (ticks passed : ℕ) (course : LineCourse) : Type 0 where
  pub failures : HasFailures ticks course.windows
  pub cut : IsCut ticks passed course.windows course.cut

-- ---- its failures where one ends now
closed-failures : (ticks passed : ℕ) (windows : List Window) (cut : Option ℕ) → passed ≤ ticks →
    HasFailures ticks windows → IsCut ticks passed windows cut → HasFailures ticks (closed passed windows cut)
closed-failures ticks passed windows None inside has cut = has
closed-failures ticks passed windows (Some start) inside has cut =
    elim (cases_lt start passed) [
      | inl less ↦ rw (lt-ltb start passed less)
          (failures-one ticks windows start passed has cut.2 less inside cut.3)
      | inr least ↦ rw (le-ltb start passed least) has
    ]

closed-slip : (passed : ℕ) (windows : List Window) (cut : Option ℕ) →
    slip_of (closed passed windows cut) ≡ slip_of windows
closed-slip passed windows None = refl
closed-slip passed windows (Some start) =
    elim (cases_lt start passed) [
      | inl less ↦ rw (lt-ltb start passed less) (slip-one windows start passed)
      | inr least ↦ rw (le-ltb start passed least) refl
    ]

pub failures-by : (ticks passed : ℕ) (course : LineCourse) → passed ≤ ticks → HasCourse ticks passed course →
    HasFailures ticks (windows_by passed course)
failures-by ticks passed course inside has =
    closed-failures ticks passed course.windows course.cut inside has.failures has.cut

pub slip-by : (passed : ℕ) (course : LineCourse) → slip_of (windows_by passed course) ≡ slip_of course.windows
slip-by passed course = closed-slip passed course.windows course.cut

-- ---- it goes on
later-cut : (ticks passed more : ℕ) (windows : List Window) (cut : Option ℕ) → IsCut ticks passed windows cut →
    IsCut ticks (passed + more) windows cut
later-cut ticks passed more windows None cut = tt
later-cut ticks passed more windows (Some start) cut = (omega (arith, cut.0), cut.1, cut.2, cut.3)

pub later-course : (ticks passed more : ℕ) (course : LineCourse) → HasCourse ticks passed course →
    HasCourse ticks (passed + more) course
later-course ticks passed more course has =
    record { failures = has.failures; cut = later-cut ticks passed more course.windows course.cut has.cut }

pub cut-course : (ticks passed : ℕ) (course : LineCourse) → HasCourse ticks passed course → passed < ticks →
    last_end course.windows ≤ passed → length course.windows < most_windows → HasCourse ticks passed (cut_at passed course)
cut-course ticks passed course has less later few =
    record { failures = has.failures; cut = (omega arith, less, later, few) }

pub mended-course : (ticks passed : ℕ) (course : LineCourse) → passed ≤ ticks → HasCourse ticks passed course →
    HasCourse ticks passed (uncut (windows_by passed course))
mended-course ticks passed course inside has =
    record { failures = failures-by ticks passed course inside has; cut = tt }

-- ---- One more item behind those before it, due in the tick in which it is said.
-- items so far: none is due after now
pub record HasItems (ticks passed : ℕ) (items : List Item) : Type 0 where
  pub are : AreItems ticks items
  pub frames : All (λ due. due ≤ passed) (frame_dues (dues_of items))
  pub commands : All (λ due. due ≤ passed) (command_dues (dues_of items))

pub no_items : (ticks passed : ℕ) → HasItems ticks passed []
unfolding frame_dues command_dues
no_items ticks passed = record {
  are = record { each = All-none _; frames = rising-none; commands = rising-none };
  frames = All-none _;
  commands = All-none _;
}

pub later_items : (ticks passed more : ℕ) (items : List Item) → HasItems ticks passed items →
    HasItems ticks (passed + more) items
later_items ticks passed more items has = record {
  are = has.are;
  frames = most-up (frame_dues (dues_of items)) passed (passed + more) has.frames (omega arith);
  commands = most-up (command_dues (dues_of items)) passed (passed + more) has.commands (omega arith);
}

abbrev pub due_now : ℕ → ItemKind → Item
due_now passed k = record { due = passed; kind = k }

-- ---- a frame
frame-frames : (items : List Item) (it : Item) → due_of it.due it.kind ≡ frame_due it.due →
    frame_dues (dues_of (items ++ it ∷ [])) ≡ frame_dues (dues_of items) ++ it.due ∷ []
unfolding frame_dues
frame-frames items it kind =
    frames-one items it ∙ ap (λ (due : Due). frame_dues (dues_of items) ++ frame_dues (due ∷ [])) kind

frame-commands : (items : List Item) (it : Item) → due_of it.due it.kind ≡ frame_due it.due →
    command_dues (dues_of (items ++ it ∷ [])) ≡ command_dues (dues_of items)
unfolding command_dues
frame-commands items it kind =
    commands-one items it ∙ ap (λ (due : Due). command_dues (dues_of items) ++ command_dues (due ∷ [])) kind
    ∙ append-nil (command_dues (dues_of items))

-- ---- a command
command-frames : (items : List Item) (it : Item) → due_of it.due it.kind ≡ command_due it.due →
    frame_dues (dues_of (items ++ it ∷ [])) ≡ frame_dues (dues_of items)
unfolding frame_dues
command-frames items it kind =
    frames-one items it ∙ ap (λ (due : Due). frame_dues (dues_of items) ++ frame_dues (due ∷ [])) kind
    ∙ append-nil (frame_dues (dues_of items))

command-commands : (items : List Item) (it : Item) → due_of it.due it.kind ≡ command_due it.due →
    command_dues (dues_of (items ++ it ∷ [])) ≡ command_dues (dues_of items) ++ it.due ∷ []
unfolding command_dues
command-commands items it kind =
    commands-one items it ∙ ap (λ (due : Due). command_dues (dues_of items) ++ command_dues (due ∷ [])) kind

-- ---- the items with it
one_frame : (ticks passed : ℕ) (items : List Item) (it : Item) → HasItems ticks passed items → it.due ≡ passed →
    IsItem ticks it → due_of it.due it.kind ≡ frame_due it.due → HasItems ticks passed (items ++ it ∷ [])
one_frame ticks passed items it has now is kind =
    let frames : frame_dues (dues_of (items ++ it ∷ [])) ≡ frame_dues (dues_of items) ++ it.due ∷ [] =
    frame-frames items it kind in
    let commands : command_dues (dues_of (items ++ it ∷ [])) ≡ command_dues (dues_of items) =
    frame-commands items it kind in
    let most : All (λ due. due ≤ it.due) (frame_dues (dues_of items)) =
    subst (λ (n : ℕ). All (λ due. due ≤ n) (frame_dues (dues_of items))) (sym now) has.frames in
    record {
      are = record {
        each = All-push (IsItem ticks) items it has.are.each is;
        frames = subst IsNonDecreasing (sym frames)
            (rising-one (frame_dues (dues_of items)) it.due has.are.frames most);
        commands = subst IsNonDecreasing (sym commands) has.are.commands;
      };
      frames = subst (All (λ due. due ≤ passed)) (sym frames)
          (subst (λ (n : ℕ). All (λ due. due ≤ n) (frame_dues (dues_of items) ++ it.due ∷ [])) now
          (most-one (frame_dues (dues_of items)) passed it.due has.frames (omega (arith, now))));
      commands = subst (All (λ due. due ≤ passed)) (sym commands) has.commands;
    }

one_command : (ticks passed : ℕ) (items : List Item) (it : Item) → HasItems ticks passed items → it.due ≡ passed →
    IsItem ticks it → due_of it.due it.kind ≡ command_due it.due → HasItems ticks passed (items ++ it ∷ [])
one_command ticks passed items it has now is kind =
    let frames : frame_dues (dues_of (items ++ it ∷ [])) ≡ frame_dues (dues_of items) =
    command-frames items it kind in
    let commands : command_dues (dues_of (items ++ it ∷ [])) ≡ command_dues (dues_of items) ++ it.due ∷ [] =
    command-commands items it kind in
    let most : All (λ due. due ≤ it.due) (command_dues (dues_of items)) =
    subst (λ (n : ℕ). All (λ due. due ≤ n) (command_dues (dues_of items))) (sym now) has.commands in
    record {
      are = record {
        each = All-push (IsItem ticks) items it has.are.each is;
        frames = subst IsNonDecreasing (sym frames) has.are.frames;
        commands = subst IsNonDecreasing (sym commands)
            (rising-one (command_dues (dues_of items)) it.due has.are.commands most);
      };
      frames = subst (All (λ due. due ≤ passed)) (sym frames) has.frames;
      commands = subst (All (λ due. due ≤ passed)) (sym commands)
          (subst (λ (n : ℕ). All (λ due. due ≤ n) (command_dues (dues_of items) ++ it.due ∷ [])) now
          (most-one (command_dues (dues_of items)) passed it.due has.commands (omega (arith, now))));
    }

pub one_item : (ticks passed : ℕ) (items : List Item) (k : ItemKind) → HasItems ticks passed items → passed < ticks →
    IsKind k → HasItems ticks passed (items ++ due_now passed k ∷ [])
one_item ticks passed items (kind.Frame octets) has less is =
    one_frame ticks passed items (due_now passed (kind.Frame octets)) has refl (less, is) refl
one_item ticks passed items k has less is =
    one_command ticks passed items (due_now passed k) has refl (less, is) refl

-- ---- What lines without a fault say all along: a configuration that can be walked, and live lines that fit it.
-- ---- live lines
abbrev pub course_slip : LineCourse → ℕ
course_slip course = slip_of course.windows

pub record HasLive (k : ℕ) (c : Config) (live : Live) : Type 0 where
  pub network : IsNetwork c
  pub passed : live.passed ≤ c.ticks
  pub count : length live.courses ≡ c.lines
  pub courses : All (HasCourse c.ticks live.passed) live.courses
  pub slips : map course_slip live.courses ≡ map slip_of c.windows
  pub items : HasItems c.ticks live.passed live.items
  pub few : length live.items ≤ k

-- ---- the first of them
-- a draft without its items
bare : Draft → Draft
bare d = record d { items = []; frame_due = 0; command_due = 0 }

is_bare : (d : Draft) → IsDraft d → IsDraft (bare d)
unfolding bare frame_dues command_dues
is_bare d is = record {
  config = is.config;
  no_items = λ at. refl;
  items = record { each = All-none _; frames = rising-none; commands = rising-none };
  few = omega arith;
  frame_due = All-none _;
  command_due = All-none _;
  no_events = is.no_events;
  events = is.events;
}

pub network_of : (d : Draft) → IsDraft d → missing_line d ≡ None → config_fault d.config ≡ None → IsNetwork d.config
unfolding bare
network_of d is whole none =
    (IsValid-draft (bare d) (is_bare d is) (whole_config d whole) none).sound.network

uncut_slips : (lists : List (List Window)) → map course_slip (map uncut lists) ≡ map slip_of lists
uncut_slips [] = refl
uncut_slips (ws ∷ lists) = ap (λ (ns : List ℕ). slip_of ws ∷ ns) (uncut_slips lists)

pub has_opened : (k : ℕ) (c : Config) → IsNetwork c → HasLive k c (opened c)
has_opened k c network = record {
  network = network;
  passed = omega arith;
  count = length-map c.windows uncut ∙ network.windows_each;
  courses = All-map (HasCourse c.ticks 0) uncut c.windows
      (λ i d low. record { failures = network.windows i d low; cut = tt });
  slips = uncut_slips c.windows;
  items = no_items c.ticks 0;
  few = omega arith;
}

-- ---- what the word of a live line says that has no fault
pub word_fine : (f : Field) (at : ℕ) (w : List ℕ) → word_fault f at w ≡ None → field_fault f at 0 w ≡ None
word_fine f at w none = map_none wrong.Field (field_fault f at 0 w) none

pub goes_on : (ticks passed : ℕ) → passed ≤ ticks → ended_fault ticks passed ≡ None → passed < ticks
goes_on ticks passed most none =
    let other : (passed == ticks) ≡ false = where_none (passed == ticks) wrong.LastTick none in
    let less : passed < ticks = grind (arith, nat_tests, other, most) in less

-- ---- what can be said of a line of the group
-- a line of the group by its number
pub line_within : (c : Config) (live : Live) (m : ℕ) (k : ℕ) → HasLive k c live → m ≤ c.lines - 1 → m < length live.courses
line_within c live m k has less = omega (arith, less, has.count, has.network.lines.0)

is_uncut : (cut : Option ℕ) → is_some cut ≡ false → cut ≡ None
is_uncut None none = refl
is_uncut (Some start) none = absurd cc

is_cut : (cut : Option ℕ) → is_none cut ≡ false → IsSome cut
is_cut None none = absurd cc
is_cut (Some start) none = refl

course_of : (k : ℕ) (c : Config) (live : Live) (m : ℕ) → HasLive k c live → m < length live.courses →
    HasCourse c.ticks live.passed (course_at live m)
course_of k c live m has low = All-get_or (HasCourse c.ticks live.passed) live.courses m (uncut []) low has.courses

can_cut : (k : ℕ) (c : Config) (live : Live) (m : ℕ) → HasLive k c live → m < length live.courses →
    cut_fault c.ticks live.passed m (course_at live m) ≡ None →
    IsOfLine c.ticks live m × CanCut live.passed (course_at live m)
can_cut k c live m has low none =
    let course : LineCourse = course_at live m in
    let passed : ℕ = live.passed in
    let count : ℕ = count_by (length course.windows) course.cut in
    let end : ℕ = last_end course.windows in
    let full = where_true (nat_le most_windows count) (wrong.FullLine m) in
    let ended = ended_fault c.ticks passed in
    let already = where_true (is_some course.cut) (wrong.CutAlready m) in
    let early = where_true (nat_lt passed end) (wrong.FailureBefore end) in
    let one = or_none full (option_or ended (option_or already early)) none in
    let two = or_none ended (option_or already early) one.1 in
    let three = or_none already early two.1 in
    let few = leb-false most_windows count (where_none (nat_le most_windows count) (wrong.FullLine m) one.0) in
    let later = ltb-false passed end (where_none (nat_lt passed end) (wrong.FailureBefore end) three.1) in (
      record { left = goes_on c.ticks passed has.passed two.0; line = low },
      record {
        uncut = is_uncut course.cut (where_none (is_some course.cut) (wrong.CutAlready m) three.0);
        over = ends-last 0 passed course.windows (course_of k c live m has low).failures.apart later;
        few = omega (arith, few);
      },
    )

can_mend : (k : ℕ) (c : Config) (live : Live) (m : ℕ) → HasLive k c live → m < length live.courses →
    mend_fault c.ticks live.passed m (course_at live m) ≡ None →
    IsOfLine c.ticks live m × IsSome (course_at live m).cut
can_mend k c live m has low none =
    let course : LineCourse = course_at live m in
    let parts = or_none (ended_fault c.ticks live.passed) (where_true (is_none course.cut) (wrong.NotCut m)) none in (
      record { left = goes_on c.ticks live.passed has.passed parts.0; line = low },
      is_cut course.cut (where_none (is_none course.cut) (wrong.NotCut m) parts.1),
    )

-- ---- what a live line says can be said
pub can_value : (k : ℕ) (c : Config) (live : Live) (word : LiveKeyword) (at : ℕ) (w : List ℕ) → HasLive k c live →
    value_fault c live word at w ≡ None → CanSay c.ticks live (live_said word w)
can_value k c live word.Frame at w has none =
    let parts = or_none (word_fault (digits 1 longest_offer) at w) (ended_fault c.ticks live.passed) none in
    let octets = digits_ok at 1 longest_offer w (word_fine (digits 1 longest_offer) at w parts.0) in
    (goes_on c.ticks live.passed has.passed parts.1, (octets.size, octets.each))
can_value k c live word.Cut at w has none =
    let parts = or_none (word_fault (within 0 (c.lines - 1)) at w)
    (cut_fault c.ticks live.passed (number_of w) (course_at live (number_of w))) none in
    let low = number_ok at 0 (c.lines - 1) w (word_fine (within 0 (c.lines - 1)) at w parts.0) in
    can_cut k c live (number_of w) has (line_within c live (number_of w) k has low.1) parts.1
can_value k c live word.Mend at w has none =
    let parts = or_none (word_fault (within 0 (c.lines - 1)) at w)
    (mend_fault c.ticks live.passed (number_of w) (course_at live (number_of w))) none in
    let low = number_ok at 0 (c.lines - 1) w (word_fine (within 0 (c.lines - 1)) at w parts.0) in
    can_mend k c live (number_of w) has (line_within c live (number_of w) k has low.1) parts.1
can_value k c live word.Pass at w has none =
    let parts = or_none (word_fault (within 1 (c.ticks - live.passed)) at w)
    (own_fault c.ticks live word.Pass (number_of w)) none in
    let is = number_ok at 1 (c.ticks - live.passed) w (word_fine (within 1 (c.ticks - live.passed)) at w parts.0) in
    record { some = is.0; left = omega (arith, is.1, has.passed) }
can_value k c live word at w has none =
    let parts = or_none (word_fault (within 0 255) at w) (ended_fault c.ticks live.passed) none in (
      goes_on c.ticks live.passed has.passed parts.1,
      (number_ok at 0 255 w (word_fine (within 0 255) at w parts.0)).1,
    )

pub can_say : (k : ℕ) (c : Config) (live : Live) (w : LiveKeyword) (ws : List (List ℕ)) → HasLive k c live →
    rest_fault c live w ws ≡ None → CanSay c.ticks live (live_told w ws)
can_say k c live w ws has none =
    can_value k c live w 2 (word_at 0 ws) has
    (or_none (count_fault w ws) (value_fault c live w 2 (word_at 0 ws)) none).1

-- ---- what is said with it
same_slips : (courses : List LineCourse) (m : ℕ) (course : LineCourse) →
    course_slip course ≡ course_slip (slice_index_or courses m (uncut [])) →
    map course_slip (slice_set courses m course) ≡ map course_slip courses
same_slips [] m course same = refl
same_slips (c ∷ courses) zero course same = ap (λ (n : ℕ). n ∷ map course_slip courses) same
same_slips (c ∷ courses) (suc m) course same =
    ap (λ (ns : List ℕ). course_slip c ∷ ns) (same_slips courses m course same)

has_course : (k : ℕ) (c : Config) (live : Live) (m : ℕ) (course : LineCourse) → HasLive k c live →
    HasCourse c.ticks live.passed course → course_slip course ≡ course_slip (course_at live m) →
    HasLive (k + 1) c (with_course live m course)
has_course k c live m course has is same = record {
  network = has.network;
  passed = has.passed;
  count = length-set live.courses m course ∙ has.count;
  courses = All-set (HasCourse c.ticks live.passed) live.courses m course is has.courses;
  slips = same_slips live.courses m course same ∙ has.slips;
  items = has.items;
  few = omega (arith, has.few);
}

last-over : (passed : ℕ) (ws : List Window) → All (λ (window : Window). window.end ≤ passed) ws →
    last_end ws ≤ passed
last-over passed [] over = omega arith
last-over passed (w ∷ ws) over =
    let at : ℕ = length (w ∷ ws) - 1 in
    let inside : at < length (w ∷ ws) = omega arith in
    omega (arith, over at w inside, get_or-map (λ (window : Window). window.end) (w ∷ ws) at w 0 inside)

pub has_after : (k : ℕ) (c : Config) (live : Live) (saying : Saying) → HasLive k c live → CanSay c.ticks live saying →
    HasLive (k + 1) c (live_after live saying)
has_after k c live (lands kind) has can = record {
  network = has.network;
  passed = has.passed;
  count = has.count;
  courses = has.courses;
  slips = has.slips;
  items = one_item c.ticks live.passed live.items kind has.items can.0 can.1;
  few = omega (arith, has.few, length-append live.items (due_now live.passed kind ∷ []));
}
has_after k c live (cuts m) has can =
    let course : LineCourse = course_at live m in
    has_course k c live m (cut_at live.passed course) has
    (cut-course c.ticks live.passed course (course_of k c live m has can.0.line) can.0.left
    (last-over live.passed course.windows can.1.over) can.1.few)
    refl
has_after k c live (mends m) has can =
    let course : LineCourse = course_at live m in
    has_course k c live m (uncut (windows_by live.passed course)) has
    (mended-course c.ticks live.passed course has.passed (course_of k c live m has can.0.line))
    (slip-by live.passed course)
has_after k c live (passes n) has can = record {
  network = has.network;
  passed = omega (arith, can.left);
  count = has.count;
  courses = λ i d inside. later-course c.ticks live.passed n (slice_index_or live.courses i d) (has.courses i d inside);
  slips = has.slips;
  items = later_items c.ticks live.passed n live.items has.items;
  few = omega (arith, has.few);
}

pub live_later : (k : ℕ) (c : Config) (live : Live) → HasLive k c live → HasLive (k + 1) c live
live_later k c live has = record {
  network = has.network;
  passed = has.passed;
  count = has.count;
  courses = has.courses;
  slips = has.slips;
  items = has.items;
  few = omega (arith, has.few);
}
