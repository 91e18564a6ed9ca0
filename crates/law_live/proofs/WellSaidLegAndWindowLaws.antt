-- What was well said is a sound leg and a valid script, and the windows of its failures stay in order.
use Rattle.std.proofs.Common.{◌≡◌, ℕ, ◌+◌, ◌<◌, ◌≤◌, max, nat_le, nat_lt, ◌&&◌, true, false, inl, inr, List, [], ◌∷◌}
use Rattle.std.proofs.Common.{◌++◌, length, map, Option, Some, None, All, refl, ◌∙◌, ap, ap₂, arith, length-append}
use Rattle.std.proofs.Common.{if◌then◌else◌, ◌-◌, slice_index_or, subst, suc, ◌≢◌, ◌*◌, ◌/◌, ◌%◌, ◌==◌, replicate}
use Rattle.std.proofs.Common.{slice_set, sym}
use Rattle.std.proofs.lemmas.Bool.{cases_Bool, ltb-true, ltb-false, eqb-false}
use Rattle.std.proofs.lemmas.List.{append-nil, length-map, length-set}
use Rattle.std.proofs.lemmas.List.Elements.{All-cons, All-nil, All-head, All-push, All-tail, All-append, All-map}
use Rattle.std.proofs.lemmas.List.Elements.{All-replicate, All-set, All-weaker}
use Rattle.law_model.specs.Common.{AreWindows, HasFailures, slip_after, slip_of, AreItems, IsCount, IsEvent, IsItem}
use Rattle.law_model.specs.Common.{IsKind, IsNetwork, IsSound, IsValid, command_dues, dues_of, due_of, frame_dues}
use Rattle.law_model.specs.Common.{greatest, greatest_slip, least, most_count, longest_slip}
use Rattle.law_model.specs.declared.window_types.Window.{Window}
use Rattle.law_model.specs.members.Damage.{carried}
use Rattle.law_live.specs.Common.{LineCourse, IsSameBelow, closed, windows_by, CanSay, CanSayAll, IsWellSaid, Live}
use Rattle.law_live.specs.Common.{Saying, commands_in, config_by, counted, course_at, cut_at, cuts, events_by}
use Rattle.law_live.specs.Common.{frames_in, item_at, lands, leg_said, live_after, live_from, live_of, mended_at}
use Rattle.law_live.specs.Common.{mends, opened, passes, rounds_of, script_said, uncut}
use Rattle.std.specs.List.Sorted.{IsNonDecreasing}
use Rattle.std.proofs.lemmas.List.Sorted.{IsNonDecreasingBy-push, IsNonDecreasingBy-short}
use Rattle.std.proofs.Math.Seq.{map-set_same}
use Rattle.law_model.specs.declared.script_types.Config.{Config}
use Rattle.law_model.specs.declared.script_types.EventLine.{EventLine}
use Rattle.law_model.specs.declared.script_types.EventLine.TheVariants.{Client, Operator, Round}
use Rattle.law_model.specs.declared.script_types.Item.{Item}
use Rattle.law_model.specs.declared.script_types.ItemKind.{ItemKind}
use Rattle.law_model.specs.declared.script_types.ItemKind.TheVariants.{Frame, Add, Remove}
use Rattle.law_live.proofs.ConversationCountAndScriptLaws.{commands-append, commands-each, frames-append, frames-each}

-- ---- A failure that is put behind the others: the windows stay in order, their slip is the same, and nothing changes before.
-- ---- order
apart-push : (from : ℕ) (windows : List Window) (last : Window) → AreWindows from windows →
    All (λ (window : Window). window.end ≤ last.first) windows → from ≤ last.first →
    last.slip + last.first < last.end → AreWindows from (windows ++ last ∷ [])
unfolding AreWindows
apart-push from [] last apart ends low some = (low, some, tt)
apart-push from (window ∷ windows) last apart ends low some = (
  apart.0,
  apart.1,
  apart-push window.end windows last apart.2
      (All-tail (λ (window : Window). window.end ≤ last.first) window windows ends)
      (All-head (λ (window : Window). window.end ≤ last.first) window windows ends) some,
)

-- a failure that isn't over began by now, behind the others, and one more window can be told
abbrev pub IsOpen : ℕ → List Window → Option ℕ → Type 0
IsOpen passed windows None = Unit {0}
IsOpen passed windows (Some start) =
    (start ≤ passed) × All (λ (window : Window). window.end ≤ start) windows × (length windows < 256)

abbrev pub live_window : ℕ → ℕ → Window
live_window start end = record { first = start; end = end; slip = 0 }

pub failures-closed : (ticks passed : ℕ) (windows : List Window) (cut : Option ℕ) → HasFailures ticks windows →
    IsOpen passed windows cut → passed ≤ ticks → HasFailures ticks (closed passed windows cut)
failures-closed ticks passed windows None has open_ low = has
failures-closed ticks passed windows (Some start) has open_ low = elim (cases_Bool (nat_lt start passed)) [
  | inr e ↦ rw e has
  | inl e ↦
      let begun = ltb-true start passed e in
      let last : Window = live_window start passed in
      let few = open_.2 in
      let sum = length-append windows (last ∷ []) in
      rw e (record {
        few = omega (arith, few, sum);
        apart = apart-push 0 windows last has.apart open_.1 (omega arith) (omega (arith, begun));
        ends = All-push (λ (window : Window). window.end ≤ ticks) windows last has.ends low;
        slips = All-push (λ (window : Window). window.slip ≤ longest_slip) windows last has.slips (omega arith);
      })
]

-- ---- slip
slip-push : (run end start last : ℕ) (windows : List Window) →
    slip_after run end (windows ++ live_window start last ∷ []) ≡ slip_after run end windows
unfolding slip_after
slip-push run end start last [] = elim (cases_Bool (nat_lt start (end + 17))) [
  | inl e ↦ rw e (omega arith)
  | inr e ↦ rw e (omega arith)
]
slip-push run end start last (window ∷ windows) =
    ap (max run)
    (slip-push (if nat_lt window.first (end + 17) then run + window.slip else window.slip) window.end start last windows)

pub slip-closed : (passed : ℕ) (windows : List Window) (cut : Option ℕ) →
    slip_of (closed passed windows cut) ≡ slip_of windows
slip-closed passed windows None = refl
slip-closed passed windows (Some start) = elim (cases_Bool (nat_lt start passed)) [
  | inl e ↦ rw e (slip-push 0 0 start passed windows)
  | inr e ↦ rw e refl
]

pub slips-closed : (passed : ℕ) (courses : List LineCourse) →
    map slip_of (map (windows_by passed) courses) ≡ map (λ (course : LineCourse). slip_of course.windows) courses
slips-closed passed [] = refl
slips-closed passed (course ∷ courses) =
    ap₂ ◌∷◌ (slip-closed passed course.windows course.cut) (slips-closed passed courses)

-- ---- what comes of a container
-- the last window decides only where no other does
carried-push : (windows : List Window) (one other : List Window) (t : ℕ) → carried one t ≡ carried other t →
    carried (windows ++ one) t ≡ carried (windows ++ other) t
unfolding carried
carried-push [] one other t same = same
carried-push (window ∷ windows) one other t same = elim (cases_Bool (nat_le window.first t && nat_lt t window.end)) [
  | inl e ↦ rw e refl
  | inr e ↦ rw e (carried-push windows one other t same)
]

later-end : (start end more t : ℕ) → t < end → end ≤ more →
    carried (live_window start more ∷ []) t ≡ carried (live_window start end ∷ []) t
unfolding carried
later-end start end more t low up =
    let a : nat_lt t end ≡ true = grind (arith, low) in
    let h : t < more = omega (arith, low, up) in
    let b : nat_lt t more ≡ true = grind (arith, h) in
    let i : t + 0 < end = omega (arith, low) in
    let j : t + 0 < more = omega (arith, h) in
    let c : nat_lt (t + 0) end ≡ true = grind (arith, i) in
    let d : nat_lt (t + 0) more ≡ true = grind (arith, j) in
    rw (a, b, c, d) refl

not-begun : (start end t : ℕ) → t < start → carried (live_window start end ∷ []) t ≡ carried [] t
unfolding carried
not-begun start end t low = let a : nat_le start t ≡ false = grind (arith, low) in rw a refl

pub closed-below : (passed more : ℕ) (windows : List Window) (cut : Option ℕ) → passed ≤ more →
    IsSameBelow passed (closed more windows cut) (closed passed windows cut)
closed-below passed more windows None up t low = refl
closed-below passed more windows (Some start) up t low = elim (cases_Bool (nat_lt start passed)) [
  | inl e ↦
      let begun = ltb-true start passed e in
      let h : start < more = omega (arith, begun, up) in
      let f : nat_lt start more ≡ true = grind (arith, h) in
      rw (e, f) (carried-push windows (live_window start more ∷ []) (live_window start passed ∷ []) t
      (later-end start passed more t low up))
  | inr e ↦
      let late = ltb-false start passed e in
      rw e (elim (cases_Bool (nat_lt start more)) [
        | inl f ↦ rw f (carried-push windows (live_window start more ∷ []) [] t
            (not-begun start more t (omega (arith, low, late))) ∙ ap (λ l. carried l t) (append-nil windows))
        | inr f ↦ rw f refl
      ])
]

-- ---- which end last
-- of windows in order none ends after the last one
pub ends-last : (from n : ℕ) (windows : List Window) → AreWindows from windows →
    slice_index_or (map (λ (window : Window). window.end) windows) (length windows - 1) 0 ≤ n →
    All (λ (window : Window). window.end ≤ n) windows
unfolding AreWindows
ends-last from n [] apart last = All-nil (λ (window : Window). window.end ≤ n)
ends-last from n (window ∷ []) apart last =
    All-cons (λ (window : Window). window.end ≤ n) window [] last (All-nil (λ (window : Window). window.end ≤ n))
ends-last from n (window ∷ next ∷ windows) apart last =
    let ends : List ℕ = map (λ (window : Window). window.end) (next ∷ windows) in
    let e : length (window ∷ next ∷ windows) - 1 ≡ suc (length (next ∷ windows) - 1) = omega arith in
    let rest = ends-last window.end n (next ∷ windows) apart.2
    (subst (λ k. slice_index_or (window.end ∷ ends) k 0 ≤ n) e last) in
    let high = All-head (λ (window : Window). window.end ≤ n) next windows rest in
    let low = apart.2.0 in
    let some = apart.2.1 in
    All-cons (λ (window : Window). window.end ≤ n) window (next ∷ windows) (omega (arith, high, low, some)) rest

-- ---- What was well said over a network is a sound leg, and a valid script.
-- ---- how it stands
-- a line whose windows scripts may have, and on which a failure may last
pub record IsRight (ticks passed : ℕ) (course : LineCourse) : Type 0 where
  pub has : HasFailures ticks course.windows
  pub open_ : IsOpen passed course.windows course.cut

pub record AreRight (config : Config) (live : Live) : Type 0 where
  pub passed : live.passed ≤ config.ticks
  pub lines : length live.courses ≡ config.lines
  pub slips : map (λ (course : LineCourse). slip_of course.windows) live.courses ≡ map slip_of config.windows
  pub each : All (IsRight config.ticks live.passed) live.courses
  pub items : AreItems config.ticks live.items
  pub due : All (λ (item : Item). item.due ≤ live.passed) live.items

slips-opened : (lists : List (List Window)) →
    map (λ (course : LineCourse). slip_of course.windows) (map uncut lists) ≡ map slip_of lists
slips-opened [] = refl
slips-opened (windows ∷ lists) = ap (λ l. slip_of windows ∷ l) (slips-opened lists)

pub right-opened : (config : Config) → IsNetwork config → AreRight config (opened config)
unfolding frame_dues command_dues
right-opened config network = record {
  passed = omega arith;
  lines = length-map config.windows uncut ∙ network.windows_each;
  slips = slips-opened config.windows;
  each = All-map (IsRight config.ticks 0) uncut config.windows
      (All-weaker (HasFailures config.ticks) (λ windows. IsRight config.ticks 0 (uncut windows))
      (λ windows has. record { has = has; open_ = tt }) config.windows network.windows);
  items = record {
    each = All-nil (IsItem config.ticks);
    frames = IsNonDecreasingBy-short (λ x. x) [] (omega arith);
    commands = IsNonDecreasingBy-short (λ x. x) [] (omega arith);
  };
  due = All-nil (λ (item : Item). item.due ≤ 0);
}

-- ---- an item
in-order : (passed : ℕ) (dues : List ℕ) → IsNonDecreasing dues → All (λ due. due ≤ passed) dues →
    IsNonDecreasing (dues ++ passed ∷ [])
in-order passed dues sorted early =
    IsNonDecreasingBy-push (λ x. x) dues passed sorted (λ d some. early (length dues - 1) d (omega (arith, some)))

right-landed : (config : Config) (live : Live) (kind : ItemKind) → AreRight config live → live.passed < config.ticks →
    IsKind kind → AreItems config.ticks (live.items ++ item_at live.passed kind ∷ [])
unfolding frame_dues command_dues
right-landed config live kind right left is = record {
  each = All-push (IsItem config.ticks) live.items (item_at live.passed kind) right.items.each (left, is);
  frames = subst IsNonDecreasing (sym (frames-append live.items (item_at live.passed kind ∷ []))) (frames kind);
  commands = subst IsNonDecreasing (sym (commands-append live.items (item_at live.passed kind ∷ []))) (commands kind);
}
  where
    none : (dues : List ℕ) → IsNonDecreasing dues → IsNonDecreasing (dues ++ [])
    none dues sorted = subst IsNonDecreasing (sym (append-nil dues)) sorted

    frames : (kind : ItemKind) →
        IsNonDecreasing (frame_dues (dues_of live.items) ++ frame_dues (due_of live.passed kind ∷ []))
    frames (Frame octets) = in-order live.passed (frame_dues (dues_of live.items)) right.items.frames
        (frames-each (λ due. due ≤ live.passed) live.items right.due)
    frames (Add line) = none (frame_dues (dues_of live.items)) right.items.frames
    frames (Remove line) = none (frame_dues (dues_of live.items)) right.items.frames

    commands : (kind : ItemKind) →
        IsNonDecreasing (command_dues (dues_of live.items) ++ command_dues (due_of live.passed kind ∷ []))
    commands (Frame octets) = none (command_dues (dues_of live.items)) right.items.commands
    commands (Add line) = in-order live.passed (command_dues (dues_of live.items)) right.items.commands
        (commands-each (λ due. due ≤ live.passed) live.items right.due)
    commands (Remove line) = in-order live.passed (command_dues (dues_of live.items)) right.items.commands
        (commands-each (λ due. due ≤ live.passed) live.items right.due)

-- ---- a line
right-with : (config : Config) (live : Live) (m : ℕ) (course : LineCourse) → AreRight config live →
    IsRight config.ticks live.passed course → slip_of course.windows ≡ slip_of (course_at live m).windows →
    AreRight config (record live { courses = slice_set live.courses m course })
right-with config live m course right is slip = record {
  passed = right.passed;
  lines = length-set live.courses m course ∙ right.lines;
  slips = map-set_same (λ (course : LineCourse). slip_of course.windows) live.courses m course (uncut []) slip
      ∙ right.slips;
  each = All-set (IsRight config.ticks live.passed) live.courses m course is right.each;
  items = right.items;
  due = right.due;
}

open-later : (passed k : ℕ) (windows : List Window) (cut : Option ℕ) → IsOpen passed windows cut →
    IsOpen (passed + k) windows cut
open-later passed k windows None open_ = tt
open-later passed k windows (Some start) open_ = (let h = open_.0 in omega (arith, h), open_.1, open_.2)

pub right-after : (config : Config) (live : Live) (saying : Saying) → CanSay config.ticks live saying →
    AreRight config live → AreRight config (live_after live saying)
right-after config live (lands kind) can right = record {
  passed = right.passed;
  lines = right.lines;
  slips = right.slips;
  each = right.each;
  items = right-landed config live kind right can.0 can.1;
  due = All-push (λ (item : Item). item.due ≤ live.passed) live.items (item_at live.passed kind) right.due
      (omega arith);
}
right-after config live (cuts m) can right =
    let course : LineCourse = course_at live m in
    let is : IsRight config.ticks live.passed course = right.each m (uncut []) can.0.line in
    right-with config live m (cut_at live.passed course) right
    (record { has = is.has; open_ = (omega arith, can.1.over, can.1.few) }) refl
right-after config live (mends m) can right =
    let course : LineCourse = course_at live m in
    let is : IsRight config.ticks live.passed course = right.each m (uncut []) can.0.line in
    right-with config live m (mended_at live.passed course) right
    (record {
      has = failures-closed config.ticks live.passed course.windows course.cut is.has is.open_ right.passed;
      open_ = tt;
    }) (slip-closed live.passed course.windows course.cut)
right-after config live (passes k) can right = record {
  passed = can.left;
  lines = right.lines;
  slips = right.slips;
  each = All-weaker (IsRight config.ticks live.passed) (IsRight config.ticks (live.passed + k))
      (λ course is. record { has = is.has; open_ = open-later live.passed k course.windows course.cut is.open_ })
      live.courses right.each;
  items = right.items;
  due = All-weaker (λ (item : Item). item.due ≤ live.passed) (λ (item : Item). item.due ≤ live.passed + k)
      (λ item early. omega (arith, early)) live.items right.due;
}

pub right-all : (config : Config) (said : List Saying) (live : Live) → CanSayAll config.ticks live said →
    AreRight config live → AreRight config (live_from live said)
unfolding CanSayAll live_from
right-all config [] live can right = right
right-all config (saying ∷ said) live can right =
    right-all config said (live_after live saying) can.1 (right-after config live saying can.0 right)

-- ---- how many items there are
few-after : (live : Live) (saying : Saying) → length (live_after live saying).items ≤ length live.items + 1
few-after live (lands kind) =
    let sum = length-append live.items (item_at live.passed kind ∷ []) in omega (arith, sum)
few-after live (cuts m) = omega arith
few-after live (mends m) = omega arith
few-after live (passes k) = omega arith

few-items : (said : List Saying) (live : Live) → length (live_from live said).items ≤ length live.items + length said
unfolding live_from
few-items [] live = omega arith
few-items (saying ∷ said) live =
    let one = few-after live saying in let rest = few-items said (live_after live saying) in omega (arith, one, rest)

-- ---- the leg
network-by : (config : Config) (live : Live) → IsNetwork config → AreRight config live →
    IsNetwork (config_by config live)
network-by config live network right =
    let slip : greatest_slip config.windows ≡ greatest_slip (config_by config live).windows =
    ap greatest (sym (slips-closed live.passed live.courses ∙ right.slips)) in
    record {
      lines = network.lines;
      delay_each = network.delay_each;
      delays = network.delays;
      windows_each = length-map live.courses (windows_by live.passed) ∙ right.lines;
      windows = All-map (HasFailures config.ticks) (windows_by live.passed) live.courses
          (All-weaker (IsRight config.ticks live.passed)
          (λ course. HasFailures config.ticks (windows_by live.passed course))
          (λ course is. failures-closed config.ticks live.passed course.windows course.cut is.has is.open_ right.passed)
          live.courses right.each);
      lost = network.lost;
      ring = network.ring;
      lag = network.lag;
      ticks = network.ticks;
      size = network.size;
      options = network.options;
      fits_ring = subst (λ n. greatest config.delays - least config.delays + n + 1 ≤ config.ring) slip
          network.fits_ring;
      fits_lag = subst (λ n. 16 + greatest config.delays + n ≤ 16 * config.lag) slip network.fits_lag;
    }

pub said-sound : (config : Config) (said : List Saying) → IsNetwork config → IsWellSaid config said →
    IsSound (leg_said config said)
said-sound config said network well =
    let right = right-all config said (opened config) well.each (right-opened config network) in
    let few = few-items said (opened config) in
    let most = well.few in
    record {
      network = network-by config (live_of config said) network right;
      items = right.items;
      few = omega (arith, few, most);
    }

-- ---- the event lines
each-counted : (P : EventLine → Type 0) (q r : ℕ) (x y : EventLine) → P x → (r ≢ 0 → P y) →
    All P (replicate q x ++ (if r == 0 then [] else y ∷ []))
each-counted P q r x y one last =
    All-append P (replicate q x) (if r == 0 then [] else y ∷ []) (All-replicate P q x one)
    (elim (cases_Bool (r == 0)) [
      | inl e ↦ rw e (All-nil P)
      | inr e ↦ rw e (All-cons P y [] (last (eqb-false r 0 e)) (All-nil P))
    ])

counted-right : (lines : ℕ) (line : ℕ → EventLine) → ((n : ℕ) → IsCount n → IsEvent lines (line n)) → (n : ℕ) →
    All (IsEvent lines) (counted line n)
counted-right lines line is n =
    each-counted (IsEvent lines) (n / most_count) (n % most_count) (line most_count) (line (n % most_count))
    (is most_count (omega arith, omega arith))
    (λ some. is (n % most_count) (grind (arith, some), omega arith))

events-right : (lines rounds : ℕ) (live : Live) → All (IsEvent lines) (events_by rounds live)
events-right lines rounds live =
    let clients : List EventLine = counted Client (max 1 (frames_in live)) in
    let operators : List EventLine = counted Operator (max 1 (commands_in live)) in
    All-append (IsEvent lines) (counted Round rounds ++ clients) operators
    (All-append (IsEvent lines) (counted Round rounds) clients
    (counted-right lines Round (λ n is. is) rounds)
    (counted-right lines Client (λ n is. is) (max 1 (frames_in live))))
    (counted-right lines Operator (λ n is. is) (max 1 (commands_in live)))

pub said-valid : (config : Config) (said : List Saying) → IsNetwork config → IsWellSaid config said →
    IsValid (script_said config said)
said-valid config said network well = record {
  sound = said-sound config said network well;
  events = events-right config.lines (rounds_of (leg_said config said) said) (live_of config said);
}

-- ---- how far it is
pub said-passed : (config : Config) (said : List Saying) → IsNetwork config → IsWellSaid config said →
    (live_of config said).passed ≤ config.ticks
said-passed config said network well =
    (right-all config said (opened config) well.each (right-opened config network)).passed

pub said-lines : (config : Config) (said : List Saying) → IsNetwork config → IsWellSaid config said →
    length (live_of config said).courses ≡ config.lines
said-lines config said network well =
    (right-all config said (opened config) well.each (right-opened config network)).lines

pub said-failures : (config : Config) (said : List Saying) (m : ℕ) → IsNetwork config → IsWellSaid config said →
    m < length (live_of config said).courses →
    HasFailures config.ticks (course_at (live_of config said) m).windows
said-failures config said m network well inside =
    ((right-all config said (opened config) well.each (right-opened config network)).each m (uncut []) inside).has
