-- How a conversation's counts stand beside what was said, and how the rounds and event lines of its script give them.
use Rattle.std.proofs.Common.{◌≡◌, ℕ, zero, suc, ◌+◌, ◌<◌, ◌≤◌, List, [], ◌∷◌, ◌++◌, length, slice_get, All, Some}
use Rattle.std.proofs.Common.{None, refl, sym, ◌∙◌, ap, subst, arith, length-append, ◌*◌, ◌/◌, ◌%◌, ◌==◌, max, nat_le}
use Rattle.std.proofs.Common.{inl, inr, replicate, flat_map, append_assoc, if◌then◌else◌}
use Rattle.std.proofs.lemmas.List.Elements.{All-nil, All-cons, All-head, All-tail, All-push, All-weaker}
use Rattle.std.proofs.lemmas.Option.{get_or_from_slice_get, slice_get_within}
use Rattle.law_model.proofs.ListLaws.{append_one, slice_get-append_seam}
use Rattle.law_model.specs.Common.{Counts, Leg, Plan, begin, bound, command_due, command_dues, due_of, dues_of}
use Rattle.law_model.specs.Common.{frame_dues, held, step, IsSound, round, run, run_line, run_lines, walked}
use Rattle.law_model.specs.declared.walk_events.Event.TheVariants.{Accept, Command}
use Rattle.law_model.specs.declared.script_types.Config.{Config}
use Rattle.law_model.specs.declared.script_types.Item.{Item}
use Rattle.law_model.specs.declared.script_types.ItemKind.{ItemKind}
use Rattle.law_model.specs.declared.script_types.ItemKind.TheVariants.{Frame, Add, Remove}
use Rattle.law_progress.specs.Progress.{Fits, IsPlanOf, IsPlan}
use Rattle.law_progress.proofs.RoundProgressAndDrainLaws.{step-fits, begin-fits}
use Rattle.law_walk.specs.Common.{walk_plan}
use Rattle.law_live.specs.Common.{CanSay, CanSayAll, HasLater, Live, Saying, after_rounds, commands_in, counts_from}
use Rattle.law_live.specs.Common.{counts_said, cuts, frames_in, item_at, landing_of, lands, live_after, live_from}
use Rattle.law_live.specs.Common.{mends, opened, passes, rounds_for, counted, events_by, live_round, leg_said}
use Rattle.law_live.specs.Common.{live_counts, live_of, rounds_of, rounds_from, rounds_said, rounds_until}
use Rattle.law_live.proofs.LiveRoundAndLandingLaws.{Here, Settled, accept-moves, command-moves, settled-at}
use Rattle.law_live.proofs.LiveRoundAndLandingLaws.{settled-free}
use Rattle.law_live.proofs.LiveRoundAndLandingLaws.{goes-rounds, fits-rounds, pass-ticks, settled-rounds, IsSettled}
use Rattle.law_live.proofs.LiveRoundAndLandingLaws.{accepts, commands, round-lands, goes-round, settled-round}
use Rattle.std.proofs.lemmas.Bool.{cases_Bool, eqb-true, leb-false}
use Rattle.std.proofs.lemmas.List.{append-nil, length-replicate, replicate-append-replicate}
use Rattle.law_model.specs.declared.script_types.EventLine.{EventLine}
use Rattle.law_model.specs.declared.script_types.EventLine.TheVariants.{Client, Operator, Round}
use Rattle.law_model.specs.declared.walk_events.Event.{Event}
use Rattle.law_progress.proofs.RoundProgressAndDrainLaws.{run-append, run-none}
use Rattle.law_walk.proofs.WalkPlanAndPoppedCellLaws.{has-plan, sound-walks}
use Rattle.law_model.specs.Common.{most_count}

-- ---- How the counts of a conversation stand beside what was said: so many ticks have passed, and each item has landed.
-- ---- the due ticks of items
pub frames-append : (xs ys : List Item) →
    frame_dues (dues_of (xs ++ ys)) ≡ frame_dues (dues_of xs) ++ frame_dues (dues_of ys)
unfolding frame_dues
frames-append [] ys = refl
frames-append (item ∷ xs) ys = by-kind item.due item.kind (frames-append xs ys)
  where
    by-kind : (due : ℕ) (kind : ItemKind) →
        frame_dues (dues_of (xs ++ ys)) ≡ frame_dues (dues_of xs) ++ frame_dues (dues_of ys) →
        frame_dues (due_of due kind ∷ dues_of (xs ++ ys))
        ≡ frame_dues (due_of due kind ∷ dues_of xs) ++ frame_dues (dues_of ys)
    by-kind due (Frame octets) rest = ap (λ l. due ∷ l) rest
    by-kind due (Add line) rest = rest
    by-kind due (Remove line) rest = rest

pub commands-append : (xs ys : List Item) →
    command_dues (dues_of (xs ++ ys)) ≡ command_dues (dues_of xs) ++ command_dues (dues_of ys)
unfolding command_dues
commands-append [] ys = refl
commands-append (item ∷ xs) ys = by-kind item.due item.kind (commands-append xs ys)
  where
    by-kind : (due : ℕ) (kind : ItemKind) →
        command_dues (dues_of (xs ++ ys)) ≡ command_dues (dues_of xs) ++ command_dues (dues_of ys) →
        command_dues (due_of due kind ∷ dues_of (xs ++ ys))
        ≡ command_dues (due_of due kind ∷ dues_of xs) ++ command_dues (dues_of ys)
    by-kind due (Frame octets) rest = rest
    by-kind due (Add line) rest = ap (λ l. due ∷ l) rest
    by-kind due (Remove line) rest = ap (λ l. due ∷ l) rest

pub frames-each : (P : ℕ → Type 0) (items : List Item) → All (λ (item : Item). P item.due) items →
    All P (frame_dues (dues_of items))
unfolding frame_dues
frames-each P [] each = All-nil P
frames-each P (item ∷ items) each =
    by-kind item.due item.kind (All-head (λ (item : Item). P item.due) item items each)
    (frames-each P items (All-tail (λ (item : Item). P item.due) item items each))
  where
    by-kind : (due : ℕ) (kind : ItemKind) → P due → All P (frame_dues (dues_of items)) →
        All P (frame_dues (due_of due kind ∷ dues_of items))
    by-kind due (Frame octets) one rest = All-cons P due (frame_dues (dues_of items)) one rest
    by-kind due (Add line) one rest = rest
    by-kind due (Remove line) one rest = rest

pub commands-each : (P : ℕ → Type 0) (items : List Item) → All (λ (item : Item). P item.due) items →
    All P (command_dues (dues_of items))
unfolding command_dues
commands-each P [] each = All-nil P
commands-each P (item ∷ items) each =
    by-kind item.due item.kind (All-head (λ (item : Item). P item.due) item items each)
    (commands-each P items (All-tail (λ (item : Item). P item.due) item items each))
  where
    by-kind : (due : ℕ) (kind : ItemKind) → P due → All P (command_dues (dues_of items)) →
        All P (command_dues (due_of due kind ∷ dues_of items))
    by-kind due (Frame octets) one rest = rest
    by-kind due (Add line) one rest = All-cons P due (command_dues (dues_of items)) one rest
    by-kind due (Remove line) one rest = All-cons P due (command_dues (dues_of items)) one rest

-- ---- all that is due has landed
first-early : (P : ℕ → Type 0) (xs ys : List ℕ) (i due : ℕ) → All P xs → i < length xs →
    slice_get (xs ++ ys) i ≡ Some due → P due
first-early P [] ys i due each inside there = absurd (omega arith)
first-early P (x ∷ xs) ys zero due each inside there = let same : x ≡ due = cc in subst P same (All-head P x xs each)
first-early P (x ∷ xs) ys (suc i) due each inside there =
    first-early P xs ys i due (All-tail P x xs each) (omega arith) there

rest-late : (P : ℕ → Type 0) (xs ys : List ℕ) (i due : ℕ) → All P ys → length xs ≤ i →
    slice_get (xs ++ ys) i ≡ Some due → P due
rest-late P [] ys i due each beyond there =
    let within = slice_get_within ys i due there in
    subst P (get_or_from_slice_get ys i due due there) (each i due within)
rest-late P (x ∷ xs) ys zero due each beyond there = absurd (omega (arith, beyond))
rest-late P (x ∷ xs) ys (suc i) due each beyond there = rest-late P xs ys i due each (omega (arith, beyond)) there

here-append : (from until : ℕ) (xs ys : List ℕ) → All (λ due. due ≤ from) xs → All (λ due. until ≤ due) ys →
    Here (xs ++ ys) from until (length xs)
here-append from until xs ys early late = record {
  early = λ i due inside there. first-early (λ due. due ≤ from) xs ys i due early inside there;
  few = let sum = length-append xs ys in omega (arith, sum);
  late = λ i due beyond there. rest-late (λ due. until ≤ due) xs ys i due late beyond there;
}

-- so many ticks have passed, each item has landed, and was due by now
pub record Stands (live : Live) (s : Counts) : Type 0 where
  pub ticks : s.ticks ≡ live.passed
  pub frames : s.frames ≡ frames_in live
  pub commands : s.commands ≡ commands_in live
  pub due : All (λ (item : Item). item.due ≤ live.passed) live.items

pub settles : (leg : Leg) (live : Live) (until : ℕ) (s : Counts) → Stands live s → (later : List Item) →
    leg.items ≡ live.items ++ later → All (λ (item : Item). until ≤ item.due) later →
    Settled (walk_plan leg) live.passed until s
settles leg live until s stands later are late = record {
  frames =
      subst (λ n. Here (frame_dues (dues_of leg.items)) live.passed until n) (sym stands.frames)
      (subst (λ dues. Here dues live.passed until (frames_in live))
      (sym (ap (λ items. frame_dues (dues_of items)) are ∙ frames-append live.items later))
      (here-append live.passed until (frame_dues (dues_of live.items)) (frame_dues (dues_of later))
      (frames-each (λ due. due ≤ live.passed) live.items stands.due)
      (frames-each (λ due. until ≤ due) later late)));
  commands =
      subst (λ n. Here (command_dues (dues_of leg.items)) live.passed until n) (sym stands.commands)
      (subst (λ dues. Here dues live.passed until (commands_in live))
      (sym (ap (λ items. command_dues (dues_of items)) are ∙ commands-append live.items later))
      (here-append live.passed until (command_dues (dues_of live.items)) (command_dues (dues_of later))
      (commands-each (λ due. due ≤ live.passed) live.items stands.due)
      (commands-each (λ due. until ≤ due) later late)));
}

-- ---- what lands later
pub later-less : (live : Live) (saying : Saying) (items : List Item) → HasLater (live_after live saying) items →
    HasLater live items
later-less live (lands kind) items more = record {
  later = item_at live.passed kind ∷ more.later;
  are = more.are ∙ sym (append_one live.items (item_at live.passed kind) more.later);
  late = All-cons (λ (item : Item). live.passed ≤ item.due) (item_at live.passed kind) more.later (omega arith)
      more.late;
}
later-less live (cuts m) items more = record { later = more.later; are = more.are; late = more.late }
later-less live (mends m) items more = record { later = more.later; are = more.are; late = more.late }
later-less live (passes k) items more = record {
  later = more.later;
  are = more.are;
  late = All-weaker (λ (item : Item). live.passed + k ≤ item.due) (λ (item : Item). live.passed ≤ item.due)
      (λ item late. omega (arith, late)) more.later more.late;
}

pub later-all : (said : List Saying) (live : Live) (items : List Item) → HasLater (live_from live said) items →
    HasLater live items
unfolding live_from
later-all [] live items more = more
later-all (saying ∷ said) live items more =
    later-less live saying items (later-all said (live_after live saying) items more)

-- ---- an item that lands
abbrev pub landed_by : ItemKind → Counts → Counts
landed_by (Frame octets) s = record s { frames = s.frames + 1 }
landed_by (Add line) s = record s { commands = s.commands + 1 }
landed_by (Remove line) s = record s { commands = s.commands + 1 }

next-frame : (front later : List Item) (due : ℕ) (octets : List ℕ) →
    slice_get (frame_dues (dues_of ((front ++ item_at due (Frame octets) ∷ []) ++ later)))
    (length (frame_dues (dues_of front))) ≡ Some due
unfolding frame_dues
next-frame [] later due octets = refl
next-frame (item ∷ front) later due octets = by-kind item.due item.kind (next-frame front later due octets)
  where
    by-kind : (first : ℕ) (kind : ItemKind) →
        slice_get (frame_dues (dues_of ((front ++ item_at due (Frame octets) ∷ []) ++ later)))
        (length (frame_dues (dues_of front))) ≡ Some due →
        slice_get
        (frame_dues (due_of first kind ∷ dues_of ((front ++ item_at due (Frame octets) ∷ []) ++ later)))
        (length (frame_dues (due_of first kind ∷ dues_of front))) ≡ Some due
    by-kind first (Frame other) rest = rest
    by-kind first (Add line) rest = rest
    by-kind first (Remove line) rest = rest

next-command : (front later : List Item) (due : ℕ) (kind : ItemKind) → due_of due kind ≡ command_due due →
    slice_get (command_dues (dues_of ((front ++ item_at due kind ∷ []) ++ later)))
    (length (command_dues (dues_of front))) ≡ Some due
unfolding command_dues
next-command [] later due kind is =
    ap (λ first. slice_get (command_dues (first ∷ dues_of later)) 0) is
next-command (item ∷ front) later due kind is = by-kind item.due item.kind (next-command front later due kind is)
  where
    by-kind : (first : ℕ) (other : ItemKind) →
        slice_get (command_dues (dues_of ((front ++ item_at due kind ∷ []) ++ later)))
        (length (command_dues (dues_of front))) ≡ Some due →
        slice_get (command_dues (due_of first other ∷ dues_of ((front ++ item_at due kind ∷ []) ++ later)))
        (length (command_dues (due_of first other ∷ dues_of front))) ≡ Some due
    by-kind first (Frame octets) rest = rest
    by-kind first (Add line) rest = rest
    by-kind first (Remove line) rest = rest

frame-lands : (leg : Leg) (live : Live) (s : Counts) (octets : List ℕ) → Stands live s →
    HasLater (live_after live (lands (Frame octets))) leg.items →
    (step (walk_plan leg) s Accept).counts ≡ record s { frames = s.frames + 1 }
frame-lands leg live s octets stands more =
    let ticks = stands.ticks in
    accept-moves (walk_plan leg) s live.passed
    (ap (λ n. slice_get (frame_dues (dues_of leg.items)) n) stands.frames
    ∙ ap (λ items. slice_get (frame_dues (dues_of items)) (frames_in live)) more.are
    ∙ next-frame live.items more.later live.passed octets) (omega (arith, ticks))

command-lands : (leg : Leg) (live : Live) (s : Counts) (kind : ItemKind) → due_of live.passed kind ≡ command_due live.passed →
    Stands live s → HasLater (live_after live (lands kind)) leg.items →
    (step (walk_plan leg) s Command).counts ≡ record s { commands = s.commands + 1 }
command-lands leg live s kind is stands more =
    let ticks = stands.ticks in
    command-moves (walk_plan leg) s live.passed
    (ap (λ n. slice_get (command_dues (dues_of leg.items)) n) stands.commands
    ∙ ap (λ items. slice_get (command_dues (dues_of items)) (commands_in live)) more.are
    ∙ next-command live.items more.later live.passed kind is) (omega (arith, ticks))

-- it does, and nothing else changes
pub item-lands : (leg : Leg) (live : Live) (s : Counts) (kind : ItemKind) → Stands live s →
    HasLater (live_after live (lands kind)) leg.items →
    counts_said (walk_plan leg) s (lands kind) ≡ landed_by kind s
item-lands leg live s (Frame octets) stands more = frame-lands leg live s octets stands more
item-lands leg live s (Add line) stands more = command-lands leg live s (Add line) refl stands more
item-lands leg live s (Remove line) stands more = command-lands leg live s (Remove line) refl stands more

pub stands-landed : (live : Live) (s : Counts) (kind : ItemKind) → Stands live s →
    Stands (live_after live (lands kind)) (landed_by kind s)
unfolding frame_dues command_dues
stands-landed live s kind stands = by-kind kind
  where
    due : (kind : ItemKind) →
        All (λ (item : Item). item.due ≤ live.passed) (live.items ++ item_at live.passed kind ∷ [])
    due kind = All-push (λ (item : Item). item.due ≤ live.passed) live.items (item_at live.passed kind) stands.due
        (omega arith)

    one : (xs ys : List ℕ) (y n : ℕ) → ys ≡ xs ++ y ∷ [] → n ≡ length xs → n + 1 ≡ length ys
    one xs ys y n e size =
        let sum = length-append xs (y ∷ []) in let all = ap length e in omega (arith, sum, all, size)

    none : (xs ys : List ℕ) (n : ℕ) → ys ≡ xs ++ [] → n ≡ length xs → n ≡ length ys
    none xs ys n e size =
        let sum = length-append xs [] in let all = ap length e in omega (arith, sum, all, size)

    by-kind : (kind : ItemKind) → Stands (live_after live (lands kind)) (landed_by kind s)
    by-kind (Frame octets) = record {
      ticks = stands.ticks;
      frames = one (frame_dues (dues_of live.items)) (frame_dues (dues_of (live.items ++ item_at live.passed (Frame octets) ∷ [])))
          live.passed s.frames (frames-append live.items (item_at live.passed (Frame octets) ∷ [])) stands.frames;
      commands = none (command_dues (dues_of live.items))
          (command_dues (dues_of (live.items ++ item_at live.passed (Frame octets) ∷ []))) s.commands
          (commands-append live.items (item_at live.passed (Frame octets) ∷ [])) stands.commands;
      due = due (Frame octets);
    }
    by-kind (Add line) = record {
      ticks = stands.ticks;
      frames = none (frame_dues (dues_of live.items)) (frame_dues (dues_of (live.items ++ item_at live.passed (Add line) ∷ [])))
          s.frames (frames-append live.items (item_at live.passed (Add line) ∷ [])) stands.frames;
      commands = one (command_dues (dues_of live.items))
          (command_dues (dues_of (live.items ++ item_at live.passed (Add line) ∷ []))) live.passed s.commands
          (commands-append live.items (item_at live.passed (Add line) ∷ [])) stands.commands;
      due = due (Add line);
    }
    by-kind (Remove line) = record {
      ticks = stands.ticks;
      frames = none (frame_dues (dues_of live.items)) (frame_dues (dues_of (live.items ++ item_at live.passed (Remove line) ∷ [])))
          s.frames (frames-append live.items (item_at live.passed (Remove line) ∷ [])) stands.frames;
      commands = one (command_dues (dues_of live.items))
          (command_dues (dues_of (live.items ++ item_at live.passed (Remove line) ∷ []))) live.passed s.commands
          (commands-append live.items (item_at live.passed (Remove line) ∷ [])) stands.commands;
      due = due (Remove line);
    }

-- ---- one saying after another
pub stands-begun : (config : Config) (leg : Leg) → Stands (opened config) (begin (walk_plan leg))
unfolding frame_dues command_dues
stands-begun config leg = record {
  ticks = refl;
  frames = refl;
  commands = refl;
  due = All-nil (λ (item : Item). item.due ≤ 0);
}

module _ (leg : Leg) (slow fast slip : ℕ) (is : IsPlanOf slow fast slip (walk_plan leg)) where
  pub fits-after : (s : Counts) (saying : Saying) → Fits (walk_plan leg) s →
      Fits (walk_plan leg) (counts_said (walk_plan leg) s saying)
  fits-after s (lands kind) fits = (step-fits slow fast slip (walk_plan leg) is s (landing_of kind) fits).0
  fits-after s (cuts m) fits = fits
  fits-after s (mends m) fits = fits
  fits-after s (passes k) fits =
      fits-rounds slow fast slip (walk_plan leg) is (rounds_for k (walk_plan leg) s) s fits

  stands-passed : (live : Live) (s : Counts) (k : ℕ) → live.passed + k ≤ leg.config.ticks → Stands live s →
      Fits (walk_plan leg) s → HasLater (live_after live (passes k)) leg.items →
      Stands (live_after live (passes k)) (counts_said (walk_plan leg) s (passes k))
  stands-passed live s k left stands fits more =
      let ticks = stands.ticks in
      let goes = goes-rounds (rounds_for k (walk_plan leg) s) (walk_plan leg) s in
      let settled : Settled (walk_plan leg) live.passed (s.ticks + k) s =
      settles leg live (s.ticks + k) s stands more.later more.are
      (All-weaker (λ (item : Item). live.passed + k ≤ item.due) (λ (item : Item). s.ticks + k ≤ item.due)
      (λ item late. omega (arith, late, ticks)) more.later more.late) in
      let made : (counts_said (walk_plan leg) s (passes k)).ticks ≡ s.ticks + k =
      pass-ticks slow fast slip (walk_plan leg) is (bound (walk_plan leg)) live.passed (s.ticks + k) s fits settled
      (omega (arith, ticks)) (omega arith) (omega (arith, ticks, left)) (omega arith) in
      record {
        ticks = made ∙ ap (λ n. n + k) ticks;
        frames = goes.frames ∙ stands.frames;
        commands = goes.commands ∙ stands.commands;
        due = All-weaker (λ (item : Item). item.due ≤ live.passed) (λ (item : Item). item.due ≤ live.passed + k)
            (λ item early. omega (arith, early)) live.items stands.due;
      }

  pub stands-after : (live : Live) (s : Counts) (saying : Saying) → CanSay leg.config.ticks live saying →
      Stands live s → Fits (walk_plan leg) s → HasLater (live_after live saying) leg.items →
      Stands (live_after live saying) (counts_said (walk_plan leg) s saying)
  stands-after live s (lands kind) can stands fits more =
      subst (λ c. Stands (live_after live (lands kind)) c) (sym (item-lands leg live s kind stands more))
      (stands-landed live s kind stands)
  stands-after live s (cuts m) can stands fits more = record {
    ticks = stands.ticks;
    frames = stands.frames;
    commands = stands.commands;
    due = stands.due;
  }
  stands-after live s (mends m) can stands fits more = record {
    ticks = stands.ticks;
    frames = stands.frames;
    commands = stands.commands;
    due = stands.due;
  }
  stands-after live s (passes k) can stands fits more = stands-passed live s k can.left stands fits more

  pub stands-all : (said : List Saying) (live : Live) (s : Counts) → CanSayAll leg.config.ticks live said →
      Stands live s → Fits (walk_plan leg) s → HasLater (live_from live said) leg.items →
      Stands (live_from live said) (counts_from (walk_plan leg) s said)
  unfolding CanSayAll counts_from live_from
  stands-all [] live s can stands fits more = stands
  stands-all (saying ∷ said) live s can stands fits more =
      let first = later-all said (live_after live saying) leg.items more in
      stands-all said (live_after live saying) (counts_said (walk_plan leg) s saying) can.1
      (stands-after live s saying can.0 stands fits first) (fits-after s saying fits) more

-- ---- the items of a leg that agrees
-- the next one is what is said
pub item-next : (leg : Leg) (live : Live) (kind : ItemKind) → HasLater (live_after live (lands kind)) leg.items →
    slice_get leg.items (length live.items) ≡ Some (item_at live.passed kind)
item-next leg live kind more =
    ap (λ items. slice_get items (length live.items))
    (more.are ∙ sym (append_one live.items (item_at live.passed kind) more.later))
    ∙ slice_get-append_seam live.items (item_at live.passed kind) more.later

-- while some ticks pass nothing is due
pub free-passed : (leg : Leg) (live : Live) (s : Counts) (k n : ℕ) → Stands live s →
    HasLater (live_after live (passes k)) leg.items →
    (after_rounds n (walk_plan leg) s).ticks < live.passed + k →
    held (after_rounds n (walk_plan leg) s).ticks (after_rounds n (walk_plan leg) s).frames
    (after_rounds n (walk_plan leg) s).commands 0 (walk_plan leg).items ≡ None
free-passed leg live s k n stands more left =
    let plan : Plan = walk_plan leg in
    let settled : Settled plan live.passed (live.passed + k) s =
    settles leg live (live.passed + k) s stands more.later more.are more.late in
    let goes = goes-rounds n plan s in
    let up = goes.ticks in
    let ticks = stands.ticks in
    settled-free plan (after_rounds n plan s)
    (settled-at plan live.passed (live.passed + k) (after_rounds n plan s)
    (settled-rounds n plan live.passed (live.passed + k) s settled) (omega (arith, up, ticks)) left)

-- ---- A script's rounds and event lines give the counts of the conversation whose script it is.
-- ---- rounds of a script
unfoldable pub script_rounds : ℕ → Plan → Counts → Counts
script_rounds zero plan s = s
script_rounds (suc n) plan s = script_rounds n plan (run plan s (round plan))

rounds-none : (plan : Plan) (s : Counts) → script_rounds 0 plan s ≡ s
unfolding script_rounds
rounds-none plan s = refl

pub rounds-add : (a b : ℕ) (plan : Plan) (s : Counts) →
    script_rounds (a + b) plan s ≡ script_rounds b plan (script_rounds a plan s)
unfolding script_rounds
rounds-add zero b plan s = let e : 0 + b ≡ b = omega arith in ap (λ n. script_rounds n plan s) e
rounds-add (suc a) b plan s =
    let e : suc a + b ≡ suc (a + b) = omega arith in
    ap (λ n. script_rounds n plan s) e ∙ rounds-add a b plan (run plan s (round plan))

-- fewer items have landed in a script's walk, and all else is the same
pub record Beside (s other : Counts) : Type 0 where
  pub a : ℕ
  pub b : ℕ
  pub frames : a ≤ s.frames
  pub commands : b ≤ s.commands
  pub are : other ≡ record s { frames = a; commands = b }

beside-same : (s other : Counts) → other ≡ s → Beside s other
beside-same s other same = record {
  a = s.frames;
  b = s.commands;
  frames = omega arith;
  commands = omega arith;
  are = same;
}

beside-rounds : (plan : Plan) (k from until : ℕ) (s other : Counts) → Settled plan from until s → from ≤ s.ticks →
    Beside s other →
    Beside (after_rounds (rounds_until k plan until s) plan s) (script_rounds (rounds_until k plan until s) plan other)
unfolding after_rounds rounds_until script_rounds
beside-rounds plan zero from until s other settled low beside = beside
beside-rounds plan (suc k) from until s other settled low beside = elim (cases_Bool (nat_le until s.ticks)) [
  | inl e ↦ rw e beside
  | inr e ↦
      let left = leb-false until s.ticks e in
      let same : run plan other (round plan) ≡ live_round plan s =
      ap (λ c. run plan c (round plan)) beside.are
      ∙ round-lands plan s beside.a beside.b (settled-at plan from until s settled low left) beside.frames
      beside.commands in
      let up = (goes-round plan s).ticks in
      rw e (beside-rounds plan k from until (live_round plan s) (run plan other (round plan))
      (settled-round plan from until s settled) (omega (arith, low, up))
      (beside-same (live_round plan s) (run plan other (round plan)) same))
]

beside-landed : (s other : Counts) (kind : ItemKind) → Beside s other → Beside (landed_by kind s) other
beside-landed s other (Frame octets) beside = record {
  a = beside.a;
  b = beside.b;
  frames = let low = beside.frames in omega (arith, low);
  commands = beside.commands;
  are = beside.are;
}
beside-landed s other (Add line) beside = record {
  a = beside.a;
  b = beside.b;
  frames = beside.frames;
  commands = let low = beside.commands in omega (arith, low);
  are = beside.are;
}
beside-landed s other (Remove line) beside = record {
  a = beside.a;
  b = beside.b;
  frames = beside.frames;
  commands = let low = beside.commands in omega (arith, low);
  are = beside.are;
}

module _ (leg : Leg) (slow fast slip : ℕ) (is : IsPlanOf slow fast slip (walk_plan leg)) where
  beside-after : (live : Live) (s other : Counts) (saying : Saying) → Stands live s →
      HasLater (live_after live saying) leg.items → Beside s other →
      Beside (counts_said (walk_plan leg) s saying)
      (script_rounds (rounds_said (walk_plan leg) s saying) (walk_plan leg) other)
  unfolding script_rounds
  beside-after live s other (lands kind) stands more beside =
      subst (λ c. Beside c other) (sym (item-lands leg live s kind stands more)) (beside-landed s other kind beside)
  beside-after live s other (cuts m) stands more beside = beside
  beside-after live s other (mends m) stands more beside = beside
  beside-after live s other (passes k) stands more beside =
      let ticks = stands.ticks in
      let settled : Settled (walk_plan leg) live.passed (s.ticks + k) s =
      settles leg live (s.ticks + k) s stands more.later more.are
      (λ j d inside. let late = more.late j d inside in omega (arith, late, ticks)) in
      beside-rounds (walk_plan leg) (bound (walk_plan leg)) live.passed (s.ticks + k) s other settled
      (omega (arith, ticks)) beside

  pub beside-all : (said : List Saying) (live : Live) (s other : Counts) → CanSayAll leg.config.ticks live said →
      Stands live s → Fits (walk_plan leg) s → HasLater (live_from live said) leg.items → Beside s other →
      Beside (counts_from (walk_plan leg) s said)
      (script_rounds (rounds_from (walk_plan leg) s said) (walk_plan leg) other)
  unfolding CanSayAll counts_from live_from rounds_from script_rounds
  beside-all [] live s other can stands fits more beside = beside
  beside-all (saying ∷ said) live s other can stands fits more beside =
      let plan : Plan = walk_plan leg in
      let first = later-all said (live_after live saying) leg.items more in
      let next : Counts = counts_said plan s saying in
      let one : ℕ = rounds_said plan s saying in
      subst (λ c. Beside (counts_from plan next said) c) (sym (rounds-add one (rounds_from plan next said) plan other))
      (beside-all said (live_after live saying) next (script_rounds one plan other) can.1
      (stands-after leg slow fast slip is live s saying can.0 stands fits first)
      (fits-after leg slow fast slip is s saying fits) more
      (beside-after live s other saying stands first beside))

-- ---- event lines
module _ (plan : Plan) (line : ℕ → EventLine) (tries : ℕ → Counts → Counts)
    (are : (n : ℕ) (s : Counts) → run_line plan s (line n) ≡ tries n s)
    (none : (s : Counts) → tries 0 s ≡ s)
    (more : (a b : ℕ) (s : Counts) → tries (a + b) s ≡ tries b (tries a s))
  where
    many : (q size : ℕ) (s : Counts) (rest : List EventLine) →
        run_lines plan s (replicate q (line size) ++ rest) ≡ run_lines plan (tries (q * size) s) rest
    unfolding run_lines
    many zero size s rest =
        let e : 0 * size ≡ 0 = grind arith in
        sym (ap (λ n. run_lines plan (tries n s) rest) e ∙ ap (λ c. run_lines plan c rest) (none s))
    many (suc q) size s rest =
        let e : size + q * size ≡ suc q * size = grind arith in
        ap (λ c. run_lines plan c (replicate q (line size) ++ rest)) (are size s)
        ∙ many q size (tries size s) rest
        ∙ ap (λ c. run_lines plan c rest) (sym (more size (q * size) s) ∙ ap (λ n. tries n s) e)

    last : (r : ℕ) (s : Counts) (rest : List EventLine) →
        run_lines plan s ((if r == 0 then [] else line r ∷ []) ++ rest) ≡ run_lines plan (tries r s) rest
    unfolding run_lines
    last r s rest = elim (cases_Bool (r == 0)) [
      | inl e ↦
          let zero_left : r ≡ 0 = eqb-true r 0 e in
          rw e (ap (λ c. run_lines plan c rest) (sym (ap (λ n. tries n s) zero_left ∙ none s)))
      | inr e ↦ rw e (ap (λ c. run_lines plan c rest) (are r s))
    ]

    pub counted-run : (n : ℕ) (s : Counts) (rest : List EventLine) →
        run_lines plan s (counted line n ++ rest) ≡ run_lines plan (tries n s) rest
    counted-run n s rest = by (n / most_count) most_count (n % most_count) (omega arith)
      where
        by : (q size r : ℕ) → q * size + r ≡ n →
            run_lines plan s
            ((replicate q (line size) ++ (if r == 0 then [] else line r ∷ [])) ++ rest)
            ≡ run_lines plan (tries n s) rest
        by q size r all =
            let end : List EventLine = if r == 0 then [] else line r ∷ [] in
            ap (run_lines plan s) (append_assoc (replicate q (line size)) end rest)
            ∙ many q size s (end ++ rest)
            ∙ last r (tries (q * size) s) rest
            ∙ ap (λ c. run_lines plan c rest) (sym (more (q * size) r s) ∙ ap (λ n. tries n s) all)

rounds-line : (n : ℕ) (plan : Plan) (s : Counts) → run_line plan s (Round n) ≡ script_rounds n plan s
unfolding script_rounds
rounds-line zero plan s = run-none plan s
rounds-line (suc n) plan s =
    run-append plan s (round plan) (flat_map (λ (tries : List Event). tries) (replicate n (round plan)))
    ∙ rounds-line n plan (run plan s (round plan))

tries-add : (event : Event) (plan : Plan) (a b : ℕ) (s : Counts) →
    run plan s (replicate (a + b) event) ≡ run plan (run plan s (replicate a event)) (replicate b event)
tries-add event plan a b s =
    ap (run plan s) (sym (replicate-append-replicate a b event))
    ∙ run-append plan s (replicate a event) (replicate b event)

pub events-run : (plan : Plan) (rounds : ℕ) (live : Live) (s : Counts) →
    run_lines plan s (events_by rounds live)
    ≡ run plan (run plan (script_rounds rounds plan s) (replicate (max 1 (frames_in live)) Accept))
    (replicate (max 1 (commands_in live)) Command)
unfolding run_lines
events-run plan rounds live s =
    let clients : List EventLine = counted Client (max 1 (frames_in live)) in
    let operators : List EventLine = counted Operator (max 1 (commands_in live)) in
    let after : Counts = script_rounds rounds plan s in
    let landed : Counts = run plan after (replicate (max 1 (frames_in live)) Accept) in
    ap (run_lines plan s) (append_assoc (counted Round rounds) clients operators)
    ∙ counted-run plan Round (λ n s. script_rounds n plan s) (λ n s. rounds-line n plan s) (rounds-none plan)
    (λ a b s. rounds-add a b plan s) rounds s (clients ++ operators)
    ∙ counted-run plan Client (λ n s. run plan s (replicate n Accept)) (λ n s. refl) (run-none plan)
    (tries-add Accept plan) (max 1 (frames_in live)) after operators
    ∙ ap (run_lines plan landed) (sym (append-nil operators))
    ∙ counted-run plan Operator (λ n s. run plan s (replicate n Command)) (λ n s. refl) (run-none plan)
    (tries-add Command plan) (max 1 (commands_in live)) landed []

-- ---- a list of event lines that isn't empty
many-lines : (q r : ℕ) (x y : EventLine) → 1 ≤ q + r →
    1 ≤ length (replicate q x ++ (if r == 0 then [] else y ∷ []))
many-lines (suc q) r x y some =
    let sum = length-append (replicate (suc q) x) (if r == 0 then [] else y ∷ []) in
    let size : length (replicate (suc q) x) ≡ suc q = length-replicate (suc q) x in omega (arith, sum, size)
many-lines zero r x y some = elim (cases_Bool (r == 0)) [
  | inl e ↦ let none : r ≡ 0 = eqb-true r 0 e in absurd (omega (arith, none, some))
  | inr e ↦ rw e (let h : 1 ≤ length (y ∷ []) = omega arith in h)
]

counted-some : (line : ℕ → EventLine) (n : ℕ) → 1 ≤ n → 1 ≤ length (counted line n)
counted-some line n some =
    many-lines (n / most_count) (n % most_count) (line most_count) (line (n % most_count)) (omega (arith, some))

pub events-some : (rounds : ℕ) (live : Live) → 1 ≤ length (events_by rounds live)
events-some rounds live =
    let front : List EventLine = counted Round rounds ++ counted Client (max 1 (frames_in live)) in
    let operators : List EventLine = counted Operator (max 1 (commands_in live)) in
    let sum = length-append front operators in
    let some = counted-some Operator (max 1 (commands_in live)) (omega arith) in
    omega (arith, sum, some)

pub walked-some : (plan : Plan) (lines : List EventLine) → 1 ≤ length lines →
    walked plan lines ≡ run_lines plan (begin plan) lines
walked-some plan [] some = absurd (omega arith)
walked-some plan (line ∷ lines) some = refl

-- ---- the script of a conversation
nothing-later : (config : Config) (said : List Saying) → HasLater (live_of config said) (live_of config said).items
nothing-later config said = record {
  later = [];
  are = sym (append-nil (live_of config said).items);
  late = All-nil (λ (item : Item). (live_of config said).passed ≤ item.due);
}

module _ (config : Config) (said : List Saying) (sound : IsSound (leg_said config said))
    (can : CanSayAll config.ticks (opened config) said)
  where
    plan_is : IsPlan (walk_plan (leg_said config said))
    plan_is = has-plan (leg_said config said) (sound-walks (leg_said config said) sound)

    begun : Fits (walk_plan (leg_said config said)) (begin (walk_plan (leg_said config said)))
    begun = begin-fits plan_is.slow plan_is.fast plan_is.slip (walk_plan (leg_said config said)) plan_is.is

    pub said-stands : Stands (live_of config said) (live_counts (leg_said config said) said)
    said-stands = stands-all (leg_said config said) plan_is.slow plan_is.fast plan_is.slip plan_is.is said
        (opened config) (begin (walk_plan (leg_said config said))) can (stands-begun config (leg_said config said)) begun
        (nothing-later config said)

    said-beside : Beside (live_counts (leg_said config said) said)
        (script_rounds (rounds_of (leg_said config said) said) (walk_plan (leg_said config said))
        (begin (walk_plan (leg_said config said))))
    said-beside = beside-all (leg_said config said) plan_is.slow plan_is.fast plan_is.slip plan_is.is said
        (opened config) (begin (walk_plan (leg_said config said))) (begin (walk_plan (leg_said config said))) can
        (stands-begun config (leg_said config said)) begun (nothing-later config said)
        (beside-same (begin (walk_plan (leg_said config said))) (begin (walk_plan (leg_said config said))) refl)

    said-settled : IsSettled (walk_plan (leg_said config said)) (live_counts (leg_said config said) said)
    said-settled =
        let live : Live = live_of config said in
        let s : Counts = live_counts (leg_said config said) said in
        let ticks = said-stands.ticks in
        settled-at (walk_plan (leg_said config said)) live.passed (suc s.ticks) s
        (settles (leg_said config said) live (suc s.ticks) s said-stands [] (sym (append-nil live.items))
        (All-nil (λ (item : Item). suc s.ticks ≤ item.due))) (omega (arith, ticks)) (omega arith)

    pub same-counts : walked (walk_plan (leg_said config said))
        (events_by (rounds_of (leg_said config said) said) (live_of config said))
        ≡ live_counts (leg_said config said) said
    same-counts =
        let plan : Plan = walk_plan (leg_said config said) in
        let live : Live = live_of config said in
        let rounds : ℕ = rounds_of (leg_said config said) said in
        let s : Counts = live_counts (leg_said config said) said in
        let a : ℕ = said-beside.a in
        let b : ℕ = said-beside.b in
        let few = said-beside.frames in
        let fewer = said-beside.commands in
        let frames = said-stands.frames in
        let orders = said-stands.commands in
        walked-some plan (events_by rounds live) (events-some rounds live)
        ∙ events-run plan rounds live (begin plan)
        ∙ ap (λ c. run plan (run plan c (replicate (max 1 (frames_in live)) Accept))
        (replicate (max 1 (commands_in live)) Command)) said-beside.are
        ∙ ap (λ c. run plan c (replicate (max 1 (commands_in live)) Command))
        (accepts plan (max 1 (frames_in live)) (record s { frames = a; commands = b }) s.frames few
        (omega (arith, few, frames)) said-settled.frames)
        ∙ commands plan (max 1 (commands_in live)) (record s { commands = b }) s.commands fewer
        (omega (arith, fewer, orders)) said-settled.commands
