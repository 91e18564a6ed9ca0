-- What the calls of a live pair leave for each two scripts for which it stands (GoesOn): an item, a carry, a row, and a
-- tick of both ways.
use Rattle.std.proofs.Common.{◌≡◌, ℕ, ◌+◌, ◌<◌, ◌≤◌, nat_le, nat_lt, Bool, true, false, if◌then◌else◌, length}
use Rattle.std.proofs.Common.{slice_get, Option, Some, None, option_map, refl, sym, ◌∙◌, ap, ap₂, subst}
use Rattle.std.proofs.Common.{arith, le-ltb}
use Rattle.law_model.specs.Common.{Counts, Leg, command_due, frame_due}
use Rattle.law_model.specs.declared.item_refusals.Refusal.{Refusal}
use Rattle.law_model.specs.declared.script_types.Config.{Config}
use Rattle.law_model.specs.declared.script_types.ItemKind.{ItemKind}
use Rattle.law_model.specs.declared.script_types.Script.{Script}
use Rattle.law_model.specs.declared.walk_events.Event.TheVariants.{Accept, Command, Carry as Carry_one}
use Rattle.law_model.specs.declared.walk_events.StallCause.{StallCause}
use Rattle.law_model.specs.declared.walk_events.StallCause.TheVariants.{Done, Held}
use Rattle.law_model.specs.session.Scenario.{packets_in}
use Rattle.law_live.specs.Common.{leg_on}
use Rattle.law_walk.specs.Common.{is_client}
use Rattle.law_pair.specs.Common.{IsPairWalked, PairCounts, PairPlan, counts_on}
use Rattle.law_pair.specs.Common.{first_way, held_at, landed, or_else, pair_begin, pair_plan, pair_step}
use Rattle.law_pair.specs.Common.{plan_on, tick_by, tick_cause, way_of, with_counts}
use Rattle.law_pair.specs.declared.pair_events.PairEvent.TheVariants.{Item, Carry, Take}
use Rattle.law_pair.specs.declared.pair_events.Way.{Way}
use Rattle.law_pair.specs.declared.pair_events.Way.TheVariants.{There, Back}
use Rattle.law_pair.proofs.PairMeasureAndDrainLaws.{pair-steps}
use Rattle.walk_engine.specs.Common.{IsAlike, IsDue, Makes, Parts, StandsForSome, answer_by, counts_after, counts_of}
use Rattle.walk_engine.specs.Common.{landing_of, next_in, refusal_in_event, stall_by, windows_in}
use Rattle.walk_engine.specs.declared.walk_core.step_answers.Moved.{Moved}
use Rattle.walk_engine.specs.walk_core.WayParts.{WayStands}
use Rattle.walk_engine.proofs.LandedItemSteps.{command-next, frame-next, next-cause, next-moves}
use Rattle.pair_engine.specs.LivePairs.{CanTurn, GoesOn, IsLivePair, IsPairOver, LandsNext}
use Rattle.pair_engine.specs.LivePairs.{PairLives, PairWalking, SameWindows, TicksBoth, WayWalking, due_as}
use Rattle.pair_engine.specs.LivePairs.{walking_counts, walking_on, way_walked}
use Rattle.pair_engine.specs.WayCalls.{CanTickBoth, IsStill, Keeps, TakesRow, late_cause}
use Rattle.pair_engine.specs.Ways.{IsNewLive, with_both_lags}
use Rattle.pair_engine.proofs.LiveWayLaws.{new-pair-counts, new-pair-lives, seen-lives, still-lives, ticks-together}
use Rattle.pair_engine.proofs.LiveWayLaws.{way-alike}
use Rattle.pair_engine.proofs.PairEventAndRoundLaws.{paths-size}

-- ---- one way, in its place
abbrev pub with_way : PairWalking → Way → WayWalking → PairWalking
with_way pair There now = record { there = now; back = pair.back }
with_way pair Back now = record { there = pair.there; back = now }

-- how many return packets of a way have come
abbrev pub backs_on : PairWalking → Way → ℕ
backs_on pair way = packets_in (walking_on pair way).core.sink.taken

pub stands-on : (one other : Script) (pair : PairWalking) (way : Way) → PairLives one other pair →
    WayStands (leg_on one other way) (backs_on pair way) (walking_on pair way).core
stands-on one other pair There lives = lives.there_way.stands
stands-on one other pair Back lives = lives.back_way.stands

pub some-on : (pair : PairWalking) (way : Way) → IsLivePair pair → StandsForSome (walking_on pair way).core
some-on pair way is = let (one, other, lives) = is in
    (leg_on one other way, backs_on pair way, stands-on one other pair way lives)

pub counts-on : (pair : PairWalking) (way : Way) →
    counts_on (walking_counts pair) way ≡ counts_of (walking_on pair way).core (backs_on pair way)
counts-on pair There = refl
counts-on pair Back = refl

pub same-windows : (pair : PairWalking) (way : Way) (now : WayWalking) →
    windows_in now.core.lines ≡ windows_in (walking_on pair way).core.lines → SameWindows pair (with_way pair way now)
same-windows pair There now same There = same
same-windows pair There now same Back = refl
same-windows pair Back now same There = refl
same-windows pair Back now same Back = same

-- ---- an event of one way that the other one doesn't see
module _ (one other : Script) (pair : PairWalking) (now : WayWalking) (next : PairCounts)
    (lives : PairLives one other pair) (walked : IsPairWalked one other next) where
  still-there : IsStill pair.there now → WayStands (way_of one other) (packets_in pair.there.core.sink.taken) now.core →
      next ≡ record {
        there = counts_of now.core (packets_in pair.there.core.sink.taken);
        back = way_walked pair.back;
      } →
      GoesOn one other next (with_way pair There now)
  still-there still stands is =
      let rows = ap packets_in still.rows in
      let counts : walking_counts (with_way pair There now) ≡ next =
      ap (λ n. record { there = counts_of now.core n; back = way_walked pair.back }) rows ∙ sym is in
      record {
        lives = record {
          fits = lives.fits;
          walked = subst (IsPairWalked one other) (sym counts) walked;
          there_way = still-lives one other pair.back.core.sink.taken pair.there now lives.there_way still
              (subst (λ n. WayStands (way_of one other) n now.core) (sym rows) stands);
          back_way = seen-lives other one pair.there.core.sink.taken now.core.sink.taken pair.back still.rows
              lives.back_way;
        };
        counts = counts;
      }

  still-back : IsStill pair.back now → WayStands (way_of other one) (packets_in pair.back.core.sink.taken) now.core →
      next ≡ record {
        there = way_walked pair.there;
        back = counts_of now.core (packets_in pair.back.core.sink.taken);
      } →
      GoesOn one other next (with_way pair Back now)
  still-back still stands is =
      let rows = ap packets_in still.rows in
      let counts : walking_counts (with_way pair Back now) ≡ next =
      ap (λ n. record { there = way_walked pair.there; back = counts_of now.core n }) rows ∙ sym is in
      record {
        lives = record {
          fits = lives.fits;
          walked = subst (IsPairWalked one other) (sym counts) walked;
          there_way = seen-lives one other pair.back.core.sink.taken now.core.sink.taken pair.there still.rows
              lives.there_way;
          back_way = still-lives other one pair.there.core.sink.taken pair.back now lives.back_way still
              (subst (λ n. WayStands (way_of other one) n now.core) (sym rows) stands);
        };
        counts = counts;
      }

  pub still-goes : (way : Way) → IsStill (walking_on pair way) now →
      WayStands (leg_on one other way) (backs_on pair way) now.core →
      next ≡ with_counts way (counts_of now.core (backs_on pair way)) (walking_counts pair) →
      GoesOn one other next (with_way pair way now)
  still-goes There still stands is = still-there still stands is
  still-goes Back still stands is = still-back still stands is

-- its lines have other windows
pub damaged-lives : (one other : Script) (pair : PairWalking) (way : Way) (now : WayWalking) →
    PairLives one other pair → IsStill (walking_on pair way) now →
    WayStands (leg_on one other way) (backs_on pair way) now.core →
    counts_of now.core (backs_on pair way) ≡ counts_of (walking_on pair way).core (backs_on pair way) →
    PairLives one other (with_way pair way now)
damaged-lives one other pair There now lives still stands same =
    (still-goes one other pair now (walking_counts pair) lives lives.walked There still stands
    (ap (λ (s : Counts). record { there = s; back = way_walked pair.back }) (sym same))).lives
damaged-lives one other pair Back now lives still stands same =
    (still-goes one other pair now (walking_counts pair) lives lives.walked Back still stands
    (ap (λ (s : Counts). record { there = way_walked pair.there; back = s }) (sym same))).lives

pub damaged-counts : (pair : PairWalking) (way : Way) (now : WayWalking) →
    now.core.sink.taken ≡ (walking_on pair way).core.sink.taken →
    counts_of now.core (backs_on pair way) ≡ counts_of (walking_on pair way).core (backs_on pair way) →
    walking_counts (with_way pair way now) ≡ walking_counts pair
damaged-counts pair There now rows same =
    ap (λ (s : Counts). record { there = s; back = way_walked pair.back })
    (ap (λ n. counts_of now.core (packets_in n)) rows ∙ same)
damaged-counts pair Back now rows same =
    ap (λ (s : Counts). record { there = way_walked pair.there; back = s })
    (ap (λ n. counts_of now.core (packets_in n)) rows ∙ same)

-- ---- an item
landed-by : (client : Bool) (leg : Leg) (s : Counts) (due : ℕ) (kind : ItemKind) → due ≤ s.ticks →
    slice_get leg.items (next_in leg s client) ≡ Some (record { due = due; kind = kind }) →
    counts_after leg s (landing_of client) ≡ landed (if client then frame_due 0 else command_due 0) s
landed-by true leg s due kind low there =
    let next : Counts = record s { frames = s.frames + 1 } in
    let i : ℕ = next_in leg s true in
    let is = frame-next leg s i refl in
    let soon : nat_lt s.ticks due ≡ false = le-ltb s.ticks due low in
    sym (next-moves leg s next Accept i is (record { due = due; kind = kind }) there
    (next-cause leg s next Accept i is ∙ ap (stall_by s.ticks) there ∙ rw soon refl)).0
landed-by false leg s due kind low there =
    let next : Counts = record s { commands = s.commands + 1 } in
    let i : ℕ = next_in leg s false in
    let is = command-next leg s i refl in
    let soon : nat_lt s.ticks due ≡ false = le-ltb s.ticks due low in
    sym (next-moves leg s next Command i is (record { due = due; kind = kind }) there
    (next-cause leg s next Command i is ∙ ap (stall_by s.ticks) there ∙ rw soon refl)).0

landed-as : (leg : Leg) (s : Counts) (kind : ItemKind) → IsDue leg s kind →
    counts_after leg s (landing_of (is_client kind)) ≡ landed (due_as kind 0) s
landed-as leg s kind is = landed-by (is_client kind) leg s is.due kind is.by_now is.next

pub said-goes : (one other : Script) (pair : PairWalking) (way : Way) (kind : ItemKind) (now : WayWalking)
    (answer : Option Refusal) → PairLives one other pair → LandsNext one other way (walking_counts pair) kind →
    IsStill (walking_on pair way) now →
    Makes (leg_on one other way) (backs_on pair way) (landing_of (is_client kind)) (walking_on pair way).core now.core
    (answer_by None answer) →
    GoesOn one other (pair_step (pair_plan one other) (walking_counts pair) (Item way)).counts (with_way pair way now)
said-goes one other pair There kind now answer lives lands still makes =
    still-goes one other pair now _ lives
    (pair-steps (pair_plan one other) (walking_counts pair) (Item There) lives.walked) There still makes.stands
    (lands.lands ∙ ap (λ (s : Counts). record { there = s; back = way_walked pair.back })
    (sym (makes.counts ∙ landed-as (way_of one other) (way_walked pair.there) kind lands.due)))
said-goes one other pair Back kind now answer lives lands still makes =
    still-goes one other pair now _ lives
    (pair-steps (pair_plan one other) (walking_counts pair) (Item Back) lives.walked) Back still makes.stands
    (lands.lands ∙ ap (λ (s : Counts). record { there = way_walked pair.there; back = s })
    (sym (makes.counts ∙ landed-as (way_of other one) (way_walked pair.back) kind lands.due)))

-- as the call has it, of each two scripts
abbrev pub SaysOn : PairWalking → PairWalking → ItemKind → Way → Type 0
SaysOn pair now kind way =
    (one other : Script) → PairLives one other pair → LandsNext one other way (walking_counts pair) kind →
    GoesOn one other (pair_step (pair_plan one other) (walking_counts pair) (Item way)).counts now

abbrev pub RefusesOn : PairWalking → Option Refusal → ItemKind → Way → Type 0
RefusesOn pair answer kind way =
    (one other : Script) → PairLives one other pair → LandsNext one other way (walking_counts pair) kind →
    answer ≡ refusal_in_event (leg_on one other way) (counts_on (walking_counts pair) way)
    (landing_of (is_client kind))

pub still-landed : (was now : WayWalking) → now.lag ≡ was.lag → now.said ≡ was.said → now.last ≡ was.last →
    now.core.source.core.ticks ≡ was.core.source.core.ticks → now.core.source.inbox ≡ was.core.source.inbox →
    now.core ≡ record was.core { source = now.core.source } → IsStill was now
still-landed was now lag said last ticks inbox rest = record {
  lag = lag;
  said = said;
  ticks = ticks;
  inbox = inbox;
  rows = ap (λ (p : Parts). p.sink.taken) rest;
  last = last;
}

-- ---- a carry
pub carry-goes : (one other : Script) (pair : PairWalking) (way : Way) (line : ℕ) (now : WayWalking)
    (cause : Option StallCause) → PairLives one other pair → IsStill (walking_on pair way) now →
    Makes (leg_on one other way) (backs_on pair way) (Carry_one line) (walking_on pair way).core now.core
    (answer_by cause None) →
    GoesOn one other (pair_step (pair_plan one other) (walking_counts pair) (Carry way line)).counts
    (with_way pair way now)
carry-goes one other pair There line now cause lives still makes =
    still-goes one other pair now _ lives
    (pair-steps (pair_plan one other) (walking_counts pair) (Carry There line) lives.walked) There still makes.stands
    (ap (λ (s : Counts). record { there = s; back = way_walked pair.back }) (sym makes.counts))
carry-goes one other pair Back line now cause lives still makes =
    still-goes one other pair now _ lives
    (pair-steps (pair_plan one other) (walking_counts pair) (Carry Back line) lives.walked) Back still makes.stands
    (ap (λ (s : Counts). record { there = way_walked pair.there; back = s }) (sym makes.counts))

abbrev pub CarriesOn : PairWalking → PairWalking → ℕ → Way → Type 0
CarriesOn pair now line way =
    (one other : Script) → PairLives one other pair →
    GoesOn one other (pair_step (pair_plan one other) (walking_counts pair) (Carry way line)).counts now

pub still-carried : (was now : WayWalking) → now.lag ≡ was.lag → now.said ≡ was.said → now.last ≡ was.last →
    now.core ≡ record was.core { sent = now.core.sent; lines = now.core.lines } → IsStill was now
still-carried was now lag said last rest = record {
  lag = lag;
  said = said;
  ticks = ap (λ (p : Parts). p.source.core.ticks) rest;
  inbox = ap (λ (p : Parts). p.source.inbox) rest;
  rows = ap (λ (p : Parts). p.sink.taken) rest;
  last = last;
}

-- ---- a cut and a mend
pub still-damaged : (was now : WayWalking) → now.lag ≡ was.lag → now.said ≡ was.said → now.last ≡ was.last →
    now.core ≡ record was.core { lines = now.core.lines } → IsStill was now
still-damaged was now lag said last rest = record {
  lag = lag;
  said = said;
  ticks = ap (λ (p : Parts). p.source.core.ticks) rest;
  inbox = ap (λ (p : Parts). p.source.inbox) rest;
  rows = ap (λ (p : Parts). p.sink.taken) rest;
  last = last;
}

-- there is a path for each line
pub lines-on : (one other : Script) (pair : PairWalking) (way : Way) → PairLives one other pair →
    length (walking_on pair way).core.lines ≡ length (plan_on (pair_plan one other) way).paths
lines-on one other pair There lives =
    let stands = lives.there_way.stands in
    stands.lines.size ∙ paths-size one other lives.fits.there_way
lines-on one other pair Back lives =
    let stands = lives.back_way.stands in
    stands.lines.size ∙ paths-size other one lives.fits.back_way

-- ---- a row
abbrev pub TakesOn : PairWalking → PairWalking → Way → Type 0
TakesOn pair now way =
    (one other : Script) → PairLives one other pair →
    GoesOn one other (pair_step (pair_plan one other) (walking_counts pair) (Take way)).counts now

pub take-there : (one other : Script) (pair now : PairWalking) (answer : Moved) → PairLives one other pair →
    TakesRow one other pair.there pair.back now.there now.back answer →
    GoesOn one other (pair_step (pair_plan one other) (walking_counts pair) (Take There)).counts now
take-there one other pair now answer lives takes =
    let counts : walking_counts now
    ≡ (pair_step (pair_plan one other) (walking_counts pair) (Take There)).counts =
    ap₂ (λ (s t : Counts). record { there = s; back = t }) takes.own_counts takes.other_counts in
    record {
      lives = record {
        fits = lives.fits;
        walked = subst (IsPairWalked one other) (sym counts)
            (pair-steps (pair_plan one other) (walking_counts pair) (Take There) lives.walked);
        there_way = takes.own_way;
        back_way = takes.other_way;
      };
      counts = counts;
    }

pub take-back : (one other : Script) (pair now : PairWalking) (answer : Moved) → PairLives one other pair →
    TakesRow other one pair.back pair.there now.back now.there answer →
    GoesOn one other (pair_step (pair_plan one other) (walking_counts pair) (Take Back)).counts now
take-back one other pair now answer lives takes =
    let counts : walking_counts now
    ≡ (pair_step (pair_plan one other) (walking_counts pair) (Take Back)).counts =
    ap₂ (λ (s t : Counts). record { there = s; back = t }) takes.other_counts takes.own_counts in
    record {
      lives = record {
        fits = lives.fits;
        walked = subst (IsPairWalked one other) (sym counts)
            (pair-steps (pair_plan one other) (walking_counts pair) (Take Back) lives.walked);
        there_way = takes.other_way;
        back_way = takes.own_way;
      };
      counts = counts;
    }

pub kept-windows : (pair now : PairWalking) → Keeps pair.there now.there → Keeps pair.back now.back →
    SameWindows pair now
kept-windows pair now there back There = there.windows
kept-windows pair now there back Back = back.windows

-- ---- a tick
-- where ticks are left and nothing is held, a send ring is full or a return packet unsaid, or nothing stalls it
pub late-tick : (one other : Script) (pair : PairWalking) → CanTurn one other pair →
    pair.there.core.source.core.ticks < pair.there.core.source.total →
    tick_cause (pair_plan one other) (walking_counts pair) ≡ late_cause (pair_plan one other) (walking_counts pair)
late-tick one other pair can left =
    let plan : PairPlan = pair_plan one other in
    let s : PairCounts = walking_counts pair in
    let total = can.lives.there_way.stands.total in
    let same = can.lives.fits.ticks in
    let together = ticks-together one other pair can.lives in
    let one_left : nat_le one.config.ticks pair.there.core.source.core.ticks ≡ false =
    grind (arith, left, total) in
    let other_left : nat_le other.config.ticks pair.back.core.source.core.ticks ≡ false =
    grind (arith, left, total, same, together) in
    let late : Option (Way × StallCause) = late_cause plan s in
    let holds : Option (Way × StallCause) = first_way (held_at plan.there s.there) (held_at plan.back s.back) in
    ap₂ (λ (a b : Bool). or_else (first_way (if a then Some Done else None) (if b then Some Done else None))
    (or_else holds late)) one_left other_left
    ∙ ap₂ (λ (a b : Option ℕ). or_else (first_way (option_map Held a) (option_map Held b)) late) (can.free There)
    (can.free Back)

pub stalls-both : (one other : Script) (pair : PairWalking) (cause : Way × StallCause) → CanTurn one other pair →
    pair.there.core.source.core.ticks < pair.there.core.source.total →
    Some cause ≡ late_cause (pair_plan one other) (walking_counts pair) → TicksBoth one other pair pair
stalls-both one other pair cause can left stalls = record {
  lives = can.lives;
  counts = ap (λ (found : Option (Way × StallCause)). (tick_by found (walking_counts pair)).counts)
      (stalls ∙ sym (late-tick one other pair can left));
}

pub can-both : (one other : Script) (pair : PairWalking) → CanTurn one other pair →
    pair.there.core.source.core.ticks < pair.there.core.source.total →
    None ≡ late_cause (pair_plan one other) (walking_counts pair) → CanTickBoth one other pair
can-both one other pair can left free = record {
  lives = can.lives;
  free = late-tick one other pair can left ∙ sym free;
  agrees = can.agrees;
}

pub ticks-both : (one other : Script) (pair now : PairWalking) → CanTickBoth one other pair →
    GoesOn one other (tick_by None (walking_counts pair)).counts now → TicksBoth one other pair now
ticks-both one other pair now can goes = record {
  lives = goes.lives;
  counts = goes.counts
      ∙ ap (λ (found : Option (Way × StallCause)). (tick_by found (walking_counts pair)).counts) (sym can.free);
}

-- ---- before any event
module _ (there back : Config) (one other : Script) (pair : PairWalking) (over : IsPairOver there back one other)
    (there_new : IsNewLive there pair.there) (back_new : IsNewLive back pair.back) where
  there-alike : IsAlike (way_of one other) (with_both_lags there)
  there-alike = way-alike there one other over.pair.there_way over.one_network

  back-alike : IsAlike (way_of other one) (with_both_lags back)
  back-alike = way-alike back other one over.pair.back_way over.other_network

  pub over-counts : walking_counts pair ≡ pair_begin (pair_plan one other)
  over-counts =
      new-pair-counts there back one other pair over.pair (ap (λ (c : Config). c.lag) over.one_network)
      (ap (λ (c : Config). c.lag) over.other_network) there-alike back-alike there_new back_new

  pub over-lives : PairLives one other pair
  over-lives =
      new-pair-lives there back one other pair over.pair (ap (λ (c : Config). c.lag) over.one_network)
      (ap (λ (c : Config). c.lag) over.other_network) there-alike back-alike there_new back_new
