-- What is well said of both ways makes a pair, which agrees with what was said; and what two pairs that agree have in common.
use Rattle.std.proofs.lemmas.List.Elements.{All-nil}
use Rattle.law_model.specs.Common.{IsEvent, IsNetwork, Leg, leg_of, scenario_by, steps_in, telling_at}
use Rattle.std.proofs.Common.{◌≡◌, ℕ, ◌+◌, ◌*◌, ◌<◌, ◌≤◌, List, [], ◌∷◌, refl, sym, ◌∙◌, ap, ap₂, subst, arith}
use Rattle.law_model.specs.declared.script_types.Config.{Config}
use Rattle.law_model.specs.declared.script_types.Script.{Script}
use Rattle.law_progress.proofs.RoundProgressAndDrainLaws.{reached-fits}
use Rattle.law_walk.specs.Common.{CanWalk, cell_taken, said_packet, sent_at, table_in, walk_plan}
use Rattle.law_walk.proofs.WalkPlanAndPoppedCellLaws.{has-plan}
use Rattle.law_pair.specs.declared.pair_events.Way.{Way}
use Rattle.law_pair.specs.declared.pair_events.Way.TheVariants.{There, Back}
use Rattle.law_pair.specs.Common.{IsPair, IsWay, way_of}
use Rattle.law_pair.proofs.PairWayAndPacketLaws.{there-walked}
use Rattle.law_live.specs.Common.{Agrees, ArePairs, IsPairNetwork, IsPairSaid, Live, PairAgrees, PairSaying, both_pass}
use Rattle.law_live.specs.Common.{both_passed, cuts, cuts_on, lands, lands_on, leg_on, live_after, live_from, live_of}
use Rattle.law_live.specs.Common.{mends, mends_on, opened, pair_answers, pair_counts, passes, said_on, script_on}
use Rattle.law_live.specs.Common.{IsWellSaid, waiting_at}
use Rattle.law_live.proofs.AgreeingLegConversationLaws.{agrees-own}
use Rattle.law_live.proofs.BothWaysCountLaws.{pair-stands, pair-walked}
use Rattle.law_live.proofs.BothWaysSameAnswerLaws.{begun-same, both-same}
use Rattle.law_live.proofs.BothWaysSamePastLaws.{Beside, Side, can-walk, first, script_with, second, turned, way-same}
use Rattle.law_live.proofs.SamePastTableAndCellLaws.{cells-same-legs, packet-same-legs, sent-same, tables-same, waiting-same}
use Rattle.law_live.proofs.WellSaidLegAndWindowLaws.{said-sound}

passed-from : (said : List PairSaying) (there back : Live) → there.passed ≡ back.passed →
    (live_from there (said_on There said)).passed ≡ (live_from back (said_on Back said)).passed
unfolding live_from
passed-from [] there back same = same
passed-from (lands_on There kind ∷ said) there back same = passed-from said (live_after there (lands kind)) back same
passed-from (lands_on Back kind ∷ said) there back same = passed-from said there (live_after back (lands kind)) same
passed-from (cuts_on There m ∷ said) there back same = passed-from said (live_after there (cuts m)) back same
passed-from (cuts_on Back m ∷ said) there back same = passed-from said there (live_after back (cuts m)) same
passed-from (mends_on There m ∷ said) there back same = passed-from said (live_after there (mends m)) back same
passed-from (mends_on Back m ∷ said) there back same = passed-from said there (live_after back (mends m)) same
passed-from (both_pass k ∷ said) there back same =
    passed-from said (live_after there (passes k)) (live_after back (passes k)) (ap (λ n. n + k) same)

pub passed-both : (there back : Config) (said : List PairSaying) →
    (live_of there (said_on There said)).passed ≡ (live_of back (said_on Back said)).passed
passed-both there back said = passed-from said (opened there) (opened back) refl

-- ---- it makes a pair
way-said : (config : Config) (way : Way) (said : List PairSaying) → IsNetwork config → config.lost ≡ [] →
    config.lag ≤ 256 → IsWellSaid config (said_on way said) → IsWay (script_on config way said)
way-said config way said network lost near well = record {
  valid = record {
    sound = said-sound config (said_on way said) network well;
    events = All-nil (IsEvent config.lines);
  };
  near = near;
  lost = lost;
  events = refl;
}

pub said-pair : (there back : Config) (said : List PairSaying) → IsPairNetwork there back → IsPairSaid there back said →
    IsPair (script_on there There said) (script_on back Back said)
said-pair there back said network well =
    let near = network.near in
    let lag = network.lag in
    record {
      there_way = way-said there There said network.there_network network.there_lost near (well There);
      back_way = way-said back Back said network.back_network network.back_lost (omega (arith, near, lag)) (well Back);
      lag = lag;
      ticks = network.ticks;
    }

-- ---- which pairs agree
pub pair-own : (there back : Config) (said : List PairSaying) →
    PairAgrees there back said (script_on there There said) (script_on back Back said)
pair-own there back said = record {
  there_agrees = agrees-own there (live_of there (said_on There said));
  back_agrees = agrees-own back (live_of back (said_on Back said));
}

-- ---- what two pairs that agree have in common
-- of a way, where so many ticks have passed
pub record SharedWay (n : ℕ) (leg parts : Leg) : Type 0 where
  pub cells : (j : ℕ) → j < steps_in n → cell_taken leg j ≡ cell_taken parts j
  pub tables : (j : ℕ) → j < steps_in n → table_in leg (16 * j + 9) ≡ table_in parts (16 * j + 9)
  pub tells : (j : ℕ) → j < steps_in n → telling_at (scenario_by leg) j ≡ telling_at (scenario_by parts) j
  pub packets : (k : ℕ) → 16 * k + 24 ≤ n → said_packet leg k ≡ said_packet parts k
  pub sent : (line t : ℕ) → line < leg.config.lines → t < n → sent_at leg line t ≡ sent_at parts line t
  pub waiting : (t : ℕ) → t ≤ n → waiting_at leg t ≡ waiting_at parts t

pub record Shared (n : ℕ) (said : List PairSaying) (one other a b : Script) : Type 0 where
  pub counts : pair_counts one other said ≡ pair_counts a b said
  pub answers : pair_answers one other said ≡ pair_answers a b said
  pub ways : (way : Way) → SharedWay n (leg_on one other way) (leg_on a b way)

shared-way : (side beside : Side) → Beside side beside →
    SharedWay side.live.passed (way_of (first side) (first beside)) (way_of (second side) (second beside))
shared-way side beside with =
    let leg : Leg = way_of (first side) (first beside) in
    let parts : Leg = way_of (second side) (second beside) in
    let same = way-same side beside with in
    let can : CanWalk leg = can-walk (first side) (first beside) side.is in
    let can' : CanWalk parts = can-walk (second side) (second beside) side.is' in
    let lines = side.is.valid.sound.network.windows_each in
    record {
      cells = cells-same-legs leg parts side.config.lag side.live.passed same can can';
      tables = tables-same leg parts side.config.lag side.live.passed same;
      tells = same.tells;
      packets = packet-same-legs leg parts side.config.lag side.live.passed same can can';
      sent = λ line t inside low.
          sent-same leg parts side.config.lag side.live.passed same line t (omega (arith, inside, lines)) low;
      waiting = waiting-same leg parts side.config.lag side.live.passed same;
    }

both-ways : (one back : Side) → Beside one back → (way : Way) →
    SharedWay one.live.passed (leg_on (first one) (first back) way) (leg_on (second one) (second back) way)
both-ways one back with There = shared-way one back with
both-ways one back with Back =
    subst (λ n. SharedWay n (way_of (first back) (first one)) (way_of (second back) (second one))) (sym with.passed)
    (shared-way back one (turned one back with))

-- a script that agrees is the configuration with other failures, and some items
as-script : (config : Config) (live : Live) (script : Script) → IsWay script → Agrees config live (leg_of script) →
    script ≡ script_with config script.config.windows script.items
as-script config live script is agrees =
    ap₂ (λ config events. let with : Script = record { config = config; items = script.items; events = events } in with)
    agrees.network is.events

module _ (config : Config) (live : Live) (one a : Script) (is : IsWay one) (is' : IsWay a)
    (agrees : Agrees config live (leg_of one)) (agrees' : Agrees config live (leg_of a)) (most : live.passed ≤ config.ticks)
  where
    abbrev side : Side
    side =
        let e = as-script config live one is agrees in
        let f = as-script config live a is' agrees' in
        record {
          config = config;
          live = live;
          windows = one.config.windows;
          items = one.items;
          windows' = a.config.windows;
          items' = a.items;
          is = subst (λ script. IsWay script) e is;
          is' = subst (λ script. IsWay script) f is';
          agrees = subst (λ script. Agrees config live (leg_of script)) e agrees;
          agrees' = subst (λ script. Agrees config live (leg_of script)) f agrees';
          most = most;
        }

module _ (there back : Config) (said : List PairSaying) (one other a b : Script)
    (are : ArePairs there back said one other a b)
  where
    abbrev live : Live
    live = live_of there (said_on There said)

    abbrev other-live : Live
    other-live = live_of back (said_on Back said)

    ticks-there : one.config.ticks ≡ there.ticks
    ticks-there = ap (λ (config : Config). config.ticks) are.agrees.there_agrees.network

    ticks-both : there.ticks ≡ back.ticks
    ticks-both =
        sym ticks-there ∙ are.pair.ticks ∙ ap (λ (config : Config). config.ticks) are.agrees.back_agrees.network

    most : live.passed ≤ there.ticks
    most =
        let is = can-walk one other are.pair.there_way in
        let fits = (reached-fits (walk_plan (way_of one other)) (pair_counts one other said).there
        (has-plan (way_of one other) is)
        (there-walked one other (pair_counts one other said) are.pair (pair-walked one other said))).ticks in
        let stand = (pair-stands one other are.pair there back said are.well are.agrees).there.ticks in
        let same = ticks-there in
        omega (arith, fits, stand, same)

    abbrev here : Side
    here =
        side there live one a are.pair.there_way are.second.there_way are.agrees.there_agrees
        are.second_agrees.there_agrees most

    abbrev beyond : Side
    beyond =
        let same = passed-both there back said in
        let ticks = ticks-both in
        let few = most in
        side back other-live other b are.pair.back_way are.second.back_way are.agrees.back_agrees
        are.second_agrees.back_agrees (omega (arith, same, ticks, few))

    beside : Beside here beyond
    beside = record {
      lag = sym (ap (λ (config : Config). config.lag) are.agrees.there_agrees.network) ∙ are.pair.lag
          ∙ ap (λ (config : Config). config.lag) are.agrees.back_agrees.network;
      ticks = ticks-both;
      passed = passed-both there back said;
    }

    shared-sides : Shared (both_passed there said) said (first here) (first beyond) (second here) (second beyond)
    shared-sides =
        let same = both-same here beyond beside said
        (begun-same here beyond beside said (are.well There).each refl refl) in
        record { counts = same.0; answers = same.1; ways = both-ways here beyond beside }

    pub shared : Shared (both_passed there said) said one other a b
    shared =
        let n : ℕ = both_passed there said in
        let e = as-script there live one are.pair.there_way are.agrees.there_agrees in
        let f = as-script back other-live other are.pair.back_way are.agrees.back_agrees in
        let g = as-script there live a are.second.there_way are.second_agrees.there_agrees in
        let h = as-script back other-live b are.second.back_way are.second_agrees.back_agrees in
        subst (λ one. Shared n said one other a b) (sym e)
        (subst (λ other. Shared n said (first here) other a b) (sym f)
        (subst (λ a. Shared n said (first here) (first beyond) a b) (sym g)
        (subst (λ b. Shared n said (first here) (first beyond) (second here) b) (sym h) shared-sides)))
