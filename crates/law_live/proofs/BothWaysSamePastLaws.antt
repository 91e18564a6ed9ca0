-- Two pairs of scripts in which the same was said so far: of each way the tables, the return cells, the rows and the containers
-- so far are the same, and so is what it tells the other way.
use Rattle.std.proofs.Common.{◌≡◌, ℕ, ◌+◌, ◌-◌, ◌*◌, ◌<◌, ◌≤◌, not, inl, inr, List, [], refl, sym, ◌∙◌, ap, subst, arith}
use Rattle.std.proofs.lemmas.Bool.{cases_lt}
use Rattle.law_model.specs.Common.{Leg, Scenario, is_lost, return_packet, scenario_by, scenario_of}
use Rattle.law_model.specs.Common.{session_cells, steps_in, telling_at}
use Rattle.law_model.specs.declared.script_types.Config.{Config}
use Rattle.law_model.specs.declared.script_types.Item.{Item}
use Rattle.law_model.specs.declared.script_types.Script.{Script}
use Rattle.law_model.specs.declared.window_types.Window.{Window}
use Rattle.law_model.specs.session.Scenario.{packets_in}
use Rattle.law_walk.specs.Common.{CanWalk, session_of}
use Rattle.law_walk.proofs.WalkPlanAndPoppedCellLaws.{sound-walks}
use Rattle.law_pair.specs.Common.{IsWay, is_unheard, way_of, way_telling, way_tells}
use Rattle.law_pair.proofs.PairWayAndPacketLaws.{telling-cells, telling-packet, told-early, told-said, way-lost, way-sound}
use Rattle.law_live.specs.Common.{Agrees, Live}
use Rattle.law_live.proofs.SamePastTableAndCellLaws.{SameBelow, alike-session, heard-same, leg_from, leg_with, return-same}
use Rattle.law_live.proofs.SamePastTableAndCellLaws.{same-below}

-- ---- a way, by two scripts that agree with what was said of it
abbrev pub script_with : Config → List (List Window) → List Item → Script
script_with config windows items =
    record { config = record config { windows = windows }; items = items; events = [] }

pub record Side : Type 0 where
  pub config : Config
  pub live : Live
  pub windows : List (List Window)
  pub items : List Item
  pub windows' : List (List Window)
  pub items' : List Item
  pub is : IsWay (script_with config windows items)
  pub is' : IsWay (script_with config windows' items')
  pub agrees : Agrees config live (leg_with config windows items)
  pub agrees' : Agrees config live (leg_with config windows' items')
  pub most : live.passed ≤ config.ticks

abbrev pub first : Side → Script
first side = script_with side.config side.windows side.items

abbrev pub second : Side → Script
second side = script_with side.config side.windows' side.items'

-- what both ways of a pair have in common
pub record Beside (side beside : Side) : Type 0 where
  pub lag : side.config.lag ≡ beside.config.lag
  pub ticks : side.config.ticks ≡ beside.config.ticks
  pub passed : side.live.passed ≡ beside.live.passed

pub turned : (side beside : Side) → Beside side beside → Beside beside side
turned side beside with = record { lag = sym with.lag; ticks = sym with.ticks; passed = sym with.passed }

-- ---- whether a return packet of the other way is lost
plain-same : (side : Side) →
    SameBelow (scenario_of (first side)) (scenario_of (second side)) 0 side.live.passed
plain-same side =
    same-below side.config side.live side.windows side.windows' side.items side.items'
    side.is.valid.sound.network.lag.0 side.most side.agrees side.agrees'

unheard-same : (side : Side) (k : ℕ) → 16 * (k + side.config.lag) + 24 ≤ side.live.passed →
    is_unheard (first side) k ≡ is_unheard (second side) k
unheard-same side k low =
    ap not (heard-same (scenario_of (first side)) (scenario_of (second side)) 0 side.live.passed (plain-same side)
    (k + side.config.lag) low)

lost-same : (side beside : Side) → Beside side beside → (k : ℕ) →
    16 * (k + side.config.lag) + 24 ≤ side.live.passed →
    is_lost (scenario_by (way_of (first side) (first beside))) k
    ≡ is_lost (scenario_by (way_of (second side) (second beside))) k
lost-same side beside with k low =
    let most = side.most in
    let lag = with.lag in
    let passed = with.passed in
    let inside : k < packets_in side.config.ticks = omega (arith, low, most) in
    way-lost (first side) (first beside) k inside
    ∙ unheard-same beside k (omega (arith, low, lag, passed))
    ∙ sym (way-lost (second side) (second beside) k inside)

-- ---- a way whose packets tell nothing
silent-same : (side beside : Side) → Beside side beside →
    SameBelow (scenario_by (way_telling (first side) (first beside) []))
    (scenario_by (leg_from (way_telling (first side) (first beside) []) (way_telling (second side) (second beside) [])))
    side.config.lag side.live.passed
silent-same side beside with =
    let same = plain-same side in
    let some = side.is.valid.sound.network.lag.0 in
    record {
      some = omega (arith, some);
      most = side.most;
      lines = same.lines;
      windows = same.windows;
      orders = same.orders;
      offers = same.offers;
      lost = lost-same side beside with;
      tells = λ k low. refl;
    }

-- what is said of a way doesn't depend on what its packets tell
said-silent : (script other : Script) (k : ℕ) →
    return_packet (scenario_by (way_of script other)) (session_of (way_of script other)) k
    ≡ return_packet (scenario_by (way_telling script other [])) (session_of (way_telling script other [])) k
said-silent script other k =
    let silent : Scenario = scenario_by (way_telling script other []) in
    ap (λ cells. return_packet (scenario_by (way_of script other)) cells k)
    (telling-cells silent (way_tells script other) (packets_in script.config.ticks))
    ∙ telling-packet silent (way_tells script other) (session_cells silent) k

said-same : (side beside : Side) → Beside side beside → (k : ℕ) → 16 * k + 24 ≤ side.live.passed →
    return_packet (scenario_by (way_of (first side) (first beside)))
    (session_of (way_of (first side) (first beside))) k
    ≡ return_packet (scenario_by (way_of (second side) (second beside)))
    (session_of (way_of (second side) (second beside))) k
said-same side beside with k low =
    let one : Leg = way_telling (first side) (first beside) [] in
    let other : Leg = way_telling (second side) (second beside) [] in
    let same = silent-same side beside with in
    said-silent (first side) (first beside) k
    ∙ return-same (scenario_by one) (scenario_by other) side.config.lag side.live.passed same (session_of one)
    (session_of other)
    (alike-session (scenario_by one) (scenario_by other) side.config.lag side.live.passed same) k low
    ∙ sym (said-silent (second side) (second beside) k)

-- ---- what a way tells the other
tells-same : (side beside : Side) → Beside side beside → (k : ℕ) → k < steps_in side.live.passed →
    telling_at (scenario_by (way_of (first side) (first beside))) k
    ≡ telling_at (scenario_by (way_of (second side) (second beside))) k
tells-same side beside with k low = elim (cases_lt k side.config.lag) [
  | inl early ↦
      told-early (first side) (first beside) k early ∙ sym (told-early (second side) (second beside) k early)
  | inr late ↦
      let some = side.is.valid.sound.network.lag.0 in
      let most = side.most in
      let ticks = with.ticks in
      let passed = with.passed in
      let j : ℕ = k - side.config.lag in
      let at : j + side.config.lag ≡ k = omega (arith, late) in
      let inside : j < packets_in beside.config.ticks = omega (arith, late, low, some, most, ticks) in
      subst (λ n. telling_at (scenario_by (way_of (first side) (first beside))) n
      ≡ telling_at (scenario_by (way_of (second side) (second beside))) n) at
      (told-said (first side) (first beside) j inside
      ∙ said-same beside side (turned side beside with) j (omega (arith, late, low, some, passed))
      ∙ sym (told-said (second side) (second beside) j inside))
]

-- ---- a way
pub way-same : (side beside : Side) → Beside side beside →
    SameBelow (scenario_by (way_of (first side) (first beside)))
    (scenario_by (leg_from (way_of (first side) (first beside)) (way_of (second side) (second beside))))
    side.config.lag side.live.passed
way-same side beside with =
    let same = plain-same side in
    let some = side.is.valid.sound.network.lag.0 in
    record {
      some = omega (arith, some);
      most = side.most;
      lines = same.lines;
      windows = same.windows;
      orders = same.orders;
      offers = same.offers;
      lost = lost-same side beside with;
      tells = tells-same side beside with;
    }

pub can-walk : (script other : Script) → IsWay script → CanWalk (way_of script other)
can-walk script other is = sound-walks (way_of script other) (way-sound script other is)
