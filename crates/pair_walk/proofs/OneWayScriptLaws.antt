-- The script of one way of a pair: it can be walked, and its walk writes what the pair writes of the way.
use Rattle.std.proofs.Common.{◌≡◌, ℕ, nat_lt, List, [], length, Ok, sym}
use Rattle.std.proofs.Common.{◌∙◌, ap, inl, inr, subst}
use Rattle.std.proofs.lemmas.Bool.{cases_Bool, ltb-false}
use Rattle.std.proofs.lemmas.List.Elements.{All-nil}
use Rattle.law_model.specs.Common.{HasFewLosses, IsEvent, IsValid, Scenario, begin, leg_of, most_windows}
use Rattle.law_model.specs.Common.{rows_of, scenario_by, scenario_of, session_cells, table_of}
use Rattle.law_model.specs.declared.script_types.Script.{Script}
use Rattle.law_model.specs.session.Scenario.{packets_in}
use Rattle.law_walk.specs.Common.{session_of, numbered, session_rows, walk_plan}
use Rattle.law_walk.proofs.WalkPlanAndPoppedCellLaws.{begins-walked}
use Rattle.law_walk.proofs.AcceptedFrameAndDrainedWalkLaws.{drained-report}
use Rattle.law_headline.specs.WalkTexts.{walk_text}
use Rattle.law_pair.specs.Common.{IsWay, way_of, way_telling, way_tells}
use Rattle.law_pair.specs.declared.pair_events.Way.{Way}
use Rattle.law_pair.specs.declared.pair_events.Way.TheVariants.{There, Back}
use Rattle.law_pair.proofs.PairWayAndPacketLaws.{report-same, telling-cells, telling-rows, telling-table, way-sound}
use Rattle.text_pairs.specs.declared.script_pair.ScriptPair.{ScriptPair}
use Rattle.text_pairs.specs.PairOfText.{pair_of}
use Rattle.pair_walk.specs.OneWay.{few_runs, one_way_of, way_script_of}
use Rattle.text_pairs.specs.ReportsOfWays.{text_on, way_text}
use Rattle.text_pairs.proofs.PairScriptReaderLaws.{valid_pair}

-- ---- a script that is given has few lost lines
few-given : (own script : Script) → few_runs own ≡ Ok script → (own ≡ script) × HasFewLosses own
few-given own script is =
    elim (cases_Bool (nat_lt most_windows (length own.config.lost))) [
      | inl many ↦ absurd (let bad = rw many at is in cc)
      | inr few ↦ ((let same = rw few at is in cc), ltb-false most_windows (length own.config.lost) few)
    ]

-- of either way
given : (P : Script → Type 0) (own script : Script) → few_runs own ≡ Ok script → P own → P script
given P own script is holds = subst P (few-given own script is).0 holds

pub few-lost : (pair : ScriptPair) (way : Way) (script : Script) → way_script_of way pair ≡ Ok script →
    HasFewLosses script
few-lost pair There script is =
    let own = one_way_of pair.there pair.back in given HasFewLosses own script is (few-given own script is).1
few-lost pair Back script is =
    let own = one_way_of pair.back pair.there in given HasFewLosses own script is (few-given own script is).1

-- ---- it can be walked
valid-one : (script other : Script) → IsWay script → IsValid (one_way_of script other)
valid-one script other is =
    let sound = way-sound script other is in
    record {
      sound = record { network = sound.network; items = sound.items; few = sound.few };
      events = All-nil (IsEvent script.config.lines);
    }

pub valid-way : (text : List ℕ) (pair : ScriptPair) (way : Way) (script : Script) → pair_of text ≡ Ok pair →
    way_script_of way pair ≡ Ok script → IsValid script
valid-way text pair There script said is =
    given IsValid (one_way_of pair.there pair.back) script is
    (valid-one pair.there pair.back (valid_pair text pair said).there_way)
valid-way text pair Back script said is =
    given IsValid (one_way_of pair.back pair.there) script is
    (valid-one pair.back pair.there (valid_pair text pair said).back_way)

-- ---- its walk drains, and reports what is reported of the way
walk-one : (script other : Script) → IsWay script → walk_text (one_way_of script other) ≡ way_text script other
walk-one script other is =
    let leg = leg_of (one_way_of script other) in
    drained-report leg (begin (walk_plan leg)) (valid-one script other is).sound (begins-walked leg)
    ∙ report-same script other [] script.config.ticks script.config.ticks (numbered 0 script.items)

pub walk-way : (text : List ℕ) (pair : ScriptPair) (way : Way) (script : Script) → pair_of text ≡ Ok pair →
    way_script_of way pair ≡ Ok script → walk_text script ≡ text_on way pair
walk-way text pair There script said is =
    given (λ own. walk_text own ≡ way_text pair.there pair.back) (one_way_of pair.there pair.back) script is
    (walk-one pair.there pair.back (valid_pair text pair said).there_way)
walk-way text pair Back script said is =
    given (λ own. walk_text own ≡ way_text pair.back pair.there) (one_way_of pair.back pair.there) script is
    (walk-one pair.back pair.there (valid_pair text pair said).back_way)

-- ---- its session is that of the way, but for what its packets tell
pub same-cells : (script other : Script) →
    session_of (leg_of (one_way_of script other)) ≡ session_of (way_of script other)
same-cells script other =
    sym (telling-cells (scenario_by (way_telling script other [])) (way_tells script other)
    (packets_in script.config.ticks))

pub same-tables : (script other : Script) (j : ℕ) →
    table_of (scenario_of (one_way_of script other)) (session_of (leg_of (one_way_of script other))) j
    ≡ table_of (scenario_by (way_of script other)) (session_of (way_of script other)) j
same-tables script other j =
    let silent : Scenario = scenario_by (way_telling script other []) in
    sym (ap (λ cells. table_of (scenario_by (way_of script other)) cells j) (sym (same-cells script other))
    ∙ telling-table silent (way_tells script other) (session_cells silent) j)

pub same-rows : (script other : Script) (n : ℕ) →
    session_rows (leg_of (one_way_of script other)) n ≡ session_rows (way_of script other) n
same-rows script other n =
    let silent : Scenario = scenario_by (way_telling script other []) in
    sym (ap (λ cells. rows_of (scenario_by (way_of script other)) cells n) (sym (same-cells script other))
    ∙ telling-rows silent (way_tells script other) (session_cells silent) n)
