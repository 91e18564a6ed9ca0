-- What lines of a live text of both ways say one after another, where none is faulty: sayings of both ways, over a pair
-- of configurations, and two scripts that are a pair.
use Rattle.std.proofs.Common.{◌≡◌, ◌∙◌, ℕ, ◌+◌, ◌≤◌, ◌==◌, ◌&&◌, Bool, true, false, List, [], ◌∷◌, ◌++◌, length, ap}
use Rattle.std.proofs.Common.{ap₂, sym, subst, arith, refl, inl, inr, Option, None, Some, drop}
use Rattle.std.proofs.Common.{option_map, is_none, if◌then◌else◌, not}
use Rattle.std.specs.Prelude.{IfSome, IsSome, codes, unwrap_or}
use Rattle.std.proofs.lemmas.Bool.{cases_Bool, and_parts}
use Rattle.std.proofs.lemmas.Slice.Eq.{bytes_eq-Decides}
use Rattle.std.proofs.lemmas.List.{append-nil, length-append}
use Rattle.std.proofs.lemmas.List.Concat.{flat_map-append}
use Rattle.text_lines.specs.WordsOfLine.{words, word_at, is_skipped, number_at}
use Rattle.text_lines.specs.Fields.{where_true}
use Rattle.text_lines.proofs.TextLineAndWordLaws.{or_none, map_none}
use Rattle.law_model.specs.Common.{IsValid, longest_input}
use Rattle.law_model.specs.declared.script_types.Config.{Config}
use Rattle.law_model.specs.declared.script_types.Script.{Script}
use Rattle.text_scripts.specs.declared.script_read.script_draft.Draft.{Draft}
use Rattle.text_scripts.specs.script_read.Statements.{words_fault, words_said, after}
use Rattle.text_scripts.specs.script_read.Script.{missing_line, script_in}
use Rattle.text_scripts.specs.script_read.ScriptInPieces.{IsUntested}
use Rattle.text_scripts.specs.script_read.Drafts.{IsDraft}
use Rattle.text_scripts.proofs.ScriptDraftGrowthLaws.{All-none, IsDraft-first, IsDraft-after, IsUntested-draft}
use Rattle.text_scripts.proofs.ScriptLineAndFirstFaultLaws.{whole_config}
use Rattle.text_scripts.proofs.StatementAndWordFaultLaws.{fits_words}
use Rattle.law_pair.specs.Common.{IsPair}
use Rattle.law_pair.specs.declared.pair_events.Way.{Way}
use Rattle.law_pair.specs.declared.pair_events.Way.TheVariants.{There, Back}
use Rattle.law_live.specs.LiveSayings.{live_from}
use Rattle.law_live.specs.WellSaid.{CanSayAll}
use Rattle.law_live.specs.Common.{CanSay, Live, Saying, lands, cuts, mends, passes, live_after, opened, config_on}
use Rattle.law_live.specs.Common.{PairSaying, lands_on, cuts_on, mends_on, both_pass, if_on, saying_on, said_on}
use Rattle.law_live.specs.Common.{script_on, IsPairNetwork}
use Rattle.law_live.specs.ScriptOfSayings.{config_by}
use Rattle.text_live.specs.declared.live_keyword.EarlierPart.{EarlierPart}
use Rattle.text_live.specs.declared.live_keyword.LiveKeyword.{LiveKeyword}
use Rattle.text_live.specs.declared.live_keyword.LiveKeyword.TheVariants as word
use Rattle.text_live.specs.declared.live_keyword.FirstWord.{FirstWord}
use Rattle.text_live.specs.declared.live_keyword.FirstWord.TheVariants as first
use Rattle.text_live.specs.LiveLines.{first_of, rest_fault, value_fault, live_said}
use Rattle.text_live.proofs.LiveCourseAndItemLaws.{can_say, can_value}
use Rattle.text_live.proofs.LinesBehindLaws.{all_speak, behind_more, fine_front, fine_less, fine_more, none_fine}
use Rattle.text_live.proofs.LiveScriptSayingsLaws.{Stands, stands_later, stands_more, stands_opened, valid_by}
use Rattle.text_pairs.specs.declared.script_pair.ScriptPair.{ScriptPair}
use Rattle.text_pairs.specs.PairTextLines.{is_division}
use Rattle.text_pairs.specs.PairOfText.{limits_fault}
use Rattle.text_pairs.proofs.PairScriptReaderLaws.{pair_fits}
use Rattle.pair_live.specs.declared.live_pair_fault.PairLineFault.TheVariants as line_wrong
use Rattle.pair_live.specs.PairLines.{BothLive, PairSaid, of_script, of_limits, of_live, undivided}
use Rattle.pair_live.specs.PairLines.{setting, there_config, back_config}
use Rattle.pair_live.specs.PairLines.{pair_divides, pair_divided, settings_pair, pair_opening_fault}
use Rattle.pair_live.specs.PairLines.{both_now, both_after, config_in, live_on, way_named, way_fault}
use Rattle.pair_live.specs.PairLines.{is_pass, pair_rest_fault, pair_earlier_fault}
use Rattle.pair_live.specs.PairLines.{pair_fault_by, undividing_fault, pair_line_fault, of_way, pair_live_told}
use Rattle.pair_live.specs.PairLines.{pair_told_by, pair_told, pair_said_with, pair_line_after}
use Rattle.pair_live.specs.PairLines.{nothing_said, pair_lines}
use Rattle.pair_live.specs.PairSayingsOfLines.{pair_saying_of, line_pair_saying, pair_sayings, pair_with_line}
use Rattle.pair_live.specs.PairSayingsOfLines.{pair_said_in, AreFine, scripts_of_live, BothAgree, AgreesWith}

-- ---- What is said of both ways is said of each.
saying_of_way : (to way : Way) (k : LiveKeyword) (w : List ℕ) → is_pass k ≡ false →
    saying_on to (of_way way (live_said k w)) ≡ if_on to way (live_said k w)
saying_of_way to way word.Frame w other = refl
saying_of_way to way word.Add w other = refl
saying_of_way to way word.Remove w other = refl
saying_of_way to way word.Cut w other = refl
saying_of_way to way word.Mend w other = refl
saying_of_way to way word.Pass w other = absurd cc

-- how both stand with this of one
abbrev pub after_on : BothLive → Way → Live → BothLive
after_on both There live = record both { there = live }
after_on both Back live = record both { back = live }

after_if : (way : Way) (both : BothLive) (k : LiveKeyword) (w : List ℕ) → is_pass k ≡ false →
    both_after both (of_way way (live_said k w)) ≡ record {
      there = live_from both.there (if_on There way (live_said k w));
      back = live_from both.back (if_on Back way (live_said k w));
    }
after_if way both k w other =
    ap₂ (λ (there back : List Saying). record { there = live_from both.there there; back = live_from both.back back })
    (saying_of_way There way k w other) (saying_of_way Back way k w other)

-- once something happens in a way
pub after_way : (way : Way) (both : BothLive) (k : LiveKeyword) (w : List ℕ) → is_pass k ≡ false →
    both_after both (of_way way (live_said k w)) ≡ after_on both way (live_after (live_on both way) (live_said k w))
unfolding live_from
after_way There both k w other = after_if There both k w other
after_way Back both k w other = after_if Back both k w other

pub after_pass : (both : BothLive) (n : ℕ) →
    both_after both (both_pass n)
    ≡ record { there = live_after both.there (passes n); back = live_after both.back (passes n) }
unfolding live_from
after_pass both n = refl

-- the ticks that have passed are as before where none do
same_passed : (live : Live) (k : LiveKeyword) (w : List ℕ) → is_pass k ≡ false →
    (live_after live (live_said k w)).passed ≡ live.passed
same_passed live word.Frame w other = refl
same_passed live word.Add w other = refl
same_passed live word.Remove w other = refl
same_passed live word.Cut w other = refl
same_passed live word.Mend w other = refl
same_passed live word.Pass w other = absurd cc

same_ticks : (way : Way) (both : BothLive) (k : LiveKeyword) (w : List ℕ) → is_pass k ≡ false →
    both.there.passed ≡ both.back.passed →
    (let now : BothLive = after_on both way (live_after (live_on both way) (live_said k w)) in
    now.there.passed ≡ now.back.passed)
same_ticks There both k w other same = same_passed both.there k w other ∙ same
same_ticks Back both k w other same = same ∙ sym (same_passed both.back k w other)

-- ---- Both ways: how they stand, and what is said of them.
pub record BothStand (k : ℕ) (there back : Config) (said : List PairSaying) (both : BothLive) : Type 0 where
  pub network : IsPairNetwork there back
  pub ways : (way : Way) → Stands k (config_on there back way) (said_on way said) (live_on both way)
  pub passed : both.there.passed ≡ both.back.passed

-- what can be said next, of each way
pub record CanBoth (there back : Config) (both : BothLive) (saying : PairSaying) : Type 0 where
  pub ways : (way : Way) → CanSayAll (config_on there back way).ticks (live_on both way) (saying_on way saying)
  pub passed : (both_after both saying).there.passed ≡ (both_after both saying).back.passed

on_more : (way : Way) (said : List PairSaying) (saying : PairSaying) →
    said_on way (said ++ saying ∷ []) ≡ said_on way said ++ saying_on way saying
on_more way said saying =
    flat_map-append (saying_on way) said (saying ∷ [])
    ∙ ap (λ (more : List Saying). said_on way said ++ more) (append-nil (saying_on way saying))

at_most_if : (to way : Way) (saying : Saying) → length (if_on to way saying) ≤ 1
at_most_if There There saying = omega arith
at_most_if There Back saying = omega arith
at_most_if Back There saying = omega arith
at_most_if Back Back saying = omega arith

at_most_one : (way : Way) (saying : PairSaying) → length (saying_on way saying) ≤ 1
at_most_one to (lands_on way kind) = at_most_if to way (lands kind)
at_most_one to (cuts_on way m) = at_most_if to way (cuts m)
at_most_one to (mends_on way m) = at_most_if to way (mends m)
at_most_one to (both_pass k) = omega arith

few_on : (way : Way) (said : List PairSaying) → length (said_on way said) ≤ length said
few_on way [] = omega arith
few_on way (saying ∷ said) =
    omega (
      arith,
      few_on way said,
      at_most_one way saying,
      length-append (saying_on way saying) (said_on way said),
    )

way_more : (k : ℕ) (c : Config) (way : Way) (said : List PairSaying) (saying : PairSaying) (live : Live) →
    Stands k c (said_on way said) live → CanSayAll c.ticks live (saying_on way saying) →
    Stands (k + 1) c (said_on way (said ++ saying ∷ [])) (live_from live (saying_on way saying))
way_more k c way said saying live stands can =
    subst (λ (more : List Saying). Stands (k + 1) c more (live_from live (saying_on way saying)))
    (sym (on_more way said saying))
    (stands_more k c (said_on way said) (saying_on way saying) live (at_most_one way saying) stands can)

live_on_after : (way : Way) (both : BothLive) (saying : PairSaying) →
    live_on (both_after both saying) way ≡ live_from (live_on both way) (saying_on way saying)
live_on_after There both saying = refl
live_on_after Back both saying = refl

both_more : (k : ℕ) (there back : Config) (said : List PairSaying) (both : BothLive) (saying : PairSaying) →
    BothStand k there back said both → CanBoth there back both saying →
    BothStand (k + 1) there back (said ++ saying ∷ []) (both_after both saying)
both_more k there back said both saying stand can = record {
  network = stand.network;
  ways = λ way.
      let c : Config = config_on there back way in
      subst (Stands (k + 1) c (said_on way (said ++ saying ∷ []))) (sym (live_on_after way both saying))
      (way_more k c way said saying (live_on both way) (stand.ways way) (can.ways way));
  passed = can.passed;
}

-- ---- What a live line says that has no fault can be said.
can_if : (to way : Way) (there back : Config) (both : BothLive) (saying : Saying) →
    CanSay (config_on there back way).ticks (live_on both way) saying →
    CanSayAll (config_on there back to).ticks (live_on both to) (if_on to way saying)
unfolding CanSayAll
can_if There There there back both saying can = (can, tt)
can_if There Back there back both saying can = tt
can_if Back There there back both saying can = tt
can_if Back Back there back both saying can = (can, tt)

can_way : (k : ℕ) (there back : Config) (said : List PairSaying) (both : BothLive) (way : Way) (w : LiveKeyword)
    (v : List ℕ) → is_pass w ≡ false → BothStand k there back said both →
    value_fault (config_on there back way) (live_on both way) w 3 v ≡ None →
    CanBoth there back both (of_way way (live_said w v))
can_way k there back said both way w v other stand none = record {
  ways = λ to.
      subst (CanSayAll (config_on there back to).ticks (live_on both to)) (sym (saying_of_way to way w v other))
      (can_if to way there back both (live_said w v)
      (can_value k (config_on there back way) (live_on both way) w 3 v (stand.ways way).has none));
  passed = subst (λ (b : BothLive). b.there.passed ≡ b.back.passed) (sym (after_way way both w v other))
      (same_ticks way both w v other stand.passed);
}

can_of_way : (k : ℕ) (s : PairSaid) (said : List PairSaying) (w : LiveKeyword) (v : List ℕ) (named : Option Way) →
    is_pass w ≡ false → BothStand k (there_config s) (back_config s) said (both_now s) →
    way_fault s w v named ≡ None →
    CanBoth (there_config s) (back_config s) (both_now s) (of_way (unwrap_or named There) (live_said w v))
can_of_way k s said w v None other stand none = absurd cc
can_of_way k s said w v (Some way) other stand none =
    can_way k (there_config s) (back_config s) said (both_now s) way w v other stand
    (map_none line_wrong.Live (value_fault (config_in s way) (live_on (both_now s) way) w 3 v) none)

pass_on : (to : Way) (there back : Config) (both : BothLive) (n : ℕ) → IsPairNetwork there back →
    both.there.passed ≡ both.back.passed → CanSay there.ticks both.there (passes n) →
    CanSayAll (config_on there back to).ticks (live_on both to) (passes n ∷ [])
unfolding CanSayAll
pass_on There there back both n network same can = (can, tt)
pass_on Back there back both n network same can =
    (record { some = can.some; left = omega (arith, can.left, same, network.ticks) }, tt)

can_pass : (k : ℕ) (there back : Config) (said : List PairSaying) (both : BothLive) (ws : List (List ℕ)) →
    BothStand k there back said both → rest_fault there both.there word.Pass ws ≡ None →
    CanBoth there back both (pair_live_told word.Pass ws)
can_pass k there back said both ws stand none = record {
  ways = λ to.
      pass_on to there back both (number_at 0 ws) stand.network stand.passed
      (can_say k there both.there word.Pass ws (stand.ways There).has none);
  passed = subst (λ (b : BothLive). b.there.passed ≡ b.back.passed) (sym (after_pass both (number_at 0 ws)))
      (ap (λ (p : ℕ). p + number_at 0 ws) stand.passed);
}

can_words : (k : ℕ) (s : PairSaid) (said : List PairSaying) (w : LiveKeyword) (ws : List (List ℕ)) (pass : Bool) →
    is_pass w ≡ pass → BothStand k (there_config s) (back_config s) said (both_now s) →
    pair_rest_fault s w ws ≡ None → CanBoth (there_config s) (back_config s) (both_now s) (pair_live_told w ws)
can_words k s said word.Pass ws true is stand none =
    can_pass k (there_config s) (back_config s) said (both_now s) ws stand
    (map_none line_wrong.Live (rest_fault (there_config s) (both_now s).there word.Pass ws) none)
can_words k s said w ws true is stand none = absurd cc
can_words k s said w ws false is stand none =
    rw is
    (can_of_way k s said w (word_at 1 ws) (way_named (word_at 0 ws)) is stand
    (or_none (where_true (not (length ws == 2)) (line_wrong.Count w (length ws)))
    (way_fault s w (word_at 1 ws) (way_named (word_at 0 ws))) (rw is at none)).1)

-- ---- Lines one after another.
abbrev pub StandsIf : ℕ → Option Draft → Config → Config → List PairSaying → Option BothLive → Type 0
StandsIf k before there back said None = said ≡ []
StandsIf k before there back said (Some both) = IsSome before × BothStand k there back said both

abbrev pub IsFirst : Draft → Type 0
IsFirst d = IsUntested (script_in d)

pub record PairSpeaks (k : ℕ) (s : PairSaid) (said : List PairSaying) : Type 0 where
  pub before : IfSome s.first IsFirst
  pub draft : IsDraft s.settings
  pub stands : StandsIf k s.first (there_config s) (back_config s) said s.live
  pub few : length said ≤ k

-- ---- the first live line
pair_network : (one other : Script) → IsPair one other → IsPairNetwork one.config other.config
pair_network one other is = record {
  there_network = is.there_way.valid.sound.network;
  back_network = is.back_way.valid.sound.network;
  there_lost = is.there_way.lost;
  back_lost = is.back_way.lost;
  near = is.there_way.near;
  lag = is.lag;
  ticks = is.ticks;
}

pub fits_network : (pair : ScriptPair) → IsUntested pair.there → IsUntested pair.back → limits_fault pair ≡ None →
    IsPairNetwork pair.there.config pair.back.config
fits_network pair there back none = pair_network pair.there pair.back (pair_fits pair there back none)

opened_way : (k : ℕ) (there back : Config) (way : Way) → IsPairNetwork there back →
    Stands k (config_on there back way) [] (live_on (record { there = opened there; back = opened back }) way)
opened_way k there back There network = stands_opened k there network.there_network
opened_way k there back Back network = stands_opened k back network.back_network

pair_opening : (k : ℕ) (before : Option Draft) (d : Draft) (live : Option BothLive) (said : List PairSaying) →
    (let s : PairSaid = record { first = before; settings = d; live = live } in
    PairSpeaks k s said → pair_opening_fault s ≡ None →
    IsSome before × BothStand k (there_config s) (back_config s) said (both_now s))
pair_opening k before d (Some both) said speaks none = speaks.stands
pair_opening k (Some a) d None said speaks none =
    let s : PairSaid = record { first = Some a; settings = d; live = None } in
    let parts = or_none (option_map of_script (missing_line d)) (option_map of_limits (limits_fault (settings_pair s)))
    none in
    let network = fits_network (settings_pair s) speaks.before
    (IsUntested-draft d speaks.draft (whole_config d (map_none of_script (missing_line d) parts.0)))
    (map_none of_limits (limits_fault (settings_pair s)) parts.1) in (
      refl,
      subst (λ (said : List PairSaying). BothStand k (there_config s) (back_config s) said (both_now s))
          (sym speaks.stands)
          (record {
            network = network;
            ways = λ way. opened_way k (there_config s) (back_config s) way network;
            passed = refl;
          }),
    )
pair_opening k None d None said speaks none =
    let parts = or_none (option_map of_script (missing_line d)) (Some undivided) none in absurd cc

-- ---- the line that divides
division_is : (ws : List (List ℕ)) → is_division ws ≡ true → ws ≡ codes "other" ∷ []
division_is [] is = absurd cc
division_is (w ∷ []) is = ap (λ (v : List ℕ). v ∷ []) ((bytes_eq-Decides w (codes "other")).0 is)
division_is (w ∷ v ∷ ws) is = absurd cc

other_told : pair_told (codes "other" ∷ []) ≡ setting
other_told = refl

pub division_told : (ws : List (List ℕ)) → is_division ws ≡ true → pair_told ws ≡ setting
division_told ws is = ap pair_told (division_is ws is) ∙ other_told

pub divides_parts : (s : PairSaid) (ws : List (List ℕ)) → pair_divides s ws ≡ true →
    (is_none s.first ≡ true) × (is_division ws ≡ true)
divides_parts s ws is = and_parts (is_none s.first) (is_division ws) is

pub divides_fault : (s : PairSaid) (ws : List (List ℕ)) → pair_divides s ws ≡ true →
    pair_line_fault s ws ≡ option_map of_script (missing_line s.settings)
divides_fault s ws is =
    ap (λ (b : Bool). if b then option_map of_script (missing_line s.settings) else undividing_fault s ws) is

pub divides_after : (n : ℕ) (s : PairSaid) (ws : List (List ℕ)) → pair_divides s ws ≡ true →
    pair_line_after n s ws ≡ pair_divided s
divides_after n s ws is =
    ap (λ (b : Bool). if b then pair_divided s else pair_said_with n s ws (pair_told ws)) is

-- any other one
pub stays_fault : (s : PairSaid) (ws : List (List ℕ)) → pair_divides s ws ≡ false →
    pair_line_fault s ws ≡ undividing_fault s ws
stays_fault s ws is =
    ap (λ (b : Bool). if b then option_map of_script (missing_line s.settings) else undividing_fault s ws) is

pub stays_after : (n : ℕ) (s : PairSaid) (ws : List (List ℕ)) → pair_divides s ws ≡ false →
    pair_line_after n s ws ≡ pair_said_with n s ws (pair_told ws)
stays_after n s ws is =
    ap (λ (b : Bool). if b then pair_divided s else pair_said_with n s ws (pair_told ws)) is

undivided_stands : (k : ℕ) (before now : Option Draft) (there back one other : Config) (said : List PairSaying)
    (live : Option BothLive) → is_none before ≡ true → StandsIf k before there back said live →
    StandsIf (k + 1) now one other said live
undivided_stands k None now there back one other said None none stands = stands
undivided_stands k None now there back one other said (Some both) none stands = absurd (let no = stands.0 in cc)
undivided_stands k (Some d) now there back one other said live none stands = absurd cc

no_saying : (k : ℕ) (s : PairSaid) (said more : List PairSaying) → more ≡ [] → PairSpeaks k s said →
    PairSpeaks k s (said ++ more)
no_saying k s said more none speaks =
    subst (PairSpeaks k s) (sym (ap (λ (more : List PairSaying). said ++ more) none ∙ append-nil said)) speaks

divided_speaks : (k n : ℕ) (s : PairSaid) (ws : List (List ℕ)) (said : List PairSaying) → PairSpeaks k s said →
    pair_divides s ws ≡ true → pair_line_fault s ws ≡ None →
    PairSpeaks (k + 1) (pair_line_after n s ws) (said ++ pair_saying_of (pair_told ws))
divided_speaks k n s ws said speaks is none =
    let parts = divides_parts s ws is in
    let whole = map_none of_script (missing_line s.settings) (sym (divides_fault s ws is) ∙ none) in
    no_saying (k + 1) (pair_line_after n s ws) said (pair_saying_of (pair_told ws))
    (ap pair_saying_of (division_told ws parts.1))
    (subst (λ (now : PairSaid). PairSpeaks (k + 1) now said) (sym (divides_after n s ws is))
    (record {
      before = IsUntested-draft s.settings speaks.draft (whole_config s.settings whole);
      draft = IsDraft-first;
      stands = undivided_stands k s.first (Some s.settings) (there_config s) (back_config s)
          (there_config (pair_divided s)) (back_config (pair_divided s)) said s.live parts.0 speaks.stands;
      few = omega (arith, speaks.few);
    }))

-- ---- a line that doesn't
later_stands : (k : ℕ) (before : Option Draft) (there back : Config) (said : List PairSaying) (live : Option BothLive) →
    StandsIf k before there back said live → StandsIf (k + 1) before there back said live
later_stands k before there back said None stands = stands
later_stands k before there back said (Some both) stands = (
  stands.0,
  record {
    network = stands.1.network;
    ways = λ way.
        stands_later k (config_on there back way) (said_on way said) (live_on both way) (stands.1.ways way);
    passed = stands.1.passed;
  },
)

earlier_speaks : (k n : ℕ) (before : Option Draft) (d : Draft) (live : Option BothLive) (p : EarlierPart)
    (ws : List (List ℕ)) (said : List PairSaying) →
    PairSpeaks k (record { first = before; settings = d; live = live }) said → pair_earlier_fault live d p ws ≡ None →
    PairSpeaks (k + 1) (record { first = before; settings = after n d (words_said ws); live = live }) said
earlier_speaks k n before d (Some both) p ws said speaks none = absurd cc
earlier_speaks k n before d None p ws said speaks none = record {
  before = speaks.before;
  draft = IsDraft-after n d (words_said ws) speaks.draft
      (fits_words d ws speaks.draft (map_none of_script (words_fault d ws) none));
  stands = speaks.stands;
  few = omega (arith, speaks.few);
}

first_speaks : (k n : ℕ) (s : PairSaid) (ws : List (List ℕ)) (f : FirstWord) (said : List PairSaying) →
    PairSpeaks k s said → pair_fault_by s ws f ≡ None →
    PairSpeaks (k + 1) (pair_said_with n s ws (pair_told_by ws f)) (said ++ pair_saying_of (pair_told_by ws f))
first_speaks k n s ws (first.Earlier p) said speaks none =
    no_saying (k + 1) (pair_said_with n s ws setting) said [] refl
    (earlier_speaks k n s.first s.settings s.live p ws said speaks none)
first_speaks k n s ws (first.Live w) said speaks none =
    let parts = or_none (pair_opening_fault s) (option_map of_live (pair_rest_fault s w (drop 1 ws))) none in
    let begun = pair_opening k s.first s.settings s.live said speaks parts.0 in
    let saying : PairSaying = pair_live_told w (drop 1 ws) in
    record {
      before = speaks.before;
      draft = speaks.draft;
      stands = (
        begun.0,
        both_more k (there_config s) (back_config s) said (both_now s) saying begun.1
            (can_words k s said w (drop 1 ws) (is_pass w) refl begun.1
            (map_none of_live (pair_rest_fault s w (drop 1 ws)) parts.1)),
      );
      few = omega (arith, speaks.few, length-append said (saying ∷ []));
    }
first_speaks k n s ws first.Other said speaks none = absurd cc

skip_speaks : (k n : ℕ) (s : PairSaid) (ws : List (List ℕ)) (skipped : Bool) (said : List PairSaying) →
    is_skipped ws ≡ skipped → PairSpeaks k s said → undividing_fault s ws ≡ None →
    PairSpeaks (k + 1) (pair_said_with n s ws (pair_told ws)) (said ++ pair_saying_of (pair_told ws))
skip_speaks k n s ws true said is speaks none =
    rw is
    (no_saying (k + 1) s said [] refl
    (record {
      before = speaks.before;
      draft = speaks.draft;
      stands = later_stands k s.first (there_config s) (back_config s) said s.live speaks.stands;
      few = omega (arith, speaks.few);
    }))
skip_speaks k n s ws false said is speaks none =
    rw is (first_speaks k n s ws (first_of (word_at 0 ws)) said speaks (rw is at none))

one_speaks : (k n : ℕ) (s : PairSaid) (ws : List (List ℕ)) (said : List PairSaying) → PairSpeaks k s said →
    pair_line_fault s ws ≡ None →
    PairSpeaks (k + 1) (pair_line_after n s ws) (said ++ pair_saying_of (pair_told ws))
one_speaks k n s ws said speaks none =
    elim (cases_Bool (pair_divides s ws)) [
      | inl splits ↦ divided_speaks k n s ws said speaks splits none
      | inr stays ↦
          subst (λ (now : PairSaid). PairSpeaks (k + 1) now (said ++ pair_saying_of (pair_told ws)))
          (sym (stays_after n s ws stays))
          (skip_speaks k n s ws (is_skipped ws) said refl speaks (sym (stays_fault s ws stays) ∙ none))
    ]

-- ---- all lines
pub speaks_in : (ls : List (List ℕ)) → AreFine nothing_said ls →
    PairSpeaks (length ls) (pair_said_in ls) (pair_sayings ls)
speaks_in ls fine =
    all_speak pair_lines line_pair_saying PairSpeaks (λ k n s line said. one_speaks k n s (words line) said) ls
    (record { before = tt; draft = IsDraft-first; stands = refl; few = omega arith }) fine

-- ---- What is said agrees with how both ways stand.
both_agree : (k : ℕ) (there back : Config) (said : List PairSaying) (both : BothLive) →
    BothStand k there back said both → length said ≤ longest_input → BothAgree there back said both
both_agree k there back said both stand few = record {
  network = stand.network;
  well = λ way. record { each = (stand.ways way).each; few = omega (arith, few, few_on way said) };
  stands = ap₂ (λ (there back : Live). record { there = there; back = back }) (stand.ways There).is (stand.ways Back).is;
}

agrees_by : (k : ℕ) (s : PairSaid) (said : List PairSaying) (live : Option BothLive) →
    StandsIf k s.first (there_config s) (back_config s) said live → length said ≤ longest_input → AgreesWith s said live
agrees_by k s said None stands few = stands
agrees_by k s said (Some both) stands few = both_agree k (there_config s) (back_config s) said both stands.1 few

pub lines_agree : (ls : List (List ℕ)) → AreFine nothing_said ls → length ls ≤ longest_input →
    AgreesWith (pair_said_in ls) (pair_sayings ls) (pair_said_in ls).live
lines_agree ls fine few =
    let speaks = speaks_in ls fine in
    agrees_by (length ls) (pair_said_in ls) (pair_sayings ls) (pair_said_in ls).live speaks.stands
    (omega (arith, few, speaks.few))

-- and so at their end, where nothing is missing
end_stands : (ls : List (List ℕ)) → AreFine nothing_said ls → pair_opening_fault (pair_said_in ls) ≡ None →
    (let s : PairSaid = pair_said_in ls in
    BothStand (length ls) (there_config s) (back_config s) (pair_sayings ls) (both_now s))
end_stands ls fine whole =
    let s : PairSaid = pair_said_in ls in
    (pair_opening (length ls) s.first s.settings s.live (pair_sayings ls) (speaks_in ls fine) whole).1

pub all_said : (ls : List (List ℕ)) → AreFine nothing_said ls → length ls ≤ longest_input →
    pair_opening_fault (pair_said_in ls) ≡ None →
    BothAgree (there_config (pair_said_in ls)) (back_config (pair_said_in ls)) (pair_sayings ls)
    (both_now (pair_said_in ls))
all_said ls fine few whole =
    let s : PairSaid = pair_said_in ls in
    both_agree (length ls) (there_config s) (back_config s) (pair_sayings ls) (both_now s) (end_stands ls fine whole)
    (omega (arith, few, (speaks_in ls fine).few))

-- ---- Their scripts are a pair.
valid_on : (k : ℕ) (c : Config) (live : Live) (way : Way) (said : List PairSaying) → Stands k c (said_on way said) live →
    k ≤ longest_input → IsValid (script_on c way said)
valid_on k c live way said stands few =
    subst (λ (l : Live). IsValid (record { config = config_by c l; items = l.items; events = [] })) stands.is
    (valid_by k c live [] stands.has few (All-none _))

pub scripts_pair : (ls : List (List ℕ)) → length ls ≤ longest_input → AreFine nothing_said ls →
    pair_opening_fault (pair_said_in ls) ≡ None →
    IsPair (scripts_of_live ls).there (scripts_of_live ls).back
scripts_pair ls few fine whole =
    let s : PairSaid = pair_said_in ls in
    let stand = end_stands ls fine whole in
    let network = stand.network in
    record {
      there_way = record {
        valid = valid_on (length ls) (there_config s) (both_now s).there There (pair_sayings ls) (stand.ways There) few;
        near = network.near;
        lost = network.there_lost;
        events = refl;
      };
      back_way = record {
        valid = valid_on (length ls) (back_config s) (both_now s).back Back (pair_sayings ls) (stand.ways Back) few;
        near = omega (arith, network.near, network.lag);
        lost = network.back_lost;
        events = refl;
      };
      lag = network.lag;
      ticks = network.ticks;
    }

-- ---- Behind a live line the configurations stay, and live lines have begun.
pub record IsPairSettled (s now : PairSaid) : Type 0 where
  pub before : now.first ≡ s.first
  pub settings : now.settings ≡ s.settings
  pub both : BothLive
  pub begun : now.live ≡ Some both

settled_first : (n : ℕ) (s : PairSaid) (ws : List (List ℕ)) (f : FirstWord) (both : BothLive) → s.live ≡ Some both →
    pair_fault_by s ws f ≡ None → IsPairSettled s (pair_said_with n s ws (pair_told_by ws f))
settled_first n s ws (first.Earlier p) both is none =
    absurd (let no = subst (λ (l : Option BothLive). pair_earlier_fault l s.settings p ws ≡ None) is none in cc)
settled_first n s ws (first.Live w) both is none = record {
  before = refl;
  settings = refl;
  both = both_after (both_now s) (pair_live_told w (drop 1 ws));
  begun = refl;
}
settled_first n s ws first.Other both is none = absurd cc

settled_skip : (n : ℕ) (s : PairSaid) (ws : List (List ℕ)) (skipped : Bool) (both : BothLive) →
    is_skipped ws ≡ skipped → s.live ≡ Some both → undividing_fault s ws ≡ None →
    IsPairSettled s (pair_said_with n s ws (pair_told ws))
settled_skip n s ws true both skips is none =
    rw skips (record { before = refl; settings = refl; both = both; begun = is })
settled_skip n s ws false both skips is none =
    rw skips (settled_first n s ws (first_of (word_at 0 ws)) both is (rw skips at none))

stays_divided : (before : Option Draft) (b : Bool) → IsSome before → (is_none before && b) ≡ false
stays_divided None b some = absurd (let no = some in cc)
stays_divided (Some d) b some = refl

-- a live line stands behind one that divides
pub settled : (n : ℕ) (s : PairSaid) (line : List ℕ) (both : BothLive) → IsSome s.first → s.live ≡ Some both →
    pair_line_fault s (words line) ≡ None → IsPairSettled s (pair_with_line n s line)
settled n s line both divided is none =
    let stays : pair_divides s (words line) ≡ false = stays_divided s.first (is_division (words line)) divided in
    subst (IsPairSettled s) (sym (stays_after n s (words line) stays))
    (settled_skip n s (words line) (is_skipped (words line)) both refl is
    (sym (stays_fault s (words line) stays) ∙ none))

pub lines_divided : (ls : List (List ℕ)) (both : BothLive) → AreFine nothing_said ls →
    (pair_said_in ls).live ≡ Some both → IsSome (pair_said_in ls).first
lines_divided ls both fine is =
    let s : PairSaid = pair_said_in ls in
    (subst (StandsIf (length ls) s.first (there_config s) (back_config s) (pair_sayings ls)) is
    (speaks_in ls fine).stands).0

-- ---- One line more.
pub nothing_fine : AreFine nothing_said []
nothing_fine = none_fine pair_lines 1 nothing_said

pub more_fine : (ls : List (List ℕ)) (line : List ℕ) → AreFine nothing_said ls →
    pair_line_fault (pair_said_in ls) (words line) ≡ None → AreFine nothing_said (ls ++ line ∷ [])
more_fine = fine_more pair_lines 1 nothing_said

pub less_fine : (ls : List (List ℕ)) (line : List ℕ) → AreFine nothing_said (ls ++ line ∷ []) →
    AreFine nothing_said ls × (pair_line_fault (pair_said_in ls) (words line) ≡ None)
less_fine = fine_less pair_lines 1 nothing_said

pub front_fine : (ls more : List (List ℕ)) → AreFine nothing_said (ls ++ more) → AreFine nothing_said ls
front_fine = fine_front pair_lines 1 nothing_said

pub said_next : (ls : List (List ℕ)) (line : List ℕ) →
    pair_said_in (ls ++ line ∷ []) ≡ pair_with_line (length ls + 1) (pair_said_in ls) line
said_next = behind_more pair_lines 1 nothing_said

pub sayings_next : (ls : List (List ℕ)) (line : List ℕ) →
    pair_sayings (ls ++ line ∷ []) ≡ pair_sayings ls ++ line_pair_saying line
sayings_next ls line =
    flat_map-append line_pair_saying ls (line ∷ [])
    ∙ ap (λ (l : List PairSaying). pair_sayings ls ++ l) (append-nil (line_pair_saying line))
