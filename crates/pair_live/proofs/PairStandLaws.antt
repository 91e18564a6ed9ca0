-- Two scripts in which this was said so far (ArePairOf), how their ways stand, and what one saying more does to a way.
use Rattle.std.proofs.Common.{◌≡◌, ℕ, ◌<◌, List, [], ◌∷◌, ◌++◌, length, slice_index_or, refl, sym, ◌∙◌, ap, subst}
use Rattle.std.proofs.Common.{append-nil, arith}
use Rattle.std.proofs.lemmas.List.{get_or-map}
use Rattle.law_model.specs.Common.{IsNetwork}
use Rattle.law_model.specs.declared.script_types.Config.{Config}
use Rattle.law_model.specs.declared.script_types.ItemKind.{ItemKind}
use Rattle.law_model.specs.declared.script_types.Script.{Script}
use Rattle.law_pair.specs.Common.{PairCounts, counts_on, pair_begin, pair_plan}
use Rattle.law_pair.specs.declared.pair_events.Way.{Way}
use Rattle.law_pair.specs.declared.pair_events.Way.TheVariants.{There, Back}
use Rattle.law_pair.proofs.PairWayAndPacketLaws.{has-pair-plan}
use Rattle.law_pair.proofs.ReachedPairAndStallLaws.{pair-together}
use Rattle.law_live.specs.Common.{HasLater, IsPairNetwork, IsPairSaid, IsWellSaid, PairSaying, Saying, both_from}
use Rattle.law_live.specs.Common.{both_pass, both_said, config_on, course_at, cuts, cuts_on, lands, lands_on, leg_on}
use Rattle.law_live.specs.Common.{live_after, live_from, live_of, mends, mends_on, pair_answers_from, both_answer}
use Rattle.law_live.specs.Common.{pair_counts, passes, said_on, script_on, uncut, windows_by}
use Rattle.law_live.proofs.BothWaysAnswerLaws.{counts-more}
use Rattle.law_live.proofs.BothWaysCountLaws.{pair-less, said-more, way-stands}
use Rattle.law_live.proofs.BothWaysSharedLaws.{pair-own, said-pair}
use Rattle.law_live.proofs.ConversationCountAndScriptLaws.{Stands}
use Rattle.walk_engine.specs.walk_core.OpenedWay.{HasWindows}
use Rattle.walk_engine.specs.walk_core.WayParts.{windows_in}
use Rattle.walk_engine.specs.walk_parts.Ringed.{Ringed}
use Rattle.walk_live.proofs.AnsweredWalkAndSayingLaws.{live-one, nothing-well}
use Rattle.pair_engine.specs.LivePairs.{IsPairOver, PairLives, PairWalking, walking_counts, walking_on, way_beside}
use Rattle.pair_engine.specs.LivePairs.{windows_of_way}
use Rattle.pair_live.specs.PairAnswered.{ArePairOf, WalksAsPair, live_said_on}

-- ---- both ways
pub by-way : (P : Way → Type 0) → P There → P Back → (way : Way) → P way
by-way P there back There = there
by-way P there back Back = back

-- a way, and the one beside it
pub each-way : (P : Way → Type 0) (of : Way) → P of → P (way_beside of) → (way : Way) → P way
each-way P There own beside There = own
each-way P There own beside Back = beside
each-way P Back own beside There = beside
each-way P Back own beside Back = own

pub network-on : (there back : Config) → IsPairNetwork there back → (way : Way) → IsNetwork (config_on there back way)
network-on there back network There = network.there_network
network-on there back network Back = network.back_network

-- ---- the scripts of what was said, and those of more
pub own-pair : (there back : Config) (said : List PairSaying) → IsPairNetwork there back → IsPairSaid there back said →
    ArePairOf there back said (script_on there There said) (script_on back Back said)
own-pair there back said network well = record {
  pair = said-pair there back said network well;
  agrees = pair-own there back said;
}

pub fewer : (there back : Config) (said more : List PairSaying) (one other : Script) →
    IsPairSaid there back (said ++ more) → ArePairOf there back (said ++ more) one other →
    ArePairOf there back said one other
fewer there back said more one other well are = record {
  pair = are.pair;
  agrees = pair-less there back said more one other well are.agrees;
}

pub pair-over : (there back : Config) (said : List PairSaying) (one other : Script) →
    ArePairOf there back said one other →
    IsPairOver there back one other
pair-over there back said one other are = record {
  pair = are.pair;
  one_network = are.agrees.there_agrees.network;
  other_network = are.agrees.back_agrees.network;
}

module _ (there back : Config) (said : List PairSaying) (one other : Script) (are : ArePairOf there back said one other)
  where
    pub lines-on : (way : Way) → (leg_on one other way).config.lines ≡ (config_on there back way).lines
    lines-on There = ap (λ (c : Config). c.lines) are.agrees.there_agrees.network
    lines-on Back = ap (λ (c : Config). c.lines) are.agrees.back_agrees.network

    pub later-on : (way : Way) → HasLater (live_said_on there back way said) (leg_on one other way).items
    later-on There = are.agrees.there_agrees.items
    later-on Back = are.agrees.back_agrees.items

    pub stands-on : IsPairSaid there back said → (way : Way) →
        Stands (live_said_on there back way said) (counts_on (pair_counts one other said) way)
    stands-on well = way-stands one other are.pair there back said well are.agrees

-- ---- what a pair lives in ticks together
pub lives-together : (one other : Script) (pair : PairWalking) → PairLives one other pair → (way : Way) →
    (counts_on (walking_counts pair) way).ticks ≡ (walking_counts pair).there.ticks
lives-together one other pair lives There = refl
lives-together one other pair lives Back =
    sym (pair-together (pair_plan one other) (walking_counts pair) (has-pair-plan one other lives.fits) lives.walked)

-- ---- one saying more
pub counts-then : (one other : Script) (said : List PairSaying) (saying : PairSaying) →
    pair_counts one other (said ++ saying ∷ []) ≡ both_said (pair_plan one other) (pair_counts one other said) saying
unfolding both_from
counts-then one other said saying =
    counts-more (pair_plan one other) (pair_begin (pair_plan one other)) said (saying ∷ [])

pub answer-then : (one other : Script) (s : PairCounts) (saying : PairSaying) →
    pair_answers_from one other s (saying ∷ []) ≡ both_answer one other s saying
unfolding pair_answers_from
answer-then one other s saying = append-nil (both_answer one other s saying)

-- of a way it is one saying, or none
module _ (config : Config) (way : Way) (said : List PairSaying) (saying : PairSaying) where
  module _ (one : Saying) (is : said_on way (saying ∷ []) ≡ one ∷ []) where
    pub said-own : said_on way (said ++ saying ∷ []) ≡ said_on way said ++ one ∷ []
    said-own = said-more way said (saying ∷ []) ∙ ap (λ l. said_on way said ++ l) is

    pub live-own : live_of config (said_on way (said ++ saying ∷ []))
        ≡ live_after (live_of config (said_on way said)) one
    live-own = ap (live_of config) said-own ∙ live-one config (said_on way said) one

    pub well-own : IsWellSaid config (said_on way (said ++ saying ∷ [])) →
        IsWellSaid config (said_on way said ++ one ∷ [])
    well-own well = subst (IsWellSaid config) said-own well

  pub live-beside : said_on way (saying ∷ []) ≡ [] →
      live_of config (said_on way (said ++ saying ∷ [])) ≡ live_of config (said_on way said)
  live-beside is =
      ap (live_of config)
      (said-more way said (saying ∷ []) ∙ ap (λ l. said_on way said ++ l) is ∙ append-nil (said_on way said))

pub lands-own : (of : Way) (kind : ItemKind) → said_on of (lands_on of kind ∷ []) ≡ lands kind ∷ []
lands-own There kind = refl
lands-own Back kind = refl

pub lands-beside : (of : Way) (kind : ItemKind) → said_on (way_beside of) (lands_on of kind ∷ []) ≡ []
lands-beside There kind = refl
lands-beside Back kind = refl

pub cuts-own : (of : Way) (m : ℕ) → said_on of (cuts_on of m ∷ []) ≡ cuts m ∷ []
cuts-own There m = refl
cuts-own Back m = refl

pub cuts-beside : (of : Way) (m : ℕ) → said_on (way_beside of) (cuts_on of m ∷ []) ≡ []
cuts-beside There m = refl
cuts-beside Back m = refl

pub mends-own : (of : Way) (m : ℕ) → said_on of (mends_on of m ∷ []) ≡ mends m ∷ []
mends-own There m = refl
mends-own Back m = refl

pub mends-beside : (of : Way) (m : ℕ) → said_on (way_beside of) (mends_on of m ∷ []) ≡ []
mends-beside There m = refl
mends-beside Back m = refl

pub pass-own : (way : Way) (k : ℕ) → said_on way (both_pass k ∷ []) ≡ passes k ∷ []
pass-own way k = refl

-- ---- a pair that stands for each of them
-- its lines are those of the configurations, and so are its ticks
pub walks-pair : (there back : Config) (said : List PairSaying) (now : PairWalking) → IsPairNetwork there back →
    IsPairSaid there back said →
    ((one other : Script) → ArePairOf there back said one other → PairLives one other now) →
    ((one other : Script) → ArePairOf there back said one other → walking_counts now ≡ pair_counts one other said) →
    ((way : Way) (m : ℕ) → m < (config_on there back way).lines →
    slice_index_or (windows_of_way now way) m []
    ≡ windows_by (config_on there back way).ticks (course_at (live_said_on there back way said) m)) →
    WalksAsPair there back said now
walks-pair there back said now network well lives counts windows =
    let own = lives (script_on there There said) (script_on back Back said) (own-pair there back said network well) in
    record {
      lives = lives;
      counts = counts;
      windows = windows;
      lines = by-way (λ way. length (walking_on now way).core.lines ≡ (config_on there back way).lines)
          own.there_way.stands.lines.size own.back_way.stands.lines.size;
      total = by-way (λ way. (walking_on now way).core.source.total ≡ (config_on there back way).ticks)
          own.there_way.stands.total own.back_way.stands.total;
    }

-- ---- before anything is said
pub nothing-said : (there back : Config) → IsPairSaid there back []
nothing-said there back way = nothing-well (config_on there back way)

nothing-windows : (config : Config) (lines : List Ringed) → IsNetwork config → HasWindows config lines → (m : ℕ) →
    m < config.lines →
    slice_index_or (windows_in lines) m [] ≡ windows_by config.ticks (course_at (live_of config []) m)
unfolding live_from
nothing-windows config lines network windows m low =
    let size = network.windows_each in
    windows m low
    ∙ sym (ap (windows_by config.ticks)
    (get_or-map uncut config.windows m [] (uncut []) (omega (arith, size, low))))

pub nothing-pair : (there back : Config) (now : PairWalking) → IsPairNetwork there back →
    ((one other : Script) → IsPairOver there back one other → PairLives one other now) →
    ((one other : Script) → IsPairOver there back one other →
    walking_counts now ≡ pair_begin (pair_plan one other)) →
    HasWindows there now.there.core.lines → HasWindows back now.back.core.lines → WalksAsPair there back [] now
unfolding both_from
nothing-pair there back now network lives counts windows windows' =
    walks-pair there back [] now network (nothing-said there back)
    (λ one other are. lives one other (pair-over there back [] one other are))
    (λ one other are. counts one other (pair-over there back [] one other are))
    (by-way (λ way. (m : ℕ) → m < (config_on there back way).lines →
    slice_index_or (windows_of_way now way) m []
    ≡ windows_by (config_on there back way).ticks (course_at (live_said_on there back way []) m))
    (nothing-windows there now.there.core.lines network.there_network windows)
    (nothing-windows back now.back.core.lines network.back_network windows'))
