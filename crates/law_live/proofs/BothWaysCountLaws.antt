-- How the counts of a pair stand beside what was said of both ways: so many ticks have passed, and each item has landed.
use Rattle.std.proofs.Common.{◌≡◌, ℕ, ◌+◌, ◌≤◌, nat_lt, false, inl, inr, List, [], ◌∷◌, ◌++◌, length, All}
use Rattle.std.proofs.Common.{Option, Some, None, refl, sym, ◌∙◌, ap, ap₂, subst, arith, append_assoc}
use Rattle.std.proofs.lemmas.Bool.{cases_Bool, ltb-true}
use Rattle.std.proofs.lemmas.List.Elements.{All-head, All-tail, All-weaker}
use Rattle.std.proofs.lemmas.Option.{same_Some}
use Rattle.law_model.specs.Common.{Counts, Due, Leg, command_due, command_dues, due_of, dues_of, frame_due, frame_dues}
use Rattle.law_model.specs.declared.script_types.Config.{Config}
use Rattle.law_model.specs.declared.script_types.Item.{Item}
use Rattle.law_model.specs.declared.script_types.ItemKind.{ItemKind}
use Rattle.law_model.specs.declared.script_types.ItemKind.TheVariants.{Frame, Add, Remove}
use Rattle.law_model.specs.declared.script_types.Script.{Script}
use Rattle.law_walk.specs.Common.{walk_plan}
use Rattle.law_pair.specs.declared.pair_events.Way.{Way}
use Rattle.law_pair.specs.declared.pair_events.Way.TheVariants.{There, Back}
use Rattle.law_pair.specs.declared.pair_events.PairEvent.TheVariants.{Item as Lands}
use Rattle.law_pair.specs.Common.{IsPair, IsPairReached, PairCounts, PairPlan, counts_on, first_due, land_first, land_item}
use Rattle.law_pair.specs.Common.{left_after, pair_begin, pair_bound, pair_plan, sooner, tick_of}
use Rattle.law_pair.proofs.PairMeasureAndDrainLaws.{pair-begins, pair-steps}
use Rattle.law_pair.proofs.PairWayAndPacketLaws.{has-pair-plan}
use Rattle.law_pair.proofs.ReachedPairAndStallLaws.{pair-together}
use Rattle.law_live.specs.Common.{Agrees, CanSayAll, HasLater, IsPairSaid, Live, PairAgrees, PairSaying, after_turns}
use Rattle.law_live.specs.Common.{both_from, both_pass, both_said, commands_in, config_on, cuts, cuts_on, frames_in, item_at}
use Rattle.law_live.specs.Common.{lands, lands_on, leg_on, live_after, live_from, live_of, mends, mends_on, opened, pair_counts}
use Rattle.law_live.specs.Common.{passes, said_on, saying_on, turns_for}
use Rattle.law_live.proofs.AgreeingLegConversationLaws.{agrees-before, can-back, can-front, live-more, well-front}
use Rattle.std.proofs.lemmas.Grind.{flat_map-append}
use Rattle.law_live.specs.Common.{IsWellSaid}
use Rattle.law_model.specs.Common.{leg_of}
use Rattle.law_live.proofs.BothWaysRoundLaws.{BothSettled, turns-go, turns-reached, turns-ticks}
use Rattle.law_live.proofs.LiveRoundAndLandingLaws.{Settled}
use Rattle.law_live.proofs.ConversationCountAndScriptLaws.{Stands, landed_by, later-all, settles, stands-begun, stands-landed}

-- ---- the next item of a way is the one that is said
left-none : (dues : List Due) → left_after 0 0 dues ≡ dues
unfolding left_after
left-none [] = refl
left-none (frame_due due ∷ dues) = ap (λ l. frame_due due ∷ l) (left-none dues)
left-none (command_due due ∷ dues) = ap (λ l. command_due due ∷ l) (left-none dues)

left-front : (front rest : List Due) →
    left_after (length (frame_dues front)) (length (command_dues front)) (front ++ rest) ≡ rest
unfolding left_after frame_dues command_dues
left-front [] rest = left-none rest
left-front (frame_due due ∷ front) rest = left-front front rest
left-front (command_due due ∷ front) rest = left-front front rest

dues-append : (xs ys : List Item) → dues_of (xs ++ ys) ≡ dues_of xs ++ dues_of ys
dues-append [] ys = refl
dues-append (item ∷ xs) ys = ap (λ l. due_of item.due item.kind ∷ l) (dues-append xs ys)

tick-due : (due : ℕ) (kind : ItemKind) → tick_of (due_of due kind) ≡ due
tick-due due (Frame octets) = refl
tick-due due (Add line) = refl
tick-due due (Remove line) = refl

sooner-late : (n : ℕ) (item : Due) (found : Option Due) → n ≤ tick_of item →
    ((other : Due) → found ≡ Some other → n ≤ tick_of other) → n ≤ tick_of (sooner item found)
sooner-late n item None low rest = low
sooner-late n item (Some other) low rest = elim (cases_Bool (nat_lt (tick_of other) (tick_of item))) [
  | inl e ↦ rw e (rest other refl)
  | inr e ↦ rw e low
]

first-late : (n : ℕ) (items : List Item) → All (λ (item : Item). n ≤ item.due) items → (other : Due) →
    first_due (dues_of items) ≡ Some other → n ≤ tick_of other
unfolding first_due
first-late n [] late other is = absurd cc
first-late n (item ∷ items) late other is =
    let tick = tick-due item.due item.kind in
    let here : n ≤ item.due = All-head (λ (item : Item). n ≤ item.due) item items late in
    subst (λ due. n ≤ tick_of due)
    (same_Some (sooner (due_of item.due item.kind) (first_due (dues_of items))) other is)
    (sooner-late n (due_of item.due item.kind) (first_due (dues_of items)) (omega (arith, tick, here))
    (λ due there. first-late n items (All-tail (λ (item : Item). n ≤ item.due) item items late) due there))

sooner-first : (item : Due) (found : Option Due) →
    ((other : Due) → found ≡ Some other → tick_of item ≤ tick_of other) → sooner item found ≡ item
sooner-first item None late = refl
sooner-first item (Some other) late = elim (cases_Bool (nat_lt (tick_of other) (tick_of item))) [
  | inl e ↦
      let less = ltb-true (tick_of other) (tick_of item) e in
      let high = late other refl in
      absurd (omega (arith, less, high))
  | inr e ↦ rw e refl
]

next-first : (live : Live) (kind : ItemKind) (items : List Item) → HasLater (live_after live (lands kind)) items →
    first_due (left_after (frames_in live) (commands_in live) (dues_of items)) ≡ Some (due_of live.passed kind)
unfolding first_due
next-first live kind items more =
    let item : Item = item_at live.passed kind in
    let tick = tick-due live.passed kind in
    ap (λ items. first_due (left_after (frames_in live) (commands_in live) (dues_of items))) more.are
    ∙ ap (λ dues. first_due (left_after (frames_in live) (commands_in live) dues))
    (dues-append (live.items ++ item ∷ []) more.later
    ∙ ap (λ l. l ++ dues_of more.later) (dues-append live.items (item ∷ []))
    ∙ append_assoc (dues_of live.items) (due_of live.passed kind ∷ []) (dues_of more.later))
    ∙ ap first_due (left-front (dues_of live.items) (due_of live.passed kind ∷ dues_of more.later))
    ∙ ap Some (sooner-first (due_of live.passed kind) (first_due (dues_of more.later))
    (λ other there. let late = first-late live.passed more.later more.late other there in omega (arith, late, tick)))

lands-first : (due : ℕ) (kind : ItemKind) (s : Counts) → due ≤ s.ticks →
    (land_first (Some (due_of due kind)) s).counts ≡ landed_by kind s
lands-first due kind s now = by kind
  where
    late : nat_lt s.ticks due ≡ false
    late = grind (arith, now)

    by : (kind : ItemKind) → (land_first (Some (due_of due kind)) s).counts ≡ landed_by kind s
    by (Frame octets) = rw late refl
    by (Add line) = rw late refl
    by (Remove line) = rw late refl

pub way-lands : (leg : Leg) (live : Live) (s : Counts) (kind : ItemKind) → Stands live s →
    HasLater (live_after live (lands kind)) leg.items →
    (land_item (walk_plan leg) s).counts ≡ landed_by kind s
way-lands leg live s kind stands more =
    let ticks = stands.ticks in
    ap₂ (λ a b. (land_first (first_due (left_after a b (dues_of leg.items))) s).counts) stands.frames stands.commands
    ∙ ap (λ found. (land_first found s).counts) (next-first live kind leg.items more)
    ∙ lands-first live.passed kind s (omega (arith, ticks))

-- ---- both ways
pub record BothStand (live live' : Live) (s : PairCounts) : Type 0 where
  pub there : Stands live s.there
  pub back : Stands live' s.back

-- what is said of a way behind some other
pub live-said : (way : Way) (live : Live) (saying : PairSaying) (said : List PairSaying) →
    live_from live (said_on way (saying ∷ said))
    ≡ live_from (live_from live (saying_on way saying)) (said_on way said)
live-said way live saying said = live-more live (saying_on way saying) (said_on way said)

-- ---- what is said of a way
pub said-more : (way : Way) (said more : List PairSaying) →
    said_on way (said ++ more) ≡ said_on way said ++ said_on way more
said-more way said more = flat_map-append (saying_on way) said more

-- ---- a pair that agrees with more agrees with less
less-way : (config : Config) (way : Way) (said more : List PairSaying) (leg : Leg) →
    IsWellSaid config (said_on way (said ++ more)) → Agrees config (live_of config (said_on way (said ++ more))) leg →
    Agrees config (live_of config (said_on way said)) leg
less-way config way said more leg well agrees =
    let e = said-more way said more in
    agrees-before config (said_on way said) (said_on way more) leg
    (subst (λ said. IsWellSaid config said) e well).each
    (subst (λ said. Agrees config (live_of config said) leg) e agrees)

pub pair-less : (there back : Config) (said more : List PairSaying) (one other : Script) →
    IsPairSaid there back (said ++ more) → PairAgrees there back (said ++ more) one other →
    PairAgrees there back said one other
pair-less there back said more one other well agrees = record {
  there_agrees = less-way there There said more (leg_of one) (well There) agrees.there_agrees;
  back_agrees = less-way back Back said more (leg_of other) (well Back) agrees.back_agrees;
}

pub well-less : (there back : Config) (said more : List PairSaying) → IsPairSaid there back (said ++ more) →
    IsPairSaid there back said
well-less there back said more well way =
    well-front (config_on there back way) (said_on way said) (said_on way more)
    (subst (λ said. IsWellSaid (config_on there back way) said) (said-more way said more) (well way))

-- some events of the pair lead to its counts
module _ (one other : Script) where
  abbrev walk : PairPlan
  walk = pair_plan one other

  pub said-reached : (s : PairCounts) (saying : PairSaying) → IsPairReached walk s →
      IsPairReached walk (both_said walk s saying)
  said-reached s (lands_on way kind) reached = pair-steps walk s (Lands way) reached
  said-reached s (cuts_on way m) reached = reached
  said-reached s (mends_on way m) reached = reached
  said-reached s (both_pass k) reached = turns-reached (turns_for k walk s) walk s reached

  pub all-reached : (said : List PairSaying) (s : PairCounts) → IsPairReached walk s →
      IsPairReached walk (both_from walk s said)
  unfolding both_from
  all-reached [] s reached = reached
  all-reached (saying ∷ said) s reached = all-reached said (both_said walk s saying) (said-reached s saying reached)

  pub pair-walked : (said : List PairSaying) → IsPairReached walk (pair_counts one other said)
  pair-walked said = all-reached said (pair_begin walk) (pair-begins walk)

module _ (one other : Script) (pair : IsPair one other) where
  abbrev plan : PairPlan
  plan = pair_plan one other

  -- both ways, as long as nothing else is due
  pub settle : (there back : Live) (s : PairCounts) (k : ℕ) → BothStand there back s → s.there.ticks ≡ s.back.ticks →
      HasLater (live_after there (passes k)) one.items → HasLater (live_after back (passes k)) other.items →
      BothSettled plan there.passed (s.there.ticks + k) s
  settle there back s k stand same more more' =
      let t = stand.there.ticks in
      let b = stand.back.ticks in
      let from : back.passed ≡ there.passed = omega (arith, t, b, same) in
      record {
        there = settles (leg_on one other There) there (s.there.ticks + k) s.there stand.there more.later more.are
            (All-weaker (λ (item : Item). there.passed + k ≤ item.due) (λ (item : Item). s.there.ticks + k ≤ item.due)
            (λ item late. omega (arith, late, t)) more.later more.late);
        back = subst (λ from. Settled (walk_plan (leg_on one other Back)) from (s.there.ticks + k) s.back) from
            (settles (leg_on one other Back) back (s.there.ticks + k) s.back stand.back more'.later more'.are
            (All-weaker (λ (item : Item). back.passed + k ≤ item.due) (λ (item : Item). s.there.ticks + k ≤ item.due)
            (λ item late. omega (arith, late, b, same)) more'.later more'.late));
      }

  stands-later : (live : Live) (s next : Counts) (k : ℕ) → Stands live s → next.frames ≡ s.frames →
      next.commands ≡ s.commands → next.ticks ≡ s.ticks + k → Stands (live_after live (passes k)) next
  stands-later live s next k stands frames commands ticks =
      let now = stands.ticks in
      record {
        ticks = omega (arith, ticks, now);
        frames = frames ∙ stands.frames;
        commands = commands ∙ stands.commands;
        due = All-weaker (λ (item : Item). item.due ≤ live.passed) (λ (item : Item). item.due ≤ live.passed + k)
            (λ item early. omega (arith, early)) live.items stands.due;
      }

  pub pass-made : (there back : Live) (s : PairCounts) (k : ℕ) → there.passed + k ≤ one.config.ticks →
      BothStand there back s → IsPairReached plan s → HasLater (live_after there (passes k)) one.items →
      HasLater (live_after back (passes k)) other.items →
      (both_said plan s (both_pass k)).there.ticks ≡ s.there.ticks + k
  pass-made there back s k left stand reached more more' =
      let is = has-pair-plan one other pair in
      let t = stand.there.ticks in
      turns-ticks plan is (pair_bound plan) there.passed (s.there.ticks + k) s reached
      (settle there back s k stand (pair-together plan s is reached) more more') (omega arith)
      (omega (arith, t, left)) (omega arith)

  stand-passed : (there back : Live) (s : PairCounts) (k : ℕ) → there.passed + k ≤ one.config.ticks →
      BothStand there back s → IsPairReached plan s → HasLater (live_after there (passes k)) one.items →
      HasLater (live_after back (passes k)) other.items →
      BothStand (live_after there (passes k)) (live_after back (passes k)) (both_said plan s (both_pass k))
  stand-passed there back s k left stand reached more more' =
      let is = has-pair-plan one other pair in
      let n : ℕ = turns_for k plan s in
      let next : PairCounts = after_turns n plan s in
      let goes = turns-go n plan s in
      let made = pass-made there back s k left stand reached more more' in
      let same = pair-together plan s is reached in
      let same' = pair-together plan next is (turns-reached n plan s reached) in
      record {
        there = stands-later there s.there next.there k stand.there goes.there.frames goes.there.commands made;
        back = stands-later back s.back next.back k stand.back goes.back.frames goes.back.commands
            (sym same' ∙ made ∙ ap (λ ticks. ticks + k) same);
      }

  -- ---- one saying
  abbrev After : Live → Live → PairCounts → PairSaying → Type 0
  After there back s saying =
      BothStand (live_from there (saying_on There saying)) (live_from back (saying_on Back saying))
      (both_said plan s saying)

  stand-cut : (live : Live) (s : Counts) (m : ℕ) → Stands live s → Stands (live_after live (cuts m)) s
  stand-cut live s m stands = record {
    ticks = stands.ticks;
    frames = stands.frames;
    commands = stands.commands;
    due = stands.due;
  }

  stand-mended : (live : Live) (s : Counts) (m : ℕ) → Stands live s → Stands (live_after live (mends m)) s
  stand-mended live s m stands = record {
    ticks = stands.ticks;
    frames = stands.frames;
    commands = stands.commands;
    due = stands.due;
  }

  pub stand-one : (saying : PairSaying) (there back : Live) (s : PairCounts) →
      CanSayAll one.config.ticks there (saying_on There saying) → BothStand there back s → IsPairReached plan s →
      HasLater (live_from there (saying_on There saying)) one.items →
      HasLater (live_from back (saying_on Back saying)) other.items → After there back s saying
  unfolding CanSayAll live_from
  stand-one (lands_on There kind) there back s can stand reached more more' = record {
    there = subst (λ c. Stands (live_after there (lands kind)) c)
        (sym (way-lands (leg_on one other There) there s.there kind stand.there more))
        (stands-landed there s.there kind stand.there);
    back = stand.back;
  }
  stand-one (lands_on Back kind) there back s can stand reached more more' = record {
    there = stand.there;
    back = subst (λ c. Stands (live_after back (lands kind)) c)
        (sym (way-lands (leg_on one other Back) back s.back kind stand.back more'))
        (stands-landed back s.back kind stand.back);
  }
  stand-one (cuts_on There m) there back s can stand reached more more' =
      record { there = stand-cut there s.there m stand.there; back = stand.back }
  stand-one (cuts_on Back m) there back s can stand reached more more' =
      record { there = stand.there; back = stand-cut back s.back m stand.back }
  stand-one (mends_on There m) there back s can stand reached more more' =
      record { there = stand-mended there s.there m stand.there; back = stand.back }
  stand-one (mends_on Back m) there back s can stand reached more more' =
      record { there = stand.there; back = stand-mended back s.back m stand.back }
  stand-one (both_pass k) there back s can stand reached more more' =
      stand-passed there back s k can.0.left stand reached more more'

  -- ---- one saying after another
  pub stand-all : (said : List PairSaying) (there back : Live) (s : PairCounts) →
      CanSayAll one.config.ticks there (said_on There said) → BothStand there back s → IsPairReached plan s →
      HasLater (live_from there (said_on There said)) one.items →
      HasLater (live_from back (said_on Back said)) other.items →
      BothStand (live_from there (said_on There said)) (live_from back (said_on Back said)) (both_from plan s said)
  unfolding live_from both_from
  stand-all [] there back s can stand reached more more' = stand
  stand-all (saying ∷ said) there back s can stand reached more more' =
      let now : Live = live_from there (saying_on There saying) in
      let now' : Live = live_from back (saying_on Back saying) in
      let a = live-said There there saying said in
      let b = live-said Back back saying said in
      let late = subst (λ live. HasLater live one.items) a more in
      let late' = subst (λ live. HasLater live other.items) b more' in
      let next = stand-one saying there back s
      (can-front one.config.ticks (saying_on There saying) (said_on There said) there can) stand reached
      (later-all (said_on There said) now one.items late) (later-all (said_on Back said) now' other.items late') in
      subst (λ live. BothStand live (live_from back (said_on Back (saying ∷ said)))
      (both_from plan (both_said plan s saying) said)) (sym a)
      (subst (λ live. BothStand (live_from now (said_on There said)) live
      (both_from plan (both_said plan s saying) said)) (sym b)
      (stand-all said now now' (both_said plan s saying)
      (can-back one.config.ticks (saying_on There saying) (said_on There said) there can) next
      (said-reached one other s saying reached) late late'))

  pub begun : (there back : Config) → BothStand (opened there) (opened back) (pair_begin plan)
  begun there back = record {
    there = stands-begun there (leg_on one other There);
    back = stands-begun back (leg_on one other Back);
  }

  pub pair-stands : (there back : Config) (said : List PairSaying) → IsPairSaid there back said →
      PairAgrees there back said one other →
      BothStand (live_of there (said_on There said)) (live_of back (said_on Back said)) (pair_counts one other said)
  pair-stands there back said well agrees =
      let ticks : there.ticks ≡ one.config.ticks =
      sym (ap (λ (config : Config). config.ticks) agrees.there_agrees.network) in
      stand-all said (opened there) (opened back) (pair_begin plan)
      (subst (λ ticks. CanSayAll ticks (opened there) (said_on There said)) ticks (well There).each)
      (begun there back) (pair-begins plan) agrees.there_agrees.items agrees.back_agrees.items

  pub way-stands : (there back : Config) (said : List PairSaying) → IsPairSaid there back said →
      PairAgrees there back said one other → (way : Way) →
      Stands (live_of (config_on there back way) (said_on way said)) (counts_on (pair_counts one other said) way)
  way-stands there back said well agrees There = (pair-stands there back said well agrees).there
  way-stands there back said well agrees Back = (pair-stands there back said well agrees).back

  -- ---- a pass makes just its ticks
  passed-more : (config : Config) (said : List PairSaying) (k : ℕ) →
      (live_of config (said_on There (said ++ both_pass k ∷ []))).passed
      ≡ (live_of config (said_on There said)).passed + k
  unfolding live_from
  passed-more config said k =
      ap (λ said. (live_of config said).passed) (flat_map-append (saying_on There) said (both_pass k ∷ []))
      ∙ ap (λ (live : Live). live.passed) (live-more (opened config) (said_on There said) (passes k ∷ []))

  pub pair-passes : (there back : Config) (said : List PairSaying) (k : ℕ) →
      IsPairSaid there back (said ++ both_pass k ∷ []) → PairAgrees there back (said ++ both_pass k ∷ []) one other →
      (pair_counts one other (said ++ both_pass k ∷ [])).there.ticks ≡ (pair_counts one other said).there.ticks + k
  pair-passes there back said k well agrees =
      let less = pair-less there back said (both_pass k ∷ []) one other well agrees in
      (pair-stands there back (said ++ both_pass k ∷ []) well agrees).there.ticks
      ∙ passed-more there said k
      ∙ ap (λ n. n + k) (sym (pair-stands there back said (well-less there back said (both_pass k ∷ []) well) less).there.ticks)
