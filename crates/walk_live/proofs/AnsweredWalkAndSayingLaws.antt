-- One saying more to an AnsweredWalk (IsAnswered), in each leg that agrees with what was said (IsLegOf).
use Rattle.std.proofs.Common.{◌≡◌, ℕ, ◌+◌, ◌<◌, List, [], ◌∷◌, ◌++◌, length, slice_index_or, refl, sym, ◌∙◌, ap, subst}
use Rattle.std.proofs.Common.{append-nil, arith, ◌^◌, ◌≤◌, slice_set, Option, Some, None, ap₂, length-append}
use Rattle.std.proofs.lemmas.List.{get_or-map, length-map}
use Rattle.law_model.specs.Common.{IsNetwork, Leg, begin}
use Rattle.law_model.specs.declared.script_types.Config.{Config}
use Rattle.law_model.specs.declared.window_types.Window.{Window}
use Rattle.law_model.specs.members.Damage.{carried}
use Rattle.law_walk.specs.Common.{walk_plan, is_client, refusal_at}
use Rattle.law_live.specs.Common.{Agrees, CanSay, CanSayAll, IsWellSaid, Live, Saying, answers_from, answers_to}
use Rattle.law_live.specs.Common.{counts_from, counts_said, course_at, leg_said, live_after, live_counts, live_from}
use Rattle.law_live.specs.Common.{live_of, opened, passes, uncut, windows_by, LineCourse, answers_text, cut_at, cuts}
use Rattle.law_live.specs.Common.{item_at, lands, mended_at, mends, next_item, now_text, waiting_at}
use Rattle.law_live.proofs.AgreeingLegConversationLaws.{agrees-own, can-back, counts-more, live-more, agrees-before}
use Rattle.law_live.proofs.AgreeingLegConversationLaws.{agrees-stands, well-front, agrees-number, agrees-offers}
use Rattle.law_live.proofs.AgreeingLegConversationLaws.{agrees-orders, pass-left, pass-made, said-next}
use Rattle.law_live.proofs.QueueAndRoomLaws.{none-wait, waits-passed}
use Rattle.law_live.proofs.WellSaidLegAndWindowLaws.{said-lines, said-sound, closed-below, right-all, right-opened}
use Rattle.law_live.proofs.WellSaidLegAndWindowLaws.{IsOpen}
use Rattle.walk_engine.specs.walk_core.LiveWalking.{IsLegOver, LiveStands, Walking, walking_counts, IsLive, LiveMakes}
use Rattle.walk_engine.specs.walk_core.OpenedWay.{HasWindows}
use Rattle.walk_engine.specs.walk_core.WayParts.{AgreesAt, waiting_in, windows_in, windows_of}
use Rattle.walk_live.specs.Answered.{IsLegOf, WalksAs, IsAnswered}
use Rattle.law_model.specs.declared.item_refusals.Refusal.{Refusal}
use Rattle.law_model.specs.declared.script_types.ItemKind.{ItemKind}
use Rattle.text_report.specs.ReportLines.{refused_text}
use Rattle.member_path.specs.failure_window.OpenWindows.{CanClose, closed_at, last_end, opened_at}
use Rattle.walk_engine.specs.declared.walk_core.step_answers.Moved.{Moved}
use Rattle.walk_engine.specs.walk_core.Landing.{landing_of}
use Rattle.walk_engine.specs.walk_core.WalkAfterEvent.{counts_after, refusal_in_event}
use Rattle.walk_engine.specs.walk_core.EventAnswers.{IsDue}
use Rattle.walk_live.specs.declared.answered_walk.AnsweredWalk.{AnsweredWalk}
use Rattle.walk_live.specs.PassingRounds.{CanPass, CanRound, IsOtherwise, rounds_text}
use Rattle.walk_live.specs.LiveReplies.{answer_to, queue_lines, telling, answered_since}
use Rattle.walk_live.proofs.SaidItemAndFailureLaws.{can-mend, cut-windows, mend-windows, over-end, set-windows}
use Rattle.walk_live.proofs.SaidItemAndFailureLaws.{uncut-windows, IsNext, accepted-text, counts-are, next-due}
use Rattle.walk_live.proofs.SaidItemAndFailureLaws.{refusal-is, refused-text}
use Rattle.walk_live.proofs.PassRoundsLaws.{PassesIn, pass-free-at, pass-text, pass_end, passes-over, rest_text}
use Rattle.law_live.specs.LiveAnswers.{answers_from as live_answers_from}
use Rattle.walk_live.specs.declared.asked.Asked.{Asked}

-- ---- A walk that is told what is said, in each leg that agrees with it.
-- ---- legs
pub leg-own : (config : Config) (said : List Saying) → IsNetwork config → IsWellSaid config said →
    IsLegOf config said (leg_said config said)
leg-own config said network well = record {
  sound = said-sound config said network well;
  agrees = agrees-own config (live_of config said);
}

pub leg-less : (config : Config) (said more : List Saying) (leg : Leg) → IsWellSaid config (said ++ more) →
    IsLegOf config (said ++ more) leg → IsLegOf config said leg
leg-less config said more leg well is = record {
  sound = is.sound;
  agrees = agrees-before config said more leg well.each is.agrees;
}

pub leg-lines : (config : Config) (said : List Saying) (leg : Leg) → IsLegOf config said leg →
    leg.config.lines ≡ config.lines
leg-lines config said leg is = ap (λ (c : Config). c.lines) is.agrees.network

pub leg-over : (config : Config) (said : List Saying) (leg : Leg) → IsLegOf config said leg → IsLegOver config leg
leg-over config said leg is = record {
  sound = is.sound;
  network = is.agrees.network;
  quiet = is.agrees.quiet;
}

-- as many ticks are made as have passed
pub leg-ticks : (config : Config) (said : List Saying) (leg : Leg) → IsWellSaid config said → IsLegOf config said leg →
    (live_counts leg said).ticks ≡ (live_of config said).passed
leg-ticks config said leg well is = (agrees-stands config leg is.sound said well is.agrees).ticks

-- ---- one saying more
pub live-one : (config : Config) (said : List Saying) (saying : Saying) →
    live_of config (said ++ saying ∷ []) ≡ live_after (live_of config said) saying
unfolding live_from
live-one config said saying = live-more (opened config) said (saying ∷ [])

pub counts-one : (leg : Leg) (said : List Saying) (saying : Saying) →
    live_counts leg (said ++ saying ∷ []) ≡ counts_said (walk_plan leg) (live_counts leg said) saying
unfolding counts_from
counts-one leg said saying = counts-more (walk_plan leg) (begin (walk_plan leg)) said (saying ∷ [])

pub can-one : (config : Config) (said : List Saying) (saying : Saying) → IsWellSaid config (said ++ saying ∷ []) →
    CanSay config.ticks (live_of config said) saying
unfolding CanSayAll
can-one config said saying well = (can-back config.ticks said (saying ∷ []) (opened config) well.each).0

pub answer-one : (leg : Leg) (said : List Saying) (saying : Saying) →
    answers_from leg (live_counts leg said) (saying ∷ []) ≡ answers_to leg (live_counts leg said) saying
unfolding answers_from
answer-one leg said saying = append-nil (answers_to leg (live_counts leg said) saying)

-- ---- a walk
-- its lines are those of the configuration, and so are its ticks
pub walks-by : (config : Config) (said : List Saying) (walk : Walking) → IsNetwork config → IsWellSaid config said →
    ((leg : Leg) → IsLegOf config said leg → LiveStands leg walk) →
    ((leg : Leg) → IsLegOf config said leg → walking_counts walk ≡ live_counts leg said) →
    ((m : ℕ) → m < config.lines →
    slice_index_or (windows_in walk.way.lines) m [] ≡ windows_by config.ticks (course_at (live_of config said) m)) →
    WalksAs config said walk
walks-by config said walk network well stands counts windows =
    let own = stands (leg_said config said) (leg-own config said network well) in
    record {
      stands = stands;
      counts = counts;
      windows = windows;
      lines = own.stands.lines.size;
      total = own.stands.total;
    }

-- ---- before anything is said
pub nothing-well : (config : Config) → IsWellSaid config []
unfolding CanSayAll
nothing-well config = record { each = tt; few = omega arith }

pub nothing-walks : (config : Config) (walk : Walking) → IsNetwork config →
    ((leg : Leg) → IsLegOver config leg → LiveStands leg walk) →
    ((leg : Leg) → IsLegOver config leg → walking_counts walk ≡ begin (walk_plan leg)) →
    HasWindows config walk.way.lines → WalksAs config [] walk
unfolding counts_from live_from
nothing-walks config walk network stands counts windows =
    walks-by config [] walk network (nothing-well config)
    (λ leg is. stands leg (leg-over config [] leg is))
    (λ leg is. counts leg (leg-over config [] leg is))
    (λ m low.
    let size = network.windows_each in
    windows m low
    ∙ sym (ap (windows_by config.ticks)
    (get_or-map uncut config.windows m [] (uncut []) (omega (arith, size, low)))))

-- ---- while ticks pass
-- of the containers that are made then its lines say what each leg says
pub agrees-passing : (config : Config) (said : List Saying) (k t : ℕ) (leg : Leg) (windows : List (List Window)) →
    IsNetwork config → IsWellSaid config (said ++ passes k ∷ []) → IsLegOf config (said ++ passes k ∷ []) leg →
    ((m : ℕ) → m < config.lines →
    slice_index_or windows m [] ≡ windows_by config.ticks (course_at (live_of config said) m)) →
    t < (live_of config said).passed + k → AgreesAt leg t windows
agrees-passing config said k t leg windows network well is same low m inside =
    let live : Live = live_of config said in
    let agrees : Agrees config (live_after live (passes k)) leg =
    subst (λ l. Agrees config l leg) (live-one config said (passes k)) is.agrees in
    let lines = leg-lines config (said ++ passes k ∷ []) leg is in
    let all = said-lines config said network (well-front config said (passes k ∷ []) well) in
    let left = (can-one config said (passes k) well).left in
    agrees.windows m (omega (arith, inside, lines, all)) t low
    ∙ sym (closed-below (live.passed + k) config.ticks (course_at live m).windows (course_at live m).cut left t low)
    ∙ ap (λ l. carried l t) (sym (same m (omega (arith, inside, lines))))

pub nothing-items : (config : Config) → 0 ≡ length (live_of config []).items
unfolding live_from
nothing-items config = refl

pub nothing-waits : (config : Config) (leg : Leg) → 0 ≡ waiting_at leg (live_of config []).passed
unfolding live_from
nothing-waits config leg = sym (none-wait leg)

-- ---- One saying more to a walk that has answered what was said.
pub other-then : (was now next : AnsweredWalk) → IsOtherwise was now → IsOtherwise now next → IsOtherwise was next
other-then was now next first second = record {
  lines = second.lines ∙ first.lines;
  items = second.items ∙ first.items;
  waiting = second.waiting ∙ first.waiting;
  tells = second.tells ∙ first.tells;
}

module _ (walk : AnsweredWalk) (asked : Asked) (config : Config) (said : List Saying)
    (is : IsAnswered walk asked config said)
  where
    -- ---- how it stands
    pub now-live : IsLive walk.walk
    now-live = (leg_said config said, is.walks.stands (leg_said config said) (leg-own config said is.network is.well))

    pub now-ticks : (walking_counts walk.walk).ticks ≡ (live_of config said).passed
    now-ticks =
        let leg : Leg = leg_said config said in
        let own = leg-own config said is.network is.well in
        let same = is.walks.counts leg own in
        let ticks = leg-ticks config said leg is.well own in
        subst (λ s. s.ticks ≡ (live_of config said).passed) (sym same) ticks

    pub now-low : (m : ℕ) → m < length (live_of config said).courses → m < config.lines
    now-low m inside = let all = said-lines config said is.network is.well in omega (arith, inside, all)

    pub now-line : (m : ℕ) → m < length (live_of config said).courses → m < length walk.walk.way.lines
    now-line m inside = let low = now-low m inside in let own = is.walks.lines in omega (arith, low, own)

    -- the windows of the line, as they were said
    now-windows : (m : ℕ) → m < length (live_of config said).courses →
        slice_index_or (windows_in walk.walk.way.lines) m [] ≡ windows_by config.ticks (course_at (live_of config said) m)
    now-windows m inside = is.walks.windows m (now-low m inside)

    -- a line has other windows, and it is another course
    module _ (saying : Saying) (well : IsWellSaid config (said ++ saying ∷ [])) (m : ℕ) (course : LineCourse)
        (windows : List Window) (now : Walking)
      where
        line-answered : m < length (live_of config said).courses →
            ((leg : Leg) → counts_said (walk_plan leg) (live_counts leg said) saying ≡ live_counts leg said) →
            live_after (live_of config said) saying
            ≡ record (live_of config said) { courses = slice_set (live_of config said).courses m course } →
            windows ≡ windows_by config.ticks course →
            ((leg : Leg) → LiveStands leg walk.walk → LiveStands leg now) →
            walking_counts now ≡ walking_counts walk.walk →
            windows_in now.way.lines ≡ slice_set (windows_in walk.walk.way.lines) m windows →
            IsAnswered (record walk { walk = now }) asked config (said ++ saying ∷ [])
        line-answered inside none after same stands counts set =
            let live : Live = live_of config said in
            let whole = live-one config said saying ∙ after in
            let size = length-map walk.walk.way.lines windows_of in
            let low = now-line m inside in
            record {
              network = is.network;
              well = well;
              walks = walks-by config (said ++ saying ∷ []) now is.network well
                  (λ leg more. stands leg (is.walks.stands leg (leg-less config said (saying ∷ []) leg well more)))
                  (λ leg more.
                  counts ∙ is.walks.counts leg (leg-less config said (saying ∷ []) leg well more)
                  ∙ sym (counts-one leg said saying ∙ none leg))
                  (λ n few.
                  ap (λ l. slice_index_or l n []) set
                  ∙ set-windows config.ticks config.lines m (windows_in walk.walk.way.lines) live.courses windows course
                  (omega (arith, size, low)) inside same is.walks.windows n few
                  ∙ sym (ap (λ (l : Live). windows_by config.ticks (course_at l n)) whole));
              lines = is.lines;
              items = is.items ∙ sym (ap (λ (l : Live). length l.items) whole);
              waiting = λ leg more.
                  is.waiting leg (leg-less config said (saying ∷ []) leg well more)
                  ∙ sym (ap (λ (l : Live). waiting_at leg l.passed) whole);
              tells = is.tells;
            }

    -- ---- a cut
    module _ (m : ℕ) (well : IsWellSaid config (said ++ cuts m ∷ [])) where
      pub cut-line : m < length walk.walk.way.lines
      cut-line = now-line m (can-one config said (cuts m) well).0.line

      pub cut-few : length (slice_index_or (windows_in walk.walk.way.lines) m []) < 256
      cut-few =
          let can = can-one config said (cuts m) well in
          let course : LineCourse = course_at (live_of config said) m in
          subst (λ l. length l < 256)
          (sym (now-windows m can.0.line ∙ uncut-windows config.ticks course can.1.uncut)) can.1.few

      pub cut-after : last_end (slice_index_or (windows_in walk.walk.way.lines) m []) ≤ (walking_counts walk.walk).ticks
      cut-after =
          let can = can-one config said (cuts m) well in
          let live : Live = live_of config said in
          let course : LineCourse = course_at live m in
          let low : last_end (slice_index_or (windows_in walk.walk.way.lines) m []) ≤ live.passed =
          subst (λ l. last_end l ≤ live.passed)
          (sym (now-windows m can.0.line ∙ uncut-windows config.ticks course can.1.uncut))
          (over-end live.passed course.windows can.1.over) in
          let ticks = now-ticks in
          omega (arith, low, ticks)

      pub cut-left : (walking_counts walk.walk).ticks < walk.walk.way.source.total
      cut-left =
          let left = (can-one config said (cuts m) well).0.left in
          let ticks = now-ticks in
          let total = is.walks.total in
          omega (arith, left, ticks, total)

      pub cut-answered : (now : Walking) → ((leg : Leg) → LiveStands leg walk.walk → LiveStands leg now) →
          walking_counts now ≡ walking_counts walk.walk →
          windows_in now.way.lines ≡ slice_set (windows_in walk.walk.way.lines) m
          (opened_at (slice_index_or (windows_in walk.walk.way.lines) m []) (walking_counts walk.walk).ticks
          walk.walk.way.source.total) →
          IsAnswered (record walk { walk = now }) asked config (said ++ cuts m ∷ [])
      cut-answered now stands counts set =
          let can = can-one config said (cuts m) well in
          let live : Live = live_of config said in
          let own = slice_index_or (windows_in walk.walk.way.lines) m [] in
          line-answered (cuts m) well m (cut_at live.passed (course_at live m))
          (opened_at own (walking_counts walk.walk).ticks walk.walk.way.source.total) now can.0.line (λ leg. refl) refl
          (ap₂ (opened_at own) now-ticks is.walks.total
          ∙ cut-windows config.ticks live.passed (course_at live m) own can.1.uncut can.0.left
          (now-windows m can.0.line))
          stands counts set

    -- ---- a mend
    module _ (m : ℕ) (well : IsWellSaid config (said ++ mends m ∷ [])) where
      mend-open : IsOpen (live_of config said).passed (course_at (live_of config said) m).windows
          (course_at (live_of config said) m).cut
      mend-open =
          ((right-all config said (opened config) is.well.each (right-opened config is.network)).each m (uncut [])
          (can-one config said (mends m) well).0.line).open_

      pub mend-line : m < length walk.walk.way.lines
      mend-line = now-line m (can-one config said (mends m) well).0.line

      pub mend-cut : CanClose (slice_index_or (windows_in walk.walk.way.lines) m []) (walking_counts walk.walk).ticks
      mend-cut =
          let can = can-one config said (mends m) well in
          let live : Live = live_of config said in
          let course : LineCourse = course_at live m in
          let own = slice_index_or (windows_in walk.walk.way.lines) m [] in
          subst (CanClose own) (sym now-ticks)
          (can-mend config.ticks live.passed course.windows course.cut own can.1 mend-open can.0.left
          (now-windows m can.0.line))

      pub mend-answered : (now : Walking) → ((leg : Leg) → LiveStands leg walk.walk → LiveStands leg now) →
          walking_counts now ≡ walking_counts walk.walk →
          windows_in now.way.lines ≡ slice_set (windows_in walk.walk.way.lines) m
          (closed_at (slice_index_or (windows_in walk.walk.way.lines) m []) (walking_counts walk.walk).ticks) →
          IsAnswered (record walk { walk = now }) asked config (said ++ mends m ∷ [])
      mend-answered now stands counts set =
          let can = can-one config said (mends m) well in
          let live : Live = live_of config said in
          let course : LineCourse = course_at live m in
          let own = slice_index_or (windows_in walk.walk.way.lines) m [] in
          line-answered (mends m) well m (mended_at live.passed course) (closed_at own (walking_counts walk.walk).ticks) now
          can.0.line (λ leg. refl) refl
          (ap (closed_at own) now-ticks
          ∙ mend-windows config.ticks live.passed course.windows course.cut own can.1 mend-open can.0.left
          (now-windows m can.0.line))
          stands counts set

    -- ---- an item
    module _ (kind : ItemKind) (well : IsWellSaid config (said ++ lands kind ∷ [])) where
      land-next : (leg : Leg) → IsLegOf config (said ++ lands kind ∷ []) leg → IsNext leg (live_counts leg said) kind
      land-next leg more =
          let less = leg-less config said (lands kind ∷ []) leg well more in
          record {
            there = said-next config leg more.sound said kind well more.agrees;
            offers = agrees-offers config leg more.sound said is.well less.agrees;
            orders = agrees-orders config leg more.sound said is.well less.agrees;
          }

      land-counts : (leg : Leg) → IsLegOf config (said ++ lands kind ∷ []) leg →
          walking_counts walk.walk ≡ live_counts leg said
      land-counts leg more = is.walks.counts leg (leg-less config said (lands kind ∷ []) leg well more)

      land-due : (leg : Leg) → IsLegOf config (said ++ lands kind ∷ []) leg → IsDue leg (walking_counts walk.walk) kind
      land-due leg more =
          subst (λ s. IsDue leg s kind) (sym (land-counts leg more))
          (next-due leg (live_counts leg said) kind (land-next leg more))

      land-stands : (leg : Leg) → IsLegOf config (said ++ lands kind ∷ []) leg → LiveStands leg walk.walk
      land-stands leg more = is.walks.stands leg (leg-less config said (lands kind ∷ []) leg well more)

      land-own : IsLegOf config (said ++ lands kind ∷ []) (leg_said config (said ++ lands kind ∷ []))
      land-own = leg-own config (said ++ lands kind ∷ []) is.network well

      land-size : length (live_of config (said ++ lands kind ∷ [])).items ≡ walk.items + 1
      land-size =
          let live : Live = live_of config said in
          let whole = ap (λ (l : Live). length l.items) (live-one config said (lands kind)) in
          let sum = length-append live.items (item_at live.passed kind ∷ []) in
          let items = is.items in
          omega (arith, whole, sum, items)

      -- the number of items can be counted
      pub land-few : walk.items + 1 < 2 ^ 32
      land-few =
          let few = (said-sound config (said ++ lands kind ∷ []) is.network well).few in
          let size = land-size in
          omega (arith, few, size)

      pub land-answered : (now : Walking) (items : ℕ) (answer : Moved) → items ≡ walk.items + 1 →
          ((leg : Leg) → LiveStands leg walk.walk → IsDue leg (walking_counts walk.walk) kind →
          LiveMakes leg (landing_of (is_client kind)) walk.walk now answer) →
          windows_in now.way.lines ≡ windows_in walk.walk.way.lines →
          IsAnswered (record walk { walk = now; items = items }) asked config (said ++ lands kind ∷ [])
      land-answered now items answer one makes same = record {
        network = is.network;
        well = well;
        walks = walks-by config (said ++ lands kind ∷ []) now is.network well
            (λ leg more. (makes leg (land-stands leg more) (land-due leg more)).stands)
            (λ leg more.
            (makes leg (land-stands leg more) (land-due leg more)).counts
            ∙ ap (λ s. counts_after leg s (landing_of (is_client kind))) (land-counts leg more)
            ∙ counts-are leg (live_counts leg said) kind ∙ sym (counts-one leg said (lands kind)))
            (λ m low.
            ap (λ l. slice_index_or l m []) same ∙ is.walks.windows m low
            ∙ sym (ap (λ (l : Live). windows_by config.ticks (course_at l m)) (live-one config said (lands kind))));
        lines = is.lines;
        items = one ∙ sym land-size;
        waiting = λ leg more.
            is.waiting leg (leg-less config said (lands kind ∷ []) leg well more)
            ∙ sym (ap (λ (l : Live). waiting_at leg l.passed) (live-one config said (lands kind)));
        tells = is.tells;
      }

      land-refusal : (result : Option Refusal) →
          ((leg : Leg) → LiveStands leg walk.walk → IsDue leg (walking_counts walk.walk) kind →
          result ≡ refusal_in_event leg (walking_counts walk.walk) (landing_of (is_client kind))) →
          refusal_at (leg_said config (said ++ lands kind ∷ []))
          (next_item (live_counts (leg_said config (said ++ lands kind ∷ [])) said) kind) ≡ result
      land-refusal result refused =
          let leg : Leg = leg_said config (said ++ lands kind ∷ []) in
          sym (refused leg (land-stands leg land-own) (land-due leg land-own)
          ∙ ap (λ s. refusal_in_event leg s (landing_of (is_client kind))) (land-counts leg land-own)
          ∙ refusal-is leg (live_counts leg said) kind (land-next leg land-own))

      -- what is answered
      pub land-refused : (why : Refusal) →
          ((leg : Leg) → LiveStands leg walk.walk → IsDue leg (walking_counts walk.walk) kind →
          Some why ≡ refusal_in_event leg (walking_counts walk.walk) (landing_of (is_client kind))) →
          refused_text walk.items why ≡ answer_to asked config said (lands kind)
      land-refused why refused =
          let leg : Leg = leg_said config (said ++ lands kind ∷ []) in
          let less = leg-less config said (lands kind ∷ []) leg well land-own in
          refused-text asked leg (live_counts leg said) kind walk.items why
          (is.items ∙ sym (agrees-number config leg less.sound said is.well less.agrees))
          (land-refusal (Some why) refused)
          ∙ sym (ap (answers_text (telling asked leg)) (answer-one leg said (lands kind)))

      pub land-accepted :
          ((leg : Leg) → LiveStands leg walk.walk → IsDue leg (walking_counts walk.walk) kind →
          None ≡ refusal_in_event leg (walking_counts walk.walk) (landing_of (is_client kind))) →
          answer_to asked config said (lands kind) ≡ []
      land-accepted refused =
          let leg : Leg = leg_said config (said ++ lands kind ∷ []) in
          ap (answers_text (telling asked leg)) (answer-one leg said (lands kind))
          ∙ accepted-text asked leg (live_counts leg said) kind (land-refusal None refused)

    -- ---- ticks that pass
    module _ (k : ℕ) (well : IsWellSaid config (said ++ passes k ∷ [])) where
      pub pass-few : (live_of config said).passed + k ≤ config.ticks
      pass-few = (can-one config said (passes k) well).left

      pub pass-own : IsLegOf config (said ++ passes k ∷ []) (leg_said config (said ++ passes k ∷ []))
      pass-own = leg-own config (said ++ passes k ∷ []) is.network well

      -- a round can be made
      pub can-round : (leg : Leg) (until : ℕ) (now : Walking) → until ≡ (live_of config said).passed + k →
          IsLegOf config (said ++ passes k ∷ []) leg → PassesIn leg (live_counts leg said) until now →
          windows_in now.way.lines ≡ windows_in walk.walk.way.lines → (walking_counts now).ticks < until →
          CanRound leg now
      can-round leg until now ends more passing same low = record {
        stands = passing.stands;
        free = pass-free-at config said k leg well more until ends (walking_counts now) passing.rounds passing.are low;
        agrees = agrees-passing config said k (walking_counts now).ticks leg (windows_in now.way.lines) is.network well more
            (λ m few. ap (λ l. slice_index_or l m []) same ∙ is.walks.windows m few) (omega (arith, low, ends));
      }

      pub can-pass : (until : ℕ) → until ≡ (walking_counts walk.walk).ticks + k → CanPass walk asked config said k until
      can-pass until ends = record { is = is; well = well; ends = ends ∙ ap (λ n. n + k) now-ticks }

      pub pass-total : (leg : Leg) (until : ℕ) (now : Walking) → until ≡ (live_of config said).passed + k →
          IsLegOf config (said ++ passes k ∷ []) leg → PassesIn leg (live_counts leg said) until now →
          until ≤ now.way.source.total
      pass-total leg until now ends more passing =
          let left = pass-left config leg more.sound said k 0 well more.agrees in
          let total = passing.stands.stands.total in
          omega (arith, ends, left, total)

      -- the text that is left at first is the whole
      pub pass-rest : (until : ℕ) → until ≡ (live_of config said).passed + k →
          rest_text asked (leg_said config (said ++ passes k ∷ [])) until
          (live_counts (leg_said config (said ++ passes k ∷ [])) said)
          ≡ rounds_text asked config said k
      pass-rest until ends =
          let leg : Leg = leg_said config (said ++ passes k ∷ []) in
          let ticks = leg-ticks config said leg is.well (leg-less config said (passes k ∷ []) leg well pass-own) in
          let e : until ≡ (live_counts leg said).ticks + k = omega (arith, ends, ticks) in
          ap (λ n. rest_text asked leg n (live_counts leg said)) e

      -- when they have passed
      pub pass-walks : (until : ℕ) (now : Walking) → until ≡ (live_of config said).passed + k →
          ((leg : Leg) → IsLegOf config (said ++ passes k ∷ []) leg → PassesIn leg (live_counts leg said) until now) →
          windows_in now.way.lines ≡ windows_in walk.walk.way.lines → until ≤ (walking_counts now).ticks →
          WalksAs config (said ++ passes k ∷ []) now
      pass-walks until now ends passing same over =
          walks-by config (said ++ passes k ∷ []) now is.network well
          (λ leg more. (passing leg more).stands)
          (λ leg more.
          let less = leg-less config said (passes k ∷ []) leg well more in
          let ticks = leg-ticks config said leg is.well less in
          let e : until ≡ (live_counts leg said).ticks + k = omega (arith, ends, ticks) in
          passes-over config said k leg well more until ends now (passing leg more) over
          ∙ ap (λ n. pass_end leg n (live_counts leg said)) e
          ∙ sym (counts-one leg said (passes k)))
          (λ m low.
          ap (λ l. slice_index_or l m []) same ∙ is.walks.windows m low
          ∙ sym (ap (λ (l : Live). windows_by config.ticks (course_at l m)) (live-one config said (passes k))))

      -- how many frames wait by then
      pub pass-waits : (now : Walking) (waiting : ℕ) → WalksAs config (said ++ passes k ∷ []) now →
          ((leg : Leg) → LiveStands leg now → waiting ≡ waiting_in leg (walking_counts now)) →
          (leg : Leg) → IsLegOf config (said ++ passes k ∷ []) leg →
          waiting ≡ waiting_at leg (live_of config (said ++ passes k ∷ [])).passed
      pass-waits now waiting walks waits leg more =
          waits leg (walks.stands leg more) ∙ ap (waiting_in leg) (walks.counts leg more)
          ∙ waits-passed config leg more.sound said k well more.agrees
          ∙ ap (waiting_at leg) (leg-ticks config (said ++ passes k ∷ []) leg well more)

      pub pass-answered : (now : AnsweredWalk) (waiting : ℕ) → IsOtherwise walk now →
          WalksAs config (said ++ passes k ∷ []) now.walk →
          ((leg : Leg) → LiveStands leg now.walk → waiting ≡ waiting_in leg (walking_counts now.walk)) →
          IsAnswered (record now { waiting = waiting }) asked config (said ++ passes k ∷ [])
      pass-answered now waiting same walks waits = record {
        network = is.network;
        well = well;
        walks = walks;
        lines = same.lines ∙ is.lines;
        items = same.items ∙ is.items ∙ sym (ap (λ (l : Live). length l.items) (live-one config said (passes k)));
        waiting = pass-waits now.walk waiting walks waits;
        tells = same.tells ∙ is.tells;
      }

      -- what is told behind the rounds
      abbrev pub pass_rest : ℕ → List ℕ
      pass_rest until =
          let leg : Leg = leg_said config (said ++ passes k ∷ []) in
          queue_lines asked (waiting_at leg (live_counts leg said).ticks) (waiting_at leg until) ++ now_text until

      pub pass-whole : (until : ℕ) → until ≡ (live_of config said).passed + k →
          rounds_text asked config said k ++ pass_rest until ≡ answer_to asked config said (passes k)
      pass-whole until ends =
          let leg : Leg = leg_said config (said ++ passes k ∷ []) in
          let less = leg-less config said (passes k ∷ []) leg well pass-own in
          let ticks = leg-ticks config said leg is.well less in
          let more = pass-made config leg less.sound said k well pass-own.agrees in
          let said_ticks = ap (λ s. s.ticks) (counts-one leg said (passes k)) in
          pass-text asked leg (live_counts leg said) k until (omega (arith, ends, ticks, more, said_ticks))
          ∙ sym (ap (answers_text (telling asked leg)) (answer-one leg said (passes k)))

      -- by what is kept
      pub pass-answer : (now : AnsweredWalk) (until waiting : ℕ) → until ≡ (live_of config said).passed + k →
          IsOtherwise walk now → WalksAs config (said ++ passes k ∷ []) now.walk →
          ((leg : Leg) → LiveStands leg now.walk → waiting ≡ waiting_in leg (walking_counts now.walk)) →
          rounds_text asked config said k ++ (queue_lines now.tells now.waiting waiting ++ now_text until)
          ≡ answer_to asked config said (passes k)
      pass-answer now until waiting ends same walks waits =
          let leg : Leg = leg_said config (said ++ passes k ∷ []) in
          let less = leg-less config said (passes k ∷ []) leg well pass-own in
          let ticks = leg-ticks config said leg is.well less in
          let end : (live_of config (said ++ passes k ∷ [])).passed ≡ until =
          ap (λ (l : Live). l.passed) (live-one config said (passes k)) ∙ sym ends in
          ap (λ a. rounds_text asked config said k ++ (queue_lines a now.waiting waiting ++ now_text until))
          (same.tells ∙ is.tells)
          ∙ ap₂ (λ a b. rounds_text asked config said k ++ (queue_lines asked a b ++ now_text until))
          (same.waiting ∙ is.waiting leg less ∙ ap (waiting_at leg) (sym ticks))
          (pass-waits now.walk waiting walks waits leg pass-own ∙ ap (waiting_at leg) end)
          ∙ pass-whole until ends

-- ---- Nothing is answered where nothing is said, or a line is cut or mended.
pub none_answered : (asked : Asked) (leg : Leg) (said : List Saying) → answered_since asked leg said [] ≡ []
unfolding live_answers_from
none_answered asked leg said = refl

pub cut_answered : (asked : Asked) (leg : Leg) (said : List Saying) (m : ℕ) →
    answered_since asked leg said (cuts m ∷ []) ≡ []
unfolding live_answers_from
cut_answered asked leg said m = refl

pub mend_answered : (asked : Asked) (leg : Leg) (said : List Saying) (m : ℕ) →
    answered_since asked leg said (mends m ∷ []) ≡ []
unfolding live_answers_from
mend_answered asked leg said m = refl
