-- A conversation in the legs that agree with it: its counts, its rounds, what has landed and what is answered.
use Rattle.std.proofs.Common.{◌≡◌, ℕ, ◌+◌, List, [], ◌∷◌, ◌++◌, refl, sym, ◌∙◌, ap, arith, append_assoc, ◌<◌, ◌≤◌}
use Rattle.std.proofs.Common.{◌==◌, nat_lt, false, inl, inr, length, slice_set, Some, None, subst, zero, suc, ◌-◌}
use Rattle.std.proofs.Common.{take, slice_get, ap₂, length-append}
use Rattle.law_model.specs.Common.{Counts, Leg, Plan, DueCommand, DueFrame, bound, carries_from, offers_of, orders_of}
use Rattle.law_model.specs.Common.{run, step, IsNetwork, IsSound, begin, due_of, dues_of, held, rows_of, segments_on}
use Rattle.law_model.specs.Common.{delineate_within, hunt_within, steps_in, walked}
use Rattle.law_walk.specs.Common.{walk_plan, IsWalked, delivered_of, landed_items, numbered, refusals_among, report_of}
use Rattle.law_walk.specs.Common.{totals_of}
use Rattle.std.proofs.lemmas.Grind.{flat_map-append}
use Rattle.law_live.specs.Common.{answer_text, answers_text, Telling, Saying, answers_from, answers_to, counts_from}
use Rattle.law_live.specs.Common.{counts_said, live_from, Live, live_after, rounds_from, Agrees, CanSay, CanSayAll}
use Rattle.law_live.specs.Common.{LineCourse, closed, course_at, cut_at, cuts, lands, leg_by, mended_at, mends, passes}
use Rattle.law_live.specs.Common.{uncut, windows_by, with_course, rounds_until, Rises, times_told, IsWellSaid}
use Rattle.law_live.specs.Common.{after_rounds, answers, events_by, frames_got, item_at, items_refused, landing_of}
use Rattle.law_live.specs.Common.{leg_said, live_counts, live_of, live_round, opened, rounds_for, rounds_of}
use Rattle.law_live.specs.Common.{steps_made, report_said}
use Rattle.std.proofs.lemmas.Bool.{cases_Bool, eqb-true, eqb-false}
use Rattle.std.proofs.lemmas.List.{append-nil, get_or-map, get_or-set_other, get_or-set_same, length-map, length-set}
use Rattle.std.proofs.lemmas.List.Elements.{All-nil}
use Rattle.law_model.specs.declared.script_types.Config.{Config}
use Rattle.law_model.specs.declared.script_types.Item.{Item}
use Rattle.law_model.specs.declared.window_types.Window.{Window}
use Rattle.law_model.specs.members.Damage.{carried}
use Rattle.law_live.proofs.ConversationCountAndScriptLaws.{later-less, same-counts, Stands, free-passed, item-next}
use Rattle.law_live.proofs.ConversationCountAndScriptLaws.{settles, stands-all, stands-begun}
use Rattle.law_live.proofs.WellSaidLegAndWindowLaws.{closed-below, said-sound}
use Rattle.std.specs.List.{range_with_len}
use Rattle.std.proofs.Math.Seq.{take-append_seam}
use Rattle.law_model.specs.declared.walk_events.Event.{Event}
use Rattle.law_model.specs.declared.walk_events.Event.TheVariants.{Tick}
use Rattle.law_model.specs.declared.script_types.ItemKind.{ItemKind}
use Rattle.law_progress.specs.Progress.{Fits, IsPlan, made}
use Rattle.law_progress.proofs.RoundProgressAndDrainLaws.{begin-fits, reached-fits, Leads, Leads-then, run-none}
use Rattle.law_walk.proofs.WalkPlanAndPoppedCellLaws.{has-plan, sound-walks}
use Rattle.text_report.specs.ReportLines.{got_texts, refused_texts, total_text}
use Rattle.law_walk.proofs.LandedItemRefusalAndTotalLaws.{command-dues, frame-dues}
use Rattle.law_live.proofs.LiveRoundAndLandingLaws.{Settled, goes-rounds, fits-rounds, round-less, round-turn}
use Rattle.law_live.proofs.LiveRoundAndLandingLaws.{settled-rounds}
use Rattle.law_live.proofs.AnsweredFrameAndRefusalLaws.{all-landed, dues-size, got-all, refused-all, steps-all}
use Rattle.law_live.proofs.AnsweredFrameAndRefusalLaws.{times-all}

-- ---- What is said later goes on from what was said.
pub live-more : (live : Live) (said more : List Saying) →
    live_from live (said ++ more) ≡ live_from (live_from live said) more
unfolding live_from
live-more live [] more = refl
live-more live (saying ∷ said) more = live-more (live_after live saying) said more

pub counts-more : (plan : Plan) (s : Counts) (said more : List Saying) →
    counts_from plan s (said ++ more) ≡ counts_from plan (counts_from plan s said) more
unfolding counts_from
counts-more plan s [] more = refl
counts-more plan s (saying ∷ said) more = counts-more plan (counts_said plan s saying) said more

pub rounds-more : (plan : Plan) (s : Counts) (said more : List Saying) →
    rounds_from plan s (said ++ more) ≡ rounds_from plan s said + rounds_from plan (counts_from plan s said) more
unfolding rounds_from counts_from
rounds-more plan s [] more = omega arith
rounds-more plan s (saying ∷ said) more =
    let rest = rounds-more plan (counts_said plan s saying) said more in omega (arith, rest)

pub answers-more : (leg : Leg) (s : Counts) (said more : List Saying) →
    answers_from leg s (said ++ more)
    ≡ answers_from leg s said ++ answers_from leg (counts_from (walk_plan leg) s said) more
unfolding answers_from counts_from
answers-more leg s [] more = refl
answers-more leg s (saying ∷ said) more =
    let next : Counts = counts_said (walk_plan leg) s saying in
    ap (λ l. answers_to leg s saying ++ l) (answers-more leg next said more)
    ∙ sym (append_assoc (answers_to leg s saying) (answers_from leg next said)
    (answers_from leg (counts_from (walk_plan leg) next said) more))

pub text-more : (leg : Leg) (s : Counts) (said more : List Saying) (tells : Telling) →
    answers_text tells (answers_from leg s (said ++ more))
    ≡ answers_text tells (answers_from leg s said)
    ++ answers_text tells (answers_from leg (counts_from (walk_plan leg) s said) more)
text-more leg s said more tells =
    ap (answers_text tells) (answers-more leg s said more)
    ∙ flat_map-append (answer_text tells) (answers_from leg s said)
    (answers_from leg (counts_from (walk_plan leg) s said) more)

-- ---- Which legs agree: that of what was said does, and one that agrees with more agrees with less.
pub agrees-own : (config : Config) (live : Live) → Agrees config live (leg_by config live)
agrees-own config live = record {
  network = refl;
  lines = length-map live.courses (windows_by live.passed);
  windows = λ m inside t low.
      ap (λ windows. carried windows t)
      (get_or-map (windows_by live.passed) live.courses m (uncut []) [] inside);
  items = record {
    later = [];
    are = sym (append-nil live.items);
    late = All-nil (λ (item : Item). live.passed ≤ item.due);
  };
  quiet = refl;
}

-- ---- less
-- a cut and a mend leave the windows of each line as they are so far
cut-now : (passed : ℕ) (windows : List Window) → closed passed windows (Some passed) ≡ windows
cut-now passed windows = let e : nat_lt passed passed ≡ false = grind arith in rw e refl

cut-same : (passed : ℕ) (course : LineCourse) → course.cut ≡ None →
    windows_by passed (cut_at passed course) ≡ windows_by passed course
cut-same passed course none =
    cut-now passed course.windows ∙ sym (ap (closed passed course.windows) none)

with-same : (live : Live) (m line : ℕ) (course : LineCourse) → m < length live.courses →
    windows_by live.passed course ≡ windows_by live.passed (course_at live m) →
    windows_by live.passed (course_at (with_course live m course) line) ≡ windows_by live.passed (course_at live line)
with-same live m line course inside same = elim (cases_Bool (line == m)) [
  | inl e ↦
      let here : line ≡ m = eqb-true line m e in
      ap (λ n. windows_by live.passed (course_at (with_course live m course) n)) here
      ∙ ap (windows_by live.passed) (get_or-set_same live.courses m course (uncut []) inside)
      ∙ same ∙ ap (λ n. windows_by live.passed (course_at live n)) (sym here)
  | inr e ↦
      ap (windows_by live.passed) (get_or-set_other live.courses m line course (uncut []) (eqb-false line m e))
]

agrees-with : (config : Config) (live : Live) (leg : Leg) (m : ℕ) (course : LineCourse) → m < length live.courses →
    windows_by live.passed course ≡ windows_by live.passed (course_at live m) →
    Agrees config (with_course live m course) leg → Agrees config live leg
agrees-with config live leg m course inside same agrees =
    let size : length (slice_set live.courses m course) ≡ length live.courses = length-set live.courses m course in
    record {
      network = agrees.network;
      lines = agrees.lines ∙ size;
      windows = λ line low t early.
          agrees.windows line (subst (λ n. line < n) (sym size) low) t early
          ∙ ap (λ windows. carried windows t) (with-same live m line course inside same);
      items = record { later = agrees.items.later; are = agrees.items.are; late = agrees.items.late };
      quiet = agrees.quiet;
    }

pub agrees-less : (config : Config) (live : Live) (saying : Saying) (leg : Leg) → CanSay config.ticks live saying →
    Agrees config (live_after live saying) leg → Agrees config live leg
agrees-less config live (lands kind) leg can agrees = record {
  network = agrees.network;
  lines = agrees.lines;
  windows = agrees.windows;
  items = later-less live (lands kind) leg.items agrees.items;
  quiet = agrees.quiet;
}
agrees-less config live (cuts m) leg can agrees =
    agrees-with config live leg m (cut_at live.passed (course_at live m)) can.0.line
    (cut-same live.passed (course_at live m) can.1.uncut) agrees
agrees-less config live (mends m) leg can agrees =
    agrees-with config live leg m (mended_at live.passed (course_at live m)) can.0.line refl agrees
agrees-less config live (passes k) leg can agrees = record {
  network = agrees.network;
  lines = agrees.lines;
  windows = λ m inside t low.
      agrees.windows m inside t (omega (arith, low))
      ∙ closed-below live.passed (live.passed + k) (course_at live m).windows (course_at live m).cut (omega arith) t low;
  items = later-less live (passes k) leg.items agrees.items;
  quiet = agrees.quiet;
}

pub agrees-all : (config : Config) (said : List Saying) (live : Live) (leg : Leg) →
    CanSayAll config.ticks live said → Agrees config (live_from live said) leg → Agrees config live leg
unfolding CanSayAll live_from
agrees-all config [] live leg can agrees = agrees
agrees-all config (saying ∷ said) live leg can agrees =
    agrees-less config live saying leg can.0 (agrees-all config said (live_after live saying) leg can.1 agrees)

-- ---- what may be said, one list behind the other
pub can-front : (ticks : ℕ) (said more : List Saying) (live : Live) → CanSayAll ticks live (said ++ more) →
    CanSayAll ticks live said
unfolding CanSayAll
can-front ticks [] more live can = tt
can-front ticks (saying ∷ said) more live can =
    (can.0, can-front ticks said more (live_after live saying) can.1)

pub can-back : (ticks : ℕ) (said more : List Saying) (live : Live) → CanSayAll ticks live (said ++ more) →
    CanSayAll ticks (live_from live said) more
unfolding CanSayAll live_from
can-back ticks [] more live can = can
can-back ticks (saying ∷ said) more live can = can-back ticks said more (live_after live saying) can.1

-- ---- The laws of a conversation, of each leg that agrees with it and of its own.
-- ---- a walk
leads-one : (plan : Plan) (s : Counts) (event : Event) → Leads plan s (step plan s event).counts
unfolding run
leads-one plan s event = (event ∷ [], refl)

leads-none : (plan : Plan) (s : Counts) → Leads plan s s
leads-none plan s = ([], sym (run-none plan s))

leads-rounds : (n : ℕ) (plan : Plan) (s : Counts) → Leads plan s (after_rounds n plan s)
unfolding after_rounds
leads-rounds zero plan s = leads-none plan s
leads-rounds (suc n) plan s =
    Leads-then plan s (live_round plan s) (after_rounds n plan (live_round plan s))
    (Tick ∷ carries_from 0 plan.paths, refl) (leads-rounds n plan (live_round plan s))

leads-said : (plan : Plan) (s : Counts) (saying : Saying) → Leads plan s (counts_said plan s saying)
leads-said plan s (lands kind) = leads-one plan s (landing_of kind)
leads-said plan s (cuts m) = leads-none plan s
leads-said plan s (mends m) = leads-none plan s
leads-said plan s (passes k) = leads-rounds (rounds_for k plan s) plan s

leads-all : (said : List Saying) (plan : Plan) (s : Counts) → Leads plan s (counts_from plan s said)
unfolding counts_from
leads-all [] plan s = leads-none plan s
leads-all (saying ∷ said) plan s =
    Leads-then plan s (counts_said plan s saying) (counts_from plan (counts_said plan s saying) said)
    (leads-said plan s saying) (leads-all said plan (counts_said plan s saying))

pub said-walked : (leg : Leg) (said : List Saying) → IsWalked leg (live_counts leg said)
said-walked leg said = leads-all said (walk_plan leg) (begin (walk_plan leg))

-- ---- in a leg that agrees
module _ (config : Config) (leg : Leg) (sound : IsSound leg) where
  plan_is : IsPlan (walk_plan leg)
  plan_is = has-plan leg (sound-walks leg sound)

  pub can-leg : (said : List Saying) → leg.config ≡ record config { windows = leg.config.windows } →
      IsWellSaid config said → CanSayAll leg.config.ticks (opened config) said
  can-leg said network well =
      let ticks : config.ticks ≡ leg.config.ticks = sym (ap (λ (c : Config). c.ticks) network) in
      subst (λ n. CanSayAll n (opened config) said) ticks well.each

  pub agrees-stands : (said : List Saying) → IsWellSaid config said → Agrees config (live_of config said) leg →
      Stands (live_of config said) (live_counts leg said)
  agrees-stands said well agrees =
      stands-all leg plan_is.slow plan_is.fast plan_is.slip plan_is.is said (opened config) (begin (walk_plan leg))
      (can-leg said agrees.network well) (stands-begun config leg)
      (begin-fits plan_is.slow plan_is.fast plan_is.slip (walk_plan leg) plan_is.is) agrees.items

  pub agrees-refused : (said : List Saying) → IsWellSaid config said → Agrees config (live_of config said) leg →
      items_refused (answers leg said) ≡ refusals_among leg (numbered 0 (live_of config said).items)
  unfolding numbered
  agrees-refused said well agrees =
      refused-all leg plan_is.slow plan_is.fast plan_is.slip plan_is.is said (opened config) (begin (walk_plan leg))
      (can-leg said agrees.network well) (stands-begun config leg)
      (begin-fits plan_is.slow plan_is.fast plan_is.slip (walk_plan leg) plan_is.is) agrees.items

  -- before one saying more
  module _ (said : List Saying) (saying : Saying) (well : IsWellSaid config (said ++ saying ∷ []))
      (agrees : Agrees config (live_of config (said ++ saying ∷ [])) leg)
    where
      one-less : IsWellSaid config said
      one-less =
          let sum = length-append said (saying ∷ []) in
          let few = well.few in
          record { each = can-front config.ticks said (saying ∷ []) (opened config) well.each; few = omega (arith, sum, few) }

      agrees-one : Agrees config (live_after (live_of config said) saying) leg
      unfolding live_from
      agrees-one = subst (λ live. Agrees config live leg) (live-more (opened config) said (saying ∷ [])) agrees

      one-can : CanSay config.ticks (live_of config said) saying
      unfolding CanSayAll
      one-can = (can-back config.ticks said (saying ∷ []) (opened config) well.each).0

      stood : Stands (live_of config said) (live_counts leg said)
      unfolding CanSayAll
      stood = agrees-stands said one-less
          (agrees-less config (live_of config said) saying leg
          (can-back config.ticks said (saying ∷ []) (opened config) well.each).0 agrees-one)

  pub pass-made : (said : List Saying) (k : ℕ) → IsWellSaid config (said ++ passes k ∷ []) →
      Agrees config (live_of config (said ++ passes k ∷ [])) leg →
      (live_counts leg (said ++ passes k ∷ [])).ticks ≡ (live_counts leg said).ticks + k
  unfolding live_from
  pass-made said k well agrees =
      (agrees-stands (said ++ passes k ∷ []) well agrees).ticks
      ∙ ap (λ (live : Live). live.passed) (live-more (opened config) said (passes k ∷ []))
      ∙ ap (λ n. n + k) (sym (stood said (passes k) well agrees).ticks)

  pub said-next : (said : List Saying) (kind : ItemKind) → IsWellSaid config (said ++ lands kind ∷ []) →
      Agrees config (live_of config (said ++ lands kind ∷ [])) leg →
      slice_get leg.items ((live_counts leg said).frames + (live_counts leg said).commands)
      ≡ Some (item_at (live_counts leg said).ticks kind)
  said-next said kind well agrees =
      let live : Live = live_of config said in
      let stands = stood said (lands kind) well agrees in
      let sizes = dues-size (dues_of live.items) in
      let size = length-map live.items (λ (item : Item). due_of item.due item.kind) in
      let frames = stands.frames in
      let orders = stands.commands in
      let number : (live_counts leg said).frames + (live_counts leg said).commands ≡ length live.items =
      omega (arith, sizes, size, frames, orders) in
      ap (slice_get leg.items) number
      ∙ item-next leg live kind (agrees-one said (lands kind) well agrees).items
      ∙ ap (λ t. Some (item_at t kind)) (sym stands.ticks)

  pub pass-free : (said : List Saying) (k n : ℕ) → IsWellSaid config (said ++ passes k ∷ []) →
      Agrees config (live_of config (said ++ passes k ∷ [])) leg →
      (after_rounds n (walk_plan leg) (live_counts leg said)).ticks < (live_of config said).passed + k →
      held (after_rounds n (walk_plan leg) (live_counts leg said)).ticks
      (after_rounds n (walk_plan leg) (live_counts leg said)).frames
      (after_rounds n (walk_plan leg) (live_counts leg said)).commands 0 (walk_plan leg).items ≡ None
  pass-free said k n well agrees left =
      free-passed leg (live_of config said) (live_counts leg said) k n (stood said (passes k) well agrees)
      (agrees-one said (passes k) well agrees).items left

  -- ---- a round of a pass
  module _ (said : List Saying) (k n : ℕ) (well : IsWellSaid config (said ++ passes k ∷ []))
      (agrees : Agrees config (live_of config (said ++ passes k ∷ [])) leg)
    where
      gone-fits : Fits (walk_plan leg) (after_rounds n (walk_plan leg) (live_counts leg said))
      gone-fits = fits-rounds plan_is.slow plan_is.fast plan_is.slip (walk_plan leg) plan_is.is n (live_counts leg said)
          (reached-fits (walk_plan leg) (live_counts leg said) plan_is (said-walked leg said))

      gone-settled : Settled (walk_plan leg) (live_of config said).passed ((live_of config said).passed + k)
          (after_rounds n (walk_plan leg) (live_counts leg said))
      gone-settled =
          let live : Live = live_of config said in
          let more = (agrees-one said (passes k) well agrees).items in
          settled-rounds n (walk_plan leg) live.passed (live.passed + k) (live_counts leg said)
          (settles leg live (live.passed + k) (live_counts leg said) (stood said (passes k) well agrees) more.later
          more.are more.late)

      gone-low : (live_of config said).passed ≤ (after_rounds n (walk_plan leg) (live_counts leg said)).ticks
      gone-low =
          let up = (goes-rounds n (walk_plan leg) (live_counts leg said)).ticks in
          let ticks = (stood said (passes k) well agrees).ticks in
          omega (arith, up, ticks)

      gone-few : (live_of config said).passed + k ≤ leg.config.ticks
      gone-few =
          let left = (one-can said (passes k) well agrees).left in
          let same : leg.config.ticks ≡ config.ticks = ap (λ (c : Config). c.ticks) agrees.network in
          omega (arith, left, same)

      pub pass-turn : (after_rounds n (walk_plan leg) (live_counts leg said)).ticks < (live_of config said).passed + k →
          rounds_until (bound (walk_plan leg)) (walk_plan leg) ((live_of config said).passed + k)
          (after_rounds n (walk_plan leg) (live_counts leg said))
          ≡ suc (rounds_until (bound (walk_plan leg)) (walk_plan leg) ((live_of config said).passed + k)
          (live_round (walk_plan leg) (after_rounds n (walk_plan leg) (live_counts leg said))))
      pass-turn left =
          round-turn plan_is.slow plan_is.fast plan_is.slip (walk_plan leg) plan_is.is (live_of config said).passed
          ((live_of config said).passed + k) (after_rounds n (walk_plan leg) (live_counts leg said)) gone-fits
          gone-settled gone-low left gone-few

      pub pass-less : (after_rounds n (walk_plan leg) (live_counts leg said)).ticks < (live_of config said).passed + k →
          bound (walk_plan leg)
          - made (live_round (walk_plan leg) (after_rounds n (walk_plan leg) (live_counts leg said)))
          < bound (walk_plan leg) - made (after_rounds n (walk_plan leg) (live_counts leg said))
      pass-less left =
          round-less plan_is.slow plan_is.fast plan_is.slip (walk_plan leg) plan_is.is (live_of config said).passed
          ((live_of config said).passed + k) (after_rounds n (walk_plan leg) (live_counts leg said)) gone-fits
          gone-settled gone-low left gone-few

      pub pass-left : (live_of config said).passed + k ≤ leg.config.ticks
      pass-left = gone-few

  -- ---- which items have landed
  pub agrees-number : (said : List Saying) → IsWellSaid config said → Agrees config (live_of config said) leg →
      (live_counts leg said).frames + (live_counts leg said).commands ≡ length (live_of config said).items
  agrees-number said well agrees =
      let live : Live = live_of config said in
      let stands = agrees-stands said well agrees in
      let sizes = dues-size (dues_of live.items) in
      let size = length-map live.items (λ (item : Item). due_of item.due item.kind) in
      let frames = stands.frames in
      let orders = stands.commands in
      omega (arith, sizes, size, frames, orders)

  agrees-taken : (said : List Saying) → IsWellSaid config said → Agrees config (live_of config said) leg →
      take ((live_counts leg said).frames + (live_counts leg said).commands) leg.items ≡ (live_of config said).items
  agrees-taken said well agrees =
      let live : Live = live_of config said in
      ap (λ n. take n leg.items) (agrees-number said well agrees)
      ∙ ap (take (length live.items)) agrees.items.are
      ∙ take-append_seam live.items agrees.items.later

  pub agrees-offers : (said : List Saying) → IsWellSaid config said → Agrees config (live_of config said) leg →
      length (offers_of (take ((live_counts leg said).frames + (live_counts leg said).commands) leg.items))
      ≡ (live_counts leg said).frames
  agrees-offers said well agrees =
      let live : Live = live_of config said in
      ap (λ items. length (offers_of items)) (agrees-taken said well agrees)
      ∙ sym (ap length (frame-dues live.items)
      ∙ length-map (offers_of live.items) (λ (offer : DueFrame). offer.due))
      ∙ sym (agrees-stands said well agrees).frames

  pub agrees-orders : (said : List Saying) → IsWellSaid config said → Agrees config (live_of config said) leg →
      length (orders_of (take ((live_counts leg said).frames + (live_counts leg said).commands) leg.items))
      ≡ (live_counts leg said).commands
  agrees-orders said well agrees =
      let live : Live = live_of config said in
      ap (λ items. length (orders_of items)) (agrees-taken said well agrees)
      ∙ sym (ap length (command-dues live.items)
      ∙ length-map (orders_of live.items) (λ (order : DueCommand). order.due))
      ∙ sym (agrees-stands said well agrees).commands

-- ---- what is told
none-delivered : (leg : Leg) → delivered_of leg 0 ≡ []
unfolding rows_of segments_on delineate_within hunt_within
none-delivered leg = refl

pub answers-got : (leg : Leg) (said : List Saying) →
    frames_got (answers leg said) ≡ delivered_of leg (live_counts leg said).rows
answers-got leg said =
    sym (ap (λ l. l ++ frames_got (answers leg said)) (none-delivered leg))
    ∙ got-all said leg (begin (walk_plan leg))

pub answers-steps : (leg : Leg) (said : List Saying) →
    steps_made (answers leg said) ≡ range_with_len 0 (steps_in (live_counts leg said).ticks)
answers-steps leg said = steps-all said leg (begin (walk_plan leg))

pub answers-times : (leg : Leg) (said more : List Saying) →
    Rises (live_counts leg said).ticks (live_counts leg (said ++ more)).ticks
    (times_told (answers_from leg (live_counts leg said) more))
answers-times leg said more =
    subst (λ (s : Counts). Rises (live_counts leg said).ticks s.ticks
    (times_told (answers_from leg (live_counts leg said) more)))
    (sym (counts-more (walk_plan leg) (begin (walk_plan leg)) said more))
    (times-all more leg (live_counts leg said))

-- ---- which legs agree
pub agrees-before : (config : Config) (said more : List Saying) (leg : Leg) →
    CanSayAll config.ticks (opened config) (said ++ more) → Agrees config (live_of config (said ++ more)) leg →
    Agrees config (live_of config said) leg
agrees-before config said more leg can agrees =
    agrees-all config more (live_of config said) leg (can-back config.ticks said more (opened config) can)
    (subst (λ live. Agrees config live leg) (live-more (opened config) said more) agrees)

pub agrees-begin : (config : Config) (said more : List Saying) →
    CanSayAll config.ticks (opened config) (said ++ more) →
    Agrees config (live_of config said) (leg_said config (said ++ more))
agrees-begin config said more can =
    agrees-before config said more (leg_said config (said ++ more)) can (agrees-own config (live_of config (said ++ more)))

pub well-front : (config : Config) (said more : List Saying) → IsWellSaid config (said ++ more) →
    IsWellSaid config said
well-front config said more well =
    let sum = length-append said more in
    let few = well.few in
    record { each = can-front config.ticks said more (opened config) well.each; few = omega (arith, sum, few) }

pub agrees-times : (config : Config) (leg : Leg) (sound : IsSound leg) (said more : List Saying) →
    IsWellSaid config (said ++ more) → Agrees config (live_of config (said ++ more)) leg →
    Rises (live_of config said).passed (live_of config (said ++ more)).passed
    (times_told (answers_from leg (live_counts leg said) more))
agrees-times config leg sound said more well agrees =
    let told : List ℕ = times_told (answers_from leg (live_counts leg said) more) in
    let before = agrees-stands config leg sound said (well-front config said more well)
    (agrees-before config said more leg well.each agrees) in
    let behind = agrees-stands config leg sound (said ++ more) well agrees in
    subst (λ n. Rises n (live_of config (said ++ more)).passed told) before.ticks
    (subst (λ n. Rises (live_counts leg said).ticks n told) behind.ticks (answers-times leg said more))

-- ---- the script
module _ (config : Config) (said : List Saying) (network : IsNetwork config) (well : IsWellSaid config said) where
  sound : IsSound (leg_said config said)
  sound = said-sound config said network well

  pub script-counts : walked (walk_plan (leg_said config said))
      (events_by (rounds_of (leg_said config said) said) (live_of config said))
      ≡ live_counts (leg_said config said) said
  script-counts = same-counts config said sound well.each

  pub script-landed : landed_items (leg_said config said) (live_counts (leg_said config said) said)
      ≡ numbered 0 (leg_said config said).items
  script-landed =
      let live : Live = live_of config said in
      let s : Counts = live_counts (leg_said config said) said in
      let stands = agrees-stands config (leg_said config said) sound said well (agrees-own config live) in
      let frames = stands.frames in
      let orders = stands.commands in
      all-landed live.items s.frames s.commands 0 (omega (arith, frames)) (omega (arith, orders))

  pub script-text : report_of (leg_said config said) (walked (walk_plan (leg_said config said))
      (events_by (rounds_of (leg_said config said) said) (live_of config said)))
      ≡ report_said (leg_said config said) said
  script-text =
      let leg : Leg = leg_said config said in
      let s : Counts = live_counts leg said in
      ap (report_of leg) script-counts
      ∙ ap₂ (λ frames refused. got_texts frames ++ refused_texts refused ++ total_text (totals_of leg s))
      (sym (answers-got leg said))
      (ap (refusals_among leg) script-landed
      ∙ sym (agrees-refused config leg sound said well (agrees-own config (live_of config said))))
