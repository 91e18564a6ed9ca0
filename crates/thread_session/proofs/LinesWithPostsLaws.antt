-- Lines that are served with their posts, from the opening of a session to its end.
use Rattle.std.proofs.Common.{◌≡◌, ℕ, zero, suc, ◌<◌, ◌≤◌, Bool, true, false, List, [], ◌∷◌, ◌++◌, map, length}
use Rattle.std.proofs.Common.{vec_len, slice_get, Some, refl, sym, ◌∙◌, ap, ap₂, subst, arith, Contains, All}
use Rattle.std.proofs.Common.{IsPermutation, eq-eqb, ne_eqb}
use Rattle.std.specs.List.{AllZip}
use Rattle.std.specs.Global.{Vec}
use Rattle.std.proofs.lemmas.List.Elements.{All-nil, All-cons, All-append}
use Rattle.std.proofs.lemmas.List.Sorted.{All-permutation}
use Rattle.std.proofs.lemmas.Option.{slice_get_within}
use Rattle.law_model.specs.Common.{Container, Cell, Good, Fail, End, AreWindows, IsNetwork, leg_of}
use Rattle.law_model.specs.declared.script_types.Config.{Config}
use Rattle.law_model.specs.declared.window_types.Window.{Window}
use Rattle.law_model.specs.declared.script_types.Script.{Script}
use Rattle.law_model.proofs.ListLaws.{slice_get-inside}
use Rattle.thread_rings.specs.EndsOfRing.{out_passed, OutEnd, InEnd}
use Rattle.thread_rings.specs.declared.line_worker.LineWorker.{LineWorker}
use Rattle.thread_rings.specs.declared.alarm_kinds.Alarm.{Alarm}
use Rattle.thread_rings.specs.declared.alarm_kinds.AlarmKind.{AlarmKind}
use Rattle.thread_rings.specs.declared.alarm_kinds.AlarmKind.TheVariants.{Fails, Returns, Ends}
use Rattle.thread_rings.specs.LineAlarms.{alarm_at, alarms_from, alarms_of_line}
use Rattle.thread_rings.specs.WorkerOfLine.{number_of, IsLater}
use Rattle.thread_sink.specs.declared.sink_worker.SinkWorker.{SinkWorker}
use Rattle.thread_group.specs.declared.group_state.GroupState.{GroupState}
use Rattle.thread_alarms.specs.declared.alarm_log.log_turns.AlarmLog.{AlarmLog}
use Rattle.thread_alarms.specs.declared.alarm_log.alarm_post.AlarmPost.{AlarmPost}
use Rattle.thread_alarms.specs.alarm_log.Alarms.{of_line, in_row}
use Rattle.thread_alarms.specs.alarm_log.Logs.{IsMade, IsPostOf, SameLog, IsAlone}
use Rattle.thread_alarms.specs.alarm_log.Posts.{posted_by, SamePost}
use Rattle.thread_alarms.specs.declared.watched_line.served_line.ServedLine.{ServedLine}
use Rattle.thread_alarms.specs.watched_line.ServedWithPosts.{worker_of, IsServedLater, AreServedLater, AreWatchable}
use Rattle.thread_alarms.specs.watched_line.ServedWithPosts.{AreTold}
use Rattle.thread_alarms.proofs.LaterServedLineLaws.{workers-later}
use Rattle.thread_session.specs.session_parts.ServedLines.{AreLater, AreNumbered}
use Rattle.thread_session.specs.session_parts.LineRingsLaid.{AreDone, AreServedDone}
use Rattle.thread_session.specs.session_parts.LinesOpened.{AreOpened}
use Rattle.thread_session.specs.session_parts.EndedSession.{IsEnded}
use Rattle.law_walk.specs.Common.{line_cells}
use Rattle.thread_session.proofs.WorkerShareAndPairListLaws.{some-is, zip-at, zip-length}
use Rattle.thread_session.specs.session_run.SessionRingsLaid.{AreLaid}

-- Lines that are served with their posts, from the opening of a session to its end.
module _ {A B : Type 0} (f : A → B) where
  -- at one place of a list and of what comes of it
  map-at : (xs : List A) (k : ℕ) (x : A) → slice_get xs k ≡ Some x → slice_get (map f xs) k ≡ Some (f x)
  map-at [] k x there = absurd cc
  map-at (y ∷ xs) zero x there = ap (λ z. Some (f z)) (some-is y x there)
  map-at (y ∷ xs) (suc k) x there = map-at xs k x there

  map-back : (xs : List A) (k : ℕ) (y : B) → slice_get (map f xs) k ≡ Some y → (x : A) × (slice_get xs k ≡ Some x) ×
      (f x ≡ y)
  map-back [] k y there = absurd cc
  map-back (x ∷ xs) zero y there = (x, refl, let h : f x ≡ y = cc in h)
  map-back (x ∷ xs) (suc k) y there = map-back xs k y there

  map-size : (xs : List A) → length (map f xs) ≡ length xs
  map-size [] = refl
  map-size (x ∷ xs) = ap suc (map-size xs)

-- ---- the lines as they are served
pub served-count : (workers : Vec LineWorker) (lines : Vec ServedLine) → map worker_of lines.items ≡ workers.items →
    vec_len lines ≡ vec_len workers
served-count workers lines is = let size = map-size worker_of lines.items in let same = ap length is in
    omega (arith, size, same, lines.ok.0, workers.ok.0)

-- and as many as those later
pub served-few : (workers : Vec LineWorker) (first last : Vec ServedLine) → map worker_of first.items ≡ workers.items →
    AreServedLater first.items last.items → vec_len last ≤ vec_len workers
served-few workers first last is later =
    let count = served-count workers first is in
    let long = zip-length IsServedLater first.items last.items later in
    omega (arith, count, long, first.ok.0, last.ok.0)

pub served-numbers : (workers : List LineWorker) (lines : List ServedLine) → map worker_of lines ≡ workers →
    ((k : ℕ) (worker : LineWorker) → slice_get workers k ≡ Some worker → number_of worker ≡ k) → AreNumbered 0 lines
served-numbers workers lines is numbers k line there =
    let h = numbers k (worker_of line) (ap (λ l. slice_get l k) (sym is) ∙ map-at worker_of lines k line there) in omega
    (arith, h)

pub workers-end : (workers own : List LineWorker) (first last : List ServedLine) → map worker_of first ≡ workers →
    own ≡ map worker_of last →
    AreServedLater first last → AreLater workers own
workers-end workers own first last begins ends later =
    subst (λ l. AreLater l own) begins
    (subst (AreLater (map worker_of first)) (sym ends) (workers-later first last later))

pub done-workers : (own : List LineWorker) (lines : List ServedLine) → own ≡ map worker_of lines → AreServedDone lines →
    AreDone own
done-workers own lines is done m worker there =
    let (line, at, same) = map-back worker_of lines m worker (ap (λ l. slice_get l m) (sym is) ∙ there) in
    subst (λ (w : LineWorker). Contains (out_passed w.producer) End) same (done m line at)

pub still-as-many : (lines own : Vec LineWorker) (posts through : Vec AlarmPost) → AreLater lines.items own.items →
    AllZip SamePost posts.items through.items →
    vec_len posts ≡ vec_len lines → vec_len through ≡ vec_len own
still-as-many lines own posts through later same size =
    let a = zip-length IsLater lines.items own.items later in
    let b = zip-length SamePost posts.items through.items same in
    omega (arith, a, b, size, lines.ok.0, own.ok.0, posts.ok.0, through.ok.0)

-- looks at the ends of rings change nothing of what was posted
pub told-laid : (group group' : GroupState) (lines lines' : List LineWorker) (sink sink' : SinkWorker)
    (posts : List AlarmPost) →
    AreLaid group lines sink group' lines' sink' → AreTold lines posts → AreTold lines' posts
told-laid group group' lines lines' sink sink' posts laid told m worker post there here =
    let inside = slice_get_within lines' m worker there in
    let (mid, at) = slice_get-inside lines m (omega (arith, inside, laid.count)) in
    let looked = laid.workers m mid worker at there in
    told m mid post at here ∙ ap₂ (λ n l. alarms_of_line n l) (sym looked.number) (sym looked.pushed)

-- ---- the opening
none-raised : (m : ℕ) → alarms_of_line m [] ≡ []
unfolding alarms_from
none-raised m = refl

pub watchable : (config : Config) → IsNetwork config →
    (tx : List (OutEnd Container)) (workers : List LineWorker) (rx : List (InEnd Cell)) →
    AreOpened config config.lines tx workers rx →
    (log : AlarmLog) (posts : List AlarmPost) (n : ℕ) → IsMade log posts n 1024 513 → AreWatchable workers posts
watchable config network tx workers rx opened log posts n made m worker post there here =
    let line = opened.lines m worker there in
    let fresh = made.fresh m post here in
    let inside = slice_get_within workers m worker there in
    let failures = network.windows m [] (omega (arith, inside, opened.workers_count, network.windows_each)) in
    record {
      windows = subst (AreWindows 0) (sym line.windows) failures.apart;
      most = let size = ap (length {A = Window}) line.windows in omega (arith, size, failures.few, fresh.most);
      small = let ticks = network.ticks.1 in omega (arith, line.total, ticks);
      told = ap₂ (λ a b. a ++ b) fresh.put fresh.kept
          ∙ sym (ap (alarms_of_line (number_of worker)) (opened.silent m worker there)
          ∙ none-raised (number_of worker));
    }

-- ---- the end
pub still-posts : (log after : AlarmLog) (posts through : List AlarmPost) (n : ℕ) → IsMade log posts n 1024 513 →
    SameLog log after → AllZip SamePost posts through →
    (i : ℕ) (post : AlarmPost) → slice_get through i ≡ Some post → IsPostOf after post
still-posts log after posts through n made same later i post there =
    let (old, was, grew) = zip-at SamePost posts through i post later there in
    let own = made.one_log i old was in
    record { queue = grew.log ∙ own.queue ∙ sym same.queue; most = grew.most ∙ own.most ∙ sym same.most }

of-own : (m i : ℕ) (what : AlarmKind) (rest : List Alarm) →
    of_line m (alarm_at m i what ∷ rest) ≡ alarm_at m i what ∷ of_line m rest
of-own m i what rest = let test = eq-eqb m m refl in rw test refl

of-other : (m k i : ℕ) (what : AlarmKind) (rest : List Alarm) → (k ≡ m → ⊥) →
    of_line m (alarm_at k i what ∷ rest) ≡ of_line m rest
of-other m k i what rest other = let test = ne_eqb k m other in rw test refl

-- the alarms of a line are all its own
own-from : (m i : ℕ) (failed : Bool) (sent : List Cell) →
    of_line m (alarms_from m i failed sent) ≡ alarms_from m i failed sent
unfolding alarms_from
own-from m i failed [] = refl
own-from m i true (Good c ∷ sent) = of-own m i Returns (alarms_from m (suc i) false sent)
    ∙ ap (λ l. alarm_at m i Returns ∷ l) (own-from m (suc i) false sent)
own-from m i false (Good c ∷ sent) = own-from m (suc i) false sent
own-from m i true (Fail ∷ sent) = own-from m (suc i) true sent
own-from m i false (Fail ∷ sent) = of-own m i Fails (alarms_from m (suc i) true sent)
    ∙ ap (λ l. alarm_at m i Fails ∷ l) (own-from m (suc i) true sent)
own-from m i failed (End ∷ sent) = of-own m i Ends (alarms_from m (suc i) false sent)
    ∙ ap (λ l. alarm_at m i Ends ∷ l) (own-from m (suc i) false sent)

other-from : (m k i : ℕ) (failed : Bool) (sent : List Cell) → (k ≡ m → ⊥) → of_line m (alarms_from k i failed sent) ≡ []
unfolding alarms_from
other-from m k i failed [] other = refl
other-from m k i true (Good c ∷ sent) other = of-other m k i Returns (alarms_from k (suc i) false sent) other
    ∙ other-from m k (suc i) false sent other
other-from m k i false (Good c ∷ sent) other = other-from m k (suc i) false sent other
other-from m k i true (Fail ∷ sent) other = other-from m k (suc i) true sent other
other-from m k i false (Fail ∷ sent) other = of-other m k i Fails (alarms_from k (suc i) true sent) other
    ∙ other-from m k (suc i) true sent other
other-from m k i failed (End ∷ sent) other = of-other m k i Ends (alarms_from k (suc i) false sent) other
    ∙ other-from m k (suc i) false sent other

-- the alarms of a line below a bound are of lines below it
below-from : (m n i : ℕ) (failed : Bool) (sent : List Cell) → m < n →
    All (λ (alarm : Alarm). alarm.line < n) (alarms_from m i failed sent)
unfolding alarms_from
below-from m n i failed [] low = All-nil (λ (alarm : Alarm). alarm.line < n)
below-from m n i true (Good c ∷ sent) low = All-cons (λ (alarm : Alarm). alarm.line < n) (alarm_at m i Returns) _ low
    (below-from m n (suc i) false sent low)
below-from m n i false (Good c ∷ sent) low = below-from m n (suc i) false sent low
below-from m n i true (Fail ∷ sent) low = below-from m n (suc i) true sent low
below-from m n i false (Fail ∷ sent) low = All-cons (λ (alarm : Alarm). alarm.line < n) (alarm_at m i Fails) _ low
    (below-from m n (suc i) true sent low)
below-from m n i failed (End ∷ sent) low = All-cons (λ (alarm : Alarm). alarm.line < n) (alarm_at m i Ends) _ low
    (below-from m n (suc i) false sent low)

-- what is so of each list is so of all in a row
all-in-row : (n : ℕ) (posts : List AlarmPost) →
    ((k : ℕ) (post : AlarmPost) → slice_get posts k ≡ Some post →
    All (λ (alarm : Alarm). alarm.line < n) (posted_by post)) →
    All (λ (alarm : Alarm). alarm.line < n) (in_row (map posted_by posts))
all-in-row n [] each = All-nil (λ (alarm : Alarm). alarm.line < n)
all-in-row n (post ∷ posts) each =
    All-append (λ (alarm : Alarm). alarm.line < n) (posted_by post) (in_row (map posted_by posts)) (each 0 post refl)
    (all-in-row n posts (λ k later there. each (suc k) later there))

module _ (script : Script) (group : GroupState) (workers : List LineWorker) (sink : SinkWorker)
    (ended : IsEnded script group.tx.items group.back workers sink)
    (posts : List AlarmPost) (told : AreTold workers posts) (count : length posts ≡ length workers) where
  -- what was posted through a post
  posted-at : (m : ℕ) (post : AlarmPost) → slice_get posts m ≡ Some post →
      posted_by post ≡ alarms_of_line m (line_cells (leg_of script) m)
  posted-at m post here =
      let inside = slice_get_within posts m post here in
      let (worker, there) = slice_get-inside workers m (omega (arith, inside, count)) in
      let line = ended.lines m worker there in
      told m worker post there here ∙ ap₂ (λ n l. alarms_of_line n l) line.line.number line.sent

  pub are-alone : (m : ℕ) → IsAlone m m posts
  are-alone m j post here other = ap (of_line m) (posted-at j post here)
      ∙ other-from m j 0 false (line_cells (leg_of script) j) other

  pub all-alarms : (list : List Alarm) →
      ((m i : ℕ) (post : AlarmPost) → slice_get posts i ≡ Some post → IsAlone m i posts →
      of_line m list ≡ of_line m (posted_by post)) →
      (m : ℕ) → m < script.config.lines → of_line m list ≡ alarms_of_line m (line_cells (leg_of script) m)
  all-alarms list lines m low =
      let (post, here) = slice_get-inside posts m (omega (arith, low, count, ended.count)) in
      lines m m post here (are-alone m) ∙ ap (of_line m) (posted-at m post here)
      ∙ own-from m 0 false (line_cells (leg_of script) m)

  pub all-below : (list : List Alarm) → IsPermutation (in_row (map posted_by posts)) list →
      All (λ (alarm : Alarm). alarm.line < script.config.lines) list
  all-below list same =
      All-permutation (λ (alarm : Alarm). alarm.line < script.config.lines) (in_row (map posted_by posts)) list same
      (all-in-row script.config.lines posts (λ m post here.
      let inside = slice_get_within posts m post here in
      subst (All (λ (alarm : Alarm). alarm.line < script.config.lines)) (sym (posted-at m post here))
      (below-from m script.config.lines 0 false (line_cells (leg_of script) m)
      (omega (arith, inside, count, ended.count)))))
