-- The ends of all rings of a session laid beside each other, and how far its sink has run and written.
use Rattle.std.proofs.Common.{◌≡◌, ℕ, Bool, true, false, List, ◌++◌, Option, sym, ◌∙◌, ap, subst, Some, None, refl}
use Rattle.std.proofs.Common.{suc, ◌<◌, [], ◌∷◌, map, length, slice_get, arith, ◌≤◌, ap₂, Contains}
use Rattle.std.proofs.lemmas.Grind.{flat_map-append}
use Rattle.law_model.specs.Common.{AppendsPart, Container, Cell, End, BackCell, Appends, leg_of}
use Rattle.octet_io.proofs.AppendedTextAndPrefixLaws.{Appends-then, AppendsPart-then, AppendsPart-longer, Appends-none}
use Rattle.text_report.specs.ReportLines.{got_text, got_texts}
use Rattle.terminal_sink.specs.sink_core.TakenAndGiven.{given_frames, added_frames}
use Rattle.text_got.specs.TextSoFar.{Seen, seen, known_of, faults_of}
use Rattle.thread_sink.specs.Told.{Writes, count_of}
use Rattle.thread_sink.specs.declared.sink_worker.SinkWorker.{SinkWorker}
use Rattle.thread_sink.specs.WorkerOfSink.{SinkWorkerStands, IsLater, parts_of, cells_of, options_of, size_of}
use Rattle.thread_sink.specs.WorkerOfSink.{taken_of, has_failed, got_of, ticks_of as rows_of, IsLater as IsSinkLater}
use Rattle.thread_sink.proofs.SinkStepAndFrameLaws.{given-then, later-then, later-refl, frames-none}
use Rattle.thread_alarms.specs.declared.alarm_log.log_turns.AlarmLog.{AlarmLog}
use Rattle.thread_session.specs.session_parts.Duty.{Begun, HasRun, IsLogLater}
use Rattle.thread_alarms.proofs.LaterServedLineLaws.{same-then}
use Rattle.std.proofs.lemmas.Option.{slice_get_within}
use Rattle.member_path.specs.path_delay.CallsOnDelayedLine.{Line}
use Rattle.law_model.proofs.ListLaws.{slice_get-inside}
use Rattle.thread_rings.specs.EndsOfRing.{OutEnd, InEnd, out_passed, in_passed, in_items, AreEnds}
use Rattle.thread_rings.specs.declared.line_worker.LineWorker.{LineWorker}
use Rattle.member_rows.specs.realign_rows.Gather.{Gather, line_count, GatherStands as Gathers}
use Rattle.terminal_sink.specs.sink_core.Core.{Core, SinkStands as Takes}
use Rattle.thread_sink.specs.ReceivedByRings.{received, backs}
use Rattle.thread_group.proofs.GroupRingEndLookLaws.{AreStill}
use Rattle.thread_session.specs.session_parts.LineRingsLaid.{IsSendLaid, IsReceiveLaid, AreSendsLaid, AreReceivesLaid}
use Rattle.thread_session.specs.session_parts.LineRingsLaid.{AreSendEnds, AreReceiveEnds, AreDone}
use Rattle.thread_session.specs.session_run.SessionRingsLaid.{HasLookedLine, AreLaid, IsSessionOf}
use Rattle.std.proofs.lemmas.List.{nil_from_length}
use Rattle.law_model.specs.declared.script_types.Script.{Script}
use Rattle.thread_rings.specs.WorkerOfLine.{IsLater as IsLaterLine}
use Rattle.thread_rings.proofs.SameRingEndsLaws.{ends-moved}
use Rattle.thread_group.specs.declared.group_state.GroupState.{GroupState}
use Rattle.thread_group.specs.Group.{ticks_of, total_of}
use Rattle.thread_group.specs.GroupOfLeg.{IsBound}
use Rattle.thread_session.specs.session_parts.ServedLines.{AreLater}
use Rattle.thread_session.specs.session_parts.LinesOpened.{IsLineOf}
use Rattle.thread_session.proofs.WorkerShareAndPairListLaws.{zip-length, zip-at}
use Rattle.thread_session.specs.session_run.SessionOfScript.{IsSinkOf, IsOpen, HasComeToEnd}

-- ---- A sink that has run goes on for a burst.
abbrev Told : Bool → Seen → Seen → List ℕ → Type 0
Told failed first now text = Writes known_of faults_of false failed first now text

module _ {K : Type 0} (written : K → Option (List ℕ)) (faults : K → ℕ) where
  abbrev seen_of : K → Seen
  seen_of k = seen (written k) (faults k)

  -- so far a session has run, by what it writes to
  abbrev pub HasRunTo : Begun → SinkWorker → K → Type 0
  HasRunTo begun sink now = HasRun begun sink (seen (written now) (faults now))

  -- what the duty of a sink stands for, by its parts
  abbrev pub StandsFor : Begun → ℕ → SinkWorker → K → Option AlarmLog → Type 0
  StandsFor begun name sink now log = (name ≡ begun.name) × HasRunTo begun sink now × IsLogLater begun.log log

  told-then : (failed next : Bool) (first : Seen) (old new : K) (text more : List ℕ) →
      Told failed first (seen_of old) text → Writes written faults failed next old new more →
      Told next first (seen_of new) (text ++ more)
  told-then false false first old new text more told writes =
      Appends-then known_of faults_of first (seen_of old) (seen_of new) text more told
      (record { appended = writes.appended; quiet = writes.quiet })
  told-then false true first old new text more told writes =
      AppendsPart-then known_of faults_of first (seen_of old) (seen_of new) text more told
      (record {
        part = writes.part;
        rest = writes.rest;
        prefix = writes.prefix;
        cut = writes.cut;
        appended =
            writes.appended;
        counted = writes.counted;
      })
  told-then true next first old new text more told writes =
      subst (λ (failed : Bool). Told failed first (seen_of new) (text ++ more)) (sym writes.0)
      (subst (λ (k : K). AppendsPart known_of faults_of first (seen_of k) (text ++ more)) (sym writes.1)
      (AppendsPart-longer known_of faults_of first (seen_of old) text more told))

  pub run-then : (begun : Begun) (a b : SinkWorker) (old new : K) → SinkWorkerStands b → IsLater a b →
      Writes written faults (has_failed a) (has_failed b) old new
      (got_texts (added_frames (options_of b) (size_of b) (cells_of b) (taken_of a) (taken_of b))) →
      HasRunTo begun a old → HasRunTo begun b new
  run-then begun a b old new stands later writes run =
      let before = given_frames (options_of a) (size_of a) (cells_of a) (taken_of a) in
      let more = added_frames (options_of b) (size_of b) (cells_of b) (taken_of a) (taken_of b) in
      record {
        stands = stands;
        later = (later.0 ∙ run.later.0, later-then (parts_of begun.sink) (parts_of a) (parts_of b) run.later.1 later.1);
        told = subst (Told (has_failed b) begun.first (seen_of new))
            (sym (ap got_texts (given-then (parts_of a) (parts_of b) run.stands.keeps later.1)
            ∙ flat_map-append got_text before more))
            (told-then (has_failed a) (has_failed b) begun.first old new (got_texts before)
            (got_texts more) run.told writes);
      }

  -- what a session has written, by what was there when it began
  pub run-writes : (first now : K) (begun : Begun) (sink : SinkWorker) → begun.first ≡ seen_of first →
      HasRunTo begun sink now →
      Writes written faults false (has_failed sink) first now
      (got_texts (given_frames (options_of sink) (size_of sink) (cells_of sink) (taken_of sink)))
  run-writes first now begun sink is run =
      told-writes (has_failed sink)
      (got_texts (given_frames (options_of sink) (size_of sink) (cells_of sink) (taken_of sink)))
      (subst (λ (s : Seen). Told (has_failed sink) s (seen_of now)
      (got_texts (given_frames (options_of sink) (size_of sink) (cells_of sink) (taken_of sink)))) is run.told)
    where
      told-writes : (failed : Bool) (text : List ℕ) → Told failed (seen_of first) (seen_of now) text →
          Writes written faults false failed first now text
      told-writes false text told = record { appended = told.appended; quiet = told.quiet }
      told-writes true text told =
          record {
            part = told.part;
            rest = told.rest;
            prefix = told.prefix;
            cut = told.cut;
            appended = told.appended;
            counted = told.counted;
          }

-- ---- A log is the same later.
pub log-then : (a b c : Option AlarmLog) → IsLogLater a b → IsLogLater b c → IsLogLater a c
log-then None None None s t = tt
log-then None None (Some c) s t = absurd t
log-then None (Some b) c s t = absurd s
log-then (Some a) None c s t = absurd s
log-then (Some a) (Some b) None s t = absurd t
log-then (Some a) (Some b) (Some c) s t = same-then a b c s t

log-self : (a : Option AlarmLog) → IsLogLater a a
log-self None = tt
log-self (Some a) = record { queue = refl; posts = refl; most = refl }

-- it was handed on
pub log-handed : (a b : Option AlarmLog) → b ≡ a → IsLogLater a b
log-handed a b is = subst (IsLogLater a) (sym is) (log-self a)

-- ---- The ends of all rings of a session, laid beside each other.
-- ends that have passed the same, by place
same-passed : (a b : List (InEnd Cell)) → length b ≡ length a →
    ((m : ℕ) (old new : InEnd Cell) → slice_get a m ≡ Some old → slice_get b m ≡ Some new →
    in_passed new ≡ in_passed old) →
    map in_passed b ≡ map in_passed a
same-passed [] [] count each = refl
same-passed [] (y ∷ ys) count each = absurd (omega (arith, count))
same-passed (x ∷ xs) [] count each = absurd (omega (arith, count))
same-passed (x ∷ xs) (y ∷ ys) count each =
    ap (λ first. first ∷ map in_passed ys) (each 0 x y refl refl)
    ∙ ap (λ rest. in_passed x ∷ rest)
    (same-passed xs ys (omega (arith, count)) (λ m old new was is. each (suc m) old new was is))

-- the receive rings, where the send rings were laid beside each other
pub mid-receives : (tx tx' : List (OutEnd Container)) (workers mid : List LineWorker) (rx : List (InEnd Cell)) →
    AreSendsLaid tx workers tx' mid → length tx ≡ length workers →
    AreReceiveEnds workers rx → AreReceiveEnds mid rx
mid-receives tx tx' workers mid rx sends count ends m other into is at =
    let inside = slice_get_within mid m other is in
    let low : m < length workers = omega (arith, inside, sends.second_count) in
    let (worker, was) = slice_get-inside workers m low in
    let (out, there) = slice_get-inside tx m (omega (arith, low, count)) in
    let (out', there') = slice_get-inside tx' m (omega (arith, low, count, sends.first_count)) in
    let laid = sends.each m out worker out' other low there was there' is in
    subst (λ (producer : OutEnd Cell). AreEnds producer into) (sym laid.producer) (ends m worker into was at)

-- a sink whose ends have passed the same stands as it stood
pub stands-laid : (a b : SinkWorker) → b.rows ≡ a.rows → b.core ≡ a.core → got_of b ≡ got_of a →
    length b.rx.items ≡ length a.rx.items → cells_of b ≡ cells_of a →
    out_passed b.back ≡ out_passed a.back → SinkWorkerStands a → SinkWorkerStands b
stands-laid a b rows core got count cells back stands =
    let k = stands.keeps in
    record {
      keeps = record {
        gathers = subst (λ (r : Gather). Gathers r (cells_of b)) (sym rows)
            (subst (Gathers a.rows) (sym cells) k.gathers);
        stands = subst (λ (own : Core). Takes own (cells_of b)) (sym core) (subst (Takes a.core) (sym cells) k.stands);
        lines = ap line_count rows ∙ k.lines ∙ sym (ap (λ (own : Core). own.lines) core);
        rings = count ∙ k.rings ∙ sym (ap (λ (own : Core). own.lines) core);
        rows = ap (λ (r : Gather). r.rows) rows ∙ k.rows ∙ sym (ap (λ (own : Core). own.taken) core);
        sent = back ∙ k.sent ∙ sym (ap (λ own. backs a.core.options own a.core.taken) cells)
            ∙ sym (ap (λ (own : Core). backs own.options (cells_of b) own.taken) core);
      };
      counted = got ∙ stands.counted
          ∙ sym (ap (λ own. count_of (given_frames (options_of a) (size_of a) own (taken_of a))) cells)
          ∙ sym (ap (λ (own : Core). count_of (given_frames own.options own.size (cells_of b) own.taken)) core);
    }

-- all that is so of rings whose ends were laid beside each other
pub record AreRingsLaid (tx tx' : List (OutEnd Container)) (workers workers' : List LineWorker)
    (rx rx' : List (InEnd Cell)) : Type 0 where
  pub count : length workers' ≡ length workers
  pub lines : (m : ℕ) (old new : LineWorker) → slice_get workers m ≡ Some old → slice_get workers' m ≡ Some new →
      HasLookedLine old new
  pub sends : (m : ℕ) (out : OutEnd Container) (worker : LineWorker) → slice_get tx' m ≡ Some out →
      slice_get workers' m ≡ Some worker →
      in_passed worker.consumer ++ in_items worker.consumer ≡ out_passed out
  pub receives : (m : ℕ) (worker : LineWorker) (into : InEnd Cell) → slice_get workers' m ≡ Some worker →
      slice_get rx' m ≡ Some into →
      in_passed into ++ in_items into ≡ out_passed worker.producer
  pub send_ends : AreSendEnds tx' workers'
  pub receive_ends : AreReceiveEnds workers' rx'
  pub cells : received rx' ≡ received rx
  pub still : AreStill tx tx'

module _ (tx tx' : List (OutEnd Container)) (workers mid workers' : List LineWorker) (rx rx' : List (InEnd Cell))
    (sends : AreSendsLaid tx workers tx' mid) (receives : AreReceivesLaid mid rx workers' rx')
    (tx_count : length tx ≡ length workers) (rx_count : length rx ≡ length workers) where
  laid-count : length workers' ≡ length workers
  laid-count = receives.first_count ∙ sends.second_count

  -- line m before, and what was laid of it
  send-at : (m : ℕ) (old : LineWorker) (other : LineWorker) → slice_get workers m ≡ Some old →
      slice_get mid m ≡ Some other →
      (out : OutEnd Container) × (out' : OutEnd Container) × (slice_get tx m ≡ Some out) ×
      (slice_get tx' m ≡ Some out') × IsSendLaid out old out' other
  send-at m old other was is =
      let inside = slice_get_within workers m old was in
      let (out, there) = slice_get-inside tx m (omega (arith, inside, tx_count)) in
      let (out', there') = slice_get-inside tx' m (omega (arith, inside, tx_count, sends.first_count)) in
      (out, out', there, there', sends.each m out old out' other inside there was there' is)

  receive-at : (m : ℕ) (other new : LineWorker) → slice_get mid m ≡ Some other → slice_get workers' m ≡ Some new →
      (into : InEnd Cell) × (into' : InEnd Cell) × (slice_get rx m ≡ Some into) × (slice_get rx' m ≡ Some into') ×
      IsReceiveLaid other into new into'
  receive-at m other new was is =
      let inside = slice_get_within mid m other was in
      let (into, there) = slice_get-inside rx m (omega (arith, inside, rx_count, sends.second_count)) in
      let (into', there') = slice_get-inside rx' m
      (omega (arith, inside, rx_count, sends.second_count, receives.second_count)) in
      (into, into', there, there', receives.each m other into new into' inside was there is there')

  mid-at : (m : ℕ) → m < length workers → (other : LineWorker) × (slice_get mid m ≡ Some other)
  mid-at m low = slice_get-inside mid m (omega (arith, low, sends.second_count))

  old-at : (m : ℕ) → m < length workers → (old : LineWorker) × (slice_get workers m ≡ Some old)
  old-at m low = slice_get-inside workers m low

  looked-line : (m : ℕ) (old new : LineWorker) → slice_get workers m ≡ Some old → slice_get workers' m ≡ Some new →
      HasLookedLine old new
  looked-line m old new was is =
      let (other, there) = mid-at m (slice_get_within workers m old was) in
      let (out, out', at, at', sent) = send-at m old other was there in
      let (into, into', on, on', got) = receive-at m other new there is in
      let core : new.core ≡ old.core = got.core ∙ sent.core in
      record {
        number = got.number ∙ sent.number;
        delay = ap (λ (line : Line). line.delay) core;
        windows = ap (λ (line : Line). line.windows) core;
        total = ap (λ (line : Line). line.total) core;
        popped = ap (in_passed {T = Container}) got.consumer ∙ sent.popped;
        pushed = got.pushed ∙ ap (out_passed {T = Cell}) sent.producer;
      }

  sends-laid : (m : ℕ) (out : OutEnd Container) (worker : LineWorker) → slice_get tx' m ≡ Some out →
      slice_get workers' m ≡ Some worker →
      (in_passed worker.consumer ++ in_items worker.consumer ≡ out_passed out) × AreEnds out worker.consumer
  sends-laid m out worker at there =
      let inside = slice_get_within workers' m worker there in
      let (old, was) = old-at m (omega (arith, inside, laid-count)) in
      let (other, mid_there) = mid-at m (omega (arith, inside, laid-count)) in
      let (first, last, on, on', sent) = send-at m old other was mid_there in
      let (into, into', to, to', got) = receive-at m other worker mid_there there in
      let same : last ≡ out = (let e : Some last ≡ Some out = sym on' ∙ at in cc) in (
        ap (λ (end : InEnd Container). in_passed end ++ in_items end) got.consumer ∙ sent.fifo
            ∙ ap (out_passed {T = Container}) same,
        subst (λ (end : InEnd Container). AreEnds out end) (sym got.consumer)
            (subst (λ (end : OutEnd Container). AreEnds end other.consumer) same sent.ends),
      )

  receives-laid : (m : ℕ) (worker : LineWorker) (into : InEnd Cell) → slice_get workers' m ≡ Some worker →
      slice_get rx' m ≡ Some into →
      (in_passed into ++ in_items into ≡ out_passed worker.producer) × AreEnds worker.producer into
  receives-laid m worker into there at =
      let inside = slice_get_within workers' m worker there in
      let (other, mid_there) = mid-at m (omega (arith, inside, laid-count)) in
      let (first, last, on, on', got) = receive-at m other worker mid_there there in
      let same : into ≡ last = (let e : Some into ≡ Some last = sym at ∙ on' in cc) in (
        ap (λ (end : InEnd Cell). in_passed end ++ in_items end) same ∙ got.fifo,
        subst (λ (end : InEnd Cell). AreEnds worker.producer end) (sym same) got.ends,
      )

  received-laid : received rx' ≡ received rx
  received-laid =
      same-passed rx rx' receives.second_count (λ m old new was is.
      let inside = slice_get_within rx m old was in
      let low : m < length workers = omega (arith, inside, rx_count) in
      let (other, there) = mid-at m low in
      let (worker, there') = slice_get-inside workers' m (omega (arith, low, laid-count)) in
      (receives.each m other old worker new (slice_get_within mid m other there) there was there' is).popped)

  -- a send ring, before and after
  laid-at : (m : ℕ) (old new : OutEnd Container) → slice_get tx m ≡ Some old → slice_get tx' m ≡ Some new →
      (worker : LineWorker) × (other : LineWorker) × IsSendLaid old worker new other
  laid-at m old new was is =
      let inside = slice_get_within tx m old was in
      let low : m < length workers = omega (arith, inside, tx_count) in
      let (worker, there) = old-at m low in
      let (other, there') = mid-at m low in
      (worker, other, sends.each m old worker new other low was there is there')

  sends-still : AreStill tx tx'
  sends-still = record {
    same = record {
      count = sends.first_count;
      each = λ m old new was is. let (worker, other, laid) = laid-at m old new was is in laid.same;
    };
    passed = λ m old new was is. let (worker, other, laid) = laid-at m old new was is in laid.pushed;
  }

  pub rings-laid : AreRingsLaid tx tx' workers workers' rx rx'
  rings-laid = record {
    count = laid-count;
    lines = looked-line;
    sends = λ m out worker at there. (sends-laid m out worker at there).0;
    receives = λ m worker into there at. (receives-laid m worker into there at).0;
    send_ends = λ m out worker at there. (sends-laid m out worker at there).1;
    receive_ends = λ m worker into there at. (receives-laid m worker into there at).1;
    cells = received-laid;
    still = sends-still;
  }

-- ---- What has come of a session that was opened, once all have done what they had to do.
-- the members of a session are its script, and the ends of its group as they were made
pub bound-own : (named : Script) (tx : List (OutEnd Container)) (back : List (InEnd BackCell)) (script : Script)
    (first group : GroupState) → IsSessionOf named tx back script first →
    IsBound (leg_of named) tx back group → IsBound (leg_of script) first.tx.items (first.back ∷ []) group
bound-own named tx back script first group is bound =
    subst (λ l. IsBound (leg_of script) first.tx.items l group) is.returns
    (subst (λ l. IsBound (leg_of script) l back group) is.sends
    (subst (λ s. IsBound (leg_of s) tx back group) is.script bound))

-- the worker of a sink where a session begins
pub run-begins : (script : Script) (sink : SinkWorker) (first : Seen) (name : ℕ) (log : Option AlarmLog) →
    IsSinkOf script sink → HasRun (record { first = first; name = name; sink = sink; log = log }) sink first
run-begins script sink first name log is =
    let none : given_frames (options_of sink) (size_of sink) (cells_of sink) (taken_of sink) ≡ [] =
    nil_from_length (given_frames (options_of sink) (size_of sink) (cells_of sink) (taken_of sink))
    (frames-none (options_of sink) (size_of sink) (cells_of sink) (taken_of sink) is.taken) in
    record {
      stands = is.stands;
      later = (refl, later-refl (parts_of sink));
      told = subst (λ failed. Writes known_of faults_of false failed first first
          (got_texts (given_frames (options_of sink) (size_of sink) (cells_of sink) (taken_of sink)))) (sym is.failed)
          (subst (λ frames. Writes known_of faults_of false false first first (got_texts frames)) (sym none)
          (Appends-none known_of faults_of first));
    }

module _ {K : Type 0} (written : K → Option (List ℕ)) (faults : K → ℕ) where
  -- how a session begins
  abbrev pub begun_of : K → ℕ → SinkWorker → Option AlarmLog → Begun
  begun_of old name sink log = record { first = seen (written old) (faults old); name = name; sink = sink; log = log }

  -- a worker that is handed on, with what it writes to
  pub handed-on : (begun : Begun) (a b : SinkWorker) (old new : K) → b ≡ a → new ≡ old →
      HasRunTo written faults begun a old → HasRunTo written faults begun b new
  handed-on begun a b old new is same run =
      subst (λ (sink : SinkWorker). HasRunTo written faults begun sink new) (sym is)
      (subst (HasRunTo written faults begun a) (sym same) run)

  -- what was written as a whole, or in part
  pub writes-whole : (failed : Bool) (old new : K) (own text : List ℕ) → own ≡ text →
      Writes written faults false failed old new own → failed ≡ false → Appends written faults old new text
  writes-whole false old new own text is writes none = subst (Appends written faults old new) is writes
  writes-whole true old new own text is writes none = absurd cc

  pub writes-part : (failed : Bool) (old new : K) (own text : List ℕ) → own ≡ text →
      Writes written faults false failed old new own → failed ≡ true → AppendsPart written faults old new text
  writes-part false old new own text is writes some = absurd cc
  writes-part true old new own text is writes some = subst (AppendsPart written faults old new) is writes

-- the ends of all rings are ends of the same rings, one at each line
pub record AreEndsLater (group : GroupState) (lines : List LineWorker) (sink : SinkWorker) : Type 0 where
  pub sends : AreSendEnds group.tx.items lines
  pub receives : AreReceiveEnds lines sink.rx.items
  pub returns : AreEnds sink.back group.back
  pub count : (length group.tx.items ≡ length lines) × (length sink.rx.items ≡ length lines)

module _ (script : Script) (first : GroupState) (begun : List LineWorker) (taker : SinkWorker)
    (open' : IsOpen script first begun taker)
    (group : GroupState) (lines : List LineWorker) (sink : SinkWorker)
    (bound : IsBound (leg_of script) first.tx.items (first.back ∷ []) group) (later : AreLater begun lines)
    (after : IsSinkLater taker sink) where
  as-many : length lines ≡ length begun
  as-many = zip-length IsLaterLine begun lines later

  -- the worker of a line as it began
  old-at-opened : (m : ℕ) (worker : LineWorker) → slice_get lines m ≡ Some worker → (old : LineWorker) ×
      (slice_get begun m ≡ Some old) × IsLaterLine old worker
  old-at-opened m worker there = zip-at IsLaterLine begun lines m worker later there

  send-ends : AreSendEnds group.tx.items lines
  send-ends m out worker at there =
      let (old, was, grew) = old-at-opened m worker there in
      let inside = slice_get_within begun m old was in
      let (out', at') = slice_get-inside first.tx.items m
      (omega (arith, inside, open'.lines.tx_count, open'.lines.workers_count)) in
      ends-moved out' out old.consumer worker.consumer (open'.lines.sends m out' old at' was)
      (bound.sends.each m out' out at' at) grew.same.consumer

  receive-ends : AreReceiveEnds lines sink.rx.items
  receive-ends m worker into there at =
      let (old, was, grew) = old-at-opened m worker there in
      let inside = slice_get_within begun m old was in
      let (into', at') = slice_get-inside taker.rx.items m
      (omega (arith, inside, open'.lines.rx_count, open'.lines.workers_count)) in
      ends-moved old.producer worker.producer into' into (open'.lines.receives m old into' was at') grew.same.producer
      (after.1.ends.each m into' into at' at)

  return-ends : AreEnds sink.back group.back
  return-ends = ends-moved taker.back sink.back first.back group.back open'.returns after.1.back
      (bound.returns.each 0 first.back group.back refl refl)

  pub ends-later : AreEndsLater group lines sink
  ends-later = record {
    sends = send-ends;
    receives = receive-ends;
    returns = return-ends;
    count = (
      omega (arith, bound.sends.count, as-many, open'.lines.tx_count, open'.lines.workers_count),
      omega (arith, after.1.ends.count, as-many, open'.lines.rx_count, open'.lines.workers_count),
    );
  }

-- all have done what they had to do, and the ends of all rings were laid beside each other
module _ (script : Script) (first : GroupState) (begun : List LineWorker) (taker : SinkWorker)
    (open' : IsOpen script first begun taker)
    (group : GroupState) (lines : List LineWorker) (sink : SinkWorker)
    (bound : IsBound (leg_of script) first.tx.items (first.back ∷ []) group) (later : AreLater begun lines)
    (after : IsSinkLater taker sink)
    (made : total_of group ≤ ticks_of group) (done : AreDone lines) (taken : taken_of sink ≡ rows_of sink)
    (stands : SinkWorkerStands sink)
    (group' : GroupState) (lines' : List LineWorker) (sink' : SinkWorker)
    (laid : AreLaid group lines sink group' lines' sink') where
  line-of : (m : ℕ) (worker : LineWorker) → slice_get lines' m ≡ Some worker → IsLineOf script.config m worker
  line-of m worker there =
      let inside = slice_get_within lines' m worker there in
      let (mid, at) = slice_get-inside lines m (omega (arith, inside, laid.count)) in
      let (old, was, grew) = zip-at IsLaterLine begun lines m mid later at in
      let looked = laid.workers m mid worker at there in
      let line = open'.lines.lines m old was in
      record {
        number = looked.number ∙ grew.same.number ∙ line.number;
        delay = looked.delay ∙ grew.same.delay ∙ line.delay;
        windows = looked.windows ∙ grew.same.windows ∙ line.windows;
        total = looked.total ∙ grew.same.total ∙ line.total;
      }

  all-done : AreDone lines'
  all-done m worker there =
      let inside = slice_get_within lines' m worker there in
      let (mid, at) = slice_get-inside lines m (omega (arith, inside, laid.count)) in
      subst (λ cells. Contains cells End) (sym (laid.workers m mid worker at there).pushed) (done m mid at)

  pub come-to-end : HasComeToEnd script group' lines' sink'
  come-to-end =
      let bound' = laid.landed script first.tx.items (first.back ∷ []) bound in
      let as_many : length lines ≡ length begun = zip-length IsLaterLine begun lines later in
      record {
        of_script = bound'.of_script;
        landed = bound'.landed;
        made = omega (arith, made, laid.ticks, bound'.of_script.total, bound.of_script.total);
        tx_count = laid.tx_count ∙ bound.sends.count ∙ open'.lines.tx_count;
        workers_count = laid.count ∙ as_many ∙ open'.lines.workers_count;
        rx_count = laid.rx_count ∙ after.1.ends.count ∙ open'.lines.rx_count;
        lines = line-of;
        done = all-done;
        send_ends = laid.send_ends;
        receive_ends = laid.receive_ends;
        return_ends = laid.return_ends;
        sends = laid.sends;
        receives = laid.receives;
        returns = laid.returns;
        stands = laid.stands stands;
        sink_lines = laid.lines_same ∙ after.1.lines ∙ open'.sink.lines;
        size = laid.size ∙ after.1.size ∙ open'.sink.size;
        options = laid.options ∙ after.1.options ∙ open'.sink.options;
        taken = laid.taken ∙ taken ∙ after.0 ∙ open'.sink.rows;
      }

-- what was written by the sink is what the sink says that was laid
pub writes-laid : {K : Type 0} (written : K → Option (List ℕ)) (faults : K → ℕ) (old new : K)
    (group group' : GroupState) (lines lines' : List LineWorker) (sink sink' : SinkWorker) →
    AreLaid group lines sink group' lines' sink' →
    Writes written faults false (has_failed sink) old new
    (got_texts (given_frames (options_of sink) (size_of sink) (cells_of sink) (taken_of sink))) →
    Writes written faults false (has_failed sink') old new
    (got_texts (given_frames (options_of sink') (size_of sink') (cells_of sink') (taken_of sink')))
writes-laid written faults old new group group' lines lines' sink sink' laid writes =
    let frames : given_frames (options_of sink') (size_of sink') (cells_of sink') (taken_of sink')
    ≡ given_frames (options_of sink) (size_of sink) (cells_of sink) (taken_of sink) =
    ap₂ (λ options size. given_frames options size (cells_of sink') (taken_of sink')) laid.options laid.size
    ∙ ap (λ cells. given_frames (options_of sink) (size_of sink) cells (taken_of sink')) laid.cells
    ∙ ap (given_frames (options_of sink) (size_of sink) (cells_of sink)) laid.taken in
    subst (λ failed. Writes written faults false failed old new
    (got_texts (given_frames (options_of sink') (size_of sink') (cells_of sink') (taken_of sink')))) (sym laid.failed)
    (subst (λ own. Writes written faults false (has_failed sink) old new (got_texts own)) (sym frames) writes)
