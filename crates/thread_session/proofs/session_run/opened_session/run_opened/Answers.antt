-- The ends of the rings are those of the opening, later; and the session has come to its end.
use Rattle.std.proofs.Common.{rules, ℕ, ◌≤◌, false, ◌∷◌, [], vec_len, refl, sym, ◌∙◌, subst, arith}
use Rattle.std.specs.List.{AllZip}
use Rattle.law_model.specs.Common.{leg_of}
use Rattle.text_report.specs.ReportLines.{got_texts}
use Rattle.thread_alarms.specs.alarm_log.Posts.{SamePost}
use Rattle.thread_alarms.specs.watched_line.ServedWithPosts.{posts_of, AreServedLater, IsServedLater}
use Rattle.thread_alarms.proofs.LaterServedLineLaws.{served-then, posts-later}
use Rattle.terminal_sink.specs.sink_core.TakenAndGiven.{given_frames}
use Rattle.thread_sink.specs.Told.{Writes}
use Rattle.thread_sink.specs.WorkerOfSink.{cells_of, options_of, size_of, taken_of, has_failed}
use Rattle.thread_group.specs.declared.group_state.GroupState.{GroupState}
use Rattle.thread_group.specs.Group.{ticks_of, total_of}
use Rattle.thread_group.specs.GroupOfLeg.{IsBound}
use Rattle.thread_session.specs.session_parts.Duty.{Begun, IsLogLater}
use Rattle.thread_session.specs.session_parts.ServedLines.{AreLater}
use Rattle.thread_session.proofs.SessionRingEndsAndSinkRunLaws.{log-handed}
use Rattle.thread_session.proofs.WorkerShareAndPairListLaws.{zip-then}
use Rattle.thread_session.proofs.SessionRingEndsAndSinkRunLaws.{HasRunTo, StandsFor, run-writes}
use Rattle.thread_session.proofs.SessionRingEndsAndSinkRunLaws.{bound-own, run-begins, begun_of, handed-on}
use Rattle.thread_session.proofs.SessionRingEndsAndSinkRunLaws.{ends-later, come-to-end, writes-laid}
use Rattle.thread_session.specs.session_run.RoomForThreads.{HasRoomFor}
use Rattle.thread_session.proofs.LinesWithPostsLaws.{served-count, served-numbers, served-few, workers-end}
use Rattle.thread_session.proofs.LinesWithPostsLaws.{done-workers, told-laid, still-as-many}
use Rattle.thread_session.proofs.session_run.opened_session.run_opened.Given as given
use Rattle.thread_session.proofs.session_run.opened_session.run_opened.Goals as goal
use Rattle.thread_session.proofs.session_run.opened_session.run_opened.Goals.{After-into_state}

pub lines_beside-lines-requires-clause-numbers : goal.lines_beside-lines-requires-clause-numbers
lines_beside-lines-requires-clause-numbers g c κs within k line there =
    served-numbers c.args.opened.lines.items c.serve_lines-lines.result.items c.serve_lines-lines.ensures.workers
    (λ k worker there. (c.requires.open.lines.lines k worker there).number) k line there

pub lines_beside-lines-requires-clause-room : goal.lines_beside-lines-requires-clause-room
lines_beside-lines-requires-clause-room g c κs within =
    subst (λ (n : ℕ). HasRoomFor n (vec_len c.args.opened.kit.flags.lines) c.args.opened.kit.room)
    (sym (served-count c.args.opened.lines c.serve_lines-lines.result c.serve_lines-lines.ensures.workers))
    c.requires.kit.room

pub split_lines-lines-requires : goal.split_lines-lines-requires
split_lines-lines-requires g c =
    let grown = zip-then IsServedLater served-then c.serve_lines-lines.result.items _ c.finish.new.lines.items
    c.lines_beside-lines.ensures.lines c.finish.ensures.lines in
    let few = served-few c.args.opened.lines c.serve_lines-lines.result c.finish.new.lines
    c.serve_lines-lines.ensures.workers grown in
    let workers = c.requires.kit.places.workers in
    let posts = c.requires.kit.places.posts in
    record {
      workers = (workers.0, omega (arith, few, workers.1));
      posts = (posts.0, omega (arith, few, posts.1));
    }

-- all have done what they had to do, and the group is no longer behind its lock
module _ (g : given.Over) (c : After-into_state g) where
  -- the group is bound to the script and to the ends of the opening
  own : IsBound (leg_of c.args.script.now) c.args.opened.group.tx.items
      (c.args.opened.group.back ∷ []) c.into_state.result
  own = bound-own _ _ _ c.args.script.now c.args.opened.group _ c.requires.session c.into_state.ensures.bound

  -- how the session began
  abbrev first : Begun
  first = begun_of g.K.ByteSink.written g.K.ByteSink.faults c.args.out.now c.new-duty.result.out.ghost_name
      c.args.opened.sink c.args.log

  -- the duty once the threads have ended
  beside : StandsFor g.K.ByteSink.written g.K.ByteSink.faults first c.lines_beside-lines.result.1.out.ghost_name
      c.lines_beside-lines.result.1.sink c.lines_beside-lines.result.1.out.now c.lines_beside-lines.result.1.log
  beside =
      let begins = run-begins c.args.script.now _ first.first first.name first.log c.requires.open.sink in
      c.lines_beside-lines.ensures.duty first (
        refl,
        handed-on g.K.ByteSink.written g.K.ByteSink.faults first c.args.opened.sink c.new-duty.result.sink
            c.args.out.now c.new-duty.result.out.now c.new-duty.ensures.sink c.new-duty.ensures.now begins,
        log-handed c.args.log c.new-duty.result.log c.new-duty.ensures.log,
      )

  -- the worker of the sink once nothing is left
  run : HasRunTo g.K.ByteSink.written g.K.ByteSink.faults first c.finish.new.sink c.finish.new.out
  run = c.finish.ensures.run first (handed-on g.K.ByteSink.written g.K.ByteSink.faults first _
      c.into_parts-sink.result.0 _ _ c.into_parts-sink.ensures.sink c.into_parts-sink.ensures.now beside.1)

  -- the lines, their workers and their posts are those of the opening, later
  grown : AreServedLater c.serve_lines-lines.result.items c.finish.new.lines.items
  grown = zip-then IsServedLater served-then _ _ _ c.lines_beside-lines.ensures.lines c.finish.ensures.lines

  later : AreLater c.args.opened.lines.items c.split_lines-lines.result.0.items
  later = workers-end c.args.opened.lines.items c.split_lines-lines.result.0.items c.serve_lines-lines.result.items
      c.finish.new.lines.items c.serve_lines-lines.ensures.workers c.split_lines-lines.ensures.workers grown

  posts : AllZip SamePost c.args.posts.items c.split_lines-lines.result.1.items
  posts = subst (λ l. AllZip SamePost l c.split_lines-lines.result.1.items) c.serve_lines-lines.ensures.posts
      (subst (AllZip SamePost (posts_of c.serve_lines-lines.result.items)) (sym c.split_lines-lines.ensures.posts)
      (posts-later c.serve_lines-lines.result.items c.finish.new.lines.items grown))

pub lay_beside-requires : goal.lay_beside-requires
lay_beside-requires g c =
    let ends = ends-later c.args.script.now c.args.opened.group _ c.args.opened.sink c.requires.open _
    c.split_lines-lines.result.0.items c.finish.new.sink (own g c) (later g c) (run g c).later in
    record { sends = ends.sends; receives = ends.receives; returns = ends.returns; count = ends.count }

pub returns-clause-end : goal.returns-clause-end
returns-clause-end g c =
    let at = (goal.at.returns-clause-end g c).After-into_state in
    come-to-end c.args.script.now _ _ _ c.requires.open _ _ _ (own g at) (later g at) (run g at).later
    (subst (λ (group : GroupState). total_of group ≤ ticks_of group) (sym c.into_state.ensures.same)
    c.finish.ensures.done.made) (done-workers _ c.finish.new.lines.items c.split_lines-lines.ensures.workers
    c.finish.ensures.done.carried) c.finish.ensures.done.taken (run g at).stands c.lay_beside.result.group
    c.lay_beside.result.lines.items c.lay_beside.result.sink c.lay_beside.ensures

pub returns-clause-written : goal.returns-clause-written
returns-clause-written g c =
    let at = (goal.at.returns-clause-written g c).After-into_state in
    let ended = handed-on g.K.ByteSink.written g.K.ByteSink.faults (first g at) c.finish.new.sink c.finish.new.sink
    c.finish.new.out c.take_back.new.out refl c.take_back.ensures (run g at) in
    let whole : Writes g.K.ByteSink.written g.K.ByteSink.faults false
    (has_failed c.lay_beside.result.sink) c.args.out.now c.take_back.new.out
    (got_texts (given_frames (options_of c.lay_beside.result.sink) (size_of c.lay_beside.result.sink)
    (cells_of c.lay_beside.result.sink) (taken_of c.lay_beside.result.sink))) =
    writes-laid _ g.K.ByteSink.faults c.args.out.now c.take_back.new.out c.into_state.result _ _ _
    c.finish.new.sink _ c.lay_beside.ensures (run-writes g.K.ByteSink.written g.K.ByteSink.faults
    c.args.out.now c.take_back.new.out (first g at) c.finish.new.sink refl ended) in
    let named = c.into_parts-sink.ensures.name ∙ (beside g at).0 ∙ c.new-duty.ensures.name in
    search (rules, whole, named)

pub returns-clause-posts : goal.returns-clause-posts
returns-clause-posts g c = posts g (goal.at.returns-clause-posts g c).After-into_state

pub returns-clause-log : goal.returns-clause-log
returns-clause-log g c =
    subst (IsLogLater c.args.log) (sym c.into_parts-sink.ensures.log)
    (beside g (goal.at.returns-clause-log g c).After-into_state).2

pub returns-clause-told : goal.returns-clause-told
returns-clause-told g c = λ size.
    let at = (goal.at.returns-clause-told g c).After-into_state in
    let own = c.split_lines-lines.result.0 in
    let through = c.split_lines-lines.result.1 in
    told-laid c.into_state.result _ own.items _ c.finish.new.sink c.lay_beside.result.sink through.items
    c.lay_beside.ensures (c.split_lines-lines.ensures.told
    (still-as-many c.args.opened.lines own c.args.posts through (later g at) (posts g at) size))
