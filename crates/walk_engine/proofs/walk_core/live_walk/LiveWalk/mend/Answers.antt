-- A line has other windows.
use Rattle.std.proofs.Common.{◌<◌, [], length, slice_index_or, slice_set, sym, ◌∙◌, ap, subst}
use Rattle.member_path.specs.failure_window.OpenWindows.{CanClose, closed_at}
use Rattle.walk_engine.specs.Common.{Walking, LiveStands, Parts, counts_of, walking_counts, walking_of, windows_in}
use Rattle.walk_engine.proofs.DamagedWindowsSteps.{damaged-live}
use Rattle.walk_engine.proofs.WayEventAndToldSourceLaws.{is-live, way-stands}
use Rattle.walk_engine.proofs.walk_core.live_walk.LiveWalk.mend.Goals as goal

pub mend-requires : goal.mend-requires
mend-requires c =
    let was = sym c.self.view_is in
    record {
      line = subst (λ (w : Walking). c.args.line < length w.way.lines) was c.requires.line;
      stands = way-stands _ (is-live _ _ c.self.view_is c.requires.live);
      cut = subst (λ (w : Walking). CanClose (slice_index_or (windows_in w.way.lines) c.args.line [])
          w.way.source.core.ticks) was c.requires.cut;
    }

pub returns : goal.returns
returns c =
    let f = c.self.inside in
    let come = f.way.source.inbox.come in
    let e = c.mend.ensures in
    record {
      stands = λ leg stands.
          let is = subst (LiveStands leg) (sym c.self.view_is) stands in
          damaged-live leg (walking_of f.way f.ring f.last) c.mend.new.self is (e.stands leg come is.stands) e.rest
          (e.counts come);
      counts = ap (λ (p : Parts). counts_of c.mend.new.self p.source.inbox.come) e.rest
          ∙ e.counts come ∙ ap walking_counts c.self.view_is;
      windows = e.windows ∙ ap (λ (w : Walking). slice_set (windows_in w.way.lines) c.args.line
          (closed_at (slice_index_or (windows_in w.way.lines) c.args.line []) w.way.source.core.ticks)) c.self.view_is;
    }
