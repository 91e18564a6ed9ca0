-- A line has other windows.
use Rattle.std.proofs.Common.{◌<◌, [], length, refl, slice_index_or, slice_set, sym, ◌∙◌, ap, subst}
use Rattle.law_model.specs.declared.script_types.Script.{Script}
use Rattle.law_model.specs.session.Scenario.{packets_in}
use Rattle.member_path.specs.failure_window.OpenWindows.{CanClose, closed_at}
use Rattle.law_pair.specs.Common.{counts_on, way_of}
use Rattle.law_pair.specs.declared.pair_events.Way.TheVariants.{There, Back}
use Rattle.walk_engine.specs.Common.{windows_in}
use Rattle.pair_engine.specs.LivePairs.{IsLivePair, PairLives, PairWalking, WayWalking, walking_counts, walking_on}
use Rattle.pair_engine.specs.LivePairs.{way_beside, windows_of_way}
use Rattle.pair_engine.specs.Ways.{walking_both, walking_of}
use Rattle.pair_engine.proofs.LivePairLaws.{damaged-counts, damaged-lives, some-on, still-damaged, with_way}
use Rattle.pair_engine.proofs.live_pair.LivePair.mend.Goals as goal

pub mend-requires : goal.mend-requires
mend-requires c =
    let was = sym c.self.view_is in
    record {
      line = subst (λ (p : PairWalking). c.args.line < length p.there.core.lines) was
          (subst (λ way. c.args.line < length (walking_on c.args.self.now way).core.lines) c.in-There.is
          c.requires.line);
      stands = some-on (walking_both c.self.inside.there c.self.inside.back) There
          (subst IsLivePair was c.requires.lives);
      cut = subst (λ (p : PairWalking). CanClose (slice_index_or (windows_in p.there.core.lines) c.args.line [])
          p.there.core.source.core.ticks) was
          (subst (λ way. CanClose (slice_index_or (windows_of_way c.args.self.now way) c.args.line [])
          (counts_on (walking_counts c.args.self.now) way).ticks) c.in-There.is c.requires.cut);
    }

pub returns-in-There : goal.returns-in-There
returns-in-There c =
    let f = c.self.inside in
    let pair : PairWalking = walking_both f.there f.back in
    let e = c.mend.ensures in
    let now : WayWalking = record (walking_of f.there) { core = c.mend.new.self } in
    let still = still-damaged (walking_of f.there) now refl refl refl e.rest in
    let backs = packets_in f.there.core.sink.taken in
    record {
      lives = subst (λ (p : PairWalking). (one other : Script) → PairLives one other p →
          PairLives one other (with_way pair There now)) c.self.view_is
          (λ one other lives. damaged-lives one other pair There now lives still
          (e.stands (way_of one other) backs lives.there_way.stands) (e.counts backs));
      counts = damaged-counts pair There now still.rows (e.counts backs) ∙ ap walking_counts c.self.view_is;
      windows = ap (windows_of_way (with_way pair There now)) c.in-There.is ∙ e.windows
          ∙ ap (λ (p : PairWalking). slice_set (windows_of_way p There) c.args.line
          (closed_at (slice_index_or (windows_of_way p There) c.args.line [])
          (counts_on (walking_counts p) There).ticks)) c.self.view_is
          ∙ ap (λ way. slice_set (windows_of_way c.args.self.now way) c.args.line
          (closed_at (slice_index_or (windows_of_way c.args.self.now way) c.args.line [])
          (counts_on (walking_counts c.args.self.now) way).ticks)) (sym c.in-There.is);
      beside = ap (λ way. windows_of_way (with_way pair There now) (way_beside way)) c.in-There.is
          ∙ ap (λ (p : PairWalking). windows_of_way p Back) c.self.view_is
          ∙ ap (λ way. windows_of_way c.args.self.now (way_beside way)) (sym c.in-There.is);
    }

pub mend-requires-in-Back : goal.mend-requires-in-Back
mend-requires-in-Back c =
    let was = sym c.self.view_is in
    record {
      line = subst (λ (p : PairWalking). c.args.line < length p.back.core.lines) was
          (subst (λ way. c.args.line < length (walking_on c.args.self.now way).core.lines) c.in-Back.is
          c.requires.line);
      stands = some-on (walking_both c.self.inside.there c.self.inside.back) Back
          (subst IsLivePair was c.requires.lives);
      cut = subst (λ (p : PairWalking). CanClose (slice_index_or (windows_in p.back.core.lines) c.args.line [])
          p.back.core.source.core.ticks) was
          (subst (λ way. CanClose (slice_index_or (windows_of_way c.args.self.now way) c.args.line [])
          (counts_on (walking_counts c.args.self.now) way).ticks) c.in-Back.is c.requires.cut);
    }

pub returns-in-Back : goal.returns-in-Back
returns-in-Back c =
    let f = c.self.inside in
    let pair : PairWalking = walking_both f.there f.back in
    let e = c.mend-in-Back.ensures in
    let now : WayWalking = record (walking_of f.back) { core = c.mend-in-Back.new.self } in
    let still = still-damaged (walking_of f.back) now refl refl refl e.rest in
    let backs = packets_in f.back.core.sink.taken in
    record {
      lives = subst (λ (p : PairWalking). (one other : Script) → PairLives one other p →
          PairLives one other (with_way pair Back now)) c.self.view_is
          (λ one other lives. damaged-lives one other pair Back now lives still
          (e.stands (way_of other one) backs lives.back_way.stands) (e.counts backs));
      counts = damaged-counts pair Back now still.rows (e.counts backs) ∙ ap walking_counts c.self.view_is;
      windows = ap (windows_of_way (with_way pair Back now)) c.in-Back.is ∙ e.windows
          ∙ ap (λ (p : PairWalking). slice_set (windows_of_way p Back) c.args.line
          (closed_at (slice_index_or (windows_of_way p Back) c.args.line [])
          (counts_on (walking_counts p) Back).ticks)) c.self.view_is
          ∙ ap (λ way. slice_set (windows_of_way c.args.self.now way) c.args.line
          (closed_at (slice_index_or (windows_of_way c.args.self.now way) c.args.line [])
          (counts_on (walking_counts c.args.self.now) way).ticks)) (sym c.in-Back.is);
      beside = ap (λ way. windows_of_way (with_way pair Back now) (way_beside way)) c.in-Back.is
          ∙ ap (λ (p : PairWalking). windows_of_way p There) c.self.view_is
          ∙ ap (λ way. windows_of_way c.args.self.now (way_beside way)) (sym c.in-Back.is);
    }
