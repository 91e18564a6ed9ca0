-- The source side takes the return cell.
use Rattle.std.proofs.Common.{◌<◌, length, sym, ◌∙◌, ap, subst}
use Rattle.terminal_group.specs.ReturnInbox.{with_come}
use Rattle.terminal_group.specs.SourceByCounts.{Counted}
use Rattle.walk_engine.specs.Common.{Parts, sent_frames}
use Rattle.walk_engine.proofs.walk_core.one_way.WayCore.put.Goals as goal

pub put-requires-clause-room : goal.put-requires-clause-room
put-requires-clause-room c =
    subst (λ (p : Parts). length p.source.inbox.cells < p.source.inbox.room) (sym c.self.view_is) c.requires.room

pub put-requires-clause-few : goal.put-requires-clause-few
put-requires-clause-few c =
    subst (λ (p : Parts). p.source.inbox.come < 4294967295) (sym c.self.view_is) c.requires.few

pub returns : goal.returns
returns c =
    let f = c.self.inside in
    let now : Parts = record {
      source = f.source;
      sent = sent_frames f.sent;
      lines = f.lines.items;
      rows = f.rows;
      sink = f.sink;
      got = f.got;
    } in
    ap (λ (s : Counted). record now { source = s }) c.put.ensures
    ∙ ap (λ (p : Parts). record p
    { source = record p.source { inbox = with_come p.source.inbox c.args.cell } }) c.self.view_is
