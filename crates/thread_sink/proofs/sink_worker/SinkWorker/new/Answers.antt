-- Nothing came, and no row was taken.
use Rattle.std.proofs.Common.{sym, ◌∙◌, subst, arith}
use Rattle.std.proofs.lemmas.List.{length-map}
use Rattle.member_rows.specs.realign_rows.Gather.{GatherStands as Gathers}
use Rattle.thread_rings.specs.EndsOfRing.{in_passed}
use Rattle.thread_sink.specs.ReceivedByRings.{received}
use Rattle.thread_sink.proofs.SinkStepAndFrameLaws.{backs-none, frames-none}
use Rattle.thread_sink.proofs.sink_worker.SinkWorker.new.Goals as goal

pub returns-clause-stands : goal.returns-clause-stands
returns-clause-stands c =
    let cells = received c.args.rx.items in
    let rows = c.in_ok-rows.ensures in
    let core = c.in_ok-core.ensures in
    let none = frames-none c.in_ok-core.core.options c.in_ok-core.core.size cells c.in_ok-core.core.taken core.taken in
    record {
      keeps = record {
        gathers = subst (Gathers c.in_ok-rows.rows) (sym c.requires.fresh) rows.stands;
        stands = core.stands cells (length-map c.args.rx.items in_passed ∙ c.requires.rings);
        lines = rows.lines ∙ sym core.lines;
        rings = c.requires.rings ∙ sym core.lines;
        rows = rows.rows ∙ sym core.taken;
        sent = c.requires.back ∙ sym (backs-none c.in_ok-core.core.options cells c.in_ok-core.core.taken core.taken);
      };
      counted = omega (arith, none);
    }
