-- A look at both ends of each ring.
use Rattle.std.proofs.Common.{refl}
use Rattle.law_model.specs.Common.{leg_of}
use Rattle.thread_group.proofs.GroupRingEndLookLaws.{keeps-laid, bound-laid}
use Rattle.thread_session.proofs.SessionRingEndsAndSinkRunLaws.{mid-receives, stands-laid, rings-laid}
use Rattle.thread_session.proofs.session_run.opened_session.lay_beside.Goals as goal

pub lay_receives-requires-clause-ends : goal.lay_receives-requires-clause-ends
lay_receives-requires-clause-ends c =
    mid-receives c.args.group.tx.items c.lay_sends.new.tx.items c.args.lines.items c.lay_sends.new.workers.items
    c.args.sink.rx.items c.lay_sends.ensures c.requires.count.0 c.requires.receives

pub invariant_of-group : goal.invariant_of-group
invariant_of-group c =
    let laid = rings-laid _ _ _ _ _ _ _ c.lay_sends.ensures c.lay_receives.ensures c.requires.count.0
    c.requires.count.1 in
    record {
      lines = c.args.group.lines;
      keeps = keeps-laid _ _ _ c.beside.new.self c.args.group.keeps laid.still c.beside.ensures.popped;
    }

pub returns : goal.returns
returns c =
    let laid = rings-laid _ _ _ _ _ _ _ c.lay_sends.ensures c.lay_receives.ensures c.requires.count.0
    c.requires.count.1 in
    record {
      landed = λ script tx back is. bound-laid
          (leg_of script) c.args.group c.lay_sends.new.tx c.beside.new.self _ _ laid.still
          c.beside.ensures.same_in c.beside.ensures.popped tx back is;
      ticks = refl;
      tx_count = c.lay_sends.ensures.first_count;
      count = laid.count;
      rx_count = c.lay_receives.ensures.second_count;
      workers = laid.lines;
      send_ends = laid.send_ends;
      receive_ends = laid.receive_ends;
      return_ends = c.beside.ensures.ends;
      sends = laid.sends;
      receives = laid.receives;
      returns = c.beside.ensures.fifo;
      cells = laid.cells;
      lines_same = refl;
      size = refl;
      options = refl;
      rows = refl;
      taken = refl;
      failed = refl;
      stands = λ stands. stands-laid c.args.sink _ refl refl refl c.lay_receives.ensures.second_count laid.cells
          c.beside.ensures.pushed stands;
    }
