-- A line is opened over fresh rings.
use Rattle.std.proofs.Common.{sym, ◌∙◌, ap, subst, slice_index_or, ℕ, []}
use Rattle.thread_rings.specs.EndsOfRing.{OutEnd, out_passed, AreEnds}
use Rattle.law_model.specs.Common.{Cell}
use Rattle.thread_session.proofs.OpenedLineAndGroupLaws.{opened-own}
use Rattle.thread_session.proofs.session_parts.opened_lines.open_line.Goals as goal

pub new-worker-requires-clause-core : goal.new-worker-requires-clause-core
new-worker-requires-clause-core c = opened-own _ _ _ _ c.in_ok-core.ensures

pub returns : goal.returns
returns c =
    let config = c.args.config.now in
    let ends = c.in_ok-ends.ends in
    let stands = c.in_ok-core.ensures in
    let same = c.from.ensures in
    record {
      line = record {
        number = c.new-worker.ensures.line;
        delay = c.new-worker.ensures.delay ∙ stands.delay ∙ ap (λ (k : ℕ). slice_index_or config.delays k 0) same;
        windows = c.new-worker.ensures.windows ∙ stands.windows
            ∙ ap (λ (k : ℕ). slice_index_or config.windows k []) same;
        total = c.new-worker.ensures.total ∙ stands.total;
      };
      unused = c.in_ok-ends.ensures.send.pushed;
      fresh = c.in_ok-ends.ensures.receive.popped;
      slots = c.in_ok-ends.ensures.receive.in_slots;
      silent = ap out_passed c.new-worker.ensures.ends.1 ∙ c.in_ok-ends.ensures.receive.pushed;
      send = subst (AreEnds ends.tx) (sym c.new-worker.ensures.ends.0) c.in_ok-ends.ensures.send.ends;
      receive = subst (λ (out : OutEnd Cell). AreEnds out ends.rx_out) (sym c.new-worker.ensures.ends.1)
          c.in_ok-ends.ensures.receive.ends;
    }
