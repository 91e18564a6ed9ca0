-- Nothing has come of the group yet.
use Rattle.std.proofs.Common.{◌≡◌, length, sym, ◌∙◌, ap, arith}
use Rattle.terminal_group.specs.ReturnInbox.{Inbox, empty_inbox}
use Rattle.terminal_group.specs.Landed.{Landed}
use Rattle.thread_group.specs.GroupParts.{Parts, parts}
use Rattle.thread_group.proofs.GroupPartsAfterStepLaws.{keeps-begin}
use Rattle.thread_group.proofs.group_state.GroupState.from_opened.Goals as goal

pub invariant_of-result : goal.invariant_of-result
invariant_of-result c =
    let opened = c.args.opened in
    let source = opened.source in
    let m = c.requires.opened.source in
    let config = c.args.script.now.config in
    let network = c.requires.script.sound.network in
    let landing = c.requires.opened.landing in
    let at : Parts = parts source.core source.total opened.landing opened.journal source.inbox c.args.tx.items
    c.args.back in
    let most_ticks = network.ticks.1 in
    let most_lines = network.lines.1 in
    let most_lag = network.lag.1 in
    let lines = m.core.lines in
    let lag = m.core.lag in
    let total = m.total in
    let places = c.requires.opened.places in
    let inbox : source.inbox ≡ empty_inbox source.inbox.lost source.core.lag =
    m.inbox ∙ ap (λ l. empty_inbox l config.lag) (sym (ap (λ (i : Inbox). i.lost) m.inbox))
    ∙ ap (empty_inbox source.inbox.lost) (sym m.core.lag) in
    record {
      lines = ap (λ (l : Landed). l.lines) landing ∙ sym m.core.lines;
      keeps = keeps-begin at (length opened.frame.items) (omega arith) m.core.ticks (omega arith) (omega arith)
          (omega arith) (c.requires.rings ∙ sym m.core.lines) c.requires.sends c.requires.returns
          (ap (λ (l : Landed). l.frames) landing) (ap (λ (l : Landed). l.commands) landing)
          (ap (λ (l : Landed). l.refusals) landing)
          c.requires.opened.journal inbox
          (λ scenario fresh. m.core.made scenario
          (record {
            of_lines = fresh.of_lines ∙ m.core.lines;
            of_lag = fresh.of_lag ∙ m.core.lag;
            of_size = fresh.of_size ∙ m.core.size;
            of_statuses = fresh.of_statuses ∙ m.core.statuses;
            no_offers = fresh.no_offers;
            no_orders = fresh.no_orders;
            no_tells = fresh.no_tells;
          }));
    }

pub returns-clause-begun : goal.returns-clause-begun
returns-clause-begun c =
    let m = c.requires.opened.source in
    let landing = c.requires.opened.landing in
    record {
      of_script = record {
        lines = m.core.lines;
        lag = m.core.lag;
        size = m.core.size;
        statuses = m.core.statuses;
        total = m.total;
        lost =
            ap (λ (i : Inbox). i.lost) m.inbox;
        items = ap (λ (l : Landed). l.items) landing;
      };
      ticks = m.core.ticks;
      landed = (ap (λ (l : Landed). l.frames) landing, ap (λ (l : Landed). l.commands) landing);
      journal = c.requires.opened.journal;
      refusals = ap (λ (l : Landed). l.refusals) landing;
      inbox = ap (λ (i : Inbox). i.cells) m.inbox;
      made = λ scenario fresh. m.core.made scenario
          (record {
            of_lines = fresh.of_lines ∙ m.core.lines;
            of_lag = fresh.of_lag ∙ m.core.lag;
            of_size = fresh.of_size ∙ m.core.size;
            of_statuses = fresh.of_statuses ∙ m.core.statuses;
            no_offers = fresh.no_offers;
            no_orders = fresh.no_orders;
            no_tells = fresh.no_tells;
          });
    }
