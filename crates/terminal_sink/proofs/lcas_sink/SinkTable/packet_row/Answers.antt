-- Each field of the return packet is what the rows give with this one behind them.
use Rattle.std.proofs.Common.{◌≡◌, ◌≤◌, ◌+◌, ◌*◌, ◌%◌, [], ◌∷◌, ◌++◌, length, take, sym, ◌∙◌, ap, subst, arith}
use Rattle.std.proofs.Common.{length-append}
use Rattle.law_model.specs.Common.{leader, ack_by, return_of, status_of}
use Rattle.terminal_sink.specs.member_watch.Watches.{is_told, mst_by}
use Rattle.terminal_sink.specs.lcas_sink.SinkStates.{Sink, SinkTableStands}
use Rattle.terminal_sink.proofs.WatchTimerAndLastWordLaws.{ack-more, changed-by}
use Rattle.terminal_sink.proofs.SinkStateAndMemberStatusLaws.{states-more, told-rows, mst-same, return-fields}
use Rattle.terminal_sink.proofs.ActiveLineAndSupposedCarrierLaws.{carriers-last}
use Rattle.terminal_sink.proofs.lcas_sink.SinkTable.packet_row.Goals as goal

pub returns-clause-stands : goal.returns-clause-stands
returns-clause-stands c rows stands =
    let f = c.self.inside in
    let row = c.args.row.now in
    let before = subst (λ v. SinkTableStands v rows) (sym c.self.view_is) stands in
    let lines : length row ≡ f.lines = c.requires.lines ∙ sym (ap (λ (sink : Sink). sink.lines) c.self.view_is) in
    let watched = c.watch_packets.ensures rows (λ line low. before.watches line (omega arith))
    (changed-by rows row f.ack c.ack_after-ack.result before.ack c.ack_after-ack.ensures) in
    let stated = states-more c.take_packets.new.states f.states rows row
    (λ line past. c.self.invariant.2 line (omega arith)) before.states c.take_packets.ensures in
    let size = length-append rows (row ∷ []) in
    record {
      taken = omega (arith, before.taken, size);
      ack = c.ack_after-ack.ensures ∙ ap (λ ack. ack_by ack (leader row)) before.ack ∙ sym (ack-more rows row);
      states = stated;
      watches = λ line low. watched line (omega arith);
      carriers =
          c.known_carriers-self-inside.ensures.known rows stated watched ∙ sym (carriers-last f.options rows row);
    }

pub returns-clause-packet : goal.returns-clause-packet
returns-clause-packet c rows stands =
    let f = c.self.inside in
    let row = c.args.row.now in
    let watches = c.watch_packets.new.watches in
    let before = subst (λ v. SinkTableStands v rows) (sym c.self.view_is) stands in
    let lines : length row ≡ f.lines = c.requires.lines ∙ sym (ap (λ (sink : Sink). sink.lines) c.self.view_is) in
    let room : length row ≤ length watches = omega arith in
    let watched = c.watch_packets.ensures rows (λ line low. before.watches line (omega arith))
    (changed-by rows row f.ack c.ack_after-ack.result before.ack c.ack_after-ack.ensures) in
    return-fields f.options rows row f.taken c.member_status.result f.ack c.ack_after-ack.result before.taken before.ack
    (c.member_status.ensures
    ∙ ap (λ n. mst_by (take (length row) watches) (8 * (f.taken % n))) c.from.ensures
    ∙ mst-same (is_told (take (length row) watches)) (status_of f.options (rows ++ row ∷ []) (length rows))
    (8 * (f.taken % f.options.statuses)) (λ sq. told-rows f.options rows row watches sq room watched))
    c.ack_after-ack.ensures
    ∙ ap (λ (v : Sink). return_of v.options (rows ++ row ∷ []) (length rows)) c.self.view_is
