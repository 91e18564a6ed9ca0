-- The packet that all sixteen nibbles say.
use Rattle.std.proofs.Common.{sym, ◌∙◌, ap, subst}
use Rattle.std.specs.Result.{result_ok}
use Rattle.member_rows.specs.realign_rows.BegunNibbles.{HasNibbles}
use Rattle.member_rows.proofs.BegunPacketNibbleLaws.{packet-some}
use Rattle.member_rows.proofs.realign_rows.packet_nibbles.PacketNibbles.packet.Goals as goal

pub returns-then-self : goal.returns-then-self
returns-then-self c own t has last =
    let inside = c.self.inside in
    let before = subst (λ v. HasNibbles v own t) (sym c.self.view_is) has in
    c.ok.ensures.value ∙ ap result_ok c.read.ensures.value
    ∙ sym (packet-some inside.nibbles inside.whole own t c.if-self.true c.self.told before last)
