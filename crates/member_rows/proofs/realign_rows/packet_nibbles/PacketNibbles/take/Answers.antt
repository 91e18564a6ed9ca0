-- The nibbles, one number later.
use Rattle.std.proofs.Common.{sym, ◌∙◌, subst}
use Rattle.member_rows.specs.realign_rows.BegunNibbles.{HasNibbles}
use Rattle.member_rows.proofs.BegunPacketNibbleLaws.{takes-some, takes-none}
use Rattle.member_rows.proofs.realign_rows.packet_nibbles.PacketNibbles.take.Goals as goal

pub returns-in-Some : goal.returns-in-Some
returns-in-Some c = record {
  nibbles = λ own t has place is.
      let inside = c.self.inside in
      let before = subst (λ v. HasNibbles v own t) (sym c.self.view_is) has in
      rw c.goes_on-self-inside.ensures
      (takes-some inside.nibbles inside.whole own t c.args.j c.in-Some.nibble c.self.told before place
      (is ∙ c.in-Some.is));
}

pub returns-in-None : goal.returns-in-None
returns-in-None c = record {
  nibbles =
      λ own t has place is. takes-none c.self.inside.nibbles c.self.inside.whole own t (is ∙ c.in-None.is);
}
