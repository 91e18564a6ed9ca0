-- The nibbles are sixteen, so what is read is decided by their check and then by their code.
use Rattle.std.proofs.Common.{◌≡◌, ◌≢◌, Ok, sym, ◌∙◌, ap, arith}
use Rattle.law_model.specs.Common.{said_check, found_check, read_by}
use Rattle.law_model.proofs.PacketNibblesLaws.{are_nibbles-from, read_of-crc, read_of-checked, read_of-accepted}
use Rattle.law_model.proofs.PacketNibblesLaws.{accepted_cleared}
use Rattle.member_rows.proofs.lcas_packet.read.Goals as goal

pub returns-then-said-found-clause-value : goal.returns-then-said-found-clause-value
returns-then-said-found-clause-value c =
    let said = c.octet-said.ensures in
    let found = c.check-found.ensures in
    let other : said_check c.args.nibbles.now ≢ found_check c.args.nibbles.now =
    λ same. c.if-said-found.true (said ∙ same ∙ sym found) in
    let read = read_of-crc c.args.nibbles.now other in
    cc

pub returns-in-Some-clause-value : goal.returns-in-Some-clause-value
returns-in-Some-clause-value c =
    let nibbles = c.args.nibbles.now in
    let are = are_nibbles-from nibbles (omega arith) c.requires in
    let check : said_check nibbles ≡ found_check nibbles = sym c.octet-said.ensures ∙ c.if-said-found.false
    ∙ c.check-found.ensures in
    ap Ok c.packet_of.ensures ∙ sym
    (read_of-checked nibbles are check ∙ ap (λ ctrl. read_by ctrl nibbles) (sym c.in-Some.ensures.value))

pub returns-in-Some-clause-cleared : goal.returns-in-Some-clause-cleared
returns-in-Some-clause-cleared c =
    accepted_cleared c.args.nibbles.now c.packet_of.result
    (read_of-accepted c.args.nibbles.now c.packet_of.result (sym (returns-in-Some-clause-value c)))

pub returns-in-None-clause-value : goal.returns-in-None-clause-value
returns-in-None-clause-value c =
    let nibbles = c.args.nibbles.now in
    let are = are_nibbles-from nibbles (omega arith) c.requires in
    let check : said_check nibbles ≡ found_check nibbles = sym c.octet-said.ensures ∙ c.if-said-found.false
    ∙ c.check-found.ensures in
    sym (read_of-checked nibbles are check ∙ ap (λ ctrl. read_by ctrl nibbles) (sym c.in-None.ensures.value))
