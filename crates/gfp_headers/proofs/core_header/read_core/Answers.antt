-- The PLI that is read is that of the octets, so where it gives no header, none does.
use Rattle.std.proofs.Common.{sym, ap, ◌∙◌}
use Rattle.std.proofs.lemmas.Nat.{be_bytes_4}
use Rattle.law_model.specs.Common.{head}
use Rattle.law_model.proofs.CoreHeaderLaws.{head-core_header}
use Rattle.law_model.proofs.CoreHeaderLaws.{header_read, no_other, no_head}
use Rattle.gfp_headers.proofs.core_header.read_core.Goals as goal

pub returns-then-is_core-clause-some : goal.returns-then-is_core-clause-some
returns-then-is_core-clause-some c =
    let word = c.from_be_bytes-header.result in
    let is = be_bytes_4 c.args.octets.now word c.told-octets c.fits-octets c.from_be_bytes-header.ensures in
    let right = c.is_core.ensures.0 c.if-is_core.true in
    (right.0, header_read c.args.octets.now word is c.from_be_bytes-header.type_inv right.1)

pub returns-then-is_core-clause-value : goal.returns-then-is_core-clause-value
returns-then-is_core-clause-value c =
    let found = returns-then-is_core-clause-some c in
    sym (head-core_header _ found.0) ∙ ap head found.1

pub returns-else-is_core-clause-none : goal.returns-else-is_core-clause-none
returns-else-is_core-clause-none c =
    let word = c.from_be_bytes-header.result in
    let is = be_bytes_4 c.args.octets.now word c.told-octets c.fits-octets c.from_be_bytes-header.ensures in
    no_other c.args.octets.now word is c.from_be_bytes-header.type_inv
    (λ p e. let is_true = c.is_core.ensures.1 (p, e) in absurd cc)

pub returns-else-is_core-clause-value : goal.returns-else-is_core-clause-value
returns-else-is_core-clause-value c = sym (no_head c.args.octets.now (returns-else-is_core-clause-none c))
