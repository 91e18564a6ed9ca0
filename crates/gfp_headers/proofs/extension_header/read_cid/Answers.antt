-- The two words are those that the octets say.
use Rattle.std.proofs.Common.{refl}
use Rattle.gfp_headers.proofs.ExtensionHeaderLaws.{cid_fault-none, cid_fault-some}
use Rattle.gfp_headers.proofs.extension_header.read_cid.Goals as goal

pub returns-then-said-found-clause-value : goal.returns-then-said-found-clause-value
returns-then-said-found-clause-value c =
    rw (cid_fault-none c.args.octets.now c.word.result c.word-said.result c.hec-found.result c.word.ensures
    c.word-said.ensures c.hec-found.ensures.value c.if-said-found.true) refl

pub returns-else-said-found-clause-value : goal.returns-else-said-found-clause-value
returns-else-said-found-clause-value c =
    rw (cid_fault-some c.args.octets.now c.word.result c.word-said.result c.hec-found.result c.word.ensures
    c.word-said.ensures c.hec-found.ensures.value c.if-said-found.false) refl
