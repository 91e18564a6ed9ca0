-- A type header with these two fields.
use Rattle.std.proofs.Common.{sym}
use Rattle.gfp_headers.proofs.TypeHeaderLaws.{header-fcs, type_fault-fcs}
use Rattle.gfp_headers.proofs.type_header.read_type_fcs.Goals as goal

pub returns-clause-value : goal.returns-clause-value
returns-clause-value c = rw (type_fault-fcs c.args.octets.now) c.read_with.ensures.value

pub returns-clause-ok : goal.returns-clause-ok
returns-clause-ok c = (rw (sym header-fcs) c.read_with.ensures.ok)
