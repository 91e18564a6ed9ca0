-- The octets stand in the container in the box of the line.
use Rattle.std.proofs.Common.{◌∙◌, sym}
use Rattle.member_rows.proofs.PutOctetAndRowSpreadLaws.{put-in-box}
use Rattle.member_rows.proofs.vcat_interleave.spread_members.put_member.Goals as goal

pub returns-clause-put : goal.returns-clause-put
returns-clause-put c d =
    put-in-box c.args.containers.now c.args.line c.args.place 16 c.index-containers-line.result
    c.container_mut.result.now c.args.octets c.put_octets.new.out d
    c.requires.line (c.container_mut.ensures.value ∙ c.deref_mut.ensures.value)
    (sym c.fits-octets.0) c.put_octets.ensures.octets
