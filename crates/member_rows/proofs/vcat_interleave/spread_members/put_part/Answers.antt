-- The part stands in the container in the box of the line.
use Rattle.std.proofs.Common.{◌∙◌, sym}
use Rattle.law_model.specs.Common.{part_of}
use Rattle.member_rows.proofs.RowPartAndLaneLaws.{length-part_of}
use Rattle.member_rows.proofs.PutOctetAndRowSpreadLaws.{put-in-box}
use Rattle.member_rows.proofs.vcat_interleave.spread_members.put_part.Goals as goal

pub returns-clause-put : goal.returns-clause-put
returns-clause-put c d =
    let part = part_of c.args.rank c.args.x c.args.places c.args.row.now in
    put-in-box c.args.containers.now c.args.line c.args.place c.args.places c.index-containers-line.result
    c.container_mut.result.now part c.put_piece.new.payload d
    c.requires.line (c.container_mut.ensures.value ∙ c.deref_mut.ensures.value)
    (sym (length-part_of c.args.rank c.args.x c.args.places c.args.row.now)) c.put_piece.ensures
