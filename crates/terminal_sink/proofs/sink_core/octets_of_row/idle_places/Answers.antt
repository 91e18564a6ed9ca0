-- The idles that are left change nothing, and neither do no octets at all.
use Rattle.std.proofs.Common.{ℕ, ◌-◌, ◌*◌, ◌/◌, length, sym, subst}
use Rattle.member_cells.specs.HeldPlaces.{held}
use Rattle.law_model.specs.Common.{octets_from}
use Rattle.member_rows.specs.vcat_interleave.MemberPayloads.{payloads_of}
use Rattle.member_rows.proofs.RowPartAndLaneLaws.{octets_from-none}
use Rattle.gfp_delineate.specs.Repeated.{idles_from}
use Rattle.terminal_sink.specs.sink_core.RowsInReceiver.{IsIdle}
use Rattle.terminal_sink.proofs.ReceivedOctetAndDealtIdleLaws.{idle-none, idle-by}
use Rattle.terminal_sink.proofs.sink_core.octets_of_row.idle_places.Goals as goal

pub returns-in-Some-clause-idle : goal.returns-in-Some-clause-idle
returns-in-Some-clause-idle c =
    let places : ℕ = (c.args.size - c.args.place) / 8 * 8 in
    let have : ℕ = c.in-Some.have in
    let count : ℕ = places / 4 * length c.args.active.now in
    subst (IsIdle c.args.delineator.now) (sym (c.are_idle.ensures c.if-are_idle.true))
    (idle-by c.args.delineator.now (idles_from have count) (c.in-Some.ensures.stays count))

pub returns-in_default-clause-idle : goal.returns-in_default-clause-idle
returns-in_default-clause-idle c =
    let parts = payloads_of (held c.args.containers.now) c.args.active.now in
    idle-none c.args.delineator.now (octets_from c.args.place 0 parts) (octets_from-none c.args.place parts)

pub returns-in_default-2-clause-idle : goal.returns-in_default-2-clause-idle
returns-in_default-2-clause-idle c =
    let parts = payloads_of (held c.args.containers.now) c.args.active.now in
    idle-none c.args.delineator.now (octets_from c.args.place 0 parts) (octets_from-none c.args.place parts)
