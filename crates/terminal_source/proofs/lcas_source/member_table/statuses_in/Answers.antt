-- The eight statuses of an octet, bit by bit.
use Rattle.std.proofs.Common.{ap, sym, map, Some}
use Rattle.terminal_source.proofs.GroupBitAndReturnStatusLaws.{oks_in-bits}
use Rattle.terminal_source.proofs.lcas_source.member_table.statuses_in.Goals as goal

pub returns : goal.returns
returns c =
    rw (
      c.status_at.ensures,
      c.status_at-2.ensures,
      c.status_at-3.ensures,
      c.status_at-4.ensures,
      c.status_at-5.ensures,
      c.status_at-6.ensures,
      c.status_at-7.ensures,
      c.status_at-8.ensures,
    )
    (sym (ap (map Some) (oks_in-bits c.args.mst)))
