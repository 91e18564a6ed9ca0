-- A place that is written is no other one of the rank, and none of another rank.
use Rattle.std.proofs.Common.{◌≢◌, ◌+◌, ◌*◌, ◌%◌, ◌<◌, length, get_or-set_other, get_or-set_same, below_more, ◌∙◌, ap}
use Rattle.std.proofs.Common.{arith}
use Rattle.member_rows.proofs.RowPartAndLaneLaws.{rank-place, other-place, within-row}
use Rattle.member_rows.proofs.vcat_interleave.octets_of_member.put_rank.Goals as goal

pub loop-p-preserved : goal.loop-p-preserved
loop-p-preserved c =
    let x = c.args.x in
    let q = c.loop-p.p in
    let rank = c.args.rank in
    record {
      placed = below_more _ _
          (λ p before. let other : p * x + rank ≢ q * x + rank = other-place x p q rank c.requires.rank (omega arith) in
          rw get_or-set_other (c.loop-p.invariant.placed p before))
          (let within : q * x + rank < length c.loop-p.row =
          omega (arith, within-row x (length c.args.octets.now) q rank c.loop-p-test.true c.requires.rank) in
          rw get_or-set_same);
      others = λ i apart.
          let other : i ≢ q * x + rank =
          (λ same. apart (ap (λ n. n % x) same ∙ (rank-place x q rank c.requires.rank).0)) in
          rw get_or-set_other (c.loop-p.invariant.others i apart);
    }
