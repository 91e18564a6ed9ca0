-- One member more has the octets of idle frames, and where all have them the row does.
use Rattle.std.proofs.Common.{◌≡◌, ℕ, List, ◌+◌, ◌*◌, ◌%◌, length, slice_index, sym, ◌∙◌, subst, arith, inl, inr}
use Rattle.std.proofs.lemmas.Bool.{cases_lt}
use Rattle.law_model.specs.Common.{core_header, Container}
use Rattle.member_cells.specs.HeldPlaces.{held}
use Rattle.member_rows.specs.vcat_interleave.MemberPayloads.{payload_at}
use Rattle.terminal_sink.proofs.ReceivedOctetAndDealtIdleLaws.{idles-dealt}
use Rattle.terminal_sink.proofs.sink_core.octets_of_row.are_idle.Goals as goal

pub loop-rank-preserved : goal.loop-rank-preserved
loop-rank-preserved c rank p below low =
    let containers : List Container = held c.args.containers.now in
    let active : List ℕ = c.args.active.now in
    elim (cases_lt rank c.loop-rank.rank) [
      | inl before ↦ c.loop-rank.invariant rank p before low
      | inr after ↦ (
          let same : rank ≡ c.loop-rank.rank = omega arith in
          subst (λ r. slice_index (payload_at containers (slice_index active r)) (c.args.place + p) ≡ slice_index
          (core_header 0) ((c.args.have + r + p % 8 * length active) % 4)) (sym same)
          (c.carries_word.ensures c.if-not-carries_word.false p low ∙ c.idle_word.ensures (p % 8) (omega arith)))
    ]

pub returns : goal.returns
returns c = λ _.
    idles-dealt c.args.have c.args.place c.args.places (held c.args.containers.now) c.args.active.now c.requires.have
    c.requires.eights
    (λ rank p below low. c.loop-rank.invariant rank p (omega (arith, below, c.loop-rank-test.false)) low)
