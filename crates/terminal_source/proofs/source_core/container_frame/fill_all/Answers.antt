-- The row of one member is put into its container, that of several is spread.
use Rattle.std.proofs.Common.{◌≡◌, ℕ, ◌+◌, ◌*◌, ◌<◌, List, refl, take, drop, length, slice_index, slice_index_or}
use Rattle.std.proofs.Common.{slice_set, sym, ◌∙◌, ap, subst, arith, length-take-le}
use Rattle.std.proofs.lemmas.List.{length-map}
use Rattle.law_model.specs.Common.{stream_of, reached, part_of}
use Rattle.std.specs.Box.{with_value}
use Rattle.member_cells.specs.HeldPlaces.{held}
use Rattle.member_rows.specs.vcat_interleave.MemberPayloads.{with_octets}
use Rattle.member_rows.specs.vcat_interleave.Spread.{Spreads}
use Rattle.member_rows.proofs.PutOctetAndRowSpreadLaws.{held-at, held-set, lines-stay}
use Rattle.terminal_source.proofs.DealtFrameContainerLaws.{spreads-one, next-size}
use Rattle.terminal_source.proofs.source_core.container_frame.fill_all.Goals as goal

pub returns-in-len1-clause-spreads : goal.returns-in-len1-clause-spreads
returns-in-len1-clause-spreads c stream place stands =
    let size = c.args.size in
    let active = c.args.active.now in
    let one : length active ≡ 1 = omega (arith, c.in-len1.len_at_least, c.in-len1.len_below) in
    let all : size * length active ≡ size = ap (λ x. size * x) one ∙ (let e : size * 1 ≡ size = omega arith in e) in
    let octets : List ℕ = take size (drop place (stream_of (reached (place + size) stream).pieces)) in
    let next = (c.fill_one.ensures.stands stream place stands).octets.within in
    let out = c.args.out.now in
    let own = c.index-out-from.result in
    let after = slice_set out c.from.result (with_value (slice_index_or out c.from.result own) c.fill_one.new.container)
    in
    let first : slice_index active 0 < length out = c.requires.members.among 0 (omega (arith, one)) in
    let low : c.from.result < length out = omega (arith, first, c.from.ensures) in
    subst (λ n. Spreads 0 size (take n (drop place (stream_of (reached (place + n) stream).pieces))) active (held out)
    (held after)) (sym all)
    (spreads-one size octets active (held out) (held after) one c.requires.members.distinct
    (lines-stay (length out) out active refl c.requires.members.among)
    (next-size place size (reached (place + size) stream).pieces next)
    (λ d. held-set out c.from.result (with_value (slice_index_or out c.from.result own) c.fill_one.new.container)
    ∙ ap (slice_set (held out) c.from.result)
    (c.fill_one.ensures.octets stream place stands
    ∙ ap (with_octets 0 octets) (c.container_mut-container.ensures.value ∙ c.deref_mut.ensures.value
    ∙ sym (held-at out c.from.result own d low)))
    ∙ ap (λ n. slice_set (held out) n (with_octets 0 octets (slice_index_or (held out) n d))) c.from.ensures))

pub returns-in_default-clause-spreads : goal.returns-in_default-clause-spreads
returns-in_default-clause-spreads c stream place stands =
    let active = c.args.active.now in
    let out = c.args.out.now in
    let after = c.spread_places.new.containers in
    let len = c.args.size * length active in
    let count : length (take len c.args.row.now) ≡ len = length-take-le len c.args.row.now c.requires.room in
    let octets : c.fill.new.out ≡ take len (drop place (stream_of (reached (place + len) stream).pieces)) =
    c.fill.ensures.octets stream place stands
    ∙ ap (λ n. take n (drop place (stream_of (reached (place + n) stream).pieces))) count in
    record {
      members = λ rank d from below. subst (λ row. slice_index_or (held after) (slice_index active rank) d
          ≡ with_octets 0 (part_of rank (length active) c.args.size row)
          (slice_index_or (held out) (slice_index active rank) d)) octets
          (c.spread_places.ensures.members rank d below);
      others = λ line d none. c.spread_places.ensures.others line d (λ rank below. none rank (omega arith) below);
      lines = length-map after (λ box. box.value) ∙ c.spread_places.auto.containers
          ∙ sym (length-map out (λ box. box.value));
    }
