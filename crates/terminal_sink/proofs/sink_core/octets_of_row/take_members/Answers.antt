-- The octets of some places more.
use Rattle.std.proofs.Common.{◌≡◌, ℕ, List, ◌<◌, ◌≤◌, ◌+◌, ◌*◌, [], ◌∷◌, ◌++◌, length, take, get_or, sym, ◌∙◌, ap, ap₂}
use Rattle.std.proofs.Common.{subst, arith, take_all}
use Rattle.std.proofs.lemmas.Bool.Decides.{nat_tests}
use Rattle.std.proofs.lemmas.List.{nil_from_length}
use Rattle.law_model.specs.Common.{octets_from, Container}
use Rattle.member_rows.specs.vcat_interleave.MemberPayloads.{payloads_of, payload_at}
use Rattle.member_rows.proofs.RowPartAndLaneLaws.{length-octets_from, octets_from-add, octets_from-none}
use Rattle.member_rows.proofs.RowPartAndLaneLaws.{length-payloads}
use Rattle.terminal_sink.specs.sink_core.RowsInReceiver.{Grows, Gives}
use Rattle.member_cells.specs.HeldPlaces.{held}
use Rattle.gfp_delineate.proofs.OctetPieceAndIdleRunLaws.{take_one}
use Rattle.terminal_sink.proofs.ReceivedOctetAndDealtIdleLaws.{octets_from-single, long-enough, known-grows}
use Rattle.terminal_sink.proofs.ReceivedOctetAndDealtIdleLaws.{grows-none, grows-more, gives-none, gives-more}
use Rattle.terminal_sink.proofs.ReceivedOctetAndDealtIdleLaws.{idle-grows, idle-gives}
use Rattle.terminal_sink.proofs.sink_core.octets_of_row.take_members.Goals as goal

pub returns-then-is_empty : goal.returns-then-is_empty
returns-then-is_empty g c =
    let active = c.args.active.now in
    let parts = payloads_of (held c.args.containers.now) active in
    let zero : length active ≡ 0 = grind (arith, nat_tests, c.if-is_empty.ensures) in
    let many : length parts ≡ 0 = length-payloads (held c.args.containers.now) active ∙ zero in
    let none : octets_from 0 c.args.size parts ≡ [] =
    nil_from_length (octets_from 0 c.args.size parts)
    (length-octets_from 0 c.args.size parts ∙ ap (λ n. c.args.size * n) many
    ∙ (let e : c.args.size * 0 ≡ 0 = omega arith in e)) in
    let was = c.args.delineator.now in
    record {
      grows = subst (Grows was was) (sym none) (grows-none was);
      gives = λ start. subst (λ l. Gives (λ o. g.F.FrameOut.stands_for o start) was l c.args.out.now c.args.out.now)
          (sym none) (gives-none (λ o. g.F.FrameOut.stands_for o start) was c.args.out.now);
    }

pub loop-place-init : goal.loop-place-init
loop-place-init g c =
    let parts = payloads_of (held c.args.containers.now) c.args.active.now in
    let none : octets_from 0 0 parts ≡ [] = octets_from-none 0 parts in
    let was = c.args.delineator.now in
    record {
      within = omega arith;
      known = c.requires.known;
      grows = subst (Grows was was) (sym none) (grows-none was);
      gives = λ start. subst (λ l. Gives (λ o. g.F.FrameOut.stands_for o start) was l c.args.out.now c.args.out.now)
          (sym none) (gives-none (λ o. g.F.FrameOut.stands_for o start) was c.args.out.now);
    }

-- a row and the places behind it
more-places : (place places : ℕ) (parts : List (List ℕ)) →
    octets_from 0 place parts ++ octets_from place places parts ≡ octets_from 0 (place + places) parts
more-places place places parts =
    ap (λ p. octets_from 0 place parts ++ octets_from p places parts) (let e : place ≡ 0 + place = omega arith in e)
    ∙ sym (octets_from-add 0 place places parts)

pub loop-place-preserved : goal.loop-place-preserved
loop-place-preserved g c =
    let place = c.loop-place.place in
    let skipped = c.idle_places-place.result in
    let n = c.min-places.result in
    let parts = payloads_of (held c.args.containers.now) c.args.active.now in
    let was = c.args.delineator.now in
    let then' = c.loop-place.delineator in
    let now = c.take_piece-in-loop-place.new.delineator in
    let front = octets_from 0 place parts in
    let idle = octets_from place skipped parts in
    let back = c.gather_places.new.out in
    let inv = c.loop-place.invariant in
    let front_grows = grows-more was then' then' front idle inv.grows
    (idle-grows then' idle c.idle_places-place.ensures.idle) in
    let next : (front ++ idle) ++ back ≡ octets_from 0 (place + skipped + n) parts =
    ap₂ (λ a b. a ++ b) (more-places place skipped parts) c.gather_places.ensures
    ∙ more-places (place + skipped) n parts in
    record {
      within = omega (arith, c.min-places.ensures, inv.within, c.idle_places-place.ensures.within);
      known = known-grows then' now back inv.known c.take_piece-in-loop-place.ensures.grows;
      grows = subst (Grows was now) next
          (grows-more was then' now (front ++ idle) back front_grows c.take_piece-in-loop-place.ensures.grows);
      gives = λ start.
          subst (λ l. Gives (λ o. g.F.FrameOut.stands_for o start) was l c.args.out.now
          c.take_piece-in-loop-place.new.out) next
          (gives-more (λ o. g.F.FrameOut.stands_for o start) was then'
          (front ++ idle) back c.args.out.now c.loop-place.out c.take_piece-in-loop-place.new.out front_grows
          (gives-more (λ o. g.F.FrameOut.stands_for o start) was then' front idle c.args.out.now c.loop-place.out
          c.loop-place.out inv.grows (inv.gives start)
          (idle-gives (λ o. g.F.FrameOut.stands_for o start) then' idle c.loop-place.out
          c.idle_places-place.ensures.idle))
          (c.take_piece-in-loop-place.ensures.gives start));
    }

pub returns : goal.returns
returns g c =
    let place = c.loop-place.place in
    let parts = payloads_of (held c.args.containers.now) c.args.active.now in
    let all : octets_from 0 place parts ≡ octets_from 0 c.args.size parts =
    ap (λ n. octets_from 0 n parts)
    (let e : place ≡ c.args.size = omega (arith, c.loop-place-test.false, c.loop-place.invariant.within) in e) in
    record {
      grows = subst (Grows c.args.delineator.now c.loop-place.delineator) all c.loop-place.invariant.grows;
      gives = λ start. subst (λ l. Gives (λ o. g.F.FrameOut.stands_for o start) c.args.delineator.now l c.args.out.now
          c.loop-place.out) all (c.loop-place.invariant.gives start);
    }

-- what one line carries alone
only : (containers : List Container) (active : List ℕ) (size : ℕ) (octets : List ℕ) → 0 < length active →
    length active < 2 → length octets ≡ size → octets ≡ take size (payload_at containers (get_or active 0 0)) →
    octets ≡ octets_from 0 size (payloads_of containers active)
only containers active size octets some few long is =
    let one : active ≡ get_or active 0 0 ∷ [] = sym (take_all 1 active (omega arith)) ∙ take_one active some in
    let payload = payload_at containers (get_or active 0 0) in
    let room : size ≤ length payload = long-enough size payload (sym (ap length is) ∙ long) in
    is ∙ sym (octets_from-single 0 size payload (omega arith))
    ∙ ap (λ active. octets_from 0 size (payloads_of containers active)) (sym one)

pub returns-in-len1-clause-grows : goal.returns-in-len1-clause-grows
returns-in-len1-clause-grows g c =
    subst (Grows c.args.delineator.now c.take_piece.new.delineator)
    (only (held c.args.containers.now) c.args.active.now c.args.size _ c.in-len1.len_at_least
    c.in-len1.len_below c.only_payload.ensures.size c.only_payload.ensures.octets) c.take_piece.ensures.grows

pub returns-in-len1-clause-gives : goal.returns-in-len1-clause-gives
returns-in-len1-clause-gives g c start =
    subst (λ l. Gives (λ o. g.F.FrameOut.stands_for o start) c.args.delineator.now l c.args.out.now
    c.take_piece.new.out)
    (only (held c.args.containers.now) c.args.active.now c.args.size c.only_payload.result.now c.in-len1.len_at_least
    c.in-len1.len_below c.only_payload.ensures.size c.only_payload.ensures.octets)
    (c.take_piece.ensures.gives start)
