-- The row is taken as it is by the lines that carry payload.
use Rattle.std.proofs.Common.{◌≡◌, ℕ, ◌≤◌, Bool, true, false, List, [], ◌∷◌, ◌++◌, Option, Some, None, is_some, refl}
use Rattle.std.proofs.Common.{sym, ◌∙◌, ap, subst, arith, rules}
use Rattle.std.specs.Option.{option_copied}
use Rattle.law_model.specs.Common.{row_at, containers_at, octets_from, segments_of, Cell, Container, longest_frame}
use Rattle.law_model.specs.rows.GroupRows.{row_by}
use Rattle.law_model.specs.declared.script_types.Options.{Options}
use Rattle.member_rows.specs.vcat_interleave.MemberPayloads.{payloads_of}
use Rattle.law_loss.specs.AddedFrames.{added}
use Rattle.terminal_sink.specs.sink_core.TakenAndGiven.{row_in, AreCarriers}
use Rattle.terminal_sink.specs.sink_core.RowsInReceiver.{Receives}
use Rattle.member_cells.specs.HeldPlaces.{held}
use Rattle.member_rows.specs.realign_rows.Gather.{GatherStands}
use Rattle.terminal_sink.proofs.WholeRowContainersLaws.{Hold, octets_if, hold-some, row-known}
use Rattle.terminal_sink.proofs.ReceivedOctetAndDealtIdleLaws.{grows-none, gives-none}
use Rattle.terminal_sink.proofs.WholeRowContainersLaws.{receives-whole, receives-lost, gives-whole, gives-lost}
use Rattle.terminal_sink.proofs.WholeRowContainersLaws.{row-early, row-late}
use Rattle.terminal_sink.proofs.sink_core.whole_rows.take_row.Goals as goal
use Rattle.terminal_sink.proofs.sink_core.whole_rows.take_row.Goals.{in_default-via-in-Some+else-are_whole}
use Rattle.terminal_sink.proofs.sink_core.whole_rows.take_row.Goals.{in_default-via-in_default}

pub returns-then-t-lt-FIRST_ROW-clause-receives : goal.returns-then-t-lt-FIRST_ROW-clause-receives
returns-then-t-lt-FIRST_ROW-clause-receives g c options cells come stands carry has =
    let was = c.args.delineator.now in
    subst (λ row. Receives was (come ++ row_in row ∷ []))
    (sym (row-early options c.args.size cells c.args.t c.if-t-lt-FIRST_ROW.true))
    (receives-whole was was come [] (grows-none was) has)

pub returns-then-t-lt-FIRST_ROW-clause-gives : goal.returns-then-t-lt-FIRST_ROW-clause-gives
returns-then-t-lt-FIRST_ROW-clause-gives g c options cells come stands carry has start frames given =
    let was = c.args.delineator.now in
    let out = c.args.out.now in
    let F = g.F.FrameOut.stands_for in
    subst (λ row. F out start (frames ++ added longest_frame come (row_in row)))
    (sym (row-early options c.args.size cells c.args.t c.if-t-lt-FIRST_ROW.true))
    (gives-whole (λ o. F o start) was come [] out out (gives-none (λ o. F o start) was out) has frames given)

-- the row by the lines that are known
row-of : (options : Options) (size size' : ℕ) (cells : List (List Cell)) (places : List Container) (t t' : ℕ)
    (carriers : Option (List ℕ)) (lines : List ℕ) (whole : Bool) → 24 ≤ t → t' ≡ t → size' ≡ size →
    AreCarriers options cells t carriers → carriers ≡ Some lines → Hold places cells t' →
    whole ≡ is_some (containers_at cells t' lines) → row_at options size cells t ≡ octets_if whole size' places lines
row-of options size size' cells places t t' carriers lines whole late row sized carry known hold is =
    row-known options size cells places t lines whole late (λ late. sym known ∙ carry late)
    (subst (Hold places cells) row hold) (is ∙ ap (λ t. is_some (containers_at cells t lines)) row)
    ∙ ap (λ size. octets_if whole size places lines) (sym sized)

pub returns-in-Some : goal.returns-in-Some
returns-in-Some g c =
    let was = c.args.delineator.now in
    let now = c.take_members.new.delineator in
    let places = held c.containers.result.now in
    let lines = c.in-Some.carriers.now in
    let octets = octets_from 0 c.from.result (payloads_of places lines) in
    let late : 24 ≤ c.args.t = omega (arith, c.if-t-lt-FIRST_ROW.false) in
    let row : (options : Options) (cells : List (List Cell)) → GatherStands c.args.rows.now cells →
    AreCarriers options cells c.args.t (option_copied c.args.carriers) →
    row_at options c.args.size cells c.args.t ≡ Some octets = λ options cells stands carry.
    row-of options c.args.size c.from.result cells places c.args.t c.args.rows.now.rows
    (option_copied c.args.carriers) lines true late c.requires.row c.from.ensures carry
    (ap option_copied c.in-Some.is)
    (λ m own found here said. c.containers.ensures.whole cells m own found stands here said)
    (sym c.if-are_whole.true ∙ c.are_whole.ensures cells stands) in
    let F = g.F.FrameOut.stands_for in
    record {
      known = search rules;
      receives = λ options cells come stands carry has.
          subst (λ row. Receives now (come ++ row_in row ∷ [])) (sym (row options cells stands carry))
          (receives-whole was now come octets c.take_members.ensures.grows has);
      gives = λ options cells come stands carry has start frames given.
          subst (λ row. F c.take_members.new.out start (frames ++ added longest_frame come (row_in row)))
          (sym (row options cells stands carry))
          (gives-whole (λ o. F o start) was come octets c.args.out.now c.take_members.new.out
          (c.take_members.ensures.gives start) has frames given);
    }

pub returns-in_default : goal.returns-in_default
returns-in_default g c =
    let t = c.args.t in
    let late : 24 ≤ t = omega (arith, c.if-t-lt-FIRST_ROW.false) in
    let row : (options : Options) (cells : List (List Cell)) → GatherStands c.args.rows.now cells →
    AreCarriers options cells t (option_copied c.args.carriers) → row_at options c.args.size cells t ≡ None =
    λ options cells stands carry.
    elim c.in_default.branch [
      | in_default-via-in-Some+else-are_whole w ↦
          row-of options c.args.size c.args.size cells _ t c.args.rows.now.rows (option_copied c.args.carriers)
          w.in-Some.carriers.now false late c.requires.row refl carry (ap option_copied w.in-Some.is)
          (hold-some cells c.args.rows.now.rows) (sym w.if-are_whole.false ∙ w.are_whole.ensures cells stands)
      | in_default-via-in_default w ↦
          row-late options c.args.size cells t (option_copied c.args.carriers) late carry
          ∙ ap (λ lines. row_by (option_copied lines) c.args.size cells t) w.in_default.is
    ] in
    let F = g.F.FrameOut.stands_for in
    record {
      known = search rules;
      receives = λ options cells come stands carry has.
          subst (λ row. Receives c.take_break.new.delineator (come ++ row_in row ∷ []))
          (sym (row options cells stands carry)) (receives-lost c.take_break.new.delineator come []
          (c.take_break.ensures (segments_of come).last.first (segments_of come).last.octets has));
      gives = λ options cells come stands carry has start frames given.
          subst (λ row. F c.args.out.now start (frames ++ added longest_frame come (row_in row)))
          (sym (row options cells stands carry)) (gives-lost (λ o. F o start) come [] c.args.out.now frames given);
    }
