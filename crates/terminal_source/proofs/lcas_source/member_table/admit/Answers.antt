-- A line that isn't in ADD stays, one that has OK becomes NORM, and the first one without it ends the loop.
use Rattle.std.proofs.Common.{◌<◌, length, sym, ◌∙◌, ap, arith, drop-cons}
use Rattle.std.proofs.lemmas.List.{set-get_or}
use Rattle.law_model.specs.Common.{admit, kept_in}
use Rattle.terminal_source.proofs.MemberOrderExchangeLaws.{front-written, front-stops, front-ends}
use Rattle.terminal_source.proofs.MemberOrderExchangeLaws.{admit-other, admit-confirmed, admit-open, admit-none}
use Rattle.terminal_source.proofs.lcas_source.member_table.admit.Goals as goal
use Rattle.terminal_source.proofs.lcas_source.member_table.admit.Goals.{then-is_adding+else-not-is_ok, else-is_adding}

pub returns-then-not-is_ok : goal.returns-then-not-is_ok
returns-then-not-is_ok c =
    let kept = kept_in c.args.statuses.now in
    let inside : c.loop-sq.sq < length c.loop-sq.members = omega arith in
    let rest = drop-cons c.loop-sq.members c.loop-sq.sq _ inside in
    let stays = admit-open kept c.loop-sq.sq _ _ (sym c.is_adding.ensures ∙ c.if-is_adding.true)
    (sym c.is_ok.ensures ∙ c.if-not-is_ok.true) in
    set-get_or c.loop-sq.members c.loop-sq.sq _
    ∙ front-stops (admit kept) c.loop-sq.sq c.loop-sq.members _ (ap (admit kept c.loop-sq.sq) rest ∙ stays ∙ sym rest)
    c.loop-sq.invariant

pub loop-sq-preserved : goal.loop-sq-preserved
loop-sq-preserved c =
    let kept = kept_in c.args.statuses.now in
    let inside : c.loop-sq.sq < length c.loop-sq.members = omega arith in
    elim c.if-is_adding.branch [
      | then-is_adding+else-not-is_ok w ↦
          rw w.members-is (front-written (admit kept) c.loop-sq.sq c.loop-sq.members _ _ _ inside
          (admit-confirmed kept c.loop-sq.sq _ _ (sym c.is_adding.ensures ∙ w.if-is_adding.true)
          (sym w.is_ok.ensures ∙ w.if-not-is_ok.false))
          c.loop-sq.invariant)
      | else-is_adding w ↦
          rw w.members-is (front-written (admit kept) c.loop-sq.sq c.loop-sq.members _ _ _ inside
          (admit-other kept c.loop-sq.sq _ _ (sym c.is_adding.ensures ∙ w.if-is_adding.false))
          c.loop-sq.invariant)
    ]

pub returns : goal.returns
returns c =
    let kept = kept_in c.args.statuses.now in
    front-ends (admit kept) c.loop-sq.sq c.loop-sq.members _ (omega arith)
    (admit-none kept c.loop-sq.sq) c.loop-sq.invariant
