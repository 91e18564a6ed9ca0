-- How it goes on, and each way in which it ends.
use Rattle.std.proofs.Common.{◌≡◌, ◌⊎◌, ℕ, ◌<◌, List, [], ◌++◌, length, drop, length-drop, length-append}
use Rattle.std.proofs.Common.{refl, sym, ◌∙◌, ap, subst, inl, inr, arith}
use Rattle.text_lines.specs.Cut.{Lacks}
use Rattle.command_parts.specs.Dialogue.{nothing_heard, course_of, said_by}
use Rattle.command_parts.proofs.ListenerLineAndSaidTextLaws.{said_put, said_put_part}
use Rattle.command_parts.proofs.TalkOverSourceAndEndLaws.{going_none, stands_now, talk_unread_now, gives_closed}
use Rattle.command_parts.proofs.TalkOverSourceAndEndLaws.{gives_stopped, gives_cut, goes_on_now, nothing_more, nearer}
use Rattle.command_parts.proofs.conversation.talk.Goals as goal

pub loop-n-init : goal.loop-n-init
loop-n-init g c =
    let none = c.new-intake.ensures in
    let size = ap (λ (t : List ℕ). length t) none in
    record {
      going = (
        [],
        nothing_heard (g.T.Talker.dialogue c.args.talker),
        going_none g.S.ByteSource.left g.S.ByteSource.faults g.K.ByteSink.written g.K.ByteSink.faults g.T.Talker.Hears
            (g.T.Talker.dialogue c.args.talker) c.args.source.now c.args.out.now _ c.new-intake.result none
            (record { hears = c.requires; lines = refl }),
      );
      quiet = c.new-block.ensures;
      short = omega (arith, size);
      few = omega arith;
      few_behind = inl (omega (arith, size));
    }

-- ---- more is read
pub take_quiet-requires-clause-whole : goal.take_quiet-requires-clause-whole
take_quiet-requires-clause-whole g c =
    let (all, heard, going) = c.loop-n.invariant.going in going.lacks

-- ---- the call of the source failed
pub returns-in-Err : goal.returns-in-Err
returns-in-Err g c =
    let (all, heard, going) = c.loop-n.invariant.going in
    record {
      ran = tt;
      stopped = talk_unread_now _ _ _ _ _ _ _ _ _ _ _ _ _ _ going c.take_quiet.new.source c.in-Err.ensures.stays
          c.in-Err.ensures.counted;
    }

-- ---- the input has come to its end
pub close-requires : goal.close-requires
close-requires g c =
    let (all, heard, going) = c.loop-n.invariant.going in
    let (piece, size, few, is, given) = c.in-Ok.ensures.took in
    let same = nothing_more c.loop-n.intake piece _ (size ∙ c.if-n-eq0.true) (c.octets.ensures ∙ is) in
    let none = ap (λ (t : List ℕ). length t) same in
    let P : List ℕ → Type 0 = λ (t : List ℕ). (0 ≡ length t) ⊎ (c.loop-n.listener.lines < 67108864) in
    record {
      stands = (
        c.loop-n.out,
        heard.said,
        heard,
        stands_now _ _ _ _ _ _ _ _ _ _ _ _ _ _ going c.loop-n.block c.loop-n.invariant.quiet,
      );
      lacks = subst (Lacks 10) (sym same) going.lacks;
      short = omega (arith, none, c.loop-n.invariant.short);
      few = subst P (sym same) c.loop-n.invariant.few_behind;
    }

pub returns-then-n-eq0 : goal.returns-then-n-eq0
returns-then-n-eq0 g c =
    let (all, heard, going) = c.loop-n.invariant.going in
    let (piece, size, few, is, given) = c.in-Ok.ensures.took in
    let stands = stands_now _ _ _ _ _ _ _ _ _ _ _ _ _ _ going c.loop-n.block c.loop-n.invariant.quiet in
    gives_closed _ _ _ _ _ _ _ _ _ _ _ _ _ _ going c.take_quiet.new.source c.close.new.out piece
    c.octets.result.now c.close.result (size ∙ c.if-n-eq0.true) (c.octets.ensures ∙ is) given
    (c.in-Ok.ensures.end c.if-n-eq0.true) c.in-Ok.ensures.unfailed
    (c.close.ensures.whole c.loop-n.out heard.said heard stands)
    (c.close.ensures.cut c.loop-n.out heard.said heard stands)
    (c.close.ensures.stops c.loop-n.out heard.said heard stands)

-- ---- a piece came
pub hear_lines-requires : goal.hear_lines-requires
hear_lines-requires g c =
    let (all, heard, going) = c.loop-n.invariant.going in (
      c.loop-n.out,
      heard.said,
      heard,
      stands_now _ _ _ _ _ _ _ _ _ _ _ _ _ _ going c.loop-n.block c.loop-n.invariant.quiet,
    )

pub returns-in-Err-hear_lines : goal.returns-in-Err-hear_lines
returns-in-Err-hear_lines g c =
    let (all, heard, going) = c.loop-n.invariant.going in
    let (piece, size, few, is, given) = c.in-Ok.ensures.took in
    let stands = stands_now _ _ _ _ _ _ _ _ _ _ _ _ _ _ going c.loop-n.block c.loop-n.invariant.quiet in
    let octets = c.octets-in-loop-n.result.now in
    let stops = c.in-Err-hear_lines.ensures.stopped c.loop-n.out heard.said heard stands in
    gives_stopped _ _ _ _ _ _ _ _ _ _ _ _ _ _ going c.take_quiet.new.source c.stopped.new.out piece octets
    c.stopped.result few (c.octets-in-loop-n.ensures ∙ is) given c.in-Ok.ensures.unfailed
    (c.stopped.ensures.cut c.loop-n.out heard.said (said_by (course_of octets heard)) stops)
    (c.stopped.ensures.stops c.loop-n.out heard.said (said_by (course_of octets heard)) stops)

pub loop-n-smaller : goal.loop-n-smaller
loop-n-smaller g c =
    let (piece, size, few, is, given) = c.in-Ok.ensures.took in
    let octets = c.octets-in-loop-n.result.now in
    let at = c.in-Ok-hear_lines.heard in
    let all = ap (λ (t : List ℕ). length t) (c.octets-in-loop-n.ensures ∙ is) in
    let left = ap (λ (t : List ℕ). length t) c.let_go.ensures in
    let own = ap (λ (t : List ℕ). length t) c.octets-in-loop-n.ensures in
    nearer c.loop-n.listener.lines c.hear_lines.new.listener.lines (length c.loop-n.intake) (length c.let_go.new.self)
    (length octets) at c.in-Ok-hear_lines.ensures.rises (c.in-Ok-hear_lines.ensures.few c.loop-n.invariant.few)
    (omega (arith, left, own, length-drop at c.take_quiet.new.self, c.in-Ok-hear_lines.ensures.within))
    (omega (arith, all, size, c.if-n-eq0.false, length-append c.loop-n.intake piece))
    (omega (arith, left, own, length-drop at c.take_quiet.new.self, c.in-Ok-hear_lines.ensures.short))
    c.in-Ok-hear_lines.ensures.moves

pub loop-n-preserved : goal.loop-n-preserved
loop-n-preserved g c =
    let (all, heard, going) = c.loop-n.invariant.going in
    let (piece, size, few, is, given) = c.in-Ok.ensures.took in
    let stands = stands_now _ _ _ _ _ _ _ _ _ _ _ _ _ _ going c.loop-n.block c.loop-n.invariant.quiet in
    let octets = c.octets-in-loop-n.result.now in
    let at = c.in-Ok-hear_lines.heard in
    let has = c.in-Ok-hear_lines.ensures.heard c.loop-n.out heard.said heard stands in
    let same = c.let_go.ensures ∙ ap (λ (t : List ℕ). drop at t) (sym c.octets-in-loop-n.ensures) in
    let left = ap (λ (t : List ℕ). length t) same in
    record {
      going = (
        all ++ piece,
        has.now,
        goes_on_now _ _ _ _ _ _ _ _ _ _ _ _ _ _ going c.take_quiet.new.source _ c.hear_lines.new.out
            c.hear_lines.new.listener piece octets c.let_go.new.self _ at (c.octets-in-loop-n.ensures ∙ is)
            given c.in-Ok.ensures.unfailed has c.in-Ok-hear_lines.ensures.lacks
            c.in-Ok-hear_lines.ensures.short c.in-Ok-hear_lines.ensures.few_behind same
            (said_put _ _ _ _ _ _ _ _ has.stands.said c.in-Ok-put.ensures.ok),
      );
      quiet = c.put.ensures.empty;
      short = omega (arith, left, length-drop at octets, c.in-Ok-hear_lines.ensures.short);
      few = c.in-Ok-hear_lines.ensures.few c.loop-n.invariant.few;
      few_behind = elim c.in-Ok-hear_lines.ensures.few_behind [
        | inl whole ↦ inl (omega (arith, left, whole, length-drop at octets))
        | inr low ↦ inr low
      ];
    }

pub returns-in-Err-put : goal.returns-in-Err-put
returns-in-Err-put g c =
    let (all, heard, going) = c.loop-n.invariant.going in
    let (piece, size, few, is, given) = c.in-Ok.ensures.took in
    let stands = stands_now _ _ _ _ _ _ _ _ _ _ _ _ _ _ going c.loop-n.block c.loop-n.invariant.quiet in
    let octets = c.octets-in-loop-n.result.now in
    let at = c.in-Ok-hear_lines.heard in
    let has = c.in-Ok-hear_lines.ensures.heard c.loop-n.out heard.said heard stands in
    record {
      ran = record {
        all = tt;
        part = gives_cut _ _ _ _ _ _ _ _ _ _ _ _ _ _ going c.take_quiet.new.source _ c.hear_lines.new.out
            c.hear_lines.new.listener piece octets c.let_go.new.self _ at (c.octets-in-loop-n.ensures ∙ is)
            given c.in-Ok.ensures.unfailed has c.in-Ok-hear_lines.ensures.lacks
            c.in-Ok-hear_lines.ensures.short c.in-Ok-hear_lines.ensures.few_behind few
            (said_put_part _ _ _ _ _ _ _ _ has.stands.said c.in-Err-put.ensures.err);
        made = tt;
      };
      stopped = tt;
    }
