-- One more return cell is moved, or a look finds none, or there is no more room.
use Rattle.std.proofs.Common.{◌≡◌, ◌+◌, ◌<◌, List, [], ◌∷◌, ◌++◌, length, inl, inr, refl, sym, ◌∙◌, ap, subst, arith}
use Rattle.std.proofs.Common.{append_assoc}
use Rattle.std.proofs.lemmas.List.{length_push}
use Rattle.law_model.specs.Common.{one_more, BackCell}
use Rattle.thread_rings.specs.EndsOfRing.{InEnd, in_passed, SameIn}
use Rattle.thread_rings.proofs.SameRingEndsLaws.{in-then}
use Rattle.terminal_group.specs.ReturnInbox.{is_lost_in, Inbox, come_by, with_come, HasCome}
use Rattle.terminal_group.specs.SourceByCounts.{Counted}
use Rattle.thread_group.specs.GroupRings.{HasMoved}
use Rattle.terminal_group.proofs.InboxReturnCellLaws.{come-put}
use Rattle.thread_group.proofs.GroupRingEndLookLaws.{less}
use Rattle.thread_group.proofs.tick_rings.take_cells.Goals as goal

moved-one : (first was is : Inbox) (start old new : InEnd BackCell) (cell : BackCell) → HasMoved first was start old →
    is ≡ with_come was cell → length was.cells < was.room →
    SameIn old new → in_passed new ≡ in_passed old ++ cell ∷ [] → HasMoved first is start new
moved-one first was is start old new cell moved put low same passed =
    let size : length is.cells ≡ length was.cells + 1 = ap (λ (i : Inbox). length i.cells) put
    ∙ length_push was.cells (come_by (is_lost_in was.lost was.come) cell) in
    let room : is.room ≡ was.room = ap (λ (i : Inbox). i.room) put in
    record {
      lost = ap (λ (i : Inbox). i.lost) put ∙ moved.lost;
      room = room ∙ moved.room;
      within = λ fits. omega arith;
      same = in-then start old new moved.same same;
      received = (
        moved.received.0 ++ cell ∷ [],
        sym (append_assoc (in_passed start) moved.received.0 (cell ∷ []))
            ∙ ap (λ l. l ++ cell ∷ []) moved.received.1 ∙ sym passed,
      );
      come = λ used has. subst (λ (i : Inbox). HasCome i (in_passed new) used) (sym put)
          (subst (λ l. HasCome (with_come was cell) l used) (sym passed)
          (come-put was (in_passed old) used cell (moved.come used has)));
    }

pub loop-back-preserved : goal.loop-back-preserved
loop-back-preserved c =
    let i = c.loop-back in
    let was = i.source.inbox in
    let is = c.put.new.self.inbox in
    let low = less (length was.cells) was.room i.invariant.within
    (λ (full : was.room ≡ length was.cells).
    let is = c.is_full.ensures.1 (ap (λ (x : Inbox). x.room) c.inbox.ensures ∙ full
    ∙ sym (ap (λ (x : Inbox). length x.cells) c.inbox.ensures)) in
    let no = c.loop-back-test.true in absurd cc) in
    let put : is ≡ with_come was c.pop.result = ap (λ (s : Counted). s.inbox) c.put.ensures in
    let size : length is.cells ≡ length was.cells + 1 = ap (λ (x : Inbox). length x.cells) put
    ∙ length_push was.cells (come_by (is_lost_in was.lost was.come) c.pop.result) in
    let room : is.room ≡ was.room = ap (λ (x : Inbox). x.room) put in
    let come : is.come ≡ was.come + 1 = ap (λ (x : Inbox). x.come) put in
    let few = i.invariant.few in
    record {
      moved = moved-one _ was is c.args.back.now i.back c.pop.new.self c.pop.result i.invariant.moved put low
          (in-then i.back c.ready.new.self c.pop.new.self c.ready.ensures.same c.pop.ensures.same)
          (c.pop.ensures.passed ∙ ap (λ l. l ++ c.pop.result ∷ []) c.ready.ensures.passed);
      within = omega arith;
      few = omega arith;
      rest = c.put.ensures ∙ ap (λ (s : Counted). record s { inbox = with_come was c.pop.result }) i.invariant.rest
          ∙ ap (λ (x : Inbox). record c.args.source.now { inbox = x }) (sym put);
      quiet = c.pop.ensures.quiet ∙ c.ready.ensures.quiet c.if-not-ready.false ∙ i.invariant.quiet;
    }

nothing : {X : Type 0} (xs : List X) → (0 < length xs → ⊥) → xs ≡ []
nothing [] none = refl
nothing (x ∷ xs) none = absurd (none (omega arith))

pub returns-then-not-ready-clause-until : goal.returns-then-not-ready-clause-until
returns-then-not-ready-clause-until c =
    let e = c.ready.ensures in
    inl (record {
      none = nothing _ (λ some. let yes = e.known.1 some in let no = c.if-not-ready.true in absurd cc);
      missed = e.counted c.if-not-ready.true ∙ ap one_more c.loop-back.invariant.quiet;
    })

pub returns-clause-until : goal.returns-clause-until
returns-clause-until c =
    let e = c.inbox.ensures in
    inr (ap (λ (x : Inbox). length x.cells) (sym e) ∙ sym (c.is_full.ensures.0 c.loop-back-test.false)
    ∙ ap (λ (x : Inbox). x.room) e)
