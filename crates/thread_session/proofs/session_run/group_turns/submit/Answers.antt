-- What the group answers to the item that was lent is what it answers to its kind.
use Rattle.std.proofs.Common.{◌≡◌, ◌↔◌, Bool, true, Some, slice_get, sym, ◌∙◌, subst}
use Rattle.law_model.specs.Common.{refusal_in}
use Rattle.law_model.specs.declared.script_types.Item.{Item}
use Rattle.law_model.specs.declared.script_types.ItemKind.{ItemKind}
use Rattle.terminal_group.specs.Item.{kind_of}
use Rattle.thread_group.specs.GroupCalls.{Submits}
use Rattle.thread_group.specs.Group.{HasCounted}
use Rattle.thread_session.proofs.OpenedLineAndGroupLaws.{has-landed, lands-where}
use Rattle.thread_session.specs.session_run.Turns.{HasLanded, MayLand}
use Rattle.thread_session.proofs.session_run.group_turns.submit.Goals as goal

pub returns : goal.returns
returns g c =
    let old = c.args.group.now in
    let new = c.submit.new.self in
    let number = c.args.number in
    let kind : ItemKind = kind_of c.lent_item.result in
    let answer = refusal_in c.submit.result in
    let call : Submits old.state new.state number kind answer = c.submit.ensures.submits in
    let is : (item : Item) → slice_get c.args.items.now number ≡ Some item → kind ≡ item.kind =
    λ item there. c.lent_item.ensures ∙ c.lend-lent.ensures item there in
    record {
      counted = λ item there. subst (λ k. HasCounted old.state new.state k c.has_landed.result) (is item there)
          (subst (HasCounted old.state new.state kind) (sym c.has_landed.ensures) call.landed);
      when = λ item there. subst (λ k. (c.has_landed.result ≡ true) ↔ MayLand old.state number k) (is item there)
          (subst (λ (landed : Bool). (landed ≡ true) ↔ MayLand old.state number kind) (sym c.has_landed.ensures)
          (lands-where old.state new.state number kind answer call c.submit.ensures.room));
      stays = λ no. call.unchanged (sym c.has_landed.ensures ∙ no);
      ticks = call.rings.ticks;
      landed = λ item there yes. subst (HasLanded _ _ _ number) (is item there)
          (has-landed _ _ _ old.state new.state number kind answer old.bound call (sym c.has_landed.ensures ∙ yes));
    }
