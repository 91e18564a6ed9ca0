-- An item's head has its sort.
use Rattle.std.proofs.Common.{◌∙◌, ap}
use Rattle.law_model.specs.declared.script_items.item_list.ItemHead.{ItemHead}
use Rattle.thread_session.specs.session_run.Turns.{brings}
use Rattle.thread_session.proofs.session_run.group_turns.who_brings.Goals as goal

pub returns : goal.returns
returns c = λ item there.
    c.bringer_of.ensures ∙ ap (λ (head : ItemHead). brings head.sort) (c.head.ensures item there)
