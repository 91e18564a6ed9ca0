-- As many lines carry payload as there are members in NORM.
use Rattle.std.proofs.Common.{length, sym, ◌∙◌, ap, filter, count_by}
use Rattle.std.proofs.lemmas.List.{length-map}
use Rattle.std.proofs.lemmas.List.Sums.{length-filter}
use Rattle.law_model.specs.Common.{is_normal, active}
use Rattle.law_model.specs.declared.lcas_states.Member.{Member}
use Rattle.terminal_source.proofs.lcas_source.member_table.LineTable.active_count.Goals as goal

pub returns : goal.returns
returns c =
    c.active_count.ensures ∙ ap (count_by is_normal) c.deref.ensures.0
    ∙ sym (length-filter is_normal c.self.inside.members.items)
    ∙ sym (length-map (filter is_normal c.self.inside.members.items) (λ (member : Member). member.line))
    ∙ ap (λ table. length (active table)) c.self.view_is
