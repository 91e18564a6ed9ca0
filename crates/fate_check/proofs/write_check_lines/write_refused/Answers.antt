-- An item more is told.
use Rattle.std.proofs.Common.{ℕ, List, [], ◌∷◌, ◌++◌, take, refl, sym, ◌∙◌, ap, subst, flat_map}
use Rattle.std.proofs.lemmas.List.{append_assoc}
use Rattle.std.proofs.lemmas.List.Concat.{flat_map-append}
use Rattle.law_model.specs.declared.item_refusals.Refusal.{Refusal}
use Rattle.text_got.specs.TextSoFar.{HasText}
use Rattle.fate_check.specs.CheckText.{refused_item, refused_items}
use Rattle.fate_check.proofs.CheckTextAndEarlyFrameLaws.{text-one}
use Rattle.fate_check.proofs.write_check_lines.write_refused.Goals as goal

pub loop-item-preserved : goal.loop-item-preserved
loop-item-preserved g c =
    let told = c.loop-item.invariant.0 in
    let own : ℕ × Refusal = (c.in-Some.item, c.in-Some.why) in
    let text : ℕ × Refusal → List ℕ = λ refused. refused_item refused.0 refused.1 in
    let line = take c.refused_line-end.result c.refused_line-end.new.out in (
      told ++ own ∷ [],
      append_assoc told (own ∷ []) c.next.new.self
          ∙ ap (λ l. told ++ l) (sym c.in-Some.ensures.some) ∙ c.loop-item.invariant.1,
      λ start before has.
          subst (HasText g.K.ByteSink.written g.K.ByteSink.faults c.line.new.self start)
          (text-one text (own ∷ []) own (before ++ refused_items told) line refl c.refused_line-end.ensures.line
          ∙ append_assoc before (refused_items told) (refused_items (own ∷ []))
          ∙ ap (λ l. before ++ l) (sym (flat_map-append text told (own ∷ []))))
          (c.line.ensures start (before ++ refused_items told) (c.loop-item.invariant.2 start before has)),
    )
