-- One line more.
use Rattle.std.proofs.Common.{◌≡◌, ◌∙◌, [], ◌∷◌, ◌++◌, List, length, ap, rules, arith, length-append}
use Rattle.law_model.specs.declared.script_types.Item.{Item}
use Rattle.law_model.specs.declared.script_types.ItemKind.TheVariants.{Add}
use Rattle.text_scripts.proofs.DrawnLoadLaws.{additions_next}
use Rattle.text_scripts.proofs.make_load.drawn_script.add_lines.Goals as goal

pub loop-line-preserved : goal.loop-line-preserved
loop-line-preserved c =
    let it : Item = record { due = 0; kind = Add c.loop-line.line } in
    let pushed : c.push.new.self ≡ c.loop-line.items ++ it ∷ [] = search rules in
    record {
      are = pushed ∙ additions_next c.loop-line.items c.loop-line.line c.loop-line.invariant.are;
      few =
          (let size = ap (λ (l : List Item). length l) pushed in
          let more = length-append c.loop-line.items (it ∷ []) in
          omega (arith, size, more, c.loop-line.invariant.few));
    }
