-- The ended ones, and the one that goes on where it is told.
use Rattle.std.proofs.Common.{◌≡◌, true, false, [], ◌∷◌, ◌++◌, length, sym, ◌∙◌, ap, arith, length-append}
use Rattle.std.specs.Prelude.{if◌then◌else◌}
use Rattle.fate_engine.specs.Common.{is_told}
use Rattle.fate_engine.proofs.RowSegmentLookupLaws.{later-kept}
use Rattle.fate_engine.proofs.fate_core.row_segments.Segments.later_count.Goals as goal

pub returns-then-is_told : goal.returns-then-is_told
returns-then-is_told c = λ rows stands.
    let told : is_told c.args.self.now ≡ true = sym c.is_told.ensures ∙ c.if-is_told.true in
    let all = ap length (later-kept c.args.self.now rows stands
    ∙ ap (λ b. c.args.self.now.ended ++ (if b then c.args.self.now.last ∷ [] else [])) told) in
    let sum = length-append c.args.self.now.ended (c.args.self.now.last ∷ []) in
    omega (arith, all, sum, ap (λ v. length v.ended) c.self.view_is, c.len-ended.ensures)

pub returns-else-is_told : goal.returns-else-is_told
returns-else-is_told c = λ rows stands.
    let told : is_told c.args.self.now ≡ false = sym c.is_told.ensures ∙ c.if-is_told.false in
    let all = ap length (later-kept c.args.self.now rows stands
    ∙ ap (λ b. c.args.self.now.ended ++ (if b then c.args.self.now.last ∷ [] else [])) told) in
    let ended = ap (λ v. length v.ended) c.self.view_is in
    omega (arith, all, length-append c.args.self.now.ended [], ended, c.len-ended.ensures)
