-- The ended ones, and then the one that goes on.
use Rattle.std.proofs.Common.{◌≡◌, ℕ, suc, ◌+◌, ◌<◌, ◌≤◌, Bool, true, false, List, [], ◌∷◌, ◌++◌, length, slice_get}
use Rattle.std.proofs.Common.{sym, ◌∙◌, ap, arith, length-append, if◌then◌else◌}
use Rattle.std.proofs.lemmas.Option.{slice_get_past}
use Rattle.law_model.proofs.ListLaws.{at-index, slice_get-append}
use Rattle.fate_engine.specs.Common.{is_told}
use Rattle.fate_engine.specs.declared.fate_law.RowSegment.{RowSegment}
use Rattle.fate_engine.proofs.RowSegmentLookupLaws.{later-kept}
use Rattle.fate_engine.proofs.fate_core.row_segments.Segments.later.Goals as goal
use Rattle.fate_engine.proofs.fate_core.row_segments.Segments.later.Goals.{else-i-len-2-via-then-i-len-2+else-is_told}
use Rattle.fate_engine.proofs.fate_core.row_segments.Segments.later.Goals.{else-i-len-2-via-else-i-len-2}

get-back : {X : Type 0} (xs ys : List X) (k : ℕ) → slice_get (xs ++ ys) (length xs + k) ≡ slice_get ys k
get-back [] ys k = ap (slice_get ys) (let e : 0 + k ≡ k = omega arith in e)
get-back (x ∷ xs) ys k = ap (slice_get (x ∷ (xs ++ ys)))
    (let e : suc (length xs) + k ≡ suc (length xs + k) = omega arith in e) ∙ get-back xs ys k

pub returns-then-i-len : goal.returns-then-i-len
returns-then-i-len c = λ rows stands.
    let i = c.args.i in
    let low : i < length c.self.inside.ended.items = (let n = c.len.ensures in omega (arith, n, c.if-i-len.true)) in
    sym (ap (λ l. slice_get l i) (later-kept c.args.self.now rows stands
    ∙ ap (λ v. v.ended ++ (if is_told v then v.last ∷ [] else [])) (sym c.self.view_is))
    ∙ slice_get-append c.self.inside.ended.items _ i low
    ∙ at-index c.self.inside.ended.items i c.index.result.now low c.index.ensures)

pub returns-then-is_told : goal.returns-then-is_told
returns-then-is_told c = λ rows stands.
    let i = c.args.i in
    let at : i ≡ length c.self.inside.ended.items + 0 =
    (let n = c.len-else-i-len.ensures in omega (arith, n, c.if-i-len-2.true)) in
    let told = sym c.is_told.ensures ∙ c.if-is_told.true in
    sym (ap (λ l. slice_get l i) (later-kept c.args.self.now rows stands
    ∙ ap (λ b. c.args.self.now.ended ++ (if b then c.args.self.now.last ∷ [] else [])) told
    ∙ ap (λ v. v.ended ++ v.last ∷ []) (sym c.self.view_is))
    ∙ ap (slice_get (c.self.inside.ended.items ++ c.self.inside.last ∷ [])) at
    ∙ get-back c.self.inside.ended.items (c.self.inside.last ∷ []) 0)

pub returns-else-i-len-2 : goal.returns-else-i-len-2
returns-else-i-len-2 c = λ rows stands.
    let i = c.args.i in
    let all = later-kept c.args.self.now rows stands in
    let ended = ap (λ v. length v.ended) c.self.view_is in
    elim c.else-i-len-2.branch [
      | else-i-len-2-via-then-i-len-2+else-is_told w ↦ (
          let told : is_told c.args.self.now ≡ false = sym w.is_told.ensures ∙ w.if-is_told.false in
          let few : length (c.args.self.now.ended ++ []) ≤ i = (let sum = length-append c.args.self.now.ended [] in
          let n = c.len-else-i-len.ensures in omega (arith, sum, ended, n, w.if-i-len-2.true)) in
          sym (ap (λ l. slice_get l i) (all
          ∙ ap (λ b. c.args.self.now.ended ++ (if b then c.args.self.now.last ∷ [] else [])) told)
          ∙ slice_get_past (c.args.self.now.ended ++ []) i few))
      | else-i-len-2-via-else-i-len-2 w ↦ (
          let few = most c.args.self.now.ended c.args.self.now.last (is_told c.args.self.now) in
          let m = c.len.ensures in
          sym (ap (λ l. slice_get l i) all
          ∙ slice_get_past
          (c.args.self.now.ended ++ (if is_told c.args.self.now then c.args.self.now.last ∷ [] else [])) i
          (grind (arith, few, ended, c.len-else-i-len.ensures, m, w.if-i-len-2.false, c.if-i-len.false))))
    ]
  where
    most : (ended : List RowSegment) (last : RowSegment) (b : Bool) →
        length (ended ++ (if b then last ∷ [] else [])) ≤ length ended + 1
    most ended last true = (let e = length-append ended (last ∷ []) in omega (arith, e))
    most ended last false = (let e = length-append ended [] in omega (arith, e))
