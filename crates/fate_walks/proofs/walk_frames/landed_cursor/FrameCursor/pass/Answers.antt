-- A frame that has landed, or another item.
use Rattle.std.proofs.Common.{◌+◌, ◌-◌, ◌<◌, length, slice_get, ap, ap₂, subst, sym, ◌∙◌, rules}
use Rattle.law_model.specs.Common.{leg_of}
use Rattle.law_model.specs.declared.script_items.item_list.ItemHead.{ItemHead}
use Rattle.law_model.specs.declared.script_types.Script.{Script}
use Rattle.fate_walks.specs.walk_frames.ItemCursor.{Cursor}
use Rattle.fate_walks.proofs.CursorAndRulerLaws.{item-there, sort-frame, sort-other, passed, skipped}
use Rattle.fate_walks.proofs.walk_frames.landed_cursor.FrameCursor.pass.Goals as goal

pub returns-in-Frame : goal.returns-in-Frame
returns-in-Frame c =
    let items = c.args.walk.now.script.items in
    let here = ap (λ (cursor : Cursor). cursor.item) c.self.view_is in
    let own = item-there items c.self.inside.item (subst (λ n. n < length items) (sym here) c.requires.there) in
    let head = c.head-head.ensures own.0
    (ap (λ (script : Script). slice_get script.items c.self.inside.item) c.script.ensures.script ∙ own.1) in
    let frame = sort-frame own.0.kind c.in-Frame.length
    (sym (ap (λ (head : ItemHead). head.sort) head) ∙ c.in-Frame.is) in
    let both =
    passed (leg_of c.args.walk.now.script) c.args.walk.now.counts c.args.self.now c.requires.at c.requires.some
    c.self.inside.item here own.0 own.1 c.take_refusal-refusal.result c.take_refusal-refusal.new.self.refusals
    c.take_refusal-refusal.ensures.finds frame.0 c.head-head.result.due c.in-Frame.length _ frame.1
    (ap (λ (head : ItemHead). head.due) head) frame.2
    (ap₂ (λ r l. record { item = c.self.inside.item + 1; refusals = r; left = l - 1 })
    (ap (λ (cursor : Cursor). cursor.refusals) c.self-2.view_is)
    (ap (λ (cursor : Cursor). cursor.left) c.self-2.view_is ∙ c.take_refusal-refusal.ensures.left)) in
    record { at = both.0; found = both.1; skipped = search rules; item = ap (λ n. n + 1) here }

pub returns-in_default : goal.returns-in_default
returns-in_default c =
    let items = c.args.walk.now.script.items in
    let here = ap (λ (cursor : Cursor). cursor.item) c.self.view_is in
    let own = item-there items c.self.inside.item (subst (λ n. n < length items) (sym here) c.requires.there) in
    let head = c.head-head.ensures own.0
    (ap (λ (script : Script). slice_get script.items c.self.inside.item) c.script.ensures.script ∙ own.1) in
    let other = sort-other own.0.kind
    (λ n is. c.in_default.not-Frame n (ap (λ (head : ItemHead). head.sort) head ∙ is)) in
    let both =
    skipped (leg_of c.args.walk.now.script) c.args.walk.now.counts c.args.self.now c.requires.at c.requires.some
    c.self.inside.item here own.0 own.1 c.take_refusal-refusal.result c.take_refusal-refusal.new.self.refusals
    c.take_refusal-refusal.ensures.finds _ other
    (ap₂ (λ r l. record { item = c.self.inside.item + 1; refusals = r; left = l })
    (ap (λ (cursor : Cursor). cursor.refusals) c.self-2.view_is)
    (ap (λ (cursor : Cursor). cursor.left) c.self-2.view_is ∙ c.take_refusal-refusal.ensures.left)) in
    record { at = both.0; found = search rules; skipped = both.1; item = ap (λ n. n + 1) here }
