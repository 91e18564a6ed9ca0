-- What is written and what is left is what was there.
use Rattle.std.proofs.Common.{◌≡◌, ◌+◌, ◌-◌, ◌++◌, take, drop, replicate, sym, ◌∙◌, ap, ap₂, arith, append_assoc}
use Rattle.std.proofs.lemmas.List.{replicate-append-replicate, take-append-drop, drop-drop}
use Rattle.member_au4.proofs.VcsOfStreamPartLaws.{rest-of}
use Rattle.member_au4.proofs.au4_pointer.pointer_source.PointerSource.send_some.Goals as goal

pub returns-then-self-gt0-clause-sent : goal.returns-then-self-gt0-clause-sent
returns-then-self-gt0-clause-sent c =
    let n = c.zero_some-n.result in
    let lead = c.self.inside.lead in
    let back = drop c.self.inside.at c.self.inside.vc in
    ap (λ l. l ++ (replicate (lead - n) 0 ++ back)) c.zero_some-n.ensures.zeros
    ∙ sym (append_assoc (replicate n 0) (replicate (lead - n) 0) back)
    ∙ ap (λ l. l ++ back) (replicate-append-replicate n (lead - n) 0
    ∙ ap (λ k. replicate k 0) (let e : n + (lead - n) ≡ lead = omega (arith, c.zero_some-n.ensures.count) in e))
    ∙ ap (λ s. s.rest) c.self.view_is

pub returns-else-self-gt0-clause-sent : goal.returns-else-self-gt0-clause-sent
returns-else-self-gt0-clause-sent c =
    let n = c.copy_some-n.result in
    let at = c.self.inside.at in
    let vc = c.self.inside.vc in
    let lead = c.self.inside.lead in
    let none : lead ≡ 0 = omega (arith, c.if-self-gt0.false) in
    let first : take n c.copy_some-n.new.out ≡ take n (drop at vc) = c.copy_some-n.ensures.copied
    ∙ ap (take n) (rest-of at vc c.self.told) in
    ap₂ (λ a k. a ++ (replicate k 0 ++ drop (at + n) vc)) first none
    ∙ ap (λ l. take n (drop at vc) ++ l) (sym (drop-drop n at vc))
    ∙ take-append-drop n (drop at vc)
    ∙ ap (λ k. replicate k 0 ++ drop at vc) (sym none)
    ∙ ap (λ s. s.rest) c.self.view_is
