-- The frame that is sent, and what stands then.
use Rattle.std.proofs.Common.{◌≡◌, ◌++◌, replicate, drop, sym, ◌∙◌, ap, subst}
use Rattle.member_au4.specs.au4_pointer.PointerWord.{word_of, next_value, next_wait}
use Rattle.member_au4.specs.au4_pointer.Source.{Writes}
use Rattle.member_au4.proofs.SourceSendSteps.{sends}
use Rattle.member_au4.proofs.au4_pointer.pointer_source.PointerSource.carry.Goals as goal

pub returns : goal.returns
returns g c =
    let a = c.args.a in
    let mid = c.write.new.self in
    let value : c.self.inside.value ≡ c.args.self.now.value = ap (λ s. s.value) c.self.view_is
    ∙ c.write.ensures.value in
    let wait : c.self.inside.wait ≡ c.args.self.now.wait = ap (λ s. s.wait) c.self.view_is ∙ c.write.ensures.wait in
    let rest = replicate c.self.inside.lead 0 ++ drop c.self.inside.at c.self.inside.vc in
    sends (λ f. g.V.VcFeed.stands_for f) c.args.self.now c.args.feed.now c.write.new.feed a rest c.write.new.h3
    c.write.new.body c.requires
    (subst (λ r. Writes
    (λ f. g.V.VcFeed.stands_for f) c.args.feed.now c.write.new.feed a c.args.self.now.rest r c.write.new.h3
    c.write.new.body) (sym (ap (λ s. s.rest) c.self.view_is)) c.write.ensures.writes)
    c.word_of-out.result c.next_value-self-inside.result c.next_wait-self-inside.result
    (c.word_of-out.ensures ∙ ap (λ v. word_of v a) value)
    (c.next_value-self-inside.ensures ∙ ap (λ v. next_value v a) value)
    (c.next_wait-self-inside.ensures ∙ ap (λ v. next_wait v a) wait)
