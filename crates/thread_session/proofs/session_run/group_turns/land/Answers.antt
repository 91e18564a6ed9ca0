-- It is handed in below the number of the one who brings it.
use Rattle.std.proofs.Common.{◌≡◌, ℕ, ◌<◌, nat_lt, Bool, true, false, sym, ◌∙◌, ap, subst, arith, refl}
use Rattle.std.proofs.lemmas.Bool.{ltb-true, ltb-false}
use Rattle.law_model.specs.declared.script_types.ItemKind.{ItemKind}
use Rattle.law_model.specs.declared.script_types.ItemKind.TheVariants.{Frame, Add, Remove}
use Rattle.law_walk.specs.Common.{is_client}
use Rattle.thread_group.specs.HandedAhead.{handed_below}
use Rattle.thread_session.specs.session_run.Turns.{bringer, brings_frames}
use Rattle.thread_session.proofs.session_run.group_turns.land.Goals as goal

client-brings : (kind : ItemKind) → brings_frames (bringer kind) ≡ is_client kind
client-brings (Frame octets) = refl
client-brings (Add line) = refl
client-brings (Remove line) = refl

not-below : (answer : Bool) (number below : ℕ) → answer ≡ nat_lt number below → answer ≡ false → number < below → ⊥
not-below answer number below is denied low =
    let high = ltb-false number below (sym is ∙ denied) in omega arith

pub returns-then-not-is_handed_in-clause-handed : goal.returns-then-not-is_handed_in-clause-handed
returns-then-not-is_handed_in-clause-handed g c = λ item there.
    let client : c.is_client-client.result ≡ is_client item.kind =
    c.is_client-client.ensures ∙ ap brings_frames (c.who_brings.ensures item there) ∙ client-brings item.kind in (
      (λ yes. absurd (let f : false ≡ true = yes in cc)),
      (λ both. absurd (not-below c.is_handed_in.result c.args.number _ c.is_handed_in.ensures
          c.if-not-is_handed_in.true
          (subst (λ b. c.args.number < handed_below c.args.group.now.handed b) (sym client) both.0))),
    )

pub returns-clause-handed : goal.returns-clause-handed
returns-clause-handed g c = λ item there.
    let client : c.is_client-client.result ≡ is_client item.kind =
    c.is_client-client.ensures ∙ ap brings_frames (c.who_brings.ensures item there) ∙ client-brings item.kind in
    let low = subst (λ b. c.args.number < handed_below c.args.group.now.handed b) client
    (ltb-true c.args.number _ (sym c.is_handed_in.ensures ∙ c.if-not-is_handed_in.false)) in
    let when = c.submit.ensures.when item there in
    ((λ yes. (low, when.0 yes)), (λ both. when.1 both.1))
