-- An item is the next one of each leg, and is refused or not.
use Rattle.std.proofs.Common.{◌≡◌, ℕ, ◌+◌, List, ◌++◌, arith, subst}
use Rattle.std.proofs.lemmas.Result.{on_err_weaker, on_ok_weaker}
use Rattle.law_model.specs.Common.{AppendsPart}
use Rattle.text_got.specs.TextSoFar.{Holds}
use Rattle.terminal_group.specs.Item.{kind_of}
use Rattle.walk_live.proofs.AnsweredWalkAndSayingLaws.{land-accepted, land-answered, land-few, land-refused}
use Rattle.walk_live.proofs.TimedLineWritingLaws.{holds-none}
use Rattle.walk_live.proofs.answered_walk.AnsweredWalk.land.Goals as goal

pub returns-in-Some-clause-answers : goal.returns-in-Some-clause-answers
returns-in-Some-clause-answers g c asked config said is well =
    let self = c.args.self.now in
    let few = land-few self asked config said is (kind_of c.args.item) well in
    let counted = c.saturating_add-self.ensures in
    let more : c.saturating_add-self.result ≡ self.items + 1 = omega (arith, few, counted) in
    let P : List ℕ → Type 0 = λ text. Holds g.K.ByteSink.written g.K.ByteSink.faults c.args.out.now
    c.tell_refused.new.out c.tell_refused.new.block (c.args.block.now ++ text) in
    on_ok_weaker c.tell_refused.result
    (λ told. record {
      is = land-answered self asked config said is (kind_of c.args.item) well c.say.new.self c.saturating_add-self.result _
          more c.say.ensures.makes c.say.ensures.windows;
      holds = subst P (land-refused self asked config said is (kind_of c.args.item) well c.in-Some.why
          c.in-Some.ensures.refusal) told;
    })
    c.tell_refused.ensures.told

pub returns-in-Some-clause-part : goal.returns-in-Some-clause-part
returns-in-Some-clause-part g c asked config said is well =
    let self = c.args.self.now in
    let P : List ℕ → Type 0 = λ text. AppendsPart g.K.ByteSink.written g.K.ByteSink.faults c.args.out.now
    c.tell_refused.new.out (c.args.block.now ++ text) in
    on_err_weaker c.tell_refused.result
    (subst P (land-refused self asked config said is (kind_of c.args.item) well c.in-Some.why c.in-Some.ensures.refusal))
    c.tell_refused.ensures.part

pub returns-in-None-clause-answers : goal.returns-in-None-clause-answers
returns-in-None-clause-answers g c asked config said is well =
    let self = c.args.self.now in
    let few = land-few self asked config said is (kind_of c.args.item) well in
    let counted = c.saturating_add-self.ensures in
    let more : c.saturating_add-self.result ≡ self.items + 1 = omega (arith, few, counted) in
    record {
      is = land-answered self asked config said is (kind_of c.args.item) well c.say.new.self c.saturating_add-self.result _
          more c.say.ensures.makes c.say.ensures.windows;
      holds = holds-none g.K.ByteSink.written g.K.ByteSink.faults c.args.out.now c.args.block.now _
          (land-accepted self asked config said is (kind_of c.args.item) well c.in-None.ensures.refusal);
    }
