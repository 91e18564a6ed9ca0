-- An item is the next one of its way in each pair, and is refused or not.
use Rattle.std.proofs.Common.{ℕ, List, ◌++◌, ◌∙◌, ap, subst}
use Rattle.std.proofs.lemmas.Result.{on_err_weaker, on_ok_weaker}
use Rattle.law_model.specs.Common.{AppendsPart}
use Rattle.law_live.specs.Common.{refused_way_text}
use Rattle.text_got.specs.TextSoFar.{Holds}
use Rattle.terminal_group.specs.Item.{kind_of}
use Rattle.pair_live.proofs.PairItemLaws.{counted-still, land-accepted, land-answered, land-few, land-refused}
use Rattle.walk_live.proofs.TimedLineWritingLaws.{holds-none}
use Rattle.pair_live.proofs.answered_pair.AnsweredPair.land.Goals as goal

pub returns-in-Some-clause-answers : goal.returns-in-Some-clause-answers
returns-in-Some-clause-answers g c asked there back said is well =
    let self = c.args.self.now in
    let kind = kind_of c.args.item in
    let few = land-few self asked there back said is c.args.way kind well in
    let counted = c.count_item-number.ensures in
    let P : List ℕ → Type 0 = λ text. Holds g.K.ByteSink.written g.K.ByteSink.faults c.args.out.now
    c.tell_refused.new.out c.tell_refused.new.block (c.args.block.now ++ text) in
    on_ok_weaker c.tell_refused.result
    (λ told. record {
      is = land-answered self asked there back said is c.args.way kind well c.count_item-number.new.self.pair
          (record c.count_item-number.new.self { pair = c.say.new.self }) counted.pair
          (counted-still c.args.way self c.count_item-number.new.self c.say.new.self (counted.counted few))
          c.say.ensures.lands c.say.ensures.windows;
      holds = subst P
          (ap (λ n. refused_way_text c.args.way n c.in-Some.why) counted.number
          ∙ land-refused self asked there back said is c.args.way kind well c.count_item-number.new.self.pair
          c.in-Some.why c.count_item-number.ensures.pair c.in-Some.ensures.refusal) told;
    })
    c.tell_refused.ensures.told

pub returns-in-Some-clause-part : goal.returns-in-Some-clause-part
returns-in-Some-clause-part g c asked there back said is well =
    let self = c.args.self.now in
    let kind = kind_of c.args.item in
    let P : List ℕ → Type 0 = λ text. AppendsPart g.K.ByteSink.written g.K.ByteSink.faults c.args.out.now
    c.tell_refused.new.out (c.args.block.now ++ text) in
    on_err_weaker c.tell_refused.result
    (subst P
    (ap (λ n. refused_way_text c.args.way n c.in-Some.why) c.count_item-number.ensures.number
    ∙ land-refused self asked there back said is c.args.way kind well c.count_item-number.new.self.pair
    c.in-Some.why c.count_item-number.ensures.pair c.in-Some.ensures.refusal))
    c.tell_refused.ensures.part

pub returns-in-None-clause-answers : goal.returns-in-None-clause-answers
returns-in-None-clause-answers g c asked there back said is well =
    let self = c.args.self.now in
    let kind = kind_of c.args.item in
    let few = land-few self asked there back said is c.args.way kind well in
    let counted = c.count_item-number.ensures in
    record {
      is = land-answered self asked there back said is c.args.way kind well c.count_item-number.new.self.pair
          (record c.count_item-number.new.self { pair = c.say.new.self }) counted.pair
          (counted-still c.args.way self c.count_item-number.new.self c.say.new.self (counted.counted few))
          c.say.ensures.lands c.say.ensures.windows;
      holds = holds-none g.K.ByteSink.written g.K.ByteSink.faults c.args.out.now c.args.block.now _
          (land-accepted self asked there back said is c.args.way kind well c.count_item-number.new.self.pair
          counted.pair c.in-None.ensures.refusal);
    }
