-- What the pair answers.
use Rattle.std.proofs.Common.{◌∙◌, ℕ, List, ap, sym, Ok}
use Rattle.law_model.specs.declared.script_types.ItemKind.TheVariants as item_kind
use Rattle.law_live.specs.Common.{cuts_on, lands_on, mends_on}
use Rattle.pair_live.specs.PairLines.{happens}
use Rattle.pair_live.specs.PairReaderStands.{pair_frame, told_pair_line}
use Rattle.pair_live.proofs.PairByLinesLaws.{can_say_as, cut_answered, line_answered, line_part, mend_answered}
use Rattle.pair_live.proofs.PairByLinesLaws.{never_quiet, quiet_saying, same_saying}
use Rattle.pair_live.specs.declared.answered_pair.AnsweredPair.{AnsweredPair}
use Rattle.pair_live.proofs.PairSayingLaws.{cut-after, cut-answered, cut-few, cut-left, cut-line, now-live}
use Rattle.pair_live.proofs.PairSayingLaws.{mend-answered, mend-cut, mend-line}
use Rattle.pair_live.proofs.pair_by_lines.AnsweredPairAnswerer.say.Goals as goal

pub returns-in-Blank : goal.returns-in-Blank
returns-in-Blank g c = record {
  answers = λ asked ls line has is. absurd (never_quiet c.args.reader.now c.args.says ls line is c.in-Blank.is);
  part = λ asked ls line has is. tt;
}

pub returns-in-Frame : goal.returns-in-Frame
returns-in-Frame g c =
    let told = ap (told_pair_line (pair_frame c.args.reader.now)) c.in-Frame.is
    ∙ ap (λ (f : List ℕ). happens (lands_on c.in-Frame.way (item_kind.Frame f))) (sym c.frame.ensures) in
    record {
      answers = λ asked ls line has is. line_answered c.args.reader.now c.args.says ls line is g.K.ByteSink.written
          g.K.ByteSink.faults c.args.out.now c.land.new.out c.args.block.now c.land.new.block c.args.self.now
          c.land.new.self asked c.land.result _
          (same_saying c.args.reader.now c.args.says ls line is _ told) has c.land.ensures.answers;
      part = λ asked ls line has is. line_part c.args.reader.now c.args.says ls line is g.K.ByteSink.written
          g.K.ByteSink.faults c.args.out.now c.land.new.out c.args.block.now c.args.self.now asked c.land.result _
          (same_saying c.args.reader.now c.args.says ls line is _ told) has c.land.ensures.part;
    }

pub returns-in-Add : goal.returns-in-Add
returns-in-Add g c =
    let told = ap (told_pair_line (pair_frame c.args.reader.now)) c.in-Add.is in
    record {
      answers = λ asked ls line has is. line_answered c.args.reader.now c.args.says ls line is g.K.ByteSink.written
          g.K.ByteSink.faults c.args.out.now c.land-in-Add.new.out c.args.block.now c.land-in-Add.new.block c.args.self.now
          c.land-in-Add.new.self asked c.land-in-Add.result _
          (same_saying c.args.reader.now c.args.says ls line is _ told) has c.land-in-Add.ensures.answers;
      part = λ asked ls line has is. line_part c.args.reader.now c.args.says ls line is g.K.ByteSink.written
          g.K.ByteSink.faults c.args.out.now c.land-in-Add.new.out c.args.block.now c.args.self.now asked c.land-in-Add.result _
          (same_saying c.args.reader.now c.args.says ls line is _ told) has c.land-in-Add.ensures.part;
    }

pub returns-in-Remove : goal.returns-in-Remove
returns-in-Remove g c =
    let told = ap (told_pair_line (pair_frame c.args.reader.now)) c.in-Remove.is in
    record {
      answers = λ asked ls line has is. line_answered c.args.reader.now c.args.says ls line is g.K.ByteSink.written
          g.K.ByteSink.faults c.args.out.now c.land-in-Remove.new.out c.args.block.now c.land-in-Remove.new.block c.args.self.now
          c.land-in-Remove.new.self asked c.land-in-Remove.result _
          (same_saying c.args.reader.now c.args.says ls line is _ told) has c.land-in-Remove.ensures.answers;
      part = λ asked ls line has is. line_part c.args.reader.now c.args.says ls line is g.K.ByteSink.written
          g.K.ByteSink.faults c.args.out.now c.land-in-Remove.new.out c.args.block.now c.args.self.now asked c.land-in-Remove.result _
          (same_saying c.args.reader.now c.args.says ls line is _ told) has c.land-in-Remove.ensures.part;
    }

pub returns-in-Pass : goal.returns-in-Pass
returns-in-Pass g c =
    let told = ap (told_pair_line (pair_frame c.args.reader.now)) c.in-Pass.is in
    record {
      answers = λ asked ls line has is. line_answered c.args.reader.now c.args.says ls line is g.K.ByteSink.written
          g.K.ByteSink.faults c.args.out.now c.pass.new.out c.args.block.now c.pass.new.block c.args.self.now
          c.pass.new.self asked c.pass.result _
          (same_saying c.args.reader.now c.args.says ls line is _ told) has c.pass.ensures.answers;
      part = λ asked ls line has is. line_part c.args.reader.now c.args.says ls line is g.K.ByteSink.written
          g.K.ByteSink.faults c.args.out.now c.pass.new.out c.args.block.now c.args.self.now asked c.pass.result _
          (same_saying c.args.reader.now c.args.says ls line is _ told) has c.pass.ensures.part;
    }

pub returns-in-Cut-clause-answers : goal.returns-in-Cut-clause-answers
returns-in-Cut-clause-answers g c asked ls line has is =
    let told = ap (told_pair_line (pair_frame c.args.reader.now)) c.in-Cut.is in
    let next : AnsweredPair = record c.args.self.now { pair = c.cut.new.self } in
    let e = c.cut.ensures in
    line_answered c.args.reader.now c.args.says ls line is g.K.ByteSink.written g.K.ByteSink.faults
    c.args.out.now c.args.out.now c.args.block.now c.args.block.now c.args.self.now next asked (Ok tt)
    (cuts_on c.in-Cut.way c.in-Cut.line) (same_saying c.args.reader.now c.args.says ls line is (cuts_on c.in-Cut.way c.in-Cut.line) told) has
    (λ asked there back said was well. quiet_saying g.K.ByteSink.written g.K.ByteSink.faults c.args.out.now c.args.block.now
    next asked there back said (cuts_on c.in-Cut.way c.in-Cut.line)
    (cut-answered c.args.self.now asked there back said was c.in-Cut.way c.in-Cut.line well c.cut.new.self e.lives e.counts
    e.windows e.beside)
    (cut_answered asked there back said c.in-Cut.way c.in-Cut.line))

pub returns-in-Mend-clause-answers : goal.returns-in-Mend-clause-answers
returns-in-Mend-clause-answers g c asked ls line has is =
    let told = ap (told_pair_line (pair_frame c.args.reader.now)) c.in-Mend.is in
    let next : AnsweredPair = record c.args.self.now { pair = c.mend.new.self } in
    let e = c.mend.ensures in
    line_answered c.args.reader.now c.args.says ls line is g.K.ByteSink.written g.K.ByteSink.faults
    c.args.out.now c.args.out.now c.args.block.now c.args.block.now c.args.self.now next asked (Ok tt)
    (mends_on c.in-Mend.way c.in-Mend.line) (same_saying c.args.reader.now c.args.says ls line is (mends_on c.in-Mend.way c.in-Mend.line) told) has
    (λ asked there back said was well. quiet_saying g.K.ByteSink.written g.K.ByteSink.faults c.args.out.now c.args.block.now
    next asked there back said (mends_on c.in-Mend.way c.in-Mend.line)
    (mend-answered c.args.self.now asked there back said was c.in-Mend.way c.in-Mend.line well c.mend.new.self e.lives e.counts
    e.windows e.beside)
    (mend_answered asked there back said c.in-Mend.way c.in-Mend.line))

pub cut-requires : goal.cut-requires
cut-requires g c =
    let (asked, ls, line, has, is) = c.requires in
    let (told, there, back, said, was, well) =
    can_say_as c.args.reader.now c.args.says ls line is c.args.self.now asked has _
    (ap (told_pair_line (pair_frame c.args.reader.now)) c.in-Cut.is) in
    record {
      line = cut-line c.args.self.now told there back said was c.in-Cut.way c.in-Cut.line well;
      lives = now-live c.args.self.now told there back said was;
      few = cut-few c.args.self.now told there back said was c.in-Cut.way c.in-Cut.line well;
      after = cut-after c.args.self.now told there back said was c.in-Cut.way c.in-Cut.line well;
      left = cut-left c.args.self.now told there back said was c.in-Cut.way c.in-Cut.line well;
    }

pub mend-requires : goal.mend-requires
mend-requires g c =
    let (asked, ls, line, has, is) = c.requires in
    let (told, there, back, said, was, well) =
    can_say_as c.args.reader.now c.args.says ls line is c.args.self.now asked has _
    (ap (told_pair_line (pair_frame c.args.reader.now)) c.in-Mend.is) in
    record {
      line = mend-line c.args.self.now told there back said was c.in-Mend.way c.in-Mend.line well;
      lives = now-live c.args.self.now told there back said was;
      cut = mend-cut c.args.self.now told there back said was c.in-Mend.way c.in-Mend.line well;
    }

pub pass-requires : goal.pass-requires
pass-requires g c =
    let (asked, ls, line, has, is) = c.requires in
    can_say_as c.args.reader.now c.args.says ls line is c.args.self.now asked has _
    (ap (told_pair_line (pair_frame c.args.reader.now)) c.in-Pass.is)
