-- Frames are counted and given on.
use Rattle.std.proofs.Common.{rules, ◌≡◌, ℕ, ◌+◌, ◌++◌, List, [], Option, None, min, refl, sym, ◌∙◌, ap, subst, arith}
use Rattle.law_model.specs.Common.{Cell, first_open}
use Rattle.law_model.specs.declared.control_packet.Packet.{Packet}
use Rattle.law_model.specs.declared.script_types.Options.{Options}
use Rattle.terminal_sink.specs.declared.sink_core.sink_terminal.TakeAnswer.{TakeAnswer}
use Rattle.terminal_sink.specs.declared.sink_core.sink_terminal.TakeAnswer.TheVariants.{Taken, Waiting}
use Rattle.terminal_sink.specs.sink_core.TakenAndGiven.{added_frames, answer_at, answer_by, back_at, rows_taken}
use Rattle.walk_engine.specs.Common.{CanTake, counting, passing}
use Rattle.walk_engine.proofs.walk_core.take_rows.take_counted_row.Goals as goal

pub take-answer-requires : goal.take-answer-requires
take-answer-requires g c =
    record { lines = c.requires.lines; rows = c.requires.rows; few = c.requires.few }

-- each line decides the row, so it was taken
taken-answer : (answer : TakeAnswer) (options : Options) (cells : List (List Cell)) (t : ℕ) →
    answer ≡ answer_at options cells t → first_open cells t ≡ None → answer ≡ Taken (back_at options cells t)
taken-answer answer options cells t is none = is ∙ ap (λ line. answer_by line options cells t) none

no-wait : (line : ℕ) (back : Option Packet) → Waiting line ≡ Taken back → ⊥
no-wait line back e = cc

same-back : (a b : Option Packet) → Taken a ≡ Taken b → a ≡ b
same-back a b e = cc

pub returns-in-Taken-clause-takes : goal.returns-in-Taken-clause-takes
returns-in-Taken-clause-takes g c cells can =
    let told = c.take-answer.ensures in
    let is = taken-answer c.take-answer.result _ cells c.args.sink.now.taken (told.answer cells can.gathers can.taken)
    can.none in
    record {
      gathers = told.gathers cells can.gathers;
      taken = told.stands cells can.gathers can.taken;
      one = told.taken ∙ ap (λ answer. c.args.sink.now.taken + rows_taken answer) is;
      passed = told.rows;
      lines = told.lines ∙ c.requires.lines;
      all = told.own_lines;
      size = told.size;
      options = told.options;
      said = same-back c.in-Taken.back _ (sym c.in-Taken.is ∙ is);
    }

pub returns-in-Waiting : goal.returns-in-Waiting
returns-in-Waiting g c =
    let none = λ (cells : List (List Cell)) (can : CanTake cells c.args.sink.now c.args.rows.now).
    no-wait c.in-Waiting.line _ (sym c.in-Waiting.is
    ∙ taken-answer c.take-answer.result _ cells c.args.sink.now.taken
    (c.take-answer.ensures.answer cells can.gathers can.taken) can.none) in
    record {
      takes = λ cells can. absurd (none cells can);
      counted = λ cells can. absurd (none cells can);
      gives = λ cells can start given stands. absurd (none cells can);
    }

pub returns-in-Taken-clause-counted : goal.returns-in-Taken-clause-counted
returns-in-Taken-clause-counted g c cells can =
    let fits = c.ranges.got.fits in
    let name = c.new-counted.result.out.ghost_name in
    let none : c.args.got ≡ min (c.args.got + 0) 18446744073709551615 = omega (arith, fits) in
    let told = c.take-answer.ensures.gives cells can.gathers can.taken (counting c.args.got name) []
    (refl, c.new-counted.ensures.got ∙ none) in
    told.1

pub returns-in-Taken-clause-gives : goal.returns-in-Taken-clause-gives
returns-in-Taken-clause-gives g c cells can start given stands =
    let name = c.new-counted.result.out.ghost_name in
    let F = g.F.FrameOut.stands_for in
    let told = c.take-answer.ensures.gives cells can.gathers can.taken (passing start name) given
    (refl, subst (λ out. F out start given) (sym c.new-counted.ensures.same) stands) in
    let given_on : F c.take-answer.new.out.out.now start
    (given ++ added_frames c.args.sink.now.options c.args.sink.now.size cells c.args.sink.now.taken
    c.take-answer.new.self.taken) =
    told.1 in
    let same = c.new-counted.ensures.same_reference in
    let back = c.take_back.ensures in
    search (rules, given_on, told.0, same, back)
