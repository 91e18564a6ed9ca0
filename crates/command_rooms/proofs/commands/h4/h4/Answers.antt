-- A script is read, and has no such line; or its walk is made, and the octets are written or a write fails.
use Rattle.std.proofs.Common.{◌≡◌, ◌<◌, ℕ, if◌then◌else◌, OnOk, OnErr, refl, ◌∙◌, ap, subst, arith}
use Rattle.std.proofs.lemmas.Bool.{lt-ltb}
use Rattle.law_model.specs.Common.{Appends, AppendsPart}
use Rattle.law_model.specs.declared.script_types.Script.{Script}
use Rattle.law_headline.specs.WalkTexts.{counts_in}
use Rattle.command_parts.specs.Common.{writes, refuses, answer_of}
use Rattle.command_parts.specs.declared.stop_and_status.Refusal.TheVariants.{Limit}
use Rattle.command_parts.proofs.TaskEndAndStatusLaws.{text-written}
use Rattle.command_rooms.specs.commands.H4.{h4_octets, h4_text, h4_of, h4_answer, no_line_text}
use Rattle.command_rooms.proofs.HandedWalkAndTrueStartLaws.{hands-script}
use Rattle.command_rooms.proofs.commands.h4.h4.Goals as goal

answers : (line : ℕ) (script : Script) → line < script.config.lines →
    h4_of line script ≡ writes (h4_text (h4_octets script line (counts_in script).ticks))
answers line script low =
    ap (λ b. if b then writes (h4_text (h4_octets script line (counts_in script).ticks))
    else refuses Limit (no_line_text line script.config.lines)) (lt-ltb line script.config.lines low)

pub returns-in-Err : goal.returns-in-Err
returns-in-Err g c = record { ran = tt; stopped = c.in-Err.ensures.stopped _; nothing = refl }

pub returns : goal.returns
returns g c =
    let line = c.args.line in
    let script = c.in-Ok.begun.walk.script in
    let text = h4_text (h4_octets script line (counts_in script).ticks) in
    let has = c.in-Ok.ensures.script in
    let low : line < script.config.lines =
    (let own = c.in-Ok.ensures.begun.lines in let less = c.if-line-lines.false in omega (arith, own, less)) in
    let same = ap h4_text (c.as_slice-2.ensures.value ∙ c.in-Ok-sent_octets.ensures.octets) in
    text-written _ _ _ _ (h4_answer line) has.text text has.read
    (ap (answer_of (h4_of line)) has.says ∙ answers line script low)
    (subst (λ t. OnOk c.write_octets-written.result
    (Appends g.K.ByteSink.written g.K.ByteSink.faults c.args.out.now c.write_octets-written.new.out t)) same
    c.write_octets-written.ensures.ok)
    (subst (λ t. OnErr c.write_octets-written.result
    (AppendsPart g.K.ByteSink.written g.K.ByteSink.faults c.args.out.now c.write_octets-written.new.out t)) same
    c.write_octets-written.ensures.err)
    (hands-script _ script c.sent_octets.new.walk has c.sent_octets.ensures.script
    c.in-Ok-sent_octets.ensures.counts)
