-- A line more; and all of them.
use Rattle.std.proofs.Common.{◌≡◌, ◌+◌, ◌/◌, ◌%◌, ◌++◌, min, length, ap, subst, sym, ◌∙◌, arith, flat_map, append_assoc}
use Rattle.std.specs.List.{range_with_len}
use Rattle.law_model.proofs.ListLaws.{texts-more}
use Rattle.text_got.specs.TextSoFar.{HasText}
use Rattle.command_rooms.specs.commands.H4.{multiframe_text, h4_text}
use Rattle.command_rooms.proofs.commands.h4.write_multiframes.Goals as goal

pub write_multiframe-requires : goal.write_multiframe-requires
write_multiframe-requires g c =
    let count : c.div_ceil-m-end.result ≡ length c.args.octets.now / 16 + min 1 (length c.args.octets.now % 16) =
    c.div_ceil-m-end.ensures in
    let low = c.loop-m-test.true in
    omega (arith, count, low)

pub loop-m-preserved : goal.loop-m-preserved
loop-m-preserved g c = λ start before has.
    let f = multiframe_text c.args.octets.now in
    let m = c.loop-m.m in
    subst (HasText g.K.ByteSink.written g.K.ByteSink.faults c.write_multiframe.new.got start)
    (append_assoc before (flat_map f (range_with_len 0 m)) (f m) ∙ ap (λ l. before ++ l) (sym (texts-more f m)))
    (c.write_multiframe.ensures start (before ++ flat_map f (range_with_len 0 m)) (c.loop-m.invariant start before has))

pub returns : goal.returns
unfolding h4_text
returns g c = λ start before has.
    let f = multiframe_text c.args.octets.now in
    let count : c.div_ceil-m-end.result ≡ length c.args.octets.now / 16 + min 1 (length c.args.octets.now % 16) =
    c.div_ceil-m-end.ensures in
    let all : c.loop-m.m ≡ (length c.args.octets.now + 15) / 16 =
    omega (arith, count, c.loop-m-test.false, c.loop-m.auto.m-end) in
    subst (HasText g.K.ByteSink.written g.K.ByteSink.faults c.loop-m.got start)
    (ap (λ n. before ++ flat_map f (range_with_len 0 n)) all) (c.loop-m.invariant start before has)
