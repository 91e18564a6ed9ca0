-- A part more, a part that is no size, and the last part.
use Rattle.std.proofs.Common.{◌≡◌, ◌∷◌, [], sym, ap, ◌∙◌}
use Rattle.law_rates.specs.Limits.{shortest_frame, longest_frame}
use Rattle.command_words.specs.CommandLineWords.{number_in}
use Rattle.command_rooms.specs.commands.Stream.{all_of}
use Rattle.command_rooms.proofs.StreamSizeLaws.{parts, joined, parts_cut, parts_last, size_more, size_fault, size_last}
use Rattle.command_rooms.proofs.commands.stream.sizes_of.Goals as goal

pub returns-in_default-with_size : goal.returns-in_default-with_size
returns-in_default-with_size c =
    sym (size_fault (all_of (parts c.args.word.now)) c.loop-part.sizes (number_in shortest_frame longest_frame c.in-Some.part.now)
    (parts c.in-Some.later.now)
    (c.loop-part.invariant.all ∙ ap (λ ns. joined c.loop-part.sizes (all_of ns))
    (parts_cut c.loop-part.rest.now c.in-Some.part.now c.in-Some.later.now c.in-Some.ensures.before
    c.in-Some.ensures.some))
    (sym c.in_default-with_size.is ∙ c.with_size.ensures))

pub loop-part-preserved : goal.loop-part-preserved
loop-part-preserved c =
    let more = size_more (all_of (parts c.args.word.now)) c.loop-part.sizes c.in-Some-with_size.more
    (number_in shortest_frame longest_frame c.in-Some.part.now) (parts c.in-Some.later.now)
    (c.loop-part.invariant.all ∙ ap (λ ns. joined c.loop-part.sizes (all_of ns))
    (parts_cut c.loop-part.rest.now c.in-Some.part.now c.in-Some.later.now c.in-Some.ensures.before
    c.in-Some.ensures.some))
    (sym c.in-Some-with_size.is ∙ c.with_size.ensures) in
    record { all = more.0; few = more.1 }

pub returns : goal.returns
returns c =
    c.with_size-2.ensures
    ∙ size_last (all_of (parts c.args.word.now)) c.loop-part.sizes (number_in shortest_frame longest_frame c.loop-part.rest.now)
    (c.loop-part.invariant.all ∙ ap (λ ns. joined c.loop-part.sizes (all_of ns))
    (parts_last c.loop-part.rest.now c.in_default.ensures.none))
    c.loop-part.invariant.few
