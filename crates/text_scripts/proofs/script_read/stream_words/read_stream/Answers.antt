-- Words without a fault say a rate.
use Rattle.std.proofs.Common.{arith}
use Rattle.law_rates.specs.Rates.{count_of}
use Rattle.law_rates.proofs.RateCountLaws.{few_frames}
use Rattle.text_lines.specs.WordsOfLine.{words}
use Rattle.text_scripts.proofs.StreamWordLaws.{rate_sound}
use Rattle.text_scripts.proofs.script_read.stream_words.read_stream.Goals as goal

pub count-requires : goal.count-requires
count-requires c =
    rate_sound c.args.draft.now (words c.args.rest.now) c.in_ok-rate.rate c.requires.config c.requires.stands
    c.in_ok-rate.ensures.ok.0 c.in_ok-rate.ensures.ok.1

pub check_room-requires : goal.check_room-requires
check_room-requires c =
    let sound = rate_sound c.args.draft.now (words c.args.rest.now) c.in_ok-rate.rate c.requires.config c.requires.stands
    c.in_ok-rate.ensures.ok.0 c.in_ok-rate.ensures.ok.1 in
    let few = few_frames c.in_ok-rate.rate (count_of c.in_ok-rate.rate) sound (omega arith) in
    omega (arith, few, c.count.ensures)
