-- A worked session, computed.
use Rattle.std.proofs.Common.{◌<◌, [], ◌∷◌, refl, lit<, arith}
use Rattle.std.proofs.lemmas.List.Elements.{All-nil, All-cons}
use Rattle.law_model.specs.Common.{bits, number_behind, octets_of, xors, add_front, divide, crc8_of, are_whole}
use Rattle.law_model.specs.Common.{AreWindows, slip_after, slip_of, keep, none_kept, admit, turned, take_out, exchange}
use Rattle.law_model.specs.Common.{after, said_before, cells_before, is_up, last_read, place_in, group_bits}
use Rattle.law_model.specs.Common.{group_bit, reaching, place_of, stream_before, cut, scramble_on, part_of, path}
use Rattle.law_model.specs.Common.{read_on, uppers, read_of}
use Rattle.law_model.specs.members.Damage.{carried}
use Rattle.law_terminal.proofs.worked_course.worked_law.Goals as goal

pub returns : goal.returns
unfolding carried are_whole after keep none_kept cells_before said_before is_up last_read exchange take_out turned
    admit place_in group_bits group_bit crc8_of bits number_behind divide add_front part_of octets_of xors reaching
    place_of stream_before cut scramble_on path read_on uppers read_of AreWindows slip_after
returns c = record {
  met = record {
    few = omega arith;
    apart = All-cons (AreWindows 0) [] ([] ∷ []) tt (All-cons (AreWindows 0) [] [] tt (All-nil (AreWindows 0)));
    slip = All-cons (λ own. slip_of own < 4096) [] ([] ∷ []) (lit< tt)
        (All-cons (λ own. slip_of own < 4096) [] [] (lit< tt) (All-nil (λ own. slip_of own < 4096)));
  };
  zeros = refl;
  add = refl;
  eos = refl;
  add_second = refl;
  told = refl;
  cells = refl;
  first = refl;
  second = refl;
}
