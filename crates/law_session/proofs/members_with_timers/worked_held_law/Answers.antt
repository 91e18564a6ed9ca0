-- A worked session, computed.
use Rattle.std.proofs.Common.{◌≡◌, inl, inr, true, refl, arith}
use Rattle.std.specs.List.{list_all, range_with_len}
use Rattle.std.proofs.lemmas.Bool.{cases_lt}
use Rattle.law_model.specs.members.Damage.{carried}
use Rattle.law_model.specs.Common.{are_whole, keep, none_kept, admit, turned, take_out, exchange, after, said_before}
use Rattle.law_model.specs.Common.{cells_before, is_read, is_up, last_read}
use Rattle.law_session.specs.TimedMembers.{MissesFew}
use Rattle.law_session.specs.WorkedFlaps.{held_line}
use Rattle.law_session.proofs.UpLineAndReadablePacketLaws.{range-each}
use Rattle.law_session.proofs.members_with_timers.worked_held_law.Goals as goal

all-read : list_all (is_read (held_line 2) 1) (range_with_len 65 16) ≡ true
unfolding carried are_whole
all-read = refl

misses-few : MissesFew (held_line 2) 1 62 80
misses-few j later inside =
    elim (cases_lt j 65) [
      | inl early ↦ (
        65,
        omega arith,
        omega arith,
        range-each (is_read (held_line 2) 1) 16 65 all-read 65 (omega arith)
            (omega arith),
      )
      | inr late ↦ (
        j,
        omega arith,
        omega arith,
        range-each (is_read (held_line 2) 1) 16 65 all-read j late
            (omega arith),
      )
    ]

pub returns-clause-held : goal.returns-clause-held
unfolding carried are_whole after keep none_kept cells_before said_before exchange take_out turned admit is_up last_read
returns-clause-held c = record {
  read = refl;
  up = refl;
  used = (1, refl);
  few = misses-few;
  still = refl;
}

pub returns-clause-short : goal.returns-clause-short
unfolding carried are_whole after keep none_kept cells_before said_before exchange take_out turned admit is_up last_read
returns-clause-short c = record { before = (1, refl); now = (1, refl) }

pub returns-clause-back : goal.returns-clause-back
unfolding carried are_whole after keep none_kept cells_before said_before exchange take_out turned admit is_up last_read
returns-clause-back c = record { before = (1, refl); now = (1, refl) }

pub returns-clause-times : goal.returns-clause-times
unfolding carried are_whole after keep none_kept cells_before said_before exchange take_out turned admit is_up last_read
returns-clause-times c = refl
