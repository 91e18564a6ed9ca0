-- A worked leg, computed.
use Rattle.std.proofs.Common.{refl}
use Rattle.law_model.specs.members.Damage.{carried}
use Rattle.law_model.specs.Common.{is_up, last_read, are_whole, keep, none_kept, admit, turned, take_out}
use Rattle.law_model.specs.Common.{exchange, after, said_before, cells_before}
use Rattle.law_service.proofs.cost_of_failures.worked_law.Goals as goal

pub returns : goal.returns
unfolding carried are_whole after keep none_kept cells_before said_before exchange take_out turned admit is_up
    last_read
returns c = record {
  rows = refl;
  spoiled = refl;
  used = refl;
  timed_rows = refl;
  timed_spoiled = refl;
  timed_used = refl;
}
