-- Send rings were looked at.
use Rattle.std.proofs.Common.{refl, arith}
use Rattle.thread_group.proofs.GroupPartsAfterStepLaws.{keeps-looked}
use Rattle.thread_group.proofs.group_state.GroupState.look.Goals as goal

pub first_full-requires : goal.first_full-requires
first_full-requires c =
    let rings = c.args.self.now.keeps.rings in
    let lines = c.args.self.now.keeps.lines in
    omega arith

pub invariant_of-self : goal.invariant_of-self
invariant_of-self c = record {
  lines = c.args.self.now.lines;
  keeps =
      keeps-looked _ _ c.first_full.new.tx.items c.args.self.now.keeps c.first_full.ensures.looked;
}

pub returns-clause-looks : goal.returns-clause-looks
returns-clause-looks c = record {
  script = record { lines = refl; lag = refl; size = refl; statuses = refl; total = refl; lost = refl; items = refl };
  landed = record { frames = refl; commands = refl; journal = refl; slots = refl; bytes = refl; refusals = refl };
  source = refl;
  inbox = refl;
  back = refl;
  looked = c.first_full.ensures.looked;
}

pub returns-clause-full : goal.returns-clause-full
returns-clause-full c = c.first_full.ensures.full
