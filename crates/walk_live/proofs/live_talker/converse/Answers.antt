-- Nothing was read.
use Rattle.std.proofs.Common.{refl, subst, sym, [], None}
use Rattle.walk_live.specs.Answering.{IsThereBy}
use Rattle.walk_live.proofs.live_talker.converse.Goals as goal

pub talk-requires : goal.talk-requires
talk-requires g c = record {
  dialogue = refl;
  read = c.in-Ok.ensures.reads;
  answers = subst (IsThereBy g.W.Answerer.HasAnswered None c.args.tells [] []) (sym c.new_reader.ensures.begins) (refl, refl);
}
