-- A packet was read, or none was.
use Rattle.std.proofs.Common.{None, option_map, refl, sym, ◌∙◌, ap}
use Rattle.law_model.specs.Common.{told_by}
use Rattle.pair_engine.proofs.ways_meet.heard_cell.Goals as goal

pub returns-in-Some : goal.returns-in-Some
returns-in-Some c = record {
  told = c.told_cell.ensures.told ∙ ap (option_map told_by) (sym c.in-Some.is ∙ c.leader.ensures);
  said = c.told_cell.ensures.said;
}

pub returns-in-None : goal.returns-in-None
returns-in-None c = record {
  told = ap (option_map told_by) (sym c.in-None.is ∙ c.leader.ensures);
  said = (None, tt, refl);
}
