-- No other place changes.
use Rattle.std.proofs.Common.{rules, ◌∙◌, length, ap}
use Rattle.std.proofs.lemmas.List.Edits.{length-swap}
use Rattle.walk_engine.proofs.walk_parts.walk_line.exchange.Goals as goal

pub swap-requires : goal.swap-requires
swap-requires c = record {
  i_in_bounds = search (rules, c.requires.first);
  j_in_bounds = search (rules, c.requires.second);
}

pub returns-clause-size : goal.returns-clause-size
returns-clause-size c = ap length c.swap.ensures.items ∙ length-swap _ c.args.a c.args.b
