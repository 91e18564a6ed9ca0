-- A send ring is full, or none is.
use Rattle.std.proofs.Common.{option_map, sym, ◌∙◌, ap}
use Rattle.law_model.specs.declared.walk_events.StallCause.TheVariants.{TxFull}
use Rattle.pair_engine.proofs.live_way.LiveWay.full.Goals as goal

pub returns-in-Some : goal.returns-in-Some
returns-in-Some c leg backs stands =
    ap (option_map TxFull) (sym c.in-Some.is ∙ c.first_full.ensures leg backs stands)

pub returns-in-None : goal.returns-in-None
returns-in-None c leg backs stands =
    ap (option_map TxFull) (sym c.in-None.is ∙ c.first_full.ensures leg backs stands)
