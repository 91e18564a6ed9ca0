-- An item is held, or none is.
use Rattle.std.proofs.Common.{◌≡◌, ℕ, Option, option_map, sym, ◌∙◌, ap}
use Rattle.law_model.specs.Common.{dues_of, held}
use Rattle.law_model.specs.declared.script_types.Script.{Script}
use Rattle.law_model.specs.declared.walk_events.StallCause.TheVariants.{Held}
use Rattle.terminal_group.proofs.ItemPlaceAndHeldItemLaws.{bare-dues}
use Rattle.law_pair.specs.Common.{way_of}
use Rattle.pair_engine.specs.declared.pair_way.PairWay.{PairWay}
use Rattle.pair_engine.specs.Ways.{LandedAs}
use Rattle.pair_engine.proofs.pair_way.PairWay.held.Goals as goal

-- by the ticks as they are read
held-is : (own : PairWay) (other : Script) (ticks : ℕ) (found : Option ℕ) →
    LandedAs (way_of own.script other) own → ticks ≡ own.live.core.source.core.ticks →
    found ≡ held ticks own.landing.frames own.landing.commands 0 (dues_of own.landing.items) →
    found ≡ held own.live.core.source.core.ticks own.live.core.source.landed.frames
    own.live.core.source.landed.commands 0 (dues_of own.script.items)
held-is own other ticks found known at e =
    e ∙ ap (λ n. held n own.landing.frames own.landing.commands 0 (dues_of own.landing.items)) at
    ∙ ap (λ n. held own.live.core.source.core.ticks n own.landing.commands 0 (dues_of own.landing.items)) known.frames
    ∙ ap (λ n. held own.live.core.source.core.ticks own.live.core.source.landed.frames n 0 (dues_of own.landing.items))
    known.commands
    ∙ ap (held own.live.core.source.core.ticks own.live.core.source.landed.frames
    own.live.core.source.landed.commands 0)
    (ap dues_of known.items ∙ bare-dues own.script.items)

pub returns-in-Some : goal.returns-in-Some
returns-in-Some c other known =
    ap (option_map Held) (sym c.in-Some.is ∙ held-is c.args.self.now other _ _ known
    (rw (c.core.ensures, c.source.ensures) at c.ticks.ensures) c.held.ensures)

pub returns-in-None : goal.returns-in-None
returns-in-None c other known =
    ap (option_map Held) (sym c.in-None.is ∙ held-is c.args.self.now other _ _ known
    (rw (c.core.ensures, c.source.ensures) at c.ticks.ensures) c.held.ensures)
