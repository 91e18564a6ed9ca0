-- What a session has accepted, and the session of that alone.
use Rattle.std.specs.Prelude.{ℕ, zero, suc, List, [], ◌++◌, map, filter, length, Option}
use Rattle.law_model.specs.session.Scenario.{DueCommand, DueFrame, Scenario, steps_in, lands_at, comes_at}
use Rattle.law_model.specs.source.Table.{Told}
use Rattle.law_model.specs.source.Accepted.{accepted_of}
use Rattle.law_model.specs.source.Source.{Source, refusal, asked, after}
use Rattle.law_model.specs.source.Client.{Stream, frame_refusal, offered, stream_before}

-- of orders that land one after the other those that are accepted
abbrev pub accepted_orders : ℕ → Source → List DueCommand → List DueCommand
accepted_orders lines source orders =
    accepted_of (λ order source. refusal lines order.command source) (λ source order. asked lines source order.command)
    source orders

-- of offers that land one after the other those that are accepted
abbrev pub accepted_offers : Stream → List DueFrame → List DueFrame
accepted_offers stream offers =
    accepted_of (λ offer stream. frame_refusal offer.frame stream) (λ stream offer. offered stream offer.frame) stream
    offers

-- the orders that are accepted before decision step j
unfoldable pub orders_before : Scenario → List (Option Told) → ℕ → List DueCommand
orders_before scenario cells zero = []
orders_before scenario cells (suc j) =
    orders_before scenario cells j
    ++ accepted_orders (length scenario.windows) (after scenario cells j) (filter (lands_at j) scenario.orders)

-- the offers that are accepted before frame t is made
unfoldable pub offers_before : Scenario → List (Option Told) → ℕ → List DueFrame
offers_before scenario cells zero = []
offers_before scenario cells (suc t) =
    offers_before scenario cells t ++ accepted_offers (stream_before scenario cells t)
    (filter (comes_at t) scenario.offers)

-- their frames
abbrev pub frames_before : Scenario → List (Option Told) → ℕ → List (List ℕ)
frames_before scenario cells t = map (λ offer. offer.frame) (offers_before scenario cells t)

-- the session of other orders and offers, whose packets tell the same
abbrev pub with_items : Scenario → List DueCommand → List DueFrame → Scenario
with_items scenario orders offers = record {
  lag = scenario.lag;
  ticks = scenario.ticks;
  size = scenario.size;
  windows = scenario.windows;
  lost = scenario.lost;
  orders = orders;
  offers = offers;
  tells = scenario.tells;
  options = scenario.options;
}

-- the session of what is accepted in t ticks alone
abbrev pub replayed : Scenario → List (Option Told) → ℕ → Scenario
replayed scenario cells t = with_items scenario (orders_before scenario cells (steps_in t))
    (offers_before scenario cells t)
