-- What was accepted, by itself.
use Rattle.law_session.proofs.ClientStreamAndReplayLaws.{orders_land, offers_land}
use Rattle.law_session.proofs.ClientStreamAndReplayLaws.{after-replayed, stream-replayed, orders-again, offers-again}
use Rattle.law_session.proofs.accepted_items_again.journal_law.Goals as goal

pub returns-clause-tables : goal.returns-clause-tables
returns-clause-tables c = after-replayed

pub returns-clause-streams : goal.returns-clause-streams
returns-clause-streams c = stream-replayed

pub returns-clause-orders_again : goal.returns-clause-orders_again
returns-clause-orders_again c = orders-again

pub returns-clause-offers_again : goal.returns-clause-offers_again
returns-clause-offers_again c = offers-again

pub returns-clause-orders_land : goal.returns-clause-orders_land
returns-clause-orders_land c = orders_land

pub returns-clause-offers_land : goal.returns-clause-offers_land
returns-clause-offers_land c = offers_land
