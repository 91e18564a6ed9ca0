-- Where the state SYNC begins.
use Rattle.terminal_sink.proofs.ConfirmedPlaceAndMarkLaws.{sync-none, stays-none, is-confirmed}
use Rattle.terminal_sink.proofs.marked_delineator.confirm_law.Goals as goal

pub returns-clause-not_yet : goal.returns-clause-not_yet
returns-clause-not_yet c = sync-none

pub returns-clause-none : goal.returns-clause-none
returns-clause-none c = stays-none

pub returns-clause-some : goal.returns-clause-some
returns-clause-some c = is-confirmed
