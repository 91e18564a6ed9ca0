-- By what is reckoned of a way.
use Rattle.law_live.proofs.BothWaysRoomLaws.{both-few, said-full, said-room}
use Rattle.law_live.proofs.both_ways.what_both_are_told.both_room_law.Goals as goal

pub returns-clause-room : goal.returns-clause-room
returns-clause-room c = λ there back said octets one other way pair well agrees.
    said-room one other pair there back said well agrees way octets

pub returns-clause-full : goal.returns-clause-full
returns-clause-full c = λ there back said octets one other way pair well agrees.
    said-full one other pair there back said well agrees way octets

pub returns-clause-within : goal.returns-clause-within
returns-clause-within c = λ there back said one other way pair well agrees.
    both-few one other pair there back said well agrees way
