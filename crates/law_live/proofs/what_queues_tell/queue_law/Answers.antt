-- By passes, and by the frames that are said between them.
use Rattle.law_live.proofs.QueueAndRoomLaws.{queue-few, queue-waits, queues-differ, queues-last, reckoned-few, said-full}
use Rattle.law_live.proofs.QueueAndRoomLaws.{said-room}
use Rattle.law_live.proofs.what_queues_tell.queue_law.Goals as goal

pub returns-clause-waits : goal.returns-clause-waits
returns-clause-waits c = queue-waits

pub returns-clause-most : goal.returns-clause-most
returns-clause-most c = queue-few

pub returns-clause-differ : goal.returns-clause-differ
returns-clause-differ c = queues-differ

pub returns-clause-last : goal.returns-clause-last
returns-clause-last c = queues-last

pub returns-clause-room : goal.returns-clause-room
returns-clause-room c = λ config said octets leg sound well agrees least most.
    said-room config said octets leg sound well agrees least most

pub returns-clause-full : goal.returns-clause-full
returns-clause-full c = λ config said octets leg sound well agrees least most.
    said-full config said octets leg sound well agrees least most

pub returns-clause-within : goal.returns-clause-within
returns-clause-within c = λ config said leg sound well agrees. reckoned-few config leg sound said well agrees
