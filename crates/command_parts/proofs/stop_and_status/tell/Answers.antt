-- By the cause.
use Rattle.command_parts.proofs.stop_and_status.tell.Goals as goal

pub returns-in-Read-clause-told : goal.returns-in-Read-clause-told
returns-in-Read-clause-told g c = rw c.in-Read.is c.put_note.ensures

pub returns-in-TooLong-clause-told : goal.returns-in-TooLong-clause-told
returns-in-TooLong-clause-told g c = rw c.in-TooLong.is c.put_note-in-TooLong.ensures

pub returns-in-Write-clause-told : goal.returns-in-Write-clause-told
returns-in-Write-clause-told g c = rw c.in-Write.is c.put_note-in-Write.ensures

pub returns-in-Memory-clause-told : goal.returns-in-Memory-clause-told
returns-in-Memory-clause-told g c = rw c.in-Memory.is c.put_note-in-Memory.ensures
