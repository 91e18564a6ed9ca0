-- Line by line, both ways.
use Rattle.text_scripts.proofs.StreamFormLaws.{exactly}
use Rattle.text_scripts.proofs.script_read.script_laws.stream_law.Goals as goal

pub returns : goal.returns
returns c = record { same = exactly }
