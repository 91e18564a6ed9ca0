-- `live pair`: a live text of both ways is answered as it comes.
use Rattle.command_parts.specs.Common.{Talk}
use Rattle.command_parts.specs.Dialogue.{talk_of}
use Rattle.walk_live.specs.declared.asked.Asked.{Asked}
use Rattle.pair_live.specs.PairDialogue.{pair_dialogue}

abbrev pub live_pair_talk : Asked → Talk
live_pair_talk asked = talk_of (pair_dialogue asked)
