-- Frames that are offered one after the other.
use Rattle.gfp_channels.proofs.OfferedChannelFrameLaws.{waiting-accepted, waiting-all, after_sound, silent_sound}
use Rattle.gfp_channels.proofs.channel_law.offers_law.Goals as goal

pub returns-clause-accepted : goal.returns-clause-accepted
returns-clause-accepted c = waiting-accepted

pub returns-clause-all : goal.returns-clause-all
returns-clause-all c = waiting-all

pub returns-clause-sound : goal.returns-clause-sound
returns-clause-sound c = after_sound

pub returns-clause-silent : goal.returns-clause-silent
returns-clause-silent c = silent_sound
