-- What each command gives, beside notes or a source that it leaves as they are.
use Rattle.std.proofs.Common.{refl, subst}
use Rattle.command_parts.proofs.TaskEndAndStatusLaws.{alone, beside}
use Rattle.command_rooms.specs.CommandOfWords.{Fits}
use Rattle.command_walk.proofs.command_of_words.run.Goals as goal

-- ---- their numbers are within bounds
pub service-requires : goal.service-requires
service-requires g c = record { interval = subst Fits c.in-Service.is c.requires }

pub h4-requires : goal.h4-requires
h4-requires g c = subst Fits c.in-H4.is c.requires

pub make-requires-clause-lines : goal.make-requires-clause-lines
make-requires-clause-lines g c = (rw c.in-Make.is at c.requires).0

pub make-requires-clause-ticks : goal.make-requires-clause-ticks
make-requires-clause-ticks g c = (rw c.in-Make.is at c.requires).1

pub stream-requires : goal.stream-requires
stream-requires g c = subst Fits c.in-Stream.is c.requires

-- ---- what they give
pub returns-in-Walk : goal.returns-in-Walk
returns-in-Walk g c = rw c.in-Walk.is (alone _ _ _ _ _ _ refl c.walk.ensures)

pub returns-in-Fates : goal.returns-in-Fates
returns-in-Fates g c = rw c.in-Fates.is (alone _ _ _ _ _ _ refl c.fates.ensures)

pub returns-in-Check : goal.returns-in-Check
returns-in-Check g c = rw c.in-Check.is (alone _ _ _ _ _ _ refl c.check.ensures)

pub returns-in-H4 : goal.returns-in-H4
returns-in-H4 g c = rw c.in-H4.is (alone _ _ _ _ _ _ refl c.h4.ensures)

pub returns-in-Service : goal.returns-in-Service
returns-in-Service g c = rw c.in-Service.is (alone _ _ _ _ _ _ refl c.service.ensures)

pub returns-in-Capture : goal.returns-in-Capture
returns-in-Capture g c = rw c.in-Capture.is (alone _ _ _ _ _ _ refl c.capture.ensures)

pub returns-in-Gfp : goal.returns-in-Gfp
returns-in-Gfp g c = rw c.in-Gfp.is (alone _ _ _ _ _ _ refl c.gfp.ensures)

pub returns-in-Frames : goal.returns-in-Frames
returns-in-Frames g c = rw c.in-Frames.is (alone _ _ _ _ _ _ refl c.frames.ensures)

pub returns-in-Decode : goal.returns-in-Decode
returns-in-Decode g c = rw c.in-Decode.is (alone _ _ _ _ _ _ refl c.decode.ensures)

pub returns-in-Noise : goal.returns-in-Noise
returns-in-Noise g c = rw c.in-Noise.is (alone _ _ _ _ _ _ refl c.noise.ensures)

pub returns-in-Au4 : goal.returns-in-Au4
returns-in-Au4 g c = rw c.in-Au4.is (alone _ _ _ _ _ _ refl c.au4.ensures)

pub returns-in-Channels : goal.returns-in-Channels
returns-in-Channels g c = rw c.in-Channels.is (alone _ _ _ _ _ _ refl c.channels.ensures)

pub returns-in-Trace : goal.returns-in-Trace
returns-in-Trace g c = rw c.in-Trace.is c.trace.ensures

pub returns-in-Pair : goal.returns-in-Pair
returns-in-Pair g c = rw c.in-Pair.is c.pair.ensures

pub returns-in-OneWay : goal.returns-in-OneWay
returns-in-OneWay g c = rw c.in-OneWay.is (alone _ _ _ _ _ _ refl c.one_way.ensures)

pub returns-in-Live : goal.returns-in-Live
returns-in-Live g c = rw c.in-Live.is (c.live.ensures, refl)

pub returns-in-LivePair : goal.returns-in-LivePair
returns-in-LivePair g c = rw c.in-LivePair.is (c.live_pair.ensures, refl)

pub returns-in-Make : goal.returns-in-Make
returns-in-Make g c = rw c.in-Make.is (alone _ _ _ _ _ _ refl (beside _ _ _ _ _ refl c.make.ensures))

pub returns-in-Stream : goal.returns-in-Stream
returns-in-Stream g c = rw c.in-Stream.is (alone _ _ _ _ _ _ refl (beside _ _ _ _ _ refl c.stream.ensures))
