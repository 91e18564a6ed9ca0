-- The causes, one after another.
use Rattle.std.proofs.Common.{length, refl, arith, le-leb, le-ltb}
use Rattle.std.proofs.lemmas.Bool.{lt-leb, lt-ltb}
use Rattle.law_model.specs.Limits.{shortest_frame, longest_frame}
use Rattle.gfp_model.specs.linear_model.Channels.{waiting_of}
use Rattle.gfp_channels.proofs.BusyChannelTurnLaws.{accepted}
use Rattle.gfp_channels.proofs.gfp_linear.refusal_law.Goals as goal

pub returns-clause-unknown : goal.returns-clause-unknown
returns-clause-unknown c cid frame channels beyond = rw (le-leb (length channels.waiting) cid beyond) refl

pub returns-clause-short : goal.returns-clause-short
returns-clause-short c cid frame channels there low =
    rw (lt-leb (length channels.waiting) cid there, lt-ltb (length frame) shortest_frame low) refl

pub returns-clause-long : goal.returns-clause-long
returns-clause-long c cid frame channels there high =
    rw (
      lt-leb (length channels.waiting) cid there,
      le-ltb (length frame) shortest_frame (omega (arith, high)),
      lt-ltb longest_frame (length frame) high,
    ) refl

pub returns-clause-full : goal.returns-clause-full
returns-clause-full c cid frame channels there least most full =
    rw (
      lt-leb (length channels.waiting) cid there,
      le-ltb (length frame) shortest_frame least,
      le-ltb longest_frame (length frame) most,
      le-leb 16 (length (waiting_of cid channels)) full,
    ) refl

pub returns-clause-none : goal.returns-clause-none
returns-clause-none c = accepted
