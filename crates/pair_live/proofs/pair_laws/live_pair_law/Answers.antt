-- By the course of a conversation, line by line.
use Rattle.pair_live.proofs.PairConversationLaws.{answered_grows, course_spoken, pair_headline, walk_of}
use Rattle.pair_live.proofs.pair_laws.live_pair_law.Goals as goal

pub returns : goal.returns
returns c =
    record {
      answers = λ asked octets. (course_spoken asked octets).said;
      fine = λ asked octets. (course_spoken asked octets).fine;
      grows = answered_grows;
      walk = walk_of;
      headline = pair_headline;
    }
