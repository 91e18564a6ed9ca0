-- By the course of a conversation, line by line.
use Rattle.walk_live.proofs.ConversationAnswerLaws.{course_spoken, live_headline, answered_grows, walk_of}
use Rattle.walk_live.proofs.live_laws.live_law.Goals as goal

pub returns : goal.returns
returns c =
    record {
      answers = λ asked octets. (course_spoken asked octets).said;
      fine = λ asked octets. (course_spoken asked octets).fine;
      grows = answered_grows;
      walk = walk_of;
      headline = live_headline;
    }
