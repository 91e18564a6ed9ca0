-- A source and a sink, from one to the other.
use Rattle.std.specs.Prelude.{◌≤◌, ℕ, List}
use Rattle.law_model.specs.Common.{Start}
use Rattle.member_au4.specs.declared.au4_pointer.au_frame.Action.{Action}
use Rattle.member_au4.specs.au4_pointer.StreamPart.{whole}
use Rattle.member_au4.specs.au4_pointer.Source as source
use Rattle.member_au4.specs.au4_pointer.Sink as sink
use Rattle.member_au4.specs.au4_pointer.SentFrames.{sent, AreAccepted}

-- all frames of these actions were sent and taken: these VC-4s were asked of the feed behind its start, and those that
-- are whole were given behind another
pub record Carries {F O : Type 0} (feeds : F → Start → List (List ℕ) → Type 0)
    (stands : O → Start → List (List ℕ) → Type 0) (src : source.Source) (snk : sink.Sink) (feed : F) (out : O)
    (behind to : Start) (start : ℕ) (actions : List Action) (asked : List (List ℕ)) : Type 0 where
  pub small : start ≤ 782
  pub accepted : AreAccepted actions
  pub sends : source.PointerSourceStands src start actions asked
  pub takes : sink.PointerSinkStands snk (sent start actions asked)
  pub fed : feeds feed behind asked
  pub given : stands out to (whole start actions asked)

-- so it is from some start
pub record IsLinked {F O : Type 0} (feeds : F → Start → List (List ℕ) → Type 0)
    (stands : O → Start → List (List ℕ) → Type 0) (src : source.Source) (snk : sink.Sink) (feed : F)
    (out : O) : Type 0 where
  pub behind : Start
  pub to : Start
  pub start : ℕ
  pub actions : List Action
  pub asked : List (List ℕ)
  pub carries : Carries feeds stands src snk feed out behind to start actions asked
