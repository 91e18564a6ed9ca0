-- Each octet of a frame is dealt to one line that carries payload.
use Rattle.std.proofs.Common.{length, ap}
use Rattle.law_model.specs.Common.{payload_of, active_at, payload_by}
use Rattle.terminal_source.proofs.DealtFrameContainerLaws.{governed, none-before, members-at, size-at, is-dealt}
use Rattle.terminal_source.proofs.source_core.source_laws.membership_law.Goals as goal

pub returns : goal.returns
returns c =
    record {
      governed = λ scenario cells k i low. governed scenario cells k i low;
      none = λ scenario cells t low. none-before scenario cells t low;
      distinct = λ scenario cells t. (members-at scenario cells t).distinct;
      size = λ scenario cells t. size-at scenario cells t;
      dealt = λ scenario cells t i low. is-dealt scenario cells t i low;
      others = λ scenario cells t line none.
          ap (λ found. payload_by found (length (active_at scenario cells t)) scenario.size (payload_of scenario cells t))
          none;
    }
