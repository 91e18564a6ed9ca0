-- What lands alike goes alike.
use Rattle.std.proofs.Common.{◌≡◌, ◌+◌, suc, subst, arith}
use Rattle.law_session.proofs.ClientStreamAndReplayLaws.{Alike, alike-after, alike-stream, alike-frame}
use Rattle.terminal_source.proofs.SourceTerminalScenarioLaws.{alike-landed, first-alike}
use Rattle.terminal_source.proofs.source_core.source_laws.landed_law.Goals as goal

pub returns : goal.returns
returns c =
    record {
      frames = λ one other a b t comes agree.
          let next : t + 1 ≡ suc t = omega arith in
          alike-frame one a other b t (subst (λ n. Alike one a other b n) next
          (alike-landed one other a b (t + 1) comes agree));
      streams = λ one other a b t comes agree. alike-stream one a other b t (alike-landed one other a b t comes agree);
      tables = λ one other a b t j comes agree low. alike-after one a other b t j
          (alike-landed one other a b t comes agree) low;
      prefix = λ scenario n m t orders offers. first-alike scenario n m t orders offers;
    }
