-- Worked conversations, computed.
use Rattle.std.proofs.Common.{refl, ◌≤◌, arith}
use Rattle.std.proofs.lemmas.List.Elements.{All-nil}
use Rattle.law_model.specs.declared.window_types.Window.{Window}
use Rattle.law_model.specs.Common.{carries_from, command_dues, frame_dues, full, held, pop, pop_lines, run, sum_delays}
use Rattle.law_live.specs.Common.{CanSayAll, after_rounds, counts_from, live_from, rounds_from, rounds_until}
use Rattle.law_live.proofs.worked_conversations.worked_law.Goals as goal

pub returns-clause-one_cut : goal.returns-clause-one_cut
unfolding live_from
returns-clause-one_cut c = refl

pub returns-clause-dues : goal.returns-clause-dues
unfolding live_from
returns-clause-dues c = refl

pub returns-clause-cut_and_mended : goal.returns-clause-cut_and_mended
unfolding live_from
returns-clause-cut_and_mended c = refl

pub returns-clause-two_lines : goal.returns-clause-two_lines
unfolding live_from
returns-clause-two_lines c = refl

pub returns-clause-passed : goal.returns-clause-passed
unfolding live_from
returns-clause-passed c = refl

pub returns-clause-long : goal.returns-clause-long
returns-clause-long c = refl

pub returns-clause-events : goal.returns-clause-events
unfolding live_from frame_dues command_dues
returns-clause-events c = refl

pub returns-clause-rounds : goal.returns-clause-rounds
unfolding after_rounds rounds_until counts_from rounds_from run held full frame_dues command_dues pop pop_lines carries_from sum_delays
returns-clause-rounds c = refl

pub returns-clause-ticks : goal.returns-clause-ticks
unfolding after_rounds rounds_until counts_from rounds_from run held full frame_dues command_dues pop pop_lines carries_from sum_delays
returns-clause-ticks c = refl

pub returns-clause-rows : goal.returns-clause-rows
unfolding after_rounds rounds_until counts_from rounds_from run held full frame_dues command_dues pop pop_lines carries_from sum_delays
returns-clause-rows c = refl

pub returns-clause-none : goal.returns-clause-none
unfolding frame_dues command_dues
returns-clause-none c = refl

pub returns-clause-idle_rounds : goal.returns-clause-idle_rounds
unfolding after_rounds rounds_until counts_from rounds_from run held full frame_dues command_dues pop pop_lines carries_from sum_delays
returns-clause-idle_rounds c = refl

pub returns-clause-idle_ticks : goal.returns-clause-idle_ticks
unfolding after_rounds rounds_until counts_from rounds_from run held full frame_dues command_dues pop pop_lines carries_from sum_delays
returns-clause-idle_ticks c = refl

pub returns-clause-delayed_ticks : goal.returns-clause-delayed_ticks
unfolding after_rounds rounds_until counts_from rounds_from run held full frame_dues command_dues pop pop_lines carries_from sum_delays
returns-clause-delayed_ticks c = refl

pub returns-clause-delayed_rows : goal.returns-clause-delayed_rows
unfolding after_rounds rounds_until counts_from rounds_from run held full frame_dues command_dues pop pop_lines carries_from sum_delays
returns-clause-delayed_rows c = refl

pub returns-clause-said : goal.returns-clause-said
unfolding CanSayAll
returns-clause-said c = (
  (omega arith, omega arith),
  (
    record { some = omega arith; left = omega arith },
    (
      (
        record { left = omega arith; line = omega arith },
        record { uncut = refl; over = All-nil (λ (window : Window). window.end ≤ 50); few = omega arith },
      ),
      (
        record { some = omega arith; left = omega arith },
        (
          (record { left = omega arith; line = omega arith }, refl),
          (record { some = omega arith; left = omega arith }, tt),
        ),
      ),
    ),
  ),
)
