-- The delays of the frames that were got: the least, one that half of them don't exceed, one that 99 of 100 don't, and
-- the greatest.
use Rattle.std.specs.Prelude.{ℕ, zero, suc, ◌+◌, ◌*◌, ◌/◌, nat_le, ◌&&◌, if◌then◌else◌, min, Bool, List, [], ◌∷◌}
use Rattle.fate_service.specs.declared.landed_frames.CarriedFrame.{CarriedFrame}
use Rattle.fate_service.specs.declared.frame_delays.Delays.{Delays}
use Rattle.fate_service.specs.Stretches.{delay_of, ended_of}

-- how many were got with a delay of at most so many ticks
unfoldable pub within_on : ℕ → ℕ → List CarriedFrame → ℕ
within_on n most [] = n
within_on n most (frame ∷ frames) =
    within_on (if frame.got && nat_le (delay_of frame) most then n + 1 else n) most frames

abbrev pub count_within : List CarriedFrame → ℕ → ℕ
count_within carried most = within_on 0 most carried

-- the least number from one on that meets a test, where one of so many does, and else the one behind them
unfoldable pub least_from : (ℕ → Bool) → ℕ → ℕ → ℕ
least_from test n zero = n
least_from test n (suc count) = if test n then n else least_from test (n + 1) count

-- the least delay that so many frames don't exceed, of those up to another
abbrev pub least_delay : List CarriedFrame → ℕ → ℕ → ℕ
least_delay carried frames greatest = least_from (λ d. nat_le frames (count_within carried d)) 0 greatest

-- half is the least delay for which twice the number of those up to it is at least the number of all, and most the least
-- one for which 100 times it is at least 99 times that number
abbrev pub delays_of : List CarriedFrame → Delays
delays_of carried =
    let all = ended_of carried in
    record {
      least = least_delay carried (min all.got.frames 1) all.delay;
      half = least_delay carried ((all.got.frames + 1) / 2) all.delay;
      most = least_delay carried ((99 * all.got.frames + 99) / 100) all.delay;
      greatest = all.delay;
    }
