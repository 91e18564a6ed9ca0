-- What is kept of the times of some records, as private clauses say it.
use Rattle.std.specs.Prelude.{◌≡◌, ℕ, List, [], ◌∷◌, Option, Some, None}
use Rattle.text_captures.specs.declared.capture_file.capture_form.TimeUnit.{TimeUnit}
use Rattle.text_captures.specs.declared.capture_file.record_clock.Clock.{Clock}
use Rattle.text_captures.specs.capture_file.Form.{Record}
use Rattle.text_captures.specs.capture_file.Reading.{time_of, due_of}

-- the time of the first one
abbrev pub first_time : TimeUnit → List Record → Option ℕ
first_time unit [] = None
first_time unit (first ∷ records) = Some (time_of unit first.head)

pub record ClockStands (clock : Clock) (records : List Record) : Type 0 where
  pub first : clock.first ≡ first_time clock.unit records
  pub due : clock.due ≡ due_of clock.unit records
