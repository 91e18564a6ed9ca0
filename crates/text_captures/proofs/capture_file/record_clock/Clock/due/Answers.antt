-- A record more.
use Rattle.std.proofs.Common.{◌≡◌, ℕ, ◌-◌, ◌/◌, ◌++◌, ◌∷◌, [], max, Some, sym, ◌∙◌, ap, subst, unwrap_or}
use Rattle.text_captures.specs.capture_file.Reading.{time_of}
use Rattle.text_captures.specs.capture_file.Clock.{ClockStands}
use Rattle.text_captures.proofs.CaptureRecordReadingLaws.{stands-more}
use Rattle.text_captures.proofs.capture_file.record_clock.Clock.due.Goals as goal

pub returns-clause-stands : goal.returns-clause-stands
returns-clause-stands c before r stands is =
    let old = c.args.self.now in
    let time = c.time_of-time.result in
    let first : c.unwrap_or-first.result ≡ unwrap_or old.first time = c.unwrap_or-first.ensures in
    let P : ℕ → Type 0 = λ n. ClockStands (record { unit = old.unit; first = Some n; due = c.max-self.result })
    (before ++ r ∷ []) in
    subst P (sym first)
    (stands-more old.unit old.first old.due time c.max-self.result before r
    (c.time_of-time.ensures ∙ ap (time_of old.unit) (sym is))
    (c.max-self.ensures ∙ ap (λ n. max old.due (n / 125000)) (c.saturating_sub.ensures ∙ ap (λ n. time - n) first))
    stands)
