-- The alarms of a session as text, and what is written of it where a write fails.
use Rattle.std.proofs.Common.{◌≡◌, ℕ, zero, suc, ◌+◌, ◌<◌, List, [], ◌++◌, Option, refl, sym, ◌∙◌, ap, ap₂, subst}
use Rattle.std.proofs.Common.{arith, flat_map, append-nil}
use Rattle.std.specs.List.{range_with_len}
use Rattle.law_model.proofs.ListLaws.{texts-more}
use Rattle.law_model.specs.Common.{Appends, leg_of}
use Rattle.law_model.specs.declared.script_types.Script.{Script}
use Rattle.octet_io.proofs.AppendedTextAndPrefixLaws.{Appends-none}
use Rattle.text_got.specs.TextSoFar.{AppendsSome}
use Rattle.thread_rings.specs.declared.alarm_kinds.Alarm.{Alarm}
use Rattle.thread_rings.specs.LineAlarms.{alarms_of_line}
use Rattle.thread_alarms.specs.alarm_log.Alarms.{of_line}
use Rattle.thread_alarms.specs.alarm_text.AlarmTextLines.{alarm_texts, lines_text}
use Rattle.law_walk.specs.Common.{line_cells}
use Rattle.command_run.specs.Watch.{alarms_text}

texts-same : (f g : ℕ → List ℕ) (n : ℕ) → ((m : ℕ) → m < n → f m ≡ g m) →
    flat_map f (range_with_len 0 n) ≡ flat_map g (range_with_len 0 n)
texts-same f g zero same = refl
texts-same f g (suc n) same =
    let more : n + 1 ≡ suc n = omega arith in
    let rest = texts-same f g n (λ m low. same m (omega (arith, low))) in
    subst (λ k. flat_map f (range_with_len 0 k) ≡ flat_map g (range_with_len 0 k)) more
    (texts-more f n ∙ ap₂ (λ a b. a ++ b) rest (same n (omega arith)) ∙ sym (texts-more g n))

pub told-text : (script : Script) (list : List Alarm) →
    ((m : ℕ) → m < script.config.lines → of_line m list ≡ alarms_of_line m (line_cells (leg_of script) m)) →
    lines_text script.config.lines list ≡ alarms_text script
told-text script list same =
    texts-same (λ m. alarm_texts (of_line m list)) (λ m. alarm_texts (alarms_of_line m (line_cells (leg_of script) m)))
    script.config.lines (λ m low. ap alarm_texts (same m low))

module _ {K : Type 0} (written : K → Option (List ℕ)) (faults : K → ℕ) where
  -- nothing of a text is a prefix of it, and so is all of it
  pub some-none : (k : K) (text : List ℕ) → AppendsSome written faults k k text
  some-none k text = let none = Appends-none written faults k in
      record { part = []; rest = text; prefix = refl; appended = none.appended; quiet = none.quiet }

  pub some-all : (old new : K) (text : List ℕ) → Appends written faults old new text →
      AppendsSome written faults old new text
  some-all old new text all = record {
    part = text;
    rest = [];
    prefix = append-nil text;
    appended = all.appended;
    quiet = all.quiet;
  }
