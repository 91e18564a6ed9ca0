-- The line says its packet, or what it said before where it isn't read and no change is.
use Rattle.std.proofs.Common.{[], ◌∷◌, ◌++◌, length, None, is_some, if◌then◌else◌, sym, ◌∙◌, ap}
use Rattle.law_model.specs.Common.{has_packet}
use Rattle.terminal_sink.specs.member_watch.Watches.{sq_of, word_before}
use Rattle.terminal_sink.proofs.WatchTimerAndLastWordLaws.{timers-same}
use Rattle.terminal_sink.proofs.WatchTimerAndLastWordLaws.{has-before, has-last, word-read, word-missed, watch-step}
use Rattle.terminal_sink.proofs.member_watch.MemberWatch.next.Goals as goal

pub returns-in-Some : goal.returns-in-Some
returns-in-Some c rows row line stands at changed =
    let all = rows ++ row ∷ [] in
    watch-step _ rows row line c.read.result _ (c.read.ensures (has_packet all line) (length rows)
    (timers-same _ _ _ (has_packet all line) _ (λ j low. sym (has-before rows (row ∷ []) line j low))
    stands.timers) (has-last rows row line ∙ ap is_some (sym at ∙ c.in-Some.is)))
    (c.said_by.ensures ∙ sym (ap sq_of (word-read rows row line c.in-Some.packet (sym at ∙ c.in-Some.is))))

pub returns-then-changed : goal.returns-then-changed
returns-then-changed c rows row line stands at changed =
    let all = rows ++ row ∷ [] in
    watch-step c.args.options rows row line _ None (c.missed.ensures (has_packet all line) (length rows)
    (timers-same _ _ _ (has_packet all line) _ (λ j low. sym (has-before rows (row ∷ []) line j low))
    stands.timers) (has-last rows row line ∙ ap is_some (sym at ∙ c.in-None.is)))
    (sym (ap sq_of (word-missed rows row line (sym at ∙ c.in-None.is)
    ∙ ap (λ b. if b then None else word_before rows line (length rows)) (sym changed ∙ c.if-changed.true))))

pub returns-else-changed : goal.returns-else-changed
returns-else-changed c rows row line stands at changed =
    let all = rows ++ row ∷ [] in
    watch-step _ rows row line _ c.args.self.said (c.missed.ensures (has_packet all line) (length rows)
    (timers-same _ _ _ (has_packet all line) _ (λ j low. sym (has-before rows (row ∷ []) line j low))
    stands.timers) (has-last rows row line ∙ ap is_some (sym at ∙ c.in-None.is)))
    (stands.said ∙ sym (ap sq_of (word-missed rows row line (sym at ∙ c.in-None.is)
    ∙ ap (λ b. if b then None else word_before rows line (length rows)) (sym changed ∙ c.if-changed.false))))
