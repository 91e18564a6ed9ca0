-- The script, and the ends of the rings of its group.
use Rattle.std.proofs.Common.{[], ◌∷◌}
use Rattle.thread_session.proofs.session_run.watched_session.run_watched.Given as goal

abbrev pub ghosts-run_opened : goal.ghosts-run_opened
ghosts-run_opened g a = record { script = a.script.now; tx = a.opened.group.tx.items; back = a.opened.group.back ∷ [] }
