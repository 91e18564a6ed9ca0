-- A window at the end of a list says what comes of its own containers, and of no others.
use Rattle.law_model.specs.declared.window_types.Window.{Window}
use Rattle.std.proofs.Common.{refl, ◌∙◌, arith}
use Rattle.member_path.proofs.FailureWindowListLaws.{opened-as, opened-before, opened-slip, one-after, one-fails}
use Rattle.member_path.proofs.FailureWindowListLaws.{are-append, carried-past}
use Rattle.member_path.proofs.failure_window.window_laws.open_law.Goals as goal

pub returns-clause-before : goal.returns-clause-before
returns-clause-before c = opened-before

pub returns-clause-fails : goal.returns-clause-fails
returns-clause-fails c windows first total t are last low high =
    let window : Window = record { first = first; end = total; slip = 0 } in
    carried-past 0 windows _ t are (omega (arith, last, low)) ∙ one-fails window t low high refl

pub returns-clause-beyond : goal.returns-clause-beyond
returns-clause-beyond c windows first total t high =
    opened-as windows first total t (one-after (record { first = first; end = total; slip = 0 }) t high)

pub returns-clause-apart : goal.returns-clause-apart
returns-clause-apart c windows first total are last some =
    are-append 0 windows (record { first = first; end = total; slip = 0 }) are last (omega (arith, some))

pub returns-clause-slip : goal.returns-clause-slip
returns-clause-slip c = opened-slip

pub returns-clause-runs : goal.returns-clause-runs
returns-clause-runs c windows first total n begun lasts = record {
  before = windows;
  window = record { first = first; end = total; slip = 0 };
  are = refl;
  begun = begun;
  lasts = lasts;
  slip = refl;
}
