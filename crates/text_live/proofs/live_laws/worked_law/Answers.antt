-- By computation.
use Rattle.std.proofs.Common.{refl}
use Rattle.text_live.proofs.LiveScriptSayingsLaws.{cut_worked, frame_worked, refused_worked, lone_worked}
use Rattle.text_live.proofs.live_laws.worked_law.Goals as goal

pub returns-clause-frame : goal.returns-clause-frame
returns-clause-frame c = frame_worked

pub returns-clause-cuts : goal.returns-clause-cuts
returns-clause-cuts c = cut_worked

pub returns-clause-refused : goal.returns-clause-refused
returns-clause-refused c = refused_worked

pub returns-clause-behind : goal.returns-clause-behind
returns-clause-behind c = lone_worked

pub returns-clause-kinds : goal.returns-clause-kinds
returns-clause-kinds c = refl
