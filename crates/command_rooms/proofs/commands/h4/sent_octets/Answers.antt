-- None is sent before any event, and all are at the end.
use Rattle.std.proofs.Common.{◌≡◌, ℕ, List, [], refl, sym, ◌∙◌, ap, ap₂}
use Rattle.law_model.specs.Common.{leg_of, begin, Counts}
use Rattle.law_model.specs.declared.script_types.Script.{Script}
use Rattle.law_walk.specs.Common.{walk_plan}
use Rattle.walk_engine.specs.Common.{Walked}
use Rattle.command_rooms.specs.commands.H4.{h4_octets}
use Rattle.command_rooms.proofs.commands.h4.sent_octets.Goals as goal

none : (walk : Walked) (line : ℕ) (octets : List ℕ) → walk.counts ≡ begin (walk_plan (leg_of walk.script)) →
    octets ≡ [] → octets ≡ h4_octets walk.script line walk.counts.ticks
none walk line octets begun empty = empty ∙ sym (ap (λ (s : Counts). h4_octets walk.script line s.ticks) begun)

pub drive-requires-clause-seen : goal.drive-requires-clause-seen
drive-requires-clause-seen c =
    (c.args.line, (refl, none c.args.walk.now c.args.line _ c.requires.begun c.new-octets.ensures.items))

pub returns-clause-octets : goal.returns-clause-octets
returns-clause-octets c =
    (c.in_ok-drive.ensures.seen c.args.line
    (refl, none c.args.walk.now c.args.line _ c.requires.begun c.new-octets.ensures.items)).1
    ∙ ap₂ (λ (x : Script) (s : Counts). h4_octets x c.args.line s.ticks) c.drive.ensures.script
    c.in_ok-drive.ensures.counts
