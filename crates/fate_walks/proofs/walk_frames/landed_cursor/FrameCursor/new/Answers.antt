-- No item was passed.
use Rattle.std.proofs.Common.{sym, ◌∙◌, ap, arith}
use Rattle.law_model.specs.Common.{leg_of}
use Rattle.law_walk.specs.Common.{landed_from, refusals_among}
use Rattle.fate_walks.proofs.CursorAndRulerLaws.{next-and-rest}
use Rattle.fate_walks.proofs.walk_frames.landed_cursor.FrameCursor.new.Goals as goal

pub returns-clause-at : goal.returns-clause-at
returns-clause-at c =
    let script = c.args.walk.now.script in
    let commands = c.args.walk.now.counts.commands in
    record {
      sound = c.requires.sound;
      walked = c.requires.walked;
      commands = commands;
      within = omega arith;
      left = omega (arith, c.landed.ensures, c.landing-2.ensures.frames);
      refusals = next-and-rest c.refusals-refusals.result c.next.new.self c.next.result c.next.ensures.some
          c.next.ensures.none c.next.ensures.ended ∙ c.refusals-refusals.ensures ∙ c.landing.ensures.refusals
          ∙ ap (λ frames. refusals_among (leg_of script) (landed_from frames commands 0 script.items))
          (sym (c.landed.ensures ∙ c.landing-2.ensures.frames));
    }
