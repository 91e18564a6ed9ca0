-- The walk of the load drains, and its lines are written or a write fails.
use Rattle.std.proofs.Common.{refl, sym, ◌∙◌, ap}
use Rattle.law_model.specs.Common.{leg_of, begin}
use Rattle.law_model.specs.declared.script_types.Script.{Script}
use Rattle.law_walk.specs.Common.{walk_plan}
use Rattle.command_rooms.specs.commands.Make.{make_text}
use Rattle.command_rooms.proofs.WalkCaptureAndFrameSumLaws.{lines-are}
use Rattle.std.proofs.Common.{Some}
use Rattle.text_scripts.specs.make_load.Load.{load}
use Rattle.law_headline.specs.WalkTexts.{counts_in}
use Rattle.command_rooms.proofs.WalkCaptureAndFrameSumLaws.{counts-are}
use Rattle.command_rooms.proofs.HandedWalkAndTrueStartLaws.{walk-is}
use Rattle.command_rooms.proofs.commands.make.make.Goals as goal

pub returns : goal.returns
returns g c =
    let script = c.in-Ok-new.ensures.script ∙ c.in-Ok.ensures.load in
    let begun = c.in-Ok-new.ensures.counts
    ∙ ap (λ (s : Script). begin (walk_plan (leg_of s))) (sym c.in-Ok-new.ensures.script) in
    let counts = counts-are c.args.number c.args.lines c.args.ticks c.in-Ok-new.walk c.drain_sums-sums.new.walk script
    begun c.drain_sums-sums.ensures.script c.drain_sums-sums.ensures.counts in
    let lines = lines-are c.args.number c.args.lines c.args.ticks c.in-Ok-new.walk c.drain_sums-sums.new.walk
    script begun c.drain_sums-sums.ensures.script c.drain_sums-sums.ensures.counts _ _ c.totals.result
    c.totals.ensures c.drain_sums-sums.ensures.octets c.drain_sums-sums.ensures.total in
    record {
      ran = record {
        text = make_text c.args.number c.args.lines c.args.ticks;
        meets = (refl, refl);
        all = rw lines at c.write_made-written.ensures.ok;
        part = rw lines at c.write_made-written.ensures.err;
        made = ap Some (walk-is c.drain_sums-sums.new.walk (load c.args.number c.args.lines c.args.ticks)
            (counts_in (load c.args.number c.args.lines c.args.ticks)) (c.drain_sums-sums.ensures.script ∙ script) counts);
      };
      stopped = tt;
      nothing = tt;
    }
