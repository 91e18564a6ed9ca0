-- All rows are summed up.
use Rattle.std.proofs.Common.{[], sym, ◌∙◌, ap, subst, arith, rules}
use Rattle.law_model.specs.Common.{leg_of, Counts}
use Rattle.law_walk.specs.Common.{delivered_of}
use Rattle.law_walk.specs.DeliveredFrames.{delivered_since}
use Rattle.command_rooms.specs.commands.Make.{octet_count, octet_sum, HasSummed}
use Rattle.command_rooms.proofs.WalkCaptureAndFrameSumLaws.{since-begin, summed-none, count-exact, sum-exact}
use Rattle.command_rooms.proofs.commands.make.drain_sums.Goals as goal

pub returns : goal.returns
returns c =
    let script = c.args.walk.now.script in
    let ticks = script.config.ticks in
    let so = subst (HasSummed c.drain.new.out.octets c.drain.new.out.total)
    (ap (λ rows. delivered_since (leg_of script) rows ticks) (ap (λ (s : Counts). s.rows) c.requires.begun)
    ∙ since-begin (leg_of script) ticks)
    (c.drain.ensures.gives (record { octets = []; faults = 0; name = 0 }) [] summed-none) in
    record {
      script = search rules;
      counts = search rules;
      octets = count-exact script ticks c.drain.new.out.octets c.drain.new.out.total c.requires.valid (omega arith) so
          ∙ ap (λ n. octet_count (delivered_of (leg_of script) n)) (sym c.drain.ensures.all);
      total = sum-exact script ticks c.drain.new.out.octets c.drain.new.out.total c.requires.valid (omega arith) so
          ∙ ap (λ n. octet_sum (delivered_of (leg_of script) n)) (sym c.drain.ensures.all);
    }
