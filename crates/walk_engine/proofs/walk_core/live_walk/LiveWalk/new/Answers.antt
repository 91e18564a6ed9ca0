-- What was opened stands for each leg over the network.
use Rattle.std.proofs.Common.{sym, ◌∙◌, ap}
use Rattle.law_model.specs.Common.{Leg}
use Rattle.law_model.specs.declared.script_types.Config.{Config}
use Rattle.terminal_group.specs.ReturnInbox.{empty_inbox}
use Rattle.walk_engine.specs.Common.{IsAlike, IsLegOver}
use Rattle.walk_engine.proofs.OpenedWayLaws.{new-live, new-live-counts}
use Rattle.walk_engine.proofs.walk_core.live_walk.LiveWalk.new.Goals as goal

alike : (config : Config) (leg : Leg) → IsLegOver config leg → IsAlike leg config
alike config leg over = record {
  sound = over.sound;
  network = over.network ∙ ap (λ x. record config { lost = x; windows = leg.config.windows })
      (sym (ap (λ (c : Config). c.lost) over.network));
}

pub returns : goal.returns
returns c =
    let e = c.in_ok-way.ensures in
    record {
      stands = λ leg over.
          let config = c.args.config.now in
          new-live leg c.in_ok-way.way c.in_ok-ring.ring (e.stands leg (alike config leg over))
          (e.counts leg (alike config leg over)) over.quiet
          (e.inbox ∙ ap (λ (c : Config). empty_inbox c.lost c.lag) (sym over.network)) c.in_ok-ring.ensures;
      counts = λ leg over.
          new-live-counts leg c.in_ok-way.way (e.counts leg (alike c.args.config.now leg over))
          (e.inbox ∙ ap (λ (c : Config). empty_inbox c.lost c.lag) (sym over.network));
      windows = c.in_ok-way.ensures.windows;
    }
