-- What is found is that of the walk.
use Rattle.std.proofs.Common.{length, ◌∙◌, ap, arith}
use Rattle.law_model.specs.Common.{leg_of}
use Rattle.fate_walks.proofs.FatesAndSeenRowsLaws.{within}
use Rattle.fate_service.specs.Outages.{outages_of}
use Rattle.fate_service.proofs.OutageAndDarkRowLaws.{states-count}
use Rattle.fate_service.proofs.service_report.survey_walk.Goals as goal

pub find_outages-requires : goal.find_outages-requires
find_outages-requires c =
    let leg = leg_of c.args.walk.now.script in
    let s = c.args.walk.now.counts in
    let bounds = within leg s c.args.seen.now c.requires in
    let same = ap length (c.deref.ensures.value ∙ c.in_ok-states.ensures leg s c.requires) in
    omega (arith, same, states-count leg s.rows, bounds.0, bounds.1, c.requires.sound.network.ticks)

pub returns : goal.returns
returns c =
    let leg = leg_of c.args.walk.now.script in
    let s = c.args.walk.now.counts in
    record {
      landed = c.in_ok-landed.ensures.landed;
      states = c.in_ok-states.ensures leg s c.requires;
      outages = c.in_ok-outages.ensures
          ∙ ap outages_of (c.deref.ensures.value ∙ c.in_ok-states.ensures leg s c.requires);
    }
