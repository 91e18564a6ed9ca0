-- An item that lands leaves the group bound, and the journal has room for it.
use Rattle.thread_group.proofs.GroupBoundToLegLaws.{bound-submits, not-full}
use Rattle.terminal_group.proofs.LandingLegItemLaws.{kept-item}
use Rattle.thread_group.proofs.bound_group.BoundGroup.submit.Goals as goal

pub submit-requires : goal.submit-requires
submit-requires g c =
    let state = c.args.self.now.state in
    kept-item _ state.landing c.args.self.now.bound.of_script.items c.args.number _ c.requires

pub invariant_of-self : goal.invariant_of-self
invariant_of-self g c = record {
  bound =
      bound-submits _ _ _ _ _ _ _ _ c.args.self.now.bound c.submit.ensures c.requires;
}

pub returns-clause-submits : goal.returns-clause-submits
returns-clause-submits g c = c.submit.ensures

pub returns-clause-room : goal.returns-clause-room
returns-clause-room g c =
    let is = c.args.self.now.bound in
    not-full _ _ _ _ _ is.of_script is.room c.requires c.submit.ensures.fault
