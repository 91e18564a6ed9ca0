-- The octets that are left stand at the front.
use Rattle.std.proofs.Common.{◌≡◌, ℕ, ◌≤◌, List, length, take, drop, ap, sym, ◌∙◌, arith, rules, length-take}
use Rattle.command_parts.proofs.ListenerLineAndSaidTextLaws.{moved_down}
use Rattle.command_parts.proofs.intake.Intake.let_go.Goals as goal

pub returns : goal.returns
returns c =
    let is : c.args.self.now ≡ take c.self.inside.len c.self.inside.octets = search rules in
    let size = ap (λ (t : List ℕ). length t) is in
    let low : c.args.n ≤ c.self.inside.len =
    omega (arith, c.requires, size, length-take c.self.inside.len c.self.inside.octets) in
    let within : c.self.inside.len ≤ length c.self.inside.octets = search rules in
    moved_down c.self.inside.octets _ c.args.n c.self.inside.len low within c.copy_within.ensures.after
    ∙ ap (λ (t : List ℕ). drop c.args.n t) (sym is)
